-- The state in which a resolved tree starts is that in which its source starts.
use Rattle.std.proofs.Common.{◌≡◌, ℕ, zero, suc, ◌+◌, ◌<◌, ◌≤◌, ℤ, pos, List, [], ◌∷◌, ◌++◌, length, map, replicate, refl, sym, ap, ◌∙◌, subst, arith, true, false, Option, Some}
use Rattle.std.specs.Prelude.{if◌then◌else◌, slice_get, slice_index_or, unsigned_abs, nat_eq}
use Rattle.std.proofs.lemmas.Bool.Decides.{nat_tests}
use Rattle.std.proofs.lemmas.List.{length-map}
use Rattle.source_tree.specs.State.{State, with_integer, with_array, with_integers}
use Rattle.source_tree.specs.Scope.{Declared, variable, array, procedure, names_in}
use Rattle.source_tree.specs.Meaning.{start_of, with_start, with_all_started, at_start}
use Rattle.source_tree.specs.Fits.{variables_from, params_declared, locals_declared, declared_in, all_declared}
use Rattle.source_tree.specs.declared.name.Range.{Range}
use Rattle.source_tree.specs.declared.declaration.Declaration.{Declaration}
use Rattle.source_tree.specs.declared.declaration.Declaration.TheVariants.{Var, Array, Proc}
use Rattle.source_tree.specs.declared.declaration.Local.{Local}
use Rattle.source_tree.specs.declared.declaration.Param.{Param}
use Rattle.source_tree.proofs.FitsPrograms.{length-variables_from, length-declared_in}
use Rattle.resolved_tree.specs.Meaning.{state_at_start}
use Rattle.resolved_tree.specs.Slots.{slot_of, slots_of, start_integer, start_elements}
use Rattle.resolved_tree.specs.declared.slot.Slot.TheVariants as slot

-- ---- things set to their starts, one after another, from number k on
abbrev with_thing : ℕ → Declared → State → State
with_thing k (variable n range) state = with_integer k (start_of range) state
with_thing k (array n len range) state = with_array k (replicate (unsigned_abs len) (start_of range)) state
with_thing k (procedure n params) state = state

abbrev with_things : ℕ → List Declared → State → State
with_things k [] state = state
with_things k (d ∷ things) state = with_things (k + 1) things (with_thing k d state)

things-append : (k : ℕ) (a b : List Declared) (state : State) → with_things k (a ++ b) state ≡ with_things (k + length a) b (with_things k a state)
things-append k [] b state = let e : k ≡ k + 0 = omega arith in ap (λ n. with_things n b state) e
things-append k (d ∷ a) b state =
    let e : k + 1 + length a ≡ k + length (d ∷ a) = omega arith in
    things-append (k + 1) a b (with_thing k d state) ∙ ap (λ n. with_things n b (with_things (k + 1) a (with_thing k d state))) e

variables_things : {X : Type 0} (range : X → Range) (k : ℕ) (xs : List X) (state : State)
    → with_integers k (map (λ x. start_of (range x)) xs) state ≡ with_things k (variables_from k (map range xs)) state
variables_things range k [] state = refl
variables_things range k (x ∷ xs) state = variables_things range (k + 1) xs (with_integer k (start_of (range x)) state)

declaration_things : (k : ℕ) (d : Declaration) (state : State) → with_start k d state ≡ with_things k (declared_in k d) state
declaration_things k (Var name range line) state = refl
declaration_things k (Array name len range line) state = refl
declaration_things k (Proc name params locals body line) state =
    let ps = params_declared (k + 1) params in
    let ls = locals_declared (k + 1 + length params) locals in
    let n : length ps ≡ length params = length-variables_from (k + 1) (map (λ p. p.range) params) ∙ length-map params (λ (p : Param). p.range) in
    let started = with_integers (k + 1) (map (λ p. start_of p.range) params) state in
    variables_things (λ (l : Local). l.range) (k + 1 + length params) locals started
    ∙ ap (λ s. with_things (k + 1 + length params) ls s) (variables_things (λ (p : Param). p.range) (k + 1) params state)
    ∙ ap (λ m. with_things (k + 1 + m) ls (with_things (k + 1) ps state)) (sym n)
    ∙ sym (things-append (k + 1) ps ls state)

all_things : (k : ℕ) (ds : List Declaration) (state : State) → with_all_started k ds state ≡ with_things k (all_declared k ds) state
all_things k [] state = refl
all_things k (d ∷ ds) state =
    let rest = all_declared (k + names_in d) ds in
    all_things (k + names_in d) ds (with_start k d state)
    ∙ ap (λ s. with_things (k + names_in d) rest s) (declaration_things k d state)
    ∙ ap (λ n. with_things (k + n) rest (with_things k (declared_in k d) state)) (sym (length-declared_in k d))
    ∙ sym (things-append k (declared_in k d) rest state)

-- ---- what is then there
abbrev Has : State → ℕ → ℤ → List ℤ → Type 0
Has state j x xs = (state.integers j ≡ x) × (state.arrays j ≡ xs)

abbrev IsClean : ℕ → State → Type 0
IsClean k state = (j : ℕ) → k ≤ j → Has state j (pos 0) []

other : (k : ℕ) (d : Declared) (state : State) (j : ℕ) → nat_eq j k ≡ false → Has (with_thing k d state) j (state.integers j) (state.arrays j)
other k (variable n range) state j e = (ap (λ b. if b then start_of range else state.integers j) e, refl)
other k (array n len range) state j e = (refl, ap (λ b. if b then replicate (unsigned_abs len) (start_of range) else state.arrays j) e)
other k (procedure n params) state j e = (refl, refl)

itself : (k : ℕ) → nat_eq k k ≡ true
itself k = grind (arith, nat_tests)

own : (k : ℕ) (d : Declared) (state : State) → IsClean k state
    → Has (with_thing k d state) k (start_integer (slot_of (Some d))) (start_elements (slot_of (Some d)))
own k (variable n range) state clean = (ap (λ b. if b then start_of range else state.integers k) (itself k), (clean k (omega arith)).1)
own k (array n len range) state clean =
    ((clean k (omega arith)).0, ap (λ b. if b then replicate (unsigned_abs len) (start_of range) else state.arrays k) (itself k))
own k (procedure n params) state clean = clean k (omega arith)

differs : (j k : ℕ) → k + 1 ≤ j → nat_eq j k ≡ false
differs j k h = grind (arith, nat_tests)

differs_below : (j k : ℕ) → j < k → nat_eq j k ≡ false
differs_below j k h = grind (arith, nat_tests)

clean_next : (k : ℕ) (d : Declared) (state : State) → IsClean k state → IsClean (k + 1) (with_thing k d state)
clean_next k d state clean j h =
    let o = other k d state j (differs j k h) in
    let c = clean j (omega arith) in
    (o.0 ∙ c.0, o.1 ∙ c.1)

below : (k : ℕ) (things : List Declared) (state : State) (j : ℕ) → j < k → Has (with_things k things state) j (state.integers j) (state.arrays j)
below k [] state j h = (refl, refl)
below k (d ∷ things) state j h =
    let b = below (k + 1) things (with_thing k d state) j (omega arith) in
    let o = other k d state j (differs_below j k h) in
    (b.0 ∙ o.0, b.1 ∙ o.1)

abbrev Starts : State → ℕ → Option Declared → Type 0
Starts state j o = Has state j (start_integer (slot_of o)) (start_elements (slot_of o))

at : (k : ℕ) (things : List Declared) (state : State) → IsClean k state → (i j : ℕ) → j ≡ k + i → Starts (with_things k things state) j (slice_get things i)
at k [] state clean i j e = clean j (omega arith)
at k (d ∷ things) state clean zero j e =
    let same : k ≡ j = omega arith in
    let b = below (k + 1) things (with_thing k d state) k (omega arith) in
    let o = own k d state clean in
    subst (λ n. Starts (with_things k (d ∷ things) state) n (Some d)) same (b.0 ∙ o.0, b.1 ∙ o.1)
at k (d ∷ things) state clean (suc i) j e = at (k + 1) things (with_thing k d state) (clean_next k d state clean) i j (omega arith)

same_input : (k : ℕ) (things : List Declared) (state : State) → (with_things k things state).input ≡ state.input
same_input k [] state = refl
same_input k (variable n range ∷ things) state = same_input (k + 1) things (with_thing k (variable n range) state)
same_input k (array n len range ∷ things) state = same_input (k + 1) things (with_thing k (array n len range) state)
same_input k (procedure n params ∷ things) state = same_input (k + 1) things state

slot_there : (things : List Declared) (j : ℕ) → slice_index_or (slots_of things) j slot.Nothing ≡ slot_of (slice_get things j)
slot_there [] j = refl
slot_there (d ∷ things) zero = refl
slot_there (d ∷ things) (suc j) = slot_there things j

pub start_same : (ds : List Declaration) (input : List ℤ)
    → state_at_start (slots_of (all_declared 0 ds)) input ≡ at_start ds input
start_same ds input =
    let things = all_declared 0 ds in
    let empty : State = record { integers = λ k. pos 0; arrays = λ k. []; input = input } in
    let there : (j : ℕ) → Starts (with_things 0 things empty) j (slice_get things j) = λ j. at 0 things empty (λ i h. (refl, refl)) j j (omega arith) in
    let slots : (j : ℕ) → slice_index_or (slots_of things) j slot.Nothing ≡ slot_of (slice_get things j) = slot_there things in
    let integers : (j : ℕ) → start_integer (slice_index_or (slots_of things) j slot.Nothing) ≡ (with_things 0 things empty).integers j =
    λ j. ap start_integer (slots j) ∙ sym (there j).0 in
    let arrays : (j : ℕ) → start_elements (slice_index_or (slots_of things) j slot.Nothing) ≡ (with_things 0 things empty).arrays j =
    λ j. ap start_elements (slots j) ∙ sym (there j).1 in
    let rest : input ≡ (with_things 0 things empty).input = sym (same_input 0 things empty) in
    let same : state_at_start (slots_of things) input ≡ with_things 0 things empty =
    (λ i. record { integers = λ j. integers j i; arrays = λ j. arrays j i; input = rest i }) in
    same ∙ sym (all_things 0 ds empty)
