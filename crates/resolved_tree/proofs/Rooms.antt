-- Numbers of what is declared are below how many things are declared, and so are those of a procedure's parameters.
use Rattle.std.proofs.Common.{◌≡◌, ℕ, zero, suc, ◌+◌, ◌<◌, ◌≤◌, List, [], ◌∷◌, ◌++◌, length, map, subst, arith, true, Some, length-append}
use Rattle.std.specs.Prelude.{slice_get, nat_lt}
use Rattle.std.proofs.lemmas.Bool.Decides.{nat_tests}
use Rattle.source_tree.specs.Scope.{Declared, variable, array, procedure, names_in}
use Rattle.source_tree.specs.Fits.{variables_from, params_declared, locals_declared, declared_in, all_declared}
use Rattle.source_tree.specs.declared.name.Range.{Range}
use Rattle.source_tree.specs.declared.declaration.Declaration.{Declaration}
use Rattle.source_tree.specs.declared.declaration.Declaration.TheVariants.{Var, Array, Proc}
use Rattle.source_tree.proofs.FitsPrograms.{length-variables_from}

below_length : {A : Type 0} (xs : List A) (k : ℕ) (x : A) → slice_get xs k ≡ Some x → k < length xs
below_length [] k x is = cc
below_length (y ∷ xs) zero x is = omega arith
below_length (y ∷ xs) (suc k) x is = let h : k < length xs = below_length xs k x is in omega arith

pub place_below : (declared : List Declared) (k : ℕ) (d : Declared) → slice_get declared k ≡ Some d → nat_lt k (length declared) ≡ true
place_below declared k d is = let h : k < length declared = below_length declared k d is in grind (arith, nat_tests)

-- ---- procedures stand before their parameters
abbrev params_of : Declared → ℕ
params_of (variable k range) = 0
params_of (array k len range) = 0
params_of (procedure k params) = length params

abbrev pub HasRoom : List Declared → Type 0
HasRoom [] = Unit {0}
HasRoom (d ∷ declared) = (params_of d ≤ length declared) × HasRoom declared

pub room_at : (declared : List Declared) (i k : ℕ) (params : List Range) → HasRoom declared → slice_get declared i ≡ Some (procedure k params)
    → i + 1 + length params ≤ length declared
room_at [] i k params room is = cc
room_at (variable n range ∷ declared) zero k params room is = cc
room_at (array n len range ∷ declared) zero k params room is = cc
room_at (procedure n others ∷ declared) zero k params room is =
    let same : others ≡ params = cc in
    let h : length params ≤ length declared = subst (λ ps. length ps ≤ length declared) same room.0 in
    omega arith
room_at (d ∷ declared) (suc i) k params room is =
    let h : i + 1 + length params ≤ length declared = room_at declared i k params room.1 is in omega arith

rooms : (a b : List Declared) → HasRoom a → HasRoom b → HasRoom (a ++ b)
rooms [] b h k = k
rooms (d ∷ a) b h k =
    let e : length (a ++ b) ≡ length a + length b = length-append a b in
    let first : params_of d ≤ length a = h.0 in
    (omega arith, rooms a b h.1 k)

variables_room : (k : ℕ) (ranges : List Range) → HasRoom (variables_from k ranges)
variables_room k [] = tt
variables_room k (range ∷ ranges) = (omega arith, variables_room (k + 1) ranges)

declaration_room : (k : ℕ) (d : Declaration) → HasRoom (declared_in k d)
declaration_room k (Var name range line) = (omega arith, tt)
declaration_room k (Array name len range line) = (omega arith, tt)
declaration_room k (Proc name params locals body line) =
    let ps = params_declared (k + 1) params in
    let ls = locals_declared (k + 1 + length params) locals in
    let e : length (ps ++ ls) ≡ length ps + length ls = length-append ps ls in
    let n : length ps ≡ length (map (λ p. p.range) params) = length-variables_from (k + 1) (map (λ p. p.range) params) in
    (omega arith, rooms ps ls (variables_room (k + 1) (map (λ p. p.range) params)) (variables_room (k + 1 + length params) (map (λ l. l.range) locals)))

pub all_room : (k : ℕ) (ds : List Declaration) → HasRoom (all_declared k ds)
all_room k [] = tt
all_room k (d ∷ ds) = rooms (declared_in k d) (all_declared (k + names_in d) ds) (declaration_room k d) (all_room (k + names_in d) ds)
