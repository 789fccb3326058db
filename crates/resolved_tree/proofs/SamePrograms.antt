-- A resolved tree means what its source means.
use Rattle.std.proofs.Common.{◌≡◌, ℕ, ◌+◌, ◌≤◌, ℤ, pos, Some, ◌<ℤ◌, List, [], ◌∷◌, length, refl, ap, ◌∙◌, arith, true}
use Rattle.std.specs.Prelude.{◌^◌}
use Rattle.std.proofs.lemmas.Int.{ints}
use Rattle.std.proofs.lemmas.Bool.Decides.{nat_tests}
use Rattle.std.proofs.lemmas.List.{length-map}
use Rattle.moduli_sets.specs.declared.set_name.SetName.{SetName}
use Rattle.moduli_sets.specs.declared.set_name.SetName.TheVariants.{Pocket, Desk, Hall}
use Rattle.name_check.specs.Names.{name_faults}
use Rattle.range_inference.specs.Bound.{bound_of}
use Rattle.range_inference.specs.Demands.{Demand, declared as is_declared, limit, node, demands_of, too_wide}
use Rattle.range_inference.specs.Interval.{is_bounded}
use Rattle.range_inference.proofs.Passing.{AllPass, pass_bounded}
use Rattle.range_inference.proofs.WatchedPrograms.{tests_pass}
use Rattle.source_tree.specs.State.{State}
use Rattle.source_tree.specs.Scope.{Scope, with_all_declared}
use Rattle.source_tree.specs.Fits.{declared_by, IsScopeOf}
use Rattle.source_tree.specs.Meaning.{no_calls, with_all_calls, at_start, meaning_by, meaning}
use Rattle.source_tree.specs.declared.declaration.Program.{Program}
use Rattle.source_tree.proofs.FitsLemmas.{stands_whole}
use Rattle.source_tree.proofs.FitsPrograms.{scope_all_declared}
use Rattle.resolved_tree.specs.Meaning.{elsewhere, steps_of, calls_of, state_at_start, meaning_of}
use Rattle.resolved_tree.specs.Resolution.{resolved_of}
use Rattle.resolved_tree.specs.Slots.{slot_of, is_word}
use Rattle.resolved_tree.proofs.Rooms.{all_room}
use Rattle.resolved_tree.proofs.SameCalls.{all_calls_same}
use Rattle.resolved_tree.proofs.SameStart.{start_same}
use Rattle.resolved_tree.proofs.SameSteps.{Agree, all_same}
use Rattle.resolved_tree.proofs.SameValues.{tests_word, watching}

-- ---- each number within the bound of a set is a word
set_bound : (set : SetName) → bound_of set <ℤ pos (2 ^ 126)
set_bound Pocket = omega (arith, ints)
set_bound Desk = omega (arith, ints)
set_bound Hall = omega (arith, ints)

word_within : (bound x : ℤ) → bound <ℤ pos (2 ^ 126) → is_bounded bound x ≡ true → is_word x ≡ true
word_within bound x small h = grind (arith, ints, nat_tests)

words_pass : (bound : ℤ) (demands : List Demand) → bound <ℤ pos (2 ^ 126) → AllPass (λ interval x. is_bounded bound x) demands → AllPass tests_word demands
words_pass bound [] small h = tt
words_pass bound (is_declared range line ∷ ds) small h = words_pass bound ds small h
words_pass bound (limit turns line ∷ ds) small h = words_pass bound ds small h
words_pass bound (node i line ∷ ds) small h = (λ x k. word_within bound x small (h.0 x k), words_pass bound ds small h.1)

-- ---- programs
whole_same : (program : Program) (input : List ℤ) → meaning_of (resolved_of program) input ≡ meaning_by watching program input
whole_same program input =
    let things = declared_by program in
    let slots = (resolved_of program).slots in
    let steps = (resolved_of program).steps in
    let procedures = (resolved_of program).procedures in
    let whole = stands_whole things in
    let scope : Scope = with_all_declared 0 program.declarations [] in
    let n : length slots ≡ length things = length-map things (λ thing. slot_of (Some thing)) in
    let names : IsScopeOf things scope = scope_all_declared things 0 program.declarations [] whole (λ x. tt) in
    let enough : 0 + length things ≤ length things = omega arith in
    let agree : Agree things (calls_of (length things) procedures) (with_all_calls watching 0 program.declarations [] no_calls) =
    all_calls_same things (all_room 0 program.declarations) 0 program.declarations [] no_calls no_calls whole enough (λ x. tt) (λ k params arguments state t few. refl) in
    ap (λ (size : ℕ). steps_of size steps (calls_of size procedures) (state_at_start slots input)) n
    ∙ ap (λ (s : State). steps_of (length things) steps (calls_of (length things) procedures) s) (start_same program.declarations input)
    ∙ all_same things (all_room 0 program.declarations) program.statements scope _ _ (at_start program.declarations input) names agree

pub means_the_same : (program : Program) (set : SetName) (input : List ℤ)
    → name_faults program ≡ [] → too_wide (bound_of set) program ≡ []
    → meaning_of (resolved_of program) input ≡ meaning program input
means_the_same program set input none narrow =
    whole_same program input
    ∙ tests_pass program input tests_word elsewhere none
    (words_pass (bound_of set) (demands_of program) (set_bound set) (pass_bounded (bound_of set) (demands_of program) narrow))
