use Rattle.std.proofs.Common.{◌≡◌, ◌<◌, ℤ, true, [], ◌∷◌, map, length, sym, ap, subst, ◌∙◌, rules}
use Rattle.std.specs.Fmt.{signed_decimal}
use Rattle.std.specs.Int.{w128}
use Rattle.std.specs.Int.RustNames.{FitsSigned}
use Rattle.std.proofs.lemmas.Int.{to_z-of_z}
use Rattle.moduli_sets.specs.Set.{ModuliSet, IsInRange}
use Rattle.moduli_sets.specs.Vector.{vector_of}
use Rattle.number_text.specs.Lines.{line, print_lines}
use Rattle.outside.specs.Sink.{PutsPieces}
use Rattle.thin_source.specs.ThinView.{sum_view, declaration_view, statement_view}
use Rattle.thin_source.specs.ThinRules.{is_lawful_statement}
use Rattle.thin_source.specs.ThinMeaning.{sum_value, prints_from}
use Rattle.thin_source.proofs.ThinPlaces.{Holds-below}
use Rattle.thin_source.proofs.ThinStart.{IsInRange-pocket}
use Rattle.thin_source.proofs.ThinStep.{IsSome-assigned, LiesIn-print, Holds-assign}
use Rattle.thin_source.proofs.ThinReached.{PutsPieces-one}
use Rattle.thin_source.proofs.machine.execute.Goals as goal

pub bounds-variables-place_of : goal.bounds-variables-place_of
bounds-variables-place_of g c =
    let ds = map declaration_view c.args.declarations.now in
    let x = c.in-Assign.name.now in
    let lawful = subst (λ s. is_lawful_statement ds s ≡ true) (ap statement_view c.in-Assign.is) c.requires.lawful in
    let found = IsSome-assigned ds x (sum_view c.in-Assign.sum) lawful in
    rw c.place_of.ensures (Holds-below ds c.args.variables.now c.requires.held.0 x c.requires.held.1 found)

pub offset_bounds-variables-place_of : goal.offset_bounds-variables-place_of
offset_bounds-variables-place_of g c =
    let ds = map declaration_view c.args.declarations.now in
    let x = c.in-Assign.name.now in
    let lawful = subst (λ s. is_lawful_statement ds s ≡ true) (ap statement_view c.in-Assign.is) c.requires.lawful in
    let found = IsSome-assigned ds x (sum_view c.in-Assign.sum) lawful in
    let below : c.place_of.result < length c.args.variables.now = rw c.place_of.ensures (Holds-below ds c.args.variables.now c.requires.held.0 x c.requires.held.1 found) in
    search rules

pub returns-in-Assign-clause-held : goal.returns-in-Assign-clause-held
returns-in-Assign-clause-held g c = λ state held.
    let ds = map declaration_view c.args.declarations.now in
    let x = c.in-Assign.name.now in
    let sum = sum_view c.in-Assign.sum in
    let lawful = subst (λ s. is_lawful_statement ds s ≡ true) (ap statement_view c.in-Assign.is) c.requires.lawful in
    rw (c.in-Assign.is, c.place_of.ensures, c.sum_of.ensures state held) (Holds-assign ds x sum lawful c.args.variables.now state held)

pub integer_of-requires : goal.integer_of-requires
integer_of-requires g c =
    let ds = map declaration_view c.args.declarations.now in
    let state = c.requires.held.0 in
    let held = c.requires.held.1 in
    let sum = sum_view c.in-Print.sum in
    let lawful = subst (λ s. is_lawful_statement ds s ≡ true) (ap statement_view c.in-Print.is) c.requires.lawful in
    let value = sum_value state sum in
    let in_range = IsInRange-pocket value (LiesIn-print ds sum lawful state held.fits) in
    subst (λ (set : ModuliSet). (x : ℤ) × IsInRange set x × (c.sum_of-value.result ≡ vector_of set.moduli x)) (sym c.requires.pocket) (value, in_range, c.sum_of-value.ensures state held)

pub returns-in-Print-clause-put : goal.returns-in-Print-clause-put
returns-in-Print-clause-put g c = λ state held.
    let ds = map declaration_view c.args.declarations.now in
    let puts = g.K.Sink.puts in
    let told = g.K.Sink.state in
    let old = c.args.sink.now in
    let new = c.put.new.self in
    let sum = sum_view c.in-Print.sum in
    let lawful = subst (λ s. is_lawful_statement ds s ≡ true) (ap statement_view c.in-Print.is) c.requires.lawful in
    let value = sum_value state sum in
    let in_range = subst (λ (set : ModuliSet). IsInRange set value) (sym c.requires.pocket) (IsInRange-pocket value (LiesIn-print ds sum lawful state held.fits)) in
    let vector = subst (λ (set : ModuliSet). c.sum_of-value.result ≡ vector_of set.moduli value) (sym c.requires.pocket) (c.sum_of-value.ensures state held) in
    let fits : FitsSigned w128 c.integer_of.result = search rules in
    let same = to_z-of_z w128 c.integer_of.result fits ∙ c.integer_of.ensures value in_range vector in
    let piece = c.as_slice.ensures ∙ c.line_of.ensures ∙ ap (λ z. line (signed_decimal z)) same in
    let one = PutsPieces-one puts told old c.as_slice.result.now c.put.result new c.put.ensures.leaves c.put.ensures.late c.put.ensures.puts in
    subst (λ s. PutsPieces puts told old (print_lines (prints_from state (s ∷ []))) c.put.result new) (sym (ap statement_view c.in-Print.is))
    (subst (λ bytes. PutsPieces puts told old (bytes ∷ []) c.put.result new) piece one)
