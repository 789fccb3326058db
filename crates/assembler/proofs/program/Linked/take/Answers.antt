use Rattle.std.proofs.Common.{◌≡◌, ℤ, [], ◌∷◌, refl, sym, ap, subst, rules}
use Rattle.std.specs.Prelude.{MatchResult}
use Rattle.std.specs.Int.{w128}
use Rattle.std.specs.Int.RustNames.{FitsSigned}
use Rattle.std.proofs.lemmas.Int.{to_z-of_z}
use Rattle.assembler.specs.Statements.{no_statement, an_instruction, a_datum}
use Rattle.assembler.specs.Reading.{StandsFor}
use Rattle.assembler.specs.Lines.{said_of}
use Rattle.assembler.specs.Taken.{IsLonger}
use Rattle.assembler.specs.declared.fault.AsmFault.TheVariants.{NoMemory}
use Rattle.assembler.proofs.TiedLemmas.{IsLinked-next, IsLonger-none, linked_on}
use Rattle.assembler.proofs.program.Linked.take.Goals as goal

pub returns-in-Nothing : goal.returns-in-Nothing
returns-in-Nothing c n saids linked counted =
    let places = c.args.places.now in
    let said = said_of c.args.statement in
    IsLinked-next places n c.args.number saids said no_statement c.args.self.now c.args.self.now linked counted
    (subst (λ s. StandsFor places s no_statement) (sym (ap said_of c.in-Nothing.is)) refl) (IsLonger-none c.args.self.now)

pub returns-in-Instruction : goal.returns-in-Instruction
returns-in-Instruction c n saids linked counted =
    let places = c.args.places.now in
    let statement = an_instruction c.in-Instruction.instr in
    linked_on places n c.args.number saids (said_of c.args.statement) statement c.args.self.now c.push_instr.new.self c.push_instr.result linked counted
    (subst (λ s. StandsFor places s statement) (sym (ap said_of c.in-Instruction.is)) refl) c.push_instr.ensures

pub returns-in-Some : goal.returns-in-Some
returns-in-Some c n saids linked counted =
    let places = c.args.places.now in
    let statement = an_instruction c.with_target.result in
    linked_on places n c.args.number saids (said_of c.args.statement) statement c.args.self.now c.push_instr-in-Some.new.self c.push_instr-in-Some.result linked counted
    (subst (λ s. StandsFor places s statement) (sym (ap said_of c.in-Named.is)) (c.in-Some.place.now, c.in-Some.ensures, ap an_instruction c.with_target.ensures)) c.push_instr-in-Some.ensures

pub returns-in-Datum : goal.returns-in-Datum
returns-in-Datum c n saids linked counted =
    let places = c.args.places.now in
    let x = c.in-Datum.x in
    let old = c.args.self.now in
    let new = c.push_datum.new.self in
    let number = c.args.number in
    let result = c.push_datum.result in
    let fits : FitsSigned w128 x = search rules in
    linked_on places n number saids (said_of c.args.statement) (a_datum x) old new result linked counted
    (subst (λ s. StandsFor places s (a_datum x)) (sym (ap said_of c.in-Datum.is)) refl)
    (subst (λ (z : ℤ). MatchResult result (λ _. IsLonger old [] [] (z ∷ []) (number ∷ []) new) (λ fault. fault ≡ NoMemory)) (to_z-of_z w128 x fits) c.push_datum.ensures)
