use Rattle.std.proofs.Common.{◌+◌, sym, ap, ◌∙◌}
use Rattle.moduli_sets.specs.Name.{set_of_name}
use Rattle.machine_table.specs.Objects.{code_of, set_of_object, words_of}
use Rattle.assembler.specs.Words.{said_in}
use Rattle.assembler.specs.Assembly.{IsRefusal}
use Rattle.assembler.specs.Taken.{fault_line, saids_of}
use Rattle.assembler.proofs.ObjectLemmas.{refused-unsound, refused-untied, spells}
use Rattle.assembler.proofs.PassedLemmas.{passed_on}
use Rattle.assembler.proofs.ThereLemmas.{line-there}
use Rattle.assembler.proofs.program.Program.object.Goals as goal

pub returns-in_err-code : goal.returns-in_err-code
returns-in_err-code c text taken =
    let fault = c.in_err-code.field-0.0 in
    passed_on _ (IsRefusal text) fault c.from_residual.result c.from_residual.ensures.1 (refused-untied (said_in text) c.args.self.now taken fault c.in_err-code.ensures)

pub returns-in-Ok : goal.returns-in-Ok
returns-in-Ok c text taken =
    let object = c.in-Ok.object in
    spells text c.args.self.now taken c.in_ok-code.field-0 c.in_ok-code.ensures (set_of_object object) (code_of object) (words_of object) c.in-Ok.ensures.set c.in-Ok.ensures.code c.in-Ok.ensures.words

pub returns : goal.returns
returns c text taken =
    let linked = c.in_ok-code.field-0 in
    let fault = c.in-Err.fault in
    let there = c.line_of.ensures ∙ ap (λ ls. fault_line fault ls c.deref-in-Err.result.now) c.deref.ensures.value ∙ ap (fault_line fault linked.code_lines.items) c.deref-in-Err.ensures.value in
    refused-unsound (said_in text) c.args.self.now taken linked c.in_ok-code.ensures fault c.line_of.result (sym c.in-Err.ensures.fault) there

pub line_of-requires : goal.line_of-requires
line_of-requires c =
    let program = c.args.self.now in
    line-there program.places (program.set_number + 1) (saids_of program) c.in_ok-code.field-0 (set_of_name program.set) c.in-Err.fault c.deref.result.now c.deref-in-Err.result.now
    c.in_ok-code.ensures (sym c.in-Err.ensures.fault) c.deref.ensures.value c.deref-in-Err.ensures.value
