use Rattle.std.proofs.Common.{List, ℕ, ◌∷◌, sym, subst}
use Rattle.machine_table.specs.declared.instr.Instr.{Instr}
use Rattle.assembler.specs.declared.statement.Statement.{Statement}
use Rattle.assembler.specs.Reading.{says_instr, says_jump}
use Rattle.assembler.specs.Lines.{IsInstructionSaid, IsNoInstruction, said_of}
use Rattle.assembler.proofs.InstrReads.{IsReadInstr, named_said, no_form, no_word, placed_said}
use Rattle.assembler.proofs.statement.instruction_in.Goals as goal
use Rattle.assembler.proofs.statement.instruction_in.Goals.{in-Place, in-Name}

pub returns-in_default : goal.returns-in_default
returns-in_default c = no_word c.args.mnemonic.now c.args.words c.in_default.ensures

pub returns-in_default-fields_in : goal.returns-in_default-fields_in
returns-in_default-fields_in c =
    subst (λ (word : List ℕ). IsNoInstruction (word ∷ c.args.words)) (sym c.in-Some.ensures)
    (no_form c.in-Some.opcode c.form.result c.args.words c.form.ensures c.in_default-fields_in.ensures)

pub returns : goal.returns
returns c =
    let read : IsReadInstr c.args.mnemonic.now c.args.words c.in-Some.opcode c.form.result c.in-Some-fields_in.fields
    = record { named = c.in-Some.ensures; formed = c.form.ensures; read = c.in-Some-fields_in.ensures } in
    let words = c.args.mnemonic.now ∷ c.args.words in
    let fields = c.in-Some-fields_in.fields in
    elim c.match-fields.branch [
      | in-Place w ↦ subst (λ (statement : Statement). IsInstructionSaid words (said_of statement)) (sym w.result-is)
          (subst (λ (instr : Instr). IsInstructionSaid words (says_instr instr)) (sym w.instr.ensures)
          (placed_said c.args.mnemonic.now c.args.words c.in-Some.opcode c.form.result fields w.in-Place.place read w.in-Place.is))
      | in-Name w ↦ subst (λ (statement : Statement). IsInstructionSaid words (said_of statement)) (sym w.result-is)
          (subst (λ (instr : Instr). IsInstructionSaid words (says_jump instr w.in-Name.name.now)) (sym w.instr-in-Name.ensures)
          (named_said c.args.mnemonic.now c.args.words c.in-Some.opcode c.form.result fields w.in-Name.name read w.in-Name.is))
    ]
