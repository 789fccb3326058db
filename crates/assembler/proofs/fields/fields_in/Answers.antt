use Rattle.std.proofs.Common.{[], refl}
use Rattle.assembler.specs.declared.fields.Fields.{Fields}
use Rattle.assembler.proofs.FieldReads.{no_fields, fields_left, fields_read}
use Rattle.assembler.proofs.fields.fields_in.Goals as goal

pub returns-in_err-naturals : goal.returns-in_err-naturals
returns-in_err-naturals c =
    let fields : Fields = record { registers = c.in_ok-registers.registers; integers = c.in_ok-integers.integers; target = c.in_ok-target.target; naturals = [] } in
    rw c.from_residual-in_err-naturals.ensures (no_fields c.args.form fields c.args.words c.registers_in.new.words c.integers_in.new.words c.target_in.new.words
    c.in_ok-registers.ensures c.in_ok-integers.ensures c.in_ok-target.ensures c.in_err-naturals.ensures)

pub returns-then-not-are_none : goal.returns-then-not-are_none
returns-then-not-are_none c =
    let fields : Fields = record { registers = c.in_ok-registers.registers; integers = c.in_ok-integers.integers; target = c.in_ok-target.target; naturals = c.in_ok-naturals.naturals } in
    fields_left c.args.form fields c.args.words c.registers_in.new.words c.integers_in.new.words c.target_in.new.words c.naturals_in.new.words
    c.in_ok-registers.ensures c.in_ok-integers.ensures c.in_ok-target.ensures c.in_ok-naturals.ensures (λ none. let yes = c.if-not-are_none.ensures.1 none in cc)

pub returns : goal.returns
returns c =
    let fields : Fields = record { registers = c.in_ok-registers.registers; integers = c.in_ok-integers.integers; target = c.in_ok-target.target; naturals = c.in_ok-naturals.naturals } in
    fields_read c.args.form fields c.args.words c.registers_in.new.words c.integers_in.new.words c.target_in.new.words c.naturals_in.new.words
    c.in_ok-registers.ensures c.in_ok-integers.ensures c.in_ok-target.ensures c.in_ok-naturals.ensures (c.if-not-are_none.ensures.0 refl)
