use Rattle.std.proofs.Common.{◌≡◌, sym, ap, ◌∙◌, inr, arith}
use Rattle.std.specs.Option.{option_map}
use Rattle.std.proofs.lemmas.Result.{err_from_is_err_and}
use Rattle.object_bytes.specs.declared.fault.LoadFault.TheVariants.{Unsound}
use Rattle.object_bytes.specs.Loading.{program_in}
use Rattle.object_bytes.specs.Programs.{program_of}
use Rattle.object_bytes.proofs.ObjectLemmas.{header_refused, parts_read, program_is_spelled, record_refused, same_program}
use Rattle.object_bytes.proofs.reading.read.Goals as goal

pub returns-in_err-header-clause-fault : goal.returns-in_err-header-clause-fault
returns-in_err-header-clause-fault c =
    let failed = err_from_is_err_and c.from_residual.result c.from_residual.ensures.1 in
    rw (failed.1, failed.2) (header_refused c.args.bytes.now c.in_err-header.field-0.0 c.in_err-header.ensures)

pub returns-in_err-code-clause-fault : goal.returns-in_err-code-clause-fault
returns-in_err-code-clause-fault c =
    let failed = err_from_is_err_and c.from_residual-in_err-code.result c.from_residual-in_err-code.ensures.1 in
    rw (failed.1, failed.2) (record_refused c.args.bytes.now c.in_ok-header.header c.in_err-code.field-0.0 c.in_ok-header.ensures c.in_err-code.ensures.fault)

pub returns-in-Ok-clause-no_fault : goal.returns-in-Ok-clause-no_fault
returns-in-Ok-clause-no_fault c =
    let read = parts_read c.args.bytes.now c.in_ok-header.header c.in_ok-code.code.items c.in_ok-words.words.items c.in_ok-header.ensures
    c.in_ok-code.ensures.code.0 c.in_ok-code.ensures.code.1 c.in_ok-words.ensures in
    read.1 ∙ ap (option_map Unsound) (sym c.in-Ok.ensures.fault)

pub returns-in-Ok-clause-program : goal.returns-in-Ok-clause-program
returns-in-Ok-clause-program c =
    let read = parts_read c.args.bytes.now c.in_ok-header.header c.in_ok-code.code.items c.in_ok-words.words.items c.in_ok-header.ensures
    c.in_ok-code.ensures.code.0 c.in_ok-code.ensures.code.1 c.in_ok-words.ensures in
    read.0 ∙ same_program _ _ _ _ _ _ (sym c.in-Ok.ensures.set) (sym c.in-Ok.ensures.code) (sym c.in-Ok.ensures.words)

pub returns-in-Ok-clause-spelled : goal.returns-in-Ok-clause-spelled
returns-in-Ok-clause-spelled c =
    let read = parts_read c.args.bytes.now c.in_ok-header.header c.in_ok-code.code.items c.in_ok-words.words.items c.in_ok-header.ensures
    c.in_ok-code.ensures.code.0 c.in_ok-code.ensures.code.1 c.in_ok-words.ensures in
    let program : program_in c.args.bytes.now ≡ program_of c.in-Ok.object =
    read.0 ∙ same_program _ _ _ _ _ _ (sym c.in-Ok.ensures.set) (sym c.in-Ok.ensures.code) (sym c.in-Ok.ensures.words) in
    program_is_spelled c.args.bytes.now (program_of c.in-Ok.object) (λ i. omega (arith, c.type_inv.bytes i)) (read.1 ∙ ap (option_map Unsound) (sym c.in-Ok.ensures.fault)) program

pub returns-in-Err-clause-fault : goal.returns-in-Err-clause-fault
returns-in-Err-clause-fault c =
    let read = parts_read c.args.bytes.now c.in_ok-header.header c.in_ok-code.code.items c.in_ok-words.words.items c.in_ok-header.ensures
    c.in_ok-code.ensures.code.0 c.in_ok-code.ensures.code.1 c.in_ok-words.ensures in
    inr (read.1 ∙ ap (option_map Unsound) (sym c.in-Err.ensures.fault))
