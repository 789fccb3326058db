use Rattle.std.proofs.Common.{◌+◌, arith}
use Rattle.plain_text.proofs.DigitValues.{value_more, value_prefix}
use Rattle.plain_text.proofs.digits.number_up_to.Goals as goal

pub returns-in_err-checked_mul : goal.returns-in_err-checked_mul
returns-in_err-checked_mul c =
    let i = c.loop-digit.digit-index in
    let more = value_more c.args.digits.now i c.requires c.loop-digit-test.true in
    let prefix = value_prefix c.args.digits.now (i + 1) in
    rw c.from_residual.ensures (omega (arith, c.in_err-checked_mul.ensures))

pub returns-in_err-value : goal.returns-in_err-value
returns-in_err-value c =
    let i = c.loop-digit.digit-index in
    let more = value_more c.args.digits.now i c.requires c.loop-digit-test.true in
    let prefix = value_prefix c.args.digits.now (i + 1) in
    rw c.from_residual-in_err-value.ensures (omega (arith, c.in_err-value.ensures, c.in_ok-checked_mul.ensures))
