use Rattle.std.proofs.Common.{arith}
use Rattle.std.proofs.lemmas.Bool.Decides.{nat_tests}
use Rattle.plain_text.specs.Digits.{unsigned_part}
use Rattle.plain_text.proofs.WholeNumbers.{whole_number-by_count, count-whole_number}
use Rattle.plain_text.proofs.integers.is_integer.Goals as goal

pub returns-then-not-is_empty : goal.returns-then-not-is_empty
returns-then-not-is_empty c =
    let digits = unsigned_part c.args.text.now in (
      λ same. whole_number-by_count digits (grind (arith, nat_tests)) (grind (arith, nat_tests, same)),
      λ h. let all = count-whole_number digits h in grind (arith, nat_tests),
    )
