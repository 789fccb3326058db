use Rattle.mixed_radix.proofs.DigitLemmas.{digits_value-digits, digits-digits_value, digits_value-lt, AreResidues-digits}
use Rattle.mixed_radix.proofs.digits.digits_write_one_number.Goals as goal

pub returns : goal.returns
returns c = record {
  value = digits_value-digits;
  digits = digits-digits_value;
  below = digits_value-lt;
  are = AreResidues-digits;
}
