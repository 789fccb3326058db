-- What a word writes as a field of a kind.
use Rattle.std.proofs.Common.{◌≡◌, ℕ, ◌≤◌, List, ◌∷◌, length, ◌∙◌, sym, subst}
use Rattle.plain_text.specs.Digits.{IsWholeNumber, value_of_digits}
use Rattle.assembler.specs.Fields.{a_register}
use Rattle.assembler.specs.Words.{Places, Writes}
use Rattle.assembler.specs.Readers.{WritesOnly}

-- after the r of a register stand digits, one to three
pub register_digits : (word digits : List ℕ) → word ≡ 114 ∷ digits → (places : Places) (r : ℕ) → Writes places word (a_register r)
    → IsWholeNumber digits × (length digits ≤ 3) × (r ≡ value_of_digits digits) × (r ≤ 255)
register_digits word digits is places r h =
    let same : h.0 ≡ digits = cc in
    let P = λ (bytes : List ℕ). IsWholeNumber bytes × (length bytes ≤ 3) × (r ≡ value_of_digits bytes) × (r ≤ 255) in
    subst P same (h.2, h.3, h.4, h.5)

pub register_of_digits : (word digits : List ℕ) (r : ℕ) → word ≡ 114 ∷ digits → IsWholeNumber digits → length digits ≤ 3 → r ≡ value_of_digits digits → r ≤ 255 → WritesOnly a_register word r
register_of_digits word digits r is whole short value small = record {
  writes = λ places. (digits, is, whole, short, value, small);
  only = λ places y h. (register_digits word digits is places y h).2 ∙ sym value;
}
