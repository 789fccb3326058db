-- The numbers that an input writes.
use Rattle.std.specs.Prelude.{◌≡◌, ℕ, ◌-◌, ◌^◌, min, ℤ, pos, negsuc, List, [], ◌∷◌, map, All, ◌⊎◌}
use Rattle.plain_text.specs.Digits.{IsInteger, value_of_integer}
use Rattle.plain_text.specs.Words.{WordAt, white_space, words_of}
use Rattle.number_text.specs.declared.input.InputFault.{InputFault}
use Rattle.number_text.specs.declared.input.InputFault.TheVariants.{BadNumber, NoMemory}

-- the words of an input are parted by space, tab, CR and LF
abbrev pub input_words : List ℕ → List WordAt
input_words text = words_of white_space text

-- an integer of 128 bits, -2^127 to 2^127 - 1, and in the place of any other the nearer end; negsuc n is -(n + 1)
abbrev pub nearest_i128 : ℤ → ℤ
nearest_i128 (pos n) = pos (min n (2 ^ 127 - 1))
nearest_i128 (negsuc n) = negsuc (min n (2 ^ 127 - 1))

-- the integer that a word of an input is held as
abbrev pub held_integer : WordAt → ℤ
held_integer word = nearest_i128 (value_of_integer word.bytes)

-- each word is a whole number, and these are the integers that they are held as
pub record AreNumbers (words : List WordAt) (numbers : List ℤ) : Type 0 where
  pub all : All (λ word. IsInteger word.bytes) words
  pub values : numbers ≡ map held_integer words

-- the first word that is no whole number stands at this place
abbrev pub IsFirstOther : List WordAt → ℕ → Type 0
IsFirstOther [] place = ⊥
IsFirstOther (word ∷ words) place =
    (IsInteger word.bytes × IsFirstOther words place) ⊎ ((IsInteger word.bytes → ⊥) × (place ≡ word.place))

-- what a fault says of the words
abbrev pub IsFaultOf : List WordAt → InputFault → Type 0
IsFaultOf words (BadNumber place) = IsFirstOther words place
IsFaultOf words NoMemory = Unit {0}
