-- What a text of turns says: a turn a word.
use Rattle.std.specs.Prelude.{◌≡◌, ℕ, ◌+◌, nat_lt, ◌&&◌, List, ◌∷◌, ◌++◌, map, length, codes, Option, Some, None, if◌then◌else◌}
use Rattle.std.specs.Char.{is_ascii_digit}
use Rattle.std.specs.List.{list_all}
use Rattle.std.specs.Str.{bytes_eq}
use Rattle.plain_text.specs.Digits.{value_of_digits}
use Rattle.plain_text.specs.Words.{white_space, words_of}
use Rattle.fault_book.specs.declared.schedule.ScheduleFault.{ScheduleFault}
use Rattle.fault_book.specs.declared.schedule.ScheduleFault.TheVariants.{BadTurn, NoMemory}
use Rattle.fault_book.specs.declared.schedule.Turn.{Turn}
use Rattle.fault_book.specs.declared.schedule.Turn.TheVariants.{Control, Lane}

-- the turn that a word writes for a set of so many channels: C, or the number of a channel in decimal digits
abbrev pub turn_of : ℕ → List ℕ → Option Turn
turn_of channels word =
    if bytes_eq word (codes "C") then Some Control
    else if list_all is_ascii_digit word && nat_lt (value_of_digits word) channels then Some (Lane (value_of_digits word))
    else None

-- what the words of a text say, in order; they are parted by space, tab, CR and LF
abbrev pub said_by : ℕ → List ℕ → List (Option Turn)
said_by channels text = map (λ word. turn_of channels word.bytes) (words_of white_space text)

-- each word is a turn, and these are they
abbrev pub AreTurns : ℕ → List ℕ → List Turn → Type 0
AreTurns channels text turns = said_by channels text ≡ map Some turns

-- the first word that is no turn has this number, counted from 1
pub record IsFirstOther (channels : ℕ) (text : List ℕ) (number : ℕ) : Type 0 where
  pub before : List Turn
  pub after : List (Option Turn)
  pub said : said_by channels text ≡ map Some before ++ None ∷ after
  pub counted : number ≡ length before + 1

-- what a refusal says of a text: it is of its first word that is no turn, or memory ran out
abbrev pub IsScheduleFault : ℕ → List ℕ → ScheduleFault → Type 0
IsScheduleFault channels text (BadTurn number) = IsFirstOther channels text number
IsScheduleFault channels text NoMemory = Unit {0}
