-- The turns of a text, word by word.
use Rattle.std.proofs.Common.{◌≡◌, ℕ, suc, ◌+◌, ◌<◌, nat_lt, Bool, true, false, List, [], ◌∷◌, ◌++◌, map, length, All, codes, Option, Some, None, refl, sym, ap, ◌∙◌, arith}
use Rattle.std.specs.Char.{is_ascii_digit}
use Rattle.std.specs.List.{list_all}
use Rattle.std.specs.Str.{bytes_eq}
use Rattle.std.proofs.lemmas.Bool.Decides.{nat_tests}
use Rattle.std.proofs.lemmas.List.{append-nil, append_assoc, map-append}
use Rattle.std.proofs.lemmas.List.Elements.{All-cons, All-nil}
use Rattle.plain_text.specs.Digits.{value_of_digits}
use Rattle.plain_text.specs.Words.{WordAt}
use Rattle.fault_book.specs.Turns.{IsTurnOf}
use Rattle.fault_book.specs.ScheduleText.{AreTurns, IsFirstOther, said_by, turn_of}
use Rattle.fault_book.specs.declared.schedule.Turn.{Turn}
use Rattle.fault_book.specs.declared.schedule.Turn.TheVariants.{Control, Lane}

-- what words say, in order
abbrev pub said_in_words : ℕ → List WordAt → List (Option Turn)
said_in_words channels words = map (λ word. turn_of channels word.bytes) words

-- the words up to the rest are these turns
abbrev pub AreTurnsUpTo : ℕ → List ℕ → List WordAt → List Turn → Type 0
AreTurnsUpTo channels text rest turns = said_by channels text ≡ map Some turns ++ said_in_words channels rest

-- one more
pub one_more : (channels : ℕ) (text : List ℕ) (rest : List WordAt) (word : WordAt) (turns longer : List Turn) (turn : Turn)
    → AreTurnsUpTo channels text (word ∷ rest) turns → turn_of channels word.bytes ≡ Some turn → longer ≡ turns ++ turn ∷ [] → AreTurnsUpTo channels text rest longer
one_more channels text rest word turns longer turn read is pushed =
    let later = said_in_words channels rest in
    read
    ∙ ap (λ said. map Some turns ++ said ∷ later) is
    ∙ sym (append_assoc (map Some turns) (Some turn ∷ []) later)
    ∙ ap (λ front. front ++ later) (sym (map-append Some turns (turn ∷ [])))
    ∙ ap (λ ts. map Some ts ++ later) (sym pushed)

-- all of them
pub all_done : (channels : ℕ) (text : List ℕ) (turns : List Turn) → AreTurnsUpTo channels text [] turns → AreTurns channels text turns
all_done channels text turns read = read ∙ append-nil (map Some turns)

-- a word that is no turn is the first
pub stops_here : (channels : ℕ) (text : List ℕ) (rest : List WordAt) (word : WordAt) (turns : List Turn) (number : ℕ)
    → AreTurnsUpTo channels text (word ∷ rest) turns → turn_of channels word.bytes ≡ None → number ≡ length turns + 1 → IsFirstOther channels text number
stops_here channels text rest word turns number read is counted = record {
  before = turns;
  after = said_in_words channels rest;
  said = read ∙ ap (λ said. map Some turns ++ said ∷ said_in_words channels rest) is;
  counted = counted;
}

-- ---- turns of the set
-- a word is no turn but of control or of one of the channels
turn_of-set : (channels : ℕ) (word : List ℕ) (turn : Turn) → turn_of channels word ≡ Some turn → IsTurnOf channels turn
turn_of-set channels word Control is = tt
turn_of-set channels word (Lane channel) is = by (bytes_eq word (codes "C")) (list_all is_ascii_digit word) (nat_lt (value_of_digits word) channels) refl refl refl
  where
    by : (control digits known : Bool) → bytes_eq word (codes "C") ≡ control → list_all is_ascii_digit word ≡ digits → nat_lt (value_of_digits word) channels ≡ known → channel < channels
    by true digits known is_control are_digits is_known = cc
    by false true true is_control are_digits is_known = grind (arith, nat_tests)
    by false true false is_control are_digits is_known = cc
    by false false known is_control are_digits is_known = cc

pub turns-set : (channels : ℕ) (words : List WordAt) (turns : List Turn) → said_in_words channels words ≡ map Some turns → All (IsTurnOf channels) turns
turns-set channels words [] said = All-nil (IsTurnOf channels)
turns-set channels [] (turn ∷ turns) said = cc
turns-set channels (word ∷ words) (turn ∷ turns) said =
    All-cons (IsTurnOf channels) turn turns (turn_of-set channels word.bytes turn (cc)) (turns-set channels words turns (cc))

-- ---- one reading
pub same_turns : (xs ys : List Turn) → map Some xs ≡ map Some ys → xs ≡ ys
same_turns [] [] same = refl
same_turns [] (y ∷ ys) same = cc
same_turns (x ∷ xs) [] same = cc
same_turns (x ∷ xs) (y ∷ ys) same =
    let rest = same_turns xs ys (cc) in
    cc

-- a list of turns before the first that is none is as long as any other
pub same_front : (xs ys : List Turn) (later rest : List (Option Turn)) → map Some xs ++ None ∷ later ≡ map Some ys ++ None ∷ rest → length xs ≡ length ys
same_front [] [] later rest same = refl
same_front [] (y ∷ ys) later rest same = cc
same_front (x ∷ xs) [] later rest same = cc
same_front (x ∷ xs) (y ∷ ys) later rest same = ap suc (same_front xs ys later rest (cc))

pub all_or_none : (xs ys : List Turn) (later : List (Option Turn)) → map Some xs ≡ map Some ys ++ None ∷ later → ⊥
all_or_none [] [] later same = cc
all_or_none [] (y ∷ ys) later same = cc
all_or_none (x ∷ xs) [] later same = cc
all_or_none (x ∷ xs) (y ∷ ys) later same = all_or_none xs ys later (cc)
