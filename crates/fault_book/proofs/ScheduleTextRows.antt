-- Worked rows: what texts of turns say.
use Rattle.std.specs.Prelude.{◌≡◌, refl, [], ◌∷◌, ◌++◌, replicate, codes, Some, None}
use Rattle.fault_book.specs.ScheduleText.{AreTurns, IsFirstOther, said_by, turn_of}
use Rattle.fault_book.specs.declared.schedule.Turn.TheVariants.{Control, Lane}

-- ---- turns
six_turns : AreTurns 5 (codes "C C 4 4 4 0") (Control ∷ Control ∷ Lane 4 ∷ Lane 4 ∷ Lane 4 ∷ Lane 0 ∷ [])
six_turns = refl

nothing : AreTurns 5 [] []
nothing = refl

white_space_alone : AreTurns 5 (32 ∷ 9 ∷ 13 ∷ 10 ∷ 32 ∷ []) []
white_space_alone = refl

-- words are parted by tab, CR and LF too, one or more of them; they may stand at the ends
parted : AreTurns 5 (10 ∷ codes "C" ++ 9 ∷ codes "0" ++ 13 ∷ codes "1" ++ 10 ∷ codes "C" ++ 13 ∷ 10 ∷ 9 ∷ codes "2" ++ 13 ∷ []) (Control ∷ Lane 0 ∷ Lane 1 ∷ Control ∷ Lane 2 ∷ [])
parted = refl

-- zeros before a number count for nothing
leading_zeros : AreTurns 8 (codes "007 00") (Lane 7 ∷ Lane 0 ∷ [])
leading_zeros = refl

forty_zeros : turn_of 5 (replicate 39 48 ++ codes "3") ≡ Some (Lane 3)
forty_zeros = refl

last_channel : turn_of 5 (codes "4") ≡ Some (Lane 4)
last_channel = refl

-- ---- no turns
channel_past_the_last : turn_of 5 (codes "5") ≡ None
channel_past_the_last = refl

seven_of_five : turn_of 5 (codes "007") ≡ None
seven_of_five = refl

-- no number is read by its last digits or bits: 256, 2^32, 2^64, 2^128 and 10^39 are no channel 0
eight_bits : turn_of 5 (codes "256") ≡ None
eight_bits = refl

thirty_two_bits : turn_of 5 (codes "4294967296") ≡ None
thirty_two_bits = refl

sixty_four_bits : turn_of 5 (codes "18446744073709551616") ≡ None
sixty_four_bits = refl

all_bits : turn_of 5 (codes "340282366920938463463374607431768211456") ≡ None
all_bits = refl

forty_digits : turn_of 5 (codes "1" ++ replicate 39 48) ≡ None
forty_digits = refl

small_letter : turn_of 5 (codes "c") ≡ None
small_letter = refl

two_letters : turn_of 5 (codes "CC") ≡ None
two_letters = refl

letter_and_digit : turn_of 5 (codes "C1") ≡ None
letter_and_digit = refl

digit_and_letter : turn_of 5 (codes "1C") ≡ None
digit_and_letter = refl

minus : turn_of 5 (codes "-1") ≡ None
minus = refl

plus : turn_of 5 (codes "+1") ≡ None
plus = refl

digit_and_x : turn_of 5 (codes "1x") ≡ None
digit_and_x = refl

-- VT and NUL part no words
with_vt : said_by 5 (codes "1" ++ 11 ∷ codes "2") ≡ None ∷ []
with_vt = refl

with_nul : said_by 5 (codes "C" ++ 0 ∷ codes " 0") ≡ None ∷ Some (Lane 0) ∷ []
with_nul = refl

-- ---- refusals
-- words are counted from 1; what comes after the first other word is not looked at
second_word : IsFirstOther 5 (codes "C 9") 2
second_word = record { before = Control ∷ []; after = []; said = refl; counted = refl }

first_word : IsFirstOther 5 (codes " x 9 C") 1
first_word = record { before = []; after = None ∷ Some Control ∷ []; said = refl; counted = refl }
