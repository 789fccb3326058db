-- Worked rows: what the lanes of `pocket` and `desk` compute of two data words. The residues were computed by
-- Python's `%`, of the integers.
use Rattle.std.specs.Prelude.{◌≡◌, refl, ℕ, ℤ, pos, negsuc, List, [], ◌∷◌, map}
use Rattle.number_theory.specs.Coprime.{inverse_below}
use Rattle.moduli_sets.specs.declared.set_name.SetName.{SetName}
use Rattle.moduli_sets.specs.declared.set_name.SetName.TheVariants.{Pocket, Desk}
use Rattle.moduli_sets.specs.Name.{set_of_name}
use Rattle.channel_alu.specs.declared.operation.Place.TheVariants.{Reg, Word}
use Rattle.channel_alu.specs.declared.operation.MicroOp.{MicroOp}
use Rattle.channel_alu.specs.declared.operation.MicroOp.TheVariants.{Put, Copy, Add, Sub, Mul, MulAdd, Neg, Unscale, Show}
use Rattle.channel_lane.specs.Lane.{value_of}
use Rattle.lane_bank.specs.Bank.{lanes_at_start}

-- the values of an operation in the lanes of a set, right after they are made with these numbers
abbrev values : SetName → List ℤ → MicroOp → List ℕ
values name numbers op = map (λ lane. value_of lane op) (lanes_at_start (set_of_name name) 0 numbers)

-- ---- pocket, of -42 and 1000
abbrev in_pocket : MicroOp → List ℕ
in_pocket op = values Pocket (negsuc 41 ∷ pos 1000 ∷ []) op

put : in_pocket (Put (Reg 0) (negsuc 19)) ≡ 6 ∷ 10 ∷ 12 ∷ 14 ∷ 18 ∷ []
put = refl

copy : in_pocket (Copy (Reg 0) (Word 1)) ≡ 12 ∷ 10 ∷ 8 ∷ 14 ∷ 12 ∷ []
copy = refl

add : in_pocket (Add (Reg 0) (Word 0) (Word 1)) ≡ 9 ∷ 13 ∷ 14 ∷ 6 ∷ 8 ∷ []
add = refl

sub : in_pocket (Sub (Reg 0) (Word 0) (Word 1)) ≡ 11 ∷ 8 ∷ 14 ∷ 12 ∷ 3 ∷ []
sub = refl

mul : in_pocket (Mul (Reg 0) (Word 0) (Word 1)) ≡ 3 ∷ 0 ∷ 0 ∷ 7 ∷ 9 ∷ []
mul = refl

mul_add : in_pocket (MulAdd (Reg 0) (Word 0) (Word 1) (Word 0)) ≡ 0 ∷ 3 ∷ 6 ∷ 16 ∷ 5 ∷ []
mul_add = refl

neg : in_pocket (Neg (Reg 0) (Word 0)) ≡ 3 ∷ 12 ∷ 10 ∷ 8 ∷ 4 ∷ []
neg = refl

show : in_pocket (Show (Word 0)) ≡ 10 ∷ 3 ∷ 6 ∷ 9 ∷ 15 ∷ []
show = refl

-- (-42 - 10) / 13 is -4, and channel 0 is given 9
unscale : in_pocket (Unscale (Reg 0) (Word 0) 0 10 9) ≡ 9 ∷ 11 ∷ 12 ∷ 13 ∷ 15 ∷ []
unfolding inverse_below
unscale = refl

-- ---- desk, of its least integer
-- (-451727098179 - 251) / 257 is -1757692990, and channel 7 is given 171
unscale_on_desk : values Desk (negsuc 451727098178 ∷ []) (Unscale (Reg 0) (Word 0) 7 251 171) ≡ 6 ∷ 22 ∷ 12 ∷ 21 ∷ 222 ∷ 80 ∷ 194 ∷ 171 ∷ []
unfolding inverse_below
unscale_on_desk = refl
