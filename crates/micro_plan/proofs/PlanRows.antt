-- The operations of plans, by hand from their rules, where these integers are told.
use Rattle.std.specs.Prelude.{◌≡◌, refl, ℤ, pos, negsuc, List, [], ◌∷◌}
use Rattle.moduli_sets.specs.Name.{set_of_name}
use Rattle.moduli_sets.specs.declared.set_name.SetName.TheVariants.{Pocket}
use Rattle.channel_alu.specs.declared.operation.Place.TheVariants.{Reg, Scratch}
use Rattle.channel_alu.specs.declared.operation.MicroOp.{MicroOp}
use Rattle.channel_alu.specs.declared.operation.MicroOp.TheVariants.{Put, Copy, Add, Sub, Neg, Unscale, Show}
use Rattle.machine_table.specs.declared.instr.Instr.{Instr}
use Rattle.machine_table.specs.declared.instr.Instr.TheVariants as instr
use Rattle.machine_table.specs.Control.{halts, traps}
use Rattle.moduli_sets.specs.declared.kind.Kind.TheVariants.{Zero}
use Rattle.micro_plan.specs.ActTree.{end_by}
use Rattle.micro_plan.specs.Plans.{plan_of}
use Rattle.micro_plan.proofs.RowsOfActs.{operations}

-- of a plan on `pocket`
abbrev planned : Instr → List ℤ → List MicroOp
planned i told = operations told (plan_of (set_of_name Pocket) i (end_by (traps Zero 0)) (end_by halts))

-- the divisor goes into the dividend once
abbrev counted_once : List MicroOp → List MicroOp
counted_once rest =
    Put (Scratch 5) (pos 0) ∷ Sub (Scratch 4) (Scratch 0) (Scratch 1) ∷ Show (Scratch 4) ∷ Copy (Scratch 2) (Scratch 1) ∷
    Put (Scratch 3) (pos 1) ∷ Sub (Scratch 6) (Scratch 4) (Scratch 2) ∷ Show (Scratch 6) ∷ Copy (Scratch 0) (Scratch 4) ∷
    Add (Scratch 5) (Scratch 5) (Scratch 3) ∷ Sub (Scratch 4) (Scratch 0) (Scratch 1) ∷ Show (Scratch 4) ∷ rest

-- ---- quotients of 3 and 2, with all signs: 1, -2, -2 and 1
-- 3 div 2
quotient_both_positive : planned (instr.Div 0 1 2 5) (pos 3 ∷ pos 2 ∷ pos 1 ∷ negsuc 0 ∷ negsuc 0 ∷ [])
    ≡ Show (Reg 1) ∷ Show (Reg 2) ∷ Copy (Scratch 0) (Reg 1) ∷ Copy (Scratch 1) (Reg 2) ∷
    counted_once (Copy (Reg 0) (Scratch 5) ∷ [])
quotient_both_positive = refl

-- -3 div 2
quotient_negative_dividend : planned (instr.Div 0 1 2 5) (negsuc 2 ∷ pos 2 ∷ pos 0 ∷ negsuc 1 ∷ negsuc 1 ∷ [])
    ≡ Show (Reg 1) ∷ Show (Reg 2) ∷ Copy (Scratch 0) (Reg 1) ∷ Copy (Scratch 1) (Reg 2) ∷ Put (Scratch 4) (negsuc 0) ∷
    Sub (Scratch 0) (Scratch 4) (Scratch 0) ∷ counted_once (Put (Scratch 4) (negsuc 0) ∷
    Sub (Reg 0) (Scratch 4) (Scratch 5) ∷ [])
quotient_negative_dividend = refl

-- 3 div -2
quotient_negative_divisor : planned (instr.Div 0 1 2 5) (pos 3 ∷ negsuc 1 ∷ pos 0 ∷ negsuc 1 ∷ negsuc 1 ∷ [])
    ≡ Show (Reg 1) ∷ Show (Reg 2) ∷ Neg (Scratch 0) (Reg 1) ∷ Neg (Scratch 1) (Reg 2) ∷ Put (Scratch 4) (negsuc 0) ∷
    Sub (Scratch 0) (Scratch 4) (Scratch 0) ∷ counted_once (Put (Scratch 4) (negsuc 0) ∷
    Sub (Reg 0) (Scratch 4) (Scratch 5) ∷ [])
quotient_negative_divisor = refl

-- -3 div -2
quotient_both_negative : planned (instr.Div 0 1 2 5) (negsuc 2 ∷ negsuc 1 ∷ pos 1 ∷ negsuc 0 ∷ negsuc 0 ∷ [])
    ≡ Show (Reg 1) ∷ Show (Reg 2) ∷ Neg (Scratch 0) (Reg 1) ∷ Neg (Scratch 1) (Reg 2) ∷
    counted_once (Copy (Reg 0) (Scratch 5) ∷ [])
quotient_both_negative = refl

-- ---- remainders: 1, 1, -1 and -1
-- 3 mod 2
remainder_both_positive : planned (instr.Mod 0 1 2 5) (pos 3 ∷ pos 2 ∷ pos 1 ∷ negsuc 0 ∷ negsuc 0 ∷ [])
    ≡ Show (Reg 1) ∷ Show (Reg 2) ∷ Copy (Scratch 0) (Reg 1) ∷ Copy (Scratch 1) (Reg 2) ∷
    counted_once (Copy (Reg 0) (Scratch 0) ∷ [])
remainder_both_positive = refl

-- -3 mod 2
remainder_negative_dividend : planned (instr.Mod 0 1 2 5) (negsuc 2 ∷ pos 2 ∷ pos 0 ∷ negsuc 1 ∷ negsuc 1 ∷ [])
    ≡ Show (Reg 1) ∷ Show (Reg 2) ∷ Copy (Scratch 0) (Reg 1) ∷ Copy (Scratch 1) (Reg 2) ∷ Put (Scratch 4) (negsuc 0) ∷
    Sub (Scratch 0) (Scratch 4) (Scratch 0) ∷ counted_once (Sub (Scratch 1) (Scratch 1) (Scratch 0) ∷
    Put (Scratch 4) (pos 1) ∷ Sub (Scratch 0) (Scratch 1) (Scratch 4) ∷ Copy (Reg 0) (Scratch 0) ∷ [])
remainder_negative_dividend = refl

-- 3 mod -2
remainder_negative_divisor : planned (instr.Mod 0 1 2 5) (pos 3 ∷ negsuc 1 ∷ pos 0 ∷ negsuc 1 ∷ negsuc 1 ∷ [])
    ≡ Show (Reg 1) ∷ Show (Reg 2) ∷ Neg (Scratch 0) (Reg 1) ∷ Neg (Scratch 1) (Reg 2) ∷ Put (Scratch 4) (negsuc 0) ∷
    Sub (Scratch 0) (Scratch 4) (Scratch 0) ∷ counted_once (Sub (Scratch 1) (Scratch 1) (Scratch 0) ∷
    Put (Scratch 4) (pos 1) ∷ Sub (Scratch 0) (Scratch 1) (Scratch 4) ∷ Neg (Reg 0) (Scratch 0) ∷ [])
remainder_negative_divisor = refl

-- -3 mod -2
remainder_both_negative : planned (instr.Mod 0 1 2 5) (negsuc 2 ∷ negsuc 1 ∷ pos 1 ∷ negsuc 0 ∷ negsuc 0 ∷ [])
    ≡ Show (Reg 1) ∷ Show (Reg 2) ∷ Neg (Scratch 0) (Reg 1) ∷ Neg (Scratch 1) (Reg 2) ∷
    counted_once (Neg (Reg 0) (Scratch 0) ∷ [])
remainder_both_negative = refl

-- ---- the divisor is doubled, and then one is left over
-- 7 div 2 is 3
quotient_doubled : planned (instr.Div 3 4 5 5) (pos 7 ∷ pos 2 ∷ pos 5 ∷ pos 3 ∷ negsuc 0 ∷ pos 1 ∷ negsuc 0 ∷ negsuc 0 ∷ [])
    ≡ Show (Reg 4) ∷ Show (Reg 5) ∷ Copy (Scratch 0) (Reg 4) ∷ Copy (Scratch 1) (Reg 5) ∷ Put (Scratch 5) (pos 0) ∷
    Sub (Scratch 4) (Scratch 0) (Scratch 1) ∷ Show (Scratch 4) ∷ Copy (Scratch 2) (Scratch 1) ∷ Put (Scratch 3) (pos 1) ∷
    Sub (Scratch 6) (Scratch 4) (Scratch 2) ∷ Show (Scratch 6) ∷ Add (Scratch 2) (Scratch 2) (Scratch 2) ∷
    Add (Scratch 3) (Scratch 3) (Scratch 3) ∷ Copy (Scratch 4) (Scratch 6) ∷ Sub (Scratch 6) (Scratch 4) (Scratch 2) ∷
    Show (Scratch 6) ∷ Copy (Scratch 0) (Scratch 4) ∷ Add (Scratch 5) (Scratch 5) (Scratch 3) ∷
    Sub (Scratch 4) (Scratch 0) (Scratch 1) ∷ Show (Scratch 4) ∷ Copy (Scratch 2) (Scratch 1) ∷ Put (Scratch 3) (pos 1) ∷
    Sub (Scratch 6) (Scratch 4) (Scratch 2) ∷ Show (Scratch 6) ∷ Copy (Scratch 0) (Scratch 4) ∷
    Add (Scratch 5) (Scratch 5) (Scratch 3) ∷ Sub (Scratch 4) (Scratch 0) (Scratch 1) ∷ Show (Scratch 4) ∷
    Copy (Reg 3) (Scratch 5) ∷ []
quotient_doubled = refl

-- ---- nothing comes after a divisor of 0
-- 7 div 0
quotient_by_zero : planned (instr.Div 0 1 2 5) (pos 7 ∷ pos 0 ∷ [])
    ≡ Show (Reg 1) ∷ Show (Reg 2) ∷ []
quotient_by_zero = refl

-- ---- SCL r0 r1 0: the modulus of channel 0 is 13, and -42 = -4 * 13 + 10
scaled : planned (instr.Scl 0 1 0) (negsuc 41 ∷ []) ≡ Show (Reg 1) ∷ Unscale (Reg 0) (Reg 1) 0 10 9 ∷ []
scaled = refl
