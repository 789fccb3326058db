-- Each operation of an instruction can be performed, whatever is told.
use Rattle.std.proofs.Common.{◌≡◌, ℕ, zero, suc, ◌+◌, ◌<◌, ◌≤◌, Bool, true, false, ◌||◌, ◌==◌, List, [], ◌∷◌, length, All, refl, arith, ℤ, pos, negsuc, None}
use Rattle.std.specs.Prelude.{if◌then◌else◌, int_lt, int_le, nat_lt, unsigned_abs}
use Rattle.std.specs.List.{AllByRecursion as ByRecursion}
use Rattle.std.proofs.lemmas.Bool.{and_parts}
use Rattle.std.proofs.lemmas.List.Elements.{recursion_from_All}
use borrow.Author.Tests.{ltb-true}
use Rattle.moduli_sets.specs.Set.{ModuliSet, IsModuliSet}
use Rattle.moduli_sets.specs.declared.kind.Kind.TheVariants.{Zero}
use Rattle.channel_alu.specs.declared.operation.Place.{Place}
use Rattle.channel_alu.specs.declared.operation.Place.TheVariants.{Reg, Word}
use Rattle.channel_alu.specs.declared.operation.MicroOp.{MicroOp}
use Rattle.channel_alu.specs.declared.operation.MicroOp.TheVariants as micro
use Rattle.channel_lane.specs.Meaning.{CanPerform}
use Rattle.machine_table.specs.declared.instr.Instr.{Instr}
use Rattle.machine_table.specs.declared.instr.Instr.TheVariants.{Halt, Ldi, Ld, St, Ldx, Stx, Mov, Add, Sub, Mul, Neg, Mac, Div, Mod, Scl, Jmp, Blt, Beq, Chk, In, Out, Call, Ret, Trp}
use Rattle.machine_table.specs.Control.{Control, next, most_places, traps, lies_in, is_negative, is_zero}
use Rattle.machine_table.specs.Faults.{IsSound, shape_of}
use Rattle.machine_table.specs.Integers.{is_index, instruction_at}
use Rattle.machine_table.specs.Operands.{Shape, IsSoundOperand, operands_of}
use Rattle.micro_plan.specs.ActTree.{Acts, issue, ask, print, go_on, end_by, then_acts, AllOperations}
use Rattle.micro_plan.specs.Division.{most_doings, doubling_acts, subtracting_acts, sign_acts, is_turned, turning_acts, division_acts, quotient_acts, signed_acts, remainder_acts, quotient_plan, remainder_plan}
use Rattle.micro_plan.specs.Acts.{element_acts, read_acts, return_acts, acts_of, acts_of_run}
use Rattle.micro_plan.proofs.ToldInstructions.{info_below}
use Rattle.micro_plan.proofs.ToldRuns.{sound_at}

-- ---- any operations
all_if : (Is : MicroOp → Type 0) (t : Bool) (if_so if_not : Acts) → (t ≡ true → AllOperations Is if_so) → AllOperations Is if_not → AllOperations Is (if t then if_so else if_not)
all_if Is true if_so if_not h k = h refl
all_if Is false if_so if_not h k = k

all_then : (Is : MicroOp → Type 0) (acts : Acts) (more : Control → Acts) → AllOperations Is acts → ((control : Control) → AllOperations Is (more control)) → AllOperations Is (then_acts acts more)
all_then Is (issue op acts) more h each = (h.0, all_then Is acts more h.1 each)
all_then Is (ask place acts) more h each = (h.0, λ x. all_then Is (acts x) more (h.1 x) each)
all_then Is (print x acts) more h each = all_then Is acts more h each
all_then Is (go_on control) more h each = each control
all_then Is (end_by end) more h each = tt

-- ---- scratch places
s0 : 0 < 8
s0 = omega arith

s1 : 1 < 8
s1 = omega arith

s2 : 2 < 8
s2 = omega arith

s3 : 3 < 8
s3 = omega arith

s4 : 4 < 8
s4 = omega arith

s5 : 5 < 8
s5 = omega arith

s6 : 6 < 8
s6 = omega arith

module _ (words channels : ℕ) where
  abbrev Can : Acts → Type 0
  Can acts = AllOperations (CanPerform words channels) acts

  can_if : (t : Bool) (if_so if_not : Acts) → Can if_so → Can if_not → Can (if t then if_so else if_not)
  can_if t if_so if_not h k = all_if (CanPerform words channels) t if_so if_not (λ e. h) k

  -- ---- division
  doubling-can : (k : ℕ) (rest : Acts) → Can rest → Can (doubling_acts None k rest)
  doubling-can zero rest h = h
  doubling-can (suc k) rest h = (
    (s6, s4, s2),
    (
      s6,
      λ d. can_if (is_negative d || (k == 0)) _ _
          ((s0, s4), ((s5, s5, s3), h))
          ((s2, s2, s2), ((s3, s3, s3), ((s4, s6), doubling-can k rest h))),
    ),
  )

  subtracting-can : (k : ℕ) (finish : Acts) → Can finish → Can (subtracting_acts None k finish)
  subtracting-can zero finish h = h
  subtracting-can (suc k) finish h = (
    (s4, s0, s1),
    (
      s4,
      λ d. can_if (is_negative d || (k == 0)) _ _ h
          ((s2, s1), (s3, doubling-can most_doings (subtracting_acts None k finish) (subtracting-can k finish h))),
    ),
  )

  sign-can : (negative : Bool) (b c : ℕ) (rest : Acts) → b < 16 → c < 16 → Can rest → Can (sign_acts negative b c rest)
  sign-can true b c rest b_in c_in h = ((s0, b_in), ((s1, c_in), h))
  sign-can false b c rest b_in c_in h = ((s0, b_in), ((s1, c_in), h))

  turning-can : (turned : Bool) (rest : Acts) → Can rest → Can (turning_acts turned rest)
  turning-can true rest h = (s4, ((s0, s4, s0), h))
  turning-can false rest h = h

  division-can : (b c : ℕ) (zero_divisor : Acts) (finish : Bool → Bool → Acts) → b < 16 → c < 16 → Can zero_divisor → ((negative turned : Bool) → Can (finish negative turned)) → Can (division_acts None b c zero_divisor finish)
  division-can b c zero_divisor finish b_in c_in none each = (
    b_in,
    λ x. (
      c_in,
      λ y. can_if (is_zero y) _ _ none
          (sign-can (is_negative y) b c _ b_in c_in
          (turning-can (is_turned x y) _ (s5, subtracting-can most_doings (finish (is_negative y) (is_turned x y)) (each (is_negative y) (is_turned x y))))),
    ),
  )

  quotient-can : (a : ℕ) (turned : Bool) (rest : Acts) → a < 16 → Can rest → Can (quotient_acts a turned rest)
  quotient-can a true rest a_in h = (s4, ((a_in, s4, s5), h))
  quotient-can a false rest a_in h = ((a_in, s5), h)

  signed-can : (a : ℕ) (negative : Bool) (rest : Acts) → a < 16 → Can rest → Can (signed_acts a negative rest)
  signed-can a true rest a_in h = ((a_in, s0), h)
  signed-can a false rest a_in h = ((a_in, s0), h)

  remainder-can : (a : ℕ) (negative turned : Bool) (rest : Acts) → a < 16 → Can rest → Can (remainder_acts a negative turned rest)
  remainder-can a negative true rest a_in h = ((s1, s1, s0), (s4, ((s0, s1, s4), signed-can a negative rest a_in h)))
  remainder-can a negative false rest a_in h = signed-can a negative rest a_in h

  quotient_plan-can : (a b c : ℕ) (zero_divisor rest : Acts) → a < 16 → b < 16 → c < 16 → Can zero_divisor → Can rest → Can (quotient_plan a b c zero_divisor rest)
  quotient_plan-can a b c zero_divisor rest a_in b_in c_in none h =
      division-can b c zero_divisor (λ negative turned. quotient_acts a turned rest) b_in c_in none (λ negative turned. quotient-can a turned rest a_in h)

  remainder_plan-can : (a b c : ℕ) (zero_divisor rest : Acts) → a < 16 → b < 16 → c < 16 → Can zero_divisor → Can rest → Can (remainder_plan a b c zero_divisor rest)
  remainder_plan-can a b c zero_divisor rest a_in b_in c_in none h =
      division-can b c zero_divisor (λ negative turned. remainder_acts a negative turned rest) b_in c_in none (λ negative turned. remainder-can a negative turned rest a_in h)

  -- ---- elements, reading and returning
  below_length : (q : ℕ) (x : ℤ) → is_index q x ≡ true → unsigned_abs x < q
  below_length q (pos n) e = ltb-true n q (and_parts (int_le (pos 0) (pos n)) (int_lt (pos n) (pos q)) e).1
  below_length q (negsuc n) e = cc

  element-can : (copy : Place → MicroOp) (b p q line : ℕ) (control : Control) → b < 16 → ((place : ℕ) → place < words → CanPerform words channels (copy (Word place))) → p + q ≤ words → Can (element_acts copy b p q line control)
  element-can copy b p q line control b_in each within = (
    b_in,
    λ x. all_if (CanPerform words channels) (is_index q x) _ _
        (λ e. let below = below_length q x e in (each (p + unsigned_abs x) (omega arith), tt)) tt,
  )

  read-can : (a : ℕ) (low high : ℤ) (line : ℕ) (input : List ℤ) (control : Control) → a < 16 → Can (read_acts a low high line input control)
  read-can a low high line [] control a_in = tt
  read-can a low high line (x ∷ rest) control a_in = can_if (lies_in low high x) _ _ (a_in, tt) tt

  return-can : (line : ℕ) (places : List ℕ) (control : Control) → Can (return_acts line places control)
  return-can line [] control = tt
  return-can line (place ∷ places) control = tt

-- ---- one instruction
in_file : (r : ℕ) → r ≤ 15 → r < 16
in_file r h = omega arith

module _ (shape : Shape) where
  abbrev InShape : Acts → Type 0
  InShape acts = AllOperations (CanPerform shape.words (length shape.set.moduli)) acts

  abbrev Sound : Instr → Type 0
  Sound instr = ByRecursion (IsSoundOperand shape) (operands_of instr)

  can_by : (instr : Instr) (control : Control) → IsModuliSet shape.set → Sound instr → InShape (acts_of shape.set instr control)
  can_by Halt control rules h = tt
  can_by (Ldi a value) control rules h = (in_file a h.0, tt)
  can_by (Ld a p) control rules h = ((in_file a h.0, h.1.0), tt)
  can_by (St a p) control rules h = ((h.1.0, in_file a h.0), tt)
  can_by (Ldx a b p q line) control rules h =
      element-can shape.words (length shape.set.moduli) (λ place. micro.Copy (Reg a) place) b p q line control (in_file b h.1.0) (λ place within. (in_file a h.0, within)) h.1.1.0.1
  can_by (Stx a b p q line) control rules h =
      element-can shape.words (length shape.set.moduli) (λ place. micro.Copy place (Reg a)) b p q line control (in_file b h.1.0) (λ place within. (within, in_file a h.0)) h.1.1.0.1
  can_by (Mov a b) control rules h = ((in_file a h.0, in_file b h.1.0), tt)
  can_by (Add a b c) control rules h = ((in_file a h.0, in_file b h.1.0, in_file c h.1.1.0), tt)
  can_by (Sub a b c) control rules h = ((in_file a h.0, in_file b h.1.0, in_file c h.1.1.0), tt)
  can_by (Mul a b c) control rules h = ((in_file a h.0, in_file b h.1.0, in_file c h.1.1.0), tt)
  can_by (Neg a b) control rules h = ((in_file a h.0, in_file b h.1.0), tt)
  can_by (Mac a b c) control rules h = ((in_file a h.0, in_file b h.1.0, in_file c h.1.1.0, in_file a h.0), tt)
  can_by (Div a b c line) control rules h =
      quotient_plan-can shape.words (length shape.set.moduli) a b c (end_by (traps Zero line)) (go_on (next control)) (in_file a h.0) (in_file b h.1.0) (in_file c h.1.1.0) tt tt
  can_by (Mod a b c line) control rules h =
      remainder_plan-can shape.words (length shape.set.moduli) a b c (end_by (traps Zero line)) (go_on (next control)) (in_file a h.0) (in_file b h.1.0) (in_file c h.1.1.0) tt tt
  can_by (Scl a b s) control rules h =
      let below : s < shape.set.info = h.1.1.0 in
      let channel : s < length shape.set.moduli = omega (arith, info_below shape.set rules) in
      (in_file b h.1.0, λ x. ((in_file a h.0, in_file b h.1.0, channel), tt))
  can_by (Jmp p) control rules h = tt
  can_by (Blt a b p) control rules h = (in_file a h.0, λ x. (in_file b h.1.0, λ y. tt))
  can_by (Beq a b p) control rules h = (in_file a h.0, λ x. (in_file b h.1.0, λ y. tt))
  can_by (Chk a low high line) control rules h =
      (in_file a h.0, λ x. can_if shape.words (length shape.set.moduli) (lies_in low high x) _ _ tt tt)
  can_by (In a low high line) control rules h = read-can shape.words (length shape.set.moduli) a low high line control.input control (in_file a h.0)
  can_by (Out a) control rules h = (in_file a h.0, λ x. tt)
  can_by (Call p line) control rules h = can_if shape.words (length shape.set.moduli) (nat_lt (length control.places) most_places) _ _ tt tt
  can_by (Ret line) control rules h = return-can shape.words (length shape.set.moduli) line control.places control
  can_by (Trp k line) control rules h = tt

  pub instruction-can : (instr : Instr) (control : Control) → IsModuliSet shape.set → All (IsSoundOperand shape) (operands_of instr) → InShape (acts_of shape.set instr control)
  instruction-can instr control rules h = can_by instr control rules (recursion_from_All (IsSoundOperand shape) (operands_of instr) h)

  run_by : (code : List Instr) (n : ℕ) (control : Control) → IsModuliSet shape.set → All (λ instr. All (IsSoundOperand shape) (operands_of instr)) code → InShape (acts_of_run shape.set code n control)
  run_by code zero control rules h = tt
  run_by code (suc n) control rules h =
      let instr = instruction_at code control.counter in
      all_then (CanPerform shape.words (length shape.set.moduli)) (acts_of shape.set instr control) (acts_of_run shape.set code n)
      (instruction-can instr control rules (sound_at shape code control.counter h)) (λ after. run_by code n after rules h)

pub run-can : (set : ModuliSet) (code : List Instr) (words : List ℤ) (n : ℕ) (control : Control) → IsModuliSet set → IsSound set code words → AllOperations (CanPerform (length words) (length set.moduli)) (acts_of_run set code n control)
run-can set code words n control rules sound = run_by (shape_of set code words) code n control rules sound.operands
