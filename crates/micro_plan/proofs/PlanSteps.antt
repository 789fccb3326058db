-- A step of a plan, by the operation that it issues or the place that it shows.
use Rattle.std.proofs.Common.{◌≡◌, ◌≢◌, ℕ, suc, ◌-◌, ◌<◌, ◌≤◌, ◌==◌, ◌||◌, Bool, true, false, cond, refl, sym, ap, ◌∙◌, subst, arith, rules, tests, ℤ, pos, Option, None}
use Rattle.std.proofs.lemmas.Bool.{false≢true}
use Rattle.channel_alu.specs.declared.operation.Place.{Place}
use Rattle.channel_alu.specs.declared.operation.Place.TheVariants.{Reg, Scratch}
use Rattle.channel_alu.specs.declared.operation.MicroOp.{MicroOp}
use Rattle.channel_alu.specs.declared.operation.MicroOp.TheVariants.{Put, Copy}
use Rattle.channel_lane.specs.Meaning.{HasPlace}
use Rattle.machine_table.specs.Control.{is_negative, is_zero}
use Rattle.micro_plan.specs.declared.next.Next.{Next}
use Rattle.micro_plan.specs.declared.next.Next.TheVariants.{Issue, Await, Done, Zero}
use Rattle.micro_plan.specs.declared.plan.Course.TheVariants as course
use Rattle.micro_plan.specs.declared.plan_division.Part.{Part}
use Rattle.micro_plan.specs.declared.plan_division.Step.{Step}
use Rattle.micro_plan.specs.declared.plan_division.Step.TheVariants.{ShowDividend}
use Rattle.micro_plan.specs.declared.plan_division.Step.TheVariants as step
use Rattle.micro_plan.specs.declared.plan_division.Question.{Question}
use Rattle.micro_plan.specs.declared.plan_division.Question.TheVariants.{Divisor}
use Rattle.micro_plan.specs.declared.plan_division.Stage.TheVariants.{Hears, Does}
use Rattle.micro_plan.specs.declared.plan_division.Division.{Division}
use Rattle.micro_plan.specs.ActTree.{Acts, issue, ask}
use Rattle.micro_plan.specs.Division.{Plan, most_doings, doubling_acts, subtracting_acts, counting_acts, sign_acts, turning_acts, is_turned, signed_acts, division_acts}
use Rattle.micro_plan.specs.Plans.{IsNext}
use Rattle.micro_plan.specs.Stages.{after, told, signed, finish_by, step_left, question_left, step_most, question_most, CanBeDone, HasRegisters, GoesDown, Proceeds, division_left, stage_left, stage_most, whole_division}

-- with a step next
abbrev pub at_step : Division → Step → Division
at_step d step = record d { stage = Does step }

abbrev pub at_question : Division → Question → Division
at_question d question = record d { stage = Hears question }

pub issue_proceeds : (left : Plan) (most : ℕ) (d new : Division) (op given : MicroOp) (step : Step) (result : Next)
    → given ≡ op → result ≡ Issue given → new ≡ at_step d step
    → ((zero_divisor rest : Acts) → left zero_divisor rest ≡ issue op (step_left (at_step d step) step zero_divisor rest))
    → step_most step < most
    → ((words channels : ℕ) → HasRegisters d → CanBeDone words channels (Issue op))
    → Proceeds left most (course.Division d) result (course.Division new)
issue_proceeds left most d new op given step result op_is result_is new_is same less can =
    let here : Proceeds left most (course.Division d) (Issue op) (course.Division (at_step d step)) = record {
      next = same;
      waits = refl;
      shorter = less;
      possible = can;
      places = λ channels have. record { a = have.a; b = have.b; c = have.c };
    } in
    subst (λ (r : Next). Proceeds left most (course.Division d) r (course.Division new)) (sym (result_is ∙ ap Issue op_is))
    (subst (λ (n : Division). Proceeds left most (course.Division d) (Issue op) (course.Division n)) (sym new_is) here)

pub show_proceeds : (left : Plan) (most : ℕ) (d new : Division) (place : Place) (question : Question) (result : Next)
    → result ≡ Await place → new ≡ at_question d question
    → ((zero_divisor rest : Acts) → left zero_divisor rest ≡ ask place (λ x. question_left (at_question d question) question x zero_divisor rest))
    → question_most question < most
    → ((words : ℕ) → HasRegisters d → HasPlace words place)
    → Proceeds left most (course.Division d) result (course.Division new)
show_proceeds left most d new place question result result_is new_is same less can =
    let here : Proceeds left most (course.Division d) (Await place) (course.Division (at_question d question)) = record {
      next = same;
      waits = refl;
      shorter = less;
      possible = λ words channels have. can words have;
      places = λ channels have. record { a = have.a; b = have.b; c = have.c };
    } in
    subst (λ (r : Next). Proceeds left most (course.Division d) r (course.Division new)) (sym result_is)
    (subst (λ (n : Division). Proceeds left most (course.Division d) (Await place) (course.Division n)) (sym new_is) here)

-- ---- signs
pub first_sign : (negative : Bool) (b c : ℕ) (acts : Acts) → sign_acts negative b c acts ≡ issue (signed negative (Scratch 0) (Reg b)) (after (sign_acts negative b c acts))
first_sign true b c acts = refl
first_sign false b c acts = refl

pub second_sign : (negative : Bool) (b c : ℕ) (acts : Acts) → after (sign_acts negative b c acts) ≡ issue (signed negative (Scratch 1) (Reg c)) acts
second_sign true b c acts = refl
second_sign false b c acts = refl

pub sign_turned : (negative turned t : Bool) (b c : ℕ) (acts : Acts) → turned ≡ t → after (sign_acts negative b c (turning_acts turned acts)) ≡ issue (signed negative (Scratch 1) (Reg c)) (turning_acts t acts)
sign_turned negative turned t b c acts e =
    second_sign negative b c (turning_acts turned acts) ∙ ap (λ u. issue (signed negative (Scratch 1) (Reg c)) (turning_acts u acts)) e

pub signed_acts-signed : (a : ℕ) (negative : Bool) (rest : Acts) → signed_acts a negative rest ≡ issue (signed negative (Reg a) (Scratch 0)) rest
signed_acts-signed a true rest = refl
signed_acts-signed a false rest = refl

-- a copy that turns the sign can be performed where both places exist
pub signed-possible : (negative : Bool) (to from : Place) (words channels : ℕ) → HasPlace words to → HasPlace words from → CanBeDone words channels (Issue (signed negative to from))
signed-possible true to from words channels h k = ((h, k), refl)
signed-possible false to from words channels h k = ((h, k), refl)

-- ---- the ends of the loops
pub or_true : (b : Bool) → (b || true) ≡ true
or_true true = refl
or_true false = refl

pub rest_last : (n : ℕ) (x : ℤ) (acts : Acts) → (is_negative x || n == 0) ≡ true → told x (after (subtracting_acts None (suc n) acts)) ≡ acts
rest_last n x acts e =
    ap (λ b. cond b acts (issue (Copy (Scratch 2) (Scratch 1)) (issue (Put (Scratch 3) (pos 1)) (doubling_acts None most_doings (subtracting_acts None n acts))))) e

suc-not-zero : (n : ℕ) → (suc n == 0) ≡ false
suc-not-zero n = search (rules, tests)

-- what is left after the first operation of a doing that isn't the last
pub power_left : (n : ℕ) (acts : Acts) → after (told (pos 0) (after (subtracting_acts None (suc (suc n)) acts))) ≡ issue (Put (Scratch 3) (pos 1)) (doubling_acts None most_doings (subtracting_acts None (suc n) acts))
power_left n acts =
    ap (λ b. after (cond b acts (issue (Copy (Scratch 2) (Scratch 1)) (issue (Put (Scratch 3) (pos 1)) (doubling_acts None most_doings (subtracting_acts None (suc n) acts)))))) (suc-not-zero n)

-- at a doing that isn't the last some are left
pub not_last : (n : ℕ) (x : ℤ) → (is_negative x || n == 0) ≡ false → n ≢ 0
not_last n x e none = false≢true (sym e ∙ ap (λ k. is_negative x || k == 0) none ∙ or_true (is_negative x))

-- a doing of the outer loop that isn't the last
pub rest_more : (n : ℕ) (x : ℤ) (acts : Acts) → (is_negative x || n == 0) ≡ false
    → told x (after (subtracting_acts None (suc n) acts)) ≡ issue (Copy (Scratch 2) (Scratch 1)) (after (told (pos 0) (after (subtracting_acts None (suc (suc (n - 1))) acts))))
rest_more n x acts e =
    let some : n ≢ 0 = not_last n x e in
    let same : suc (n - 1) ≡ n = omega (arith, some) in
    ap (λ b. cond b acts (issue (Copy (Scratch 2) (Scratch 1)) (issue (Put (Scratch 3) (pos 1)) (doubling_acts None most_doings (subtracting_acts None n acts))))) e
    ∙ ap (λ k. issue (Copy (Scratch 2) (Scratch 1)) (issue (Put (Scratch 3) (pos 1)) (doubling_acts None most_doings (subtracting_acts None k acts)))) (sym same)
    ∙ ap (issue (Copy (Scratch 2) (Scratch 1))) (sym (power_left (n - 1) acts))

-- ---- the signs are told
-- the first operation where the divisor isn't 0
pub signs_told : (d : Division) (x y : ℤ) (negative turned : Bool) (zero_divisor rest : Acts) → is_zero y ≡ false → negative ≡ is_negative y → turned ≡ is_turned x y
    → told y (told x (whole_division d zero_divisor rest)) ≡ issue (signed negative (Scratch 0) (Reg d.b)) (after (sign_acts negative d.b d.c (turning_acts turned (counting_acts None (finish_by d.part d.a negative turned rest)))))
signs_told d x y negative turned zero_divisor rest some n t =
    let acts : Bool → Bool → Acts = λ n t. sign_acts n d.b d.c (turning_acts t (counting_acts None (finish_by d.part d.a n t rest))) in
    ap (λ b. cond b zero_divisor (acts (is_negative y) (is_turned x y))) some
    ∙ ap (λ n. acts n (is_turned x y)) (sym n)
    ∙ ap (λ t. acts negative t) (sym t)
    ∙ first_sign negative d.b d.c (turning_acts turned (counting_acts None (finish_by d.part d.a negative turned rest)))

pub zero_proceeds : (d new : Division) (x y : ℤ) → is_zero y ≡ true → new ≡ at_step d step.Zero → Proceeds (question_left d (Divisor x) y) (question_most (Divisor x)) (course.Division d) Zero (course.Division new)
zero_proceeds d new x y none new_is =
    let acts : Acts → Acts = λ rest. sign_acts (is_negative y) d.b d.c (turning_acts (is_turned x y) (counting_acts None (finish_by d.part d.a (is_negative y) (is_turned x y) rest))) in
    let here : Proceeds (question_left d (Divisor x) y) (question_most (Divisor x)) (course.Division d) Zero (course.Division (at_step d step.Zero)) = record {
      next = λ zero_divisor rest. (ap (λ b. cond b zero_divisor (acts rest)) none, refl);
      waits = refl;
      shorter = tt;
      possible = λ words channels have. tt;
      places = λ channels have. record { a = have.a; b = have.b; c = have.c };
    } in
    subst (λ (n : Division). Proceeds (question_left d (Divisor x) y) (question_most (Divisor x)) (course.Division d) Zero (course.Division n)) (sym new_is) here

-- the signs aren't among the places
pub signs_proceed : (left : Plan) (most : ℕ) (d new : Division) (negative turned : Bool) (result : Next)
    → Proceeds left most (course.Division (record d { negative = negative; turned = turned })) result (course.Division new) → Proceeds left most (course.Division d) result (course.Division new)
signs_proceed left most d new negative turned result h = record {
  next = h.next;
  waits = h.waits;
  shorter = h.shorter;
  possible = λ words channels have. h.possible words channels (record { a = have.a; b = have.b; c = have.c });
  places = λ channels have. h.places channels (record { a = have.a; b = have.b; c = have.c });
}

-- the same where what is left is said otherwise
IsNext-same : (left other : Plan) (result : Next) (after : Option ℤ → Plan) → ((zero_divisor rest : Acts) → other zero_divisor rest ≡ left zero_divisor rest) → IsNext left result after → IsNext other result after
IsNext-same left other (Issue op) after same h = λ zero_divisor rest. same zero_divisor rest ∙ h zero_divisor rest
IsNext-same left other (Await place) after same h = λ zero_divisor rest. same zero_divisor rest ∙ h zero_divisor rest
IsNext-same left other Done after same h = λ zero_divisor rest. (same zero_divisor rest ∙ (h zero_divisor rest).0, (h zero_divisor rest).1)
IsNext-same left other Zero after same h = λ zero_divisor rest. (same zero_divisor rest ∙ (h zero_divisor rest).0, (h zero_divisor rest).1)

GoesDown-more : (result : Next) (n m k : ℕ) → n ≤ m → GoesDown n result k → GoesDown m result k
GoesDown-more (Issue op) n m k le h = omega (arith, h)
GoesDown-more (Await place) n m k le h = omega (arith, h)
GoesDown-more Done n m k le h = tt
GoesDown-more Zero n m k le h = tt

pub proceeds_same : (left other : Plan) (most more : ℕ) (d new : Division) (result : Next) → ((zero_divisor rest : Acts) → other zero_divisor rest ≡ left zero_divisor rest) → most ≤ more
    → Proceeds left most (course.Division d) result (course.Division new) → Proceeds other more (course.Division d) result (course.Division new)
proceeds_same left other most more d new result same le h = record {
  next = IsNext-same left other result (division_left new) same h.next;
  waits = h.waits;
  shorter = GoesDown-more result most more (stage_most new.stage) le h.shorter;
  possible = h.possible;
  places = h.places;
}

-- ---- a plan begins
pub division-begins : (d : Division) (part : Part) (a b c : ℕ) (zero_divisor rest : Acts) → d.part ≡ part → d.a ≡ a → d.b ≡ b → d.c ≡ c → d.stage ≡ Does ShowDividend
    → division_left d None zero_divisor rest ≡ division_acts None b c zero_divisor (λ negative turned. finish_by part a negative turned rest)
division-begins d part a b c zero_divisor rest part_is a_is b_is c_is stage_is =
    let acts : Part → ℕ → ℕ → ℕ → Acts = λ p a b c. division_acts None b c zero_divisor (λ negative turned. finish_by p a negative turned rest) in
    ap (λ s. stage_left d s None zero_divisor rest) stage_is
    ∙ ap (λ p. acts p d.a d.b d.c) part_is
    ∙ ap (λ n. acts part n d.b d.c) a_is
    ∙ ap (λ n. acts part a n d.c) b_is
    ∙ ap (λ n. acts part a b n) c_is
