-- What is left of a plan, by where it stands.
use Rattle.std.specs.Prelude.{◌≡◌, ℕ, suc, ◌+◌, ◌*◌, ◌<◌, ℤ, pos, negsuc, Bool, true, false, Option, Some, None, IsSome}
use Rattle.channel_alu.specs.declared.operation.Place.{Place}
use Rattle.channel_alu.specs.declared.operation.Place.TheVariants.{Reg}
use Rattle.channel_alu.specs.declared.operation.MicroOp.{MicroOp}
use Rattle.channel_alu.specs.declared.operation.MicroOp.TheVariants.{Copy, Neg, Unscale}
use Rattle.number_theory.specs.Residue.{residue, quotient}
use Rattle.channel_lane.specs.Meaning.{CanPerform, HasPlace, destination}
use Rattle.micro_plan.specs.declared.next.Next.{Next}
use Rattle.micro_plan.specs.declared.next.Next.TheVariants.{Issue, Await, Done, Zero}
use Rattle.micro_plan.specs.declared.plan.Plan.{Plan as PlanUnderWay}
use Rattle.micro_plan.specs.declared.plan.Course.{Course}
use Rattle.micro_plan.specs.declared.plan.Course.TheVariants as course
use Rattle.micro_plan.specs.declared.plan_scaling.Scale.{Scale}
use Rattle.micro_plan.specs.declared.plan_scaling.Scale.TheVariants.{Shows, Divides, Ends}
use Rattle.micro_plan.specs.declared.plan_scaling.Scaling.{Scaling}
use Rattle.micro_plan.specs.declared.plan_division.Part.{Part}
use Rattle.micro_plan.specs.declared.plan_division.Part.TheVariants.{Quotient, Remainder}
use Rattle.micro_plan.specs.declared.plan_division.Step.{Step}
use Rattle.micro_plan.specs.declared.plan_division.Step.TheVariants as step
use Rattle.micro_plan.specs.declared.plan_division.Question.{Question}
use Rattle.micro_plan.specs.declared.plan_division.Question.TheVariants as question
use Rattle.micro_plan.specs.declared.plan_division.Stage.{Stage}
use Rattle.micro_plan.specs.declared.plan_division.Stage.TheVariants.{Hears, Does}
use Rattle.micro_plan.specs.declared.plan_division.Division.{Division}
use Rattle.micro_plan.specs.ActTree.{Acts, issue, ask, print, go_on, end_by}
use Rattle.micro_plan.specs.Plans.{IsNext}
use Rattle.micro_plan.specs.Division.{Plan, doubling_acts, subtracting_acts, counting_acts, sign_acts, turning_acts, division_acts, quotient_acts, signed_acts, remainder_acts}

-- ---- further along in acts: where they don't begin so, the acts themselves
-- after the first operation
abbrev pub after : Acts → Acts
after (issue op acts) = acts
after (ask place acts) = ask place acts
after (print x acts) = print x acts
after (go_on control) = go_on control
after (end_by end) = end_by end

-- after the first Show, where x is told
abbrev pub told : ℤ → Acts → Acts
told x (issue op acts) = issue op acts
told x (ask place acts) = acts x
told x (print y acts) = print y acts
told x (go_on control) = go_on control
told x (end_by end) = end_by end

-- ---- division
-- a copy that turns the sign
abbrev pub signed : Bool → Place → Place → MicroOp
signed true to from = Neg to from
signed false to from = Copy to from

-- what comes after the counting, where the divisor is negative and where the plan is turned
abbrev pub finish_by : Part → ℕ → Bool → Bool → Acts → Acts
finish_by Quotient a negative turned rest = quotient_acts a turned rest
finish_by Remainder a negative turned rest = remainder_acts a negative turned rest

abbrev pub finish : Division → Acts → Acts
finish d rest = finish_by d.part d.a d.negative d.turned rest

-- a doing of the outer loop after which n are left, and one of the inner loop after which k are left
abbrev pub outer : Division → ℕ → Acts → Acts
outer d n rest = subtracting_acts None (suc n) (finish d rest)

abbrev pub inner : Division → ℕ → ℕ → Acts → Acts
inner d n k rest = doubling_acts None (suc k) (outer d n rest)

abbrev pub whole_division : Division → Plan
whole_division d zero_divisor rest =
    division_acts None d.b d.c zero_divisor (λ negative turned. finish_by d.part d.a negative turned rest)

-- what is left where a step is next
abbrev pub step_left : Division → Step → Plan
step_left d step.ShowDividend zero_divisor rest = whole_division d zero_divisor rest
step_left d step.SignDivisor zero_divisor rest =
    after (sign_acts d.negative d.b d.c (turning_acts d.turned (counting_acts None (finish d rest))))
step_left d step.PutMinusOne zero_divisor rest = turning_acts true (counting_acts None (finish d rest))
step_left d step.TurnDividend zero_divisor rest = after (turning_acts true (counting_acts None (finish d rest)))
step_left d step.ClearCount zero_divisor rest = counting_acts None (finish d rest)
step_left d (step.SubtractDivisor n) zero_divisor rest = outer d n rest
step_left d (step.ShowRest n) zero_divisor rest = after (outer d n rest)
step_left d (step.StartPower n) zero_divisor rest = after (told (pos 0) (after (outer d (suc n) rest)))
step_left d (step.SubtractDoubled n k) zero_divisor rest = inner d n k rest
step_left d (step.ShowDifference n k) zero_divisor rest = after (inner d n k rest)
step_left d (step.DoublePower n k) zero_divisor rest = after (told (pos 0) (after (inner d n (suc k) rest)))
step_left d (step.KeepDifference n k) zero_divisor rest = after (after (told (pos 0) (after (inner d n (suc k) rest))))
step_left d (step.Count n) zero_divisor rest = after (told (negsuc 0) (after (inner d n 0 rest)))
step_left d step.SubtractCount zero_divisor rest = after (quotient_acts d.a true rest)
step_left d step.PutOne zero_divisor rest = after (remainder_acts d.a d.negative true rest)
step_left d step.SubtractOne zero_divisor rest = after (after (remainder_acts d.a d.negative true rest))
step_left d step.SignRemainder zero_divisor rest = signed_acts d.a d.negative rest
step_left d step.Done zero_divisor rest = rest
step_left d step.Zero zero_divisor rest = zero_divisor

-- what is left where x is told
abbrev pub question_left : Division → Question → ℤ → Plan
question_left d question.Dividend x zero_divisor rest = told x (whole_division d zero_divisor rest)
question_left d (question.Divisor dividend) x zero_divisor rest = told x (told dividend (whole_division d zero_divisor rest))
question_left d (question.Rest n) x zero_divisor rest = told x (after (outer d n rest))
question_left d (question.Difference n k) x zero_divisor rest = told x (after (inner d n k rest))

-- nothing is said of a question to which nothing is told: it is as if 0 were
abbrev pub stage_left : Division → Stage → Option ℤ → Plan
stage_left d (Does step) told = step_left d step
stage_left d (Hears question) (Some x) = question_left d question x
stage_left d (Hears question) None = question_left d question (pos 0)

abbrev pub division_left : Division → Option ℤ → Plan
division_left d told = stage_left d d.stage told

-- an integer is told next
abbrev pub is_heard : Stage → Bool
is_heard (Does step) = false
is_heard (Hears question) = true

-- the registers exist
pub record HasRegisters (d : Division) : Type 0 where
  pub a : d.a < 16
  pub b : d.b < 16
  pub c : d.c < 16

-- ---- how much is left at the most, operations and Shows
-- of the last operations
abbrev pub finish_most : ℕ
finish_most = 4

-- Of the outer loop, after whose doing n are left: a doing has four of its own, and the inner loop 5 * 127 + 4; the last
-- doing has two.
abbrev pub outer_most : ℕ → ℕ
outer_most n = 643 * n + (2 + finish_most)

-- Of the inner loop, after whose doing k are left: a doing has five, and the last one four.
abbrev pub inner_most : ℕ → ℕ → ℕ
inner_most n k = 5 * k + (4 + outer_most n)

abbrev pub step_most : Step → ℕ
step_most step.ShowDividend = outer_most 127 + 7
step_most step.SignDivisor = outer_most 127 + 4
step_most step.PutMinusOne = outer_most 127 + 3
step_most step.TurnDividend = outer_most 127 + 2
step_most step.ClearCount = outer_most 127 + 1
step_most (step.SubtractDivisor n) = outer_most n
step_most (step.ShowRest n) = 643 * n + (1 + finish_most)
step_most (step.StartPower n) = inner_most n 127 + 1
step_most (step.SubtractDoubled n k) = inner_most n k
step_most (step.ShowDifference n k) = 5 * k + (3 + outer_most n)
step_most (step.DoublePower n k) = inner_most n k + 2
step_most (step.KeepDifference n k) = inner_most n k + 1
step_most (step.Count n) = outer_most n + 1
step_most step.SubtractCount = 1
step_most step.PutOne = 3
step_most step.SubtractOne = 2
step_most step.SignRemainder = 1
step_most step.Done = 0
step_most step.Zero = 0

abbrev pub question_most : Question → ℕ
question_most question.Dividend = outer_most 127 + 6
question_most (question.Divisor dividend) = outer_most 127 + 5
question_most (question.Rest n) = 643 * n + finish_most
question_most (question.Difference n k) = 5 * k + (2 + outer_most n)

abbrev pub stage_most : Stage → ℕ
stage_most (Does step) = step_most step
stage_most (Hears question) = question_most question

-- ---- scaling
-- the division of x by the modulus of the channel
abbrev pub unscale_of : Scaling → ℤ → MicroOp
unscale_of s x = Unscale (Reg s.a) (Reg s.b) s.channel (residue x s.modulus) (residue (quotient x s.modulus) s.modulus)

abbrev pub scale_left : Scaling → Scale → Option ℤ → Plan
scale_left s Shows told zero_divisor rest = ask (Reg s.b) (λ x. issue (unscale_of s x) rest)
scale_left s Divides (Some x) zero_divisor rest = issue (unscale_of s x) rest
scale_left s Divides None zero_divisor rest = rest
scale_left s Ends told zero_divisor rest = rest

abbrev pub scaling_left : Scaling → Option ℤ → Plan
scaling_left s told = scale_left s s.scale told

abbrev pub scale_most : Scale → ℕ
scale_most Shows = 2
scale_most Divides = 1
scale_most Ends = 0

abbrev pub is_told : Scale → Bool
is_told Shows = false
is_told Divides = true
is_told Ends = false

-- the registers and the channel exist
pub record HasChannel (channels : ℕ) (s : Scaling) : Type 0 where
  pub a : s.a < 16
  pub b : s.b < 16
  pub channel : s.channel < channels

-- ---- plans
-- what is left of a plan, by what is told
abbrev pub course_left : Course → Option ℤ → Plan
course_left (course.Scaling s) = scaling_left s
course_left (course.Division d) = division_left d

abbrev pub left_of : PlanUnderWay → Option ℤ → Plan
left_of plan = course_left plan.course

-- an integer is told next
abbrev pub course_waits : Course → Bool
course_waits (course.Scaling s) = is_told s.scale
course_waits (course.Division d) = is_heard d.stage

abbrev pub waits : PlanUnderWay → Bool
waits plan = course_waits plan.course

-- how many operations and Shows are left at the most
abbrev pub course_most : Course → ℕ
course_most (course.Scaling s) = scale_most s.scale
course_most (course.Division d) = stage_most d.stage

abbrev pub most_left : PlanUnderWay → ℕ
most_left plan = course_most plan.course

-- the registers of a plan exist, and where it scales by a channel of so many, that too
abbrev pub CourseHasPlaces : ℕ → Course → Type 0
CourseHasPlaces channels (course.Scaling s) = HasChannel channels s
CourseHasPlaces channels (course.Division d) = HasRegisters d

abbrev pub HasPlaces : ℕ → PlanUnderWay → Type 0
HasPlaces channels plan = CourseHasPlaces channels plan.course

-- ---- what a plan's answer owes
abbrev pub is_await : Next → Bool
is_await (Issue op) = false
is_await (Await place) = true
is_await Done = false
is_await Zero = false

-- an operation or a Show leaves less to do
abbrev pub GoesDown : ℕ → Next → ℕ → Type 0
GoesDown before (Issue op) after = after < before
GoesDown before (Await place) after = after < before
GoesDown before Done after = Unit {0}
GoesDown before Zero after = Unit {0}

-- the operation that is issued can be performed, where there are so many words and channels, and is no Show; the place
-- that is shown exists
abbrev pub CanBeDone : ℕ → ℕ → Next → Type 0
CanBeDone words channels (Issue op) = CanPerform words channels op × IsSome (destination op)
CanBeDone words channels (Await place) = HasPlace words place
CanBeDone words channels Done = Unit {0}
CanBeDone words channels Zero = Unit {0}

-- an answer of a plan of which so much is left, and how the plan then stands
pub record Proceeds (left : Plan) (most : ℕ) (old : Course) (result : Next) (new : Course) : Type 0 where
  pub next : IsNext left result (course_left new)
  pub waits : course_waits new ≡ is_await result
  pub shorter : GoesDown most result (course_most new)
  pub possible : (words channels : ℕ) → CourseHasPlaces channels old → CanBeDone words channels result
  pub places : (channels : ℕ) → CourseHasPlaces channels old → CourseHasPlaces channels new
