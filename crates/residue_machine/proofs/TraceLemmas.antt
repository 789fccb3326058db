-- A trace, and then another from where it went on.
use Rattle.std.proofs.Common.{◌≡◌, ℕ, ◌+◌, List, [], ◌∷◌, ◌++◌, length, Option, None, Some, refl, sym, ap, ◌∙◌, subst, arith}
use Rattle.std.specs.Option.{option_map_or}
use Rattle.moduli_sets.specs.Set.{ModuliSet}
use Rattle.channel_alu.specs.declared.operation.MicroOp.TheVariants.{Show}
use Rattle.fault_book.specs.Book.{Book}
use Rattle.channel_lane.specs.Lane.{LaneState}
use Rattle.lane_bank.specs.Bank.{lanes_after, lanes_after_all}
use Rattle.lane_bank.proofs.BankLemmas.{lanes_after_all-none, lanes_after_all-parts}
use Rattle.machine_table.specs.Control.{Control}
use Rattle.shown_run.specs.Trace.{Trace, RunEnding, did, showed, printed, went_on, ended, damaged, corrections_of, ending_of, operations_of, prints_of, where_went_on}
use Rattle.shown_run.specs.Joined.{then_trace}

-- where control went on from a trace, if it did
abbrev pub went_from : Trace → Option Control
went_from t = where_went_on t (λ control. Some control) None

-- what a function says of a trace it says of that
pub by_control : {A : Type 0} (t : Trace) (k : Control → A) (other : A) → where_went_on t k other ≡ option_map_or k (went_from t) other
by_control (did op more) k other = by_control more k other
by_control (showed place column x more) k other = by_control more k other
by_control (printed x more) k other = by_control more k other
by_control (went_on control) k other = refl
by_control (ended end) k other = refl
by_control (damaged place column) k other = refl

pub said_of : {A : Type 0} (t : Trace) (c : Control) (k : Control → A) (other : A) → went_from t ≡ Some c → where_went_on t k other ≡ k c
said_of t c k other e = by_control t k other ∙ ap (λ (o : Option Control). option_map_or k o other) e

pub said_of_none : {A : Type 0} (t : Trace) (k : Control → A) (other : A) → went_from t ≡ None → where_went_on t k other ≡ other
said_of_none t k other e = by_control t k other ∙ ap (λ (o : Option Control). option_map_or k o other) e

-- what is said of the end of a run tells whether it went on
some_went : (o : Option Control) (e : RunEnding) (other : Control) → option_map_or (λ control. None) o (Some e) ≡ None → o ≡ Some (option_map_or (λ control. control) o other)
some_went None e other h = cc
some_went (Some control) e other h = refl

none_went : (o : Option Control) (e f : RunEnding) → option_map_or (λ control. None) o (Some e) ≡ Some f → o ≡ None
none_went None e f h = refl
none_went (Some control) e f h = cc

pub goes_from : (t : Trace) (e : RunEnding) (other : Control) → where_went_on t (λ control. None) (Some e) ≡ None → went_from t ≡ Some (where_went_on t (λ control. control) other)
goes_from t e other h =
    some_went (went_from t) e other (sym (by_control t (λ control. None) (Some e)) ∙ h) ∙ ap Some (sym (by_control t (λ control. control) other))

pub ends_there : (t : Trace) (e f : RunEnding) → where_went_on t (λ control. None) (Some e) ≡ Some f → went_from t ≡ None
ends_there t e f h = none_went (went_from t) e f (sym (by_control t (λ control. None) (Some e)) ∙ h)

-- where it ended there is no more
pub then_trace-ended : (book : Book) (t : Trace) (lanes : List LaneState) (f : Control → List LaneState → Trace) → went_from t ≡ None → then_trace book t lanes f ≡ t
then_trace-ended book (did op more) lanes f e = ap (did op) (then_trace-ended book more (lanes_after book op lanes) f e)
then_trace-ended book (showed place column x more) lanes f e =
    ap (showed place column x) (then_trace-ended book more (lanes_after book (Show place) lanes) f e)
then_trace-ended book (printed x more) lanes f e = ap (printed x) (then_trace-ended book more lanes f e)
then_trace-ended book (went_on control) lanes f e = cc
then_trace-ended book (ended end) lanes f e = refl
then_trace-ended book (damaged place column) lanes f e = refl

-- what a trace and then a rest say
pub record Joins (t rest whole : Trace) : Type 0 where
  pub prints : prints_of whole ≡ prints_of t ++ prints_of rest
  pub operations : operations_of whole ≡ operations_of t ++ operations_of rest
  pub corrections : (erased : Option ℕ) (set : ModuliSet) (i : ℕ) → corrections_of erased set whole i ≡ corrections_of erased set t i + corrections_of erased set rest i
  pub ending : (n : ℕ) → ending_of n whole ≡ ending_of (n + length (operations_of t)) rest
  pub control : went_from whole ≡ went_from rest

joins_nothing : (control : Control) (rest : Trace) → Joins (went_on control) rest rest
joins_nothing control rest = record {
  prints = refl;
  operations = refl;
  corrections = λ erased set i. omega arith;
  ending = λ n. ap (λ k. ending_of k rest) (omega arith);
  control = refl;
}

-- where it went on, the rest is what comes from there, from the lanes after its operations
pub then_trace-went_on : (book : Book) (t : Trace) (lanes after : List LaneState) (f : Control → List LaneState → Trace) (c : Control) → went_from t ≡ Some c → after ≡ lanes_after_all book (operations_of t) lanes → Joins t (f c after) (then_trace book t lanes f)
then_trace-went_on book (did op more) lanes after f c e same =
    let h = then_trace-went_on book more (lanes_after book op lanes) after f c e (same ∙ lanes_after_all-parts book (op ∷ []) (operations_of more) lanes) in
    record {
      prints = h.prints;
      operations = ap (λ ops. op ∷ ops) h.operations;
      corrections = h.corrections;
      ending = λ n. h.ending (n + 1) ∙ ap (λ k. ending_of k (f c after)) (omega arith);
      control = h.control;
    }
then_trace-went_on book (showed place column x more) lanes after f c e same =
    let h = then_trace-went_on book more (lanes_after book (Show place) lanes) after f c e (same ∙ lanes_after_all-parts book (Show place ∷ []) (operations_of more) lanes) in
    record {
      prints = h.prints;
      operations = ap (λ ops. Show place ∷ ops) h.operations;
      corrections = λ erased set i.
          let rest = h.corrections erased set i in
          omega (arith, rest);
      ending = λ n. h.ending (n + 1) ∙ ap (λ k. ending_of k (f c after)) (omega arith);
      control = h.control;
    }
then_trace-went_on book (printed x more) lanes after f c e same =
    let h = then_trace-went_on book more lanes after f c e same in
    record {
      prints = ap (λ xs. x ∷ xs) h.prints;
      operations = h.operations;
      corrections = h.corrections;
      ending = h.ending;
      control = h.control;
    }
then_trace-went_on book (went_on control) lanes after f c e same =
    let here : control ≡ c = cc in
    subst (λ (k : Control). Joins (went_on control) (f k after) (f control lanes)) here
    (subst (λ (ls : List LaneState). Joins (went_on control) (f control ls) (f control lanes)) (sym (same ∙ lanes_after_all-none book lanes))
    (joins_nothing control (f control lanes)))
then_trace-went_on book (ended end) lanes after f c e same = cc
then_trace-went_on book (damaged place column) lanes after f c e same = cc
