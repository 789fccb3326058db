-- What is kept while acts stay true to the integers: the fault run, right lanes and columns, a front of the plain trace.
use Rattle.std.proofs.Common.{◌≡◌, ℕ, zero, suc, ◌+◌, ◌<◌, ◌==◌, ◌||◌, ℤ, Bool, true, false, cond, List, [], ◌∷◌, ◌++◌, map, length, slice_index, Option, None, Some, refl, sym, ap, ◌∙◌, eq-eqb, arith}
use Rattle.std.proofs.lemmas.Bool.Decides.{nat_tests}
use Rattle.std.proofs.lemmas.List.{length-map}
use Rattle.std.specs.Prelude.{if◌then◌else◌}
use Rattle.std.specs.Option.{option_map_or}
use Rattle.number_theory.specs.Residue.{residue}
use Rattle.moduli_sets.specs.Set.{ModuliSet}
use Rattle.moduli_sets.specs.Vector.{vector_of}
use Rattle.channel_alu.specs.declared.operation.Place.{Place}
use Rattle.channel_alu.specs.declared.operation.MicroOp.TheVariants.{Show}
use Rattle.redundant_decoder.specs.Nearest.{different_places}
use Rattle.fault_book.specs.Book.{Book, is_faulty}
use Rattle.channel_lane.specs.Lane.{LaneState}
use Rattle.lane_bank.specs.Bank.{column_of, lanes_after}
use Rattle.machine_table.specs.Integers.{IntegerRun}
use Rattle.shown_run.specs.Trace.{Trace, did, showed, printed, went_on, ended, damaged, corrections_of, ends_as, is_among, is_corrected, operations_of, prints_of}
use Rattle.shown_run.specs.Runs.{Decoding, faulty, plain}
use Rattle.fault_run.specs.Moments.{HoldUnnamed, HoldUnnamedThrough, IsDamaged, ShowsUnnamed}
use Rattle.fault_run.specs.Telling.{IsRightUnnamed, TellsEach}
use Rattle.fault_run.proofs.RightLanes.{AreRightLanes}
use Rattle.fault_run.proofs.ShownRuns.{IsKept, Saying}

-- a trace prints a front of another, and where no damage stops it does and prints what that does, and ends so
pub record IsFrontOf (whole trace : Trace) : Type 0 where
  pub unprinted : List ℤ
  pub front : prints_of whole ≡ prints_of trace ++ unprinted
  pub prints : ¬ IsDamaged trace → prints_of trace ≡ prints_of whole
  pub operations : ¬ IsDamaged trace → operations_of trace ≡ operations_of whole
  pub ending : ¬ IsDamaged trace → (run : IntegerRun) → ends_as whole run → ends_as trace run

module _ (decode : Decoding) (set : ModuliSet) (words : ℕ) (book : Book) where
  -- ---- the fault run of the plain trace
  abbrev pub IsFaulty : Saying
  IsFaulty acts at lanes trace = trace ≡ faulty decode book (plain set.moduli acts at) lanes

  pub faulty_kept : IsKept decode set words book IsFaulty
  faulty_kept = record {
    issues = λ op acts at lanes more right h. ap (did op) h;
    tells = λ place acts at lanes more right is told h.
        let column = column_of book place lanes in
        let told_so : ℤ → Trace = λ y. showed place column y (faulty decode book (plain set.moduli (acts (at place)) at) (lanes_after book (Show place) lanes)) in
        ap (showed place column (at place)) h ∙ ap (λ (o : Option ℤ). option_map_or told_so o (damaged place column)) (sym told);
    stops = λ place acts at lanes right right_after is none.
        let column = column_of book place lanes in
        let told_so : ℤ → Trace = λ y. showed place column y (faulty decode book (plain set.moduli (acts (at place)) at) (lanes_after book (Show place) lanes)) in
        ap (λ (o : Option ℤ). option_map_or told_so o (damaged place column)) (sym none);
    prints = λ x acts at lanes more h. ap (printed x) h;
    goes = λ control at lanes right. refl;
    ends = λ end at lanes right. refl;
  }

  -- ---- lanes and columns
  hold : (at : Place → ℤ) (lanes : List LaneState) → AreRightLanes set words book at lanes → HoldUnnamed set book lanes at
  hold at lanes right = λ channel inside unnamed. (right.each channel inside).holds unnamed

  abbrev pub HoldsThrough : Saying
  HoldsThrough acts at lanes trace = HoldUnnamedThrough set book (operations_of trace) lanes at

  pub holds_kept : IsKept decode set words book HoldsThrough
  holds_kept = record {
    issues = λ op acts at lanes more right h. (hold at lanes right, h);
    tells = λ place acts at lanes more right is told h. (hold at lanes right, h);
    stops = λ place acts at lanes right right_after is none. (hold at lanes right, hold at (lanes_after book (Show place) lanes) right_after);
    prints = λ x acts at lanes more h. h;
    goes = λ control at lanes right. hold at lanes right;
    ends = λ end at lanes right. hold at lanes right;
  }

  abbrev pub ShowsRight : Saying
  ShowsRight acts at lanes trace = ShowsUnnamed set book trace

  pub shows_kept : IsKept decode set words book ShowsRight
  shows_kept = record {
    issues = λ op acts at lanes more right h. h;
    tells = λ place acts at lanes more right is told h. (is, h);
    stops = λ place acts at lanes right right_after is none. tt;
    prints = λ x acts at lanes more h. h;
    goes = λ control at lanes right. tt;
    ends = λ end at lanes right. tt;
  }

  -- ---- a front of the plain trace
  abbrev pub Fronts : Saying
  Fronts acts at lanes trace = IsFrontOf (plain set.moduli acts at) trace

  pub fronts_kept : IsKept decode set words book Fronts
  fronts_kept = record {
    issues = λ op acts at lanes more right h. record {
      unprinted = h.unprinted;
      front = h.front;
      prints = h.prints;
      operations = λ whole. ap (λ ops. op ∷ ops) (h.operations whole);
      ending = h.ending;
    };
    tells = λ place acts at lanes more right is told h. record {
      unprinted = h.unprinted;
      front = h.front;
      prints = h.prints;
      operations = λ whole. ap (λ ops. Show place ∷ ops) (h.operations whole);
      ending = h.ending;
    };
    stops = λ place acts at lanes right right_after is none. record {
      unprinted = prints_of (plain set.moduli (acts (at place)) at);
      front = refl;
      prints = λ whole. absurd (whole tt);
      operations = λ whole. absurd (whole tt);
      ending = λ whole. absurd (whole tt);
    };
    prints = λ x acts at lanes more h. record {
      unprinted = h.unprinted;
      front = ap (λ xs. x ∷ xs) h.front;
      prints = λ whole. ap (λ xs. x ∷ xs) (h.prints whole);
      operations = h.operations;
      ending = h.ending;
    };
    goes = λ control at lanes right. record { unprinted = []; front = refl; prints = λ whole. refl; operations = λ whole. refl; ending = λ whole run h. h };
    ends = λ end at lanes right. record { unprinted = []; front = refl; prints = λ whole. refl; operations = λ whole. refl; ending = λ whole run h. h };
  }

  -- ---- where each integer is told
  abbrev pub Undamaged : Saying
  Undamaged acts at lanes trace = ¬ IsDamaged trace

  none_is_some : (x : ℤ) → None ≡ Some x → ⊥
  none_is_some x h = cc

  pub undamaged_kept : TellsEach decode set book → IsKept decode set words book Undamaged
  undamaged_kept each = record {
    issues = λ op acts at lanes more right h. h;
    tells = λ place acts at lanes more right is told h. h;
    stops = λ place acts at lanes right right_after is none damage. none_is_some (at place) (sym none ∙ each (column_of book place lanes) (at place) is);
    prints = λ x acts at lanes more h. h;
    goes = λ control at lanes right damage. damage;
    ends = λ end at lanes right damage. damage;
  }

-- ---- corrections
zero_suc : (p : ℕ) → (0 == suc p) ≡ false
zero_suc p = grind (arith, nat_tests)

suc_zero : (k : ℕ) → (suc k == 0) ≡ false
suc_zero k = grind (arith, nat_tests)

suc_suc : (k p : ℕ) → (suc k == suc p) ≡ (k == p)
suc_suc k p = grind (arith, nat_tests)

zero_not : (places : List ℕ) → is_among 0 (map suc places) ≡ false
zero_not [] = refl
zero_not (p ∷ places) = ap (λ t. t || is_among 0 (map suc places)) (zero_suc p) ∙ zero_not places

suc_among : (k : ℕ) (places : List ℕ) → is_among (suc k) (map suc places) ≡ is_among k places
suc_among k [] = refl
suc_among k (p ∷ places) = ap (λ t. t || is_among (suc k) (map suc places)) (suc_suc k p) ∙ ap (λ t. (k == p) || t) (suc_among k places)

first_zero : (t : Bool) (places : List ℕ) → t ≡ true → is_among 0 ((if t then [] else (0 ∷ [])) ++ map suc places) ≡ false
first_zero true places h = zero_not places
first_zero false places h = cc

first_suc : (t : Bool) (k : ℕ) (places : List ℕ) → is_among (suc k) ((if t then [] else (0 ∷ [])) ++ map suc places) ≡ is_among k places
first_suc true k places = suc_among k places
first_suc false k places = ap (λ t. t || is_among (suc k) (map suc places)) (suc_zero k) ∙ suc_among k places

-- a place in which lists agree is none of those in which they differ
agreeing : (erased : Option ℕ) (xs ys : List ℕ) (k : ℕ) → (k < length xs → slice_index xs k ≡ slice_index ys k) → is_among k (different_places erased xs ys) ≡ false
agreeing erased [] ys k h = refl
agreeing erased (x ∷ xs) [] k h = refl
agreeing None (x ∷ xs) (y ∷ ys) zero h = first_zero (x == y) (different_places None xs ys) (eq-eqb x y (h (omega arith)))
agreeing None (x ∷ xs) (y ∷ ys) (suc k) h = first_suc (x == y) k (different_places None xs ys) ∙ agreeing None xs ys k (λ l. h (omega (arith, l)))
agreeing (Some zero) (x ∷ xs) (y ∷ ys) zero h = zero_not (different_places None xs ys)
agreeing (Some zero) (x ∷ xs) (y ∷ ys) (suc k) h = suc_among k (different_places None xs ys) ∙ agreeing None xs ys k (λ l. h (omega (arith, l)))
agreeing (Some (suc i)) (x ∷ xs) (y ∷ ys) zero h = first_zero (x == y) (different_places (Some i) xs ys) (eq-eqb x y (h (omega arith)))
agreeing (Some (suc i)) (x ∷ xs) (y ∷ ys) (suc k) h = first_suc (x == y) k (different_places (Some i) xs ys) ∙ agreeing (Some i) xs ys k (λ l. h (omega (arith, l)))

module _ (erased : Option ℕ) (set : ModuliSet) (book : Book) (channel : ℕ) (unnamed : is_faulty book channel ≡ false) where
  right_residue : (column : List ℕ) (x : ℤ) → IsRightUnnamed set book column x → is_corrected erased set channel column x ≡ false
  right_residue column x right =
      agreeing erased (vector_of set.moduli x) column channel
      (λ inside. sym (right channel (omega (arith, inside, length-map set.moduli (residue x))) unnamed))

  pub uncorrected : (trace : Trace) → ShowsUnnamed set book trace → corrections_of erased set trace channel ≡ 0
  uncorrected (did op more) h = uncorrected more h
  uncorrected (showed place column x more) h =
      ap (λ t. cond t 1 0 + corrections_of erased set more channel) (right_residue column x h.0.right)
      ∙ omega (arith, uncorrected more h.1)
  uncorrected (printed x more) h = uncorrected more h
  uncorrected (went_on control) h = refl
  uncorrected (ended end) h = refl
  uncorrected (damaged place column) h = refl
