-- What the channels keep, and how operations one after another are put together.
use Rattle.std.proofs.Common.{◌≡◌, ℕ, ◌+◌, ◌<◌, ◌≤◌, ◌^◌, ◌==◌, ◌||◌, cond, true, false, List, [], ◌∷◌, ◌++◌, length, slice_index, All, Contains, Option, None, Some, append_assoc, append-nil, refl, sym, ap, ◌∙◌, subst, arith, inl, inr, ℤ}
use Rattle.std.proofs.lemmas.Bool.{eq-eqb, ne_eqb, cases_eq}
use Rattle.std.proofs.lemmas.List.{length-append, length-map, length-set, get_or-set_same, get_or-set_other}
use Rattle.std.proofs.Math.ListN.{set as set_at}
use Rattle.std.proofs.lemmas.List.Elements.{All-weaker, All-get_or, All-set}
use Rattle.number_theory.specs.Residue.{AreResidues, residue}
use Rattle.number_theory.specs.Distance.{distance}
use Rattle.moduli_sets.specs.Set.{ModuliSet, IsModuliSet, radius}
use Rattle.moduli_sets.specs.Vector.{vector_of}
use Rattle.redundant_decoder.specs.Nearest.{IsNearest, different_places}
use Rattle.redundant_decoder.specs.Verdict.{IsCorrection, IsVerdict}
use Rattle.redundant_decoder.specs.declared.decoder.Verdict.{Verdict}
use Rattle.redundant_decoder.specs.declared.decoder.Verdict.TheVariants.{Clean, Corrected, Damaged}
use Rattle.redundant_decoder.proofs.DistanceLemmas.{distance-self, length-different_places}
use Rattle.redundant_decoder.proofs.DifferenceLemmas.{different_places-are}
use Rattle.redundant_decoder.proofs.VerdictLemmas.{length-vector, same_nearest, IsNearest-clean}
use Rattle.channel_alu.specs.declared.operation.Place.{Place}
use Rattle.channel_alu.specs.declared.operation.MicroOp.{MicroOp}
use Rattle.channel_alu.specs.declared.operation.MicroOp.TheVariants.{Show}
use Rattle.fault_book.specs.Book.{Book}
use Rattle.channel_lane.specs.Meaning.{CanPerform}
use Rattle.channel_lane.specs.Lane.{LaneState}
use Rattle.machine_table.specs.declared.instr.Instr.{Instr}
use Rattle.lane_bank.specs.Bank.{AllCanPerform, column_of, lanes_after, lanes_after_all, lanes_at_start}
use Rattle.lane_bank.proofs.BankLemmas.{AreResidues-column, CanPerform-lanes, answers-lanes, lanes_after_all-more, lanes_after_all-none, lanes_after_all-parts}
use Rattle.channel_scheduler.specs.Rack.{HasRoom}
use Rattle.channel_scheduler.specs.declared.rack.Rack.{Ghosts as RackGhosts}
use Rattle.redundant_decoder.specs.declared.decoder.Decoder.{Ghosts as DecoderGhosts}
use Rattle.shown_run.specs.Decoded.{nearest}
use Rattle.shown_run.specs.Trace.{is_among, is_corrected}
use Rattle.shown_run.specs.Runs.{Decoding}
use Rattle.shown_run.proofs.NearestLemmas.{IsNearest-nearest}
use Rattle.residue_machine.specs.Machine.{decoding_of}
use Rattle.residue_machine.specs.Bench.{Bench, HasCome, HasShown, IsBench, IsTold, Performed, column_at}
use Rattle.residue_machine.specs.declared.channels.Told.TheVariants.{Integer, Bad}

-- ---- the nearest integer of a column
some_is : (t : ℕ) (erased : Option ℕ) (set : ModuliSet) (v : List ℕ) (x : ℤ) (o : Option ℤ) → IsModuliSet set → AreResidues set.moduli v → t ≤ radius set → IsNearest t erased set v (Some x) → IsNearest t erased set v o → o ≡ Some x
some_is t erased set v x None rules residues small is h = absurd (h x is)
some_is t erased set v x (Some y) rules residues small is h = ap Some (same_nearest set t erased v y x rules residues small h is)

none_is : (t : ℕ) (erased : Option ℕ) (set : ModuliSet) (v : List ℕ) (o : Option ℤ) → IsNearest t erased set v None → IsNearest t erased set v o → o ≡ None
none_is t erased set v None is h = refl
none_is t erased set v (Some y) is h = absurd (is y h)

pub nearest-some : (set : ModuliSet) (v : List ℕ) (x : ℤ) → IsModuliSet set → AreResidues set.moduli v → IsNearest (radius set) None set v (Some x) → nearest (radius set) None set v ≡ Some x
nearest-some set v x rules residues is =
    some_is (radius set) None set v x (nearest (radius set) None set v) rules residues (omega arith) is (IsNearest-nearest (radius set) None set v)

nearest-none : (set : ModuliSet) (v : List ℕ) → IsNearest (radius set) None set v None → nearest (radius set) None set v ≡ None
nearest-none set v is = none_is (radius set) None set v (nearest (radius set) None set v) is (IsNearest-nearest (radius set) None set v)

-- ---- what a column corrects
no_places : (ps : List ℕ) (i : ℕ) → length ps ≡ 0 → is_among i ps ≡ false
no_places [] i e = refl
no_places (p ∷ ps) i e = absurd (omega arith)

pub not_corrected : (set : ModuliSet) (v : List ℕ) (x : ℤ) (i : ℕ) → v ≡ vector_of set.moduli x → is_corrected None set i v x ≡ false
not_corrected set v x i e =
    let w = vector_of set.moduli x in
    no_places (different_places None w v) i (length-different_places None w v ∙ ap (distance w) e ∙ distance-self w)

is_alone : (i k : ℕ) (ps : List ℕ) → ps ≡ k ∷ [] → is_among i ps ≡ (i == k)
is_alone i k ps e = ap (is_among i) e ∙ or_no (i == k) where
  or_no : (b : _) → (b || false) ≡ b
  or_no true = refl
  or_no false = refl

-- the channel that is corrected is one of the set
corrected_in : (set : ModuliSet) (t : ℕ) (v : List ℕ) (x : ℤ) (k : ℕ) → AreResidues set.moduli v → IsCorrection t None set v x k → k < length set.moduli
corrected_in set t v x k residues correction =
    let w = vector_of set.moduli x in
    let among : Contains (different_places None w v) k = subst (λ ps. Contains ps k) (sym correction.places) (0, omega arith, refl) in
    let differ = (different_places-are None w v k (length-vector set.moduli v x residues)).0 among in
    omega (arith, differ.inside, length-map set.moduli (residue x))

-- one more in place k
counted_more : (xs : List ℕ) (k i : ℕ) → k < length xs → slice_index (set_at xs k (slice_index xs k + 1)) i ≡ slice_index xs i + cond (i == k) 1 0
counted_more xs k i h =
    elim (cases_eq i k) [
      | inl e ↦
          ap (λ j. slice_index (set_at xs k (slice_index xs k + 1)) j) e
          ∙ get_or-set_same xs k (slice_index xs k + 1) 0 h
          ∙ sym (ap (λ b. slice_index xs i + cond b 1 0) (eq-eqb i k e) ∙ ap (λ j. slice_index xs j + 1) e)
      | inr other ↦
          get_or-set_other xs k i (slice_index xs k + 1) 0 other
          ∙ sym (ap (λ b. slice_index xs i + cond b 1 0) (ne_eqb i k other) ∙ omega arith)
    ]

-- what a rack owes of an operation
module _ {R : Type 0} (racks : RackGhosts R) where
  pub record HasDone (op : MicroOp) (old new : R) : Type 0 where
    pub book : racks.book_of new ≡ racks.book_of old
    pub plan : racks.plan_of new ≡ racks.plan_of old
    pub lanes : racks.lanes_of new ≡ lanes_after (racks.book_of old) op (racks.lanes_of old)
    pub run : (start : List LaneState) (before : List MicroOp) → racks.IsUnderWay old start before → racks.IsUnderWay new start (before ++ op ∷ [])

module _ {R D : Type 0} (racks : RackGhosts R) where
  -- ---- what the lanes can do
  pub can : (b now : Bench R D) (op : MicroOp) → b ≡ now → HasCome racks b → CanPerform (length now.start) (length now.set.moduli) op → AllCanPerform (racks.lanes_of b.rack) op
  can b now op same come h =
      subst (λ lanes. AllCanPerform lanes op) (sym come.lanes)
      (CanPerform-lanes (racks.book_of b.rack) b.set 0 b.start come.ops op (subst (λ (k : Bench R D). CanPerform (length k.start) (length k.set.moduli) op) (sym same) h))

  pub room : (b now : Bench R D) → b ≡ now → HasCome racks b → now.issued < 10 ^ 18 → HasRoom (racks.lanes_of b.rack)
  room b now same come h =
      let own : b.issued < 10 ^ 18 = subst (λ (k : Bench R D). k.issued < 10 ^ 18) (sym same) h in
      let count = come.count in
      let lanes = lanes_after_all (racks.book_of b.rack) come.ops (lanes_at_start b.set 0 b.start) in
      subst HasRoom (sym come.lanes)
      (All-weaker (λ lane. lane.answers ≡ length come.ops) (λ lane. lane.answers < 10 ^ 18) (λ lane e. omega (arith, e, count, own)) lanes
      (answers-lanes (racks.book_of b.rack) b.set 0 b.start come.ops))

  residues : (b : Bench R D) (place : Place) → IsModuliSet b.set → HasCome racks b → AreResidues b.set.moduli (column_at racks place b)
  residues b place rules come =
      subst (λ lanes. AreResidues b.set.moduli (column_of (racks.book_of b.rack) place lanes)) (sym come.lanes)
      (AreResidues-column (racks.book_of b.rack) b.set b.start come.ops (Show place) rules)

  -- ---- an operation more
  -- the channels after it
  abbrev pub bench_with : R → Bench R D → Bench R D
  bench_with rack b = record b { rack = rack; issued = b.issued + 1 }

  come_more : (b : Bench R D) (op : MicroOp) (rack : R) → HasDone racks op b.rack rack → HasCome racks b → HasCome racks (bench_with rack b)
  come_more b op rack done come =
      let start = lanes_at_start b.set 0 b.start in
      let count = come.count in
      record {
        ops = come.ops ++ op ∷ [];
        count = omega (arith, length-append come.ops (op ∷ []), count);
        lanes = lanes_after_all-more (racks.book_of b.rack) come.ops op start (racks.lanes_of b.rack) (racks.lanes_of rack) come.lanes done.lanes
            ∙ ap (λ book. lanes_after_all book (come.ops ++ op ∷ []) start) (sym done.book);
      }

  pub IsBench-more : (decoders : DecoderGhosts D) (b : Bench R D) (op : MicroOp) (rack : R) → HasDone racks op b.rack rack → IsBench racks decoders b → IsBench racks decoders (bench_with rack b)
  IsBench-more decoders b op rack done is = record {
    rules = is.rules;
    sound = is.sound;
    decodes = is.decodes;
    come = come_more b op rack done is.come;
    counts = is.counts;
    few = All-weaker (λ n. n ≤ b.issued) (λ n. n ≤ b.issued + 1) (λ n h. omega arith) b.corrections is.few;
  }

  Performed-issue : (b : Bench R D) (op : MicroOp) (rack : R) → HasDone racks op b.rack rack → Performed racks racks.IsUnderWay (op ∷ []) (λ i. 0) b (bench_with rack b)
  Performed-issue b op rack done = record {
    set = refl;
    code = refl;
    start = refl;
    decoder = refl;
    book = done.book;
    plan = done.plan;
    lanes = lanes_after_all-more (racks.book_of b.rack) [] op (racks.lanes_of b.rack) (racks.lanes_of b.rack) (racks.lanes_of rack)
        (sym (lanes_after_all-none (racks.book_of b.rack) (racks.lanes_of b.rack))) done.lanes;
    issued = refl;
    counts = refl;
    corrections = λ i h. omega arith;
    run = done.run;
  }

  pub shown-one : (decoders : DecoderGhosts D) (b : Bench R D) (place : Place) (rack : R) (column : List ℕ) → HasDone racks (Show place) b.rack rack → column ≡ column_at racks place b → IsBench racks decoders b → HasShown racks place b column (bench_with rack b)
  shown-one decoders b place rack column done e is = record {
    is_column = e;
    residues = subst (AreResidues b.set.moduli) (sym e) (residues b place is.rules is.come);
    few = All-weaker (λ n. n ≤ b.issued) (λ n. n < b.issued + 1) (λ n h. omega arith) b.corrections is.few;
    performed = Performed-issue b (Show place) rack done;
  }

  -- operations in which columns were corrected, where nothing was counted before
  Performed-counted : (ops : List MicroOp) (corrected : ℕ → ℕ) (counts : List ℕ) (old mid : Bench R D) → Performed racks racks.IsUnderWay ops (λ i. 0) old mid → length counts ≡ length mid.corrections → ((i : ℕ) → i < length mid.corrections → slice_index counts i ≡ slice_index mid.corrections i + corrected i) → Performed racks racks.IsUnderWay ops corrected old (record mid { corrections = counts })
  Performed-counted ops corrected counts old mid h long each = record {
    set = h.set;
    code = h.code;
    start = h.start;
    decoder = h.decoder;
    book = h.book;
    plan = h.plan;
    lanes = h.lanes;
    issued = h.issued;
    counts = long ∙ h.counts;
    corrections = λ i inside.
        let same = h.counts in
        let before = h.corrections i inside in
        let after = each i (omega (arith, inside, same)) in
        omega (arith, before, after);
    run = h.run;
  }

  -- ---- operations, and then others
  pub Performed-none : (b : Bench R D) → Performed racks racks.IsUnderWay [] (λ i. 0) b b
  Performed-none b = record {
    set = refl;
    code = refl;
    start = refl;
    decoder = refl;
    book = refl;
    plan = refl;
    lanes = sym (lanes_after_all-none (racks.book_of b.rack) (racks.lanes_of b.rack));
    issued = omega arith;
    counts = refl;
    corrections = λ i h. omega arith;
    run = λ start before way. subst (racks.IsUnderWay b.rack start) (sym (append-nil before)) way;
  }

  pub Performed-then : (After : R → List LaneState → List MicroOp → Type 0) (ops more : List MicroOp) (c d e : ℕ → ℕ) (old mid new : Bench R D) → ((i : ℕ) → e i ≡ c i + d i) → Performed racks racks.IsUnderWay ops c old mid → Performed racks After more d mid new → Performed racks After (ops ++ more) e old new
  Performed-then After ops more c d e old mid new sums first then =
      let book = racks.book_of old.rack in
      record {
        set = then.set ∙ first.set;
        code = then.code ∙ first.code;
        start = then.start ∙ first.start;
        decoder = then.decoder ∙ first.decoder;
        book = then.book ∙ first.book;
        plan = then.plan ∙ first.plan;
        lanes = then.lanes
            ∙ ap (λ k. lanes_after_all k more (racks.lanes_of mid.rack)) first.book
            ∙ ap (lanes_after_all book more) first.lanes
            ∙ sym (lanes_after_all-parts book ops more (racks.lanes_of old.rack));
        issued =
            let a = first.issued in
            let b = then.issued in
            omega (arith, a, b, length-append ops more);
        counts = then.counts ∙ first.counts;
        corrections = λ i h.
            let l = first.counts in
            let a = first.corrections i h in
            let b = then.corrections i (omega (arith, l)) in
            let s = sums i in
            omega (arith, a, b, s);
        run = λ start before way.
            subst (After new.rack start) (append_assoc before ops more) (then.run start (before ++ ops) (first.run start before way));
      }

  -- what is said of a rest, from the channels that operations have left
  pub Performed-same : (reach : ModuliSet → ℕ) (gone : Option ℕ) {A : Type 0} {After : R → List LaneState → List MicroOp → Type 0} {ops : List MicroOp} {c : ℕ → ℕ} (f : Decoding → Book → ModuliSet → List Instr → List LaneState → A) (old mid : Bench R D) → Performed racks After ops c old mid → f (decoding_of racks reach gone mid) (racks.book_of mid.rack) mid.set mid.code (racks.lanes_of mid.rack) ≡ f (decoding_of racks reach gone old) (racks.book_of old.rack) old.set old.code (lanes_after_all (racks.book_of old.rack) ops (racks.lanes_of old.rack))
  Performed-same reach gone f old mid h =
      ap (λ (s : ModuliSet). f (nearest (reach s) gone s) (racks.book_of mid.rack) s mid.code (racks.lanes_of mid.rack)) h.set
      ∙ ap (λ (code : List Instr). f (decoding_of racks reach gone old) (racks.book_of mid.rack) old.set code (racks.lanes_of mid.rack)) h.code
      ∙ ap (λ (book : Book). f (decoding_of racks reach gone old) book old.set old.code (racks.lanes_of mid.rack)) h.book
      ∙ ap (f (decoding_of racks reach gone old) (racks.book_of old.rack) old.set old.code) h.lanes

  -- ---- what is told of a column
  -- the channels before they showed a place, and after it, as they are seen and by their parts
  module _ (decoders : DecoderGhosts D) (old now b : Bench R D) (place : Place) (column : List ℕ) (same : b ≡ now) (seen : HasShown racks place old column now) (is : IsBench racks decoders b) where
    shown : HasShown racks place old column b
    shown = subst (HasShown racks place old column) (sym same) seen

    pub decodable : AreResidues (decoders.set b.decoder).moduli column
    decodable = subst (λ (t : ModuliSet). AreResidues t.moduli column) (sym is.decodes) shown.residues

    -- the decoder is one of the set
    verdict_of : (verdict : Verdict) → IsVerdict (radius (decoders.set b.decoder)) None (decoders.set b.decoder) column verdict → IsVerdict (radius b.set) None b.set column verdict
    verdict_of verdict h = subst (λ (t : ModuliSet). IsVerdict (radius t) None t column verdict) is.decodes h

    -- what is so of the set and the column
    of_old : (Is : ModuliSet → List ℕ → Type 0) → Is b.set column → Is old.set (column_at racks place old)
    of_old Is h = subst (Is old.set) shown.is_column (subst (λ (t : ModuliSet). Is t column) shown.performed.set h)

    abbrev TellsOf : ℤ → Bench R D → ModuliSet → List ℕ → Type 0
    TellsOf x new t v =
        (nearest (radius t) None t v ≡ Some x) × Performed racks racks.IsUnderWay (Show place ∷ []) (λ i. cond (is_corrected None t i v x) 1 0) old new

    pub told-clean : (x : ℤ) → IsVerdict (radius (decoders.set b.decoder)) None (decoders.set b.decoder) column (Clean x) → IsTold racks radius None place old (Integer x) b
    told-clean x h =
        let own = verdict_of (Clean x) h in
        of_old (TellsOf x b) (
          nearest-some b.set column x is.rules shown.residues (IsNearest-clean b.set (radius b.set) None column x own.0 own.1),
          Performed-counted (Show place ∷ []) (λ i. cond (is_corrected None b.set i column x) 1 0) b.corrections old b shown.performed refl
              (λ i _. sym (ap (λ t. slice_index b.corrections i + cond t 1 0) (not_corrected b.set column x i own.1) ∙ omega arith)),
        )

    -- the corrected channel has a count
    pub counted : (x : ℤ) (k : ℕ) → IsVerdict (radius (decoders.set b.decoder)) None (decoders.set b.decoder) column (Corrected x k) → k < length b.corrections
    counted x k h =
        let own = corrected_in b.set (radius b.set) column x k shown.residues (verdict_of (Corrected x k) h) in
        let counts = is.counts in
        omega (arith, own, counts)

    pub told-corrected : (x : ℤ) (k : ℕ) (counts : List ℕ) → IsVerdict (radius (decoders.set b.decoder)) None (decoders.set b.decoder) column (Corrected x k) → counts ≡ set_at b.corrections k (slice_index b.corrections k + 1) → IsTold racks radius None place old (Integer x) (record b { corrections = counts })
    told-corrected x k counts h more =
        let own = verdict_of (Corrected x k) h in
        of_old (TellsOf x (record b { corrections = counts })) (
          nearest-some b.set column x is.rules shown.residues own.nearest,
          Performed-counted (Show place ∷ []) (λ i. cond (is_corrected None b.set i column x) 1 0) counts old b shown.performed (ap length more ∙ length-set b.corrections k (slice_index b.corrections k + 1))
              (λ i _. ap (λ cs. slice_index cs i) more ∙ counted_more b.corrections k i (counted x k h)
              ∙ ap (λ t. slice_index b.corrections i + cond t 1 0) (sym (is_alone i k (different_places None (vector_of b.set.moduli x) column) own.places))),
        )

    -- and the channels are channels after it
    pub IsBench-corrected : (x : ℤ) (k : ℕ) (counts : List ℕ) → IsVerdict (radius (decoders.set b.decoder)) None (decoders.set b.decoder) column (Corrected x k) → counts ≡ set_at b.corrections k (slice_index b.corrections k + 1) → IsBench racks decoders (record b { corrections = counts })
    IsBench-corrected x k counts h more =
        let inside = counted x k h in
        let here : slice_index b.corrections k < b.issued = All-get_or (λ n. n < b.issued) b.corrections k 0 inside shown.few in
        record {
          rules = is.rules;
          sound = is.sound;
          decodes = is.decodes;
          come = record { ops = is.come.ops; count = is.come.count; lanes = is.come.lanes };
          counts = ap length more ∙ length-set b.corrections k (slice_index b.corrections k + 1) ∙ is.counts;
          few = subst (All (λ n. n ≤ b.issued)) (sym more) (All-set (λ n. n ≤ b.issued) b.corrections k (slice_index b.corrections k + 1) (omega (arith, here)) is.few);
        }

    pub told-bad : IsVerdict (radius (decoders.set b.decoder)) None (decoders.set b.decoder) column Damaged → IsTold racks radius None place old (Bad column) b
    told-bad h = (of_old (λ t v. nearest (radius t) None t v ≡ None) (nearest-none b.set column (verdict_of Damaged h)), shown.is_column, shown.performed)
