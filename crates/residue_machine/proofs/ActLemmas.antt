-- How acts are performed: one operation or Show, and then the acts that follow.
use Rattle.std.proofs.Common.{◌≡◌, ℕ, ◌+◌, ℤ, Bool, true, false, List, [], ◌∷◌, Option, None, Some, cond, refl, sym, ap, subst, arith}
use Rattle.std.specs.Prelude.{IsSome, is_some, not, unsigned_abs}
use Rattle.std.specs.Int.{w128}
use Rattle.std.specs.Int.RustNames.{FitsSigned}
use Rattle.std.specs.Option.{option_map_or}
use Rattle.std.proofs.lemmas.Int.{to_z-of_z}
use mir.Val.{to_z, of_z}
use Rattle.moduli_sets.specs.Set.{ModuliSet}
use Rattle.moduli_sets.specs.declared.kind.Kind.{Kind}
use Rattle.moduli_sets.specs.declared.kind.Kind.TheVariants.{Index, InputRange, Range}
use Rattle.channel_alu.specs.declared.operation.Place.{Place}
use Rattle.channel_alu.specs.declared.operation.Place.TheVariants.{Reg, Word}
use Rattle.channel_alu.specs.declared.operation.MicroOp.{MicroOp}
use Rattle.channel_alu.specs.declared.operation.MicroOp.TheVariants.{Put, Show}
use Rattle.lane_bank.specs.Bank.{lanes_after}
use Rattle.machine_table.specs.Control.{Control, next, at_place, halts, lies_in, traps, with_input}
use Rattle.channel_scheduler.specs.declared.rack.Rack.{Ghosts as RackGhosts}
use Rattle.machine_table.specs.Integers.{is_index}
use Rattle.micro_plan.specs.ActTree.{Acts, issue, ask, go_on, end_by}
use Rattle.micro_plan.specs.Acts.{element_acts, issues, read_acts}
use Rattle.shown_run.specs.Trace.{Trace, did, showed, damaged, corrections_of, ending_of, is_corrected, operations_of}
use Rattle.shown_run.specs.Runs.{shown}
use Rattle.residue_machine.specs.declared.channels.Told.TheVariants.{Integer, Bad}
use Rattle.residue_machine.specs.declared.outcome.Outcome.{Outcome}
use Rattle.residue_machine.specs.declared.outcome.Outcome.TheVariants.{Next, To, End}
use Rattle.residue_machine.specs.declared.ending.Ended.TheVariants as ended
use Rattle.residue_machine.specs.Bench.{Bench, IsTold, Performed, column_at}
use Rattle.residue_machine.specs.Machine.{decoding_of}
use Rattle.residue_machine.specs.Outcomes.{Came, ComesTo, GoesOn, ending_by, trace_of}
use Rattle.residue_machine.proofs.BenchLemmas.{Performed-none, Performed-same, Performed-then}

-- an operation that writes shows nothing
pub is_silent : (o : Option Place) → IsSome o → not (is_some o) ≡ false
is_silent None h = sym h
is_silent (Some to) h = refl

-- a test of numbers as the program has them
pub lies_in-said : (low high x : ℤ) (said t : Bool) → FitsSigned w128 low → FitsSigned w128 high → FitsSigned w128 x → said ≡ lies_in (to_z w128 (of_z w128 low)) (to_z w128 (of_z w128 high)) (to_z w128 (of_z w128 x)) → said ≡ t → lies_in low high x ≡ t
lies_in-said low high x said t fits_low fits_high fits is e =
    cc (is, e, to_z-of_z w128 low fits_low, to_z-of_z w128 high fits_high, to_z-of_z w128 x fits)

module _ {R D : Type 0} (racks : RackGhosts R) (reach : ModuliSet → ℕ) (gone : Option ℕ) where
  -- ---- traces
  came-did : (op : MicroOp) (t : Trace) (control : Control) (old mid new : Bench R D) (outcome : Outcome) → Performed racks racks.IsUnderWay (op ∷ []) (λ i. 0) old mid → Came racks reach gone t mid.issued control mid outcome new → Came racks reach gone (did op t) old.issued control old outcome new
  came-did op t control old mid new outcome first rest = record {
    channels = Performed-then racks racks.IsUnderWay (op ∷ []) (operations_of t) (λ i. 0) (corrections_of gone mid.set t) (corrections_of gone old.set (did op t)) old mid new
        (λ i.
        let same : corrections_of gone old.set t i ≡ corrections_of gone mid.set t i = ap (λ (s : ModuliSet). corrections_of gone s t i) (sym first.set) in
        omega (arith, same)) first rest.channels;
    control_is = rest.control_is;
    prints = rest.prints;
    ending = subst (λ n. ending_of n t ≡ ending_by outcome) first.issued rest.ending;
  }

  came-showed : (place : Place) (column : List ℕ) (x : ℤ) (t : Trace) (control : Control) (old mid new : Bench R D) (outcome : Outcome) → Performed racks racks.IsUnderWay (Show place ∷ []) (λ i. cond (is_corrected gone old.set i column x) 1 0) old mid → Came racks reach gone t mid.issued control mid outcome new → Came racks reach gone (showed place column x t) old.issued control old outcome new
  came-showed place column x t control old mid new outcome first rest = record {
    channels = Performed-then racks racks.IsUnderWay (Show place ∷ []) (operations_of t) (λ i. cond (is_corrected gone old.set i column x) 1 0) (corrections_of gone mid.set t) (corrections_of gone old.set (showed place column x t)) old mid new
        (λ i. ap (λ (s : ModuliSet). cond (is_corrected gone old.set i column x) 1 0 + corrections_of gone s t i) (sym first.set)) first rest.channels;
    control_is = rest.control_is;
    prints = rest.prints;
    ending = subst (λ n. ending_of n t ≡ ending_by outcome) first.issued rest.ending;
  }

  -- ---- acts
  pub comes-issue : (op : MicroOp) (acts : Acts) (control : Control) (old mid new : Bench R D) (outcome : Outcome) → Performed racks racks.IsUnderWay (op ∷ []) (λ i. 0) old mid → ComesTo racks reach gone acts control mid outcome new → ComesTo racks reach gone (issue op acts) control old outcome new
  comes-issue op acts control old mid new outcome first rest =
      subst (λ (t : Trace). Came racks reach gone (did op t) old.issued control old outcome new)
      (Performed-same racks reach gone (λ decode book set code lanes. shown decode book acts lanes) old mid first)
      (came-did op (trace_of racks reach gone acts mid) control old mid new outcome first rest)

  pub comes-ask : (place : Place) (acts : ℤ → Acts) (x : ℤ) (control : Control) (old mid new : Bench R D) (outcome : Outcome) → IsTold racks reach gone place old (Integer x) mid → ComesTo racks reach gone (acts x) control mid outcome new → ComesTo racks reach gone (ask place acts) control old outcome new
  comes-ask place acts x control old mid new outcome told rest =
      let column = column_at racks place old in
      let f : ℤ → Trace = λ y. showed place column y (shown (decoding_of racks reach gone old) (racks.book_of old.rack) (acts y) (lanes_after (racks.book_of old.rack) (Show place) (racks.lanes_of old.rack))) in
      subst (λ (o : Option ℤ). Came racks reach gone (option_map_or f o (damaged place column)) old.issued control old outcome new) (sym told.0)
      (subst (λ (t : Trace). Came racks reach gone (showed place column x t) old.issued control old outcome new)
      (Performed-same racks reach gone (λ decode book set code lanes. shown decode book (acts x) lanes) old mid told.1)
      (came-showed place column x (trace_of racks reach gone (acts x) mid) control old mid new outcome told.1 rest))

  pub comes-bad : (place : Place) (acts : ℤ → Acts) (column : List ℕ) (n : ℕ) (control : Control) (old new : Bench R D) → IsTold racks reach gone place old (Bad column) new → n ≡ old.issued → ComesTo racks reach gone (ask place acts) control old (End (ended.Damage n column)) new
  comes-bad place acts column n control old new told at =
      let here = column_at racks place old in
      let f : ℤ → Trace = λ y. showed place here y (shown (decoding_of racks reach gone old) (racks.book_of old.rack) (acts y) (lanes_after (racks.book_of old.rack) (Show place) (racks.lanes_of old.rack))) in
      let whole : Came racks reach gone (damaged place here) old.issued control old (End (ended.Damage old.issued here)) new =
      record { channels = told.2; control_is = refl; prints = refl; ending = refl } in
      subst (λ (m : ℕ). ComesTo racks reach gone (ask place acts) control old (End (ended.Damage m column)) new) (sym at)
      (subst (λ (v : List ℕ). ComesTo racks reach gone (ask place acts) control old (End (ended.Damage old.issued v)) new) (sym told.1)
      (subst (λ (o : Option ℤ). Came racks reach gone (option_map_or f o (damaged place here)) old.issued control old (End (ended.Damage old.issued here)) new) (sym told.0) whole))

  pub comes-next : (control : Control) (b : Bench R D) → ComesTo racks reach gone (go_on (next control)) control b Next b
  comes-next control b = record { channels = Performed-none racks b; control_is = refl; prints = refl; ending = refl }

  pub comes-to : (target : ℕ) (control : Control) (b : Bench R D) → ComesTo racks reach gone (go_on (at_place target control)) control b (To target) b
  comes-to target control b = record { channels = Performed-none racks b; control_is = refl; prints = refl; ending = refl }

  pub comes-halt : (control : Control) (b : Bench R D) → ComesTo racks reach gone (end_by halts) control b (End ended.Halt) b
  comes-halt control b = record { channels = Performed-none racks b; control_is = refl; prints = refl; ending = refl }

  pub comes-trap : (kind : Kind) (line : ℕ) (control : Control) (b : Bench R D) → ComesTo racks reach gone (end_by (traps kind line)) control b (End (ended.Trap kind line)) b
  comes-trap kind line control b = record { channels = Performed-none racks b; control_is = refl; prints = refl; ending = refl }

  -- ---- integers of registers
  pub comes-both : (a b : ℕ) (acts : ℤ → ℤ → Acts) (x y : ℤ) (control : Control) (old mid new last : Bench R D) (outcome : Outcome) → IsTold racks reach gone (Reg a) old (Integer x) mid → IsTold racks reach gone (Reg b) mid (Integer y) new → ComesTo racks reach gone (acts x y) control new outcome last → ComesTo racks reach gone (ask (Reg a) (λ x. ask (Reg b) (acts x))) control old outcome last
  comes-both a b acts x y control old mid new last outcome first second rest =
      comes-ask (Reg a) (λ x. ask (Reg b) (acts x)) x control old mid last outcome first
      (comes-ask (Reg b) (acts x) y control mid new last outcome second rest)

  -- the element of a block, by an index that lies in it
  pub comes-element : (copy : Place → MicroOp) (b p q line : ℕ) (x : ℤ) (word : ℕ) (control : Control) (old new last : Bench R D) (outcome : Outcome) → IsTold racks reach gone (Reg b) old (Integer x) new → is_index q x ≡ true → word ≡ p + unsigned_abs x → ComesTo racks reach gone (issues (copy (Word word)) control) control new outcome last → ComesTo racks reach gone (element_acts copy b p q line control) control old outcome last
  comes-element copy b p q line x word control old new last outcome told inside at rest =
      comes-ask (Reg b) (λ z. cond (is_index q z) (issues (copy (Word (p + unsigned_abs z))) control) (end_by (traps Index line))) x control old new last outcome told
      (subst (λ (t : Bool). ComesTo racks reach gone (cond t (issues (copy (Word (p + unsigned_abs x))) control) (end_by (traps Index line))) control new outcome last) (sym inside)
      (subst (λ (w : ℕ). ComesTo racks reach gone (issues (copy (Word w)) control) control new outcome last) at rest))

  -- an outcome by which control goes on somewhere
  pub comes-went : (outcome : Outcome) (control after : Control) (b : Bench R D) → GoesOn outcome control after → ComesTo racks reach gone (go_on after) control b outcome b
  comes-went outcome control after b h = record { channels = Performed-none racks b; control_is = sym h.control_is; prints = sym h.prints; ending = sym h.ending }

  -- acts by what a test says
  pub comes-test : (t u : Bool) (met other : Acts) (control : Control) (old new : Bench R D) (outcome : Outcome) → t ≡ u → ComesTo racks reach gone (cond u met other) control old outcome new → ComesTo racks reach gone (cond t met other) control old outcome new
  comes-test t u met other control old new outcome e h = subst (λ (b : Bool). ComesTo racks reach gone (cond b met other) control old outcome new) (sym e) h

  -- a check of a register whose integer is x
  pub comes-check : (a : ℕ) (low high x : ℤ) (line : ℕ) (t : Bool) (control : Control) (old new : Bench R D) (outcome : Outcome) → IsTold racks reach gone (Reg a) old (Integer x) new → lies_in low high x ≡ t → ComesTo racks reach gone (cond t (go_on (next control)) (end_by (traps Range line))) control new outcome new → ComesTo racks reach gone (ask (Reg a) (λ y. cond (lies_in low high y) (go_on (next control)) (end_by (traps Range line)))) control old outcome new
  comes-check a low high x line t control old new outcome told test h =
      comes-ask (Reg a) (λ y. cond (lies_in low high y) (go_on (next control)) (end_by (traps Range line))) x control old new new outcome told
      (comes-test (lies_in low high x) t (go_on (next control)) (end_by (traps Range line)) control new new outcome test h)

  -- the next number of the input is x
  pub comes-read : (a : ℕ) (low high x : ℤ) (line : ℕ) (rest input : List ℤ) (t : Bool) (old control : Control) (b new : Bench R D) (outcome : Outcome) → input ≡ x ∷ rest → lies_in low high x ≡ t → ComesTo racks reach gone (cond t (issues (Put (Reg a) x) (with_input rest old)) (end_by (traps InputRange line))) control b outcome new → ComesTo racks reach gone (read_acts a low high line input old) control b outcome new
  comes-read a low high x line rest input t old control b new outcome is test h =
      subst (λ (xs : List ℤ). ComesTo racks reach gone (read_acts a low high line xs old) control b outcome new) (sym is)
      (comes-test (lies_in low high x) t (issues (Put (Reg a) x) (with_input rest old)) (end_by (traps InputRange line)) control b new outcome test h)
