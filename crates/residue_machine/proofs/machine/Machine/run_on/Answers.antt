use Rattle.std.proofs.Common.{rules, arith, ◌≡◌, ℕ, suc, ◌+◌, ◌-◌, ℤ, List, [], ◌∷◌, None, refl, sym, ap, ◌∙◌, subst}
use Rattle.std.specs.Fmt.{signed_decimal}
use Rattle.std.specs.Int.{w128}
use Rattle.std.specs.Int.RustNames.{FitsSigned}
use Rattle.std.proofs.lemmas.Int.{to_z-of_z}
use Rattle.moduli_sets.specs.Set.{radius}
use Rattle.number_text.specs.Lines.{line, print_lines}
use Rattle.outside.specs.Sink.{BrokeOff, WroteAll}
use Rattle.outside.proofs.Runs.{BrokeOff-one, WroteAll-none, WroteAll-one}
use Rattle.residue_machine.specs.declared.ending.Ending.{Ending}
use Rattle.residue_machine.specs.declared.ending.Ending.TheVariants as ending
use Rattle.residue_machine.specs.declared.ending.Stepped.{Stepped}
use Rattle.residue_machine.specs.declared.ending.Stepped.TheVariants as stepped
use Rattle.residue_machine.specs.Machine.{HasStepped, MachineState, RunsOut, ending_held, ending_of_held, machine_of, prints_by}
use Rattle.residue_machine.proofs.PutLemmas.{RunsOut-more, RunsOut-none, put-failed, run-again, run-ended, run-fresh}
use Rattle.residue_machine.proofs.StepLemmas.{step-own, still_on}
use Rattle.residue_machine.proofs.machine.Machine.run_on.Goals as goal
use Rattle.residue_machine.proofs.machine.Machine.run_on.Goals.{in-On, in-Print+in-Done}

pub returns-in-Some : goal.returns-in-Some
returns-in-Some g c =
    let s = c.self.inside in
    run-again g.R.Rack radius None g.K.Sink.puts g.K.Sink.state c.args.steps c.args.self.now (machine_of s.channels s.position s.taken s.ended) c.args.sink.now (ending_of_held c.in-Some.ended) c.ending.result c.self.view_is (ap ending_held c.in-Some.is) c.ending.ensures

pub returns-in-Failed : goal.returns-in-Failed
returns-in-Failed g c =
    let inv = c.turns.invariant in
    let mid = c.go_on.new.self in
    let left = c.args.steps - (c.turns._done + 1) in
    let less = c.turns-test.true in
    let more : suc left ≡ c.args.steps - c.turns._done = omega (arith, less) in
    let x = c.in-Print.x in
    let fits : FitsSigned w128 x = search rules in
    let h = step-own g.R.Rack radius None c.turns.self mid (stepped.Print x) inv.on c.in-Print.ensures in
    let on = still_on g.R.Rack radius None c.turns.self mid (stepped.Print x) h refl in
    let text : c.as_slice.result.now ≡ line (signed_decimal x) = c.as_slice.ensures ∙ c.line_of-line.ensures ∙ ap (λ (z : ℤ). line (signed_decimal z)) (to_z-of_z w128 x fits) in
    let broke = subst (λ (piece : List ℕ). BrokeOff g.K.Sink.puts g.K.Sink.state c.turns.sink (piece ∷ []) c.put.new.self) text
    (BrokeOff-one c.turns.sink c.as_slice.result.now c.put.new.self c.in-Failed.ensures.leaves c.put.ensures.late c.put.ensures.puts) in
    run-fresh g.R.Rack radius None g.K.Sink.puts g.K.Sink.state c.args.steps c.args.self.now mid c.args.sink.now c.put.new.self ending.SinkFailed inv.fresh
    (inv.whole ending.SinkFailed mid c.put.new.self
    (subst (λ (n : ℕ). RunsOut g.R.Rack radius None g.R.Rack.IsUnderWay g.K.Sink.puts g.K.Sink.state n c.turns.self c.turns.sink ending.SinkFailed mid c.put.new.self) more
    (put-failed g.R.Rack radius None g.K.Sink.puts g.K.Sink.state left c.turns.self mid (stepped.Print x) x c.turns.sink c.put.new.self refl h on broke)))

pub returns-in-Halt : goal.returns-in-Halt
returns-in-Halt g c =
    let inv = c.turns.invariant in
    let less = c.turns-test.true in
    run-ended g.R.Rack radius None g.K.Sink.puts g.K.Sink.state c.args.steps (c.args.steps - c.turns._done) c.args.self.now c.turns.self c.go_on.new.self c.args.sink.now c.turns.sink
    stepped.Halt ending.Halt (omega (arith, less)) inv.fresh inv.on c.in-Halt.ensures refl refl refl inv.whole

pub returns-in-Trap : goal.returns-in-Trap
returns-in-Trap g c =
    let inv = c.turns.invariant in
    let less = c.turns-test.true in
    let trap = c.in-Trap in
    run-ended g.R.Rack radius None g.K.Sink.puts g.K.Sink.state c.args.steps (c.args.steps - c.turns._done) c.args.self.now c.turns.self c.go_on.new.self c.args.sink.now c.turns.sink
    (stepped.Trap trap.kind trap.line) (ending.Trap trap.kind trap.line) (omega (arith, less)) inv.fresh inv.on trap.ensures refl refl refl inv.whole

pub returns-in-Damage : goal.returns-in-Damage
returns-in-Damage g c =
    let inv = c.turns.invariant in
    let less = c.turns-test.true in
    let damage = c.in-Damage in
    run-ended g.R.Rack radius None g.K.Sink.puts g.K.Sink.state c.args.steps (c.args.steps - c.turns._done) c.args.self.now c.turns.self c.go_on.new.self c.args.sink.now c.turns.sink
    (stepped.Damage damage.number damage.column) (ending.Damage damage.number damage.column) (omega (arith, less)) inv.fresh inv.on damage.ensures refl refl refl inv.whole

pub turns-preserved : goal.turns-preserved
turns-preserved g c =
    let inv = c.turns.invariant in
    let mid = c.go_on.new.self in
    let left = c.args.steps - (c.turns._done + 1) in
    let less = c.turns-test.true in
    let more : suc left ≡ c.args.steps - c.turns._done = omega (arith, less) in
    let count = inv.taken in
    let sink = c.match-go_on.sink in
    let whole : (answer : Stepped) → HasStepped g.R.Rack radius None g.R.Rack.IsUnderWay c.turns.self answer mid → mid.ended ≡ None → WroteAll g.K.Sink.puts g.K.Sink.state c.turns.sink (print_lines (prints_by answer)) sink
    → (e : Ending) (new : MachineState g.row.R.Denot g.row.D.Denot) (after : g.row.K.Denot)
    → RunsOut g.R.Rack radius None g.R.Rack.IsUnderWay g.K.Sink.puts g.K.Sink.state left mid sink e new after → RunsOut g.R.Rack radius None g.R.Rack.IsUnderWay g.K.Sink.puts g.K.Sink.state c.args.steps c.args.self.now c.args.sink.now e new after =
    λ answer h on put e new after rest.
    inv.whole e new after
    (subst (λ (n : ℕ). RunsOut g.R.Rack radius None g.R.Rack.IsUnderWay g.K.Sink.puts g.K.Sink.state n c.turns.self c.turns.sink e new after) more
    (RunsOut-more g.R.Rack radius None g.K.Sink.puts g.K.Sink.state left c.turns.self mid new answer c.turns.sink sink after e h on put rest)) in
    elim c.match-go_on.branch [
      | in-On w ↦
          let h = step-own g.R.Rack radius None c.turns.self mid stepped.On inv.on w.in-On.ensures in
          let on = still_on g.R.Rack radius None c.turns.self mid stepped.On h refl in
          let taken = h.taken in
          let put = subst (λ (k : g.row.K.Denot). WroteAll g.K.Sink.puts g.K.Sink.state c.turns.sink [] k) (sym w.sink-is) (WroteAll-none c.turns.sink) in
          record { fresh = inv.fresh; on = on; taken = omega (arith, less, count, taken); whole = whole stepped.On h on put }
      | in-Print+in-Done w ↦
          let x = w.in-Print.x in
          let fits : FitsSigned w128 x = search rules in
          let h = step-own g.R.Rack radius None c.turns.self mid (stepped.Print x) inv.on w.in-Print.ensures in
          let on = still_on g.R.Rack radius None c.turns.self mid (stepped.Print x) h refl in
          let taken = h.taken in
          let text : w.as_slice.result.now ≡ line (signed_decimal x) = w.as_slice.ensures ∙ w.line_of-line.ensures ∙ ap (λ (z : ℤ). line (signed_decimal z)) (to_z-of_z w128 x fits) in
          let wrote = subst (λ (piece : List ℕ). WroteAll g.K.Sink.puts g.K.Sink.state c.turns.sink (piece ∷ []) w.put.new.self) text
          (WroteAll-one c.turns.sink w.as_slice.result.now w.put.new.self w.in-Done.ensures.leaves w.put.ensures.late w.put.ensures.puts) in
          let put = subst (λ (k : g.row.K.Denot). WroteAll g.K.Sink.puts g.K.Sink.state c.turns.sink (line (signed_decimal x) ∷ []) k) (sym w.sink-is) wrote in
          record { fresh = inv.fresh; on = on; taken = omega (arith, less, count, taken); whole = whole (stepped.Print x) h on put }
    ]

pub returns : goal.returns
returns g c =
    let inv = c.turns.invariant in
    let none : 0 ≡ c.args.steps - c.turns._done = omega (arith, c.turns-test.false) in
    run-fresh g.R.Rack radius None g.K.Sink.puts g.K.Sink.state c.args.steps c.args.self.now c.turns.self c.args.sink.now c.turns.sink ending.Spent inv.fresh
    (inv.whole ending.Spent c.turns.self c.turns.sink
    (subst (λ (n : ℕ). RunsOut g.R.Rack radius None g.R.Rack.IsUnderWay g.K.Sink.puts g.K.Sink.state n c.turns.self c.turns.sink ending.Spent c.turns.self c.turns.sink) none (RunsOut-none g.R.Rack radius None g.K.Sink.puts g.K.Sink.state c.turns.self c.turns.sink inv.on)))
