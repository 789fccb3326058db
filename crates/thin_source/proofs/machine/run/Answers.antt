use Rattle.std.proofs.Common.{◌≡◌, ◌+◌, [], ◌++◌, map, take, drop, length, subst, ◌∙◌}
use Rattle.std.proofs.Math.Seq.{take-append_seam}
use Rattle.outside.proofs.Runs.{WroteAll-none, WroteAll-append}
use Rattle.thin_source.specs.ThinView.{declaration_view, statement_view, program_view}
use Rattle.thin_source.specs.ThinMeaning.{start_of}
use Rattle.thin_source.specs.ThinStates.{Holds, state_after}
use Rattle.thin_source.proofs.ThinLoops.{map-drop-step}
use Rattle.thin_source.proofs.ThinReached.{IsReached, IsReached-start, IsReached-next, PutsPieces-broke, pieces_of}
use Rattle.thin_source.proofs.machine.run.Goals as goal

pub loop-statement-init : goal.loop-statement-init
loop-statement-init g c =
    let program = program_view c.args.program.now in
    (start_of program.declarations, [], IsReached-start program c.args.variables.items c.requires.lawful c.requires.started, WroteAll-none c.args.sink.now)

pub returns-in-Failed : goal.returns-in-Failed
returns-in-Failed g c =
    let program = program_view c.args.program.now in
    let statements = c.args.program.now.statements.items in
    let at = c.loop-statement.statement-index in
    let statement = c.statement-item.result in
    let step = map-drop-step statement_view statements c.deref-statement-items.result.now at statement c.deref-statement-items.ensures.value c.loop-statement-test.true c.statement-item.is in
    let left = map statement_view (drop (at + 1) statements) in
    let before = c.loop-statement.invariant in
    let reached = subst (λ l. IsReached program l c.loop-statement.variables.items before.1 before.0) step before.2 in
    let held : Holds (map declaration_view c.deref.result.now) c.deref_mut.result.now before.0 = rw (c.deref.ensures.value, c.deref_mut.ensures.value) reached.holds in
    PutsPieces-broke g.K.Sink.puts g.K.Sink.state c.args.sink.now c.loop-statement.sink c.execute.new.sink program (statement_view statement) left c.loop-statement.variables.items before.1 before.0 reached before.3 (c.in-Failed.ensures.put before.0 held)

pub loop-statement-preserved : goal.loop-statement-preserved
loop-statement-preserved g c =
    let program = program_view c.args.program.now in
    let statements = c.args.program.now.statements.items in
    let at = c.loop-statement.statement-index in
    let statement = c.statement-item.result in
    let step = map-drop-step statement_view statements c.deref-statement-items.result.now at statement c.deref-statement-items.ensures.value c.loop-statement-test.true c.statement-item.is in
    let left = map statement_view (drop (at + 1) statements) in
    let before = c.loop-statement.invariant in
    let old = c.loop-statement.variables in
    let new = c.execute.new.variables in
    let reached = subst (λ l. IsReached program l old.items before.1 before.0) step before.2 in
    let held : Holds (map declaration_view c.deref.result.now) c.deref_mut.result.now before.0 = rw (c.deref.ensures.value, c.deref_mut.ensures.value) reached.holds in
    let after : Holds program.declarations new (state_after before.0 (statement_view statement)) = rw c.deref.ensures.value at (c.in-Done.ensures.held before.0 held) in
    let same : take old.len (new ++ drop (length new) old.items) ≡ new =
    subst (λ n. take n (new ++ drop (length new) old.items) ≡ new) (c.execute.auto.variables ∙ c.deref_mut.ensures.len) (take-append_seam new (drop (length new) old.items)) in (
      state_after before.0 (statement_view statement),
      before.1 ++ pieces_of before.0 (statement_view statement),
      rw same (IsReached-next program (statement_view statement) left old.items before.1 before.0 reached new after),
      WroteAll-append before.3 (c.in-Done.ensures.put before.0 held),
    )
