use Rattle.std.proofs.Common.{subst}
use Rattle.range_inference.specs.Demands.{demands_of}
use Rattle.range_inference.specs.Outcome.{IsPassed}
use Rattle.range_inference.proofs.DeclarationLists.{program_parts, program_parts_in}
use Rattle.range_inference.proofs.Judging.{told, stops, stops_later, passed_then}
use Rattle.range_inference.proofs.inference.intervals_of.Goals as goal

pub returns-in_err-declarations-clause-first : goal.returns-in_err-declarations-clause-first
returns-in_err-declarations-clause-first c =
    let b = c.args.bound.value in
    let fault = c.in_err-declarations.field-0.0 in
    told b (demands_of c.args.program.now) fault c.from_residual.result (stops b (program_parts c.args.program.now) fault c.in_err-declarations.ensures.walk) c.from_residual.ensures.1

pub returns-in_err-statements-clause-first : goal.returns-in_err-statements-clause-first
returns-in_err-statements-clause-first c =
    let b = c.args.bound.value in
    let fault = c.in_err-statements.field-0.0 in
    told b (demands_of c.args.program.now) fault c.from_residual-in_err-statements.result
    (stops_later b (program_parts_in c.args.program.now c.declarations.new.table c.in_ok-declarations.ensures.ranges) fault c.in_ok-declarations.ensures.walk.0 c.in_err-statements.ensures)
    c.from_residual-in_err-statements.ensures.1

pub returns-clause-first : goal.returns-clause-first
returns-clause-first c =
    (passed_then c.args.bound.value (program_parts_in c.args.program.now c.declarations.new.table c.in_ok-declarations.ensures.ranges) c.new-intervals.result c.declarations.new.intervals c.statements.new.intervals
    c.in_ok-declarations.ensures.walk c.in_ok-statements.ensures).0

pub returns-clause-value : goal.returns-clause-value
returns-clause-value c =
    let passed =
    passed_then c.args.bound.value (program_parts_in c.args.program.now c.declarations.new.table c.in_ok-declarations.ensures.ranges) c.new-intervals.result c.declarations.new.intervals c.statements.new.intervals
    c.in_ok-declarations.ensures.walk c.in_ok-statements.ensures in
    (subst (λ l. IsPassed c.args.bound.value (demands_of c.args.program.now) l c.statements.new.intervals) c.new-intervals.ensures passed).1
