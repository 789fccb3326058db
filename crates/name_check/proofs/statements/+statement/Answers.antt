use Rattle.std.proofs.Common.{List, ◌++◌, map, Ok, refl, ap, sym, subst, ◌∙◌}
use Rattle.name_check.specs.declared.fault.NameFault.{NameFault}
use Rattle.plain_text.specs.Lookup.{lookup}
use Rattle.name_check.specs.Names.{Loops, all_faults, as_assigned, condition_faults, expr_faults, statement_faults, with_loop}
use Rattle.name_check.specs.Reported.{IsReported, Walks}
use Rattle.name_check.specs.Ties.{all_ties, condition_ties, expr_ties, name_ties, statement_ties}
use Rattle.name_check.proofs.StatementLemmas.{node_walks, node_reports, if_node, for_node, while_node, heads}
use Rattle.name_check.proofs.WalkLemmas.{reports, stops, stops_later, walks_on, walked_first, walked_next, walked_stops, walked_all, all_faults-flat_map, all_ties-flat_map}
use Rattle.name_check.proofs.statements.+statement.Goals as goal

pub statement-returns-in_err-condition-in-If-clause-walk :
    goal.statement-returns-in_err-condition-in-If-clause-walk
statement-returns-in_err-condition-in-If-clause-walk t c =
    let scope = c.args.symbols.now in
    let loops = c.args.loops.now in
    let i = c.in-If in
    node_reports c.args.s.now _ _ scope loops c.args.ties.now c.condition.new.ties c.in_err-condition-in-If.field-0.0 c.from_residual.result
    (if_node c.args.s.now i.test i.first i.second i.line i.is) c.from_residual.ensures.1
    (stops (condition_faults i.test scope) (all_faults (map statement_faults i.first) scope loops ++ all_faults (map statement_faults i.second) scope loops) _ c.in_err-condition-in-If.ensures)

pub statement-returns-in_err-statements-in-If-clause-walk :
    goal.statement-returns-in_err-statements-in-If-clause-walk
statement-returns-in_err-statements-in-If-clause-walk t c =
    let scope = c.args.symbols.now in
    let loops = c.args.loops.now in
    let i = c.in-If in
    node_reports c.args.s.now _ _ scope loops c.args.ties.now c.statements.new.ties c.in_err-statements-in-If.field-0.0 c.from_residual-in_err-statements-in-If.result
    (if_node c.args.s.now i.test i.first i.second i.line i.is) c.from_residual-in_err-statements-in-If.ensures.1
    (stops_later (condition_faults i.test scope) (all_faults (map statement_faults i.first) scope loops ++ all_faults (map statement_faults i.second) scope loops) _ c.in_ok-condition-in-If.ensures.0
    (stops (all_faults (map statement_faults i.first) scope loops) (all_faults (map statement_faults i.second) scope loops) _ c.in_err-statements-in-If.ensures.walk))

pub statement-returns-in_ok-statements-in-If-clause-walk :
    goal.statement-returns-in_ok-statements-in-If-clause-walk
statement-returns-in_ok-statements-in-If-clause-walk t c =
    let scope = c.args.symbols.now in
    let loops = c.args.loops.now in
    let i = c.in-If in
    let first = map statement_faults i.first in
    let second = map statement_faults i.second in
    let second_ties = all_ties (map statement_ties i.second) scope in
    let second_walk =
    subst (λ l. Walks (all_faults second scope l) second_ties c.statements.new.ties c.statements-in-If.result c.statements-in-If.new.ties) c.in_ok-statements-in-If.ensures.loops
    c.statements-in-If.ensures.walk in
    node_walks c.args.s.now _ _ scope loops c.args.ties.now c.statements-in-If.new.ties c.statements-in-If.result (if_node c.args.s.now i.test i.first i.second i.line i.is)
    (walks_on (condition_faults i.test scope) (all_faults first scope loops ++ all_faults second scope loops) (condition_ties i.test scope)
    (all_ties (map statement_ties i.first) scope ++ second_ties) c.args.ties.now c.condition.new.ties c.statements-in-If.new.ties c.statements-in-If.result c.in_ok-condition-in-If.ensures
    (walks_on (all_faults first scope loops) (all_faults second scope loops) (all_ties (map statement_ties i.first) scope) second_ties c.condition.new.ties c.statements.new.ties
    c.statements-in-If.new.ties c.statements-in-If.result c.in_ok-statements-in-If.ensures.walk second_walk))

pub statement-returns-in_err-for_head-in-For-clause-walk :
    goal.statement-returns-in_err-for_head-in-For-clause-walk
statement-returns-in_err-for_head-in-For-clause-walk t c =
    let scope = c.args.symbols.now in
    let f = c.in-For in
    let a = as_assigned (lookup f.name.bytes scope) f.name.line c.args.loops.now in
    let body = all_faults (map statement_faults f.body) scope (with_loop (lookup f.name.bytes scope) c.args.loops.now) in
    node_reports c.args.s.now _ _ scope c.args.loops.now c.args.ties.now c.for_head.new.ties c.in_err-for_head-in-For.field-0.0 c.from_residual-in_err-for_head-in-For.result
    (for_node c.args.s.now f.name f.first f.last f.body f.line f.is) c.from_residual-in_err-for_head-in-For.ensures.1
    (subst (λ faults. IsReported faults c.in_err-for_head-in-For.field-0.0) (heads a (expr_faults f.first scope) (expr_faults f.last scope) body)
    (stops (a ++ (expr_faults f.first scope ++ expr_faults f.last scope)) body _ c.in_err-for_head-in-For.ensures.walk))

pub statement-returns-in_err-statements-in-For-clause-walk :
    goal.statement-returns-in_err-statements-in-For-clause-walk
statement-returns-in_err-statements-in-For-clause-walk t c =
    let scope = c.args.symbols.now in
    let f = c.in-For in
    let fault = c.in_err-statements-in-For.field-0.0 in
    let a = as_assigned (lookup f.name.bytes scope) f.name.line c.args.loops.now in
    let head = a ++ (expr_faults f.first scope ++ expr_faults f.last scope) in
    let body : Loops → List NameFault = λ l. all_faults (map statement_faults f.body) scope l in
    let within = body (with_loop (lookup f.name.bytes scope) c.args.loops.now) in
    node_reports c.args.s.now _ _ scope c.args.loops.now c.args.ties.now c.statements-in-For.new.ties fault c.from_residual-in_err-statements-in-For.result
    (for_node c.args.s.now f.name f.first f.last f.body f.line f.is) c.from_residual-in_err-statements-in-For.ensures.1
    (subst (λ faults. IsReported faults fault) (heads a (expr_faults f.first scope) (expr_faults f.last scope) within)
    (stops_later head within fault c.in_ok-for_head-in-For.ensures.walk.0
    (subst (λ l. IsReported (body l) fault) c.in_ok-for_head-in-For.ensures.loops c.in_err-statements-in-For.ensures.walk)))

pub statement-returns-in_ok-statements-in-For-clause-walk :
    goal.statement-returns-in_ok-statements-in-For-clause-walk
statement-returns-in_ok-statements-in-For-clause-walk t c =
    let scope = c.args.symbols.now in
    let f = c.in-For in
    let o = lookup f.name.bytes scope in
    let a = as_assigned o f.name.line c.args.loops.now in
    let body : Loops → List NameFault = λ l. all_faults (map statement_faults f.body) scope l in
    let ties = all_ties (map statement_ties f.body) scope in
    let done = c.in_ok-statements-in-For.ensures.walk in
    let none = ap body (sym c.in_ok-for_head-in-For.ensures.loops) ∙ done.0 in
    let walk =
    walks_on (a ++ (expr_faults f.first scope ++ expr_faults f.last scope)) (body (with_loop o c.args.loops.now))
    (name_ties f.name scope ++ (expr_ties f.first scope ++ expr_ties f.last scope)) ties c.args.ties.now c.for_head.new.ties c.statements-in-For.new.ties (Ok tt)
    c.in_ok-for_head-in-For.ensures.walk (none, done.1) in
    node_walks c.args.s.now _ _ scope c.args.loops.now c.args.ties.now c.statements-in-For.new.ties (Ok tt) (for_node c.args.s.now f.name f.first f.last f.body f.line f.is) (
      sym (heads a (expr_faults f.first scope) (expr_faults f.last scope) (body (with_loop o c.args.loops.now))) ∙ walk.0,
      walk.1 ∙ ap (λ l. c.args.ties.now ++ l) (heads (name_ties f.name scope) (expr_ties f.first scope) (expr_ties f.last scope) ties),
    )

pub statement-returns-in_err-condition-in-While-clause-walk :
    goal.statement-returns-in_err-condition-in-While-clause-walk
statement-returns-in_err-condition-in-While-clause-walk t c =
    let scope = c.args.symbols.now in
    let w = c.in-While in
    node_reports c.args.s.now _ _ scope c.args.loops.now c.args.ties.now c.condition-in-While.new.ties c.in_err-condition-in-While.field-0.0 c.from_residual-in_err-condition-in-While.result
    (while_node c.args.s.now w.test w.limit w.body w.line w.is) c.from_residual-in_err-condition-in-While.ensures.1
    (stops (condition_faults w.test scope) (all_faults (map statement_faults w.body) scope c.args.loops.now) _ c.in_err-condition-in-While.ensures)

pub statement-returns-in_ok-condition-in-While-clause-walk :
    goal.statement-returns-in_ok-condition-in-While-clause-walk
statement-returns-in_ok-condition-in-While-clause-walk t c =
    let scope = c.args.symbols.now in
    let w = c.in-While in
    node_walks c.args.s.now _ _ scope c.args.loops.now c.args.ties.now c.statements-in-While.new.ties c.statements-in-While.result
    (while_node c.args.s.now w.test w.limit w.body w.line w.is)
    (walks_on (condition_faults w.test scope) (all_faults (map statement_faults w.body) scope c.args.loops.now) (condition_ties w.test scope) (all_ties (map statement_ties w.body) scope)
    c.args.ties.now c.condition-in-While.new.ties c.statements-in-While.new.ties c.statements-in-While.result c.in_ok-condition-in-While.ensures c.statements-in-While.ensures.walk)

pub statements-loop-s-init : goal.statements-loop-s-init
statements-loop-s-init t c =
    record { walked = walked_first _ _ c.as_slice-s-items.result.now c.args.ties.now; loops = refl }

pub statements-returns-in_err-statement-clause-walk :
    goal.statements-returns-in_err-statement-clause-walk
statements-returns-in_err-statement-clause-walk t c =
    let scope = c.args.symbols.now in
    let loops = c.args.loops.now in
    let xs = c.as_slice-s-items.result.now in
    let fault = c.in_err-statement.field-0.0 in
    reports _ _ c.args.ties.now c.statement.new.ties fault c.from_residual.result c.from_residual.ensures.1
    (subst (λ faults. IsReported faults fault) (sym (all_faults-flat_map statement_faults xs scope loops) ∙ ap (λ s. all_faults (map statement_faults s) scope loops) c.as_slice-s-items.ensures)
    (walked_stops (λ s. statement_faults s scope loops) (λ s. statement_ties s scope) xs c.loop-s.s-index c.args.ties.now c.loop-s.ties c.s-item.result c.loop-s-test.true c.s-item.is
    c.loop-s.invariant.walked fault (subst (λ l. IsReported (statement_faults c.s-item.result scope l) fault) c.loop-s.invariant.loops c.in_err-statement.ensures.walk)))

pub statements-loop-s-preserved : goal.statements-loop-s-preserved
statements-loop-s-preserved t c =
    let scope = c.args.symbols.now in
    let loops = c.args.loops.now in
    let done = c.in_ok-statement.ensures.walk in
    record {
      walked =
          walked_next (λ s. statement_faults s scope loops) (λ s. statement_ties s scope) c.as_slice-s-items.result.now c.loop-s.s-index c.args.ties.now c.loop-s.ties c.s-item.result
          c.loop-s-test.true c.s-item.is c.loop-s.invariant.walked c.statement.new.ties (ap (statement_faults c.s-item.result scope) (sym c.loop-s.invariant.loops) ∙ done.0, done.1);
      loops = c.in_ok-statement.ensures.loops ∙ c.loop-s.invariant.loops;
    }

pub statements-returns-clause-walk : goal.statements-returns-clause-walk
statements-returns-clause-walk t c =
    let scope = c.args.symbols.now in
    let loops = c.args.loops.now in
    let xs = c.as_slice-s-items.result.now in
    let all =
    walked_all (λ s. statement_faults s scope loops) (λ s. statement_ties s scope) xs c.loop-s.s-index c.args.ties.now c.loop-s.ties c.loop-s-test.false c.loop-s.invariant.walked in (
      ap (λ s. all_faults (map statement_faults s) scope loops) (sym c.as_slice-s-items.ensures) ∙ all_faults-flat_map statement_faults xs scope loops ∙ all.0,
      all.1 ∙ ap (λ ties. c.args.ties.now ++ ties) (sym (all_ties-flat_map statement_ties xs scope) ∙ ap (λ s. all_ties (map statement_ties s) scope) c.as_slice-s-items.ensures),
    )
