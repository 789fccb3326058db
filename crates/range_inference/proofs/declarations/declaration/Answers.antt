use Rattle.std.proofs.Common.{[], ◌∷◌, ◌++◌, map, refl, sym, subst}
use Rattle.source_tree.specs.Scope.{variable, array, procedure, with_declared}
use Rattle.source_tree.specs.declared.declaration.Declaration.{Declaration}
use Rattle.range_inference.specs.Demands.{declared, declaration_demands, procedure_demands}
use Rattle.range_inference.specs.Outcome.{IsPassed, Walks}
use Rattle.range_inference.specs.Table.{HasRanges}
use Rattle.range_inference.proofs.Judging.{reports, walks_without, on_ok_more}
use Rattle.range_inference.proofs.TableLemmas.{has_more}
use Rattle.range_inference.proofs.declarations.declaration.Goals as goal

pub returns-in-Var-clause-walk : goal.returns-in-Var-clause-walk
returns-in-Var-clause-walk c =
    λ k scope h.
    let v = c.in-Var in
    subst (λ (d : Declaration). Walks c.args.bound.value (declaration_demands k d scope) c.args.intervals.now c.variable.result c.args.intervals.now) (sym v.is)
    (walks_without c.args.bound.value (declared v.range v.line ∷ []) c.args.intervals.now c.variable.result refl c.variable.ensures.first)

pub returns-in-Array-clause-walk : goal.returns-in-Array-clause-walk
returns-in-Array-clause-walk c =
    λ k scope h.
    let a = c.in-Array in
    subst (λ (d : Declaration). Walks c.args.bound.value (declaration_demands k d scope) c.args.intervals.now c.variable-in-Array.result c.args.intervals.now) (sym a.is)
    (walks_without c.args.bound.value (declared a.range a.line ∷ []) c.args.intervals.now c.variable-in-Array.result refl c.variable-in-Array.ensures.first)

pub returns-in_err-procedure-in-Proc-clause-walk : goal.returns-in_err-procedure-in-Proc-clause-walk
returns-in_err-procedure-in-Proc-clause-walk c =
    λ k scope h.
    let p = c.in-Proc in
    subst (λ (d : Declaration). Walks c.args.bound.value (declaration_demands k d scope) c.args.intervals.now c.from_residual.result c.procedure.new.intervals) (sym p.is)
    (reports c.args.bound.value (procedure_demands k p.own p.inner p.body scope) c.args.intervals.now c.procedure.new.intervals c.in_err-procedure-in-Proc.field-0.0 c.from_residual.result
    c.from_residual.ensures.1 (c.in_err-procedure-in-Proc.ensures.walk k scope h))

pub returns-in_ok-declare-in-Proc-clause-walk : goal.returns-in_ok-declare-in-Proc-clause-walk
returns-in_ok-declare-in-Proc-clause-walk c =
    λ k scope h.
    subst (λ (d : Declaration). IsPassed c.args.bound.value (declaration_demands k d scope) c.args.intervals.now c.procedure.new.intervals) (sym c.in-Proc.is)
    (c.in_ok-procedure-in-Proc.ensures.walk k scope h)

pub returns-in-Var-clause-ranges : goal.returns-in-Var-clause-ranges
returns-in-Var-clause-ranges c =
    λ k scope h.
    on_ok_more c.variable.result _ _ c.variable.ensures.table (λ more.
    subst (λ (d : Declaration). HasRanges c.variable.new.table (with_declared k d scope)) (sym c.in-Var.is)
    (has_more c.args.table.now c.variable.new.table scope c.in-Var.name.bytes (variable k c.in-Var.range) h more))

pub returns-in-Array-clause-ranges : goal.returns-in-Array-clause-ranges
returns-in-Array-clause-ranges c =
    λ k scope h.
    on_ok_more c.variable-in-Array.result _ _ c.variable-in-Array.ensures.table (λ more.
    subst (λ (d : Declaration). HasRanges c.variable-in-Array.new.table (with_declared k d scope)) (sym c.in-Array.is)
    (has_more c.args.table.now c.variable-in-Array.new.table scope c.in-Array.name.bytes (array k c.in-Array.length c.in-Array.range) h more))

pub returns-in_ok-declare-in-Proc-clause-ranges : goal.returns-in_ok-declare-in-Proc-clause-ranges
returns-in_ok-declare-in-Proc-clause-ranges c =
    λ k scope h.
    let d = procedure k (map (λ p. p.range) c.in-Proc.own) in
    let bytes = c.as_slice.result.now in
    let before : HasRanges c.procedure.new.table scope = subst (λ t. HasRanges t scope) (sym c.in_ok-procedure-in-Proc.ensures.table) h in
    let named : HasRanges c.declare.new.self (scope ++ (bytes, d) ∷ []) =
    has_more c.procedure.new.table c.declare.new.self scope bytes d before c.in_ok-declare-in-Proc.ensures in
    subst (λ (e : Declaration). HasRanges c.declare.new.self (with_declared k e scope)) (sym c.in-Proc.is)
    (subst (λ n. HasRanges c.declare.new.self (scope ++ (n, d) ∷ [])) c.as_slice.ensures named)
