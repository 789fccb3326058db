use Rattle.std.proofs.Common.{◌≡◌, ◌+◌, [], take, sym, ap, ◌∙◌, subst, arith, add-one}
use Rattle.std.proofs.lemmas.List.{take_all}
use Rattle.plain_text.specs.Lookup.{Named, lookup}
use Rattle.source_tree.specs.Scope.{Scope, with_all_declared}
use Rattle.source_tree.specs.declared.name.Range.{Range}
use Rattle.range_inference.specs.Demands.{declaration_demands, declarations_demands, wide_lines}
use Rattle.range_inference.specs.Outcome.{IsFirst, IsPassed}
use Rattle.range_inference.specs.Table.{HasRanges}
use Rattle.range_inference.proofs.DeclarationLists.{At, at_declaration, parted_at}
use Rattle.range_inference.proofs.Judging.{Two, reports, stops_next, nothing_passed, passed_then}
use Rattle.range_inference.proofs.declarations.declarations.Goals as goal

pub loop-d-init : goal.loop-d-init
loop-d-init c =
    record {
      passed = nothing_passed c.args.bound.value c.args.intervals.now;
      ranges = λ x. sym (ap (λ (t : Named Range). lookup x t) c.requires);
    }

pub returns-in_err-declaration-clause-walk : goal.returns-in_err-declaration-clause-walk
returns-in_err-declaration-clause-walk c =
    let b = c.args.bound.value in
    let list = c.as_slice-d-items.result.now in
    let i = c.loop-d.d-index in
    let fault = c.in_err-declaration.field-0.0 in
    let a : At 0 list c.d-item.result i [] = at_declaration 0 list c.d-item.result i [] c.loop-d-test.true c.d-item.is in
    reports b _ c.args.intervals.now c.declaration.new.intervals fault c.from_residual.result c.from_residual.ensures.1
    (subst (λ l. IsFirst (wide_lines b (declarations_demands 0 l [])) fault) c.as_slice-d-items.ensures
    (stops_next b (parted_at 0 list c.d-item.result i [] a) fault c.loop-d.invariant.passed.0 (c.in_err-declaration.ensures.walk a.number (with_all_declared 0 (take i list) []) c.loop-d.invariant.ranges)))

pub loop-d-preserved : goal.loop-d-preserved
loop-d-preserved c =
    let list = c.as_slice-d-items.result.now in
    let i = c.loop-d.d-index in
    let scope = with_all_declared 0 (take i list) [] in
    let a : At 0 list c.d-item.result i [] = at_declaration 0 list c.d-item.result i [] c.loop-d-test.true c.d-item.is in
    let parts : Two (declarations_demands 0 (take (i + 1) list) []) = record {
      one = declarations_demands 0 (take i list) [];
      two = declaration_demands a.number c.d-item.result scope;
      is = ap (λ n. declarations_demands 0 (take n list) []) (add-one i) ∙ a.more;
    } in
    record {
      passed =
          passed_then c.args.bound.value parts c.args.intervals.now c.loop-d.intervals c.declaration.new.intervals c.loop-d.invariant.passed
          (c.in_ok-declaration.ensures.walk a.number scope c.loop-d.invariant.ranges);
      ranges =
          subst (λ (s : Scope). HasRanges c.declaration.new.table s) (sym (ap (λ n. with_all_declared 0 (take n list) []) (add-one i) ∙ a.names))
          (c.in_ok-declaration.ensures.ranges a.number scope c.loop-d.invariant.ranges);
    }

pub returns-clause-walk : goal.returns-clause-walk
returns-clause-walk c =
    let all : take c.loop-d.d-index c.as_slice-d-items.result.now ≡ c.args.list.now = take_all c.loop-d.d-index c.as_slice-d-items.result.now (omega arith) ∙ c.as_slice-d-items.ensures in
    subst (λ l. IsPassed c.args.bound.value (declarations_demands 0 l []) c.args.intervals.now c.loop-d.intervals) all c.loop-d.invariant.passed

pub returns-clause-ranges : goal.returns-clause-ranges
returns-clause-ranges c =
    let all : take c.loop-d.d-index c.as_slice-d-items.result.now ≡ c.args.list.now = take_all c.loop-d.d-index c.as_slice-d-items.result.now (omega arith) ∙ c.as_slice-d-items.ensures in
    subst (λ l. HasRanges c.loop-d.table (with_all_declared 0 l [])) all c.loop-d.invariant.ranges
