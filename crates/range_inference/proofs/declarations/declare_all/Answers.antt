use Rattle.std.proofs.Common.{◌∷◌, [], take, ap, ◌∙◌, subst, sym, arith}
use Rattle.std.proofs.lemmas.List.{take_all}
use Rattle.source_tree.specs.Scope.{with_variables}
use Rattle.range_inference.specs.Demands.{declared, variables_demands, wide_lines}
use Rattle.range_inference.specs.Outcome.{IsFirst}
use Rattle.range_inference.specs.Table.{HasRanges}
use Rattle.range_inference.proofs.DeclarationLists.{variables_mirror}
use Rattle.range_inference.proofs.Judging.{taken, told, member_stops, member_none, all_none}
use Rattle.name_table.specs.Entries.{Extends}
use Rattle.name_table.proofs.MirrorLemmas.{extends_with_new, extends_then}
use Rattle.range_inference.proofs.declarations.declare_all.Goals as goal

pub returns-in_err-variable-clause-first : goal.returns-in_err-variable-clause-first
returns-in_err-variable-clause-first g c =
    let name = g.V.Variable.name_of in
    let range = g.V.Variable.range_of in
    let b = c.args.bound.value in
    let fault = c.in_err-variable.field-0.0 in
    told b (variables_demands name range c.args.list.now) fault c.from_residual.result
    (subst (λ xs. IsFirst (wide_lines b (variables_demands name range xs)) fault) c.as_slice-v-items.ensures
    (member_stops b (λ x. declared (range x) (name x).line ∷ []) c.as_slice-v-items.result.now c.v-item.result c.loop-v.v-index fault c.loop-v-test.true c.v-item.is c.loop-v.invariant.none
    (subst (λ d. IsFirst (wide_lines b (d ∷ [])) fault) (λ j. declared (c.range.ensures j) (c.name-name.ensures j).line) c.in_err-variable.ensures.first)))
    c.from_residual.ensures.1

pub loop-v-preserved : goal.loop-v-preserved
loop-v-preserved g c =
    let name = g.V.Variable.name_of in
    let range = g.V.Variable.range_of in
    let b = c.args.bound.value in
    let xs = c.as_slice-v-items.result.now in
    let i = c.loop-v.v-index in
    let x = c.v-item.result in
    record {
      none = member_none b (λ y. declared (range y) (name y).line ∷ []) xs x i c.loop-v-test.true c.v-item.is c.loop-v.invariant.none
          (ap (λ d. wide_lines b (d ∷ [])) (sym (λ j. declared (c.range.ensures j) (c.name-name.ensures j).line)) ∙ c.in_ok-variable.ensures.first);
      ranges = λ k scope h.
          variables_mirror name range c.loop-v.table c.variable.new.table k _ (take i xs) x scope c.name-name.result.now c.range.result c.name-name.ensures c.range.ensures
          (taken xs x i c.loop-v-test.true c.v-item.is) (c.loop-v.invariant.ranges k scope h) c.in_ok-variable.ensures.table;
      others = extends_then _ _ _ c.loop-v.invariant.others
          (subst (Extends c.loop-v.table) (sym c.in_ok-variable.ensures.table) (extends_with_new c.loop-v.table c.name-name.result.now.bytes c.range.result));
    }

pub returns-clause-first : goal.returns-clause-first
returns-clause-first g c =
    let name = g.V.Variable.name_of in
    let range = g.V.Variable.range_of in
    ap (λ xs. wide_lines c.args.bound.value (variables_demands name range xs)) (sym c.as_slice-v-items.ensures)
    ∙ all_none c.args.bound.value (λ y. declared (range y) (name y).line ∷ []) c.as_slice-v-items.result.now c.loop-v.v-index (omega arith) c.loop-v.invariant.none

pub returns-clause-ranges : goal.returns-clause-ranges
returns-clause-ranges g c =
    let xs = c.as_slice-v-items.result.now in
    λ k scope h.
    subst (λ l. HasRanges c.loop-v.table (with_variables g.V.Variable.name_of g.V.Variable.range_of k l scope)) (take_all c.loop-v.v-index xs (omega arith) ∙ c.as_slice-v-items.ensures)
    (c.loop-v.invariant.ranges k scope h)
