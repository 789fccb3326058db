use Rattle.std.proofs.Common.{rules, ◌≡◌, ◌∷◌, [], ◌++◌, length, map, Result, Ok, Err, sym, ap, subst, ◌∙◌}
use Rattle.std.specs.Int.{w128}
use Rattle.std.specs.Prelude.{OnOk, ⊤}
use Rattle.std.proofs.lemmas.Int.{to_z-of_z}
use mir.Val.{SFits}
use Rattle.name_table.specs.Entries.{with_new}
use Rattle.name_check.specs.declared.symbols.Symbol.TheVariants as symbol
use Rattle.source_tree.specs.Scope.{with_declared}
use Rattle.resolved_tree.specs.Resolution.{procedures_of, resolved_procedure}
use Rattle.resolved_tree.proofs.SymbolLemmas.{names_mirror}
use Rattle.resolved_tree.proofs.declarations.declaration.Goals as goal

pub returns-in-Var-clause-names : goal.returns-in-Var-clause-names
returns-in-Var-clause-names c =
    let v = c.in-Var in
    let k = length c.args.slots.now in
    names_mirror c.variable.result c.args.table.now c.variable.new.table v.name.bytes (symbol.Variable k v.range) (with_declared k c.args.d.now)
    (λ scope. ap (λ d. with_declared k d scope) (sym v.is)) c.variable.ensures.table

pub returns-in-Array-clause-names : goal.returns-in-Array-clause-names
returns-in-Array-clause-names c =
    let a = c.in-Array in
    let k = length c.args.slots.now in
    let fits : SFits w128 a.length = search rules in
    names_mirror c.array.result c.args.table.now c.array.new.table a.name.bytes (symbol.Array k a.length a.range) (with_declared k c.args.d.now)
    (λ scope. ap (λ d. with_declared k d scope) (sym a.is))
    (subst (λ n. OnOk c.array.result (c.array.new.table ≡ with_new c.args.table.now a.name.bytes (symbol.Array k n a.range))) (to_z-of_z w128 a.length fits) c.array.ensures.table)

pub returns-in_ok-symbol-in-Proc-clause-names : goal.returns-in_ok-symbol-in-Proc-clause-names
returns-in_ok-symbol-in-Proc-clause-names c =
    let p = c.in-Proc in
    let k = length c.args.slots.now in
    let own = c.in_ok-symbol-in-Proc.ensures ∙ (λ j. symbol.Procedure (c.in_ok-number-in-Proc.ensures.number j) (map (λ q. q.range) (c.as_slice-in-Proc-3.ensures j))) in
    names_mirror c.declare.result c.args.table.now c.declare.new.self p.name.bytes (symbol.Procedure k (map (λ q. q.range) p.params)) (with_declared k c.args.d.now)
    (λ scope. ap (λ d. with_declared k d scope) (sym p.is))
    (subst (λ t. OnOk c.declare.result (c.declare.new.self ≡ t)) (λ j. with_new (c.in_ok-number-in-Proc.ensures.table j) (c.as_slice-in-Proc-4.ensures j) (own j)) c.declare.ensures)

on_ok : {E P : Type 0} (result : Result ⊤ E) → P → OnOk result P
on_ok (Ok done) h = h
on_ok (Err fault) h = tt

pub returns-in_ok-symbol-in-Proc-clause-procedures : goal.returns-in_ok-symbol-in-Proc-clause-procedures
returns-in_ok-symbol-in-Proc-clause-procedures c =
    let p = c.in-Proc in
    let k = length c.args.slots.now in
    on_ok c.declare.result (λ scope h.
    c.in_ok-number-in-Proc.ensures.procedures scope h
    ∙ (λ j. c.args.procedures.now ++ resolved_procedure k (c.as_slice.ensures j) (c.as_slice-in-Proc.ensures j) (c.as_slice-in-Proc-2.ensures j) scope ∷ [])
    ∙ ap (λ d. c.args.procedures.now ++ procedures_of k d scope) (sym p.is))
