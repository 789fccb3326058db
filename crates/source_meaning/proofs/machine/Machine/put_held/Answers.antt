use Rattle.std.proofs.Common.{ℤ, List, sym, ap, ◌∙◌, rules, arith, Err, Ok}
use Rattle.std.specs.Option.{option_copied}
use Rattle.std.specs.Prelude.{slice_get}
use Rattle.std.proofs.lemmas.Int.{to_z-of_z}
use mir.Syntax.{w128}
use mir.Val.{SFits}
use Rattle.source_meaning.proofs.Following.{err_computes}
use Rattle.source_meaning.proofs.HeldForms.{nothing_put, past_held, all_put, put_stops, put_goes}
use Rattle.source_meaning.proofs.machine.Machine.put_held.Goals as goal

pub returns-in-None : goal.returns-in-None
returns-in-None c =
    let none = ap (λ (xs : List ℤ). slice_get xs c.loop.at) (sym c.loop.invariant.kept) ∙ sym c.get.ensures.value ∙ ap option_copied c.in-None.is in
    c.loop.invariant.goes (Ok tt) c.loop.self (nothing_put c.loop.at _ c.loop.self tt (past_held c.args.count c.loop.counter c.loop.at c.args.self.now.held none))

pub returns : goal.returns
returns c = c.loop.invariant.goes (Ok tt) c.loop.self (nothing_put c.loop.at _ c.loop.self tt (all_put c.args.count c.loop.counter c.loop.at c.args.self.now.held (omega arith)))

pub returns-in_err-put_at : goal.returns-in_err-put_at
returns-in_err-put_at c =
    let fits : SFits w128 c.in-Some.value.now = search rules in
    let some = ap (λ (xs : List ℤ). slice_get xs c.loop.at) (sym c.loop.invariant.kept) ∙ sym c.get.ensures.value ∙ ap option_copied c.in-Some.is in
    err_computes _ _ _ _ _ c.from_residual.ensures
    (c.loop.invariant.goes (Err c.in_err-put_at.field-0.0) c.put_at.new.self
    (put_stops c.args.count c.loop.counter c.loop.at c.args.self.now.held c.in-Some.value.now c.loop-test.true some c.loop.self _ _ (simp to_z-of_z at c.in_err-put_at.ensures.does)))

pub loop-preserved : goal.loop-preserved
loop-preserved c =
    let fits : SFits w128 c.in-Some.value.now = search rules in
    let some = ap (λ (xs : List ℤ). slice_get xs c.loop.at) (sym c.loop.invariant.kept) ∙ sym c.get.ensures.value ∙ ap option_copied c.in-Some.is in
    record {
      kept = c.in_ok-put_at.ensures.held ∙ c.loop.invariant.kept;
      goes = λ o u f.
          c.loop.invariant.goes o u
          (put_goes c.args.count c.loop.counter c.loop.at c.args.self.now.held c.in-Some.value.now c.loop-test.true some c.loop.self _ _ _ _ (simp to_z-of_z at c.in_ok-put_at.ensures.does) f);
    }
