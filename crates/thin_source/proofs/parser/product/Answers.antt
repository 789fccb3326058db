use Rattle.std.proofs.Common.{◌≡◌, ◌∷◌, [], ◌++◌, map}
use Rattle.std.proofs.lemmas.List.{map_push}
use Rattle.thin_source.specs.ThinGrammar.{symbols_of}
use Rattle.thin_source.specs.ThinView.{atom_view}
use Rattle.thin_source.proofs.ThinSums.{product_goes_on, product_stuck}
use Rattle.thin_source.proofs.parser.product.Goals as goal

pub returns-in_default-atom : goal.returns-in_default-atom
returns-in_default-atom c =
    let text = c.args.text.now in
    let star = c.in-Some-front_mark.ensures text c.loop-behind.invariant.1 in
    product_stuck (atom_view c.in-Some.first) (map atom_view c.loop-behind.more.items) (symbols_of text c.args.tokens.now) (symbols_of text c.loop-behind.rest.now) (symbols_of text c.in-Some-front_mark.behind.now)
    c.loop-behind.invariant.0 star.0 c.in_default-atom.ensures

pub loop-behind-preserved : goal.loop-behind-preserved
loop-behind-preserved c =
    let text = c.args.text.now in
    let star = c.in-Some-front_mark.ensures text c.loop-behind.invariant.1 in
    let pushed : map atom_view c.push.new.self.items ≡ map atom_view c.loop-behind.more.items ++ atom_view c.in-Some-atom.factor ∷ [] =
    rw c.in_ok-push.ensures.items (map_push _ c.loop-behind.more.items c.in-Some-atom.factor) in (
      rw pushed (product_goes_on (atom_view c.in-Some.first) (map atom_view c.loop-behind.more.items) (atom_view c.in-Some-atom.factor) (symbols_of text c.args.tokens.now) (symbols_of text c.loop-behind.rest.now) (symbols_of text c.in-Some-front_mark.behind.now) (symbols_of text c.in-Some-atom.after.now)
          c.loop-behind.invariant.0 star.0 c.in-Some-atom.ensures.0),
      c.in-Some-atom.ensures.1,
    )
