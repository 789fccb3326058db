use Rattle.std.proofs.Common.{◌≡◌, ◌∷◌, [], ◌++◌, List, map, ap, ◌∙◌}
use Rattle.std.proofs.lemmas.List.{map_push}
use Rattle.thin_source.specs.ThinGrammar.{Symbol, symbols_of, sign_symbol, product_symbols}
use Rattle.thin_source.specs.ThinView.{product_view, sign_view, term_view}
use Rattle.thin_source.proofs.ThinTokens.{shorter}
use Rattle.thin_source.proofs.ThinSums.{sum_begins, sum_ends, sum_goes_on, sum_stuck}
use Rattle.thin_source.proofs.parser.sum.Goals as goal

pub returns-in_default : goal.returns-in_default
returns-in_default c =
    let none = rw c.in_default.is at c.in_ok-first.ensures in
    sum_begins (symbols_of c.args.text.now c.args.tokens.now) none

pub returns-in_default-2 : goal.returns-in_default-2
returns-in_default-2 c =
    let text = c.args.text.now in
    let signed = c.in-Some-front_sign.ensures text c.loop-sign.invariant.each in
    let none = rw c.in_default-2.is at c.in_ok-term.ensures in
    sum_stuck (product_view c.in-Some.first) (map term_view c.loop-sign.more.items) (sign_view c.in-Some-front_sign.sign) (symbols_of text c.args.tokens.now) (symbols_of text c.loop-sign.rest.now) (symbols_of text c.in-Some-front_sign.unsigned.now)
    c.loop-sign.invariant.so_far c.loop-sign.invariant.stops signed.0 none

pub loop-sign-smaller : goal.loop-sign-smaller
loop-sign-smaller c =
    let text = c.args.text.now in
    let signed = c.in-Some-front_sign.ensures text c.loop-sign.invariant.each in
    let term = rw c.in-Some-2.is at c.in_ok-term.ensures in
    let sign = sign_symbol (sign_view c.in-Some-front_sign.sign) in
    shorter text c.loop-sign.rest.now c.in-Some-2.after.now sign (product_symbols (product_view c.in-Some-2.term)) (signed.0 ∙ ap (λ (s : List Symbol). sign ∷ s) term.0.0)

pub loop-sign-preserved : goal.loop-sign-preserved
loop-sign-preserved c =
    let text = c.args.text.now in
    let signed = c.in-Some-front_sign.ensures text c.loop-sign.invariant.each in
    let term = rw c.in-Some-2.is at c.in_ok-term.ensures in
    let pushed : map term_view c.push.new.self.items ≡ map term_view c.loop-sign.more.items ++ (sign_view c.in-Some-front_sign.sign, product_view c.in-Some-2.term) ∷ [] =
    rw c.in_ok-push.ensures.items (map_push _ c.loop-sign.more.items (c.in-Some-front_sign.sign, c.in-Some-2.term)) in
    record {
      so_far = rw pushed (sum_goes_on (product_view c.in-Some.first) (map term_view c.loop-sign.more.items) (sign_view c.in-Some-front_sign.sign) (product_view c.in-Some-2.term)
          (symbols_of text c.args.tokens.now) (symbols_of text c.loop-sign.rest.now) (symbols_of text c.in-Some-front_sign.unsigned.now) (symbols_of text c.in-Some-2.after.now) c.loop-sign.invariant.so_far signed.0 term.0);
      stops = term.0.1;
      each = term.1;
    }

pub returns : goal.returns
returns c =
    let text = c.args.text.now in
    let none = c.in_default-front_sign.ensures text c.loop-sign.invariant.each in
    ((c.loop-sign.invariant.so_far, sum_ends (symbols_of text c.loop-sign.rest.now) c.loop-sign.invariant.stops none), c.loop-sign.invariant.each)
