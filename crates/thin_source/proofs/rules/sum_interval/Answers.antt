use Rattle.std.proofs.Common.{◌≡◌, ℕ, ◌+◌, ◌<◌, List, ◌∷◌, Some, None, option_and_then, map, length, get_or, drop, sym, ap, ◌∙◌}
use Rattle.std.proofs.lemmas.List.{at_drop_more}
use Rattle.thin_source.specs.declared.interval.Interval.{Interval}
use Rattle.thin_source.specs.declared.tree.Sign.{Sign}
use Rattle.thin_source.specs.declared.tree.Product.{Product}
use Rattle.thin_source.specs.ThinTree as tree
use Rattle.thin_source.specs.ThinRules.{fitting, joined_interval, product_interval, terms_interval}
use Rattle.thin_source.specs.ThinView.{sign_view, product_view, declaration_view}
use Rattle.thin_source.proofs.rules.sum_interval.Goals as goal

-- a term that joins to no interval that fits leaves none
none_from_unfit : (declarations : List tree.Declaration) (i j : Interval) (sign : tree.Sign) (product : tree.Product) (more : List (tree.Sign × tree.Product)) → Some j ≡ product_interval declarations product → None ≡ fitting (joined_interval sign i j) → None ≡ terms_interval declarations i ((sign, product) ∷ more)
none_from_unfit declarations i j sign product more term unfit =
    ap (option_and_then (λ k. terms_interval declarations k more)) unfit
    ∙ ap (option_and_then (λ l. option_and_then (λ k. terms_interval declarations k more) (fitting (joined_interval sign i l)))) term

-- the same of the term at a place
none_from_unfit_at : (declarations : List tree.Declaration) (i j : Interval) (terms : List (Sign × Product)) (k : ℕ) (term : Sign × Product) → k < length terms → term ≡ get_or terms k term → Some j ≡ product_interval declarations (product_view term.1) → None ≡ fitting (joined_interval (sign_view term.0) i j) → None ≡ terms_interval declarations i (map (λ term. (sign_view term.0, product_view term.1)) (drop k terms))
none_from_unfit_at declarations i j terms k term in_terms at_k interval unfit =
    let rest_interval = λ (rest : List (Sign × Product)). terms_interval declarations i (map (λ term. (sign_view term.0, product_view term.1)) rest) in
    let none = none_from_unfit declarations i j (sign_view term.0) (product_view term.1) (map (λ term. (sign_view term.0, product_view term.1)) (drop (k + 1) terms)) interval unfit in
    none ∙ ap (λ t. rest_interval (t ∷ drop (k + 1) terms)) at_k ∙ sym (at_drop_more rest_interval terms k term in_terms)

pub returns-in_err-interval-2 : goal.returns-in_err-interval-2
returns-in_err-interval-2 c =
    let unfit = c.in_err-interval-2.ensures ∙ ap fitting c.joined_interval.ensures in
    let rest_interval = λ (terms : List (Sign × Product)). terms_interval (map declaration_view c.args.declarations.now) c.loop-sign.interval (map (λ term. (sign_view term.0, product_view term.1)) (drop c.loop-sign.sign-index terms)) in
    c.from_residual-in_err-interval-2.ensures
    ∙ none_from_unfit_at _ c.loop-sign.interval c.in_ok-term.term c.deref-sign-items.result.now c.loop-sign.sign-index c.loop-sign-item.result c.loop-sign-test.true c.loop-sign-item.is c.in_ok-term.ensures.value unfit
    ∙ ap rest_interval c.deref-sign-items.ensures.value
    ∙ c.loop-sign.invariant.rest
