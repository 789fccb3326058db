use Rattle.std.proofs.Common.{ap, ◌∙◌, List, ◌∷◌, sym}
use Rattle.thin_source.specs.ThinGrammar.{Symbol, word}
use Rattle.thin_source.proofs.ThinOnce.{head_once}
use Rattle.thin_source.proofs.parser.target.Goals as goal

pub returns-in_err-rest : goal.returns-in_err-rest
returns-in_err-rest c =
    let named = c.in_ok-name.ensures in
    let none = c.in_err-rest.ensures c.args.text.now named.1 in
    rw c.from_residual-in_err-rest.ensures (λ x r h. none r (head_once _ _ _ _ (sym named.0 ∙ h)).1)

pub returns : goal.returns
returns c =
    let named = c.in_ok-name.ensures in
    let becomes = c.in_ok-rest.ensures c.args.text.now named.1 in
    (named.0 ∙ ap (λ (s : List Symbol). word c.in_ok-name.name.now ∷ s) becomes.0, becomes.1)
