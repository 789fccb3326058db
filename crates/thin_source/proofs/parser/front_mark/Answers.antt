use Rattle.std.proofs.Common.{◌≡◌, sym, ◌∙◌, rules}
use denote.Enum.Bare.{differs_false, same_false}
use Rattle.source_lexer.specs.contracts.token.TokenKind.{the_type}
use Rattle.std.proofs.lemmas.Bool.{not-true}
use Rattle.thin_source.proofs.ThinTokens.{mark_found, mark_missed}
use Rattle.thin_source.proofs.parser.front_mark.Goals as goal

pub returns-then-ne : goal.returns-then-ne
returns-then-ne c = λ text each.
    let other : c.in_ok-token.token.now.kind ≡ c.args.kind → ⊥ = same_false the_type _ _ (not-true _ (sym c.ne.ensures ∙ c.if-ne.true)) in
    mark_missed c.args.kind text c.args.tokens.now c.in_ok-token.token.now c.in_ok-token.rest.now c.in_ok-token.ensures.cases.0 other

pub returns : goal.returns
returns c = λ text each.
    let same : c.in_ok-token.token.now.kind ≡ c.args.kind = differs_false the_type (search rules) _ _ (sym c.ne.ensures ∙ c.if-ne.false) in
    mark_found c.args.kind text c.args.tokens.now c.in_ok-token.token.now c.in_ok-token.rest.now c.requires each c.in_ok-token.ensures.cases.0 same
