use Rattle.std.proofs.Common.{◌≡◌}
use Rattle.source_lexer.specs.declared.token.TokenKind.TheVariants.{Number}
use Rattle.thin_source.proofs.ThinTokens.{number_found}
use Rattle.thin_source.proofs.parser.front_number.Goals as goal
use Rattle.thin_source.proofs.parser.front_number.Goals.{in-Number, in_default}

pub returns-clause-value : goal.returns-clause-value
returns-clause-value c =
    let same : c.in_ok-token.token.now.kind ≡ Number = elim c.match-matches.branch [ in-Number w ↦ w.in-Number.is | in_default w ↦ absurd cc ] in
    number_found c.args.text.now c.args.tokens.now c.in_ok-token.token.now c.in_ok-token.rest.now c.in_ok-number.number c.requires c.in_ok-token.ensures.cases.0 same c.in_ok-number.ensures.0
