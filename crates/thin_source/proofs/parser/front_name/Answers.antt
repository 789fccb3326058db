use Rattle.std.proofs.Common.{◌≡◌}
use Rattle.source_lexer.specs.declared.token.TokenKind.TheVariants.{Name}
use Rattle.thin_source.proofs.ThinTokens.{name_found}
use Rattle.thin_source.proofs.parser.front_name.Goals as goal
use Rattle.thin_source.proofs.parser.front_name.Goals.{in-Name, in_default}

pub returns : goal.returns
returns c =
    let same : c.in_ok-token.token.now.kind ≡ Name = elim c.match-matches.branch [ in-Name w ↦ w.in-Name.is | in_default w ↦ absurd cc ] in
    name_found c.args.text.now c.args.tokens.now c.in_ok-token.token.now c.in_ok-token.rest.now c.requires c.in_ok-token.ensures.cases.0 same
