use Rattle.std.proofs.Common.{ap, ◌∙◌}
use Rattle.source_parser.specs.Terminals.{token_kinds}
use Rattle.source_parser.proofs.KindNumbers.{kinds_of_tokens}
use Rattle.source_parser.proofs.Tokens.{first_some}
use Rattle.source_parser.proofs.reader.Reader.kind.Goals as goal

pub returns : goal.returns
returns c =
    let text = c.self.inside.text.now in
    let tokens = c.self.inside.rest.now in
    let parts = first_some tokens c.in_ok-first.field-0.now c.in_ok-first.ensures.value in
    rw (← c.self.view_is) (token_kinds parts.0, kinds_of_tokens text tokens ∙ ap token_kinds parts.1)
