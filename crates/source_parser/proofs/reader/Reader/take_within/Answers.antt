use Rattle.std.proofs.Common.{◌≡◌, sym, ap, ◌∙◌, refl, arith, rules}
use denote.Enum.Bare.{same_true, same_false}
use Rattle.source_lexer.specs.contracts.token.TokenKind.{the_type}
use Rattle.source_parser.specs.Terminals.{terminals_of}
use Rattle.source_parser.proofs.Tokens.{first_some, first_none, fixed_found, missed, past_end}
use Rattle.source_parser.proofs.reader.Reader.take_within.Goals as goal
use Rattle.source_parser.proofs.reader.Reader.take_within.Goals.{in-Some, in_default-2, in_default}

pub returns-clause-value : goal.returns-clause-value
returns-clause-value c =
    let kind = c.args.kind in
    let text = c.self.inside.text.now in
    let tokens = c.self.inside.rest.now in
    let none_left : c.args.limit ≡ 0 = omega arith in
    elim c.match-first.branch [
      | in-Some w ↦
          let token = w.in-Some.token.now in
          let parts = first_some tokens token (rw w.in-Some.is at c.first.ensures.value) in
          let same : token.kind ≡ kind = same_true the_type (search rules) _ _ (sym w.eq.ensures ∙ w.if-eq.true) in
          rw (w.result-is, ← c.self.view_is) (refl, none_left, (refl, token.line, terminals_of text parts.0, fixed_found text tokens token parts.0 kind parts.1 c.requires same))
      | in_default-2 w ↦
          let token = w.in-Some.token.now in
          let parts = first_some tokens token (rw w.in-Some.is at c.first.ensures.value) in
          let other : token.kind ≡ kind → ⊥ = same_false the_type _ _ (sym w.eq.ensures ∙ w.if-eq.false) in
          rw (w.result-is, ← c.self.view_is) (refl, missed text tokens token parts.0 kind parts.1 other)
      | in_default w ↦
          let none = first_none tokens (rw w.in_default.is at c.first.ensures.value) in
          rw (w.result-is, ← c.self.view_is) (refl, past_end kind (terminals_of text tokens) (ap (terminals_of text) none))
    ]
