use Rattle.std.proofs.Common.{refl, sym, ◌∙◌}
use Rattle.std.proofs.lemmas.Result.{err_from_is_err_and}
use Rattle.source_lexer.specs.declared.token.TokenKind.TheVariants as kind
use Rattle.source_parser.specs.Grammar as g
use Rattle.source_parser.proofs.Taken.{not_taken, comparison_found, no_comparison}
use Rattle.source_parser.proofs.statement.comparison.Goals as goal

pub returns-then-is_some-clause-value : goal.returns-then-is_some-clause-value
returns-then-is_some-clause-value c =
    comparison_found g.less c.args.reader.now c.args.reader.now c.take.new.self c.take.result refl (sym (sym c.is_some.ensures ∙ c.if-is_some.true)) c.take.ensures.value

pub returns-then-is_some-2-clause-value : goal.returns-then-is_some-2-clause-value
returns-then-is_some-2-clause-value c =
    let no_less = not_taken kind.Less c.args.reader.now c.take.result c.take.new.self c.take.ensures.value (sym (sym c.is_some.ensures ∙ c.if-is_some.false)) in
    comparison_found g.less_equal c.args.reader.now c.take.new.self c.take-else-is_some.new.self c.take-else-is_some.result no_less.0 (sym (sym c.is_some-else-is_some.ensures ∙ c.if-is_some-2.true)) c.take-else-is_some.ensures.value

pub returns-then-is_some-3-clause-value : goal.returns-then-is_some-3-clause-value
returns-then-is_some-3-clause-value c =
    let no_less = not_taken kind.Less c.args.reader.now c.take.result c.take.new.self c.take.ensures.value (sym (sym c.is_some.ensures ∙ c.if-is_some.false)) in
    let no_less_equal = not_taken kind.LessEqual c.take.new.self c.take-else-is_some.result c.take-else-is_some.new.self c.take-else-is_some.ensures.value (sym (sym c.is_some-else-is_some.ensures ∙ c.if-is_some-2.false)) in
    comparison_found g.greater c.args.reader.now c.take-else-is_some.new.self c.take-else-is_some-2.new.self c.take-else-is_some-2.result (no_less_equal.0 ∙ no_less.0) (sym (sym c.is_some-else-is_some-2.ensures ∙ c.if-is_some-3.true)) c.take-else-is_some-2.ensures.value

pub returns-then-is_some-4-clause-value : goal.returns-then-is_some-4-clause-value
returns-then-is_some-4-clause-value c =
    let no_less = not_taken kind.Less c.args.reader.now c.take.result c.take.new.self c.take.ensures.value (sym (sym c.is_some.ensures ∙ c.if-is_some.false)) in
    let no_less_equal = not_taken kind.LessEqual c.take.new.self c.take-else-is_some.result c.take-else-is_some.new.self c.take-else-is_some.ensures.value (sym (sym c.is_some-else-is_some.ensures ∙ c.if-is_some-2.false)) in
    let no_greater = not_taken kind.Greater c.take-else-is_some.new.self c.take-else-is_some-2.result c.take-else-is_some-2.new.self c.take-else-is_some-2.ensures.value (sym (sym c.is_some-else-is_some-2.ensures ∙ c.if-is_some-3.false)) in
    comparison_found g.greater_equal c.args.reader.now c.take-else-is_some-2.new.self c.take-else-is_some-3.new.self c.take-else-is_some-3.result (no_greater.0 ∙ no_less_equal.0 ∙ no_less.0) (sym (sym c.is_some-else-is_some-3.ensures ∙ c.if-is_some-4.true)) c.take-else-is_some-3.ensures.value

pub returns-then-is_some-5-clause-value : goal.returns-then-is_some-5-clause-value
returns-then-is_some-5-clause-value c =
    let no_less = not_taken kind.Less c.args.reader.now c.take.result c.take.new.self c.take.ensures.value (sym (sym c.is_some.ensures ∙ c.if-is_some.false)) in
    let no_less_equal = not_taken kind.LessEqual c.take.new.self c.take-else-is_some.result c.take-else-is_some.new.self c.take-else-is_some.ensures.value (sym (sym c.is_some-else-is_some.ensures ∙ c.if-is_some-2.false)) in
    let no_greater = not_taken kind.Greater c.take-else-is_some.new.self c.take-else-is_some-2.result c.take-else-is_some-2.new.self c.take-else-is_some-2.ensures.value (sym (sym c.is_some-else-is_some-2.ensures ∙ c.if-is_some-3.false)) in
    let no_greater_equal = not_taken kind.GreaterEqual c.take-else-is_some-2.new.self c.take-else-is_some-3.result c.take-else-is_some-3.new.self c.take-else-is_some-3.ensures.value (sym (sym c.is_some-else-is_some-3.ensures ∙ c.if-is_some-4.false)) in
    comparison_found g.equal c.args.reader.now c.take-else-is_some-3.new.self c.take-else-is_some-4.new.self c.take-else-is_some-4.result (no_greater_equal.0 ∙ no_greater.0 ∙ no_less_equal.0 ∙ no_less.0) (sym (sym c.is_some-else-is_some-4.ensures ∙ c.if-is_some-5.true)) c.take-else-is_some-4.ensures.value

pub returns-in_err-expect-clause-value : goal.returns-in_err-expect-clause-value
returns-in_err-expect-clause-value c =
    let no_less = not_taken kind.Less c.args.reader.now c.take.result c.take.new.self c.take.ensures.value (sym (sym c.is_some.ensures ∙ c.if-is_some.false)) in
    let no_less_equal = not_taken kind.LessEqual c.take.new.self c.take-else-is_some.result c.take-else-is_some.new.self c.take-else-is_some.ensures.value (sym (sym c.is_some-else-is_some.ensures ∙ c.if-is_some-2.false)) in
    let no_greater = not_taken kind.Greater c.take-else-is_some.new.self c.take-else-is_some-2.result c.take-else-is_some-2.new.self c.take-else-is_some-2.ensures.value (sym (sym c.is_some-else-is_some-2.ensures ∙ c.if-is_some-3.false)) in
    let no_greater_equal = not_taken kind.GreaterEqual c.take-else-is_some-2.new.self c.take-else-is_some-3.result c.take-else-is_some-3.new.self c.take-else-is_some-3.ensures.value (sym (sym c.is_some-else-is_some-3.ensures ∙ c.if-is_some-4.false)) in
    let no_equal = not_taken kind.Equal c.take-else-is_some-3.new.self c.take-else-is_some-4.result c.take-else-is_some-4.new.self c.take-else-is_some-4.ensures.value (sym (sym c.is_some-else-is_some-4.ensures ∙ c.if-is_some-5.false)) in
    let missing = c.in_err-expect.ensures.value in
    let failed = err_from_is_err_and c.from_residual.result c.from_residual.ensures.1 in
    rw (failed.1, failed.2) (
      missing.0,
      missing.1.0 ∙ no_equal.0 ∙ no_greater_equal.0 ∙ no_greater.0 ∙ no_less_equal.0 ∙ no_less.0,
      no_comparison no_less.0 no_less_equal.0 no_greater.0 no_greater_equal.0 no_equal.0 no_less.1 no_less_equal.1 no_greater.1 no_greater_equal.1 no_equal.1 missing.1.1,
    )

pub returns-in_ok-expect-clause-value : goal.returns-in_ok-expect-clause-value
returns-in_ok-expect-clause-value c =
    let no_less = not_taken kind.Less c.args.reader.now c.take.result c.take.new.self c.take.ensures.value (sym (sym c.is_some.ensures ∙ c.if-is_some.false)) in
    let no_less_equal = not_taken kind.LessEqual c.take.new.self c.take-else-is_some.result c.take-else-is_some.new.self c.take-else-is_some.ensures.value (sym (sym c.is_some-else-is_some.ensures ∙ c.if-is_some-2.false)) in
    let no_greater = not_taken kind.Greater c.take-else-is_some.new.self c.take-else-is_some-2.result c.take-else-is_some-2.new.self c.take-else-is_some-2.ensures.value (sym (sym c.is_some-else-is_some-2.ensures ∙ c.if-is_some-3.false)) in
    let no_greater_equal = not_taken kind.GreaterEqual c.take-else-is_some-2.new.self c.take-else-is_some-3.result c.take-else-is_some-3.new.self c.take-else-is_some-3.ensures.value (sym (sym c.is_some-else-is_some-3.ensures ∙ c.if-is_some-4.false)) in
    let no_equal = not_taken kind.Equal c.take-else-is_some-3.new.self c.take-else-is_some-4.result c.take-else-is_some-4.new.self c.take-else-is_some-4.ensures.value (sym (sym c.is_some-else-is_some-4.ensures ∙ c.if-is_some-5.false)) in
    (kind.NotEqual, c.in_ok-expect.field-0, g.not_equal, sym (no_equal.0 ∙ no_greater_equal.0 ∙ no_greater.0 ∙ no_less_equal.0 ∙ no_less.0) ∙ c.in_ok-expect.ensures.value)
