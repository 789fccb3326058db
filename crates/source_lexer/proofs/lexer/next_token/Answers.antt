use Rattle.std.proofs.Common.{◌+◌}
use Rattle.std.proofs.lemmas.List.{take_rest}
use Rattle.source_lexer.proofs.Standing.{behind_gap, no_token_next, token_next, short_next, long_next}
use Rattle.source_lexer.proofs.lexer.next_token.Goals as goal

pub returns-in_default : goal.returns-in_default
returns-in_default c =
    let behind = behind_gap c.args.text.now c.args.from c.gap_len-gap.result c.args.line c.line_feeds.result c.is_empty.result c.requires.inside c.requires.counted (rw take_rest at c.gap_len-gap.ensures) c.line_feeds.ensures.count (rw take_rest at c.is_empty.ensures) c.if-is_empty.false in
    no_token_next c.args.text.now c.args.from c.gap_len-gap.result _ behind (rw take_rest at c.in_default.ensures)

pub returns-then-is_long : goal.returns-then-is_long
returns-then-is_long c =
    let behind = behind_gap c.args.text.now c.args.from c.gap_len-gap.result c.args.line c.line_feeds.result c.is_empty.result c.requires.inside c.requires.counted (rw take_rest at c.gap_len-gap.ensures) c.line_feeds.ensures.count (rw take_rest at c.is_empty.ensures) c.if-is_empty.false in
    long_next c.args.text.now c.args.from c.gap_len-gap.result _ _ _ behind (rw take_rest at c.in-Some.ensures) (rw take_rest at c.if-is_long.ensures)

pub returns : goal.returns
returns c =
    let behind = behind_gap c.args.text.now c.args.from c.gap_len-gap.result c.args.line c.line_feeds.result c.is_empty.result c.requires.inside c.requires.counted (rw take_rest at c.gap_len-gap.ensures) c.line_feeds.ensures.count (rw take_rest at c.is_empty.ensures) c.if-is_empty.false in
    (token_next c.args.text.now c.args.from c.gap_len-gap.result _ _ _ behind (rw take_rest at c.in-Some.ensures), short_next c.args.text.now (c.args.from + c.gap_len-gap.result) _ c.in-Some.kind (rw take_rest at c.if-is_long.ensures))
