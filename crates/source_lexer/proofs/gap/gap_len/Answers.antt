use Rattle.std.proofs.Common.{◌∙◌, sym, get_or}
use Rattle.source_lexer.proofs.Gaps.{comment_after_more, comment_goes_on, comment_opens, blank_stays}
use Rattle.source_lexer.proofs.gap.gap_len.Goals as goal
use Rattle.source_lexer.proofs.gap.gap_len.Goals.{then-inside_comment, else-inside_comment+then-byte-eq35, else-inside_comment+else-byte-eq35+else-not-is_blank}

pub loop-place-preserved : goal.loop-place-preserved
loop-place-preserved c =
    let text = c.args.text.now in
    let place = c.loop-place.place in
    let b = get_or text place 0 in
    let next = c.if-inside_comment.inside_comment in
    comment_after_more text place c.loop-place.inside_comment c.loop-place-test.true c.loop-place.invariant ∙ (elim c.if-inside_comment.branch [
      | then-inside_comment w ↦ comment_goes_on b _ next w.if-inside_comment.true w.inside_comment-is
      | else-inside_comment+then-byte-eq35 w ↦ comment_opens b _ next w.if-inside_comment.false w.if-byte-eq35.true w.inside_comment-is
      | else-inside_comment+else-byte-eq35+else-not-is_blank w ↦ blank_stays b _ next w.if-inside_comment.false (sym w.is_blank.ensures ∙ w.if-not-is_blank.false) w.inside_comment-is
    ])
