use Rattle.std.proofs.Common.{◌≡◌, false, Some, take}
use Rattle.source_lexer.specs.Scan.{comment_after}
use Rattle.source_lexer.proofs.gap.gap_len.Given as goal

abbrev pub invariant-loop-place : goal.invariant-loop-place
invariant-loop-place l = comment_after false (take l.place l.text) ≡ Some l.inside_comment
