use Rattle.std.proofs.Common.{◌≡◌, ◌≤◌, ◌-◌, length}
use Rattle.plain_text.specs.Lines.{line_at}
use Rattle.source_lexer.proofs.Joins.{Joins}
use Rattle.source_lexer.proofs.lexer.tokens.Given as goal

abbrev pub invariant-loop-found : goal.invariant-loop-found
invariant-loop-found l = record {
  inside : l.place ≤ length l.text;
  counted : l.line ≡ line_at l.text l.place;
  joins : Joins l.text l.place l.found.items;
}

abbrev pub decreases-loop-found : goal.decreases-loop-found
decreases-loop-found l = length l.text - l.place
