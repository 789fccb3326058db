use Rattle.std.proofs.Common.{◌≡◌, ◌+◌, ◌*◌, ◌≤◌, ◌++◌, take, length}
use Rattle.job_endings.specs.Numbers.{numbers_text}
use Rattle.job_endings.proofs.numbers.with_numbers.Given as goal

-- the numbers so far, each of at most 20 digits and a space
abbrev pub invariant-loop-n : goal.invariant-loop-n
invariant-loop-n g l = record {
  text : l.line ≡ l.fn.line ++ numbers_text (take l.n (g.N.Numbers.numbers l.numbers));
  room : length l.line ≤ length l.fn.line + 21 * l.n;
}
