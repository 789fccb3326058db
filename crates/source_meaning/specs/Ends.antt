-- What an evaluation leaves in a sink, by how it ended.
use Rattle.std.specs.Prelude.{◌≡◌, ℕ, List, take, ⊤}
use Rattle.outside.specs.Sink.{SinkState, WroteAll, BrokeOff}
use Rattle.number_text.specs.Lines.{print_lines}
use Rattle.source_tree.specs.State.{State}
use Rattle.source_tree.specs.Run.{Limited, Ending, returned, trapped, spent}
use Rattle.source_meaning.specs.declared.evaluator.MeanEnd.{MeanEnd}
use Rattle.source_meaning.specs.declared.evaluator.MeanEnd.TheVariants.{End, Trap, Spent, SinkFailed, NoMemory}

module _ {K : Type 0} (puts : K → List ℕ → K → Type 0) (state : K → SinkState) where
  -- all that is printed within a limit is put, and it ends so
  abbrev pub PutsAll : Limited ⊤ → K → Ending ⊤ → K → Type 0
  PutsAll limited old ending new = WroteAll puts state old (print_lines limited.prints) new × (limited.ending ≡ ending)

  -- What is left of what a source means within a limit: one line for each integer that it prints, up to a put that failed;
  -- or memory ran out, and nothing is put.
  abbrev pub Means : Limited ⊤ → K → MeanEnd → K → Type 0
  Means limited old End new = (after : State) × (left : ℕ) × PutsAll limited old (returned tt after left) new
  Means limited old (Trap kind line) new = PutsAll limited old (trapped kind line) new
  Means limited old Spent new = PutsAll limited old spent new
  Means limited old SinkFailed new = (n : ℕ) × BrokeOff puts state old (take n (print_lines limited.prints)) new
  Means limited old NoMemory new = new ≡ old
