-- What a machine leaves that runs a resolved tree from its start is what the source means.
use Rattle.std.proofs.Common.{◌≡◌, ℕ, ℤ, List, [], length, ap, ◌∙◌, subst}
use Rattle.std.specs.Prelude.{⊤}
use Rattle.moduli_sets.specs.declared.set_name.SetName.{SetName}
use Rattle.name_check.specs.Names.{name_faults}
use Rattle.outside.specs.Sink.{SinkState}
use Rattle.range_inference.specs.Bound.{bound_of}
use Rattle.range_inference.specs.Demands.{too_wide}
use Rattle.source_tree.specs.Meaning.{meaning}
use Rattle.source_tree.specs.Run.{Run, limited}
use Rattle.source_tree.specs.State.{State}
use Rattle.source_tree.specs.declared.declaration.Program.{Program}
use Rattle.resolved_tree.specs.Meaning.{calls_of, meaning_of, state_at_start, steps_of}
use Rattle.resolved_tree.specs.Resolution.{resolved_of}
use Rattle.resolved_tree.specs.Sameness.{ResolvedMeansTheSame}
use Rattle.resolved_tree.specs.declared.tree.Resolved.{Resolved}
use Rattle.source_meaning.specs.declared.evaluator.MeanEnd.{MeanEnd}
use Rattle.source_meaning.specs.declared.machine.Machine.{Machine}
use Rattle.source_meaning.specs.Ends.{Means}
use Rattle.source_meaning.specs.Follows.{state_of}

pub means_same : {K : Type 0} (puts : K → List ℕ → K → Type 0) (state : K → SinkState) (program : Program) (set : SetName) (input : List ℤ) (limit : ℕ) (resolved : Resolved) (m : Machine) (old new : K) (end : MeanEnd)
    → ResolvedMeansTheSame → name_faults program ≡ [] → too_wide (bound_of set) program ≡ [] → resolved ≡ resolved_of program
    → m.left ≡ limit → length m.integers ≡ length resolved.slots → state_of m ≡ state_at_start resolved.slots input
    → Means puts state (limited m.left (steps_of (length m.integers) resolved.steps (calls_of (length m.integers) resolved.procedures) (state_of m))) old end new
    → Means puts state (limited limit (meaning program input)) old end new
means_same puts state program set input limit resolved m old new end law kept narrow is left sizes starts h =
    let whole : steps_of (length m.integers) resolved.steps (calls_of (length m.integers) resolved.procedures) (state_of m) ≡ meaning program input =
    ap (λ n. steps_of n resolved.steps (calls_of n resolved.procedures) (state_of m)) sizes
    ∙ ap (λ (s : State). steps_of (length resolved.slots) resolved.steps (calls_of (length resolved.slots) resolved.procedures) s) starts
    ∙ ap (λ (t : Resolved). meaning_of t input) is ∙ law program set input kept narrow in
    subst (λ n. Means puts state (limited n (meaning program input)) old end new) left
    (subst (λ (run : Run ⊤). Means puts state (limited m.left run) old end new) whole h)
