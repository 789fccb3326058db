use Rattle.std.proofs.Common.{◌≡◌, ◌+◌, drop, reverse, sym, ap, subst}
use Rattle.std.proofs.lemmas.List.{drop-drop}
use Rattle.machine_table.specs.Control.{Control, with_input}
use Rattle.residue_machine.proofs.position.Position.pass_input.Goals as goal

pub returns : goal.returns
returns c =
    let s = c.self.inside in
    let after : Control = record { counter = s.counter; places = reverse s.places.items; input = drop (s.read + 1) s.input.items } in
    subst (λ (p : Control). after ≡ with_input (drop 1 p.input) p) c.self.view_is
    (ap (λ xs. record { counter = s.counter; places = reverse s.places.items; input = xs }) (sym (drop-drop 1 s.read s.input.items)))
