-- What a procedure and a whole source come to, by what their parts come to.
use Rattle.std.proofs.Common.{◌≡◌, ◌+◌, List, [], ◌∷◌, ◌++◌, length, map, refl, sym, ap, subst, ◌∙◌, append_assoc, length-append}
use Rattle.std.proofs.lemmas.List.{length-map}
use Rattle.plain_text.specs.Lookup.{Named}
use Rattle.name_table.specs.Entries.{Mirrors}
use Rattle.name_table.proofs.MirrorLemmas.{lookup-mirrored}
use Rattle.name_check.specs.Held.{declared_of, scope_in}
use Rattle.name_check.specs.declared.symbols.Symbol.{Symbol}
use Rattle.source_tree.specs.Scope.{Scope, with_params, with_locals, inside, with_all_declared}
use Rattle.source_tree.specs.Fits.{params_declared, locals_declared, all_declared}
use Rattle.source_tree.specs.declared.declaration.Declaration.{Declaration}
use Rattle.source_tree.specs.declared.declaration.Local.{Local}
use Rattle.source_tree.specs.declared.declaration.Param.{Param}
use Rattle.source_tree.specs.declared.declaration.Program.{Program}
use Rattle.source_tree.specs.declared.statement.Statement.{Statement}
use Rattle.source_tree.proofs.FitsPrograms.{length-variables_from}
use Rattle.resolved_tree.specs.Resolution.{resolved_statements, all_procedures_of, resolved_of}
use Rattle.resolved_tree.specs.Slots.{slots_of}
use Rattle.resolved_tree.specs.declared.slot.Slot.{Slot}
use Rattle.resolved_tree.specs.declared.slot.Slot.TheVariants.{Nothing}
use Rattle.resolved_tree.specs.declared.tree.Procedure.{Procedure}
use Rattle.resolved_tree.specs.declared.tree.Resolved.{Resolved}
use Rattle.resolved_tree.specs.declared.tree.Step.{Step}
use Rattle.resolved_tree.proofs.SameNames.{statements_same}
use Rattle.resolved_tree.proofs.WalkLemmas.{slots_of-append, length-slots_of}

-- ---- a procedure: its own slot, those of its parameters, and those of its locals
module _ (slots one two : List Slot) (own : List Param) (inner : List Local)
    (first : one ≡ slots ++ Nothing ∷ []) (second : two ≡ one ++ slots_of (params_declared (length one) own)) where
  after_own : length one ≡ length slots + 1
  after_own = ap length first ∙ length-append slots (Nothing ∷ [])

  after_params : length two ≡ length slots + 1 + length own
  after_params =
      let ps = params_declared (length one) own in
      ap length second ∙ length-append one (slots_of ps)
      ∙ (λ j. after_own j + (length-slots_of ps ∙ length-variables_from (length one) (map (λ p. p.range) own) ∙ length-map own (λ (p : Param). p.range)) j)

  pub procedure_slots : (three : List Slot) → three ≡ two ++ slots_of (locals_declared (length two) inner)
      → three ≡ slots ++ Nothing ∷ slots_of (params_declared (length slots + 1) own ++ locals_declared (length slots + 1 + length own) inner)
  procedure_slots three third =
      let ps = params_declared (length slots + 1) own in
      let ls = locals_declared (length slots + 1 + length own) inner in
      third
      ∙ (λ j. second j ++ slots_of (locals_declared (after_params j) inner))
      ∙ (λ j. (first j ++ slots_of (params_declared (after_own j) own)) ++ slots_of ls)
      ∙ ap (λ l. l ++ slots_of ls) (append_assoc slots (Nothing ∷ []) (slots_of ps))
      ∙ append_assoc slots (Nothing ∷ slots_of ps) (slots_of ls)
      ∙ ap (λ l. slots ++ Nothing ∷ l) (sym (slots_of-append ps ls))

  -- the names in its body
  pub procedure_scope : (before middle after : Named Symbol)
      → ((s : Scope) → Mirrors declared_of before s → Mirrors declared_of middle (with_params (length one) own s))
      → ((s : Scope) → Mirrors declared_of middle s → Mirrors declared_of after (with_locals (length two) inner s))
      → (scope : Scope) → Mirrors declared_of before scope → Mirrors declared_of after (inside (length slots) own inner scope)
  procedure_scope before middle after params locals scope h =
      subst (λ n. Mirrors declared_of after (with_locals n inner (with_params (length slots + 1) own scope))) after_params
      (locals (with_params (length slots + 1) own scope) (subst (λ n. Mirrors declared_of middle (with_params n own scope)) after_own (params scope h)))

-- ---- a source
abbrev pub tree_of : List Slot → List Procedure → List Step → Resolved
tree_of slots procedures steps = record { slots = slots; procedures = procedures; steps = steps }

pub whole_resolved : (program : Program) (table after : Named Symbol) (start slots : List Slot) (before procedures : List Procedure) (steps : List Step)
    (ds : List Declaration) (list : List Statement)
    → table ≡ [] → start ≡ [] → before ≡ [] → ds ≡ program.declarations → list ≡ program.statements
    → slots ≡ start ++ slots_of (all_declared (length start) ds)
    → ((scope : Scope) → Mirrors declared_of table scope → procedures ≡ before ++ all_procedures_of (length start) ds scope)
    → ((scope : Scope) → Mirrors declared_of table scope → Mirrors declared_of after (with_all_declared (length start) ds scope))
    → steps ≡ resolved_statements list (scope_in after)
    → tree_of slots procedures steps ≡ resolved_of program
whole_resolved program table after start slots before procedures steps ds list no_names no_slots no_procedures is_ds is_list put resolve declare step =
    let empty : Mirrors declared_of table [] = subst (λ t. Mirrors declared_of t []) (sym no_names) (λ x. refl) in
    let numbered : slots ≡ slots_of (all_declared 0 program.declarations) = put ∙ (λ j. no_slots j ++ slots_of (all_declared (length (no_slots j)) (is_ds j))) in
    let resolved : procedures ≡ all_procedures_of 0 program.declarations [] =
    resolve [] empty ∙ (λ j. no_procedures j ++ all_procedures_of (length (no_slots j)) (is_ds j) []) in
    let names : Mirrors declared_of after (with_all_declared 0 program.declarations []) =
    subst (λ l. Mirrors declared_of after (with_all_declared 0 l [])) is_ds (subst (λ (l : List Slot). Mirrors declared_of after (with_all_declared (length l) ds [])) no_slots (declare [] empty)) in
    let stepped : steps ≡ resolved_statements program.statements (with_all_declared 0 program.declarations []) =
    step ∙ ap (λ l. resolved_statements l (scope_in after)) is_list ∙ statements_same (scope_in after) (with_all_declared 0 program.declarations []) (lookup-mirrored declared_of after (with_all_declared 0 program.declarations []) names) program.statements in
    λ j. record { slots = numbered j; procedures = resolved j; steps = stepped j }
