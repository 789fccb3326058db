-- Declarations are resolved one after another: what is left of them leads to what they all lead to.
use Rattle.std.proofs.Common.{◌≡◌, ℕ, ◌+◌, ◌<◌, ◌≤◌, List, [], ◌∷◌, ◌++◌, length, drop, get_or, refl, sym, ap, subst, ◌∙◌, arith, append_assoc, append-nil, length-append}
use Rattle.std.proofs.lemmas.List.{drop_more, drop_all}
use Rattle.plain_text.specs.Lookup.{Named}
use Rattle.name_table.specs.Entries.{Mirrors}
use Rattle.name_check.specs.Held.{declared_of}
use Rattle.name_check.specs.declared.symbols.Symbol.{Symbol}
use Rattle.source_tree.specs.Scope.{Declared, Scope, names_in, with_declared, with_all_declared}
use Rattle.source_tree.specs.Fits.{declared_in, all_declared}
use Rattle.source_tree.specs.declared.declaration.Declaration.{Declaration}
use Rattle.source_tree.proofs.FitsPrograms.{length-declared_in}
use Rattle.resolved_tree.specs.Resolution.{procedures_of, all_procedures_of}
use Rattle.resolved_tree.specs.Slots.{slots_of}
use Rattle.resolved_tree.specs.declared.slot.Slot.{Slot}
use Rattle.resolved_tree.specs.declared.tree.Procedure.{Procedure}

pub slots_of-append : (a b : List Declared) → slots_of (a ++ b) ≡ slots_of a ++ slots_of b
slots_of-append [] b = refl
slots_of-append (d ∷ a) b = ap (λ l. slots_of (d ∷ []) ++ l) (slots_of-append a b)

pub length-slots_of : (a : List Declared) → length (slots_of a) ≡ length a
length-slots_of [] = refl
length-slots_of (d ∷ a) = let h : length (slots_of a) ≡ length a = length-slots_of a in omega arith

-- what has come of a scope
pub record Reached (ds : List Declaration) (i : ℕ) (start slots : List Slot) (before procedures : List Procedure) (table : Named Symbol) (scope : Scope) : Type 0 where
  pub now : Scope
  pub mirrors : Mirrors declared_of table now
  pub resolved : before ++ all_procedures_of (length start) ds scope ≡ procedures ++ all_procedures_of (length slots) (drop i ds) now
  pub names : with_all_declared (length start) ds scope ≡ with_all_declared (length slots) (drop i ds) now

-- the declarations before number i are resolved
pub record HasWalked (ds : List Declaration) (i : ℕ) (start slots : List Slot) (before procedures : List Procedure) (first table : Named Symbol) : Type 0 where
  pub numbered : start ++ slots_of (all_declared (length start) ds) ≡ slots ++ slots_of (all_declared (length slots) (drop i ds))
  pub reached : (scope : Scope) → Mirrors declared_of first scope → Reached ds i start slots before procedures table scope

pub walked_first : (ds : List Declaration) (start : List Slot) (before : List Procedure) (first : Named Symbol) → HasWalked ds 0 start start before before first first
walked_first ds start before first = record {
  numbered = refl;
  reached = λ scope h. record { now = scope; mirrors = h; resolved = refl; names = refl };
}

module _ (ds : List Declaration) (i : ℕ) (start slots : List Slot) (before procedures : List Procedure) (first table : Named Symbol)
    (walked : HasWalked ds i start slots before procedures first table) where
  pub walked_next : (d : Declaration) (next : List Slot) (more : List Procedure) (after : Named Symbol) → i < length ds → d ≡ get_or ds i d
      → next ≡ slots ++ slots_of (declared_in (length slots) d)
      → ((scope : Scope) → Mirrors declared_of table scope → more ≡ procedures ++ procedures_of (length slots) d scope)
      → ((scope : Scope) → Mirrors declared_of table scope → Mirrors declared_of after (with_declared (length slots) d scope))
      → HasWalked ds (i + 1) start next before more first after
  walked_next d next more after within is put resolve declare =
      let left : drop i ds ≡ d ∷ drop (i + 1) ds = drop_more ds i d within ∙ ap (λ y. y ∷ drop (i + 1) ds) (sym is) in
      let rest = drop (i + 1) ds in
      let k = length slots in
      let own = declared_in k d in
      let n : length next ≡ k + names_in d =
      ap length put ∙ length-append slots (slots_of own) ∙ ap (λ m. k + m) (length-slots_of own ∙ length-declared_in k d) in
      record {
        numbered =
            walked.numbered ∙ ap (λ l. slots ++ slots_of (all_declared k l)) left
            ∙ ap (λ l. slots ++ l) (slots_of-append own (all_declared (k + names_in d) rest))
            ∙ sym (append_assoc slots (slots_of own) (slots_of (all_declared (k + names_in d) rest)))
            ∙ (λ j. sym put j ++ slots_of (all_declared (sym n j) rest));
        reached = λ scope h.
            let r = walked.reached scope h in
            let now = with_declared k d r.now in
            record {
              now = now;
              mirrors = declare r.now r.mirrors;
              resolved =
                  r.resolved ∙ ap (λ l. procedures ++ all_procedures_of k l r.now) left
                  ∙ sym (append_assoc procedures (procedures_of k d r.now) (all_procedures_of (k + names_in d) rest now))
                  ∙ (λ j. sym (resolve r.now r.mirrors) j ++ all_procedures_of (sym n j) rest now);
              names = r.names ∙ ap (λ l. with_all_declared k l r.now) left ∙ ap (λ m. with_all_declared m rest now) (sym n);
            };
      }

  module _ (end : length ds ≤ i) where
    pub walked_slots : slots ≡ start ++ slots_of (all_declared (length start) ds)
    walked_slots = sym (walked.numbered ∙ ap (λ l. slots ++ slots_of (all_declared (length slots) l)) (drop_all i ds end) ∙ append-nil slots)

    pub walked_procedures : (scope : Scope) → Mirrors declared_of first scope → procedures ≡ before ++ all_procedures_of (length start) ds scope
    walked_procedures scope h =
        let r = walked.reached scope h in
        sym (r.resolved ∙ ap (λ l. procedures ++ all_procedures_of (length slots) l r.now) (drop_all i ds end) ∙ append-nil procedures)

    pub walked_names : (scope : Scope) → Mirrors declared_of first scope → Mirrors declared_of table (with_all_declared (length start) ds scope)
    walked_names scope h =
        let r = walked.reached scope h in
        subst (λ (s : Scope). Mirrors declared_of table s) (sym (r.names ∙ ap (λ l. with_all_declared (length slots) l r.now) (drop_all i ds end))) r.mirrors
