-- Parameters and locals are put into slots and a table one after another: what is left of them leads to what they all lead to.
use Rattle.std.proofs.Common.{◌≡◌, ℕ, ◌+◌, ◌<◌, ◌≤◌, List, [], ◌∷◌, ◌++◌, length, map, drop, get_or, refl, sym, ap, subst, ◌∙◌, append_assoc, append-nil, length-append}
use Rattle.std.proofs.lemmas.List.{drop_more, drop_all}
use Rattle.plain_text.specs.Lookup.{Named}
use Rattle.name_table.specs.Entries.{with_new, Mirrors, Extends}
use Rattle.name_table.proofs.MirrorLemmas.{extends_itself, extends_with_new, extends_then}
use Rattle.name_check.specs.Held.{declared_of}
use Rattle.name_check.specs.declared.symbols.Symbol.{Symbol}
use Rattle.name_check.specs.declared.symbols.Symbol.TheVariants as symbol
use Rattle.source_tree.specs.Scope.{Scope, variable, with_variables}
use Rattle.source_tree.specs.Fits.{variables_from}
use Rattle.source_tree.specs.declared.name.Name.{Name}
use Rattle.source_tree.specs.declared.name.Range.{Range}
use Rattle.resolved_tree.specs.Slots.{slots_of}
use Rattle.resolved_tree.specs.declared.slot.Slot.{Slot}
use Rattle.resolved_tree.specs.declared.slot.Slot.TheVariants.{Variable}
use Rattle.resolved_tree.proofs.SymbolLemmas.{mirrors_new}

module _ {A : Type 0} (name : A → Name) (range : A → Range) where
  abbrev pub slots_from : ℕ → List A → List Slot
  slots_from k xs = slots_of (variables_from k (map range xs))

  -- those before number i are there
  pub record HasDeclared (xs : List A) (i : ℕ) (start slots : List Slot) (first table : Named Symbol) : Type 0 where
    pub numbered : start ++ slots_from (length start) xs ≡ slots ++ slots_from (length slots) (drop i xs)
    pub names : (scope : Scope) → Mirrors declared_of first scope
        → (now : Scope) × (Mirrors declared_of table now × (with_variables name range (length start) xs scope ≡ with_variables name range (length slots) (drop i xs) now))
    pub others : Extends first table

  pub declared_first : (xs : List A) (start : List Slot) (first : Named Symbol) → HasDeclared xs 0 start start first first
  declared_first xs start first = record { numbered = refl; names = λ scope h. (scope, (h, refl)); others = extends_itself first }

  module _ (xs : List A) (i : ℕ) (start slots : List Slot) (first table : Named Symbol) (declared : HasDeclared xs i start slots first table) where
    -- the next, by its name n and its range r
    pub declared_next : (x : A) (n : Name) (r : Range) (next : List Slot) (after : Named Symbol) → i < length xs → x ≡ get_or xs i x → n ≡ name x → r ≡ range x
        → next ≡ slots ++ Variable (length slots) r ∷ [] → after ≡ with_new table n.bytes (symbol.Variable (length slots) r)
        → HasDeclared xs (i + 1) start next first after
    declared_next x n r next after within is same_name same_range also told =
        let put : next ≡ slots ++ Variable (length slots) (range x) ∷ [] = also ∙ ap (λ q. slots ++ Variable (length slots) q ∷ []) same_range in
        let entry = symbol.Variable (length slots) (range x) in
        let more : after ≡ with_new table (name x).bytes entry = told ∙ (λ j. with_new table (same_name j).bytes (symbol.Variable (length slots) (same_range j))) in
        let left : drop i xs ≡ x ∷ drop (i + 1) xs = drop_more xs i x within ∙ ap (λ y. y ∷ drop (i + 1) xs) (sym is) in
        let own = Variable (length slots) (range x) ∷ [] in
        let count : length next ≡ length slots + 1 = ap length put ∙ length-append slots own in
        record {
          numbered =
              declared.numbered ∙ ap (λ l. slots ++ slots_from (length slots) l) left
              ∙ sym (append_assoc slots own (slots_from (length slots + 1) (drop (i + 1) xs)))
              ∙ (λ j. sym put j ++ slots_from (sym count j) (drop (i + 1) xs));
          names = λ scope h.
              let before = declared.names scope h in
              let now : Scope = before.0 ++ ((name x).bytes, variable (length slots) (range x)) ∷ [] in
              (now, (mirrors_new table after before.0 (name x).bytes entry before.1.0 more, before.1.1 ∙ ap (λ l. with_variables name range (length slots) l before.0) left ∙ ap (λ m. with_variables name range m (drop (i + 1) xs) now) (sym count)));
          others = extends_then first table after declared.others (subst (Extends table) (sym more) (extends_with_new table (name x).bytes entry));
        }

    pub declared_slots : length xs ≤ i → slots ≡ start ++ slots_from (length start) xs
    declared_slots end =
        sym (declared.numbered ∙ ap (λ l. slots ++ slots_from (length slots) l) (drop_all i xs end) ∙ append-nil slots)

    pub declared_names : length xs ≤ i → (scope : Scope) → Mirrors declared_of first scope → Mirrors declared_of table (with_variables name range (length start) xs scope)
    declared_names end scope h =
        let now = declared.names scope h in
        subst (λ (s : Scope). Mirrors declared_of table s) (sym (now.1.1 ∙ ap (λ l. with_variables name range (length slots) l now.0) (drop_all i xs end))) now.1.0
