-- Tables of symbols: what they have for a name, and with one name more.
use Rattle.std.proofs.Common.{◌≡◌, ℕ, List, [], ◌∷◌, ◌++◌, Option, Some, None, Result, Ok, Err, refl, ap, subst, ◌∙◌}
use Rattle.std.specs.Prelude.{MatchOption, OnOk, ⊤}
use Rattle.std.specs.Option.{option_map}
use denote.Bor.{Bor}
use Rattle.plain_text.specs.Lookup.{Named, lookup}
use Rattle.name_table.specs.Entries.{with_new, Mirrors}
use Rattle.name_table.proofs.LookupLemmas.{lookup-map, lookup-with_new}
use Rattle.name_table.proofs.MirrorLemmas.{mirrors_more}
use Rattle.name_check.specs.Held.{declared_of, scope_in}
use Rattle.name_check.specs.declared.symbols.Symbol.{Symbol}
use Rattle.source_tree.specs.Scope.{Scope}

-- what a table answers, as what is declared
pub found : (r : Option (Bor Symbol)) (x : List ℕ) (entries : Named Symbol)
    → MatchOption r (lookup x entries ≡ None) (λ symbol. lookup x entries ≡ Some symbol.now)
    → MatchOption r (lookup x (scope_in entries) ≡ None) (λ symbol. lookup x (scope_in entries) ≡ Some (declared_of symbol.now))
found None x entries h = lookup-map declared_of x entries ∙ ap (option_map declared_of) h
found (Some symbol) x entries h = lookup-map declared_of x entries ∙ ap (option_map declared_of) h

-- one name more
pub mirrors_new : (entries next : Named Symbol) (scope : Scope) (name : List ℕ) (symbol : Symbol)
    → Mirrors declared_of entries scope → next ≡ with_new entries name symbol → Mirrors declared_of next (scope ++ (name, declared_of symbol) ∷ [])
mirrors_new entries next scope name symbol h put =
    mirrors_more declared_of entries next scope (scope ++ (name, declared_of symbol) ∷ []) name symbol h
    (λ x. ap (lookup x) put ∙ lookup-with_new x entries name symbol) (λ x. refl)

-- a declaration of one name, by the scope after it
pub names_mirror : {E : Type 0} (result : Result ⊤ E) (entries next : Named Symbol) (name : List ℕ) (symbol : Symbol) (after : Scope → Scope)
    → ((scope : Scope) → scope ++ (name, declared_of symbol) ∷ [] ≡ after scope)
    → OnOk result (next ≡ with_new entries name symbol)
    → OnOk result ((scope : Scope) → Mirrors declared_of entries scope → Mirrors declared_of next (after scope))
names_mirror (Ok done) entries next name symbol after is put = λ scope h.
    subst (λ (s : Scope). Mirrors declared_of next s) (is scope) (mirrors_new entries next scope name symbol h put)
names_mirror (Err fault) entries next name symbol after is put = put
