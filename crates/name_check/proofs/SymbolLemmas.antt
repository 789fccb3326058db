-- What a table of symbols has for a name is what the name stands for in its scope.
use Rattle.std.proofs.Common.{◌≡◌, ℕ, List, [], ◌∷◌, ◌++◌, Option, Some, None, Result, Ok, Err, refl, sym, ap, ◌∙◌}
use Rattle.std.specs.Prelude.{MatchOption, OnOk, ⊤}
use Rattle.std.specs.Option.{option_map}
use Rattle.std.proofs.lemmas.List.{map-append}
use denote.Bor.{Bor}
use Rattle.plain_text.specs.Lookup.{Named, lookup}
use Rattle.name_table.specs.Entries.{with_new}
use Rattle.name_table.proofs.LookupLemmas.{lookup-map, with_new-absent}
use Rattle.source_tree.specs.Scope.{Declared, Scope}
use Rattle.name_check.specs.declared.symbols.Symbol.{Symbol}
use Rattle.name_check.specs.Held.{declared_of, scope_in}

pub lookup-scope_in : (table : Named Symbol) (now : Scope) (name : List ℕ) → scope_in table ≡ now → lookup name now ≡ option_map declared_of (lookup name table)
lookup-scope_in table now name is = ap (lookup name) (sym is) ∙ lookup-map declared_of name table

-- what a table answers says it of its scope
pub answered : (r : Option (Bor Symbol)) (o : Option Symbol) (d : Option Declared) → d ≡ option_map declared_of o
    → MatchOption r (o ≡ None) (λ symbol. o ≡ Some symbol.now) → MatchOption r (d ≡ None) (λ symbol. d ≡ Some (declared_of symbol.now))
answered None o d is h = is ∙ ap (option_map declared_of) h
answered (Some symbol) o d is h = is ∙ ap (option_map declared_of) h

absent : (o : Option Symbol) → option_map declared_of o ≡ None → o ≡ None
absent None h = refl
absent (Some symbol) h = cc

-- a new name comes after the others
pub declares : {E : Type 0} (result : Result ⊤ E) (before after : Named Symbol) (now : Scope) (name : List ℕ) (symbol : Symbol) → scope_in before ≡ now → lookup name now ≡ None
    → OnOk result (after ≡ with_new before name symbol) → OnOk result (scope_in after ≡ now ++ (name, declared_of symbol) ∷ [])
declares (Ok done) before after now name symbol is new put =
    ap scope_in (put ∙ with_new-absent before name symbol (absent (lookup name before) (sym (lookup-scope_in before now name is) ∙ new)))
    ∙ map-append (λ e. (e.0, declared_of e.1)) before ((name, symbol) ∷ []) ∙ ap (λ s. s ++ (name, declared_of symbol) ∷ []) is
declares (Err fault) before after now name symbol is new put = put
