-- What a table of ranges has for a name.
use Rattle.std.proofs.Common.{◌≡◌, ℕ, List, [], ◌∷◌, ◌++◌, Option, Some, None, refl, sym, ap, ◌∙◌}
use Rattle.std.specs.Option.{option_map}
use Rattle.plain_text.specs.Lookup.{Named, lookup}
use Rattle.name_table.specs.Entries.{with_new}
use Rattle.name_table.proofs.LookupLemmas.{lookup-with_new}
use Rattle.name_table.proofs.MirrorLemmas.{mirrors_more}
use Rattle.source_tree.specs.Scope.{Declared, Scope, range_of, range_at}
use Rattle.source_tree.specs.declared.name.Range.{Range}
use Rattle.range_inference.specs.Table.{range_or_empty, range_in, HasRanges}

-- ---- ranges under names
pub range_is : (entries : Named Range) (name : List ℕ) (o : Option Range) → lookup name entries ≡ o → range_or_empty o ≡ range_in entries name
unfolding range_in
range_is entries name o h = ap range_or_empty (sym h)

of_declared : (o : Option Declared) → range_or_empty (option_map (λ d. range_of (Some d)) o) ≡ range_of o
of_declared (Some d) = refl
of_declared None = refl

-- a table with the ranges of a scope has for each name the range that it has in the scope
pub ranges_are : (entries : Named Range) (scope : Scope) → HasRanges entries scope → range_in entries ≡ range_at scope
unfolding range_in
ranges_are entries scope h = λ i name. (ap range_or_empty (sym (h name)) ∙ of_declared (lookup name scope)) i

-- one more name
pub has_more : (entries next : Named Range) (scope : Scope) (name : List ℕ) (d : Declared)
    → HasRanges entries scope → next ≡ with_new entries name (range_of (Some d)) → HasRanges next (scope ++ (name, d) ∷ [])
has_more entries next scope name d h put =
    mirrors_more (λ e. range_of (Some e)) scope (scope ++ (name, d) ∷ []) entries next name d h (λ x. refl)
    (λ x. ap (lookup x) put ∙ lookup-with_new x entries name (range_of (Some d)))
