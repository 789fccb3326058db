-- Rows of the table, computed from the definitions.
use Rattle.std.proofs.Common.{◌≡◌, ℕ, ◌+◌, [], ◌∷◌, ◌++◌, Some, None, refl, sym}
use Rattle.std.specs.Prelude.{codes}
use Rattle.plain_text.specs.Lookup.{Named, lookup}
use Rattle.name_table.specs.Entries.{with_new, Mirrors, Extends}
use Rattle.name_table.proofs.LookupLemmas.{lookup-map}

-- x is 1, and y is 2
abbrev two_names : Named ℕ
two_names = with_new (with_new [] (codes "x") 1) (codes "y") 2

names_stand_in_order : two_names ≡ (codes "x", 1) ∷ (codes "y", 2) ∷ []
names_stand_in_order = refl

declared_twice_keeps_its_value : with_new two_names (codes "x") 3 ≡ two_names
declared_twice_keeps_its_value = refl

first_of_two_is_found : lookup (codes "x") (two_names ++ (codes "x", 3) ∷ []) ≡ Some 1
first_of_two_is_found = refl

capital_is_another_name : lookup (codes "X") two_names ≡ None
capital_is_another_name = refl

-- by what is one more: x is 2, and y is 3
abbrev one_more : Named ℕ
one_more = (codes "x", 2) ∷ (codes "y", 3) ∷ []

each_is_one_more : Mirrors (λ n. n + 1) two_names one_more
each_is_one_more x = sym (lookup-map (λ n. n + 1) x two_names)

another_value_is_no_mirror : ¬ (Mirrors (λ n. n + 1) two_names two_names)
another_value_is_no_mirror h = let is = h (codes "x") in cc

missing_name_is_no_mirror : ¬ (Mirrors (λ n. n + 1) ((codes "x", 1) ∷ []) one_more)
missing_name_is_no_mirror h = let is = h (codes "y") in cc

one_name_is_extended : Extends ((codes "x", 1) ∷ []) two_names
one_name_is_extended = ((codes "y", 2) ∷ [], refl)

shorter_list_extends_none : ¬ (Extends two_names [])
shorter_list_extends_none h = let is = h.1 in cc
