-- What a thin source must keep to besides its grammar: names, ranges and the intervals of its expressions.
use Rattle.std.specs.Prelude.{◌≡◌, ℕ, pos, ◌&&◌, Bool, true, false, List, [], ◌∷◌, Option, Some, None, is_none, if◌then◌else◌}
use Rattle.std.specs.List.{list_all}
use Rattle.std.specs.Option.{option_and_then}
use Rattle.std.specs.Str.{bytes_eq}
use Rattle.moduli_sets.specs.declared.set_name.SetName.TheVariants.{Pocket}
use Rattle.moduli_sets.specs.Set.{range_bound}
use Rattle.moduli_sets.specs.Name.{set_of_name}
use Rattle.thin_source.specs.declared.interval.Interval.{Interval}
use Rattle.thin_source.specs.Interval.{point, around_zero, interval_sum, interval_difference, interval_product, is_within}
use Rattle.thin_source.specs.ThinTree.{Atom, number, name, Product, Sign, plus, minus, Sum, Statement, assign, print, Declaration, Program}

-- the integers that a word of `pocket` stands for
abbrev pub pocket_range : Interval
pocket_range = around_zero (pos (range_bound (set_of_name Pocket)))

-- an interval, where it is within the range of `pocket`
abbrev pub fitting : Interval → Option Interval
fitting i = if is_within i pocket_range then Some i else None

abbrev pub declared_interval : Declaration → Interval
declared_interval declaration = record { low = declaration.low; high = declaration.high }

-- the declared range of a name, where it is declared
abbrev pub range_of : List Declaration → List ℕ → Option Interval
range_of [] x = None
range_of (declaration ∷ declarations) x = if bytes_eq declaration.name x then Some (declared_interval declaration) else range_of declarations x

-- The interval of an expression, where each name in it is declared and the interval of each of its nodes is
-- within the range of `pocket`. Nodes are numbers, names, and what each operator makes, from left to right.
abbrev pub atom_interval : List Declaration → Atom → Option Interval
atom_interval declarations (number n) = fitting (point (pos n))
atom_interval declarations (name x) = option_and_then fitting (range_of declarations x)

abbrev pub factors_interval : List Declaration → Interval → List Atom → Option Interval
factors_interval declarations i [] = Some i
factors_interval declarations i (atom ∷ more) =
    option_and_then (λ j. option_and_then (λ k. factors_interval declarations k more) (fitting (interval_product i j))) (atom_interval declarations atom)

abbrev pub product_interval : List Declaration → Product → Option Interval
product_interval declarations product = option_and_then (λ i. factors_interval declarations i product.more) (atom_interval declarations product.first)

abbrev pub joined_interval : Sign → Interval → Interval → Interval
joined_interval plus i j = interval_sum i j
joined_interval minus i j = interval_difference i j

abbrev pub terms_interval : List Declaration → Interval → List (Sign × Product) → Option Interval
terms_interval declarations i [] = Some i
terms_interval declarations i (term ∷ more) =
    option_and_then (λ j. option_and_then (λ k. terms_interval declarations k more) (fitting (joined_interval term.0 i j))) (product_interval declarations term.1)

abbrev pub sum_interval : List Declaration → Sum → Option Interval
sum_interval declarations sum = option_and_then (λ i. terms_interval declarations i sum.more) (product_interval declarations sum.first)

-- the inner interval is there and within the outer one, which is there too
abbrev pub is_some_within : Option Interval → Option Interval → Bool
is_some_within (Some inner) (Some outer) = is_within inner outer
is_some_within inner outer = false

-- a low bound is at most its high bound, and both are in the range of `pocket`
abbrev pub is_range : Declaration → Bool
is_range declaration = is_within (declared_interval declaration) pocket_range

-- no name is declared twice
abbrev pub are_distinct : List Declaration → Bool
are_distinct [] = true
are_distinct (declaration ∷ declarations) = is_none (range_of declarations declaration.name) && are_distinct declarations

-- a print's expression has an interval; an assigned one's is within the range of its variable
abbrev pub is_lawful_statement : List Declaration → Statement → Bool
is_lawful_statement declarations (print sum) = is_some_within (sum_interval declarations sum) (Some pocket_range)
is_lawful_statement declarations (assign x sum) = is_some_within (sum_interval declarations sum) (range_of declarations x)

-- all rules are kept
pub record IsLawful (program : Program) : Type 0 where
  pub ranges : list_all is_range program.declarations ≡ true
  pub distinct : are_distinct program.declarations ≡ true
  pub statements : list_all (is_lawful_statement program.declarations) program.statements ≡ true
