-- What worked rows are written with.
use Rattle.std.specs.Prelude.{ℕ, ℤ, pos, List, [], ◌∷◌, codes}
use Rattle.moduli_sets.specs.Set.{ModuliSet}
use Rattle.moduli_sets.specs.Name.{set_of_name}
use Rattle.moduli_sets.specs.declared.set_name.SetName.TheVariants.{Pocket, Desk}
use Rattle.source_tree.specs.declared.name.Name.{Name}
use Rattle.source_tree.specs.declared.name.Range.{Range}
use Rattle.source_tree.specs.declared.declaration.Program.{Program}
use Rattle.source_tree.specs.declared.declaration.Declaration.TheVariants.{Var, Array}
use Rattle.selector.specs.Layout.{Layout}
use Rattle.selector.specs.Programs.{at_statements}

abbrev pub pocket : ModuliSet
pocket = set_of_name Pocket

abbrev pub desk : ModuliSet
desk = set_of_name Desk

-- a name at a line
abbrev pub named : List ℕ → ℕ → Name
named bytes line = record { bytes = bytes; line = line }

-- the integers from low to high
abbrev pub range : ℤ → ℤ → Range
range low high = record { low = low; high = high }

-- var x: 0..9;
-- array a[4]: 0..9;
-- var y: 0..9;
abbrev pub three_names : Program
three_names = record {
  declarations =
      Var (named (codes "x") 1) (range (pos 0) (pos 9)) 1 ∷
      Array (named (codes "a") 2) (pos 4) (range (pos 0) (pos 9)) 2 ∷
      Var (named (codes "y") 3) (range (pos 0) (pos 9)) 3 ∷ [];
  statements = [];
}

-- word 0 for x, 1 to 4 for a, 5 for y
abbrev pub names : Layout
names = (at_statements pocket three_names).layout
