-- The trees that the code holds, as trees of the grammar.
use Rattle.std.specs.Prelude.{map}
use Rattle.thin_source.specs.declared.tree.Atom.{Atom}
use Rattle.thin_source.specs.declared.tree.Atom.TheVariants.{Number, Name}
use Rattle.thin_source.specs.declared.tree.Product.{Product}
use Rattle.thin_source.specs.declared.tree.Sign.{Sign}
use Rattle.thin_source.specs.declared.tree.Sign.TheVariants.{Plus, Minus}
use Rattle.thin_source.specs.declared.tree.Sum.{Sum}
use Rattle.thin_source.specs.declared.tree.Statement.{Statement}
use Rattle.thin_source.specs.declared.tree.Statement.TheVariants.{Assign, Print}
use Rattle.thin_source.specs.declared.tree.Declaration.{Declaration}
use Rattle.thin_source.specs.declared.tree.Program.{Program}
use Rattle.thin_source.specs.ThinTree as tree

abbrev pub atom_view : Atom → tree.Atom
atom_view (Number n) = tree.number n
atom_view (Name x) = tree.name x.now

abbrev pub product_view : Product → tree.Product
product_view product = record { first = atom_view product.first; more = map atom_view product.more.items }

abbrev pub sign_view : Sign → tree.Sign
sign_view Plus = tree.plus
sign_view Minus = tree.minus

abbrev pub term_view : Sign × Product → tree.Sign × tree.Product
term_view term = (sign_view term.0, product_view term.1)

abbrev pub sum_view : Sum → tree.Sum
sum_view sum = record { first = product_view sum.first; more = map term_view sum.more.items }

abbrev pub statement_view : Statement → tree.Statement
statement_view (Assign x sum) = tree.assign x.now (sum_view sum)
statement_view (Print sum) = tree.print (sum_view sum)

abbrev pub declaration_view : Declaration → tree.Declaration
declaration_view declaration = record { name = declaration.name.now; low = declaration.low; high = declaration.high }

abbrev pub program_view : Program → tree.Program
program_view program = record { declarations = map declaration_view program.declarations.items; statements = map statement_view program.statements.items }
