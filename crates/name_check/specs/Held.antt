-- What is declared, as it is held.
use Rattle.std.specs.Prelude.{map}
use Rattle.plain_text.specs.Lookup.{Named}
use Rattle.source_tree.specs.Scope.{Scope, Declared, variable, array, procedure}
use Rattle.name_check.specs.declared.symbols.Symbol.{Symbol}
use Rattle.name_check.specs.declared.symbols.Symbol.TheVariants.{Variable, Array, Procedure}

abbrev pub declared_of : Symbol → Declared
declared_of (Variable k range) = variable k range
declared_of (Array k len range) = array k len range
declared_of (Procedure k params) = procedure k params

abbrev pub scope_in : Named Symbol → Scope
scope_in table = map (λ e. (e.0, declared_of e.1)) table
