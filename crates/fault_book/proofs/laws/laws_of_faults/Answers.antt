use Rattle.fault_book.proofs.ColumnLemmas.{distance-le_faulty, fault_at-unnamed, faultless-unnamed}
use Rattle.fault_book.proofs.laws.laws_of_faults.Goals as goal

pub returns-clause-unnamed : goal.returns-clause-unnamed
returns-clause-unnamed c = fault_at-unnamed

pub returns-clause-named : goal.returns-clause-named
returns-clause-named c = faultless-unnamed

pub returns-clause-columns : goal.returns-clause-columns
returns-clause-columns c = distance-le_faulty
