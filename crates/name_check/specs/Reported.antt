-- What is reported of a part of a source.
use Rattle.std.specs.Prelude.{◌≡◌, ℕ, List, [], ◌∷◌, ◌++◌, ◌⊎◌, Result, Ok, Err, ⊤}
use Rattle.name_check.specs.declared.fault.NameFault.{NameFault}
use Rattle.name_check.specs.declared.fault.NameFault.TheVariants.{NoMemory}

-- the first of the faults, or want of memory
abbrev pub IsReported : List NameFault → NameFault → Type 0
IsReported [] fault = fault ≡ NoMemory
IsReported (first ∷ more) fault = (fault ≡ first) ⊎ (fault ≡ NoMemory)

-- there is no fault, or one is reported
abbrev pub IsFirst : {A : Type 0} → List NameFault → Result A NameFault → Type 0
IsFirst faults (Ok value) = faults ≡ []
IsFirst faults (Err fault) = IsReported faults fault

-- the tie of a name where it is used as what it is, or its fault
abbrev pub IsTie : List NameFault → List ℕ → Result ℕ NameFault → Type 0
IsTie faults ties (Ok number) = (faults ≡ []) × (ties ≡ number ∷ [])
IsTie faults ties (Err fault) = IsReported faults fault

-- the ties of a part without a fault come after those from before it, or a fault is reported
abbrev pub Walks : List NameFault → List ℕ → List ℕ → Result ⊤ NameFault → List ℕ → Type 0
Walks faults ties before (Ok done) after = (faults ≡ []) × (after ≡ before ++ ties)
Walks faults ties before (Err fault) after = IsReported faults fault
