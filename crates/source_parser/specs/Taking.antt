-- What a reader of single tokens takes off the terminals in front of it.
use Rattle.std.specs.Prelude.{◌≡◌, ℕ, suc, ◌<◌, ◌≤◌, ℤ, List, ◌∷◌, length, Option, Some, None, Result, Ok, Err}
use Rattle.std.specs.declared.alloc.AllocError.{AllocError}
use Rattle.source_lexer.specs.declared.token.TokenKind.{TokenKind}
use Rattle.source_lexer.specs.declared.token.TokenKind.TheVariants as kind
use Rattle.source_tree.specs.declared.name.Name.{Name}
use Rattle.source_tree.specs.declared.expression.Operator.{Operator}
use Rattle.source_tree.specs.declared.expression.Comparison.{Comparison}
use Rattle.source_parser.specs.declared.fault.Fault.{Fault}
use Rattle.source_parser.specs.declared.fault.Fault.TheVariants.{Stops, Deep, NoMemory}
use Rattle.source_parser.specs.declared.expression.Chain.{Chain}
use Rattle.source_parser.specs.declared.expression.Chain.TheVariants as chain
use Rattle.source_parser.specs.Terminals.{Terminal, identifier, literal, fixed, kinds_of}
use Rattle.source_parser.specs.Grammar as g
use Rattle.source_parser.specs.Grammar.{Level, Joins, Compares}

-- a kind that stands for itself: a keyword or a symbol
abbrev pub IsFixed : TokenKind → Type 0
IsFixed kind.Name = ⊥
IsFixed kind.Number = ⊥
IsFixed kind = Unit {0}

-- ---- what isn't there
-- another kind stands in front, or none
abbrev pub NotKind : TokenKind → List TokenKind → Type 0
NotKind kind kinds = (rest : List TokenKind) → kinds ≡ kind ∷ rest → ⊥

-- nothing was taken, and another kind stands in front
abbrev pub Misses : TokenKind → List Terminal → List Terminal → Type 0
Misses kind old new = (new ≡ old) × NotKind kind (kinds_of old)

-- nothing was taken, and this keyword or symbol stands in front
abbrev pub Stands : TokenKind → List Terminal → List Terminal → Type 0
Stands kind old new = (new ≡ old) × (line : ℕ) × (rest : List Terminal) × (old ≡ fixed kind line ∷ rest)

-- ---- terminals that are taken where they stand in front
abbrev pub TakesFixed : TokenKind → List Terminal → Option ℕ → List Terminal → Type 0
TakesFixed kind old None new = Misses kind old new
TakesFixed kind old (Some line) new = old ≡ fixed kind line ∷ new

abbrev pub TakesLiteral : List Terminal → Option (ℤ × ℕ) → List Terminal → Type 0
TakesLiteral old None new = Misses kind.Number old new
TakesLiteral old (Some found) new = old ≡ literal found.0 found.1 ∷ new

abbrev pub TakesIdentifier : List Terminal → Result (Option Name) AllocError → List Terminal → Type 0
TakesIdentifier old (Ok None) new = Misses kind.Name old new
TakesIdentifier old (Ok (Some name)) new = old ≡ identifier name ∷ new
TakesIdentifier old (Err error) new = Unit {0}

-- ---- terminals that must stand in front
abbrev pub ExpectsFixed : TokenKind → List Terminal → Result ℕ Fault → List Terminal → Type 0
ExpectsFixed kind old (Ok line) new = old ≡ fixed kind line ∷ new
ExpectsFixed kind old (Err fault) new = (fault ≡ Stops) × Misses kind old new

abbrev pub ExpectsLiteral : List Terminal → Result ℤ Fault → List Terminal → Type 0
ExpectsLiteral old (Ok value) new = (line : ℕ) × (old ≡ literal value line ∷ new)
ExpectsLiteral old (Err fault) new = (fault ≡ Stops) × Misses kind.Number old new

abbrev pub ExpectsIdentifier : List Terminal → Result Name Fault → List Terminal → Type 0
ExpectsIdentifier old (Ok name) new = old ≡ identifier name ∷ new
ExpectsIdentifier old (Err NoMemory) new = Unit {0}
ExpectsIdentifier old (Err Stops) new = Misses kind.Name old new
ExpectsIdentifier old (Err Deep) new = ⊥

abbrev pub ExpectsComparison : List Terminal → Result Comparison Fault → List Terminal → Type 0
ExpectsComparison old (Ok comparison) new = (sign : TokenKind) × (line : ℕ) × Compares sign comparison × (old ≡ fixed sign line ∷ new)
ExpectsComparison old (Err fault) new =
    (fault ≡ Stops) × (new ≡ old) × ((sign : TokenKind) (comparison : Comparison) → Compares sign comparison → NotKind sign (kinds_of old))

-- ---- terminals of which only so many are allowed
abbrev pub TakesWithin : TokenKind → ℕ → List Terminal → Result (Option ℕ) Fault → List Terminal → Type 0
TakesWithin kind limit old (Ok None) new = Misses kind old new
TakesWithin kind limit old (Ok (Some line)) new = (old ≡ fixed kind line ∷ new) × (0 < limit)
TakesWithin kind limit old (Err fault) new = (fault ≡ Deep) × (limit ≡ 0) × Stands kind old new

abbrev pub TakesWeighted : TokenKind → List Terminal → ℕ → Result (Option ℕ) Fault → List Terminal → ℕ → Type 0
TakesWeighted kind old weight_left (Ok None) new left = (left ≡ weight_left) × Misses kind old new
TakesWeighted kind old weight_left (Ok (Some line)) new left = (old ≡ fixed kind line ∷ new) × (weight_left ≡ suc left)
TakesWeighted kind old weight_left (Err fault) new left = (fault ≡ Deep) × (weight_left ≡ 0) × Stands kind old new

-- the level of a sum, and of a term
abbrev pub level_of : Chain → Level
level_of chain.Sum = g.sum
level_of chain.Term = g.term

-- an operator of a level
abbrev pub TakesOperator : Level → List Terminal → ℕ → Result (Option (Operator × ℕ)) Fault → List Terminal → ℕ → Type 0
TakesOperator level old weight_left (Ok None) new left =
    (left ≡ weight_left) × (new ≡ old) × ((sign : TokenKind) (operator : Operator) → Joins level sign operator → NotKind sign (kinds_of old))
TakesOperator level old weight_left (Ok (Some found)) new left =
    (sign : TokenKind) × Joins level sign found.0 × (old ≡ fixed sign found.1 ∷ new) × (weight_left ≡ suc left)
TakesOperator level old weight_left (Err fault) new left =
    (fault ≡ Deep) × (weight_left ≡ 0) × (sign : TokenKind) × (operator : Operator) × Joins level sign operator × Stands sign old new

-- ---- how many terminals are left
-- fewer where a thing is read, and never more
abbrev pub Consumes : {A : Type 0} → List Terminal → Result A Fault → List Terminal → Type 0
Consumes old (Ok found) new = length new < length old
Consumes old (Err fault) new = length new ≤ length old

abbrev pub ConsumesNext : {A : Type 0} → List Terminal → Result (Option A) Fault → List Terminal → Type 0
ConsumesNext old (Ok None) new = length new ≤ length old
ConsumesNext old (Ok (Some found)) new = length new < length old
ConsumesNext old (Err fault) new = length new ≤ length old
