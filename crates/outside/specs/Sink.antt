-- Sinks, and what putting pieces of bytes into one leaves.
use Rattle.std.specs.Prelude.{◌≡◌, ℕ, Bool, false, List, [], ◌∷◌, ◌++◌, take, Option, IfSome, IsSomeAnd}
use Rattle.std.specs.List.{concat}
use Rattle.outside.specs.Faults.{Rose}
use Rattle.outside.specs.declared.sink.Put.{Put}
use Rattle.outside.specs.declared.sink.Put.TheVariants.{Done, Failed}

-- what contracts see of a sink: its count of faults, whether a put came after a fault, and the bytes written
-- where it tells them
pub record SinkState : Type 0 where
  pub faults : ℕ
  pub late : Bool
  pub told : Option (List ℕ)

-- where the later sink tells its bytes, the earlier one told its own, and these bytes were appended to them
abbrev pub Appended : SinkState → List ℕ → SinkState → Type 0
Appended old bytes new = IfSome new.told (λ after. IsSomeAnd old.told (λ before. after ≡ before ++ bytes))

-- the same of a prefix of the bytes
abbrev pub AppendedPrefix : SinkState → List ℕ → SinkState → Type 0
AppendedPrefix old bytes new = (n : ℕ) × Appended old (take n bytes) new

-- what one put of bytes leaves, by its answer
abbrev pub PutLeaves : SinkState → List ℕ → Put → SinkState → Type 0
PutLeaves old bytes Done new = (new.faults ≡ old.faults) × Appended old bytes new
PutLeaves old bytes Failed new = Rose old.faults new.faults × AppendedPrefix old bytes new

-- a sink in which no put came after a fault stays so
abbrev pub NoPutAfterFault : SinkState → SinkState → Type 0
NoPutAfterFault old new = old.faults ≡ 0 → old.late ≡ false → new.late ≡ false

-- one put for each piece, in order, leads from one sink to another; `puts` says to which sinks one put leads
abbrev pub PutsEach : {K : Type 0} → (K → List ℕ → K → Type 0) → K → List (List ℕ) → K → Type 0
PutsEach {K} puts old [] new = new ≡ old
PutsEach {K} puts old (piece ∷ pieces) new = (between : K) × puts old piece between × PutsEach puts between pieces new

-- one put for each piece, and none failed
pub record WroteAll {K : Type 0} (puts : K → List ℕ → K → Type 0) (state : K → SinkState) (old : K) (pieces : List (List ℕ)) (new : K) : Type 0 where
  pub each : PutsEach puts old pieces new
  pub count : (state new).faults ≡ (state old).faults
  pub bytes : Appended (state old) (concat pieces) (state new)
  pub timely : NoPutAfterFault (state old) (state new)

-- one put for each piece, and the last of them failed
pub record BrokeOff {K : Type 0} (puts : K → List ℕ → K → Type 0) (state : K → SinkState) (old : K) (pieces : List (List ℕ)) (new : K) : Type 0 where
  pub each : PutsEach puts old pieces new
  pub rose : Rose (state old).faults (state new).faults
  pub bytes : AppendedPrefix (state old) (concat pieces) (state new)
  pub timely : NoPutAfterFault (state old) (state new)

-- what putting pieces in order leaves, by the answer of the last put: all of them, or those up to one that failed
abbrev pub PutsPieces : {K : Type 0} → (K → List ℕ → K → Type 0) → (K → SinkState) → K → List (List ℕ) → Put → K → Type 0
PutsPieces puts state old pieces Done new = WroteAll puts state old pieces new
PutsPieces puts state old pieces Failed new = (n : ℕ) × BrokeOff puts state old (take n pieces) new
