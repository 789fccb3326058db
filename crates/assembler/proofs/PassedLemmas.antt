-- A fault that a call passes on.
use Rattle.std.proofs.Common.{◌≡◌, Result, Ok, Err, sym, subst}
use Rattle.std.specs.Prelude.{IsErrAnd, MatchResult}
use Rattle.assembler.specs.declared.fault.AsmFault.{AsmFault}

-- why a part is refused is why the whole is
pub passed_on : {A : Type 0} (Q : A → Type 0) (P : AsmFault → Type 0) (fault : AsmFault) (result : Result A AsmFault) → IsErrAnd result (λ own. own ≡ fault) → P fault → MatchResult result Q P
passed_on Q P fault (Ok x) same why = absurd same
passed_on Q P fault (Err own) same why = subst P (sym same) why
