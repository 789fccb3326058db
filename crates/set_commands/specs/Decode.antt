-- What the command `decode` writes, and how it ends.
use Rattle.std.specs.Prelude.{ℕ, List, [], ◌∷◌, ◌++◌, codes}
use Rattle.std.specs.Fmt.{decimal, signed_decimal}
use Rattle.number_text.specs.Lines.{line}
use Rattle.redundant_decoder.specs.declared.decoder.Verdict.{Verdict}
use Rattle.redundant_decoder.specs.declared.decoder.Verdict.TheVariants.{Clean, Corrected, Damaged}
use Rattle.job_endings.specs.declared.status.Status.{Status}
use Rattle.job_endings.specs.declared.status.Status.TheVariants.{Ok, Damage}

abbrev pub verdict_line : Verdict → List ℕ
verdict_line (Clean x) = line (codes "clean " ++ signed_decimal x)
verdict_line (Corrected x i) = line (codes "corrected " ++ signed_decimal x ++ codes " " ++ decimal i)
verdict_line Damaged = line (codes "damaged")

abbrev pub verdict_lines : Verdict → List (List ℕ)
verdict_lines verdict = verdict_line verdict ∷ []

abbrev pub verdict_status : Verdict → Status
verdict_status (Clean x) = Ok
verdict_status (Corrected x i) = Ok
verdict_status Damaged = Damage
