-- Worked rows: the lines of refused objects and assembly texts, and of a run that ended in damage.
use Rattle.std.proofs.Common.{◌≡◌, ℕ, refl, [], ◌∷◌, ◌++◌, codes, map}
use Rattle.std.specs.Fmt.{decimal}
use Rattle.machine_table.specs.declared.fault.ObjectFault.TheVariants.{TooMuchCode, TooMuchData, BadRegister, BadTarget, BadAddress, BadConstant, BadDatum}
use Rattle.number_text.specs.Lines.{line}
use Rattle.job_endings.specs.declared.assembly_kind.AssemblyKind.TheVariants.{BadLine, TwiceNamed, UnknownName, Unsound as UnsoundLine}
use Rattle.job_endings.specs.declared.ending.Ending.TheVariants.{Damage}
use Rattle.job_endings.specs.declared.object_kind.ObjectKind.TheVariants.{Short, Magic, Version, Set, Long, Record, Unsound}
use Rattle.job_endings.specs.EndingLines.{corrected_line, ending_line}
use Rattle.job_endings.specs.Refusals.{assembly_line, object_line}

object_rows : (n : ℕ) → map object_line (Short n ∷ Magic ∷ Version n ∷ Set n ∷ Long n ∷ Record n ∷ [])
    ≡ (codes "refused object short " ++ decimal n)
    ∷ codes "refused object magic"
    ∷ (codes "refused object version " ++ decimal n)
    ∷ (codes "refused object set " ++ decimal n)
    ∷ (codes "refused object long " ++ decimal n)
    ∷ (codes "refused object record " ++ decimal n)
    ∷ []
object_rows n = refl

-- too many instructions or data words are told with a 0
unsound_rows : (n : ℕ) → map (λ fault. object_line (Unsound fault))
    (TooMuchCode ∷ TooMuchData ∷ BadRegister n ∷ BadTarget n ∷ BadAddress n ∷ BadConstant n ∷ BadDatum n ∷ [])
    ≡ (codes "refused object unsound code " ++ decimal 0)
    ∷ (codes "refused object unsound data " ++ decimal 0)
    ∷ (codes "refused object unsound register " ++ decimal n)
    ∷ (codes "refused object unsound target " ++ decimal n)
    ∷ (codes "refused object unsound address " ++ decimal n)
    ∷ (codes "refused object unsound constant " ++ decimal n)
    ∷ (codes "refused object unsound datum " ++ decimal n)
    ∷ []
unsound_rows n = refl

-- a rule that the program of an assembly text breaks is told with its line
assembly_rows : (k n : ℕ) → map assembly_line (BadLine n ∷ TwiceNamed n ∷ UnknownName n ∷ UnsoundLine (BadRegister k) n ∷ UnsoundLine TooMuchCode n ∷ [])
    ≡ (codes "refused assembly line " ++ decimal n)
    ∷ (codes "refused assembly twice-named " ++ decimal n)
    ∷ (codes "refused assembly unknown-name " ++ decimal n)
    ∷ (codes "refused assembly unsound register " ++ decimal n)
    ∷ (codes "refused assembly unsound code " ++ decimal n)
    ∷ []
assembly_rows k n = refl

damage_row : (t r s : ℕ) → ending_line (Damage t (r ∷ s ∷ []))
    ≡ line (codes "damage " ++ decimal t ++ codes " " ++ (decimal r ++ (codes " " ++ decimal s)))
damage_row t r s = refl

corrected_row : (m n : ℕ) → corrected_line (m ∷ n ∷ []) ≡ line (codes "corrected " ++ (decimal m ++ (codes " " ++ decimal n)))
corrected_row m n = refl
