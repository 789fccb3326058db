-- What is read off a trace of `pocket`, worked out by hand: 42 has residues 3 12 10 8 4.
use Rattle.std.specs.Prelude.{◌≡◌, ℕ, pos, List, [], ◌∷◌, Some, None, refl}
use Rattle.moduli_sets.specs.declared.set_name.SetName.TheVariants.{Pocket}
use Rattle.moduli_sets.specs.declared.kind.Kind.TheVariants.{Index}
use Rattle.moduli_sets.specs.Name.{set_of_name}
use Rattle.channel_alu.specs.declared.operation.Place.TheVariants.{Reg}
use Rattle.channel_alu.specs.declared.operation.MicroOp.TheVariants.{Neg, Show}
use Rattle.machine_table.specs.Control.{traps}
use Rattle.shown_run.specs.Trace.{Trace, did, showed, printed, ended, damaged, prints_of, operations_of, trap, damage, ending_of, corrections_of}

-- its residue of channel 3 is wrong
abbrev wrong_column : List ℕ
wrong_column = 3 ∷ (12 ∷ (10 ∷ (9 ∷ (4 ∷ []))))

-- an operation, two Shows of 42 of which the second is corrected, and a print between them; then a trap
abbrev corrected : Trace
corrected =
    did (Neg (Reg 0) (Reg 1)) (showed (Reg 0) (3 ∷ (12 ∷ (10 ∷ (8 ∷ (4 ∷ []))))) (pos 42) (printed (pos 42)
    (showed (Reg 1) wrong_column (pos 42) (ended (traps Index 7)))))

-- an operation, a Show, and a column that no integer explains
abbrev spoilt : Trace
spoilt =
    did (Neg (Reg 0) (Reg 1)) (showed (Reg 1) wrong_column (pos 42) (damaged (Reg 0) (1 ∷ (2 ∷ (3 ∷ (4 ∷ (5 ∷ [])))))))

pub prints_of_corrected : prints_of corrected ≡ pos 42 ∷ []
prints_of_corrected = refl

pub operations_of_corrected : operations_of corrected ≡ Neg (Reg 0) (Reg 1) ∷ (Show (Reg 0) ∷ (Show (Reg 1) ∷ []))
operations_of_corrected = refl

pub ending_of_corrected : ending_of 5 corrected ≡ trap Index 7
ending_of_corrected = refl

pub corrections_in_channel_3 : corrections_of None (set_of_name Pocket) corrected 3 ≡ 1
corrections_in_channel_3 = refl

pub corrections_in_channel_0 : corrections_of None (set_of_name Pocket) corrected 0 ≡ 0
corrections_in_channel_0 = refl

pub no_corrections_in_an_erased_channel : corrections_of (Some 3) (set_of_name Pocket) corrected 3 ≡ 0
no_corrections_in_an_erased_channel = refl

-- the column is that of operation 7, where the first has number 5
pub ending_of_spoilt : ending_of 5 spoilt ≡ damage 7 (1 ∷ (2 ∷ (3 ∷ (4 ∷ (5 ∷ [])))))
ending_of_spoilt = refl

pub operations_of_spoilt : operations_of spoilt ≡ Neg (Reg 0) (Reg 1) ∷ (Show (Reg 1) ∷ (Show (Reg 0) ∷ []))
operations_of_spoilt = refl

pub damage_is_not_corrected : corrections_of None (set_of_name Pocket) spoilt 0 ≡ 0
damage_is_not_corrected = refl
