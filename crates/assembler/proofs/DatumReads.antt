-- What a line says whose first word is `data`.
use Rattle.std.proofs.Common.{◌≡◌, ℤ, true, List, ℕ, [], ◌∷◌, codes, refl, sym, ap, ◌∙◌, subst}
use Rattle.std.specs.Str.{bytes_eq}
use Rattle.machine_table.specs.declared.instr.Instr.{Instr}
use Rattle.assembler.specs.Fields.{an_integer, mnemonic_of}
use Rattle.assembler.specs.Words.{Places, Writes}
use Rattle.assembler.specs.Statements.{IsInstruction, IsStatement, IsWellFormed, Statement, a_datum, an_instruction, no_statement}
use Rattle.assembler.specs.Reading.{IsSaid, says_datum}
use Rattle.assembler.specs.Readers.{WritesNo, WritesOnly}
use Rattle.assembler.proofs.InstrReads.{opcode_of, word_of-data, word_of-opcode}

-- it is the word of no instruction
no_data : (words : List (List ℕ)) (places : Places) (instr : Instr) → IsInstruction places (codes "data" ∷ words) instr → ⊥
no_data words places instr h =
    let is : codes "data" ≡ mnemonic_of instr = h.0 in
    let other = ap (λ word. bytes_eq word (codes "data")) (is ∙ word_of-opcode instr) ∙ word_of-data (opcode_of instr) in
    let same : bytes_eq (codes "data") (codes "data") ≡ true = refl in cc

-- so the line has one word more, and that writes the data word
datum_form : (words : List (List ℕ)) (places : Places) (statement : Statement) → IsStatement places (codes "data" ∷ words) statement
    → (x : ℤ) × (word : List ℕ) × (words ≡ word ∷ []) × Writes places word (an_integer x) × (statement ≡ a_datum x)
datum_form words places no_statement h = cc
datum_form words places (an_instruction instr) h = absurd (no_data words places instr h)
datum_form words places (a_datum x) h = let e = h.1 in let is : words ≡ h.0 ∷ [] = cc in (x, h.0, is, h.2, refl)

pub no_datum : (word : List ℕ) → WritesNo an_integer word → IsWellFormed (codes "data" ∷ (word ∷ [])) → ⊥
no_datum word none h =
    let found = datum_form (word ∷ []) h.0 h.1 h.2 in
    let e = found.2 in
    let same : found.1 ≡ word = cc in
    none h.0 found.0 (subst (λ w. Writes h.0 w (an_integer found.0)) same found.3)

pub datum_said : (word : List ℕ) (x : ℤ) → WritesOnly an_integer word x → IsSaid (codes "data" ∷ (word ∷ [])) (says_datum x)
datum_said word x said = record {
  means = λ places statement. (
    λ h.
        let found = datum_form (word ∷ []) places statement h in
        let e = found.2 in
        let same : found.1 ≡ word = cc in
        found.4 ∙ ap a_datum (said.only places found.0 (subst (λ w. Writes places w (an_integer found.0)) same found.3)),
    λ h. subst (IsStatement places (codes "data" ∷ (word ∷ []))) (sym h) (word, refl, said.writes places),
  );
  counts = refl;
}
