-- A fault of a program names an instruction or a data word that is there.
use Rattle.std.proofs.Common.{◌≡◌, ℕ, suc, ◌+◌, ◌<◌, ◌≤◌, ℤ, Bool, true, false, nat_lt, List, [], ◌∷◌, length, Option, Some, None, refl, sym, ap, subst, ◌∙◌, arith}
use Rattle.std.specs.Prelude.{if◌then◌else◌}
use Rattle.std.proofs.lemmas.Bool.Decides.{nat_tests}
use Rattle.moduli_sets.specs.Set.{ModuliSet}
use Rattle.machine_table.specs.declared.fault.ObjectFault.{ObjectFault}
use Rattle.machine_table.specs.declared.fault.ObjectFault.TheVariants.{TooMuchCode, TooMuchData, BadRegister, BadTarget, BadAddress, BadConstant, BadDatum}
use Rattle.machine_table.specs.declared.instr.Instr.{Instr}
use Rattle.machine_table.specs.Operands.{Operand, Shape, operands_of}
use Rattle.machine_table.specs.Faults.{code_fault, fault_where, is_bad_address, is_bad_constant, is_bad_register, is_bad_target, is_outside, most_instructions, most_words, object_fault, operands_fault, or_fault, shape_of, some_is, words_fault}
use Rattle.assembler.specs.Words.{Places}
use Rattle.assembler.specs.Statements.{Statement, no_statement, an_instruction, a_datum}
use Rattle.assembler.specs.Assembly.{code_in, code_lines, data_in, data_lines}
use Rattle.assembler.specs.Reading.{Said}
use Rattle.assembler.specs.Taken.{IsLinked, IsThere}
use Rattle.assembler.specs.declared.program.Linked.{Linked}

-- the fault is of an instruction below number m, or of a data word below number k
abbrev pub IsBelow : ObjectFault → ℕ → ℕ → Type 0
IsBelow TooMuchCode m k = ⊥
IsBelow TooMuchData m k = ⊥
IsBelow (BadRegister n) m k = n < m
IsBelow (BadTarget n) m k = n < m
IsBelow (BadAddress n) m k = n < m
IsBelow (BadConstant n) m k = n < m
IsBelow (BadDatum n) m k = n < k

IsBelow-more : (fault : ObjectFault) (m k m' k' : ℕ) → m ≤ m' → k ≤ k' → IsBelow fault m k → IsBelow fault m' k'
IsBelow-more TooMuchCode m k m' k' more others below = absurd below
IsBelow-more TooMuchData m k m' k' more others below = absurd below
IsBelow-more (BadRegister n) m k m' k' more others below = omega arith
IsBelow-more (BadTarget n) m k m' k' more others below = omega arith
IsBelow-more (BadAddress n) m k m' k' more others below = omega arith
IsBelow-more (BadConstant n) m k m' k' more others below = omega arith
IsBelow-more (BadDatum n) m k m' k' more others below = omega arith

IsThere-below : (fault : ObjectFault) (m k : ℕ) → IsBelow fault m k → IsThere fault m k
IsThere-below TooMuchCode m k below = absurd below
IsThere-below TooMuchData m k below = absurd below
IsThere-below (BadRegister n) m k below = below
IsThere-below (BadTarget n) m k below = below
IsThere-below (BadAddress n) m k below = below
IsThere-below (BadConstant n) m k below = below
IsThere-below (BadDatum n) m k below = below

if_fault : (b : Bool) (P : ObjectFault → Type 0) (first fault : ObjectFault) (next : Option ObjectFault) → (b ≡ true → P first) → (next ≡ Some fault → P fault) → (if b then Some first else next) ≡ Some fault → P fault
if_fault true P first fault next here there is = let same : first ≡ fault = cc in subst P same (here refl)
if_fault false P first fault next here there is = there is

or_cases : (o next : Option ObjectFault) (P : ObjectFault → Type 0) (fault : ObjectFault) → (o ≡ Some fault → P fault) → (next ≡ Some fault → P fault) → or_fault o next ≡ Some fault → P fault
or_cases (Some first) next P fault here there is = here is
or_cases None next P fault here there is = there is

operands-there : (shape : Shape) (operands : List Operand) (n : ℕ) (fault : ObjectFault) → operands_fault shape operands n ≡ Some fault → IsBelow fault (n + 1) 0
operands-there shape operands n fault is =
    let P : ObjectFault → Type 0 = λ f. IsBelow f (n + 1) 0 in
    let last = fault_where (is_bad_constant shape) operands (BadConstant n) None in
    let third = fault_where (is_bad_address shape) operands (BadAddress n) last in
    let second = fault_where (is_bad_target shape) operands (BadTarget n) third in
    if_fault (some_is (is_bad_register shape) operands) P (BadRegister n) fault second (λ _. omega arith)
    (λ is2. if_fault (some_is (is_bad_target shape) operands) P (BadTarget n) fault third (λ _. omega arith)
    (λ is3. if_fault (some_is (is_bad_address shape) operands) P (BadAddress n) fault last (λ _. omega arith)
    (λ is4. if_fault (some_is (is_bad_constant shape) operands) P (BadConstant n) fault None (λ _. omega arith) (λ none. cc) is4) is3) is2) is

code-there : (shape : Shape) (n : ℕ) (code : List Instr) (fault : ObjectFault) → code_fault shape n code ≡ Some fault → IsBelow fault (n + length code) 0
code-there shape n [] fault is = cc
code-there shape n (instr ∷ code) fault is =
    or_cases (operands_fault shape (operands_of instr) n) (code_fault shape (n + 1) code) (λ f. IsBelow f (n + length (instr ∷ code)) 0) fault
    (λ here. IsBelow-more fault (n + 1) 0 (n + length (instr ∷ code)) 0 (omega arith) (omega arith) (operands-there shape (operands_of instr) n fault here))
    (λ there. IsBelow-more fault (n + 1 + length code) 0 (n + length (instr ∷ code)) 0 (omega arith) (omega arith) (code-there shape (n + 1) code fault there)) is

words-there : (set : ModuliSet) (n : ℕ) (words : List ℤ) (fault : ObjectFault) → words_fault set n words ≡ Some fault → IsBelow fault 0 (n + length words)
words-there set n [] fault is = cc
words-there set n (x ∷ words) fault is =
    if_fault (is_outside set x) (λ f. IsBelow f 0 (n + length (x ∷ words))) (BadDatum n) fault (words_fault set (n + 1) words) (λ _. omega arith)
    (λ there. IsBelow-more fault 0 (n + 1 + length words) 0 (n + length (x ∷ words)) (omega arith) (omega arith) (words-there set (n + 1) words fault there)) is

object-there : (set : ModuliSet) (code : List Instr) (words : List ℤ) (fault : ObjectFault) → object_fault set code words ≡ Some fault → IsThere fault (length code) (length words)
object-there set code words fault is =
    let P : ObjectFault → Type 0 = λ f. IsThere f (length code) (length words) in
    let operands = or_fault (code_fault (shape_of set code words) 0 code) (words_fault set 0 words) in
    let second = if nat_lt most_words (length words) then Some TooMuchData else operands in
    if_fault (nat_lt most_instructions (length code)) P TooMuchCode fault second (λ more. grind (arith, nat_tests))
    (λ is2. if_fault (nat_lt most_words (length words)) P TooMuchData fault operands (λ more. grind (arith, nat_tests))
    (λ is3. or_cases (code_fault (shape_of set code words) 0 code) (words_fault set 0 words) P fault
    (λ here. IsThere-below fault (length code) (length words) (IsBelow-more fault (0 + length code) 0 (length code) (length words) (omega arith) (omega arith) (code-there (shape_of set code words) 0 code fault here)))
    (λ there. IsThere-below fault (length code) (length words) (IsBelow-more fault 0 (0 + length words) (length code) (length words) (omega arith) (omega arith) (words-there set 0 words fault there))) is3) is2) is

-- ---- each instruction has its line, and each data word
length-code_lines : (n : ℕ) (statements : List Statement) → length (code_lines n statements) ≡ length (code_in statements)
length-code_lines n [] = refl
length-code_lines n (no_statement ∷ statements) = length-code_lines (n + 1) statements
length-code_lines n (an_instruction instr ∷ statements) = ap suc (length-code_lines (n + 1) statements)
length-code_lines n (a_datum x ∷ statements) = length-code_lines (n + 1) statements

length-data_lines : (n : ℕ) (statements : List Statement) → length (data_lines n statements) ≡ length (data_in statements)
length-data_lines n [] = refl
length-data_lines n (no_statement ∷ statements) = length-data_lines (n + 1) statements
length-data_lines n (an_instruction instr ∷ statements) = length-data_lines (n + 1) statements
length-data_lines n (a_datum x ∷ statements) = ap suc (length-data_lines (n + 1) statements)

-- so a fault has a line
pub line-there : (places : Places) (n : ℕ) (saids : List Said) (linked : Linked) (set : ModuliSet) (fault : ObjectFault) (codes integers : List ℕ) → IsLinked places n saids linked
    → object_fault set linked.code.items linked.words.items ≡ Some fault → codes ≡ linked.code_lines.items → integers ≡ linked.data_lines.items → IsThere fault (length codes) (length integers)
line-there places n saids linked set fault codes integers is broken of_code of_data =
    let so_many : length linked.code.items ≡ length codes = ap length is.code ∙ sym (length-code_lines n is.statements) ∙ ap length (sym is.code_lines ∙ sym of_code) in
    let so_many_data : length linked.words.items ≡ length integers = ap length is.words ∙ sym (length-data_lines n is.statements) ∙ ap length (sym is.data_lines ∙ sym of_data) in
    subst (λ k. IsThere fault (length codes) k) so_many_data
    (subst (λ k. IsThere fault k (length linked.words.items)) so_many (object-there set linked.code.items linked.words.items fault broken))
