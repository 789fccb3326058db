-- The object of a program whose lines break no rule, and why there is none.
use Rattle.std.proofs.Common.{◌≡◌, ℕ, ◌+◌, ◌<◌, ℤ, List, [], ◌∷◌, length, get_or, Some, refl, sym, ap, subst, ◌∙◌, arith}
use Rattle.moduli_sets.specs.declared.set_name.SetName.{SetName}
use Rattle.moduli_sets.specs.Name.{set_of_name}
use Rattle.machine_table.specs.declared.instr.Instr.{Instr}
use Rattle.machine_table.specs.declared.fault.ObjectFault.{ObjectFault}
use Rattle.machine_table.specs.declared.fault.ObjectFault.TheVariants.{TooMuchCode, TooMuchData, BadRegister, BadTarget, BadAddress, BadConstant, BadDatum}
use Rattle.machine_table.specs.Faults.{object_fault}
use Rattle.assembler.specs.Words.{Places, said_in}
use Rattle.assembler.specs.Statements.{Statement}
use Rattle.assembler.specs.Assembly.{AreStatements, IsProgram, IsRefused, Says, Spells, code_in, code_lines, data_lines, line, line_of_fault}
use Rattle.assembler.specs.Reading.{Said, says_nothing}
use Rattle.assembler.specs.Taken.{AreSaid, AreTied, IsFirstUntied, IsLinked, IsTaken, Stands, fault_line, saids_of}
use Rattle.assembler.specs.declared.fault.AsmFault.{AsmFault}
use Rattle.assembler.specs.declared.fault.AsmFault.TheVariants.{BadLine, TwiceNamed, UnknownName, Unsound, NoMemory}
use Rattle.assembler.specs.declared.program.Linked.{Linked}
use Rattle.assembler.specs.declared.program.Program.{Program}
use Rattle.assembler.proofs.SaidLemmas.{AreSaid-at, length-AreSaid}

-- lines say the statements that what they say stands for
AreStatements-from_AreTied : (places : Places) (lines : List (List (List ℕ))) (saids : List Said) (statements : List Statement) → AreSaid lines saids → AreTied places saids statements → AreStatements places lines statements
AreStatements-from_AreTied places [] [] [] said tied = tt
AreStatements-from_AreTied places [] [] (first ∷ statements) said tied = absurd tied
AreStatements-from_AreTied places [] (first ∷ saids) statements said tied = absurd said
AreStatements-from_AreTied places (first ∷ lines) [] statements said tied = absurd said
AreStatements-from_AreTied places (words ∷ lines) (first ∷ saids) [] said tied = absurd tied
AreStatements-from_AreTied places (words ∷ lines) (first ∷ saids) (statement ∷ statements) said tied = ((said.0.means places statement).1 tied.0, AreStatements-from_AreTied places lines saids statements said.1 tied.1)

fault_line-by_statements : (fault : ObjectFault) (n : ℕ) (statements : List Statement) → fault_line fault (code_lines n statements) (data_lines n statements) ≡ line_of_fault fault n statements
fault_line-by_statements TooMuchCode n statements = refl
fault_line-by_statements TooMuchData n statements = refl
fault_line-by_statements (BadRegister k) n statements = refl
fault_line-by_statements (BadTarget k) n statements = refl
fault_line-by_statements (BadAddress k) n statements = refl
fault_line-by_statements (BadConstant k) n statements = refl
fault_line-by_statements (BadDatum k) n statements = refl

module _ (lines : List (List (List ℕ))) (program : Program) (taken : IsTaken lines program) where
  first_line : program.set_number + 1 ≡ length taken.before + 2
  first_line = omega (arith, taken.numbered)

  module _ (linked : Linked) (is : IsLinked program.places (program.set_number + 1) (saids_of program) linked) where
    pub program_of : IsProgram lines program.set is.statements
    program_of = record {
      before = taken.before;
      after = taken.after;
      parts = taken.parts;
      empty = taken.empty;
      names = taken.different;
      said = subst (λ places. AreStatements places taken.after is.statements) taken.placed (AreStatements-from_AreTied program.places taken.after (saids_of program) is.statements taken.said is.tied);
    }

    -- the first rule of programs that it breaks
    pub refused-unsound : (fault : ObjectFault) (number : ℕ) → object_fault (set_of_name program.set) linked.code.items linked.words.items ≡ Some fault
        → number ≡ fault_line fault linked.code_lines.items linked.data_lines.items → IsRefused lines (Unsound fault number)
    unfolding program_of
    refused-unsound fault number broken there = (
      program.set,
      is.statements,
      program_of,
      subst (λ words. object_fault (set_of_name program.set) (code_in is.statements) words ≡ Some fault) is.words
          (subst (λ code. object_fault (set_of_name program.set) code linked.words.items ≡ Some fault) is.code broken),
      there ∙ ap (λ ls. fault_line fault ls linked.data_lines.items) is.code_lines ∙ ap (fault_line fault (code_lines (program.set_number + 1) is.statements)) is.data_lines
          ∙ fault_line-by_statements fault (program.set_number + 1) is.statements ∙ ap (λ n. line_of_fault fault n is.statements) first_line,
    )

  -- ---- the first target that no line names
  says-at : (j : ℕ) → j < length taken.after → Stands program.places (get_or (saids_of program) j says_nothing) → Says program.places (line taken.after j)
  says-at j within stands = (stands.0, ((AreSaid-at taken.after (saids_of program) j taken.said within).means program.places stands.0).1 stands.1)

  stands-at : (j : ℕ) → j < length taken.after → Says program.places (line taken.after j) → Stands program.places (get_or (saids_of program) j says_nothing)
  stands-at j within says = (says.0, ((AreSaid-at taken.after (saids_of program) j taken.said within).means program.places says.0).0 says.1)

  pub refused-untied : (fault : AsmFault) → IsFirstUntied program.places (program.set_number + 1) (saids_of program) fault → IsRefused lines fault
  refused-untied (BadLine n) why = absurd why
  refused-untied (TwiceNamed n) why = absurd why
  refused-untied (UnknownName n) why =
      let i = why.0 in
      let same = length-AreSaid taken.after (saids_of program) taken.said in
      let within : i < length taken.after = omega (arith, same, why.2) in (
        taken.before,
        taken.after,
        program.places,
        i,
        why.1 ∙ omega (arith, taken.numbered),
        within,
        record {
          lawful = taken.lawful;
          set = program.set;
          parts = taken.parts;
          empty = taken.empty;
          tied = taken.placed;
          named = λ j below. says-at j (omega arith) (why.3 j below);
        },
        λ says. why.4 (stands-at i within says),
      )
  refused-untied (Unsound fault n) why = absurd why
  refused-untied NoMemory why = tt

pub spells : (text : List ℕ) (program : Program) (taken : IsTaken (said_in text) program) (linked : Linked) → IsLinked program.places (program.set_number + 1) (saids_of program) linked
    → (set : SetName) (code : List Instr) (words : List ℤ) → set ≡ program.set → code ≡ linked.code.items → words ≡ linked.words.items → Spells text set code words
spells text program taken linked is set code words of_set of_code of_words =
    (is.statements, subst (λ s. IsProgram (said_in text) s is.statements) (sym of_set) (program_of (said_in text) program taken linked is), of_code ∙ is.code, of_words ∙ is.words)
