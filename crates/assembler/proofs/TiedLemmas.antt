-- What lines say, tied to places one after another.
use Rattle.std.proofs.Common.{◌≡◌, ℕ, zero, suc, ◌+◌, ◌<◌, List, [], ◌∷◌, ◌++◌, length, get_or, take, map, Result, Ok, Err, refl, sym, ap, subst, ◌∙◌, arith}
use Rattle.std.specs.Prelude.{MatchResult}
use Rattle.std.proofs.lemmas.Grind.{flat_map-append}
use Rattle.std.proofs.lemmas.List.{append-nil, get_or-map, get_or-take, length-map, length-take-le, take_all, take_more}
use Rattle.assembler.specs.Words.{Places}
use Rattle.assembler.specs.Statements.{Statement, no_statement, an_instruction, a_datum}
use Rattle.assembler.specs.Assembly.{code_in, code_lines, data_in, data_lines, datum_in, instr_in}
use Rattle.assembler.specs.Reading.{Said, StandsFor, says_nothing}
use Rattle.assembler.specs.Lines.{said_of}
use Rattle.assembler.specs.Taken.{AreTied, IsFirstUntied, IsLinked, IsLonger, IsUntied, Stands, saids_of}
use Rattle.assembler.specs.declared.fault.AsmFault.{AsmFault}
use Rattle.assembler.specs.declared.fault.AsmFault.TheVariants.{BadLine, TwiceNamed, UnknownName, Unsound, NoMemory}
use Rattle.assembler.specs.declared.program.Linked.{Linked}
use Rattle.assembler.specs.declared.program.Program.{Program}
use Rattle.assembler.specs.declared.statement.Statement.{Statement as Held}
use Rattle.assembler.specs.declared.statement.Statement.TheVariants.{Nothing}

module _ (places : Places) where
  AreTied-more : (saids : List Said) (statements : List Statement) (said : Said) (next : Statement) → AreTied places saids statements → StandsFor places said next → AreTied places (saids ++ said ∷ []) (statements ++ next ∷ [])
  AreTied-more [] [] said next are is = (is, tt)
  AreTied-more [] (first ∷ statements) said next are is = absurd are
  AreTied-more (first ∷ saids) [] said next are is = absurd are
  AreTied-more (here ∷ saids) (first ∷ statements) said next are is = (are.0, AreTied-more saids statements said next are.1 is)

  length-AreTied : (saids : List Said) (statements : List Statement) → AreTied places saids statements → length saids ≡ length statements
  length-AreTied [] [] are = refl
  length-AreTied [] (first ∷ statements) are = absurd are
  length-AreTied (first ∷ saids) [] are = absurd are
  length-AreTied (here ∷ saids) (first ∷ statements) are = ap suc (length-AreTied saids statements are.1)

  AreTied-at : (saids : List Said) (statements : List Statement) (i : ℕ) → AreTied places saids statements → i < length saids → Stands places (get_or saids i says_nothing)
  AreTied-at [] [] i are within = absurd (omega arith)
  AreTied-at [] (first ∷ statements) i are within = absurd are
  AreTied-at (first ∷ saids) [] i are within = absurd are
  AreTied-at (here ∷ saids) (first ∷ statements) zero are within = (first, are.0)
  AreTied-at (here ∷ saids) (first ∷ statements) (suc i) are within = AreTied-at saids statements i are.1 (omega arith)

-- ---- their lines
code_lines-more : (n : ℕ) (statements : List Statement) (statement : Statement) → code_lines n (statements ++ statement ∷ []) ≡ code_lines n statements ++ code_lines (n + length statements) (statement ∷ [])
code_lines-more n [] statement = ap (λ k. code_lines k (statement ∷ [])) (omega arith)
code_lines-more n (no_statement ∷ statements) statement = code_lines-more (n + 1) statements statement ∙ ap (λ k. code_lines (n + 1) statements ++ code_lines k (statement ∷ [])) (omega arith)
code_lines-more n (an_instruction instr ∷ statements) statement =
    ap (λ lines. n ∷ lines) (code_lines-more (n + 1) statements statement ∙ ap (λ k. code_lines (n + 1) statements ++ code_lines k (statement ∷ [])) (omega arith))
code_lines-more n (a_datum x ∷ statements) statement = code_lines-more (n + 1) statements statement ∙ ap (λ k. code_lines (n + 1) statements ++ code_lines k (statement ∷ [])) (omega arith)

data_lines-more : (n : ℕ) (statements : List Statement) (statement : Statement) → data_lines n (statements ++ statement ∷ []) ≡ data_lines n statements ++ data_lines (n + length statements) (statement ∷ [])
data_lines-more n [] statement = ap (λ k. data_lines k (statement ∷ [])) (omega arith)
data_lines-more n (no_statement ∷ statements) statement = data_lines-more (n + 1) statements statement ∙ ap (λ k. data_lines (n + 1) statements ++ data_lines k (statement ∷ [])) (omega arith)
data_lines-more n (an_instruction instr ∷ statements) statement = data_lines-more (n + 1) statements statement ∙ ap (λ k. data_lines (n + 1) statements ++ data_lines k (statement ∷ [])) (omega arith)
data_lines-more n (a_datum x ∷ statements) statement =
    ap (λ lines. n ∷ lines) (data_lines-more (n + 1) statements statement ∙ ap (λ k. data_lines (n + 1) statements ++ data_lines k (statement ∷ [])) (omega arith))

-- ---- linked, one more at a time
pub IsLinked-next : (places : Places) (n number : ℕ) (saids : List Said) (said : Said) (statement : Statement) (old new : Linked) → IsLinked places n saids old → number ≡ n + length saids → StandsFor places said statement
    → IsLonger old (code_in (statement ∷ [])) (code_lines number (statement ∷ [])) (data_in (statement ∷ [])) (data_lines number (statement ∷ [])) new → IsLinked places n (saids ++ said ∷ []) new
IsLinked-next places n number saids said statement old new linked counted is longer =
    let statements = linked.statements in
    let here : number ≡ n + length statements = counted ∙ ap (λ k. n + k) (length-AreTied places saids statements linked.tied) in
    record {
      statements = statements ++ statement ∷ [];
      tied = AreTied-more places saids statements said statement linked.tied is;
      code = longer.code ∙ ap (λ is. is ++ code_in (statement ∷ [])) linked.code ∙ sym (flat_map-append instr_in statements (statement ∷ []));
      code_lines = longer.code_lines ∙ ap (λ ls. ls ++ code_lines number (statement ∷ [])) linked.code_lines
          ∙ ap (λ k. code_lines n statements ++ code_lines k (statement ∷ [])) here ∙ sym (code_lines-more n statements statement);
      words = longer.words ∙ ap (λ ws. ws ++ data_in (statement ∷ [])) linked.words ∙ sym (flat_map-append datum_in statements (statement ∷ []));
      data_lines = longer.data_lines ∙ ap (λ ls. ls ++ data_lines number (statement ∷ [])) linked.data_lines
          ∙ ap (λ k. data_lines n statements ++ data_lines k (statement ∷ [])) here ∙ sym (data_lines-more n statements statement);
    }

-- where memory suffices
pub linked_on : {A : Type 0} (places : Places) (n number : ℕ) (saids : List Said) (said : Said) (next : Statement) (old new : Linked) (result : Result A AsmFault) → IsLinked places n saids old → number ≡ n + length saids → StandsFor places said next
    → MatchResult result (λ _. IsLonger old (code_in (next ∷ [])) (code_lines number (next ∷ [])) (data_in (next ∷ [])) (data_lines number (next ∷ [])) new) (λ fault. fault ≡ NoMemory)
    → MatchResult result (λ _. IsLinked places n (saids ++ said ∷ []) new) (IsUntied places said number)
linked_on places n number saids said next old new (Ok done) linked counted is longer = IsLinked-next places n number saids said next old new linked counted is longer
linked_on places n number saids said next old new (Err fault) linked counted is out = subst (IsUntied places said number) (sym out) tt

pub IsLonger-none : (linked : Linked) → IsLonger linked [] [] [] [] linked
IsLonger-none linked = record {
  code = sym (append-nil linked.code.items);
  code_lines = sym (append-nil linked.code_lines.items);
  words = sym (append-nil linked.words.items);
  data_lines = sym (append-nil linked.data_lines.items);
}

-- ---- the statements of a program
module _ (program : Program) (list : List Held) (same : list ≡ program.statements.items) (i : ℕ) (within : i < length list) where
  said_there : get_or (saids_of program) i says_nothing ≡ said_of (get_or list i Nothing)
  said_there = ap (λ l. get_or (map said_of l) i says_nothing) (sym same) ∙ get_or-map said_of list i Nothing says_nothing within

  among : i < length (saids_of program)
  among = omega (arith, length-map program.statements.items said_of, ap length same, within)

  pub saids-more : take (i + 1) (saids_of program) ≡ take i (saids_of program) ++ said_of (get_or list i Nothing) ∷ []
  saids-more = take_more (saids_of program) i says_nothing among ∙ ap (λ s. take i (saids_of program) ++ s ∷ []) said_there

  pub length-saids : length (take i (saids_of program)) ≡ i
  length-saids = length-take-le i (saids_of program) (omega (arith, among))

  pub first_untied : (n number : ℕ) (linked : Linked) (fault : AsmFault) → number ≡ n + i → IsLinked program.places n (take i (saids_of program)) linked → IsUntied program.places (said_of (get_or list i Nothing)) number fault
      → IsFirstUntied program.places n (saids_of program) fault
  first_untied n number linked (BadLine line) counted tied why = absurd why
  first_untied n number linked (TwiceNamed line) counted tied why = absurd why
  first_untied n number linked (UnknownName line) counted tied why = (
    i,
    why.0 ∙ counted,
    among,
    λ j below. subst (Stands program.places) (get_or-take i (saids_of program) j says_nothing below)
        (AreTied-at program.places (take i (saids_of program)) tied.statements j tied.tied (omega (arith, length-saids, below))),
    λ stands. why.1 (subst (Stands program.places) said_there stands),
  )
  first_untied n number linked (Unsound fault line) counted tied why = absurd why
  first_untied n number linked NoMemory counted tied why = tt

pub saids-all : (program : Program) → take (length program.statements.items) (saids_of program) ≡ saids_of program
saids-all program = take_all (length program.statements.items) (saids_of program) (omega (arith, length-map program.statements.items said_of))
