-- Worked rows of sources without an object: where statements are too deep, and how many data words there are.
use Rattle.std.proofs.Common.{◌≡◌, refl, ap, length, ℕ, ℤ, pos, ◌^◌, ◌-◌, List, [], ◌∷◌, Option, Some, None}
use Rattle.std.specs.Prelude.{codes}
use Rattle.source_tree.specs.declared.expression.Operator.TheVariants as operator
use Rattle.source_tree.specs.declared.expression.Comparison.TheVariants.{Less}
use Rattle.source_tree.specs.declared.expression.Condition.{Condition}
use Rattle.source_tree.specs.declared.expression.Expr.{Expr, Number}
use Rattle.source_tree.specs.declared.statement.Place.TheVariants as place
use Rattle.source_tree.specs.declared.statement.Statement.{Assign, Print, Read, If, For, While, Call}
use Rattle.source_tree.specs.declared.declaration.Declaration.{Declaration}
use Rattle.source_tree.specs.declared.declaration.Declaration.TheVariants.{Var, Array, Proc}
use Rattle.source_tree.specs.declared.declaration.Program.{Program}
use Rattle.source_tree.proofs.FoldEquations.{fold-Number, fold-Binary, fold-Assign, fold-Print, fold-Read, fold-If, fold-For, fold-While, fold-Call}
use Rattle.selector.specs.Depth.{statement_too_deep, program_too_deep}
use Rattle.selector.specs.Programs.{program_code, program_words, first_words}
use Rattle.selector.specs.Refusals.{Refusal, too_deep, too_much_code, too_much_data, size_fault, depth_or, select_fault}
use Rattle.selector.proofs.RowsBasis.{named, range, pocket}
use Rattle.selector.proofs.RowsDepth.{rightward}

-- what wants n registers after the first, the last one for a number at a line
abbrev wants : ℕ → ℕ → Expr
wants n line = rightward n operator.Add (Number (pos 1) line)

abbrev compared : Expr → Expr → Condition
compared left right = record { left = left; comparison = Less; right = right; line = 1 }

-- ---- statements
pub assigned_15 : statement_too_deep pocket (Assign (place.Name (named (codes "x") 1)) (wants 15 2) 1) ≡ None
assigned_15 = simp (fold-Assign, fold-Binary, fold-Number)

pub assigned_16 : statement_too_deep pocket (Assign (place.Name (named (codes "x") 1)) (wants 16 2) 1) ≡ Some 2
assigned_16 = simp (fold-Assign, fold-Binary, fold-Number)

-- an index stands in register 1
pub index_14 : statement_too_deep pocket (Assign (place.Element (named (codes "a") 1) (wants 14 2)) (wants 15 3) 1) ≡ None
index_14 = simp (fold-Assign, fold-Binary, fold-Number)

pub index_15 : statement_too_deep pocket (Assign (place.Element (named (codes "a") 1) (wants 15 2)) (wants 15 3) 1) ≡ Some 2
index_15 = simp (fold-Assign, fold-Binary, fold-Number)

-- the value comes first
pub value_and_index : statement_too_deep pocket (Assign (place.Element (named (codes "a") 1) (wants 15 2)) (wants 16 3) 1) ≡ Some 3
value_and_index = simp (fold-Assign, fold-Binary, fold-Number)

pub printed_16 : statement_too_deep pocket (Print (wants 16 2) 1) ≡ Some 2
printed_16 = simp (fold-Print, fold-Binary, fold-Number)

pub read_14 : statement_too_deep pocket (Read (place.Element (named (codes "a") 1) (wants 14 2)) 1) ≡ None
read_14 = simp (fold-Read, fold-Binary, fold-Number)

pub read_15 : statement_too_deep pocket (Read (place.Element (named (codes "a") 1) (wants 15 2)) 1) ≡ Some 2
read_15 = simp (fold-Read, fold-Binary, fold-Number)

-- the right side of a condition stands in register 1
pub condition_within : statement_too_deep pocket (If (compared (wants 15 2) (wants 14 3)) [] [] 1) ≡ None
condition_within = simp (fold-If, fold-Binary, fold-Number)

pub condition_left : statement_too_deep pocket (If (compared (wants 16 2) (wants 15 3)) (Print (wants 16 4) 1 ∷ []) [] 1) ≡ Some 2
condition_left = simp (fold-If, fold-Print, fold-Binary, fold-Number)

pub condition_right : statement_too_deep pocket (If (compared (wants 15 2) (wants 15 3)) (Print (wants 16 4) 1 ∷ []) [] 1) ≡ Some 3
condition_right = simp (fold-If, fold-Print, fold-Binary, fold-Number)

pub first_list : statement_too_deep pocket (If (compared (wants 1 2) (wants 1 3)) (Print (wants 16 4) 1 ∷ []) (Print (wants 16 5) 1 ∷ []) 1) ≡ Some 4
first_list = simp (fold-If, fold-Print, fold-Binary, fold-Number)

pub second_list : statement_too_deep pocket (If (compared (wants 1 2) (wants 1 3)) [] (Print (wants 15 4) 1 ∷ Print (wants 16 5) 1 ∷ []) 1) ≡ Some 5
second_list = simp (fold-If, fold-Print, fold-Binary, fold-Number)

-- the last integer of a `for` stands in register 1
pub for_within : statement_too_deep pocket (For (named (codes "x") 1) (wants 15 2) (wants 14 3) [] 1) ≡ None
for_within = simp (fold-For, fold-Binary, fold-Number)

pub for_last : statement_too_deep pocket (For (named (codes "x") 1) (wants 15 2) (wants 15 3) (Print (wants 16 4) 1 ∷ []) 1) ≡ Some 3
for_last = simp (fold-For, fold-Print, fold-Binary, fold-Number)

pub for_list : statement_too_deep pocket (For (named (codes "x") 1) (wants 15 2) (wants 14 3) (Print (wants 16 4) 1 ∷ []) 1) ≡ Some 4
for_list = simp (fold-For, fold-Print, fold-Binary, fold-Number)

pub while_condition : statement_too_deep pocket (While (compared (wants 15 2) (wants 15 3)) (pos 9) (Print (wants 16 4) 1 ∷ []) 1) ≡ Some 3
while_condition = simp (fold-While, fold-Print, fold-Binary, fold-Number)

pub while_list : statement_too_deep pocket (While (compared (wants 15 2) (wants 14 3)) (pos 9) (Print (wants 16 4) 1 ∷ []) 1) ≡ Some 4
while_list = simp (fold-While, fold-Print, fold-Binary, fold-Number)

-- each argument stands in register 0
pub arguments : statement_too_deep pocket (Call (named (codes "p") 1) (wants 15 2 ∷ wants 16 3 ∷ []) 1) ≡ Some 3
arguments = simp (fold-Call, fold-Binary, fold-Number)

-- ---- whole sources
-- an array of so many elements, and a variable
abbrev array_of : ℤ → List Declaration → Program
array_of len more = record {
  declarations = Array (named (codes "a") 1) len (range (pos 0) (pos 9)) 1 ∷ more;
  statements = [];
}

abbrev one_variable : List Declaration
one_variable = Var (named (codes "x") 2) (range (pos 0) (pos 9)) 2 ∷ []

pub words_at_most : select_fault pocket (array_of (pos 65536) []) ≡ None
words_at_most = refl

pub one_word_more : select_fault pocket (array_of (pos 65536) one_variable) ≡ Some too_much_data
one_word_more = refl

-- the longest array of all is counted, and not held
pub longest_array : program_words pocket (array_of (pos (2 ^ 127 - 1)) one_variable) ≡ 2 ^ 127
longest_array = refl

pub longest_array_is_too_much : select_fault pocket (array_of (pos (2 ^ 127 - 1)) one_variable) ≡ Some too_much_data
longest_array_is_too_much = refl

-- the words of a name that is declared after it are numbered on
pub words_after_the_longest : first_words pocket (array_of (pos (2 ^ 127 - 1)) one_variable) ≡ 0 ∷ (2 ^ 127 - 1) ∷ []
words_after_the_longest = refl

-- what is refused for its size
abbrev sizes : Program → Option Refusal
sizes program = size_fault (length (program_code pocket program)) (program_words pocket program)

-- array a[65537]: 0..9;
-- proc p() do print .. end, with its fault in line 4
-- print ..; with its fault in line 3
abbrev both_deep : Program
both_deep = record {
  declarations =
      Array (named (codes "a") 1) (pos 65537) (range (pos 0) (pos 9)) 1 ∷
      Proc (named (codes "p") 2) [] [] (Print (wants 16 4) 2 ∷ []) 2 ∷ [];
  statements = Print (wants 16 3) 3 ∷ [];
}

-- procedures come first
procedures_deep : program_too_deep pocket both_deep ≡ Some 4
procedures_deep = simp (fold-Print, fold-Binary, fold-Number)

-- and depth before data
pub procedures_first : select_fault pocket both_deep ≡ Some (too_deep 4)
procedures_first = ap (λ line. depth_or line (sizes both_deep)) procedures_deep

abbrev statements_deep : Program
statements_deep = record both_deep { declarations = [] }

statements_then : program_too_deep pocket statements_deep ≡ Some 3
statements_then = simp (fold-Print, fold-Binary, fold-Number)

pub without_procedures : select_fault pocket statements_deep ≡ Some (too_deep 3)
without_procedures = ap (λ line. depth_or line (sizes statements_deep)) statements_then

-- ---- sizes
pub sizes_at_most : size_fault 65536 65536 ≡ None
sizes_at_most = refl

pub one_instruction_more : size_fault 65537 65536 ≡ Some too_much_code
one_instruction_more = refl

pub one_datum_more : size_fault 65536 65537 ≡ Some too_much_data
one_datum_more = refl

pub code_before_data : size_fault 65537 65537 ≡ Some too_much_code
code_before_data = refl
