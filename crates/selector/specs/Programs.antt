-- The object of a source: its instructions, and its data words at the start.
use Rattle.std.specs.Prelude.{ℕ, zero, suc, ◌+◌, ℤ, pos, Bool, true, false, ◌||◌, List, [], ◌∷◌, ◌++◌, map, length, replicate, unsigned_abs, if◌then◌else◌}
use Rattle.std.specs.List.{flat_map}
use Rattle.moduli_sets.specs.Set.{ModuliSet}
use Rattle.machine_table.specs.declared.instr.Instr.{Instr}
use Rattle.machine_table.specs.declared.instr.Instr.TheVariants.{Halt, Ldi, St, Jmp, Ret}
use Rattle.source_tree.specs.Scope.{names_in}
use Rattle.source_tree.specs.Meaning.{start_of}
use Rattle.source_tree.specs.declared.declaration.Param.{Param}
use Rattle.source_tree.specs.declared.declaration.Local.{Local}
use Rattle.source_tree.specs.declared.declaration.Declaration.{Declaration}
use Rattle.source_tree.specs.declared.declaration.Declaration.TheVariants.{Var, Array, Proc}
use Rattle.source_tree.specs.declared.declaration.Program.{Program}
use Rattle.source_tree.specs.declared.statement.Statement.{Statement}
use Rattle.selector.specs.Layout.{Layout, placed_inside, with_declared_placed}
use Rattle.selector.specs.Statements.{translated_all}

-- ---- data words, in text order
-- numbers from w on, so many
abbrev pub from_word : (w n : ℕ) → List ℕ
from_word w zero = []
from_word w (suc n) = w ∷ from_word (w + 1) n

module _ (set : ModuliSet) where
  -- how many words statements take
  abbrev pub statements_words : List Statement → ℕ
  statements_words statements = (translated_all set statements).words

  -- how many words a declaration takes: a procedure one for each parameter and local, and those of its statements
  abbrev pub words_in : Declaration → ℕ
  words_in (Var name range line) = 1
  words_in (Array name len range line) = unsigned_abs len
  words_in (Proc name params locals body line) = length params + length locals + statements_words body

  abbrev pub all_words_in : List Declaration → ℕ
  all_words_in [] = 0
  all_words_in (d ∷ declarations) = words_in d + all_words_in declarations

  -- how many data words an object has
  abbrev pub program_words : Program → ℕ
  program_words program = all_words_in program.declarations + statements_words program.statements

  -- what they hold at the start: the words of statements 0, all others the integer of their range that is nearest to 0
  abbrev pub data_in : Declaration → List ℤ
  data_in (Var name range line) = start_of range ∷ []
  data_in (Array name len range line) = replicate (unsigned_abs len) (start_of range)
  data_in (Proc name params locals body line) =
      map (λ p. start_of p.range) params ++
      (map (λ l. start_of l.range) locals ++ replicate (statements_words body) (pos 0))

  abbrev pub program_data : Program → List ℤ
  program_data program =
      flat_map data_in program.declarations ++ replicate (statements_words program.statements) (pos 0)

  -- The first word of each declared name, in the order of their numbers. A procedure has that of its first parameter.
  abbrev pub first_words_in : (w : ℕ) → Declaration → List ℕ
  first_words_in w (Var name range line) = w ∷ []
  first_words_in w (Array name len range line) = w ∷ []
  first_words_in w (Proc name params locals body line) = w ∷ from_word w (length params + length locals)

  abbrev pub all_first_words : (w : ℕ) → List Declaration → List ℕ
  all_first_words w [] = []
  all_first_words w (d ∷ declarations) = first_words_in w d ++ all_first_words (w + words_in d) declarations

  abbrev pub first_words : Program → List ℕ
  first_words program = all_first_words 0 program.declarations

-- ---- procedures
-- how far declarations have come: the number of the next name, its first word, the place of the next instruction, and the
-- layout of the names before it
pub record Reached : Type 0 where
  pub number : ℕ
  pub word : ℕ
  pub place : ℕ
  pub layout : Layout

-- locals from word w on, each set to its start
abbrev pub locals_code : (w : ℕ) → List Local → List Instr
locals_code w [] = []
locals_code w (l ∷ locals) = Ldi 0 (start_of l.range) ∷ (St 0 w ∷ locals_code (w + 1) locals)

module _ (set : ModuliSet) where
  -- locals, statements, and back to the call
  abbrev pub procedure_code : List Param → List Local → List Statement → (line : ℕ) → Reached → List Instr
  procedure_code params locals body line at =
      let starts = locals_code (at.word + length params) locals in
      starts ++
      ((translated_all set body).code (placed_inside at.number at.word params locals at.layout)
      (at.word + length params + length locals) (at.place + length starts) ++
      Ret line ∷ [])

  abbrev pub declaration_code : Declaration → Reached → List Instr
  declaration_code (Var name range line) at = []
  declaration_code (Array name len range line) at = []
  declaration_code (Proc name params locals body line) at = procedure_code params locals body line at

  abbrev pub declared : Declaration → Reached → Reached
  declared d at = record {
    number = at.number + names_in d;
    word = at.word + words_in set d;
    place = at.place + length (declaration_code d at);
    layout = with_declared_placed at.number at.word at.place d at.layout;
  }

  abbrev pub all_declared : List Declaration → Reached → Reached
  all_declared [] at = at
  all_declared (d ∷ declarations) at = all_declared declarations (declared d at)

  abbrev pub declarations_code : List Declaration → Reached → List Instr
  declarations_code [] at = []
  declarations_code (d ∷ declarations) at = declaration_code d at ++ declarations_code declarations (declared d at)

-- ---- the whole
abbrev pub is_procedure : Declaration → Bool
is_procedure (Var name range line) = false
is_procedure (Array name len range line) = false
is_procedure (Proc name params locals body line) = true

abbrev pub has_procedures : List Declaration → Bool
has_procedures [] = false
has_procedures (d ∷ declarations) = is_procedure d || has_procedures declarations

-- where there are procedures, the first instruction jumps over them
abbrev pub at_first : Program → Reached
at_first program = record {
  number = 0;
  word = 0;
  place = if has_procedures program.declarations then 1 else 0;
  layout = [];
}

abbrev pub jump_over : List Declaration → (behind : ℕ) → List Instr
jump_over declarations behind = if has_procedures declarations then Jmp behind ∷ [] else []

module _ (set : ModuliSet) where
  -- where the statements begin
  abbrev pub at_statements : Program → Reached
  at_statements program = all_declared set program.declarations (at_first program)

  abbrev pub program_code : Program → List Instr
  program_code program =
      let at = at_statements program in
      jump_over program.declarations at.place ++
      (declarations_code set program.declarations (at_first program) ++
      ((translated_all set program.statements).code at.layout at.word at.place ++ Halt ∷ []))
