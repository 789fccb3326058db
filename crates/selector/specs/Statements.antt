-- The code of statements. Targets are places, numbers of instructions of the whole object.
use Rattle.std.specs.Prelude.{ℕ, ◌+◌, ℤ, pos, ◌&&◌, int_le, Bool, true, false, List, [], ◌∷◌, ◌++◌, map, length, if◌then◌else◌}
use Rattle.moduli_sets.specs.Set.{ModuliSet}
use Rattle.machine_table.specs.declared.instr.Instr.{Instr}
use Rattle.machine_table.specs.declared.instr.Instr.TheVariants.{Ldi, Ld, St, Stx, Add, Jmp, Blt, Beq, Chk, In, Out, Call, Trp}
use Rattle.source_tree.specs.declared.name.Name.{Name}
use Rattle.source_tree.specs.declared.name.Range.{Range}
use Rattle.source_tree.specs.declared.expression.Expr.{Expr}
use Rattle.source_tree.specs.declared.expression.Comparison.{Comparison}
use Rattle.source_tree.specs.declared.expression.Comparison.TheVariants.{Less, LessEqual, Greater, GreaterEqual, Equal, NotEqual}
use Rattle.source_tree.specs.declared.expression.Condition.{Condition}
use Rattle.source_tree.specs.declared.statement.Place.TheVariants as place
use Rattle.source_tree.specs.declared.statement.Statement.{Statement, fold-Statement}
use Rattle.source_tree.specs.declared.statement.Statement.TheOpen as statement
use Rattle.range_inference.specs.Interval.{from_to}
use Rattle.range_inference.specs.declared.interval.Interval.{Interval}
use Rattle.selector.specs.Layout.{Layout, word_at, entry_at, range_at, length_at, params_at}
use Rattle.selector.specs.Expressions.{leaving, interval_in}

-- What statements are: how many data words they take, and their code, by a layout, the first of these words and the place of
-- the first instruction.
pub record Translated : Type 0 where
  pub words : ℕ
  pub code : Layout → (w at : ℕ) → List Instr

-- instructions without jumps, by a layout
abbrev pub Part : Type 0
Part = Layout → List Instr

abbrev pub joined : List Part → Part
joined [] layout = []
joined (part ∷ parts) layout = part layout ++ joined parts layout

-- parts, one after another, without words of their own
abbrev pub straight : List Part → Translated
straight parts = record { words = 0; code = λ layout w at. joined parts layout }

abbrev pub in_order : List Translated → Translated
in_order [] = straight []
in_order (first ∷ more) = record {
  words = first.words + (in_order more).words;
  code = λ layout w at.
      let code = first.code layout w at in
      code ++ (in_order more).code layout (w + first.words) (at + length code);
}

-- ---- parts
-- neither end of an interval lies beyond a range: the low end not below it, the high end not above it
abbrev pub lies_within : Interval → Range → Bool
lies_within interval range = int_le range.low interval.low && int_le interval.high range.high

-- the integer in register 0, of which an interval is known, is tested by a range where it may lie beyond
abbrev pub check : Interval → Range → (line : ℕ) → List Instr
check interval range line = if lies_within interval range then [] else Chk 0 range.low range.high line ∷ []

-- it is tested, and goes into word w
abbrev pub checked_into : Interval → Range → (w line : ℕ) → List Instr
checked_into interval range w line = check interval range line ++ St 0 w ∷ []

-- the test of e by the range of x
abbrev pub tested : Expr → Name → (line : ℕ) → Part
tested e x line layout = check (interval_in layout e) (range_at layout x) line

-- register 0 goes into the word of x
abbrev pub stored : Name → Part
stored x layout = St 0 (word_at layout x) ∷ []

-- register 0 goes into the element of x that register 1 tells
abbrev pub stored_at : Name → (line : ℕ) → Part
stored_at x line layout = Stx 0 1 (word_at layout x) (length_at layout x) line ∷ []

-- the next number of the input, in the range of x, goes into register 0
abbrev pub taken : Name → (line : ℕ) → Part
taken x line layout = In 0 (range_at layout x).low (range_at layout x).high line ∷ []

abbrev pub printed : Part
printed layout = Out 0 ∷ []

abbrev pub called : Name → (line : ℕ) → Part
called x line layout = Call (entry_at layout x) line ∷ []

-- a front, a jump to the place behind the body, and the body
abbrev pub passed : List Instr → (ℕ → Instr) → (ℕ → List Instr) → (at : ℕ) → List Instr
passed front jump body at =
    let start = at + length front + 1 in
    let code = body start in
    front ++ jump (start + length code) ∷ code

-- A test of registers 0 and 1: its last instruction is the jump where it fails.
pub record Test : Type 0 where
  pub front : (at : ℕ) → List Instr
  pub jump : (other : ℕ) → Instr

abbrev pub test_of : Comparison → Test
test_of Less = record { front = λ at. Blt 0 1 (at + 2) ∷ []; jump = λ other. Jmp other }
test_of Greater = record { front = λ at. Blt 1 0 (at + 2) ∷ []; jump = λ other. Jmp other }
test_of Equal = record { front = λ at. Beq 0 1 (at + 2) ∷ []; jump = λ other. Jmp other }
test_of LessEqual = record { front = λ at. []; jump = λ other. Blt 1 0 other }
test_of GreaterEqual = record { front = λ at. []; jump = λ other. Blt 0 1 other }
test_of NotEqual = record { front = λ at. []; jump = λ other. Beq 0 1 other }

abbrev pub is_empty : List Translated → Bool
is_empty [] = true
is_empty (first ∷ more) = false

module _ (set : ModuliSet) where
  -- both sides of a condition, and its test but for the jump
  abbrev pub asked : Layout → Condition → (at : ℕ) → List Instr
  asked layout c at =
      let sides = leaving set layout c.left 0 ++ leaving set layout c.right 1 in
      sides ++ (test_of c.comparison).front (at + length sides)

  -- one list or another by a condition; there is no jump over an empty one
  abbrev pub chosen : Condition → (one two : Translated) → (none : Bool) → Layout → (w at : ℕ) → List Instr
  chosen c one two true layout w at = passed (asked layout c at) (test_of c.comparison).jump (one.code layout w) at
  chosen c one two false layout w at =
      let front = asked layout c at in
      let start = at + length front + 1 in
      let first = one.code layout w start in
      passed (front ++ (test_of c.comparison).jump (start + length first + 1) ∷ first) (λ behind. Jmp behind)
      (two.code layout (w + one.words)) at

  abbrev pub choice : Condition → (one two : Translated) → (none : Bool) → Translated
  choice c one two none = record { words = one.words + two.words; code = chosen c one two none }

  -- the turns of a `for`: its counter is word w, its limit the next one, and register 0 holds the integer of the turn
  abbrev pub for_turns : Name → Interval → (line : ℕ) → Translated → Layout → (w at : ℕ) → List Instr
  for_turns name interval line body layout w at =
      let turn = at + 2 in
      let set_variable = checked_into interval (range_at layout name) (word_at layout name) line in
      let list = body.code layout (w + 2) (turn + length set_variable) in
      passed
      (St 0 w ∷ (St 1 (w + 1) ∷ (set_variable ++ (list ++ (Ld 0 w ∷ (Ld 1 (w + 1) ∷ []))))))
      (λ behind. Beq 0 1 behind)
      (λ next. Ldi 1 (pos 1) ∷ (Add 0 0 1 ∷ (St 0 w ∷ (Jmp turn ∷ []))))
      at

  -- the integers go from the low end of the first to the high end of the last; which of the two is greater doesn't count
  abbrev pub for_code : Name → (first last : Expr) → (line : ℕ) → Translated → Layout → (w at : ℕ) → List Instr
  for_code name first last line body layout w at =
      passed
      (leaving set layout first 0 ++ leaving set layout last 1)
      (λ behind. Blt 1 0 behind)
      (for_turns name (from_to (interval_in layout first).low (interval_in layout last).high) line body layout w)
      at

  -- two words: the counter and the limit
  abbrev pub for_loop : Name → (first last : Expr) → (line : ℕ) → Translated → Translated
  for_loop name first last line body = record { words = 2 + body.words; code = for_code name first last line body }

  -- a turn of a `while` from its condition on: its turns are counted in word w
  abbrev pub while_turn : (limit : ℤ) → (line again : ℕ) → Translated → Layout → (w at : ℕ) → List Instr
  while_turn limit line again body layout w at =
      let counted =
      passed (Ld 0 w ∷ (Ldi 1 limit ∷ [])) (λ go. Blt 0 1 go) (λ trap. Trp 5 line ∷ []) at ++
      (Ldi 1 (pos 1) ∷ (Add 0 0 1 ∷ (St 0 w ∷ []))) in
      counted ++ (body.code layout (w + 1) (at + length counted) ++ Jmp again ∷ [])

  abbrev pub while_code : Condition → (limit : ℤ) → (line : ℕ) → Translated → Layout → (w at : ℕ) → List Instr
  while_code c limit line body layout w at =
      passed
      (Ldi 0 (pos 0) ∷ (St 0 w ∷ asked layout c (at + 2)))
      (test_of c.comparison).jump
      (while_turn limit line (at + 2) body layout w)
      at

  -- one word: the count of turns
  abbrev pub while_loop : Condition → (limit : ℤ) → (line : ℕ) → Translated → Translated
  while_loop c limit line body = record { words = 1 + body.words; code = while_code c limit line body }

  -- ---- parts of statements, with expressions e and names x
  -- e is left in register d
  abbrev pub left : Expr → (d : ℕ) → Part
  left e d layout = leaving set layout e d

  -- arguments into the words of the parameters of x; what has no parameter is left out
  abbrev pub arguments_code : List Expr → List Range → (w line : ℕ) → Part
  arguments_code [] ranges w line layout = []
  arguments_code (e ∷ more) [] w line layout = []
  arguments_code (e ∷ more) (range ∷ ranges) w line layout =
      leaving set layout e 0 ++
      (checked_into (interval_in layout e) range w line ++ arguments_code more ranges (w + 1) line layout)

  abbrev pub arguments : List Expr → Name → (line : ℕ) → Part
  arguments es x line layout = arguments_code es (params_at layout x) (word_at layout x) line layout

  -- ---- statements, from what the statements in them are
  abbrev pub translated_node : statement.Statement-F Translated → Translated
  translated_node (statement.Assign (place.Name x) e line) = straight (left e 0 ∷ tested e x line ∷ stored x ∷ [])
  translated_node (statement.Assign (place.Element x i) e line) = straight (left e 0 ∷ tested e x line ∷ left i 1 ∷ stored_at x line ∷ [])
  translated_node (statement.Print e line) = straight (left e 0 ∷ printed ∷ [])
  translated_node (statement.Read (place.Name x) line) = straight (taken x line ∷ stored x ∷ [])
  translated_node (statement.Read (place.Element x i) line) = straight (taken x line ∷ left i 1 ∷ stored_at x x.line ∷ [])
  translated_node (statement.If c first second line) = choice c (in_order first) (in_order second) (is_empty second)
  translated_node (statement.For x a b body line) = for_loop x a b line (in_order body)
  translated_node (statement.While c limit body line) = while_loop c limit line (in_order body)
  translated_node (statement.Call x es line) = straight (arguments es x line ∷ called x line ∷ [])

  abbrev pub translated : Statement → Translated
  translated s = fold-Statement Translated translated_node s

  abbrev pub translated_all : List Statement → Translated
  translated_all statements = in_order (map translated statements)
