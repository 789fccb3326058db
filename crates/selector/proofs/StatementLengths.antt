-- How long the code of statements is doesn't depend on the words and places in it.
use Rattle.std.proofs.Common.{◌≡◌, ℕ, ◌+◌, ℤ, Bool, true, false, List, [], ◌∷◌, ◌++◌, map, length, refl, sym, ap, subst}
use Rattle.std.specs.Prelude.{pos}
use Rattle.moduli_sets.specs.Set.{ModuliSet}
use Rattle.machine_table.specs.declared.instr.Instr.{Instr}
use Rattle.machine_table.specs.declared.instr.Instr.TheVariants.{Ldi, Ld, St, Add, Jmp, Blt, Beq, Trp}
use Rattle.plain_text.specs.Lookup.{lookup}
use Rattle.source_tree.specs.Scope.{range_of, range_at as range_in_scope}
use Rattle.source_tree.specs.declared.name.Name.{Name as SourceName}
use Rattle.source_tree.specs.declared.name.Range.{Range}
use Rattle.source_tree.specs.declared.expression.Comparison.{Comparison}
use Rattle.source_tree.specs.declared.expression.Comparison.TheVariants.{Less, LessEqual, Greater, GreaterEqual, Equal, NotEqual}
use Rattle.source_tree.specs.declared.expression.Condition.{Condition}
use Rattle.source_tree.specs.declared.expression.Expr.{Expr}
use Rattle.source_tree.specs.declared.statement.Place.{Place}
use Rattle.source_tree.specs.declared.statement.Place.TheVariants as place
use Rattle.source_tree.specs.declared.statement.Statement.{Statement, Assign, Print, Read, If, For, While, Call}
use Rattle.source_tree.specs.declared.statement.Statement.TheOpen as statement
use Rattle.source_tree.proofs.FoldEquations.{fold-Assign, fold-Print, fold-Read, fold-If, fold-For, fold-While, fold-Call}
use Rattle.source_tree.proofs.Inductions.{EachOf, each_mapped, each_statement}
use Rattle.range_inference.specs.Interval.{from_to, interval_of}
use Rattle.selector.specs.Layout.{Layout, scope_of, params_of, word_at, params_at, range_at}
use Rattle.selector.specs.Expressions.{leaving, interval_in}
use Rattle.selector.specs.Statements.{Translated, Part, joined, straight, in_order, check, checked_into, passed, test_of, tested, stored, stored_at, taken, printed, called, left, arguments, is_empty, asked, choice, for_turns, for_loop, while_turn, while_loop, arguments_code, translated_node, translated}
use Rattle.selector.specs.Laws.{CodeLengthsStand}
use Rattle.selector.proofs.CodeLengths.{both, last, leaving_alike}

-- the lengths don't depend on words and places
pub record Steady (t : Translated) : Type 0 where
  pub code : (layout other : Layout) (w v at start : ℕ) → scope_of layout ≡ scope_of other
      → length (t.code layout w at) ≡ length (t.code other v start)

steady_in_order : (ts : List Translated) → EachOf Steady ts → Steady (in_order ts)
steady_in_order [] h = record { code = λ layout other w v at start same. refl }
steady_in_order (t ∷ ts) h = record {
  code = λ layout other w v at start same.
      both (t.code layout w at)
      ((in_order ts).code layout (w + t.words) (at + length (t.code layout w at)))
      (t.code other v start)
      ((in_order ts).code other (v + t.words) (start + length (t.code other v start)))
      (h.0.code layout other w v at start same)
      ((steady_in_order ts h.1).code layout other _ _ _ _ same);
}

passed_alike : (front ahead : List Instr) (jump leap : ℕ → Instr) (body rest : ℕ → List Instr) (at start : ℕ)
    → length front ≡ length ahead
    → ((x y : ℕ) → length (body x) ≡ length (rest y))
    → length (passed front jump body at) ≡ length (passed ahead leap rest start)
passed_alike front ahead jump leap body rest at start h k =
    let x = at + length front + 1 in let y = start + length ahead + 1 in
    let i : Instr = jump (x + length (body x)) in let j : Instr = leap (y + length (rest y)) in
    both front (i ∷ body x) ahead (j ∷ rest y) h (both (i ∷ []) (body x) (j ∷ []) (rest y) refl (k x y))

front_alike : (c : Comparison) (at start : ℕ) → length ((test_of c).front at) ≡ length ((test_of c).front start)
front_alike Less at start = refl
front_alike LessEqual at start = refl
front_alike Greater at start = refl
front_alike GreaterEqual at start = refl
front_alike Equal at start = refl
front_alike NotEqual at start = refl

module _ (set : ModuliSet) (layout other : Layout) (same : scope_of layout ≡ scope_of other) where
  -- ---- parts
  turn_alike : (a b : Expr) (x : SourceName) (line w v : ℕ)
      → length (checked_into (from_to (interval_in layout a).low (interval_in layout b).high) (range_at layout x) w line)
      ≡ length (checked_into (from_to (interval_in other a).low (interval_in other b).high) (range_at other x) v line)
  turn_alike a b x line w v =
      last
      (check (from_to (interval_in layout a).low (interval_in layout b).high) (range_at layout x) line)
      (check (from_to (interval_in other a).low (interval_in other b).high) (range_at other x) line) _ _
      (ap (λ scope.
      length (check (from_to (interval_of a (range_in_scope scope)).low (interval_of b (range_in_scope scope)).high)
      (range_of (lookup x.bytes scope)) line)) same)

  sides_alike : (a b : Expr)
      → length (leaving set layout a 0 ++ leaving set layout b 1) ≡ length (leaving set other a 0 ++ leaving set other b 1)
  sides_alike a b =
      both (leaving set layout a 0) (leaving set layout b 1) (leaving set other a 0) (leaving set other b 1)
      (leaving_alike set layout other a 0) (leaving_alike set layout other b 1)

  asked_alike : (c : Condition) (at start : ℕ) → length (asked set layout c at) ≡ length (asked set other c start)
  asked_alike c at start =
      let one = leaving set layout c.left 0 ++ leaving set layout c.right 1 in
      let two = leaving set other c.left 0 ++ leaving set other c.right 1 in
      both one ((test_of c.comparison).front (at + length one)) two ((test_of c.comparison).front (start + length two))
      (sides_alike c.left c.right) (front_alike c.comparison (at + length one) (start + length two))

  argument_alike : (e : Expr) (range : Range) (line w v : ℕ)
      → length (checked_into (interval_in layout e) range w line) ≡ length (checked_into (interval_in other e) range v line)
  argument_alike e range line w v =
      last (check (interval_in layout e) range line) (check (interval_in other e) range line) _ _
      (ap (λ scope. length (check (interval_of e (range_in_scope scope)) range line)) same)

  arguments_alike : (es : List Expr) (ranges : List Range) (w v line : ℕ)
      → length (arguments_code set es ranges w line layout) ≡ length (arguments_code set es ranges v line other)
  arguments_alike [] ranges w v line = refl
  arguments_alike (e ∷ es) [] w v line = refl
  arguments_alike (e ∷ es) (range ∷ ranges) w v line =
      both (leaving set layout e 0)
      (checked_into (interval_in layout e) range w line ++ arguments_code set es ranges (w + 1) line layout)
      (leaving set other e 0)
      (checked_into (interval_in other e) range v line ++ arguments_code set es ranges (v + 1) line other)
      (leaving_alike set layout other e 0)
      (both (checked_into (interval_in layout e) range w line) (arguments_code set es ranges (w + 1) line layout)
      (checked_into (interval_in other e) range v line) (arguments_code set es ranges (v + 1) line other)
      (argument_alike e range line w v) (arguments_alike es ranges (w + 1) (v + 1) line))

  call_alike : (es : List Expr) (x : SourceName) (w v line : ℕ)
      → length (arguments_code set es (params_at layout x) w line layout) ≡ length (arguments_code set es (params_at other x) v line other)
  call_alike es x w v line =
      subst (λ ranges. length (arguments_code set es (params_at layout x) w line layout) ≡ length (arguments_code set es ranges v line other))
      (ap (λ scope. params_of (lookup x.bytes scope)) same)
      (arguments_alike es (params_at layout x) w v line)

-- ---- parts
-- a part whose length doesn't depend on words
pub record SteadyPart (part : Part) : Type 0 where
  pub code : (layout other : Layout) → scope_of layout ≡ scope_of other → length (part layout) ≡ length (part other)

abbrev AreSteady : List Part → Type 0
AreSteady [] = Unit {0}
AreSteady (part ∷ parts) = SteadyPart part × AreSteady parts

joined_steady : (parts : List Part) → AreSteady parts → SteadyPart (joined parts)
joined_steady [] h = record { code = λ layout other same. refl }
joined_steady (part ∷ parts) h = record {
  code = λ layout other same.
      both (part layout) (joined parts layout) (part other) (joined parts other)
      (h.0.code layout other same) ((joined_steady parts h.1).code layout other same);
}

straight_steady : (parts : List Part) → AreSteady parts → Steady (straight parts)
straight_steady parts h = record {
  code = λ layout other w v at start same. (joined_steady parts h).code layout other same;
}

tested_steady : (e : Expr) (x : SourceName) (line : ℕ) → SteadyPart (tested e x line)
tested_steady e x line = record {
  code = λ layout other same.
      ap (λ scope. length (check (interval_of e (range_in_scope scope)) (range_of (lookup x.bytes scope)) line)) same;
}

stored_steady : (x : SourceName) → SteadyPart (stored x)
stored_steady x = record { code = λ layout other same. refl }

stored_at_steady : (x : SourceName) (line : ℕ) → SteadyPart (stored_at x line)
stored_at_steady x line = record { code = λ layout other same. refl }

taken_steady : (x : SourceName) (line : ℕ) → SteadyPart (taken x line)
taken_steady x line = record { code = λ layout other same. refl }

printed_steady : SteadyPart printed
printed_steady = record { code = λ layout other same. refl }

called_steady : (x : SourceName) (line : ℕ) → SteadyPart (called x line)
called_steady x line = record { code = λ layout other same. refl }

-- ---- statements with statements in them
module _ (set : ModuliSet) where
  chosen_steady : (c : Condition) (one two : Translated) (none : Bool) → Steady one → Steady two → Steady (choice set c one two none)
  chosen_steady c one two true h k = record {
    code = λ layout other w v at start same.
        passed_alike (asked set layout c at) (asked set other c start) (test_of c.comparison).jump (test_of c.comparison).jump (one.code layout w) (one.code other v) at start
        (asked_alike set layout other same c at start)
        (λ x y. h.code layout other w v x y same);
  }
  chosen_steady c one two false h k = record {
    code = λ layout other w v at start same.
        let x = at + length (asked set layout c at) + 1 in let y = start + length (asked set other c start) + 1 in
        let first = one.code layout w x in let again = one.code other v y in
        let i : Instr = (test_of c.comparison).jump (x + length first + 1) in
        let j : Instr = (test_of c.comparison).jump (y + length again + 1) in
        passed_alike (asked set layout c at ++ i ∷ first) (asked set other c start ++ j ∷ again) (λ x. Jmp x) (λ x. Jmp x)
        (two.code layout (w + one.words)) (two.code other (v + one.words)) at start
        (both (asked set layout c at) (i ∷ first) (asked set other c start) (j ∷ again)
        (asked_alike set layout other same c at start)
        (both (i ∷ []) first (j ∷ []) again refl (h.code layout other w v x y same)))
        (λ p q. k.code layout other (w + one.words) (v + one.words) p q same);
  }

  for_turns_alike : (x : SourceName) (a b : Expr) (line : ℕ) (body : Translated) → Steady body
      → (layout other : Layout) (w v at start : ℕ) → scope_of layout ≡ scope_of other
      → length (for_turns set x (from_to (interval_in layout a).low (interval_in layout b).high) line body layout w at)
      ≡ length (for_turns set x (from_to (interval_in other a).low (interval_in other b).high) line body other v start)
  for_turns_alike x a b line body h layout other w v at start same =
      let one = checked_into (from_to (interval_in layout a).low (interval_in layout b).high) (range_at layout x) (word_at layout x) line in
      let two = checked_into (from_to (interval_in other a).low (interval_in other b).high) (range_at other x) (word_at other x) line in
      let list = body.code layout (w + 2) (at + 2 + length one) in
      let same_list = body.code other (v + 2) (start + 2 + length two) in
      let tail : List Instr = Ld 0 w ∷ (Ld 1 (w + 1) ∷ []) in
      let same_tail : List Instr = Ld 0 v ∷ (Ld 1 (v + 1) ∷ []) in
      let head : List Instr = St 0 w ∷ (St 1 (w + 1) ∷ []) in
      let same_head : List Instr = St 0 v ∷ (St 1 (v + 1) ∷ []) in
      passed_alike (head ++ (one ++ (list ++ tail))) (same_head ++ (two ++ (same_list ++ same_tail)))
      (λ b. Beq 0 1 b) (λ b. Beq 0 1 b)
      (λ n. Ldi 1 (pos 1) ∷ (Add 0 0 1 ∷ (St 0 w ∷ (Jmp (at + 2) ∷ []))))
      (λ n. Ldi 1 (pos 1) ∷ (Add 0 0 1 ∷ (St 0 v ∷ (Jmp (start + 2) ∷ [])))) at start
      (both head (one ++ (list ++ tail)) same_head (two ++ (same_list ++ same_tail)) refl
      (both one (list ++ tail) two (same_list ++ same_tail) (turn_alike set layout other same a b x line _ _)
      (both list tail same_list same_tail (h.code layout other _ _ _ _ same) refl)))
      (λ p q. refl)

  for_steady : (x : SourceName) (a b : Expr) (line : ℕ) (body : Translated) → Steady body → Steady (for_loop set x a b line body)
  for_steady x a b line body h = record {
    code = λ layout other w v at start same.
        passed_alike
        (leaving set layout a 0 ++ leaving set layout b 1)
        (leaving set other a 0 ++ leaving set other b 1) (λ p. Blt 1 0 p) (λ p. Blt 1 0 p)
        (for_turns set x (from_to (interval_in layout a).low (interval_in layout b).high) line body layout w)
        (for_turns set x (from_to (interval_in other a).low (interval_in other b).high) line body other v) at start
        (sides_alike set layout other same a b)
        (λ p q. for_turns_alike x a b line body h layout other w v p q same);
  }

  while_turn_alike : (limit : ℤ) (line : ℕ) (body : Translated) → Steady body
      → (layout other : Layout) (w v again still at start : ℕ) → scope_of layout ≡ scope_of other
      → length (while_turn set limit line again body layout w at) ≡ length (while_turn set limit line still body other v start)
  while_turn_alike limit line body h layout other w v again still at start same =
      let counted =
      passed (Ld 0 w ∷ (Ldi 1 limit ∷ [])) (λ go. Blt 0 1 go) (λ trap. Trp 5 line ∷ []) at ++
      (Ldi 1 (pos 1) ∷ (Add 0 0 1 ∷ (St 0 w ∷ []))) in
      let same_counted =
      passed (Ld 0 v ∷ (Ldi 1 limit ∷ [])) (λ go. Blt 0 1 go) (λ trap. Trp 5 line ∷ []) start ++
      (Ldi 1 (pos 1) ∷ (Add 0 0 1 ∷ (St 0 v ∷ []))) in
      both counted (body.code layout (w + 1) (at + length counted) ++ Jmp again ∷ [])
      same_counted (body.code other (v + 1) (start + length same_counted) ++ Jmp still ∷ []) refl
      (last (body.code layout (w + 1) (at + length counted)) (body.code other (v + 1) (start + length same_counted)) _ _
      (h.code layout other _ _ _ _ same))

  while_steady : (c : Condition) (limit : ℤ) (line : ℕ) (body : Translated) → Steady body → Steady (while_loop set c limit line body)
  while_steady c limit line body h = record {
    code = λ layout other w v at start same.
        let head : List Instr = Ldi 0 (pos 0) ∷ (St 0 w ∷ []) in
        let same_head : List Instr = Ldi 0 (pos 0) ∷ (St 0 v ∷ []) in
        passed_alike
        (head ++ asked set layout c (at + 2))
        (same_head ++ asked set other c (start + 2)) (test_of c.comparison).jump (test_of c.comparison).jump
        (while_turn set limit line (at + 2) body layout w) (while_turn set limit line (start + 2) body other v) at start
        (both head (asked set layout c (at + 2)) same_head (asked set other c (start + 2)) refl
        (asked_alike set layout other same c (at + 2) (start + 2)))
        (λ p q. while_turn_alike limit line body h layout other w v (at + 2) (start + 2) p q same);
  }

  left_steady : (e : Expr) (d : ℕ) → SteadyPart (left set e d)
  left_steady e d = record { code = λ layout other same. leaving_alike set layout other e d }

  arguments_steady : (es : List Expr) (x : SourceName) (line : ℕ) → SteadyPart (arguments set es x line)
  arguments_steady es x line = record {
    code = λ layout other same. call_alike set layout other same es x (word_at layout x) (word_at other x) line;
  }

  -- ---- all statements
  at_statement : (s : Statement) (t : Translated) → translated set s ≡ t → Steady t → Steady (translated set s)
  at_statement s t is h = subst Steady (sym is) h

  lists : (body : List Statement) → EachOf (λ s. Steady (translated set s)) body → Steady (in_order (map (translated set) body))
  lists body h = steady_in_order (map (translated set) body) (each_mapped Steady (translated set) body h)

  assign_steady : (p : Place) (e : Expr) (line : ℕ) → Steady (translated_node set (statement.Assign p e line))
  assign_steady (place.Name x) e line =
      straight_steady (left set e 0 ∷ tested e x line ∷ stored x ∷ []) (left_steady e 0, (tested_steady e x line, (stored_steady x, tt)))
  assign_steady (place.Element x i) e line =
      straight_steady (left set e 0 ∷ tested e x line ∷ left set i 1 ∷ stored_at x line ∷ [])
      (left_steady e 0, (tested_steady e x line, (left_steady i 1, (stored_at_steady x line, tt))))

  read_steady : (p : Place) (line : ℕ) → Steady (translated_node set (statement.Read p line))
  read_steady (place.Name x) line = straight_steady (taken x line ∷ stored x ∷ []) (taken_steady x line, (stored_steady x, tt))
  read_steady (place.Element x i) line =
      straight_steady (taken x line ∷ left set i 1 ∷ stored_at x x.line ∷ [])
      (taken_steady x line, (left_steady i 1, (stored_at_steady x x.line, tt)))

  pub steady : (s : Statement) → Steady (translated set s)
  steady =
      each_statement (λ s. Steady (translated set s))
      (λ p e line. at_statement (Assign p e line) _ (fold-Assign (translated_node set) p e line) (assign_steady p e line))
      (λ e line.
      at_statement (Print e line) _ (fold-Print (translated_node set) e line)
      (straight_steady (left set e 0 ∷ printed ∷ []) (left_steady e 0, (printed_steady, tt))))
      (λ p line. at_statement (Read p line) _ (fold-Read (translated_node set) p line) (read_steady p line))
      (λ c first second line h k.
      at_statement (If c first second line) _ (fold-If (translated_node set) c first second line)
      (chosen_steady c (in_order (map (translated set) first)) (in_order (map (translated set) second))
      (is_empty (map (translated set) second)) (lists first h) (lists second k)))
      (λ x a b body line h.
      at_statement (For x a b body line) _ (fold-For (translated_node set) x a b body line)
      (for_steady x a b line (in_order (map (translated set) body)) (lists body h)))
      (λ c limit body line h.
      at_statement (While c limit body line) _ (fold-While (translated_node set) c limit body line)
      (while_steady c limit line (in_order (map (translated set) body)) (lists body h)))
      (λ x es line.
      at_statement (Call x es line) _ (fold-Call (translated_node set) x es line)
      (straight_steady (arguments set es x line ∷ called x line ∷ []) (arguments_steady es x line, (called_steady x line, tt))))

pub code_lengths_stand : CodeLengthsStand
code_lengths_stand set s layout other w v at start same = (steady set s).code layout other w v at start same
