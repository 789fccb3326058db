-- Where the code of statements with jumps goes.
use Rattle.std.proofs.Common.{◌≡◌, ℕ, ◌+◌, ◌≤◌, ℤ, Bool, true, false, List, [], ◌∷◌, ◌++◌, map, length, refl, sym, subst, length-append, arith, if◌then◌else◌}
use Rattle.std.specs.Prelude.{pos}
use Rattle.moduli_sets.specs.Set.{ModuliSet}
use Rattle.machine_table.specs.declared.instr.Instr.{Instr}
use Rattle.machine_table.specs.declared.instr.Instr.TheVariants.{Ldi, Ld, St, Add, Jmp, Blt, Beq, Chk, Trp}
use Rattle.source_tree.specs.declared.name.Name.{Name as SourceName}
use Rattle.source_tree.specs.declared.name.Range.{Range}
use Rattle.source_tree.specs.declared.expression.Comparison.{Comparison}
use Rattle.source_tree.specs.declared.expression.Comparison.TheVariants.{Less, LessEqual, Greater, GreaterEqual, Equal, NotEqual}
use Rattle.source_tree.specs.declared.expression.Condition.{Condition}
use Rattle.source_tree.specs.declared.expression.Expr.{Expr}
use Rattle.source_tree.specs.declared.statement.Place.{Place}
use Rattle.source_tree.specs.declared.statement.Place.TheVariants as place
use Rattle.source_tree.specs.declared.statement.Statement.{Statement, Assign, Print, Read, If, For, While, Call as Called}
use Rattle.source_tree.specs.declared.statement.Statement.TheOpen as statement
use Rattle.source_tree.proofs.FoldEquations.{fold-Assign, fold-Print, fold-Read, fold-If, fold-For, fold-While, fold-Call}
use Rattle.source_tree.proofs.Inductions.{EachOf, each_mapped, each_statement}
use Rattle.range_inference.specs.Interval.{from_to}
use Rattle.range_inference.specs.declared.interval.Interval.{Interval}
use Rattle.selector.specs.Layout.{Layout, word_at, params_at, range_at}
use Rattle.selector.specs.Expressions.{leaving, interval_in}
use Rattle.selector.specs.Statements.{Translated, Part, joined, straight, in_order, lies_within, check, checked_into, passed, test_of, tested, stored, stored_at, taken, printed, called, left, arguments, is_empty, asked, choice, for_turns, for_loop, while_turn, while_loop, arguments_code, translated_node, translated}
use Rattle.selector.specs.Laws.{StaysWithin, AllStay, JumpsStayWithin}
use Rattle.selector.proofs.Jumps.{all_wider, append, leaving_stays}

-- the jumps of a statement stay within its code
pub record Stays (t : Translated) : Type 0 where
  pub code : (layout : Layout) (w at : ℕ) → AllStay layout at (at + length (t.code layout w at)) (t.code layout w at)

-- and so within what is around it
inside : (t : Translated) → Stays t → (layout : Layout) (w at low high : ℕ) → low ≤ at → at + length (t.code layout w at) ≤ high
    → AllStay layout low high (t.code layout w at)
inside t h layout w at low high p q =
    all_wider layout at (at + length (t.code layout w at)) low high p q (t.code layout w at) (h.code layout w at)

stays_in_order : (ts : List Translated) → EachOf Stays ts → Stays (in_order ts)
stays_in_order [] h = record { code = λ layout w at. tt }
stays_in_order (t ∷ ts) h = record {
  code = λ layout w at.
      let one = t.code layout w at in
      let rest = (in_order ts).code layout (w + t.words) (at + length one) in
      append layout at (at + length (one ++ rest)) one rest
      (inside t h.0 layout w at at (at + length (one ++ rest)) (omega arith) (omega (arith, length-append one rest)))
      (inside (in_order ts) (stays_in_order ts h.1) layout (w + t.words) (at + length one) at (at + length (one ++ rest))
      (omega arith) (omega (arith, length-append one rest)));
}

module _ (layout : Layout) (low high : ℕ) where
  either_stays : (b : Bool) (i : Instr) → StaysWithin layout low high i → AllStay layout low high (if b then [] else i ∷ [])
  either_stays true i h = tt
  either_stays false i h = (h, tt)

  check_stays : (interval : Interval) (range : Range) (line : ℕ) → AllStay layout low high (check interval range line)
  check_stays interval range line = either_stays (lies_within interval range) (Chk 0 range.low range.high line) tt

  into_stays : (interval : Interval) (range : Range) (w line : ℕ) → AllStay layout low high (checked_into interval range w line)
  into_stays interval range w line =
      append layout low high (check interval range line) (St 0 w ∷ []) (check_stays interval range line) (tt, tt)

  passed_stays : (front : List Instr) (jump : ℕ → Instr) (body : ℕ → List Instr) (at : ℕ)
      → low ≤ at
      → at + length (passed front jump body at) ≤ high
      → AllStay layout low high front
      → ((p : ℕ) → low ≤ p → p ≤ high → StaysWithin layout low high (jump p))
      → AllStay layout low high (body (at + length front + 1))
      → AllStay layout low high (passed front jump body at)
  passed_stays front jump body at p q f j b =
      let start = at + length front + 1 in
      let x : Instr = jump (start + length (body start)) in
      append layout low high front (x ∷ body start) f
      (j (start + length (body start)) (omega (arith, p)) (omega (arith, q, length-append front (x ∷ body start))), b)

  jump_stays : (c : Comparison) (p : ℕ) → low ≤ p → p ≤ high → StaysWithin layout low high ((test_of c).jump p)
  jump_stays Less p h k = (h, k)
  jump_stays LessEqual p h k = (h, k)
  jump_stays Greater p h k = (h, k)
  jump_stays GreaterEqual p h k = (h, k)
  jump_stays Equal p h k = (h, k)
  jump_stays NotEqual p h k = (h, k)

  front_stays : (c : Comparison) (at : ℕ) → low ≤ at → at + length ((test_of c).front at) + 1 ≤ high
      → AllStay layout low high ((test_of c).front at)
  front_stays Less at p q = ((omega (arith, p), omega (arith, q)), tt)
  front_stays LessEqual at p q = tt
  front_stays Greater at p q = ((omega (arith, p), omega (arith, q)), tt)
  front_stays GreaterEqual at p q = tt
  front_stays Equal at p q = ((omega (arith, p), omega (arith, q)), tt)
  front_stays NotEqual at p q = tt

  module _ (set : ModuliSet) where
    sides_stay : (a b : Expr) → AllStay layout low high (leaving set layout a 0 ++ leaving set layout b 1)
    sides_stay a b =
        append layout low high (leaving set layout a 0) (leaving set layout b 1)
        (leaving_stays layout low high set a 0) (leaving_stays layout low high set b 1)

    asked_stays : (c : Condition) (at : ℕ) → low ≤ at → at + length (asked set layout c at) + 1 ≤ high
        → AllStay layout low high (asked set layout c at)
    asked_stays c at p q =
        let sides = leaving set layout c.left 0 ++ leaving set layout c.right 1 in
        let front = (test_of c.comparison).front (at + length sides) in
        append layout low high sides front (sides_stay c.left c.right)
        (front_stays c.comparison (at + length sides) (omega (arith, p)) (omega (arith, q, length-append sides front)))

    arguments_stay : (es : List Expr) (ranges : List Range) (w line : ℕ)
        → AllStay layout low high (arguments_code set es ranges w line layout)
    arguments_stay [] ranges w line = tt
    arguments_stay (e ∷ es) [] w line = tt
    arguments_stay (e ∷ es) (range ∷ ranges) w line =
        let into = checked_into (interval_in layout e) range w line in
        let rest = arguments_code set es ranges (w + 1) line layout in
        append layout low high (leaving set layout e 0) (into ++ rest) (leaving_stays layout low high set e 0)
        (append layout low high into rest (into_stays (interval_in layout e) range w line) (arguments_stay es ranges (w + 1) line))

-- ---- parts
pub record StillPart (part : Part) : Type 0 where
  pub code : (layout : Layout) (low high : ℕ) → AllStay layout low high (part layout)

abbrev AreStill : List Part → Type 0
AreStill [] = Unit {0}
AreStill (part ∷ parts) = StillPart part × AreStill parts

joined_still : (parts : List Part) → AreStill parts → StillPart (joined parts)
joined_still [] h = record { code = λ layout low high. tt }
joined_still (part ∷ parts) h = record {
  code = λ layout low high.
      append layout low high (part layout) (joined parts layout) (h.0.code layout low high) ((joined_still parts h.1).code layout low high);
}

straight_stays : (parts : List Part) → AreStill parts → Stays (straight parts)
straight_stays parts h = record {
  code = λ layout w at. (joined_still parts h).code layout at (at + length (joined parts layout));
}

tested_still : (e : Expr) (x : SourceName) (line : ℕ) → StillPart (tested e x line)
tested_still e x line = record { code = λ layout low high. check_stays layout low high (interval_in layout e) (range_at layout x) line }

stored_still : (x : SourceName) → StillPart (stored x)
stored_still x = record { code = λ layout low high. (tt, tt) }

stored_at_still : (x : SourceName) (line : ℕ) → StillPart (stored_at x line)
stored_at_still x line = record { code = λ layout low high. (tt, tt) }

taken_still : (x : SourceName) (line : ℕ) → StillPart (taken x line)
taken_still x line = record { code = λ layout low high. (tt, tt) }

printed_still : StillPart printed
printed_still = record { code = λ layout low high. (tt, tt) }

called_still : (x : SourceName) (line : ℕ) → StillPart (called x line)
called_still x line = record { code = λ layout low high. ((x, refl), tt) }

-- ---- statements with statements in them
module _ (set : ModuliSet) where
  left_still : (e : Expr) (d : ℕ) → StillPart (left set e d)
  left_still e d = record { code = λ layout low high. leaving_stays layout low high set e d }

  arguments_still : (es : List Expr) (x : SourceName) (line : ℕ) → StillPart (arguments set es x line)
  arguments_still es x line = record {
    code = λ layout low high. arguments_stay layout low high set es (params_at layout x) (word_at layout x) line;
  }

  chosen_stays : (c : Condition) (one two : Translated) (none : Bool) → Stays one → Stays two → Stays (choice set c one two none)
  chosen_stays c one two true h k = record {
    code = λ layout w at.
        let front = asked set layout c at in
        let jump = (test_of c.comparison).jump in
        let start = at + length front + 1 in
        let body = one.code layout w start in
        let x : Instr = jump (start + length body) in
        let high = at + length (front ++ x ∷ body) in
        passed_stays layout at high front jump (one.code layout w) at (omega arith) (omega arith)
        (asked_stays layout at high set c at (omega arith) (omega (arith, length-append front (x ∷ body))))
        (jump_stays layout at high c.comparison)
        (inside one h layout w start at high (omega arith) (omega (arith, length-append front (x ∷ body))));
  }
  chosen_stays c one two false h k = record {
    code = λ layout w at.
        let front = asked set layout c at in
        let start = at + length front + 1 in
        let first = one.code layout w start in
        let x : Instr = (test_of c.comparison).jump (start + length first + 1) in
        let both = front ++ x ∷ first in
        let behind = at + length both + 1 in
        let second = two.code layout (w + one.words) behind in
        let y : Instr = Jmp (behind + length second) in
        let high = at + length (both ++ y ∷ second) in
        let whole = length-append both (y ∷ second) in let part = length-append front (x ∷ first) in
        passed_stays layout at high both (λ p. Jmp p) (two.code layout (w + one.words)) at (omega arith) (omega arith)
        (append layout at high front (x ∷ first)
        (asked_stays layout at high set c at (omega arith) (omega (arith, whole, part))) (
          jump_stays layout at high c.comparison (start + length first + 1) (omega arith) (omega (arith, whole, part)),
          inside one h layout w start at high (omega arith) (omega (arith, whole, part)),
        ))
        (λ p l m. (l, m))
        (inside two k layout (w + one.words) behind at high (omega arith) (omega (arith, whole)));
  }

  for_turns_stay : (x : SourceName) (interval : Interval) (line : ℕ) (body : Translated) → Stays body
      → (layout : Layout) (w at low high : ℕ) → low ≤ at → at + length (for_turns set x interval line body layout w at) ≤ high
      → AllStay layout low high (for_turns set x interval line body layout w at)
  for_turns_stay x interval line body h layout w at low high p q =
      let variable = checked_into interval (range_at layout x) (word_at layout x) line in
      let start = at + 2 + length variable in
      let list = body.code layout (w + 2) start in
      let head : List Instr = St 0 w ∷ (St 1 (w + 1) ∷ []) in
      let tail : List Instr = Ld 0 w ∷ (Ld 1 (w + 1) ∷ []) in
      let front = head ++ (variable ++ (list ++ tail)) in
      let back : ℕ → List Instr = λ next. Ldi 1 (pos 1) ∷ (Add 0 0 1 ∷ (St 0 w ∷ (Jmp (at + 2) ∷ []))) in
      let y : Instr = Beq 0 1 (at + length front + 1 + 4) in
      let whole = length-append front (y ∷ back 0) in
      let part = length-append variable (list ++ tail) in
      let inner = length-append list tail in
      passed_stays layout low high front (λ b. Beq 0 1 b) back at p q (
        tt,
        (
          tt,
          append layout low high variable (list ++ tail)
              (into_stays layout low high interval (range_at layout x) (word_at layout x) line)
              (append layout low high list tail
              (inside body h layout (w + 2) start low high (omega (arith, p)) (omega (arith, q, whole, part, inner))) (tt, (tt, tt))),
        ),
      )
      (λ b l m. (l, m))
      (tt, (tt, (tt, ((omega (arith, p), omega (arith, q, whole, part, inner)), tt))))

  for_stays : (x : SourceName) (a b : Expr) (line : ℕ) (body : Translated) → Stays body → Stays (for_loop set x a b line body)
  for_stays x a b line body h = record {
    code = λ layout w at.
        let interval = from_to (interval_in layout a).low (interval_in layout b).high in
        let sides = leaving set layout a 0 ++ leaving set layout b 1 in
        let turns = for_turns set x interval line body layout w in
        let start = at + length sides + 1 in
        let y : Instr = Blt 1 0 (start + length (turns start)) in
        let high = at + length (sides ++ y ∷ turns start) in
        passed_stays layout at high sides (λ p. Blt 1 0 p) turns at (omega arith) (omega arith)
        (sides_stay layout at high set a b)
        (λ p l m. (l, m))
        (for_turns_stay x interval line body h layout w start at high (omega arith) (omega (arith, length-append sides (y ∷ turns start))));
  }

  while_turn_stays : (limit : ℤ) (line : ℕ) (body : Translated) → Stays body
      → (layout : Layout) (w again at low high : ℕ) → low ≤ again → again ≤ high → low ≤ at
      → at + length (while_turn set limit line again body layout w at) ≤ high
      → AllStay layout low high (while_turn set limit line again body layout w at)
  while_turn_stays limit line body h layout w again at low high i j p q =
      let counted : List Instr =
      Ld 0 w ∷ (Ldi 1 limit ∷ (Blt 0 1 (at + 2 + 1 + 1) ∷ (Trp 5 line ∷ (Ldi 1 (pos 1) ∷ (Add 0 0 1 ∷ (St 0 w ∷ [])))))) in
      let list = body.code layout (w + 1) (at + 7) in
      let whole = length-append list (Jmp again ∷ []) in
      append layout low high counted (list ++ Jmp again ∷ [])
      (tt, (tt, ((omega (arith, p), omega (arith, q, whole)), (tt, (tt, (tt, (tt, tt)))))))
      (append layout low high list (Jmp again ∷ [])
      (inside body h layout (w + 1) (at + 7) low high (omega (arith, p)) (omega (arith, q, whole)))
      ((i, j), tt))

  while_stays : (c : Condition) (limit : ℤ) (line : ℕ) (body : Translated) → Stays body → Stays (while_loop set c limit line body)
  while_stays c limit line body h = record {
    code = λ layout w at.
        let condition = asked set layout c (at + 2) in
        let head : List Instr = Ldi 0 (pos 0) ∷ (St 0 w ∷ []) in
        let front = head ++ condition in
        let jump = (test_of c.comparison).jump in
        let turn = while_turn set limit line (at + 2) body layout w in
        let start = at + length front + 1 in
        let y : Instr = jump (start + length (turn start)) in
        let high = at + length (front ++ y ∷ turn start) in
        let whole = length-append front (y ∷ turn start) in
        passed_stays layout at high front jump turn at (omega arith) (omega arith)
        (tt, (tt, asked_stays layout at high set c (at + 2) (omega arith) (omega (arith, whole))))
        (jump_stays layout at high c.comparison)
        (while_turn_stays limit line body h layout w (at + 2) start at high (omega arith) (omega (arith, whole)) (omega arith)
        (omega (arith, whole)));
  }

  -- ---- all statements
  at_statement : (s : Statement) (t : Translated) → translated set s ≡ t → Stays t → Stays (translated set s)
  at_statement s t is h = subst Stays (sym is) h

  lists : (body : List Statement) → EachOf (λ s. Stays (translated set s)) body → Stays (in_order (map (translated set) body))
  lists body h = stays_in_order (map (translated set) body) (each_mapped Stays (translated set) body h)

  assign_stays : (p : Place) (e : Expr) (line : ℕ) → Stays (translated_node set (statement.Assign p e line))
  assign_stays (place.Name x) e line =
      straight_stays (left set e 0 ∷ tested e x line ∷ stored x ∷ []) (left_still e 0, (tested_still e x line, (stored_still x, tt)))
  assign_stays (place.Element x i) e line =
      straight_stays (left set e 0 ∷ tested e x line ∷ left set i 1 ∷ stored_at x line ∷ [])
      (left_still e 0, (tested_still e x line, (left_still i 1, (stored_at_still x line, tt))))

  read_stays : (p : Place) (line : ℕ) → Stays (translated_node set (statement.Read p line))
  read_stays (place.Name x) line = straight_stays (taken x line ∷ stored x ∷ []) (taken_still x line, (stored_still x, tt))
  read_stays (place.Element x i) line =
      straight_stays (taken x line ∷ left set i 1 ∷ stored_at x x.line ∷ [])
      (taken_still x line, (left_still i 1, (stored_at_still x x.line, tt)))

  pub stays : (s : Statement) → Stays (translated set s)
  stays =
      each_statement (λ s. Stays (translated set s))
      (λ p e line. at_statement (Assign p e line) _ (fold-Assign (translated_node set) p e line) (assign_stays p e line))
      (λ e line.
      at_statement (Print e line) _ (fold-Print (translated_node set) e line)
      (straight_stays (left set e 0 ∷ printed ∷ []) (left_still e 0, (printed_still, tt))))
      (λ p line. at_statement (Read p line) _ (fold-Read (translated_node set) p line) (read_stays p line))
      (λ c first second line h k.
      at_statement (If c first second line) _ (fold-If (translated_node set) c first second line)
      (chosen_stays c (in_order (map (translated set) first)) (in_order (map (translated set) second))
      (is_empty (map (translated set) second)) (lists first h) (lists second k)))
      (λ x a b body line h.
      at_statement (For x a b body line) _ (fold-For (translated_node set) x a b body line)
      (for_stays x a b line (in_order (map (translated set) body)) (lists body h)))
      (λ c limit body line h.
      at_statement (While c limit body line) _ (fold-While (translated_node set) c limit body line)
      (while_stays c limit line (in_order (map (translated set) body)) (lists body h)))
      (λ x es line.
      at_statement (Called x es line) _ (fold-Call (translated_node set) x es line)
      (straight_stays (arguments set es x line ∷ called x line ∷ []) (arguments_still es x line, (called_still x line, tt))))

pub jumps_stay_within : JumpsStayWithin
jumps_stay_within set s layout w at = (stays set s).code layout w at
