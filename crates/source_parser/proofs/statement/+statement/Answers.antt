use Rattle.std.proofs.Common.{◌≡◌, ℕ, suc, ◌-◌, ◌<◌, List, [], ◌∷◌, ◌++◌, Result, Ok, Err, refl, sym, subst, ◌∙◌, arith, rules}
use Rattle.std.specs.Prelude.{IfOk}
use Rattle.std.specs.Int.{w128}
use Rattle.std.proofs.lemmas.Int.{to_z-of_z}
use mir.Val.{SFits}
use Rattle.source_lexer.specs.declared.token.TokenKind.{TokenKind}
use Rattle.source_lexer.specs.declared.token.TokenKind.TheVariants as kind
use Rattle.source_tree.specs.declared.statement.Statement.{Statement}
use Rattle.source_parser.specs.declared.fault.Fault.{Fault}
use Rattle.source_parser.specs.Limits.{weight_limit}
use Rattle.source_parser.specs.Terminals.{Terminal, fixed, kinds_of}
use Rattle.source_parser.specs.Grammar as grammar
use Rattle.source_parser.specs.Grammar.{ReadsElse, ReadsStatement, ReadsStatements}
use Rattle.source_parser.specs.Landings.{Leads, reads, reads_one, reads_none}
use Rattle.source_parser.specs.Parts.{Closed}
use Rattle.source_parser.specs.Taking.{NotKind}
use Rattle.source_parser.specs.Wants as wants
use Rattle.source_parser.proofs.ListLemmas.{list_starts, list_grows, list_ends}
use Rattle.source_parser.proofs.Moves.{at_start, and_then, ends_with, fails, fails_next, fails_in, and_again, and_no_more}
use Rattle.source_parser.proofs.Runs.{else_ends, statements_end}
use Rattle.source_parser.proofs.Taken.{taken, not_taken, within_not_taken, identifier_taken}
use Rattle.source_parser.proofs.TokenMoves.{and_taken, and_close, and_opening, instead, still, no_close, no_memory_for, no_memory_next, block_too_deep, block_read}
use Rattle.source_parser.proofs.statement.+statement.Goals as goal

-- ---- `if`
pub if_statement-returns-in_err-condition-clause-lands : goal.if_statement-returns-in_err-condition-clause-lands
if_statement-returns-in_err-condition-clause-lands t c =
    fails _ (c.in_err-condition.ensures.lands c.args.depth weight_limit) c.from_residual.ensures.1 at_start

pub if_statement-returns-in_err-first-clause-lands : goal.if_statement-returns-in_err-first-clause-lands
if_statement-returns-in_err-first-clause-lands t c =
    fails _ c.in_err-first.ensures.lands c.from_residual-in_err-first.ensures.1
    (and_then _ (c.in_ok-condition.ensures.lands c.args.depth weight_limit) at_start)

pub if_statement-returns-clause-value : goal.if_statement-returns-clause-value
if_statement-returns-clause-value t c =
    let branches = c.in_ok-first.ensures.value in
    grammar.if_statement c.in_ok-condition.ensures.value.reads branches.first branches.second.reads

pub if_statement-returns-clause-lands : goal.if_statement-returns-clause-lands
if_statement-returns-clause-lands t c =
    reads (and_then _ c.in_ok-first.ensures.lands (and_then _ (c.in_ok-condition.ensures.lands c.args.depth weight_limit) at_start))

pub branches-returns-in_err-first-clause-lands : goal.branches-returns-in_err-first-clause-lands
branches-returns-in_err-first-clause-lands t c = fails _ c.in_err-first.ensures.lands c.from_residual.ensures.1 at_start

pub branches-returns-in_err-second-clause-lands : goal.branches-returns-in_err-second-clause-lands
branches-returns-in_err-second-clause-lands t c =
    fails _ c.in_err-second.ensures.lands c.from_residual-in_err-second.ensures.1 (and_then _ c.in_ok-first.ensures.lands at_start)

pub branches-returns-clause-value : goal.branches-returns-clause-value
branches-returns-clause-value t c = record { behind = c.statements.new.reader; first = c.in_ok-first.ensures.value; second = c.in_ok-second.ensures.value }

pub branches-returns-clause-lands : goal.branches-returns-clause-lands
branches-returns-clause-lands t c = reads (and_then _ c.in_ok-second.ensures.lands (and_then _ c.in_ok-first.ensures.lands at_start))

-- ---- `else`
else_none : {depth line : ℕ} {old new : List Terminal} → old ≡ fixed kind.End line ∷ new → Closed (ReadsElse weight_limit depth) kind.End old [] new
else_none {line = line} end = record { line = line; reads = rw end grammar.no_else }

else_reads : (depth : ℕ) {line : ℕ} {old now : List Terminal} (new : List Terminal) (result : Result (List Statement) Fault) → old ≡ fixed kind.Else line ∷ now
    → IfOk result (λ found. Closed (ReadsStatements weight_limit depth) kind.End now found new) → IfOk result (λ found. Closed (ReadsElse weight_limit depth) kind.End old found new)
else_reads depth new (Ok found) begins body = record { line = body.line; reads = rw begins (grammar.other body.reads) }
else_reads depth new (Err fault) begins body = tt

pub else_part-returns-in_err-expect-clause-lands : goal.else_part-returns-in_err-expect-clause-lands
else_part-returns-in_err-expect-clause-lands t c =
    let alone = not_taken kind.Else c.args.reader.now c.take.result c.take.new.self c.take.ensures.value (sym c.if-is_none.ensures) in
    no_close c.in_err-expect.ensures.value c.from_residual.ensures.1
    (still alone.0 (instead [] (λ s. else_ends weight_limit s c.args.depth weight_limit (kinds_of c.args.reader.now) alone.1) at_start))

pub else_part-returns-then-is_none-clause-value : goal.else_part-returns-then-is_none-clause-value
else_part-returns-then-is_none-clause-value t c =
    let alone = not_taken kind.Else c.args.reader.now c.take.result c.take.new.self c.take.ensures.value (sym c.if-is_none.ensures) in
    rw c.new.ensures (else_none (sym alone.0 ∙ c.in_ok-expect.ensures.value))

pub else_part-returns-then-is_none-clause-lands : goal.else_part-returns-then-is_none-clause-lands
else_part-returns-then-is_none-clause-lands t c =
    let alone = not_taken kind.Else c.args.reader.now c.take.result c.take.new.self c.take.ensures.value (sym c.if-is_none.ensures) in
    reads (and_close c.in_ok-expect.ensures.value
    (still alone.0 (instead [] (λ s. else_ends weight_limit s c.args.depth weight_limit (kinds_of c.args.reader.now) alone.1) at_start)))

pub else_part-returns-clause-value : goal.else_part-returns-clause-value
else_part-returns-clause-value t c =
    let begins = taken kind.Else c.args.reader.now c.take.result c.take.new.self c.take.ensures.value (sym c.if-is_none.ensures) in
    else_reads c.args.depth c.body.new.reader c.body.result begins.1 c.body.ensures.value

pub else_part-returns-clause-lands : goal.else_part-returns-clause-lands
else_part-returns-clause-lands t c =
    let begins = taken kind.Else c.args.reader.now c.take.result c.take.new.self c.take.ensures.value (sym c.if-is_none.ensures) in
    ends_with c.body.ensures.lands (and_taken (wants.statements ∷ []) begins.1 (λ s ks. refl) at_start)

-- ---- statements and `end`
pub body-returns-in_err-found-clause-lands : goal.body-returns-in_err-found-clause-lands
body-returns-in_err-found-clause-lands t c = fails _ c.in_err-found.ensures.lands c.from_residual.ensures.1 at_start

pub body-returns-in_err-expect-clause-lands : goal.body-returns-in_err-expect-clause-lands
body-returns-in_err-expect-clause-lands t c =
    no_close c.in_err-expect.ensures.value c.from_residual-in_err-expect.ensures.1 (and_then _ c.in_ok-found.ensures.lands at_start)

pub body-returns-clause-value : goal.body-returns-clause-value
body-returns-clause-value t c = record { line = c.in_ok-expect.field-0; reads = rw c.in_ok-expect.ensures.value at c.in_ok-found.ensures.value }

pub body-returns-clause-lands : goal.body-returns-clause-lands
body-returns-clause-lands t c = reads (and_close c.in_ok-expect.ensures.value (and_then _ c.in_ok-found.ensures.lands at_start))

-- ---- `for`
pub for_statement-returns-in_err-name-clause-lands : goal.for_statement-returns-in_err-name-clause-lands
for_statement-returns-in_err-name-clause-lands t c = fails _ (c.in_err-name.ensures.lands c.args.depth weight_limit) c.from_residual.ensures.1 at_start

pub for_statement-returns-in_err-first-clause-lands : goal.for_statement-returns-in_err-first-clause-lands
for_statement-returns-in_err-first-clause-lands t c =
    fails _ (c.in_err-first.ensures.lands c.args.depth weight_limit) c.from_residual-in_err-first.ensures.1
    (and_then _ (c.in_ok-name.ensures.lands c.args.depth weight_limit) at_start)

pub for_statement-returns-in_err-body-clause-lands : goal.for_statement-returns-in_err-body-clause-lands
for_statement-returns-in_err-body-clause-lands t c =
    fails _ c.in_err-body.ensures.lands c.from_residual-in_err-body.ensures.1
    (and_then _ (c.in_ok-first.ensures.lands c.args.depth weight_limit) (and_then _ (c.in_ok-name.ensures.lands c.args.depth weight_limit) at_start))

pub for_statement-returns-clause-value : goal.for_statement-returns-clause-value
for_statement-returns-clause-value t c =
    let bounds = c.in_ok-first.ensures.value in
    rw c.in_ok-name.ensures.value.reads (grammar.for_statement bounds.first.reads bounds.second.reads c.in_ok-body.ensures.value.reads)

pub for_statement-returns-clause-lands : goal.for_statement-returns-clause-lands
for_statement-returns-clause-lands t c =
    reads (and_then _ c.in_ok-body.ensures.lands
    (and_then _ (c.in_ok-first.ensures.lands c.args.depth weight_limit) (and_then _ (c.in_ok-name.ensures.lands c.args.depth weight_limit) at_start)))

-- ---- `while`
pub while_statement-returns-in_err-condition-clause-lands : goal.while_statement-returns-in_err-condition-clause-lands
while_statement-returns-in_err-condition-clause-lands t c =
    fails _ (c.in_err-condition.ensures.lands c.args.depth weight_limit) c.from_residual.ensures.1 at_start

pub while_statement-returns-in_err-limit-clause-lands : goal.while_statement-returns-in_err-limit-clause-lands
while_statement-returns-in_err-limit-clause-lands t c =
    fails _ (c.in_err-limit.ensures.lands c.args.depth weight_limit) c.from_residual-in_err-limit.ensures.1
    (and_then _ (c.in_ok-condition.ensures.lands c.args.depth weight_limit) at_start)

pub while_statement-returns-in_err-body-clause-lands : goal.while_statement-returns-in_err-body-clause-lands
while_statement-returns-in_err-body-clause-lands t c =
    fails _ c.in_err-body.ensures.lands c.from_residual-in_err-body.ensures.1
    (and_then _ (c.in_ok-limit.ensures.lands c.args.depth weight_limit) (and_then _ (c.in_ok-condition.ensures.lands c.args.depth weight_limit) at_start))

pub while_statement-returns-clause-value : goal.while_statement-returns-clause-value
while_statement-returns-clause-value t c =
    let fits : SFits w128 c.in_ok-limit.limit = search rules in
    rw (to_z-of_z w128 c.in_ok-limit.limit fits)
    (grammar.while_statement (rw c.in_ok-limit.ensures.value.reads.1 at c.in_ok-condition.ensures.value.reads) c.in_ok-body.ensures.value.reads)

pub while_statement-returns-clause-lands : goal.while_statement-returns-clause-lands
while_statement-returns-clause-lands t c =
    reads (and_then _ c.in_ok-body.ensures.lands
    (and_then _ (c.in_ok-limit.ensures.lands c.args.depth weight_limit) (and_then _ (c.in_ok-condition.ensures.lands c.args.depth weight_limit) at_start)))

-- ---- a statement, by its first token
nested : {depth : ℕ} {t : Terminal} {old behind new : List Terminal} {found : Statement} → 0 < depth → old ≡ t ∷ behind
    → ReadsStatement weight_limit (suc (depth - 1)) (t ∷ behind) found new → ReadsStatement weight_limit depth old found new
nested {depth = depth} {t = t} {behind = behind} {new = new} {found = found} some begins h =
    let same : suc (depth - 1) ≡ depth = omega (arith, some) in
    rw begins (subst (λ (n : ℕ). ReadsStatement weight_limit n (t ∷ behind) found new) same h)

pub statement-returns-in_err-print-clause-lands : goal.statement-returns-in_err-print-clause-lands
statement-returns-in_err-print-clause-lands t c =
    fails_next _ (c.in_err-print.ensures.lands c.args.depth _) c.from_residual.ensures.1
    (and_taken (wants.outermost ∷ wants.token kind.Semicolon ∷ wants.statements ∷ []) c.in-Some.ensures.value (λ s ks. refl) at_start)

pub statement-returns-in-Some-clause-value : goal.statement-returns-in-Some-clause-value
statement-returns-in-Some-clause-value t c = rw c.in-Some.ensures.value (c.in_ok-print.ensures.value c.args.depth)

pub statement-returns-in-Some-clause-lands : goal.statement-returns-in-Some-clause-lands
statement-returns-in-Some-clause-lands t c =
    reads_one (and_then _ (c.in_ok-print.ensures.lands c.args.depth _)
    (and_taken (wants.outermost ∷ wants.token kind.Semicolon ∷ wants.statements ∷ []) c.in-Some.ensures.value (λ s ks. refl) at_start))

pub statement-returns-in_err-read-clause-lands : goal.statement-returns-in_err-read-clause-lands
statement-returns-in_err-read-clause-lands t c =
    fails_next _ (c.in_err-read.ensures.lands c.args.depth _) c.from_residual-in_err-read.ensures.1
    (and_taken (wants.token kind.Name ∷ wants.place_tail ∷ wants.token kind.Semicolon ∷ wants.statements ∷ []) c.in-Some-take.ensures.value (λ s ks. refl)
    (still c.in_default.ensures.value.0 at_start))

pub statement-returns-in-Some-take-clause-value : goal.statement-returns-in-Some-take-clause-value
statement-returns-in-Some-take-clause-value t c =
    rw (← c.in_default.ensures.value.0, c.in-Some-take.ensures.value) (c.in_ok-read.ensures.value c.args.depth)

pub statement-returns-in-Some-take-clause-lands : goal.statement-returns-in-Some-take-clause-lands
statement-returns-in-Some-take-clause-lands t c =
    reads_one (and_then _ (c.in_ok-read.ensures.lands c.args.depth _)
    (and_taken (wants.token kind.Name ∷ wants.place_tail ∷ wants.token kind.Semicolon ∷ wants.statements ∷ []) c.in-Some-take.ensures.value (λ s ks. refl)
    (still c.in_default.ensures.value.0 at_start)))

pub statement-returns-in_err-line-clause-lands : goal.statement-returns-in_err-line-clause-lands
statement-returns-in_err-line-clause-lands t c =
    let unread = c.in_default-take.ensures.value.0 ∙ c.in_default.ensures.value.0 in
    block_too_deep c.in_err-line.ensures.value (λ s ks. refl) c.from_residual-in_err-line.ensures.1 (unread)

pub statement-returns-in_err-if_statement-clause-lands : goal.statement-returns-in_err-if_statement-clause-lands
statement-returns-in_err-if_statement-clause-lands t c =
    let unread = c.in_default-take.ensures.value.0 ∙ c.in_default.ensures.value.0 in
    let opens = rw c.in-Some-2.is at c.in_ok-line.ensures.value in
    fails_next _ c.in_err-if_statement.ensures.lands c.from_residual-in_err-if_statement.ensures.1
    (and_opening (wants.if_wanted ++ wants.statements ∷ []) opens.0 opens.1 (λ s ks n. refl) (still (unread) at_start))

pub statement-returns-in-Some-2-clause-value : goal.statement-returns-in-Some-2-clause-value
statement-returns-in-Some-2-clause-value t c =
    let unread = c.in_default-take.ensures.value.0 ∙ c.in_default.ensures.value.0 in
    let opens = rw c.in-Some-2.is at c.in_ok-line.ensures.value in
    nested opens.1 (sym (unread) ∙ opens.0) c.in_ok-if_statement.ensures.value

pub statement-returns-in-Some-2-clause-lands : goal.statement-returns-in-Some-2-clause-lands
statement-returns-in-Some-2-clause-lands t c =
    let unread = c.in_default-take.ensures.value.0 ∙ c.in_default.ensures.value.0 in
    let opens = rw c.in-Some-2.is at c.in_ok-line.ensures.value in
    block_read opens.1 (and_then _ c.in_ok-if_statement.ensures.lands
    (and_opening (wants.if_wanted ++ wants.statements ∷ []) opens.0 opens.1 (λ s ks n. refl) (still (unread) at_start)))

pub statement-returns-in_err-line-2-clause-lands : goal.statement-returns-in_err-line-2-clause-lands
statement-returns-in_err-line-2-clause-lands t c =
    let unread = c.in_default-take.ensures.value.0 ∙ c.in_default.ensures.value.0 in
    let no_if = within_not_taken kind.If c.args.depth c.take-2.new.self c.in_ok-line.field-0 c.take_within.new.self c.in_ok-line.ensures.value c.in_default-2.is in
    block_too_deep c.in_err-line-2.ensures.value (λ s ks. refl) c.from_residual-in_err-line-2.ensures.1 (no_if.0 ∙ unread)

pub statement-returns-in_err-for_statement-clause-lands : goal.statement-returns-in_err-for_statement-clause-lands
statement-returns-in_err-for_statement-clause-lands t c =
    let unread = c.in_default-take.ensures.value.0 ∙ c.in_default.ensures.value.0 in
    let no_if = within_not_taken kind.If c.args.depth c.take-2.new.self c.in_ok-line.field-0 c.take_within.new.self c.in_ok-line.ensures.value c.in_default-2.is in
    let opens = rw c.in-Some-3.is at c.in_ok-line-2.ensures.value in
    fails_next _ c.in_err-for_statement.ensures.lands c.from_residual-in_err-for_statement.ensures.1
    (and_opening (wants.for_wanted ++ wants.statements ∷ []) opens.0 opens.1 (λ s ks n. refl) (still (no_if.0 ∙ unread) at_start))

pub statement-returns-in-Some-3-clause-value : goal.statement-returns-in-Some-3-clause-value
statement-returns-in-Some-3-clause-value t c =
    let unread = c.in_default-take.ensures.value.0 ∙ c.in_default.ensures.value.0 in
    let no_if = within_not_taken kind.If c.args.depth c.take-2.new.self c.in_ok-line.field-0 c.take_within.new.self c.in_ok-line.ensures.value c.in_default-2.is in
    let opens = rw c.in-Some-3.is at c.in_ok-line-2.ensures.value in
    nested opens.1 (sym (no_if.0 ∙ unread) ∙ opens.0) c.in_ok-for_statement.ensures.value

pub statement-returns-in-Some-3-clause-lands : goal.statement-returns-in-Some-3-clause-lands
statement-returns-in-Some-3-clause-lands t c =
    let unread = c.in_default-take.ensures.value.0 ∙ c.in_default.ensures.value.0 in
    let no_if = within_not_taken kind.If c.args.depth c.take-2.new.self c.in_ok-line.field-0 c.take_within.new.self c.in_ok-line.ensures.value c.in_default-2.is in
    let opens = rw c.in-Some-3.is at c.in_ok-line-2.ensures.value in
    block_read opens.1 (and_then _ c.in_ok-for_statement.ensures.lands
    (and_opening (wants.for_wanted ++ wants.statements ∷ []) opens.0 opens.1 (λ s ks n. refl) (still (no_if.0 ∙ unread) at_start)))

pub statement-returns-in_err-line-3-clause-lands : goal.statement-returns-in_err-line-3-clause-lands
statement-returns-in_err-line-3-clause-lands t c =
    let unread = c.in_default-take.ensures.value.0 ∙ c.in_default.ensures.value.0 in
    let no_if = within_not_taken kind.If c.args.depth c.take-2.new.self c.in_ok-line.field-0 c.take_within.new.self c.in_ok-line.ensures.value c.in_default-2.is in
    let no_for = within_not_taken kind.For c.args.depth c.take_within.new.self c.in_ok-line-2.field-0 c.take_within-2.new.self c.in_ok-line-2.ensures.value c.in_default-3.is in
    block_too_deep c.in_err-line-3.ensures.value (λ s ks. refl) c.from_residual-in_err-line-3.ensures.1 (no_for.0 ∙ no_if.0 ∙ unread)

pub statement-returns-in_err-while_statement-clause-lands : goal.statement-returns-in_err-while_statement-clause-lands
statement-returns-in_err-while_statement-clause-lands t c =
    let unread = c.in_default-take.ensures.value.0 ∙ c.in_default.ensures.value.0 in
    let no_if = within_not_taken kind.If c.args.depth c.take-2.new.self c.in_ok-line.field-0 c.take_within.new.self c.in_ok-line.ensures.value c.in_default-2.is in
    let no_for = within_not_taken kind.For c.args.depth c.take_within.new.self c.in_ok-line-2.field-0 c.take_within-2.new.self c.in_ok-line-2.ensures.value c.in_default-3.is in
    let opens = rw c.in-Some-4.is at c.in_ok-line-3.ensures.value in
    fails_next _ c.in_err-while_statement.ensures.lands c.from_residual-in_err-while_statement.ensures.1
    (and_opening (wants.while_wanted ++ wants.statements ∷ []) opens.0 opens.1 (λ s ks n. refl) (still (no_for.0 ∙ no_if.0 ∙ unread) at_start))

pub statement-returns-in-Some-4-clause-value : goal.statement-returns-in-Some-4-clause-value
statement-returns-in-Some-4-clause-value t c =
    let unread = c.in_default-take.ensures.value.0 ∙ c.in_default.ensures.value.0 in
    let no_if = within_not_taken kind.If c.args.depth c.take-2.new.self c.in_ok-line.field-0 c.take_within.new.self c.in_ok-line.ensures.value c.in_default-2.is in
    let no_for = within_not_taken kind.For c.args.depth c.take_within.new.self c.in_ok-line-2.field-0 c.take_within-2.new.self c.in_ok-line-2.ensures.value c.in_default-3.is in
    let opens = rw c.in-Some-4.is at c.in_ok-line-3.ensures.value in
    nested opens.1 (sym (no_for.0 ∙ no_if.0 ∙ unread) ∙ opens.0) c.in_ok-while_statement.ensures.value

pub statement-returns-in-Some-4-clause-lands : goal.statement-returns-in-Some-4-clause-lands
statement-returns-in-Some-4-clause-lands t c =
    let unread = c.in_default-take.ensures.value.0 ∙ c.in_default.ensures.value.0 in
    let no_if = within_not_taken kind.If c.args.depth c.take-2.new.self c.in_ok-line.field-0 c.take_within.new.self c.in_ok-line.ensures.value c.in_default-2.is in
    let no_for = within_not_taken kind.For c.args.depth c.take_within.new.self c.in_ok-line-2.field-0 c.take_within-2.new.self c.in_ok-line-2.ensures.value c.in_default-3.is in
    let opens = rw c.in-Some-4.is at c.in_ok-line-3.ensures.value in
    block_read opens.1 (and_then _ c.in_ok-while_statement.ensures.lands
    (and_opening (wants.while_wanted ++ wants.statements ∷ []) opens.0 opens.1 (λ s ks n. refl) (still (no_for.0 ∙ no_if.0 ∙ unread) at_start)))

pub statement-returns-in_err-name-clause-lands : goal.statement-returns-in_err-name-clause-lands
statement-returns-in_err-name-clause-lands t c = no_memory_next c.from_residual-in_err-name.ensures.1

pub statement-returns-in_err-assignment_or_call-in-Some-5-clause-lands : goal.statement-returns-in_err-assignment_or_call-in-Some-5-clause-lands
statement-returns-in_err-assignment_or_call-in-Some-5-clause-lands t c =
    let unread = c.in_default-take.ensures.value.0 ∙ c.in_default.ensures.value.0 in
    let no_if = within_not_taken kind.If c.args.depth c.take-2.new.self c.in_ok-line.field-0 c.take_within.new.self c.in_ok-line.ensures.value c.in_default-2.is in
    let no_for = within_not_taken kind.For c.args.depth c.take_within.new.self c.in_ok-line-2.field-0 c.take_within-2.new.self c.in_ok-line-2.ensures.value c.in_default-3.is in
    let no_while = within_not_taken kind.While c.args.depth c.take_within-2.new.self c.in_ok-line-3.field-0 c.take_within-3.new.self c.in_ok-line-3.ensures.value c.in_default-4.is in
    let stands = identifier_taken c.take_within-3.new.self c.in_ok-name.field-0 c.take_name.new.self c.in-Some-5.name c.in_ok-name.ensures.value c.in-Some-5.is in
    fails_next _ (c.in_err-assignment_or_call-in-Some-5.ensures.lands c.args.depth _) c.from_residual-in_err-assignment_or_call-in-Some-5.ensures.1
    (and_taken (wants.after_name ∷ wants.statements ∷ []) stands (λ s ks. refl) (still (no_while.0 ∙ no_for.0 ∙ no_if.0 ∙ unread) at_start))

pub statement-returns-in_ok-assignment_or_call-in-Some-5-clause-value : goal.statement-returns-in_ok-assignment_or_call-in-Some-5-clause-value
statement-returns-in_ok-assignment_or_call-in-Some-5-clause-value t c =
    let unread = c.in_default-take.ensures.value.0 ∙ c.in_default.ensures.value.0 in
    let no_if = within_not_taken kind.If c.args.depth c.take-2.new.self c.in_ok-line.field-0 c.take_within.new.self c.in_ok-line.ensures.value c.in_default-2.is in
    let no_for = within_not_taken kind.For c.args.depth c.take_within.new.self c.in_ok-line-2.field-0 c.take_within-2.new.self c.in_ok-line-2.ensures.value c.in_default-3.is in
    let no_while = within_not_taken kind.While c.args.depth c.take_within-2.new.self c.in_ok-line-3.field-0 c.take_within-3.new.self c.in_ok-line-3.ensures.value c.in_default-4.is in
    let stands = identifier_taken c.take_within-3.new.self c.in_ok-name.field-0 c.take_name.new.self c.in-Some-5.name c.in_ok-name.ensures.value c.in-Some-5.is in
    subst (λ (ts : List Terminal). ReadsStatement weight_limit c.args.depth ts c.in_ok-assignment_or_call-in-Some-5.field-0 c.assignment_or_call.new.reader) (sym stands ∙ no_while.0 ∙ no_for.0 ∙ no_if.0 ∙ unread) (c.in_ok-assignment_or_call-in-Some-5.ensures.value c.args.depth)

pub statement-returns-in_ok-assignment_or_call-in-Some-5-clause-lands : goal.statement-returns-in_ok-assignment_or_call-in-Some-5-clause-lands
statement-returns-in_ok-assignment_or_call-in-Some-5-clause-lands t c =
    let unread = c.in_default-take.ensures.value.0 ∙ c.in_default.ensures.value.0 in
    let no_if = within_not_taken kind.If c.args.depth c.take-2.new.self c.in_ok-line.field-0 c.take_within.new.self c.in_ok-line.ensures.value c.in_default-2.is in
    let no_for = within_not_taken kind.For c.args.depth c.take_within.new.self c.in_ok-line-2.field-0 c.take_within-2.new.self c.in_ok-line-2.ensures.value c.in_default-3.is in
    let no_while = within_not_taken kind.While c.args.depth c.take_within-2.new.self c.in_ok-line-3.field-0 c.take_within-3.new.self c.in_ok-line-3.ensures.value c.in_default-4.is in
    let stands = identifier_taken c.take_within-3.new.self c.in_ok-name.field-0 c.take_name.new.self c.in-Some-5.name c.in_ok-name.ensures.value c.in-Some-5.is in
    reads_one (and_then _ (c.in_ok-assignment_or_call-in-Some-5.ensures.lands c.args.depth _)
    (and_taken (wants.after_name ∷ wants.statements ∷ []) stands (λ s ks. refl) (still (no_while.0 ∙ no_for.0 ∙ no_if.0 ∙ unread) at_start)))

-- none begins where none of their first tokens stands
none_begins : {depth : ℕ} {a b c e f g h : List Terminal} → b ≡ a → c ≡ b → e ≡ c → f ≡ e → g ≡ f → h ≡ g
    → NotKind kind.Print (kinds_of a) → NotKind kind.Read (kinds_of b) → NotKind kind.If (kinds_of c) → NotKind kind.For (kinds_of e) → NotKind kind.While (kinds_of f) → NotKind kind.Name (kinds_of g)
    → Leads (wants.statements ∷ []) a depth weight_limit [] h depth weight_limit
none_begins {depth} {a} p q r t u v no_print no_read no_if no_for no_while no_name =
    let at_a = λ (k : TokenKind) (ts : List Terminal) (same : ts ≡ a) (not : NotKind k (kinds_of ts)). subst (λ (xs : List Terminal). NotKind k (kinds_of xs)) same not in
    still (v ∙ u ∙ t ∙ r ∙ q ∙ p) (instead [] (λ s. statements_end weight_limit s depth weight_limit (kinds_of a)
    no_print (at_a kind.Read _ p no_read) (at_a kind.If _ (q ∙ p) no_if) (at_a kind.For _ (r ∙ q ∙ p) no_for) (at_a kind.While _ (t ∙ r ∙ q ∙ p) no_while)
    (at_a kind.Name _ (u ∙ t ∙ r ∙ q ∙ p) no_name)) at_start)

pub statement-returns-in-None-clause-value : goal.statement-returns-in-None-clause-value
statement-returns-in-None-clause-value t c =
    let unread = c.in_default-take.ensures.value.0 ∙ c.in_default.ensures.value.0 in
    let no_if = within_not_taken kind.If c.args.depth c.take-2.new.self c.in_ok-line.field-0 c.take_within.new.self c.in_ok-line.ensures.value c.in_default-2.is in
    let no_for = within_not_taken kind.For c.args.depth c.take_within.new.self c.in_ok-line-2.field-0 c.take_within-2.new.self c.in_ok-line-2.ensures.value c.in_default-3.is in
    let no_while = within_not_taken kind.While c.args.depth c.take_within-2.new.self c.in_ok-line-3.field-0 c.take_within-3.new.self c.in_ok-line-3.ensures.value c.in_default-4.is in
    let no_name = rw c.in-None.is at c.in_ok-name.ensures.value in
    no_name.0 ∙ no_while.0 ∙ no_for.0 ∙ no_if.0 ∙ unread

pub statement-returns-in-None-clause-lands : goal.statement-returns-in-None-clause-lands
statement-returns-in-None-clause-lands t c =
    let no_if = within_not_taken kind.If c.args.depth c.take-2.new.self c.in_ok-line.field-0 c.take_within.new.self c.in_ok-line.ensures.value c.in_default-2.is in
    let no_for = within_not_taken kind.For c.args.depth c.take_within.new.self c.in_ok-line-2.field-0 c.take_within-2.new.self c.in_ok-line-2.ensures.value c.in_default-3.is in
    let no_while = within_not_taken kind.While c.args.depth c.take_within-2.new.self c.in_ok-line-3.field-0 c.take_within-3.new.self c.in_ok-line-3.ensures.value c.in_default-4.is in
    let no_name = rw c.in-None.is at c.in_ok-name.ensures.value in
    reads_none (none_begins c.in_default.ensures.value.0 c.in_default-take.ensures.value.0 no_if.0 no_for.0 no_while.0 no_name.0
    c.in_default.ensures.value.1 c.in_default-take.ensures.value.1 no_if.1 no_for.1 no_while.1 no_name.1)

-- ---- the loop
pub statements-loop-found-init : goal.statements-loop-found-init
statements-loop-found-init t c = rw c.new-found.ensures (list_starts, at_start)

pub statements-returns-in_err-next-clause-lands : goal.statements-returns-in_err-next-clause-lands
statements-returns-in_err-next-clause-lands t c = fails_in c.in_err-next.ensures.lands c.from_residual.ensures.1 c.loop-found.invariant.1

pub statements-returns-in_err-push-clause-lands : goal.statements-returns-in_err-push-clause-lands
statements-returns-in_err-push-clause-lands t c = no_memory_for c.from_residual-in_err-push.ensures.1

pub statements-loop-found-preserved : goal.statements-loop-found-preserved
statements-loop-found-preserved t c =
    let one = rw c.in-Some.is at c.in_ok-next.ensures.value in
    let less = rw c.in-Some.is at c.in_ok-next.ensures.shorter in (
      rw c.in_ok-push.ensures.ok (list_grows c.in-Some.next (λ more rest h. grammar.statements one h) less c.loop-found.invariant.0),
      and_again (rw c.in-Some.is at c.in_ok-next.ensures.lands) c.loop-found.invariant.1,
    )

pub statements-returns-clause-value : goal.statements-returns-clause-value
statements-returns-clause-value t c =
    let none = rw c.in_default.is at c.in_ok-next.ensures.value in
    rw none (list_ends grammar.no_statement c.loop-found.invariant.0)

pub statements-returns-clause-lands : goal.statements-returns-clause-lands
statements-returns-clause-lands t c = reads (and_no_more (rw c.in_default.is at c.in_ok-next.ensures.lands) c.loop-found.invariant.1)
