use Rattle.std.proofs.Common.{◌≡◌, [], ◌∷◌, List, length, refl, arith}
use Rattle.source_parser.specs.Terminals.{Terminal}
use Rattle.source_parser.proofs.Moves.{at_start, and_then, fault_of, left_over}
use Rattle.source_parser.proofs.program.program.Goals as goal

none_left : (terminals : List Terminal) → length terminals ≡ 0 → terminals ≡ []
none_left [] h = refl
none_left (t ∷ terminals) h = absurd cc

pub returns-in_err-declarations-clause-fault : goal.returns-in_err-declarations-clause-fault
returns-in_err-declarations-clause-fault c = fault_of _ c.from_residual.result c.in_err-declarations.ensures.lands c.from_residual.ensures.1 at_start

pub returns-in_err-statements-clause-fault : goal.returns-in_err-statements-clause-fault
returns-in_err-statements-clause-fault c =
    fault_of _ c.from_residual-in_err-statements.result c.in_err-statements.ensures.lands c.from_residual-in_err-statements.ensures.1 (and_then _ c.in_ok-declarations.ensures.lands at_start)

pub returns-then-len-gt0-clause-fault : goal.returns-then-len-gt0-clause-fault
returns-then-len-gt0-clause-fault c =
    left_over (λ none. let some = c.if-len-gt0.true in let len = c.len.ensures in omega (arith, none, some, len))
    (and_then _ c.in_ok-statements.ensures.lands (and_then _ c.in_ok-declarations.ensures.lands at_start))

pub returns-clause-value : goal.returns-clause-value
returns-clause-value c =
    let none = c.if-len-gt0.false in
    let len = c.len.ensures in
    let empty = none_left c.statements.new.reader (omega (arith, none, len)) in
    record { behind = c.declarations.new.reader; declarations = c.in_ok-declarations.ensures.value; statements = rw empty at c.in_ok-statements.ensures.value }
