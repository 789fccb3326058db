use Rattle.std.proofs.Common.{◌≡◌, ℕ, ℤ, List, [], ◌∷◌, ◌++◌, rules}
use Rattle.std.specs.Int.{w128}
use Rattle.std.proofs.lemmas.Int.{to_z-of_z}
use mir.Val.{SFits}
use Rattle.source_lexer.specs.declared.token.TokenKind.TheVariants as kind
use Rattle.source_tree.specs.declared.name.Name.{Name}
use Rattle.source_parser.specs.Limits.{weight_limit}
use Rattle.source_parser.specs.Terminals.{Terminal, identifier, literal, fixed}
use Rattle.source_parser.specs.Grammar as grammar
use Rattle.source_parser.specs.Landings.{Leads, reads}
use Rattle.source_parser.specs.Wants.{array_wanted, range_wanted, token}
use Rattle.source_parser.proofs.Moves.{at_start, and_then, fails}
use Rattle.source_parser.proofs.TokenMoves.{and_name, and_number, and_token, no_name, no_token}
use Rattle.source_parser.proofs.declaration.array.Goals as goal

-- `name[length]:`, and the range is wanted
before_range : {old opened numbered closed parted new : List Terminal} {x : Name} {len : ℤ} {l m n o d w : ℕ}
    → old ≡ identifier x ∷ opened → opened ≡ fixed kind.LeftBracket l ∷ numbered → numbered ≡ literal len m ∷ closed → closed ≡ fixed kind.RightBracket n ∷ parted
    → parted ≡ fixed kind.Colon o ∷ new → Leads array_wanted old d w (range_wanted ++ token kind.Semicolon ∷ []) new d weight_limit
before_range name bracket number close colon = and_token colon (and_token close (and_number number (and_token bracket (and_name name at_start))))

pub returns-in_err-name-clause-lands : goal.returns-in_err-name-clause-lands
returns-in_err-name-clause-lands c = λ d w. no_name c.in_err-name.field-0.0 c.in_err-name.ensures.value c.from_residual.ensures.1 at_start

pub returns-in_err-expect-clause-lands : goal.returns-in_err-expect-clause-lands
returns-in_err-expect-clause-lands c = λ d w.
    no_token c.in_err-expect.ensures.value c.from_residual-in_err-expect.ensures.1 (and_name c.in_ok-name.ensures.value at_start)

pub returns-in_err-length-clause-lands : goal.returns-in_err-length-clause-lands
returns-in_err-length-clause-lands c = λ d w.
    no_token c.in_err-length.ensures.value c.from_residual-in_err-length.ensures.1 (and_token c.in_ok-expect.ensures.value (and_name c.in_ok-name.ensures.value at_start))

pub returns-in_err-expect-2-clause-lands : goal.returns-in_err-expect-2-clause-lands
returns-in_err-expect-2-clause-lands c = λ d w.
    no_token c.in_err-expect-2.ensures.value c.from_residual-in_err-expect-2.ensures.1
    (and_number c.in_ok-length.ensures.value.1 (and_token c.in_ok-expect.ensures.value (and_name c.in_ok-name.ensures.value at_start)))

pub returns-in_err-expect-3-clause-lands : goal.returns-in_err-expect-3-clause-lands
returns-in_err-expect-3-clause-lands c = λ d w.
    no_token c.in_err-expect-3.ensures.value c.from_residual-in_err-expect-3.ensures.1
    (and_token c.in_ok-expect-2.ensures.value (and_number c.in_ok-length.ensures.value.1 (and_token c.in_ok-expect.ensures.value (and_name c.in_ok-name.ensures.value at_start))))

pub returns-in_err-range-clause-lands : goal.returns-in_err-range-clause-lands
returns-in_err-range-clause-lands c = λ d w.
    fails _ (c.in_err-range.ensures.lands d _) c.from_residual-in_err-range.ensures.1
    (before_range c.in_ok-name.ensures.value c.in_ok-expect.ensures.value c.in_ok-length.ensures.value.1 c.in_ok-expect-2.ensures.value c.in_ok-expect-3.ensures.value)

pub returns-in_err-expect-4-clause-lands : goal.returns-in_err-expect-4-clause-lands
returns-in_err-expect-4-clause-lands c = λ d w.
    no_token c.in_err-expect-4.ensures.value c.from_residual-in_err-expect-4.ensures.1
    (and_then _ (c.in_ok-range.ensures.lands d _)
    (before_range c.in_ok-name.ensures.value c.in_ok-expect.ensures.value c.in_ok-length.ensures.value.1 c.in_ok-expect-2.ensures.value c.in_ok-expect-3.ensures.value))

pub returns-clause-value : goal.returns-clause-value
returns-clause-value c =
    let len = c.in_ok-length.length in
    let fits : SFits w128 len = search rules in
    rw (to_z-of_z w128 len fits, c.in_ok-name.ensures.value, c.in_ok-expect.ensures.value, c.in_ok-length.ensures.value.1, c.in_ok-expect-2.ensures.value, c.in_ok-expect-3.ensures.value)
    (grammar.array (rw c.in_ok-expect-4.ensures.value at c.in_ok-range.ensures.value))

pub returns-clause-lands : goal.returns-clause-lands
returns-clause-lands c = λ d w.
    reads (and_token c.in_ok-expect-4.ensures.value (and_then _ (c.in_ok-range.ensures.lands d _)
    (before_range c.in_ok-name.ensures.value c.in_ok-expect.ensures.value c.in_ok-length.ensures.value.1 c.in_ok-expect-2.ensures.value c.in_ok-expect-3.ensures.value)))
