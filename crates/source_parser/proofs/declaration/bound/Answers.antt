use Rattle.std.proofs.Common.{◌≡◌, ℕ, ℤ, pos, neg_ℤ, ◌-ℤ◌, ◌≤ℤ◌, to_z, of_z, arith, rules, refl, sym, List, ◌∷◌, [], Result, Ok, Err}
use Rattle.std.specs.Prelude.{IfOk}
use Rattle.std.specs.Int.{w128}
use Rattle.std.proofs.lemmas.Int.{to_z-of_z, ints}
use mir.Val.{SFits}
use Rattle.source_lexer.specs.declared.token.TokenKind.TheVariants as kind
use Rattle.source_parser.specs.declared.fault.Fault.{Fault}
use Rattle.source_parser.specs.Limits.{weight_limit}
use Rattle.source_parser.specs.Terminals.{Terminal, literal, fixed, kinds_of}
use Rattle.source_parser.specs.Grammar as grammar
use Rattle.source_parser.specs.Grammar.{ReadsBound}
use Rattle.source_parser.specs.Landings.{reads}
use Rattle.source_parser.specs.Taking.{ExpectsLiteral}
use Rattle.source_parser.specs.Wants as wants
use Rattle.source_parser.proofs.Moves.{at_start, ends_with}
use Rattle.source_parser.proofs.Runs.{unsigned}
use Rattle.source_parser.proofs.Taken.{taken, not_taken}
use Rattle.source_parser.proofs.TokenMoves.{and_taken, and_number, instead, still, no_token, number_lands}
use Rattle.source_parser.proofs.declaration.bound.Goals as goal

-- a number that is made negative, as an i128
negated : (value : ℤ) → SFits w128 value → pos 0 ≤ℤ value → to_z w128 (of_z w128 (pos 0 -ℤ to_z w128 (of_z w128 value))) ≡ neg_ℤ value
negated value fits positive =
    let negative : pos 0 -ℤ value ≡ neg_ℤ value = omega (arith, ints) in
    let fits_too : SFits w128 (neg_ℤ value) = search rules in
    rw (to_z-of_z w128 value fits, negative) (to_z-of_z w128 (neg_ℤ value) fits_too)

unsigned_reads : (old new : List Terminal) (result : Result ℤ Fault) → ExpectsLiteral old result new → IfOk result (λ value. ReadsBound old value new)
unsigned_reads old new (Ok value) expects = rw expects.1 grammar.unsigned
unsigned_reads old new (Err fault) expects = tt

signed_reads : {old now new : List Terminal} {line l : ℕ} {value : ℤ} → old ≡ fixed kind.Minus line ∷ now → now ≡ literal value l ∷ new → ReadsBound old (neg_ℤ value) new
signed_reads minus number = rw (minus, number) grammar.signed

pub returns-then-is_none-clause-value : goal.returns-then-is_none-clause-value
returns-then-is_none-clause-value c =
    let none = not_taken kind.Minus c.args.reader.now c.take.result c.take.new.self c.take.ensures.value (sym c.if-is_none.ensures) in
    unsigned_reads c.args.reader.now c.expect_number.new.self c.expect_number.result (rw none.0 at c.expect_number.ensures.value)

pub returns-then-is_none-clause-lands : goal.returns-then-is_none-clause-lands
returns-then-is_none-clause-lands c = λ d w.
    let none = not_taken kind.Minus c.args.reader.now c.take.result c.take.new.self c.take.ensures.value (sym c.if-is_none.ensures) in
    ends_with (number_lands c.expect_number.result c.expect_number.ensures.value)
    (still none.0 (instead (wants.token kind.Number ∷ []) (λ s. unsigned weight_limit s d w (kinds_of c.args.reader.now) none.1) at_start))

pub returns-in_err-value-clause-lands : goal.returns-in_err-value-clause-lands
returns-in_err-value-clause-lands c = λ d w.
    let minus = taken kind.Minus c.args.reader.now c.take.result c.take.new.self c.take.ensures.value (sym c.if-is_none.ensures) in
    no_token c.in_err-value.ensures.value c.from_residual.ensures.1 (and_taken (wants.token kind.Number ∷ []) minus.1 (λ s ks. refl) at_start)

pub returns-clause-value : goal.returns-clause-value
returns-clause-value c =
    let minus = taken kind.Minus c.args.reader.now c.take.result c.take.new.self c.take.ensures.value (sym c.if-is_none.ensures) in
    let fits : SFits w128 c.in_ok-value.value = search rules in
    rw (negated c.in_ok-value.value fits c.in_ok-value.ensures.sign) (signed_reads minus.1 c.in_ok-value.ensures.value.1)

pub returns-clause-lands : goal.returns-clause-lands
returns-clause-lands c = λ d w.
    let minus = taken kind.Minus c.args.reader.now c.take.result c.take.new.self c.take.ensures.value (sym c.if-is_none.ensures) in
    reads (and_number c.in_ok-value.ensures.value.1 (and_taken (wants.token kind.Number ∷ []) minus.1 (λ s ks. refl) at_start))
