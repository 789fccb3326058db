-- How many names a tree declares: each is a token of its own.
use Rattle.std.proofs.Common.{ℕ, ◌+◌, ◌<◌, ◌≤◌, List, [], ◌∷◌, length, arith}
use Rattle.std.specs.Prelude.{ℤ}
use Rattle.std.specs.List.{sum_by}
use Rattle.std.proofs.lemmas.List.{length-map}
use Rattle.std.proofs.lemmas.List.Sums.{sum_by-cons}
use Rattle.source_lexer.specs.declared.token.Token.{Token}
use Rattle.source_lexer.specs.Scan.{ScanEnd, ScansFrom, Scans}
use Rattle.source_tree.specs.Scope.{names_in}
use Rattle.source_tree.specs.Numbers.{program_names}
use Rattle.source_tree.specs.declared.name.Range.{Range}
use Rattle.source_tree.specs.declared.expression.Expr.{Expr}
use Rattle.source_tree.specs.declared.expression.Condition.{Condition}
use Rattle.source_tree.specs.declared.statement.Place.{Place}
use Rattle.source_tree.specs.declared.statement.Statement.{Statement}
use Rattle.source_tree.specs.declared.declaration.Param.{Param}
use Rattle.source_tree.specs.declared.declaration.Local.{Local}
use Rattle.source_tree.specs.declared.declaration.Declaration.{Declaration}
use Rattle.source_tree.specs.declared.declaration.Program.{Program}
use Rattle.source_parser.specs.Terminals.{Terminal, terminal_of, terminals_of}
use Rattle.source_parser.specs.Grammar as grammar
use Rattle.source_parser.specs.Grammar.{Level, ReadsExpr, ReadsCondition, ReadsPlace, ReadsOutermost, ReadsAll, ReadsCommas, ReadsListed, ReadsStatement, ReadsStatements, ReadsElse, ReadsBound, ReadsRange, ReadsParam, ReadsLocal, ReadsDeclaration, ReadsProgram}

-- ---- what is read is no longer than what was there
expr_shorter : {level : Level} {terminals rest : List Terminal} {e : Expr} → ReadsExpr level terminals e rest → length rest < length terminals
expr_shorter grammar.number = omega arith
expr_shorter grammar.name = omega arith
expr_shorter (grammar.element r) = omega (arith, expr_shorter r)
expr_shorter (grammar.negated r) = omega (arith, expr_shorter r)
expr_shorter (grammar.bracketed r) = omega (arith, expr_shorter r)
expr_shorter (grammar.one_factor r) = expr_shorter r
expr_shorter (grammar.multiplied l joins r) = omega (arith, expr_shorter l, expr_shorter r)
expr_shorter (grammar.one_term r) = expr_shorter r
expr_shorter (grammar.added l joins r) = omega (arith, expr_shorter l, expr_shorter r)

condition_shorter : {width : ℕ} {terminals rest : List Terminal} {found : Condition} → ReadsCondition width terminals found rest → length rest < length terminals
condition_shorter (grammar.condition l compares r) = omega (arith, expr_shorter l.reads, expr_shorter r.reads)

place_shorter : {width : ℕ} {terminals rest : List Terminal} {found : Place} → ReadsPlace width terminals found rest → length rest < length terminals
place_shorter grammar.variable = omega arith
place_shorter (grammar.element_of r) = omega (arith, expr_shorter r.reads)

arguments_shorter : {width : ℕ} {terminals rest : List Terminal} {all : List Expr} → ReadsCommas (ReadsOutermost width) terminals all rest
    → length rest < length terminals
arguments_shorter (grammar.last r) = omega (arith, expr_shorter r.reads)
arguments_shorter (grammar.comma r more) = omega (arith, expr_shorter r.reads, arguments_shorter more)

listed_shorter : {width : ℕ} {terminals rest : List Terminal} {all : List Expr} → ReadsListed (ReadsOutermost width) terminals all rest
    → length rest < length terminals
listed_shorter grammar.nothing = omega arith
listed_shorter (grammar.things r) = arguments_shorter r

mutual
  statement_shorter : {width depth : ℕ} {terminals rest : List Terminal} {found : Statement} → ReadsStatement width depth terminals found rest
      → length rest < length terminals
  statement_shorter (grammar.assign p r) = omega (arith, place_shorter p, expr_shorter r.reads)
  statement_shorter (grammar.print r) = omega (arith, expr_shorter r.reads)
  statement_shorter (grammar.read p) = omega (arith, place_shorter p)
  statement_shorter (grammar.if_statement c r s) = omega (arith, condition_shorter c, statements_shorter r, else_shorter s)
  statement_shorter (grammar.for_statement l r s) = omega (arith, expr_shorter l.reads, expr_shorter r.reads, statements_shorter s)
  statement_shorter (grammar.while_statement c s) = omega (arith, condition_shorter c, statements_shorter s)
  statement_shorter (grammar.call r) = omega (arith, listed_shorter r)

  statements_shorter : {width depth : ℕ} {terminals rest : List Terminal} {found : List Statement} → ReadsStatements width depth terminals found rest
      → length rest ≤ length terminals
  statements_shorter grammar.no_statement = omega arith
  statements_shorter (grammar.statements r s) = omega (arith, statement_shorter r, statements_shorter s)

  else_shorter : {width depth : ℕ} {terminals rest : List Terminal} {found : List Statement} → ReadsElse width depth terminals found rest
      → length rest ≤ length terminals
  else_shorter grammar.no_else = omega arith
  else_shorter (grammar.other r) = omega (arith, statements_shorter r)

bound_shorter : {terminals rest : List Terminal} {value : ℤ} → ReadsBound terminals value rest → length rest < length terminals
bound_shorter grammar.unsigned = omega arith
bound_shorter grammar.signed = omega arith

range_shorter : {terminals rest : List Terminal} {found : Range} → ReadsRange terminals found rest → length rest < length terminals
range_shorter (grammar.range low high) = omega (arith, bound_shorter low, bound_shorter high)

param_shorter : {terminals rest : List Terminal} {found : Param} → ReadsParam terminals found rest → length rest < length terminals
param_shorter (grammar.param r) = omega (arith, range_shorter r)

local_shorter : {terminals rest : List Terminal} {found : Local} → ReadsLocal terminals found rest → length rest < length terminals
local_shorter (grammar.local r) = omega (arith, param_shorter r)

-- ---- a name takes a token at least
params_take : {terminals rest : List Terminal} {all : List Param} → ReadsCommas ReadsParam terminals all rest → length all + length rest ≤ length terminals
params_take (grammar.last r) = omega (arith, param_shorter r)
params_take (grammar.comma r more) = omega (arith, param_shorter r, params_take more)

listed_take : {terminals rest : List Terminal} {all : List Param} → ReadsListed ReadsParam terminals all rest → length all + length rest ≤ length terminals
listed_take grammar.nothing = omega arith
listed_take (grammar.things r) = params_take r

locals_take : {terminals rest : List Terminal} {all : List Local} → ReadsAll ReadsLocal terminals all rest → length all + length rest ≤ length terminals
locals_take grammar.none = omega arith
locals_take (grammar.and_more r more) = omega (arith, local_shorter r, locals_take more)

declaration_takes : {depth width : ℕ} {terminals rest : List Terminal} {found : Declaration} → ReadsDeclaration depth width terminals found rest
    → names_in found + length rest ≤ length terminals
declaration_takes (grammar.var r) = omega (arith, param_shorter r)
declaration_takes (grammar.array r) = omega (arith, range_shorter r)
declaration_takes (grammar.proc params locals body) = omega (arith, listed_take params, locals_take locals, statements_shorter body)

declarations_take : {depth width : ℕ} {terminals rest : List Terminal} {all : List Declaration} → ReadsAll (ReadsDeclaration depth width) terminals all rest
    → sum_by names_in all + length rest ≤ length terminals
declarations_take grammar.none = omega arith
declarations_take (grammar.and_more {first = first} {more = others} r more) =
    omega (arith, sum_by-cons names_in first others, declaration_takes r, declarations_take more)

-- ---- a token takes a byte at least
tokens_take : (text : List ℕ) (from : ℕ) (tokens : List Token) (end : ScanEnd) → from ≤ length text → ScansFrom text from tokens end
    → from + length tokens ≤ length text
tokens_take text from [] end le scans = omega arith
tokens_take text from (token ∷ tokens) end le (next, short, more) =
    omega (arith, next.after, next.longest.forward, tokens_take text token.end tokens end next.longest.inside more)

-- a text declares fewer names than it has bytes, or as many
pub spelled_names : (text : List ℕ) (tokens : List Token) (end : ScanEnd) (depth width : ℕ) (program : Program) → Scans text tokens end
    → grammar.Spells depth width (terminals_of text tokens) program → program_names program ≤ length text
spelled_names text tokens end depth width program scans spelled =
    let bytes = tokens_take text 0 tokens end (omega arith) scans in
    omega (arith, declarations_take spelled.declarations, length-map tokens (terminal_of text))
