-- A kind in front of what is wanted after it is what is wanted.
use Rattle.std.proofs.Common.{◌≡◌, subst, ℕ, zero, suc, List, [], ◌∷◌, Some, None, Bool, true, false, refl, ap, sym, ◌∙◌, arith, nat_eq, if◌then◌else◌}
use Rattle.source_lexer.specs.declared.token.TokenKind.{TokenKind}
use Rattle.source_lexer.specs.declared.token.TokenKind.TheVariants as kind
use Rattle.source_tree.specs.declared.expression.Operator.{Operator}
use Rattle.source_tree.specs.declared.expression.Expr.{Expr, Binary}
use Rattle.source_parser.specs.Terminals.{Terminal, fixed}
use Rattle.source_parser.specs.Grammar as g
use Rattle.source_parser.specs.Grammar.{Level, Joins, plus, minus, times, divided, remainder, ReadsExpr, number, name, element, negated, bracketed, one_factor, multiplied, one_term, added, weight, ReadsWithin, ReadsOutermost}
use Rattle.source_parser.specs.Grammar.{Compares, less, less_equal, greater, greater_equal, equal, not_equal, ReadsCondition, condition, ReadsPlace, variable, element_of, ReadsAll, none, and_more, ReadsCommas, last, comma, ReadsListed, nothing, things}
use Rattle.source_parser.specs.Grammar.{ReadsStatement, assign, print, read, if_statement, for_statement, while_statement, call, ReadsStatements, no_statement, ReadsElse, no_else, other, ReadsBound, unsigned, signed, ReadsRange, ReadsParam, param, ReadsLocal, ReadsDeclaration, var, array, proc, Spells}
use Rattle.source_parser.specs.Wants.{Want, token, inner, close, fresh, outermost, sum, sum_tail, term, term_tail, factor, index, comparison, listed, commas, place_tail, after_name, statements, otherwise, declarations, bound, params, more_params, locals}
use Rattle.source_parser.specs.Wants.{Move, stuck, deep, on, step, price, moved, number_of}
use Rattle.source_parser.proofs.KindNumbers.{plain, same_kind}
use Rattle.source_parser.proofs.Completions.{HasTree, FollowedWithin, Followed, Longer, IsPlain, Sign, Fits, none_of}

abbrev pub Backs : ℕ → TokenKind → List Want → ℕ → ℕ → Move → Type 0
Backs width k s d w stuck = Unit {0}
Backs width k s d w deep = Unit {0}
Backs width k s d w (on s' d' w') = (terminals : List Terminal) → Fits width s' d' w' terminals → Fits width s d w (plain k ∷ terminals)

-- ---- one kind more in front
lifts : (width : ℕ) (k : TokenKind) (s : List Want) (d w : ℕ) (s' : List Want) (d' w' : ℕ)
    → ((terminals : List Terminal) → Fits width s d w terminals → Fits width s' d' w' terminals)
    → (m : Move) → Backs width k s d w m → Backs width k s' d' w' m
lifts width k s d w s' d' w' so stuck h = tt
lifts width k s d w s' d' w' so deep h = tt
lifts width k s d w s' d' w' so (on s'' d'' w'') h = λ terminals f. so (plain k ∷ terminals) (h terminals f)

back_factor : (width : ℕ) (k : TokenKind) (s : List Want) (d w : ℕ) → Backs width k (factor ∷ s) d w (step width k (factor ∷ s) d w)
back_factor width kind.Number s d w = λ terminals f. record { rest = terminals; spare = w; reads = record { tree = _; reads = number }; weighs = refl; behind = f }
back_factor width kind.Name s d w = λ terminals f. record { rest = f.rest; spare = f.spare; reads = f.reads; weighs = f.weighs; behind = f.behind }
back_factor width kind.Minus s d zero = tt
back_factor width kind.Minus s d (suc w) = λ terminals f.
    let h = f.weighs in
    record { rest = f.rest; spare = f.spare; reads = record { tree = _; reads = negated f.reads.reads }; weighs = omega (arith, h); behind = f.behind }
back_factor width kind.LeftParen s d zero = tt
back_factor width kind.LeftParen s d (suc w) = λ terminals f.
    let h = f.weighs in
    let e = f.behind.reads in
    let k = ap weight e in
    record { rest = f.behind.rest; spare = f.spare; reads = record { tree = _; reads = bracketed (rw e at f.reads.reads) }; weighs = omega (arith, h, k); behind = f.behind.behind }
back_factor width k s d w = tt

-- Parts of a level with operators between them: a first part and what makes it longer; and an operator, the part that it
-- joins, and what makes them longer.
module _ {level part : Level} {After : ℕ → List Terminal → Type 0} {w : ℕ} {terminals : List Terminal} where
  joined_parts : ((e : Expr) (rest : List Terminal) → ReadsExpr part terminals e rest → ReadsExpr level terminals e rest)
      → FollowedWithin (HasTree (ReadsExpr part)) (FollowedWithin (Longer (ReadsExpr level) (ReadsExpr level)) After) w terminals → FollowedWithin (HasTree (ReadsExpr level)) After w terminals
  joined_parts one f =
      let h = f.weighs in
      let k = f.behind.weighs in
      record { rest = f.behind.rest; spare = f.behind.spare; reads = f.behind.reads terminals f.reads.tree (one f.reads.tree f.rest f.reads.reads); weighs = omega (arith, h, k); behind = f.behind.behind }

  operator_and_part : {sign : TokenKind} {op : Operator}
      → ((old rest : List Terminal) (left right : Expr) → ReadsExpr level old left (fixed sign 0 ∷ terminals) → ReadsExpr part terminals right rest → ReadsExpr level old (Binary left op right 0) rest)
      → weight (fixed sign 0 ∷ terminals) ≡ suc (weight terminals)
      → FollowedWithin (HasTree (ReadsExpr part)) (FollowedWithin (Longer (ReadsExpr level) (ReadsExpr level)) After) w terminals
      → FollowedWithin (Longer (ReadsExpr level) (ReadsExpr level)) After (suc w) (fixed sign 0 ∷ terminals)
  operator_and_part joins heavy f =
      let h = f.weighs in
      let k = f.behind.weighs in
      record { rest = f.behind.rest; spare = f.behind.spare; reads = λ old e r. f.behind.reads old _ (joins old f.rest e f.reads.tree r f.reads.reads); weighs = omega (arith, h, k, heavy); behind = f.behind.behind }

term_of : (width : ℕ) (s : List Want) (d w : ℕ) (terminals : List Terminal) → Fits width (factor ∷ term_tail ∷ s) d w terminals → Fits width (term ∷ s) d w terminals
term_of width s d w terminals f = joined_parts {After = Fits width s d} (λ e rest r. one_factor r) f

sum_of : (width : ℕ) (s : List Want) (d w : ℕ) (terminals : List Terminal) → Fits width (term ∷ sum_tail ∷ s) d w terminals → Fits width (sum ∷ s) d w terminals
sum_of width s d w terminals f = joined_parts {After = Fits width s d} (λ e rest r. one_term r) f

outermost_of : (width : ℕ) (s : List Want) (d w : ℕ) (terminals : List Terminal) → Fits width (sum ∷ fresh ∷ s) d width terminals → Fits width (outermost ∷ s) d w terminals
outermost_of width s d w terminals f =
    let h = f.weighs in
    record { rest = f.rest; reads = record { tree = f.reads.tree; reads = record { reads = f.reads.reads; fits = omega (arith, h) } }; behind = f.behind }

listed_of : (width : ℕ) (s : List Want) (d w : ℕ) (terminals : List Terminal) → Fits width (outermost ∷ commas ∷ s) d w terminals → Fits width (listed ∷ s) d w terminals
listed_of width s d w terminals f =
    let all = f.behind.reads terminals f.reads.tree f.reads.reads in
    record { rest = f.behind.rest; reads = record { tree = all.tree; reads = things all.reads }; behind = f.behind.behind }

pub step_term : (width : ℕ) (k : TokenKind) (s : List Want) (d w : ℕ) → step width k (factor ∷ term_tail ∷ s) d w ≡ step width k (term ∷ s) d w
step_term width kind.Number s d w = refl
step_term width k s d w = refl

pub step_sum : (width : ℕ) (k : TokenKind) (s : List Want) (d w : ℕ) → step width k (term ∷ sum_tail ∷ s) d w ≡ step width k (sum ∷ s) d w
step_sum width kind.Number s d w = refl
step_sum width k s d w = refl

pub step_outermost : (width : ℕ) (k : TokenKind) (s : List Want) (d w : ℕ) → step width k (sum ∷ fresh ∷ s) d width ≡ step width k (outermost ∷ s) d w
step_outermost width kind.Number s d w = refl
step_outermost width k s d w = refl

back_term : (width : ℕ) (k : TokenKind) (s : List Want) (d w : ℕ) → Backs width k (term ∷ s) d w (step width k (term ∷ s) d w)
back_term width k s d w =
    rw (sym (step_term width k s d w)) (lifts width k (factor ∷ term_tail ∷ s) d w (term ∷ s) d w (term_of width s d w) (step width k (factor ∷ term_tail ∷ s) d w) (back_factor width k (term_tail ∷ s) d w))

back_sum : (width : ℕ) (k : TokenKind) (s : List Want) (d w : ℕ) → Backs width k (sum ∷ s) d w (step width k (sum ∷ s) d w)
back_sum width k s d w =
    rw (sym (step_sum width k s d w)) (lifts width k (term ∷ sum_tail ∷ s) d w (sum ∷ s) d w (sum_of width s d w) (step width k (term ∷ sum_tail ∷ s) d w) (back_term width k (sum_tail ∷ s) d w))

back_outermost : (width : ℕ) (k : TokenKind) (s : List Want) (d w : ℕ) → Backs width k (outermost ∷ s) d w (step width k (outermost ∷ s) d w)
back_outermost width k s d w =
    rw (sym (step_outermost width k s d w)) (lifts width k (sum ∷ fresh ∷ s) d width (outermost ∷ s) d w (outermost_of width s d w) (step width k (sum ∷ fresh ∷ s) d width) (back_sum width k (fresh ∷ s) d width))

back_listed : (width : ℕ) (k : TokenKind) (s : List Want) (d w : ℕ) → Backs width k (listed ∷ s) d w (step width k (listed ∷ s) d w)
back_listed width kind.RightParen s d w = λ terminals f. record { rest = terminals; reads = record { tree = []; reads = nothing }; behind = f }
back_listed width k s d w = lifts width k (outermost ∷ commas ∷ s) d w (listed ∷ s) d w (listed_of width s d w) (step width k (outermost ∷ commas ∷ s) d w) (back_outermost width k (commas ∷ s) d w)

token_back : (width : ℕ) (k j : TokenKind) (s : List Want) (d w : ℕ) (m : Bool) → nat_eq (number_of k) (number_of j) ≡ m
    → Backs width j (token k ∷ s) d w (moved (if m then Some s else None) false (price (token k) j) (step width j s d width) d width)
token_back width k j s d w false e = tt
token_back width k j s d w true e = λ terminals f. record { rest = terminals; reads = ap (λ (x : TokenKind). plain x ∷ terminals) (sym (same_kind k j e)); behind = f }

inner_back : (width : ℕ) (k j : TokenKind) (s : List Want) (d w : ℕ) (m : Bool) → nat_eq (number_of k) (number_of j) ≡ m
    → Backs width j (inner k ∷ s) d w (moved (if m then Some s else None) false (price (inner k) j) (step width j s d w) d w)
inner_back width k j s d w false e = tt
inner_back width k j s d w true e = λ terminals f. record { rest = terminals; reads = ap (λ (x : TokenKind). plain x ∷ terminals) (sym (same_kind k j e)); behind = f }

-- ---- parts put together
-- two terminals of a kind, one after the other
two_plain : (j k : TokenKind) {B : List Terminal → Type 0} {terminals : List Terminal} (f : Followed (IsPlain j) (Followed (IsPlain k) B) terminals) → terminals ≡ plain j ∷ plain k ∷ f.behind.rest
two_plain j k f = f.reads ∙ ap (λ (x : List Terminal). plain j ∷ x) f.behind.reads

condition_of : (width : ℕ) (B : List Terminal → Type 0) (terminals : List Terminal) → Followed (HasTree (ReadsOutermost width)) (Followed Sign (Followed (HasTree (ReadsOutermost width)) B)) terminals
    → Followed (HasTree (ReadsCondition width)) B terminals
condition_of width B terminals f =
    let sign = f.behind.reads in
    record {
      rest = f.behind.behind.rest;
      reads = record { tree = _; reads = condition (rw sign.is at f.reads.reads) sign.compares f.behind.behind.reads.reads };
      behind = f.behind.behind.behind;
    }

range_of : (B : List Terminal → Type 0) (terminals : List Terminal) → Followed (HasTree ReadsBound) (Followed (IsPlain kind.Dots) (Followed (HasTree ReadsBound) B)) terminals → Followed (HasTree ReadsRange) B terminals
range_of B terminals f = record {
  rest = f.behind.behind.rest;
  reads = record { tree = _; reads = g.range (rw f.behind.reads at f.reads.reads) f.behind.behind.reads.reads };
  behind = f.behind.behind.behind;
}

param_of : (B : List Terminal → Type 0) (terminals : List Terminal)
    → Followed (IsPlain kind.Name) (Followed (IsPlain kind.Colon) (Followed (HasTree ReadsBound) (Followed (IsPlain kind.Dots) (Followed (HasTree ReadsBound) B)))) terminals → Followed (HasTree ReadsParam) B terminals
param_of B terminals f =
    let r = range_of B f.behind.rest f.behind.behind in
    record {
      rest = r.rest;
      reads = subst (λ (x : List Terminal). HasTree ReadsParam x r.rest) (sym (two_plain kind.Name kind.Colon f)) (record { tree = _; reads = param r.reads.reads });
      behind = r.behind;
    }

-- ---- statements
back_name : (width : ℕ) (k : TokenKind) (s : List Want) (d w : ℕ) → Backs width k (after_name ∷ s) d w (step width k (after_name ∷ s) d w)
back_name width kind.LeftParen s d w = λ terminals f.
    record { rest = f.behind.rest; reads = record { tree = _; reads = call (rw f.behind.reads at f.reads.reads) }; behind = f.behind.behind }
back_name width kind.LeftBracket s d w = λ terminals f.
    let value = f.behind.behind.behind in
    record {
      rest = value.behind.rest;
      reads = record { tree = _; reads = assign (element_of (rw (f.behind.reads, f.behind.behind.reads) at f.reads.reads)) (rw value.behind.reads at value.reads.reads) };
      behind = value.behind.behind;
    }
back_name width kind.Becomes s d w = λ terminals f.
    record { rest = f.behind.rest; reads = record { tree = _; reads = assign variable (rw f.behind.reads at f.reads.reads) }; behind = f.behind.behind }
back_name width k s d w = tt

back_statements : (width : ℕ) (k : TokenKind) (s : List Want) (d w : ℕ) → Backs width k s d width (step width k s d width) → Backs width k (statements ∷ s) d w (step width k (statements ∷ s) d w)
back_statements width kind.Print s d w h = λ terminals f.
    let more = f.behind.behind in
    record { rest = more.rest; reads = record { tree = _; reads = g.statements (print (rw f.behind.reads at f.reads.reads)) more.reads.reads }; behind = more.behind }
back_statements width kind.Read s d w h = λ terminals f.
    let place = f.behind in
    let more = place.behind.behind in
    record {
      rest = more.rest;
      reads = subst (λ (x : List Terminal). HasTree (ReadsStatements width d) (plain kind.Read ∷ x) more.rest) (sym f.reads)
          (record { tree = _; reads = g.statements (read (rw place.behind.reads at place.reads.reads)) more.reads.reads });
      behind = more.behind;
    }
back_statements width kind.If s zero w h = tt
back_statements width kind.If s (suc d) w h = λ terminals f.
    let c = condition_of width (Fits width (token kind.Then ∷ statements ∷ otherwise ∷ close ∷ statements ∷ s) d width) terminals f in
    let first = c.behind.behind in
    let second = first.behind in
    let more = second.behind.behind in
    record {
      rest = more.rest;
      reads = record {
        tree = _;
        reads = g.statements (if_statement (rw c.behind.reads at c.reads.reads) first.reads.reads (rw second.behind.reads at second.reads.reads)) more.reads.reads;
      };
      behind = more.behind;
    }
back_statements width kind.For s zero w h = tt
back_statements width kind.For s (suc d) w h = λ terminals f.
    let from = f.behind.behind in
    let to = from.behind.behind in
    let body = to.behind.behind in
    let more = body.behind.behind in
    record {
      rest = more.rest;
      reads = subst (λ (x : List Terminal). HasTree (ReadsStatements width (suc d)) (plain kind.For ∷ x) more.rest) (sym (two_plain kind.Name kind.Becomes f))
          (record {
            tree = _;
            reads = g.statements (for_statement (rw from.behind.reads at from.reads.reads) (rw to.behind.reads at to.reads.reads) (rw body.behind.reads at body.reads.reads)) more.reads.reads;
          });
      behind = more.behind;
    }
back_statements width kind.While s zero w h = tt
back_statements width kind.While s (suc d) w h = λ terminals f.
    let c = condition_of width (Fits width (token kind.Limit ∷ token kind.Number ∷ token kind.Do ∷ statements ∷ close ∷ statements ∷ s) d width) terminals f in
    let body = c.behind.behind.behind.behind in
    let more = body.behind.behind in
    record {
      rest = more.rest;
      reads = record {
        tree = _;
        reads = g.statements (while_statement (rw (c.behind.reads, c.behind.behind.reads, c.behind.behind.behind.reads) at c.reads.reads) (rw body.behind.reads at body.reads.reads)) more.reads.reads;
      };
      behind = more.behind;
    }
back_statements width kind.Name s d w h = λ terminals f.
    record { rest = f.behind.rest; reads = record { tree = _; reads = g.statements f.reads.reads f.behind.reads.reads }; behind = f.behind.behind }
back_statements width k s d w h =
    lifts width k s d width (statements ∷ s) d w (none_of (ReadsStatements width d) (λ terminals. no_statement)) (step width k s d width) h

-- ---- declarations
back_declarations : (width : ℕ) (k : TokenKind) (s : List Want) (d w : ℕ) → Backs width k s d width (step width k s d width) → Backs width k (declarations ∷ s) d w (step width k (declarations ∷ s) d w)
back_declarations width kind.Var s d w h = λ terminals f.
    let p = param_of (Fits width (token kind.Semicolon ∷ declarations ∷ s) d width) terminals f in
    let more = p.behind.behind in
    record {
      rest = more.rest;
      reads = record { tree = _; reads = and_more (var {x = p.reads.tree.name} {range = p.reads.tree.range} (rw p.behind.reads at p.reads.reads)) more.reads.reads };
      behind = more.behind;
    }
back_declarations width kind.Array s d w h = λ terminals f.
    let r = range_of (Fits width (token kind.Semicolon ∷ declarations ∷ s) d width) f.behind.behind.behind.behind.rest f.behind.behind.behind.behind.behind in
    let more = r.behind.behind in
    let front : terminals ≡ plain kind.Name ∷ plain kind.LeftBracket ∷ plain kind.Number ∷ plain kind.RightBracket ∷ plain kind.Colon ∷ f.behind.behind.behind.behind.rest
    = two_plain kind.Name kind.LeftBracket f ∙ ap (λ (x : List Terminal). plain kind.Name ∷ plain kind.LeftBracket ∷ x) f.behind.behind.reads
    ∙ ap (λ (x : List Terminal). plain kind.Name ∷ plain kind.LeftBracket ∷ plain kind.Number ∷ x) f.behind.behind.behind.reads
    ∙ ap (λ (x : List Terminal). plain kind.Name ∷ plain kind.LeftBracket ∷ plain kind.Number ∷ plain kind.RightBracket ∷ x) f.behind.behind.behind.behind.reads in
    record {
      rest = more.rest;
      reads = subst (λ (x : List Terminal). HasTree (ReadsAll (ReadsDeclaration d width)) (plain kind.Array ∷ x) more.rest) (sym front)
          (record { tree = _; reads = and_more (array (rw r.behind.reads at r.reads.reads)) more.reads.reads });
      behind = more.behind;
    }
back_declarations width kind.Proc s d w h = λ terminals f.
    let params_ = f.behind.behind in
    let locals_ = params_.behind in
    let body = locals_.behind.behind in
    let more = body.behind.behind in
    record {
      rest = more.rest;
      reads = subst (λ (x : List Terminal). HasTree (ReadsAll (ReadsDeclaration d width)) (plain kind.Proc ∷ x) more.rest) (sym (two_plain kind.Name kind.LeftParen f))
          (record {
            tree = _;
            reads = and_more (proc params_.reads.reads (rw locals_.behind.reads at locals_.reads.reads) (rw body.behind.reads at body.reads.reads)) more.reads.reads;
          });
      behind = more.behind;
    }
back_declarations width k s d w h =
    lifts width k s d width (declarations ∷ s) d w (none_of (ReadsAll (ReadsDeclaration d width)) (λ terminals. none)) (step width k s d width) h

back_params : (width : ℕ) (k : TokenKind) (s : List Want) (d w : ℕ) → Backs width k (params ∷ s) d w (step width k (params ∷ s) d w)
back_params width kind.RightParen s d w = λ terminals f. record { rest = terminals; reads = record { tree = []; reads = nothing }; behind = f }
back_params width kind.Name s d w = λ terminals f.
    let r = range_of (Fits width (more_params ∷ s) d width) f.rest f.behind in
    let all = r.behind.reads (plain kind.Name ∷ plain kind.Colon ∷ f.rest) _ (param r.reads.reads) in
    record {
      rest = r.behind.rest;
      reads = subst (λ (x : List Terminal). HasTree (ReadsListed ReadsParam) (plain kind.Name ∷ x) r.behind.rest) (sym f.reads) (record { tree = all.tree; reads = things all.reads });
      behind = r.behind.behind;
    }
back_params width k s d w = tt

back_more_params : (width : ℕ) (k : TokenKind) (s : List Want) (d w : ℕ) → Backs width k (more_params ∷ s) d w (step width k (more_params ∷ s) d w)
back_more_params width kind.RightParen s d w = λ terminals f. record { rest = terminals; reads = λ old e r. record { tree = _; reads = last r }; behind = f }
back_more_params width kind.Comma s d w = λ terminals f.
    let p = param_of (Fits width (more_params ∷ s) d width) terminals f in
    let all = p.behind.reads terminals p.reads.tree p.reads.reads in
    record { rest = p.behind.rest; reads = λ old e r. record { tree = _; reads = comma r all.reads }; behind = p.behind.behind }
back_more_params width k s d w = tt

back_locals : (width : ℕ) (k : TokenKind) (s : List Want) (d w : ℕ) → Backs width k s d width (step width k s d width) → Backs width k (locals ∷ s) d w (step width k (locals ∷ s) d w)
back_locals width kind.Var s d w h = λ terminals f.
    let p = param_of (Fits width (token kind.Semicolon ∷ locals ∷ s) d width) terminals f in
    let more = p.behind.behind in
    record {
      rest = more.rest;
      reads = record { tree = _; reads = and_more (g.local {x = p.reads.tree.name} {range = p.reads.tree.range} (rw p.behind.reads at p.reads.reads)) more.reads.reads };
      behind = more.behind;
    }
back_locals width k s d w h =
    lifts width k s d width (locals ∷ s) d w (none_of (ReadsAll ReadsLocal) (λ terminals. none)) (step width k s d width) h

back_comparison : (width : ℕ) (k : TokenKind) (s : List Want) (d w : ℕ) → Backs width k (comparison ∷ s) d w (step width k (comparison ∷ s) d w)
back_comparison width kind.Less s d w = λ terminals f. record { rest = terminals; reads = record { sign = kind.Less; test = _; line = 0; compares = less; is = refl }; behind = f }
back_comparison width kind.LessEqual s d w = λ terminals f. record { rest = terminals; reads = record { sign = kind.LessEqual; test = _; line = 0; compares = less_equal; is = refl }; behind = f }
back_comparison width kind.Greater s d w = λ terminals f. record { rest = terminals; reads = record { sign = kind.Greater; test = _; line = 0; compares = greater; is = refl }; behind = f }
back_comparison width kind.GreaterEqual s d w = λ terminals f. record { rest = terminals; reads = record { sign = kind.GreaterEqual; test = _; line = 0; compares = greater_equal; is = refl }; behind = f }
back_comparison width kind.Equal s d w = λ terminals f. record { rest = terminals; reads = record { sign = kind.Equal; test = _; line = 0; compares = equal; is = refl }; behind = f }
back_comparison width kind.NotEqual s d w = λ terminals f. record { rest = terminals; reads = record { sign = kind.NotEqual; test = _; line = 0; compares = not_equal; is = refl }; behind = f }
back_comparison width k s d w = tt

-- an operator of a sum or of a term, and what follows it
back_sum_tail : (width : ℕ) (k : TokenKind) (s : List Want) (d w : ℕ) → Backs width k s d w (step width k s d w) → Backs width k (sum_tail ∷ s) d w (step width k (sum_tail ∷ s) d w)
back_sum_tail width kind.Plus s d zero h = tt
back_sum_tail width kind.Plus s d (suc w) h = λ terminals f. operator_and_part {After = Fits width s d} (λ old rest left right r q. added r plus q) refl f
back_sum_tail width kind.Minus s d zero h = tt
back_sum_tail width kind.Minus s d (suc w) h = λ terminals f. operator_and_part {After = Fits width s d} (λ old rest left right r q. added r minus q) refl f
back_sum_tail width k s d w h =
    lifts width k s d w (sum_tail ∷ s) d w (λ terminals f. record { rest = terminals; spare = w; reads = λ old e r. record { tree = e; reads = r }; weighs = refl; behind = f }) (step width k s d w) h

back_term_tail : (width : ℕ) (k : TokenKind) (s : List Want) (d w : ℕ) → Backs width k s d w (step width k s d w) → Backs width k (term_tail ∷ s) d w (step width k (term_tail ∷ s) d w)
back_term_tail width kind.Star s d zero h = tt
back_term_tail width kind.Star s d (suc w) h = λ terminals f. operator_and_part {After = Fits width s d} (λ old rest left right r q. multiplied r times q) refl f
back_term_tail width kind.Div s d zero h = tt
back_term_tail width kind.Div s d (suc w) h = λ terminals f. operator_and_part {After = Fits width s d} (λ old rest left right r q. multiplied r divided q) refl f
back_term_tail width kind.Mod s d zero h = tt
back_term_tail width kind.Mod s d (suc w) h = λ terminals f. operator_and_part {After = Fits width s d} (λ old rest left right r q. multiplied r remainder q) refl f
back_term_tail width k s d w h =
    lifts width k s d w (term_tail ∷ s) d w (λ terminals f. record { rest = terminals; spare = w; reads = λ old e r. record { tree = e; reads = r }; weighs = refl; behind = f }) (step width k s d w) h

back_index : (width : ℕ) (k : TokenKind) (s : List Want) (d w : ℕ) → Backs width k s d w (step width k s d w) → Backs width k (index ∷ s) d w (step width k (index ∷ s) d w)
back_index width kind.LeftBracket s d zero h = tt
back_index width kind.LeftBracket s d (suc w) h = λ terminals f.
    let h = f.weighs in
    let e = f.behind.reads in
    let k = ap weight e in
    record { rest = f.behind.rest; spare = f.spare; reads = record { tree = _; reads = element (rw e at f.reads.reads) }; weighs = omega (arith, h, k); behind = f.behind.behind }
back_index width k s d w h =
    lifts width k s d w (index ∷ s) d w (λ terminals f. record { rest = terminals; spare = w; reads = record { tree = _; reads = name }; weighs = refl; behind = f }) (step width k s d w) h

back_place : (width : ℕ) (k : TokenKind) (s : List Want) (d w : ℕ) → Backs width k s d width (step width k s d width) → Backs width k (place_tail ∷ s) d w (step width k (place_tail ∷ s) d w)
back_place width kind.LeftBracket s d w h = λ terminals f.
    record { rest = f.behind.rest; reads = record { tree = _; reads = element_of (rw f.behind.reads at f.reads.reads) }; behind = f.behind.behind }
back_place width k s d w h =
    lifts width k s d width (place_tail ∷ s) d w (λ terminals f. record { rest = terminals; reads = record { tree = _; reads = variable }; behind = f }) (step width k s d width) h

back_commas : (width : ℕ) (k : TokenKind) (s : List Want) (d w : ℕ) → Backs width k (commas ∷ s) d w (step width k (commas ∷ s) d w)
back_commas width kind.RightParen s d w = λ terminals f. record { rest = terminals; reads = λ old e r. record { tree = _; reads = last r }; behind = f }
back_commas width kind.Comma s d w = λ terminals f.
    let all = f.behind.reads terminals f.reads.tree f.reads.reads in
    record { rest = f.behind.rest; reads = λ old e r. record { tree = _; reads = comma r all.reads }; behind = f.behind.behind }
back_commas width k s d w = tt

back_bound : (width : ℕ) (k : TokenKind) (s : List Want) (d w : ℕ) → Backs width k (bound ∷ s) d w (step width k (bound ∷ s) d w)
back_bound width kind.Number s d w = λ terminals f. record { rest = terminals; reads = record { tree = _; reads = unsigned }; behind = f }
back_bound width kind.Minus s d w = λ terminals f.
    record { rest = f.rest; reads = subst (λ (x : List Terminal). HasTree ReadsBound (plain kind.Minus ∷ x) f.rest) (sym f.reads) (record { tree = _; reads = signed }); behind = f.behind }
back_bound width k s d w = tt

back_else : (width : ℕ) (k : TokenKind) (s : List Want) (d w : ℕ) → Backs width k s d width (step width k s d width) → Backs width k (otherwise ∷ s) d w (step width k (otherwise ∷ s) d w)
back_else width kind.Else s d w h = λ terminals f. record { rest = f.rest; reads = record { tree = _; reads = other f.reads.reads }; behind = f.behind }
back_else width k s d w h =
    lifts width k s d width (otherwise ∷ s) d w (none_of (ReadsElse width d) (λ terminals. no_else)) (step width k s d width) h

back_close : (width : ℕ) (k : TokenKind) (s : List Want) (d w : ℕ) → Backs width k (close ∷ s) d w (step width k (close ∷ s) d w)
back_close width kind.End s d w = λ terminals f. record { rest = terminals; reads = refl; behind = f }
back_close width k s d w = tt

pub back : (width : ℕ) (k : TokenKind) (s : List Want) (d w : ℕ) → Backs width k s d w (step width k s d w)
back width k [] d w = tt
back width k (token j ∷ s) d w = token_back width j k s d w (nat_eq (number_of j) (number_of k)) refl
back width k (inner j ∷ s) d w = inner_back width j k s d w (nat_eq (number_of j) (number_of k)) refl
back width k (close ∷ s) d w = back_close width k s d w
back width k (fresh ∷ s) d w = lifts width k s d width (fresh ∷ s) d w (λ terminals f. f) (step width k s d width) (back width k s d width)
back width k (outermost ∷ s) d w = back_outermost width k s d w
back width k (sum ∷ s) d w = back_sum width k s d w
back width k (sum_tail ∷ s) d w = back_sum_tail width k s d w (back width k s d w)
back width k (term ∷ s) d w = back_term width k s d w
back width k (term_tail ∷ s) d w = back_term_tail width k s d w (back width k s d w)
back width k (factor ∷ s) d w = back_factor width k s d w
back width k (index ∷ s) d w = back_index width k s d w (back width k s d w)
back width k (comparison ∷ s) d w = back_comparison width k s d w
back width k (listed ∷ s) d w = back_listed width k s d w
back width k (commas ∷ s) d w = back_commas width k s d w
back width k (place_tail ∷ s) d w = back_place width k s d w (back width k s d width)
back width k (after_name ∷ s) d w = back_name width k s d w
back width k (statements ∷ s) d w = back_statements width k s d w (back width k s d width)
back width k (otherwise ∷ s) d w = back_else width k s d w (back width k s d width)
back width k (declarations ∷ s) d w = back_declarations width k s d w (back width k s d width)
back width k (bound ∷ s) d w = back_bound width k s d w
back width k (params ∷ s) d w = back_params width k s d w
back width k (more_params ∷ s) d w = back_more_params width k s d w
back width k (locals ∷ s) d w = back_locals width k s d w (back width k s d width)
