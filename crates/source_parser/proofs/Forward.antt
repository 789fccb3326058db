-- What the grammar reads is what is wanted of it.
use Rattle.std.proofs.Common.{◌≡◌, ℕ, suc, ◌+◌, ◌-◌, List, [], ◌∷◌, refl, ◌∙◌, arith}
use Rattle.source_lexer.specs.declared.token.TokenKind.{TokenKind}
use Rattle.source_lexer.specs.declared.token.TokenKind.TheVariants as kind
use Rattle.source_tree.specs.declared.expression.Expr.{Expr}
use Rattle.source_tree.specs.declared.expression.Operator.{Operator}
use Rattle.source_tree.specs.declared.expression.Comparison.{Comparison}
use Rattle.source_tree.specs.declared.expression.Condition.{Condition}
use Rattle.source_tree.specs.declared.name.Range.{Range}
use Rattle.source_tree.specs.declared.statement.Place.{Place}
use Rattle.source_tree.specs.declared.statement.Statement.{Statement}
use Rattle.source_tree.specs.declared.declaration.Param.{Param}
use Rattle.source_tree.specs.declared.declaration.Local.{Local}
use Rattle.source_tree.specs.declared.declaration.Declaration.{Declaration}
use Rattle.source_tree.specs.declared.declaration.Program.{Program}
use Rattle.source_parser.specs.Terminals.{Terminal, fixed, kinds_of}
use Rattle.source_parser.specs.Grammar as g
use Rattle.source_parser.specs.Grammar.{Level, Joins, plus, minus, times, divided, remainder, ReadsExpr, number, name, element, negated, bracketed, one_factor, multiplied, one_term, added, weight, ReadsWithin, ReadsOutermost}
use Rattle.source_parser.specs.Grammar.{Compares, less, less_equal, greater, greater_equal, equal, not_equal, ReadsCondition, condition, ReadsPlace, variable, element_of, ReadsAll, none, and_more, ReadsCommas, last, comma, ReadsListed, nothing, things}
use Rattle.source_parser.specs.Grammar.{ReadsStatement, assign, print, read, if_statement, for_statement, while_statement, call, ReadsStatements, no_statement, ReadsElse, no_else, other, ReadsBound, unsigned, signed, ReadsRange, ReadsParam, param, ReadsLocal, ReadsDeclaration, var, array, proc, Spells}
use Rattle.source_parser.specs.Taking.{NotKind}
use Rattle.source_parser.proofs.Runs.{comparison_goes, term_begins, sum_begins, outermost_begins, index_ends, listed_begins}
use Rattle.source_parser.specs.Wants.{Want, token, inner, close, fresh, outermost, sum_tail, term, term_tail, factor, comparison, listed, commas, place_tail, statements, otherwise, declarations, bound, params, more_params, locals, run, spelled, wanted}

-- ---- weights
abbrev pub cost : {level : Level} {terminals rest : List Terminal} {e : Expr} → ReadsExpr level terminals e rest → ℕ
cost number = 0
cost name = 0
cost (element r) = suc (cost r)
cost (negated r) = suc (cost r)
cost (bracketed r) = suc (cost r)
cost (one_factor r) = cost r
cost (multiplied r j q) = suc (cost r + cost q)
cost (one_term r) = cost r
cost (added r j q) = suc (cost r + cost q)

pub weight_joins : {level : Level} {sign : TokenKind} {op : Operator} → Joins level sign op → (line : ℕ) (terminals : List Terminal) → weight (fixed sign line ∷ terminals) ≡ suc (weight terminals)
weight_joins plus line terminals = refl
weight_joins minus line terminals = refl
weight_joins times line terminals = refl
weight_joins divided line terminals = refl
weight_joins remainder line terminals = refl

pub weighed : {level : Level} {terminals rest : List Terminal} {e : Expr} (r : ReadsExpr level terminals e rest) → weight terminals ≡ cost r + weight rest
weighed number = omega arith
weighed name = omega arith
weighed (element r) = let h = weighed r in omega (arith, h)
weighed (negated r) = let h = weighed r in omega (arith, h)
weighed (bracketed r) = let h = weighed r in omega (arith, h)
weighed (one_factor r) = weighed r
weighed (multiplied {behind = behind} {line = line} r j q) = let h = weighed r in let k = weighed q in let l = weight_joins j line behind in omega (arith, h, k, l)
weighed (one_term r) = weighed r
weighed (added {behind = behind} {line = line} r j q) = let h = weighed r in let k = weighed q in let l = weight_joins j line behind in omega (arith, h, k, l)

abbrev goes : Level → List Want → List Want
goes g.factor s = s
goes g.term s = term_tail ∷ s
goes g.sum s = term_tail ∷ sum_tail ∷ s

module _ (width : ℕ) where
  -- an operator behind its left side
  pub joined : {sign : TokenKind} {op : Operator} → Joins g.sum sign op → (ks : List TokenKind) (s : List Want) (d w : ℕ)
      → run width (sign ∷ ks) (term_tail ∷ sum_tail ∷ s) d (suc w) ≡ run width ks (term ∷ sum_tail ∷ s) d w
  joined plus ks s d w = refl
  joined minus ks s d w = refl

  pub joined_term : {sign : TokenKind} {op : Operator} → Joins g.term sign op → (ks : List TokenKind) (s : List Want) (d w : ℕ)
      → run width (sign ∷ ks) (term_tail ∷ s) d (suc w) ≡ run width ks (factor ∷ term_tail ∷ s) d w
  joined_term times ks s d w = refl
  joined_term divided ks s d w = refl
  joined_term remainder ks s d w = refl

  pub join_no_bracket : {level : Level} {sign : TokenKind} {op : Operator} → Joins level sign op → (ks : List TokenKind) → NotKind kind.LeftBracket (sign ∷ ks)
  join_no_bracket plus ks more h = absurd cc
  join_no_bracket minus ks more h = absurd cc
  join_no_bracket times ks more h = absurd cc
  join_no_bracket divided ks more h = absurd cc
  join_no_bracket remainder ks more h = absurd cc

  pub reads_expr : {level : Level} {terminals rest : List Terminal} {e : Expr} (r : ReadsExpr level terminals e rest) → NotKind kind.LeftBracket (kinds_of rest)
      → (s : List Want) (d w w' : ℕ) → w ≡ cost r + w' → run width (kinds_of terminals) (wanted level ∷ s) d w ≡ run width (kinds_of rest) (goes level s) d w'
  reads_expr number not s d w w' e = let k : w ≡ w' = omega (arith, e) in rw k refl
  reads_expr (name {rest = rest}) not s d w w' e = let k : w ≡ w' = omega (arith, e) in rw k (index_ends width s d w' (kinds_of rest) not)
  reads_expr (element r) not s d w w' e =
      let k : w ≡ suc (cost r + w') = omega (arith, e) in
      rw k (reads_expr r (λ more h. absurd cc) (inner kind.RightBracket ∷ s) d (cost r + w') w' refl)
  reads_expr (negated r) not s d w w' e =
      let k : w ≡ suc (cost r + w') = omega (arith, e) in
      rw k (reads_expr r not s d (cost r + w') w' refl)
  reads_expr (bracketed r) not s d w w' e =
      let k : w ≡ suc (cost r + w') = omega (arith, e) in
      rw k (reads_expr r (λ more h. absurd cc) (inner kind.RightParen ∷ s) d (cost r + w') w' refl)
  reads_expr (one_factor {terminals = terminals} r) not s d w w' e = term_begins width s d w (kinds_of terminals) ∙ reads_expr r not (term_tail ∷ s) d w w' e
  reads_expr (multiplied {behind = behind} r j q) not s d w w' e =
      let k : w ≡ cost r + suc (cost q + w') = omega (arith, e) in
      reads_expr r (join_no_bracket j (kinds_of behind)) s d w (suc (cost q + w')) k ∙ joined_term j (kinds_of behind) s d (cost q + w')
      ∙ reads_expr q not (term_tail ∷ s) d (cost q + w') w' refl
  reads_expr (one_term {terminals = terminals} r) not s d w w' e = sum_begins width s d w (kinds_of terminals) ∙ reads_expr r not (sum_tail ∷ s) d w w' e
  reads_expr (added {behind = behind} r j q) not s d w w' e =
      let k : w ≡ cost r + suc (cost q + w') = omega (arith, e) in
      reads_expr r (join_no_bracket j (kinds_of behind)) s d w (suc (cost q + w')) k ∙ joined j (kinds_of behind) s d (cost q + w')
      ∙ reads_expr q not (sum_tail ∷ s) d (cost q + w') w' refl

  -- ---- what may follow an outermost expression
  abbrev Ended : List TokenKind → Type 0
  Ended ks = (s : List Want) (d w : ℕ) → run width ks (term_tail ∷ sum_tail ∷ fresh ∷ s) d w ≡ run width ks s d width

  pub reads_outermost : {terminals rest : List Terminal} {e : Expr} → ReadsOutermost width terminals e rest → NotKind kind.LeftBracket (kinds_of rest) → Ended (kinds_of rest)
      → (s : List Want) (d w : ℕ) → run width (kinds_of terminals) (outermost ∷ s) d w ≡ run width (kinds_of rest) s d width
  reads_outermost {terminals} {rest} r not ended s d w =
      let h = weighed r.reads in
      let f = r.fits in
      let k : width ≡ cost r.reads + (width - cost r.reads) = omega (arith, h, f) in
      outermost_begins width s d w (kinds_of terminals) ∙ reads_expr r.reads not (fresh ∷ s) d width (width - cost r.reads) k ∙ ended s d (width - cost r.reads)

  pub compares_end : {sign : TokenKind} {test : Comparison} → Compares sign test → (ks : List TokenKind) → Ended (sign ∷ ks)
  compares_end less ks s d w = refl
  compares_end less_equal ks s d w = refl
  compares_end greater ks s d w = refl
  compares_end greater_equal ks s d w = refl
  compares_end equal ks s d w = refl
  compares_end not_equal ks s d w = refl

  pub compares_no_bracket : {sign : TokenKind} {test : Comparison} → Compares sign test → (ks : List TokenKind) → NotKind kind.LeftBracket (sign ∷ ks)
  compares_no_bracket less ks more h = absurd cc
  compares_no_bracket less_equal ks more h = absurd cc
  compares_no_bracket greater ks more h = absurd cc
  compares_no_bracket greater_equal ks more h = absurd cc
  compares_no_bracket equal ks more h = absurd cc
  compares_no_bracket not_equal ks more h = absurd cc

  pub reads_condition : {terminals rest : List Terminal} {c : Condition} → ReadsCondition width terminals c rest → NotKind kind.LeftBracket (kinds_of rest) → Ended (kinds_of rest)
      → (s : List Want) (d w : ℕ) → run width (kinds_of terminals) (outermost ∷ comparison ∷ outermost ∷ s) d w ≡ run width (kinds_of rest) s d width
  reads_condition (condition {behind = behind} r c q) not ended s d w =
      reads_outermost r (compares_no_bracket c (kinds_of behind)) (compares_end c (kinds_of behind)) (comparison ∷ outermost ∷ s) d w
      ∙ comparison_goes width (outermost ∷ s) d width c (kinds_of behind) ∙ reads_outermost q not ended s d width

  pub reads_commas : {terminals rest : List Terminal} {all : List Expr} → ReadsCommas (ReadsOutermost width) terminals all rest → (s : List Want) (d w : ℕ)
      → run width (kinds_of terminals) (outermost ∷ commas ∷ s) d w ≡ run width (kinds_of rest) s d width
  reads_commas (last r) s d w = reads_outermost r (λ more h. absurd cc) (λ s d w. refl) (commas ∷ s) d w
  reads_commas (comma r q) s d w = reads_outermost r (λ more h. absurd cc) (λ s d w. refl) (commas ∷ s) d w ∙ reads_commas q s d width

  -- no expression begins with `)`
  expr_no_paren : {level : Level} {terminals rest : List Terminal} {e : Expr} → ReadsExpr level terminals e rest → NotKind kind.RightParen (kinds_of terminals)
  expr_no_paren number more h = absurd cc
  expr_no_paren name more h = absurd cc
  expr_no_paren (element r) more h = absurd cc
  expr_no_paren (negated r) more h = absurd cc
  expr_no_paren (bracketed r) more h = absurd cc
  expr_no_paren (one_factor r) more h = expr_no_paren r more h
  expr_no_paren (multiplied r j q) more h = expr_no_paren r more h
  expr_no_paren (one_term r) more h = expr_no_paren r more h
  expr_no_paren (added r j q) more h = expr_no_paren r more h

  commas_no_paren : {terminals rest : List Terminal} {all : List Expr} → ReadsCommas (ReadsOutermost width) terminals all rest → NotKind kind.RightParen (kinds_of terminals)
  commas_no_paren (last r) = expr_no_paren r.reads
  commas_no_paren (comma r q) = expr_no_paren r.reads

  pub reads_listed : {terminals rest : List Terminal} {all : List Expr} → ReadsListed (ReadsOutermost width) terminals all rest → (s : List Want) (d w : ℕ)
      → run width (kinds_of terminals) (listed ∷ s) d w ≡ run width (kinds_of rest) s d width
  reads_listed nothing s d w = refl
  reads_listed (things {terminals = terminals} r) s d w = listed_begins width s d w (kinds_of terminals) (commas_no_paren r) ∙ reads_commas r s d w

  -- ---- statements
  reads_assign : {terminals behind rest : List Terminal} {p : Place} {e : Expr} {line last : ℕ} → ReadsPlace width terminals p (fixed kind.Becomes line ∷ behind)
      → ReadsOutermost width behind e (fixed kind.Semicolon last ∷ rest)
      → (s : List Want) (d w : ℕ) → run width (kinds_of terminals) (statements ∷ s) d w ≡ run width (kinds_of rest) (statements ∷ s) d width
  reads_assign variable q s d w = reads_outermost q (λ more h. absurd cc) (λ s d w. refl) (token kind.Semicolon ∷ statements ∷ s) d width
  reads_assign (element_of r) q s d w =
      reads_outermost r (λ more h. absurd cc) (λ s d w. refl) (token kind.RightBracket ∷ token kind.Becomes ∷ outermost ∷ token kind.Semicolon ∷ statements ∷ s) d width
      ∙ reads_outermost q (λ more h. absurd cc) (λ s d w. refl) (token kind.Semicolon ∷ statements ∷ s) d width

  reads_read : {terminals rest : List Terminal} {p : Place} {last : ℕ} → ReadsPlace width terminals p (fixed kind.Semicolon last ∷ rest)
      → (s : List Want) (d : ℕ) → run width (kinds_of terminals) (token kind.Name ∷ place_tail ∷ token kind.Semicolon ∷ s) d width ≡ run width (kinds_of rest) s d width
  reads_read variable s d = refl
  reads_read (element_of r) s d = reads_outermost r (λ more h. absurd cc) (λ s d w. refl) (token kind.RightBracket ∷ token kind.Semicolon ∷ s) d width

  mutual
    pub reads_statement : {depth : ℕ} {terminals rest : List Terminal} {x : Statement} → ReadsStatement width depth terminals x rest → (s : List Want) (w : ℕ)
        → run width (kinds_of terminals) (statements ∷ s) depth w ≡ run width (kinds_of rest) (statements ∷ s) depth width
    reads_statement (assign {depth = depth} p e) s w = reads_assign p e s depth w
    reads_statement (print {depth = depth} e) s w = reads_outermost e (λ more h. absurd cc) (λ s d w. refl) (token kind.Semicolon ∷ statements ∷ s) depth width
    reads_statement (read {depth = depth} p) s w = reads_read p (statements ∷ s) depth
    reads_statement (if_statement {depth = depth} c f e) s w =
        reads_condition c (λ more h. absurd cc) (λ s d w. refl) (token kind.Then ∷ statements ∷ otherwise ∷ close ∷ statements ∷ s) depth width
        ∙ reads_statements f (otherwise ∷ close ∷ statements ∷ s) ∙ reads_else e (statements ∷ s) refl
    reads_statement (for_statement {depth = depth} a b f) s w =
        reads_outermost a (λ more h. absurd cc) (λ s d w. refl) (token kind.To ∷ outermost ∷ token kind.Do ∷ statements ∷ close ∷ statements ∷ s) depth width
        ∙ reads_outermost b (λ more h. absurd cc) (λ s d w. refl) (token kind.Do ∷ statements ∷ close ∷ statements ∷ s) depth width
        ∙ reads_statements f (close ∷ statements ∷ s)
    reads_statement (while_statement {depth = depth} c f) s w =
        reads_condition c (λ more h. absurd cc) (λ s d w. refl) (token kind.Limit ∷ token kind.Number ∷ token kind.Do ∷ statements ∷ close ∷ statements ∷ s) depth width
        ∙ reads_statements f (close ∷ statements ∷ s)
    reads_statement (call {depth = depth} a) s w = reads_listed a (token kind.Semicolon ∷ statements ∷ s) depth width

    pub reads_statements : {depth : ℕ} {terminals rest : List Terminal} {xs : List Statement} → ReadsStatements width depth terminals xs rest → (s : List Want)
        → run width (kinds_of terminals) (statements ∷ s) depth width ≡ run width (kinds_of rest) (statements ∷ s) depth width
    reads_statements no_statement s = refl
    reads_statements (g.statements q r) s = reads_statement q s width ∙ reads_statements r s

    pub reads_else : {depth : ℕ} {terminals further rest : List Terminal} {xs : List Statement} {line : ℕ} → ReadsElse width depth terminals xs further → (s : List Want)
        → further ≡ fixed kind.End line ∷ rest
        → run width (kinds_of terminals) (statements ∷ otherwise ∷ close ∷ s) depth width ≡ run width (kinds_of rest) s (suc depth) width
    reads_else no_else s e = rw e refl
    reads_else (other q) s e = reads_statements q (close ∷ s) ∙ rw e refl

  -- ---- declarations
  reads_bound : {terminals rest : List Terminal} {v : _} → ReadsBound terminals v rest → (s : List Want) (d : ℕ)
      → run width (kinds_of terminals) (bound ∷ s) d width ≡ run width (kinds_of rest) s d width
  reads_bound unsigned s d = refl
  reads_bound signed s d = refl

  reads_range : {terminals rest : List Terminal} {x : Range} → ReadsRange terminals x rest → (s : List Want) (d : ℕ)
      → run width (kinds_of terminals) (bound ∷ token kind.Dots ∷ bound ∷ s) d width ≡ run width (kinds_of rest) s d width
  reads_range (g.range l h) s d = reads_bound l (token kind.Dots ∷ bound ∷ s) d ∙ reads_bound h s d

  reads_param : {terminals rest : List Terminal} {x : Param} → ReadsParam terminals x rest → (s : List Want) (d : ℕ)
      → run width (kinds_of terminals) (token kind.Name ∷ token kind.Colon ∷ bound ∷ token kind.Dots ∷ bound ∷ s) d width ≡ run width (kinds_of rest) s d width
  reads_param (param r) s d = reads_range r s d

  reads_more_params : {terminals rest : List Terminal} {xs : List Param} → ReadsCommas ReadsParam terminals xs rest → (s : List Want) (d : ℕ)
      → run width (kinds_of terminals) (token kind.Name ∷ token kind.Colon ∷ bound ∷ token kind.Dots ∷ bound ∷ more_params ∷ s) d width ≡ run width (kinds_of rest) s d width
  reads_more_params (last r) s d = reads_param r (more_params ∷ s) d
  reads_more_params (comma r q) s d = reads_param r (more_params ∷ s) d ∙ reads_more_params q s d

  params_begin : {terminals rest : List Terminal} {xs : List Param} → ReadsCommas ReadsParam terminals xs rest → (s : List Want) (d : ℕ)
      → run width (kinds_of terminals) (params ∷ s) d width ≡ run width (kinds_of terminals) (token kind.Name ∷ token kind.Colon ∷ bound ∷ token kind.Dots ∷ bound ∷ more_params ∷ s) d width
  params_begin (last (param r)) s d = refl
  params_begin (comma (param r) q) s d = refl

  reads_params : {terminals rest : List Terminal} {xs : List Param} → ReadsListed ReadsParam terminals xs rest → (s : List Want) (d : ℕ)
      → run width (kinds_of terminals) (params ∷ s) d width ≡ run width (kinds_of rest) s d width
  reads_params nothing s d = refl
  reads_params (things r) s d = params_begin r s d ∙ reads_more_params r s d

  reads_locals : {terminals rest : List Terminal} {xs : List Local} → ReadsAll ReadsLocal terminals xs rest → (s : List Want) (d : ℕ)
      → run width (kinds_of terminals) (locals ∷ s) d width ≡ run width (kinds_of rest) (locals ∷ s) d width
  reads_locals none s d = refl
  reads_locals (and_more (g.local r) q) s d = reads_param r (token kind.Semicolon ∷ locals ∷ s) d ∙ reads_locals q s d

  reads_declaration : {depth : ℕ} {terminals rest : List Terminal} {x : Declaration} → ReadsDeclaration depth width terminals x rest → (s : List Want)
      → run width (kinds_of terminals) (declarations ∷ s) depth width ≡ run width (kinds_of rest) (declarations ∷ s) depth width
  reads_declaration {depth} (var r) s = reads_param r (token kind.Semicolon ∷ declarations ∷ s) depth
  reads_declaration {depth} (array r) s = reads_range r (token kind.Semicolon ∷ declarations ∷ s) depth
  reads_declaration {depth} (proc p l b) s =
      reads_params p (locals ∷ token kind.Do ∷ statements ∷ token kind.End ∷ declarations ∷ s) depth
      ∙ reads_locals l (token kind.Do ∷ statements ∷ token kind.End ∷ declarations ∷ s) depth
      ∙ reads_statements b (token kind.End ∷ declarations ∷ s)

  reads_declarations : {depth : ℕ} {terminals rest : List Terminal} {xs : List Declaration} → ReadsAll (ReadsDeclaration depth width) terminals xs rest → (s : List Want)
      → run width (kinds_of terminals) (declarations ∷ s) depth width ≡ run width (kinds_of rest) (declarations ∷ s) depth width
  reads_declarations none s = refl
  reads_declarations (and_more r q) s = reads_declaration r s ∙ reads_declarations q s

  -- no statement begins a declaration
  declarations_end : {depth : ℕ} {terminals : List Terminal} {xs : List Statement} → ReadsStatements width depth terminals xs [] → (s : List Want)
      → run width (kinds_of terminals) (declarations ∷ statements ∷ s) depth width ≡ run width (kinds_of terminals) (statements ∷ s) depth width
  declarations_end no_statement s = refl
  declarations_end (g.statements (assign variable e) r) s = refl
  declarations_end (g.statements (assign (element_of p) e) r) s = refl
  declarations_end (g.statements (print e) r) s = refl
  declarations_end (g.statements (read p) r) s = refl
  declarations_end (g.statements (if_statement c f e) r) s = refl
  declarations_end (g.statements (for_statement a b f) r) s = refl
  declarations_end (g.statements (while_statement c f) r) s = refl
  declarations_end (g.statements (call a) r) s = refl

  pub reads_program : {depth : ℕ} {terminals : List Terminal} {program : Program} → Spells depth width terminals program
      → run width (kinds_of terminals) (declarations ∷ statements ∷ []) depth width ≡ spelled
  reads_program r = reads_declarations r.declarations (statements ∷ []) ∙ declarations_end r.statements [] ∙ reads_statements r.statements []
