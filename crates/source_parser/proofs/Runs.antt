-- What the kinds in front make of what is wanted first.
use Rattle.std.proofs.Common.{◌≡◌, ℕ, List, [], ◌∷◌, refl}
use Rattle.source_lexer.specs.declared.token.TokenKind.{TokenKind}
use Rattle.source_lexer.specs.declared.token.TokenKind.TheVariants as kind
use Rattle.source_tree.specs.declared.expression.Comparison.{Comparison}
use Rattle.source_parser.specs.Grammar.{Compares, less, less_equal, greater, greater_equal, equal, not_equal}
use Rattle.source_parser.specs.Taking.{NotKind}
use Rattle.source_parser.specs.Wants.{Want, token, fresh, outermost, sum, sum_tail, term, term_tail, factor, index, comparison, listed, commas, place_tail, after_name, statements, otherwise, declarations, bound, params, more_params, locals, run, stopped}

module _ (width : ℕ) (s : List Want) (d w : ℕ) where
  -- ---- expressions
  pub term_begins : (ks : List TokenKind) → run width ks (term ∷ s) d w ≡ run width ks (factor ∷ term_tail ∷ s) d w
  term_begins [] = refl
  term_begins (kind.Number ∷ ks) = refl
  term_begins (k ∷ ks) = refl

  pub sum_begins : (ks : List TokenKind) → run width ks (sum ∷ s) d w ≡ run width ks (term ∷ sum_tail ∷ s) d w
  sum_begins [] = refl
  sum_begins (kind.Number ∷ ks) = refl
  sum_begins (k ∷ ks) = refl

  pub outermost_begins : (ks : List TokenKind) → run width ks (outermost ∷ s) d w ≡ run width ks (sum ∷ fresh ∷ s) d width
  outermost_begins [] = refl
  outermost_begins (kind.Number ∷ ks) = refl
  outermost_begins (k ∷ ks) = refl

  pub listed_begins : (ks : List TokenKind) → NotKind kind.RightParen ks → run width ks (listed ∷ s) d w ≡ run width ks (outermost ∷ commas ∷ s) d w
  listed_begins [] not = refl
  listed_begins (kind.RightParen ∷ ks) not = absurd (not ks refl)
  listed_begins (kind.Number ∷ ks) not = refl
  listed_begins (k ∷ ks) not = refl

  pub fresh_ends : (ks : List TokenKind) → run width ks (fresh ∷ s) d w ≡ run width ks s d width
  fresh_ends [] = refl
  fresh_ends (k ∷ ks) = refl

  pub index_ends : (ks : List TokenKind) → NotKind kind.LeftBracket ks → run width ks (index ∷ s) d w ≡ run width ks s d w
  index_ends [] not = refl
  index_ends (kind.LeftBracket ∷ ks) not = absurd (not ks refl)
  index_ends (k ∷ ks) not = refl

  pub no_factor : (ks : List TokenKind) → NotKind kind.Minus ks → NotKind kind.LeftParen ks → NotKind kind.Number ks → NotKind kind.Name ks → run width ks (factor ∷ s) d w ≡ stopped ks
  no_factor [] a b c e = refl
  no_factor (kind.Minus ∷ ks) a b c e = absurd (a ks refl)
  no_factor (kind.LeftParen ∷ ks) a b c e = absurd (b ks refl)
  no_factor (kind.Number ∷ ks) a b c e = absurd (c ks refl)
  no_factor (kind.Name ∷ ks) a b c e = absurd (e ks refl)
  no_factor (k ∷ ks) a b c e = refl

  -- ---- between expressions
  pub commas_stop : (ks : List TokenKind) → NotKind kind.Comma ks → NotKind kind.RightParen ks → run width ks (commas ∷ s) d w ≡ stopped ks
  commas_stop [] a b = refl
  commas_stop (kind.Comma ∷ ks) a b = absurd (a ks refl)
  commas_stop (kind.RightParen ∷ ks) a b = absurd (b ks refl)
  commas_stop (k ∷ ks) a b = refl

  pub place_ends : (ks : List TokenKind) → NotKind kind.LeftBracket ks → run width ks (place_tail ∷ s) d w ≡ run width ks s d width
  place_ends [] not = refl
  place_ends (kind.LeftBracket ∷ ks) not = absurd (not ks refl)
  place_ends (k ∷ ks) not = refl

  -- ---- statements
  pub statements_end : (ks : List TokenKind) → NotKind kind.Print ks → NotKind kind.Read ks → NotKind kind.If ks → NotKind kind.For ks → NotKind kind.While ks → NotKind kind.Name ks
      → run width ks (statements ∷ s) d w ≡ run width ks s d width
  statements_end [] a b c e f h = refl
  statements_end (kind.Print ∷ ks) a b c e f h = absurd (a ks refl)
  statements_end (kind.Read ∷ ks) a b c e f h = absurd (b ks refl)
  statements_end (kind.If ∷ ks) a b c e f h = absurd (c ks refl)
  statements_end (kind.For ∷ ks) a b c e f h = absurd (e ks refl)
  statements_end (kind.While ∷ ks) a b c e f h = absurd (f ks refl)
  statements_end (kind.Name ∷ ks) a b c e f h = absurd (h ks refl)
  statements_end (k ∷ ks) a b c e f h = refl

  pub else_ends : (ks : List TokenKind) → NotKind kind.Else ks → run width ks (otherwise ∷ s) d w ≡ run width ks s d width
  else_ends [] not = refl
  else_ends (kind.Else ∷ ks) not = absurd (not ks refl)
  else_ends (k ∷ ks) not = refl

  -- ---- declarations
  pub declarations_end : (ks : List TokenKind) → NotKind kind.Var ks → NotKind kind.Array ks → NotKind kind.Proc ks → run width ks (declarations ∷ s) d w ≡ run width ks s d width
  declarations_end [] a b c = refl
  declarations_end (kind.Var ∷ ks) a b c = absurd (a ks refl)
  declarations_end (kind.Array ∷ ks) a b c = absurd (b ks refl)
  declarations_end (kind.Proc ∷ ks) a b c = absurd (c ks refl)
  declarations_end (k ∷ ks) a b c = refl

  pub locals_end : (ks : List TokenKind) → NotKind kind.Var ks → run width ks (locals ∷ s) d w ≡ run width ks s d width
  locals_end [] not = refl
  locals_end (kind.Var ∷ ks) not = absurd (not ks refl)
  locals_end (k ∷ ks) not = refl

  pub unsigned : (ks : List TokenKind) → NotKind kind.Minus ks → run width ks (bound ∷ s) d w ≡ run width ks (token kind.Number ∷ s) d w
  unsigned [] not = refl
  unsigned (kind.Minus ∷ ks) not = absurd (not ks refl)
  unsigned (kind.Number ∷ ks) not = refl
  unsigned (k ∷ ks) not = refl

  -- after the `(` of a procedure a parameter begins like any other, unless `)` stands there
  pub params_begin : (ks : List TokenKind) → NotKind kind.RightParen ks
      → run width ks (params ∷ s) d w ≡ run width ks (token kind.Name ∷ token kind.Colon ∷ bound ∷ token kind.Dots ∷ bound ∷ more_params ∷ s) d w
  params_begin [] not = refl
  params_begin (kind.RightParen ∷ ks) not = absurd (not ks refl)
  params_begin (kind.Name ∷ ks) not = refl
  params_begin (k ∷ ks) not = refl

  pub params_stop : (ks : List TokenKind) → NotKind kind.Comma ks → NotKind kind.RightParen ks → run width ks (more_params ∷ s) d w ≡ stopped ks
  params_stop [] a b = refl
  params_stop (kind.Comma ∷ ks) a b = absurd (a ks refl)
  params_stop (kind.RightParen ∷ ks) a b = absurd (b ks refl)
  params_stop (k ∷ ks) a b = refl

  pub comparison_stops : (ks : List TokenKind) → ((sign : TokenKind) (test : Comparison) → Compares sign test → NotKind sign ks) → run width ks (comparison ∷ s) d w ≡ stopped ks
  comparison_stops [] not = refl
  comparison_stops (kind.Less ∷ ks) not = absurd (not _ _ less ks refl)
  comparison_stops (kind.LessEqual ∷ ks) not = absurd (not _ _ less_equal ks refl)
  comparison_stops (kind.Greater ∷ ks) not = absurd (not _ _ greater ks refl)
  comparison_stops (kind.GreaterEqual ∷ ks) not = absurd (not _ _ greater_equal ks refl)
  comparison_stops (kind.Equal ∷ ks) not = absurd (not _ _ equal ks refl)
  comparison_stops (kind.NotEqual ∷ ks) not = absurd (not _ _ not_equal ks refl)
  comparison_stops (k ∷ ks) not = refl

  pub comparison_goes : {sign : TokenKind} {test : Comparison} → Compares sign test → (ks : List TokenKind) → run width (sign ∷ ks) (comparison ∷ s) d w ≡ run width ks s d width
  comparison_goes less ks = refl
  comparison_goes less_equal ks = refl
  comparison_goes greater ks = refl
  comparison_goes greater_equal ks = refl
  comparison_goes equal ks = refl
  comparison_goes not_equal ks = refl

  -- after a name that begins a statement and before no `(`: a place, and what is assigned to it
  pub place_begins : (ks : List TokenKind) → NotKind kind.LeftParen ks
      → run width ks (after_name ∷ s) d w ≡ run width ks (place_tail ∷ token kind.Becomes ∷ outermost ∷ token kind.Semicolon ∷ s) d w
  place_begins [] not = refl
  place_begins (kind.LeftParen ∷ ks) not = absurd (not ks refl)
  place_begins (kind.LeftBracket ∷ ks) not = refl
  place_begins (kind.Becomes ∷ ks) not = refl
  place_begins (k ∷ ks) not = refl
