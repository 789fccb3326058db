-- Which kinds of tokens may come next: a list of what is wanted, and how much more nesting is allowed.
use Rattle.std.specs.Prelude.{ℕ, zero, suc, Bool, true, false, List, [], ◌∷◌, ◌++◌, Option, Some, None, nat_eq, if◌then◌else◌}
use Rattle.source_lexer.specs.declared.token.TokenKind.{TokenKind}
use Rattle.source_lexer.specs.declared.token.TokenKind.TheVariants as kind
use Rattle.source_parser.specs.Grammar as g
use Rattle.source_parser.specs.Grammar.{Level, is_weighted}

-- What may be wanted next. A want without a comment is the thing of the grammar that it is named for.
pub data Want : Type 0 where
  -- a token of this kind, outside of expressions and in one
  token : TokenKind → Want
  inner : TokenKind → Want
  -- the `end` of an `if`, `for` or `while`
  close : Want
  -- nothing: an outermost expression ends
  fresh : Want
  outermost : Want
  sum : Want
  -- operators and what they join, after a first part; or nothing
  sum_tail : Want
  term : Want
  term_tail : Want
  factor : Want
  -- after a name in an expression: an index, or nothing
  index : Want
  comparison : Want
  -- after the `(` of a call: arguments, or none, and `)`
  listed : Want
  -- after an argument: more of them, and `)`
  commas : Want
  -- after the name of a place: an index, or nothing
  place_tail : Want
  -- after a name that begins a statement: the rest of an assignment or of a call
  after_name : Want
  statements : Want
  -- `else` and statements, or nothing
  otherwise : Want
  declarations : Want
  bound : Want
  -- after the `(` of a procedure: parameters, or none, and `)`
  params : Want
  -- after a parameter: more of them, and `)`
  more_params : Want
  locals : Want

-- ---- what a kind leads to
-- kinds are compared by their numbers
abbrev pub number_of : TokenKind → ℕ
number_of kind.Name = 0
number_of kind.Number = 1
number_of kind.Var = 2
number_of kind.Array = 3
number_of kind.Proc = 4
number_of kind.Do = 5
number_of kind.End = 6
number_of kind.Print = 7
number_of kind.Read = 8
number_of kind.If = 9
number_of kind.Then = 10
number_of kind.Else = 11
number_of kind.For = 12
number_of kind.To = 13
number_of kind.While = 14
number_of kind.Limit = 15
number_of kind.Div = 16
number_of kind.Mod = 17
number_of kind.Becomes = 18
number_of kind.Colon = 19
number_of kind.Semicolon = 20
number_of kind.Comma = 21
number_of kind.LeftParen = 22
number_of kind.RightParen = 23
number_of kind.LeftBracket = 24
number_of kind.RightBracket = 25
number_of kind.Dots = 26
number_of kind.Plus = 27
number_of kind.Minus = 28
number_of kind.Star = 29
number_of kind.Less = 30
number_of kind.LessEqual = 31
number_of kind.Greater = 32
number_of kind.GreaterEqual = 33
number_of kind.Equal = 34
number_of kind.NotEqual = 35

-- what is wanted after a kind that a factor begins with
abbrev pub after_factor : TokenKind → List Want → Option (List Want)
after_factor kind.Number s = Some s
after_factor kind.Name s = Some (index ∷ s)
after_factor kind.Minus s = Some (factor ∷ s)
after_factor kind.LeftParen s = Some (sum ∷ inner kind.RightParen ∷ s)
after_factor other s = None

-- a range
abbrev pub range : List Want → List Want
range s = bound ∷ token kind.Dots ∷ bound ∷ s

-- what is wanted after a kind with which the first thing wanted begins, others being wanted after that thing
abbrev pub expand : Want → TokenKind → List Want → Option (List Want)
expand (token k) other s = if nat_eq (number_of k) (number_of other) then Some s else None
expand (inner k) other s = if nat_eq (number_of k) (number_of other) then Some s else None
expand close kind.End s = Some s
expand outermost k s = after_factor k (term_tail ∷ sum_tail ∷ fresh ∷ s)
expand sum k s = after_factor k (term_tail ∷ sum_tail ∷ s)
expand term k s = after_factor k (term_tail ∷ s)
expand factor k s = after_factor k s
expand sum_tail kind.Plus s = Some (term ∷ sum_tail ∷ s)
expand sum_tail kind.Minus s = Some (term ∷ sum_tail ∷ s)
expand term_tail kind.Star s = Some (factor ∷ term_tail ∷ s)
expand term_tail kind.Div s = Some (factor ∷ term_tail ∷ s)
expand term_tail kind.Mod s = Some (factor ∷ term_tail ∷ s)
expand index kind.LeftBracket s = Some (sum ∷ inner kind.RightBracket ∷ s)
expand comparison kind.Less s = Some s
expand comparison kind.LessEqual s = Some s
expand comparison kind.Greater s = Some s
expand comparison kind.GreaterEqual s = Some s
expand comparison kind.Equal s = Some s
expand comparison kind.NotEqual s = Some s
expand listed kind.RightParen s = Some s
expand listed k s = after_factor k (term_tail ∷ sum_tail ∷ fresh ∷ commas ∷ s)
expand commas kind.Comma s = Some (outermost ∷ commas ∷ s)
expand commas kind.RightParen s = Some s
expand place_tail kind.LeftBracket s = Some (outermost ∷ token kind.RightBracket ∷ s)
expand after_name kind.LeftParen s = Some (listed ∷ token kind.Semicolon ∷ s)
expand after_name kind.LeftBracket s = Some (outermost ∷ token kind.RightBracket ∷ token kind.Becomes ∷ outermost ∷ token kind.Semicolon ∷ s)
expand after_name kind.Becomes s = Some (outermost ∷ token kind.Semicolon ∷ s)
expand statements kind.Print s = Some (outermost ∷ token kind.Semicolon ∷ statements ∷ s)
expand statements kind.Read s = Some (token kind.Name ∷ place_tail ∷ token kind.Semicolon ∷ statements ∷ s)
expand statements kind.If s = Some (outermost ∷ comparison ∷ outermost ∷ token kind.Then ∷ statements ∷ otherwise ∷ close ∷ statements ∷ s)
expand statements kind.For s =
    Some (token kind.Name ∷ token kind.Becomes ∷ outermost ∷ token kind.To ∷ outermost ∷ token kind.Do ∷ statements ∷ close ∷ statements ∷ s)
expand statements kind.While s =
    Some (outermost ∷ comparison ∷ outermost ∷ token kind.Limit ∷ token kind.Number ∷ token kind.Do ∷ statements ∷ close ∷ statements ∷ s)
expand statements kind.Name s = Some (after_name ∷ statements ∷ s)
expand otherwise kind.Else s = Some (statements ∷ s)
expand declarations kind.Var s = Some (token kind.Name ∷ token kind.Colon ∷ range (token kind.Semicolon ∷ declarations ∷ s))
expand declarations kind.Array s =
    Some (token kind.Name ∷ token kind.LeftBracket ∷ token kind.Number ∷ token kind.RightBracket ∷ token kind.Colon ∷ range (token kind.Semicolon ∷ declarations ∷ s))
expand declarations kind.Proc s =
    Some (token kind.Name ∷ token kind.LeftParen ∷ params ∷ locals ∷ token kind.Do ∷ statements ∷ token kind.End ∷ declarations ∷ s)
expand bound kind.Number s = Some s
expand bound kind.Minus s = Some (token kind.Number ∷ s)
expand params kind.RightParen s = Some s
expand params kind.Name s = Some (token kind.Colon ∷ range (more_params ∷ s))
expand more_params kind.Comma s = Some (token kind.Name ∷ token kind.Colon ∷ range (more_params ∷ s))
expand more_params kind.RightParen s = Some s
expand locals kind.Var s = Some (token kind.Name ∷ token kind.Colon ∷ range (token kind.Semicolon ∷ locals ∷ s))
expand want k s = None

-- whether nothing need be there
abbrev pub may_end : Want → Bool
may_end fresh = true
may_end sum_tail = true
may_end term_tail = true
may_end index = true
may_end place_tail = true
may_end statements = true
may_end otherwise = true
may_end declarations = true
may_end locals = true
may_end want = false

-- ---- the limits
-- What a kind costs: nothing, one of the weight of its outermost expression, or one of the depth, which the `end` gives back.
-- The `-` of a bound, the `[` of a place and the `(` of a call have no weight, since no want of an expression reads them.
pub data Price : Type 0 where
  free : Price
  weighs : Price
  opens : Price
  closes : Price

-- whether a want stands in an expression; all others allow the whole weight anew
abbrev pub in_expression : Want → Bool
in_expression (inner k) = true
in_expression sum = true
in_expression sum_tail = true
in_expression term = true
in_expression term_tail = true
in_expression factor = true
in_expression index = true
in_expression want = false

abbrev pub price : Want → TokenKind → Price
price statements kind.If = opens
price statements kind.For = opens
price statements kind.While = opens
price close k = closes
price outermost k = if is_weighted k then weighs else free
price listed k = if is_weighted k then weighs else free
price sum k = if is_weighted k then weighs else free
price sum_tail k = if is_weighted k then weighs else free
price term k = if is_weighted k then weighs else free
price term_tail k = if is_weighted k then weighs else free
price factor k = if is_weighted k then weighs else free
price index k = if is_weighted k then weighs else free
price want k = free

-- ---- a kind after the other
-- no such kind may come; it nests too deep; or it leads to further wants, with so much depth and weight left
pub data Move : Type 0 where
  stuck : Move
  deep : Move
  on : List Want → ℕ → ℕ → Move

abbrev pub pay : Price → List Want → ℕ → ℕ → Move
pay free s d w = on s d w
pay weighs s d zero = deep
pay weighs s d (suc w) = on s d w
pay opens s zero w = deep
pay opens s (suc d) w = on s d w
pay closes s d w = on s (suc d) w

abbrev pub left : ℕ → Want → ℕ → ℕ
left width want w = if in_expression want then w else width

abbrev pub moved : Option (List Want) → Bool → Price → Move → ℕ → ℕ → Move
moved (Some s) may price skipped d w = pay price s d w
moved None true price skipped d w = skipped
moved None false price skipped d w = stuck

abbrev pub step : ℕ → TokenKind → List Want → ℕ → ℕ → Move
step width k [] d w = stuck
step width k (want ∷ s) d w = moved (expand want k s) (may_end want) (price want k) (step width k s d (left width want w)) d (left width want w)

-- The kinds to the last are what is wanted; or the kinds from some one on: that is not wanted, or nests too deep.
pub data Outcome : Type 0 where
  spelled : Outcome
  stopped : List TokenKind → Outcome
  too_deep : List TokenKind → Outcome

-- what kinds come to that end here
abbrev pub finish : List Want → Outcome
finish [] = spelled
finish (want ∷ s) = if may_end want then finish s else stopped []

-- what kinds come to, where so much is wanted
abbrev pub run : ℕ → List TokenKind → List Want → ℕ → ℕ → Outcome
run width [] s d w = finish s
run width (k ∷ ks) s d w = elim (step width k s d w) [ stuck ↦ stopped (k ∷ ks) | deep ↦ too_deep (k ∷ ks) | on s' d' w' ↦ run width ks s' d' w' ]

-- ---- what is wanted of an expression of a level
abbrev pub wanted : Level → Want
wanted g.factor = factor
wanted g.term = term
wanted g.sum = sum

-- ---- what is wanted of things that begin with no want of their own
abbrev pub range_wanted : List Want
range_wanted = bound ∷ token kind.Dots ∷ bound ∷ []

abbrev pub param_wanted : List Want
param_wanted = token kind.Name ∷ token kind.Colon ∷ range_wanted

abbrev pub condition_wanted : List Want
condition_wanted = outermost ∷ comparison ∷ outermost ∷ []

-- the same after the first word of an `if`, a `for` and a `while`
abbrev pub if_wanted : List Want
if_wanted = condition_wanted ++ token kind.Then ∷ statements ∷ otherwise ∷ close ∷ []

abbrev pub for_wanted : List Want
for_wanted = token kind.Name ∷ token kind.Becomes ∷ outermost ∷ token kind.To ∷ outermost ∷ token kind.Do ∷ statements ∷ close ∷ []

abbrev pub while_wanted : List Want
while_wanted = condition_wanted ++ token kind.Limit ∷ token kind.Number ∷ token kind.Do ∷ statements ∷ close ∷ []

-- the same after the first word of an array and of a procedure
abbrev pub array_wanted : List Want
array_wanted = token kind.Name ∷ token kind.LeftBracket ∷ token kind.Number ∷ token kind.RightBracket ∷ token kind.Colon ∷ range_wanted ++ token kind.Semicolon ∷ []

abbrev pub proc_wanted : List Want
proc_wanted = token kind.Name ∷ token kind.LeftParen ∷ params ∷ locals ∷ token kind.Do ∷ statements ∷ token kind.End ∷ []
