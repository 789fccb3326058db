-- What the limits of nesting limit, counted from one kind of token to the next.
use Rattle.std.specs.Prelude.{ℕ, zero, suc, ◌<◌, ◌⊎◌, List, [], ◌∷◌}
use Rattle.source_lexer.specs.declared.token.TokenKind.{TokenKind}
use Rattle.source_lexer.specs.declared.token.TokenKind.TheVariants as kind

-- how many `if`, `for` and `while` are open
abbrev pub blocks_after : ℕ → TokenKind → ℕ
blocks_after n kind.If = suc n
blocks_after n kind.For = suc n
blocks_after n kind.While = suc n
blocks_after zero kind.End = zero
blocks_after (suc n) kind.End = n
blocks_after n kind = n

-- outside of expressions, and after no name there; there, after a name; or in an outermost expression, after so many of
-- its tokens `+`, `-`, `*`, `div`, `mod`, `(` and `[`
pub data Standing : Type 0 where
  outside : Standing
  after_a_name : Standing
  inside : ℕ → Standing

-- An outermost expression begins after `print`, `if`, `while`, `:=` and `to`, and after a bracket that follows a name
-- outside of expressions. A comparison or a comma in it begins the next, and what can't stand in an expression ends it.
abbrev pub standing_after : Standing → TokenKind → Standing
standing_after x kind.Print = inside 0
standing_after x kind.If = inside 0
standing_after x kind.While = inside 0
standing_after x kind.Becomes = inside 0
standing_after x kind.To = inside 0
standing_after outside kind.Name = after_a_name
standing_after after_a_name kind.LeftParen = inside 0
standing_after after_a_name kind.LeftBracket = inside 0
standing_after (inside n) kind.Name = inside n
standing_after (inside n) kind.Number = inside n
standing_after (inside n) kind.RightParen = inside n
standing_after (inside n) kind.RightBracket = inside n
standing_after (inside n) kind.Plus = inside (suc n)
standing_after (inside n) kind.Minus = inside (suc n)
standing_after (inside n) kind.Star = inside (suc n)
standing_after (inside n) kind.Div = inside (suc n)
standing_after (inside n) kind.Mod = inside (suc n)
standing_after (inside n) kind.LeftParen = inside (suc n)
standing_after (inside n) kind.LeftBracket = inside (suc n)
standing_after (inside n) kind.Less = inside 0
standing_after (inside n) kind.LessEqual = inside 0
standing_after (inside n) kind.Greater = inside 0
standing_after (inside n) kind.GreaterEqual = inside 0
standing_after (inside n) kind.Equal = inside 0
standing_after (inside n) kind.NotEqual = inside 0
standing_after (inside n) kind.Comma = inside 0
standing_after x kind = outside

abbrev pub weight_of : Standing → ℕ
weight_of (inside n) = n
weight_of x = 0

-- both, over all the kinds
pub record Count : Type 0 where
  pub blocks : ℕ
  pub standing : Standing

abbrev pub counted : Count → List TokenKind → Count
counted count [] = count
counted count (kind ∷ kinds) = counted (record { blocks = blocks_after count.blocks kind; standing = standing_after count.standing kind }) kinds

abbrev pub count_of : List TokenKind → Count
count_of kinds = counted (record { blocks = 0; standing = outside }) kinds

-- more than the limits allow
abbrev pub IsOver : ℕ → ℕ → Count → Type 0
IsOver depth width count = (depth < count.blocks) ⊎ (width < weight_of count.standing)
