-- Where a want may come first, and where what it wants leads.
use Rattle.std.proofs.Common.{◌≡◌, ℕ, zero, suc, ◌+◌, ◌≤◌, List, [], ◌∷◌}
use Rattle.source_lexer.specs.declared.token.TokenKind.{TokenKind}
use Rattle.source_lexer.specs.declared.token.TokenKind.TheVariants as kind
use Rattle.source_parser.specs.Counting.{Standing, outside, after_a_name, inside, weight_of}
use Rattle.source_parser.specs.Wants.{Want, token, inner, close, fresh, outermost, sum, sum_tail, term, term_tail, factor, index, comparison, listed, commas, place_tail, after_name, statements, otherwise, declarations, bound, params, more_params, locals}

-- outside, and after a name there; at the start of an outermost expression, in it, and after it; anywhere
pub data Class : Type 0 where
  out : Class
  named : Class
  start : Class
  during : Class
  done : Class
  anywhere : Class

-- In an expression what is counted and what is left make the width.
abbrev pub Placed : ℕ → Class → Standing → ℕ → Type 0
Placed width out outside w = Unit {0}
Placed width named after_a_name w = Unit {0}
Placed width start (inside zero) w = Unit {0}
Placed width start (inside (suc n)) w = ⊥
Placed width during (inside n) w = n + w ≡ width
Placed width done (inside n) w = n ≤ width
Placed width anywhere x w = weight_of x ≤ width
Placed width c x w = ⊥

abbrev pub Within : Class → Class → Type 0
Within c anywhere = Unit {0}
Within out out = Unit {0}
Within named named = Unit {0}
Within start start = Unit {0}
Within during during = Unit {0}
Within done done = Unit {0}
Within c e = ⊥

abbrev pub needs_token : TokenKind → Class
needs_token kind.Name = out
needs_token kind.LeftParen = named
needs_token kind.LeftBracket = named
needs_token k = anywhere

abbrev pub leaves_token : TokenKind → Class → Class
leaves_token kind.Name c = named
leaves_token kind.LeftParen c = start
leaves_token kind.LeftBracket c = start
leaves_token kind.Becomes c = start
leaves_token kind.To c = start
leaves_token kind.Colon c = out
leaves_token kind.Dots c = out
leaves_token kind.Semicolon c = out
leaves_token kind.Then c = out
leaves_token kind.Do c = out
leaves_token kind.Limit c = out
leaves_token kind.End c = out
leaves_token kind.Number out = out
leaves_token k c = anywhere

abbrev pub needs : Want → Class
needs (token k) = needs_token k
needs (inner k) = during
needs close = out
needs fresh = during
needs outermost = start
needs sum = during
needs sum_tail = during
needs term = during
needs term_tail = during
needs factor = during
needs index = during
needs comparison = done
needs listed = start
needs commas = done
needs place_tail = named
needs after_name = named
needs statements = out
needs otherwise = out
needs declarations = out
needs bound = out
needs params = start
needs more_params = out
needs locals = anywhere

abbrev pub leaves : Want → Class → Class
leaves (token k) c = leaves_token k c
leaves (inner k) c = during
leaves close c = out
leaves fresh c = done
leaves outermost c = done
leaves sum c = during
leaves sum_tail c = during
leaves term c = during
leaves term_tail c = during
leaves factor c = during
leaves index c = during
leaves comparison c = start
leaves listed c = anywhere
leaves commas c = anywhere
leaves place_tail c = anywhere
leaves after_name c = out
leaves statements c = out
leaves otherwise c = out
leaves declarations c = out
leaves bound c = out
leaves params c = anywhere
leaves more_params c = anywhere
leaves locals c = anywhere

-- how many `end` of `if`, `for` and `while` are wanted
abbrev pub closes : List Want → ℕ
closes [] = 0
closes (close ∷ s) = suc (closes s)
closes (want ∷ s) = closes s

-- A procedure ends, and declarations stand, only where no block is open. No kind that opens a block or has weight is wanted
-- by itself.
abbrev pub Alone : TokenKind → ℕ → Type 0
Alone kind.End n = n ≡ 0
Alone kind.If n = ⊥
Alone kind.For n = ⊥
Alone kind.While n = ⊥
Alone kind.Plus n = ⊥
Alone kind.Minus n = ⊥
Alone kind.Star n = ⊥
Alone kind.Div n = ⊥
Alone kind.Mod n = ⊥
Alone k n = Unit {0}

abbrev pub Level : Want → ℕ → Type 0
Level (token k) n = Alone k n
Level (inner kind.RightParen) n = Unit {0}
Level (inner kind.RightBracket) n = Unit {0}
Level (inner k) n = ⊥
Level declarations n = n ≡ 0
Level want n = Unit {0}

-- each want may come where those before it lead
abbrev pub Chain : Class → List Want → Type 0
Chain c [] = Unit {0}
Chain c (want ∷ s) = Within c (needs want) × Level want (closes s) × Chain (leaves want c) s
