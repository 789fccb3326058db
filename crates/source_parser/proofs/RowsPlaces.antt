-- Worked rows of places: mistakes that people make, and the limits.
use Rattle.std.specs.Prelude.{[], ◌∷◌, ◌++◌, replicate}
use Rattle.std.proofs.Common.{refl}
use Rattle.source_lexer.specs.declared.token.TokenKind.TheVariants as kind
use Rattle.source_parser.specs.Limits.{depth_limit, weight_limit}
use Rattle.source_parser.specs.Prefixes.{StopsAt, DeepAt}
use Rattle.source_parser.proofs.Places.{stops_at, deep_at}

-- var x 0..9;
pub no_colon : StopsAt depth_limit weight_limit (kind.Var ∷ kind.Name ∷ kind.Number ∷ kind.Dots ∷ kind.Number ∷ kind.Semicolon ∷ []) 2
no_colon = stops_at depth_limit weight_limit _ (kind.Number ∷ kind.Dots ∷ kind.Number ∷ kind.Semicolon ∷ []) refl

-- print 1
pub no_semicolon : StopsAt depth_limit weight_limit (kind.Print ∷ kind.Number ∷ []) 2
no_semicolon = stops_at depth_limit weight_limit _ [] refl

-- x = 1;
pub equal_for_becomes : StopsAt depth_limit weight_limit (kind.Name ∷ kind.Equal ∷ kind.Number ∷ kind.Semicolon ∷ []) 1
equal_for_becomes = stops_at depth_limit weight_limit _ (kind.Equal ∷ kind.Number ∷ kind.Semicolon ∷ []) refl

-- if 1 then end
pub no_comparison : StopsAt depth_limit weight_limit (kind.If ∷ kind.Number ∷ kind.Then ∷ kind.End ∷ []) 2
no_comparison = stops_at depth_limit weight_limit _ (kind.Then ∷ kind.End ∷ []) refl

-- a fourth `-` in a condition, where three may stand
pub too_many_signs : DeepAt 64 3 (kind.If ∷ kind.Minus ∷ kind.Minus ∷ kind.Minus ∷ kind.Minus ∷ []) 4
too_many_signs = deep_at 64 3 _ (kind.Minus ∷ []) refl

-- while 1 < 1 limit 1 do if, where one block may be open
pub too_many_blocks : DeepAt 1 200 (kind.While ∷ kind.Number ∷ kind.Less ∷ kind.Number ∷ kind.Limit ∷ kind.Number ∷ kind.Do ∷ kind.If ∷ []) 7
too_many_blocks = deep_at 1 200 _ (kind.If ∷ []) refl

-- var x: -1..-1; print -, where one `-` may stand in an expression
pub signs_of_bounds : StopsAt 64 1 (kind.Var ∷ kind.Name ∷ kind.Colon ∷ kind.Minus ∷ kind.Number ∷ kind.Dots ∷ kind.Minus ∷ kind.Number ∷ kind.Semicolon ∷ kind.Print ∷ kind.Minus ∷ []) 11
signs_of_bounds = stops_at 64 1 _ [] refl

-- else
pub else_alone : StopsAt depth_limit weight_limit (kind.Else ∷ []) 0
else_alone = stops_at depth_limit weight_limit _ (kind.Else ∷ []) refl

-- print - *, where one sign may stand: the second stops before it is too deep
pub stops_before_deep : StopsAt 64 1 (kind.Print ∷ kind.Minus ∷ kind.Star ∷ []) 2
stops_before_deep = stops_at 64 1 _ (kind.Star ∷ []) refl

-- print, 201 times `(`, 1, 201 times `)`, ;
pub too_many_brackets : DeepAt depth_limit weight_limit (kind.Print ∷ replicate 201 kind.LeftParen ++ kind.Number ∷ replicate 201 kind.RightParen ++ kind.Semicolon ∷ []) 201
too_many_brackets = deep_at depth_limit weight_limit _ (kind.LeftParen ∷ kind.Number ∷ replicate 201 kind.RightParen ++ kind.Semicolon ∷ []) refl
