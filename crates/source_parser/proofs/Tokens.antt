-- What a token in front says of the terminals.
use Rattle.std.proofs.Common.{◌≡◌, ℕ, List, [], ◌∷◌, refl, ap, ◌∙◌}
use Rattle.std.specs.List.{All, slice_get, slice_range}
use Rattle.std.specs.Prelude.{Some, None}
use Rattle.std.proofs.lemmas.List.Elements.{All-rest}
use Rattle.source_lexer.specs.declared.token.TokenKind.{TokenKind}
use Rattle.source_lexer.specs.declared.token.TokenKind.TheVariants.{Name, Number}
use Rattle.source_lexer.specs.declared.token.Token.{Token}
use Rattle.source_lexer.specs.Placed.{IsPlaced}
use Rattle.source_parser.specs.Terminals.{Terminal, fixed, kinds_of, terminal_by, terminal_of, terminals_of}
use Rattle.source_parser.proofs.KindNumbers.{kinds_of_tokens}
use Rattle.source_parser.specs.Taking.{IsFixed, NotKind}

fixed_terminal : (kind : TokenKind) (bytes : List ℕ) (line : ℕ) → IsFixed kind → terminal_by kind bytes line ≡ fixed kind line
fixed_terminal Name bytes line h = absurd h
fixed_terminal Number bytes line h = absurd h
fixed_terminal kind bytes line h = refl

-- the first token, and those after it
pub first_some : (tokens : List Token) (token : Token) → Some token ≡ slice_get tokens 0 → (rest : List Token) × (tokens ≡ token ∷ rest)
first_some [] token h = absurd cc
first_some (first ∷ rest) token h = (rest, let same : token ≡ first = cc in rw same refl)

pub first_none : (tokens : List Token) → None ≡ slice_get tokens 0 → tokens ≡ []
first_none [] h = refl
first_none (first ∷ rest) h = absurd cc

pub placed_rest : (text : List ℕ) (tokens : List Token) (token : Token) (rest : List Token) → All (IsPlaced text) tokens → tokens ≡ token ∷ rest → All (IsPlaced text) rest
placed_rest text tokens token rest each parts = All-rest (IsPlaced text) token rest tokens parts each

-- a keyword or a symbol in front
pub fixed_found : (text : List ℕ) (tokens : List Token) (token : Token) (rest : List Token) (kind : TokenKind)
    → tokens ≡ token ∷ rest → IsFixed kind → token.kind ≡ kind → terminals_of text tokens ≡ fixed kind token.line ∷ terminals_of text rest
fixed_found text tokens token rest kind parts is_fixed same =
    let head : terminal_of text token ≡ fixed kind token.line = rw same (fixed_terminal kind (slice_range text token.start token.end) token.line is_fixed) in
    ap (terminals_of text) parts ∙ ap (λ (s : Terminal). s ∷ terminals_of text rest) head

-- another kind in front, or none
pub missed : (text : List ℕ) (tokens : List Token) (token : Token) (rest : List Token) (kind : TokenKind)
    → tokens ≡ token ∷ rest → (token.kind ≡ kind → ⊥) → NotKind kind (kinds_of (terminals_of text tokens))
missed text tokens token rest kind parts other behind h =
    let kinds = kinds_of_tokens text tokens in
    other cc

pub past_end : (kind : TokenKind) (terminals : List Terminal) → terminals ≡ [] → NotKind kind (kinds_of terminals)
past_end kind terminals none rest h = let empty : kinds_of terminals ≡ [] = ap kinds_of none in absurd cc
