-- Kinds of tokens by their numbers, and a terminal of each.
use Rattle.std.proofs.Common.{◌≡◌, ℕ, List, [], ◌∷◌, true, refl, ap, sym, ◌∙◌, nat_eq, if◌then◌else◌}
use Rattle.std.proofs.lemmas.Bool.{eqb-true}
use Rattle.std.specs.Prelude.{slice_range}
use Rattle.source_lexer.specs.declared.token.TokenKind.{TokenKind}
use Rattle.source_lexer.specs.declared.token.TokenKind.TheVariants as kind
use Rattle.source_lexer.specs.declared.token.Token.{Token}
use Rattle.source_parser.specs.Terminals.{Terminal, terminal_by, terminals_of, kind_of, kinds_of, token_kinds}
use Rattle.source_parser.specs.Wants.{number_of}

-- ---- numbers
kind_of_number : ℕ → TokenKind
kind_of_number n =
    if nat_eq n 0 then kind.Name else (if nat_eq n 1 then kind.Number else (if nat_eq n 2 then kind.Var else (if nat_eq n 3 then kind.Array else (
    if nat_eq n 4 then kind.Proc else (if nat_eq n 5 then kind.Do else (if nat_eq n 6 then kind.End else (if nat_eq n 7 then kind.Print else (
    if nat_eq n 8 then kind.Read else (if nat_eq n 9 then kind.If else (if nat_eq n 10 then kind.Then else (if nat_eq n 11 then kind.Else else (
    if nat_eq n 12 then kind.For else (if nat_eq n 13 then kind.To else (if nat_eq n 14 then kind.While else (if nat_eq n 15 then kind.Limit else (
    if nat_eq n 16 then kind.Div else (if nat_eq n 17 then kind.Mod else (if nat_eq n 18 then kind.Becomes else (if nat_eq n 19 then kind.Colon else (
    if nat_eq n 20 then kind.Semicolon else (if nat_eq n 21 then kind.Comma else (if nat_eq n 22 then kind.LeftParen else (if nat_eq n 23 then kind.RightParen else (
    if nat_eq n 24 then kind.LeftBracket else (if nat_eq n 25 then kind.RightBracket else (if nat_eq n 26 then kind.Dots else (if nat_eq n 27 then kind.Plus else (
    if nat_eq n 28 then kind.Minus else (if nat_eq n 29 then kind.Star else (if nat_eq n 30 then kind.Less else (if nat_eq n 31 then kind.LessEqual else (
    if nat_eq n 32 then kind.Greater else (if nat_eq n 33 then kind.GreaterEqual else (if nat_eq n 34 then kind.Equal else kind.NotEqual))))))))))))))))))))))))))))))))))

kind_back : (k : TokenKind) → kind_of_number (number_of k) ≡ k
unfolding kind_of_number
kind_back kind.Number = refl
kind_back k = refl

pub same_kind : (a b : TokenKind) → nat_eq (number_of a) (number_of b) ≡ true → a ≡ b
same_kind a b h = sym (kind_back a) ∙ ap kind_of_number (eqb-true (number_of a) (number_of b) h) ∙ kind_back b

-- ---- a terminal of a kind
abbrev pub plain : TokenKind → Terminal
plain kind = terminal_by kind [] 0

abbrev pub plains : List TokenKind → List Terminal
plains [] = []
plains (k ∷ ks) = plain k ∷ plains ks

kind_of_terminal : (k : TokenKind) (bytes : List ℕ) (line : ℕ) → kind_of (terminal_by k bytes line) ≡ k
kind_of_terminal kind.Number bytes line = refl
kind_of_terminal k bytes line = refl

pub kinds_plain : (ks : List TokenKind) → kinds_of (plains ks) ≡ ks
kinds_plain [] = refl
kinds_plain (k ∷ ks) = ap (λ (x : TokenKind). x ∷ kinds_of (plains ks)) (kind_of_terminal k [] 0) ∙ ap (λ (xs : List TokenKind). k ∷ xs) (kinds_plain ks)

-- ---- tokens
pub kinds_of_tokens : (text : List ℕ) (tokens : List Token) → kinds_of (terminals_of text tokens) ≡ token_kinds tokens
kinds_of_tokens text [] = refl
kinds_of_tokens text (t ∷ tokens) =
    ap (λ (x : TokenKind). x ∷ kinds_of (terminals_of text tokens)) (kind_of_terminal t.kind (slice_range text t.start t.end) t.line)
    ∙ ap (λ (xs : List TokenKind). t.kind ∷ xs) (kinds_of_tokens text tokens)
