-- What a token in front says of the symbols.
use Rattle.std.proofs.Common.{◌≡◌, ℕ, ◌<◌, List, [], ◌∷◌, ◌++◌, length, refl, sym, ap, ◌∙◌, arith}
use Rattle.std.specs.List.{All, slice_range}
use Rattle.std.specs.Prelude.{Option, Some, None, option_map, is_some, Bool, true, false, ◌==◌}
use Rattle.std.proofs.lemmas.Bool.{false≢true}
use Rattle.std.proofs.lemmas.List.{length-map, length-append}
use Rattle.std.proofs.lemmas.List.Elements.{All-rest}
use Rattle.plain_text.specs.Digits.{value_of_digits}
use Rattle.source_lexer.specs.declared.token.TokenKind.{TokenKind}
use Rattle.source_lexer.specs.declared.token.TokenKind.TheVariants.{Name, Number}
use Rattle.source_lexer.specs.declared.token.Token.{Token}
use Rattle.thin_source.specs.ThinGrammar.{Symbol, word, numeral, mark, symbol_by, symbol_of, symbols_of, IsTokenOf}
use Rattle.thin_source.specs.ThinFronts.{IsMark, FindsMark, Finds, NameFront, NumberFront}

mark_symbol : (kind : TokenKind) (bytes : List ℕ) → IsMark kind → symbol_by kind bytes ≡ mark kind
mark_symbol Name bytes h = absurd h
mark_symbol Number bytes h = absurd h
mark_symbol kind bytes h = refl

kind_from_mark : (kind other : TokenKind) (bytes : List ℕ) → symbol_by kind bytes ≡ mark other → kind ≡ other
kind_from_mark Name other bytes h = absurd cc
kind_from_mark Number other bytes h = absurd cc
kind_from_mark kind other bytes h = cc

pub mark_found : (kind : TokenKind) (text : List ℕ) (tokens : List Token) (token : Token) (rest : List Token) → IsMark kind → All (IsTokenOf text) tokens
    → tokens ≡ token ∷ rest → token.kind ≡ kind → FindsMark kind text tokens (Some rest)
mark_found kind text tokens token rest is_mark each parts same =
    let head : symbol_of text token ≡ mark kind = rw same (mark_symbol kind (slice_range text token.start token.end) is_mark) in
    (ap (symbols_of text) parts ∙ ap (λ (s : Symbol). s ∷ symbols_of text rest) head, All-rest (IsTokenOf text) token rest tokens parts each)

pub mark_missed : (kind : TokenKind) (text : List ℕ) (tokens : List Token) (token : Token) (rest : List Token)
    → tokens ≡ token ∷ rest → (token.kind ≡ kind → ⊥) → FindsMark kind text tokens None
mark_missed kind text tokens token rest parts other symbols h =
    let whole : symbols_of text tokens ≡ symbol_of text token ∷ symbols_of text rest = ap (symbols_of text) parts in
    let head : symbol_of text token ≡ mark kind = cc in
    other (kind_from_mark token.kind kind (slice_range text token.start token.end) head)

-- a name in front
pub name_found : (text : List ℕ) (tokens : List Token) (token : Token) (rest : List Token) → All (IsTokenOf text) tokens → tokens ≡ token ∷ rest → token.kind ≡ Name
    → Finds NameFront text tokens (Some (slice_range text token.start token.end, rest))
name_found text tokens token rest each parts same =
    let head : symbol_of text token ≡ word (slice_range text token.start token.end) = rw same refl in
    (ap (symbols_of text) parts ∙ ap (λ (s : Symbol). s ∷ symbols_of text rest) head, All-rest (IsTokenOf text) token rest tokens parts each)

-- a number in front
pub number_found : (text : List ℕ) (tokens : List Token) (token : Token) (rest : List Token) (n : ℕ) → All (IsTokenOf text) tokens → tokens ≡ token ∷ rest → token.kind ≡ Number
    → n ≡ value_of_digits (slice_range text token.start token.end) → Finds NumberFront text tokens (Some (n, rest))
number_found text tokens token rest n each parts same value =
    let head : symbol_of text token ≡ numeral n = rw (same, value) refl in
    (ap (symbols_of text) parts ∙ ap (λ (s : Symbol). s ∷ symbols_of text rest) head, All-rest (IsTokenOf text) token rest tokens parts each)

-- what is left behind something is shorter
pub shorter : (text : List ℕ) (tokens rest : List Token) (head : Symbol) (front : List Symbol) → symbols_of text tokens ≡ head ∷ (front ++ symbols_of text rest) → length rest < length tokens
shorter text tokens rest head front e =
    let whole = simp (length-map, length-append) at (ap length e) in
    omega arith

-- a keyword or a symbol that is found stands in front
pub mark_stands : {T : Type 0} (kind : TokenKind) (text : List ℕ) (tokens : List Token) (rest_of : T → List Token) (found : Option T) → is_some found ≡ true
    → FindsMark kind text tokens (option_map rest_of found) → (rest : List Symbol) × (symbols_of text tokens ≡ mark kind ∷ rest)
mark_stands kind text tokens rest_of None some h = absurd cc
mark_stands kind text tokens rest_of (Some rest) some h = (symbols_of text (rest_of rest), h.0)

-- where tokens are left, symbols are
pub symbols_stand : (text : List ℕ) (tokens : List Token) (empty : Bool) → empty ≡ (length tokens == 0) → empty ≡ false → symbols_of text tokens ≡ [] → ⊥
symbols_stand text [] empty e some none = false≢true (sym some ∙ e)
symbols_stand text (token ∷ rest) empty e some none = absurd cc
