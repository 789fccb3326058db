-- What stands at the front of the symbols of a thin source, and what a reader of tokens says of it.
use Rattle.std.specs.Prelude.{◌≡◌, ℕ, ℤ, List, ◌∷◌, ◌++◌, Option, Some, None}
use Rattle.std.specs.List.{All}
use Rattle.source_lexer.specs.declared.token.TokenKind.{TokenKind}
use Rattle.source_lexer.specs.declared.token.TokenKind.TheVariants.{Name, Number, Var, Becomes, Semicolon, Plus, Minus, Star}
use Rattle.source_lexer.specs.declared.token.Token.{Token}
use Rattle.thin_source.specs.ThinTree.{Atom, Product, Sign, Sum, Statement, Declaration}
use Rattle.thin_source.specs.ThinGrammar.{Symbol, word, numeral, mark, symbols_of, atom_symbol, product_symbols, sign_symbol, sum_symbols, SpellsBound, SpellsDeclaration, SpellsDeclarations, statement_symbols, IsTokenOf}

-- a kind that stands for itself: a keyword or a symbol
abbrev pub IsMark : TokenKind → Type 0
IsMark Name = ⊥
IsMark Number = ⊥
IsMark kind = Unit {0}

-- no such keyword or symbol stands in front
abbrev pub NotMark : TokenKind → List Symbol → Type 0
NotMark kind symbols = (rest : List Symbol) → symbols ≡ mark kind ∷ rest → ⊥

-- neither a factor nor a term goes on
abbrev pub EndsSum : List Symbol → Type 0
EndsSum symbols = NotMark Star symbols × NotMark Plus symbols × NotMark Minus symbols

-- ---- the symbols are what is named, and then the rest

abbrev pub NumberFront : ℕ → List Symbol → List Symbol → Type 0
NumberFront n symbols rest = symbols ≡ numeral n ∷ rest

abbrev pub NameFront : List ℕ → List Symbol → List Symbol → Type 0
NameFront x symbols rest = symbols ≡ word x ∷ rest

abbrev pub AtomFront : Atom → List Symbol → List Symbol → Type 0
AtomFront atom symbols rest = symbols ≡ atom_symbol atom ∷ rest

-- the product is as long as it can be
abbrev pub ProductFront : Product → List Symbol → List Symbol → Type 0
ProductFront product symbols rest = (symbols ≡ product_symbols product ++ rest) × NotMark Star rest

abbrev pub SignFront : Sign → List Symbol → List Symbol → Type 0
SignFront sign symbols rest = symbols ≡ sign_symbol sign ∷ rest

-- the sum is as long as it can be
abbrev pub SumFront : Sum → List Symbol → List Symbol → Type 0
SumFront sum symbols rest = (symbols ≡ sum_symbols sum ++ rest) × EndsSum rest

abbrev pub ClosedFront : Sum → List Symbol → List Symbol → Type 0
ClosedFront sum symbols rest = symbols ≡ sum_symbols sum ++ (mark Semicolon ∷ rest)

abbrev pub TargetFront : List ℕ → List Symbol → List Symbol → Type 0
TargetFront x symbols rest = symbols ≡ word x ∷ (mark Becomes ∷ rest)

abbrev pub StatementFront : Statement → List Symbol → List Symbol → Type 0
StatementFront statement symbols rest = symbols ≡ statement_symbols statement ++ rest

abbrev pub BoundFront : ℤ → List Symbol → List Symbol → Type 0
BoundFront bound symbols rest = (front : List Symbol) × SpellsBound front bound × (symbols ≡ front ++ rest)

abbrev pub DeclarationFront : Declaration → List Symbol → List Symbol → Type 0
DeclarationFront declaration symbols rest = (front : List Symbol) × SpellsDeclaration front declaration × (symbols ≡ front ++ rest)

-- the declarations are all that stand there
abbrev pub DeclarationsFront : List Declaration → List Symbol → List Symbol → Type 0
DeclarationsFront declarations symbols rest = (front : List Symbol) × SpellsDeclarations front declarations × (symbols ≡ front ++ rest) × NotMark Var rest

-- ---- what a reader says: that nothing such stands in front, or what does, and the tokens behind it

abbrev pub Finds : {X : Type 0} → (X → List Symbol → List Symbol → Type 0) → List ℕ → List Token → Option (X × List Token) → Type 0
Finds Front text tokens None = (x : _) (rest : List Symbol) → Front x (symbols_of text tokens) rest → ⊥
Finds Front text tokens (Some found) = Front found.0 (symbols_of text tokens) (symbols_of text found.1) × All (IsTokenOf text) found.1

abbrev pub FindsMark : TokenKind → List ℕ → List Token → Option (List Token) → Type 0
FindsMark kind text tokens None = NotMark kind (symbols_of text tokens)
FindsMark kind text tokens (Some rest) = (symbols_of text tokens ≡ mark kind ∷ symbols_of text rest) × All (IsTokenOf text) rest
