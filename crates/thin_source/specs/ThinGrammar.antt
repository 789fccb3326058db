-- The grammar of thin sources, by cases on the tree:
--   thin    = { "var" name ":" range ";" } { name ":=" sum ";" | "print" sum ";" }
--   range   = bound ".." bound
--   bound   = [ "-" ] number
--   sum     = product { ( "+" | "-" ) product }
--   product = atom { "*" atom }
--   atom    = number | name
use Rattle.std.specs.Prelude.{◌≡◌, ℕ, ℤ, pos, neg_ℤ, ◌≤◌, ◌⊎◌, List, [], ◌∷◌, ◌++◌, map, length, slice_range}
use Rattle.std.specs.List.{flat_map}
use Rattle.plain_text.specs.Digits.{IsWholeNumber, value_of_digits}
use Rattle.source_lexer.specs.declared.token.TokenKind.{TokenKind}
use Rattle.source_lexer.specs.declared.token.TokenKind.TheVariants.{Name, Number, Var, Print, Becomes, Colon, Semicolon, Dots, Plus, Minus, Star}
use Rattle.source_lexer.specs.declared.token.Token.{Token}
use Rattle.thin_source.specs.ThinTree.{Atom, number, name, Product, Sign, plus, minus, Sum, Statement, assign, print, Declaration, Program}

-- what a token means to the grammar: a name's bytes, a number's value, or a keyword or symbol
pub data Symbol : Type 0 where
  word : List ℕ → Symbol
  numeral : ℕ → Symbol
  mark : TokenKind → Symbol

abbrev pub symbol_by : TokenKind → List ℕ → Symbol
symbol_by Name bytes = word bytes
symbol_by Number bytes = numeral (value_of_digits bytes)
symbol_by kind bytes = mark kind

-- what a token of a text means
abbrev pub symbol_of : List ℕ → Token → Symbol
symbol_of text token = symbol_by token.kind (slice_range text token.start token.end)

-- what the tokens of a text mean
abbrev pub symbols_of : List ℕ → List Token → List Symbol
symbols_of text tokens = map (symbol_of text) tokens

abbrev pub atom_symbol : Atom → Symbol
atom_symbol (number n) = numeral n
atom_symbol (name x) = word x

abbrev pub factor_symbols : List Atom → List Symbol
factor_symbols [] = []
factor_symbols (atom ∷ more) = mark Star ∷ (atom_symbol atom ∷ factor_symbols more)

abbrev pub product_symbols : Product → List Symbol
product_symbols product = atom_symbol product.first ∷ factor_symbols product.more

abbrev pub sign_symbol : Sign → Symbol
sign_symbol plus = mark Plus
sign_symbol minus = mark Minus

abbrev pub term_symbols : List (Sign × Product) → List Symbol
term_symbols [] = []
term_symbols (term ∷ more) = (sign_symbol term.0 ∷ product_symbols term.1) ++ term_symbols more

abbrev pub sum_symbols : Sum → List Symbol
sum_symbols sum = product_symbols sum.first ++ term_symbols sum.more

-- the symbols spell a bound of a range: a number, with a minus or without
abbrev pub SpellsBound : List Symbol → ℤ → Type 0
SpellsBound symbols bound = (n : ℕ) × (((symbols ≡ numeral n ∷ []) × (bound ≡ pos n)) ⊎ ((symbols ≡ mark Minus ∷ (numeral n ∷ [])) × (bound ≡ neg_ℤ (pos n))))

abbrev pub SpellsDeclaration : List Symbol → Declaration → Type 0
SpellsDeclaration symbols declaration = (low : List Symbol) × (high : List Symbol) × SpellsBound low declaration.low × SpellsBound high declaration.high × (symbols ≡ (mark Var ∷ (word declaration.name ∷ (mark Colon ∷ low))) ++ ((mark Dots ∷ high) ++ (mark Semicolon ∷ [])))

abbrev pub SpellsDeclarations : List Symbol → List Declaration → Type 0
SpellsDeclarations symbols [] = symbols ≡ []
SpellsDeclarations symbols (declaration ∷ declarations) = (front : List Symbol) × (rest : List Symbol) × (symbols ≡ front ++ rest) × SpellsDeclaration front declaration × SpellsDeclarations rest declarations

abbrev pub statement_symbols : Statement → List Symbol
statement_symbols (assign x sum) = (word x ∷ (mark Becomes ∷ sum_symbols sum)) ++ (mark Semicolon ∷ [])
statement_symbols (print sum) = (mark Print ∷ sum_symbols sum) ++ (mark Semicolon ∷ [])

-- the symbols spell the program: its declarations, and then its statements
abbrev pub SpellsProgram : List Symbol → Program → Type 0
SpellsProgram symbols program = (front : List Symbol) × SpellsDeclarations front program.declarations × (symbols ≡ front ++ flat_map statement_symbols program.statements)

-- a token lies in its text, and a number is digits whose value fits i128
pub record IsTokenOf (text : List ℕ) (token : Token) : Type 0 where
  pub forward : token.start ≤ token.end
  pub inside : token.end ≤ length text
  pub digits : token.kind ≡ Number → IsWholeNumber (slice_range text token.start token.end)
  pub short : token.kind ≡ Number → value_of_digits (slice_range text token.start token.end) ≤ 170141183460469231731687303715884105727
