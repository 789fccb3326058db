-- What a token of a source text is.
use Rattle.std.specs.Prelude.{◌≡◌, ℕ, ◌==◌, ◌||◌, Bool, List, [], ◌∷◌, IsTrue, Option, Some, None, codes}
use Rattle.std.specs.Char.{is_ascii_alphabetic, is_ascii_alphanumeric}
use Rattle.std.specs.List.{list_all}
use Rattle.plain_text.specs.Digits.{IsWholeNumber}
use Rattle.source_lexer.specs.declared.token.TokenKind.{TokenKind}
use Rattle.source_lexer.specs.declared.token.TokenKind.TheVariants.{Name, Number, Var, Array, Proc, Do, End, Print, Read, If, Then, Else, For, To, While, Limit, Div, Mod, Becomes, Colon, Semicolon, Comma, LeftParen, RightParen, LeftBracket, RightBracket, Dots, Plus, Minus, Star, Less, LessEqual, Greater, GreaterEqual, Equal, NotEqual}

-- the text of a keyword or a symbol; a name and a number have many
abbrev pub fixed_text : TokenKind → Option (List ℕ)
fixed_text Name = None
fixed_text Number = None
fixed_text Var = Some (codes "var")
fixed_text Array = Some (codes "array")
fixed_text Proc = Some (codes "proc")
fixed_text Do = Some (codes "do")
fixed_text End = Some (codes "end")
fixed_text Print = Some (codes "print")
fixed_text Read = Some (codes "read")
fixed_text If = Some (codes "if")
fixed_text Then = Some (codes "then")
fixed_text Else = Some (codes "else")
fixed_text For = Some (codes "for")
fixed_text To = Some (codes "to")
fixed_text While = Some (codes "while")
fixed_text Limit = Some (codes "limit")
fixed_text Div = Some (codes "div")
fixed_text Mod = Some (codes "mod")
fixed_text Becomes = Some (codes ":=")
fixed_text Colon = Some (codes ":")
fixed_text Semicolon = Some (codes ";")
fixed_text Comma = Some (codes ",")
fixed_text LeftParen = Some (codes "(")
fixed_text RightParen = Some (codes ")")
fixed_text LeftBracket = Some (codes "[")
fixed_text RightBracket = Some (codes "]")
fixed_text Dots = Some (codes "..")
fixed_text Plus = Some (codes "+")
fixed_text Minus = Some (codes "-")
fixed_text Star = Some (codes "*")
fixed_text Less = Some (codes "<")
fixed_text LessEqual = Some (codes "<=")
fixed_text Greater = Some (codes ">")
fixed_text GreaterEqual = Some (codes ">=")
fixed_text Equal = Some (codes "=")
fixed_text NotEqual = Some (codes "<>")

-- a byte of a name after its first: a letter, a digit or `_`
abbrev pub is_name_byte : ℕ → Bool
is_name_byte b = is_ascii_alphanumeric b || b == 95

-- a letter, and then letters, digits and `_`
abbrev pub IsIdentifier : List ℕ → Type 0
IsIdentifier [] = ⊥
IsIdentifier (b ∷ bytes) = IsTrue (is_ascii_alphabetic b) × IsTrue (list_all is_name_byte bytes)

-- the bytes are the text of a keyword or a symbol
abbrev pub IsFixed : List ℕ → Type 0
IsFixed bytes = (kind : TokenKind) × (fixed_text kind ≡ Some bytes)

-- the bytes are a token of this kind: a name is an identifier that is no keyword, a number is digits
abbrev pub IsToken : TokenKind → List ℕ → Type 0
IsToken Name bytes = IsIdentifier bytes × ¬ (IsFixed bytes)
IsToken Number bytes = IsWholeNumber bytes
IsToken kind bytes = fixed_text kind ≡ Some bytes
