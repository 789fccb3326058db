-- What the tokens of a text are reported to be.
use Rattle.std.specs.Prelude.{◌≡◌, ℕ, List, Result, Ok, Err}
use Rattle.source_lexer.specs.declared.token.Token.{Token}
use Rattle.source_lexer.specs.Scan.{Scans, whole}
use Rattle.source_tree.specs.declared.declaration.Program.{Program}
use Rattle.source_parser.specs.Limits.{depth_limit, weight_limit}
use Rattle.source_parser.specs.declared.fault.ParseFault.{ParseFault}
use Rattle.source_parser.specs.declared.fault.ParseFault.TheVariants.{Stops, Deep, NoMemory}
use Rattle.source_parser.specs.Terminals.{terminals_of, token_kinds}
use Rattle.source_parser.specs.Grammar.{Spells}
use Rattle.source_parser.specs.Prefixes.{StopsAt, DeepAt}

-- the tokens spell the program, within the limits of nesting
abbrev pub IsSpelled : List ℕ → List Token → Program → Type 0
IsSpelled text tokens program = Spells depth_limit weight_limit (terminals_of text tokens) program

-- The one program that the tokens spell. Or the place of the token at which they stop to be a prefix of any program, their
-- number where more are wanted; or of the first that nests too deep.
abbrev pub IsParsed : List ℕ → List Token → Result Program ParseFault → Type 0
IsParsed text tokens (Ok program) = IsSpelled text tokens program × ((other : Program) → IsSpelled text tokens other → other ≡ program)
IsParsed text tokens (Err (Stops place)) = StopsAt depth_limit weight_limit (token_kinds tokens) place
IsParsed text tokens (Err (Deep place)) = DeepAt depth_limit weight_limit (token_kinds tokens) place
IsParsed text tokens (Err NoMemory) = Unit {0}

-- ---- the same of the text alone
-- the text is made of tokens, and they spell the program
abbrev pub SpellsProgram : List ℕ → Program → Type 0
SpellsProgram text program = (tokens : List Token) × Scans text tokens whole × IsSpelled text tokens program

-- the text spells no program
abbrev pub SpellsNoProgram : List ℕ → Type 0
SpellsNoProgram text = (program : Program) → SpellsProgram text program → ⊥

-- the one program that the text spells, or it spells none, want of memory aside
abbrev pub IsProgramOf : List ℕ → Result Program ParseFault → Type 0
IsProgramOf text (Ok program) = SpellsProgram text program × ((other : Program) → SpellsProgram text other → other ≡ program)
IsProgramOf text (Err (Stops place)) = SpellsNoProgram text
IsProgramOf text (Err (Deep place)) = SpellsNoProgram text
IsProgramOf text (Err NoMemory) = Unit {0}
