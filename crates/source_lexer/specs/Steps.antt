-- One step of a scan: the next token, the end of the text, or a fault.
use Rattle.std.specs.Prelude.{ℕ, List, slice_range, Option, Some, None}
use Rattle.source_lexer.specs.declared.token.Token.{Token}
use Rattle.source_lexer.specs.declared.lexer.LexFault.{LexFault}
use Rattle.source_lexer.specs.declared.lexer.LexFault.TheVariants.{BadByte, LongLiteral, NoMemory}
use Rattle.source_lexer.specs.Scan.{StandsNext, IsShort, EndsFrom, whole, bad_byte, long_literal}

-- the token stands next from a place on and is not too long; or the text ends after a gap
abbrev pub GoesOn : List ℕ → ℕ → Option Token → Type 0
GoesOn text from None = EndsFrom text from whole
GoesOn text from (Some token) = StandsNext text from token × IsShort token.kind (slice_range text token.start token.end)

-- the scan ends with this fault next, which is no want of memory
abbrev pub FailsNext : List ℕ → ℕ → LexFault → Type 0
FailsNext text from (BadByte line) = EndsFrom text from (bad_byte line)
FailsNext text from (LongLiteral line) = EndsFrom text from (long_literal line)
FailsNext text from NoMemory = ⊥
