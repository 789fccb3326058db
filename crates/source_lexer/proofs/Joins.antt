-- What the rest of a scan adds to the tokens that were found.
use Rattle.std.proofs.Common.{ℕ, List, [], ◌∷◌, ◌++◌, append_assoc, sym, subst}
use Rattle.std.proofs.lemmas.List.{append-nil}
use Rattle.std.specs.List.{slice_range}
use Rattle.source_lexer.specs.declared.token.Token.{Token}
use Rattle.source_lexer.specs.declared.lexer.LexFault.{LexFault}
use Rattle.source_lexer.specs.declared.lexer.LexFault.TheVariants.{BadByte, LongLiteral, NoMemory}
use Rattle.source_lexer.specs.Scan.{StandsNext, IsShort, ScanEnd, bad_byte, long_literal, EndsFrom, ScansFrom, Scans, IsFirstFault}
use Rattle.source_lexer.specs.Steps.{FailsNext}

-- each scan of the text from a place on, put after the tokens found, is a scan of the whole text
abbrev pub Joins : List ℕ → ℕ → List Token → Type 0
Joins text place found =
    (rest : List Token) (end : ScanEnd) → ScansFrom text place rest end → Scans text (found ++ rest) end

-- with the next token
pub joins_next : (text : List ℕ) (place : ℕ) (found : List Token) (token : Token) → Joins text place found → StandsNext text place token × IsShort token.kind (slice_range text token.start token.end) → Joins text token.end (found ++ token ∷ [])
joins_next text place found token joins next rest end scans =
    subst (λ (tokens : List Token). Scans text tokens end) (sym (append_assoc found (token ∷ []) rest)) (joins (token ∷ rest) end (next.0, next.1, scans))

-- at the end
pub joins_end : (text : List ℕ) (place : ℕ) (found : List Token) (end : ScanEnd) → Joins text place found → EndsFrom text place end → Scans text found end
joins_end text place found end joins ends =
    subst (λ (tokens : List Token). Scans text tokens end) (append-nil found) (joins [] end ends)

pub first_fault : (text : List ℕ) (place : ℕ) (found : List Token) (fault : LexFault) → Joins text place found → FailsNext text place fault → IsFirstFault text fault
first_fault text place found (BadByte line) joins fails = (found, joins_end text place found (bad_byte line) joins fails)
first_fault text place found (LongLiteral line) joins fails = (found, joins_end text place found (long_literal line) joins fails)
first_fault text place found NoMemory joins fails = absurd fails
