-- What the tokens of a text spell is what the text spells, since it has one list of tokens.
use Rattle.std.proofs.Common.{◌≡◌, ℕ, List, subst}
use Rattle.source_lexer.specs.declared.token.Token.{Token}
use Rattle.source_lexer.specs.Scan.{Scans, whole}
use Rattle.source_lexer.proofs.OneScan.{one_scan_of}
use Rattle.source_tree.specs.declared.declaration.Program.{Program}
use Rattle.source_parser.specs.Parsed.{IsSpelled, SpellsProgram, SpellsNoProgram}

spelled_again : (text : List ℕ) (tokens : List Token) (program : Program) → Scans text tokens whole → SpellsProgram text program → IsSpelled text tokens program
spelled_again text tokens program scans (own, again, spelled) =
    subst (λ (ts : List Token). IsSpelled text ts program) (one_scan_of text own tokens whole whole again scans).0 spelled

pub only_program : (text : List ℕ) (tokens : List Token) (program : Program) → Scans text tokens whole
    → ((other : Program) → IsSpelled text tokens other → other ≡ program) → (other : Program) → SpellsProgram text other → other ≡ program
only_program text tokens program scans only other spells = only other (spelled_again text tokens other scans spells)

pub no_program : (text : List ℕ) (tokens : List Token) → Scans text tokens whole → ((program : Program) → IsSpelled text tokens program → ⊥) → SpellsNoProgram text
no_program text tokens scans nothing program spells = nothing program (spelled_again text tokens program scans spells)
