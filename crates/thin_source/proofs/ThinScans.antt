-- What a whole scan of a text says of its tokens, and of the programs that the text spells.
use Rattle.std.proofs.Common.{◌≡◌, ℕ, List, [], ◌∷◌, slice_range, arith, sym, subst}
use Rattle.std.specs.Prelude.{All}
use Rattle.std.specs.List.{AllByRecursion}
use Rattle.std.proofs.lemmas.List.Elements.{All-from_recursion}
use Rattle.source_lexer.specs.declared.token.Token.{Token}
use Rattle.source_lexer.specs.declared.token.TokenKind.{TokenKind}
use Rattle.source_lexer.specs.Tokens.{IsToken}
use Rattle.source_lexer.specs.Scan.{Scans, ScansFrom, ScanEnd, whole, StandsNext, IsShort}
use Rattle.thin_source.specs.ThinTree.{Program}
use Rattle.thin_source.specs.ThinGrammar.{IsTokenOf, SpellsProgram, symbols_of}
use Rattle.thin_source.specs.ThinMeaning.{Spells}

token_stands : (text : List ℕ) (from : ℕ) (token : Token) → StandsNext text from token → IsShort token.kind (slice_range text token.start token.end) → IsTokenOf text token
token_stands text from token stands short =
    let P : TokenKind → Type 0 = λ kind. IsToken kind (slice_range text token.start token.end) in
    record {
      forward = omega (arith, stands.longest.forward);
      inside = stands.longest.inside;
      digits = λ is. subst P is stands.longest.is_token;
      short = short;
    }

tokens_stand : (text : List ℕ) (from : ℕ) (tokens : List Token) → ScansFrom text from tokens whole → AllByRecursion (IsTokenOf text) tokens
tokens_stand text from [] scans = tt
tokens_stand text from (token ∷ tokens) scans =
    (token_stands text from token scans.0 scans.1, tokens_stand text token.end tokens scans.2)

-- each token of a whole scan lies in its text
pub All-scanned : (text : List ℕ) (tokens : List Token) → Scans text tokens whole → All (IsTokenOf text) tokens
All-scanned text tokens scans = All-from_recursion (IsTokenOf text) tokens (tokens_stand text 0 tokens scans)

-- a text has one scan, so a program that it spells is spelled by the tokens of any scan
pub spells_scanned : (one_scan : (text : List ℕ) (a b : List Token) (x y : ScanEnd) → Scans text a x → Scans text b y → (a ≡ b) × (x ≡ y)) → (text : List ℕ) (tokens : List Token) → Scans text tokens whole → (program : Program) → Spells text program → SpellsProgram (symbols_of text tokens) program
spells_scanned one_scan text tokens scans program (others, scans_others, few, spells) =
    let P : List Token → Type 0 = λ ts. SpellsProgram (symbols_of text ts) program in
    subst P (sym (one_scan text tokens others whole whole scans scans_others).0) spells
