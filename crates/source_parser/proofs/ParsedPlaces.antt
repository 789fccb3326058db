-- The places of a parser's faults.
use Rattle.std.proofs.Common.{◌≡◌, ℕ, suc, ◌-◌, List, [], ◌∷◌, length, refl, ap, subst, arith}
use Rattle.std.proofs.lemmas.List.{length-map}
use Rattle.source_lexer.specs.declared.token.TokenKind.{TokenKind}
use Rattle.source_lexer.specs.declared.token.Token.{Token}
use Rattle.source_tree.specs.declared.declaration.Program.{Program}
use Rattle.source_parser.specs.Limits.{depth_limit, weight_limit}
use Rattle.source_parser.specs.Terminals.{Terminal, kinds_of, terminals_of, token_kinds}
use Rattle.source_parser.specs.Prefixes.{SpellsKinds, StopsAt, DeepAt}
use Rattle.source_parser.specs.Parsed.{IsSpelled}
use Rattle.source_parser.specs.Wants.{declarations, statements, run, Outcome, stopped, too_deep}
use Rattle.source_parser.proofs.KindNumbers.{kinds_of_tokens}
use Rattle.source_parser.proofs.Places.{stops_at, deep_at}
use Rattle.source_parser.proofs.AnswerLaws.{stops_no_program, deep_no_program}

kinds_length : (terminals : List Terminal) → length (kinds_of terminals) ≡ length terminals
kinds_length [] = refl
kinds_length (t ∷ terminals) = ap (λ (n : ℕ). suc n) (kinds_length terminals)

-- the place by how many terminals are left
place_of : (tokens : List Token) (new : List Terminal) → length (token_kinds tokens) - length (kinds_of new) ≡ length tokens - length new
place_of tokens new =
    let left = length-map tokens (λ (t : Token). t.kind) in
    let right = kinds_length new in
    omega (arith, left, right)

abbrev ComesTo : List TokenKind → Outcome → Type 0
ComesTo kinds outcome = run weight_limit kinds (declarations ∷ statements ∷ []) depth_limit weight_limit ≡ outcome

module _ (text : List ℕ) (tokens : List Token) where
  pub stops_there : (new : List Terminal) → run weight_limit (kinds_of (terminals_of text tokens)) (declarations ∷ statements ∷ []) depth_limit weight_limit ≡ stopped (kinds_of new)
      → StopsAt depth_limit weight_limit (token_kinds tokens) (length tokens - length new)
  stops_there new h = subst (StopsAt depth_limit weight_limit (token_kinds tokens)) (place_of tokens new) (stops_at depth_limit weight_limit (token_kinds tokens) (kinds_of new) (subst (λ (ks : List TokenKind). ComesTo ks (stopped (kinds_of new))) (kinds_of_tokens text tokens) h))

  pub deep_there : (new : List Terminal) → run weight_limit (kinds_of (terminals_of text tokens)) (declarations ∷ statements ∷ []) depth_limit weight_limit ≡ too_deep (kinds_of new)
      → DeepAt depth_limit weight_limit (token_kinds tokens) (length tokens - length new)
  deep_there new h = subst (DeepAt depth_limit weight_limit (token_kinds tokens)) (place_of tokens new) (deep_at depth_limit weight_limit (token_kinds tokens) (kinds_of new) (subst (λ (ks : List TokenKind). ComesTo ks (too_deep (kinds_of new))) (kinds_of_tokens text tokens) h))

  spelled_kinds : (program : Program) → IsSpelled text tokens program → SpellsKinds depth_limit weight_limit (token_kinds tokens)
  spelled_kinds program spells = record { terminals = terminals_of text tokens; program = program; same = kinds_of_tokens text tokens; spells = spells }

  -- no program is spelled by tokens with a fault
  pub stopped_spells_none : (place : ℕ) → StopsAt depth_limit weight_limit (token_kinds tokens) place → (program : Program) → IsSpelled text tokens program → ⊥
  stopped_spells_none place h program spells = stops_no_program h (spelled_kinds program spells)

  pub deep_spells_none : (place : ℕ) → DeepAt depth_limit weight_limit (token_kinds tokens) place → (program : Program) → IsSpelled text tokens program → ⊥
  deep_spells_none place h program spells = deep_no_program h (spelled_kinds program spells)
