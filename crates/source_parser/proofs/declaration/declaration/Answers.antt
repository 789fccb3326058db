use Rattle.std.proofs.Common.{◌≡◌, List, [], ◌∷◌, ◌++◌, refl, subst, ◌∙◌}
use Rattle.source_lexer.specs.declared.token.TokenKind.TheVariants as kind
use Rattle.source_parser.specs.Limits.{depth_limit, weight_limit}
use Rattle.source_parser.specs.Terminals.{Terminal, kinds_of}
use Rattle.source_parser.specs.Landings.{Leads, reads_one, reads_none}
use Rattle.source_parser.specs.Taking.{NotKind}
use Rattle.source_parser.specs.Wants as wants
use Rattle.source_parser.proofs.Moves.{at_start, and_then, fails_next}
use Rattle.source_parser.proofs.Runs.{declarations_end}
use Rattle.source_parser.proofs.TokenMoves.{and_taken, instead, still}
use Rattle.source_parser.proofs.declaration.declaration.Goals as goal

pub returns-in_err-variable-clause-lands : goal.returns-in_err-variable-clause-lands
returns-in_err-variable-clause-lands c =
    fails_next _ (c.in_err-variable.ensures.lands depth_limit _) c.from_residual.ensures.1
    (and_taken (wants.param_wanted ++ wants.token kind.Semicolon ∷ wants.declarations ∷ []) c.in-Some.ensures.value (λ s ks. refl) at_start)

pub returns-in-Some-clause-lands : goal.returns-in-Some-clause-lands
returns-in-Some-clause-lands c =
    reads_one (and_then _ (c.in_ok-variable.ensures.lands depth_limit _)
    (and_taken (wants.param_wanted ++ wants.token kind.Semicolon ∷ wants.declarations ∷ []) c.in-Some.ensures.value (λ s ks. refl) at_start))

pub returns-in_err-array-clause-lands : goal.returns-in_err-array-clause-lands
returns-in_err-array-clause-lands c =
    fails_next _ (c.in_err-array.ensures.lands depth_limit _) c.from_residual-in_err-array.ensures.1
    (and_taken (wants.array_wanted ++ wants.declarations ∷ []) c.in-Some-take.ensures.value (λ s ks. refl) (still c.in_default.ensures.value.0 at_start))

pub returns-in-Some-take-clause-lands : goal.returns-in-Some-take-clause-lands
returns-in-Some-take-clause-lands c =
    reads_one (and_then _ (c.in_ok-array.ensures.lands depth_limit _)
    (and_taken (wants.array_wanted ++ wants.declarations ∷ []) c.in-Some-take.ensures.value (λ s ks. refl) (still c.in_default.ensures.value.0 at_start)))

pub returns-in_err-procedure-clause-lands : goal.returns-in_err-procedure-clause-lands
returns-in_err-procedure-clause-lands c =
    fails_next _ c.in_err-procedure.ensures.lands c.from_residual-in_err-procedure.ensures.1
    (and_taken (wants.proc_wanted ++ wants.declarations ∷ []) c.in-Some-take-2.ensures.value (λ s ks. refl)
    (still (c.in_default-take.ensures.value.0 ∙ c.in_default.ensures.value.0) at_start))

pub returns-in-Some-take-2-clause-lands : goal.returns-in-Some-take-2-clause-lands
returns-in-Some-take-2-clause-lands c =
    reads_one (and_then _ c.in_ok-procedure.ensures.lands
    (and_taken (wants.proc_wanted ++ wants.declarations ∷ []) c.in-Some-take-2.ensures.value (λ s ks. refl)
    (still (c.in_default-take.ensures.value.0 ∙ c.in_default.ensures.value.0) at_start)))

-- none begins where none of their first words stands
none_begins : {a b c e : List Terminal} → b ≡ a → c ≡ b → e ≡ c → NotKind kind.Var (kinds_of a) → NotKind kind.Array (kinds_of b) → NotKind kind.Proc (kinds_of c)
    → Leads (wants.declarations ∷ []) a depth_limit weight_limit [] e depth_limit weight_limit
none_begins {a} {b} {c} p q r no_var no_array no_proc =
    still (r ∙ q ∙ p) (instead [] (λ s. declarations_end weight_limit s depth_limit weight_limit (kinds_of a) no_var
    (subst (λ (ts : List Terminal). NotKind kind.Array (kinds_of ts)) p no_array) (subst (λ (ts : List Terminal). NotKind kind.Proc (kinds_of ts)) (q ∙ p) no_proc)) at_start)

pub returns-clause-lands : goal.returns-clause-lands
returns-clause-lands c =
    reads_none (none_begins c.in_default.ensures.value.0 c.in_default-take.ensures.value.0 c.in_default-take-2.ensures.value.0
    c.in_default.ensures.value.1 c.in_default-take.ensures.value.1 c.in_default-take-2.ensures.value.1)
