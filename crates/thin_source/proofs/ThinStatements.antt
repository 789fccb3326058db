-- Symbols spell at most one list of statements; the steps of the readers of statements.
use Rattle.std.proofs.Common.{◌≡◌, ℕ, List, [], ◌∷◌, ◌++◌, refl, sym, ap, ◌∙◌, append_assoc}
use Rattle.std.specs.List.{flat_map}
use Rattle.std.proofs.lemmas.List.{append-nil}
use Rattle.std.proofs.lemmas.List.Concat.{flat_map-cons}
use Rattle.source_lexer.specs.declared.token.TokenKind.TheVariants.{Var, Print, Becomes, Semicolon}
use Rattle.thin_source.specs.ThinTree.{Sum, Statement, assign, print}
use Rattle.thin_source.specs.ThinGrammar.{Symbol, word, mark, sum_symbols, statement_symbols}
use Rattle.thin_source.specs.ThinFronts.{NotMark, SumFront, ClosedFront, TargetFront, StatementFront}
use Rattle.thin_source.proofs.ThinOnce.{head_once, sum_once, semicolon_ends}

-- ---- a sum and its semicolon

pub closed_once : (a b : Sum) (symbols s r : List Symbol) → ClosedFront a symbols s → ClosedFront b symbols r → (a ≡ b) × (s ≡ r)
closed_once a b symbols s r h k =
    let sum = sum_once a b symbols _ _ (h, semicolon_ends s) (k, semicolon_ends r) in
    (sum.0, (head_once _ _ _ _ sum.1).1)

pub closed_begins : (symbols : List Symbol) → ((sum : Sum) (t : List Symbol) → SumFront sum symbols t → ⊥) → (sum : Sum) (r : List Symbol) → ClosedFront sum symbols r → ⊥
closed_begins symbols none sum r h = none sum (mark Semicolon ∷ r) (h, semicolon_ends r)

pub closed_stuck : (own : Sum) (symbols s : List Symbol) → SumFront own symbols s → NotMark Semicolon s → (sum : Sum) (r : List Symbol) → ClosedFront sum symbols r → ⊥
closed_stuck own symbols s h other sum r k = other r (sum_once own sum symbols s _ h (k, semicolon_ends r)).1

pub closed_found : (sum : Sum) (symbols s r : List Symbol) → SumFront sum symbols s → s ≡ mark Semicolon ∷ r → ClosedFront sum symbols r
closed_found sum symbols s r h closed = h.0 ∙ ap (λ (t : List Symbol). sum_symbols sum ++ t) closed

-- ---- a statement

pub assign_regroup : (x : List ℕ) (sum : Sum) (r : List Symbol) → statement_symbols (assign x sum) ++ r ≡ word x ∷ (mark Becomes ∷ (sum_symbols sum ++ (mark Semicolon ∷ r)))
assign_regroup x sum r = ap (λ (s : List Symbol). word x ∷ (mark Becomes ∷ s)) (append_assoc (sum_symbols sum) (mark Semicolon ∷ []) r)

pub print_regroup : (sum : Sum) (r : List Symbol) → statement_symbols (print sum) ++ r ≡ mark Print ∷ (sum_symbols sum ++ (mark Semicolon ∷ r))
print_regroup sum r = ap (λ (s : List Symbol). mark Print ∷ s) (append_assoc (sum_symbols sum) (mark Semicolon ∷ []) r)

pub print_found : (sum : Sum) (symbols s r : List Symbol) → symbols ≡ mark Print ∷ s → ClosedFront sum s r → StatementFront (print sum) symbols r
print_found sum symbols s r begins h = begins ∙ ap (λ (t : List Symbol). mark Print ∷ t) h ∙ sym (print_regroup sum r)

pub assign_found : (x : List ℕ) (sum : Sum) (symbols s r : List Symbol) → TargetFront x symbols s → ClosedFront sum s r → StatementFront (assign x sum) symbols r
assign_found x sum symbols s r begins h = begins ∙ ap (λ (t : List Symbol). word x ∷ (mark Becomes ∷ t)) h ∙ sym (assign_regroup x sum r)

pub print_stuck : (symbols s : List Symbol) → symbols ≡ mark Print ∷ s → ((sum : Sum) (t : List Symbol) → ClosedFront sum s t → ⊥)
    → (statement : Statement) (r : List Symbol) → StatementFront statement symbols r → ⊥
print_stuck symbols s begins none (assign x sum) r h = absurd cc
print_stuck symbols s begins none (print sum) r h = none sum r (head_once _ _ _ _ (sym begins ∙ h ∙ print_regroup sum r)).1

pub statement_begins : (symbols : List Symbol) → NotMark Print symbols → ((x : List ℕ) (t : List Symbol) → TargetFront x symbols t → ⊥)
    → (statement : Statement) (r : List Symbol) → StatementFront statement symbols r → ⊥
statement_begins symbols other none (assign x sum) r h = none x _ (h ∙ assign_regroup x sum r)
statement_begins symbols other none (print sum) r h = other _ (h ∙ print_regroup sum r)

pub assign_stuck : (x : List ℕ) (symbols s : List Symbol) → TargetFront x symbols s → ((sum : Sum) (t : List Symbol) → ClosedFront sum s t → ⊥)
    → (statement : Statement) (r : List Symbol) → StatementFront statement symbols r → ⊥
assign_stuck x symbols s begins none (assign y sum) r h =
    let behind = (head_once _ _ _ _ (sym begins ∙ h ∙ assign_regroup y sum r)).1 in
    none sum r (head_once _ _ _ _ behind).1
assign_stuck x symbols s begins none (print sum) r h = absurd cc

pub statement_once : (a b : Statement) (symbols s r : List Symbol) → StatementFront a symbols s → StatementFront b symbols r → (a ≡ b) × (s ≡ r)
statement_once (assign x a) (assign y b) symbols s r h k =
    let whole = head_once _ _ _ _ (sym (h ∙ assign_regroup x a s) ∙ k ∙ assign_regroup y b r) in
    let sum = closed_once a b _ s r refl (head_once _ _ _ _ whole.1).1 in
    let same : x ≡ y = cc in
    (cc, sum.1)
statement_once (assign x a) (print b) symbols s r h k = absurd cc
statement_once (print a) (assign y b) symbols s r h k = absurd cc
statement_once (print a) (print b) symbols s r h k =
    let whole = head_once _ _ _ _ (sym (h ∙ print_regroup a s) ∙ k ∙ print_regroup b r) in
    let sum = closed_once a b _ s r refl whole.1 in
    (cc, sum.1)

-- ---- all statements

-- a statement has a first symbol
pub statement_head : (a : Statement) → (head : Symbol) × (front : List Symbol) × (statement_symbols a ≡ head ∷ front)
statement_head (assign x sum) = (word x, _, refl)
statement_head (print sum) = (mark Print, _, refl)

statement_stands : (a : Statement) (s : List Symbol) → statement_symbols a ++ s ≡ [] → ⊥
statement_stands (assign x sum) s e = absurd cc
statement_stands (print sum) s e = absurd cc

-- the first of the statements, and the others behind it
pub statements_regroup : (a : Statement) (more : List Statement) (r : List Symbol) → flat_map statement_symbols (a ∷ more) ++ r ≡ statement_symbols a ++ (flat_map statement_symbols more ++ r)
statements_regroup a more r = ap (λ (s : List Symbol). s ++ r) (flat_map-cons statement_symbols a more) ∙ append_assoc (statement_symbols a) (flat_map statement_symbols more) r

-- statements that are read are the first of those that are spelled
pub statements_on : (done all : List Statement) (s : List Symbol) → flat_map statement_symbols done ++ s ≡ flat_map statement_symbols all
    → (more : List Statement) × (all ≡ done ++ more) × (s ≡ flat_map statement_symbols more)
statements_on [] all s e = (all, refl, e)
statements_on (a ∷ done) [] s e = absurd (statement_stands a (flat_map statement_symbols done ++ s) (sym (statements_regroup a done s) ∙ e))
statements_on (a ∷ done) (b ∷ all) s e =
    let first = statement_once a b _ _ _ refl (sym (statements_regroup a done s) ∙ e ∙ flat_map-cons statement_symbols b all) in
    let on = statements_on done all s first.1 in
    (on.0, cc, on.2)

no_statements : (more : List Statement) → [] ≡ flat_map statement_symbols more → more ≡ []
no_statements [] e = refl
no_statements (a ∷ more) e = absurd (statement_stands a (flat_map statement_symbols more) (sym (flat_map-cons statement_symbols a more) ∙ sym e))

pub statements_once : (a b : List Statement) → flat_map statement_symbols a ≡ flat_map statement_symbols b → a ≡ b
statements_once a b e =
    let on = statements_on a b [] (append-nil (flat_map statement_symbols a) ∙ e) in
    sym (on.1 ∙ ap (λ (m : List Statement). a ++ m) (no_statements on.0 on.2) ∙ append-nil a)

first_missing : (more : List Statement) (s : List Symbol) → (s ≡ [] → ⊥) → ((a : Statement) (t : List Symbol) → StatementFront a s t → ⊥) → s ≡ flat_map statement_symbols more → ⊥
first_missing [] s some none e = some e
first_missing (a ∷ more) s some none e = none a (flat_map statement_symbols more) (e ∙ flat_map-cons statement_symbols a more)

pub statements_stuck : (done : List Statement) (symbols s : List Symbol) → symbols ≡ flat_map statement_symbols done ++ s → (s ≡ [] → ⊥)
    → ((a : Statement) (t : List Symbol) → StatementFront a s t → ⊥) → (others : List Statement) → symbols ≡ flat_map statement_symbols others → ⊥
statements_stuck done symbols s so_far some none others e =
    let on = statements_on done others s (sym so_far ∙ e) in
    first_missing on.0 s some none on.2

pub statements_go_on : (done : List Statement) (a : Statement) (symbols s r : List Symbol) → symbols ≡ flat_map statement_symbols done ++ s
    → StatementFront a s r → symbols ≡ flat_map statement_symbols (done ++ a ∷ []) ++ r
statements_go_on [] a symbols s r so_far next = so_far ∙ next ∙ sym (statements_regroup a [] r)
statements_go_on (b ∷ done) a symbols s r so_far next =
    so_far ∙ statements_regroup b done s
    ∙ ap (λ (t : List Symbol). statement_symbols b ++ t) (statements_go_on done a (flat_map statement_symbols done ++ s) s r refl next)
    ∙ sym (statements_regroup b (done ++ a ∷ []) r)

var_behind : (a : Statement) (s : List Symbol) → NotMark Var (statement_symbols a ++ s)
var_behind (assign x sum) s = λ _ e. absurd cc
var_behind (print sum) s = λ _ e. absurd cc

-- no statement begins with `var`
pub statements_end_declarations : (statements : List Statement) → NotMark Var (flat_map statement_symbols statements)
statements_end_declarations [] = λ _ e. absurd cc
statements_end_declarations (a ∷ more) = λ r e. var_behind a (flat_map statement_symbols more) r (sym (flat_map-cons statement_symbols a more) ∙ e)
