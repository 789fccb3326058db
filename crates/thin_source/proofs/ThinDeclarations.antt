-- Symbols spell at most one list of declarations; the steps of the readers of declarations.
use Rattle.std.proofs.Common.{◌≡◌, ℕ, ℤ, pos, neg_ℤ, List, [], ◌∷◌, ◌++◌, refl, sym, ap, ◌∙◌, append_assoc, inl, inr, ◌⊎◌}
use Rattle.std.proofs.lemmas.List.{append-nil}
use Rattle.source_lexer.specs.declared.token.TokenKind.TheVariants.{Var, Colon, Dots, Semicolon, Minus}
use Rattle.thin_source.specs.ThinTree.{Declaration}
use Rattle.thin_source.specs.ThinGrammar.{Symbol, word, numeral, mark, SpellsDeclaration, SpellsDeclarations}
use Rattle.thin_source.specs.ThinFronts.{NotMark, NameFront, BoundFront, DeclarationFront, DeclarationsFront}
use Rattle.thin_source.proofs.ThinOnce.{head_once}

-- ---- a bound

pub bound_plain : (n : ℕ) (symbols rest : List Symbol) → symbols ≡ numeral n ∷ rest → BoundFront (pos n) symbols rest
bound_plain n symbols rest e = (numeral n ∷ [], (n, inl (refl, refl)), e)

pub bound_minus : (n : ℕ) (symbols s rest : List Symbol) → symbols ≡ mark Minus ∷ s → s ≡ numeral n ∷ rest → BoundFront (neg_ℤ (pos n)) symbols rest
bound_minus n symbols s rest begins e = (mark Minus ∷ (numeral n ∷ []), (n, inr (refl, refl)), begins ∙ ap (λ (t : List Symbol). mark Minus ∷ t) e)

-- a bound without a minus, or with one
IsPlain : ℤ → List Symbol → List Symbol → Type 0
IsPlain bound symbols rest = (n : ℕ) × (symbols ≡ numeral n ∷ rest) × (bound ≡ pos n)

IsMinus : ℤ → List Symbol → List Symbol → Type 0
IsMinus bound symbols rest = (n : ℕ) × (symbols ≡ mark Minus ∷ (numeral n ∷ rest)) × (bound ≡ neg_ℤ (pos n))

bound_cases : (bound : ℤ) (symbols rest : List Symbol) → BoundFront bound symbols rest → IsPlain bound symbols rest ⊎ IsMinus bound symbols rest
unfolding IsPlain IsMinus
bound_cases bound symbols rest (front, (n, spelled), parts) =
    elim spelled [
      | inl plain ↦ inl (n, parts ∙ ap (λ (t : List Symbol). t ++ rest) plain.0, plain.1)
      | inr signed ↦ inr (n, parts ∙ ap (λ (t : List Symbol). t ++ rest) signed.0, signed.1)
    ]

numeral_once : (m n : ℕ) → numeral m ≡ numeral n → m ≡ n
numeral_once m n e = cc

pub bound_once : (a b : ℤ) (symbols s r : List Symbol) → BoundFront a symbols s → BoundFront b symbols r → (a ≡ b) × (s ≡ r)
unfolding IsPlain IsMinus
bound_once a b symbols s r h k =
    elim (bound_cases a symbols s h) [
      | inl p ↦ elim (bound_cases b symbols r k) [
        | inl q ↦
            let whole = head_once _ _ _ _ (sym p.1 ∙ q.1) in
            (p.2 ∙ ap pos (numeral_once p.0 q.0 whole.0) ∙ sym q.2, whole.1)
        | inr q ↦ absurd cc
      ]
      | inr p ↦ elim (bound_cases b symbols r k) [
        | inl q ↦ absurd cc
        | inr q ↦
            let whole = head_once _ _ _ _ (head_once _ _ _ _ (sym p.1 ∙ q.1)).1 in
            (p.2 ∙ ap (λ (n : ℕ). neg_ℤ (pos n)) (numeral_once p.0 q.0 whole.0) ∙ sym q.2, whole.1)
      ]
    ]

-- ---- a declaration, part by part

-- what is still to come of a declaration behind its second bound's `..`, and before it, back to its front
abbrev pub FromHigh : Declaration → List Symbol → List Symbol → Type 0
FromHigh d symbols rest = BoundFront d.high symbols (mark Semicolon ∷ rest)

abbrev pub FromDots : Declaration → List Symbol → List Symbol → Type 0
FromDots d symbols rest = (high : List Symbol) × (symbols ≡ mark Dots ∷ high) × FromHigh d high rest

abbrev pub FromLow : Declaration → List Symbol → List Symbol → Type 0
FromLow d symbols rest = (dots : List Symbol) × BoundFront d.low symbols dots × FromDots d dots rest

abbrev pub FromColon : Declaration → List Symbol → List Symbol → Type 0
FromColon d symbols rest = (low : List Symbol) × (symbols ≡ mark Colon ∷ low) × FromLow d low rest

abbrev pub FromName : Declaration → List Symbol → List Symbol → Type 0
FromName d symbols rest = (colon : List Symbol) × (symbols ≡ word d.name ∷ colon) × FromColon d colon rest

abbrev pub FromVar : Declaration → List Symbol → List Symbol → Type 0
FromVar d symbols rest = (name : List Symbol) × (symbols ≡ mark Var ∷ name) × FromName d name rest

declaration_regroup : (x : List ℕ) (low high r : List Symbol) → ((mark Var ∷ (word x ∷ (mark Colon ∷ low))) ++ ((mark Dots ∷ high) ++ (mark Semicolon ∷ []))) ++ r
    ≡ mark Var ∷ (word x ∷ (mark Colon ∷ (low ++ (mark Dots ∷ (high ++ (mark Semicolon ∷ r))))))
declaration_regroup x low high r = simp append_assoc

pub declaration_parts : (d : Declaration) (symbols rest : List Symbol) → DeclarationFront d symbols rest → FromVar d symbols rest
declaration_parts d symbols rest (front, (low, high, low_is, high_is, front_is), parts) =
    let behind_dots = high ++ (mark Semicolon ∷ rest) in
    let behind_colon = low ++ (mark Dots ∷ behind_dots) in
    let whole = parts ∙ ap (λ (t : List Symbol). t ++ rest) front_is ∙ declaration_regroup d.name low high rest in (
      word d.name ∷ (mark Colon ∷ behind_colon),
      whole,
      (
        mark Colon ∷ behind_colon,
        refl,
        (behind_colon, refl, (mark Dots ∷ behind_dots, (low, low_is, refl), (behind_dots, refl, (high, high_is, refl)))),
      ),
    )

pub declaration_made : (d : Declaration) (symbols rest : List Symbol) → FromVar d symbols rest → DeclarationFront d symbols rest
declaration_made d symbols rest (name, e1, (colon, e2, (low, e3, (dots, (low_text, low_is, e4), (high, e5, (high_text, high_is, e6)))))) =
    let whole : symbols ≡ mark Var ∷ (word d.name ∷ (mark Colon ∷ (low_text ++ (mark Dots ∷ (high_text ++ (mark Semicolon ∷ rest)))))) =
    e1 ∙ ap (λ (t : List Symbol). mark Var ∷ t) (e2 ∙ ap (λ (t : List Symbol). word d.name ∷ t) (e3 ∙ ap (λ (t : List Symbol). mark Colon ∷ t) (e4 ∙ ap (λ (t : List Symbol). low_text ++ t) (e5 ∙ ap (λ (t : List Symbol). mark Dots ∷ t) e6)))) in
    (_, (low_text, high_text, low_is, high_is, refl), whole ∙ sym (declaration_regroup d.name low_text high_text rest))

abbrev pub declaration_of : List ℕ → ℤ → ℤ → Declaration
declaration_of name low high = record { name = name; low = low; high = high }

-- ---- each part that is read is that of the declaration that is spelled

pub behind_var : (d : Declaration) (symbols s rest : List Symbol) → symbols ≡ mark Var ∷ s → FromVar d symbols rest → FromName d s rest
behind_var d symbols s rest e h = rw (head_once _ _ _ _ (sym e ∙ h.1)).1 h.2

pub behind_name : (d : Declaration) (x : List ℕ) (symbols s rest : List Symbol) → NameFront x symbols s → FromName d symbols rest → FromColon d s rest
behind_name d x symbols s rest e h = rw (head_once _ _ _ _ (sym e ∙ h.1)).1 h.2

pub behind_colon : (d : Declaration) (symbols s rest : List Symbol) → symbols ≡ mark Colon ∷ s → FromColon d symbols rest → FromLow d s rest
behind_colon d symbols s rest e h = rw (head_once _ _ _ _ (sym e ∙ h.1)).1 h.2

pub behind_low : (d : Declaration) (low : ℤ) (symbols s rest : List Symbol) → BoundFront low symbols s → FromLow d symbols rest → FromDots d s rest
behind_low d low symbols s rest e h = rw (bound_once low d.low symbols s h.0 e h.1).1 h.2

pub behind_dots : (d : Declaration) (symbols s rest : List Symbol) → symbols ≡ mark Dots ∷ s → FromDots d symbols rest → FromHigh d s rest
behind_dots d symbols s rest e h = rw (head_once _ _ _ _ (sym e ∙ h.1)).1 h.2

pub behind_high : (d : Declaration) (high : ℤ) (symbols s rest : List Symbol) → BoundFront high symbols s → FromHigh d symbols rest → s ≡ mark Semicolon ∷ rest
behind_high d high symbols s rest e h = (bound_once high d.high symbols s (mark Semicolon ∷ rest) e h).1

-- ---- all declarations

same_declaration : (a b : Declaration) → a.name ≡ b.name → a.low ≡ b.low → a.high ≡ b.high → a ≡ b
same_declaration a b name low high =
    ap (λ (x : List ℕ). declaration_of x a.low a.high) name ∙ ap (λ (z : ℤ). declaration_of b.name z a.high) low ∙ ap (λ (z : ℤ). declaration_of b.name b.low z) high

word_once : (x y : List ℕ) → word x ≡ word y → x ≡ y
word_once x y e = cc

pub declaration_once : (a b : Declaration) (symbols s r : List Symbol) → DeclarationFront a symbols s → DeclarationFront b symbols r → (a ≡ b) × (s ≡ r)
declaration_once a b symbols s r h k =
    let (name, e1, (colon, e2, (low, e3, (dots, e4, (high, e5, e6))))) = declaration_parts a symbols s h in
    let from_name = behind_var b symbols name r e1 (declaration_parts b symbols r k) in
    let from_low = behind_colon b colon low r e3 (behind_name b a.name name colon r e2 from_name) in
    let from_high = behind_dots b dots high r e5 (behind_low b a.low low dots r e4 from_low) in
    let last = bound_once a.high b.high high _ _ e6 from_high in (
      same_declaration a b (word_once a.name b.name (head_once _ _ _ _ (sym e2 ∙ from_name.1)).0) (bound_once a.low b.low low dots from_low.0 e4 from_low.1).0 last.0,
      (head_once _ _ _ _ last.1).1,
    )

-- declarations that are read are the first of those that are spelled
pub declarations_on : (done all : List Declaration) (front others symbols s r : List Symbol) → SpellsDeclarations front done → SpellsDeclarations others all
    → symbols ≡ front ++ s → symbols ≡ others ++ r → NotMark Var r
    → (more : List Declaration) × (text : List Symbol) × (all ≡ done ++ more) × SpellsDeclarations text more × (s ≡ text ++ r)
declarations_on [] all front others symbols s r h k e f ends =
    (all, others, refl, k, sym (e ∙ ap (λ (t : List Symbol). t ++ s) h) ∙ f)
declarations_on (a ∷ done) [] front others symbols s r (first, rest, parts, first_is, rest_is) k e f ends =
    let own : DeclarationFront a symbols (rest ++ s) = (first, first_is, e ∙ ap (λ (t : List Symbol). t ++ s) parts ∙ append_assoc first rest s) in
    let begins = declaration_parts a symbols (rest ++ s) own in
    absurd (ends begins.0 (sym (f ∙ ap (λ (t : List Symbol). t ++ r) k) ∙ begins.1))
declarations_on (a ∷ done) (b ∷ all) front others symbols s r (first, rest, parts, first_is, rest_is) (first', rest', parts', first_is', rest_is') e f ends =
    let own : DeclarationFront a symbols (rest ++ s) = (first, first_is, e ∙ ap (λ (t : List Symbol). t ++ s) parts ∙ append_assoc first rest s) in
    let other : DeclarationFront b symbols (rest' ++ r) = (first', first_is', f ∙ ap (λ (t : List Symbol). t ++ r) parts' ∙ append_assoc first' rest' r) in
    let one = declaration_once a b symbols _ _ own other in
    let on = declarations_on done all rest rest' (rest ++ s) s r rest_is rest_is' refl one.1 ends in
    (on.0, on.1, cc, on.3, on.4)

-- where no `var` stands, no declaration does
no_declarations : (more : List Declaration) (text s r : List Symbol) → SpellsDeclarations text more → s ≡ text ++ r → NotMark Var s → (more ≡ []) × (s ≡ r)
no_declarations [] text s r h e ends = (refl, e ∙ ap (λ (t : List Symbol). t ++ r) h)
no_declarations (a ∷ more) text s r (first, rest, parts, first_is, rest_is) e ends =
    let begins = declaration_parts a s (rest ++ r) (first, first_is, e ∙ ap (λ (t : List Symbol). t ++ r) parts ∙ append_assoc first rest r) in
    absurd (ends begins.0 begins.1)

pub declarations_once : (a b : List Declaration) (symbols s r : List Symbol) → DeclarationsFront a symbols s → DeclarationsFront b symbols r → (a ≡ b) × (s ≡ r)
declarations_once a b symbols s r (front, a_is, e, a_ends) (others, b_is, f, b_ends) =
    let on = declarations_on a b front others symbols s r a_is b_is e f b_ends in
    let none = no_declarations on.0 on.1 s r on.3 on.4 a_ends in
    (sym (on.2 ∙ ap (λ (m : List Declaration). a ++ m) none.0 ∙ append-nil a), none.1)

-- what the loop keeps: the declarations so far are spelled in front
abbrev pub SoFar : List Declaration → List Symbol → List Symbol → Type 0
SoFar done symbols rest = (front : List Symbol) × SpellsDeclarations front done × (symbols ≡ front ++ rest)

push : (done : List Declaration) (a : Declaration) (front text : List Symbol) → SpellsDeclarations front done → SpellsDeclaration text a → SpellsDeclarations (front ++ text) (done ++ a ∷ [])
push [] a front text h k = (text, [], ap (λ (t : List Symbol). t ++ text) h ∙ sym (append-nil text), k, refl)
push (b ∷ done) a front text (first, rest, parts, first_is, rest_is) k =
    (first, rest ++ text, ap (λ (t : List Symbol). t ++ text) parts ∙ append_assoc first rest text, first_is, push done a rest text rest_is k)

pub declarations_go_on : (done : List Declaration) (a : Declaration) (symbols s r : List Symbol) → SoFar done symbols s → DeclarationFront a s r → SoFar (done ++ a ∷ []) symbols r
declarations_go_on done a symbols s r (front, done_is, e) (text, a_is, f) =
    (front ++ text, push done a front text done_is a_is, e ∙ ap (λ (t : List Symbol). front ++ t) f ∙ sym (append_assoc front text r))

none_behind : (more : List Declaration) (text s after r : List Symbol) → SpellsDeclarations text more → s ≡ text ++ r → s ≡ mark Var ∷ after
    → ((a : Declaration) (t : List Symbol) → DeclarationFront a s t → ⊥) → NotMark Var r → ⊥
none_behind [] text s after r h e var none ends = ends after (sym (e ∙ ap (λ (t : List Symbol). t ++ r) h) ∙ var)
none_behind (a ∷ more) text s after r (first, rest, parts, first_is, rest_is) e var none ends =
    none a (rest ++ r) (first, first_is, e ∙ ap (λ (t : List Symbol). t ++ r) parts ∙ append_assoc first rest r)

pub declarations_stuck : (done : List Declaration) (symbols s after : List Symbol) → SoFar done symbols s → s ≡ mark Var ∷ after
    → ((a : Declaration) (t : List Symbol) → DeclarationFront a s t → ⊥) → (all : List Declaration) (r : List Symbol) → DeclarationsFront all symbols r → ⊥
declarations_stuck done symbols s after (front, done_is, e) var none all r (others, all_is, f, ends) =
    let on = declarations_on done all front others symbols s r done_is all_is e f ends in
    none_behind on.0 on.1 s after r on.3 on.4 var none ends
