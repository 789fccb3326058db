-- Symbols spell at most one sum, and a sum that is as long as it can be ends in one place.
use Rattle.std.proofs.Common.{◌≡◌, List, [], ◌∷◌, ◌++◌, refl, sym, ap, ◌∙◌, append_assoc}
use Rattle.std.proofs.lemmas.List.{append-nil}
use Rattle.source_lexer.specs.declared.token.TokenKind.TheVariants.{Semicolon, Star}
use Rattle.thin_source.specs.ThinTree.{Atom, number, name, Product, Sign, plus, minus, Sum}
use Rattle.thin_source.specs.ThinGrammar.{Symbol, mark, atom_symbol, factor_symbols, product_symbols, sign_symbol, term_symbols, sum_symbols}
use Rattle.thin_source.specs.ThinFronts.{NotMark, EndsSum, ProductFront, SumFront}

abbrev pub product_of : Atom → List Atom → Product
product_of first more = record { first = first; more = more }

abbrev pub sum_of : Product → List (Sign × Product) → Sum
sum_of first more = record { first = first; more = more }

same_product : (p q : Product) → p.first ≡ q.first → p.more ≡ q.more → p ≡ q
same_product p q first more = ap (λ (a : Atom). product_of a p.more) first ∙ ap (λ (m : List Atom). product_of q.first m) more

same_sum : (a b : Sum) → a.first ≡ b.first → a.more ≡ b.more → a ≡ b
same_sum a b first more = ap (λ (p : Product). sum_of p a.more) first ∙ ap (λ (m : List (Sign × Product)). sum_of b.first m) more

pub head_once : (x y : Symbol) (s t : List Symbol) → x ∷ s ≡ y ∷ t → (x ≡ y) × (s ≡ t)
head_once x y s t e = (cc, cc)

pub atom_once : (a b : Atom) → atom_symbol a ≡ atom_symbol b → a ≡ b
atom_once (number m) (number n) e = cc
atom_once (number m) (name x) e = absurd cc
atom_once (name x) (number n) e = absurd cc
atom_once (name x) (name y) e = cc

pub sign_once : (a b : Sign) → sign_symbol a ≡ sign_symbol b → a ≡ b
sign_once plus plus e = refl
sign_once plus minus e = absurd cc
sign_once minus plus e = absurd cc
sign_once minus minus e = refl

-- ---- factors

-- factors that are read are the first of those that are spelled
pub factors_on : (done all : List Atom) (s r : List Symbol) → factor_symbols done ++ s ≡ factor_symbols all ++ r → NotMark Star r
    → (more : List Atom) × (all ≡ done ++ more) × (s ≡ factor_symbols more ++ r)
factors_on [] all s r e ends = (all, refl, e)
factors_on (a ∷ done) [] s r e ends = absurd (ends _ (sym e))
factors_on (a ∷ done) (b ∷ all) s r e ends =
    let same : a ≡ b = atom_once a b cc in
    let on = factors_on done all s r (cc) ends in
    (on.0, cc, on.2)

-- where no star stands, no factor is
pub no_factors : (more : List Atom) (s r : List Symbol) → s ≡ factor_symbols more ++ r → NotMark Star s → (more ≡ []) × (s ≡ r)
no_factors [] s r e ends = (refl, e)
no_factors (a ∷ more) s r e ends = absurd (ends _ e)

pub product_once : (p q : Product) (symbols s r : List Symbol) → ProductFront p symbols s → ProductFront q symbols r → (p ≡ q) × (s ≡ r)
product_once p q symbols s r h k =
    let whole : product_symbols p ++ s ≡ product_symbols q ++ r = sym h.0 ∙ k.0 in
    let first = atom_once p.first q.first cc in
    let on = factors_on p.more q.more s r (cc) k.1 in
    let none = no_factors on.0 s r on.2 h.1 in
    let more : q.more ≡ p.more = on.1 ∙ ap (λ (m : List Atom). p.more ++ m) none.0 ∙ append-nil p.more in
    (same_product p q first (sym more), none.1)

-- ---- terms

-- a sign is no star
pub terms_end_product : (terms : List (Sign × Product)) (r : List Symbol) → NotMark Star r → NotMark Star (term_symbols terms ++ r)
terms_end_product [] r ends = ends
terms_end_product ((plus, p) ∷ terms) r ends = λ _ e. absurd cc
terms_end_product ((minus, p) ∷ terms) r ends = λ _ e. absurd cc

pub term_regroup : (sign : Sign) (p : Product) (terms : List (Sign × Product)) (r : List Symbol) → term_symbols ((sign, p) ∷ terms) ++ r ≡ sign_symbol sign ∷ (product_symbols p ++ (term_symbols terms ++ r))
term_regroup sign p terms r = ap (λ (s : List Symbol). sign_symbol sign ∷ s) (append_assoc (product_symbols p) (term_symbols terms) r)

-- terms that are read are the first of those that are spelled
pub terms_on : (done all : List (Sign × Product)) (s r : List Symbol) → term_symbols done ++ s ≡ term_symbols all ++ r → NotMark Star s → EndsSum r
    → (more : List (Sign × Product)) × (all ≡ done ++ more) × (s ≡ term_symbols more ++ r)
terms_on [] all s r e stops ends = (all, refl, e)
terms_on ((plus, p) ∷ done) [] s r e stops ends = absurd (ends.1 _ (sym e))
terms_on ((minus, p) ∷ done) [] s r e stops ends = absurd (ends.2 _ (sym e))
terms_on ((a, p) ∷ done) ((b, q) ∷ all) s r e stops ends =
    let whole = head_once _ _ _ _ (sym (term_regroup a p done s) ∙ e ∙ term_regroup b q all r) in
    let sign = sign_once a b whole.0 in
    let product = product_once p q _ _ _ (refl, terms_end_product done s stops) (whole.1, terms_end_product all r ends.0) in
    let on = terms_on done all s r product.1 stops ends in
    (on.0, cc, on.2)

-- where no sign stands, no term is
pub no_terms : (more : List (Sign × Product)) (s r : List Symbol) → s ≡ term_symbols more ++ r → EndsSum s → (more ≡ []) × (s ≡ r)
no_terms [] s r e ends = (refl, e)
no_terms ((plus, p) ∷ more) s r e ends = absurd (ends.1 _ e)
no_terms ((minus, p) ∷ more) s r e ends = absurd (ends.2 _ e)

pub sum_regroup : (sum : Sum) (r : List Symbol) → sum_symbols sum ++ r ≡ product_symbols sum.first ++ (term_symbols sum.more ++ r)
sum_regroup sum r = append_assoc (product_symbols sum.first) (term_symbols sum.more) r

pub sum_once : (a b : Sum) (symbols s r : List Symbol) → SumFront a symbols s → SumFront b symbols r → (a ≡ b) × (s ≡ r)
sum_once a b symbols s r h k =
    let first = product_once a.first b.first symbols _ _ (h.0 ∙ sum_regroup a s, terms_end_product a.more s h.1.0) (k.0 ∙ sum_regroup b r, terms_end_product b.more r k.1.0) in
    let on = terms_on a.more b.more s r first.1 h.1.0 k.1 in
    let none = no_terms on.0 s r on.2 h.1 in
    let more : b.more ≡ a.more = on.1 ∙ ap (λ (m : List (Sign × Product)). a.more ++ m) none.0 ∙ append-nil a.more in
    (same_sum a b first.0 (sym more), none.1)

-- a semicolon ends a sum
pub semicolon_ends : (r : List Symbol) → EndsSum (mark Semicolon ∷ r)
semicolon_ends r = (λ _ e. absurd cc, λ _ e. absurd cc, λ _ e. absurd cc)
