-- The steps of the loops that read factors and terms.
use Rattle.std.proofs.Common.{◌≡◌, List, [], ◌∷◌, ◌++◌, refl, sym, ap, ◌∙◌}
use Rattle.source_lexer.specs.declared.token.TokenKind.TheVariants.{Star}
use Rattle.thin_source.specs.ThinTree.{Atom, Product, Sign, plus, minus, Sum}
use Rattle.thin_source.specs.ThinGrammar.{Symbol, mark, atom_symbol, factor_symbols, product_symbols, sign_symbol, term_symbols, sum_symbols}
use Rattle.thin_source.specs.ThinFronts.{NotMark, EndsSum, AtomFront, ProductFront, SignFront, SumFront}
use Rattle.thin_source.proofs.ThinOnce.{product_of, sum_of, head_once, factors_on, product_once, terms_end_product, terms_on, sum_regroup, term_regroup}

-- ---- factors

factors_push : (done : List Atom) (a : Atom) (r : List Symbol) → factor_symbols (done ++ a ∷ []) ++ r ≡ factor_symbols done ++ (mark Star ∷ (atom_symbol a ∷ r))
factors_push [] a r = refl
factors_push (b ∷ done) a r = ap (λ (s : List Symbol). mark Star ∷ (atom_symbol b ∷ s)) (factors_push done a r)

pub product_goes_on : (first : Atom) (done : List Atom) (a : Atom) (symbols s after r : List Symbol) → symbols ≡ product_symbols (product_of first done) ++ s
    → s ≡ mark Star ∷ after → AtomFront a after r → symbols ≡ product_symbols (product_of first (done ++ a ∷ [])) ++ r
product_goes_on first done a symbols s after r so_far star next =
    let behind : s ≡ mark Star ∷ (atom_symbol a ∷ r) = star ∙ ap (λ (t : List Symbol). mark Star ∷ t) next in
    so_far ∙ ap (λ (t : List Symbol). atom_symbol first ∷ t) (ap (λ (t : List Symbol). factor_symbols done ++ t) behind ∙ sym (factors_push done a r))

no_factor_behind : (more : List Atom) (s after r : List Symbol) → s ≡ factor_symbols more ++ r → s ≡ mark Star ∷ after → ((a : Atom) (t : List Symbol) → AtomFront a after t → ⊥) → NotMark Star r → ⊥
no_factor_behind [] s after r e star none ends = ends after (sym e ∙ star)
no_factor_behind (a ∷ more) s after r e star none ends = none a (factor_symbols more ++ r) (head_once _ _ _ _ (sym star ∙ e)).1

pub product_stuck : (first : Atom) (done : List Atom) (symbols s after : List Symbol) → symbols ≡ product_symbols (product_of first done) ++ s
    → s ≡ mark Star ∷ after → ((a : Atom) (t : List Symbol) → AtomFront a after t → ⊥) → (p : Product) (r : List Symbol) → ProductFront p symbols r → ⊥
product_stuck first done symbols s after so_far star none p r h =
    let whole = head_once _ _ _ _ (sym so_far ∙ h.0) in
    let on = factors_on done p.more s r whole.1 h.1 in
    no_factor_behind on.0 s after r on.2 star none h.1

-- ---- terms

terms_push : (done : List (Sign × Product)) (sign : Sign) (p : Product) (r : List Symbol) → term_symbols (done ++ (sign, p) ∷ []) ++ r ≡ term_symbols done ++ (sign_symbol sign ∷ (product_symbols p ++ r))
terms_push [] sign p r = term_regroup sign p [] r
terms_push ((a, q) ∷ done) sign p r =
    term_regroup a q (done ++ (sign, p) ∷ []) r
    ∙ ap (λ (s : List Symbol). sign_symbol a ∷ (product_symbols q ++ s)) (terms_push done sign p r)
    ∙ sym (term_regroup a q done (sign_symbol sign ∷ (product_symbols p ++ r)))

pub sum_goes_on : (first : Product) (done : List (Sign × Product)) (sign : Sign) (p : Product) (symbols s after r : List Symbol) → symbols ≡ sum_symbols (sum_of first done) ++ s
    → SignFront sign s after → ProductFront p after r → symbols ≡ sum_symbols (sum_of first (done ++ (sign, p) ∷ [])) ++ r
sum_goes_on first done sign p symbols s after r so_far signed next =
    let behind : s ≡ sign_symbol sign ∷ (product_symbols p ++ r) = signed ∙ ap (λ (t : List Symbol). sign_symbol sign ∷ t) next.0 in
    so_far ∙ sum_regroup (sum_of first done) s
    ∙ ap (λ (t : List Symbol). product_symbols first ++ t) (ap (λ (t : List Symbol). term_symbols done ++ t) behind ∙ sym (terms_push done sign p r))
    ∙ sym (sum_regroup (sum_of first (done ++ (sign, p) ∷ [])) r)

-- no sign stands where a sum ends
no_sign : (sign : Sign) (s after : List Symbol) → EndsSum s → SignFront sign s after → ⊥
no_sign plus s after ends signed = ends.1 after signed
no_sign minus s after ends signed = ends.2 after signed

no_term_behind : (more : List (Sign × Product)) (sign : Sign) (s after r : List Symbol) → s ≡ term_symbols more ++ r → SignFront sign s after
    → ((p : Product) (t : List Symbol) → ProductFront p after t → ⊥) → EndsSum r → ⊥
no_term_behind [] sign s after r e signed none ends = no_sign sign r after ends (sym e ∙ signed)
no_term_behind ((a, p) ∷ more) sign s after r e signed none ends =
    none p (term_symbols more ++ r) ((head_once _ _ _ _ (sym signed ∙ e ∙ term_regroup a p more r)).1, terms_end_product more r ends.0)

pub sum_stuck : (first : Product) (done : List (Sign × Product)) (sign : Sign) (symbols s after : List Symbol) → symbols ≡ sum_symbols (sum_of first done) ++ s → NotMark Star s
    → SignFront sign s after → ((p : Product) (t : List Symbol) → ProductFront p after t → ⊥) → (sum : Sum) (r : List Symbol) → SumFront sum symbols r → ⊥
sum_stuck first done sign symbols s after so_far stops signed none sum r h =
    let product = product_once first sum.first symbols _ _ (so_far ∙ sum_regroup (sum_of first done) s, terms_end_product done s stops) (h.0 ∙ sum_regroup sum r, terms_end_product sum.more r h.1.0) in
    let on = terms_on done sum.more s r product.1 stops h.1 in
    no_term_behind on.0 sign s after r on.2 signed none h.1

-- a sum begins with a product
pub sum_begins : (symbols : List Symbol) → ((p : Product) (t : List Symbol) → ProductFront p symbols t → ⊥) → (sum : Sum) (r : List Symbol) → SumFront sum symbols r → ⊥
sum_begins symbols none sum r h = none sum.first (term_symbols sum.more ++ r) (h.0 ∙ sum_regroup sum r, terms_end_product sum.more r h.1.0)

-- where neither a star nor a sign stands, a sum ends
pub sum_ends : (s : List Symbol) → NotMark Star s → ((sign : Sign) (t : List Symbol) → SignFront sign s t → ⊥) → EndsSum s
sum_ends s stops none = (stops, none plus, none minus)
