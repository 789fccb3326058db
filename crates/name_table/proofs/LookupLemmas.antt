-- Look-up by name in two lists, one after the other, and with one name more.
use Rattle.std.proofs.Common.{◌≡◌, ℕ, Bool, true, false, List, [], ◌∷◌, ◌++◌, map, Option, Some, None, refl, sym, ap, ◌∙◌}
use Rattle.std.specs.Prelude.{if◌then◌else◌}
use Rattle.std.specs.Option.{is_some, option_map}
use Rattle.std.specs.Str.{bytes_eq}
use Rattle.std.proofs.lemmas.Slice.Eq.{bytes_eq-Decides}
use Rattle.plain_text.specs.Lookup.{Named, lookup}
use Rattle.name_table.specs.Entries.{with_new}

-- the first that is there
abbrev pub first_of : {A : Type 0} → Option A → Option A → Option A
first_of (Some x) other = Some x
first_of None other = other

first_of-if : {A : Type 0} (b : Bool) (a : A) (r q : Option A) → (if b then Some a else first_of r q) ≡ first_of (if b then Some a else r) q
first_of-if true a r q = refl
first_of-if false a r q = refl

pub lookup-append : {A : Type 0} (name : List ℕ) (es fs : Named A) → lookup name (es ++ fs) ≡ first_of (lookup name es) (lookup name fs)
lookup-append name [] fs = refl
lookup-append name (e ∷ es) fs =
    ap (λ r. if bytes_eq e.0 name then Some e.1 else r) (lookup-append name es fs) ∙ first_of-if (bytes_eq e.0 name) e.1 (lookup name es) (lookup name fs)

-- ---- one name more
first_of-None : {A : Type 0} (o : Option A) → first_of o None ≡ o
first_of-None (Some x) = refl
first_of-None None = refl

some_first : {A : Type 0} (o p : Option A) → is_some o ≡ true → first_of o p ≡ o
some_first (Some x) p there = refl
some_first None p there = cc

-- a name that is there already changes nothing
known_adds : {A : Type 0} (b : Bool) (entries : Named A) (x name : List ℕ) (value : A) → bytes_eq name x ≡ b → is_some (lookup name entries) ≡ true
    → first_of (lookup x entries) (if b then Some value else None) ≡ lookup x entries
known_adds true entries x name value same there =
    some_first (lookup x entries) (Some value) (ap (λ n. is_some (lookup n entries)) (sym ((bytes_eq-Decides name x).0 same)) ∙ there)
known_adds false entries x name value same there = first_of-None (lookup x entries)

pub lookup-with_new : {A : Type 0} (x : List ℕ) (entries : Named A) (name : List ℕ) (value : A) → lookup x (with_new entries name value) ≡ lookup x (entries ++ (name, value) ∷ [])
lookup-with_new x entries name value = by (is_some (lookup name entries)) refl
  where
    by : (known : Bool) → is_some (lookup name entries) ≡ known → lookup x (if known then entries else (entries ++ (name, value) ∷ [])) ≡ lookup x (entries ++ (name, value) ∷ [])
    by true there = sym (lookup-append x entries ((name, value) ∷ []) ∙ known_adds (bytes_eq name x) entries x name value refl there)
    by false there = refl

pub with_new-absent : {A : Type 0} (entries : Named A) (name : List ℕ) (value : A) → lookup name entries ≡ None → with_new entries name value ≡ entries ++ (name, value) ∷ []
with_new-absent entries name value new = ap (λ o. if is_some o then entries else (entries ++ (name, value) ∷ [])) new

-- ---- of values that others stand for
some_map : {A B : Type 0} (f : A → B) (b : Bool) (a : A) (r : Option A) → (if b then Some (f a) else option_map f r) ≡ option_map f (if b then Some a else r)
some_map f true a r = refl
some_map f false a r = refl

pub lookup-map : {A B : Type 0} (f : A → B) (name : List ℕ) (es : Named A) → lookup name (map (λ e. (e.0, f e.1)) es) ≡ option_map f (lookup name es)
lookup-map f name [] = refl
lookup-map f name (e ∷ es) = ap (λ r. if bytes_eq e.0 name then Some (f e.1) else r) (lookup-map f name es) ∙ some_map f (bytes_eq e.0 name) e.1 (lookup name es)
