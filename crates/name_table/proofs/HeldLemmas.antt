-- What the map of a table has for a name is what the table has.
use Rattle.std.proofs.Common.{◌≡◌, ℕ, true, false, List, [], ◌∷◌, ◌++◌, Option, Some, None, Result, Ok, Err, refl, sym, ap, ◌∙◌}
use Rattle.std.specs.Prelude.{if◌then◌else◌, MatchOption, OnOk, ⊤}
use Rattle.std.specs.Global.{Vec}
use Rattle.std.specs.Str.{bytes_eq}
use Rattle.std.specs.Map as map
use Rattle.std.specs.Option.{is_some, option_copied}
use Rattle.std.proofs.lemmas.Bool.Decides.{same_from_decides}
use Rattle.std.proofs.lemmas.Slice.Eq.{bytes_eq-Decides}
use denote.Bor.{Bor}
use Rattle.plain_text.specs.Lookup.{Named, lookup}
use Rattle.name_table.specs.Entries.{named, with_new}
use Rattle.name_table.proofs.LookupLemmas.{with_new-absent}

bytes_eq-sym : (a b : List ℕ) → bytes_eq a b ≡ bytes_eq b a
bytes_eq-sym a b =
    let d = bytes_eq-Decides b a in
    same_from_decides (bytes_eq a b) (bytes_eq b a) (bytes_eq-Decides a b) (λ h. sym (d.0 h), λ p. d.1 (sym p))

pub lookup-named : {A : Type 0} (es : List (Vec ℕ × A)) (name : List ℕ) → lookup name (named es) ≡ map.lookup (λ k. bytes_eq name k.items) es
lookup-named [] name = refl
lookup-named (e ∷ es) name =
    ap (λ b. if b then Some e.1 else lookup name (named es)) (bytes_eq-sym e.0.items name)
    ∙ ap (λ r. if bytes_eq name e.0.items then Some e.1 else r) (lookup-named es name)

-- what is answered of a table
pub answered : {A : Type 0} (r : Option (Bor A)) (o : Option A) → o ≡ option_copied r → MatchOption r (o ≡ None) (λ value. o ≡ Some value.now)
answered None o here = here
answered (Some value) o here = here

pub not_some : {A : Type 0} (o : Option A) → is_some o ≡ false → o ≡ None
not_some (Some x) h = cc
not_some None h = refl

-- ---- one name more
pub known_keeps : {A : Type 0} (entries : Named A) (name : List ℕ) (value : A) → is_some (lookup name entries) ≡ true → entries ≡ with_new entries name value
known_keeps entries name value known = ap (λ b. if b then entries else (entries ++ (name, value) ∷ [])) (sym known)

pub new_follows : {A E : Type 0} (entries after : Named A) (name : List ℕ) (value : A) (result : Result ⊤ E) → lookup name entries ≡ None
    → OnOk result (after ≡ entries ++ (name, value) ∷ []) → OnOk result (after ≡ with_new entries name value)
new_follows entries after name value (Ok done) new put = put ∙ sym (with_new-absent entries name value new)
new_follows entries after name value (Err fault) new put = put
