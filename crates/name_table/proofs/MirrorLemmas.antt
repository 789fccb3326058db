-- Lists by name that mirror each other or extend each other, with one name more.
use Rattle.std.proofs.Common.{◌≡◌, ℕ, Bool, true, false, List, [], ◌∷◌, ◌++◌, length, map, take, Option, Some, None, refl, sym, ap, ◌∙◌, append_assoc, append-nil}
use Rattle.std.specs.Prelude.{if◌then◌else◌}
use Rattle.std.specs.Option.{is_some, option_map}
use Rattle.std.proofs.Math.Seq.{take-append_seam}
use Rattle.plain_text.specs.Lookup.{Named, lookup}
use Rattle.name_table.specs.Entries.{with_new, Mirrors, Extends}
use Rattle.name_table.proofs.LookupLemmas.{first_of, lookup-append, lookup-map}

-- ---- what stands under each name
module _ {A B : Type 0} (f : A → B) where
  first_of-map : (o p : Option A) → option_map f (first_of o p) ≡ first_of (option_map f o) (option_map f p)
  first_of-map (Some x) p = refl
  first_of-map None p = refl

  -- one more in both, each by what it then has for a name
  pub mirrors_more : (entries next : Named A) (others after : Named B) (name : List ℕ) (a : A)
      → Mirrors f entries others
      → ((x : List ℕ) → lookup x next ≡ lookup x (entries ++ (name, a) ∷ []))
      → ((x : List ℕ) → lookup x after ≡ lookup x (others ++ (name, f a) ∷ []))
      → Mirrors f next after
  mirrors_more entries next others after name a h more also x =
      let own : Named A = (name, a) ∷ [] in
      let its : Named B = (name, f a) ∷ [] in
      ap (option_map f) (more x ∙ lookup-append x entries own)
      ∙ first_of-map (lookup x entries) (lookup x own)
      ∙ (λ j. first_of (h x j) (sym (lookup-map f x own) j))
      ∙ sym (also x ∙ lookup-append x others its)

  -- the values by f mirror
  pub lookup-mirrored : (entries : Named A) (others : Named B) → Mirrors f entries others → (x : List ℕ) → lookup x (map (λ e. (e.0, f e.1)) entries) ≡ lookup x others
  lookup-mirrored entries others h x = lookup-map f x entries ∙ h x

-- ---- more entries
module _ {A : Type 0} where
  pub extends_itself : (entries : Named A) → Extends entries entries
  extends_itself entries = ([], sym (append-nil entries))

  pub extends_with_new : (entries : Named A) (name : List ℕ) (value : A) → Extends entries (with_new entries name value)
  extends_with_new entries name value = of (is_some (lookup name entries))
    where
      of : (known : Bool) → Extends entries (if known then entries else (entries ++ (name, value) ∷ []))
      of true = extends_itself entries
      of false = ((name, value) ∷ [], refl)

  pub extends_then : (a b c : Named A) → Extends a b → Extends b c → Extends a c
  extends_then a b c h k = (h.0 ++ k.0, k.1 ∙ ap (λ l. l ++ k.0) h.1 ∙ append_assoc a h.0 k.0)

  pub taken_back : (a b : Named A) → Extends a b → take (length a) b ≡ a
  taken_back a b h = ap (take (length a)) h.1 ∙ take-append_seam a h.0
