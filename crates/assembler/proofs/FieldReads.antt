-- Which fields the next words write: one word, several, and the fields of a form.
use Rattle.std.proofs.Common.{◌≡◌, ℕ, Bool, true, false, List, [], ◌∷◌, ◌++◌, append_assoc, Option, Some, None, MatchOption, nat_lt, slice_index, inl, inr, ◌∙◌, refl, sym, ap, subst}
use Rattle.std.proofs.lemmas.List.{append-nil}
use Rattle.assembler.specs.declared.fields.Fields.{Fields}
use Rattle.assembler.specs.declared.fields.Form.{Form}
use Rattle.assembler.specs.declared.fields.Target.TheVariants.{Place}
use Rattle.assembler.specs.Fields.{Field, a_natural, a_place, a_register}
use Rattle.assembler.specs.Words.{Places, Writes, is_name}
use Rattle.assembler.specs.Statements.{WriteAll}
use Rattle.assembler.specs.Readers.{IsRead, IsUnread, WritesNo, WritesOnly, field_if, is_this}
use Rattle.assembler.specs.Forms.{AreFields, AreNoFields, GoesTo, are_integers, are_naturals, are_registers, integers_of, naturals_of, parts_at, registers_of}

-- ---- one word
read_here : {A : Type 0} (f : A → Field) (word : List ℕ) (new : List (List ℕ)) (result : Option A) → MatchOption result (WritesNo f word) (WritesOnly f word)
    → MatchOption result (IsUnread (λ x. f x ∷ []) (word ∷ new)) (λ x. IsRead (λ y. f y ∷ []) (is_this x) (word ∷ new) new)
read_here f word new None none = λ places y rest all. none places y all.0
read_here f word new (Some x) said = record {
  writes = λ places y rest is all. (subst (λ z. Writes places word (f z)) (sym is) (said.writes places), all);
  only = λ places y rest all. ((x, refl, ap (λ z. f z ∷ []) (said.only places y all.0)), all.1);
}

-- a word that is read is that of its field
pub read_word : {A : Type 0} (f : A → Field) (word : List ℕ) (old new : List (List ℕ)) (wanted : Bool) (result : Option A) → wanted ≡ true → old ≡ word ∷ new
    → MatchOption result (WritesNo f word) (WritesOnly f word)
    → MatchOption result (IsUnread (λ x. field_if wanted (f x)) old) (λ x. IsRead (λ y. field_if wanted (f y)) (is_this x) old new)
read_word f word old new false result w is said = cc
read_word f word old new true result w is said =
    subst (λ words. MatchOption result (IsUnread (λ x. f x ∷ []) words) (λ x. IsRead (λ y. f y ∷ []) (is_this x) words new)) (sym is) (read_here f word new result said)

-- a place is written as a natural number, or as a name
pub read_no_place : (word : List ℕ) (old new : List (List ℕ)) (wanted : Bool) → wanted ≡ true → old ≡ word ∷ new → is_name word ≡ false → WritesNo a_natural word → IsUnread (λ p. field_if wanted (a_place p)) old
read_no_place word old new false w is other none = cc
read_no_place word old new true w is other none = λ places y rest all.
    elim (subst (λ words. WriteAll places words (a_place y ∷ rest)) is all).0 [ inl number ↦ none places y number | inr name ↦ let named = name.0 in cc ]

read_place_here : (word : List ℕ) (new : List (List ℕ)) (n : ℕ) → is_name word ≡ false → WritesOnly a_natural word n → IsRead (λ p. a_place p ∷ []) (GoesTo (Place n)) (word ∷ new) new
read_place_here word new n other said = record {
  writes = λ places y rest is all. (inl (subst (λ z. Writes places word (a_natural z)) (sym is) (said.writes places)), all);
  only = λ places y rest all.
      (elim all.0 as (λ _. (x : ℕ) × (x ≡ n) × (a_place y ∷ [] ≡ a_place x ∷ [])) [ inl number ↦ (n, refl, ap (λ z. a_place z ∷ []) (said.only places y number)) | inr name ↦ let named = name.0 in cc ], all.1);
}

pub read_place : (word : List ℕ) (old new : List (List ℕ)) (wanted : Bool) (n : ℕ) → wanted ≡ true → old ≡ word ∷ new → is_name word ≡ false → WritesOnly a_natural word n → IsRead (λ p. field_if wanted (a_place p)) (GoesTo (Place n)) old new
read_place word old new false n w is other said = cc
read_place word old new true n w is other said =
    subst (λ words. IsRead (λ p. a_place p ∷ []) (GoesTo (Place n)) words new) (sym is) (read_place_here word new n other said)

-- ---- words in a row
read_two : {A B : Type 0} (f : A → List Field) (g : B → List Field) (p : Places → A → Type 0) (q : Places → B → Type 0) (old mid new : List (List ℕ)) → IsRead f p old mid → IsRead g q mid new
    → IsRead (λ (x : A × B). f x.0 ++ g x.1) (λ places x. p places x.0 × q places x.1) old new
read_two f g p q old mid new first second = record {
  writes = λ places x rest said all.
      subst (WriteAll places old) (sym (append_assoc (f x.0) (g x.1) rest)) (first.writes places x.0 (g x.1 ++ rest) said.0 (second.writes places x.1 rest said.1 all));
  only = λ places y rest all.
      let one = first.only places y.0 (g y.1 ++ rest) (subst (WriteAll places old) (append_assoc (f y.0) (g y.1) rest) all) in
      let two = second.only places y.1 rest one.1 in
      (((one.0.0, two.0.0), (one.0.1, two.0.1), ap (λ fields. fields ++ g y.1) one.0.2 ∙ ap (λ fields. f one.0.0 ++ fields) two.0.2), two.1);
}

pub read_pair : {A : Type 0} (f : A → Field) (b c : Bool) (x y : A) (old mid new : List (List ℕ))
    → IsRead (λ z. field_if b (f z)) (is_this x) old mid → IsRead (λ z. field_if c (f z)) (is_this y) mid new
    → IsRead (λ (z : A × A). field_if b (f z.0) ++ field_if c (f z.1)) (λ places z. (z.0 ≡ x) × (z.1 ≡ y)) old new
read_pair f b c x y old mid new first second = read_two (λ z. field_if b (f z)) (λ z. field_if c (f z)) (is_this x) (is_this y) old mid new first second

pub read_three : {A : Type 0} (f : A → Field) (b c d : Bool) (x y z : A) (old mid mid' new : List (List ℕ))
    → IsRead (λ v. field_if b (f v)) (is_this x) old mid → IsRead (λ v. field_if c (f v)) (is_this y) mid mid' → IsRead (λ v. field_if d (f v)) (is_this z) mid' new
    → IsRead (λ (v : A × (A × A)). field_if b (f v.0) ++ (field_if c (f v.1.0) ++ field_if d (f v.1.1))) (λ places v. (v.0 ≡ x) × ((v.1.0 ≡ y) × (v.1.1 ≡ z))) old new
read_three f b c d x y z old mid mid' new first second third =
    read_two (λ v. field_if b (f v)) (λ v. field_if c (f v.0) ++ field_if d (f v.1)) (is_this x) (λ places v. (v.0 ≡ y) × (v.1 ≡ z)) old mid new first
    (read_pair f c d y z mid mid' new second third)

-- ---- the fields of a form
-- no word is left where no field is
write_all_end : (places : Places) (words : List (List ℕ)) → WriteAll places words [] → words ≡ []
write_all_end places [] all = refl
write_all_end places (word ∷ words) all = absurd all

same_three : (f : ℕ → Field) (b c d : Bool) (v : ℕ × (ℕ × ℕ)) (x y z : ℕ) → (v.0 ≡ x) × ((v.1.0 ≡ y) × (v.1.1 ≡ z))
    → field_if b (f v.0) ++ (field_if c (f v.1.0) ++ field_if d (f v.1.1)) ≡ field_if b (f x) ++ (field_if c (f y) ++ field_if d (f z))
same_three f b c d v x y z h =
    ap (λ k. field_if b (f k) ++ (field_if c (f v.1.0) ++ field_if d (f v.1.1))) h.0
    ∙ ap (λ k. field_if b (f x) ++ (field_if c (f k) ++ field_if d (f v.1.1))) h.1.0
    ∙ ap (λ k. field_if b (f x) ++ (field_if c (f y) ++ field_if d (f k))) h.1.1

-- registers, integers and a target are read, and then come no natural numbers
pub no_fields : (form : Form) (fields : Fields) (w0 w1 w2 w3 : List (List ℕ))
    → IsRead (registers_of form.registers) (are_registers fields.registers) w0 w1 → IsRead (integers_of form.integers) (are_integers fields.integers) w1 w2
    → IsRead (λ p. field_if form.has_target (a_place p)) (GoesTo fields.target) w2 w3 → IsUnread (naturals_of form.naturals) w3 → AreNoFields form w0
no_fields form fields w0 w1 w2 w3 registers integers target none places parts all =
    let one = registers.only places parts.registers _ all in
    let two = integers.only places parts.integers _ one.1 in
    let three = target.only places parts.place _ two.1 in
    none places parts.naturals [] (subst (WriteAll places w3) (sym (append-nil (naturals_of form.naturals parts.naturals))) three.1)

-- all are read
pub fields_left : (form : Form) (fields : Fields) (w0 w1 w2 w3 w4 : List (List ℕ))
    → IsRead (registers_of form.registers) (are_registers fields.registers) w0 w1 → IsRead (integers_of form.integers) (are_integers fields.integers) w1 w2
    → IsRead (λ p. field_if form.has_target (a_place p)) (GoesTo fields.target) w2 w3 → IsRead (naturals_of form.naturals) (are_naturals fields.naturals) w3 w4
    → (w4 ≡ [] → ⊥) → AreNoFields form w0
fields_left form fields w0 w1 w2 w3 w4 registers integers target naturals left places parts all =
    let one = registers.only places parts.registers _ all in
    let two = integers.only places parts.integers _ one.1 in
    let three = target.only places parts.place _ two.1 in
    let four = naturals.only places parts.naturals [] (subst (WriteAll places w3) (sym (append-nil (naturals_of form.naturals parts.naturals))) three.1) in
    left (write_all_end places w4 four.1)

pub fields_read : (form : Form) (fields : Fields) (w0 w1 w2 w3 w4 : List (List ℕ))
    → IsRead (registers_of form.registers) (are_registers fields.registers) w0 w1 → IsRead (integers_of form.integers) (are_integers fields.integers) w1 w2
    → IsRead (λ p. field_if form.has_target (a_place p)) (GoesTo fields.target) w2 w3 → IsRead (naturals_of form.naturals) (are_naturals fields.naturals) w3 w4
    → w4 ≡ [] → AreFields form w0 fields
fields_read form fields w0 w1 w2 w3 w4 registers integers target naturals none places parts = (
  λ all.
      let one = registers.only places parts.registers _ all in
      let two = integers.only places parts.integers _ one.1 in
      let three = target.only places parts.place _ two.1 in
      let four = naturals.only places parts.naturals [] (subst (WriteAll places w3) (sym (append-nil (naturals_of form.naturals parts.naturals))) three.1) in
      let same_registers : registers_of form.registers parts.registers ≡ registers_of form.registers (parts_at fields 0).registers = one.0.2 ∙ same_three a_register (nat_lt 0 form.registers) (nat_lt 1 form.registers) (nat_lt 2 form.registers) one.0.0 (slice_index fields.registers 0) (slice_index fields.registers 1) (slice_index fields.registers 2) one.0.1 in
      let same_integers : integers_of form.integers parts.integers ≡ integers_of form.integers fields.integers =
      two.0.2 ∙ ap (λ k. integers_of form.integers (k, two.0.0.1)) two.0.1.0 ∙ ap (λ k. integers_of form.integers (fields.integers.0, k)) two.0.1.1 in
      let same_naturals : naturals_of form.naturals parts.naturals ≡ naturals_of form.naturals (parts_at fields 0).naturals = four.0.2 ∙ same_three a_natural (nat_lt 0 form.naturals) (nat_lt 1 form.naturals) (nat_lt 2 form.naturals) four.0.0 (slice_index fields.naturals 0) (slice_index fields.naturals 1) (slice_index fields.naturals 2) four.0.1 in
      let p = three.0.0 in
      (p, three.0.1, cc),
  λ h.
      let all_naturals = naturals.writes places (parts_at fields h.0).naturals [] (refl, (refl, refl)) (subst (λ words. WriteAll places words []) (sym none) tt) in
      let all = registers.writes places (parts_at fields h.0).registers _ (refl, (refl, refl))
      (integers.writes places (parts_at fields h.0).integers _ (refl, refl)
      (target.writes places h.0 _ h.1
      (subst (WriteAll places w3) (append-nil (naturals_of form.naturals (parts_at fields h.0).naturals)) all_naturals))) in
      subst (WriteAll places w0) (sym h.2) all,
)
