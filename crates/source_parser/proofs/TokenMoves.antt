-- What single tokens do to what is wanted.
use Rattle.std.proofs.Common.{◌≡◌, inl, inr, ℕ, suc, ◌-◌, ◌<◌, Bool, false, List, [], ◌∷◌, ◌++◌, refl, ap, sym, ◌∙◌, Option, Some, None, Result, Ok, Err, nat_eq, if◌then◌else◌, arith}
use Rattle.std.proofs.lemmas.Bool.{eq-eqb}
use Rattle.std.proofs.lemmas.Bool.Decides.{eqb_tells}
use Rattle.std.specs.Result.{IsErrAnd}
use Rattle.source_lexer.specs.declared.token.TokenKind.{TokenKind}
use Rattle.source_lexer.specs.declared.token.TokenKind.TheVariants as kind
use Rattle.source_tree.specs.declared.name.Name.{Name}
use Rattle.std.specs.Prelude.{ℤ}
use Rattle.source_parser.specs.declared.fault.Fault.{Fault}
use Rattle.source_parser.specs.declared.fault.Fault.TheVariants.{Stops, Deep, NoMemory}
use Rattle.source_parser.specs.Limits.{weight_limit}
use Rattle.source_parser.specs.Terminals.{Terminal, identifier, literal, fixed, kind_of, kinds_of}
use Rattle.source_parser.specs.Taking.{NotKind, Misses, Stands, ExpectsIdentifier, ExpectsLiteral}
use Rattle.source_parser.specs.Wants.{Want, token, inner, close, statements, stuck, deep, on, price, moved, step, Outcome, run, stopped, too_deep, number_of}
use Rattle.source_parser.specs.Landings.{Leads, Comes, Lands, reads, no_memory, LandsNext, reads_one, lacks_memory}
use Rattle.source_parser.proofs.KindNumbers.{same_kind}
use Rattle.source_parser.proofs.Moves.{at_start, onward, gives_up, nests_too_deep, next_too_deep}

-- what a kind comes to where a token is wanted, by whether it is that kind
abbrev by_token : TokenKind → TokenKind → List TokenKind → List Want → ℕ → ℕ → Bool → Outcome
by_token k j ks s d w same =
    elim (moved (if same then Some s else None) false (price (token k) j) (step weight_limit j s d weight_limit) d weight_limit) [
      | stuck ↦ stopped (j ∷ ks)
      | deep ↦ too_deep (j ∷ ks)
      | on s' d' w' ↦ run weight_limit ks s' d' w'
    ]

abbrev by_inner : TokenKind → TokenKind → List TokenKind → List Want → ℕ → ℕ → Bool → Outcome
by_inner k j ks s d w same =
    elim (moved (if same then Some s else None) false (price (inner k) j) (step weight_limit j s d w) d w) [
      | stuck ↦ stopped (j ∷ ks)
      | deep ↦ too_deep (j ∷ ks)
      | on s' d' w' ↦ run weight_limit ks s' d' w'
    ]

other_kind : (k j : TokenKind) (ks : List TokenKind) → NotKind k (j ∷ ks) → (number_of k ≡ number_of j → ⊥)
other_kind k j ks not same = not ks (ap (λ (x : TokenKind). x ∷ ks) (sym (same_kind k j (eq-eqb (number_of k) (number_of j) same))))

differs : (k j : TokenKind) (ks : List TokenKind) → NotKind k (j ∷ ks) → nat_eq (number_of k) (number_of j) ≡ false
differs k j ks not = elim (eqb_tells (number_of k) (number_of j)) [
  | inl (told, same) ↦ absurd (other_kind k j ks not same)
  | inr (told, other) ↦ told
]

module _ (k : TokenKind) (s : List Want) (d w : ℕ) where
  token_goes : (ks : List TokenKind) → run weight_limit (k ∷ ks) (token k ∷ s) d w ≡ run weight_limit ks s d weight_limit
  token_goes ks = ap (by_token k k ks s d w) (eq-eqb (number_of k) (number_of k) refl)

  inner_goes : (ks : List TokenKind) → run weight_limit (k ∷ ks) (inner k ∷ s) d w ≡ run weight_limit ks s d w
  inner_goes ks = ap (by_inner k k ks s d w) (eq-eqb (number_of k) (number_of k) refl)

  token_stops : (ks : List TokenKind) → NotKind k ks → run weight_limit ks (token k ∷ s) d w ≡ stopped ks
  token_stops [] not = refl
  token_stops (j ∷ ks) not = ap (by_token k j ks s d w) (differs k j ks not)

  inner_stops : (ks : List TokenKind) → NotKind k ks → run weight_limit ks (inner k ∷ s) d w ≡ stopped ks
  inner_stops [] not = refl
  inner_stops (j ∷ ks) not = ap (by_inner k j ks s d w) (differs k j ks not)

close_stops : (s : List Want) (d w : ℕ) (ks : List TokenKind) → NotKind kind.End ks → run weight_limit ks (close ∷ s) d w ≡ stopped ks
close_stops s d w [] not = refl
close_stops s d w (kind.End ∷ ks) not = absurd (not ks refl)
close_stops s d w (j ∷ ks) not = refl

-- ---- what stands there
module _ {wants more : List Want} {old now new : List Terminal} {d w e v : ℕ} where
  pub and_token : {k : TokenKind} {line : ℕ} → now ≡ fixed k line ∷ new → Leads wants old d w (token k ∷ more) now e v → Leads wants old d w more new e weight_limit
  and_token {k = k} there so_far = onward more {part = token k ∷ []} {others = []} (record { leads = λ s. ap (λ (ts : List Terminal). run weight_limit (kinds_of ts) (token k ∷ s) e v) there ∙ token_goes k s e v (kinds_of new) }) so_far

  pub and_inner : {k : TokenKind} {line : ℕ} → now ≡ fixed k line ∷ new → Leads wants old d w (inner k ∷ more) now e v → Leads wants old d w more new e v
  and_inner {k = k} there so_far = onward more {part = inner k ∷ []} {others = []} (record { leads = λ s. ap (λ (ts : List Terminal). run weight_limit (kinds_of ts) (inner k ∷ s) e v) there ∙ inner_goes k s e v (kinds_of new) }) so_far

  pub and_close : {line : ℕ} → now ≡ fixed kind.End line ∷ new → Leads wants old d w (close ∷ more) now e v → Leads wants old d w more new (suc e) weight_limit
  and_close there so_far = onward more {part = close ∷ []} {others = []} (record { leads = λ s. ap (λ (ts : List Terminal). run weight_limit (kinds_of ts) (close ∷ s) e v) there }) so_far

  pub and_name : {x : Name} → now ≡ identifier x ∷ new → Leads wants old d w (token kind.Name ∷ more) now e v → Leads wants old d w more new e weight_limit
  and_name there so_far = onward more {part = token kind.Name ∷ []} {others = []} (record { leads = λ s. ap (λ (ts : List Terminal). run weight_limit (kinds_of ts) (token kind.Name ∷ s) e v) there }) so_far

  pub and_number : {x : ℤ} {line : ℕ} → now ≡ literal x line ∷ new → Leads wants old d w (token kind.Number ∷ more) now e v → Leads wants old d w more new e weight_limit
  and_number there so_far = onward more {part = token kind.Number ∷ []} {others = []} (record { leads = λ s. ap (λ (ts : List Terminal). run weight_limit (kinds_of ts) (token kind.Number ∷ s) e v) there }) so_far

  -- nothing
  pub still : new ≡ now → Leads wants old d w more now e v → Leads wants old d w more new e v
  still same so_far = rw same so_far

  pub unmoved : {left : ℕ} → left ≡ v → new ≡ now → Leads wants old d w more now e v → Leads wants old d w more new e left
  unmoved kept same so_far = rw (kept, same) so_far

  -- an operator or bracket that isn't there
  pub and_not : {k : TokenKind} {left : ℕ} → (left ≡ v) × Misses k now new → Leads wants old d w more now e v → Leads wants old d w more new e left
  and_not missing so_far = unmoved missing.0 missing.1.0 so_far

  -- A terminal that leads to these wants: outside of expressions; in one; one that has weight; and one that opens a block.
  pub and_taken : {want : Want} {t : Terminal} (others : List Want) → now ≡ t ∷ new
      → ((s : List Want) (ks : List TokenKind) → run weight_limit (kind_of t ∷ ks) (want ∷ s) e v ≡ run weight_limit ks (others ++ s) e weight_limit)
      → Leads wants old d w (want ∷ more) now e v → Leads wants old d w (others ++ more) new e weight_limit
  and_taken {want = want} others there goes so_far =
      onward more {part = want ∷ []} {others = others}
      (record { leads = λ s. ap (λ (ts : List Terminal). run weight_limit (kinds_of ts) (want ∷ s) e v) there ∙ goes s (kinds_of new) }) so_far

  pub and_inside : {want : Want} {t : Terminal} (others : List Want) → now ≡ t ∷ new
      → ((s : List Want) (ks : List TokenKind) → run weight_limit (kind_of t ∷ ks) (want ∷ s) e v ≡ run weight_limit ks (others ++ s) e v)
      → Leads wants old d w (want ∷ more) now e v → Leads wants old d w (others ++ more) new e v
  and_inside {want = want} others there goes so_far =
      onward more {part = want ∷ []} {others = others}
      (record { leads = λ s. ap (λ (ts : List Terminal). run weight_limit (kinds_of ts) (want ∷ s) e v) there ∙ goes s (kinds_of new) }) so_far

  pub and_weighted : {want : Want} {k : TokenKind} {line left : ℕ} (others : List Want) → now ≡ fixed k line ∷ new → v ≡ suc left
      → ((s : List Want) (ks : List TokenKind) → run weight_limit (k ∷ ks) (want ∷ s) e (suc left) ≡ run weight_limit ks (others ++ s) e left)
      → Leads wants old d w (want ∷ more) now e v → Leads wants old d w (others ++ more) new e left
  and_weighted {want = want} {k = k} others there spends goes so_far =
      onward more {part = want ∷ []} {others = others}
      (record {
        leads = λ s.
            ap (λ (ts : List Terminal). run weight_limit (kinds_of ts) (want ∷ s) e v) there
            ∙ ap (λ (n : ℕ). run weight_limit (k ∷ kinds_of new) (want ∷ s) e n) spends ∙ goes s (kinds_of new);
      }) so_far

  pub and_opening : {k : TokenKind} {line : ℕ} (others : List Want) → now ≡ fixed k line ∷ new → 0 < e
      → ((s : List Want) (ks : List TokenKind) (n : ℕ) → run weight_limit (k ∷ ks) (statements ∷ s) (suc n) v ≡ run weight_limit ks (others ++ s) n weight_limit)
      → Leads wants old d w (statements ∷ more) now e v → Leads wants old d w (others ++ more) new (e - 1) weight_limit
  and_opening {k = k} others there some goes so_far =
      let less : e ≡ suc (e - 1) = omega (arith, some) in
      onward more {part = statements ∷ []} {others = others}
      (record {
        leads = λ s.
            ap (λ (ts : List Terminal). run weight_limit (kinds_of ts) (statements ∷ s) e v) there
            ∙ ap (λ (n : ℕ). run weight_limit (k ∷ kinds_of new) (statements ∷ s) n v) less ∙ goes s (kinds_of new) (e - 1);
      }) so_far

-- what changes nothing but what is wanted
pub instead : {wants more : List Want} {old now : List Terminal} {d w e v e' v' : ℕ} {want : Want} (others : List Want)
    → ((s : List Want) → run weight_limit (kinds_of now) (want ∷ s) e v ≡ run weight_limit (kinds_of now) (others ++ s) e' v')
    → Leads wants old d w (want ∷ more) now e v → Leads wants old d w (others ++ more) now e' v'
instead {more = more} {want = want} others same so_far = onward more {part = want ∷ []} {others = others} (record { leads = same }) so_far

-- ---- what is missing
module _ {A : Type 0} {wants more : List Want} {old now new : List Terminal} {d w e v d' w' : ℕ} {result : Result A Fault} {fault : Fault} where
  pub no_token : {k : TokenKind} → (fault ≡ Stops) × Misses k now new → IsErrAnd result (λ own. own ≡ fault)
      → Leads wants old d w (token k ∷ more) now e v → Lands wants old d w result new d' w'
  no_token {k = k} misses own so_far = gives_up more {part = token k ∷ []} (record { comes = λ s. token_stops k s e v (kinds_of now) misses.1.1 }) misses.0 misses.1.0 own so_far

  pub no_inner : {k : TokenKind} → (fault ≡ Stops) × Misses k now new → IsErrAnd result (λ own. own ≡ fault)
      → Leads wants old d w (inner k ∷ more) now e v → Lands wants old d w result new d' w'
  no_inner {k = k} misses own so_far = gives_up more {part = inner k ∷ []} (record { comes = λ s. inner_stops k s e v (kinds_of now) misses.1.1 }) misses.0 misses.1.0 own so_far

  pub no_close : (fault ≡ Stops) × Misses kind.End now new → IsErrAnd result (λ own. own ≡ fault)
      → Leads wants old d w (close ∷ more) now e v → Lands wants old d w result new d' w'
  no_close misses own so_far = gives_up more {part = close ∷ []} (record { comes = λ s. close_stops s e v (kinds_of now) misses.1.1 }) misses.0 misses.1.0 own so_far

-- a name that isn't there, or for which there is no memory
pub no_name_of : (more : List Want) {A : Type 0} {wants part : List Want} {old now new : List Terminal} {d w e v d' w' : ℕ} {result : Result A Fault} (fault : Fault)
    → ExpectsIdentifier now (Err fault) new → IsErrAnd result (λ own. own ≡ fault)
    → (NotKind kind.Name (kinds_of now) → Comes part now e v (stopped (kinds_of now)))
    → Leads wants old d w (part ++ more) now e v → Lands wants old d w result new d' w'
no_name_of more {result = Ok x} fault misses own none so_far = absurd own
no_name_of more {result = Err NoMemory} fault misses own none so_far = no_memory
no_name_of more {result = Err own} Stops misses is none so_far = gives_up more (none misses.1) refl misses.0 is so_far
no_name_of more {result = Err own} Deep misses is none so_far = absurd misses
no_name_of more {result = Err Stops} NoMemory misses is none so_far = absurd cc
no_name_of more {result = Err Deep} NoMemory misses is none so_far = absurd cc

pub no_name : {A : Type 0} {wants more : List Want} {old now new : List Terminal} {d w e v d' w' : ℕ} {result : Result A Fault} (fault : Fault)
    → ExpectsIdentifier now (Err fault) new → IsErrAnd result (λ own. own ≡ fault)
    → Leads wants old d w (token kind.Name ∷ more) now e v → Lands wants old d w result new d' w'
no_name {more = more} {now = now} {e = e} {v = v} fault misses own so_far =
    no_name_of more {part = token kind.Name ∷ []} fault misses own (λ not. record { comes = λ s. token_stops kind.Name s e v (kinds_of now) not }) so_far

-- a keyword or symbol of which no more are allowed
pub too_many : {A : Type 0} {wants more : List Want} {old now new : List Terminal} {d w e v d' w' : ℕ} {result : Result A Fault} {fault : Fault} {want : Want} {k : TokenKind}
    → (fault ≡ Deep) × (v ≡ 0) × Stands k now new → ((s : List Want) (ks : List TokenKind) → run weight_limit (k ∷ ks) (want ∷ s) e 0 ≡ too_deep (k ∷ ks)) → IsErrAnd result (λ own. own ≡ fault)
    → Leads wants old d w (want ∷ more) now e v → Lands wants old d w result new d' w'
too_many {more = more} {now = now} {e = e} {v = v} {want = want} stands over own so_far =
    let there = stands.2.3 in
    nests_too_deep more {part = want ∷ []} (record {
      comes = λ s.
          ap (λ (n : ℕ). run weight_limit (kinds_of now) (want ∷ s) e n) stands.1
          ∙ ap (λ (ts : List Terminal). run weight_limit (kinds_of ts) (want ∷ s) e 0) there
          ∙ over s (kinds_of stands.2.2) ∙ sym (ap (λ (ts : List Terminal). too_deep (kinds_of ts)) there);
    }) stands.0 stands.2.0 own so_far

-- want of memory
pub no_memory_for : {A : Type 0} {wants : List Want} {old new : List Terminal} {d w d' w' : ℕ} {result : Result A Fault}
    → IsErrAnd result (λ own. own ≡ NoMemory) → Lands wants old d w result new d' w'
no_memory_for {result = Ok x} own = absurd own
no_memory_for {result = Err NoMemory} own = no_memory
no_memory_for {result = Err Stops} own = absurd cc
no_memory_for {result = Err Deep} own = absurd cc

pub no_memory_next : {A : Type 0} {want : Want} {old new : List Terminal} {d w : ℕ} {result : Result (Option A) Fault}
    → IsErrAnd result (λ own. own ≡ NoMemory) → LandsNext want old d w result new
no_memory_next {result = Ok x} own = absurd own
no_memory_next {result = Err NoMemory} own = lacks_memory
no_memory_next {result = Err Stops} own = absurd cc
no_memory_next {result = Err Deep} own = absurd cc

-- a number, whatever the reader answers
pub number_lands : {now new : List Terminal} {e v : ℕ} (result : Result ℤ Fault) → ExpectsLiteral now result new → Lands (token kind.Number ∷ []) now e v result new e weight_limit
number_lands (Ok value) there = reads (and_number there.1 at_start)
number_lands (Err Stops) misses = no_token misses refl at_start
number_lands (Err Deep) misses = absurd cc
number_lands (Err NoMemory) misses = absurd cc

-- ---- blocks
-- a block that may not be opened
pub block_too_deep : {A : Type 0} {want : Want} {k : TokenKind} {old now new : List Terminal} {d w : ℕ} {result : Result (Option A) Fault} {fault : Fault}
    → (fault ≡ Deep) × (d ≡ 0) × Stands k now new → ((s : List Want) (ks : List TokenKind) → run weight_limit (k ∷ ks) (want ∷ s) 0 w ≡ too_deep (k ∷ ks))
    → IsErrAnd result (λ own. own ≡ fault) → now ≡ old → LandsNext want old d w result new
block_too_deep {want = want} {old = old} {w = w} stands over own same =
    let there = sym same ∙ stands.2.3 in
    next_too_deep (record {
      comes = λ s.
          ap (λ (n : ℕ). run weight_limit (kinds_of old) (want ∷ s) n w) stands.1
          ∙ ap (λ (ts : List Terminal). run weight_limit (kinds_of ts) (want ∷ s) 0 w) there
          ∙ over s (kinds_of stands.2.2) ∙ sym (ap (λ (ts : List Terminal). too_deep (kinds_of ts)) there);
    }) stands.0 (stands.2.0 ∙ same) own

-- a block that was opened and closed
pub block_read : {A : Type 0} {want : Want} {old new : List Terminal} {d w : ℕ} {found : A} → 0 < d
    → Leads (want ∷ []) old d w (want ∷ []) new (suc (d - 1)) w → LandsNext want old d w (Ok (Some found)) new
block_read {d = d} some way =
    let same : suc (d - 1) ≡ d = omega (arith, some) in
    reads_one (rw same at way)
