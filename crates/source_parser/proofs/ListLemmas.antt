-- Lists, as loops read them.
use Rattle.std.proofs.Common.{◌≡◌, ℕ, ◌<◌, List, [], ◌∷◌, ◌++◌, length, ap, sym, subst, arith}
use Rattle.std.proofs.lemmas.List.{append_assoc, append-nil}
use Rattle.source_lexer.specs.declared.token.TokenKind.TheVariants as kind
use Rattle.source_parser.specs.Terminals.{Terminal, fixed}
use Rattle.source_parser.specs.Grammar.{ReadsCommas, last, comma, ReadsListed, nothing}
use Rattle.source_parser.proofs.LoopInvariants.{Listing, Gathering}

-- ---- things one after another
module _ {A : Type 0} {ReadsThem : List Terminal → List A → List Terminal → Type 0} {start : List Terminal} where
  pub list_starts : Listing ReadsThem start [] start
  list_starts = record { reads = λ more rest h. h; shorter = omega arith }

  pub list_grows : {found : List A} {now next : List Terminal} (thing : A)
      → ((more : List A) (rest : List Terminal) → ReadsThem next more rest → ReadsThem now (thing ∷ more) rest) → length next < length now
      → Listing ReadsThem start found now → Listing ReadsThem start (found ++ thing ∷ []) next
  list_grows {found = found} thing grows less so_far = record {
    reads = λ more rest h. subst (λ all. ReadsThem start all rest) (sym (append_assoc found (thing ∷ []) more)) (so_far.reads (thing ∷ more) rest (grows more rest h));
    shorter = omega (arith, less, so_far.shorter);
  }

  pub list_ends : {found : List A} {now : List Terminal} → ReadsThem now [] now → Listing ReadsThem start found now → ReadsThem start found now
  list_ends {found = found} {now = now} none so_far = subst (λ all. ReadsThem start all now) (append-nil found) (so_far.reads [] now none)

-- ---- things with commas between them
module _ {A : Type 0} {Reads : List Terminal → A → List Terminal → Type 0} {start : List Terminal} where
  pub commas_start : {now : List Terminal} (thing : A) → Reads start thing now → length now < length start → Gathering Reads start (thing ∷ []) now
  commas_start thing h less = record {
    ends = λ rest line close. last (rw close at h);
    goes_on = λ more behind rest line sign others. comma (rw sign at h) others;
    shorter = less;
  }

  pub commas_grow : {found : List A} {now behind next : List Terminal} {line : ℕ} (thing : A) → now ≡ fixed kind.Comma line ∷ behind → Reads behind thing next → length next < length behind
      → Gathering Reads start found now → Gathering Reads start (found ++ thing ∷ []) next
  commas_grow {found = found} {behind = behind} {line = line} thing sign h less so_far = record {
    ends = λ rest l close. so_far.goes_on (thing ∷ []) behind rest line sign (last (rw close at h));
    goes_on = λ more after rest l next_sign others.
        subst (λ all. ReadsCommas Reads start all rest) (sym (append_assoc found (thing ∷ []) more)) (so_far.goes_on (thing ∷ more) behind rest line sign (comma (rw next_sign at h) others));
    shorter = let longer = ap length sign in omega (arith, less, so_far.shorter, longer);
  }

pub listed_empty : {A : Type 0} {Reads : List Terminal → A → List Terminal → Type 0} {old new : List Terminal} {line : ℕ} → old ≡ fixed kind.RightParen line ∷ new → ReadsListed Reads old [] new
listed_empty close = rw close nothing
