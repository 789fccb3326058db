-- Where kinds end, by what is wanted of them, they stop to be the prefix of a program, or nest too deep.
use Rattle.std.proofs.Common.{◌≡◌, ◌⊎◌, inl, inr, ℕ, suc, ◌-◌, Bool, true, false, if◌then◌else◌, List, [], ◌∷◌, ◌++◌, length, take, refl, ap, sym, subst, ◌∙◌, arith, append_assoc, length-append}
use Rattle.source_lexer.specs.declared.token.TokenKind.{TokenKind}
use Rattle.source_parser.specs.Prefixes.{SpellsKinds, IsPrefix, IsPrefixWithin, StopsAt, DeepAt}
use Rattle.source_parser.specs.Wants.{Want, declarations, statements, may_end, Move, stuck, deep, on, step, finish, run, Outcome, spelled, stopped, too_deep}
use Rattle.source_parser.proofs.Forward.{reads_program}
use Rattle.source_parser.proofs.KindNumbers.{plains, kinds_plain}
use Rattle.source_parser.proofs.Completions.{Fits, completes}
use Rattle.source_parser.proofs.Backward.{Backs, back}
use Rattle.source_parser.proofs.WiderLimits.{Alike, alike, Grown, grown}

-- what a move leads to
abbrev pub Goes : ℕ → TokenKind → List TokenKind → Move → Outcome
Goes width k ks stuck = stopped (k ∷ ks)
Goes width k ks deep = too_deep (k ∷ ks)
Goes width k ks (on s d w) = run width ks s d w

-- After some kinds so much is wanted. Then what fits behind them fits with them, also where each limit is one more; and
-- within any limits they lead to the same wants.
pub record Reached (width : ℕ) (s : List Want) (d w : ℕ) (before : List TokenKind) (wants : List Want) (depth spare : ℕ) : Type 0 where
  pub moves : (more : List TokenKind) → run width (before ++ more) s d w ≡ run width more wants depth spare
  pub fits : (more : List TokenKind) → Fits width wants depth spare (plains more) → Fits width s d w (plains (before ++ more))
  pub wider : (more : List TokenKind) → Fits (suc width) wants (suc depth) (suc spare) (plains more) → Fits (suc width) s (suc d) (suc w) (plains (before ++ more))
  pub shape : (width' d' w' : ℕ) (more : List TokenKind) → run width' (before ++ more) s d' w' ≡ spelled
      → (d'' : ℕ) × (w'' : ℕ) × (run width' more wants d'' w'' ≡ spelled)

pub at_once : (width : ℕ) (s : List Want) (d w : ℕ) → Reached width s d w [] s d w
at_once width s d w = record { moves = λ more. refl; fits = λ more f. f; wider = λ more f. f; shape = λ width' d' w' more h. (d', w', h) }

shape_on : (width' : ℕ) (k : TokenKind) (ks : List TokenKind) (s : List Want) (d w : ℕ) (m : Move) → Alike (on s d w) m → Goes width' k ks m ≡ spelled
    → (d' : ℕ) × (w' : ℕ) × (run width' ks s d' w' ≡ spelled)
shape_on width' k ks s d w stuck h e = absurd h
shape_on width' k ks s d w deep h e = absurd cc
shape_on width' k ks s d w (on s' d' w') h e = (d', w', rw h e)

-- one kind more in front
pub one_more : (width : ℕ) (s : List Want) (d w : ℕ) (k : TokenKind) (s' : List Want) (d' w' : ℕ) (before : List TokenKind) (wants : List Want) (depth spare : ℕ)
    → step width k s d w ≡ on s' d' w' → Reached width s' d' w' before wants depth spare → Reached width s d w (k ∷ before) wants depth spare
one_more width s d w k s' d' w' before wants depth spare e r =
    let larger : step (suc width) k s (suc d) (suc w) ≡ on s' (suc d') (suc w')
    = subst (λ (m : Move). Grown m (step (suc width) k s (suc d) (suc w))) e (grown k s width d w) in
    record {
      moves = λ more. ap (Goes width k (before ++ more)) e ∙ r.moves more;
      fits = λ more f. (subst (Backs width k s d w) e (back width k s d w)) (plains (before ++ more)) (r.fits more f);
      wider = λ more f. (subst (Backs (suc width) k s (suc d) (suc w)) larger (back (suc width) k s (suc d) (suc w))) (plains (before ++ more)) (r.wider more f);
      shape = λ width' d'' w'' more h.
          let next = shape_on width' k (before ++ more) s' d' w' (step width' k s d'' w'')
          (subst (λ (m : Move). Alike m (step width' k s d'' w'')) e (alike k s width d w width' d'' w'')) h in
          r.shape width' next.0 next.1 more next.2;
    }

-- ---- where kinds stop, nest too deep or are all wanted
-- no program goes on with the first kind, or ends there; or that kind nests too deep
abbrev IsStuck : ℕ → List TokenKind → List Want → ℕ → ℕ → Type 0
IsStuck width [] s d w = finish s ≡ stopped []
IsStuck width (k ∷ ks) s d w = step width k s d w ≡ stuck

abbrev IsDeep : ℕ → List TokenKind → List Want → ℕ → ℕ → Type 0
IsDeep width [] s d w = ⊥
IsDeep width (k ∷ ks) s d w = step width k s d w ≡ deep

-- what an outcome tells of what is wanted where it comes
abbrev Ends : ℕ → List Want → ℕ → ℕ → Outcome → Type 0
Ends width s d w spelled = Unit {0}
Ends width s d w (stopped rest) = IsStuck width rest s d w
Ends width s d w (too_deep rest) = IsDeep width rest s d w

abbrev rest_of : Outcome → List TokenKind
rest_of spelled = []
rest_of (stopped rest) = rest
rest_of (too_deep rest) = rest

-- Kinds come to an outcome after some of them, at the rest that it tells.
record Met (width : ℕ) (s : List Want) (d w : ℕ) (ks : List TokenKind) (outcome : Outcome) : Type 0 where
  before : List TokenKind
  wants : List Want
  depth : ℕ
  spare : ℕ
  parts : ks ≡ before ++ rest_of outcome
  reached : Reached width s d w before wants depth spare
  ends : Ends width wants depth spare outcome

met_at_once : (width : ℕ) (s : List Want) (d w : ℕ) (outcome : Outcome) → Ends width s d w outcome → Met width s d w (rest_of outcome) outcome
met_at_once width s d w outcome h = record { before = []; wants = s; depth = d; spare = w; parts = refl; reached = at_once width s d w; ends = h }

met_after : (width : ℕ) (s : List Want) (d w : ℕ) (k : TokenKind) (ks : List TokenKind)
    → ((s' : List Want) (d' w' : ℕ) → Met width s' d' w' ks (run width ks s' d' w'))
    → (m : Move) → step width k s d w ≡ m → Met width s d w (k ∷ ks) (Goes width k ks m)
met_after width s d w k ks later stuck e = met_at_once width s d w (stopped (k ∷ ks)) e
met_after width s d w k ks later deep e = met_at_once width s d w (too_deep (k ∷ ks)) e
met_after width s d w k ks later (on s' d' w') e =
    let next = later s' d' w' in
    record {
      before = k ∷ next.before;
      wants = next.wants;
      depth = next.depth;
      spare = next.spare;
      parts = ap (λ (xs : List TokenKind). k ∷ xs) next.parts;
      reached = one_more width s d w k s' d' w' next.before next.wants next.depth next.spare e next.reached;
      ends = next.ends;
    }

finishes_by : (may : Bool) (outcome : Outcome) → (outcome ≡ spelled) ⊎ (outcome ≡ stopped []) → ((if may then outcome else stopped []) ≡ spelled) ⊎ ((if may then outcome else stopped []) ≡ stopped [])
finishes_by true outcome h = h
finishes_by false outcome h = inr refl

finishes : (s : List Want) → (finish s ≡ spelled) ⊎ (finish s ≡ stopped [])
finishes [] = inl refl
finishes (want ∷ s) = finishes_by (may_end want) (finish s) (finishes s)

met_at_end : (width : ℕ) (s : List Want) (d w : ℕ) (outcome : Outcome) → finish s ≡ outcome → (outcome ≡ spelled) ⊎ (outcome ≡ stopped []) → Met width s d w [] outcome
met_at_end width s d w outcome e (inl all) = subst (Met width s d w []) (sym all) (met_at_once width s d w spelled tt)
met_at_end width s d w outcome e (inr none) = subst (Met width s d w []) (sym none) (met_at_once width s d w (stopped []) (e ∙ none))

meets : (width : ℕ) (ks : List TokenKind) (s : List Want) (d w : ℕ) → Met width s d w ks (run width ks s d w)
meets width [] s d w = met_at_end width s d w (finish s) refl (finishes s)
meets width (k ∷ ks) s d w = met_after width s d w k ks (λ s' d' w'. meets width ks s' d' w') (step width k s d w) refl

-- ---- programs
program_of : (width depth w : ℕ) (ks : List TokenKind) → Fits width (declarations ∷ statements ∷ []) depth w (plains ks) → SpellsKinds depth width ks
program_of width depth w ks f = record {
  terminals = plains ks;
  program = record { declarations = f.reads.tree; statements = f.behind.reads.tree };
  same = kinds_plain ks;
  spells = record { behind = f.rest; declarations = f.reads.reads; statements = rw f.behind.behind at f.behind.reads.reads };
}

-- kinds of a program are all wanted
pub runs : {depth width : ℕ} {ks : List TokenKind} → SpellsKinds depth width ks → run width ks (declarations ∷ statements ∷ []) depth width ≡ spelled
runs {depth} {width} {ks} p = subst (λ (xs : List TokenKind). run width xs (declarations ∷ statements ∷ []) depth width ≡ spelled) p.same (reads_program width p.spells)

-- one of them apart from those before and after it
runs_through : {depth width : ℕ} (before : List TokenKind) (k : TokenKind) (rest : List TokenKind) → SpellsKinds depth width (before ++ k ∷ [] ++ rest)
    → run width (before ++ (k ∷ rest)) (declarations ∷ statements ∷ []) depth width ≡ spelled
runs_through {depth} {width} before k rest p =
    subst (λ (xs : List TokenKind). run width xs (declarations ∷ statements ∷ []) depth width ≡ spelled) (append_assoc before (k ∷ []) rest) (runs p)

take_before : (before rest : List TokenKind) → take (length before) (before ++ rest) ≡ before
take_before [] rest = refl
take_before (k ∷ before) rest = ap (λ (xs : List TokenKind). k ∷ xs) (take_before before rest)

take_through : (before : List TokenKind) (k : TokenKind) (rest : List TokenKind) → take (suc (length before)) (before ++ k ∷ rest) ≡ before ++ k ∷ []
take_through [] k rest = refl
take_through (b ∷ before) k rest = ap (λ (xs : List TokenKind). b ∷ xs) (take_through before k rest)

before_place : (before rest : List TokenKind) → length (before ++ rest) - length rest ≡ length before
before_place before rest = let h = length-append before rest in omega (arith, h)

-- ---- the two faults
module _ (depth width : ℕ) where
  pub within : (before : List TokenKind) (wants : List Want) (d w : ℕ) → Reached width (declarations ∷ statements ∷ []) depth width before wants d w → IsPrefixWithin depth width before
  within before wants d w r =
      let more = completes width wants d w in
      record { rest = more.0; spells = program_of width depth width (before ++ more.0) (r.fits more.0 more.1) }

  stuck_goes : (width' : ℕ) (k : TokenKind) (ks : List TokenKind) (m : Move) → Alike stuck m → Goes width' k ks m ≡ spelled → ⊥
  stuck_goes width' k ks stuck h e = absurd cc
  stuck_goes width' k ks deep h e = absurd h
  stuck_goes width' k ks (on s d w) h e = absurd h

  no_prefix : (before : List TokenKind) (wants : List Want) (d w : ℕ) (k : TokenKind) → Reached width (declarations ∷ statements ∷ []) depth width before wants d w
      → step width k wants d w ≡ stuck → IsPrefix (before ++ k ∷ []) → ⊥
  no_prefix before wants d w k r e prefix =
      let p = prefix.program in
      let next = r.shape p.width p.depth p.width (k ∷ prefix.rest) (runs_through before k prefix.rest p.spells) in
      stuck_goes p.width k prefix.rest (step p.width k wants next.0 next.1)
      (subst (λ (m : Move). Alike m (step p.width k wants next.0 next.1)) e (alike k wants width d w p.width next.0 next.1)) next.2

  stops : (before rest : List TokenKind) (wants : List Want) (d w : ℕ) → Reached width (declarations ∷ statements ∷ []) depth width before wants d w → IsStuck width rest wants d w
      → StopsAt depth width (before ++ rest) (length before)
  stops before [] wants d w r e = record {
    within = let h = length-append before [] in omega (arith, h);
    before = rw (take_before before []) (within before wants d w r);
    stops = λ less. let h = length-append before [] in absurd (omega (arith, h, less));
    ended = λ same program.
        let next = r.shape program.width program.depth program.width [] (runs program.spells) in
        absurd cc;
  }
  stops before (k ∷ rest) wants d w r e = record {
    within = let h = length-append before (k ∷ rest) in omega (arith, h);
    before = rw (take_before before (k ∷ rest)) (within before wants d w r);
    stops = λ less. rw (take_through before k rest) (no_prefix before wants d w k r e);
    ended = λ same. let h = length-append before (k ∷ rest) in absurd (omega (arith, h, same));
  }

  meets_at : (ks : List TokenKind) (outcome : Outcome) → run width ks (declarations ∷ statements ∷ []) depth width ≡ outcome → Met width (declarations ∷ statements ∷ []) depth width ks outcome
  meets_at ks outcome h = subst (Met width (declarations ∷ statements ∷ []) depth width ks) h (meets width ks (declarations ∷ statements ∷ []) depth width)

  pub stops_at : (ks rest : List TokenKind) → run width ks (declarations ∷ statements ∷ []) depth width ≡ stopped rest → StopsAt depth width ks (length ks - length rest)
  stops_at ks rest h =
      let m = meets_at ks (stopped rest) h in
      rw (m.parts, before_place m.before rest) (stops m.before rest m.wants m.depth m.spare m.reached m.ends)

  wider_prefix : (before : List TokenKind) (wants : List Want) (d w : ℕ) (k : TokenKind) → Reached width (declarations ∷ statements ∷ []) depth width before wants d w
      → step width k wants d w ≡ deep → IsPrefix (before ++ k ∷ [])
  wider_prefix before wants d w k r e =
      let larger : Grown deep (step (suc width) k wants (suc d) (suc w)) = subst (λ (m : Move). Grown m (step (suc width) k wants (suc d) (suc w))) e (grown k wants width d w) in
      let more = completes (suc width) larger.0 larger.1 larger.2 in
      let f : Fits (suc width) wants (suc d) (suc w) (plains (k ∷ more.0)) = (subst (Backs (suc width) k wants (suc d) (suc w)) larger.3 (back (suc width) k wants (suc d) (suc w))) (plains more.0) more.1 in
      let whole : SpellsKinds (suc depth) (suc width) (before ++ k ∷ more.0) = program_of (suc width) (suc depth) (suc width) (before ++ k ∷ more.0) (r.wider (k ∷ more.0) f) in
      record {
        rest = more.0;
        program = record { depth = suc depth; width = suc width; spells = subst (SpellsKinds (suc depth) (suc width)) (sym (append_assoc before (k ∷ []) more.0)) whole };
      }

  too_deep_within : (before : List TokenKind) (wants : List Want) (d w : ℕ) (k : TokenKind) → Reached width (declarations ∷ statements ∷ []) depth width before wants d w
      → step width k wants d w ≡ deep → IsPrefixWithin depth width (before ++ k ∷ []) → ⊥
  too_deep_within before wants d w k r e prefix =
      let through = runs_through before k prefix.rest prefix.spells in
      let moved = r.moves (k ∷ prefix.rest) in
      let last : too_deep (k ∷ prefix.rest) ≡ spelled = sym (ap (Goes width k prefix.rest) e) ∙ sym moved ∙ through in
      absurd cc

  deeps : (before rest : List TokenKind) (wants : List Want) (d w : ℕ) → Reached width (declarations ∷ statements ∷ []) depth width before wants d w → IsDeep width rest wants d w
      → DeepAt depth width (before ++ rest) (length before)
  deeps before [] wants d w r e = absurd e
  deeps before (k ∷ rest) wants d w r e = record {
    within = let l = length-append before (k ∷ rest) in omega (arith, l);
    before = rw (take_before before (k ∷ rest)) (within before wants d w r);
    prefix = rw (take_through before k rest) (wider_prefix before wants d w k r e);
    deep = rw (take_through before k rest) (too_deep_within before wants d w k r e);
  }

  pub deep_at : (ks rest : List TokenKind) → run width ks (declarations ∷ statements ∷ []) depth width ≡ too_deep rest → DeepAt depth width ks (length ks - length rest)
  deep_at ks rest h =
      let m = meets_at ks (too_deep rest) h in
      rw (m.parts, before_place m.before rest) (deeps m.before rest m.wants m.depth m.spare m.reached m.ends)
