-- One kind more in front: what is wanted goes on to agree with what is counted.
use Rattle.std.proofs.Common.{◌≡◌, inl, inr, ℕ, zero, suc, ◌+◌, ◌≤◌, Bool, true, false, List, [], ◌∷◌, Some, None, refl, ap, subst, arith, nat_eq, if◌then◌else◌}
use Rattle.source_lexer.specs.declared.token.TokenKind.{TokenKind}
use Rattle.source_lexer.specs.declared.token.TokenKind.TheVariants as kind
use Rattle.source_parser.specs.Counting.{Standing, outside, after_a_name, inside, blocks_after, standing_after, weight_of, Count, IsOver}
use Rattle.source_parser.specs.Wants.{Want, token, inner, close, fresh, outermost, sum, sum_tail, term, term_tail, factor, index, comparison, listed, commas, place_tail, after_name, statements, otherwise, declarations, bound, params, more_params, locals}
use Rattle.source_parser.specs.Wants.{Move, stuck, deep, on, step, moved, pay, weighs, price, number_of}
use Rattle.source_parser.proofs.KindNumbers.{same_kind}
use Rattle.source_parser.proofs.Backward.{step_term, step_sum, step_outermost}
use Rattle.source_parser.proofs.CountClasses.{Class, out, named, start, during, done, anywhere, Placed, Within, needs_token, leaves_token, closes, Alone, Chain}

-- a want that may come where it does
fine : {X : Type 0} → X → Unit {0} × Unit {0} × X
fine h = (tt, tt, h)

abbrev pub after : ℕ → Standing → TokenKind → Count
after b x k = record { blocks = blocks_after b k; standing = standing_after x k }

module _ (depth width : ℕ) where
  pub record Agrees (s : List Want) (d w : ℕ) (count : Count) : Type 0 where
    pub class : Class
    pub chain : Chain class s
    pub placed : Placed width class count.standing w
    pub depth_is : d + closes s ≡ depth
    pub blocks_are : closes s ≡ count.blocks

  abbrev pub Keeps : Move → Count → Type 0
  Keeps stuck count = Unit {0}
  Keeps deep count = IsOver depth width count
  Keeps (on s d w) count = Agrees s d w count

  agrees : {s : List Want} {d w b : ℕ} {x : Standing} (c : Class) → Chain c s → Placed width c x w → d + closes s ≡ depth → closes s ≡ b
      → Agrees s d w (record { blocks = b; standing = x })
  agrees c h p e f = record { class = c; chain = h; placed = p; depth_is = e; blocks_are = f }

  -- ---- expressions
  -- a kind that has weight
  paid : (s : List Want) (d w b n : ℕ) → n + w ≡ width → Chain during s → d + closes s ≡ depth → closes s ≡ b
      → Keeps (pay weighs s d w) (record { blocks = b; standing = inside (suc n) })
  paid s d zero b n p h e f = inr (omega (arith, p))
  paid s d (suc w) b n p h e f = agrees during h (omega (arith, p)) e f

  at_factor : (k : TokenKind) (s : List Want) (d w b n : ℕ) → n + w ≡ width → Chain during s → d + closes s ≡ depth → closes s ≡ b
      → Keeps (step width k (factor ∷ s) d w) (after b (inside n) k)
  at_factor kind.Number s d w b n p h e f = agrees during h p e f
  at_factor kind.Name s d w b n p h e f = agrees during (fine h) p e f
  at_factor kind.Minus s d w b n p h e f = paid (factor ∷ s) d w b n p (fine h) e f
  at_factor kind.LeftParen s d w b n p h e f = paid (sum ∷ inner kind.RightParen ∷ s) d w b n p (fine (fine h)) e f
  at_factor k s d w b n p h e f = tt

  at_term : (k : TokenKind) (s : List Want) (d w b n : ℕ) → n + w ≡ width → Chain during s → d + closes s ≡ depth → closes s ≡ b
      → Keeps (step width k (term ∷ s) d w) (after b (inside n) k)
  at_term k s d w b n p h e f = subst (λ (m : Move). Keeps m (after b (inside n) k)) (step_term width k s d w) (at_factor k (term_tail ∷ s) d w b n p (fine h) e f)

  at_sum : (k : TokenKind) (s : List Want) (d w b n : ℕ) → n + w ≡ width → Chain during s → d + closes s ≡ depth → closes s ≡ b
      → Keeps (step width k (sum ∷ s) d w) (after b (inside n) k)
  at_sum k s d w b n p h e f = subst (λ (m : Move). Keeps m (after b (inside n) k)) (step_sum width k s d w) (at_term k (sum_tail ∷ s) d w b n p (fine h) e f)

  at_outermost : (k : TokenKind) (s : List Want) (d w b : ℕ) → Chain done s → d + closes s ≡ depth → closes s ≡ b
      → Keeps (step width k (outermost ∷ s) d w) (after b (inside 0) k)
  at_outermost k s d w b h e f =
      subst (λ (m : Move). Keeps m (after b (inside 0) k)) (step_outermost width k s d w) (at_sum k (fresh ∷ s) d width b 0 (omega arith) (fine h) e f)

  at_listed : (k : TokenKind) (s : List Want) (d w b : ℕ) → Chain anywhere s → d + closes s ≡ depth → closes s ≡ b
      → Keeps (step width k (listed ∷ s) d w) (after b (inside 0) k)
  at_listed kind.RightParen s d w b h e f = agrees anywhere h (omega arith) e f
  at_listed k s d w b h e f = at_outermost k (commas ∷ s) d w b (fine h) e f

  at_sum_tail : (k : TokenKind) (s : List Want) (d w b n : ℕ) → n + w ≡ width → Chain during s → d + closes s ≡ depth → closes s ≡ b
      → Keeps (step width k s d w) (after b (inside n) k) → Keeps (step width k (sum_tail ∷ s) d w) (after b (inside n) k)
  at_sum_tail kind.Plus s d w b n p h e f more = paid (term ∷ sum_tail ∷ s) d w b n p (fine (fine h)) e f
  at_sum_tail kind.Minus s d w b n p h e f more = paid (term ∷ sum_tail ∷ s) d w b n p (fine (fine h)) e f
  at_sum_tail k s d w b n p h e f more = more

  at_term_tail : (k : TokenKind) (s : List Want) (d w b n : ℕ) → n + w ≡ width → Chain during s → d + closes s ≡ depth → closes s ≡ b
      → Keeps (step width k s d w) (after b (inside n) k) → Keeps (step width k (term_tail ∷ s) d w) (after b (inside n) k)
  at_term_tail kind.Star s d w b n p h e f more = paid (factor ∷ term_tail ∷ s) d w b n p (fine (fine h)) e f
  at_term_tail kind.Div s d w b n p h e f more = paid (factor ∷ term_tail ∷ s) d w b n p (fine (fine h)) e f
  at_term_tail kind.Mod s d w b n p h e f more = paid (factor ∷ term_tail ∷ s) d w b n p (fine (fine h)) e f
  at_term_tail k s d w b n p h e f more = more

  at_index : (k : TokenKind) (s : List Want) (d w b n : ℕ) → n + w ≡ width → Chain during s → d + closes s ≡ depth → closes s ≡ b
      → Keeps (step width k s d w) (after b (inside n) k) → Keeps (step width k (index ∷ s) d w) (after b (inside n) k)
  at_index kind.LeftBracket s d w b n p h e f more = paid (sum ∷ inner kind.RightBracket ∷ s) d w b n p (fine (fine h)) e f
  at_index k s d w b n p h e f more = more

  at_paren : (k : TokenKind) (s : List Want) (d w b n : ℕ) → n + w ≡ width → Chain during s → d + closes s ≡ depth → closes s ≡ b
      → Keeps (step width k (inner kind.RightParen ∷ s) d w) (after b (inside n) k)
  at_paren kind.RightParen s d w b n p h e f = agrees during h p e f
  at_paren k s d w b n p h e f = tt

  at_bracket : (k : TokenKind) (s : List Want) (d w b n : ℕ) → n + w ≡ width → Chain during s → d + closes s ≡ depth → closes s ≡ b
      → Keeps (step width k (inner kind.RightBracket ∷ s) d w) (after b (inside n) k)
  at_bracket kind.RightBracket s d w b n p h e f = agrees during h p e f
  at_bracket k s d w b n p h e f = tt

  -- ---- between expressions
  at_comparison : (k : TokenKind) (s : List Want) (d w b n : ℕ) → Chain start s → d + closes s ≡ depth → closes s ≡ b
      → Keeps (step width k (comparison ∷ s) d w) (after b (inside n) k)
  at_comparison kind.Less s d w b n h e f = agrees start h tt e f
  at_comparison kind.LessEqual s d w b n h e f = agrees start h tt e f
  at_comparison kind.Greater s d w b n h e f = agrees start h tt e f
  at_comparison kind.GreaterEqual s d w b n h e f = agrees start h tt e f
  at_comparison kind.Equal s d w b n h e f = agrees start h tt e f
  at_comparison kind.NotEqual s d w b n h e f = agrees start h tt e f
  at_comparison k s d w b n h e f = tt

  at_commas : (k : TokenKind) (s : List Want) (d w b n : ℕ) → n ≤ width → Chain anywhere s → d + closes s ≡ depth → closes s ≡ b
      → Keeps (step width k (commas ∷ s) d w) (after b (inside n) k)
  at_commas kind.Comma s d w b n p h e f = agrees start (fine (fine h)) tt e f
  at_commas kind.RightParen s d w b n p h e f = agrees anywhere h p e f
  at_commas k s d w b n p h e f = tt

  at_place : (k : TokenKind) (s : List Want) (d w b : ℕ) → Chain anywhere s → d + closes s ≡ depth → closes s ≡ b
      → Keeps (step width k s d width) (after b after_a_name k) → Keeps (step width k (place_tail ∷ s) d w) (after b after_a_name k)
  at_place kind.LeftBracket s d w b h e f more = agrees start (fine (fine h)) tt e f
  at_place k s d w b h e f more = more

  at_name : (k : TokenKind) (s : List Want) (d w b : ℕ) → Chain out s → d + closes s ≡ depth → closes s ≡ b
      → Keeps (step width k (after_name ∷ s) d w) (after b after_a_name k)
  at_name kind.LeftParen s d w b h e f = agrees start (fine (fine h)) tt e f
  at_name kind.LeftBracket s d w b h e f = agrees start (fine (fine (fine (fine (fine h))))) tt e f
  at_name kind.Becomes s d w b h e f = agrees start (fine (fine h)) tt e f
  at_name k s d w b h e f = tt

  -- ---- statements
  at_statements : (k : TokenKind) (s : List Want) (d w b : ℕ) → Chain out s → d + closes s ≡ depth → closes s ≡ b
      → Keeps (step width k s d width) (after b outside k) → Keeps (step width k (statements ∷ s) d w) (after b outside k)
  at_statements kind.Print s d w b h e f more = agrees start (fine (fine (fine h))) tt e f
  at_statements kind.Read s d w b h e f more = agrees out (fine (fine (fine (fine h)))) tt e f
  at_statements kind.If s zero w b h e f more = inl (omega (arith, e, f))
  at_statements kind.If s (suc d) w b h e f more = agrees start (fine (fine (fine (fine (fine (fine (fine (fine h)))))))) tt (omega (arith, e)) (ap (λ (n : ℕ). suc n) f)
  at_statements kind.For s zero w b h e f more = inl (omega (arith, e, f))
  at_statements kind.For s (suc d) w b h e f more = agrees out (fine (fine (fine (fine (fine (fine (fine (fine (fine h))))))))) tt (omega (arith, e)) (ap (λ (n : ℕ). suc n) f)
  at_statements kind.While s zero w b h e f more = inl (omega (arith, e, f))
  at_statements kind.While s (suc d) w b h e f more = agrees start (fine (fine (fine (fine (fine (fine (fine (fine (fine h))))))))) tt (omega (arith, e)) (ap (λ (n : ℕ). suc n) f)
  at_statements kind.Name s d w b h e f more = agrees named (fine (fine h)) tt e f
  at_statements k s d w b h e f more = more

  at_else : (k : TokenKind) (s : List Want) (d w b : ℕ) → Chain out s → d + closes s ≡ depth → closes s ≡ b
      → Keeps (step width k s d width) (after b outside k) → Keeps (step width k (otherwise ∷ s) d w) (after b outside k)
  at_else kind.Else s d w b h e f more = agrees out (fine h) tt e f
  at_else k s d w b h e f more = more

  at_close : (k : TokenKind) (s : List Want) (d w b : ℕ) → Chain out s → d + suc (closes s) ≡ depth → suc (closes s) ≡ b
      → Keeps (step width k (close ∷ s) d w) (after b outside k)
  at_close kind.End s d w b h e f = agrees out h tt (omega (arith, e)) (subst (λ (n : ℕ). closes s ≡ blocks_after n kind.End) f refl)
  at_close k s d w b h e f = tt

  -- ---- declarations
  at_declarations : (k : TokenKind) (s : List Want) (d w b : ℕ) → closes s ≡ 0 → Chain out s → d + closes s ≡ depth → closes s ≡ b
      → Keeps (step width k s d width) (after b outside k) → Keeps (step width k (declarations ∷ s) d w) (after b outside k)
  at_declarations kind.Var s d w b l h e f more = agrees out (fine (fine (fine (fine (fine (fine (tt, l, h))))))) tt e f
  at_declarations kind.Array s d w b l h e f more = agrees out (fine (fine (fine (fine (fine (fine (fine (fine (fine (tt, l, h)))))))))) tt e f
  at_declarations kind.Proc s d w b l h e f more = agrees out (fine (fine (fine (fine (fine (fine (tt, l, (tt, l, h)))))))) tt e f
  at_declarations k s d w b l h e f more = more

  at_bound : (k : TokenKind) (s : List Want) (d w b : ℕ) → Chain out s → d + closes s ≡ depth → closes s ≡ b → Keeps (step width k (bound ∷ s) d w) (after b outside k)
  at_bound kind.Number s d w b h e f = agrees out h tt e f
  at_bound kind.Minus s d w b h e f = agrees out (fine h) tt e f
  at_bound k s d w b h e f = tt

  at_params : (k : TokenKind) (s : List Want) (d w b : ℕ) → Chain anywhere s → d + closes s ≡ depth → closes s ≡ b → Keeps (step width k (params ∷ s) d w) (after b (inside 0) k)
  at_params kind.RightParen s d w b h e f = agrees anywhere h (omega arith) e f
  at_params kind.Name s d w b h e f = agrees start (fine (fine (fine (fine (fine h))))) tt e f
  at_params k s d w b h e f = tt

  at_more_params : (k : TokenKind) (s : List Want) (d w b : ℕ) → Chain anywhere s → d + closes s ≡ depth → closes s ≡ b → Keeps (step width k (more_params ∷ s) d w) (after b outside k)
  at_more_params kind.Comma s d w b h e f = agrees out (fine (fine (fine (fine (fine (fine h)))))) tt e f
  at_more_params kind.RightParen s d w b h e f = agrees anywhere h (omega arith) e f
  at_more_params k s d w b h e f = tt

  at_locals : (k : TokenKind) (s : List Want) (d w b : ℕ) (x : Standing) → Chain anywhere s → d + closes s ≡ depth → closes s ≡ b
      → Keeps (step width k s d width) (after b x k) → Keeps (step width k (locals ∷ s) d w) (after b x k)
  at_locals kind.Var s d w b outside h e f more = agrees out (fine (fine (fine (fine (fine (fine (fine h))))))) tt e f
  at_locals kind.Var s d w b after_a_name h e f more = agrees out (fine (fine (fine (fine (fine (fine (fine h))))))) tt e f
  at_locals kind.Var s d w b (inside n) h e f more = agrees out (fine (fine (fine (fine (fine (fine (fine h))))))) tt e f
  at_locals k s d w b x h e f more = more

  -- ---- single tokens
  token_blocks : (j : TokenKind) (b n : ℕ) → Alone j n → n ≡ b → n ≡ blocks_after b j
  token_blocks kind.End zero n l f = f
  token_blocks kind.End (suc b) n l f = absurd cc
  token_blocks kind.If b n l f = absurd l
  token_blocks kind.For b n l f = absurd l
  token_blocks kind.While b n l f = absurd l
  token_blocks j b n l f = f

  loose : (c : Class) (x : Standing) (w : ℕ) → Placed width c x w → weight_of x ≤ width
  loose out outside w p = omega arith
  loose named after_a_name w p = omega arith
  loose start (inside zero) w p = omega arith
  loose during (inside n) w p = omega (arith, p)
  loose done (inside n) w p = p
  loose anywhere x w p = p
  loose out after_a_name w p = absurd p
  loose out (inside n) w p = absurd p
  loose named outside w p = absurd p
  loose named (inside n) w p = absurd p
  loose start outside w p = absurd p
  loose start after_a_name w p = absurd p
  loose start (inside (suc n)) w p = absurd p
  loose during outside w p = absurd p
  loose during after_a_name w p = absurd p
  loose done outside w p = absurd p
  loose done after_a_name w p = absurd p

  token_placed : (j : TokenKind) (c : Class) (x : Standing) (w n : ℕ) → Within c (needs_token j) → Alone j n → Placed width c x w → Placed width (leaves_token j c) (standing_after x j) width
  token_placed kind.Name out outside w n a l p = tt
  token_placed kind.Name out x w n a l p = absurd p
  token_placed kind.Name c x w n a l p = absurd a
  token_placed kind.LeftParen named after_a_name w n a l p = tt
  token_placed kind.LeftParen named x w n a l p = absurd p
  token_placed kind.LeftParen c x w n a l p = absurd a
  token_placed kind.LeftBracket named after_a_name w n a l p = tt
  token_placed kind.LeftBracket named x w n a l p = absurd p
  token_placed kind.LeftBracket c x w n a l p = absurd a
  token_placed kind.If c x w n a l p = absurd l
  token_placed kind.For c x w n a l p = absurd l
  token_placed kind.While c x w n a l p = absurd l
  token_placed kind.Plus c x w n a l p = absurd l
  token_placed kind.Minus c x w n a l p = absurd l
  token_placed kind.Star c x w n a l p = absurd l
  token_placed kind.Div c x w n a l p = absurd l
  token_placed kind.Mod c x w n a l p = absurd l
  token_placed kind.Becomes c x w n a l p = tt
  token_placed kind.To c x w n a l p = tt
  token_placed kind.Colon c x w n a l p = tt
  token_placed kind.Dots c x w n a l p = tt
  token_placed kind.Semicolon c x w n a l p = tt
  token_placed kind.Then c x w n a l p = tt
  token_placed kind.Do c x w n a l p = tt
  token_placed kind.Limit c x w n a l p = tt
  token_placed kind.End c x w n a l p = tt
  token_placed kind.Number out outside w n a l p = tt
  token_placed kind.Number out x w n a l p = absurd p
  token_placed j c outside w n a l p = omega arith
  token_placed j c after_a_name w n a l p = omega arith
  token_placed j c (inside m) w n a l p = let least = loose c (inside m) w p in omega (arith, least)

  token_leads : (j k : TokenKind) (s : List Want) (d w b : ℕ) (x : Standing) (c : Class) → Within c (needs_token j) → Alone j (closes s) → Chain (leaves_token j c) s → Placed width c x w
      → d + closes s ≡ depth → closes s ≡ b → (same : Bool) → nat_eq (number_of j) (number_of k) ≡ same
      → Keeps (moved (if same then Some s else None) false (price (token j) k) (step width k s d width) d width) (after b x k)
  token_leads j k s d w b x c a l h p e f false q = tt
  token_leads j k s d w b x c a l h p e f true q =
      subst (λ (other : TokenKind). Keeps (on s d width) (after b x other)) (same_kind j k q)
      (agrees (leaves_token j c) h (token_placed j c x w (closes s) a l p) e (token_blocks j b (closes s) l f))

  -- ---- what is wanted first
  to_out : (P : Standing → Type 0) (c : Class) (x : Standing) (w : ℕ) → Within c out → Placed width c x w → P outside → P x
  to_out P out outside w a p h = h
  to_out P out x w a p h = absurd p
  to_out P c x w a p h = absurd a

  to_named : (P : Standing → Type 0) (c : Class) (x : Standing) (w : ℕ) → Within c named → Placed width c x w → P after_a_name → P x
  to_named P named after_a_name w a p h = h
  to_named P named x w a p h = absurd p
  to_named P c x w a p h = absurd a

  to_start : (P : Standing → Type 0) (c : Class) (x : Standing) (w : ℕ) → Within c start → Placed width c x w → P (inside 0) → P x
  to_start P start (inside zero) w a p h = h
  to_start P start x w a p h = absurd p
  to_start P c x w a p h = absurd a

  to_during : (P : Standing → Type 0) (c : Class) (x : Standing) (w : ℕ) → Within c during → Placed width c x w → ((n : ℕ) → n + w ≡ width → P (inside n)) → P x
  to_during P during (inside n) w a p h = h n p
  to_during P during x w a p h = absurd p
  to_during P c x w a p h = absurd a

  to_done : (P : Standing → Type 0) (c : Class) (x : Standing) (w : ℕ) → Within c done → Placed width c x w → ((n : ℕ) → n ≤ width → P (inside n)) → P x
  to_done P done (inside n) w a p h = h n p
  to_done P done x w a p h = absurd p
  to_done P c x w a p h = absurd a

  abbrev Kept : List Want → TokenKind → ℕ → ℕ → ℕ → Standing → Type 0
  Kept s k d w b x = Keeps (step width k s d w) (after b x k)

  pub step_leads : (s : List Want) (k : TokenKind) (d w b : ℕ) (x : Standing) (c : Class) → Chain c s → Placed width c x w → d + closes s ≡ depth → closes s ≡ b
      → Keeps (step width k s d w) (after b x k)
  step_leads [] k d w b x c h p e f = tt
  step_leads (token j ∷ s) k d w b x c h p e f = token_leads j k s d w b x c h.0 h.1 h.2 p e f (nat_eq (number_of j) (number_of k)) refl
  step_leads (inner kind.RightParen ∷ s) k d w b x c h p e f = to_during (Kept (inner kind.RightParen ∷ s) k d w b) c x w h.0 p (λ n q. at_paren k s d w b n q h.2 e f)
  step_leads (inner kind.RightBracket ∷ s) k d w b x c h p e f = to_during (Kept (inner kind.RightBracket ∷ s) k d w b) c x w h.0 p (λ n q. at_bracket k s d w b n q h.2 e f)
  step_leads (inner j ∷ s) k d w b x c h p e f = absurd h.1
  step_leads (close ∷ s) k d w b x c h p e f = to_out (Kept (close ∷ s) k d w b) c x w h.0 p (at_close k s d w b h.2 e f)
  step_leads (fresh ∷ s) k d w b x c h p e f = to_during (Kept (fresh ∷ s) k d w b) c x w h.0 p (λ n q. step_leads s k d width b (inside n) done h.2 (omega (arith, q)) e f)
  step_leads (outermost ∷ s) k d w b x c h p e f = to_start (Kept (outermost ∷ s) k d w b) c x w h.0 p (at_outermost k s d w b h.2 e f)
  step_leads (sum ∷ s) k d w b x c h p e f = to_during (Kept (sum ∷ s) k d w b) c x w h.0 p (λ n q. at_sum k s d w b n q h.2 e f)
  step_leads (term ∷ s) k d w b x c h p e f = to_during (Kept (term ∷ s) k d w b) c x w h.0 p (λ n q. at_term k s d w b n q h.2 e f)
  step_leads (factor ∷ s) k d w b x c h p e f = to_during (Kept (factor ∷ s) k d w b) c x w h.0 p (λ n q. at_factor k s d w b n q h.2 e f)
  step_leads (sum_tail ∷ s) k d w b x c h p e f = to_during (Kept (sum_tail ∷ s) k d w b) c x w h.0 p (λ n q. at_sum_tail k s d w b n q h.2 e f (step_leads s k d w b (inside n) during h.2 q e f))
  step_leads (term_tail ∷ s) k d w b x c h p e f = to_during (Kept (term_tail ∷ s) k d w b) c x w h.0 p (λ n q. at_term_tail k s d w b n q h.2 e f (step_leads s k d w b (inside n) during h.2 q e f))
  step_leads (index ∷ s) k d w b x c h p e f = to_during (Kept (index ∷ s) k d w b) c x w h.0 p (λ n q. at_index k s d w b n q h.2 e f (step_leads s k d w b (inside n) during h.2 q e f))
  step_leads (comparison ∷ s) k d w b x c h p e f = to_done (Kept (comparison ∷ s) k d w b) c x w h.0 p (λ n q. at_comparison k s d w b n h.2 e f)
  step_leads (listed ∷ s) k d w b x c h p e f = to_start (Kept (listed ∷ s) k d w b) c x w h.0 p (at_listed k s d w b h.2 e f)
  step_leads (commas ∷ s) k d w b x c h p e f = to_done (Kept (commas ∷ s) k d w b) c x w h.0 p (λ n q. at_commas k s d w b n q h.2 e f)
  step_leads (place_tail ∷ s) k d w b x c h p e f = to_named (Kept (place_tail ∷ s) k d w b) c x w h.0 p (at_place k s d w b h.2 e f (step_leads s k d width b after_a_name anywhere h.2 (omega arith) e f))
  step_leads (after_name ∷ s) k d w b x c h p e f = to_named (Kept (after_name ∷ s) k d w b) c x w h.0 p (at_name k s d w b h.2 e f)
  step_leads (statements ∷ s) k d w b x c h p e f = to_out (Kept (statements ∷ s) k d w b) c x w h.0 p (at_statements k s d w b h.2 e f (step_leads s k d width b outside out h.2 tt e f))
  step_leads (otherwise ∷ s) k d w b x c h p e f = to_out (Kept (otherwise ∷ s) k d w b) c x w h.0 p (at_else k s d w b h.2 e f (step_leads s k d width b outside out h.2 tt e f))
  step_leads (declarations ∷ s) k d w b x c h p e f = to_out (Kept (declarations ∷ s) k d w b) c x w h.0 p (at_declarations k s d w b h.1 h.2 e f (step_leads s k d width b outside out h.2 tt e f))
  step_leads (bound ∷ s) k d w b x c h p e f = to_out (Kept (bound ∷ s) k d w b) c x w h.0 p (at_bound k s d w b h.2 e f)
  step_leads (params ∷ s) k d w b x c h p e f = to_start (Kept (params ∷ s) k d w b) c x w h.0 p (at_params k s d w b h.2 e f)
  step_leads (more_params ∷ s) k d w b x c h p e f = to_out (Kept (more_params ∷ s) k d w b) c x w h.0 p (at_more_params k s d w b h.2 e f)
  step_leads (locals ∷ s) k d w b x c h p e f =
      let least = loose c x w p in
      at_locals k s d w b x h.2 e f (step_leads s k d width b x anywhere h.2 least e f)

  -- ---- over the limits
  pub never_over : {s : List Want} {d w : ℕ} {count : Count} → Agrees s d w count → IsOver depth width count → ⊥
  never_over {s} {d} {w} {count} h (inl more) = let e = h.depth_is in let f = h.blocks_are in omega (arith, e, f, more)
  never_over {s} {d} {w} {count} h (inr more) = let least = loose h.class count.standing w h.placed in omega (arith, least, more)

  pub at_first : Agrees (declarations ∷ statements ∷ []) depth width (record { blocks = 0; standing = outside })
  at_first = agrees out (tt, refl, (tt, tt, tt)) tt (omega arith) refl
