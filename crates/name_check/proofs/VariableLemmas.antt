-- Parameters and locals are declared one after another: what is left of them says what they all say.
use Rattle.std.proofs.Common.{◌≡◌, ℕ, ◌+◌, ◌<◌, ◌≤◌, List, [], ◌∷◌, ◌++◌, length, take, drop, get_or, refl, sym, ap, subst, ◌∙◌, arith, append_assoc}
use Rattle.std.proofs.Math.Seq.{take-append_seam}
use Rattle.std.proofs.lemmas.List.{append-nil, drop_more, drop_all}
use Rattle.source_tree.specs.Scope.{Declared, Scope, variable, with_variables}
use Rattle.source_tree.specs.declared.name.Name.{Name}
use Rattle.source_tree.specs.declared.name.Range.{Range}
use Rattle.name_check.specs.declared.fault.NameFault.{NameFault}
use Rattle.name_check.specs.Names.{as_new, range_faults, variables_faults}
use Rattle.name_check.specs.Reported.{IsReported}
use Rattle.name_check.proofs.WalkLemmas.{stops}

module _ {A : Type 0} (name : A → Name) (range : A → Range) where
  -- those before number i are declared: what is left says what all of them say
  pub record HasDeclared (xs : List A) (i first number : ℕ) (start now : Scope) : Type 0 where
    pub counted : number ≡ first + i
    pub faults : variables_faults name range first xs start ≡ variables_faults name range number (drop i xs) now
    pub scope : with_variables name range first xs start ≡ with_variables name range number (drop i xs) now

  pub declared_first : (xs : List A) (first : ℕ) (start : Scope) → HasDeclared xs 0 first first start start
  declared_first xs first start = record { counted = omega arith; faults = refl; scope = refl }

  -- the next, by its name n and its range r
  module _ (xs : List A) (i first number : ℕ) (start now : Scope) (x : A) (within : i < length xs) (is : x ≡ get_or xs i x)
      (declared : HasDeclared xs i first number start now) (n : Name) (r : Range) (same_name : n ≡ name x) (same_range : r ≡ range x) where
    left : drop i xs ≡ x ∷ drop (i + 1) xs
    left = drop_more xs i x within ∙ ap (λ y. y ∷ drop (i + 1) xs) (sym is)

    faults_are : variables_faults name range first xs start
        ≡ (as_new n now ++ range_faults r n.line) ++ variables_faults name range (number + 1) (drop (i + 1) xs) (now ++ (n.bytes, variable number r) ∷ [])
    faults_are =
        declared.faults ∙ ap (λ l. variables_faults name range number l now) left
        ∙ sym (append_assoc (as_new (name x) now) (range_faults (range x) (name x).line)
        (variables_faults name range (number + 1) (drop (i + 1) xs) (now ++ ((name x).bytes, variable number (range x)) ∷ [])))
        ∙ sym (λ j. (as_new (same_name j) now ++ range_faults (same_range j) (same_name j).line)
        ++ variables_faults name range (number + 1) (drop (i + 1) xs) (now ++ ((same_name j).bytes, variable number (same_range j)) ∷ []))

    scope_is : with_variables name range first xs start ≡ with_variables name range (number + 1) (drop (i + 1) xs) (now ++ (n.bytes, variable number r) ∷ [])
    scope_is =
        declared.scope ∙ ap (λ l. with_variables name range number l now) left
        ∙ sym (λ j. with_variables name range (number + 1) (drop (i + 1) xs) (now ++ ((same_name j).bytes, variable number (same_range j)) ∷ []))

    pub declared_next : (next : Scope) → as_new n now ++ range_faults r n.line ≡ [] → next ≡ now ++ (n.bytes, variable number r) ∷ []
        → HasDeclared xs (i + 1) first (number + 1) start next
    declared_next next none e = record {
      counted = let counted = declared.counted in omega arith;
      faults =
          faults_are ∙ ap (λ l. l ++ variables_faults name range (number + 1) (drop (i + 1) xs) (now ++ (n.bytes, variable number r) ∷ [])) none
          ∙ ap (variables_faults name range (number + 1) (drop (i + 1) xs)) (sym e);
      scope = scope_is ∙ ap (with_variables name range (number + 1) (drop (i + 1) xs)) (sym e);
    }

    pub declared_stops : (fault : NameFault) → IsReported (as_new n now ++ range_faults r n.line) fault → IsReported (variables_faults name range first xs start) fault
    declared_stops fault h = subst (λ all. IsReported all fault) (sym faults_are) (stops (as_new n now ++ range_faults r n.line) _ fault h)

  module _ (xs : List A) (i first number : ℕ) (start now : Scope) (end : length xs ≤ i) (declared : HasDeclared xs i first number start now) where
    pub declared_faults : variables_faults name range first xs start ≡ []
    declared_faults = declared.faults ∙ ap (λ l. variables_faults name range number l now) (drop_all i xs end)

    pub declared_scope : now ≡ with_variables name range first xs start
    declared_scope = sym (declared.scope ∙ ap (λ l. with_variables name range number l now) (drop_all i xs end))

  -- they come after what was there
  pub variables_follow : (k : ℕ) (xs : List A) (scope : Scope) → (more : Scope) × (with_variables name range k xs scope ≡ scope ++ more)
  variables_follow k [] scope = ([], sym (append-nil scope))
  variables_follow k (x ∷ xs) scope =
      let entry : List ℕ × Declared = ((name x).bytes, variable k (range x)) in
      let rest = variables_follow (k + 1) xs (scope ++ entry ∷ []) in
      (entry ∷ rest.0, rest.1 ∙ append_assoc scope (entry ∷ []) rest.0)

-- what was there before two lists of them is its first part
pub left_again : {A B : Type 0} (name : A → Name) (range : A → Range) (name' : B → Name) (range' : B → Range) (k l : ℕ) (xs : List A) (ys : List B) (scope : Scope)
    → take (length scope) (with_variables name' range' l ys (with_variables name range k xs scope)) ≡ scope
left_again name range name' range' k l xs ys scope =
    let first = variables_follow name range k xs scope in
    let both = variables_follow name' range' l ys (with_variables name range k xs scope) in
    ap (take (length scope)) (both.1 ∙ ap (λ s. s ++ both.0) first.1 ∙ append_assoc scope first.0 both.0) ∙ take-append_seam scope (first.0 ++ both.0)
