-- Declarations, parameters and locals, one more at a time.
use Rattle.std.proofs.Common.{◌≡◌, ℕ, ℤ, zero, suc, ◌+◌, ◌<◌, List, [], ◌∷◌, ◌++◌, length, take, get_or, refl, sym, ap, ◌∙◌, subst, arith, append_assoc, append-nil}
use Rattle.plain_text.specs.Lookup.{Named}
use Rattle.name_table.specs.Entries.{with_new}
use Rattle.source_tree.specs.Scope.{Scope, variable, with_variables, inside, with_declared, names_in, with_all_declared, range_at}
use Rattle.source_tree.specs.declared.name.Name.{Name}
use Rattle.source_tree.specs.declared.name.Range.{Range}
use Rattle.source_tree.specs.declared.declaration.Param.{Param}
use Rattle.source_tree.specs.declared.declaration.Local.{Local}
use Rattle.source_tree.specs.declared.declaration.Declaration.{Declaration}
use Rattle.source_tree.specs.declared.declaration.Program.{Program}
use Rattle.source_tree.specs.declared.statement.Statement.{Statement}
use Rattle.range_inference.specs.Demands.{Demand, variables_demands, params_demands, locals_demands, statements_demands, procedure_demands, declaration_demands, declarations_demands, demands_of, node_intervals, wide_lines}
use Rattle.range_inference.specs.Outcome.{IsPassed}
use Rattle.range_inference.specs.Table.{HasRanges, range_in}
use Rattle.range_inference.specs.declared.interval.Interval.{Interval}
use Rattle.range_inference.proofs.Judging.{Two, Three, passed_without}
use Rattle.range_inference.proofs.TableLemmas.{ranges_are, has_more}

module _ {A : Type 0} (name : A → Name) (range : A → Range) where
  with_variables-append : (k : ℕ) (xs : List A) (x : A) (scope : Scope)
      → (n : ℕ) × (with_variables name range k (xs ++ x ∷ []) scope ≡ with_variables name range k xs scope ++ ((name x).bytes, variable n (range x)) ∷ [])
  with_variables-append k [] x scope = (k, refl)
  with_variables-append k (y ∷ xs) x scope = with_variables-append (k + 1) xs x (scope ++ ((name y).bytes, variable k (range y)) ∷ [])

  -- one more, by its name n and its range r
  pub variables_mirror : (before after : Named Range) (k : ℕ) (all xs : List A) (x : A) (scope : Scope) (n : Name) (r : Range) → n ≡ name x → r ≡ range x → all ≡ xs ++ x ∷ []
      → HasRanges before (with_variables name range k xs scope) → after ≡ with_new before n.bytes r
      → HasRanges after (with_variables name range k all scope)
  variables_mirror before after k all xs x scope n r same_name same_range is h more =
      let one = with_variables-append k xs x scope in
      subst (λ (s : Scope). HasRanges after s) (sym (ap (λ l. with_variables name range k l scope) is ∙ one.1))
      (has_more before after (with_variables name range k xs scope) (name x).bytes (variable one.0 (range x)) h
      (more ∙ (λ j. with_new before (same_name j).bytes (same_range j))))

  variables_have_no_nodes : (xs : List A) → node_intervals (variables_demands name range xs) ≡ []
  variables_have_no_nodes [] = refl
  variables_have_no_nodes (x ∷ xs) = variables_have_no_nodes xs

  pub variables_passed : (bound : ℤ) (xs : List A) (start : List Interval) → wide_lines bound (variables_demands name range xs) ≡ [] → IsPassed bound (variables_demands name range xs) start start
  variables_passed bound xs start none = passed_without bound (variables_demands name range xs) start (variables_have_no_nodes xs) none

-- ---- declaration i
pub record At (k : ℕ) (ds : List Declaration) (d : Declaration) (i : ℕ) (scope : Scope) : Type 0 where
  pub number : ℕ
  pub rest : List Demand
  pub whole : declarations_demands k ds scope
      ≡ declarations_demands k (take i ds) scope ++ (declaration_demands number d (with_all_declared k (take i ds) scope) ++ rest)
  pub more : declarations_demands k (take (suc i) ds) scope
      ≡ declarations_demands k (take i ds) scope ++ declaration_demands number d (with_all_declared k (take i ds) scope)
  pub names : with_all_declared k (take (suc i) ds) scope ≡ with_declared number d (with_all_declared k (take i ds) scope)

pub at_declaration : (k : ℕ) (ds : List Declaration) (d : Declaration) (i : ℕ) (scope : Scope)
    → i < length ds → d ≡ get_or ds i d → At k ds d i scope
at_declaration k [] d i scope h is = absurd (omega arith)
at_declaration k (x ∷ ds) d zero scope h is = record {
  number = k;
  rest = declarations_demands (k + names_in x) ds (with_declared k x scope);
  whole = ap (λ y. declaration_demands k y scope ++ declarations_demands (k + names_in x) ds (with_declared k x scope)) (sym is);
  more = append-nil (declaration_demands k x scope) ∙ ap (λ y. declaration_demands k y scope) (sym is);
  names = ap (λ y. with_declared k y scope) (sym is);
}
at_declaration k (x ∷ ds) d (suc i) scope h is =
    let a : At (k + names_in x) ds d i (with_declared k x scope) = at_declaration (k + names_in x) ds d i (with_declared k x scope) (omega arith) is in
    let own = declaration_demands k x scope in
    let before = declarations_demands (k + names_in x) (take i ds) (with_declared k x scope) in
    let here = declaration_demands a.number d (with_all_declared (k + names_in x) (take i ds) (with_declared k x scope)) in
    record {
      number = a.number;
      rest = a.rest;
      whole = ap (λ l. own ++ l) a.whole ∙ sym (append_assoc own before (here ++ a.rest));
      more = ap (λ l. own ++ l) a.more ∙ sym (append_assoc own before here);
      names = a.names;
    }

-- what it, those before it and those after it demand
abbrev pub parted_at : (k : ℕ) (ds : List Declaration) (d : Declaration) (i : ℕ) (scope : Scope) → At k ds d i scope → Three (declarations_demands k ds scope)
parted_at k ds d i scope a = record {
  one = declarations_demands k (take i ds) scope;
  two = declaration_demands a.number d (with_all_declared k (take i ds) scope);
  three = a.rest;
  is = a.whole;
}

-- ---- a procedure, whose inside has the ranges of a table
module _ (k : ℕ) (own : List Param) (inner : List Local) (body : List Statement) (scope : Scope) where
  abbrev pub procedure_parts : Three (procedure_demands k own inner body scope)
  procedure_parts = record { one = params_demands own; two = locals_demands inner; three = statements_demands body (range_at (inside k own inner scope)); is = refl }

  abbrev pub procedure_parts_in : (table : Named Range) → HasRanges table (inside k own inner scope) → Three (procedure_demands k own inner body scope)
  procedure_parts_in table names = record {
    one = params_demands own;
    two = locals_demands inner;
    three = statements_demands body (range_in table);
    is = ap (λ ranges. params_demands own ++ (locals_demands inner ++ statements_demands body ranges)) (sym (ranges_are table (inside k own inner scope) names));
  }

-- ---- a program
abbrev pub program_parts : (program : Program) → Two (demands_of program)
program_parts program = record {
  one = declarations_demands 0 program.declarations [];
  two = statements_demands program.statements (range_at (with_all_declared 0 program.declarations []));
  is = refl;
}

abbrev pub program_parts_in : (program : Program) (table : Named Range) → HasRanges table (with_all_declared 0 program.declarations []) → Two (demands_of program)
program_parts_in program table names =
    let one = declarations_demands 0 program.declarations [] in
    record {
      one = one;
      two = statements_demands program.statements (range_in table);
      is = ap (λ ranges. one ++ statements_demands program.statements ranges) (sym (ranges_are table (with_all_declared 0 program.declarations []) names));
    }
