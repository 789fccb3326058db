-- How far a run has come: the statements that are left, the variables, and the pieces put so far.
use Rattle.std.proofs.Common.{◌≡◌, ℕ, true, not, ◌||◌, ◌==◌, List, [], ◌∷◌, ◌++◌, length, take, drop, refl, sym, ap, subst, ◌∙◌, append_assoc}
use Rattle.std.proofs.Math.Seq.{take-append_seam}
use Rattle.std.proofs.lemmas.List.{take-append-drop}
use Rattle.std.specs.List.{list_all}
use Rattle.outside.specs.Sink.{SinkState, PutLeaves, WroteAll, BrokeOff}
use Rattle.outside.proofs.Runs.{WroteAll-one, BrokeOff-one, BrokeOff-append}
use Rattle.outside.specs.declared.sink.Put.{Put}
use Rattle.outside.specs.declared.sink.Put.TheVariants.{Done, Failed}
use Rattle.number_text.specs.Lines.{print_lines}
use Rattle.outside.specs.Sink.{PutsPieces}
use Rattle.thin_source.specs.ThinTree.{Statement, assign, print, Program}
use Rattle.thin_source.specs.ThinRules.{is_lawful_statement, IsLawful}
use Rattle.thin_source.specs.ThinMeaning.{State, start_of, prints_from, prints_of}
use Rattle.thin_source.specs.ThinVectors.{vectors_of}
use Rattle.thin_source.specs.ThinStates.{Holds, state_after}
use Rattle.thin_source.proofs.ThinStart.{both_true_left, both_true_right, IsStateOf-start}

-- the pieces so far and those of what is left are all pieces of the program
pub record IsReached (program : Program) (left : List Statement) (variables : List (List ℕ)) (pieces : List (List ℕ)) (state : State) : Type 0 where
  pub holds : Holds program.declarations variables state
  pub lawful : list_all (is_lawful_statement program.declarations) left ≡ true
  pub joined : pieces ++ print_lines (prints_from state left) ≡ print_lines (prints_of program)

pub IsReached-start : (program : Program) (variables : List (List ℕ)) → IsLawful program → variables ≡ vectors_of (start_of program.declarations) → IsReached program program.statements variables [] (start_of program.declarations)
IsReached-start program variables lawful started = record {
  holds = record { fits = IsStateOf-start program.declarations lawful.ranges; vectors = started };
  lawful = lawful.statements;
  joined = refl;
}

-- the pieces of one statement
abbrev pub pieces_of : State → Statement → List (List ℕ)
pieces_of state statement = print_lines (prints_from state (statement ∷ []))

pieces_of-first : (state : State) (statement : Statement) (left : List Statement) → pieces_of state statement ++ print_lines (prints_from (state_after state statement) left) ≡ print_lines (prints_from state (statement ∷ left))
pieces_of-first state (assign x sum) left = refl
pieces_of-first state (print sum) left = refl

module _ (program : Program) (statement : Statement) (left : List Statement) (variables : List (List ℕ)) (pieces : List (List ℕ)) (state : State) (reached : IsReached program (statement ∷ left) variables pieces state) where
  pub lawful_next : is_lawful_statement program.declarations statement ≡ true
  lawful_next = both_true_left _ (list_all (is_lawful_statement program.declarations) left) reached.lawful

  joined_next : (pieces ++ pieces_of state statement) ++ print_lines (prints_from (state_after state statement) left) ≡ print_lines (prints_of program)
  joined_next =
      append_assoc pieces (pieces_of state statement) (print_lines (prints_from (state_after state statement) left))
      ∙ ap (λ more. pieces ++ more) (pieces_of-first state statement left)
      ∙ reached.joined

  -- the statement is done
  pub IsReached-next : (now : List (List ℕ)) → Holds program.declarations now (state_after state statement) → IsReached program left now (pieces ++ pieces_of state statement) (state_after state statement)
  IsReached-next now holds = record {
    holds = holds;
    lawful = both_true_right _ (list_all (is_lawful_statement program.declarations) left) reached.lawful;
    joined = joined_next;
  }

  -- what was put up to a part of its pieces is a front of all pieces
  pub take-front : (n : ℕ) → pieces ++ take n (pieces_of state statement) ≡ take (length (pieces ++ take n (pieces_of state statement))) (print_lines (prints_of program))
  take-front n =
      let own = pieces_of state statement in
      let front = pieces ++ take n own in
      let rest = drop n own ++ print_lines (prints_from (state_after state statement) left) in
      let whole : front ++ rest ≡ print_lines (prints_of program) =
      append_assoc pieces (take n own) rest
      ∙ ap (λ more. pieces ++ more) (sym (append_assoc (take n own) (drop n own) (print_lines (prints_from (state_after state statement) left))))
      ∙ ap (λ more. pieces ++ (more ++ print_lines (prints_from (state_after state statement) left))) (take-append-drop n own)
      ∙ sym (append_assoc pieces own (print_lines (prints_from (state_after state statement) left)))
      ∙ joined_next in
      sym (take-append_seam front rest) ∙ ap (take (length front)) whole

-- ---- puts
module _ {K : Type 0} (puts : K → List ℕ → K → Type 0) (state : K → SinkState) where
  -- one put is a run of one piece
  pub PutsPieces-one : (old : K) (piece : List ℕ) (result : Put) (new : K) → PutLeaves (state old) piece result (state new) → (state new).late ≡ ((state old).late || not ((state old).faults == 0)) → puts old piece new → PutsPieces puts state old (piece ∷ []) result new
  PutsPieces-one old piece Done new leaves late one = WroteAll-one old piece new leaves late one
  PutsPieces-one old piece Failed new leaves late one = (1, BrokeOff-one old piece new leaves late one)

  -- a run that failed after one that did not
  pub PutsPieces-broke : (old mid new : K) (program : Program) (statement : Statement) (left : List Statement) (variables pieces : List (List ℕ)) (at : State) → IsReached program (statement ∷ left) variables pieces at → WroteAll puts state old pieces mid → PutsPieces puts state mid (pieces_of at statement) Failed new → PutsPieces puts state old (print_lines (prints_of program)) Failed new
  PutsPieces-broke old mid new program statement left variables pieces at reached wrote (n, broke) =
      (length (pieces ++ take n (pieces_of at statement)), subst (λ all. BrokeOff puts state old all new) (take-front program statement left variables pieces at reached n) (BrokeOff-append wrote broke))
