-- From an object's bytes, and from an assembly text, to the answer of a command.
use Rattle.std.proofs.Common.{◌≡◌, ℕ, true, List, [], ◌∷◌, None, Some, Result, Ok, Err, inl, inr, refl, sym, subst}
use Rattle.outside.specs.Sink.{SinkState}
use Rattle.moduli_sets.specs.Name.{set_of_name}
use Rattle.machine_table.specs.Faults.{object_fault}
use Rattle.object_bytes.specs.declared.fault.LoadFault.{LoadFault}
use Rattle.object_bytes.specs.declared.fault.LoadFault.TheVariants as load
use Rattle.object_bytes.specs.Loading.{Program, IsRefusal as IsLoadRefusal, load_fault, program_in}
use Rattle.assembler.specs.declared.fault.AsmFault.{AsmFault}
use Rattle.assembler.specs.declared.fault.AsmFault.TheVariants as asm
use Rattle.assembler.specs.Assembly.{IsRefusal, Spells}
use Rattle.job_endings.specs.declared.status.Status.{Status}
use Rattle.job_endings.specs.declared.status.Status.TheVariants as status
use Rattle.job_endings.specs.declared.refusal.Refusal.{Refusal}
use Rattle.job_endings.specs.declared.refusal.Stop.{Stop}
use Rattle.job_endings.specs.declared.refusal.Stop.TheVariants.{Refused}
use Rattle.job_endings.specs.Endings.{EndsPut}
use Rattle.rnm_engine.specs.Jobs.{Answer, lines, refused, is_own, bytes_of_program, stop_of_assembly, stop_of_load, IsAsmAnswer, IsObjectAnswer, IsOwn, Does}
use Rattle.rnm_engine.proofs.AnswerLemmas.{Does-as}

module _ {K : Type 0} (puts : K → List ℕ → K → Type 0) (state : K → SinkState) (old : K) where
  -- one piece is put
  pub puts_one : (text piece : List ℕ) (result : Status) (new : K) → piece ≡ text → EndsPut puts state old (piece ∷ []) status.Ok result new
      → Does puts state old (IsOwn (λ answer. answer ≡ lines (text ∷ []) status.Ok)) (Ok result) new
  puts_one text piece result new is ends =
      (text ∷ [], status.Ok, (refl, refl), subst (λ (p : List ℕ). EndsPut puts state old (p ∷ []) status.Ok result new) is ends)

  -- ---- an object
  module _ (bytes : List ℕ) (Is : Program → Answer → Type 0) where
    faulty : (fault : LoadFault) (refusal : Refusal) → stop_of_load fault ≡ Refused refusal → is_own (refused refusal) ≡ true → load_fault bytes ≡ Some fault
        → Does puts state old (IsOwn (IsObjectAnswer bytes Is)) (Err (Refused refusal)) old
    faulty fault refusal stop own first = ((inl (fault, refusal, first, stop, refl), own), refl)

    -- it is refused, or there was no memory
    pub refuses : (fault : LoadFault) → IsLoadRefusal (load_fault bytes) fault → Does puts state old (IsOwn (IsObjectAnswer bytes Is)) (Err (stop_of_load fault)) old
    refuses (load.Short length) h = elim h [ inl memory ↦ cc | inr first ↦ faulty (load.Short length) _ refl refl first ]
    refuses load.BadMagic h = elim h [ inl memory ↦ cc | inr first ↦ faulty load.BadMagic _ refl refl first ]
    refuses (load.BadVersion version) h = elim h [ inl memory ↦ cc | inr first ↦ faulty (load.BadVersion version) _ refl refl first ]
    refuses (load.BadSet set) h = elim h [ inl memory ↦ cc | inr first ↦ faulty (load.BadSet set) _ refl refl first ]
    refuses (load.Long surplus) h = elim h [ inl memory ↦ cc | inr first ↦ faulty (load.Long surplus) _ refl refl first ]
    refuses (load.BadRecord place) h = elim h [ inl memory ↦ cc | inr first ↦ faulty (load.BadRecord place) _ refl refl first ]
    refuses (load.Unsound fault) h = elim h [ inl memory ↦ cc | inr first ↦ faulty (load.Unsound fault) _ refl refl first ]
    refuses load.NoMemory h = refl

    -- it is loaded, and answered
    pub loaded : (program : Program) → load_fault bytes ≡ None → program_in bytes ≡ program → (result : Result Status Stop) (new : K)
        → Does puts state old (IsOwn (Is program)) result new → Does puts state old (IsOwn (IsObjectAnswer bytes Is)) result new
    loaded program none is result new does =
        let Own : Program → Type 0 = λ p. Does puts state old (IsOwn (Is p)) result new in
        Does-as puts state [] old (IsOwn (Is (program_in bytes))) (IsOwn (IsObjectAnswer bytes Is))
        (λ answer (answers, own). (inr (none, answers), own)) result new (subst Own (sym is) does)

  -- ---- an assembly text
  module _ (text : List ℕ) where
    -- it is refused, or there was no memory
    pub refuses_text : (fault : AsmFault) → IsRefusal text fault → Does puts state old (IsOwn (IsAsmAnswer text)) (Err (stop_of_assembly fault)) old
    refuses_text (asm.BadLine n) h = ((inl (asm.BadLine n, _, h, refl, refl), refl), refl)
    refuses_text (asm.TwiceNamed n) h = ((inl (asm.TwiceNamed n, _, h, refl, refl), refl), refl)
    refuses_text (asm.UnknownName n) h = ((inl (asm.UnknownName n, _, h, refl, refl), refl), refl)
    refuses_text (asm.Unsound fault n) h = ((inl (asm.Unsound fault n, _, h, refl, refl), refl), refl)
    refuses_text asm.NoMemory h = refl

    -- it spells a program, whose bytes are put
    pub assembled : (program : Program) → Spells text program.set program.code program.words → object_fault (set_of_name program.set) program.code program.words ≡ None
        → (result : Result Status Stop) (new : K) → Does puts state old (IsOwn (λ answer. answer ≡ lines (bytes_of_program program ∷ []) status.Ok)) result new
        → Does puts state old (IsOwn (IsAsmAnswer text)) result new
    assembled program spells none result new does =
        Does-as puts state [] old (IsOwn (λ answer. answer ≡ lines (bytes_of_program program ∷ []) status.Ok)) (IsOwn (IsAsmAnswer text))
        (λ answer (is, own). (inr (program, spells, none, is), own)) result new does
