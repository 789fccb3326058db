-- Runs of small programs, worked out by hand: they show nothing, so that they are the same on every rack and by every decoder.
use Rattle.std.specs.Prelude.{◌≡◌, ℕ, ℤ, pos, List, [], ◌∷◌, Option, Some, None, refl}
use Rattle.moduli_sets.specs.Set.{ModuliSet}
use Rattle.moduli_sets.specs.declared.kind.Kind.TheVariants.{InputEnd, InputRange, Stack}
use Rattle.channel_alu.specs.declared.operation.Place.TheVariants.{Reg}
use Rattle.channel_alu.specs.declared.operation.MicroOp.TheVariants.{Neg, Put}
use Rattle.machine_table.specs.declared.instr.Instr.{Instr}
use Rattle.machine_table.specs.declared.instr.Instr.TheVariants.{Ldi, Jmp, In, Call, Ret, Trp}
use Rattle.machine_table.specs.Control.{Control, halts, traps}
use Rattle.channel_scheduler.specs.declared.rack.Rack.{Ghosts as RackGhosts}
use Rattle.shown_run.specs.Trace.{Trace, did, showed, printed, went_on, ended, damaged, halt, trap, damage}
use Rattle.shown_run.specs.Runs.{control_after, performed_of}
use Rattle.residue_machine.specs.Machine.{MachineState, decoding_of, end_of, machine_at_start, trace_from}

module _ {R D : Type 0} (racks : RackGhosts R) (reach : ModuliSet → ℕ) (gone : Option ℕ) (set : ModuliSet) (rack : R) (decoder : D) where
  -- what at most n instructions of a program do, that was just loaded without data words
  abbrev trace_by : ℕ → List Instr → List ℤ → Trace
  trace_by n code input = trace_from racks reach gone n (machine_at_start set code [] rack decoder input)

  -- where control stands after them, and how many were performed
  abbrev control_by : ℕ → List Instr → List ℤ → Control
  control_by n code input =
      let start : MachineState R D = machine_at_start set code [] rack decoder input in
      control_after (decoding_of racks reach gone start.channels) (racks.book_of rack) set code n start.control (racks.lanes_of rack)

  abbrev taken_by : ℕ → List Instr → List ℤ → ℕ
  taken_by n code input =
      let start : MachineState R D = machine_at_start set code [] rack decoder input in
      performed_of (decoding_of racks reach gone start.channels) (racks.book_of rack) set code n start.control (racks.lanes_of rack)

  abbrev stands : ℕ → List ℕ → List ℤ → Control
  stands counter places input = record { counter = counter; places = places; input = input }

  -- ---- an empty program
  pub nothing_is_performed : trace_by 0 [] [] ≡ went_on (stands 0 [] [])
  nothing_is_performed = refl

  pub halt_past_the_end : trace_by 1 [] [] ≡ ended halts
  halt_past_the_end = refl

  pub halt_is_performed : taken_by 5 [] [] ≡ 1
  halt_is_performed = refl

  -- ---- LDI 3 42, and then a trap at line 9, which the counter stays at
  abbrev loads_and_traps : List Instr
  loads_and_traps = Ldi 3 (pos 42) ∷ (Trp 6 9 ∷ [])

  pub one_of_it : trace_by 1 loads_and_traps [] ≡ did (Put (Reg 3) (pos 42)) (went_on (stands 1 [] []))
  one_of_it = refl

  pub all_of_it : trace_by 5 loads_and_traps [] ≡ did (Put (Reg 3) (pos 42)) (ended (traps Stack 9))
  all_of_it = refl

  pub counter_at_the_trap : control_by 5 loads_and_traps [] ≡ stands 1 [] []
  counter_at_the_trap = refl

  pub trap_is_performed : taken_by 5 loads_and_traps [] ≡ 2
  trap_is_performed = refl

  -- ---- a jump to itself
  pub jumps_on : trace_by 3 (Jmp 0 ∷ []) [] ≡ went_on (stands 0 [] [])
  jumps_on = refl

  pub jumps_taken : taken_by 3 (Jmp 0 ∷ []) [] ≡ 3
  jumps_taken = refl

  -- ---- CALL 1 at place 0 holds place 1; the first RET there drops it, and the second has none
  abbrev calls : List Instr
  calls = Call 1 5 ∷ (Ret 6 ∷ [])

  pub held : control_by 1 calls [] ≡ stands 1 (1 ∷ []) []
  held = refl

  pub dropped : control_by 2 calls [] ≡ stands 1 [] []
  dropped = refl

  pub none_left : trace_by 3 calls [] ≡ ended (traps Stack 6)
  none_left = refl

  -- ---- IN of 0 to 9
  abbrev reads : List Instr
  reads = In 2 (pos 0) (pos 9) 4 ∷ []

  pub nine_is_read : trace_by 1 reads (pos 9 ∷ (pos 1 ∷ [])) ≡ did (Put (Reg 2) (pos 9)) (went_on (stands 1 [] (pos 1 ∷ [])))
  nine_is_read = refl

  pub ten_is_out_of_range : trace_by 1 reads (pos 10 ∷ []) ≡ ended (traps InputRange 4)
  ten_is_out_of_range = refl

  pub ten_stays : control_by 1 reads (pos 10 ∷ []) ≡ stands 0 [] (pos 10 ∷ [])
  ten_stays = refl

  pub input_ends : trace_by 1 reads [] ≡ ended (traps InputEnd 4)
  input_ends = refl

-- ---- how a trace ended the run: its third operation is number 7, where its first has number 5
pub bad_column_is_operation_7 : end_of 5 (did (Neg (Reg 0) (Reg 1)) (showed (Reg 1) [] (pos 42) (printed (pos 42) (damaged (Reg 0) (1 ∷ []))))) ≡ Some (damage 7 (1 ∷ []))
bad_column_is_operation_7 = refl

pub halt_ends : end_of 5 (did (Neg (Reg 0) (Reg 1)) (ended halts)) ≡ Some halt
halt_ends = refl

pub trap_ends : end_of 5 (ended (traps Stack 9)) ≡ Some (trap Stack 9)
trap_ends = refl

pub goes_on : end_of 5 (did (Neg (Reg 0) (Reg 1)) (went_on (record { counter = 1; places = []; input = [] }))) ≡ None
goes_on = refl
