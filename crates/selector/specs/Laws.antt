-- Laws of the translation.
use Rattle.std.specs.Prelude.{◌≡◌, ℕ, ◌+◌, ◌≤◌, List, [], ◌∷◌, length}
use Rattle.moduli_sets.specs.Set.{ModuliSet}
use Rattle.machine_table.specs.declared.instr.Instr.{Instr}
use Rattle.machine_table.specs.declared.instr.Instr.TheVariants.{Halt, Ldi, Ld, St, Ldx, Stx, Mov, Add, Sub, Mul, Neg, Mac, Div, Mod, Scl, Jmp, Blt, Beq, Chk, In, Out, Call, Ret, Trp}
use Rattle.source_tree.specs.declared.name.Name.{Name}
use Rattle.source_tree.specs.declared.statement.Statement.{Statement}
use Rattle.selector.specs.Layout.{Layout, scope_of, entry_at}
use Rattle.selector.specs.Statements.{translated}

-- The length of the code of a statement doesn't depend on its words and places, nor on those in the layout.
abbrev pub CodeLengthsStand : Type 0
CodeLengthsStand =
    (set : ModuliSet) (statement : Statement) (layout other : Layout) (w v at start : ℕ)
    → scope_of layout ≡ scope_of other
    → length ((translated set statement).code layout w at) ≡ length ((translated set statement).code other v start)

-- ---- jumps
-- Where an instruction goes: a jump to a place from low to high, a call to the first instruction of what a name stands for.
abbrev pub StaysWithin : Layout → (low high : ℕ) → Instr → Type 0
StaysWithin layout low high (Jmp p) = (low ≤ p) × (p ≤ high)
StaysWithin layout low high (Blt a b p) = (low ≤ p) × (p ≤ high)
StaysWithin layout low high (Beq a b p) = (low ≤ p) × (p ≤ high)
StaysWithin layout low high (Call p line) = (x : Name) × (p ≡ entry_at layout x)
StaysWithin layout low high Halt = Unit {0}
StaysWithin layout low high (Ldi a value) = Unit {0}
StaysWithin layout low high (Ld a p) = Unit {0}
StaysWithin layout low high (St a p) = Unit {0}
StaysWithin layout low high (Ldx a b p q line) = Unit {0}
StaysWithin layout low high (Stx a b p q line) = Unit {0}
StaysWithin layout low high (Mov a b) = Unit {0}
StaysWithin layout low high (Add a b c) = Unit {0}
StaysWithin layout low high (Sub a b c) = Unit {0}
StaysWithin layout low high (Mul a b c) = Unit {0}
StaysWithin layout low high (Neg a b) = Unit {0}
StaysWithin layout low high (Mac a b c) = Unit {0}
StaysWithin layout low high (Div a b c line) = Unit {0}
StaysWithin layout low high (Mod a b c line) = Unit {0}
StaysWithin layout low high (Scl a b s) = Unit {0}
StaysWithin layout low high (Chk a from to line) = Unit {0}
StaysWithin layout low high (In a from to line) = Unit {0}
StaysWithin layout low high (Out a) = Unit {0}
StaysWithin layout low high (Ret line) = Unit {0}
StaysWithin layout low high (Trp k line) = Unit {0}

abbrev pub AllStay : Layout → (low high : ℕ) → List Instr → Type 0
AllStay layout low high [] = Unit {0}
AllStay layout low high (instr ∷ code) = StaysWithin layout low high instr × AllStay layout low high code

-- The code of a statement jumps to its own instructions, or to the place behind them.
abbrev pub JumpsStayWithin : Type 0
JumpsStayWithin =
    (set : ModuliSet) (statement : Statement) (layout : Layout) (w at : ℕ)
    → AllStay layout at (at + length ((translated set statement).code layout w at)) ((translated set statement).code layout w at)
