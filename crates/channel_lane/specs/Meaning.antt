-- What a micro-operation means over plain integers, one at each place.
use Rattle.std.specs.Prelude.{◌≡◌, ℕ, ℤ, pos, neg_ℤ, ◌+ℤ◌, ◌-ℤ◌, ◌*ℤ◌, ◌<◌, ◌==◌, Bool, false, not, List, slice_index, slice_index_or, Option, Some, None, is_some, if◌then◌else◌}
use Rattle.std.specs.Option.{option_map_or}
use Rattle.number_theory.specs.Residue.{residue, quotient}
use Rattle.channel_alu.specs.declared.operation.Place.{Place}
use Rattle.channel_alu.specs.declared.operation.Place.TheVariants.{Reg, Scratch, Word}
use Rattle.channel_alu.specs.declared.operation.MicroOp.{MicroOp}
use Rattle.channel_alu.specs.declared.operation.MicroOp.TheVariants.{Put, Copy, Add, Sub, Mul, MulAdd, Neg, Unscale, Show}

-- ---- what can be performed
-- there are 16 registers, 8 scratch places and so many data words
abbrev pub HasPlace : ℕ → Place → Type 0
HasPlace words (Reg n) = n < 16
HasPlace words (Scratch n) = n < 8
HasPlace words (Word n) = n < words

-- an operation that channels with so many data words can perform, where there are so many channels: its places exist,
-- and so does the channel by whose modulus it divides
abbrev pub CanPerform : ℕ → ℕ → MicroOp → Type 0
CanPerform words channels (Put to value) = HasPlace words to
CanPerform words channels (Copy to from) = HasPlace words to × HasPlace words from
CanPerform words channels (Add to left right) = HasPlace words to × HasPlace words left × HasPlace words right
CanPerform words channels (Sub to left right) = HasPlace words to × HasPlace words left × HasPlace words right
CanPerform words channels (Mul to left right) = HasPlace words to × HasPlace words left × HasPlace words right
CanPerform words channels (MulAdd to left right plus) =
    HasPlace words to × HasPlace words left × HasPlace words right × HasPlace words plus
CanPerform words channels (Neg to from) = HasPlace words to × HasPlace words from
CanPerform words channels (Unscale to from channel take give) = HasPlace words to × HasPlace words from × (channel < channels)
CanPerform words channels (Show from) = HasPlace words from

-- where the answer is written; a Show writes nothing
abbrev pub destination : MicroOp → Option Place
destination (Put to value) = Some to
destination (Copy to from) = Some to
destination (Add to left right) = Some to
destination (Sub to left right) = Some to
destination (Mul to left right) = Some to
destination (MulAdd to left right plus) = Some to
destination (Neg to from) = Some to
destination (Unscale to from channel take give) = Some to
destination (Show from) = None

abbrev pub is_show : MicroOp → Bool
is_show op = not (is_some (destination op))

-- ---- what is computed
-- what an operation makes of the integers at places, where `unscale` says what an Unscale makes of an integer, by the
-- channel, `take` and `give`
abbrev pub integer_by : (ℤ → ℕ → ℕ → ℕ → ℤ) → (Place → ℤ) → MicroOp → ℤ
integer_by unscale at (Put to value) = value
integer_by unscale at (Copy to from) = at from
integer_by unscale at (Add to left right) = at left +ℤ at right
integer_by unscale at (Sub to left right) = at left -ℤ at right
integer_by unscale at (Mul to left right) = at left *ℤ at right
integer_by unscale at (MulAdd to left right plus) = (at left *ℤ at right) +ℤ at plus
integer_by unscale at (Neg to from) = neg_ℤ (at from)
integer_by unscale at (Unscale to from channel take give) = unscale (at from) channel take give
integer_by unscale at (Show from) = at from

-- what an operation means for channels with these moduli: an Unscale is the floor quotient by the modulus of its channel
abbrev pub meaning_of : List ℕ → (Place → ℤ) → MicroOp → ℤ
meaning_of moduli at op = integer_by (λ x channel take give. quotient x (slice_index moduli channel)) at op

-- the numbers in an Unscale are those of its integer: `take` is the residue by the modulus divided by, so that the
-- difference is divisible by it, and `give` is the quotient's residue there
abbrev pub IsExact : List ℕ → (Place → ℤ) → MicroOp → Type 0
IsExact moduli at (Put to value) = Unit {0}
IsExact moduli at (Copy to from) = Unit {0}
IsExact moduli at (Add to left right) = Unit {0}
IsExact moduli at (Sub to left right) = Unit {0}
IsExact moduli at (Mul to left right) = Unit {0}
IsExact moduli at (MulAdd to left right plus) = Unit {0}
IsExact moduli at (Neg to from) = Unit {0}
IsExact moduli at (Unscale to from channel take give) =
    let m = slice_index moduli channel in
    (take ≡ residue (at from) m) × (give ≡ residue (quotient (at from) m) m)
IsExact moduli at (Show from) = Unit {0}

-- ---- integers at places
abbrev pub same_place : Place → Place → Bool
same_place (Reg m) (Reg n) = m == n
same_place (Reg m) (Scratch n) = false
same_place (Reg m) (Word n) = false
same_place (Scratch m) (Reg n) = false
same_place (Scratch m) (Scratch n) = m == n
same_place (Scratch m) (Word n) = false
same_place (Word m) (Reg n) = false
same_place (Word m) (Scratch n) = false
same_place (Word m) (Word n) = m == n

-- the integers at places as channels are made with these data words: 0 in registers and scratch places
abbrev pub integers_at_start : List ℤ → Place → ℤ
integers_at_start start (Reg n) = pos 0
integers_at_start start (Scratch n) = pos 0
integers_at_start start (Word n) = slice_index_or start n (pos 0)

-- the integers at places, with another one at a place
abbrev pub with_integer : (Place → ℤ) → Place → ℤ → Place → ℤ
with_integer at to x place = if same_place to place then x else at place

-- the integers at places after an operation
abbrev pub integers_after : List ℕ → MicroOp → (Place → ℤ) → Place → ℤ
integers_after moduli op at place =
    option_map_or (λ to. with_integer at to (meaning_of moduli at op) place) (destination op) (at place)
