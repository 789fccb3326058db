-- The moduli of the channel types.
use Rattle.std.specs.Prelude.{ℕ, ◌+◌, ◌-◌, ◌^◌, nat_le, ◌&&◌, if◌then◌else◌}
use Rattle.channel_alu.specs.declared.any.AnyChannel.{AnyChannel}
use Rattle.channel_alu.specs.declared.any.AnyChannel.TheVariants.{Plain, Ones4, Power4, Plus4, Ones8, Power8, Plus8, Ones15, Power15, Plus15}

-- the modulus of `Plain<P>`: P where it is 2 to 65,535, and otherwise 2
abbrev pub plain_modulus : ℕ → ℕ
plain_modulus p = if nat_le 2 p && nat_le p 65535 then p else 2

-- the modulus of `Ones<K>`: 2 ^ K - 1 where K is 2 to 16, and otherwise 3
abbrev pub ones_modulus : ℕ → ℕ
ones_modulus k = if nat_le 2 k && nat_le k 16 then 2 ^ k - 1 else 3

-- the modulus of `Power<K>`: 2 ^ K where K is 1 to 15, and otherwise 2
abbrev pub power_modulus : ℕ → ℕ
power_modulus k = if nat_le 1 k && nat_le k 15 then 2 ^ k else 2

-- the modulus of `Plus<K>`: 2 ^ K + 1 where K is 1 to 15, and otherwise 3
abbrev pub plus_modulus : ℕ → ℕ
plus_modulus k = if nat_le 1 k && nat_le k 15 then 2 ^ k + 1 else 3

-- the number of bits of a residue in `Ones<K>`
abbrev pub ones_bits : ℕ → ℕ
ones_bits k = if nat_le 2 k && nat_le k 16 then k else 2

-- the number of bits that aren't carried out in `Power<K>` and `Plus<K>`
abbrev pub power_bits : ℕ → ℕ
power_bits k = if nat_le 1 k && nat_le k 15 then k else 1

-- the modulus of a channel that is known only at run time
abbrev pub any_modulus : AnyChannel → ℕ
any_modulus (Plain p) = plain_modulus p
any_modulus (Ones4 channel) = ones_modulus 4
any_modulus (Power4 channel) = power_modulus 4
any_modulus (Plus4 channel) = plus_modulus 4
any_modulus (Ones8 channel) = ones_modulus 8
any_modulus (Power8 channel) = power_modulus 8
any_modulus (Plus8 channel) = plus_modulus 8
any_modulus (Ones15 channel) = ones_modulus 15
any_modulus (Power15 channel) = power_modulus 15
any_modulus (Plus15 channel) = plus_modulus 15
