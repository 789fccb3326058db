use Rattle.std.proofs.Common.{◌≡◌, ◌++◌, codes, take}
use Rattle.std.specs.Fmt.{decimal}
use Rattle.std.specs.List.{flat_map}
use Rattle.assembler.proofs.listing.put_registers.Given as goal

-- the registers so far
abbrev pub invariant-loop-register : goal.invariant-loop-register
invariant-loop-register l = l.out.items ≡ l.initial.out.items ++ flat_map (λ r. codes " r" ++ decimal r) (take l.register-index l.registers)
