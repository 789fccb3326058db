use Rattle.std.proofs.Common.{All, subst}
use Rattle.std.proofs.lemmas.List.{take_all}
use Rattle.std.proofs.lemmas.List.Elements.{All-more}
use Rattle.machine_table.specs.declared.instr.Instr.{Instr}
use Rattle.assembler.specs.Fields.{fields_of}
use Rattle.assembler.specs.Listing.{AreWritable, Fits}
use Rattle.assembler.proofs.writable.are_writable.Goals as goal

-- one instruction more
pub loop-instr-preserved : goal.loop-instr-preserved
loop-instr-preserved c =
    All-more (λ (instr : Instr). All Fits (fields_of instr)) c.args.code.now c.loop-instr.instr-index _ c.loop-instr-test.true c.loop-instr.invariant c.is_writable.ensures

pub returns : goal.returns
returns c = subst AreWritable (take_all c.loop-instr.instr-index c.args.code.now c.loop-instr-test.false) c.loop-instr.invariant
