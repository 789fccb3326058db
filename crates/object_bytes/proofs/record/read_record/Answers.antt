use Rattle.std.proofs.Common.{sym, ◌∙◌}
use Rattle.object_bytes.proofs.RecordLemmas.{record_fault-is, record_fault-none}
use Rattle.object_bytes.proofs.record.read_record.Goals as goal

pub returns-in-Ok : goal.returns-in-Ok
returns-in-Ok c = (record_fault-is c.args.place c.args.bytes.now c.of.result c.of.ensures ∙ sym c.in-Ok.ensures, sym c.in-Some.ensures.value)

pub returns-in-Err : goal.returns-in-Err
returns-in-Err c = record_fault-is c.args.place c.args.bytes.now c.of.result c.of.ensures ∙ sym c.in-Err.ensures

pub returns-in-None : goal.returns-in-None
returns-in-None c = (record_fault-none c.args.place c.args.bytes.now c.in-None.ensures.number).1
