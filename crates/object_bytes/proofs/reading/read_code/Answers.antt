use Rattle.std.proofs.Common.{◌≡◌, ◌*◌, ◌+◌, drop, take, None, Some, ap, sym, ◌∙◌, inr}
use Rattle.std.specs.Option.{option_map}
use Rattle.object_bytes.specs.declared.fault.LoadFault.TheVariants.{BadRecord}
use Rattle.object_bytes.specs.Layout.{record_fault}
use Rattle.object_bytes.specs.Loading.{code_from, records_fault}
use Rattle.object_bytes.specs.Record.{instr_in}
use Rattle.object_bytes.proofs.LoopLemmas.{code_from-end, code_from-next, front_is, records_fault-at, records_fault-end, records_fault-next}
use Rattle.object_bytes.proofs.reading.read_code.Goals as goal

pub returns-in-Err-clause-fault : goal.returns-in-Err-clause-fault
returns-in-Err-clause-fault c =
    let n = c.loop-n.n in
    let bytes = c.args.records.now in
    let at : record_fault (16 + 40 * n) (take 40 (drop (40 * n) bytes)) ≡ Some c.in-Err.place = ap (record_fault (16 + 40 * n)) (sym (front_is 40 n bytes)) ∙ c.in-Err.ensures in
    inr (ap (option_map BadRecord) (records_fault-at c.args.count n bytes (records_fault c.args.count 16 bytes) c.in-Err.place c.loop-n-test.true at c.loop-n.invariant.fault))

pub loop-n-preserved : goal.loop-n-preserved
loop-n-preserved c =
    let n = c.loop-n.n in
    let bytes = c.args.records.now in
    let front = front_is 40 n bytes in
    let instr : instr_in (take 40 (drop (40 * n) bytes)) ≡ Some c.in-Ok.instr = ap instr_in (sym front) ∙ c.in-Ok.ensures.1 in
    let fine : record_fault (16 + 40 * n) (take 40 (drop (40 * n) bytes)) ≡ None = ap (record_fault (16 + 40 * n)) (sym front) ∙ c.in-Ok.ensures.0 in
    record {
      code = rw c.in_ok-push-in-Ok.ensures.items (code_from-next c.args.count n bytes c.loop-n.code.items (code_from c.args.count bytes) c.in-Ok.instr c.loop-n-test.true instr c.loop-n.invariant.code);
      fault = records_fault-next c.args.count n bytes (records_fault c.args.count 16 bytes) c.loop-n-test.true fine c.loop-n.invariant.fault;
    }

pub returns-clause-code : goal.returns-clause-code
returns-clause-code c =
    let n = c.loop-n.n in
    let bytes = c.args.records.now in (
      records_fault-end c.args.count n (16 + 40 * n) (drop (40 * n) bytes) (records_fault c.args.count 16 bytes) c.loop-n-test.false c.loop-n.invariant.fault,
      code_from-end c.args.count n (drop (40 * n) bytes) c.loop-n.code.items (code_from c.args.count bytes) c.loop-n-test.false c.loop-n.invariant.code,
    )
