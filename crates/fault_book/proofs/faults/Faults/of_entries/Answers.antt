use Rattle.std.proofs.Common.{◌<◌, true, ap, ◌∙◌, slice_set, get_or, length}
use Rattle.std.proofs.lemmas.List.Elements.{All-get_or}
use Rattle.fault_book.proofs.EntryLemmas.{IsConsistent-insert, insert_entry-next}
use Rattle.fault_book.proofs.faults.Faults.of_entries.Goals as goal

pub loop-channel-preserved : goal.loop-channel-preserved
loop-channel-preserved c =
    let es = c.args.entries.now in
    let i = c.loop-channel.channel-index in
    let e = get_or es i (0, 0, 0) in
    let lt : i < length es = c.loop-channel-test.true in
    record {
      entries = c.in_ok-insert.ensures.entries ∙ insert_entry-next c.loop-channel.made es i (0, 0, 0) lt c.requires.different c.loop-channel.invariant.entries;
      consistent = IsConsistent-insert c.loop-channel.made _ c.loop-channel.named _ e.0 e.1 e.2 (All-get_or (λ f. f.0 < 12) es i (0, 0, 0) lt c.requires.channels)
          c.in_ok-insert.ensures.entries (ap (λ k. slice_set c.loop-channel.named k true) c.from.ensures) c.loop-channel.invariant.consistent;
    }
