use Rattle.std.proofs.Common.{length, sym, ap, ◌∙◌}
use Rattle.object_bytes.specs.Loading.{counts_fault, header_fault, instructions_in, prefix_fault, words_in}
use Rattle.object_bytes.proofs.HeaderLemmas.{counts_parts, or_load-none}
use Rattle.object_bytes.proofs.header.Header.read.Goals as goal

pub returns : goal.returns
unfolding header_fault
returns c =
    let bytes = c.args.bytes.now in
    let n = c.natural_at-instructions.result in
    let m = c.natural_at-words.result in
    let counts = counts_parts n m (length bytes) (sym c.in_ok-check_counts.ensures) in
    record {
      no_fault = or_load-none (prefix_fault bytes) (counts_fault (instructions_in bytes) (words_in bytes) (length bytes)) (sym c.in_ok-set.ensures.fault)
          (ap (λ i. counts_fault i (words_in bytes) (length bytes)) (sym c.natural_at-instructions.ensures) ∙ ap (λ j. counts_fault n j (length bytes)) (sym c.natural_at-words.ensures)
          ∙ sym c.in_ok-check_counts.ensures);
      set = c.in_ok-set.ensures.set;
      instructions = c.natural_at-instructions.ensures;
      words = c.natural_at-words.ensures;
      few_instructions = counts.0;
      few_words = counts.1;
      long = counts.2;
    }
