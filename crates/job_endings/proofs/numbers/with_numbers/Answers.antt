use Rattle.std.proofs.Common.{◌++◌, length, ◌∙◌, ap, arith}
use Rattle.std.specs.Fmt.{decimal}
use Rattle.job_endings.proofs.NumberTexts.{line_first, line_more}
use Rattle.job_endings.proofs.numbers.with_numbers.Goals as goal
use Rattle.job_endings.proofs.numbers.with_numbers.Goals.{then-n-gt0, else-n-gt0}

pub loop-n-preserved : goal.loop-n-preserved
loop-n-preserved g c =
    let numbers = g.N.Numbers.numbers c.args.numbers.now in
    let put = c.count-line.ensures.value ∙ ap (λ n. c.if-n-gt0.line ++ decimal n) c.number.ensures in
    elim c.if-n-gt0.branch [
      | then-n-gt0 w ↦ record {
        text = line_more c.args.line c.loop-n.line c.if-n-gt0.line c.count-line.result numbers c.loop-n.n
            (omega arith) (omega arith) c.loop-n.invariant.text (w.line-is ∙ w.text-line.ensures.value) put;
        room = omega (arith, ap length w.line-is);
      }
      | else-n-gt0 w ↦ record {
        text = line_first c.args.line c.if-n-gt0.line c.count-line.result numbers c.loop-n.n
            (omega arith) (omega arith) (w.line-is ∙ c.loop-n.invariant.text) put;
        room = omega (arith, ap length w.line-is);
      }
    ]
