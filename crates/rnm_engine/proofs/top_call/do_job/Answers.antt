use Rattle.rnm_engine.proofs.top_call.do_job.Goals as goal

pub returns-in-Mean-clause-answer : goal.returns-in-Mean-clause-answer
returns-in-Mean-clause-answer g c =
    rw c.in-Mean.is (rw (c.text_at-in-Mean.ensures.value, c.text_at-in-Mean-2.ensures.value) at c.mean.ensures)

pub returns-in-Exec-clause-answer : goal.returns-in-Exec-clause-answer
returns-in-Exec-clause-answer g c =
    rw c.in-Exec.is (rw (c.text_at-in-Exec.ensures.value, c.text_at-in-Exec-2.ensures.value, c.text_at-in-Exec-3.ensures.value, c.text_at-in-Exec-4.ensures.value) at c.exec.ensures)
