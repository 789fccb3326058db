use Rattle.rnm_engine.proofs.run.put_last_lines.Goals as goal

pub returns : goal.returns
returns g c = rw (c.end-end.ensures, c.of.ensures, c.end-corrected.ensures, c.of-2.ensures) at c.put_lines.ensures
