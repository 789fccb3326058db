use Rattle.set_commands.proofs.sets.describe.Goals as goal

pub returns : goal.returns
returns g c = rw (c.numbers_line.ensures, c.moduli_of.ensures, c.information_line.ensures, c.range_line.ensures) at c.put_lines.ensures
