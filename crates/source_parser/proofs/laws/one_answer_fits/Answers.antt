use Rattle.source_parser.proofs.AnswerLaws.{one_stop, one_deep, not_both, stops_no_program, deep_no_program}
use Rattle.source_parser.proofs.laws.one_answer_fits.Goals as goal

pub returns-clause-stops : goal.returns-clause-stops
returns-clause-stops c = λ depth width place other kinds. one_stop place other

pub returns-clause-deep : goal.returns-clause-deep
returns-clause-deep c = λ depth width place other kinds. one_deep place other

pub returns-clause-apart : goal.returns-clause-apart
returns-clause-apart c = λ depth width place other kinds. not_both place other

pub returns-clause-stops_no_program : goal.returns-clause-stops_no_program
returns-clause-stops_no_program c = λ depth width place kinds. stops_no_program

pub returns-clause-deep_no_program : goal.returns-clause-deep_no_program
returns-clause-deep_no_program c = λ depth width place kinds. deep_no_program
