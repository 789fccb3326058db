use Rattle.source_lexer.specs.Scan.{whole}
use Rattle.source_lexer.proofs.PlacedTokens.{placed_tokens}
use Rattle.source_parser.specs.Limits.{depth_limit, weight_limit}
use Rattle.source_parser.proofs.OneProgram.{one_program}
use Rattle.source_parser.proofs.ParsedPlaces.{stops_there, deep_there, stopped_spells_none, deep_spells_none}
use Rattle.source_parser.proofs.ReadTexts.{only_program, no_program}
use Rattle.source_parser.proofs.TreeNames.{spelled_names}
use Rattle.source_parser.proofs.TreeNumbers.{spelled_numbers}
use Rattle.source_parser.proofs.program.parse.Goals as goal
use Rattle.source_parser.proofs.program.parse.Goals.{in-Stops, in-Deep, in-NoMemory}

pub new-reader-requires : goal.new-reader-requires
new-reader-requires c = placed_tokens c.args.text.now c.args.tokens.now whole c.requires

-- ---- a program
pub returns-in-Ok-clause-parsed : goal.returns-in-Ok-clause-parsed
returns-in-Ok-clause-parsed c =
    let spells = rw c.new-reader.ensures at c.in-Ok.ensures.value in
    (spells, λ other spelled. one_program spells spelled)

pub returns-in-Ok-clause-program : goal.returns-in-Ok-clause-program
returns-in-Ok-clause-program c =
    let spells = rw c.new-reader.ensures at c.in-Ok.ensures.value in
    ((c.args.tokens.now, c.requires, spells), only_program c.args.text.now c.args.tokens.now c.in-Ok.program c.requires (λ other spelled. one_program spells spelled))

pub returns-in-Ok-clause-numbers : goal.returns-in-Ok-clause-numbers
returns-in-Ok-clause-numbers c =
    spelled_numbers c.args.text.now c.args.tokens.now depth_limit weight_limit c.in-Ok.program (rw c.new-reader.ensures at c.in-Ok.ensures.value)

pub returns-in-Ok-clause-names : goal.returns-in-Ok-clause-names
returns-in-Ok-clause-names c =
    spelled_names c.args.text.now c.args.tokens.now whole depth_limit weight_limit c.in-Ok.program c.requires (rw c.new-reader.ensures at c.in-Ok.ensures.value)

-- ---- a fault
pub returns-clause-parsed : goal.returns-clause-parsed
returns-clause-parsed c =
    elim c.match-fault.branch [
      | in-Stops w ↦
          let fault = rw (w.in-Stops.is, c.new-reader.ensures) at c.in-Err.ensures.fault in
          rw (w.result-is, c.len.ensures) (stops_there c.args.text.now c.args.tokens.now c.program.new.reader fault)
      | in-Deep w ↦
          let fault = rw (w.in-Deep.is, c.new-reader.ensures) at c.in-Err.ensures.fault in
          rw (w.result-is, c.len.ensures) (deep_there c.args.text.now c.args.tokens.now c.program.new.reader fault)
      | in-NoMemory w ↦ rw w.result-is tt
    ]

pub returns-clause-program : goal.returns-clause-program
returns-clause-program c =
    let text = c.args.text.now in
    let tokens = c.args.tokens.now in
    elim c.match-fault.branch [
      | in-Stops w ↦
          let fault = rw (w.in-Stops.is, c.new-reader.ensures) at c.in-Err.ensures.fault in
          rw w.result-is (no_program text tokens c.requires (stopped_spells_none text tokens _ (stops_there text tokens c.program.new.reader fault)))
      | in-Deep w ↦
          let fault = rw (w.in-Deep.is, c.new-reader.ensures) at c.in-Err.ensures.fault in
          rw w.result-is (no_program text tokens c.requires (deep_spells_none text tokens _ (deep_there text tokens c.program.new.reader fault)))
      | in-NoMemory w ↦ rw w.result-is tt
    ]
