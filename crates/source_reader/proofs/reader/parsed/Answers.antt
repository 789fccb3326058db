use Rattle.source_reader.proofs.reader.parsed.Goals as goal

pub returns-in-Err-Stops-clause-parsed : goal.returns-in-Err-Stops-clause-parsed
returns-in-Err-Stops-clause-parsed c =
    rw c.refused-in-Err-Stops.ensures (record {
      tokens = c.in-Ok.tokens.items;
      scans = c.in-Ok.ensures.scan;
      place = c.in-Err-Stops.place;
      stops = rw (c.in-Err-Stops.field-0-is, c.as_slice-tokens.ensures.value) at c.in-Err-Stops.ensures.parsed;
      line_is = rw (c.in-Err-Stops.place-is, c.as_slice-tokens.ensures.value) at c.line_of.ensures;
    })

pub returns-in-Err-Deep-clause-parsed : goal.returns-in-Err-Deep-clause-parsed
returns-in-Err-Deep-clause-parsed c =
    rw c.refused-in-Err-Deep.ensures (record {
      tokens = c.in-Ok.tokens.items;
      scans = c.in-Ok.ensures.scan;
      place = c.in-Err-Deep.place;
      deep = rw (c.in-Err-Deep.field-0-is, c.as_slice-tokens.ensures.value) at c.in-Err-Deep.ensures.parsed;
      line_is = rw (c.in-Err-Deep.place-is, c.as_slice-tokens.ensures.value) at c.line_of-in-Err-Deep.ensures;
    })
