use Rattle.source_lexer.proofs.OneScan.{one_scan_of}
use Rattle.source_lexer.proofs.lexer.one_scan.Goals as goal

pub returns : goal.returns
returns c = one_scan_of
