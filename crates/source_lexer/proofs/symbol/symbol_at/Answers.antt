use Rattle.source_lexer.proofs.LongestPrefixes.{longest_pair, longest_byte, no_symbol}
use Rattle.source_lexer.proofs.symbol.symbol_at.Goals as goal

pub returns-in-Some : goal.returns-in-Some
returns-in-Some c = longest_pair c.args.text.now _ c.requires c.in-Some.ensures

pub returns-in_err-byte_symbol-in-None : goal.returns-in_err-byte_symbol-in-None
returns-in_err-byte_symbol-in-None c =
    rw c.from_residual.ensures (no_symbol c.args.text.now c.requires c.in-None.ensures c.in_err-byte_symbol-in-None.ensures)

pub returns-in_ok-byte_symbol-in-None : goal.returns-in_ok-byte_symbol-in-None
returns-in_ok-byte_symbol-in-None c =
    longest_byte c.args.text.now _ c.requires c.in-None.ensures c.in_ok-byte_symbol-in-None.ensures
