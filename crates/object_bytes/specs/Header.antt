-- What a header says of the bytes that it is read from.
use Rattle.std.specs.Prelude.{◌≡◌, ℕ, ◌≤◌, List, length, None}
use Rattle.object_bytes.specs.declared.header.Header.{Header}
use Rattle.object_bytes.specs.Loading.{header_fault, instructions_in, length_by, set_in, words_in}

-- it has no fault, its counts are lawful, and the bytes are as many as it says
pub record IsHeader (bytes : List ℕ) (header : Header) : Type 0 where
  pub no_fault : header_fault bytes ≡ None
  pub set : header.set ≡ set_in bytes
  pub instructions : header.instructions ≡ instructions_in bytes
  pub words : header.words ≡ words_in bytes
  pub few_instructions : header.instructions ≤ 65536
  pub few_words : header.words ≤ 65536
  pub long : length bytes ≡ length_by header.instructions header.words
