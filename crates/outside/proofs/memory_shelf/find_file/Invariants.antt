use Rattle.std.proofs.Common.{◌≡◌, map, drop, string_bytes}
use Rattle.plain_text.specs.Lookup.{lookup}
use Rattle.outside.proofs.memory_shelf.find_file.Given as goal

abbrev pub invariant-loop-file : goal.invariant-loop-file
invariant-loop-file l = lookup l.name (map (λ file. (string_bytes file.0, file.1.items)) l.files) ≡ lookup l.name (map (λ file. (string_bytes file.0, file.1.items)) (drop l.file-index l.files))
