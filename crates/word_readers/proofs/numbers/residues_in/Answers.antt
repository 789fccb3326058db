use Rattle.std.proofs.Common.{◌≡◌, ℕ, ◌+◌, ◌<◌, List, [], Option, length, get_or, map, string_bytes, sym, subst, ap, ◌∙◌, length-append, arith}
use Rattle.std.proofs.lemmas.List.{length-map, get_or-map}
use Rattle.moduli_sets.specs.Moduli.{set_of}
use Rattle.moduli_sets.proofs.SetLemmas.{IsModuliSet-of}
use Rattle.word_readers.specs.Numbers.{residue_in}
use Rattle.word_readers.proofs.ResidueLemmas.{GoesOn, GoesOn-end, GoesOn-more, GoesOn-none, residues_in-below, residues_in-unequal}
use Rattle.word_readers.proofs.numbers.residues_in.Goals as goal

pub returns-then-words-count-clause-value : goal.returns-then-words-count-clause-value
returns-then-words-count-clause-value c =
    let words = c.args.words.now in
    sym (residues_in-unequal (set_of c.args.set.now).moduli (map string_bytes words)
    (λ same. c.if-words-count.true (sym (length-map words string_bytes) ∙ same ∙ sym c.count.ensures)))

-- what is read of word i, among the bytes of the words
read_at : {X : Type 0} (bytes : X → List ℕ) (moduli : List ℕ) (words : List X) (i modulus : ℕ) (item : X) (word : List ℕ)
    (read : Option ℕ) → i < length words → modulus ≡ get_or moduli i 0 → item ≡ get_or words i item → word ≡ bytes item
    → read ≡ residue_in modulus word → read ≡ residue_in (get_or moduli i 0) (get_or (map bytes words) i [])
read_at bytes moduli words i modulus item word read some of_set of_words is_bytes is =
    let same : word ≡ get_or (map bytes words) i [] = is_bytes ∙ ap bytes of_words
    ∙ sym (get_or-map bytes words i item [] some) in
    is ∙ ap (λ m. residue_in m word) of_set ∙ ap (residue_in (get_or moduli i 0)) same

pub returns-in_err-residue_in-clause-value : goal.returns-in_err-residue_in-clause-value
returns-in_err-residue_in-clause-value c =
    let moduli = (set_of c.args.set.now).moduli in
    let words = c.args.words.now in
    let read = read_at string_bytes moduli words c.loop-i.i c.modulus.result c.index-words-i.result c.as_bytes.result.now
    c.residue_in.result c.loop-i-test.true c.modulus.ensures.value c.index-words-i.is c.as_bytes.ensures.value
    c.residue_in.ensures in
    c.from_residual.ensures ∙ GoesOn-none moduli (map string_bytes words) c.loop-i.i c.loop-i.residues (omega arith)
    (omega (arith, length-map words string_bytes)) c.loop-i.invariant.goes_on (sym c.in_err-residue_in.was ∙ read)

pub push-requires : goal.push-requires
push-requires c = omega (arith, (IsModuliSet-of c.args.set.now).at_most_twelve)

pub loop-i-preserved : goal.loop-i-preserved
loop-i-preserved c =
    let moduli = (set_of c.args.set.now).moduli in
    let words = c.args.words.now in
    let read = read_at string_bytes moduli words c.loop-i.i c.modulus.result c.index-words-i.result c.as_bytes.result.now
    c.residue_in.result c.loop-i-test.true c.modulus.ensures.value c.index-words-i.is c.as_bytes.ensures.value
    c.residue_in.ensures in
    let found = GoesOn-more moduli (map string_bytes words) c.loop-i.i c.loop-i.residues c.in_ok-residue_in.field-0
    (omega arith) (omega (arith, length-map words string_bytes)) c.loop-i.invariant.goes_on
    (sym c.in_ok-residue_in.was ∙ read) in
    record {
      goes_on = subst (GoesOn moduli (map string_bytes words) (c.loop-i.i + 1)) (sym c.push.ensures) found;
      count = omega (arith, simp length-append at (ap length c.push.ensures));
    }

pub returns : goal.returns
returns c =
    let moduli = (set_of c.args.set.now).moduli in
    let words = c.args.words.now in
    let value = GoesOn-end moduli (map string_bytes words) c.loop-i.i c.loop-i.residues (omega arith)
    (omega (arith, length-map words string_bytes)) c.loop-i.invariant.goes_on in
    record { value = value; below = residues_in-below moduli (map string_bytes words) _ value }
