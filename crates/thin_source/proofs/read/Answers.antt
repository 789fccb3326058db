use Rattle.std.proofs.Common.{◌≡◌, true, List, Option, sym, subst}
use Rattle.std.specs.Prelude.{IsSomeAnd}
use Rattle.source_lexer.specs.declared.token.Token.{Token}
use Rattle.thin_source.specs.declared.tree.Program.{Program}
use Rattle.thin_source.specs.ThinTree as source
use Rattle.thin_source.specs.ThinGrammar.{SpellsProgram, symbols_of}
use Rattle.thin_source.specs.ThinView.{program_view}
use Rattle.thin_source.specs.ThinRules.{IsLawful}
use Rattle.thin_source.proofs.ThinScans.{All-scanned, spells_scanned}
use Rattle.thin_source.proofs.read.Goals as goal

pub parse-requires : goal.parse-requires
parse-requires c =
    rw c.as_slice.ensures.value (All-scanned c.args.text.now c.in-Ok.tokens.items c.in-Ok.ensures.scan)

pub returns-in_default : goal.returns-in_default
returns-in_default c program thin =
    let P : List Token → Type 0 = λ ts. SpellsProgram (symbols_of c.args.text.now ts) program in
    let spells = subst P (sym c.as_slice.ensures.value) (spells_scanned c.one_scan.ensures c.args.text.now c.in-Ok.tokens.items c.in-Ok.ensures.scan program thin.spells) in
    let Q : Option Program → Type 0 = λ found. IsSomeAnd found (λ own. program_view own ≡ program) in
    absurd (subst Q c.in_default.is (c.in_ok-program.ensures.only program spells))

pub returns : goal.returns
returns c program thin =
    let P : List Token → Type 0 = λ ts. SpellsProgram (symbols_of c.args.text.now ts) program in
    let spells = subst P (sym c.as_slice.ensures.value) (spells_scanned c.one_scan.ensures c.args.text.now c.in-Ok.tokens.items c.in-Ok.ensures.scan program thin.spells) in
    let Q : Option Program → Type 0 = λ found. IsSomeAnd found (λ own. program_view own ≡ program) in
    let same = subst Q c.in-Some.is (c.in_ok-program.ensures.only program spells) in
    let R : source.Program → Type 0 = λ it. IsLawful it in
    let is_true : c.is_lawful.result ≡ true = c.is_lawful.ensures.1 (subst R (sym same) thin.lawful) in
    absurd (cc (is_true, c.if-is_lawful.false))
