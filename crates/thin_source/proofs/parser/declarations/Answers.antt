use Rattle.std.proofs.Common.{◌≡◌, ◌∷◌, [], ◌++◌, map, sym, ◌∙◌}
use Rattle.std.proofs.lemmas.List.{map_push}
use Rattle.source_lexer.specs.declared.token.TokenKind.TheVariants.{Var}
use Rattle.thin_source.specs.ThinGrammar.{symbols_of}
use Rattle.thin_source.specs.ThinView.{declaration_view}
use Rattle.thin_source.proofs.ThinTokens.{mark_stands}
use Rattle.thin_source.proofs.ThinDeclarations.{declarations_go_on, declarations_stuck}
use Rattle.thin_source.proofs.parser.declarations.Goals as goal

pub returns-in_default : goal.returns-in_default
returns-in_default c =
    let text = c.args.text.now in
    let tokens = c.loop-rest.rest.now in
    let var = mark_stands Var text tokens (λ rest. rest.now) c.front_mark.result (sym c.is_some.ensures ∙ c.loop-rest-test.true) (c.front_mark.ensures text c.loop-rest.invariant.each) in
    declarations_stuck (map declaration_view c.loop-rest.found.items) (symbols_of text c.args.tokens.now) (symbols_of text tokens) var.0 c.loop-rest.invariant.so_far var.1 c.in_default.ensures

pub loop-rest-preserved : goal.loop-rest-preserved
loop-rest-preserved c =
    let text = c.args.text.now in
    let done = map declaration_view c.loop-rest.found.items in
    let next = declaration_view c.in-Some.next in
    let pushed : map declaration_view c.push.new.self.items ≡ done ++ next ∷ [] = rw c.in_ok-push.ensures.items (map_push _ c.loop-rest.found.items c.in-Some.next) in
    let more = declarations_go_on done next (symbols_of text c.args.tokens.now) (symbols_of text c.loop-rest.rest.now) (symbols_of text c.in-Some.after.now) c.loop-rest.invariant.so_far c.in-Some.ensures.0 in
    record { so_far = rw pushed more; each = c.in-Some.ensures.1 }
