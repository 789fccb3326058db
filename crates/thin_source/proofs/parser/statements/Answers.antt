use Rattle.std.proofs.Common.{◌≡◌, ◌∷◌, [], ◌++◌, List, map, ap, ◌∙◌}
use Rattle.std.proofs.lemmas.List.{map_push}
use Rattle.thin_source.specs.ThinGrammar.{Symbol, symbols_of}
use Rattle.thin_source.specs.ThinView.{statement_view}
use Rattle.thin_source.proofs.ThinTokens.{shorter, symbols_stand}
use Rattle.thin_source.proofs.ThinStatements.{statement_head, statements_go_on, statements_stuck}
use Rattle.thin_source.proofs.parser.statements.Goals as goal

pub returns-in_default : goal.returns-in_default
returns-in_default c =
    let text = c.args.text.now in
    let tokens = c.loop-rest.rest.now in
    let none = rw c.in_default.is at c.in_ok-next.ensures in
    statements_stuck (map statement_view c.loop-rest.found.items) (symbols_of text c.args.tokens.now) (symbols_of text tokens)
    c.loop-rest.invariant.so_far (symbols_stand text tokens c.is_empty.result c.is_empty.ensures c.loop-rest-test.true) none

pub loop-rest-smaller : goal.loop-rest-smaller
loop-rest-smaller c =
    let text = c.args.text.now in
    let next = rw c.in-Some.is at c.in_ok-next.ensures in
    let head = statement_head (statement_view c.in-Some.next) in
    shorter text c.loop-rest.rest.now c.in-Some.after.now head.0 head.1 (next.0 ∙ ap (λ (s : List Symbol). s ++ symbols_of text c.in-Some.after.now) head.2)

pub loop-rest-preserved : goal.loop-rest-preserved
loop-rest-preserved c =
    let text = c.args.text.now in
    let done = map statement_view c.loop-rest.found.items in
    let statement = statement_view c.in-Some.next in
    let next = rw c.in-Some.is at c.in_ok-next.ensures in
    let pushed : map statement_view c.push.new.self.items ≡ done ++ statement ∷ [] = rw c.in_ok-push.ensures.items (map_push _ c.loop-rest.found.items c.in-Some.next) in
    let more = statements_go_on done statement (symbols_of text c.args.tokens.now) (symbols_of text c.loop-rest.rest.now) (symbols_of text c.in-Some.after.now) c.loop-rest.invariant.so_far next.0 in
    record { so_far = rw pushed more; each = next.1 }
