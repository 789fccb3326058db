use Rattle.source_parser.specs.Limits.{depth_limit}
use Rattle.source_parser.specs.Grammar as grammar
use Rattle.source_parser.specs.Landings.{reads}
use Rattle.source_parser.proofs.Moves.{at_start, and_then, fails}
use Rattle.source_parser.proofs.TokenMoves.{and_name, and_token, no_name, no_token}
use Rattle.source_parser.proofs.declaration.procedure.Goals as goal

pub returns-in_err-name-clause-lands : goal.returns-in_err-name-clause-lands
returns-in_err-name-clause-lands c = no_name c.in_err-name.field-0.0 c.in_err-name.ensures.value c.from_residual.ensures.1 at_start

pub returns-in_err-expect-clause-lands : goal.returns-in_err-expect-clause-lands
returns-in_err-expect-clause-lands c =
    no_token c.in_err-expect.ensures.value c.from_residual-in_err-expect.ensures.1 (and_name c.in_ok-name.ensures.value at_start)

pub returns-in_err-params-clause-lands : goal.returns-in_err-params-clause-lands
returns-in_err-params-clause-lands c =
    fails _ (c.in_err-params.ensures.lands depth_limit _) c.from_residual-in_err-params.ensures.1
    (and_token c.in_ok-expect.ensures.value (and_name c.in_ok-name.ensures.value at_start))

pub returns-in_err-locals-clause-lands : goal.returns-in_err-locals-clause-lands
returns-in_err-locals-clause-lands c =
    fails _ (c.in_err-locals.ensures.lands depth_limit) c.from_residual-in_err-locals.ensures.1
    (and_then _ (c.in_ok-params.ensures.lands depth_limit _) (and_token c.in_ok-expect.ensures.value (and_name c.in_ok-name.ensures.value at_start)))

pub returns-in_err-expect-2-clause-lands : goal.returns-in_err-expect-2-clause-lands
returns-in_err-expect-2-clause-lands c =
    no_token c.in_err-expect-2.ensures.value c.from_residual-in_err-expect-2.ensures.1
    (and_then _ (c.in_ok-locals.ensures.lands depth_limit) (and_then _ (c.in_ok-params.ensures.lands depth_limit _)
    (and_token c.in_ok-expect.ensures.value (and_name c.in_ok-name.ensures.value at_start))))

pub returns-in_err-body-clause-lands : goal.returns-in_err-body-clause-lands
returns-in_err-body-clause-lands c =
    fails _ c.in_err-body.ensures.lands c.from_residual-in_err-body.ensures.1
    (and_token c.in_ok-expect-2.ensures.value (and_then _ (c.in_ok-locals.ensures.lands depth_limit) (and_then _ (c.in_ok-params.ensures.lands depth_limit _)
    (and_token c.in_ok-expect.ensures.value (and_name c.in_ok-name.ensures.value at_start)))))

pub returns-in_err-expect-3-clause-lands : goal.returns-in_err-expect-3-clause-lands
returns-in_err-expect-3-clause-lands c =
    no_token c.in_err-expect-3.ensures.value c.from_residual-in_err-expect-3.ensures.1
    (and_then _ c.in_ok-body.ensures.lands (and_token c.in_ok-expect-2.ensures.value (and_then _ (c.in_ok-locals.ensures.lands depth_limit)
    (and_then _ (c.in_ok-params.ensures.lands depth_limit _) (and_token c.in_ok-expect.ensures.value (and_name c.in_ok-name.ensures.value at_start))))))

pub returns-clause-value : goal.returns-clause-value
returns-clause-value c =
    rw (c.in_ok-name.ensures.value, c.in_ok-expect.ensures.value)
    (grammar.proc c.in_ok-params.ensures.value (rw c.in_ok-expect-2.ensures.value at c.in_ok-locals.ensures.value) (rw c.in_ok-expect-3.ensures.value at c.in_ok-body.ensures.value))

pub returns-clause-lands : goal.returns-clause-lands
returns-clause-lands c =
    reads (and_token c.in_ok-expect-3.ensures.value (and_then _ c.in_ok-body.ensures.lands (and_token c.in_ok-expect-2.ensures.value
    (and_then _ (c.in_ok-locals.ensures.lands depth_limit) (and_then _ (c.in_ok-params.ensures.lands depth_limit _)
    (and_token c.in_ok-expect.ensures.value (and_name c.in_ok-name.ensures.value at_start)))))))
