use Rattle.std.proofs.Common.{◌≡◌, [], ◌∷◌, Err, sym, subst}
use Rattle.job_endings.specs.declared.refusal.Stop.{Stop}
use Rattle.job_endings.specs.declared.status.Status.TheVariants as status
use Rattle.object_bytes.specs.Loading.{Program}
use Rattle.object_bytes.specs.Programs.{program_of}
use Rattle.rnm_engine.specs.Jobs.{Answer, Does, IsListAnswer, IsOwn, lines, listing_of}
use Rattle.rnm_engine.proofs.ObjectLemmas.{loaded, refuses}
use Rattle.rnm_engine.proofs.list.list.Goals as goal

-- the answer of the command to a program
abbrev IsListed : Program → Answer → Type 0
IsListed program answer = answer ≡ lines (listing_of program ∷ []) status.Ok

pub returns-in-Ok : goal.returns-in-Ok
returns-in-Ok g c =
    loaded g.K.Sink.puts g.K.Sink.state c.args.sink.now c.args.object.now IsListed (program_of c.in-Ok.object) c.in-Ok.ensures.no_fault c.in-Ok.ensures.program
    c.put_listing.result c.put_listing.new.sink c.put_listing.ensures

pub returns-in-Err : goal.returns-in-Err
returns-in-Err g c =
    let old = c.args.sink.now in
    subst (λ (stop : Stop). Does g.K.Sink.puts g.K.Sink.state old (IsOwn (IsListAnswer c.args.object.now)) (Err stop) old) (sym c.stop_of_load.ensures)
    (refuses g.K.Sink.puts g.K.Sink.state old c.args.object.now IsListed c.in-Err.fault c.in-Err.ensures.fault)
