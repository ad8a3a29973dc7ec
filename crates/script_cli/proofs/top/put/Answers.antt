-- The text that was made is what was written.
use Rattle.std.proofs.Common.{ℕ, List, subst}
use Rattle.morty_io.specs.Faults.{Rose}
use Rattle.script_cli.specs.Answer.{IsWritten}
use Rattle.script_cli.proofs.top.put.Goals as goal

pub returns-clause-written : goal.returns-clause-written
returns-clause-written g c =
    let taken = g.K.Sink.taken in
    let failed = Rose (g.K.Sink.faults c.args.out.now) (g.K.Sink.faults c.write-status.new.out) in
    let P : List ℕ → Type 0 = λ t. IsWritten (taken c.args.out.now) (taken c.write-status.new.out) failed t c.args.output.status c.write-status.result in
    subst P c.as_slice.ensures c.write-status.ensures
