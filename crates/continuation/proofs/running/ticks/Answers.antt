use Rattle.continuation.proofs.Stopping.{reached}
use Rattle.continuation.proofs.running.ticks.Goals as goal

pub begins-requires : goal.begins-requires
begins-requires c = reached c.args.code.now c.args.at.now c.requires.0 c.requires.1
