use Rattle.world.specs.World.{with_sent}
use Rattle.world.proofs.parts.Parts.finish.Goals as goal

pub returns : goal.returns
returns c = λ l w is. c.count.ensures l (with_sent w c.args.sent.now) (c.in_ok-post.ensures l w is)
