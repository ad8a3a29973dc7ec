use Rattle.world.proofs.Taking.{IsPosted}
use Rattle.world.proofs.parts.Parts.post.Given as goal

abbrev pub invariant-loop-env : goal.invariant-loop-env
invariant-loop-env l = IsPosted l.initial.self l.fn.sent l.env-index l.self
