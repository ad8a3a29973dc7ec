-- The least of the clients so far.
use Rattle.std.proofs.Common.{take}
use Rattle.menus.specs.Waiting.{IsLeast, waits_among}
use Rattle.menus.proofs.waiting.Waiting.least.Given as goal

abbrev pub invariant-loop-client : goal.invariant-loop-client
invariant-loop-client l = IsLeast (waits_among (take l.client-index l.self.clients.items)) l.least
