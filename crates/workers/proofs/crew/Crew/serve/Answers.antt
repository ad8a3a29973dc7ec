use mathlib.Core.List.{not-mem-nil}
use Rattle.workers.proofs.crew.Crew.serve.Goals as goal

pub block_on-requires-lives-F-Future-8 : goal.block_on-requires-lives-F-Future-8
block_on-requires-lives-F-Future-8 g c κs within = λ a m. absurd (not-mem-nil (c.type_bounds.static-G a m))

pub block_on-requires-lives-F-Destruct-8 : goal.block_on-requires-lives-F-Destruct-8
block_on-requires-lives-F-Destruct-8 g c κs within = λ a m. absurd (not-mem-nil (c.type_bounds.static-G a m))
