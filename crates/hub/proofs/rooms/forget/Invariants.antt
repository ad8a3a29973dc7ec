use Rattle.std.proofs.Common.{◌≡◌, ℕ, ◌<◌, length, get_or, None}
use Rattle.hub.proofs.rooms.forget.Given as goal

abbrev pub invariant-loop-at : goal.invariant-loop-at
invariant-loop-at g l = (length l.handed.items ≡ length l.initial.handed.items) × ((k : ℕ) → k < l.at → get_or l.handed.items k None ≡ None)
