use Rattle.std.proofs.Common.{◌≡◌, ℕ, ◌<◌, true, false, Some}
use Rattle.std.specs.List.{slice_get}
use Rattle.morty_base.specs.declared.names.NodeId.{NodeId}
use Rattle.net_core.specs.Marks.{rests}
use Rattle.hub.specs.Starts.{Start}
use Rattle.hub.specs.Views.{history}
use Rattle.hub.proofs.hub.Hub.is_quiet.Given as goal

abbrev pub invariant-loop-slot : goal.invariant-loop-slot
invariant-loop-slot g l =
    l.self.broken ≡ false → (s : Start g.row.M-Origin.Denot) (k : ℕ) (n : NodeId) → g.N.Named.start ≡ Some s → k < l.slot
    → slice_get (g.M.Machine.rules s.origin).nodes k ≡ Some n → rests (g.M.Machine.rules s.origin) (history l.self) n ≡ true
