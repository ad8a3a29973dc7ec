use Rattle.std.proofs.Common.{◌≡◌, List}
use Rattle.std.specs.Prelude.{flat_map}
use Rattle.protocol.specs.Lists.{upto}
use Rattle.protocol.specs.World.State.{World}
use Rattle.protocol.specs.World.Committed.{CommittedExec}
use Rattle.protocol_plans.specs.Scripted.{Scripted}
use Rattle.world_rows.specs.Left.{AreDone}
use Rattle.world_rows.specs.Report.{AreProgress}
use Rattle.world_rows.proofs.LeftLemmas.{client_rows}
use Rattle.world_rows.proofs.left.left_rows.Given as goal

abbrev pub invariant-loop-i : goal.invariant-loop-i
invariant-loop-i l = (s : Scripted) (w : World) (cs : List CommittedExec) → AreDone cs l.done → AreProgress s w l.clients →
    l.rows ≡ flat_map (client_rows s w cs) (upto l.i)
