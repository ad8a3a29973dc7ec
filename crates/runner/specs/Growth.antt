-- The counts of a journal, which only grow.
use Rattle.std.specs.Prelude.{◌≤◌}
use Rattle.net_core.specs.Machine.{Machine}
use Rattle.hub.specs.Kept.{picks_in, rans_in}
use Rattle.hub.specs.Views.{HubView, history}

-- no fewer picks than before, and no fewer segments that were used
pub record HasGrown {J : Type 0} (m : Machine) (old new : HubView J) : Type 0 where
  pub picks : picks_in (history old) ≤ picks_in (history new)
  pub rans : rans_in m (history old) ≤ rans_in m (history new)
