use Rattle.std.proofs.Common.{◌≡◌, Some}
use Rattle.hub.specs.Starts.{Start}
use Rattle.runner.specs.AtSlot.{IsAtSlot}
use Rattle.runner.specs.Growth.{HasGrown}
use Rattle.runner.specs.Progress.{IsRecalled, rank_at}
use Rattle.runner.proofs.one.run_rounds.Given as goal

abbrev pub invariant-rounds : goal.invariant-rounds
invariant-rounds g l = record {
  recalled : (s : Start g.row.M-Origin.Denot) → g.N.Named.start ≡ Some s → IsRecalled (g.M.Machine.rules s.origin) l.hub;
  grown : (s : Start g.row.M-Origin.Denot) → g.N.Named.start ≡ Some s → HasGrown (g.M.Machine.rules s.origin) l.fn.hub l.hub;
  kept : (s : Start g.row.M-Origin.Denot) → g.N.Named.start ≡ Some s → IsAtSlot (g.M.Machine.rules s.origin) s.turns 0 l.fn.hub →
      IsAtSlot (g.M.Machine.rules s.origin) s.turns 0 l.hub;
}

abbrev pub decreases-rounds : goal.decreases-rounds
decreases-rounds g l = rank_at g.N.Named.start g.M.Machine.rules l.hub
