use Rattle.std.proofs.Common.{◌≡◌, ◌≤◌, length, Some}
use Rattle.hub.specs.Starts.{Start}
use Rattle.runner.specs.AtSlot.{IsAtSlot}
use Rattle.runner.specs.Growth.{HasGrown}
use Rattle.runner.specs.Progress.{IsRecalled, IsRoundSoFar}
use Rattle.runner.proofs.one.round.Given as goal

abbrev pub invariant-loop-slot : goal.invariant-loop-slot
invariant-loop-slot g l = record {
  nodes : l.hub.nodes ≡ l.fn.hub.nodes;
  last : l.slot-end ≡ l.fn.hub.nodes;
  some : 1 ≤ l.slot-end;
  all : (s : Start g.row.M-Origin.Denot) → g.N.Named.start ≡ Some s → l.slot-end ≡ length (g.M.Machine.rules s.origin).nodes;
  grown : (s : Start g.row.M-Origin.Denot) → g.N.Named.start ≡ Some s → HasGrown (g.M.Machine.rules s.origin) l.fn.hub l.hub;
  so_far : (s : Start g.row.M-Origin.Denot) → g.N.Named.start ≡ Some s → IsRecalled (g.M.Machine.rules s.origin) l.fn.hub →
      IsRoundSoFar (g.M.Machine.rules s.origin) s.turns l.slot l.fn.hub l.hub;
  kept : (s : Start g.row.M-Origin.Denot) → g.N.Named.start ≡ Some s → IsRecalled (g.M.Machine.rules s.origin) l.fn.hub →
      IsAtSlot (g.M.Machine.rules s.origin) s.turns 0 l.fn.hub → IsAtSlot (g.M.Machine.rules s.origin) s.turns l.slot l.hub;
}
