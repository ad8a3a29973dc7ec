-- A whole run, from its start to its end.
use Rattle.std.specs.Prelude.{◌≡◌, ℕ, List, Some}
use Rattle.net_core.specs.Machine.{History, Machine}
use Rattle.net_core.specs.Marks.{end_of}
use Rattle.net_core.specs.Rounds.{InRounds}
use Rattle.net_core.specs.Ruled.{LinkState}
use Rattle.hub.specs.Starts.{Start, IsRun}
use Rattle.hub.specs.Kept.{picks_in, rans_in}
use Rattle.runner.specs.declared.one.RunOut.{RunOut}

-- the run of a machine of this origin that has taken no event, with these links
abbrev pub start_of : {O : Type 0} → O → ℕ → List LinkState → Start O
start_of origin turns links = record { origin = origin; turns = turns; links = links }

-- the machine is the replay of the journal, and the links are what the journal says of them; the end came as the journal says;
-- and so many picks were made, and so many segments used
pub record IsEndedRun {O : Type 0} (rules : O → Machine) (stands : O → History → Type 0) (s : Start O) (h : History) (now : List LinkState)
    (out : RunOut) : Type 0 where
  pub run : IsRun rules stands s h now
  pub end : end_of (rules s.origin) s.turns h ≡ Some out.ended
  pub turns : out.turns ≡ picks_in h
  pub rans : out.rans ≡ rans_in (rules s.origin) h

-- a run that has ended, in which each event was of the node that was due
pub record IsWholeRun {O : Type 0} (rules : O → Machine) (stands : O → History → Type 0) (s : Start O) (h : History) (now : List LinkState)
    (out : RunOut) : Type 0 where
  pub run : IsRun rules stands s h now
  pub end : end_of (rules s.origin) s.turns h ≡ Some out.ended
  pub rounds : InRounds (rules s.origin) s.turns h
  pub turns : out.turns ≡ picks_in h
  pub rans : out.rans ≡ rans_in (rules s.origin) h
