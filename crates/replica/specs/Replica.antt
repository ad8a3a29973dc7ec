-- When a replica stands for the envelopes that it took.
use Rattle.std.specs.Prelude.{◌≡◌, ℕ, Bool, false, List}
use Rattle.protocol.specs.Words.{Version}
use Rattle.protocol.specs.Replica.Taken.{Handled, dropped, fence}
use Rattle.protocol.specs.declared.First2.{First2}
use Rattle.mv_index.specs.Records.{StandsFor as RecordsStandFor, WereTold}
use Rattle.mv_index.specs.declared.records.Records.{Records}
use Rattle.replica.specs.Ballots.{StandsFor as BallotsStandFor}
use Rattle.replica.specs.declared.ballots.Ballots.{Ballots}
use Rattle.replica.specs.declared.replica.Replica.{Replica}

-- what a replica tells, each part by a name of its own: its number, the version that it dropped, its fence, what it
-- holds, and what it promised, voted, accepted, decided and knows
abbrev pub number_in : Replica → ℕ
number_in r = r.number

abbrev pub dropped_in : Replica → Version
dropped_in r = r.dropped

abbrev pub fence_in : Replica → Version
fence_in r = r.fence

abbrev pub records_of : Replica → Records
records_of r = r.records

abbrev pub ballots_of : Replica → Ballots
ballots_of r = r.ballots

-- a call was refused: each later one is
abbrev pub is_broken : Replica → Bool
is_broken r = r.broken

-- each part stands for h, and the readers were told what they saw after the list seen
pub record Keeps (firsts : List First2) (number : ℕ) (seen h : Handled) (r : Replica) : Type 0 where
  pub number_is : number_in r ≡ number
  pub dropped_is : dropped_in r ≡ dropped h
  pub fence_is : fence_in r ≡ fence h
  pub records : RecordsStandFor firsts h (records_of r)
  pub told : WereTold firsts seen (records_of r)
  pub ballots : BallotsStandFor h (ballots_of r)

-- between two envelopes the readers were told what they see, and nothing was refused
pub record StandsFor (firsts : List First2) (number : ℕ) (h : Handled) (r : Replica) : Type 0 where
  pub keeps : Keeps firsts number h h r
  pub whole : is_broken r ≡ false
