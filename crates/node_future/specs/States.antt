-- What a Turns tells of itself, and what one poll of a node makes of that.
use Rattle.std.specs.Prelude.{◌≡◌, ◌≤◌, ◌⊎◌, ℕ, Bool, true}
use Rattle.node_future.specs.Answers.{CountsTurn, CountsGive}
use Rattle.node_future.specs.declared.answers.LastTurn.{LastTurn}
use Rattle.node_future.specs.declared.answers.LastGive.{LastGive}

-- the number of nodes, the two counts, the kinds of the last answers, whether a segment was refused, whether it was spoiled
pub record TurnsState : Type 0 where
  pub nodes : ℕ
  pub turns : ℕ
  pub rans : ℕ
  pub last_turn : LastTurn
  pub last_give : LastGive
  pub refused : Bool
  pub spoiled : Bool

-- these, as functions of a Turns
abbrev pub state_of : {T : Type 0} → (T → ℕ) → (T → ℕ) → (T → ℕ) → (T → LastTurn) → (T → LastGive) → (T → Bool) → (T → Bool) → T → TurnsState
state_of nodes turns rans last_turn last_give refused spoiled t = record {
  nodes = nodes t;
  turns = turns t;
  rans = rans t;
  last_turn = last_turn t;
  last_give = last_give t;
  refused = refused t;
  spoiled = spoiled t;
}

-- one turn, and no segment
pub record IsTurnAlone (old new : TurnsState) : Type 0 where
  pub turns : CountsTurn new.last_turn old.turns new.turns
  pub rans : new.rans ≡ old.rans
  pub last_give : new.last_give ≡ old.last_give

-- one turn, which answered a job, and a segment that was refused or given back
pub record IsSegment (old new : TurnsState) : Type 0 where
  pub turns : new.turns ≡ old.turns
  pub last_turn : new.last_turn ≡ LastTurn.Job
  pub rans : ((new.refused ≡ true) × (new.last_give ≡ old.last_give) × (new.rans ≡ old.rans)) ⊎ CountsGive new.last_give old.rans new.rans

-- at most one event was made: a pick, or what became of a segment
abbrev pub IsOneEvent : TurnsState → TurnsState → Type 0
IsOneEvent old new = IsTurnAlone old new ⊎ IsSegment old new

-- the same nodes, and no count fell
pub record IsLater (old new : TurnsState) : Type 0 where
  pub nodes : new.nodes ≡ old.nodes
  pub turns : old.turns ≤ new.turns
  pub rans : old.rans ≤ new.rans
