-- What callers see of a seat.
use Rattle.std.specs.Prelude.{ℕ, Bool}
use Rattle.node_future.specs.declared.answers.LastTurn.{LastTurn}
use Rattle.node_future.specs.declared.answers.LastGive.{LastGive}

-- how many picks were made at it, how many segments of it were used, the kinds of its last answers,
-- whether a segment was refused there, and whether it was spoiled
pub record SeatView : Type 0 where
  pub turns : ℕ
  pub rans : ℕ
  pub last_turn : LastTurn
  pub last_give : LastGive
  pub refused : Bool
  pub spoiled : Bool
