-- Shares of two ledgers, and the two numbers that are counted by them.
use Rattle.std.specs.Prelude.{ℕ, ◌+◌, ◌^◌}
use Rattle.hub.specs.declared.turn_out.Counted.{Counted}

-- the parts of each ledger, and the picks and the used segments that these parts hold
pub record TallyView : Type 0 where
  pub parts : ℕ
  pub turns : ℕ
  pub rans : ℕ

-- one part of each, with which nothing was made yet
abbrev pub new_tally : TallyView
new_tally = record { parts = 1; turns = 0; rans = 0 }

-- two counts as one
abbrev pub plus : Counted → Counted → Counted
plus a b = record { turns = a.turns + b.turns; rans = a.rans + b.rans }

-- how many parts a ledger has: more than can be dealt
abbrev pub all_parts : ℕ
all_parts = 2 ^ 33
