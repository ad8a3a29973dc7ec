-- Valid code: each jump stays within it, and each operation has its locals.
use Rattle.std.specs.Prelude.{ℕ, ◌+◌, ◌<◌, ◌≤◌, ◌^◌, List, [], ◌∷◌, map, length, ⊤}
use Rattle.txn_lang.specs.Value.{UsesBelow}
use Rattle.flat_code.specs.Operation.{Operation, Let, Read, Write, Print, Test, Go, Enter, Again, Skip, Abort, Finish, operation, Flat}

-- the locals of an operation are those of the code, and so are the places after it
abbrev pub IsValid : ℕ → ℕ → ℕ → Operation → Type 0
IsValid n end pc (Let v e) = (v < n) × UsesBelow e n × (pc + 1 < end)
IsValid n end pc (Read v table i) = (v < n) × UsesBelow i n × (pc + 1 < end)
IsValid n end pc (Write table i e) = UsesBelow i n × UsesBelow e n × (pc + 1 < end)
IsValid n end pc (Print e) = UsesBelow e n × (pc + 1 < end)
IsValid n end pc (Test e past) = UsesBelow e n × (pc + 1 + past < end)
IsValid n end pc (Go past) = pc + 1 + past < end
IsValid n end pc (Enter further) = pc + 1 < end
IsValid n end pc (Again back) = (back ≤ pc) × (pc + 1 < end)
IsValid n end pc Skip = pc + 1 < end
IsValid n end pc Abort = ⊤
IsValid n end pc Finish = ⊤

abbrev pub AreValid : ℕ → ℕ → ℕ → List Operation → Type 0
AreValid n end pc [] = ⊤
AreValid n end pc (o ∷ os) = IsValid n end pc o × AreValid n end (pc + 1) os

-- what all code keeps: its jumps are valid
pub record IsFlat (code : Flat) : Type 0 where
  pub short : length code.operations < 2 ^ 32
  pub valid : AreValid code.locals (length code.operations) 0 (map operation code.operations)
