-- What readers and writers answer.
use Rattle.std.specs.Prelude.{◌≡◌, ℕ, List, ◌++◌, Result, Ok, Err, OnOk}
use Rattle.wire.specs.declared.fault.FrameFault.{FrameFault}
use Rattle.wire.specs.declared.fault.FrameFault.TheVariants as faults
use Rattle.wire.specs.Field.{Field}

abbrev pub Fails : {Y : Type 0} → FrameFault → Result Y FrameFault → Type 0
Fails faults.NoMemory judged = Unit {0}
Fails fault judged = judged ≡ Err fault

-- What was read, seen by `view`, is what the bytes are judged to be, unless memory ran out.
abbrev pub Gives : {X Y : Type 0} → (X → Y) → Result X FrameFault → Result Y FrameFault → Type 0
Gives view (Ok x) judged = judged ≡ Ok (view x)
Gives view (Err fault) judged = Fails fault judged

-- The bytes of a value were added, and it keeps what its type says, unless memory ran out.
abbrev pub Adds : {A R E : Type 0} → Field A → A → Result R E → List ℕ → List ℕ → Type 0
Adds field x result old new = OnOk result ((new ≡ old ++ field.frame x) × field.InRange x)
