-- The keys that a transaction names, and a transaction that shares none with another.
use Rattle.std.specs.Prelude.{◌≡◌, ℕ, ◌⊎◌, List}
use Rattle.protocol.specs.Words.{Exec, Key, Read, Write, Body, Get, Puts, Prepare}
use Rattle.protocol.specs.Lists.{IsIn}
use Rattle.protocol.specs.Client.State.{Attempt}
use Rattle.protocol.specs.World.State.{World}
use Rattle.protocol.specs.World.Decided.{WasSent, IsOf}

-- some write is of the key
abbrev pub HasWriteOf : Key → List Write → Type 0
HasWriteOf k ws = (w : Write) × IsIn w ws × (w.key ≡ k)

-- some read is of the key
abbrev pub HasReadOf : Key → List Read → Type 0
HasReadOf k rs = (r : Read) × IsIn r rs × (r.key ≡ k)

-- the body is a Get, Puts or Prepare of the execution, and names the key: a Prepare those of its reads and writes
abbrev pub Names : Body → Exec → Key → Type 0
Names (Get x l) y k = (x ≡ y) × (l ≡ k)
Names (Puts x ws) y k = (x ≡ y) × HasWriteOf k ws
Names (Prepare x c) y k = (x ≡ y) × (HasReadOf k c.reads ⊎ HasWriteOf k c.writes)
Names _ y k = ⊥

-- a body that was sent for transaction n of client c, in whichever try, names the key
pub record IsNamedFor (w : World) (c n : ℕ) (k : Key) : Type 0 where
  pub exec : Exec
  pub body : Body
  pub sent : WasSent w body
  pub names : Names body exec k
  pub attempt : Attempt
  pub of : IsOf w exec attempt
  pub client : exec.ver.client ≡ c
  pub txn : attempt.txn ≡ n

-- no key that the transaction names is named by another
abbrev pub IsApart : World → ℕ → ℕ → Type 0
IsApart w c n = (k : Key) → IsNamedFor w c n k → (d m : ℕ) → IsNamedFor w d m k → (d ≡ c) × (m ≡ n)
