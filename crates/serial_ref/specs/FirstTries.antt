-- The versions of transactions that take one try each.
use Rattle.std.specs.Prelude.{ℕ, ◌+◌, max, List, [], ◌∷◌, ◌++◌}
use Rattle.script.specs.declared.setup.Txn.{Txn}
use Rattle.script.specs.declared.setup.Setup.{Setup}
use Rattle.serial_ref.specs.declared.item.SerialItem.{SerialItem}
use Rattle.serial_ref.specs.SerialItem.{IsInOrder}

-- a transaction of this number of a client, at this ts
abbrev pub try_at : ℕ → ℕ → ℕ → SerialItem
try_at client number ts = record { ver = record { ts = ts; client = client }; client = client; txn = number }

-- the ts of a first try: no earlier than its transaction's start, and later than that of the transaction before it
abbrev pub first_ts : Txn → ℕ → ℕ
first_ts t last = max t.at (last + 1)

-- the transactions of a client from this number on, after one at this ts
abbrev pub client_tries : ℕ → ℕ → ℕ → List Txn → List SerialItem
client_tries client number last [] = []
client_tries client number last (t ∷ ts) = try_at client number (first_ts t last) ∷ client_tries client (number + 1) (first_ts t last) ts

-- the transactions of the clients from this number on; those of each begin after ts 0
abbrev pub all_tries : ℕ → List (List Txn) → List SerialItem
all_tries client [] = []
all_tries client (txns ∷ clients) = client_tries client 1 0 txns ++ all_tries (client + 1) clients

-- every transaction at its first try, by rising version
abbrev pub IsFirstTries : Setup → List SerialItem → Type 0
IsFirstTries s items = IsInOrder (all_tries 1 s.clients) items
