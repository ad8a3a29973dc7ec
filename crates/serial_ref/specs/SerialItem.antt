-- Items: the transactions that they name, and the order of their versions.
use Rattle.std.specs.Prelude.{◌≡◌, ℕ, zero, suc, true, false, List, map, Option, None}
use Rattle.std.specs.Option.{IsSome, option_and_then}
use Rattle.std.specs.List.{All, AllPairs, IsDistinct, slice_get}
use Rattle.std.specs.List.Sorted.{IsPermutation}
use Rattle.morty_base.specs.declared.names.Version.{Version}
use Rattle.morty_base.specs.Names.{before, same_version}
use Rattle.script.specs.declared.setup.Txn.{Txn}
use Rattle.script.specs.declared.setup.Setup.{Setup}
use Rattle.serial_ref.specs.declared.item.SerialItem.{SerialItem}

-- what stands at a number, counted from 1
abbrev pub at_number : {A : Type 0} → ℕ → List A → Option A
at_number zero xs = None
at_number (suc i) xs = slice_get xs i

-- the transaction of the item's number of its client
abbrev pub txn_named : Setup → SerialItem → Option Txn
txn_named s i = option_and_then (at_number i.txn) (at_number i.client s.clients)

-- the item's client is that of its version, and has a transaction of its number
pub record IsNamed (s : Setup) (i : SerialItem) : Type 0 where
  pub own : i.client ≡ i.ver.client
  pub there : IsSome (txn_named s i)

abbrev pub AreNamed : Setup → List SerialItem → Type 0
AreNamed s items = All (IsNamed s) items

abbrev pub versions_of : List SerialItem → List Version
versions_of items = map (λ i. i.ver) items

-- no two items have one version
abbrev pub DifferInVersion : List SerialItem → Type 0
DifferInVersion items = IsDistinct same_version (versions_of items)

-- each item is earlier than all after it
abbrev pub IsRising : List SerialItem → Type 0
IsRising items = AllPairs (λ i j. before i.ver j.ver ≡ true) items

-- the items in another order, in which none stands before an earlier one
pub record IsInOrder (items sorted : List SerialItem) : Type 0 where
  pub same : IsPermutation items sorted
  pub rising : AllPairs (λ i j. before j.ver i.ver ≡ false) sorted
