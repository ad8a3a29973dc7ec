-- What was noted stands for a mail and for the tries that clients began.
use Rattle.std.specs.Prelude.{◌≡◌, ◌≢◌, ℕ, zero, suc, Bool, false, List, [], ◌∷◌, Option, Some, None, find, option_map}
use Rattle.std.specs.Bool.{then_some}
use Rattle.std.specs.List.{list_any}
use Rattle.std.specs.Option.{option_or}
use Rattle.std.specs.BTreeMap as map
use Rattle.std.specs.BTreeSet as set
use Rattle.protocol.specs.Words.{Version, Exec, Body, Prepare, Decide, ToCommit, Content, Envelope, same_version, same_exec}
use Rattle.protocol.specs.Client.State.{Attempt}
use Rattle.world_rows.specs.Orders.{version_cmp, exec_cmp}
use Rattle.world_rows.specs.declared.notes.Try.{Try}
use Rattle.world_rows.specs.declared.notes.Notes.{Notes}

-- the content that a body prepares
abbrev pub content_of : Body → Option Content
content_of (Prepare x k) = Some k
content_of _ = None

abbrev pub content_in : Option Envelope → Option Content
content_in None = None
content_in (Some m) = content_of m.body

-- the execution that a body prepares
abbrev pub prepared_by : Body → Option Exec
prepared_by (Prepare x k) = Some x
prepared_by _ = None

-- the execution of which a body tells Commit
abbrev pub committed_by : Body → Option Exec
committed_by (Decide x ToCommit o) = Some x
committed_by _ = None

-- it is x
abbrev pub is_of : Exec → Option Exec → Bool
is_of x None = false
is_of x (Some y) = same_exec x y

-- the number of the last envelope with a Prepare of x
abbrev pub last_prepare : Exec → List Envelope → Option ℕ
last_prepare x [] = None
last_prepare x (m ∷ ms) = option_or (option_map suc (last_prepare x ms)) (then_some (is_of x (prepared_by m.body)) zero)

-- a Decide of Commit of x was sent
abbrev pub is_told : List Envelope → Exec → Bool
is_told mail x = list_any (λ m. is_of x (committed_by m.body)) mail

-- a try of a transaction at a version
abbrev pub attempt_of : Version → ℕ → ℕ → Attempt
attempt_of v n t = record { ver = v; txn = n; try = t }

-- the same without its version
abbrev pub try_of : Attempt → Try
try_of a = record { txn = a.txn; attempt = a.try }

-- the last Prepare of each execution, those of which Commit is told, and the tries by version
pub record AreNotes (mail : List Envelope) (attempts : ℕ → List Attempt) (s : Notes) : Type 0 where
  pub prepared : (x : Exec) → map.get exec_cmp s.prepared x ≡ last_prepare x mail
  pub committed : (x : Exec) → set.contains exec_cmp s.committed x ≡ is_told mail x
  pub tries : (v : Version) → map.get version_cmp s.tries v ≡ option_map try_of (find (λ a. same_version v a.ver) (attempts v.client))

-- of the tries that clients began, a is one more of its version's client
pub record IsBegun (a : Attempt) (f g : ℕ → List Attempt) : Type 0 where
  pub here : g a.ver.client ≡ a ∷ f a.ver.client
  pub others : (c : ℕ) → c ≢ a.ver.client → g c ≡ f c
