-- The executions that wait for a warden, and what is kept to tell the least of them.
use Rattle.std.specs.Prelude.{◌≡◌, ℕ, suc, Bool, true, false, not, ◌&&◌, ◌==◌, List, length, Option, Some, None}
use Rattle.std.specs.List.{list_any, slice_get}
use Rattle.std.specs.declared.cmp.Ordering.{Ordering}
use Rattle.std.specs.Ordering.{nat_cmp, ordering_then}
use Rattle.std.specs.BTreeSet.{contains}
use Rattle.protocol.specs.Words.{NodeId, Client, Exec, same_node, same_exec, exec_before, Envelope}
use Rattle.protocol.specs.World.State.{in_range}
use Rattle.menus.specs.Shown.{begun_by, decides_on, is_waiting}
use Rattle.menus.specs.declared.waiting.Undecided.{Undecided}
use Rattle.menus.specs.declared.waiting.Waiting.{Waiting}

-- executions by version, and then by number, as the order of a set's keys is derived
abbrev pub exec_cmp : Exec → Exec → Ordering
exec_cmp a b = ordering_then (ordering_then (nat_cmp a.ver.ts b.ver.ts) (nat_cmp a.ver.client b.ver.client)) (nat_cmp a.eid b.eid)

-- there is an execution, and it is x
abbrev pub is_one : Exec → Option Exec → Bool
is_one x None = false
is_one x (Some y) = same_exec x y

-- some of these envelopes begins x
abbrev pub is_begun : List Envelope → Exec → Bool
is_begun mail x = list_any (λ m. is_one x (begun_by m.body)) mail

-- some of these envelopes decides x
abbrev pub is_decided : List Envelope → Exec → Bool
is_decided mail x = list_any (λ m. decides_on x m.body) mail

-- some of these envelopes begins x, and x waits
abbrev pub waits : List Envelope → List NodeId → Exec → Bool
waits mail stopped x = is_begun mail x && is_waiting mail stopped x

-- the least of the executions that pass a test, if there is one
abbrev pub IsLeast : (Exec → Bool) → Option Exec → Type 0
IsLeast test None = (x : Exec) → test x ≡ false
IsLeast test (Some x) = (test x ≡ true) × ((y : Exec) → test y ≡ true → exec_before y x ≡ false)

-- of one client: x is begun and undecided, and the client is stopped
abbrev pub waits_in : Undecided → Exec → Bool
waits_in u x = u.is_stopped && contains exec_cmp u.execs x

-- the same, of some of these clients
abbrev pub waits_among : List Undecided → Exec → Bool
waits_among us x = list_any (λ u. waits_in u x) us

-- what is kept of client c, where this was sent and these nodes are stopped
pub record IsUndecided (c : ℕ) (mail : List Envelope) (stopped : List NodeId) (u : Undecided) : Type 0 where
  pub execs : (x : Exec) → contains exec_cmp u.execs x ≡ (x.ver.client == c && (is_begun mail x && not (is_decided mail x)))
  pub client_stopped : u.is_stopped ≡ list_any (same_node (Client c)) stopped

-- what is kept, where there are so many clients, this was sent and these nodes are stopped
pub record AreWaiting (clients : ℕ) (mail : List Envelope) (stopped : List NodeId) (s : Waiting) : Type 0 where
  pub count : length s.clients.items ≡ clients
  pub decided : (x : Exec) → contains exec_cmp s.decided x ≡ is_decided mail x
  pub each : (i : ℕ) (u : Undecided) → slice_get s.clients.items i ≡ Some u → IsUndecided (suc i) mail stopped u
  -- the stopped clients are some of those that there are
  pub real : (c : ℕ) → list_any (same_node (Client c)) stopped ≡ true → in_range c clients ≡ true
