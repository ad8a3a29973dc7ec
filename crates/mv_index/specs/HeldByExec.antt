-- What is held of a key, execution by execution, read from the list of envelopes.
use Rattle.std.specs.Prelude.{ℕ, Bool, true, false, cond, not, ◌&&◌, nat_le, List, [], Option, Some, None, option_map, find, map, filter}
use Rattle.std.specs.List.{list_any}
use Rattle.protocol.specs.Words.{Version, Exec, Key, before, same_version, same_exec, same_key, Content, Write, BaseEntry}
use Rattle.protocol.specs.declared.Held.{Held}
use Rattle.protocol.specs.Replica.Taken.{Handled, dropped}
use Rattle.protocol.specs.Replica.Acceptor.{commits}
use Rattle.protocol.specs.Replica.Held.{Put, last_write, kept_put, abandons}

-- the committed content of x
abbrev pub committed_content : Handled → Exec → Option Content
committed_content h x = option_map (λ c. c.content) (find (λ c. same_exec x c.exec) (commits h))

-- a content of version v is committed
abbrev pub has_commit : Handled → Version → Bool
has_commit h v = list_any (λ c. same_version v c.exec.ver) (commits h)

-- an execution of version v whose number is n or more was decided Abandon
abbrev pub is_blocked : Handled → Version → ℕ → Bool
is_blocked h v n = list_any (λ x. same_version v x.ver && nat_le n x.eid) (abandons h)

-- the last write of k in a content of x
abbrev pub last_of_content : Key → Exec → Option Content → Option Held
last_of_content k x None = None
last_of_content k x (Some c) = last_write x true 1 k c.writes

-- the last write of k in a Puts of x that counts
abbrev pub last_of_put : Key → Exec → (ℕ → Bool) → Option Put → Option Held
last_of_put k x blocked None = None
last_of_put k x blocked (Some p) = cond (same_exec x p.exec && not (blocked p.exec.eid)) (last_write p.exec false 1 k p.writes) None

-- what x holds of k by its committed content
unfoldable pub sure_by : Handled → Key → Exec → Option Held
sure_by h k x = cond (before (dropped h) x.ver) (last_of_content k x (committed_content h x)) None

-- what x holds of k by its Puts
unfoldable pub open_by : Handled → Key → Exec → Option Held
open_by h k x = cond (before (dropped h) x.ver && not (has_commit h x.ver)) (last_of_put k x (is_blocked h x.ver) (kept_put h x.ver)) None

-- the entries of k
abbrev pub entries_of : Key → List BaseEntry → List Held
entries_of k bs = map (λ b. record { wid = b.wid; value = b.value; sure = true }) (filter (λ b. same_key k b.key) bs)

-- the writes that are kept
abbrev pub kept_writes : Option Put → List Write
kept_writes None = []
kept_writes (Some p) = p.writes
