-- What it means that committed executions are the serial run of their programs, and that a base is its map.
use Rattle.std.specs.Prelude.{filter, not, ◌≡◌, ℕ, ◌-◌, Bool, List, [], ◌∷◌, map, Option, Some, None}
use Rattle.std.specs.List.{list_any, slice_get}
use Rattle.protocol.specs.Words.{Version, Key, before, same_key, BaseEntry, Read, Write}
use Rattle.protocol.specs.Lists.{IsIn}
use Rattle.protocol.specs.Replica.Votes.{writes_key}
use Rattle.protocol.specs.World.State.{World}
use Rattle.protocol.specs.World.Decided.{IsRising}
use Rattle.txn_lang.specs.Keys.{Entry, entry, held, after_writes}
use Rattle.txn_lang.specs.Runs.{Run, kept}
use Rattle.txn_lang.specs.Program.{Program, serial, last_map}
use Rattle.protocol.specs.declared.First2.{First2}
use Rattle.protocol.specs.World.Committed.{CommittedExec, committed_executions, base_at}
use Rattle.protocol_plans.specs.Scripted.{Start, Scripted, plan_of}

-- first values as a map
abbrev pub first_map : List First2 → List Entry
first_map fs = map (λ f. entry f.key f.value) fs

abbrev pub nth_start : ℕ → Option (List Start) → Option Start
nth_start n None = None
nth_start n (Some ts) = slice_get ts (n - 1)

-- the n-th transaction of client c
abbrev pub start_at : Scripted → ℕ → ℕ → Option Start
start_at s c n = nth_start n (slice_get s.clients (c - 1))

abbrev pub add_program : Option Start → List Program → List Program
add_program None ps = ps
add_program (Some t) ps = t.program ∷ ps

-- the programs of the executions, in order
abbrev pub programs_of : Scripted → List CommittedExec → List Program
programs_of s [] = []
programs_of s (c ∷ cs) = add_program (start_at s c.exec.ver.client c.txn) (programs_of s cs)

abbrev pub entry_read : Read → Entry
entry_read r = entry r.key r.value

abbrev pub entry_written : Write → Entry
entry_written w = entry w.key w.value

-- the execution read, printed and wrote what the run did, and ended so
pub record IsRunOf (c : CommittedExec) (r : Run) : Type 0 where
  pub reads : map entry_read c.content.reads ≡ r.reads
  pub out : c.content.out ≡ r.out
  pub writes : map entry_written c.content.writes ≡ kept r
  pub ending : Some c.content.ending ≡ r.ending

-- the executions are these runs, one by one
abbrev pub AreRuns : List CommittedExec → List Run → Type 0
AreRuns [] [] = Unit {0}
AreRuns (c ∷ cs) (r ∷ rs) = IsRunOf c r × AreRuns cs rs
AreRuns _ _ = ⊥

-- the map that the writes of the executions leave, one after another
abbrev pub map_of : List Entry → List CommittedExec → List Entry
map_of m [] = m
map_of m (c ∷ cs) = map_of (after_writes (map entry_written c.content.writes) m) cs

-- the executions are the serial run of their programs, and their writes leave its map
pub record IsSerial (s : Scripted) (cs : List CommittedExec) : Type 0 where
  pub runs : AreRuns cs (serial (first_map s.firsts) (programs_of s cs))
  pub left : map_of (first_map s.firsts) cs ≡ last_map (first_map s.firsts) (programs_of s cs)

-- the executions at or below a version
abbrev pub upto_version : Version → List CommittedExec → List CommittedExec
upto_version v cs = filter (λ c. not (before v c.exec.ver)) cs

-- some entry is of the key
abbrev pub has_entry : Key → List BaseEntry → Bool
has_entry k bs = list_any (λ e. same_key k e.key) bs

-- one of the executions kept a write of the key
abbrev pub has_kept_write : Key → List CommittedExec → Bool
has_kept_write k cs = list_any (λ c. writes_key k c.content.writes) cs

-- the base, rising by key, is the map that the serial run of these executions leaves, on the keys of which they kept a write
pub record IsSerialBase (s : Scripted) (cs : List CommittedExec) (bs : List BaseEntry) : Type 0 where
  pub rising : IsRising bs
  pub keys : (k : Key) → has_entry k bs ≡ has_kept_write k cs
  pub values : (e : BaseEntry) → IsIn e bs → e.value ≡ held (last_map (first_map s.firsts) (programs_of s cs)) e.key

-- the base is that of the world at a version, and the map there of the serial run of what is committed at or below it
pub record IsBaseAt (s : Scripted) (w : World) (v : Version) (bs : List BaseEntry) : Type 0 where
  pub base : bs ≡ base_at (plan_of s) w v
  pub serial : IsSerialBase s (upto_version v (committed_executions (plan_of s) w)) bs
