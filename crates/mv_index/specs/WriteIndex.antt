-- A write index as a function of key and execution.
use Rattle.std.specs.Prelude.{◌≡◌, ℕ, Bool, true, false, cond, ◌&&◌, Option, Some, None}
use Rattle.std.specs.declared.cmp.Ordering.{Ordering}
use Rattle.std.specs.Ordering.{nat_cmp, int_cmp, ordering_then}
use Rattle.std.specs.BTreeMap.{get}
use Rattle.protocol.specs.Words.{Version, Exec, Key, Wid, before, exec_before, wid_before, same_key, same_wid, Write}
use Rattle.std.specs.Bool.{then_some}
use Rattle.protocol.specs.declared.Held.{Held}
use Rattle.mv_index.specs.declared.write_index.Place.{Place}
use Rattle.mv_index.specs.declared.write_index.WriteIndex.{WriteIndex}

-- places stand by key, and then by execution
abbrev pub place_cmp : Place → Place → Ordering
place_cmp a b =
    ordering_then (ordering_then (nat_cmp a.key.table b.key.table) (int_cmp a.key.index b.key.index))
    (ordering_then (ordering_then (nat_cmp a.exec.ver.ts b.exec.ver.ts) (nat_cmp a.exec.ver.client b.exec.ver.client)) (nat_cmp a.exec.eid b.exec.eid))

-- what is held of k by x
abbrev pub held_at : WriteIndex → Key → Exec → Option Held
held_at w k x = get place_cmp w.held (record { key = k; exec = x })

-- of the values that f has at executions below version v, the one of the last execution
abbrev pub IsLastBelow : Version → (Exec → Option Held) → Option Held → Type 0
IsLastBelow v f None = (x : Exec) → before x.ver v ≡ true → f x ≡ None
IsLastBelow v f (Some a) =
    (x : Exec) × (before x.ver v ≡ true) × (f x ≡ Some a)
    × ((y : Exec) (b : Held) → before y.ver v ≡ true → f y ≡ Some b → exec_before x y ≡ false)

-- of two writes the later one that stands below a version
abbrev pub better : Version → Held → Held → Held
better v b a = cond (before a.wid.ver v && wid_before b.wid a.wid) a b

-- the same, where there may be no other
abbrev pub best_with : Version → Held → Option Held → Held
best_with v b None = b
best_with v b (Some a) = better v b a

-- there is a write, and it has this name
abbrev pub is_named : Wid → Option Held → Bool
is_named w None = false
is_named w (Some a) = same_wid w a.wid

-- what the write at place i of an execution's list holds of k
abbrev pub write_at : Exec → Bool → ℕ → Key → Write → Option Held
write_at x sure i k w = then_some (same_key k w.key) (record { wid = record { ver = x.ver; eid = x.eid; seq = i }; value = w.value; sure = sure })
