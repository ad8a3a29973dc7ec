-- A read index as a function of key and execution.
use Rattle.std.specs.Prelude.{◌≡◌, Bool, true, false, cond, List, [], ◌∷◌, Option, Some, None}
use Rattle.std.specs.List.{list_any}
use Rattle.std.specs.BTreeMap.{get}
use Rattle.protocol.specs.Words.{Version, Exec, Key, Read, before, same_key}
use Rattle.mv_index.specs.WriteIndex.{place_cmp}
use Rattle.mv_index.specs.declared.read_index.ReadIndex.{ReadIndex}

-- the lesser of two versions
abbrev pub lesser : Option Version → Version → Version
lesser None u = u
lesser (Some v) u = cond (before u v) u v

-- the least version from which k was read, once a read is counted
abbrev pub with_read : Key → Option Version → Read → Option Version
with_read k least r = cond (same_key k r.key) (Some (lesser least r.wid.ver)) least

-- the same, once several are
abbrev pub with_reads : Key → Option Version → List Read → Option Version
with_reads k least [] = least
with_reads k least (r ∷ rs) = with_reads k (with_read k least r) rs

-- some read is of the key
abbrev pub reads_key : Key → List Read → Bool
reads_key k rs = list_any (λ r. same_key k r.key) rs

-- the least version from which x read k
abbrev pub read_at : ReadIndex → Key → Exec → Option Version
read_at r k x = get place_cmp r.reads (record { key = k; exec = x })

-- whether an execution above version v has a value of f below v
abbrev pub IsReadPast : Version → (Exec → Option Version) → Bool → Type 0
IsReadPast v f true = (x : Exec) × (u : Version) × (f x ≡ Some u) × (before v x.ver ≡ true) × (before u v ≡ true)
IsReadPast v f false = (x : Exec) (u : Version) → f x ≡ Some u → before v x.ver ≡ true → before u v ≡ false
