-- The writes that a replica holds of a key, and the latest of them below a version.
use Rattle.std.specs.Prelude.{ℤ, ℕ, pos, suc, Bool, true, false, cond, not, ◌&&◌, ◌||◌, ◌==◌, nat_lt, nat_le, List, [], ◌∷◌, ◌++◌, map, filter, length, Option, Some, None, is_none, filter_map}
use Rattle.std.specs.List.{list_any}
use Rattle.protocol.specs.Words.{Version, Exec, Key, Abandon, Write, Body, Puts, Decide, before, same_version, same_key, wid_before, first_wid}
use Rattle.std.specs.Option.{option_or}
use Rattle.std.specs.Bool.{then_some}
use Rattle.protocol.specs.Lists.{one_when}
use Rattle.protocol.specs.Replica.Taken.{Handled, dropped, base}
use Rattle.protocol.specs.Replica.Acceptor.{decided, commits}
use Rattle.protocol.specs.declared.Held.{Held}
use Rattle.protocol.specs.declared.First2.{First2}

-- a first value is sure
abbrev pub first_value : ℤ → Held
first_value value = record { wid = first_wid; value = value; sure = true }

-- the first value of a key, or 0
abbrev pub first_held : List First2 → Key → Held
first_held [] k = first_value (pos 0)
first_held (f ∷ fs) k = cond (same_key k f.key) (first_value f.value) (first_held fs k)

-- the last write of k among those of x, where i is the place of the first of them
abbrev pub last_write : Exec → Bool → ℕ → Key → List Write → Option Held
last_write x sure i k [] = None
last_write x sure i k (w ∷ ws) =
    option_or (last_write x sure (suc i) k ws)
    (then_some (same_key k w.key) (record { wid = record { ver = x.ver; eid = x.eid; seq = i }; value = w.value; sure = sure }))

-- a Puts that came
pub record Put : Type 0 where
  pub exec : Exec
  pub writes : List Write

-- a later execution, or a longer list of the same one, replaces what is kept
abbrev pub larger : Option Put → Put → Option Put
larger None p = Some p
larger (Some q) p = Some (cond (nat_lt q.exec.eid p.exec.eid || (q.exec.eid == p.exec.eid && nat_lt (length q.writes) (length p.writes))) p q)

-- what is kept of version v after a body came
abbrev pub put_after : Version → Option Put → Body → Option Put
put_after version o (Puts x ws) = cond (same_version version x.ver) (larger o (record { exec = x; writes = ws })) o
put_after version o _ = o

-- the Puts of version v with the greatest eid and then length, the earliest of equals
abbrev pub kept_put : Handled → Version → Option Put
kept_put [] version = None
kept_put (m ∷ h) version = put_after version (kept_put h version) m.body

-- a version whose first Puts this is goes to the end
abbrev pub put_version : List Version → Body → List Version
put_version vs (Puts x writes) = cond (list_any (same_version x.ver) vs) vs (vs ++ x.ver ∷ [])
put_version vs _ = vs

-- the versions of which a Puts came, each once
abbrev pub put_versions : Handled → List Version
put_versions [] = []
put_versions (m ∷ h) = put_version (put_versions h) m.body

-- the first Decide of an execution, if it is Abandon, abandons it
abbrev pub new_abandon : Handled → Body → List Exec
new_abandon h (Decide x Abandon content) = one_when (is_none (decided h x)) x
new_abandon h _ = []

-- the executions that were decided Abandon, the newest first
abbrev pub abandons : Handled → List Exec
abandons [] = []
abandons (m ∷ h) = new_abandon h m.body ++ abandons h

-- a kept Puts counts where its execution is later than each of its version that was decided Abandon
abbrev pub counting_put : Handled → Version → Option Put → Option Put
counting_put h version None = None
counting_put h version (Some p) = then_some (not (list_any (λ x. same_version version x.ver && nat_le p.exec.eid x.eid) (abandons h))) p

-- what a counting Puts holds of the key, not sure
abbrev pub last_put : Key → Option Put → Option Held
last_put k None = None
last_put k (Some p) = last_write p.exec false 1 k p.writes

-- what is held of k: its first value, its base entry, the last write in each committed content, and for each
-- version with nothing committed the last write in its Puts
unfoldable pub held : List First2 → Handled → Key → List Held
held firsts h k =
    let kept = filter (λ c. before (dropped h) c.exec.ver) (commits h) in
    let open_versions = filter (λ v. before (dropped h) v && not (list_any (λ c. same_version v c.exec.ver) kept)) (put_versions h) in
    (first_held firsts k ∷ [])
    ++ (map (λ b. record { wid = b.wid; value = b.value; sure = true }) (filter (λ b. same_key k b.key) (base h))
    ++ (filter_map (λ c. last_write c.exec true 1 k c.content.writes) kept
    ++ filter_map (λ v. last_put k (counting_put h v (kept_put h v))) open_versions))

-- the entry below v of the greatest write name, the first of equals
abbrev pub best_below : Version → Held → List Held → Held
best_below version b [] = b
best_below version b (a ∷ more) = best_below version (cond (before a.wid.ver version && wid_before b.wid a.wid) a b) more

-- what a reader at version v sees of k
unfoldable pub latest : List First2 → Handled → Key → Version → Held
latest firsts h k version = best_below version (first_held firsts k) (held firsts h k)
