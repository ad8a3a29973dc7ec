-- What a reader sees, from the first value, the base, and the last committed and the last open write.
use Rattle.std.proofs.Common.{◌≡◌, Bool, true, false, cond, List, ◌++◌, refl, ap, ◌∙◌, Option, ◌&&◌}
use Rattle.std.specs.Prelude.{filter, not}
use Rattle.std.specs.List.{list_any, filter_map}
use Rattle.protocol.specs.Words.{Version, Key, before, same_version, wid_before}
use Rattle.protocol.specs.declared.Held.{Held}
use Rattle.protocol.specs.declared.First2.{First2}
use Rattle.protocol.specs.Replica.Taken.{Handled, dropped, base}
use Rattle.protocol.specs.Replica.Acceptor.{commits}
use Rattle.protocol.specs.Replica.Held.{first_held, last_write, last_put, counting_put, kept_put, put_versions, best_below, held, latest}
use Rattle.mv_index.specs.WriteIndex.{IsLastBelow, best_with}
use Rattle.mv_index.specs.HeldByExec.{sure_by, open_by, entries_of}
use Rattle.mv_index.proofs.Best.{best_below_append, best_of_values}
use Rattle.mv_index.proofs.Values.{sure_values}
use Rattle.mv_index.proofs.OpenValues.{open_values}

itself : (v : Version) (b : Held) → cond (before b.wid.ver v && wid_before b.wid b.wid) b b ≡ b
itself v b = go (before b.wid.ver v && wid_before b.wid b.wid)
  where
    go : (t : Bool) → cond t b b ≡ b
    go true = refl
    go false = refl

pub latest_parts : (firsts : List First2) (h : Handled) (k : Key) (v : Version) (o p : Option Held) → IsLastBelow v (sure_by h k) o →
    IsLastBelow v (open_by h k) p → latest firsts h k v ≡ best_with v (best_with v (best_below v (first_held firsts k) (entries_of k (base h))) o) p
unfolding latest held
latest_parts firsts h k v o p s t =
    let first = first_held firsts k in
    let committed = filter_map (λ c. last_write c.exec true 1 k c.content.writes) (filter (λ c. before (dropped h) c.exec.ver) (commits h)) in
    let others = filter_map (λ v. last_put k (counting_put h v (kept_put h v))) (filter
    (λ v. before (dropped h) v && not (list_any (λ c. same_version v c.exec.ver)
    (filter (λ c. before (dropped h) c.exec.ver) (commits h)))) (put_versions h)) in
    ap (λ b. best_below v b (entries_of k (base h) ++ (committed ++ others))) (itself v first)
    ∙ (best_below_append v first (entries_of k (base h)) (committed ++ others)
    ∙ (best_below_append v (best_below v first (entries_of k (base h))) committed others
    ∙ (best_of_values v _ (open_by h k) others p (open_values h k) t
    ∙ ap (λ b. best_with v b p) (best_of_values v (best_below v first (entries_of k (base h))) (sure_by h k) committed o (sure_values h k) s))))
