-- An envelope of a version changes nothing of what is seen at or below it.
use Rattle.std.proofs.Common.{◌≡◌, inl, inr, true, false, cond, refl, ap, sym, subst, ◌∙◌, Option, Some, None, ◌&&◌, ◌||◌}
use Rattle.std.specs.Prelude.{not, nat_le, List}
use Rattle.morty_base.proofs.Orders.{same_version_tells, same_exec_tells}
use Rattle.protocol.specs.Words.{Version, Exec, Key, NodeId, before, same_version, same_exec, Content, Write}
use Rattle.protocol.specs.Replica.Taken.{Handled, dropped}
use Rattle.protocol.specs.Replica.Acceptor.{decided}
use Rattle.protocol.specs.Replica.Held.{Put, kept_put, larger, last_write}
use Rattle.mv_index.specs.HeldByExec.{committed_content, has_commit, is_blocked, last_of_content, last_of_put, sure_by, open_by}
use Rattle.mv_index.proofs.Growth.{later_none}
use Rattle.mv_index.proofs.PutsTurn.{after_puts, sure_puts}
use Rattle.mv_index.proofs.CommitTurn.{after_commit, content_more, has_commit_more}
use Rattle.mv_index.proofs.AbandonTurn.{after_abandon, blocked_more, sure_abandon}
use Rattle.mv_index.proofs.Same.{SameBelow}

-- what is below v is of another version than one that is not
other_version : (v : Version) (x y : Exec) → before y.ver v ≡ false → before x.ver v ≡ true → same_version x.ver y.ver ≡ false
other_version v x y e f = elim (same_version_tells x.ver y.ver) [
  | inl q ↦ let z : before y.ver v ≡ true = subst (λ u. before u v ≡ true) q.1 f in absurd (cc (z, e))
  | inr q ↦ q.0
]

other_exec : (x y : Exec) → same_version x.ver y.ver ≡ false → same_exec x y ≡ false
other_exec x y e = elim (same_exec_tells x y) [
  | inl q ↦ let z : same_version y.ver y.ver ≡ false = subst (λ (z : Exec). same_version z.ver y.ver ≡ false) q.1 e in absurd (itself y.ver z)
  | inr q ↦ q.0
]
  where
    itself : (v : Version) → same_version v v ≡ false → ⊥
    itself v e = elim (same_version_tells v v) [ inl q ↦ cc (q.0, e) | inr q ↦ q.1 refl ]

pub puts_below : (h : Handled) (from to : NodeId) (y : Exec) (ws : List Write) (k : Key) (v : Version) → before y.ver v ≡ false →
    SameBelow v k h (after_puts h from to y ws)
unfolding open_by
puts_below h from to y ws k v e = record {
  based = refl;
  sure = λ x b. sym (sure_puts h from to y ws k x);
  tried = λ x b.
      let p : Put = record { exec = y; writes = ws } in
      ap (λ d. cond (before d x.ver && not (has_commit h x.ver))
      (last_of_put k x (is_blocked h x.ver) (cond (same_version x.ver y.ver) (larger (kept_put h x.ver) p) (kept_put h x.ver))) None) (later_none (dropped h))
      ∙ ap (λ t. cond (before (dropped h) x.ver && not (has_commit h x.ver))
      (last_of_put k x (is_blocked h x.ver) (cond t (larger (kept_put h x.ver) p) (kept_put h x.ver))) None) (other_version v x y e b);
}

pub commit_below : (h : Handled) (from to : NodeId) (y : Exec) (c : Content) → decided h y ≡ None → (k : Key) (v : Version) → before y.ver v ≡ false →
    SameBelow v k h (after_commit h from to y c)
unfolding sure_by open_by
commit_below h from to y c u k v e = record {
  based = refl;
  sure = λ x b. ap (λ d. cond (before d x.ver) (last_of_content k x (committed_content (after_commit h from to y c) x)) None) (later_none (dropped h))
      ∙ (ap (λ o. cond (before (dropped h) x.ver) (last_of_content k x o) None) (content_more h from to y c u x)
      ∙ ap (λ t. cond (before (dropped h) x.ver) (last_of_content k x (cond t (Some c) (committed_content h x))) None)
      (other_exec x y (other_version v x y e b)));
  tried = λ x b. ap (λ d. cond (before d x.ver && not (has_commit (after_commit h from to y c) x.ver))
      (last_of_put k x (is_blocked h x.ver) (kept_put h x.ver)) None) (later_none (dropped h))
      ∙ (ap (λ t. cond (before (dropped h) x.ver && not t) (last_of_put k x (is_blocked h x.ver) (kept_put h x.ver)) None)
      (has_commit_more h from to y c u x.ver)
      ∙ ap (λ t. cond (before (dropped h) x.ver && not (t || has_commit h x.ver)) (last_of_put k x (is_blocked h x.ver) (kept_put h x.ver)) None)
      (other_version v x y e b));
}

pub abandon_below : (h : Handled) (from to : NodeId) (y : Exec) (c : Option Content) → decided h y ≡ None → (k : Key) (v : Version) → before y.ver v ≡ false →
    SameBelow v k h (after_abandon h from to y c)
unfolding open_by
abandon_below h from to y c u k v e = record {
  based = refl;
  sure = λ x b. sym (sure_abandon h from to y c k x);
  tried = λ x b. ap (λ d. cond (before d x.ver && not (has_commit h x.ver))
      (last_of_put k x (is_blocked (after_abandon h from to y c) x.ver) (kept_put h x.ver)) None) (later_none (dropped h))
      ∙ ap (λ o. cond (before (dropped h) x.ver && not (has_commit h x.ver)) o None) (others x (kept_put h x.ver) (other_version v x y e b));
}
  where
    others : (x : Exec) (o : Option Put) → same_version x.ver y.ver ≡ false → last_of_put k x (is_blocked (after_abandon h from to y c) x.ver) o
        ≡ last_of_put k x (is_blocked h x.ver) o
    others x None e = refl
    others x (Some p) e = ap (λ t. cond (same_exec x p.exec && not t)
        (last_write p.exec false 1 k p.writes) None) (blocked_more h from to y c u x.ver p.exec.eid
        ∙ ap (λ t. (t && nat_le p.exec.eid y.eid) || is_blocked h x.ver p.exec.eid) e)
