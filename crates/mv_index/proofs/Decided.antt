-- What decisions leave the same.
use Rattle.std.proofs.Common.{◌≡◌, ◌≢◌, ◌⊎◌, inl, inr, Bool, true, false, cond, refl, ap, sym, subst, ◌∙◌, Option, Some, None, ◌&&◌, ◌||◌, nat_le}
use Rattle.std.specs.Prelude.{not}
use Rattle.morty_base.proofs.Orders.{same_exec_tells, same_version_tells}
use Rattle.protocol.specs.Words.{Exec, Key, NodeId, before, same_version, same_exec, Content}
use Rattle.protocol.specs.Replica.Taken.{Handled, dropped}
use Rattle.protocol.specs.Replica.Acceptor.{decided}
use Rattle.protocol.specs.Replica.Held.{Put, kept_put, last_write}
use Rattle.mv_index.proofs.Growth.{later_none}
use Rattle.protocol.specs.Replica.Votes.{writes_key}
use Rattle.mv_index.specs.HeldByExec.{committed_content, has_commit, is_blocked, last_of_content, last_of_put, sure_by, open_by, kept_writes}
use Rattle.mv_index.proofs.PutsTurn.{last_write_none, cond_none}
use Rattle.mv_index.proofs.CommitTurn.{after_commit, content_more, has_commit_more, uncommitted}
use Rattle.mv_index.proofs.AbandonTurn.{after_abandon, blocked_more, sure_abandon}
use Rattle.mv_index.proofs.Same.{SameAt, none_of_put}

-- what is held of a key that neither the content nor the kept Puts of its version writes stays the same
pub commit_same : (h : Handled) (from to : NodeId) (y : Exec) (c : Content) (k : Key) → decided h y ≡ None → writes_key k c.writes ≡ false →
    writes_key k (kept_writes (kept_put h y.ver)) ≡ false → SameAt k h (after_commit h from to y c)
unfolding sure_by open_by
commit_same h from to y c k u e f = record {
  based = refl;
  sure = λ x. ap (λ d. cond (before d x.ver) (last_of_content k x (committed_content (after_commit h from to y c) x)) None) (later_none (dropped h))
      ∙ (ap (λ o. cond (before (dropped h) x.ver) (last_of_content k x o) None) (content_more h from to y c u x)
      ∙ ap (λ o. cond (before (dropped h) x.ver) o None) (written x (same_exec x y) (same_exec_tells x y)));
  tried = λ x. ap (λ d. cond (before d x.ver && not (has_commit (after_commit h from to y c) x.ver))
      (last_of_put k x (is_blocked h x.ver) (kept_put h x.ver)) None) (later_none (dropped h))
      ∙ (ap (λ t. cond (before (dropped h) x.ver && not t) (last_of_put k x (is_blocked h x.ver) (kept_put h x.ver)) None)
      (has_commit_more h from to y c u x.ver)
      ∙ open_at x (same_version x.ver y.ver) (same_version_tells x.ver y.ver));
}
  where
    written : (x : Exec) (t : Bool) → ((t ≡ true) × (x ≡ y)) ⊎ ((t ≡ false) × (x ≢ y)) → last_of_content k x (cond t (Some c) (committed_content h x))
        ≡ last_of_content k x (committed_content h x)
    written x true (inl q) = last_write_none x true 1 k c.writes e ∙ sym (ap (last_of_content k x) (ap (committed_content h) q.1 ∙ uncommitted h y u))
    written x true (inr q) = absurd (cc (q.0))
    written x false q = refl

    open_at : (x : Exec) (t : Bool) → ((t ≡ true) × (x.ver ≡ y.ver)) ⊎ ((t ≡ false) × (x.ver ≢ y.ver)) →
        cond (before (dropped h) x.ver && not (t || has_commit h x.ver)) (last_of_put k x (is_blocked h x.ver) (kept_put h x.ver)) None
        ≡ cond (before (dropped h) x.ver && not (has_commit h x.ver)) (last_of_put k x (is_blocked h x.ver) (kept_put h x.ver)) None
    open_at x true (inl q) =
        let none : last_of_put k x (is_blocked h x.ver) (kept_put h x.ver) ≡ None =
        none_of_put k x (is_blocked h x.ver) (kept_put h x.ver) (subst (λ v. writes_key k (kept_writes (kept_put h v)) ≡ false) (sym q.1) f) in
        ap (λ o. cond (before (dropped h) x.ver && false) o None) none ∙ (cond_none (before (dropped h) x.ver && false)
        ∙ (sym (cond_none (before (dropped h) x.ver && not (has_commit h x.ver)))
        ∙ ap (λ o. cond (before (dropped h) x.ver && not (has_commit h x.ver)) o None) (sym none)))
    open_at x true (inr q) = absurd (cc (q.0))
    open_at x false q = refl

-- what is held of a key that the kept Puts of the version does not write stays the same
pub abandon_same : (h : Handled) (from to : NodeId) (y : Exec) (c : Option Content) (k : Key) → decided h y ≡ None →
    writes_key k (kept_writes (kept_put h y.ver)) ≡ false → SameAt k h (after_abandon h from to y c)
unfolding open_by
abandon_same h from to y c k u f = record {
  based = refl;
  sure = λ x. sym (sure_abandon h from to y c k x);
  tried = λ x. ap (λ d. cond (before d x.ver && not (has_commit h x.ver))
      (last_of_put k x (is_blocked (after_abandon h from to y c) x.ver) (kept_put h x.ver)) None) (later_none (dropped h))
      ∙ ap (λ o. cond (before (dropped h) x.ver && not (has_commit h x.ver)) o None) (open_at x (same_version x.ver y.ver) (same_version_tells x.ver y.ver));
}
  where
    others : (x : Exec) (o : Option Put) → same_version x.ver y.ver ≡ false → last_of_put k x (is_blocked (after_abandon h from to y c) x.ver) o
        ≡ last_of_put k x (is_blocked h x.ver) o
    others x None e = refl
    others x (Some p) e = ap (λ t. cond (same_exec x p.exec && not t)
        (last_write p.exec false 1 k p.writes) None) (blocked_more h from to y c u x.ver p.exec.eid
        ∙ ap (λ t. (t && nat_le p.exec.eid y.eid) || is_blocked h x.ver p.exec.eid) e)

    open_at : (x : Exec) (t : Bool) → ((t ≡ true) × (x.ver ≡ y.ver)) ⊎ ((t ≡ false) × (x.ver ≢ y.ver)) →
        last_of_put k x (is_blocked (after_abandon h from to y c) x.ver) (kept_put h x.ver) ≡ last_of_put k x (is_blocked h x.ver) (kept_put h x.ver)
    open_at x t (inl q) =
        let g : writes_key k (kept_writes (kept_put h x.ver)) ≡ false = subst (λ v. writes_key k (kept_writes (kept_put h v)) ≡ false) (sym q.1) f in
        none_of_put k x (is_blocked (after_abandon h from to y c) x.ver) (kept_put h x.ver) g ∙ sym (none_of_put k x (is_blocked h x.ver) (kept_put h x.ver) g)
    open_at x t (inr q) = others x (kept_put h x.ver) (go (same_version x.ver y.ver) (same_version_tells x.ver y.ver))
      where
        go : (s : Bool) → ((s ≡ true) × (x.ver ≡ y.ver)) ⊎ ((s ≡ false) × (x.ver ≢ y.ver)) → s ≡ false
        go s (inl z) = absurd (q.1 z.1)
        go s (inr z) = z.0
