-- What a decision of Abandon does to what executions hold.
use Rattle.std.proofs.Common.{◌≡◌, ◌≢◌, ◌⊎◌, inl, inr, ℕ, Bool, true, false, cond, ◌∷◌, ◌++◌, refl, ap, sym, subst, ◌∙◌, Option, Some, None, ◌&&◌, ◌||◌, nat_le}
use Rattle.std.specs.Prelude.{not}
use Rattle.std.specs.List.{list_any}
use Rattle.morty_base.proofs.Orders.{same_exec_tells, same_version_tells}
use Rattle.protocol.specs.Words.{Version, Exec, Key, NodeId, before, same_version, same_exec, Abandon, Content, Decide}
use Rattle.protocol.specs.declared.Held.{Held}
use Rattle.protocol.specs.Lists.{one_when}
use Rattle.protocol.specs.Replica.Taken.{Handled, dropped}
use Rattle.protocol.specs.Replica.Acceptor.{decided}
use Rattle.protocol.specs.Replica.Held.{Put, last_write, kept_put, abandons}
use Rattle.mv_index.proofs.Growth.{later_none}
use Rattle.protocol.specs.Replica.Votes.{writes_key}
use Rattle.mv_index.specs.HeldByExec.{committed_content, has_commit, is_blocked, last_of_content, last_of_put, sure_by, open_by}
use Rattle.mv_index.proofs.PutsTurn.{open_none, open_other, cleared}
use Rattle.mv_index.proofs.CommitTurn.{none_of}

abbrev pub after_abandon : Handled → NodeId → NodeId → Exec → Option Content → Handled
after_abandon h from to y o = record { from = from; to = to; body = Decide y Abandon o } ∷ h

abandons_more : (h : Handled) (from to : NodeId) (y : Exec) (c : Option Content) → decided h y ≡ None → abandons (after_abandon h from to y c) ≡ y ∷ abandons h
abandons_more h from to y c e = ap (λ t. one_when t y ++ abandons h) (none_of (decided h y) e)

pub blocked_more : (h : Handled) (from to : NodeId) (y : Exec) (c : Option Content) → decided h y ≡ None → (v : Version) (n : ℕ) →
    is_blocked (after_abandon h from to y c) v n ≡ ((same_version v y.ver && nat_le n y.eid) || is_blocked h v n)
blocked_more h from to y c e v n = ap (λ l. list_any (λ (x : Exec). same_version v x.ver && nat_le n x.eid) l) (abandons_more h from to y c e)

pub blocked_stands : (h : Handled) (from to : NodeId) (y : Exec) (c : Option Content) (v : Version) (n : ℕ) (old new : Bool) → decided h y ≡ None →
    before (dropped h) y.ver ≡ true → old ≡ (before (dropped h) v && is_blocked h v n) → new ≡ ((same_version v y.ver && nat_le n y.eid) || old) →
    new ≡ (before (dropped (after_abandon h from to y c)) v && is_blocked (after_abandon h from to y c) v n)
blocked_stands h from to y c v n old new e b oe ne =
    ne ∙ (ap (λ t. (same_version v y.ver && nat_le n y.eid) || t) oe
    ∙ (go (same_version v y.ver) (same_version_tells v y.ver) (nat_le n y.eid) (is_blocked h v n)
    ∙ (ap (λ t. before (dropped h) v && t) (sym (blocked_more h from to y c e v n))
    ∙ ap (λ d. before d v && is_blocked (after_abandon h from to y c) v n) (sym (later_none (dropped h))))))
  where
    go : (s : Bool) → ((s ≡ true) × (v ≡ y.ver)) ⊎ ((s ≡ false) × (v ≢ y.ver)) → (t u : Bool) →
        ((s && t) || (before (dropped h) v && u)) ≡ (before (dropped h) v && ((s && t) || u))
    go true (inl q) true u = sym (ap (λ a. a && true) (ap (before (dropped h)) q.1 ∙ b))
    go true (inl q) false u = refl
    go true (inr q) t u = absurd (cc (q.0))
    go false q t u = refl

same_eid : (x p : Exec) → same_exec x p ≡ true → x.eid ≡ p.eid
same_eid x p e = elim (same_exec_tells x p) [ inl q ↦ ap (λ (z : Exec). z.eid) q.1 | inr q ↦ absurd (cc (q.0, e)) ]

pub open_abandoned : (h : Handled) (from to : NodeId) (y : Exec) (c : Option Content) (k : Key) (x : Exec) (old new : Option Held) → decided h y ≡ None →
    old ≡ open_by h k x → new ≡ cond (same_version x.ver y.ver && nat_le x.eid y.eid) None old → new ≡ open_by (after_abandon h from to y c) k x
unfolding open_by
open_abandoned h from to y c k x old new e oe ne =
    ne ∙ (ap (λ o. cond (same_version x.ver y.ver && nat_le x.eid y.eid) None o) oe
    ∙ (go (kept_put h x.ver)
    ∙ ap (λ d. cond (before d x.ver && not (has_commit h x.ver))
    (last_of_put k x (is_blocked (after_abandon h from to y c) x.ver) (kept_put h x.ver)) None) (sym (later_none (dropped h)))))
  where
    tests : (a s t u : Bool) (o : Option Held) → cond a None (cond t (cond (s && not u) o None) None) ≡ cond t (cond (s && not (a || u)) o None) None
    tests true true true u o = refl
    tests true true false u o = refl
    tests true false true u o = refl
    tests true false false u o = refl
    tests false s t u o = refl

    outer : (a t : Bool) → let nothing : Option Held = None in cond a nothing (cond t nothing nothing) ≡ cond t nothing nothing
    outer true true = refl
    outer true false = refl
    outer false t = refl

    go : (o : Option Put) → cond (same_version x.ver y.ver && nat_le x.eid y.eid) None (cond (before (dropped h) x.ver && not (has_commit h x.ver))
        (last_of_put k x (is_blocked h x.ver) o) None) ≡ cond (before (dropped h) x.ver
        && not (has_commit h x.ver)) (last_of_put k x (is_blocked (after_abandon h from to y c) x.ver) o) None
    go None = outer (same_version x.ver y.ver && nat_le x.eid y.eid) (before (dropped h) x.ver && not (has_commit h x.ver))
    go (Some p) = by (same_exec x p.exec) refl
      where
        by : (s : Bool) → same_exec x p.exec ≡ s → cond (same_version x.ver y.ver && nat_le x.eid y.eid) None (cond
            (before (dropped h) x.ver && not (has_commit h x.ver)) (cond (s && not (is_blocked h x.ver p.exec.eid))
            (last_write p.exec false 1 k p.writes) None) None)
            ≡ cond (before (dropped h) x.ver && not (has_commit h x.ver)) (cond (s && not (is_blocked (after_abandon h from to y c) x.ver p.exec.eid))
            (last_write p.exec false 1 k p.writes) None) None
        by true f =
            tests (same_version x.ver y.ver && nat_le x.eid y.eid) true (before (dropped h) x.ver
            && not (has_commit h x.ver)) (is_blocked h x.ver p.exec.eid) (last_write p.exec false 1 k p.writes)
            ∙ (ap (λ n. cond (before (dropped h) x.ver && not (has_commit h x.ver))
            (cond (not ((same_version x.ver y.ver && nat_le n y.eid) || is_blocked h x.ver p.exec.eid))
            (last_write p.exec false 1 k p.writes) None) None) (same_eid x p.exec f)
            ∙ ap (λ t. cond (before (dropped h) x.ver && not (has_commit h x.ver)) (cond (not t) (last_write p.exec false 1 k p.writes) None) None) (sym
            (blocked_more h from to y c e x.ver p.exec.eid)))
        by false f = outer (same_version x.ver y.ver && nat_le x.eid y.eid) (before (dropped h) x.ver && not (has_commit h x.ver))

-- what is kept of another number holds nothing of x
other_eid : (h : Handled) (k : Key) (x : Exec) (v : Version) (p : Put) → x.ver ≡ v → cond (before (dropped h) v) (kept_put h v) None ≡ Some p →
    x.eid ≢ p.exec.eid → open_by h k x ≡ None
other_eid h k x v p q e n = open_other h k x v p q e (elim (same_exec_tells x p.exec) [
  | inl s ↦ absurd (n (ap (λ (z : Exec). z.eid) s.1))
  | inr s ↦
      ap (λ t. t && writes_key k p.writes) s.0
])

pub block_erased : (h : Handled) (k : Key) (x y : Exec) (p : Put) (old new : Option Held) → cond (before (dropped h) y.ver) (kept_put h y.ver) None ≡ Some p →
    nat_le p.exec.eid y.eid ≡ true → old ≡ open_by h k x → new ≡ cond (same_exec x p.exec && writes_key k p.writes) None old →
    new ≡ cond (same_version x.ver y.ver && nat_le x.eid y.eid) None old
block_erased h k x y p old new e l f g = cleared h k x y.ver p old new e f g
    ∙ go (same_version x.ver y.ver) (same_version_tells x.ver y.ver) (nat_le x.eid y.eid) refl
  where
    go : (s : Bool) → ((s ≡ true) × (x.ver ≡ y.ver)) ⊎ ((s ≡ false) × (x.ver ≢ y.ver)) → (t : Bool) → nat_le x.eid y.eid ≡ t →
        cond s None old ≡ cond (s && t) None old
    go true q true i = refl
    go true (inl q) false i = sym (f ∙ other_eid h k x y.ver p q.1 e (λ z. let w : nat_le p.exec.eid y.eid ≡ false = subst (λ n. nat_le n y.eid ≡ false) z i in
        cc))
    go true (inr q) false i = absurd (cc (q.0))
    go false q t i = refl

pub block_kept : (h : Handled) (k : Key) (x y : Exec) (p : Put) (old : Option Held) → cond (before (dropped h) y.ver) (kept_put h y.ver) None ≡ Some p →
    nat_le p.exec.eid y.eid ≡ false → old ≡ open_by h k x → old ≡ cond (same_version x.ver y.ver && nat_le x.eid y.eid) None old
block_kept h k x y p old e l f = go (same_version x.ver y.ver) (same_version_tells x.ver y.ver) (nat_le x.eid y.eid) refl
  where
    go : (s : Bool) → ((s ≡ true) × (x.ver ≡ y.ver)) ⊎ ((s ≡ false) × (x.ver ≢ y.ver)) → (t : Bool) → nat_le x.eid y.eid ≡ t → old ≡ cond (s && t) None old
    go true (inl q) true i = f ∙ other_eid h k x y.ver p q.1 e (λ z. let w : nat_le p.exec.eid y.eid ≡ true = subst (λ n. nat_le n y.eid ≡ true) z i in cc)
    go true (inr q) true i = absurd (cc (q.0))
    go true q false i = refl
    go false q t i = refl

pub block_none : (h : Handled) (k : Key) (x y : Exec) (old : Option Held) → cond (before (dropped h) y.ver) (kept_put h y.ver) None ≡ None →
    old ≡ open_by h k x → old ≡ cond (same_version x.ver y.ver && nat_le x.eid y.eid) None old
block_none h k x y old e f = go (same_version x.ver y.ver) (same_version_tells x.ver y.ver) (nat_le x.eid y.eid)
  where
    go : (s : Bool) → ((s ≡ true) × (x.ver ≡ y.ver)) ⊎ ((s ≡ false) × (x.ver ≢ y.ver)) → (t : Bool) → old ≡ cond (s && t) None old
    go true (inl q) true = f ∙ open_none h k x y.ver q.1 e
    go true (inr q) true = absurd (cc (q.0))
    go true q false = refl
    go false q t = refl

pub sure_abandon : (h : Handled) (from to : NodeId) (y : Exec) (c : Option Content) (k : Key) (x : Exec) →
    sure_by h k x ≡ sure_by (after_abandon h from to y c) k x
unfolding sure_by
sure_abandon h from to y c k x = ap (λ d. cond (before d x.ver) (last_of_content k x (committed_content h x)) None) (sym (later_none (dropped h)))
