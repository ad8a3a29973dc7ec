-- What one more Puts does to what executions hold.
use Rattle.std.proofs.Common.{◌≡◌, ◌≢◌, ◌⊎◌, inl, inr, ℕ, suc, Bool, true, false, cond, List, [], ◌∷◌, refl, ap, sym, subst, ◌∙◌, Option, Some, None, ◌&&◌, ◌||◌}
use Rattle.std.specs.Prelude.{not}
use Rattle.std.specs.Option.{option_or}
use Rattle.std.specs.Bool.{then_some}
use Rattle.morty_base.proofs.Orders.{same_exec_tells, same_version_tells}
use Rattle.protocol.specs.Words.{Version, Exec, Key, NodeId, before, same_version, same_exec, same_key, no_version, Write, Puts}
use Rattle.protocol.specs.declared.Held.{Held}
use Rattle.protocol.specs.Replica.Taken.{Handled, later, dropped}
use Rattle.protocol.specs.Replica.Held.{Put, larger, last_write, kept_put}
use Rattle.mv_index.proofs.Growth.{option_or_none, later_none}
use Rattle.protocol.specs.Replica.Votes.{writes_key}
use Rattle.mv_index.specs.PutTable.{replaces}
use Rattle.mv_index.specs.HeldByExec.{committed_content, has_commit, is_blocked, last_of_content, last_of_put, sure_by, open_by}
use Rattle.mv_index.proofs.OpenValues.{kept_is}

-- nothing is written of a key that no write is of
pub last_write_none : (x : Exec) (sure : Bool) (i : ℕ) (k : Key) (ws : List Write) → writes_key k ws ≡ false → last_write x sure i k ws ≡ None
last_write_none x sure i k [] e = refl
last_write_none x sure i k (w ∷ ws) e = go (same_key k w.key) e (last_write_none x sure (suc i) k ws)
  where
    go : (t : Bool) → (t || writes_key k ws) ≡ false → (writes_key k ws ≡ false → last_write x sure (suc i) k ws ≡ None) →
        option_or (last_write x sure (suc i) k ws) (then_some t (record { wid = record { ver = x.ver; eid = x.eid; seq = i }; value = w.value; sure = sure }))
        ≡ None
    go true e more = absurd cc
    go false e more = ap (λ o. option_or o None) (more e)

-- what is open, read from what is kept above the dropped version
pub open_from : (h : Handled) (k : Key) (x : Exec) →
    open_by h k x ≡ cond (before (dropped h) x.ver && not (has_commit h x.ver)) (last_of_put k x (is_blocked h x.ver)
    (cond (before (dropped h) x.ver) (kept_put h x.ver) None)) None
unfolding open_by
open_from h k x = go (before (dropped h) x.ver)
  where
    go : (t : Bool) → cond (t && not (has_commit h x.ver)) (last_of_put k x (is_blocked h x.ver) (kept_put h x.ver)) None
        ≡ cond (t && not (has_commit h x.ver)) (last_of_put k x (is_blocked h x.ver) (cond t (kept_put h x.ver) None)) None
    go true = refl
    go false = refl

pub cond_none : {A : Type 0} (b : Bool) → let nothing : Option A = None in cond b nothing nothing ≡ nothing
cond_none true = refl
cond_none false = refl

-- where nothing is kept nothing is open
pub open_none : (h : Handled) (k : Key) (x : Exec) (v : Version) → x.ver ≡ v → cond (before (dropped h) v) (kept_put h v) None ≡ None → open_by h k x ≡ None
open_none h k x v q e =
    open_from h k x
    ∙ (ap (λ o. cond (before (dropped h) x.ver && not (has_commit h x.ver)) (last_of_put k x (is_blocked h x.ver) o) None)
    (subst (λ u. cond (before (dropped h) u) (kept_put h u) None ≡ None) (sym q) e)
    ∙ cond_none (before (dropped h) x.ver && not (has_commit h x.ver)))

-- what is kept of another execution, or writes another key, holds nothing
pub open_other : (h : Handled) (k : Key) (x : Exec) (v : Version) (p : Put) → x.ver ≡ v → cond (before (dropped h) v) (kept_put h v) None ≡ Some p →
    (same_exec x p.exec && writes_key k p.writes) ≡ false → open_by h k x ≡ None
open_other h k x v p q e f =
    open_from h k x
    ∙ (ap (λ o. cond (before (dropped h) x.ver && not (has_commit h x.ver)) (last_of_put k x (is_blocked h x.ver) o) None)
    (subst (λ u. cond (before (dropped h) u) (kept_put h u) None ≡ Some p) (sym q) e)
    ∙ (ap (λ o. cond (before (dropped h) x.ver && not (has_commit h x.ver)) o None)
    (nothing (same_exec x p.exec) (writes_key k p.writes) refl f (is_blocked h x.ver p.exec.eid))
    ∙ cond_none (before (dropped h) x.ver && not (has_commit h x.ver))))
  where
    nothing : (s t : Bool) → writes_key k p.writes ≡ t → (s && t) ≡ false → (b : Bool) → cond (s && not b) (last_write p.exec false 1 k p.writes) None ≡ None
    nothing true true g f b = absurd cc
    nothing true false g f true = refl
    nothing true false g f false = last_write_none p.exec false 1 k p.writes g
    nothing false t g f b = refl

kept_there : (h : Handled) (v : Version) (p : Put) → cond (before (dropped h) v) (kept_put h v) None ≡ Some p → p.exec.ver ≡ v
kept_there h v p e = go (before (dropped h) v) e
  where
    go : (t : Bool) → cond t (kept_put h v) None ≡ Some p → p.exec.ver ≡ v
    go true e = (kept_is h v p e).0
    go false e = absurd cc

-- after the writes of the kept Puts are erased nothing is open at the version
pub cleared : (h : Handled) (k : Key) (x : Exec) (v : Version) (p : Put) (old new : Option Held) → cond (before (dropped h) v) (kept_put h v) None ≡ Some p →
    old ≡ open_by h k x → new ≡ cond (same_exec x p.exec && writes_key k p.writes) None old → new ≡ cond (same_version x.ver v) None old
cleared h k x v p old new e f g = g ∙ go (same_version x.ver v) (same_version_tells x.ver v)
  where
    go : (t : Bool) → ((t ≡ true) × (x.ver ≡ v)) ⊎ ((t ≡ false) × (x.ver ≢ v)) → cond (same_exec x p.exec && writes_key k p.writes) None old ≡ cond t None old
    go true (inl q) = by (same_exec x p.exec && writes_key k p.writes) refl
      where
        by : (s : Bool) → (same_exec x p.exec && writes_key k p.writes) ≡ s → cond s None old ≡ None
        by true d = refl
        by false d = f ∙ open_other h k x v p q.1 e d
    go true (inr q) = absurd (cc (q.0))
    go false (inl q) = absurd (cc (q.0))
    go false (inr q) =
        let other : same_exec x p.exec ≡ false = elim (same_exec_tells x p.exec) [
          | inl s ↦
              absurd (q.1 (ap (λ (y : Exec). y.ver) s.1 ∙ kept_there h v p e))
          | inr s ↦ s.0
        ] in
        ap (λ s. cond (s && writes_key k p.writes) None old) other

pub cleared_none : (h : Handled) (k : Key) (x : Exec) (v : Version) (old : Option Held) → cond (before (dropped h) v) (kept_put h v) None ≡ None →
    old ≡ open_by h k x → old ≡ cond (same_version x.ver v) None old
cleared_none h k x v old e f = go (same_version x.ver v) (same_version_tells x.ver v)
  where
    go : (t : Bool) → ((t ≡ true) × (x.ver ≡ v)) ⊎ ((t ≡ false) × (x.ver ≢ v)) → old ≡ cond t None old
    go true (inl q) = f ∙ open_none h k x v q.1 e
    go true (inr q) = absurd (cc (q.0))
    go false q = refl

abbrev pub after_puts : Handled → NodeId → NodeId → Exec → List Write → Handled
after_puts h from to y ws = record { from = from; to = to; body = Puts y ws } ∷ h

larger_is : (o : Option Put) (y : Exec) (ws : List Write) → replaces o y ws ≡ true →
    larger o (record { exec = y; writes = ws }) ≡ Some (record { exec = y; writes = ws })
larger_is None y ws e = refl
larger_is (Some q) y ws e = ap (λ t. Some (cond t (record { exec = y; writes = ws }) q)) e

larger_not : (o : Option Put) (y : Exec) (ws : List Write) → replaces o y ws ≡ false → larger o (record { exec = y; writes = ws }) ≡ o
larger_not None y ws e = absurd cc
larger_not (Some q) y ws e = ap (λ t. Some (cond t (record { exec = y; writes = ws }) q)) e

-- what is kept stays, where it is not replaced
pub kept_stays : (h : Handled) (from to : NodeId) (y : Exec) (ws : List Write) → replaces (kept_put h y.ver) y ws ≡ false → (v : Version) →
    kept_put (after_puts h from to y ws) v ≡ kept_put h v
kept_stays h from to y ws e v = go (same_version v y.ver) (same_version_tells v y.ver)
  where
    go : (t : Bool) → ((t ≡ true) × (v ≡ y.ver)) ⊎ ((t ≡ false) × (v ≢ y.ver)) →
        cond t (larger (kept_put h v) (record { exec = y; writes = ws })) (kept_put h v) ≡ kept_put h v
    go true (inl q) = subst (λ u. larger (kept_put h u) (record { exec = y; writes = ws }) ≡ kept_put h u) (sym q.1) (larger_not (kept_put h y.ver) y ws e)
    go true (inr q) = absurd (cc (q.0))
    go false q = refl

pub kept_new : (h : Handled) (from to : NodeId) (y : Exec) (ws : List Write) → replaces (kept_put h y.ver) y ws ≡ true → (v : Version) →
    kept_put (after_puts h from to y ws) v ≡ cond (same_version v y.ver) (Some (record { exec = y; writes = ws })) (kept_put h v)
kept_new h from to y ws e v = go (same_version v y.ver) (same_version_tells v y.ver)
  where
    go : (t : Bool) → ((t ≡ true) × (v ≡ y.ver)) ⊎ ((t ≡ false) × (v ≢ y.ver)) →
        cond t (larger (kept_put h v) (record { exec = y; writes = ws })) (kept_put h v) ≡ cond t (Some (record { exec = y; writes = ws })) (kept_put h v)
    go true (inl q) = subst (λ u. larger (kept_put h u) (record { exec = y; writes = ws }) ≡ Some (record { exec = y; writes = ws })) (sym q.1) (larger_is
        (kept_put h y.ver) y ws e)
    go true (inr q) = absurd (cc (q.0))
    go false q = refl

-- a Puts that replaces nothing changes nothing that is open
pub open_stays : (h : Handled) (from to : NodeId) (y : Exec) (ws : List Write) → replaces (kept_put h y.ver) y ws ≡ false → (k : Key) (x : Exec) →
    open_by h k x ≡ open_by (after_puts h from to y ws) k x
unfolding open_by
open_stays h from to y ws e k x =
    ap (λ d. cond (before d x.ver && not (has_commit h x.ver)) (last_of_put k x (is_blocked h x.ver) (kept_put h x.ver)) None) (sym (later_none (dropped h)))
    ∙ ap (λ o. cond (before (later (dropped h) no_version) x.ver && not (has_commit h x.ver)) (last_of_put k x (is_blocked h x.ver) o) None) (sym
    (kept_stays h from to y ws e x.ver))

-- one that does holds its writes, where they count, and nothing else of its version
pub open_new : (h : Handled) (from to : NodeId) (y : Exec) (ws : List Write) (k : Key) (x : Exec) (counts : Bool) (old cleared new : Option Held) →
    replaces (kept_put h y.ver) y ws ≡ true → before (dropped h) y.ver ≡ true → counts ≡ (not (has_commit h y.ver) && not (is_blocked h y.ver y.eid)) →
    old ≡ open_by h k x → cleared ≡ cond (same_version x.ver y.ver) None old →
    new ≡ cond (same_exec x y && counts) (option_or (last_write y false 1 k ws) cleared) cleared → new ≡ open_by (after_puts h from to y ws) k x
unfolding open_by
open_new h from to y ws k x counts old cleared new e b ce oe le ne =
    go (same_version x.ver y.ver) (same_version_tells x.ver y.ver) le
    ∙ (ap (λ d. cond (before d x.ver && not (has_commit h x.ver))
    (last_of_put k x (is_blocked h x.ver) (cond (same_version x.ver y.ver) (Some (record { exec = y; writes = ws }))
    (kept_put h x.ver))) None) (sym (later_none (dropped h)))
    ∙ ap (λ o. cond (before (later (dropped h) no_version) x.ver && not (has_commit h x.ver)) (last_of_put k x (is_blocked h x.ver) o) None) (sym
    (kept_new h from to y ws e x.ver)))
  where
    tests : (s t u : Bool) (o : Option Held) → cond (s && (not t && not u)) (option_or o None) None ≡ cond (not t) (cond (s && not u) o None) None
    tests true true u o = refl
    tests true false true o = refl
    tests true false false o = option_or_none o
    tests false true u o = refl
    tests false false u o = refl

    go : (t : Bool) → ((t ≡ true) × (x.ver ≡ y.ver)) ⊎ ((t ≡ false) × (x.ver ≢ y.ver)) → cleared ≡ cond t None old →
        new ≡ cond (before (dropped h) x.ver && not (has_commit h x.ver)) (last_of_put k x (is_blocked h x.ver)
        (cond t (Some (record { exec = y; writes = ws })) (kept_put h x.ver))) None
    go true (inl q) le =
        ne ∙ (ap (λ c. cond (same_exec x y && counts) (option_or (last_write y false 1 k ws) c) c) le
        ∙ (ap (λ c. cond (same_exec x y && c) (option_or (last_write y false 1 k ws) None) None) ce
        ∙ (tests (same_exec x y) (has_commit h y.ver) (is_blocked h y.ver y.eid) (last_write y false 1 k ws)
        ∙ (ap (λ t. cond (t && not (has_commit h y.ver)) (cond (same_exec x y && not (is_blocked h y.ver y.eid)) (last_write y false 1 k ws) None) None) (sym b)
        ∙ ap (λ v. cond (before (dropped h) v && not (has_commit h v))
        (cond (same_exec x y && not (is_blocked h v y.eid)) (last_write y false 1 k ws) None) None) (sym q.1)))))
    go true (inr q) le = absurd (cc (q.0))
    go false (inl q) le = absurd (cc (q.0))
    go false (inr q) le =
        let other : same_exec x y ≡ false = elim (same_exec_tells x y) [ inl s ↦ absurd (q.1 (ap (λ (z : Exec). z.ver) s.1)) | inr s ↦ s.0 ] in
        ne ∙ (ap (λ s. cond (s && counts) (option_or (last_write y false 1 k ws) cleared) cleared) other ∙ (le ∙ oe))

pub sure_puts : (h : Handled) (from to : NodeId) (y : Exec) (ws : List Write) (k : Key) (x : Exec) → sure_by h k x ≡ sure_by (after_puts h from to y ws) k x
unfolding sure_by
sure_puts h from to y ws k x = ap (λ d. cond (before d x.ver) (last_of_content k x (committed_content h x)) None) (sym (later_none (dropped h)))

-- whether a Puts replaces what is kept is told by what is kept above the dropped version
pub kept_above : (h : Handled) (y : Exec) (ws : List Write) (o : Option Put) (t : Bool) → before (dropped h) y.ver ≡ true →
    o ≡ cond (before (dropped h) y.ver) (kept_put h y.ver) None → t ≡ replaces o y ws → replaces (kept_put h y.ver) y ws ≡ t
kept_above h y ws o t b e r = sym (r ∙ ap (λ p. replaces p y ws) (e ∙ ap (λ s. cond s (kept_put h y.ver) None) b))

pub puts_stand : (h : Handled) (from to : NodeId) (y : Exec) (ws : List Write) (v : Version) (old new : Option Put) → replaces (kept_put h y.ver) y ws ≡ true →
    before (dropped h) y.ver ≡ true → old ≡ cond (before (dropped h) v) (kept_put h v) None →
    new ≡ cond (same_version v y.ver) (Some (record { exec = y; writes = ws })) old →
    new ≡ cond (before (dropped (after_puts h from to y ws)) v) (kept_put (after_puts h from to y ws) v) None
puts_stand h from to y ws v old new e b oe ne =
    ne ∙ (ap (λ o. cond (same_version v y.ver) (Some (record { exec = y; writes = ws })) o) oe
    ∙ (go (same_version v y.ver) (same_version_tells v y.ver)
    ∙ (ap (λ o. cond (before (dropped h) v) o None) (sym (kept_new h from to y ws e v))
    ∙ ap (λ d. cond (before d v) (kept_put (after_puts h from to y ws) v) None) (sym (later_none (dropped h))))))
  where
    go : (t : Bool) → ((t ≡ true) × (v ≡ y.ver)) ⊎ ((t ≡ false) × (v ≢ y.ver)) →
        cond t (Some (record { exec = y; writes = ws })) (cond (before (dropped h) v) (kept_put h v) None)
        ≡ cond (before (dropped h) v) (cond t (Some (record { exec = y; writes = ws })) (kept_put h v)) None
    go true (inl q) = sym (ap (λ t. cond t (Some (record { exec = y; writes = ws })) None) (ap (before (dropped h)) q.1 ∙ b))
    go true (inr q) = absurd (cc (q.0))
    go false q = refl
