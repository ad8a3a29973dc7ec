-- What a decision of Commit does to what executions hold.
use Rattle.std.proofs.Common.{◌≡◌, ◌≢◌, ◌⊎◌, inl, inr, Bool, true, false, cond, ◌∷◌, ◌++◌, refl, ap, sym, subst, ◌∙◌, Option, Some, None, ◌&&◌, ◌||◌}
use Rattle.std.specs.Prelude.{not, find, option_map, is_none}
use Rattle.std.specs.List.{list_any}
use Rattle.morty_base.proofs.Orders.{same_exec_tells}
use Rattle.protocol.specs.Words.{Version, Exec, Key, NodeId, before, same_version, same_exec, Choice, ToCommit, Content, Kept, Decide}
use Rattle.protocol.specs.declared.Held.{Held}
use Rattle.protocol.specs.Lists.{one_when}
use Rattle.protocol.specs.Replica.Taken.{Handled, dropped}
use Rattle.protocol.specs.Replica.Acceptor.{commits, decided}
use Rattle.protocol.specs.Replica.Held.{kept_put}
use Rattle.mv_index.proofs.Growth.{later_none}
use Rattle.mv_index.specs.HeldByExec.{committed_content, has_commit, is_blocked, last_of_put, open_by}
use Rattle.mv_index.proofs.Values.{find_in, commit_decides}

abbrev pub after_commit : Handled → NodeId → NodeId → Exec → Content → Handled
after_commit h from to y c = record { from = from; to = to; body = Decide y ToCommit (Some c) } ∷ h

pub none_of : (o : Option Choice) → o ≡ None → is_none o ≡ true
none_of None e = refl
none_of (Some d) e = absurd cc

commits_more : (h : Handled) (from to : NodeId) (y : Exec) (c : Content) → decided h y ≡ None →
    commits (after_commit h from to y c) ≡ record { exec = y; content = c } ∷ commits h
commits_more h from to y c e = ap (λ t. one_when t (record { exec = y; content = c }) ++ commits h) (none_of (decided h y) e)

pub content_more : (h : Handled) (from to : NodeId) (y : Exec) (c : Content) → decided h y ≡ None → (x : Exec) →
    committed_content (after_commit h from to y c) x ≡ cond (same_exec x y) (Some c) (committed_content h x)
content_more h from to y c e x = ap (λ l. option_map (λ (d : Kept). d.content) (find (λ d. same_exec x d.exec) l)) (commits_more h from to y c e)
    ∙ go (same_exec x y)
  where
    go : (t : Bool) → option_map (λ (d : Kept). d.content) (cond t (Some (record { exec = y; content = c })) (find (λ d. same_exec x d.exec) (commits h)))
        ≡ cond t (Some c) (committed_content h x)
    go true = refl
    go false = refl

pub has_commit_more : (h : Handled) (from to : NodeId) (y : Exec) (c : Content) → decided h y ≡ None → (v : Version) →
    has_commit (after_commit h from to y c) v ≡ (same_version v y.ver || has_commit h v)
has_commit_more h from to y c e v = ap (λ l. list_any (λ (d : Kept). same_version v d.exec.ver) l) (commits_more h from to y c e)

-- nothing undecided is committed
pub uncommitted : (h : Handled) (y : Exec) → decided h y ≡ None → committed_content h y ≡ None
uncommitted h y e = go (find (λ c. same_exec y c.exec) (commits h)) refl
  where
    go : (o : Option Kept) → find (λ c. same_exec y c.exec) (commits h) ≡ o → option_map (λ (c : Kept). c.content) o ≡ None
    go None f = refl
    go (Some c) f =
        let i = find_in (λ (c : Kept). same_exec y c.exec) (commits h) c f in
        let q : y ≡ c.exec = elim (same_exec_tells y c.exec) [ inl s ↦ s.1 | inr s ↦ absurd (cc (s.0, i.1)) ] in
        absurd (commit_decides h c i.0 (none_of (decided h c.exec) (subst (λ z. decided h z ≡ None) q e)))

pub content_stands : (h : Handled) (from to : NodeId) (y : Exec) (c : Content) (x : Exec) (old new : Option Content) → decided h y ≡ None →
    before (dropped h) y.ver ≡ true → old ≡ cond (before (dropped h) x.ver) (committed_content h x) None → new ≡ cond (same_exec x y) (Some c) old →
    new ≡ cond (before (dropped (after_commit h from to y c)) x.ver) (committed_content (after_commit h from to y c) x) None
content_stands h from to y c x old new e b oe ne =
    ne ∙ (ap (λ o. cond (same_exec x y) (Some c) o) oe
    ∙ (go (same_exec x y) (same_exec_tells x y)
    ∙ (ap (λ o. cond (before (dropped h) x.ver) o None) (sym (content_more h from to y c e x))
    ∙ ap (λ d. cond (before d x.ver) (committed_content (after_commit h from to y c) x) None) (sym (later_none (dropped h))))))
  where
    go : (t : Bool) → ((t ≡ true) × (x ≡ y)) ⊎ ((t ≡ false) × (x ≢ y)) → cond t (Some c) (cond (before (dropped h) x.ver) (committed_content h x) None)
        ≡ cond (before (dropped h) x.ver) (cond t (Some c) (committed_content h x)) None
    go true (inl q) = sym (ap (λ t. cond t (Some c) None) (ap (λ (z : Exec). before (dropped h) z.ver) q.1 ∙ b))
    go true (inr q) = absurd (cc (q.0))
    go false q = refl

pub open_committed : (h : Handled) (from to : NodeId) (y : Exec) (c : Content) (k : Key) (x : Exec) (old new : Option Held) → decided h y ≡ None →
    old ≡ open_by h k x → new ≡ cond (same_version x.ver y.ver) None old → new ≡ open_by (after_commit h from to y c) k x
unfolding open_by
open_committed h from to y c k x old new e oe ne =
    ne ∙ (ap (λ o. cond (same_version x.ver y.ver) None o) oe
    ∙ (go (same_version x.ver y.ver) (before (dropped h) x.ver) (has_commit h x.ver) (last_of_put k x (is_blocked h x.ver) (kept_put h x.ver))
    ∙ (ap (λ t. cond (before (dropped h) x.ver && not t) (last_of_put k x (is_blocked h x.ver) (kept_put h x.ver)) None)
    (sym (has_commit_more h from to y c e x.ver))
    ∙ ap (λ d. cond (before d x.ver && not (has_commit (after_commit h from to y c) x.ver)) (last_of_put k x (is_blocked h x.ver) (kept_put h x.ver)) None) (sym
    (later_none (dropped h))))))
  where
    go : (t a b : Bool) (o : Option Held) → cond t None (cond (a && not b) o None) ≡ cond (a && not (t || b)) o None
    go true true b o = refl
    go true false b o = refl
    go false a b o = refl
