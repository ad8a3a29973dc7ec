-- Conflicts with the contents that have a Commit vote and no decision.
use Rattle.std.proofs.Common.{◌≡◌, inl, inr, Bool, true, false, cond, [], ◌∷◌, ◌++◌, Option, Some, None, refl, ap, sym, ◌∙◌, ◌&&◌, ◌||◌}
use Rattle.std.specs.Prelude.{is_none}
use Rattle.std.specs.List.{list_any}
use Rattle.morty_base.proofs.Orders.{same_exec_tells}
use Rattle.protocol.specs.Words.{Version, Exec, before, same_exec, Content, Body, Prepare}
use Rattle.protocol.specs.Lists.{IsIn, one_when}
use Rattle.protocol.specs.Replica.Taken.{Handled, dropped, base}
use Rattle.protocol.specs.Replica.Acceptor.{decided, commits}
use Rattle.protocol.specs.Replica.Votes.{Cast, casts, cast_on, new_cast, may_vote, verdict, is_commit_vote, conflicts, clashes_with_vote, clashes_with_commit, conflicts_with_base}
use Rattle.protocol.proofs.ReplicaGrows.{cast_stays}
use Rattle.protocol.proofs.TestLemmas.{and_left, and_right}
use Rattle.protocol.proofs.ListsLemmas.{IsIn-cases}
use Rattle.mv_index.specs.ContentTable.{HasConflict}
use Rattle.mv_index.proofs.Counting.{any_in, in_any}
use Rattle.mv_index.proofs.Values.{find_in}
use Rattle.mv_index.specs.Clash.{standing_vote, voted_content, clash_of, at_version}
use Rattle.mv_index.specs.declared.clash.Clash.{Clash}
use Rattle.mv_index.specs.declared.clash.Clash.TheVariants.{Committed, Voted, Clear}

same_self : (x : Exec) → same_exec x x ≡ true
same_self x = elim (same_exec_tells x x) [ inl q ↦ q.0 | inr q ↦ absurd (q.1 refl) ]

same_exec_is : (x y : Exec) → same_exec x y ≡ true → x ≡ y
same_exec_is x y e = elim (same_exec_tells x y) [ inl q ↦ q.1 | inr q ↦ absurd (cc (q.0, e)) ]

fresh_found : (h : Handled) (b : Body) (y : Cast) → IsIn y (new_cast h (casts h) b) → cast_on y.exec (new_cast h (casts h) b ++ casts h) ≡ Some y
fresh_found h (Prepare x c) y i = go (may_vote h (casts h) x) i
  where
    k : Cast
    k = record { exec = x; content = c; vote = verdict h (casts h) x c }

    go : (t : Bool) → IsIn y (one_when t k) → cast_on y.exec (one_when t k ++ casts h) ≡ Some y
    go false i = absurd i
    go true (inl q) = ap (λ t. cond t (Some k) (cast_on y.exec (casts h))) (ap (λ (z : Cast). same_exec z.exec x) q ∙ same_self x) ∙ ap Some (sym q)
    go true (inr i) = absurd i
fresh_found h _ y i = absurd i

-- each vote is cast once
pub cast_found : (h : Handled) (y : Cast) → IsIn y (casts h) → cast_on y.exec (casts h) ≡ Some y
cast_found [] y i = absurd i
cast_found (m ∷ h) y i = elim (IsIn-cases y (new_cast h (casts h) m.body) (casts h) i) [
  | inl j ↦ fresh_found h m.body y j
  | inr j ↦ cast_stays h m y.exec y (cast_found h y j)
]

-- the vote from which a content stands
pub record StandsBy (h : Handled) (x : Exec) (d : Content) : Type 0 where
  pub cast : Cast
  pub is_in : IsIn cast (casts h)
  pub of : x ≡ cast.exec
  pub commits : is_commit_vote cast.vote ≡ true
  pub undecided : is_none (decided h x) ≡ true
  pub content : cast.content ≡ d

pub standing_some : (h : Handled) (x : Exec) (d : Content) → voted_content h x ≡ Some d → StandsBy h x d
standing_some h x d e = go (cast_on x (casts h)) refl e
  where
    go : (o : Option Cast) → cast_on x (casts h) ≡ o → standing_vote h x o ≡ Some d → StandsBy h x d
    go None f e = absurd cc
    go (Some y) f e = by (is_commit_vote y.vote) refl (is_none (decided h x)) refl e
      where
        by : (a : Bool) → is_commit_vote y.vote ≡ a → (b : Bool) → is_none (decided h x) ≡ b → cond (a && b) (Some y.content) None ≡ Some d → StandsBy h x d
        by true p true q e = let k = find_in (λ (z : Cast). same_exec x z.exec) (casts h) y f in
            record { cast = y; is_in = k.0; of = same_exec_is x y.exec k.1; commits = p; undecided = q; content = cc }
        by true p false q e = absurd cc
        by false p b q e = absurd cc

pub above_some : (h : Handled) (x : Exec) (d : Content) (o : Option Content) → o ≡ cond (before (dropped h) x.ver) (voted_content h x) None → o ≡ Some d →
    (before (dropped h) x.ver ≡ true) × (voted_content h x ≡ Some d)
above_some h x d o f e = go (before (dropped h) x.ver) refl (sym f ∙ e)
  where
    go : (t : Bool) → before (dropped h) x.ver ≡ t → cond t (voted_content h x) None ≡ Some d → (before (dropped h) x.ver ≡ true) × (voted_content h x ≡ Some d)
    go true b e = (b, e)
    go false b e = absurd cc

-- a table of these contents above the dropped version tells of conflicts with them
pub vote_clash : (h : Handled) (f : Exec → Option Content) (y : Exec) (c : Content) (t : Bool) →
    ((x : Exec) → f x ≡ cond (before (dropped h) x.ver) (voted_content h x) None) → HasConflict f y.ver c t → t ≡ list_any (clashes_with_vote h y c) (casts h)
vote_clash h f y c true e (x, d, g, k) =
    let above = above_some h x d (f x) (e x) g in
    let s = standing_some h x d above.1 in
    sym (in_any (clashes_with_vote h y c) (casts h) s.cast s.is_in
    (ap (λ (z : Exec). before (dropped h) z.ver && (is_commit_vote s.cast.vote && (is_none (decided h z) && conflicts y.ver c z.ver s.cast.content))) (sym s.of)
    ∙ (ap (λ t. t && (is_commit_vote s.cast.vote && (is_none (decided h x) && conflicts y.ver c x.ver s.cast.content))) above.0
    ∙ (ap (λ t. t && (is_none (decided h x) && conflicts y.ver c x.ver s.cast.content)) s.commits
    ∙ (ap (λ t. t && conflicts y.ver c x.ver s.cast.content) s.undecided
    ∙ (ap (conflicts y.ver c x.ver) s.content ∙ k))))))
vote_clash h f y c false e none = go (list_any (clashes_with_vote h y c) (casts h)) refl
  where
    go : (t : Bool) → list_any (clashes_with_vote h y c) (casts h) ≡ t → false ≡ t
    go false g = refl
    go true g =
        let (z, i, p) = any_in (clashes_with_vote h y c) (casts h) g in
        let above = and_left (before (dropped h) z.exec.ver) _ p in
        let p1 = and_right (before (dropped h) z.exec.ver) (is_commit_vote z.vote
        && (is_none (decided h z.exec) && conflicts y.ver c z.exec.ver z.content)) p in
        let commit = and_left (is_commit_vote z.vote) _ p1 in
        let p2 = and_right (is_commit_vote z.vote) (is_none (decided h z.exec) && conflicts y.ver c z.exec.ver z.content) p1 in
        let lone = and_left (is_none (decided h z.exec)) _ p2 in
        let clash = and_right (is_none (decided h z.exec)) (conflicts y.ver c z.exec.ver z.content) p2 in
        let there : f z.exec ≡ Some z.content = e z.exec ∙ (ap (λ t. cond t (voted_content h z.exec) None) above
        ∙ (ap (standing_vote h z.exec) (cast_found h z i) ∙ (ap (λ t. cond (t && is_none (decided h z.exec)) (Some z.content) None) commit
        ∙ ap (λ t. cond t (Some z.content) None) lone))) in
        let w = none z.exec z.content there in
        absurd (cc (w, clash))

-- ---- the worst conflict

pub clash_committed : (h : Handled) (v : Version) (c : Content) (t : Bool) →
    t ≡ (list_any (clashes_with_commit h (at_version v) c) (commits h) || list_any (conflicts_with_base v c) (base h)) → t ≡ true → Committed ≡ clash_of h v c
clash_committed h v c t e f = sym (ap (λ b. cond b Committed (cond (list_any (clashes_with_vote h (at_version v) c) (casts h)) Voted Clear)) (sym e ∙ f))

pub clash_voted : (h : Handled) (v : Version) (c : Content) (s t b : Bool) (k : Clash) →
    s ≡ (list_any (clashes_with_commit h (at_version v) c) (commits h) || list_any (conflicts_with_base v c) (base h)) → s ≡ false →
    t ≡ list_any (clashes_with_vote h (at_version v) c) (casts h) → t ≡ b → k ≡ cond b Voted Clear → k ≡ clash_of h v c
clash_voted h v c s t b k e f g i j =
    j ∙ (sym (ap (λ u. cond u Committed (cond b Voted Clear)) (sym e ∙ f))
    ∙ ap (λ u. cond (list_any (clashes_with_commit h (at_version v) c) (commits h) || list_any (conflicts_with_base v c) (base h)) Committed
    (cond u Voted Clear)) (sym i ∙ g))
