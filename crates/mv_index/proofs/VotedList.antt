-- A rising list of the undecided contents with a Commit vote at or below a version is the sorted one.
use Rattle.std.proofs.Common.{◌≡◌, Bool, true, false, cond, List, [], ◌∷◌, ◌++◌, Option, Some, None, refl, ap, sym, subst, ◌∙◌, ◌&&◌}
use Rattle.std.specs.Prelude.{not, map, filter, is_none}
use Rattle.protocol.specs.Words.{Version, Exec, Content, Kept, Body, Prepare, before, same_exec}
use Rattle.protocol.specs.Lists.{IsIn, one_when}
use Rattle.protocol.specs.Replica.Taken.{Handled, dropped}
use Rattle.protocol.specs.Replica.Acceptor.{decided}
use Rattle.protocol.specs.Replica.Votes.{Cast, casts, cast_on, new_cast, may_vote, verdict, is_commit_vote}
use Rattle.protocol.specs.Replica.Says.{voted_upto}
use Rattle.protocol.proofs.TestLemmas.{and_left, and_right}
use Rattle.protocol.proofs.ListsLemmas.{IsIn-map, map_in}
use Rattle.mv_index.specs.ContentTable.{IsListUpTo}
use Rattle.mv_index.proofs.Values.{filter_in, in_filter}
use Rattle.mv_index.specs.Clash.{voted_content, standing_vote}
use Rattle.mv_index.proofs.Clashes.{cast_found, standing_some}
use Rattle.mv_index.proofs.CommittedList.{sorted_is, apart_of, both, turned, turned_back, above_is, above_cond, AreApart}

abbrev pub kept_of_cast : Cast → Kept
kept_of_cast y = record { exec = y.exec; content = y.content }

-- no two of these votes are on one execution
abbrev pub AreCastApart : List Cast → Type 0
AreCastApart [] = Unit {0}
AreCastApart (c ∷ cs) = ((d : Cast) → IsIn d cs → same_exec c.exec d.exec ≡ false) × AreCastApart cs

unvoted : (h : Handled) (x : Exec) → may_vote h (casts h) x ≡ true → is_none (cast_on x (casts h)) ≡ true
unfolding may_vote
unvoted h x e = and_left _ _ (and_right _ _ e)

casts_apart : (h : Handled) → AreCastApart (casts h)
casts_apart [] = tt
casts_apart (m ∷ h) = go m.body (casts_apart h)
  where
    add : (t : Bool) (c : Cast) → may_vote h (casts h) c.exec ≡ t → AreCastApart (casts h) → AreCastApart (one_when t c ++ casts h)
    add true c e more = (
      λ d i. apart_of c.exec d.exec (λ q. clash (cast_on c.exec (casts h)) d (ap (λ z. cast_on z (casts h)) q ∙ cast_found h d i)
          (unvoted h c.exec e)),
      more,
    )
      where
        clash : (o : Option Cast) (d : Cast) → o ≡ Some d → is_none o ≡ true → ⊥
        clash None d e f = cc
        clash (Some y) d e f = cc
    add false c e more = more

    go : (b : Body) → AreCastApart (casts h) → AreCastApart (new_cast h (casts h) b ++ casts h)
    go (Prepare x c) more = add (may_vote h (casts h) x) (record { exec = x; content = c; vote = verdict h (casts h) x c }) refl more
    go _ more = more

filter_map_apart : (p : Cast → Bool) (cs : List Cast) → AreCastApart cs → AreApart (map kept_of_cast (filter p cs))
filter_map_apart p [] a = tt
filter_map_apart p (c ∷ cs) a = go (p c) (filter_map_apart p cs a.1)
  where
    go : (t : Bool) → AreApart (map kept_of_cast (filter p cs)) → AreApart (map kept_of_cast (cond t (c ∷ filter p cs) (filter p cs)))
    go true more = (
      λ d i. let k = IsIn-map kept_of_cast d (filter p cs) i in
          subst (λ (z : Kept). same_exec c.exec z.exec ≡ false) (sym k.2) (a.0 k.0 (filter_in p cs k.0 k.1).0),
      more,
    )
    go false more = more

-- the list of a table of the undecided contents with a Commit vote
pub voted_list : (h : Handled) (f : Exec → Option Content) (w : Version) (l : List Kept) →
    ((x : Exec) → f x ≡ cond (before (dropped h) x.ver) (voted_content h x) None) → IsListUpTo f w l → l ≡ voted_upto h w
unfolding voted_upto
voted_list h f w l e s = sorted_is l (map kept_of_cast (filter among (casts h))) s.rises (filter_map_apart among (casts h) (casts_apart h)) there back
  where
    among : Cast → Bool
    among y = (is_commit_vote y.vote && is_none (decided h y.exec)) && (before (dropped h) y.exec.ver && not (before w y.exec.ver))

    there : (c : Kept) → IsIn c l → IsIn c (map kept_of_cast (filter among (casts h)))
    there c i =
        let k = s.sound c i in
        let a = above_cond (before (dropped h) c.exec.ver) (voted_content h c.exec) c.content (sym (e c.exec) ∙ k.0) in
        let b = standing_some h c.exec c.content a.1 in
        let test : among b.cast ≡ true = both _ _ (both _ _ b.commits (subst (λ x. is_none (decided h x) ≡ true) b.of b.undecided))
        (both _ _ (subst (λ (x : Exec). before (dropped h) x.ver ≡ true) b.of a.0)
        (subst (λ (x : Exec). not (before w x.ver) ≡ true) b.of (turned_back (before w c.exec.ver) k.1))) in
        let same : kept_of_cast b.cast ≡ c = ap (λ x. let z : Kept = record { exec = x; content = b.cast.content } in z) (sym b.of)
        ∙ ap (λ d. let z : Kept = record { exec = c.exec; content = d } in z) b.content in
        subst (λ z. IsIn z (map kept_of_cast (filter among (casts h)))) same (map_in kept_of_cast (filter among (casts h)) b.cast
        (in_filter among (casts h) b.cast b.is_in test))

    back : (c : Kept) → IsIn c (map kept_of_cast (filter among (casts h))) → IsIn c l
    back c i =
        let (y, j, q) = IsIn-map kept_of_cast c (filter among (casts h)) i in
        let k = filter_in among (casts h) y j in
        let one = and_left (is_commit_vote y.vote && is_none (decided h y.exec)) _ k.1 in
        let two = and_right (is_commit_vote y.vote && is_none (decided h y.exec)) (before (dropped h) y.exec.ver && not (before w y.exec.ver)) k.1 in
        let stands : voted_content h y.exec ≡ Some y.content = ap (standing_vote h y.exec) (cast_found h y k.0) ∙ ap (λ t. cond t (Some y.content) None) one in
        let in_l = s.complete (kept_of_cast y) (above_is h y.exec y.content (voted_content h y.exec) (f y.exec) (e y.exec)
        (and_left (before (dropped h) y.exec.ver) _ two) stands)
        (turned (before w y.exec.ver) (and_right (before (dropped h) y.exec.ver) (not (before w y.exec.ver)) two)) in
        subst (λ z. IsIn z l) (sym q) in_l
