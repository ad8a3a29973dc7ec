-- What a verdict tells of the executions in conflict with it.
use Rattle.std.proofs.Common.{◌≡◌, ◌⊎◌, ◌≢◌, inl, inr, refl, ap, sym, ◌∙◌, subst, true, false, Bool, cond, List, [], ◌∷◌, ◌++◌, Option, Some, None}
use Rattle.std.specs.Prelude.{option_map, ◌&&◌, ◌||◌, not}
use Rattle.std.specs.List.{list_any}
use Rattle.std.specs.Option.{is_none}
use Rattle.protocol.specs.Words.{BaseEntry, Exec, Version, Envelope, Body, Content, Kept, Vote, Commit, Tentative, Final, Choice, Abandon, ToCommit, Prepare, before, same_exec}
use Rattle.protocol.specs.Lists.{IsIn, one_when}
use Rattle.protocol.specs.Replica.Taken.{Handled, dropped, fence, base}
use Rattle.protocol.specs.Replica.Acceptor.{decided, commits}
use Rattle.protocol.specs.Replica.Votes.{casts, cast_on, new_cast, may_vote, verdict, vote, Cast, conflicts, conflicts_with_base, misses, is_commit_vote}
use Rattle.protocol.proofs.TestLemmas.{true_false, and_right}
use Rattle.protocol.proofs.NamesLemmas.{same_exec_tells, before_self}
use Rattle.law_steps.proofs.KnownLemmas.{IsWell, commit_finds, some_from, found, commit_on}

pub new_vote : (h : Handled) (m : Envelope) (x : Exec) (v : Vote) → vote (m ∷ h) x ≡ Some v →
    (vote h x ≡ Some v) ⊎ ((k : Content) × (m.body ≡ Prepare x k) × (verdict h (casts h) x k ≡ v))
new_vote h m x v e = go m.body refl e
  where
    hit : (z : Exec) (k : Content) (t : Bool) → ((t ≡ true) × (x ≡ z)) ⊎ ((t ≡ false) × (x ≢ z)) → m.body ≡ Prepare z k →
        option_map (λ (y : Cast). y.vote) (cond t (Some (record { exec = z; content = k; vote = verdict h (casts h) z k })) (cast_on x (casts h))) ≡ Some v →
        (vote h x ≡ Some v) ⊎ ((k : Content) × (m.body ≡ Prepare x k) × (verdict h (casts h) x k ≡ v))
    hit z k true (inl p) q e = let f : z ≡ x = sym p.1 in inr (k, q ∙ ap (λ (y : Exec). Prepare y k) f, (let g : verdict h (casts h) z k ≡ v = cc in subst (λ (y : Exec). verdict h (casts h) y k ≡ v) f g))
    hit z k true (inr p) q e = cc
    hit z k false p q e = inl e

    prep : (z : Exec) (k : Content) (t : Bool) → m.body ≡ Prepare z k →
        option_map (λ (y : Cast). y.vote) (cast_on x (one_when t (record { exec = z; content = k; vote = verdict h (casts h) z k }) ++ casts h)) ≡ Some v →
        (vote h x ≡ Some v) ⊎ ((k : Content) × (m.body ≡ Prepare x k) × (verdict h (casts h) x k ≡ v))
    prep z k true q e = hit z k (same_exec x z) (same_exec_tells x z) q e
    prep z k false q e = inl e

    go : (b : Body) → m.body ≡ b → option_map (λ (y : Cast). y.vote) (cast_on x (new_cast h (casts h) b ++ casts h)) ≡ Some v →
        (vote h x ≡ Some v) ⊎ ((k : Content) × (m.body ≡ Prepare x k) × (verdict h (casts h) x k ≡ v))
    go (Prepare z k) q e = prep z k (may_vote h (casts h) z) q e
    go _ q e = inl e

pub any_true : {A : Type 0} (p : A → Bool) (xs : List A) → list_any p xs ≡ true → (a : A) × IsIn a xs × (p a ≡ true)
any_true p [] e = cc
any_true {A = A} p (x ∷ xs) e = go (any_true p xs) (p x) refl e
  where
    go : (list_any p xs ≡ true → (a : A) × IsIn a xs × (p a ≡ true)) → (t : Bool) → p x ≡ t → (t || list_any p xs) ≡ true →
        (a : A) × IsIn a (x ∷ xs) × (p a ≡ true)
    go ih true f e = (x, inl refl, f)
    go ih false f e = let k = ih e in (k.0, inr k.1, k.2)

pub any_in : {A : Type 0} (p : A → Bool) (xs : List A) (a : A) → IsIn a xs → p a ≡ true → list_any p xs ≡ true
any_in p [] a i e = absurd i
any_in p (x ∷ xs) a (inl z) e = rw (← z, e) refl
any_in p (x ∷ xs) a (inr i) e = go (p x) (any_in p xs a i e)
  where
    go : (t : Bool) → list_any p xs ≡ true → (t || list_any p xs) ≡ true
    go true f = refl
    go false f = f

-- the test for a conflict with what is committed, and with what was voted Commit on and is open
abbrev pub committed_test : Handled → Exec → Content → Kept → Bool
committed_test h x c y = before (dropped h) y.exec.ver && conflicts x.ver c y.exec.ver y.content

abbrev pub open_test : Handled → Exec → Content → Cast → Bool
open_test h x c y = before (dropped h) y.exec.ver && (is_commit_vote y.vote && (is_none (decided h y.exec) && conflicts x.ver c y.exec.ver y.content))

-- a verdict of Commit passed each test
pub record Passed (h : Handled) (cs : List Cast) (x : Exec) (c : Content) : Type 0 where
  pub above : before (fence h) x.ver ≡ true
  pub committed : list_any (committed_test h x c) (commits h) ≡ false
  pub base : list_any (conflicts_with_base x.ver c) (base h) ≡ false
  pub still_open : list_any (open_test h x c) cs ≡ false

pub verdict_commit : (h : Handled) (cs : List Cast) (x : Exec) (c : Content) → verdict h cs x c ≡ Commit → Passed h cs x c
unfolding verdict
verdict_commit h cs x c e = go (before (fence h) x.ver) refl (list_any (committed_test h x c) (commits h)) refl (list_any (conflicts_with_base x.ver c) (base h)) refl (list_any (open_test h x c) cs) refl e
  where
    go : (f : Bool) → before (fence h) x.ver ≡ f → (a : Bool) → list_any (committed_test h x c) (commits h) ≡ a → (b : Bool) →
        list_any (conflicts_with_base x.ver c) (base h) ≡ b → (d : Bool) → list_any (open_test h x c) cs ≡ d →
        cond (not f) Tentative (cond (a || b) Final (cond d Tentative Commit)) ≡ Commit → Passed h cs x c
    go false p a q b r d s e = cc
    go true p true q b r d s e = cc
    go true p false q true r d s e = cc
    go true p false q false r true s e = cc
    go true p false q false r false s e = record { above = p; committed = q; base = r; still_open = s }

verdict_final : (h : Handled) (cs : List Cast) (x : Exec) (c : Content) → verdict h cs x c ≡ Final →
    (list_any (committed_test h x c) (commits h) || list_any (conflicts_with_base x.ver c) (base h)) ≡ true
unfolding verdict
verdict_final h cs x c e = go (not (before (fence h) x.ver)) (list_any (committed_test h x c) (commits h) || list_any (conflicts_with_base x.ver c) (base h)) (list_any (open_test h x c) cs) e
  where
    go : (f a d : Bool) → cond f Tentative (cond a Final (cond d Tentative Commit)) ≡ Final → a ≡ true
    go true a d e = cc
    go false true d e = refl
    go false false true e = cc
    go false false false e = cc

and_is : (a b : Bool) → a ≡ true → b ≡ true → (a && b) ≡ true
and_is a b e f = rw (e, f) refl

open_holds : (h : Handled) (x : Exec) (k : Content) (c : Cast) → before (dropped h) c.exec.ver ≡ true → c.vote ≡ Commit → decided h c.exec ≡ None →
    conflicts x.ver k c.exec.ver c.content ≡ true → open_test h x k c ≡ true
open_holds h x k c a v q f =
    and_is (before (dropped h) c.exec.ver) (is_commit_vote c.vote && (is_none (decided h c.exec) && conflicts x.ver k c.exec.ver c.content)) a
    (and_is (is_commit_vote c.vote) (is_none (decided h c.exec) && conflicts x.ver k c.exec.ver c.content) (ap is_commit_vote v)
    (and_is (is_none (decided h c.exec)) (conflicts x.ver k c.exec.ver c.content) (ap is_none q) f))

committed_holds : (h : Handled) (x : Exec) (k : Content) (c : Cast) (l : Kept) → before (dropped h) c.exec.ver ≡ true → l.exec ≡ c.exec →
    l.content ≡ c.content → conflicts x.ver k c.exec.ver c.content ≡ true → committed_test h x k l ≡ true
committed_holds h x k c l a e g f =
    and_is (before (dropped h) l.exec.ver) (conflicts x.ver k l.exec.ver l.content) (subst (λ (y : Exec). before (dropped h) y.ver ≡ true) (sym e) a)
    (subst (λ (y : Exec). conflicts x.ver k y.ver l.content ≡ true) (sym e) (subst (λ (y : Content). conflicts x.ver k c.exec.ver y ≡ true) (sym g) f))

-- after a verdict of Commit, what was voted Commit on in conflict with it was decided Abandon there, or stands at or below the dropped version
pub earlier_settled : (h : Handled) (x : Exec) (k : Content) (c : Cast) → IsWell h
    → ((l : Kept) → IsIn l (commits h) → l.exec ≡ c.exec → l.content ≡ c.content)
    → IsIn c (casts h) → c.vote ≡ Commit → conflicts x.ver k c.exec.ver c.content ≡ true → verdict h (casts h) x k ≡ Commit → (decided h c.exec ≡ Some Abandon) ⊎ (before (dropped h) c.exec.ver ≡ false)
earlier_settled h x k c well same i v f e = split (before (dropped h) c.exec.ver) refl
  where
    go : before (dropped h) c.exec.ver ≡ true → (o : Option Choice) → decided h c.exec ≡ o → decided h c.exec ≡ Some Abandon
    go is_above (Some Abandon) q = q
    go is_above None q =
        absurd (true_false (sym (any_in (open_test h x k) (casts h) c i (open_holds h x k c is_above v q f)) ∙ (verdict_commit h (casts h) x k e).still_open))
    go is_above (Some ToCommit) q = let s = some_from (commit_on c.exec (commits h)) (commit_finds h c.exec well q) in
        let l = found (λ (y : Kept). y.exec) c.exec (commits h) s.0 s.1 in
        absurd (true_false (sym (any_in (committed_test h x k) (commits h) s.0 l.0 (committed_holds h x k c s.0 is_above l.1 (same s.0 l.0 l.1) f)) ∙ (verdict_commit h (casts h) x k e).committed))

    split : (t : Bool) → before (dropped h) c.exec.ver ≡ t → (decided h c.exec ≡ Some Abandon) ⊎ (before (dropped h) c.exec.ver ≡ false)
    split true q = inl (go q (decided h c.exec) refl)
    split false q = inr q

-- a verdict of Final conflicts with something committed there, or with an entry of the base
pub final_conflict : (h : Handled) (x : Exec) (k : Content) → verdict h (casts h) x k ≡ Final →
    ((l : Kept) × IsIn l (commits h) × (conflicts x.ver k l.exec.ver l.content ≡ true)) ⊎ ((b : BaseEntry) × IsIn b (base h) × (conflicts_with_base x.ver k b ≡ true))
final_conflict h x k e =
    go (list_any (committed_test h x k) (commits h)) refl (list_any (conflicts_with_base x.ver k) (base h)) refl (verdict_final h (casts h) x k e)
  where
    go : (t : Bool) → list_any (committed_test h x k) (commits h) ≡ t → (u : Bool) → list_any (conflicts_with_base x.ver k) (base h) ≡ u → (t || u) ≡ true →
        ((l : Kept) × IsIn l (commits h) × (conflicts x.ver k l.exec.ver l.content ≡ true)) ⊎ ((b : BaseEntry) × IsIn b (base h) × (conflicts_with_base x.ver k b ≡ true))
    go true q u r z = let a = any_true (committed_test h x k) (commits h) q in inl (a.0, a.1, and_right (before (dropped h) a.0.exec.ver) _ a.2)
    go false q true r z = let a = any_true (conflicts_with_base x.ver k) (base h) r in inr (a.0, a.1, a.2)
    go false q false r z = cc

pub conflicts_both_ways : (t x : Version) (c d : Content) → conflicts t c x d ≡ conflicts x d t c
unfolding conflicts
conflicts_both_ways t x c d = or_swap (misses t c x d.writes) (misses x d t c.writes)
  where
    or_swap : (a b : Bool) → (a || b) ≡ (b || a)
    or_swap true true = refl
    or_swap true false = refl
    or_swap false true = refl
    or_swap false false = refl

-- nothing is in conflict with one of its own version
pub no_conflict_alike : (t : Version) (c d : Content) → conflicts t c t d ≡ false
unfolding conflicts
no_conflict_alike t c d = rw before_self refl
