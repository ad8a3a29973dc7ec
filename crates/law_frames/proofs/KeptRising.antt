-- What a replica answers to a Fence is in rising order: it has one committed content and one vote of each execution.
use Rattle.std.proofs.Common.{◌≡◌, ◌⊎◌, inl, inr, refl, ap, sym, ◌∙◌, subst, true, false, Bool, cond, List, [], ◌∷◌, ◌++◌, Option, Some, None}
use Rattle.std.specs.Prelude.{map, filter, ◌==◌}
use Rattle.std.specs.Option.{is_none, option_or}
use Rattle.std.specs.Bool.{then_some}
use Rattle.morty_base.proofs.Orders.{exec_before_total}
use Rattle.protocol.specs.Words.{Version, Exec, Body, Kept, Choice, Abandon, ToCommit, Prepare, Decide, same_exec, exec_before}
use Rattle.protocol.specs.Lists.{IsIn, IsRisingBy, one_when}
use Rattle.protocol.specs.Quorums.{HasNoRepeats}
use Rattle.protocol.specs.Replica.Taken.{Handled}
use Rattle.protocol.specs.Replica.Acceptor.{promised, decided, choice_for, commits, new_commit}
use Rattle.protocol.specs.Replica.Votes.{Cast, casts, cast_on, new_cast, may_vote, verdict}
use Rattle.protocol.specs.Replica.Says.{put_kept, sorted_kept, committed_upto, voted_upto}
use Rattle.protocol.proofs.NamesLemmas.{same_exec_refl}
use Rattle.protocol.proofs.ListsLemmas.{IsIn-cases, IsIn-map, map_in, IsIn-one_when}
use Rattle.protocol.proofs.TestLemmas.{and_left, and_right, true_false}
use Rattle.law_steps.proofs.TakenLemmas.{IsIn-filtered, of_sorted}

-- each element stands for an execution of its own
abbrev pub HasApart : {A : Type 0} → (A → Exec) → List A → Type 0
HasApart name xs = HasNoRepeats (map name xs)

apart_filter : {A : Type 0} (name : A → Exec) (test : A → Bool) (xs : List A) → HasApart name xs → HasApart name (filter test xs)
apart_filter name test [] d = tt
apart_filter {A = A} name test (x ∷ xs) d = go (apart_filter name test xs d.1) (test x)
  where
    fewer : IsIn (name x) (map name (filter test xs)) → IsIn (name x) (map name xs)
    fewer i = let k = IsIn-map name (name x) (filter test xs) i in
        subst (λ (y : Exec). IsIn y (map name xs)) (sym k.2) (map_in name xs k.0 (IsIn-filtered test xs k.0 k.1).0)

    go : HasApart name (filter test xs) → (t : Bool) → HasApart name (cond t (x ∷ filter test xs) (filter test xs))
    go ih true = (λ i. d.0 (fewer i), ih)
    go ih false = ih

-- what is committed is decided
undecided_commit : (h : Handled) (c : Kept) → IsIn c (commits h) → is_none (decided h c.exec) ≡ true → ⊥
undecided_commit [] c i n = i
undecided_commit (m ∷ h) c i n = go (undecided_commit h c) (IsIn-cases c (new_commit h m.body) (commits h) i) (decided h c.exec) refl n
  where
    decides : (b : Body) → IsIn c (new_commit h b) → is_none (choice_for c.exec b) ≡ true → ⊥
    decides (Decide x ToCommit (Some k)) j e = let g = IsIn-one_when _ _ c j in let same : x ≡ c.exec = ap (λ (z : Kept). z.exec) (sym g.1) in
        true_false (sym e ∙ subst (λ (y : Exec). is_none (then_some (same_exec c.exec y) ToCommit) ≡ false) (sym same)
        (ap (λ (t : Bool). is_none (then_some t ToCommit)) (same_exec_refl c.exec)))
    decides (Decide x ToCommit None) j e = j
    decides (Decide x Abandon o) j e = j
    decides _ j e = j

    go : (IsIn c (commits h) → is_none (decided h c.exec) ≡ true → ⊥) → IsIn c (new_commit h m.body) ⊎ IsIn c (commits h) →
        (o : Option Choice) → decided h c.exec ≡ o → is_none (option_or o (choice_for c.exec m.body)) ≡ true → ⊥
    go ih j (Some d) q n = true_false (sym n)
    go ih (inl j) None q n = decides m.body j n
    go ih (inr j) None q n = ih j (ap is_none q)

-- one of which the name is new
apart_more : {A : Type 0} (name : A → Exec) (t : Bool) (a : A) (xs : List A) → (t ≡ true → (b : A) → IsIn b xs → name b ≡ name a → ⊥) → HasApart name xs →
    HasApart name (one_when t a ++ xs)
apart_more name true a xs n d = (λ i. let k = IsIn-map name (name a) xs i in n refl k.0 k.1 (sym k.2), d)
apart_more name false a xs n d = d

commits_apart : (h : Handled) → HasApart (λ (c : Kept). c.exec) (commits h)
commits_apart [] = tt
commits_apart (m ∷ h) = go (commits_apart h) m.body
  where
    go : HasApart (λ (c : Kept). c.exec) (commits h) → (b : Body) → HasApart (λ (c : Kept). c.exec) (new_commit h b ++ commits h)
    go ih (Decide x ToCommit (Some k)) = apart_more (λ (c : Kept). c.exec) (is_none (decided h x)) (record { exec = x; content = k }) (commits h)
        (λ e c i z. undecided_commit h c i (subst (λ (y : Exec). is_none (decided h y) ≡ true) (sym z) e)) ih
    go ih (Decide x ToCommit None) = ih
    go ih (Decide x Abandon o) = ih
    go ih _ = ih

not_found : (x : Exec) (cs : List Cast) → is_none (cast_on x cs) ≡ true → (c : Cast) → IsIn c cs → c.exec ≡ x → ⊥
not_found x [] n c i e = i
not_found x (y ∷ cs) n c i e = go (not_found x cs) (same_exec x y.exec) refl n i
  where
    go : (is_none (cast_on x cs) ≡ true → (c : Cast) → IsIn c cs → c.exec ≡ x → ⊥) → (t : Bool) → same_exec x y.exec ≡ t →
        is_none (cond t (Some y) (cast_on x cs)) ≡ true → (c ≡ y) ⊎ IsIn c cs → ⊥
    go ih true q n i = true_false (sym n)
    go ih false q n (inl z) = true_false (sym (subst (λ (u : Exec). same_exec x u ≡ true) (sym e ∙ ap (λ (u : Cast). u.exec) z) (same_exec_refl x)) ∙ q)
    go ih false q n (inr j) = ih n c j e

may_vote_first : (h : Handled) (x : Exec) → may_vote h (casts h) x ≡ true → is_none (cast_on x (casts h)) ≡ true
unfolding may_vote
may_vote_first h x e = and_left (is_none (cast_on x (casts h))) _ (and_right (promised h x == 0) _ e)

casts_apart : (h : Handled) → HasApart (λ (c : Cast). c.exec) (casts h)
casts_apart [] = tt
casts_apart (m ∷ h) = go (casts_apart h) m.body
  where
    go : HasApart (λ (c : Cast). c.exec) (casts h) → (b : Body) → HasApart (λ (c : Cast). c.exec) (new_cast h (casts h) b ++ casts h)
    go ih (Prepare x k) =
        apart_more (λ (c : Cast). c.exec) (may_vote h (casts h) x) (record { exec = x; content = k; vote = verdict h (casts h) x k }) (casts h)
        (λ e c i z. not_found x (casts h) (may_vote_first h x e) c i z) ih
    go ih _ = ih

-- ---- the order

abbrev pub IsRisingByExec : List Kept → Type 0
IsRisingByExec cs = IsRisingBy (λ c d. exec_before c.exec d.exec) cs

put_of : (c : Kept) (ds : List Kept) (k : Kept) → IsIn k (put_kept c ds) → (k ≡ c) ⊎ IsIn k ds
put_of c [] k i = i
put_of c (d ∷ ds) k i = go (put_of c ds k) (exec_before c.exec d.exec) i
  where
    go : (IsIn k (put_kept c ds) → (k ≡ c) ⊎ IsIn k ds) → (t : Bool) → IsIn k (cond t (c ∷ d ∷ ds) (d ∷ put_kept c ds)) → (k ≡ c) ⊎ IsIn k (d ∷ ds)
    go ih true i = i
    go ih false (inl z) = inr (inl z)
    go ih false (inr i) = elim (ih i) [ inl z ↦ inl z | inr j ↦ inr (inr j) ]

other_before : (x y : Exec) → exec_before x y ≡ false → (y ≡ x → ⊥) → exec_before y x ≡ true
other_before x y e n = go (exec_before y x) refl
  where
    go : (t : Bool) → exec_before y x ≡ t → exec_before y x ≡ true
    go true q = q
    go false q = absurd (n (exec_before_total.total y x q e))

put_rising : (c : Kept) (ds : List Kept) → ((d : Kept) → IsIn d ds → d.exec ≡ c.exec → ⊥) → IsRisingByExec ds → IsRisingByExec (put_kept c ds)
put_rising c [] n r = (λ d i. absurd i, tt)
put_rising c (d ∷ ds) n r = go (put_rising c ds (λ e i. n e (inr i)) r.1) (exec_before c.exec d.exec) refl
  where
    go : IsRisingByExec (put_kept c ds) → (t : Bool) → exec_before c.exec d.exec ≡ t → IsRisingByExec (cond t (c ∷ d ∷ ds) (d ∷ put_kept c ds))
    go ih true q = (
      λ e i. elim i [
        | inl z ↦ subst (λ (y : Kept). exec_before c.exec y.exec ≡ true) (sym z) q
        | inr j ↦ exec_before_total.transitive c.exec d.exec e.exec q (r.0 e j)
      ],
      r,
    )
    go ih false q = (
      λ e i. elim (put_of c ds e i) [
        | inl z ↦ subst (λ (y : Kept). exec_before d.exec y.exec ≡ true) (sym z) (other_before c.exec d.exec q (n d (inl refl)))
        | inr j ↦ r.0 e j
      ],
      ih,
    )

sorted_rising : (cs : List Kept) → HasApart (λ (c : Kept). c.exec) cs → IsRisingByExec (sorted_kept cs)
sorted_rising [] d = tt
sorted_rising (c ∷ cs) d = put_rising c (sorted_kept cs)
    (λ e i z. d.0 (subst (λ (y : Exec). IsIn y (map (λ (k : Kept). k.exec) cs)) z (map_in (λ (k : Kept). k.exec) cs e (of_sorted cs e i))))
    (sorted_rising cs d.1)

pub committed_rising : (h : Handled) (version : Version) → IsRisingByExec (committed_upto h version)
unfolding committed_upto
committed_rising h version = sorted_rising _ (apart_filter (λ (c : Kept). c.exec) _ (commits h) (commits_apart h))

pub voted_rising : (h : Handled) (version : Version) → IsRisingByExec (voted_upto h version)
unfolding voted_upto
voted_rising h version = sorted_rising _ (as_kept _ (apart_filter (λ (c : Cast). c.exec) _ (casts h) (casts_apart h)))
  where
    names : (cs : List Cast) → map (λ (k : Kept). k.exec) (map (λ (y : Cast). record { exec = y.exec; content = y.content }) cs) ≡ map (λ (y : Cast). y.exec) cs
    names [] = refl
    names (c ∷ cs) = ap (λ (l : List Exec). c.exec ∷ l) (names cs)

    as_kept : (cs : List Cast) → HasApart (λ (c : Cast). c.exec) cs →
        HasApart (λ (k : Kept). k.exec) (map (λ (y : Cast). record { exec = y.exec; content = y.content }) cs)
    as_kept cs d = subst HasNoRepeats (sym (names cs)) d
