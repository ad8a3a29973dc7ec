-- The list of the committed executions of a world is the one list that has each of them once.
use Rattle.std.proofs.Common.{◌≡◌, ◌<◌, ◌⊎◌, inl, inr, refl, ap, sym, ◌∙◌, subst, true, false, Bool, cond, List, [], ◌∷◌, Option, Some, None, arith}
use Rattle.std.specs.Prelude.{flat_map, find}
use Rattle.std.proofs.lemmas.Bool.Decides.{nat_tests}
use Rattle.morty_base.proofs.Orders.{exec_before_total}
use Rattle.protocol.specs.Words.{Exec, Version, Body, Envelope, Choice, Abandon, ToCommit, Prepare, before, same_version, same_exec, exec_before}
use Rattle.protocol.specs.Lists.{IsIn}
use Rattle.protocol.specs.Client.State.{Attempt}
use Rattle.protocol.specs.World.State.{Plan, World}
use Rattle.protocol.specs.World.Decided.{decided_by, WasSent, Committed, IsOf}
use Rattle.protocol.specs.World.Committed.{nodes, is_commit_choice, is_committed, CommittedExec, put_committed, sorted_committed, attempt_at, of_attempt, committed_in, committed_executions}
use Rattle.protocol.proofs.NamesLemmas.{exec_is, same_version_tells}
use Rattle.protocol.proofs.ListsLemmas.{flat_map_in, IsIn-flat_map}
use Rattle.protocol.proofs.TestLemmas.{true_false}
use Rattle.law_steps.proofs.VotesLemmas.{any_true, any_in}
use Rattle.law_steps.proofs.Reach.{Reach}
use Rattle.law_steps.proofs.AlwaysLemmas.{always}
use Rattle.law_safety.specs.CommittedList.{IsRisingByExec, IsCommittedAs, IsCommittedList, CommittedList, CommittedListOf}
use Rattle.law_safety.proofs.OneContent.{same_prepared}
use Rattle.law_safety.proofs.CommitIsSent.{committed_sent}
use Rattle.law_safety.proofs.OneExecution.{committed_prepared}
use Rattle.law_safety.proofs.OneTry.{tried, one_attempt}
use Rattle.law_safety.proofs.RisingLemmas.{IsStrict, same_members}
use Rattle.law_safety.proofs.Absent.{decider}

-- the order of executions
exec_chain : (x y z : Exec) → exec_before x y ≡ true → exec_before y z ≡ true → exec_before x z ≡ true
exec_chain x y z p q = exec_before_total.transitive x y z p q

exec_itself : (x : Exec) → exec_before x x ≡ false
exec_itself x = exec_before_total.irreflexive x

exec_after : (x y : Exec) → exec_before x y ≡ false → same_exec x y ≡ false → exec_before y x ≡ true
unfolding exec_before before same_version same_exec
exec_after x y p q = grind (arith, nat_tests)

execs_strict : IsStrict (λ (c d : CommittedExec). exec_before c.exec d.exec)
execs_strict = record { itself = λ c. exec_itself c.exec; chain = λ c d e. exec_chain c.exec d.exec e.exec }

-- what stands in the sorted list
put_from : (c d : CommittedExec) (cs : List CommittedExec) → IsIn d (put_committed c cs) → (d ≡ c) ⊎ IsIn d cs
put_from c d [] i = i
put_from c d (e ∷ cs) i = go (put_from c d cs) (exec_before c.exec e.exec) (same_exec c.exec e.exec) i
  where
    go : (IsIn d (put_committed c cs) → (d ≡ c) ⊎ IsIn d cs) → (t u : Bool) → IsIn d (cond t (c ∷ e ∷ cs) (cond u (e ∷ cs) (e ∷ put_committed c cs))) →
        (d ≡ c) ⊎ IsIn d (e ∷ cs)
    go ih true u i = i
    go ih false true i = inr i
    go ih false false (inl z) = inr (inl z)
    go ih false false (inr i) = elim (ih i) [ inl z ↦ inl z | inr j ↦ inr (inr j) ]

put_stays : (c d : CommittedExec) (cs : List CommittedExec) → IsIn d cs → IsIn d (put_committed c cs)
put_stays c d [] i = absurd i
put_stays c d (e ∷ cs) i = go (put_stays c d cs) (exec_before c.exec e.exec) (same_exec c.exec e.exec) i
  where
    go : (IsIn d cs → IsIn d (put_committed c cs)) → (t u : Bool) → IsIn d (e ∷ cs) → IsIn d (cond t (c ∷ e ∷ cs) (cond u (e ∷ cs) (e ∷ put_committed c cs)))
    go ih true u i = inr i
    go ih false true i = i
    go ih false false (inl z) = inl z
    go ih false false (inr i) = inr (ih i)

-- an execution of the list
Lists : List CommittedExec → Exec → Type 0
Lists cs x = (c : CommittedExec) × IsIn c cs × (c.exec ≡ x)

put_lists : (c : CommittedExec) (cs : List CommittedExec) → Lists (put_committed c cs) c.exec
unfolding Lists
put_lists c [] = (c, inl refl, refl)
put_lists c (e ∷ cs) = go (put_lists c cs) (exec_before c.exec e.exec) (same_exec c.exec e.exec) refl
  where
    go : Lists (put_committed c cs) c.exec → (t u : Bool) → same_exec c.exec e.exec ≡ u →
        Lists (cond t (c ∷ e ∷ cs) (cond u (e ∷ cs) (e ∷ put_committed c cs))) c.exec
    go ih true u f = (c, inl refl, refl)
    go ih false true f = (e, inl refl, sym (exec_is c.exec e.exec f))
    go ih false false f = (ih.0, inr ih.1, ih.2)

put_ordered : (c : CommittedExec) (cs : List CommittedExec) → IsRisingByExec cs → IsRisingByExec (put_committed c cs)
put_ordered c [] r = (λ d i. absurd i, tt)
put_ordered c (e ∷ cs) r = go (put_ordered c cs r.1) (exec_before c.exec e.exec) refl (same_exec c.exec e.exec) refl
  where
    go : IsRisingByExec (put_committed c cs) → (t : Bool) → exec_before c.exec e.exec ≡ t → (u : Bool) → same_exec c.exec e.exec ≡ u →
        IsRisingByExec (cond t (c ∷ e ∷ cs) (cond u (e ∷ cs) (e ∷ put_committed c cs)))
    go ih true f u g = (λ d i. elim i [ inl z ↦ subst (λ (y : CommittedExec). exec_before c.exec y.exec ≡ true) (sym z) f | inr j ↦ exec_chain c.exec e.exec d.exec f (r.0 d j) ], r)
    go ih false f true g = r
    go ih false f false g = (λ d i. elim (put_from c d cs i) [ inl z ↦ subst (λ (y : CommittedExec). exec_before e.exec y.exec ≡ true) (sym z) (exec_after c.exec e.exec f g) | inr j ↦ r.0 d j ], ih)

sorted_from : (d : CommittedExec) (cs : List CommittedExec) → IsIn d (sorted_committed cs) → IsIn d cs
sorted_from d [] i = i
sorted_from d (c ∷ cs) i = elim (put_from c d (sorted_committed cs) i) [ inl z ↦ inl z | inr j ↦ inr (sorted_from d cs j) ]

sorted_lists : (d : CommittedExec) (cs : List CommittedExec) → IsIn d cs → Lists (sorted_committed cs) d.exec
unfolding Lists
sorted_lists d [] i = absurd i
sorted_lists d (c ∷ cs) (inl z) =
    subst (λ (y : CommittedExec). Lists (put_committed c (sorted_committed cs)) y.exec) (sym z) (put_lists c (sorted_committed cs))
sorted_lists d (c ∷ cs) (inr i) = let h = sorted_lists d cs i in (h.0, put_stays c h.0 (sorted_committed cs) h.1, h.2)

sorted_ordered : (cs : List CommittedExec) → IsRisingByExec (sorted_committed cs)
sorted_ordered [] = tt
sorted_ordered (c ∷ cs) = put_ordered c (sorted_committed cs) (sorted_ordered cs)

-- the attempt that is found at a version
attempt_found : (v : Version) (as' : List Attempt) (a : Attempt) → find (λ (b : Attempt). same_version v b.ver) as' ≡ Some a → IsIn a as' × (a.ver ≡ v)
attempt_found v [] a e = cc
attempt_found v (b ∷ bs) a e = go (attempt_found v bs a) (same_version v b.ver) (same_version_tells v b.ver) e
  where
    go : (find (λ (b : Attempt). same_version v b.ver) bs ≡ Some a → IsIn a bs × (a.ver ≡ v)) → (t : Bool) →
        ((t ≡ true) × (v ≡ b.ver)) ⊎ ((t ≡ false) × ((v ≡ b.ver) → ⊥)) → cond t (Some b) (find (λ (b : Attempt). same_version v b.ver) bs) ≡ Some a →
        IsIn a (b ∷ bs) × (a.ver ≡ v)
    go ih true (inl p) e = let f : b ≡ a = cc in (inl (sym f), ap (λ (y : Attempt). y.ver) (sym f) ∙ sym p.1)
    go ih true (inr p) e = absurd (true_false p.0)
    go ih false p e = let k = ih e in (inr k.0, k.1)

attempt_finds : (v : Version) (as' : List Attempt) (a : Attempt) → IsIn a as' → a.ver ≡ v →
    (b : Attempt) × (find (λ (b : Attempt). same_version v b.ver) as' ≡ Some b)
attempt_finds v [] a i e = absurd i
attempt_finds v (b ∷ bs) a i e = go (attempt_finds v bs a) (same_version v b.ver) (same_version_tells v b.ver) i
  where
    go : (IsIn a bs → a.ver ≡ v → (c : Attempt) × (find (λ (b : Attempt). same_version v b.ver) bs ≡ Some c)) → (t : Bool) →
        ((t ≡ true) × (v ≡ b.ver)) ⊎ ((t ≡ false) × ((v ≡ b.ver) → ⊥)) → IsIn a (b ∷ bs) →
        (c : Attempt) × (cond t (Some b) (find (λ (b : Attempt). same_version v b.ver) bs) ≡ Some c)
    go ih true p i = (b, refl)
    go ih false (inl p) i = absurd (true_false (sym p.0))
    go ih false (inr p) (inl z) = absurd (p.1 (sym e ∙ ap (λ (y : Attempt). y.ver) z))
    go ih false (inr p) (inr i) = ih i e

commit_choice : (o : Option Choice) → is_commit_choice o ≡ true → o ≡ Some ToCommit
commit_choice None e = cc
commit_choice (Some Abandon) e = cc
commit_choice (Some ToCommit) e = refl

module _ (p : Plan) (pos : 0 < p.replicas) (w : World) (q : Reach p w) where
  is_committed_true : (x : Exec) → Committed w x → is_committed p w x ≡ true
  unfolding is_committed
  is_committed_true x c =
      any_in (λ node. is_commit_choice (decided_by w node x)) (nodes p) c.node (decider p w q c.node x ToCommit c.decides) (ap is_commit_choice c.decides)

  is_committed_of : (x : Exec) → is_committed p w x ≡ true → Committed w x
  unfolding is_committed
  is_committed_of x e = let n = any_true (λ node. is_commit_choice (decided_by w node x)) (nodes p) e in record { node = n.0; decides = commit_choice (decided_by w n.0 x) n.2 }

  -- what a body of the mail tells as committed
  told_by : (b : Body) → WasSent w b → (c : CommittedExec) → IsIn c (committed_in p w b) → IsCommittedAs w c
  told_by (Prepare x k) t c i = go (is_committed p w x) refl (attempt_at w x.ver) refl i
    where
      go : (z : Bool) → is_committed p w x ≡ z → (o : Option Attempt) → attempt_at w x.ver ≡ o → IsIn c (cond z (of_attempt x k o) []) → IsCommittedAs w c
      go true e (Some a) f (inl z) =
          let g = attempt_found x.ver (w.client x.ver.client).attempts a f in
          subst (λ (y : CommittedExec). IsCommittedAs w y) (sym z) (record { committed = is_committed_of x e; prepared = t; attempt = a; of_attempt = record { begun = g.0; version = g.1 }; txn = refl; try = refl })
      go true e (Some a) f (inr i) = absurd i
      go true e None f i = absurd i
      go false e o f i = absurd i
  told_by _ t c i = absurd i

  pub listed_only : (c : CommittedExec) → IsIn c (committed_executions p w) → IsCommittedAs w c
  unfolding committed_executions
  listed_only c i =
      let m =
      IsIn-flat_map (λ (m : Envelope). committed_in p w m.body) c w.mail (sorted_from c (flat_map (λ (m : Envelope). committed_in p w m.body) w.mail) i) in
      told_by m.0.body (record { envelope = m.0; there = m.1; body = refl }) c m.2

  pub listed_all : (x : Exec) → Committed w x → (c : CommittedExec) × IsIn c (committed_executions p w) × (c.exec ≡ x)
  unfolding committed_executions Lists
  listed_all x c =
      let k = committed_prepared p pos w q x (committed_sent p pos w q x c) in
      let a = tried p pos w q x c in
      let b = attempt_finds x.ver (w.client x.ver.client).attempts a.0 a.1.begun a.1.version in
      let row : CommittedExec = record { exec = x; content = k.0; txn = b.0.txn; try = b.0.try } in
      let here : IsIn row (committed_in p w (Prepare x k.0)) =
      subst (λ (z : Bool). IsIn row (cond z (of_attempt x k.0 (attempt_at w x.ver)) [])) (sym (is_committed_true x c))
      (subst (λ (o : Option Attempt). IsIn row (of_attempt x k.0 o)) (sym b.1) (inl refl)) in
      sorted_lists row (flat_map (λ (m : Envelope). committed_in p w m.body) w.mail)
      (flat_map_in (λ (m : Envelope). committed_in p w m.body) w.mail k.1.envelope row k.1.there (subst (λ (y : Body). IsIn row (committed_in p w y)) (sym k.1.body) here))

  listed_rising : IsRisingByExec (committed_executions p w)
  unfolding committed_executions
  listed_rising = sorted_ordered (flat_map (λ (m : Envelope). committed_in p w m.body) w.mail)

  listed : IsCommittedList w (committed_executions p w)
  listed = record { rising = listed_rising; only = listed_only; all = listed_all }

  -- a committed execution has one content, one transaction and one try
  as_one : (c d : CommittedExec) → IsCommittedAs w c → IsCommittedAs w d → c.exec ≡ d.exec → c ≡ d
  as_one c d i j e =
      let k : c.content ≡ d.content =
      same_prepared p w q d.exec c.content d.content (subst (λ (x : Exec). WasSent w (Prepare x c.content)) e i.prepared) j.prepared in
      let a : i.attempt ≡ j.attempt = one_attempt p pos w q d.exec i.attempt j.attempt (subst (λ (x : Exec). IsOf w x i.attempt) e i.of_attempt) j.of_attempt in
      let n = i.txn ∙ ap (λ (y : Attempt). y.txn) a ∙ sym j.txn in
      let t = i.try ∙ ap (λ (y : Attempt). y.try) a ∙ sym j.try in
      λ z. record { exec = e z; content = k z; txn = n z; try = t z }

  listed_in : (cs ds : List CommittedExec) → IsCommittedList w cs → IsCommittedList w ds → (c : CommittedExec) → IsIn c cs → IsIn c ds
  listed_in cs ds a b c i =
      let m = a.only c i in let d = b.all c.exec m.committed in
      subst (λ (y : CommittedExec). IsIn y ds) (as_one d.0 c (b.only d.0 d.1) m d.2) d.1

  listed_one : (cs : List CommittedExec) → IsCommittedList w cs → cs ≡ committed_executions p w
  listed_one cs a = same_members (λ (c d : CommittedExec). exec_before c.exec d.exec) execs_strict cs (committed_executions p w) a.rising listed_rising (listed_in cs (committed_executions p w) a listed) (listed_in (committed_executions p w) cs listed a)

pub committed_list : CommittedList
committed_list = always CommittedListOf (λ p some w q. record { holds = listed p some w q; one = listed_one p some w q })
