-- What replicas hold, say and vote about a transaction whose keys no other names, where no warden acts.
use Rattle.std.proofs.Common.{◌≡◌, ℕ, ◌<◌, ◌⊎◌, inl, inr, refl, ap, sym, ◌∙◌, subst, true, false, Bool, List, [], ◌∷◌, Option, Some, None}
use Rattle.std.specs.Prelude.{cond, ◌&&◌, ◌||◌, max, suc}
use Rattle.std.specs.List.{list_any}
use Rattle.protocol.specs.Words.{Exec, Key, Version, NodeId, Client, Replica, Warden, BaseEntry, Envelope, Body, Puts, Prepare, Finalize, Ask, Fence, Drops, Content, Kept, Read, Write, Commit, no_version, before, same_key, same_exec}
use Rattle.protocol.specs.declared.Held.{Held}
use Rattle.std.specs.Bool.{then_some}
use Rattle.std.specs.Option.{option_or}
use Rattle.protocol.specs.Lists.{IsIn}
use Rattle.protocol.specs.Replica.Taken.{Handled, later, dropped, dropped_by, fence, fenced_by, base}
use Rattle.protocol.specs.Replica.Acceptor.{promised, view_for, commits}
use Rattle.protocol.specs.Replica.Held.{first_held, latest, last_write}
use Rattle.protocol.specs.Replica.Votes.{Cast, casts, new_cast, verdict, conflicts, misses, writes_key, clashes_with_commit, clashes_with_vote, conflicts_with_base}
use Rattle.protocol.specs.Client.State.{Attempt, ClientState}
use Rattle.protocol.specs.World.State.{Plan, World}
use Rattle.protocol.specs.World.Decided.{WasSent, IsOf}
use Rattle.protocol.proofs.TestLemmas.{true_false, and_left, and_right}
use Rattle.protocol.proofs.ListsLemmas.{IsIn-cases, at_same}
use Rattle.protocol.proofs.NamesLemmas.{key_is, before_self}
use Rattle.law_steps.proofs.TakenLemmas.{no_base, cast_is}
use Rattle.law_steps.proofs.ReplicaFacts.{RFact, facts_reach}
use Rattle.law_steps.proofs.KnownLemmas.{commit_taken, cast_taken}
use Rattle.law_steps.proofs.ClientActs.{IsRunning}
use Rattle.law_steps.proofs.PhaseLemmas.{running_under_way}
use Rattle.law_steps.proofs.Reach.{Reach}
use Rattle.law_steps.proofs.Reach.From.{Begins, Next}
use Rattle.law_steps.proofs.ClientFacts.{CFact, client_facts_reach, rec_reach}
use Rattle.law_steps.proofs.VotesLemmas.{any_true}
use Rattle.law_safety.proofs.OneContent.{contents_reach}
use Rattle.law_steps.proofs.Origin.{Origin, origin}
use Rattle.law_steps.proofs.Origin.Origin.{Old, Of_replica, Of_client, Of_warden}
use Rattle.law_steps.proofs.TryRec.{try_rec}
use Rattle.law_safety.proofs.OneExecution.{kept_attempt}
use Rattle.law_safety.proofs.HeldLemmas.{latest_is, HeldCase, kept_taken}
use Rattle.law_safety.proofs.HeldLemmas.HeldCase.{Is_first, Of_base, Of_commit, Of_put}
use Rattle.law_safety.proofs.ContentsReplayed.{replayed}
use Rattle.law_progress.specs.Apart.{HasReadOf, HasWriteOf, Names, IsNamedFor, IsApart}
use Rattle.law_progress.proofs.CalmWardens.{IsCalm}

-- a body that asks for no promise, fences and drops nothing
abbrev pub IsTame : Body → Type 0
IsTame (Drops u bs) = ⊥
IsTame (Fence u) = ⊥
IsTame (Ask x u) = ⊥
IsTame (Finalize x u d o) = u ≡ 0
IsTame _ = Unit {0}

-- each of the list is so
abbrev pub AllTame : Handled → Type 0
AllTame h = (m : Envelope) → IsIn m h → IsTame m.body

tame_tail : (m : Envelope) (h : Handled) → AllTame (m ∷ h) → AllTame h
tame_tail m h t n i = t n (inr i)

latest_none : (u : Version) → u ≡ no_version → later no_version u ≡ no_version
latest_none u e = subst (λ (z : Version). later no_version z ≡ no_version) (sym e) (go (before no_version no_version))
  where
    go : (t : Bool) → cond t no_version no_version ≡ no_version
    go true = refl
    go false = refl

pub tame_dropped : (h : Handled) → AllTame h → dropped h ≡ no_version
tame_dropped [] t = refl
tame_dropped (m ∷ h) t = ap (λ (u : Version). later u (dropped_by m.body)) (tame_dropped h (tame_tail m h t))
    ∙ latest_none (dropped_by m.body) (go m.body (t m (inl refl)))
  where
    go : (b : Body) → IsTame b → dropped_by b ≡ no_version
    go (Drops u bs) f = absurd f
    go _ f = refl

tame_fence : (h : Handled) → AllTame h → fence h ≡ no_version
tame_fence [] t = refl
tame_fence (m ∷ h) t = ap (λ (u : Version). later u (fenced_by m.body)) (tame_fence h (tame_tail m h t))
    ∙ latest_none (fenced_by m.body) (go m.body (t m (inl refl)))
  where
    go : (b : Body) → IsTame b → fenced_by b ≡ no_version
    go (Drops u bs) f = absurd f
    go (Fence u) f = absurd f
    go _ f = refl

pub tame_promised : (h : Handled) (x : Exec) → AllTame h → promised h x ≡ 0
tame_promised [] x t = refl
tame_promised (m ∷ h) x t = ap (λ (u : ℕ). max u (view_for x m.body)) (tame_promised h x (tame_tail m h t))
    ∙ ap (λ (u : ℕ). max 0 u) (go m.body (t m (inl refl)))
  where
    zeros : (t : Bool) (u : ℕ) → u ≡ 0 → cond t u 0 ≡ 0
    zeros true u e = e
    zeros false u e = refl

    go : (b : Body) → IsTame b → view_for x b ≡ 0
    go (Ask y u) f = absurd f
    go (Finalize y u d o) f = zeros (same_exec x y) u f
    go _ f = refl

tame_base : (h : Handled) → AllTame h → base h ≡ []
tame_base h t = no_base h (subst (λ (u : Version). before no_version u ≡ false) (sym (tame_dropped h t)) (before_self no_version))

-- a test that no element passes
none_any : {A : Type 0} (f : A → Bool) (xs : List A) → ((a : A) → IsIn a xs → f a ≡ true → ⊥) → list_any f xs ≡ false
none_any f xs n = go (list_any f xs) refl
  where
    go : (t : Bool) → list_any f xs ≡ t → t ≡ false
    go false e = refl
    go true e = let k = any_true f xs e in absurd (n k.0 k.1 k.2)

pub has_write : (k : Key) (ws : List Write) → writes_key k ws ≡ true → HasWriteOf k ws
has_write k ws e = let a = any_true (λ (w : Write). same_key k w.key) ws e in (a.0, a.1, sym (key_is k a.0.key a.2))

wrote : (x : Exec) (s : Bool) (i : ℕ) (k : Key) (ws : List Write) (a : Held) → last_write x s i k ws ≡ Some a → HasWriteOf k ws × (a.wid.ver ≡ x.ver)
wrote x s i k [] a e = cc
wrote x s i k (u ∷ us) a e = go (λ z. wrote x s (suc i) k us a z) (last_write x s (suc i) k us) refl (same_key k u.key) refl e
  where
    go : (last_write x s (suc i) k us ≡ Some a → HasWriteOf k us × (a.wid.ver ≡ x.ver)) → (o : Option Held) → last_write x s (suc i) k us ≡ o → (t : Bool) →
        same_key k u.key ≡ t
        → option_or o (then_some t (record { wid = record { ver = x.ver; eid = x.eid; seq = i }; value = u.value; sure = s })) ≡ Some a →
        HasWriteOf k (u ∷ us) × (a.wid.ver ≡ x.ver)
    go ih (Some b) q t z e = let r = ih (q ∙ e) in ((r.0.0, inr r.0.1, r.0.2), r.1)
    go ih None q true z e = ((u, inl refl, sym (key_is k u.key z)), let f : record { wid = record { ver = x.ver; eid = x.eid; seq = i }; value = u.value; sure = s } ≡ a = cc in ap (λ (y : Held). y.wid.ver) (sym f))
    go ih None q false z e = cc

-- what was put is of an attempt
pub puts_attempt : (p : Plan) (w : World) → Reach p w → (x : Exec) (ws : List Write) → WasSent w (Puts x ws) → (a : Attempt) × IsOf w x a
puts_attempt p _ Begins x ws t = absurd t.there
puts_attempt p _ (Next w w' q st) x ws t = go (λ z. puts_attempt p w q x ws z) (origin p w w' q st _ t)
  where
    go : (WasSent w (Puts x ws) → (a : Attempt) × IsOf w x a) → Origin p w w' (Puts x ws) → (a : Attempt) × IsOf w' x a
    go ih (Old z) = let h = ih z in (h.0, record { begun = kept_attempt p w w' q st x.ver.client h.0 h.1.begun; version = h.1.version })
    go ih (Of_replica r f) = absurd f
    go ih (Of_warden j a i e f) = absurd f
    go ih (Of_client cs i) =
        let n = cs.writes.puts x ws i in
        let state : w'.client cs.c ≡ cs.state = ap (λ (f : ℕ → ClientState). f cs.c) cs.client ∙ at_same cs.c cs.state w.client in
        let q' : Reach p w' = Next w w' q st in
        let run : IsRunning (w'.client cs.c).phase = subst (λ (z : ClientState). IsRunning z.phase) (sym state) n.1 in
        let here : x ≡ (w'.client cs.c).exec = n.0 ∙ ap (λ (z : ClientState). z.exec) (sym state) in
        let mine : x.ver.client ≡ cs.c = ap (λ (y : Exec). y.ver.client) here ∙ (rec_reach p w' q' cs.c).own (running_under_way _ run) in
        let h = (try_rec p w' q' cs.c).has (inl (running_under_way _ run)) in
        (h.0, record { begun = subst (λ (j : ℕ). IsIn h.0 (w'.client j).attempts) (sym mine) h.1; version = h.2 ∙ ap (λ (y : Exec). y.ver) (sym here) })

module _ (p : Plan) (pos : 0 < p.replicas) (w : World) (q : Reach p w) (calm : IsCalm w) where
  -- what was sent came from a client or a replica
  sent_by : (m : Envelope) → IsIn m w.mail → ((c : ℕ) × CFact c (w.client c) m.body) ⊎ ((r : ℕ) × RFact r (w.replica r) m.body)
  sent_by m i = go m.from refl
    where
      go : (n : NodeId) → m.from ≡ n → ((c : ℕ) × CFact c (w.client c) m.body) ⊎ ((r : ℕ) × RFact r (w.replica r) m.body)
      go (Client c) e = inl (c, (client_facts_reach p w q).said m c i e)
      go (Replica r) e = inr (r, (facts_reach p w q).said m r i e)
      go (Warden k) e = absurd (calm.silent m i k e)

  pub tame_mail : (m : Envelope) → IsIn m w.mail → IsTame m.body
  tame_mail m i = go m.body (sent_by m i)
    where
      go : (b : Body) → ((c : ℕ) × CFact c (w.client c) b) ⊎ ((r : ℕ) × RFact r (w.replica r) b) → IsTame b
      go (Drops u bs) (inl f) = f.1
      go (Drops u bs) (inr f) = f.1
      go (Fence u) (inl f) = f.1
      go (Fence u) (inr f) = f.1
      go (Ask x u) (inl f) = f.1
      go (Ask x u) (inr f) = f.1
      go (Finalize x u d o) (inl f) = f.1.0
      go (Finalize x u d o) (inr f) = absurd f.1
      go _ f = tt

  module _ (c n : ℕ) (apart : IsApart w c n) (a : Attempt) (begun : IsIn a (w.client c).attempts) (txn : a.txn ≡ n) (client : a.ver.client
      ≡ c) (only : (b : Attempt) → IsIn b (w.client c).attempts → b.txn ≡ n → b.ver ≡ a.ver) where
    -- what an execution of this version names, the transaction names
    pub own : (x : Exec) (b : Body) (k : Key) → x.ver ≡ a.ver → WasSent w b → Names b x k → IsNamedFor w c n k
    own x b k e t m = record {
      exec = x;
      body = b;
      sent = t;
      names = m;
      attempt = a;
      of = record { begun = subst (λ (j : ℕ). IsIn a (w.client j).attempts) (sym (ap (λ (v : Version). v.client) e ∙ client)) begun; version = sym e };
      client = ap (λ (v : Version). v.client) e ∙ client;
      txn = txn;
    }

    -- and what names such a key is of this version
    same : (y : Exec) (b : Body) (k : Key) → IsNamedFor w c n k → WasSent w b → Names b y k → (z : Attempt) → IsOf w y z → y.ver ≡ a.ver
    same y b k mine t m z of =
        let s = apart k mine y.ver.client z.txn (record { exec = y; body = b; sent = t; names = m; attempt = z; of = of; client = refl; txn = refl }) in
        sym of.version ∙ only z (subst (λ (j : ℕ). IsIn z (w.client j).attempts) s.0 of.begun) s.1

    put_same : (y : Exec) (ws : List Write) (k : Key) → IsNamedFor w c n k → WasSent w (Puts y ws) → HasWriteOf k ws → y.ver ≡ a.ver
    put_same y ws k mine t m = let o = puts_attempt p w q y ws t in same y (Puts y ws) k mine t (refl, m) o.0 o.1

    prepare_same : (y : Exec) (l : Content) (k : Key) → IsNamedFor w c n k → WasSent w (Prepare y l) → HasReadOf k l.reads ⊎ HasWriteOf k l.writes →
        y.ver ≡ a.ver
    prepare_same y l k mine t m = let o = replayed p w q y l t in same y (Prepare y l) k mine t (refl, m) o.0 o.1

    not_below : (y : Exec) → y.ver ≡ a.ver → before y.ver a.ver ≡ true → ⊥
    not_below y e b = true_false (sym (subst (λ (v : Version). before v a.ver ≡ true) e b) ∙ before_self a.ver)

    module _ (h : Handled) (sent : (m : Envelope) → IsIn m h → IsIn m w.mail) where
      tame : AllTame h
      tame m i = tame_mail m (sent m i)

      committed_sent : (k : Kept) → IsIn k (commits h) → WasSent w (Prepare k.exec k.content)
      committed_sent k i = let t = commit_taken h k i in
          (contents_reach p pos w q).from t.0.body k.exec k.content t.2 (record { envelope = t.0; there = sent t.0 t.1; body = refl })

      cast_sent : (k : Cast) → IsIn k (casts h) → WasSent w (Prepare k.exec k.content)
      cast_sent k i = let t = cast_taken h k i in
          (contents_reach p pos w q).from t.0.body k.exec k.content t.2 (record { envelope = t.0; there = sent t.0 t.1; body = refl })

      -- what this version sees of its keys is their first values
      pub sees_first : before no_version a.ver ≡ true → (k : Key) → IsNamedFor w c n k → latest p.firsts h k a.ver ≡ first_held p.firsts k
      sees_first above k mine = let l = latest_is p.firsts h k a.ver above in go l.0 l.1
        where
          go : before (latest p.firsts h k a.ver).wid.ver a.ver ≡ true → HeldCase p.firsts h k (latest p.firsts h k a.ver) →
              latest p.firsts h k a.ver ≡ first_held p.firsts k
          go b (Is_first e) = e
          go b (Of_base d i e f) = absurd (subst (λ (bs : List BaseEntry). IsIn d bs) (tame_base h tame) i)
          go b (Of_commit d i e) = let m = wrote d.exec true 1 k d.content.writes (latest p.firsts h k a.ver) e in
              absurd (not_below d.exec (prepare_same d.exec d.content k mine (committed_sent d i) (inr m.0)) (subst (λ (v : Version). before v a.ver
              ≡ true) m.1 b))
          go b (Of_put u d e f) =
              let m = wrote d.exec false 1 k d.writes (latest p.firsts h k a.ver) f in
              let t = kept_taken h u d e in
              absurd (not_below d.exec (put_same d.exec d.writes k mine (record { envelope = t.0; there = sent t.0 t.1; body = t.2 }) m.0) (subst (λ (v : Version). before v a.ver ≡ true) m.1 b))

      -- and nothing is in conflict with what it prepares
      no_clash : (x y : Exec) (k l : Content) → x.ver ≡ a.ver → WasSent w (Prepare x k) → WasSent w (Prepare y l) → conflicts x.ver k y.ver l ≡ true → ⊥
      unfolding conflicts
      no_clash x y k l e t u f = go (misses x.ver k y.ver l.writes) refl f
        where
          apart_from : (g : Key) → HasReadOf g k.reads ⊎ HasWriteOf g k.writes → HasReadOf g l.reads ⊎ HasWriteOf g l.writes → y.ver ≡ x.ver
          apart_from g m o = prepare_same y l g (own x (Prepare x k) g e t (refl, m)) u o ∙ sym e

          first : misses x.ver k y.ver l.writes ≡ true → ⊥
          first f =
              let r = any_true (λ (r : Read). before r.wid.ver y.ver && writes_key r.key l.writes) k.reads (and_right (before y.ver x.ver) _ f) in
              let s = apart_from r.0.key (inl (r.0, r.1, refl)) (inr (has_write r.0.key l.writes (and_right (before r.0.wid.ver y.ver) _ r.2))) in
              true_false (sym (subst (λ (v : Version). before v x.ver ≡ true) s (and_left (before y.ver x.ver) _ f)) ∙ before_self x.ver)

          second : misses y.ver l x.ver k.writes ≡ true → ⊥
          second f =
              let r = any_true (λ (r : Read). before r.wid.ver x.ver && writes_key r.key k.writes) l.reads (and_right (before x.ver y.ver) _ f) in
              let s = apart_from r.0.key (inr (has_write r.0.key k.writes (and_right (before r.0.wid.ver x.ver) _ r.2))) (inl (r.0, r.1, refl)) in
              true_false (sym (subst (λ (v : Version). before x.ver v ≡ true) s (and_left (before x.ver y.ver) _ f)) ∙ before_self x.ver)

          go : (t : Bool) → misses x.ver k y.ver l.writes ≡ t → (t || misses y.ver l x.ver k.writes) ≡ true → ⊥
          go true q f = first q
          go false q f = second f

      pub verdict_is_commit : (x : Exec) (k : Content) → before no_version a.ver ≡ true → x.ver ≡ a.ver → WasSent w (Prepare x k) →
          verdict h (casts h) x k ≡ Commit
      unfolding verdict
      verdict_is_commit x k above e t = rw (fenced, committed, based, voted) refl
        where
          fenced : before (fence h) x.ver ≡ true
          fenced = subst (λ (u : Version). before u x.ver ≡ true) (sym (tame_fence h tame)) (subst (λ (u : Version). before no_version u ≡ true) (sym e) above)

          committed : list_any (clashes_with_commit h x k) (commits h) ≡ false
          committed = none_any _ (commits h) (λ y i f. no_clash x y.exec k y.content e t (committed_sent y i) (and_right (before (dropped h) y.exec.ver) _ f))

          based : list_any (conflicts_with_base x.ver k) (base h) ≡ false
          based = ap (λ (bs : List BaseEntry). list_any (conflicts_with_base x.ver k) bs) (tame_base h tame)

          voted : list_any (clashes_with_vote h x k) (casts h) ≡ false
          voted = none_any _ (casts h) (λ y i f. no_clash x y.exec k y.content e t (cast_sent y i) (and_right _ _ (and_right _ _ (and_right (before (dropped h) y.exec.ver) _ f))))

    -- so each vote on an execution of this version is Commit
    pub casts_commit : before no_version a.ver ≡ true → (h : Handled) → ((m : Envelope) → IsIn m h → IsIn m w.mail) → (y : Cast) → IsIn y (casts h) →
        y.exec.ver ≡ a.ver → y.vote ≡ Commit
    casts_commit above [] sent y i e = absurd i
    casts_commit above (m ∷ h) sent y i e = elim (IsIn-cases y (new_cast h (casts h) m.body) (casts h) i) [
      | inl j ↦ let z = cast_is h m.body y j in z.1
          ∙ verdict_is_commit h (λ u k. sent u (inr k)) y.exec y.content above e (record { envelope = m; there = sent m (inl refl); body = z.0 })
      | inr j ↦ casts_commit above h (λ u k. sent u (inr k)) y j e
    ]
