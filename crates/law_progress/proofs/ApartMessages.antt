-- What comes to the client of a transaction whose keys no other names.
use Rattle.std.proofs.Common.{◌≡◌, ℕ, ℤ, ◌<◌, ◌⊎◌, inl, inr, refl, ap, sym, ◌∙◌, subst, true, false, Bool, Option, None}
use Rattle.std.proofs.lemmas.Bool.Decides.{Decides-int_eq}
use Rattle.protocol.specs.Words.{Exec, Key, Version, Wid, NodeId, Client, Replica, Warden, Envelope, Body, Get, Note, TooOld, Voted, Vote, Commit, no_version, before, same_wid}
use Rattle.protocol.specs.declared.Held.{Held}
use Rattle.protocol.specs.Lists.{IsIn}
use Rattle.protocol.specs.Replica.Taken.{Handled}
use Rattle.protocol.specs.Replica.Held.{first_held, first_value, latest}
use Rattle.protocol.specs.Replica.Readers.{same_held}
use Rattle.protocol.specs.Replica.Votes.{casts}
use Rattle.protocol.specs.Client.State.{Attempt}
use Rattle.protocol.specs.Client.Step.{is_warden}
use Rattle.protocol.specs.World.State.{Plan, World}
use Rattle.protocol.specs.World.Decided.{WasSent}
use Rattle.protocol.proofs.TestLemmas.{true_false}
use Rattle.law_steps.proofs.ReplicaFacts.{RFact, facts_reach}
use Rattle.law_steps.proofs.MailLemmas.{took_reach}
use Rattle.law_steps.proofs.PhaseLemmas.{warden_is}
use Rattle.law_steps.proofs.Reach.{Reach}
use Rattle.law_steps.proofs.ClientFacts.{CFact, client_facts_reach}
use Rattle.law_safety.proofs.LocksLemmas.{cast_found}
use Rattle.law_progress.specs.Apart.{IsApart, IsNamedFor}
use Rattle.law_progress.proofs.CalmWardens.{IsCalm}
use Rattle.law_progress.proofs.ApartReplicas.{own, sees_first, casts_commit, tame_mail, tame_dropped}
use Rattle.law_progress.proofs.NotesTold.{Told, NoteFrom, Within, told_reach, first_shape}

-- a transaction that no other shares a key with, in its only attempt
pub record IsOurs (w : World) (c n : ℕ) (a : Attempt) : Type 0 where
  pub apart : IsApart w c n
  pub begun : IsIn a (w.client c).attempts
  pub txn : a.txn ≡ n
  pub client : a.ver.client ≡ c
  pub only : (b : Attempt) → IsIn b (w.client c).attempts → b.txn ≡ n → b.ver ≡ a.ver
  pub above : before no_version a.ver ≡ true

same_itself : (u : ℤ) → same_held (first_value u) (first_value u) ≡ true
unfolding same_wid
same_itself u = rw ((Decides-int_eq u u).1 refl) refl

module _ (p : Plan) (pos : 0 < p.replicas) (w : World) (q : Reach p w) (calm : IsCalm w) where
  -- no warden says anything
  pub no_warden : (m : Envelope) → IsIn m w.mail → is_warden m.from ≡ true → ⊥
  no_warden m i e = let k = warden_is m.from e in calm.silent m i k.0 k.1

  -- what no client says, a replica said
  by_replica : (b : Body) → ((c : ℕ) → CFact c (w.client c) b → ⊥) → (t : WasSent w b) → (r : ℕ) × (t.envelope.from ≡ Replica r)
  by_replica b none t = go t.envelope.from refl
    where
      go : (g : NodeId) → t.envelope.from ≡ g → (r : ℕ) × (t.envelope.from ≡ Replica r)
      go (Client c) e = absurd (none c (subst (CFact c (w.client c)) t.body ((client_facts_reach p w q).said t.envelope c t.there e)))
      go (Replica r) e = (r, e)
      go (Warden k) e = absurd (calm.silent t.envelope t.there k e)

  module _ (c n : ℕ) (a : Attempt) (o : IsOurs w c n a) where
    in_mail : (r : ℕ) (g : Handled) → Within g (w.replica r) → Within g w.mail
    in_mail r g f m i = ((took_reach p w q).took r m (f m i)).0

    sees : (r : ℕ) (g : Handled) → Within g (w.replica r) → (k : Key) → IsNamedFor w c n k → latest p.firsts g k a.ver ≡ first_held p.firsts k
    sees r g f k mine = sees_first p pos w q calm c n o.apart a o.begun o.txn o.client o.only g (in_mail r g f) o.above k mine

    -- each Note to this version tells a first value, and names nothing as gone
    pub note_first : (v : Version) (k : Key) (wid : Wid) (value : ℤ) (s : Bool) (lost : Option Wid) → WasSent w (Note v k wid value s lost) → v ≡ a.ver →
        ((u : ℤ) × (record { wid = wid; value = value; sure = s } ≡ first_value u)) × (lost ≡ None)
    note_first v k wid value s lost t same =
        let r = by_replica (Note v k wid value s lost) (λ d f. f) t in
        let f = subst (Told p.firsts r.0 (w.replica r.0)) t.body ((told_reach p w q).said t.envelope r.0 t.there r.1) in
        by r.0 f (first_shape p.firsts k)
      where
        by : (r : ℕ) → NoteFrom p.firsts (w.replica r) v k wid value s lost → (u : ℤ) × (first_held p.firsts k ≡ first_value u) →
            ((u : ℤ) × (record { wid = wid; value = value; sure = s } ≡ first_value u)) × (lost ≡ None)
        by r f shape = ((shape.0, f.told ∙ first_of f.list f.within ∙ shape.1), gone f.gone)
          where
            mine : IsNamedFor w c n k
            mine = own p pos w q calm c n o.apart a o.begun o.txn o.client o.only f.asked.exec (Get f.asked.exec k) k (f.asked.version ∙ same)
                (record { envelope = f.asked.envelope; there = ((took_reach p w q).took r f.asked.envelope f.asked.there).0; body = f.asked.body }) (refl, refl)

            first_of : (g : Handled) → Within g (w.replica r) → latest p.firsts g k v ≡ first_held p.firsts k
            first_of g z = ap (λ (y : Version). latest p.firsts g k y) same ∙ sees r g z k mine

            gone : (lost ≡ None) ⊎ ((g : Handled) × Within g (w.replica r) × (same_held (latest p.firsts g k v) (latest p.firsts f.list k v) ≡ false)) →
                lost ≡ None
            gone (inl e) = e
            gone (inr g) = absurd (true_false (sym (same_itself shape.0)
                ∙ ap (λ (y : Held). same_held y (first_value shape.0)) (sym (first_of g.0 g.1 ∙ shape.1))
                ∙ ap (λ (y : Held). same_held (latest p.firsts g.0 k v) y) (sym (first_of f.list f.within ∙ shape.1)) ∙ g.2))

    -- it is never too old
    pub not_old : (v u : Version) → WasSent w (TooOld v u) → v ≡ a.ver → ⊥
    not_old v u t same =
        let r = by_replica (TooOld v u) (λ d f. f) t in
        let f = subst (Told p.firsts r.0 (w.replica r.0)) t.body ((told_reach p w q).said t.envelope r.0 t.there r.1) in
        let z = tame_dropped f.0 (λ m i. tame_mail p pos w q calm m (in_mail r.0 f.0 f.1 m i)) in
        true_false (sym o.above ∙ ap (λ (y : Version). before no_version y) (sym same) ∙ ap (λ (y : Version). before y v) (sym z) ∙ f.2)

    -- each vote on an execution of it is Commit
    pub vote_commits : (x : Exec) (v : Vote) → WasSent w (Voted x v) → x.ver ≡ a.ver → v ≡ Commit
    vote_commits x v t same =
        let r = by_replica (Voted x v) (λ d f. f) t in
        let f = subst (RFact r.0 (w.replica r.0)) t.body ((facts_reach p w q).said t.envelope r.0 t.there r.1) in
        let y = cast_found x (casts (w.replica r.0)) v f in
        sym y.3 ∙ casts_commit p pos w q calm c n o.apart a o.begun o.txn o.client o.only o.above (w.replica r.0) (λ m i. ((took_reach p w q).took r.0 m i).0) y.0 y.1 (ap (λ (z : Exec). z.ver) y.2 ∙ same)
