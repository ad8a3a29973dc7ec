-- What was prepared is what a program does on its answers.
use Rattle.std.proofs.Common.{◌≡◌, ℕ, inl, ap, sym, ◌∙◌, subst, Some}
use Rattle.protocol.specs.Words.{Exec, Ending, Content, Prepare}
use Rattle.protocol.specs.Lists.{IsIn}
use Rattle.protocol.specs.Client.State.{Attempt, ClientState, content, walk}
use Rattle.protocol.specs.World.State.{Plan, World, rules}
use Rattle.protocol.specs.World.Decided.{WasSent}
use Rattle.law_steps.proofs.PhaseLemmas.{running_under_way}
use Rattle.law_steps.proofs.Reach.{Reach}
use Rattle.law_steps.proofs.Reach.From.{Begins, Next}
use Rattle.law_steps.proofs.ClientFacts.{rec_reach}
use Rattle.law_steps.proofs.Origin.{Origin, origin}
use Rattle.law_steps.proofs.Origin.Origin.{Old, Of_replica, Of_client, Of_warden}
use Rattle.law_steps.proofs.TryRec.{try_rec}
use Rattle.law_steps.proofs.AlwaysLemmas.{always_of_any}
use Rattle.law_safety.specs.Replays.{IsReplay, HasReplay, ContentsReplayed, ContentsReplayedOf}
use Rattle.law_safety.proofs.OneExecution.{kept_attempt}

-- the content that a client prepares
content_replay : (p : Plan) (c : ClientState) (x : Exec) (a : Attempt) (e : Ending) (k : Content) → c.begun ≡ a.txn →
    (walk (rules p x.ver.client) c).ending ≡ Some e → k ≡ content (rules p x.ver.client) c e → IsReplay p x a k
unfolding content
content_replay p c x a e k n q same = subst (λ (m : ℕ). IsReplay p x (record { ver = a.ver; txn = m; try = a.try }) k) n (record {
  answers = c.answers;
  ending = e;
  ends = q;
  reads = ap (λ (l : Content). l.reads) same;
  writes = ap (λ (l : Content). l.writes) same;
  out = ap (λ (l : Content). l.out) same;
  ended = ap (λ (l : Content). l.ending) same;
})

pub replayed : (p : Plan) (w : World) → Reach p w → (x : Exec) (k : Content) → WasSent w (Prepare x k) → HasReplay p w x k
replayed p _ Begins x k t = absurd t.there
replayed p _ (Next w w' q st) x k t = go (λ z. replayed p w q x k z) (origin p w w' q st _ t)
  where
    later : HasReplay p w x k → HasReplay p w' x k
    later h = (h.0, record { begun = kept_attempt p w w' q st x.ver.client h.0 h.1.begun; version = h.1.version }, h.2)

    go : (WasSent w (Prepare x k) → HasReplay p w x k) → Origin p w w' (Prepare x k) → HasReplay p w' x k
    go ih (Old z) = later (ih z)
    go ih (Of_replica r f) = absurd f
    go ih (Of_warden j a i e f) = absurd f
    go ih (Of_client cs i) =
        let n = cs.writes.prepares x k i in
        let mine : x.ver.client ≡ cs.c = ap (λ (y : Exec). y.ver.client) n.0 ∙ (rec_reach p w q cs.c).own (running_under_way (w.client cs.c).phase n.1) in
        let r = try_rec p w q cs.c in
        let h = r.has (inl (running_under_way (w.client cs.c).phase n.1)) in
        let v = h.2 ∙ ap (λ (y : Exec). y.ver) (sym n.0) in
        later (
          h.0,
          record { begun = subst (λ (j : ℕ). IsIn h.0 (w.client j).attempts) (sym mine) h.1; version = v },
          content_replay p (w.client cs.c) x h.0 n.2.0 k (sym (r.begun h.0 h.1 h.2))
              (subst (λ (j : ℕ). (walk (rules p j) (w.client cs.c)).ending ≡ Some n.2.0) (sym mine) n.2.2)
              (subst (λ (j : ℕ). k ≡ content (rules p j) (w.client cs.c) n.2.0) (sym mine) n.2.1),
        )

pub contents_replayed : ContentsReplayed
contents_replayed = always_of_any ContentsReplayedOf replayed
