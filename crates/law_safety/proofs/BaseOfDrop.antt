-- A Drop carries the base of the world at its version, and keeps it.
use Rattle.std.proofs.Common.{ℕ, ◌<◌, inl, inr, sym, subst, List, [], ◌++◌}
use Rattle.std.specs.Prelude.{flat_map}
use Rattle.protocol.specs.Words.{Exec, Version, BaseEntry, Body, Drops}
use Rattle.protocol.specs.Warden.State.{FencedAnswer, Truncation}
use Rattle.protocol.specs.Warden.Base.{kept_entries, decided_entries, base_of}
use Rattle.protocol.specs.World.State.{Plan, World, first_world, rules, warden_rules}
use Rattle.protocol.specs.World.Events.{replay_from}
use Rattle.protocol.specs.World.Decided.{UpTo, WasSent, Committed, IsRising, IsBase}
use Rattle.protocol.specs.World.Committed.{base_at}
use Rattle.law_steps.proofs.Reach.{Reach, From, from_trans, events_reach, GotAt, HeardAt}
use Rattle.law_steps.proofs.Reach.From.{Begins, Next}
use Rattle.law_steps.proofs.Origin.{Origin, origin}
use Rattle.law_steps.proofs.Origin.Origin.{Old, Of_replica, Of_client, Of_warden}
use Rattle.law_steps.proofs.AlwaysLemmas.{always}
use Rattle.law_steps.proofs.Induction.{on_worlds}
use Rattle.law_safety.specs.Locks.{AbandonLock}
use Rattle.law_safety.specs.Bases.{BaseOfDrop, BaseOfDropOf}
use Rattle.law_safety.proofs.LocksStay.{abandon_lock_stays}
use Rattle.law_safety.proofs.LocksLemmas.{sent_grows}
use Rattle.law_safety.proofs.TruncationSettles.{apart_locks}
use Rattle.law_safety.proofs.ShapedBodies.{client_no_drop, ward_dropped}
use Rattle.law_safety.proofs.BaseLemmas.{puts_rising}
use Rattle.law_safety.proofs.InvariantHolds.{commit_ground, safe_reach}
use Rattle.law_safety.proofs.CommitIsSent.{committed_sent, sent_committed}
use Rattle.law_safety.proofs.BaseIsOne.{base_one}
use Rattle.law_safety.proofs.DropSettles.{drop_settles_now}
use Rattle.law_safety.proofs.BaseOfWorld.{base_is}

base_rising : (w : World) (v : Version) (t : Truncation) (k : ℕ) → IsRising (base_of v (w.warden k) t.answers)
unfolding base_of
base_rising w v t k = puts_rising [] (flat_map (λ (a : FencedAnswer). a.base) t.answers
    ++ (flat_map (λ (a : FencedAnswer). kept_entries v a.committed) t.answers
    ++ flat_map (λ (a : FencedAnswer). decided_entries v (w.warden k) a.voted) t.answers)) tt

-- the base of a Drop is rising
pub drop_rising : (p : Plan) (w : World) → Reach p w → (v : Version) (bs : List BaseEntry) → WasSent w (Drops v bs) → IsRising bs
drop_rising p _ Begins v bs t = absurd t.there
drop_rising p _ (Next w w' q st) v bs t = go (λ z. drop_rising p w q v bs z) (origin p w w' q st _ t)
  where
    go : (WasSent w (Drops v bs) → IsRising bs) → Origin p w w' (Drops v bs) → IsRising bs
    go ih (Old z) = ih z
    go ih (Of_replica r f) = absurd f
    go ih (Of_client cs i) = absurd (client_no_drop (rules p cs.c) (GotAt w cs.c) (w.client cs.c) cs.state cs.sent cs.act v bs i)
    go ih (Of_warden ws a i e f) = let o = ward_dropped (warden_rules p ws.k) (HeardAt w ws.k) (w.warden ws.k) ws.state ws.sent ws.act a v bs i e in
        subst IsRising (sym o.bases) (base_rising w o.trunc.w o.trunc ws.k)

module _ (p : Plan) (pos : 0 < p.replicas) (w : World) (q : Reach p w) where
  pub drop_base : (v : Version) (bs : List BaseEntry) → WasSent w (Drops v bs) → IsBase w v bs
  drop_base v bs t = let s = safe_reach p pos w q in record {
    rising = drop_rising p w q v bs t;
    only = λ d i. let y = s.bases.written v bs t d i in record { exec = y.exec; content = y.content; committed = sent_committed p pos w q y.exec y.decision; prepared = y.prepare; upto = y.upto; entry = y.entry };
    greatest = λ d y. let c = committed_sent p pos w q y.exec y.committed in s.bases.holds v bs t y.exec y.content c.0 c.1 y.prepared y.upto d y.entry;
  }

-- what is locked stays locked
lock_later : (p : Plan) → 0 < p.replicas → (o w : World) → Reach p o → From p o w → (x : Exec) → AbandonLock p.replicas o x → AbandonLock p.replicas w x
lock_later p pos o w r f x l = on_worlds p o (λ v. AbandonLock p.replicas v x) l
    (λ u v g st k. let q = from_trans p first_world o u r g in abandon_lock_stays p u v q st (commit_ground p pos u q (safe_reach p pos u q)) x k) w f

pub sent_later : (p : Plan) (o w : World) → From p o w → (b : Body) → WasSent o b → WasSent w b
sent_later p o w f b t = on_worlds p o (λ v. WasSent v b) t (λ u v g st k. sent_grows p u v st b k) w f

-- the base of a Drop stays the base, and nothing at or below its version is committed later
pub drop_kept : (p : Plan) (pos : 0 < p.replicas) (w w' : World) (q : Reach p w) (f : From p w w') (q' : Reach p w') (v : Version) (bs : List BaseEntry) →
    WasSent w (Drops v bs) →
    IsBase w v bs × IsBase w' v bs × ((x : Exec) → UpTo x.ver v → Committed w' x → Committed w x)
drop_kept p pos w w' q f q' v bs t = (
  drop_base p pos w q v bs t,
  drop_base p pos w' q' v bs (sent_later p w w' f _ t),
  λ x u c. elim (drop_settles_now p pos w q v bs t x u) [
    | inl d ↦ d
    | inr l ↦ absurd (apart_locks p pos w' q' (safe_reach p pos w' q') x (lock_later p pos w w' q f x l) (committed_sent p pos w' q' x c))
  ],
)

pub base_of_drop : BaseOfDrop
base_of_drop = always BaseOfDropOf (λ p some w q more v bs t.
    let w' = replay_from p w more in
    let q' = events_reach p first_world w q more in
    let h = drop_kept p some w w' q (events_reach p w w Begins more) q' v bs t in
    record {
      now = base_one p some w q v bs (base_at p w v) h.0 (base_is p some w q v);
      later = base_one p some w' q' v bs (base_at p w' v) h.1 (base_is p some w' q' v);
      settled = h.2;
    })
