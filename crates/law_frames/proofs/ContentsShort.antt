-- Each content that was sent is short, and so is each list of writes that was put.
use Rattle.std.proofs.Common.{ℕ, ◌≤◌, ◌-◌, sym, subst, true, false, Bool, cond, List, [], ◌∷◌, length, arith}
use Rattle.std.specs.List.{slice_get}
use Rattle.protocol.specs.Words.{Exec, Key, Write, Body, Content, Puts, Prepare}
use Rattle.protocol.specs.Client.State.{Answer, reads_of, is_done, values, walk_at}
use Rattle.protocol.specs.World.State.{Plan, World, rules}
use Rattle.protocol.specs.World.Decided.{HasContent, WasSent}
use Rattle.wire.specs.Sendable.{IsShort}
use Rattle.wire.specs.Values.{most_short}
use Rattle.law_steps.proofs.Reach.{Reach}
use Rattle.law_steps.proofs.Reach.From.{Begins, Next}
use Rattle.law_steps.proofs.Origin.{Origin, origin}
use Rattle.law_steps.proofs.Origin.Origin.{Old, Of_replica, Of_client, Of_warden}
use Rattle.law_safety.proofs.ContentsReplayed.{replayed}
use Rattle.law_safety.proofs.OneContent.{contents_reach}
use Rattle.law_frames.specs.Limits.{PlanIsWithinLimits}

reads_few : (keys : List Key) (answers : List Answer) → length (reads_of keys answers) ≤ length keys
reads_few [] answers = omega arith
reads_few (k ∷ keys) [] = omega arith
reads_few (k ∷ keys) (a ∷ answers) = let l = reads_few keys answers in omega (arith, l)

kept_few : (t : Bool) (n : ℕ) (writes : List Write) → length writes ≤ n → length (cond t writes []) ≤ n
kept_few true n writes l = l
kept_few false n writes l = omega arith

module _ (p : Plan) (limits : PlanIsWithinLimits p) (w : World) (q : Reach p w) where
  pub prepared_short : (x : Exec) (k : Content) → WasSent w (Prepare x k) → IsShort k
  prepared_short x k t =
      let h = replayed p w q x k t in
      let r = h.2 in
      let s = limits.walks x.ver.client (h.0.txn - 1) in
      let walk = walk_at (slice_get (rules p x.ver.client).txns (h.0.txn - 1)) (values r.answers) in
      let few = s.keys (values r.answers) in
      let fewer = reads_few walk.keys r.answers in
      record {
        reads = subst (λ l. length l ≤ most_short) (sym r.reads) (omega (arith, few, fewer));
        writes = subst (λ l. length l ≤ most_short) (sym r.writes) (kept_few (is_done r.ending) most_short walk.writes (s.writes (values r.answers)));
        out = subst (λ l. length l ≤ most_short) (sym r.out) (s.out (values r.answers));
      }

  -- whatever carries it
  pub content_short : (b : Body) (x : Exec) (k : Content) → HasContent b x k → WasSent w b → IsShort k
  content_short b x k h t = prepared_short x k ((contents_reach p limits.some_replica w q).from b x k h t)

pub puts_short : (p : Plan) → PlanIsWithinLimits p → (w : World) → Reach p w → (x : Exec) (writes : List Write) → WasSent w (Puts x writes) →
    length writes ≤ most_short
puts_short p limits _ Begins x writes t = absurd t.there
puts_short p limits _ (Next w w' q st) x writes t = go (puts_short p limits w q x writes) (origin p w w' q st _ t)
  where
    go : (WasSent w (Puts x writes) → length writes ≤ most_short) → Origin p w w' (Puts x writes) → length writes ≤ most_short
    go ih (Old z) = ih z
    go ih (Of_replica r f) = absurd f
    go ih (Of_warden k a i e f) = absurd f
    go ih (Of_client cs i) = subst (λ (l : List Write). length l ≤ most_short) (sym (cs.writes.puts x writes i).2)
        ((limits.walks cs.c (cs.state.begun - 1)).writes (values cs.state.answers))
