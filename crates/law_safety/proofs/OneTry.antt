-- Each committed execution is one of just one try.
use Rattle.std.proofs.Common.{◌≡◌, ◌<◌, refl, ap, sym, ◌∙◌}
use Rattle.protocol.specs.Words.{Exec, Version}
use Rattle.protocol.specs.Client.State.{Attempt}
use Rattle.protocol.specs.World.State.{Plan, World}
use Rattle.protocol.specs.World.Decided.{Committed, IsOf}
use Rattle.law_steps.proofs.Reach.{Reach}
use Rattle.law_steps.proofs.TryRec.{try_rec, falling_one}
use Rattle.law_steps.proofs.AlwaysLemmas.{always}
use Rattle.law_safety.specs.Tries.{OneTry, OneTryOf}
use Rattle.law_safety.proofs.CommitIsSent.{committed_sent}
use Rattle.law_safety.proofs.OneExecution.{single_reach, committed_prepared}

module _ (p : Plan) (pos : 0 < p.replicas) (w : World) (q : Reach p w) where
  pub tried : (x : Exec) → Committed w x → (a : Attempt) × IsOf w x a
  tried x c =
      let k = committed_prepared p pos w q x (committed_sent p pos w q x c) in
      let h = (single_reach p w q x.ver.client).has x k.0 k.1 refl in
      (h.0, record { begun = h.1; version = h.2 })

  pub one_attempt : (x : Exec) (a b : Attempt) → IsOf w x a → IsOf w x b → a ≡ b
  one_attempt x a b i j = falling_one (w.client x.ver.client).attempts (try_rec p w q x.ver.client).falling a b i.begun j.begun (ap (λ (v : Version). v.ts) (i.version ∙ sym j.version))

pub one_try : OneTry
one_try = always OneTryOf (λ p some w q x c. let h = tried p some w q x c in record { attempt = h.0; of_attempt = h.1; one = λ b o. one_attempt p some w q x b h.0 o h.1 })
