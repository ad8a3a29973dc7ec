-- A Decide of Commit is in the mail of just the committed executions.
use Rattle.std.proofs.Common.{◌≡◌, ◌<◌, Bool, true, false, Option, Some, None, refl, ap, sym, ◌∙◌}
use Rattle.protocol.specs.Words.{Exec, Body, Choice, Abandon, ToCommit, Content, Envelope, Decide}
use Rattle.protocol.specs.World.State.{Plan, World}
use Rattle.protocol.specs.World.Decided.{decided_by, Committed}
use Rattle.protocol.specs.World.Committed.{nodes, is_commit_choice, is_committed}
use Rattle.protocol.proofs.NamesLemmas.{same_exec_refl, exec_is}
use Rattle.law_steps.proofs.VotesLemmas.{any_true, any_in}
use Rattle.law_steps.proofs.Reach.{Reach}
use Rattle.law_steps.proofs.AlwaysLemmas.{always}
use Rattle.law_safety.proofs.TruncationSettles.{CommitSent}
use Rattle.law_safety.proofs.CommitIsSent.{committed_sent, sent_committed}
use Rattle.law_safety.proofs.Absent.{decider}
use Rattle.world_rows.specs.Notes.{is_of, committed_by, is_told}
use Rattle.world_rows.specs.Laws.{CommitsAreToldOf, CommitsAreTold}

commit_choice : (o : Option Choice) → is_commit_choice o ≡ true → o ≡ Some ToCommit
commit_choice None e = cc
commit_choice (Some Abandon) e = cc
commit_choice (Some ToCommit) e = refl

-- a body that tells Commit of x is a Decide of it
decides : (x : Exec) (b : Body) → is_of x (committed_by b) ≡ true → (o : Option Content) × (b ≡ Decide x ToCommit o)
decides x (Decide y ToCommit o) e = (o, ap (λ (z : Exec). Decide z ToCommit o) (sym (exec_is x y e)))
decides x _ e = absurd cc

sent_told : (w : World) (x : Exec) → CommitSent w x → is_told w.mail x ≡ true
sent_told w x c = any_in (λ (m : Envelope). is_of x (committed_by m.body)) w.mail c.1.envelope c.1.there
    (ap (λ (b : Body). is_of x (committed_by b)) c.1.body ∙ same_exec_refl x)

told_sent : (w : World) (x : Exec) → is_told w.mail x ≡ true → CommitSent w x
told_sent w x e =
    let m = any_true (λ (m : Envelope). is_of x (committed_by m.body)) w.mail e in
    let d = decides x m.0.body m.2 in
    (d.0, record { envelope = m.0; there = m.1; body = d.1 })

same_truth : (a b : Bool) → (a ≡ true → b ≡ true) → (b ≡ true → a ≡ true) → a ≡ b
same_truth true b f g = sym (f refl)
same_truth false true f g = g refl
same_truth false false f g = refl

module _ (p : Plan) (some : 0 < p.replicas) (w : World) (q : Reach p w) where
  is_committed_true : (x : Exec) → Committed w x → is_committed p w x ≡ true
  unfolding is_committed
  is_committed_true x c =
      any_in (λ node. is_commit_choice (decided_by w node x)) (nodes p) c.node (decider p w q c.node x ToCommit c.decides) (ap is_commit_choice c.decides)

  is_committed_of : (x : Exec) → is_committed p w x ≡ true → Committed w x
  unfolding is_committed
  is_committed_of x e =
      let n = any_true (λ node. is_commit_choice (decided_by w node x)) (nodes p) e in
      record { node = n.0; decides = commit_choice (decided_by w n.0 x) n.2 }

  told : CommitsAreToldOf p w
  told x = same_truth (is_committed p w x) (is_told w.mail x) (λ e. sent_told w x (committed_sent p some w q x (is_committed_of x e)))
      (λ e. is_committed_true x (sent_committed p some w q x (told_sent w x e)))

pub commits_are_told : CommitsAreTold
commits_are_told = always CommitsAreToldOf told
