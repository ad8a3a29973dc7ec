-- Transactions that are committed at once.
use Rattle.std.specs.Prelude.{◌≡◌, ℕ, ◌<◌, List, true}
use Rattle.protocol.specs.Words.{Event}
use Rattle.protocol.specs.Lists.{IsIn}
use Rattle.protocol.specs.Client.State.{Attempt}
use Rattle.protocol.specs.World.State.{World, first_world, in_range}
use Rattle.protocol.specs.World.Events.{replay_from}
use Rattle.protocol.specs.World.Decided.{Committed}
use Rattle.protocol_plans.specs.Scripted.{Scripted, plan_of}
use Rattle.law_progress.specs.Undisturbed.{IsUndisturbed, IsSettled}
use Rattle.law_progress.specs.Apart.{IsApart}

-- transaction n of client c began: it is one of the first transactions, as many as the client has begun
abbrev pub HasBegun : World → ℕ → ℕ → Type 0
HasBegun w c n = in_range n (w.client c).begun ≡ true

-- it is committed at execution 0 of its first try
pub record IsFirstCommit (w : World) (c n : ℕ) : Type 0 where
  pub attempt : Attempt
  pub begun : IsIn attempt (w.client c).attempts
  pub txn : attempt.txn ≡ n
  pub first : attempt.try ≡ 1
  pub committed : Committed w (record { ver = attempt.ver; eid = 0 })

-- where nothing disturbs and all that was sent arrived, each transaction that began and shares no key is committed so
abbrev pub FirstCommits : Type 0
FirstCommits = (s : Scripted) → 0 < s.replicas → (events : List Event) →
    IsUndisturbed (plan_of s) first_world events → IsSettled (replay_from (plan_of s) first_world events) →
    (c n : ℕ) → HasBegun (replay_from (plan_of s) first_world events) c n → IsApart (replay_from (plan_of s) first_world events) c n →
    IsFirstCommit (replay_from (plan_of s) first_world events) c n
