-- What a phase and a list of quiet bodies are.
use Rattle.std.proofs.Common.{◌≡◌, ℕ, refl, true, false, Bool, List, [], ◌∷◌, ◌++◌, Option, Some, None}
use Rattle.protocol.specs.Words.{Exec, Key, NodeId, Client, Replica, Warden, Body, Content, Choice}
use Rattle.protocol.specs.Lists.{one_when}
use Rattle.protocol.specs.declared.Fate.{Fate}
use Rattle.protocol.specs.declared.Fate.TheVariants.{Unbegun, Live, Committed, Aborted}
use Rattle.protocol.specs.Client.State.{Phase, CountedVote}
use Rattle.protocol.specs.Client.State.Phase.{Between, Running, Prepared}
use Rattle.protocol.specs.Client.Step.{is_warden}
use Rattle.protocol.specs.Client.Attempts.{is_aborted, is_between, question}
use Rattle.law_steps.proofs.ClientActs.{IsQuiet, AllQuiet, IsRunning, IsUnprepared, IsUnderWay, SameStage, IsAborted, IsOpen}

pub running_under_way : (p : Phase) → IsRunning p → IsUnderWay p
running_under_way Between h = absurd h
running_under_way (Running a b) h = tt
running_under_way (Prepared k v o a) h = absurd h

pub prepared_under_way : (p : Phase) (k : Content) (vs : List CountedVote) (o : Option Choice) (acs : List ℕ) → p ≡ Prepared k vs o acs → IsUnderWay p
prepared_under_way p k vs o acs e = rw e tt

pub same_stage : (p : Phase) → SameStage p p
same_stage Between = refl
same_stage (Running p g) = tt
same_stage (Prepared k v o a) = refl

pub running_stage : (p q : Phase) → IsRunning p → IsRunning q → SameStage p q
running_stage Between q h k = absurd h
running_stage (Running p g) q h k = k
running_stage (Prepared k' v o a) q h k = absurd h

pub unprepared : (p : Phase) → IsRunning p → IsUnprepared p
unprepared Between h = absurd h
unprepared (Running p g) h = tt
unprepared (Prepared k v o a) h = absurd h

pub quiet_puts : (t : Bool) (b : Body) → IsQuiet b → AllQuiet (one_when t b)
quiet_puts true b q = (q, tt)
quiet_puts false b q = tt

pub warden_is : (from : NodeId) → is_warden from ≡ true → (j : ℕ) × (from ≡ Warden j)
warden_is (Client j) e = cc
warden_is (Replica j) e = cc
warden_is (Warden j) e = (j, refl)

pub quiet_question : (x : Exec) (o : Option Key) → AllQuiet (question x o)
quiet_question x None = tt
quiet_question x (Some k) = (tt, tt)

pub quiet_append : (xs ys : List Body) → AllQuiet xs → AllQuiet ys → AllQuiet (xs ++ ys)
quiet_append [] ys p q = q
quiet_append (x ∷ xs) ys p q = (p.0, quiet_append xs ys p.1 q)

pub between_is : (p : Phase) → is_between p ≡ true → p ≡ Between
between_is Between e = refl
between_is (Running p g) e = cc
between_is (Prepared k v o a) e = cc

pub aborted_is : (f : Fate) → is_aborted f ≡ true → IsAborted f
aborted_is Aborted e = tt
aborted_is Unbegun e = cc
aborted_is Live e = cc
aborted_is Committed e = cc

pub running_between : (p : Phase) → IsRunning p → p ≡ Between → ⊥
running_between Between r e = r
running_between (Running a b) r e = cc
running_between (Prepared k v o a) r e = cc

pub open_under : (h : Phase) → IsOpen h → IsUnderWay h
open_under Between h = absurd h
open_under (Running a b) h = absurd h
open_under (Prepared k v o a) h = tt

pub open_between : (p : Phase) → IsOpen p → p ≡ Between → ⊥
open_between Between r e = r
open_between (Running a b) r e = r
open_between (Prepared k v None a) r e = cc
open_between (Prepared k v (Some d) a) r e = r
