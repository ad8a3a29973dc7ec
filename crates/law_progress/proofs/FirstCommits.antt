-- So it is in the plan of each script, since its programs ask or end.
use Rattle.std.proofs.Common.{◌≡◌, refl, sym, ◌∙◌, subst, List, length, Option, Some, None}
use Rattle.std.specs.Prelude.{ℤ, map, ◌-◌, option_map, MatchOption, IsSome, IsNone}
use Rattle.std.specs.List.{slice_get}
use Rattle.std.proofs.lemmas.Option.{slice_get-map}
use Rattle.protocol.specs.Words.{Ending, Key}
use Rattle.txn_lang.specs.Program.{Program, replay_of}
use Rattle.txn_lang.proofs.Taking.{takes_answers}
use Rattle.protocol.specs.Client.State.{Txn}
use Rattle.protocol.specs.World.State.{txns_of}
use Rattle.protocol_plans.specs.Scripted.{program_walk, Start, txn_of, Scripted, plan_of}
use Rattle.law_progress.specs.FirstCommits.{FirstCommits}
use Rattle.law_progress.proofs.FirstCommitsOfPlans.{first_commits_of}
use Rattle.law_progress.proofs.StageMoves.{AsksOrEnds}

-- a program that has not ended asks
program_asks : (p : Program) (vs : List ℤ) → (program_walk p vs).ending ≡ None → (k : Key) × ((program_walk p vs).asks ≡ Some k)
program_asks p vs e = go (replay_of p vs).asks refl ((takes_answers p.body (length p.names)).asks_or_ends vs)
  where
    ended : (o : Option Ending) → o ≡ None → IsSome o → ⊥
    ended None e h = cc
    ended (Some x) e h = cc

    go : (o : Option Key) → (replay_of p vs).asks ≡ o → MatchOption o (IsSome (replay_of p vs).ending) (λ k. IsNone (replay_of p vs).ending) →
        (k : Key) × ((program_walk p vs).asks ≡ Some k)
    go None q m = absurd (ended (replay_of p vs).ending e m)
    go (Some k) q m = (k, q)

scripts_ask : (s : Scripted) → AsksOrEnds (plan_of s)
scripts_ask s c n t e vs = client (slice_get s.clients (c - 1)) (subst (λ (o : Option (List Txn)). slice_get (txns_of o) n
    ≡ Some t) (slice_get-map (map txn_of) s.clients (c - 1)) e)
  where
    start : (o : Option Start) → option_map txn_of o ≡ Some t → (t.walk vs).ending ≡ None → (k : Key) × ((t.walk vs).asks ≡ Some k)
    start None e = absurd cc
    start (Some x) e = let f : txn_of x ≡ t = cc in
        subst (λ (y : Txn). (y.walk vs).ending ≡ None → (k : Key) × ((y.walk vs).asks ≡ Some k)) f (program_asks x.program vs)

    client : (o : Option (List Start)) → slice_get (txns_of (option_map (map txn_of) o)) n ≡ Some t → (t.walk vs).ending ≡ None →
        (k : Key) × ((t.walk vs).asks ≡ Some k)
    client None e = absurd cc
    client (Some ts) e = start (slice_get ts n) (sym (slice_get-map txn_of ts n) ∙ e)

pub first_commits : FirstCommits
first_commits s pos events und settled c n = first_commits_of (plan_of s) pos (scripts_ask s) events und settled c n
