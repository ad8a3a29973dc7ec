-- Programs walk by the laws of their replays, so the plan of each script has what the laws of the protocol ask.
use Rattle.std.proofs.Common.{◌≡◌, ℕ, ◌<◌, ◌⊎◌, inl, inr, arith, refl, ap, sym, ◌∙◌, subst, List, [], take, Option, Some, None}
use Rattle.std.specs.Prelude.{ℤ, map, ◌-◌, option_map}
use Rattle.std.specs.List.{slice_get}
use Rattle.protocol.specs.Words.{Key}
use Rattle.txn_lang.specs.Keys.{Entry}
use Rattle.txn_lang.specs.Program.{Program, replay_of}
use Rattle.txn_lang.proofs.Growing.{grows, reads_what_it_asked}
use Rattle.protocol.specs.Client.State.{Txn, walk_at}
use Rattle.protocol.specs.World.State.{rules, txns_of}
use Rattle.protocol.specs.World.Premises.{IsProgramWalk, WritesGrow}
use Rattle.protocol_plans.specs.Scripted.{write_of, program_walk, Start, txn_of, Scripted, plan_of}
use Rattle.protocol_plans.specs.Laws.{ProgramsWalk, PlansHavePrograms, ScriptsMeetPremises}
use Rattle.std.proofs.lemmas.Option.{slice_get-map}
use Rattle.std.proofs.lemmas.List.{map-append}

pub program_asks : (p : Program) → IsProgramWalk (program_walk p)
program_asks p = record { asked = λ vs i k e. go vs i k (slice_get (replay_of p vs).reads i) refl (sym (slice_get-map (λ (x : Entry). x.key) (replay_of p vs).reads i) ∙ e) }
  where
    go : (vs : List ℤ) (i : ℕ) (k : Key) (o : Option Entry) → slice_get (replay_of p vs).reads i ≡ o → option_map (λ (x : Entry). x.key) o ≡ Some k →
        (replay_of p (take i vs)).asks ≡ Some k
    go vs i k None q e = absurd cc
    go vs i k (Some x) q e = let a = ((reads_what_it_asked p.body _).each vs i x q).0 in let same : x.key ≡ k = cc in a ∙ ap (λ (l : Key). Some l) same

pub program_writes : (p : Program) → WritesGrow (program_walk p)
program_writes p = record {
  more = λ vs us. let w = (grows p.body _ vs us).writes in
      (map write_of w.0, ap (map write_of) w.1 ∙ map-append write_of (replay_of p vs).writes w.0);
}

pub programs_walk : ProgramsWalk
programs_walk p = (program_asks p, program_writes p)

-- where there is no program, nothing is asked and nothing is written
nothing_asks : IsProgramWalk (walk_at None)
nothing_asks = record { asked = λ vs i k e. absurd cc }

nothing_writes : WritesGrow (walk_at None)
nothing_writes = record { more = λ vs us. ([], refl) }

-- a fact of no program and of each program is one of each transaction of the plan
module _ (P : Option Txn → Type 0) (at_none : P None) (at_each : (t : Start) → P (Some (txn_of t))) where
  one_of : (ts : List Start) (n : ℕ) → P (slice_get (map txn_of ts) n)
  one_of ts n = subst P (sym (slice_get-map txn_of ts n)) (go (slice_get ts n))
    where
      go : (o : Option Start) → P (option_map txn_of o)
      go None = at_none
      go (Some t) = at_each t

  each_of : (s : Scripted) (c n : ℕ) → P (slice_get (rules (plan_of s) c).txns n)
  each_of s c n = subst (λ (o : Option (List Txn)). P (slice_get (txns_of o) n)) (sym (slice_get-map (map txn_of) s.clients (c - 1))) (go (slice_get s.clients (c - 1)))
    where
      go : (o : Option (List Start)) → P (slice_get (txns_of (option_map (map txn_of) o)) n)
      go None = at_none
      go (Some ts) = one_of ts n

pub plans_have_programs : PlansHavePrograms
plans_have_programs s = (
  λ c n. each_of (λ o. IsProgramWalk (walk_at o)) nothing_asks (λ t. program_asks t.program) s c n,
  λ c n. each_of (λ o. WritesGrow (walk_at o)) nothing_writes (λ t. program_writes t.program) s c n,
)

some_replica : (n : ℕ) → (n ≡ 1) ⊎ ((n ≡ 3) ⊎ (n ≡ 5)) → 0 < n
some_replica n (inl e) = omega (arith, e)
some_replica n (inr (inl e)) = omega (arith, e)
some_replica n (inr (inr e)) = omega (arith, e)

pub scripts_meet_premises : ScriptsMeetPremises
scripts_meet_premises s k = record {
  replicas = some_replica s.replicas k.replicas;
  programs = (plans_have_programs s).0;
  grow = (plans_have_programs s).1;
}
