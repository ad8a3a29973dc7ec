-- The votes and acceptances that were counted are those of replicas.
use Rattle.std.proofs.Common.{◌≡◌, ℕ, ◌<◌, ◌≤◌, inl, inr, refl, ap, sym, ◌∙◌, subst, true, false, Bool, cond, List, ◌∷◌, Option, Some, length, arith, []}
use Rattle.std.specs.Prelude.{zero, suc, map}
use Rattle.std.proofs.lemmas.List.{length-append}
use Rattle.protocol.specs.Words.{Exec, Content, Vote, Commit, Tentative, Final, Choice, Finalize}
use Rattle.protocol.specs.Lists.{IsIn, upto}
use Rattle.protocol.specs.Replica.Votes.{vote, is_commit_vote}
use Rattle.protocol.specs.Client.State.{CountedVote}
use Rattle.protocol.specs.Quorums.{quorum, Quorum, HasNoRepeats}
use Rattle.protocol.specs.Client.Counting.{count_votes, is_final_vote}
use Rattle.protocol.specs.World.State.{Plan, World}
use Rattle.protocol.specs.World.Decided.{WasSent}
use Rattle.protocol.proofs.ListsLemmas.{IsIn-cases}
use Rattle.protocol.proofs.QuorumsLemmas.{distinct_few, decide_in}
use Rattle.protocol.proofs.DistinctLemmas.{distinct_more}
use Rattle.law_steps.proofs.Reach.{Reach}
use Rattle.law_steps.proofs.ReplicaFacts.{AcceptedFact}
use Rattle.law_safety.specs.Locks.{VotedCommit, HasAccepted}
use Rattle.law_safety.proofs.OneProposal.{one_view}
use Rattle.law_safety.proofs.LocksLemmas.{accepted_sent}
use Rattle.law_safety.proofs.ClientEvidence.{Evidence}

-- the counted votes that pass are those of distinct replicas
passed : (Vote → Bool) → List CountedVote → List ℕ
passed p [] = []
passed p (b ∷ bs) = cond (p b.vote) (b.replica ∷ passed p bs) (passed p bs)

passed_in : (p : Vote → Bool) (bs : List CountedVote) (r : ℕ) → IsIn r (passed p bs) → (b : CountedVote) × IsIn b bs × (b.replica ≡ r) × (p b.vote ≡ true)
unfolding passed
passed_in p [] r i = absurd i
passed_in p (b ∷ bs) r i = go (passed_in p bs r) (p b.vote) refl i
  where
    go : (IsIn r (passed p bs) → (b : CountedVote) × IsIn b bs × (b.replica ≡ r) × (p b.vote ≡ true)) → (t : Bool) → p b.vote ≡ t →
        IsIn r (cond t (b.replica ∷ passed p bs) (passed p bs)) → (c : CountedVote) × IsIn c (b ∷ bs) × (c.replica ≡ r) × (p c.vote ≡ true)
    go ih true e (inl z) = (b, inl refl, sym z, e)
    go ih true e (inr i) = let k = ih i in (k.0, inr k.1, k.2, k.3)
    go ih false e i = let k = ih i in (k.0, inr k.1, k.2, k.3)

in_replicas : (bs : List CountedVote) (b : CountedVote) → IsIn b bs → IsIn b.replica (map (λ (x : CountedVote). x.replica) bs)
in_replicas [] b i = i
in_replicas (c ∷ bs) b (inl e) = inl (ap (λ (x : CountedVote). x.replica) e)
in_replicas (c ∷ bs) b (inr i) = inr (in_replicas bs b i)

passed_distinct : (p : Vote → Bool) (bs : List CountedVote) → HasNoRepeats (map (λ (x : CountedVote). x.replica) bs) → HasNoRepeats (passed p bs)
unfolding passed
passed_distinct p [] d = tt
passed_distinct p (b ∷ bs) d = go (passed_distinct p bs d.1) (p b.vote)
  where
    go : HasNoRepeats (passed p bs) → (t : Bool) → HasNoRepeats (cond t (b.replica ∷ passed p bs) (passed p bs))
    go ih true =
        (λ i. let k = passed_in p bs b.replica i in d.0 (subst (λ (z : ℕ). IsIn z (map (λ (x : CountedVote). x.replica) bs)) k.2 (in_replicas bs k.0 k.1)), ih)
    go ih false = ih

passed_length : (p : Vote → Bool) (bs : List CountedVote) → length (passed p bs) ≡ count_votes p bs
unfolding passed
passed_length p [] = refl
passed_length p (b ∷ bs) = go (passed_length p bs) (p b.vote)
  where
    go : length (passed p bs) ≡ count_votes p bs → (t : Bool) →
        length (cond t (b.replica ∷ passed p bs) (passed p bs)) ≡ cond t (suc (count_votes p bs)) (count_votes p bs)
    go ih true = ap suc ih
    go ih false = ih

is_commit : (v : Vote) → is_commit_vote v ≡ true → v ≡ Commit
is_commit Commit e = refl
is_commit Tentative e = cc
is_commit Final e = cc

is_final : (v : Vote) → is_final_vote v ≡ true → v ≡ Final
is_final Commit e = cc
is_final Tentative e = cc
is_final Final e = refl

module _ (n : ℕ) (w : World) (x : Exec) (k : Content) (vs : List CountedVote) (o : Option Choice) (acs : List ℕ) (e : Evidence n w x k vs o acs) where
  commit_members : (r : ℕ) → IsIn r (passed is_commit_vote vs) → ((0 < r) × (r ≤ n)) × VotedCommit w x r
  commit_members r i = let b = passed_in is_commit_vote vs r i in let f = e.ballot b.0 b.1 in
      (subst (λ z. (0 < z) × (z ≤ n)) b.2 f.0, subst (λ z. VotedCommit w x z) b.2 (f.1 ∙ ap Some (is_commit b.0.vote b.3)))

  pub commit_quorum : quorum n ≤ count_votes is_commit_vote vs → Quorum n (VotedCommit w x)
  commit_quorum l = record { members = passed is_commit_vote vs; distinct = passed_distinct is_commit_vote vs e.voters; ranged = λ r i. (commit_members r i).0; each = λ r i. (commit_members r i).1; many = (let m = passed_length is_commit_vote vs in omega (arith, m, l)) }

  -- where n distinct ones of 1 to n voted Commit, each did
  pub all_voted : n ≤ count_votes is_commit_vote vs → (r : ℕ) → 0 < r → r ≤ n → VotedCommit w x r
  all_voted l r a b = elim (decide_in r (passed is_commit_vote vs)) [
    | inl i ↦ (commit_members r i).1
    | inr out ↦ let f : length (r ∷ passed is_commit_vote vs) ≤ n = distinct_few n (r ∷ passed is_commit_vote vs) (out, passed_distinct is_commit_vote vs e.voters)
        (λ z i. elim i [ inl q ↦ rw q (a, b) | inr i ↦ (commit_members z i).0 ]) in let m = passed_length is_commit_vote vs in absurd (omega (arith, f, m, l))
  ]

  pub a_final : 0 < count_votes is_final_vote vs → (r : ℕ) × (vote (w.replica r) x ≡ Some Final)
  a_final l = go (passed is_final_vote vs) refl
    where
      go : (ms : List ℕ) → passed is_final_vote vs ≡ ms → (r : ℕ) × (vote (w.replica r) x ≡ Some Final)
      go [] q = let m = passed_length is_final_vote vs in let z : length (passed is_final_vote vs) ≡ 0 = ap length q in absurd (omega (arith, m, z, l))
      go (r ∷ ms) q = let b = passed_in is_final_vote vs r (subst (λ (l : List ℕ). IsIn r l) (sym q) (inl refl)) in (r, subst (λ z. vote (w.replica z) x ≡ Some Final) b.2 ((e.ballot b.0 b.1).1 ∙ ap Some (is_final b.0.vote b.3)))

-- who accepted in a view accepted its choice
pub accept_quorum : (p : Plan) (w : World) → Reach p w → (x : Exec) (v : ℕ) (d : Choice) (o : Option Content) (js : List ℕ) → HasNoRepeats js →
    ((j : ℕ) → IsIn j js → ((0 < j) × (j ≤ p.replicas)) × AcceptedFact (w.replica j) x v) → quorum p.replicas ≤ length js → WasSent w (Finalize x v d o) →
    Quorum p.replicas (HasAccepted w x v d)
accept_quorum p w q x v d o js dist facts l s = record {
  members = js;
  distinct = dist;
  ranged = λ j i. (facts j i).0;
  each = λ j i. let a = (facts j i).1 in let z = accepted_sent p w q x v a.0.choice j (a.0, a.1, a.2, a.3, refl) in
      (a.0, a.1, a.2, a.3, (one_view p w q z.1.envelope s.envelope x v a.0.choice d z.0 o z.1.there s.there z.1.body s.body).0);
  many = l;
}

upto_ranged : (n r : ℕ) → IsIn r (upto n) → (0 < r) × (r ≤ n)
upto_ranged zero r i = absurd i
upto_ranged (suc n) r i = elim (IsIn-cases r (upto n) (suc n ∷ []) i) [
  | inl j ↦ let k = upto_ranged n r j in (k.0, (let l = k.1 in omega (arith, l)))
  | inr j ↦ elim j [ inl e ↦ ((omega (arith, e)), (omega (arith, e))) | inr z ↦ absurd z ]
]

upto_distinct : (n : ℕ) → HasNoRepeats (upto n)
upto_distinct zero = tt
upto_distinct (suc n) = distinct_more (upto n) (suc n) (upto_distinct n) (λ i. let k = upto_ranged n (suc n) i in let l = k.1 in omega (arith, l))

upto_length : (n : ℕ) → length (upto n) ≡ n
upto_length zero = refl
upto_length (suc n) = length-append (upto n) (suc n ∷ []) ∙ (let e = upto_length n in omega (arith, e))

half_less : (n : ℕ) → 0 < n → quorum n ≤ n
half_less n l = omega arith

-- all replicas are a quorum
pub everyone : (n : ℕ) (P : ℕ → Type 0) → 0 < n → ((r : ℕ) → 0 < r → r ≤ n → P r) → Quorum n P
everyone n P l f = record { members = upto n; distinct = upto_distinct n; ranged = upto_ranged n; each = λ r i. let k = upto_ranged n r i in f r k.0 k.1; many = (let e = upto_length n in let h = half_less n l in omega (arith, e, h)) }
