-- What votes call for where each of them is Commit.
use Rattle.std.proofs.Common.{◌≡◌, ℕ, ◌<◌, ◌≤◌, ◌≢◌, ◌⊎◌, inl, inr, refl, ap, sym, ◌∙◌, true, false, Bool, List, [], ◌∷◌, length, arith}
use Rattle.std.specs.Prelude.{cond, suc, zero, map, ◌==◌, nat_le}
use Rattle.std.proofs.lemmas.Bool.Decides.{eqb_tells, nat_tests}
use Rattle.protocol.specs.Words.{Vote, Commit}
use Rattle.protocol.specs.declared.TallyOut.TheVariants.{Wait, FastCommit}
use Rattle.protocol.specs.Lists.{IsIn}
use Rattle.protocol.specs.Replica.Votes.{is_commit_vote}
use Rattle.protocol.specs.Client.State.{CountedVote}
use Rattle.protocol.specs.Quorums.{quorum}
use Rattle.protocol.specs.Client.Counting.{tally_says, count_votes, is_final_vote, not_commit}

-- each vote is Commit
abbrev pub AllCommit : List CountedVote → Type 0
AllCommit votes = (b : CountedVote) → IsIn b votes → b.vote ≡ Commit

count_none : (f : Vote → Bool) → f Commit ≡ false → (votes : List CountedVote) → AllCommit votes → count_votes f votes ≡ 0
count_none f e [] a = refl
count_none f e (b ∷ votes) a = rw (a b (inl refl), e) (count_none f e votes (λ z i. a z (inr i)))

count_all : (votes : List CountedVote) → AllCommit votes → count_votes is_commit_vote votes ≡ length votes
count_all [] a = refl
count_all (b ∷ votes) a = rw (a b (inl refl)) (ap suc (count_all votes (λ z i. a z (inr i))))

-- no vote is none of them
pub none_counted : (n : ℕ) → 0 < n → nat_le n 0 ≡ false
none_counted n l = grind (arith, nat_tests)

-- they commit once there are n of them, and wait for more until then
pub commits_or_waits : (n : ℕ) (votes : List CountedVote) → AllCommit votes →
    (tally_says n votes ≡ FastCommit) ⊎ ((tally_says n votes ≡ Wait) × (nat_le n (count_votes is_commit_vote votes) ≡ false))
unfolding tally_says
commits_or_waits n votes a = go (nat_le n (count_votes is_commit_vote votes)) refl
  where
    final : count_votes is_final_vote votes ≡ 0
    final = count_none is_final_vote refl votes a

    other : count_votes not_commit votes ≡ 0
    other = count_none not_commit refl votes a

    few : nat_le (quorum n) 0 ≡ false
    few = none_counted (quorum n) (omega arith)

    go : (t : Bool) → nat_le n (count_votes is_commit_vote votes) ≡ t →
        (tally_says n votes ≡ FastCommit) ⊎ ((tally_says n votes ≡ Wait) × (nat_le n (count_votes is_commit_vote votes) ≡ false))
    go true e = inl (rw e refl)
    go false e = inr (rw (e, final, other, few) refl, e)

remove : ℕ → List ℕ → List ℕ
remove k [] = []
remove k (x ∷ xs) = cond (x == k) xs (x ∷ remove k xs)

remove_length : (k : ℕ) (xs : List ℕ) → IsIn k xs → suc (length (remove k xs)) ≡ length xs
unfolding remove
remove_length k [] i = absurd i
remove_length k (x ∷ xs) i = go (λ j. remove_length k xs j) (x == k) (eqb_tells x k) i
  where
    go : (IsIn k xs → suc (length (remove k xs)) ≡ length xs) → (t : Bool) → ((t ≡ true) × (x ≡ k)) ⊎ ((t ≡ false) × (x ≢ k)) → IsIn k (x ∷ xs) →
        suc (length (cond t xs (x ∷ remove k xs))) ≡ length (x ∷ xs)
    go ih true e i = refl
    go ih false (inl e) i = cc
    go ih false (inr e) (inl z) = absurd (e.1 (sym z))
    go ih false (inr e) (inr j) = ap suc (ih j)

remove_in : (k r : ℕ) (xs : List ℕ) → IsIn r xs → r ≢ k → IsIn r (remove k xs)
unfolding remove
remove_in k r [] i n = i
remove_in k r (x ∷ xs) i n = go (λ j. remove_in k r xs j n) (x == k) (eqb_tells x k) i
  where
    go : (IsIn r xs → IsIn r (remove k xs)) → (t : Bool) → ((t ≡ true) × (x ≡ k)) ⊎ ((t ≡ false) × (x ≢ k)) → IsIn r (x ∷ xs) →
        IsIn r (cond t xs (x ∷ remove k xs))
    go ih true (inl e) (inl z) = absurd (n (z ∙ e.1))
    go ih true (inr e) (inl z) = cc
    go ih true e (inr j) = j
    go ih false e (inl z) = inl z
    go ih false e (inr j) = inr (ih j)

-- a list with each of 1 to n has n elements
covers : (n : ℕ) (xs : List ℕ) → ((r : ℕ) → 0 < r → r ≤ n → IsIn r xs) → n ≤ length xs
covers zero xs f = omega arith
covers (suc n) xs f =
    let l : n ≤ length (remove (suc n) xs) = covers n (remove (suc n) xs) (λ r a b. remove_in (suc n) r xs (f r a (omega (arith, b))) (λ e. omega (arith, e, b))) in
    let m = remove_length (suc n) xs (f (suc n) (omega arith) (omega arith)) in omega (arith, l, m)

-- some vote is of the replica
abbrev pub IsCounted : ℕ → List CountedVote → Type 0
IsCounted r votes = (b : CountedVote) × IsIn b votes × (b.replica ≡ r)

replicas_in : (votes : List CountedVote) (r : ℕ) → IsCounted r votes → IsIn r (map (λ (b : CountedVote). b.replica) votes)
replicas_in [] r c = absurd c.1
replicas_in (b ∷ votes) r (z, inl e, f) = inl (sym f ∙ ap (λ (y : CountedVote). y.replica) e)
replicas_in (b ∷ votes) r (z, inr i, f) = inr (replicas_in votes r (z, i, f))

map_length : (votes : List CountedVote) → length (map (λ (b : CountedVote). b.replica) votes) ≡ length votes
map_length [] = refl
map_length (b ∷ votes) = ap suc (map_length votes)

-- with a Commit of each replica counted there are n of them
pub all_counted : (n : ℕ) (votes : List CountedVote) → AllCommit votes → ((r : ℕ) → 0 < r → r ≤ n → IsCounted r votes) →
    nat_le n (count_votes is_commit_vote votes) ≡ true
all_counted n votes a f =
    let l = covers n (map (λ (b : CountedVote). b.replica) votes) (λ r u v. replicas_in votes r (f r u v)) in
    let m = map_length votes in let k = count_all votes a in
    let z : n ≤ count_votes is_commit_vote votes = omega (arith, l, m, k) in grind (arith, nat_tests)
