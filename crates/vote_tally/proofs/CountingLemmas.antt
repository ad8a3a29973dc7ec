-- What the counts of a tally decide.
use Rattle.std.proofs.Common.{◌≡◌, ℕ, ◌+◌, ◌-◌, ◌<◌, ◌≤◌, ◌⊎◌, inl, inr, refl, sym, ◌∙◌, true, false, Bool, cond, List, [], ◌∷◌, length, count_by, arith}
use Rattle.std.specs.Prelude.{suc, not, ◌&&◌, ◌||◌, nat_le, nat_lt}
use Rattle.std.specs.List.{list_any}
use Rattle.std.proofs.lemmas.Bool.{le-leb, lt-leb, leb-false, le-ltb, lt-ltb, ltb-false}
use Rattle.std.proofs.lemmas.Bool.Decides.{nat_tests}
use Rattle.std.proofs.lemmas.List.Recursion.{is_count_by}
use Rattle.protocol.specs.Words.{Abandon, ToCommit}
use Rattle.protocol.specs.Lists.{tally}
use Rattle.protocol.specs.Client.State.{CountedVote}
use Rattle.protocol.specs.Quorums.{quorum}
use Rattle.protocol.specs.Replica.Votes.{is_commit_vote}
use Rattle.protocol.specs.Client.Counting.{count_votes, is_final_vote, not_commit, tally_says, hurried}
use Rattle.protocol.specs.declared.TallyOut.TheVariants.{Wait, FastCommit, FastAbandon, Propose}
use Rattle.vote_tally.specs.Tally.{Counted, CallsForNothing}

-- the count of the definitions is that of the iterators
pub tally-count_by : {A : Type 0} (p : A → Bool) (xs : List A) → tally p xs ≡ count_by p xs
tally-count_by p xs = is_count_by (tally p) p refl (λ x xs. go (p x) (tally p xs)) xs
  where
    go : (t : Bool) (n : ℕ) → cond t (suc n) n ≡ cond t (1 + n) n
    go true n = omega arith
    go false n = refl

-- what does not pass is the rest
pub tally-not : {A : Type 0} (p : A → Bool) (xs : List A) → tally p xs + tally (λ x. not (p x)) xs ≡ length xs
tally-not p [] = refl
tally-not p (x ∷ xs) = go (p x) (tally-not p xs)
  where
    go : (t : Bool) → tally p xs + tally (λ x. not (p x)) xs ≡ length xs →
        cond t (suc (tally p xs)) (tally p xs) + cond (not t) (suc (tally (λ x. not (p x)) xs)) (tally (λ x. not (p x)) xs) ≡ suc (length xs)
    go true e = omega arith
    go false e = omega arith

-- some element passes where the count is not 0
pub list_any-tally : {A : Type 0} (p : A → Bool) (xs : List A) → list_any p xs ≡ nat_lt 0 (tally p xs)
list_any-tally p [] = refl
list_any-tally p (x ∷ xs) = go (p x) (list_any-tally p xs)
  where
    go : (t : Bool) → list_any p xs ≡ nat_lt 0 (tally p xs) → (t || list_any p xs) ≡ nat_lt 0 (cond t (suc (tally p xs)) (tally p xs))
    go true e = grind (arith, nat_tests)
    go false e = e

-- what a tally counts: the Commit votes, whether one is Final, and the votes that are not Commit
pub record Counts (votes : List CountedVote) (c : ℕ) (f : Bool) (o : ℕ) : Type 0 where
  pub commits : count_votes is_commit_vote votes ≡ c
  pub final : nat_lt 0 (count_votes is_final_vote votes) ≡ f
  pub others : count_votes not_commit votes ≡ o

pub counts : (votes : List CountedVote) (c : ℕ) (f : Bool) → c ≡ count_by (λ b. is_commit_vote b.vote) votes → f ≡ list_any (λ b. is_final_vote b.vote) votes →
    Counts votes c f (length votes - c)
counts votes c f e g =
    let commits : count_votes is_commit_vote votes ≡ c = tally-count_by (λ (b : CountedVote). is_commit_vote b.vote) votes ∙ sym e in
    let all : count_votes is_commit_vote votes + count_votes not_commit votes ≡ length votes = tally-not (λ (b : CountedVote). is_commit_vote b.vote) votes in
    record {
      commits = commits;
      final = sym (g ∙ list_any-tally (λ (b : CountedVote). is_final_vote b.vote) votes);
      others = omega arith;
    }

-- no majority of Commit votes that another vote stands beside
unmixed : (o q c : ℕ) → (o ≤ 0) ⊎ (c < q) → (nat_lt 0 o && nat_le q c) ≡ false
unmixed o q c (inl e) = rw (le-ltb 0 o e) refl
unmixed o q c (inr l) = rw (lt-leb q c l) (go (nat_lt 0 o))
  where
    go : (t : Bool) → (t && false) ≡ false
    go true = refl
    go false = refl

module _ (n : ℕ) (votes : List CountedVote) (c : ℕ) (f : Bool) (o : ℕ) (k : Counts votes c f o) where
  pub says_fast_commit : n ≤ c → tally_says n votes ≡ FastCommit
  unfolding tally_says
  says_fast_commit all = rw (k.commits, le-leb n c all) refl

  pub says_fast_abandon : c < n → f ≡ true → tally_says n votes ≡ FastAbandon
  unfolding tally_says
  says_fast_abandon some final = rw (k.commits, lt-leb n c some, k.final, final) refl

  pub says_commit : c < n → f ≡ false → 0 < o → quorum n ≤ c → tally_says n votes ≡ Propose ToCommit
  unfolding tally_says
  says_commit some none mixed many =
      rw (k.commits, lt-leb n c some, k.final, none, k.others, lt-ltb 0 o mixed, le-leb (quorum n) c many) refl

  pub says_abandon : c < n → f ≡ false → (o ≤ 0) ⊎ (c < quorum n) → quorum n ≤ o → tally_says n votes ≡ Propose Abandon
  unfolding tally_says
  says_abandon some none few many =
      rw (k.commits, lt-leb n c some, k.final, none, k.others, unmixed o (quorum n) c few, le-leb (quorum n) o many) refl

  pub says_wait : c < n → f ≡ false → (o ≤ 0) ⊎ (c < quorum n) → o < quorum n → tally_says n votes ≡ Wait
  unfolding tally_says
  says_wait some none few short =
      rw (k.commits, lt-leb n c some, k.final, none, k.others, unmixed o (quorum n) c few, lt-leb (quorum n) o short) refl

  pub hurried_commit : quorum n ≤ c → hurried n votes ≡ ToCommit
  hurried_commit many = rw (k.commits, le-leb (quorum n) c many) refl

  pub hurried_abandon : c < quorum n → hurried n votes ≡ Abandon
  hurried_abandon few = rw (k.commits, lt-leb (quorum n) c few) refl

-- Wait is said where each test fails
tests_fail : (a b c d e : Bool) → cond a FastCommit (cond b FastAbandon (cond (c && d) (Propose ToCommit) (cond e (Propose Abandon) Wait))) ≡ Wait →
    (a ≡ false) × (b ≡ false) × ((c ≡ false) ⊎ (d ≡ false)) × (e ≡ false)
tests_fail true b c d e h = cc
tests_fail false true c d e h = cc
tests_fail false false true true e h = cc
tests_fail false false true false true h = cc
tests_fail false false true false false h = (refl, refl, inr refl, refl)
tests_fail false false false d true h = cc
tests_fail false false false d false h = (refl, refl, inl refl, refl)

pub nothing_called_for : (t : Counted) → tally_says t.replicas t.votes ≡ Wait → CallsForNothing t
unfolding tally_says
nothing_called_for t e =
    let commits = count_votes is_commit_vote t.votes in
    let final = count_votes is_final_vote t.votes in
    let others = count_votes not_commit t.votes in
    let w = tests_fail (nat_le t.replicas commits) (nat_lt 0 final) (nat_lt 0 others) (nat_le (quorum t.replicas) commits) (nat_le (quorum t.replicas) others) e in
    record {
      not_all_commit = leb-false t.replicas commits w.0;
      none_final = none final w.1;
      no_mixed_majority = elim w.2 [ inl z ↦ inl (none others z) | inr z ↦ inr (leb-false (quorum t.replicas) commits z) ];
      no_majority_against = leb-false (quorum t.replicas) others w.3;
    }
  where
    none : (m : ℕ) → nat_lt 0 m ≡ false → m ≡ 0
    none m z = omega (arith, ltb-false 0 m z)

pub nothing_said : (t : Counted) → CallsForNothing t → tally_says t.replicas t.votes ≡ Wait
nothing_said t h =
    says_wait t.replicas t.votes _ _ _ (record { commits = refl; final = refl; others = refl }) h.not_all_commit (rw h.none_final refl)
    (elim h.no_mixed_majority [ inl e ↦ inl (omega arith) | inr l ↦ inr l ]) h.no_majority_against
