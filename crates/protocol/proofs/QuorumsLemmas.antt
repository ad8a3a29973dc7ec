-- Two quorums share a replica, since the lists of both have more elements than there are replicas.
use Rattle.std.proofs.Common.{ap, refl, sym, subst, [], ◌∷◌, ◌<◌, ◌≤◌, ◌≡◌, ℕ, ◌+◌, ◌/◌, ◌⊎◌, ◌≢◌, inl, inr, ◌∙◌, true, false, Bool, cond, List, ◌++◌, length, arith, length-append}
use Rattle.std.specs.Prelude.{map, suc, zero, ◌==◌, not, filter}
use Rattle.std.proofs.lemmas.Bool.Decides.{eqb_tells}
use Rattle.protocol.specs.Lists.{IsIn}
use Rattle.protocol.specs.Quorums.{quorum, HasNoRepeats, Quorum}
use Rattle.protocol.proofs.ListsLemmas.{IsIn-map, IsIn-cases}

pub decide_in : (r : ℕ) (xs : List ℕ) → IsIn r xs ⊎ (IsIn r xs → ⊥)
decide_in r [] = inr (λ h. h)
decide_in r (x ∷ xs) = elim (eqb_tells r x) [
  | inl e ↦ inl (inl e.1)
  | inr e ↦ elim (decide_in r xs) [ inl h ↦ inl (inr h) | inr n ↦ inr (λ h. elim h [ inl q ↦ e.1 q | inr k ↦ n k ]) ]
]

without : ℕ → List ℕ → List ℕ
without k xs = filter (λ x. not (x == k)) xs

in_without : (k r : ℕ) (xs : List ℕ) → IsIn r (without k xs) → IsIn r xs × (r ≢ k)
unfolding without
in_without k r [] h = absurd h
in_without k r (x ∷ xs) h = go (λ i. in_without k r xs i) (x == k) (eqb_tells x k) h
  where
    go : (IsIn r (without k xs) → IsIn r xs × (r ≢ k)) → (t : Bool) → ((t ≡ true) × (x ≡ k)) ⊎ ((t ≡ false) × (x ≢ k)) → IsIn r (cond (not t) (x ∷ without k xs) (without k xs)) → IsIn r (x ∷ xs) × (r ≢ k)
    go ih true e h = let i = ih h in (inr i.0, i.1)
    go ih false (inl e) h = cc
    go ih false (inr e) (inl q) = (inl q, λ z. e.1 (sym q ∙ z))
    go ih false (inr e) (inr h) = let i = ih h in (inr i.0, i.1)

distinct_without : (k : ℕ) (xs : List ℕ) → HasNoRepeats xs → HasNoRepeats (without k xs)
unfolding without
distinct_without k [] d = tt
distinct_without k (x ∷ xs) d = go (distinct_without k xs d.1) (x == k)
  where
    go : HasNoRepeats (without k xs) → (t : Bool) → HasNoRepeats (cond (not t) (x ∷ without k xs) (without k xs))
    go ih true = ih
    go ih false = (λ i. d.0 (in_without k x xs i).0, ih)

absent_without : (k : ℕ) (xs : List ℕ) → (IsIn k xs → ⊥) → length (without k xs) ≡ length xs
unfolding without
absent_without k [] n = refl
absent_without k (x ∷ xs) n = go (absent_without k xs (λ i. n (inr i))) (x == k) (eqb_tells x k)
  where
    go : length (without k xs) ≡ length xs → (t : Bool) → ((t ≡ true) × (x ≡ k)) ⊎ ((t ≡ false) × (x ≢ k)) → length (cond (not t) (x ∷ without k xs) (without k xs)) ≡ length (x ∷ xs)
    go ih true (inl e) = absurd (n (inl (sym e.1)))
    go ih true (inr e) = cc
    go ih false e = ap suc ih

length_without : (k : ℕ) (xs : List ℕ) → HasNoRepeats xs → length xs ≤ suc (length (without k xs))
unfolding without
length_without k [] d = omega arith
length_without k (x ∷ xs) d = go (length_without k xs d.1) (x == k) (eqb_tells x k)
  where
    go : length xs ≤ suc (length (without k xs)) → (t : Bool) → ((t ≡ true) × (x ≡ k)) ⊎ ((t ≡ false) × (x ≢ k)) → length (x ∷ xs) ≤ suc (length (cond (not t) (x ∷ without k xs) (without k xs)))
    go ih true (inl e) = let l : length (without k xs) ≡ length xs = absent_without k xs (subst (λ z. IsIn z xs → ⊥) e.1 d.0) in omega arith
    go ih true (inr e) = cc
    go ih false e = omega arith

-- a list of distinct numbers from 1 to n is no longer than n
pub distinct_few : (n : ℕ) (xs : List ℕ) → HasNoRepeats xs → ((r : ℕ) → IsIn r xs → (0 < r) × (r ≤ n)) → length xs ≤ n
distinct_few zero [] d b = omega arith
distinct_few zero (x ∷ xs) d b = let l : (0 < x) × (x ≤ 0) = b x (inl refl) in omega arith
distinct_few (suc n) xs d b =
    let l : length (without (suc n) xs) ≤ n = distinct_few n (without (suc n) xs) (distinct_without (suc n) xs d)
    (λ r i. let j = in_without (suc n) r xs i in let k : (0 < r) × (r ≤ suc n) = b r j.0 in let o : r ≢ suc n = j.1 in (k.0, omega arith)) in
    let m : length xs ≤ suc (length (without (suc n) xs)) = length_without (suc n) xs d in
    omega arith

-- two distinct lists share an element, or are distinct together
share_or_apart : (xs ys : List ℕ) → HasNoRepeats xs → HasNoRepeats ys → ((r : ℕ) × IsIn r xs × IsIn r ys) ⊎ HasNoRepeats (xs ++ ys)
share_or_apart [] ys d e = inr e
share_or_apart (x ∷ xs) ys d e = elim (decide_in x ys) [
  | inl h ↦ inl (x, inl refl, h)
  | inr n ↦ elim (share_or_apart xs ys d.1 e) [
    | inl s ↦ inl (s.0, inr s.1, s.2)
    | inr a ↦ inr (λ i. elim (IsIn-cases x xs ys i) [ inl j ↦ d.0 j | inr j ↦ n j ], a)
  ]
]

-- two quorums share a replica
pub quorums_meet : (n : ℕ) (P Q : ℕ → Type 0) → Quorum n P → Quorum n Q → (r : ℕ) × P r × Q r
quorums_meet n P Q a b = elim (share_or_apart a.members b.members a.distinct b.distinct) [
  | inl s ↦ (s.0, a.each s.0 s.1, b.each s.0 s.2)
  | inr d ↦ let l : length (a.members ++ b.members) ≤ n = distinct_few n (a.members ++ b.members) d (λ r i. elim (IsIn-cases r a.members b.members i) [ inl j ↦ a.ranged r j | inr j ↦ b.ranged r j ]) in
      let m : length (a.members ++ b.members) ≡ length a.members + length b.members = length-append a.members b.members in
      let u : suc (n / 2) ≤ length a.members = a.many in let v : suc (n / 2) ≤ length b.members = b.many in
      absurd (omega arith)
]

-- what a quorum of distinct replicas sent names a quorum
pub named_quorum : {A : Type 0} (name : A → ℕ) (n : ℕ) (xs : List A) → HasNoRepeats (map name xs) → ((a : A) → IsIn a xs → (0 < name a) × (name a ≤ n)) → quorum n ≤ length xs → Quorum n (λ r. (a : A) × IsIn a xs × (name a ≡ r))
named_quorum {A = A} name n xs distinct range many = record {
  members = map name xs;
  distinct = distinct;
  ranged = λ r i. let k = IsIn-map name r xs i in subst (λ z. (0 < z) × (z ≤ n)) (sym k.2) (range k.0 k.1);
  each = λ r i. let k = IsIn-map name r xs i in (k.0, k.1, sym k.2);
  many = rw length_names many;
}
  where
    length_names : length (map name xs) ≡ length xs
    length_names = go xs
      where
        go : (ys : List A) → length (map name ys) ≡ length ys
        go [] = refl
        go (y ∷ ys) = ap suc (go ys)
