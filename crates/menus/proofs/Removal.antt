-- A number is found by a search, and what is left without it.
use Rattle.std.proofs.Common.{◌≡◌, inl, inr, ℕ, zero, suc, ◌+◌, ◌<◌, ◌≤◌, Bool, true, false, cond, List, [], ◌∷◌, ◌++◌, length, get_or, set, refl, ap}
use Rattle.std.proofs.Common.{sym, subst, ◌∙◌, arith}
use Rattle.std.specs.Prelude.{not, ◌==◌, ◌||◌, nat_lt, drop}
use Rattle.std.specs.List.{remove}
use Rattle.std.proofs.lemmas.Bool.Decides.{nat_tests}
use Rattle.protocol.specs.Lists.{IsIn}
use Rattle.protocol.proofs.ListsLemmas.{IsIn-cases}
use Rattle.menus.specs.Inbox.{AreRising, AreBelow, without}
use Rattle.menus.specs.Shown.{has_number}

number_in : (xs : List ℕ) (k : ℕ) → k < length xs → IsIn (get_or xs k 0) xs
number_in [] k h = absurd (omega arith)
number_in (x ∷ xs) zero h = inl refl
number_in (x ∷ xs) (suc k) h = inr (number_in xs k (omega arith))

same : (i j : ℕ) → j ≡ i → (j == i) ≡ true
same i j e = grind (arith, nat_tests)

differs_up : (i j : ℕ) → nat_lt i j ≡ true → (j == i) ≡ false
differs_up i j h = grind (arith, nat_tests)

differs_down : (i j : ℕ) → nat_lt j i ≡ true → (j == i) ≡ false
differs_down i j h = grind (arith, nat_tests)

-- ---- without a number

kept : (i x : ℕ) (xs : List ℕ) → (x == i) ≡ false → without i (x ∷ xs) ≡ x ∷ without i xs
kept i x xs e = ap (λ t. cond (not t) (x ∷ without i xs) (without i xs)) e

gone : (i x : ℕ) (xs : List ℕ) → (x == i) ≡ true → without i (x ∷ xs) ≡ without i xs
gone i x xs e = ap (λ t. cond (not t) (x ∷ without i xs) (without i xs)) e

above_all : (i : ℕ) (xs : List ℕ) → ((j : ℕ) → IsIn j xs → nat_lt i j ≡ true) → without i xs ≡ xs
above_all i [] h = refl
above_all i (x ∷ xs) h = kept i x xs (differs_up i x (h x (inl refl))) ∙ ap (λ l. x ∷ l) (above_all i xs (λ j k. h j (inr k)))

-- where the number at a place is removed, all but it is left
pub removed : (i : ℕ) (xs : List ℕ) → AreRising xs → (p : ℕ) → p < length xs → get_or xs p 0 ≡ i → remove xs p ≡ without i xs
removed i [] r p h e = absurd (omega arith)
removed i (x ∷ xs) r zero h e =
    sym (gone i x xs (same i x e) ∙ above_all i xs (λ j k. subst (λ y. nat_lt y j ≡ true) e (r.0 j k)))
removed i (x ∷ xs) r (suc p) h e =
    ap (λ l. x ∷ l) (removed i xs r.1 p (omega arith) e)
    ∙ sym (kept i x xs (differs_down i x (subst (λ y. nat_lt x y ≡ true) e (r.0 (get_or xs p 0) (number_in xs p (omega arith))))))

-- a number that is none of them takes nothing away
pub without_missing : (i : ℕ) (xs : List ℕ) → has_number i xs ≡ false → without i xs ≡ xs
without_missing i [] h = refl
without_missing i (x ∷ xs) h = go (x == i) refl h (without_missing i xs)
  where
    go : (t : Bool) → (x == i) ≡ t → (t || has_number i xs) ≡ false → (has_number i xs ≡ false → without i xs ≡ xs) → without i (x ∷ xs) ≡ x ∷ xs
    go true e k more = absurd (cc k)
    go false e k more = kept i x xs e ∙ ap (λ l. x ∷ l) (more k)

without_in : (i j : ℕ) (xs : List ℕ) → IsIn j (without i xs) → IsIn j xs
without_in i j [] k = k
without_in i j (x ∷ xs) k = go (x == i) refl (without_in i j xs)
  where
    go : (t : Bool) → (x == i) ≡ t → (IsIn j (without i xs) → IsIn j xs) → IsIn j (x ∷ xs)
    go true e more = inr (more (subst (IsIn j) (gone i x xs e) k))
    go false e more = elim (subst (IsIn j) (kept i x xs e) k) [ inl q ↦ inl q | inr m ↦ inr (more m) ]

-- ---- rising numbers

pub rising_without : (i : ℕ) (xs : List ℕ) → AreRising xs → AreRising (without i xs)
rising_without i [] r = r
rising_without i (x ∷ xs) r = go (x == i) refl (rising_without i xs r.1)
  where
    go : (t : Bool) → (x == i) ≡ t → AreRising (without i xs) → AreRising (without i (x ∷ xs))
    go true e more = subst AreRising (sym (gone i x xs e)) more
    go false e more = subst AreRising (sym (kept i x xs e)) ((λ j k. r.0 j (without_in i j xs k)), more)

pub rising_push : (i : ℕ) (xs : List ℕ) → AreRising xs → AreBelow i xs → AreRising (xs ++ i ∷ [])
rising_push i [] r h = ((λ j k. absurd k), tt)
rising_push i (x ∷ xs) r h = (
  (λ j k. elim (IsIn-cases j xs (i ∷ []) k) [
    | inl a ↦ r.0 j a
    | inr a ↦ elim a [ inl q ↦ subst (λ y. nat_lt x y ≡ true) (sym q) (h x (inl refl)) | inr z ↦ absurd z ]
  ]),
  rising_push i xs r.1 (λ j k. h j (inr k)),
)

-- by places
pub rising_places : (xs : List ℕ) → AreRising xs → (i j : ℕ) → i ≤ j → j < length xs → get_or xs i 0 ≤ get_or xs j 0
rising_places [] r i j h g = absurd (omega arith)
rising_places (x ∷ xs) r zero zero h g = omega arith
rising_places (x ∷ xs) r zero (suc j) h g =
    let l : nat_lt x (get_or xs j 0) ≡ true = r.0 (get_or xs j 0) (number_in xs j (omega arith)) in
    grind (arith, nat_tests)
rising_places (x ∷ xs) r (suc i) zero h g = absurd (omega arith)
rising_places (x ∷ xs) r (suc i) (suc j) h g = rising_places xs r.1 i j (omega arith) (omega arith)

-- ---- a search

pub found : (i : ℕ) (xs : List ℕ) (p : ℕ) → p < length xs → get_or xs p 0 ≡ i → has_number i xs ≡ true
found i [] p h e = absurd (omega arith)
found i (x ∷ xs) zero h e = ap (λ t. t || has_number i xs) (same i x e)
found i (x ∷ xs) (suc p) h e = go (x == i) (found i xs p (omega arith) e)
  where
    go : (t : Bool) → has_number i xs ≡ true → (t || has_number i xs) ≡ true
    go true k = refl
    go false k = k

none_is : (i : ℕ) (xs : List ℕ) → ((k : ℕ) → k < length xs → (get_or xs k 0 == i) ≡ false) → has_number i xs ≡ false
none_is i [] h = refl
none_is i (x ∷ xs) h =
    ap (λ t. t || has_number i xs) (h 0 (omega arith)) ∙ none_is i xs (λ k g. h (suc k) (omega arith))

pub missing : (i : ℕ) (xs : List ℕ) (p : ℕ) → ((k : ℕ) → k < p → get_or xs k 0 < i) → ((k : ℕ) → p ≤ k → k < length xs → i < get_or xs k 0) →
    has_number i xs ≡ false
missing i xs p low high = none_is i xs (λ k g. go k g (nat_lt k p) refl)
  where
    go : (k : ℕ) → k < length xs → (t : Bool) → nat_lt k p ≡ t → (get_or xs k 0 == i) ≡ false
    go k g true e = let h : k < p = grind (arith, nat_tests) in let l = low k h in grind (arith, nat_tests)
    go k g false e = let h : p ≤ k = grind (arith, nat_tests) in let l = high k h g in grind (arith, nat_tests)

-- ---- past those that were taken

pub drop_removed : (t p : ℕ) (xs : List ℕ) → t ≤ length xs → drop t (remove xs (t + p)) ≡ remove (drop t xs) p
drop_removed zero p xs h = let e : 0 + p ≡ p = omega arith in rw e refl
drop_removed (suc t) p [] h = absurd (omega arith)
drop_removed (suc t) p (x ∷ xs) h = let e : suc t + p ≡ suc (t + p) = omega arith in rw e (drop_removed t p xs (omega arith))

pub drop_one_more : (t : ℕ) (xs : List ℕ) → t < length xs → drop (t + 1) xs ≡ remove (drop t xs) 0
drop_one_more zero xs h = let e : 0 + 1 ≡ 1 = omega arith in rw e refl
drop_one_more (suc t) [] h = absurd (omega arith)
drop_one_more (suc t) (x ∷ xs) h = let e : suc t + 1 ≡ suc (t + 1) = omega arith in rw e (drop_one_more t xs (omega arith))

pub drop_push : (t i : ℕ) (xs : List ℕ) → t ≤ length xs → drop t (xs ++ i ∷ []) ≡ drop t xs ++ i ∷ []
drop_push zero i xs h = refl
drop_push (suc t) i [] h = absurd (omega arith)
drop_push (suc t) i (x ∷ xs) h = drop_push t i xs (omega arith)

-- a number that takes the place above it leaves what was left without that one
pub remove_below : (xs : List ℕ) (k d : ℕ) → suc k < length xs → remove (set xs (suc k) (get_or xs k d)) k ≡ remove xs (suc k)
remove_below [] k d h = absurd (omega arith)
remove_below (x ∷ []) k d h = absurd (omega arith)
remove_below (x ∷ y ∷ ys) zero d h = refl
remove_below (x ∷ y ∷ ys) (suc k) d h = ap (λ l. x ∷ l) (remove_below (y ∷ ys) k d (omega arith))

-- one more is past, where those before the place moved up
pub drop_closed : (t p : ℕ) (ys xs : List ℕ) → t < length ys → t ≤ length xs → remove ys t ≡ remove xs (t + p) → drop (t + 1) ys ≡ remove (drop t xs) p
drop_closed t p ys xs h g e =
    let z : t + 0 ≡ t = omega arith in
    drop_one_more t ys h ∙ (sym (drop_removed t 0 ys (omega arith)) ∙ (ap (λ k. drop t (remove ys k)) z ∙ (ap (drop t) e ∙ drop_removed t p xs g)))

-- what is left rises
pub rising_removed : (p : ℕ) (xs : List ℕ) → p < length xs → AreRising xs → AreRising (remove xs p)
rising_removed p xs h r = subst AreRising (sym (removed (get_or xs p 0) xs r p h refl)) (rising_without (get_or xs p 0) xs r)
