-- Places in lists in rising order.
use Rattle.std.proofs.Common.{◌≡◌, ◌⊎◌, inl, inr, ℕ, zero, suc, ◌<◌, ◌≤◌, Bool, true, false, cond, List, [], ◌∷◌, length, get_or, refl, ap, sym, subst, ◌∙◌, arith, ◌&&◌, ◌||◌}
use Rattle.std.specs.List.{insert, slice_get}
use Rattle.morty_base.proofs.Orders.{same_key_tells, same_version_tells, key_before_total, before_total}
use Rattle.protocol.specs.Words.{Version, Key, before, same_version, key_before, same_key}
use Rattle.protocol.specs.Lists.{IsIn, IsRisingBy, tally}
use Rattle.protocol.proofs.TestLemmas.{and_left, and_right}
use Rattle.mv_index.specs.declared.reader_list.Reader.{Reader}
use Rattle.mv_index.specs.ReaderList.{prefix, stands_before, is_at, put_marked}

pub get_or_in : {A : Type 0} (xs : List A) (i : ℕ) (d : A) → i < length xs → IsIn (get_or xs i d) xs
get_or_in [] i d h = absurd (omega arith)
get_or_in (x ∷ xs) zero d h = inl refl
get_or_in (x ∷ xs) (suc i) d h = inr (get_or_in xs i d (omega arith))

-- a test that holds of all that stands before what it holds of parts a rising list
pub parted : {A : Type 0} (earlier : A → A → Bool) (p : A → Bool) → ((x y : A) → earlier x y ≡ true → p y ≡ true → p x ≡ true) → (xs : List A) →
    IsRisingBy earlier xs → (i j : ℕ) (d : A) → i ≤ j → j < length xs → p (get_or xs j d) ≡ true → p (get_or xs i d) ≡ true
parted earlier p down [] r i j d h g e = absurd (omega arith)
parted earlier p down (x ∷ xs) r zero zero d h g e = e
parted earlier p down (x ∷ xs) r zero (suc j) d h g e = down x (get_or xs j d) (r.0 (get_or xs j d) (get_or_in xs j d (omega arith))) e
parted earlier p down (x ∷ xs) r (suc i) zero d h g e = absurd (omega arith)
parted earlier p down (x ∷ xs) r (suc i) (suc j) d h g e = parted earlier p down xs r.1 i j d (omega arith) (omega arith) e

-- a point that parts a list is the number of the first elements that pass
pub prefix_is : {A : Type 0} (p : A → Bool) (xs : List A) (i : ℕ) → i ≤ length xs → ((k : ℕ) (d : A) → 0 ≤ k → k < i → p (get_or xs k d) ≡ true) →
    ((k : ℕ) (d : A) → i ≤ k → k < length xs → p (get_or xs k d) ≡ false) → i ≡ prefix p xs
prefix_is p [] i h pass fail = omega arith
prefix_is p (x ∷ xs) zero h pass fail = sym (ap (λ t. cond t (suc (prefix p xs)) 0) (fail 0 x (omega arith) (omega arith)))
prefix_is p (x ∷ xs) (suc i) h pass fail =
    ap suc (prefix_is p xs i (omega arith) (λ k d a b. pass (suc k) d (omega arith) (omega arith)) (λ k d a b. fail (suc k) d (omega arith) (omega arith)))
    ∙ sym (ap (λ t. cond t (suc (prefix p xs)) 0) (pass 0 x (omega arith) (omega arith)))

pub or_cases : (a b : Bool) → (a || b) ≡ true → (a ≡ true) ⊎ (b ≡ true)
or_cases true b e = inl refl
or_cases false b e = inr e

pub or_left : (a b : Bool) → a ≡ true → (a || b) ≡ true
or_left a b e = ap (λ t. t || b) e

pub or_right : (a b : Bool) → b ≡ true → (a || b) ≡ true
or_right true b e = refl
or_right false b e = e

pub both : (a b : Bool) → a ≡ true → b ≡ true → (a && b) ≡ true
both a b e f = ap (λ t. t && b) e ∙ f

pub is_key : (k l : Key) → same_key k l ≡ true → k ≡ l
is_key k l e = elim (same_key_tells k l) [ inl q ↦ q.1 | inr q ↦ absurd (cc (q.0, e)) ]

key_self : (k : Key) → same_key k k ≡ true
key_self k = elim (same_key_tells k k) [ inl q ↦ q.0 | inr q ↦ absurd (q.1 refl) ]

pub stands_down : (k : Key) (v : Version) (r s : Reader) → stands_before s.key s.ver r ≡ true → stands_before k v s ≡ true → stands_before k v r ≡ true
stands_down k v r s e f = elim (or_cases (key_before r.key s.key) (same_key r.key s.key && before r.ver s.ver) e) [
  | inl p ↦ elim (or_cases (key_before s.key k) (same_key s.key k && before s.ver v) f) [
    | inl q ↦ or_left (key_before r.key k) _ (key_before_total.transitive r.key s.key k p q)
    | inr q ↦ or_left (key_before r.key k) _ (subst (λ l. key_before r.key l ≡ true) (is_key s.key k (and_left _ _ q)) p)
  ]
  | inr p ↦
      let here : r.key ≡ s.key = is_key r.key s.key (and_left _ _ p) in
      elim (or_cases (key_before s.key k) (same_key s.key k && before s.ver v) f) [
        | inl q ↦ or_left (key_before r.key k) _ (subst (λ l. key_before l k ≡ true) (sym here) q)
        | inr q ↦ or_right (key_before r.key k) _ (both (same_key r.key k) _ (subst (λ l. same_key l k ≡ true) (sym here) (and_left _ _ q))
            (before_total.transitive r.ver s.ver v (and_right _ _ p) (and_right _ _ q)))
      ]
]

pub key_down : (k : Key) (r s : Reader) → stands_before s.key s.ver r ≡ true → key_before s.key k ≡ true → key_before r.key k ≡ true
key_down k r s e f = elim (or_cases (key_before r.key s.key) (same_key r.key s.key && before r.ver s.ver) e) [
  | inl p ↦ key_before_total.transitive r.key s.key k p f
  | inr p ↦ subst (λ l. key_before l k ≡ true) (sym (is_key r.key s.key (and_left _ _ p))) f
]

not_itself : (r : Reader) → stands_before r.key r.ver r ≡ true → ⊥
not_itself r e = elim (or_cases (key_before r.key r.key) (same_key r.key r.key && before r.ver r.ver) e) [
  | inl p ↦ let z : key_before r.key r.key ≡ false = key_before_total.irreflexive r.key in cc
  | inr p ↦ let z : before r.ver r.ver ≡ false = before_total.irreflexive r.ver in let y = and_right (same_key r.key r.key) (before r.ver r.ver) p in cc
]

pub false_where : (b : Bool) → (b ≡ true → ⊥) → b ≡ false
false_where true f = absurd (f refl)
false_where false f = refl

tally_none : {A : Type 0} (p : A → Bool) (xs : List A) → ((y : A) → IsIn y xs → p y ≡ false) → tally p xs ≡ 0
tally_none p [] none = refl
tally_none p (x ∷ xs) none = ap (λ t. cond t (suc (tally p xs)) (tally p xs)) (none x (inl refl)) ∙ tally_none p xs (λ y i. none y (inr i))

-- where a test holds of all that stands before what it holds of, the first elements that pass are all that do
pub prefix_tally : {A : Type 0} (earlier : A → A → Bool) (p : A → Bool) → ((x y : A) → earlier x y ≡ true → p y ≡ true → p x ≡ true) → (xs : List A) →
    IsRisingBy earlier xs → prefix p xs ≡ tally p xs
prefix_tally earlier p down [] r = refl
prefix_tally earlier p down (x ∷ xs) r = go (p x) refl (prefix_tally earlier p down xs r.1)
  where
    go : (t : Bool) → p x ≡ t → prefix p xs ≡ tally p xs → cond t (suc (prefix p xs)) 0 ≡ cond t (suc (tally p xs)) (tally p xs)
    go true e more = ap suc more
    go false e more = sym (tally_none p xs (λ y i. false_where (p y) (λ f. cc (down x y (r.0 y i) f, e))))

-- of two readers one stands before the other, or they are the same
after_not : (r s : Reader) → stands_before r.key r.ver s ≡ true → stands_before s.key s.ver r ≡ false
after_not r s e = false_where _ (λ f. not_itself r (stands_down r.key r.ver r s f e))

same_place : (r s : Reader) → (same_key r.key s.key && same_version r.ver s.ver) ≡ true → stands_before r.key r.ver s ≡ true → ⊥
same_place r s e f =
    let k = is_key r.key s.key (and_left _ _ e) in
    let v : r.ver ≡ s.ver = elim (same_version_tells r.ver s.ver) [ inl q ↦ q.1 | inr q ↦ absurd (cc (q.0, and_right (same_key r.key s.key) _ e)) ] in
    not_itself s (subst (λ u. stands_before s.key u s ≡ true) v (subst (λ l. stands_before l r.ver s ≡ true) k f))

pub after_other : (r s : Reader) → stands_before r.key r.ver s ≡ true → (same_key r.key s.key && same_version r.ver s.ver) ≡ false
after_other r s e = false_where _ (λ f. same_place r s f e)

pub same_not : (r s : Reader) → (same_key r.key s.key && same_version r.ver s.ver) ≡ true → stands_before s.key s.ver r ≡ false
same_not r s e =
    let k = is_key r.key s.key (and_left _ _ e) in
    let v : r.ver ≡ s.ver = elim (same_version_tells r.ver s.ver) [ inl q ↦ q.1 | inr q ↦ absurd (cc (q.0, and_right (same_key r.key s.key) _ e)) ] in
    false_where _ (λ f. not_itself r (subst (λ u. stands_before r.key u r ≡ true) (sym v) (subst (λ l. stands_before l s.ver r ≡ true) (sym k) f)))

pub one_of : (r s : Reader) → stands_before r.key r.ver s ≡ false → (same_key r.key s.key && same_version r.ver s.ver) ≡ false →
    stands_before s.key s.ver r ≡ true
one_of r s e f = by (key_before r.key s.key) refl
  where
    no_more : key_before s.key r.key ≡ false
    no_more = false_where _ (λ g. let z = or_left (key_before s.key r.key) (same_key s.key r.key && before s.ver r.ver) g in cc)

    by : (t : Bool) → key_before r.key s.key ≡ t → stands_before s.key s.ver r ≡ true
    by true g = or_left _ _ g
    by false g =
        let k : r.key ≡ s.key = key_before_total.total r.key s.key g no_more in
        let here : same_key r.key s.key ≡ true = subst (λ l. same_key r.key l ≡ true) k (key_self r.key) in
        let there : same_key s.key r.key ≡ true = subst (λ l. same_key l r.key ≡ true) k (key_self r.key) in
        let later : before s.ver r.ver ≡ false = false_where _ (λ h. let z = or_right (key_before s.key r.key) (same_key s.key r.key && before s.ver r.ver)
        (both _ _ there h) in cc) in
        let less : before r.ver s.ver ≡ true = by_ver (before r.ver s.ver) refl here later in
        or_right (key_before r.key s.key) _ (both _ _ here less)
      where
        by_ver : (t : Bool) → before r.ver s.ver ≡ t → same_key r.key s.key ≡ true → before s.ver r.ver ≡ false → before r.ver s.ver ≡ true
        by_ver true h here later = h
        by_ver false h here later =
            let v : r.ver ≡ s.ver = before_total.total r.ver s.ver h later in
            let same : same_version r.ver s.ver ≡ true = elim (same_version_tells r.ver s.ver) [ inl q ↦ q.0 | inr q ↦ absurd (q.1 v) ] in
            let z = both (same_key r.key s.key) (same_version r.ver s.ver) here same in
            absurd cc

abbrev put_in : Bool → Bool → Reader → Reader → List Reader → List Reader
put_in a b r s ss = cond a (r ∷ s ∷ ss) (cond b (s ∷ ss) (s ∷ put_marked r ss))

pub put_there : (r : Reader) (rs : List Reader) → is_at (slice_get rs (prefix (stands_before r.key r.ver) rs)) r.key r.ver ≡ true → rs ≡ put_marked r rs
put_there r [] e = absurd cc
put_there r (s ∷ ss) e = go (stands_before r.key r.ver s) refl e (put_there r ss)
  where
    go : (t : Bool) → stands_before r.key r.ver s ≡ t → is_at (slice_get (s ∷ ss) (cond t (suc (prefix (stands_before r.key r.ver) ss)) 0)) r.key r.ver ≡ true →
        (is_at (slice_get ss (prefix (stands_before r.key r.ver) ss)) r.key r.ver ≡ true → ss ≡ put_marked r ss) → (s ∷ ss) ≡ put_marked r (s ∷ ss)
    go true f e more =
        ap (λ l. s ∷ l) (more e)
        ∙ (ap (λ b. put_in false b r s ss) (sym (after_other r s f))
        ∙ ap (λ a. put_in a (same_key r.key s.key && same_version r.ver s.ver) r s ss) (sym (after_not r s f)))
    go false f e more = ap (λ b. put_in false b r s ss) (sym e)
        ∙ ap (λ a. put_in a (same_key r.key s.key && same_version r.ver s.ver) r s ss) (sym (same_not r s e))

pub put_new : (r : Reader) (rs : List Reader) → is_at (slice_get rs (prefix (stands_before r.key r.ver) rs)) r.key r.ver ≡ false →
    insert rs (prefix (stands_before r.key r.ver) rs) r ≡ put_marked r rs
put_new r [] e = refl
put_new r (s ∷ ss) e = go (stands_before r.key r.ver s) refl e (put_new r ss)
  where
    go : (t : Bool) → stands_before r.key r.ver s ≡ t → is_at (slice_get (s ∷ ss) (cond t (suc (prefix (stands_before r.key r.ver) ss)) 0)) r.key r.ver
        ≡ false → (is_at (slice_get ss (prefix (stands_before r.key r.ver) ss)) r.key r.ver ≡ false →
        insert ss (prefix (stands_before r.key r.ver) ss) r ≡ put_marked r ss) → insert (s ∷ ss) (cond t (suc (prefix (stands_before r.key r.ver) ss)) 0) r
        ≡ put_marked r (s ∷ ss)
    go true f e more =
        ap (λ l. s ∷ l) (more e)
        ∙ (ap (λ b. put_in false b r s ss) (sym (after_other r s f))
        ∙ ap (λ a. put_in a (same_key r.key s.key && same_version r.ver s.ver) r s ss) (sym (after_not r s f)))
    go false f e more = ap (λ a. put_in a (same_key r.key s.key && same_version r.ver s.ver) r s ss) (sym (one_of r s f e))
