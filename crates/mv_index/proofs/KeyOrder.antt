-- Keys in rising order.
use Rattle.std.proofs.Common.{◌≡◌, ◌⊎◌, inl, inr, ℕ, zero, suc, Bool, true, false, cond, List, [], ◌∷◌, refl, ap, sym, subst, ◌∙◌, ◌||◌}
use Rattle.std.specs.List.{insert, slice_get, list_any}
use Rattle.morty_base.proofs.Orders.{same_key_tells, key_before_total}
use Rattle.protocol.specs.Words.{Key, key_before, same_key}
use Rattle.protocol.specs.Lists.{IsIn}
use Rattle.mv_index.specs.ReaderList.{prefix}
use Rattle.mv_index.specs.KeyList.{AreRising, is_key}

pub below_down : (k : Key) (l m : Key) → key_before l m ≡ true → key_before m k ≡ true → key_before l k ≡ true
below_down k l m e f = key_before_total.transitive l m k e f

pub not_same : (k l : Key) → key_before l k ≡ true → same_key k l ≡ false
not_same k l e = elim (same_key_tells k l) [
  | inl q ↦ let z : key_before l l ≡ true = subst (λ m. key_before l m ≡ true) q.1 e in
      let y : key_before l l ≡ false = key_before_total.irreflexive l in absurd cc
  | inr q ↦ q.0
]

pub not_same_up : (k l : Key) → key_before k l ≡ true → same_key k l ≡ false
not_same_up k l e = elim (same_key_tells k l) [
  | inl q ↦ let z : key_before k k ≡ true = subst (λ m. key_before k m ≡ true) (sym q.1) e in
      let y : key_before k k ≡ false = key_before_total.irreflexive k in absurd cc
  | inr q ↦ q.0
]

pub above : (k l : Key) → key_before l k ≡ false → same_key k l ≡ false → key_before k l ≡ true
above k l e f = go (key_before k l) refl
  where
    go : (t : Bool) → key_before k l ≡ t → key_before k l ≡ true
    go true g = g
    go false g = let q : k ≡ l = key_before_total.total k l g e in elim (same_key_tells k l) [ inl s ↦ absurd (cc (s.0, f)) | inr s ↦ absurd (s.1 q) ]

none_above : (k : Key) (ks : List Key) → ((l : Key) → IsIn l ks → key_before k l ≡ true) → list_any (same_key k) ks ≡ false
none_above k [] h = refl
none_above k (l ∷ ks) h = ap (λ t. t || list_any (same_key k) ks) (not_same_up k l (h l (inl refl))) ∙ none_above k ks (λ m i. h m (inr i))

-- a search by place finds what the list has
pub key_found : (k : Key) (ks : List Key) → AreRising ks → is_key (slice_get ks (prefix (λ l. key_before l k) ks)) k ≡ list_any (same_key k) ks
key_found k [] r = refl
key_found k (l ∷ ks) r = go (key_before l k) refl (key_found k ks r.1)
  where
    go : (t : Bool) → key_before l k ≡ t → is_key (slice_get ks (prefix (λ l. key_before l k) ks)) k ≡ list_any (same_key k) ks →
        is_key (slice_get (l ∷ ks) (cond t (suc (prefix (λ l. key_before l k) ks)) 0)) k ≡ (same_key k l || list_any (same_key k) ks)
    go true e more = more ∙ ap (λ t. t || list_any (same_key k) ks) (sym (not_same k l e))
    go false e more = by (same_key k l) refl
      where
        by : (t : Bool) → same_key k l ≡ t → t ≡ (t || list_any (same_key k) ks)
        by true f = refl
        by false f = sym (none_above k ks (λ m i. key_before_total.transitive k l m (above k l e f) (r.0 m i)))

pub any_insert : (q k : Key) (ks : List Key) (i : ℕ) → list_any (same_key q) (insert ks i k) ≡ (same_key q k || list_any (same_key q) ks)
any_insert q k [] zero = refl
any_insert q k [] (suc i) = refl
any_insert q k (l ∷ ks) zero = refl
any_insert q k (l ∷ ks) (suc i) = ap (λ t. same_key q l || t) (any_insert q k ks i) ∙ swapped (same_key q l) (same_key q k) (list_any (same_key q) ks)
  where
    swapped : (a b c : Bool) → (a || (b || c)) ≡ (b || (a || c))
    swapped true true c = refl
    swapped true false c = refl
    swapped false true c = refl
    swapped false false c = refl

insert_in : (k : Key) (ks : List Key) (i : ℕ) (l : Key) → IsIn l (insert ks i k) → (l ≡ k) ⊎ IsIn l ks
insert_in k [] zero l j = j
insert_in k [] (suc i) l j = j
insert_in k (m ∷ ks) zero l j = j
insert_in k (m ∷ ks) (suc i) l (inl e) = inr (inl e)
insert_in k (m ∷ ks) (suc i) l (inr j) = elim (insert_in k ks i l j) [ inl e ↦ inl e | inr h ↦ inr (inr h) ]

-- a key that goes in at its place leaves the order
pub rising_insert : (k : Key) (ks : List Key) → AreRising ks → is_key (slice_get ks (prefix (λ l. key_before l k) ks)) k ≡ false →
    AreRising (insert ks (prefix (λ l. key_before l k) ks) k)
rising_insert k [] r e = (λ l i. absurd i, tt)
rising_insert k (l ∷ ks) r e = go (key_before l k) refl e (rising_insert k ks r.1)
  where
    go : (t : Bool) → key_before l k ≡ t → is_key (slice_get (l ∷ ks) (cond t (suc (prefix (λ l. key_before l k) ks)) 0)) k ≡ false →
        (is_key (slice_get ks (prefix (λ l. key_before l k) ks)) k ≡ false → AreRising (insert ks (prefix (λ l. key_before l k) ks) k)) →
        AreRising (insert (l ∷ ks) (cond t (suc (prefix (λ l. key_before l k) ks)) 0) k)
    go true f e more = (
      λ m i. elim (insert_in k ks (prefix (λ l. key_before l k) ks) m i) [
        | inl q ↦ subst (λ n. key_before l n ≡ true) (sym q) f
        | inr j ↦
            r.0 m j
      ],
      more e,
    )
    go false f e more =
        let up : key_before k l ≡ true = above k l f e in
        (λ m i. elim i [ inl q ↦ subst (λ n. key_before k n ≡ true) (sym q) up | inr j ↦ key_before_total.transitive k l m up (r.0 m j) ], r)

-- a key that is listed already adds nothing
pub already : (q k : Key) (ks : List Key) → list_any (same_key k) ks ≡ true → list_any (same_key q) ks ≡ (same_key q k || list_any (same_key q) ks)
already q k ks e = elim (same_key_tells q k) [
  | inl s ↦ subst (λ l. list_any (same_key l) ks ≡ true) (sym s.1) e ∙ sym (ap (λ t. t || list_any (same_key q) ks) s.0)
  | inr s ↦ sym (ap (λ t. t || list_any (same_key q) ks) s.0)
]
