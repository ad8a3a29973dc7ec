-- Answers as a list: each fits the key that is asked after the ones before it, and a Note makes sure what it names alone.
use Rattle.std.proofs.Common.{◌≡◌, ℕ, ℤ, ◌+◌, inl, inr, refl, ap, sym, subst, true, false, Bool, cond, List, [], ◌∷◌, ◌++◌, Option, Some, None, append_assoc, get_or, set, take, arith}
use Rattle.std.specs.Prelude.{zero, suc, map, not, ◌||◌, unwrap_or}
use Rattle.std.specs.List.{slice_get, list_any}
use Rattle.std.specs.Ordering.{int_eq}
use Rattle.std.proofs.lemmas.List.{append-nil}
use Rattle.std.proofs.lemmas.Bool.Decides.{Decides-int_eq}
use Rattle.protocol.specs.Words.{Wid, Key, Read, same_key, same_wid, wid_before}
use Rattle.protocol.specs.Lists.{IsIn}
use Rattle.protocol.specs.declared.Held.{Held}
use Rattle.protocol.specs.Client.State.{Walk, Answer, values, reads_of}
use Rattle.protocol.specs.Client.Deciding.{moved_on, other_value, cut}
use Rattle.protocol.specs.Client.Following.{no_answer, effect, is_named, place_of}
use Rattle.protocol.specs.Client.Following.Effect.{Nothing, Sure, Follow}
use Rattle.protocol.proofs.NamesLemmas.{key_is, wid_is}

-- each answer fits the key that is asked after the ones before it
abbrev pub Fits : (List ℤ → Walk) → (Key → Answer → Type 0) → List ℤ → List Answer → Type 0
Fits W A pre [] = Unit {0}
Fits W A pre (a ∷ more) = ((k : Key) → (W pre).asks ≡ Some k → A k a) × Fits W A (pre ++ a.label.value ∷ []) more

kept_value : (a : Answer) → other_value a ≡ false → (moved_on a).label.value ≡ a.label.value
kept_value a e = go a.next e
  where
    not_false : (t : Bool) → not t ≡ false → t ≡ true
    not_false true e = refl
    not_false false e = cc

    go : (o : Option Held) → (elim o [ None ↦ false | Some l ↦ not (int_eq a.label.value l.value) ]) ≡ false → (unwrap_or o a.label).value ≡ a.label.value
    go None e = refl
    go (Some l) e = sym ((Decides-int_eq a.label.value l.value).0 (not_false (int_eq a.label.value l.value) e))

module _ (W : List ℤ → Walk) (A : Key → Answer → Type 0) where
  Asked : List ℤ → Key → Type 0
  Asked vs k = (W vs).asks ≡ Some k

  at_end : (pre : List ℤ) (k : Key) → (W pre).asks ≡ Some k → (W (pre ++ [])).asks ≡ Some k
  at_end pre k e = subst (λ l. (W l).asks ≡ Some k) (sym (append-nil pre)) e

  further : (pre : List ℤ) (v : ℤ) (vs : List ℤ) (k : Key) → (W ((pre ++ v ∷ []) ++ vs)).asks ≡ Some k → (W (pre ++ v ∷ vs)).asks ≡ Some k
  further pre v vs k e = subst (λ l. (W l).asks ≡ Some k) (append_assoc pre (v ∷ []) vs) e

  pub fits_append : (pre : List ℤ) (as' : List Answer) (new : Answer) → Fits W A pre as' → ((k : Key) → (W (pre ++ values as')).asks ≡ Some k → A k new) →
      Fits W A pre (as' ++ new ∷ [])
  fits_append pre [] new o f = (λ k e. f k (at_end pre k e), tt)
  fits_append pre (a ∷ more) new o f = (o.0, fits_append (pre ++ a.label.value ∷ []) more new o.1 (λ k e. f k (further pre a.label.value (values more) k e)))

  pub fits_cut : (pre : List ℤ) (as' : List Answer) (i : ℕ) (new : Answer) → Fits W A pre as' →
      ((k : Key) → (W (pre ++ take i (values as'))).asks ≡ Some k → A k new) → Fits W A pre (take i as' ++ new ∷ [])
  fits_cut pre [] zero new o f = (λ k e. f k (at_end pre k e), tt)
  fits_cut pre (a ∷ more) zero new o f = (λ k e. f k (at_end pre k e), tt)
  fits_cut pre [] (suc i) new o f = (λ k e. f k (at_end pre k e), tt)
  fits_cut pre (a ∷ more) (suc i) new o f = (o.0, fits_cut (pre ++ a.label.value ∷ []) more i new o.1 (λ k e. f k (further pre a.label.value (take i (values more)) k e)))

  pub fits_set : (pre : List ℤ) (as' : List Answer) (i : ℕ) (new : Answer) → Fits W A pre as' → (get_or as' i no_answer).label.value ≡ new.label.value →
      ((k : Key) → (W (pre ++ take i (values as'))).asks ≡ Some k → A k (get_or as' i no_answer) → A k new) → Fits W A pre (set as' i new)
  fits_set pre [] i new o e f = tt
  fits_set pre (a ∷ more) zero new o e f = (λ k q. f k (at_end pre k q) (o.0 k q), subst (λ v. Fits W A (pre ++ v ∷ []) more) e o.1)
  fits_set pre (a ∷ more) (suc i) new o e f = (o.0, fits_set (pre ++ a.label.value ∷ []) more i new o.1 e (λ k q h. f k (further pre a.label.value (take i (values more)) k q) h))

  pub fits_get : (pre : List ℤ) (as' : List Answer) (i : ℕ) (a : Answer) (k : Key) → Fits W A pre as' → slice_get as' i ≡ Some a →
      (W (pre ++ take i (values as'))).asks ≡ Some k → A k a
  fits_get pre [] i a k o e q = cc
  fits_get pre (b ∷ more) zero a k o e q = let same : b ≡ a = cc in subst (λ z. A k z) same (o.0 k (subst (λ l. (W l).asks ≡ Some k) (append-nil pre) q))
  fits_get pre (b ∷ more) (suc i) a k o e q = fits_get (pre ++ b.label.value ∷ []) more i a k o.1 e (subst (λ l. (W l).asks
      ≡ Some k) (sym (append_assoc pre (b.label.value ∷ []) (take i (values more)))) q)

  module _ (moves : (k : Key) (a : Answer) → A k a → A k (moved_on a)) where
    or_left : (a b : Bool) → (a || b) ≡ false → a ≡ false
    or_left true b e = cc
    or_left false b e = refl

    or_right : (a b : Bool) → (a || b) ≡ false → b ≡ false
    or_right true b e = cc
    or_right false b e = e

    pub fits_moved : (pre : List ℤ) (as' : List Answer) → Fits W A pre as' → list_any other_value as' ≡ false → Fits W A pre (map moved_on as')
    fits_moved pre [] o e = tt
    fits_moved pre (a ∷ more) o e = (λ k q. moves k a (o.0 k q), subst (λ v. Fits W A (pre ++ v ∷ []) (map moved_on more)) (sym (kept_value a (or_left (other_value a) _ e))) (fits_moved (pre ++ a.label.value ∷ []) more o.1 (or_right (other_value a) _ e)))

    pub fits_changed : (pre : List ℤ) (as' : List Answer) → Fits W A pre as' → Fits W A pre (cut as')
    fits_changed pre [] o = tt
    fits_changed pre (a ∷ more) o = go (fits_changed (pre ++ a.label.value ∷ []) more o.1) (other_value a) refl
      where
        go : Fits W A (pre ++ a.label.value ∷ []) (cut more) → (t : Bool) → other_value a ≡ t → Fits W A pre (cond t (moved_on a ∷ []) (moved_on a ∷ cut more))
        go ih true e = (λ k q. moves k a (o.0 k q), tt)
        go ih false e = (λ k q. moves k a (o.0 k q), subst (λ v. Fits W A (pre ++ v ∷ []) (cut more)) (sym (kept_value a e)) ih)

-- where a key is found
pub place_get : (k : Key) (j : ℕ) (ks : List Key) (i : ℕ) → place_of k j ks ≡ Some i → (d : ℕ) × (i ≡ j + d) × (slice_get ks d ≡ Some k)
place_get k j [] i e = cc
place_get k j (l ∷ ks) i e = go (λ z. place_get k (suc j) ks i z) (same_key k l) refl e
  where
    go : (place_of k (suc j) ks ≡ Some i → (d : ℕ) × (i ≡ suc j + d) × (slice_get ks d ≡ Some k)) → (t : Bool) → same_key k l ≡ t →
        cond t (Some j) (place_of k (suc j) ks) ≡ Some i → (d : ℕ) × (i ≡ j + d) × (slice_get (l ∷ ks) d ≡ Some k)
    go ih true q e = (0, (let z : j ≡ i = cc in omega (arith, z)), ap Some (sym (key_is k l q)))
    go ih false q e = let m = ih e in (suc m.0, (let z = m.1 in omega (arith, z)), m.2)

-- where a read of a content stands
pub record ReadAt (ks : List Key) (as' : List Answer) (r : Read) : Type 0 where
  pub place : ℕ
  pub answer : Answer
  pub key : slice_get ks place ≡ Some r.key
  pub found : slice_get as' place ≡ Some answer
  pub there : IsIn answer as'
  pub wid : answer.label.wid ≡ r.wid
  pub value : answer.label.value ≡ r.value

pub read_at : (ks : List Key) (as' : List Answer) (r : Read) → IsIn r (reads_of ks as') → ReadAt ks as' r
read_at [] as' r i = absurd i
read_at (k ∷ ks) [] r i = absurd i
read_at (k ∷ ks) (a ∷ more) r (inl e) = record { place = 0; answer = a; key = ap Some (ap (λ (z : Read). z.key) (sym e)); found = refl; there = inl refl; wid = ap (λ (z : Read). z.wid) (sym e); value = ap (λ (z : Read). z.value) (sym e) }
read_at (k ∷ ks) (a ∷ more) r (inr i) = let m = read_at ks more r i in
    record { place = suc m.place; answer = m.answer; key = m.key; found = m.found; there = inr m.there; wid = m.wid; value = m.value }

-- a Note that turns a label sure has its write name, and is sure
pub effect_sure : (old new : Held) (gone : Option Wid) → effect old new gone ≡ Sure → (old.wid ≡ new.wid) × (new.sure ≡ true)
effect_sure old new gone e = go (same_wid old.wid new.wid) new.sure (wid_before old.wid new.wid || is_named old gone) refl refl e
  where
    go : (t u v : Bool) → same_wid old.wid new.wid ≡ t → new.sure ≡ u → cond t (cond u Sure Nothing) (cond v Follow Nothing) ≡ Sure →
        (old.wid ≡ new.wid) × (new.sure ≡ true)
    go true true v q f e = (wid_is old.wid new.wid q, f)
    go true false v q f e = cc
    go false u true q f e = cc
    go false u false q f e = cc
