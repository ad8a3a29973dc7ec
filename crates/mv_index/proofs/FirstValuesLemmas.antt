-- The first value of a key in a list, and in a map that is filled from it.
use Rattle.std.proofs.Common.{◌≡◌, ◌≢◌, ◌⊎◌, inl, inr, ℕ, ◌+◌, ◌<◌, Bool, true, false, cond, List, [], ◌∷◌, ◌++◌, length, get_or, take, refl, ap, sym, subst, ◌∙◌, Option, Some, None, arith}
use Rattle.std.specs.Prelude.{ℤ}
use Rattle.std.specs.Option.{option_or, is_some}
use Rattle.std.specs.Bool.{then_some}
use Rattle.std.specs.Ordering.{is_eq}
use Rattle.std.proofs.lemmas.List.{take_more}
use Rattle.std.proofs.lemmas.Bool.Decides.{nat_tests}
use Rattle.std.proofs.lemmas.Int.{ints}
use Rattle.morty_base.proofs.Orders.{same_key_tells}
use Rattle.protocol.specs.Words.{Key, same_key}
use Rattle.protocol.specs.Replica.Held.{first_held, first_value}
use Rattle.protocol.specs.declared.First2.{First2}
use Rattle.mv_index.specs.FirstValues.{key_cmp, first_of}

-- the value that is listed first for k
abbrev pub listed_first : Key → List First2 → Option ℤ
listed_first k [] = None
listed_first k (f ∷ fs) = cond (same_key k f.key) (Some f.value) (listed_first k fs)

pub listed_held : (k : Key) (fs : List First2) → first_of (listed_first k fs) ≡ first_held fs k
listed_held k [] = refl
listed_held k (f ∷ fs) = go (same_key k f.key) (listed_held k fs)
  where
    go : (t : Bool) → first_of (listed_first k fs) ≡ first_held fs k →
        first_of (cond t (Some f.value) (listed_first k fs)) ≡ cond t (first_value f.value) (first_held fs k)
    go true e = refl
    go false e = e

listed_push : (k : Key) (fs : List First2) (f : First2) → listed_first k (fs ++ f ∷ []) ≡ option_or (listed_first k fs) (then_some (same_key k f.key) f.value)
listed_push k [] f = go (same_key k f.key)
  where
    go : (t : Bool) → cond t (Some f.value) None ≡ option_or None (then_some t f.value)
    go true = refl
    go false = refl
listed_push k (g ∷ fs) f = go (same_key k g.key) (listed_push k fs f)
  where
    go : (t : Bool) → listed_first k (fs ++ f ∷ []) ≡ option_or (listed_first k fs) (then_some (same_key k f.key) f.value) →
        cond t (Some g.value) (listed_first k (fs ++ f ∷ [])) ≡ option_or (cond t (Some g.value) (listed_first k fs)) (then_some (same_key k f.key) f.value)
    go true e = refl
    go false e = e

-- one more value of a list that is gone through
pub listed_more : (k : Key) (fs : List First2) (i : ℕ) (d : First2) (now new : Option ℤ) → i < length fs → now ≡ listed_first k (take i fs) →
    new ≡ option_or now (then_some (same_key k (get_or fs i d).key) (get_or fs i d).value) → new ≡ listed_first k (take (i + 1) fs)
listed_more k fs i d now new h e f =
    f ∙ (ap (λ o. option_or o (then_some (same_key k (get_or fs i d).key) (get_or fs i d).value)) e
    ∙ (sym (listed_push k (take i fs) (get_or fs i d)) ∙ ap (listed_first k) (sym (take_more fs i d h))))

pub key_eq : (a b : Key) → is_eq (key_cmp a b) ≡ same_key b a
unfolding same_key
key_eq a b = grind (arith, nat_tests, ints)

-- a key that has a value keeps it
pub kept_value : (get : Key → Option ℤ) (f : First2) (k : Key) → is_some (get f.key) ≡ true → get k ≡ option_or (get k) (then_some (same_key k f.key) f.value)
kept_value get f k e = go (same_key k f.key) (same_key_tells k f.key)
  where
    some : (o : Option ℤ) → is_some o ≡ true → (p : Option ℤ) → o ≡ option_or o p
    some None e p = absurd cc
    some (Some v) e p = refl

    none : (o : Option ℤ) → o ≡ option_or o None
    none None = refl
    none (Some v) = refl

    go : (t : Bool) → ((t ≡ true) × (k ≡ f.key)) ⊎ ((t ≡ false) × (k ≢ f.key)) → get k ≡ option_or (get k) (then_some t f.value)
    go true (inl q) = some (get k) (subst (λ l. is_some (get l) ≡ true) (sym q.1) e) (Some f.value)
    go true (inr q) = absurd (cc (q.0))
    go false q = none (get k)

pub new_value : (get : Key → Option ℤ) (new : Option ℤ) (f : First2) (k : Key) → is_some (get f.key) ≡ false →
    new ≡ cond (same_key k f.key) (Some f.value) (get k) →
    new ≡ option_or (get k) (then_some (same_key k f.key) f.value)
new_value get new f k e n = n ∙ go (same_key k f.key) (same_key_tells k f.key)
  where
    none : (o : Option ℤ) → is_some o ≡ false → (p : Option ℤ) → p ≡ option_or o p
    none None e p = refl
    none (Some v) e p = absurd cc

    last : (o : Option ℤ) → o ≡ option_or o None
    last None = refl
    last (Some v) = refl

    go : (t : Bool) → ((t ≡ true) × (k ≡ f.key)) ⊎ ((t ≡ false) × (k ≢ f.key)) → cond t (Some f.value) (get k) ≡ option_or (get k) (then_some t f.value)
    go true (inl q) = none (get k) (subst (λ l. is_some (get l) ≡ false) (sym q.1) e) (Some f.value)
    go true (inr q) = absurd (cc (q.0))
    go false q = last (get k)
