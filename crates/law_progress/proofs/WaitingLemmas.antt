-- Envelopes that were sent and not delivered.
use Rattle.std.proofs.Common.{◌≡◌, ℕ, ◌<◌, ◌⊎◌, ◌≢◌, inl, inr, ap, sym, ◌∙◌, subst, true, false, Bool, List, [], ◌∷◌, ◌++◌, Some, length, arith}
use Rattle.std.specs.Prelude.{cond, ◌==◌, suc, zero}
use Rattle.std.specs.List.{slice_get, list_any}
use Rattle.std.proofs.lemmas.Bool.Decides.{eqb_tells}
use Rattle.std.proofs.lemmas.Option.{slice_get_within}
use Rattle.protocol.specs.Words.{Envelope}
use Rattle.protocol.specs.Lists.{IsIn}
use Rattle.protocol.specs.World.State.{World}
use Rattle.protocol.specs.World.Events.{marked}
use Rattle.protocol.proofs.ListsLemmas.{IsIn-cases}
use Rattle.law_progress.proofs.UndisturbedSteps.{Takes, Acts}
use Rattle.law_progress.specs.Undisturbed.{IsSettled}

-- the envelope was sent and not delivered
pub record IsWaiting (w : World) (m : Envelope) : Type 0 where
  pub place : ℕ
  pub there : slice_get w.mail place ≡ Some m
  pub waits : IsIn place w.delivered → ⊥

-- only what was sent was delivered
abbrev pub MarksWithin : World → Type 0
MarksWithin w = (i : ℕ) → IsIn i w.delivered → i < length w.mail

get_left : {A : Type 0} (xs ys : List A) (i : ℕ) (a : A) → slice_get xs i ≡ Some a → slice_get (xs ++ ys) i ≡ Some a
get_left [] ys i a e = cc
get_left (x ∷ xs) ys zero a e = e
get_left (x ∷ xs) ys (suc i) a e = get_left xs ys i a e

get_new : {A : Type 0} (xs ys : List A) (a : A) → IsIn a ys → (i : ℕ) × (slice_get (xs ++ ys) i ≡ Some a) × (i < length xs → ⊥)
get_new [] (y ∷ ys) a (inl e) = (0, ap Some (sym e), λ h. omega (arith, h))
get_new [] (y ∷ ys) a (inr j) = let k = get_new [] ys a j in (suc k.0, k.1, λ h. omega (arith, h))
get_new [] [] a j = absurd j
get_new (x ∷ xs) ys a j = let k = get_new xs ys a j in (suc k.0, k.1, λ h. k.2 (omega (arith, h)))

pub in_marked : (i j : ℕ) (is : List ℕ) → IsIn j (marked i is) → IsIn j is ⊎ (j ≡ i)
in_marked i j is k = go (list_any (λ z. z == i) is) k
  where
    go : (t : Bool) → IsIn j (cond t is (is ++ i ∷ [])) → IsIn j is ⊎ (j ≡ i)
    go true k = inl k
    go false k = elim (IsIn-cases j is (i ∷ []) k) [ inl z ↦ inl z | inr z ↦ elim z [ inl e ↦ inr e | inr f ↦ absurd f ] ]

module _ (w w' : World) (sent : List Envelope) (m : Envelope) where
  pub acts_waits : Acts w w' sent → IsWaiting w m → IsWaiting w' m
  acts_waits a q = record {
    place = q.place;
    there = subst (λ (l : List Envelope). slice_get l q.place ≡ Some m) (sym a.mail) (get_left w.mail sent q.place m q.there);
    waits = λ j. q.waits (subst (λ (l : List ℕ). IsIn q.place l) a.delivered j);
  }

  pub takes_waits : (i : ℕ) (n : Envelope) → Takes w w' i n sent → IsWaiting w m → IsWaiting w' m ⊎ (m ≡ n)
  takes_waits i n t q = go (eqb_tells q.place i)
    where
      go : (((q.place == i) ≡ true) × (q.place ≡ i)) ⊎ (((q.place == i) ≡ false) × (q.place ≢ i)) → IsWaiting w' m ⊎ (m ≡ n)
      go (inl e) = inr (let f : Some m ≡ Some n = sym q.there ∙ ap (slice_get w.mail) e.1 ∙ t.place in cc)
      go (inr e) = inl (record {
        place = q.place;
        there = subst (λ (l : List Envelope). slice_get l q.place ≡ Some m) (sym t.mail) (get_left w.mail sent q.place m q.there);
        waits = λ j. elim (in_marked i q.place w.delivered (subst (λ (l : List ℕ). IsIn q.place l) t.delivered j)) [ inl k ↦ q.waits k | inr f ↦ e.1 f ];
      })

  pub acts_sends : MarksWithin w → Acts w w' sent → IsIn m sent → IsWaiting w' m
  acts_sends h a j = let k = get_new w.mail sent m j in record {
    place = k.0;
    there = subst (λ (l : List Envelope). slice_get l k.0 ≡ Some m) (sym a.mail) k.1;
    waits = λ z. k.2 (h k.0 (subst (λ (l : List ℕ). IsIn k.0 l) a.delivered z));
  }

  pub takes_sends : MarksWithin w → (i : ℕ) (n : Envelope) → Takes w w' i n sent → IsIn m sent → IsWaiting w' m
  takes_sends h i n t j = let k = get_new w.mail sent m j in record {
    place = k.0;
    there = subst (λ (l : List Envelope). slice_get l k.0 ≡ Some m) (sym t.mail) k.1;
    waits = λ z. elim (in_marked i k.0 w.delivered (subst (λ (l : List ℕ). IsIn k.0 l) t.delivered z)) [
      | inl y ↦ k.2 (h k.0 y)
      | inr e ↦ k.2 (subst (λ (z : ℕ). z < length w.mail) (sym e) (slice_get_within w.mail i n t.place))
    ];
  }

-- where all was delivered nothing waits
pub none_waits : (w : World) → IsSettled w → (m : Envelope) → IsWaiting w m → ⊥
none_waits w s m q = q.waits (s.delivered q.place (slice_get_within w.mail q.place m q.there))
