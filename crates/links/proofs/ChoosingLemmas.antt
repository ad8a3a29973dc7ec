-- The first link of a kind and slot is found, and taking it away leaves the first ones of the other slots.
use Rattle.std.proofs.Common.{◌≡◌, ◌≢◌, ℕ, zero, suc, ◌<◌, ◌≤◌, Bool, true, false, List, [], ◌∷◌, ◌++◌, Some, None, ◌⊎◌, inl, inr, map, length, refl, sym, ap, ◌∙◌, subst, arith}
use Rattle.std.specs.Prelude.{cond, ◌==◌, ◌&&◌, is_some}
use Rattle.std.specs.List.{find, remove, slice_get}
use Rattle.std.proofs.lemmas.Bool.Decides.{nat_tests}
use Rattle.net_core.specs.Ruled.{LinkState}
use Rattle.net_core.specs.declared.plan.LinkKind.{LinkKind}
use Rattle.links.specs.Choosing.{same_kind, is_for, first_for, AreChosen, IsMissing}

-- none of them does
pub find_none : {A : Type 0} (p : A → Bool) (xs : List A) → ((j : ℕ) (x : A) → slice_get xs j ≡ Some x → p x ≡ false) → find p xs ≡ None
find_none p [] h = refl
find_none p (x ∷ xs) h = ap (λ t. cond t (Some x) (find p xs)) (h zero x refl) ∙ find_none p xs (λ j y e. h (suc j) y e)

-- the first that does is at this place
pub find_here : {A : Type 0} (p : A → Bool) (xs : List A) (i : ℕ) (x : A) → slice_get xs i ≡ Some x → p x ≡ true →
    ((j : ℕ) (y : A) → j < i → slice_get xs j ≡ Some y → p y ≡ false) → find p xs ≡ Some x
find_here p [] i x e t h = absurd (cc e)
find_here p (y ∷ xs) zero x e t h = let same : y ≡ x = cc in ap (λ b. cond b (Some y) (find p xs)) (ap p same ∙ t) ∙ ap (λ z. Some z) same
find_here p (y ∷ xs) (suc i) x e t h =
    ap (λ b. cond b (Some y) (find p xs)) (h zero y (omega arith) refl) ∙ find_here p xs i x e t (λ j z less g. h (suc j) z (omega (arith, less)) g)

-- one that does not is taken away
pub find_removed : {A : Type 0} (p : A → Bool) (xs : List A) (i : ℕ) (x : A) → slice_get xs i ≡ Some x → p x ≡ false → find p (remove xs i) ≡ find p xs
find_removed p [] i x e f = absurd (cc e)
find_removed p (y ∷ xs) zero x e f = let same : y ≡ x = cc in sym (ap (λ b. cond b (Some y) (find p xs)) (ap p same ∙ f))
find_removed p (y ∷ xs) (suc i) x e f = ap (λ o. cond (p y) (Some y) o) (find_removed p xs i x e f)

pub map_removed : {A B : Type 0} (f : A → B) (xs : List A) (i : ℕ) → map f (remove xs i) ≡ remove (map f xs) i
map_removed f [] zero = refl
map_removed f [] (suc i) = refl
map_removed f (x ∷ xs) zero = refl
map_removed f (x ∷ xs) (suc i) = ap (λ ys. f x ∷ ys) (map_removed f xs i)

pub map_pushed : {A B : Type 0} (f : A → B) (xs : List A) (x : A) → map f (xs ++ x ∷ []) ≡ map f xs ++ f x ∷ []
map_pushed f [] x = refl
map_pushed f (y ∷ xs) x = ap (λ ys. f y ∷ ys) (map_pushed f xs x)

pub get_mapped : {A B : Type 0} (f : A → B) (xs : List A) (i : ℕ) (x : A) → slice_get xs i ≡ Some x → slice_get (map f xs) i ≡ Some (f x)
get_mapped f [] i x e = absurd (cc e)
get_mapped f (y ∷ xs) zero x e = let same : y ≡ x = cc in ap (λ z. Some (f z)) same
get_mapped f (y ∷ xs) (suc i) x e = get_mapped f xs i x e

-- an element of the mapped list is that of one of the list
pub was_mapped : {A B : Type 0} (f : A → B) (xs : List A) (i : ℕ) (b : B) → slice_get (map f xs) i ≡ Some b → (x : A) × (slice_get xs i ≡ Some x) × (f x ≡ b)
was_mapped f [] i b e = absurd (cc e)
was_mapped f (y ∷ xs) zero b e = (y, refl, cc)
was_mapped f (y ∷ xs) (suc i) b e = was_mapped f xs i b e

-- a link is for one slot
slots_apart : (t : Bool) (i j n : ℕ) → (t && (i == n)) ≡ true → j ≢ i → (u : Bool) → (u && (j == n)) ≡ false
slots_apart true i j n e other true = let f : i ≡ n = grind (arith, nat_tests) in go (j == n) refl f
  where
    go : (b : Bool) → (j == n) ≡ b → i ≡ n → b ≡ false
    go true q f = let g : j ≡ n = grind (arith, nat_tests) in absurd (other (g ∙ sym f))
    go false q f = refl
slots_apart true i j n e other false = refl
slots_apart false i j n e other u = absurd (cc e)

pub other_slot : (kind : LinkKind) (i j : ℕ) (a : LinkState) → is_for kind i a ≡ true → j ≢ i → is_for kind j a ≡ false
other_slot kind i j a e other = slots_apart (same_kind kind a.kind) i j a.slot e other (same_kind kind a.kind)

-- so far each slot has the first link handed in for it, and what is left has those of the others
pub record IsChoosing (kind : LinkKind) (handed : List LinkState) (n : ℕ) (rest chosen : List LinkState) : Type 0 where
  pub chosen_are : AreChosen kind handed n chosen
  pub left : (j : ℕ) → n ≤ j → first_for kind j rest ≡ first_for kind j handed

get_push : {A : Type 0} (xs : List A) (i : ℕ) (x y : A) → slice_get (xs ++ x ∷ []) i ≡ Some y → ((i < length xs) × (slice_get xs i ≡ Some y)) ⊎ ((i ≡ length xs) × (x ≡ y))
get_push [] zero x y e = inr (refl, cc)
get_push [] (suc i) x y e = absurd (cc e)
get_push (z ∷ xs) zero x y e = inl (omega arith, e)
get_push (z ∷ xs) (suc i) x y e = elim (get_push xs i x y e) [ inl a ↦ inl (omega (arith, a.0), a.1) | inr a ↦ inr (ap suc a.0, a.1) ]

length_push : {A : Type 0} (xs : List A) (x : A) → length (xs ++ x ∷ []) ≡ suc (length xs)
length_push [] x = refl
length_push (y ∷ xs) x = ap suc (length_push xs x)

pub first_none : (kind : LinkKind) (handed : List LinkState) → IsChoosing kind handed zero handed []
first_none kind handed = record { chosen_are = record { count = refl; each = λ i a e. absurd (cc e) }; left = λ j le. refl }

pub chosen_more : (kind : LinkKind) (handed rest chosen : List LinkState) (n i : ℕ) (a : LinkState) → IsChoosing kind handed n rest chosen →
    slice_get rest i ≡ Some a → is_for kind n a ≡ true → first_for kind n rest ≡ Some a → IsChoosing kind handed (suc n) (remove rest i) (chosen ++ a ∷ [])
chosen_more kind handed rest chosen n i a is there own first = record {
  chosen_are = record {
    count = length_push chosen a ∙ ap suc is.chosen_are.count;
    each = λ j b e. elim (get_push chosen j a b e) [
      | inl q ↦ is.chosen_are.each j b q.1
      | inr q ↦ ap (λ k. first_for kind k handed) (q.0 ∙ is.chosen_are.count) ∙ sym (is.left n (omega arith)) ∙ first ∙ ap (λ z. Some z) q.1
    ];
  };
  left = λ j le.
      find_removed (is_for kind j) rest i a there (other_slot kind n j a own (λ e. absurd (let f : ⊥ = omega (arith, e, le) in f)))
      ∙ is.left j (omega (arith, le));
}

pub missing : (kind : LinkKind) (handed rest chosen : List LinkState) (n : ℕ) → IsChoosing kind handed n rest chosen → first_for kind n rest ≡ None →
    IsMissing kind handed n
missing kind handed rest chosen n is none = record {
  none = sym (is.left n (omega arith)) ∙ none;
  lowest = λ i less. has i less;
}
  where
    get_some : {A : Type 0} (xs : List A) (i : ℕ) → i < length xs → (x : A) × (slice_get xs i ≡ Some x)
    get_some [] i less = absurd (let f : ⊥ = omega (arith, less) in f)
    get_some (x ∷ xs) zero less = (x, refl)
    get_some (x ∷ xs) (suc i) less = get_some xs i (omega (arith, less))

    has : (i : ℕ) → i < n → is_some (first_for kind i handed) ≡ true
    has i less =
        let g = get_some chosen i (subst (λ m. i < m) (sym is.chosen_are.count) less) in
        ap is_some (is.chosen_are.each i g.0 g.1)

-- the same by other names
pub same_choosing : (kind : LinkKind) (handed : List LinkState) (n n' : ℕ) (rest rest' chosen chosen' : List LinkState) → n ≡ n' → rest ≡ rest' → chosen ≡ chosen' →
    IsChoosing kind handed n rest chosen → IsChoosing kind handed n' rest' chosen'
same_choosing kind handed n n' rest rest' chosen chosen' a b d is =
    subst (λ m. IsChoosing kind handed m rest' chosen') a (subst (λ r. IsChoosing kind handed n r chosen') b (subst (λ s. IsChoosing kind handed n rest s) d is))
