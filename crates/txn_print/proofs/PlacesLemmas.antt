-- The places of names that are distinct.
use Rattle.std.proofs.Common.{◌≡◌, ℕ, zero, suc, ◌+◌, ◌<◌, ◌≤◌, Bool, true, false, ◌||◌, max, ltb, List, [], ◌∷◌, ◌++◌, length, take, get_or, refl, sym, ap, ◌∙◌, subst, arith, ⊎_elim}
use Rattle.std.specs.List.{AllByRecursion, IsDistinct}
use Rattle.std.specs.Str.{bytes_eq}
use Rattle.std.proofs.lemmas.Bool.{cases_Bool, cond-true, cond-false, lt-ltb, ltb-true, ltb-false}
use Rattle.std.proofs.lemmas.Cmp.{nat_list_eq_equiv}
use Rattle.txn_lang.specs.Form.{with_target}
use Rattle.txn_parse.specs.Binding.{Names, is_known, place, with_name}
use Rattle.txn_parse.proofs.NamesLemmas.{same_name, place_new}

-- the name with a number
abbrev pub name_of : Names → ℕ → List ℕ
name_of names v = get_or names v []

-- names around one of them
pub record IsAt (names : Names) (v : ℕ) : Type 0 where
  pub before : Names
  pub behind : Names
  pub split : names ≡ before ++ name_of names v ∷ behind
  pub many : length before ≡ v
  pub taken : take v names ≡ before

pub at : (names : Names) (v : ℕ) → v < length names → IsAt names v
at [] v less = absurd (let e : ⊥ = omega (arith, less) in e)
at (x ∷ names) zero less = record { before = []; behind = names; split = refl; many = refl; taken = refl }
at (x ∷ names) (suc v) less =
    let rest = at names v (omega (arith, less)) in
    let many = rest.many in
    record {
      before = x ∷ rest.before;
      behind = rest.behind;
      split = ap (λ (ns : Names). x ∷ ns) rest.split;
      many = omega (arith, many);
      taken = ap (λ (ns : Names). x ∷ ns) rest.taken;
    }

all_front : {A : Type 0} (P : A → Type 0) (xs : List A) (y : A) (ys : List A) → AllByRecursion P (xs ++ y ∷ ys) → P y
all_front P [] y ys all = all.0
all_front P (x ∷ xs) y ys all = all_front P xs y ys all.1

or_false : (a b : Bool) → a ≡ false → b ≡ false → (a || b) ≡ false
or_false a b is also = ap (λ (x : Bool). x || b) is ∙ also

-- a name is not among those before it
pub new_name : (xs : Names) (y : List ℕ) (ys : Names) → IsDistinct bytes_eq (xs ++ y ∷ ys) → is_known xs y ≡ false
unfolding IsDistinct
new_name [] y ys d = refl
new_name (x ∷ xs) y ys d =
    or_false (bytes_eq y x) (is_known xs y) (nat_list_eq_equiv.symm y x ∙ all_front (λ (z : List ℕ). bytes_eq x z ≡ false) xs y ys d.0) (new_name xs y ys d.1)

module _ (names : Names) (distinct : IsDistinct bytes_eq names) where
  unknown : (v : ℕ) (a : IsAt names v) → is_known a.before (name_of names v) ≡ false
  unknown v a = new_name a.before (name_of names v) a.behind (subst (IsDistinct bytes_eq) a.split distinct)

  -- the place of a name is its number
  pub place_of : (v : ℕ) → v < length names → place names (name_of names v) ≡ v
  place_of v less =
      let a = at names v less in
      ap (λ (ns : Names). place ns (name_of names v)) a.split ∙ place_new a.before a.behind (name_of names v) (unknown v a) ∙ a.many

  or_true : (a b : Bool) → b ≡ true → (a || b) ≡ true
  or_true true b is = refl
  or_true false b is = is

  -- a name is among those with greater numbers
  pub known_of : (ns : Names) (v k : ℕ) → v < k → v < length ns → is_known (take k ns) (name_of ns v) ≡ true
  known_of [] v k less within = absurd (let e : ⊥ = omega (arith, within) in e)
  known_of (x ∷ ns) v zero less within = absurd (let e : ⊥ = omega (arith, less) in e)
  known_of (x ∷ ns) zero (suc k) less within = ap (λ b. b || is_known (take k ns) x) (same_name x)
  known_of (x ∷ ns) (suc v) (suc k) less within = or_true (bytes_eq (name_of ns v) x) _ (known_of ns v k (omega (arith, less)) (omega (arith, within)))

  pub known_here : (v : ℕ) → v < length names → is_known names (name_of names v) ≡ true
  known_here v less = subst (λ (ns : Names). is_known ns (name_of names v) ≡ true) (take_all names) (known_of names v (length names) less less)
    where
      take_all : (ns : Names) → take (length ns) ns ≡ ns
      take_all [] = refl
      take_all (x ∷ ns) = ap (λ (ms : Names). x ∷ ms) (take_all ns)

  take_more : (ns : Names) (v : ℕ) → v < length ns → take v ns ++ name_of ns v ∷ [] ≡ take (suc v) ns
  take_more [] v less = absurd (let e : ⊥ = omega (arith, less) in e)
  take_more (x ∷ ns) zero less = refl
  take_more (x ∷ ns) (suc v) less = ap (λ (ms : Names). x ∷ ms) (take_more ns v (omega (arith, less)))

  -- a target in its turn is one of the names so far, or the next
  pub target_named : (v k : ℕ) → v < length names → v ≤ k → with_name (name_of names v) (take k names) ≡ take (with_target (length names) v k) names
  target_named v k less turn =
      let to : with_target (length names) v k ≡ max k (v + 1) = cond-true (ltb v (length names)) (max k (v + 1)) k (lt-ltb v (length names) less) in
      ⊎_elim (λ yes. earlier (ltb-true v k yes)) (λ no. next (ltb-false v k no)) (cases_Bool (ltb v k)) ∙ ap (λ (n : ℕ). take n names) (sym to)
    where
      earlier : v < k → with_name (name_of names v) (take k names) ≡ take (max k (v + 1)) names
      earlier before =
          cond-true (is_known (take k names) (name_of names v)) (take k names) (take k names ++ name_of names v ∷ []) (known_of names v k before less)
          ∙ ap (λ (n : ℕ). take n names) (let e : k ≡ max k (v + 1) = omega (arith, before) in e)

      next : k ≤ v → with_name (name_of names v) (take k names) ≡ take (max k (v + 1)) names
      next last =
          let same : k ≡ v = omega (arith, last, turn) in
          let a = at names v less in
          let taken : take k names ≡ a.before = ap (λ (n : ℕ). take n names) same ∙ a.taken in
          let new : is_known (take k names) (name_of names v) ≡ false = ap (λ (ns : Names). is_known ns (name_of names v)) taken ∙ unknown v a in
          cond-false (is_known (take k names) (name_of names v)) (take k names) (take k names ++ name_of names v ∷ []) new
          ∙ ap (λ (n : ℕ). take n names ++ name_of names v ∷ []) same ∙ take_more names v less
          ∙ ap (λ (n : ℕ). take n names) (let e : suc v ≡ max k (v + 1) = omega (arith, same) in e)
