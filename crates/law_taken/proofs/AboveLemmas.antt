-- A test that fails wherever another one does reads a list as it reads what passes the other one there.
use Rattle.std.proofs.Common.{◌≡◌, refl, ap, sym, ◌∙◌, true, false, Bool, cond, List, [], ◌∷◌, ◌++◌, Option, Some}
use Rattle.std.specs.Prelude.{◌||◌, filter, find, flat_map, filter_map}
use Rattle.std.specs.List.{list_any}
use Rattle.std.proofs.lemmas.Bool.Decides.{nat_tests}
use Rattle.protocol.specs.Words.{Version, Exec, before, same_exec, same_version}
use Rattle.protocol.specs.Replica.Taken.{later}
use Rattle.protocol.specs.World.Decided.{UpTo}
use Rattle.protocol.proofs.NamesLemmas.{exec_is, version_is}
use Rattle.std.proofs.Common.{arith}

-- versions
pub up_to_trans : (a b c : Version) → UpTo a b → UpTo b c → UpTo a c
unfolding before
up_to_trans a b c p q = grind (arith, nat_tests)

pub then_before : (a b c : Version) → UpTo a b → before b c ≡ true → before a c ≡ true
unfolding before
then_before a b c p q = grind (arith, nat_tests)

up_to_itself : (a : Version) → UpTo a a
unfolding before
up_to_itself a = grind (arith, nat_tests)

before_up_to : (a b : Version) → before a b ≡ true → UpTo a b
unfolding before
before_up_to a b p = grind (arith, nat_tests)

pub up_to_later : (a b : Version) → UpTo a (later a b)
up_to_later a b = go (before a b) refl
  where
    go : (t : Bool) → before a b ≡ t → UpTo a (cond t b a)
    go true e = before_up_to a b e
    go false e = up_to_itself a

pub later_up_to : (a b c : Version) → UpTo a c → UpTo b c → UpTo (later a b) c
later_up_to a b c p q = go (before a b)
  where
    go : (t : Bool) → UpTo (cond t b a) c
    go true = q
    go false = p

pub later_holds : (a b : Version) → UpTo b (later a b)
later_holds a b = go (before a b) refl
  where
    go : (t : Bool) → before a b ≡ t → UpTo b (cond t b a)
    go true e = up_to_itself b
    go false e = e

pub later_same : (a b : Version) → UpTo b a → later a b ≡ a
later_same a b e = ap (λ t. cond t b a) e

-- who is above a version is no one that is not
pub other_exec : (w : Version) (x y : Exec) → before w x.ver ≡ true → before w y.ver ≡ false → same_exec x y ≡ false
other_exec w x y up low = go (same_exec x y) refl
  where
    go : (t : Bool) → same_exec x y ≡ t → t ≡ false
    go false e = refl
    go true e = sym up ∙ ap (λ (z : Exec). before w z.ver) (exec_is x y e) ∙ low

pub other_version : (w v u : Version) → before w v ≡ true → before w u ≡ false → same_version v u ≡ false
other_version w v u up low = go (same_version v u) refl
  where
    go : (t : Bool) → same_version v u ≡ t → t ≡ false
    go false e = refl
    go true e = sym up ∙ ap (before w) (version_is v u e) ∙ low

module _ {A : Type 0} (a : A → Bool) where
  -- p fails wherever a does
  any_filter : (p : A → Bool) → ((y : A) → a y ≡ false → p y ≡ false) → (xs : List A) → list_any p xs ≡ list_any p (filter a xs)
  any_filter p low [] = refl
  any_filter p low (y ∷ ys) = go (a y) refl (any_filter p low ys)
    where
      go : (t : Bool) → a y ≡ t → list_any p ys ≡ list_any p (filter a ys) → (p y || list_any p ys) ≡ list_any p (cond t (y ∷ filter a ys) (filter a ys))
      go true e ih = ap (λ b. p y || b) ih
      go false e ih = ap (λ b. b || list_any p ys) (low y e) ∙ ih

  filter_filter : (p : A → Bool) → ((y : A) → a y ≡ false → p y ≡ false) → (xs : List A) → filter p xs ≡ filter p (filter a xs)
  filter_filter p low [] = refl
  filter_filter p low (y ∷ ys) = go (a y) refl (filter_filter p low ys)
    where
      go : (t : Bool) → a y ≡ t → filter p ys ≡ filter p (filter a ys) →
          cond (p y) (y ∷ filter p ys) (filter p ys) ≡ filter p (cond t (y ∷ filter a ys) (filter a ys))
      go true e ih = ap (λ (l : List A). cond (p y) (y ∷ l) l) ih
      go false e ih = ap (λ b. cond b (y ∷ filter p ys) (filter p ys)) (low y e) ∙ ih

  find_filter : (p : A → Bool) → ((y : A) → a y ≡ false → p y ≡ false) → (xs : List A) → find p xs ≡ find p (filter a xs)
  find_filter p low [] = refl
  find_filter p low (y ∷ ys) = go (a y) refl (find_filter p low ys)
    where
      go : (t : Bool) → a y ≡ t → find p ys ≡ find p (filter a ys) → cond (p y) (Some y) (find p ys) ≡ find p (cond t (y ∷ filter a ys) (filter a ys))
      go true e ih = ap (λ (o : Option A). cond (p y) (Some y) o) ih
      go false e ih = ap (λ b. cond b (Some y) (find p ys)) (low y e) ∙ ih

  flat_filter : {B : Type 0} (f : A → List B) → ((y : A) → a y ≡ false → f y ≡ []) → (xs : List A) → flat_map f xs ≡ flat_map f (filter a xs)
  flat_filter f low [] = refl
  flat_filter {B = B} f low (y ∷ ys) = go (a y) refl (flat_filter f low ys)
    where
      go : (t : Bool) → a y ≡ t → flat_map f ys ≡ flat_map f (filter a ys) → f y ++ flat_map f ys ≡ flat_map f (cond t (y ∷ filter a ys) (filter a ys))
      go true e ih = ap (λ (l : List B). f y ++ l) ih
      go false e ih = ap (λ (l : List B). l ++ flat_map f ys) (low y e) ∙ ih

  -- two tests that fail wherever a does, and agree where it holds, are one
  one_test : (p q : A → Bool) → ((y : A) → a y ≡ false → p y ≡ false) → ((y : A) → a y ≡ false → q y ≡ false) → ((y : A) → a y ≡ true → p y ≡ q y) → p ≡ q
  one_test p q low_p low_q agree = λ i y. same y i
    where
      same : (y : A) → p y ≡ q y
      same y = go (a y) refl
        where
          go : (t : Bool) → a y ≡ t → p y ≡ q y
          go true e = agree y e
          go false e = low_p y e ∙ sym (low_q y e)

  -- so they read two lists alike of which the same passes a
  module _ (p q : A → Bool) (low_p : (y : A) → a y ≡ false → p y ≡ false) (low_q : (y : A) → a y ≡ false → q y ≡ false) (agree : (y : A) → a y ≡ true →
      p y ≡ q y) where
    pub any_same : (xs ys : List A) → filter a xs ≡ filter a ys → list_any p xs ≡ list_any q ys
    any_same xs ys e = any_filter p low_p xs ∙ ap (list_any p) e ∙ sym (any_filter p low_p ys)
        ∙ ap (λ (t : A → Bool). list_any t ys) (one_test p q low_p low_q agree)

    pub filter_same : (xs ys : List A) → filter a xs ≡ filter a ys → filter p xs ≡ filter q ys
    filter_same xs ys e = filter_filter p low_p xs ∙ ap (filter p) e ∙ sym (filter_filter p low_p ys)
        ∙ ap (λ (t : A → Bool). filter t ys) (one_test p q low_p low_q agree)

    pub find_same : (xs ys : List A) → filter a xs ≡ filter a ys → find p xs ≡ find q ys
    find_same xs ys e = find_filter p low_p xs ∙ ap (find p) e ∙ sym (find_filter p low_p ys)
        ∙ ap (λ (t : A → Bool). find t ys) (one_test p q low_p low_q agree)

  pub flat_same : {B : Type 0} (f g : A → List B) → ((y : A) → a y ≡ false → f y ≡ []) → ((y : A) → f y ≡ g y) → (xs ys : List A) → filter a xs ≡ filter a ys →
      flat_map f xs ≡ flat_map g ys
  flat_same {B = B} f g low same xs ys e = flat_filter f low xs ∙ ap (flat_map f) e ∙ sym (flat_filter f low ys)
      ∙ ap (λ (t : A → List B). flat_map t ys) (λ i y. same y i)

  -- where f and g agree on what passes a, they give the same of what passes it
  pub map_same : {B : Type 0} (f g : A → Option B) → ((y : A) → a y ≡ true → f y ≡ g y) → (xs : List A) →
      filter_map f (filter a xs) ≡ filter_map g (filter a xs)
  map_same f g same [] = refl
  map_same {B = B} f g same (y ∷ ys) = go (a y) refl (map_same f g same ys)
    where
      go : (t : Bool) → a y ≡ t → filter_map f (filter a ys) ≡ filter_map g (filter a ys) →
          filter_map f (cond t (y ∷ filter a ys) (filter a ys)) ≡ filter_map g (cond t (y ∷ filter a ys) (filter a ys))
      go true e ih = rw (same y e, ih) refl
      go false e ih = ih
