-- A list that is sorted by name has of each name the last of the list, and is the one rising list that has these.
use Rattle.std.proofs.Common.{◌≡◌, ◌≢◌, ◌⊎◌, inl, inr, Bool, true, false, cond, List, [], ◌∷◌, ◌++◌, Option, Some, None, refl, ap, sym, subst, ◌∙◌}
use Rattle.std.specs.Bool.{then_some}
use Rattle.std.specs.Option.{option_or}
use Rattle.morty_base.specs.Orders.{IsTotalOrder, TellsEqual}
use Rattle.protocol.specs.Lists.{IsIn, IsRisingBy}
use Rattle.law_safety.proofs.RisingLemmas.{IsStrict, same_members}

-- names have an order, and a test that tells them apart
pub record AreNames {K : Type 0} (earlier same : K → K → Bool) : Type 0 where
  pub order : IsTotalOrder earlier
  pub tells : TellsEqual same

-- what stands before a name, if nothing of the list has it
abbrev pub put : {A K : Type 0} → (A → K) → (K → K → Bool) → (K → K → Bool) → A → List A → List A
put name earlier same c [] = c ∷ []
put name earlier same c (d ∷ ds) =
    cond (earlier (name c) (name d)) (c ∷ d ∷ ds) (cond (same (name c) (name d)) (d ∷ ds) (d ∷ put name earlier same c ds))

abbrev pub sorted : {A K : Type 0} → (A → K) → (K → K → Bool) → (K → K → Bool) → List A → List A
sorted name earlier same [] = []
sorted name earlier same (c ∷ cs) = put name earlier same c (sorted name earlier same cs)

-- the last element of a name
abbrev pub last_by : {A K : Type 0} → (A → K) → (K → K → Bool) → K → List A → Option A
last_by name same x [] = None
last_by name same x (c ∷ cs) = option_or (last_by name same x cs) (then_some (same x (name c)) c)

abbrev pub Rises : {A K : Type 0} → (A → K) → (K → K → Bool) → List A → Type 0
Rises name earlier cs = IsRisingBy (λ c d. earlier (name c) (name d)) cs

pub last_append : {A K : Type 0} (name : A → K) (same : K → K → Bool) (x : K) (as' bs : List A) →
    last_by name same x (as' ++ bs) ≡ option_or (last_by name same x bs) (last_by name same x as')
last_append {A} name same x [] bs = go (last_by name same x bs)
  where
    go : (o : Option A) → o ≡ option_or o None
    go None = refl
    go (Some a) = refl
last_append {A} name same x (a ∷ as') bs = ap (λ o. option_or o (then_some (same x (name a)) a)) (last_append name same x as' bs)
    ∙ go (last_by name same x bs) (last_by name same x as') (then_some (same x (name a)) a)
  where
    go : (o p q : Option A) → option_or (option_or o p) q ≡ option_or o (option_or p q)
    go None p q = refl
    go (Some b) p q = refl

none_some : {A : Type 0} (o : Option A) (a : A) → o ≡ None → o ≡ Some a → ⊥
none_some o a p q = cc

module _ {A K : Type 0} (name : A → K) (earlier same : K → K → Bool) (o : AreNames earlier same) where
  strict : IsStrict (λ (c d : A). earlier (name c) (name d))
  strict = record { itself = λ c. o.order.irreflexive (name c); chain = λ c d e. o.order.transitive (name c) (name d) (name e) }

  not_same : (x y : K) → same x y ≡ false → x ≢ y
  not_same x y f e = elim (o.tells x y) [ inl p ↦ let z : true ≡ false = sym p.0 ∙ f in cc | inr p ↦ p.1 e ]

  after : (x y : K) → earlier x y ≡ false → x ≢ y → earlier y x ≡ true
  after x y f n = go (earlier y x) refl
    where
      go : (t : Bool) → earlier y x ≡ t → t ≡ true
      go true g = refl
      go false g = absurd (n (o.order.total x y f g))

  apart : (x y : K) → earlier x y ≡ true → x ≢ y
  apart x y e q = let z : true ≡ false = sym e ∙ (ap (λ (z : K). earlier z y) q ∙ o.order.irreflexive y) in cc

  -- nothing of the list has the name
  abbrev IsNew : K → List A → Type 0
  IsNew x ds = (e : A) → IsIn e ds → name e ≢ x

  put_cases : (c d : A) (ds : List A) → Rises name earlier ds → IsIn d (put name earlier same c ds) → IsIn d ds ⊎ ((d ≡ c) × IsNew (name c) ds)
  put_cases c d [] r (inl e) = inr (e, λ f i. absurd i)
  put_cases c d [] r (inr i) = absurd i
  put_cases c d (e ∷ es) r i = go (put_cases c d es r.1) (earlier (name c) (name e)) refl (same (name c) (name e)) refl i
    where
      go : (IsIn d (put name earlier same c es) → IsIn d es ⊎ ((d ≡ c) × IsNew (name c) es)) → (t : Bool) → earlier (name c) (name e) ≡ t → (u : Bool) →
          same (name c) (name e) ≡ u → IsIn d (cond t (c ∷ e ∷ es) (cond u (e ∷ es) (e ∷ put name earlier same c es))) →
          IsIn d (e ∷ es) ⊎ ((d ≡ c) × IsNew (name c) (e ∷ es))
      go ih true p u q (inl z) = inr (
        z,
        λ f j g. elim j [
          | inl k ↦ apart (name c) (name e) p (sym (sym (ap name k) ∙ g))
          | inr k ↦ apart (name c) (name f) (o.order.transitive (name c) (name e) (name f) p (r.0 f k)) (sym g)
        ],
      )
      go ih true p u q (inr j) = inl j
      go ih false p true q j = inl j
      go ih false p false q (inl z) = inl (inl z)
      go ih false p false q (inr j) = elim (ih j) [
        | inl k ↦ inl (inr k)
        | inr k ↦ inr (k.0, λ f j g. elim j [ inl l ↦ not_same (name c) (name e) q (sym (sym (ap name l) ∙ g)) | inr l ↦ k.1 f l g ])
      ]

  put_stays : (c d : A) (ds : List A) → IsIn d ds → IsIn d (put name earlier same c ds)
  put_stays c d [] i = absurd i
  put_stays c d (e ∷ es) i = go (put_stays c d es) (earlier (name c) (name e)) (same (name c) (name e)) i
    where
      go : (IsIn d es → IsIn d (put name earlier same c es)) → (t u : Bool) → IsIn d (e ∷ es) →
          IsIn d (cond t (c ∷ e ∷ es) (cond u (e ∷ es) (e ∷ put name earlier same c es)))
      go ih true u j = inr j
      go ih false true j = j
      go ih false false (inl z) = inl z
      go ih false false (inr j) = inr (ih j)

  put_there : (c : A) (ds : List A) → IsNew (name c) ds → IsIn c (put name earlier same c ds)
  put_there c [] n = inl refl
  put_there c (e ∷ es) n = go (put_there c es (λ f i. n f (inr i))) (earlier (name c) (name e)) (same (name c) (name e)) refl
    where
      go : IsIn c (put name earlier same c es) → (t u : Bool) → same (name c) (name e) ≡ u →
          IsIn c (cond t (c ∷ e ∷ es) (cond u (e ∷ es) (e ∷ put name earlier same c es)))
      go ih true u q = inl refl
      go ih false true q = elim (o.tells (name c) (name e)) [
        | inl p ↦ absurd (n e (inl refl) (sym p.1))
        | inr p ↦ let z : true ≡ false = sym q ∙ p.0 in absurd cc
      ]
      go ih false false q = inr ih

  put_rises : (c : A) (ds : List A) → Rises name earlier ds → Rises name earlier (put name earlier same c ds)
  put_rises c [] r = (λ d i. absurd i, tt)
  put_rises c (e ∷ es) r = go (put_rises c es r.1) (earlier (name c) (name e)) refl (same (name c) (name e)) refl
    where
      go : Rises name earlier (put name earlier same c es) → (t : Bool) → earlier (name c) (name e) ≡ t → (u : Bool) → same (name c) (name e) ≡ u →
          Rises name earlier (cond t (c ∷ e ∷ es) (cond u (e ∷ es) (e ∷ put name earlier same c es)))
      go ih true p u q = (
        λ d i. elim i [
          | inl z ↦ subst (λ (y : A). earlier (name c) (name y) ≡ true) (sym z) p
          | inr j ↦ o.order.transitive (name c) (name e) (name d) p (r.0 d j)
        ],
        r,
      )
      go ih false p true q = r
      go ih false p false q = (
        λ d i. elim (put_cases c d es r.1 i) [
          | inl j ↦ r.0 d j
          | inr k ↦ subst (λ (y : A). earlier (name e) (name y) ≡ true) (sym k.0) (after (name c) (name e) p (not_same (name c) (name e) q))
        ],
        ih,
      )

  sorted_rises : (cs : List A) → Rises name earlier (sorted name earlier same cs)
  sorted_rises [] = tt
  sorted_rises (c ∷ cs) = put_rises c (sorted name earlier same cs) (sorted_rises cs)

  last_named : (x : K) (cs : List A) (d : A) → last_by name same x cs ≡ Some d → name d ≡ x
  last_named x [] d e = absurd cc
  last_named x (c ∷ cs) d e = go (last_named x cs d) (last_by name same x cs) refl (same x (name c)) (o.tells x (name c)) e
    where
      go : (last_by name same x cs ≡ Some d → name d ≡ x) → (p : Option A) → last_by name same x cs ≡ p → (t : Bool) →
          ((t ≡ true) × (x ≡ name c)) ⊎ ((t ≡ false) × (x ≢ name c)) →
          option_or p (then_some t c) ≡ Some d → name d ≡ x
      go ih (Some b) q t k f = ih (q ∙ f)
      go ih None q true (inl k) f = let z : c ≡ d = cc in ap name (sym z) ∙ sym k.1
      go ih None q true (inr k) f = absurd (let z : true ≡ false = k.0 in cc)
      go ih None q false k f = absurd cc

  same_self : (x : K) → same x x ≡ true
  same_self x = elim (o.tells x x) [ inl p ↦ p.0 | inr p ↦ absurd (p.1 refl) ]

  -- the sorted list has what is the last of its name
  pub record Lasts (cs : List A) : Type 0 where
    pub sound : (d : A) → IsIn d (sorted name earlier same cs) → last_by name same (name d) cs ≡ Some d
    pub complete : (d : A) → last_by name same (name d) cs ≡ Some d → IsIn d (sorted name earlier same cs)

  one_more : (c : A) (cs : List A) → Lasts cs → Lasts (c ∷ cs)
  one_more c cs ih = record { sound = there; complete = back }
    where
      none : IsNew (name c) (sorted name earlier same cs) → (p : Option A) → last_by name same (name c) cs ≡ p → p ≡ None
      none n None q = refl
      none n (Some b) q =
          let k : name b ≡ name c = last_named (name c) cs b q in
          absurd (n b (ih.complete b (ap (λ (x : K). last_by name same x cs) k ∙ q)) k)

      there : (d : A) → IsIn d (put name earlier same c (sorted name earlier same cs)) →
          option_or (last_by name same (name d) cs) (then_some (same (name d) (name c)) c) ≡ Some d
      there d i = elim (put_cases c d (sorted name earlier same cs) (sorted_rises cs) i) [
        | inl j ↦ ap (λ (p : Option A). option_or p (then_some (same (name d) (name c)) c)) (ih.sound d j)
        | inr k ↦ subst (λ (y : A). option_or (last_by name same (name y) cs) (then_some (same (name y) (name c)) c) ≡ Some y) (sym k.0)
            (ap (λ (p : Option A). option_or p (then_some (same (name c) (name c)) c)) (none k.1 (last_by name same (name c) cs) refl)
            ∙ ap (λ t. then_some t c) (same_self (name c)))
      ]

      back : (d : A) → option_or (last_by name same (name d) cs) (then_some (same (name d) (name c)) c) ≡ Some d →
          IsIn d (put name earlier same c (sorted name earlier same cs))
      back d e = go (last_by name same (name d) cs) refl (same (name d) (name c)) e
        where
          fresh : c ≡ d → last_by name same (name d) cs ≡ None → IsNew (name c) (sorted name earlier same cs)
          fresh z q f i g =
              none_some (last_by name same (name d) cs) f q (ap (λ (x : K). last_by name same x cs) (sym (g ∙ ap name z)) ∙ ih.sound f i)

          go : (p : Option A) → last_by name same (name d) cs ≡ p → (t : Bool) → option_or p (then_some t c) ≡ Some d →
              IsIn d (put name earlier same c (sorted name earlier same cs))
          go (Some b) q t f = put_stays c d (sorted name earlier same cs) (ih.complete d (q ∙ f))
          go None q true f = let z : c ≡ d = cc in
              subst (λ (y : A). IsIn y (put name earlier same c (sorted name earlier same cs))) z (put_there c (sorted name earlier same cs) (fresh z q))
          go None q false f = absurd cc

  lasts : (cs : List A) → Lasts cs
  lasts [] = record { sound = λ d i. absurd i; complete = λ d e. absurd cc }
  lasts (c ∷ cs) = one_more c cs (lasts cs)

  -- a rising list that has just these is the sorted one
  pub is_sorted : (ds cs : List A) → Rises name earlier ds → ((d : A) → IsIn d ds → last_by name same (name d) cs ≡ Some d) →
      ((d : A) → last_by name same (name d) cs ≡ Some d → IsIn d ds) → ds ≡ sorted name earlier same cs
  is_sorted ds cs r f g = same_members (λ c d. earlier (name c) (name d)) strict ds (sorted name earlier same cs) r (sorted_rises cs)
      (λ d i. (lasts cs).complete d (f d i)) (λ d i. g d ((lasts cs).sound d i))
