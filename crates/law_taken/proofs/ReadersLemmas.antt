-- Readers stand in rising order, so those that pass a test are recorded as all are.
use Rattle.std.proofs.Common.{◌≡◌, ◌⊎◌, refl, ap, sym, ◌∙◌, subst, inl, inr, true, false, Bool, cond, List, [], ◌∷◌, arith}
use Rattle.std.specs.Prelude.{◌&&◌, ◌||◌, filter}
use Rattle.std.proofs.lemmas.Bool.Decides.{nat_tests}
use Rattle.protocol.specs.Words.{Version, Key, Body, Get, before, same_version, same_key, key_before}
use Rattle.protocol.specs.Lists.{IsIn, IsRisingBy}
use Rattle.protocol.specs.Replica.Taken.{Handled}
use Rattle.protocol.specs.Replica.Readers.{Reader, put_reader, reader_after, readers}
use Rattle.protocol.proofs.TestLemmas.{and_left, and_right}
use Rattle.protocol.proofs.NamesLemmas.{key_is, key_itself, key_trans, key_order, version_is}

-- the order of readers
abbrev reader_before : Reader → Reader → Bool
reader_before r s = key_before r.key s.key || (same_key r.key s.key && before r.ver s.ver)

abbrev same_reader : Reader → Reader → Bool
same_reader r s = same_key r.key s.key && same_version r.ver s.ver

version_trans : (a b c : Version) → before a b ≡ true → before b c ≡ true → before a c ≡ true
unfolding before
version_trans a b c p q = grind (arith, nat_tests)

version_order : (a b : Version) → same_version a b ≡ false → before a b ≡ false → before b a ≡ true
unfolding before same_version
version_order a b p q = grind (arith, nat_tests)

or_left : (a b : Bool) → a ≡ true → (a || b) ≡ true
or_left a b e = rw e refl

or_cases : (a b : Bool) → (a || b) ≡ true → (a ≡ true) ⊎ (b ≡ true)
or_cases true b e = inl refl
or_cases false b e = inr e

or_false : (a b : Bool) → (a || b) ≡ false → (a ≡ false) × (b ≡ false)
or_false true b e = absurd (cc)
or_false false b e = (refl, e)

-- by key and then version
later_version : (r s : Reader) → r.key ≡ s.key → before r.ver s.ver ≡ true → reader_before r s ≡ true
later_version r s k v = go (key_before r.key s.key)
  where
    same : same_key r.key s.key ≡ true
    same = subst (λ (l : Key). same_key r.key l ≡ true) k (key_itself r.key)

    go : (t : Bool) → (t || (same_key r.key s.key && before r.ver s.ver)) ≡ true
    go true = refl
    go false = rw (same, v) refl

reader_trans : (r s t : Reader) → reader_before r s ≡ true → reader_before s t ≡ true → reader_before r t ≡ true
reader_trans r s t e f = elim (or_cases (key_before r.key s.key) _ e) [
  | inl p ↦ elim (or_cases (key_before s.key t.key) _ f) [
    | inl q ↦ or_left (key_before r.key t.key) _ (key_trans r.key s.key t.key p q)
    | inr q ↦ or_left (key_before r.key t.key) _ (subst (λ (k : Key). key_before r.key k ≡ true) (key_is s.key t.key (and_left _ _ q)) p)
  ]
  | inr p ↦ elim (or_cases (key_before s.key t.key) _ f) [
    | inl q ↦ or_left (key_before r.key t.key) _ (subst (λ (k : Key). key_before k t.key ≡ true) (sym (key_is r.key s.key (and_left _ _ p))) q)
    | inr q ↦ later_version r t (key_is r.key s.key (and_left _ _ p)
        ∙ key_is s.key t.key (and_left _ _ q)) (version_trans r.ver s.ver t.ver (and_right _ _ p) (and_right _ _ q))
  ]
]

reader_order : (r s : Reader) → reader_before r s ≡ false → same_reader r s ≡ false → reader_before s r ≡ true
reader_order r s e f = go (same_key r.key s.key) refl
  where
    n : (key_before r.key s.key ≡ false) × ((same_key r.key s.key && before r.ver s.ver) ≡ false)
    n = or_false (key_before r.key s.key) _ e

    go : (t : Bool) → same_key r.key s.key ≡ t → reader_before s r ≡ true
    go false k = or_left (key_before s.key r.key) _ (key_order r.key s.key k n.0)
    go true k = later_version s r (sym (key_is r.key s.key k)) (version_order r.ver s.ver (rw k at f) (rw k at n.1))

put_reader_in : (r : Reader) (rs : List Reader) (y : Reader) → IsIn y (put_reader r rs) → (y ≡ r) ⊎ IsIn y rs
put_reader_in r [] y (inl e) = inl e
put_reader_in r [] y (inr e) = absurd e
put_reader_in r (s ∷ ss) y i = go (reader_before r s) (same_reader r s) (put_reader_in r ss y) i
  where
    go : (t u : Bool) → (IsIn y (put_reader r ss) → (y ≡ r) ⊎ IsIn y ss) → IsIn y (cond t (r ∷ s ∷ ss) (cond u (s ∷ ss) (s ∷ put_reader r ss))) →
        (y ≡ r) ⊎ IsIn y (s ∷ ss)
    go true u ih (inl e) = inl e
    go true u ih (inr j) = inr j
    go false true ih j = inr j
    go false false ih (inl e) = inr (inl e)
    go false false ih (inr j) = elim (ih j) [ inl e ↦ inl e | inr k ↦ inr (inr k) ]

put_rising : (r : Reader) (rs : List Reader) → IsRisingBy reader_before rs → IsRisingBy reader_before (put_reader r rs)
put_rising r [] rise = (λ y i. absurd i, tt)
put_rising r (s ∷ ss) rise = go (reader_before r s) refl (same_reader r s) refl (put_rising r ss rise.1)
  where
    go : (t : Bool) → reader_before r s ≡ t → (u : Bool) → same_reader r s ≡ u → IsRisingBy reader_before (put_reader r ss) →
        IsRisingBy reader_before (cond t (r ∷ s ∷ ss) (cond u (s ∷ ss) (s ∷ put_reader r ss)))
    go true e u f ih = (λ y i. elim i [ inl z ↦ subst (λ (x : Reader). reader_before r x ≡ true) (sym z) e | inr j ↦ reader_trans r s y e (rise.0 y j) ], rise)
    go false e true f ih = rise
    go false e false f ih = (
      λ y i. elim (put_reader_in r ss y i) [
        | inl z ↦ subst (λ (x : Reader). reader_before s x
            ≡ true) (sym z) (reader_order r s e f)
        | inr j ↦ rise.0 y j
      ],
      ih,
    )

-- the readers of a list rise
pub readers_rise : (h : Handled) → IsRisingBy reader_before (readers h)
readers_rise [] = tt
readers_rise (m ∷ h) = go m.body (readers_rise h)
  where
    go : (b : Body) → IsRisingBy reader_before (readers h) → IsRisingBy reader_before (reader_after (readers h) b)
    go (Get x k) ih = put_rising (record { key = k; ver = x.ver }) (readers h) ih
    go _ ih = ih

-- what comes before all of a list is put in front
put_first : (r : Reader) (rs : List Reader) → ((y : Reader) → IsIn y rs → reader_before r y ≡ true) → put_reader r rs ≡ r ∷ rs
put_first r [] f = refl
put_first r (s ∷ ss) f = ap (λ t. cond t (r ∷ s ∷ ss) (cond (same_reader r s) (s ∷ ss) (s ∷ put_reader r ss))) (f s (inl refl))

filter_in : (a : Reader → Bool) (rs : List Reader) (y : Reader) → IsIn y (filter a rs) → IsIn y rs
filter_in a [] y i = absurd i
filter_in a (s ∷ ss) y i = go (a s) (filter_in a ss y) i
  where
    go : (t : Bool) → (IsIn y (filter a ss) → IsIn y ss) → IsIn y (cond t (s ∷ filter a ss) (filter a ss)) → IsIn y (s ∷ ss)
    go true ih (inl e) = inl e
    go true ih (inr j) = inr (ih j)
    go false ih j = inr (ih j)

-- of the readers that pass a test those are left where the one recorded fails it, and else it is recorded among them
pub put_passing : (a : Reader → Bool) (r : Reader) (rs : List Reader) → IsRisingBy reader_before rs → a r ≡ true →
    filter a (put_reader r rs) ≡ put_reader r (filter a rs)
put_passing a r [] rise passes = rw passes refl
put_passing a r (s ∷ ss) rise passes = go (reader_before r s) refl (same_reader r s) refl (a s) refl (put_passing a r ss rise.1 passes)
  where
    all : reader_before r s ≡ true → (y : Reader) → IsIn y (s ∷ ss) → reader_before r y ≡ true
    all e y (inl z) = subst (λ (x : Reader). reader_before r x ≡ true) (sym z) e
    all e y (inr j) = reader_trans r s y e (rise.0 y j)

    same : same_reader r s ≡ true → r ≡ s
    same f =
        let k : r.key ≡ s.key = key_is r.key s.key (and_left (same_key r.key s.key) (same_version r.ver s.ver) f) in
        let v : r.ver ≡ s.ver = version_is r.ver s.ver (and_right (same_key r.key s.key) (same_version r.ver s.ver) f) in
        λ i. record { key = k i; ver = v i }

    go : (t : Bool) → reader_before r s ≡ t → (u : Bool) → same_reader r s ≡ u → (v : Bool) → a s ≡ v →
        filter a (put_reader r ss) ≡ put_reader r (filter a ss) →
        filter a (cond t (r ∷ s ∷ ss) (cond u (s ∷ ss) (s ∷ put_reader r ss))) ≡ put_reader r (filter a (s ∷ ss))
    go true e u f v g ih = rw passes (sym (put_first r (filter a (s ∷ ss)) (λ y i. all e y (filter_in a (s ∷ ss) y i))))
    go false e true f v g ih = let here : a s ≡ true = ap a (sym (same f)) ∙ passes in rw (here, e, f) refl
    go false e false f true g ih = rw (g, e, f) (ap (λ (l : List Reader). s ∷ l) ih)
    go false e false f false g ih = rw g ih

pub put_failing : (a : Reader → Bool) (r : Reader) (rs : List Reader) → a r ≡ false → filter a (put_reader r rs) ≡ filter a rs
put_failing a r [] fails = rw fails refl
put_failing a r (s ∷ ss) fails = go (reader_before r s) (same_reader r s) (put_failing a r ss fails)
  where
    go : (t u : Bool) → filter a (put_reader r ss) ≡ filter a ss → filter a (cond t (r ∷ s ∷ ss) (cond u (s ∷ ss) (s ∷ put_reader r ss))) ≡ filter a (s ∷ ss)
    go true u ih = rw fails refl
    go false true ih = refl
    go false false ih = ap (λ (l : List Reader). cond (a s) (s ∷ l) l) ih
