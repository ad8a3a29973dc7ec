-- The reads of a list that are counted one after another.
use Rattle.std.proofs.Common.{◌≡◌, ◌≢◌, ◌⊎◌, inl, inr, ℕ, ◌+◌, ◌<◌, Bool, true, false, cond, List, [], ◌∷◌, ◌++◌, length, get_or, take, refl, ap, sym, subst, ◌∙◌, Option, Some, None, ◌&&◌, ◌||◌}
use Rattle.std.specs.List.{list_any}
use Rattle.std.proofs.lemmas.List.{take_more}
use Rattle.morty_base.proofs.Orders.{same_key_tells, same_exec_tells, before_total}
use Rattle.protocol.specs.Words.{Version, Exec, Key, Read, before, same_exec, same_key}
use Rattle.mv_index.specs.ReadIndex.{lesser, with_read, with_reads, reads_key}

with_reads_push : (k : Key) (least : Option Version) (rs : List Read) (r : Read) → with_reads k least (rs ++ r ∷ []) ≡ with_read k (with_reads k least rs) r
with_reads_push k least [] r = refl
with_reads_push k least (s ∷ rs) r = with_reads_push k (with_read k least s) rs r

-- one more read of a list that is gone through
pub with_reads_more : (k : Key) (least : Option Version) (rs : List Read) (i : ℕ) (d : Read) → i < length rs →
    with_reads k least (take (i + 1) rs) ≡ with_read k (with_reads k least (take i rs)) (get_or rs i d)
with_reads_more k least rs i d h = ap (with_reads k least) (take_more rs i d h) ∙ with_reads_push k least (take i rs) (get_or rs i d)

-- where no read is of the key, none counts
pub with_reads_none : (k : Key) (least : Option Version) (rs : List Read) → reads_key k rs ≡ false → with_reads k least rs ≡ least
with_reads_none k least [] e = refl
with_reads_none k least (r ∷ rs) e = go (same_key k r.key) refl e (with_reads_none k least rs)
  where
    go : (t : Bool) → same_key k r.key ≡ t → (t || reads_key k rs) ≡ false → (reads_key k rs ≡ false → with_reads k least rs ≡ least) →
        with_reads k (with_read k least r) rs ≡ least
    go true f e more = absurd cc
    go false f e more = ap (λ t. with_reads k (cond t (Some (lesser least r.wid.ver)) least) rs) f ∙ more e

-- a version is above the least one where it is above one of them
unfoldable pub is_below : Version → Option Version → Bool
is_below v None = false
is_below v (Some u) = before u v

abbrev pub is_read_below : Key → Version → Read → Bool
is_read_below k v r = before r.wid.ver v && same_key k r.key

below_lesser : (v u : Version) (o : Option Version) → before (lesser o u) v ≡ (is_below v o || before u v)
unfolding is_below
below_lesser v u None = refl
below_lesser v u (Some w) = go (before u w) refl (before w v) refl (before u v) refl
  where
    go : (s : Bool) → before u w ≡ s → (a : Bool) → before w v ≡ a → (b : Bool) → before u v ≡ b → before (cond s u w) v ≡ (before w v || before u v)
    go true f true g b h = before_total.transitive u w v f g ∙ sym (ap (λ t. t || before u v) g)
    go true f false g b h = sym (ap (λ t. t || before u v) g)
    go false f true g b h = g ∙ sym (ap (λ t. t || before u v) g)
    go false f false g false h = g ∙ (sym h ∙ sym (ap (λ t. t || before u v) g))
    go false f false g true h = absurd (by (before w u) refl)
      where
        by : (t : Bool) → before w u ≡ t → ⊥
        by true e = let z : before w v ≡ true = before_total.transitive w u v e h in cc
        by false e = let q : w ≡ u = before_total.total w u e f in let z : before w v ≡ true = subst (λ x. before x v ≡ true) (sym q) h in cc

below_read : (k : Key) (v : Version) (o : Option Version) (r : Read) → is_below v (with_read k o r) ≡ (is_below v o || is_read_below k v r)
unfolding is_below
below_read k v o r = go (same_key k r.key) refl
  where
    last : (a : Bool) → a ≡ (a && true)
    last true = refl
    last false = refl

    none : (a b : Bool) → a ≡ (a || (b && false))
    none true b = refl
    none false true = refl
    none false false = refl

    go : (t : Bool) → same_key k r.key ≡ t → is_below v (cond t (Some (lesser o r.wid.ver)) o) ≡ (is_below v o || (before r.wid.ver v && same_key k r.key))
    go true e = below_lesser v r.wid.ver o ∙ (ap (λ b. is_below v o || b) (last (before r.wid.ver v))
        ∙ ap (λ t. is_below v o || (before r.wid.ver v && t)) (sym e))
    go false e = none (is_below v o) (before r.wid.ver v) ∙ ap (λ t. is_below v o || (before r.wid.ver v && t)) (sym e)

pub below_counted : (k : Key) (v : Version) (o : Option Version) (rs : List Read) →
    is_below v (with_reads k o rs) ≡ (is_below v o || list_any (is_read_below k v) rs)
below_counted k v o [] = none (is_below v o)
  where
    none : (a : Bool) → a ≡ (a || false)
    none true = refl
    none false = refl
below_counted k v o (r ∷ rs) = below_counted k v (with_read k o r) rs ∙ (ap (λ t. t || list_any (is_read_below k v) rs) (below_read k v o r)
    ∙ assoc (is_below v o) (is_read_below k v r) (list_any (is_read_below k v) rs))
  where
    assoc : (a b c : Bool) → ((a || b) || c) ≡ (a || (b || c))
    assoc true b c = refl
    assoc false b c = refl

-- ---- the index

-- what is counted at a place
pub counted_at : (y : Exec) (r : Read) (f : Key → Exec → Option Version) (k : Key) (x : Exec) → cond (same_exec x y && same_key k r.key)
    (Some (lesser (f r.key y) r.wid.ver)) (f k x) ≡ cond (same_exec x y) (with_read k (f k x) r) (f k x)
counted_at y r f k x = go (same_exec x y) (same_exec_tells x y) (same_key k r.key) (same_key_tells k r.key)
  where
    go : (s : Bool) → ((s ≡ true) × (x ≡ y)) ⊎ ((s ≡ false) × (x ≢ y)) → (t : Bool) → ((t ≡ true) × (k ≡ r.key)) ⊎ ((t ≡ false) × (k ≢ r.key)) →
        cond (s && t) (Some (lesser (f r.key y) r.wid.ver)) (f k x) ≡ cond s (cond t (Some (lesser (f k x) r.wid.ver)) (f k x)) (f k x)
    go true (inl p) true (inl q) = ap (λ z. Some (lesser (f r.key z) r.wid.ver)) (sym p.1) ∙ ap (λ l. Some (lesser (f l x) r.wid.ver)) (sym q.1)
    go true (inr p) true q = absurd (cc (p.0))
    go true (inl p) true (inr q) = absurd (cc (q.0))
    go true p false q = refl
    go false p t q = refl

pub counted_next : (s : Bool) (k : Key) (old now new more : Option Version) (r : Read) → new ≡ cond s (with_read k now r) now → (rest : Option Version) →
    now ≡ cond s rest old → more ≡ with_read k rest r → new ≡ cond s more old
counted_next true k old now new more r e rest f g = e ∙ (ap (λ o. with_read k o r) f ∙ sym g)
counted_next false k old now new more r e rest f g = e ∙ f
