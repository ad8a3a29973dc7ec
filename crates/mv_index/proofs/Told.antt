-- What one more mark changes.
use Rattle.std.proofs.Common.{◌≡◌, ◌⊎◌, inl, inr, ℕ, zero, suc, ◌<◌, Bool, true, false, cond, List, [], ◌∷◌, ◌||◌, ◌&&◌, length, get_or, map, Some, ap, sym, subst, refl, ◌∙◌, arith}
use Rattle.std.specs.Prelude.{not, slice_set, slice_get}
use Rattle.std.specs.List.{list_any}
use Rattle.morty_base.proofs.Orders.{same_key_tells, same_version_tells, before_total}
use Rattle.protocol.specs.Words.{Key, Version, before, same_key, same_version}
use Rattle.protocol.specs.declared.First2.{First2}
use Rattle.protocol.specs.declared.Held.{Held}
use Rattle.protocol.specs.Lists.{IsIn}
use Rattle.protocol.specs.Replica.Taken.{Handled}
use Rattle.protocol.proofs.TestLemmas.{and_left, and_right}
use Rattle.protocol.proofs.ListsLemmas.{IsIn-map}
use Rattle.mv_index.specs.declared.reader_list.Reader.{Reader}
use Rattle.mv_index.specs.declared.reader_list.ReaderList.{ReaderList}
use Rattle.mv_index.specs.ReaderList.{reader_of, told_at}
use Rattle.mv_index.specs.Records.{StandsFor, IsTold, listed, earlier}
use Rattle.mv_index.specs.declared.records.Records.{Records}
use Rattle.mv_index.proofs.Quiet.{below_earlier}

-- a reader was there before, of the same key, and its mark is what it was or it is the one of key k at version v
abbrev WasThere : Records → Key → Version → Reader → Type 0
WasThere r k v p = (q : Reader) × IsIn q r.readers.readers.items × (p.key ≡ q.key) × ((p ≡ q) ⊎ ((p.key ≡ k) × (p.ver ≡ v)))

-- the records after a reader of a key is told
abbrev pub after_told : Records → Version → ReaderList → Bool → Records
after_told r v new has = record r { readers = new; all_touched = r.all_touched || not has; low = earlier r.low v }

pub told_stands : (firsts : List First2) (h : Handled) (r : Records) (k : Key) (v : Version) (new : ReaderList) (has : Bool) → StandsFor firsts h r →
    map reader_of new.readers.items ≡ map reader_of r.readers.readers.items → ((p : Reader) → IsIn p new.readers.items → WasThere r k v p) →
    has ≡ list_any (same_key k) r.touched.keys.items → StandsFor firsts h (after_told r v new has)
told_stands firsts h r k v new has s names there t = record {
  holdings = s.holdings;
  voted = s.voted;
  voted_indexed = s.voted_indexed;
  readers_are = names ∙ s.readers_are;
  keys_rise = s.keys_rise;
  keys_have = have;
  touched_rise = s.touched_rise;
  quiet = λ p j f. quiet p r.all_touched refl has refl (have p j) (there p j) f;
  below = λ p j f. below p (there p j) (below_earlier p.ver r.low v f);
  whole = s.whole;
}
  where
    have : (p : Reader) → IsIn p new.readers.items → list_any (same_key p.key) r.reader_keys.keys.items ≡ true
    have p j = let q = there p j in ap (λ l. list_any (same_key l) r.reader_keys.keys.items) q.2 ∙ s.keys_have q.0 q.1

    below : (p : Reader) → WasThere r k v p → (before p.ver r.low ≡ true) × (before p.ver v ≡ true) → IsTold firsts h p
    below p (q, i, e, inl same) f = subst (IsTold firsts h) (sym same) (s.below q i (subst (λ (z : Reader). before z.ver r.low ≡ true) same f.0))
    below p (q, i, e, inr here) f =
        let z : before v v ≡ true = subst (λ u. before u v ≡ true) here.1 f.1 in
        let w : before v v ≡ false = before_total.irreflexive v in
        absurd (cc (z, w))

    quiet : (p : Reader) (a : Bool) → r.all_touched ≡ a → (b : Bool) → has ≡ b → list_any (same_key p.key) r.reader_keys.keys.items ≡ true → WasThere r k v p →
        list_any (same_key p.key) (cond (r.all_touched || not has) r.reader_keys.keys.items r.touched.keys.items) ≡ false → IsTold firsts h p
    quiet p true f b g c w z =
        let y : list_any (same_key p.key) r.reader_keys.keys.items ≡ false =
        subst (λ x. list_any (same_key p.key) (cond (x || not has) r.reader_keys.keys.items r.touched.keys.items) ≡ false) f z in
        absurd (cc (y, c))
    quiet p false f b g c w z = by b g w (subst (λ x. list_any (same_key p.key) (cond (not x) r.reader_keys.keys.items r.touched.keys.items) ≡ false) g
        (subst (λ x. list_any (same_key p.key) (cond (x || not has) r.reader_keys.keys.items r.touched.keys.items) ≡ false) f z))
      where
        by : (b : Bool) → has ≡ b → WasThere r k v p → list_any (same_key p.key) (cond (not b) r.reader_keys.keys.items r.touched.keys.items) ≡ false →
            IsTold firsts h p
        by false g w y = absurd (cc (y, c))
        by true g (q, i, e, inl same) y =
            let unlisted : list_any (same_key q.key) (listed r) ≡ false =
            ap (λ x. list_any (same_key q.key) (cond x r.reader_keys.keys.items r.touched.keys.items)) f
            ∙ (ap (λ l. list_any (same_key l) r.touched.keys.items) (sym e) ∙ y) in
            subst (IsTold firsts h) (sym same) (s.quiet q i unlisted)
        by true g (q, i, e, inr here) y =
            let z : list_any (same_key p.key) r.touched.keys.items ≡ true = ap (λ l. list_any (same_key l) r.touched.keys.items) here.0 ∙ (sym t ∙ g) in
            absurd (cc (y, z))

-- ---- the reader at a place

pub at_in : {A : Type 0} (xs : List A) (i : ℕ) (d : A) → i < length xs → IsIn (get_or xs i d) xs
at_in [] i d h = absurd (omega arith)
at_in (x ∷ xs) zero d h = inl refl
at_in (x ∷ xs) (suc i) d h = inr (at_in xs i d (omega arith))

set_in : {A : Type 0} (xs : List A) (i : ℕ) (y p : A) → IsIn p (slice_set xs i y) → (p ≡ y) ⊎ IsIn p xs
set_in [] i y p j = inr j
set_in (x ∷ xs) zero y p (inl e) = inl e
set_in (x ∷ xs) zero y p (inr j) = inr (inr j)
set_in (x ∷ xs) (suc i) y p (inl e) = inr (inl e)
set_in (x ∷ xs) (suc i) y p (inr j) = elim (set_in xs i y p j) [ inl e ↦ inl e | inr k ↦ inr (inr k) ]

pub set_map : {A B : Type 0} (f : A → B) (xs : List A) (i : ℕ) (y d : A) → i < length xs → f y ≡ f (get_or xs i d) → map f (slice_set xs i y) ≡ map f xs
set_map f [] i y d h e = refl
set_map f (x ∷ xs) zero y d h e = ap (λ b. b ∷ map f xs) e
set_map f (x ∷ xs) (suc i) y d h e = ap (λ l. f x ∷ l) (set_map f xs i y d (omega arith) e)

pub set_there : (r : Records) (i : ℕ) (d : Reader) (told : Held) (k : Key) (v : Version) (new : List Reader) → i < length r.readers.readers.items →
    (get_or r.readers.readers.items i d).key ≡ k → (get_or r.readers.readers.items i d).ver ≡ v → new
    ≡ slice_set r.readers.readers.items i (record (get_or r.readers.readers.items i d) { told = Some told }) → (p : Reader) → IsIn p new → WasThere r k v p
set_there r i d told k v new within here at e p j = elim (set_in r.readers.readers.items i (record (get_or r.readers.readers.items i d) { told = Some told }) p
    (subst (λ l. IsIn p l) e j)) [
      | inl q ↦ (
        get_or r.readers.readers.items i d,
        at_in r.readers.readers.items i d within,
        ap (λ (x : Reader). x.key) q,
        inr (ap (λ (x : Reader). x.key) q ∙ here, ap (λ (x : Reader). x.ver) q ∙ at),
      )
      | inr m ↦ (p, m, refl, inl refl)
    ]

pub got : {A : Type 0} (xs : List A) (i : ℕ) (d r : A) → slice_get xs i ≡ Some r → get_or xs i d ≡ r
got [] i d r e = absurd cc
got (x ∷ xs) zero d r e = cc
got (x ∷ xs) (suc i) d r e = got xs i d r e

-- ---- the reader of a key at a version

pub told_same_name : (k : Key) (v : Version) (a : Held) (p : Reader) → reader_of (told_at k v a p) ≡ reader_of p
told_same_name k v a p = go (same_key k p.key && same_version v p.ver)
  where
    go : (t : Bool) → reader_of (cond t (record p { told = Some a }) p) ≡ reader_of p
    go true = refl
    go false = refl

pub told_names : (k : Key) (v : Version) (a : Held) (rs : List Reader) → map reader_of (map (told_at k v a) rs) ≡ map reader_of rs
told_names k v a [] = refl
told_names k v a (r ∷ rs) = ap (λ x. x ∷ map reader_of (map (told_at k v a) rs)) (told_same_name k v a r) ∙ ap (λ l. reader_of r ∷ l) (told_names k v a rs)

pub told_there : (r : Records) (k : Key) (v : Version) (a : Held) (new : List Reader) → new ≡ map (told_at k v a) r.readers.readers.items → (p : Reader) →
    IsIn p new → WasThere r k v p
told_there r k v a new e p j = go (IsIn-map (told_at k v a) p r.readers.readers.items (subst (λ l. IsIn p l) e j))
  where
    go : (q : Reader) × IsIn q r.readers.readers.items × (p ≡ told_at k v a q) → WasThere r k v p
    go (q, i, f) = by (same_key k q.key && same_version v q.ver) refl f
      where
        by : (t : Bool) → (same_key k q.key && same_version v q.ver) ≡ t → p ≡ cond t (record q { told = Some a }) q → WasThere r k v p
        by true g f =
            let key : k ≡ q.key = elim (same_key_tells k q.key) [
              | inl s ↦ s.1
              | inr s ↦
                  absurd (cc (s.0, and_left (same_key k q.key) (same_version v q.ver) g))
            ] in
            let ver : v ≡ q.ver = elim (same_version_tells v q.ver) [
              | inl s ↦ s.1
              | inr s ↦
                  absurd (cc (s.0, and_right (same_key k q.key) (same_version v q.ver) g))
            ] in
            (q, i, ap (λ (x : Reader). x.key) f, inr (ap (λ (x : Reader). x.key) f ∙ sym key, ap (λ (x : Reader). x.ver) f ∙ sym ver))
        by false g f = (q, i, ap (λ (x : Reader). x.key) f, inl f)
