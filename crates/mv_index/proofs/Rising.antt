-- Readers stand in order.
use Rattle.std.proofs.Common.{◌≡◌, ◌⊎◌, inl, inr, Bool, true, false, cond, List, [], ◌∷◌, ◌||◌, ◌&&◌, None, refl, sym, subst, map}
use Rattle.std.specs.Prelude.{filter}
use Rattle.protocol.specs.Words.{before, same_version, key_before, same_key, Body, Get}
use Rattle.protocol.specs.Lists.{IsIn, IsRisingBy}
use Rattle.protocol.specs.Replica.Taken.{Handled, dropped}
use Rattle.protocol.specs.Replica.Readers.{Reader as ReaderOf, put_reader, reader_after, readers}
use Rattle.protocol.proofs.ListsLemmas.{map_in}
use Rattle.mv_index.specs.declared.reader_list.Reader.{Reader}
use Rattle.mv_index.specs.ReaderList.{reader_of, IsInOrder}
use Rattle.mv_index.proofs.Sorted.{stands_down, one_of}
use Rattle.mv_index.proofs.Values.{filter_in}

abbrev pub stands : ReaderOf → ReaderOf → Bool
stands r s = key_before r.key s.key || (same_key r.key s.key && before r.ver s.ver)

abbrev pub marked : ReaderOf → Reader
marked r = record { key = r.key; ver = r.ver; told = None }

put_cases : (p : ReaderOf) (rs : List ReaderOf) (y : ReaderOf) → IsIn y (put_reader p rs) → (y ≡ p) ⊎ IsIn y rs
put_cases p [] y i = i
put_cases p (s ∷ ss) y i = go (stands p s) (same_key p.key s.key && same_version p.ver s.ver) i (put_cases p ss y)
  where
    go : (a b : Bool) → IsIn y (cond a (p ∷ s ∷ ss) (cond b (s ∷ ss) (s ∷ put_reader p ss))) → (IsIn y (put_reader p ss) → (y ≡ p) ⊎ IsIn y ss) →
        (y ≡ p) ⊎ IsIn y (s ∷ ss)
    go true b i more = i
    go false true i more = inr i
    go false false (inl q) more = inr (inl q)
    go false false (inr j) more = elim (more j) [ inl q ↦ inl q | inr k ↦ inr (inr k) ]

put_rises : (p : ReaderOf) (rs : List ReaderOf) → IsRisingBy stands rs → IsRisingBy stands (put_reader p rs)
put_rises p [] r = (λ y i. absurd i, tt)
put_rises p (s ∷ ss) r = go (stands p s) refl (same_key p.key s.key && same_version p.ver s.ver) refl (put_rises p ss r.1)
  where
    go : (a : Bool) → stands p s ≡ a → (b : Bool) → (same_key p.key s.key && same_version p.ver s.ver) ≡ b → IsRisingBy stands (put_reader p ss) →
        IsRisingBy stands (cond a (p ∷ s ∷ ss) (cond b (s ∷ ss) (s ∷ put_reader p ss)))
    go true e b f more = (
      λ y i. elim i [
        | inl q ↦ subst (λ z. stands p z ≡ true) (sym q) e
        | inr j ↦ stands_down y.key y.ver (marked p) (marked s) e
            (r.0 y j)
      ],
      r,
    )
    go false e true f more = r
    go false e false f more = (λ y i. elim (put_cases p ss y i) [ inl q ↦ subst (λ z. stands s z ≡ true) (sym q) (after e f) | inr j ↦ r.0 y j ], more)
      where
        after : stands p s ≡ false → (same_key p.key s.key && same_version p.ver s.ver) ≡ false → stands s p ≡ true
        after e f = turned (stands s p) refl
          where
            turned : (t : Bool) → stands s p ≡ t → stands s p ≡ true
            turned true g = g
            turned false g = let z : stands p s ≡ true = one_of (marked p) (marked s) g f in absurd cc

pub readers_rise : (h : Handled) → IsRisingBy stands (readers h)
readers_rise [] = tt
readers_rise (m ∷ h) = go m.body (readers_rise h)
  where
    go : (b : Body) → IsRisingBy stands (readers h) → IsRisingBy stands (reader_after (readers h) b)
    go (Get x k) r = put_rises (record { key = k; ver = x.ver }) (readers h) r
    go _ r = r

filter_rises : {A : Type 0} (r : A → A → Bool) (p : A → Bool) (xs : List A) → IsRisingBy r xs → IsRisingBy r (filter p xs)
filter_rises r p [] s = tt
filter_rises {A} r p (x ∷ xs) s = go (p x) (filter_rises r p xs s.1)
  where
    go : (t : Bool) → IsRisingBy r (filter p xs) → IsRisingBy r (cond t (x ∷ filter p xs) (filter p xs))
    go true more = (λ y i. s.0 y (filter_in p xs y i).0, more)
    go false more = more

rises_back : (rs : List Reader) → IsRisingBy stands (map reader_of rs) → IsInOrder rs
rises_back [] s = tt
rises_back (r ∷ rs) s = (λ y i. s.0 (reader_of y) (map_in reader_of rs y i), rises_back rs s.1)

-- the readers of records stand in order
pub in_order : (h : Handled) (rs : List Reader) → map reader_of rs ≡ filter (λ (p : ReaderOf). before (dropped h) p.ver) (readers h) → IsInOrder rs
in_order h rs e = rises_back rs (subst (IsRisingBy stands) (sym e)
    (filter_rises stands (λ (p : ReaderOf). before (dropped h) p.ver) (readers h) (readers_rise h)))
