-- The readers that a Drop leaves.
use Rattle.std.proofs.Common.{◌≡◌, ◌∙◌, Bool, true, false, cond, List, [], ◌∷◌, ap, refl, map}
use Rattle.std.specs.Prelude.{filter}
use Rattle.morty_base.proofs.Orders.{before_total}
use Rattle.protocol.specs.Words.{Version, before}
use Rattle.protocol.specs.Replica.Readers.{Reader as ReaderOf}
use Rattle.mv_index.specs.declared.reader_list.Reader.{Reader}
use Rattle.mv_index.specs.ReaderList.{reader_of}

pub map_filter : {A B : Type 0} (f : A → B) (p : B → Bool) (xs : List A) → map f (filter (λ a. p (f a)) xs) ≡ filter p (map f xs)
map_filter f p [] = refl
map_filter {A} {B} f p (x ∷ xs) = go (p (f x)) (map_filter f p xs)
  where
    go : (t : Bool) → map f (filter (λ a. p (f a)) xs) ≡ filter p (map f xs) → map f (cond t (x ∷ filter (λ a. p (f a)) xs) (filter (λ a. p (f a)) xs))
        ≡ cond t (f x ∷ filter p (map f xs)) (filter p (map f xs))
    go true e = ap (λ l. f x ∷ l) e
    go false e = e

-- who reads above the later version reads above the earlier one
pub cut_twice : (d w : Version) (rs : List ReaderOf) → before d w ≡ true →
    filter (λ (p : ReaderOf). before w p.ver) (filter (λ (p : ReaderOf). before d p.ver) rs) ≡ filter (λ (p : ReaderOf). before w p.ver) rs
cut_twice d w [] e = refl
cut_twice d w (r ∷ rs) e = go (before d r.ver) refl (before w r.ver) refl (cut_twice d w rs e)
  where
    go : (s : Bool) → before d r.ver ≡ s → (t : Bool) → before w r.ver ≡ t →
        filter (λ (p : ReaderOf). before w p.ver) (filter (λ (p : ReaderOf). before d p.ver) rs) ≡ filter (λ (p : ReaderOf). before w p.ver) rs →
        filter (λ (p : ReaderOf). before w p.ver) (cond s (r ∷ filter (λ (p : ReaderOf). before d p.ver) rs) (filter (λ (p : ReaderOf). before d p.ver) rs))
        ≡ cond t (r ∷ filter (λ (p : ReaderOf). before w p.ver) rs) (filter (λ (p : ReaderOf). before w p.ver) rs)
    go true f true g more = ap (λ t. cond t (r ∷ filter (λ (p : ReaderOf). before w p.ver) (filter (λ (p : ReaderOf). before d p.ver) rs))
        (filter (λ (p : ReaderOf). before w p.ver) (filter (λ (p : ReaderOf). before d p.ver) rs))) g ∙ ap (λ l. r ∷ l) more
    go true f false g more = ap (λ t. cond t (r ∷ filter (λ (p : ReaderOf). before w p.ver) (filter (λ (p : ReaderOf). before d p.ver) rs))
        (filter (λ (p : ReaderOf). before w p.ver) (filter (λ (p : ReaderOf). before d p.ver) rs))) g ∙ more
    go false f true g more = let z : before d r.ver ≡ true = before_total.transitive d w r.ver e g in absurd cc
    go false f false g more = more

pub readers_cut : (d w : Version) (rs new : List Reader) (all : List ReaderOf) → before d w ≡ true → new ≡ filter (λ (r : Reader). before w r.ver) rs →
    map reader_of rs ≡ filter (λ (p : ReaderOf). before d p.ver) all → map reader_of new ≡ filter (λ (p : ReaderOf). before w p.ver) all
readers_cut d w rs new all b e f =
    ap (map reader_of) e
    ∙ (map_filter reader_of (λ (p : ReaderOf). before w p.ver) rs
    ∙ (ap (filter (λ (p : ReaderOf). before w p.ver)) f ∙ cut_twice d w all b))
