-- One more reader.
use Rattle.std.proofs.Common.{◌≡◌, ◌⊎◌, inl, inr, Bool, true, false, cond, List, [], ◌∷◌, ◌||◌, ◌&&◌, map, Some, None, ap, sym, subst, refl, ◌∙◌}
use Rattle.std.specs.Prelude.{filter}
use Rattle.std.specs.List.{list_any}
use Rattle.morty_base.proofs.Orders.{same_key_tells, same_version_tells, before_total}
use Rattle.protocol.specs.Words.{Key, Version, Exec, NodeId, before, key_before, same_key, same_version, Get}
use Rattle.protocol.specs.declared.First2.{First2}
use Rattle.protocol.specs.declared.Held.{Held}
use Rattle.protocol.specs.Lists.{IsIn, IsRisingBy}
use Rattle.protocol.specs.Replica.Taken.{Handled, dropped}
use Rattle.protocol.specs.Replica.Held.{latest}
use Rattle.protocol.specs.Replica.Readers.{Reader as ReaderOf, put_reader, readers}
use Rattle.protocol.proofs.TestLemmas.{and_left, and_right}
use Rattle.protocol.proofs.ListsLemmas.{IsIn-map}
use Rattle.mv_index.proofs.Growth.{later_none}
use Rattle.mv_index.specs.declared.reader_list.Reader.{Reader}
use Rattle.mv_index.specs.declared.reader_list.ReaderList.{ReaderList}
use Rattle.mv_index.specs.ReaderList.{reader_of, put_marked, told_at}
use Rattle.mv_index.proofs.Sorted.{stands_down}
use Rattle.mv_index.proofs.Unchanged.{holdings_same}
use Rattle.mv_index.proofs.Values.{filter_in}
use Rattle.mv_index.specs.KeyList.{AreRising}
use Rattle.mv_index.specs.declared.key_list.KeyList.{KeyList}
use Rattle.mv_index.specs.Records.{StandsFor, IsTold, earlier}
use Rattle.mv_index.specs.declared.records.Records.{Records}
use Rattle.mv_index.proofs.Quiet.{below_earlier}
use Rattle.mv_index.proofs.Rising.{stands, marked, readers_rise}
use Rattle.mv_index.proofs.Unseen.{told_same, get_holds}
use Rattle.mv_index.proofs.VotesSame.{after_body, get_votes, table_same}

-- ---- the list

put_marked_names : (r : Reader) (rs : List Reader) → map reader_of (put_marked r rs) ≡ put_reader (reader_of r) (map reader_of rs)
put_marked_names r [] = refl
put_marked_names r (s ∷ ss) = go (key_before r.key s.key || (same_key r.key s.key && before r.ver s.ver)) (same_key r.key s.key
    && same_version r.ver s.ver) (put_marked_names r ss)
  where
    go : (a b : Bool) → map reader_of (put_marked r ss) ≡ put_reader (reader_of r) (map reader_of ss) →
        map reader_of (cond a (r ∷ s ∷ ss) (cond b (s ∷ ss) (s ∷ put_marked r ss)))
        ≡ cond a (reader_of r ∷ reader_of s ∷ map reader_of ss) (cond b (reader_of s ∷ map reader_of ss)
        (reader_of s ∷ put_reader (reader_of r) (map reader_of ss)))
    go true b e = refl
    go false true e = refl
    go false false e = ap (λ l. reader_of s ∷ l) e

put_first : (p : ReaderOf) (rs : List ReaderOf) → ((y : ReaderOf) → IsIn y rs → stands p y ≡ true) → put_reader p rs ≡ p ∷ rs
put_first p [] h = refl
put_first p (s ∷ ss) h = ap (λ t. cond t (p ∷ s ∷ ss) (cond (same_key p.key s.key && same_version p.ver s.ver) (s ∷ ss) (s ∷ put_reader p ss))) (h s (inl refl))

-- a reader above the dropped version goes in among those that are there
put_above : (d : Version) (p : ReaderOf) (rs : List ReaderOf) → IsRisingBy stands rs → before d p.ver ≡ true →
    put_reader p (filter (λ (x : ReaderOf). before d x.ver) rs) ≡ filter (λ (x : ReaderOf). before d x.ver) (put_reader p rs)
put_above d p [] o e = sym (ap (λ t. cond t (p ∷ []) []) e)
put_above d p (s ∷ ss) o e = go (stands p s) refl (same_key p.key s.key && same_version p.ver s.ver) refl (before d s.ver) refl (put_above d p ss o.1 e)
  where
    go : (a : Bool) → stands p s ≡ a → (b : Bool) → (same_key p.key s.key && same_version p.ver s.ver) ≡ b → (t : Bool) → before d s.ver ≡ t →
        put_reader p (filter (λ (x : ReaderOf). before d x.ver) ss) ≡ filter (λ (x : ReaderOf). before d x.ver) (put_reader p ss) →
        put_reader p (cond t (s ∷ filter (λ (x : ReaderOf). before d x.ver) ss) (filter (λ (x : ReaderOf). before d x.ver) ss))
        ≡ filter (λ (x : ReaderOf). before d x.ver) (cond a (p ∷ s ∷ ss) (cond b (s ∷ ss) (s ∷ put_reader p ss)))
    go true f b g true k more =
        ap (λ t. cond t (p ∷ s ∷ filter (λ (x : ReaderOf). before d x.ver) ss)
        (cond (same_key p.key s.key && same_version p.ver s.ver) (s ∷ filter (λ (x : ReaderOf). before d x.ver) ss)
        (s ∷ put_reader p (filter (λ (x : ReaderOf). before d x.ver) ss)))) f
        ∙ sym (ap (λ t. cond t (p ∷ filter (λ (x : ReaderOf). before d x.ver) (s ∷ ss)) (filter (λ (x : ReaderOf). before d x.ver) (s ∷ ss))) e
        ∙ ap (λ t. p ∷ cond t (s ∷ filter (λ (x : ReaderOf). before d x.ver) ss) (filter (λ (x : ReaderOf). before d x.ver) ss)) k)
    go true f b g false k more =
        put_first p (filter (λ (x : ReaderOf). before d x.ver) ss) (λ y i. stands_down y.key y.ver (marked p) (marked s) f
        (o.0 y (filter_in (λ (x : ReaderOf). before d x.ver) ss y i).0))
        ∙ sym (ap (λ t. cond t (p ∷ filter (λ (x : ReaderOf). before d x.ver) (s ∷ ss)) (filter (λ (x : ReaderOf). before d x.ver) (s ∷ ss))) e
        ∙ ap (λ t. p ∷ cond t (s ∷ filter (λ (x : ReaderOf). before d x.ver) ss) (filter (λ (x : ReaderOf). before d x.ver) ss)) k)
    go false f true g true k more =
        ap (λ t. cond t (p ∷ s ∷ filter (λ (x : ReaderOf). before d x.ver) ss)
        (cond (same_key p.key s.key && same_version p.ver s.ver) (s ∷ filter (λ (x : ReaderOf). before d x.ver) ss)
        (s ∷ put_reader p (filter (λ (x : ReaderOf). before d x.ver) ss)))) f
        ∙ (ap (λ t. cond t (s ∷ filter (λ (x : ReaderOf). before d x.ver) ss) (s ∷ put_reader p (filter (λ (x : ReaderOf). before d x.ver) ss))) g
        ∙ sym (ap (λ t. cond t (s ∷ filter (λ (x : ReaderOf). before d x.ver) ss) (filter (λ (x : ReaderOf). before d x.ver) ss)) k))
    go false f true g false k more =
        let same : p.ver ≡ s.ver = elim (same_version_tells p.ver s.ver) [
          | inl q ↦ q.1
          | inr q ↦
              absurd (cc (q.0, and_right (same_key p.key s.key) (same_version p.ver s.ver) g))
        ] in
        let z : before d s.ver ≡ true = ap (before d) (sym same) ∙ e in
        absurd (cc (z, k))
    go false f false g true k more =
        ap (λ t. cond t (p ∷ s ∷ filter (λ (x : ReaderOf). before d x.ver) ss)
        (cond (same_key p.key s.key && same_version p.ver s.ver) (s ∷ filter (λ (x : ReaderOf). before d x.ver) ss)
        (s ∷ put_reader p (filter (λ (x : ReaderOf). before d x.ver) ss)))) f
        ∙ (ap (λ t. cond t (s ∷ filter (λ (x : ReaderOf). before d x.ver) ss) (s ∷ put_reader p (filter (λ (x : ReaderOf). before d x.ver) ss))) g
        ∙ (ap (λ l. s ∷ l) more
        ∙ sym (ap (λ t. cond t (s ∷ filter (λ (x : ReaderOf). before d x.ver) (put_reader p ss))
        (filter (λ (x : ReaderOf). before d x.ver) (put_reader p ss))) k)))
    go false f false g false k more =
        more ∙ sym (ap (λ t. cond t (s ∷ filter (λ (x : ReaderOf). before d x.ver) (put_reader p ss))
        (filter (λ (x : ReaderOf). before d x.ver) (put_reader p ss))) k)

marked_cases : (r : Reader) (rs : List Reader) (p : Reader) → IsIn p (put_marked r rs) → (p ≡ r) ⊎ IsIn p rs
marked_cases r [] p i = i
marked_cases r (s ∷ ss) p i = go (key_before r.key s.key || (same_key r.key s.key && before r.ver s.ver)) (same_key r.key s.key
    && same_version r.ver s.ver) i (marked_cases r ss p)
  where
    go : (a b : Bool) → IsIn p (cond a (r ∷ s ∷ ss) (cond b (s ∷ ss) (s ∷ put_marked r ss))) → (IsIn p (put_marked r ss) → (p ≡ r) ⊎ IsIn p ss) →
        (p ≡ r) ⊎ IsIn p (s ∷ ss)
    go true b i more = i
    go false true i more = inr i
    go false false (inl q) more = inr (inl q)
    go false false (inr j) more = elim (more j) [ inl q ↦ inl q | inr k ↦ inr (inr k) ]

-- ---- the records

key_self : (k : Key) → same_key k k ≡ true
key_self k = elim (same_key_tells k k) [ inl q ↦ q.0 | inr q ↦ absurd (q.1 refl) ]

or_true : (a b : Bool) → b ≡ true → (a || b) ≡ true
or_true true b e = refl
or_true false b e = e

or_false : (a b : Bool) → (a || b) ≡ false → b ≡ false
or_false true b e = cc
or_false false b e = e

-- the keys of the new list are those of the old one and this key
abbrev pub HasMore : Key → KeyList → KeyList → Type 0
HasMore key old new = (k : Key) → list_any (same_key k) new.keys.items ≡ (same_key k key || list_any (same_key k) old.keys.items)

abbrev pub after_read : Records → Version → ReaderList → KeyList → KeyList → Records
after_read r v rs ks ts = record r { readers = rs; reader_keys = ks; touched = ts; low = earlier r.low v; broken = false }

pub read_stands : (firsts : List First2) (h : Handled) (from to : NodeId) (x : Exec) (k : Key) (r : Records) (rs : ReaderList) (ks ts : KeyList) →
    StandsFor firsts h r → before (dropped h) x.ver ≡ true →
    rs.readers.items ≡ put_marked (record { key = k; ver = x.ver; told = None }) r.readers.readers.items → AreRising ks.keys.items →
    HasMore k r.reader_keys ks → AreRising ts.keys.items → HasMore k r.touched ts →
    StandsFor firsts (after_body h from to (Get x k)) (after_read r x.ver rs ks ts)
read_stands firsts h from to x k r rs ks ts s above e kr kh tr th = record {
  holdings = holdings_same firsts h h' r.holdings (get_holds h from to x k) s.holdings;
  voted = λ y. table_same h h' y _ (later_none (dropped h)) (get_votes h from to x k y) (s.voted y);
  voted_indexed = s.voted_indexed;
  readers_are = ap (map reader_of) e
      ∙ (put_marked_names (record { key = k; ver = x.ver; told = None }) r.readers.readers.items
      ∙ (ap (put_reader (record { key = k; ver = x.ver })) s.readers_are
      ∙ (put_above (dropped h) (record { key = k; ver = x.ver }) (readers h) (readers_rise h) above
      ∙ ap (λ d. filter (λ (p : ReaderOf). before d p.ver) (readers h')) (sym (later_none (dropped h))))));
  keys_rise = kr;
  keys_have = have;
  touched_rise = tr;
  quiet = λ p i z. quiet p (cases p i) r.all_touched refl z;
  below = λ p i z. below p (cases p i) (below_earlier p.ver r.low x.ver z);
  whole = refl;
}
  where
    h' : Handled
    h' = after_body h from to (Get x k)

    cases : (p : Reader) → IsIn p rs.readers.items → (p ≡ record { key = k; ver = x.ver; told = None }) ⊎ IsIn p r.readers.readers.items
    cases p i = marked_cases (record { key = k; ver = x.ver; told = None }) r.readers.readers.items p (subst (λ l. IsIn p l) e i)

    own : (old new : KeyList) (p : Reader) → HasMore k old new → p ≡ record { key = k; ver = x.ver; told = None } →
        list_any (same_key p.key) new.keys.items ≡ true
    own old new p more q = ap (λ (y : Reader). list_any (same_key y.key) new.keys.items) q
        ∙ (more k ∙ ap (λ t. t || list_any (same_key k) old.keys.items) (key_self k))

    have : (p : Reader) → IsIn p rs.readers.items → list_any (same_key p.key) ks.keys.items ≡ true
    have p i = elim (cases p i) [
      | inl q ↦ own r.reader_keys ks p kh q
      | inr j ↦ kh p.key
          ∙ or_true (same_key p.key k) (list_any (same_key p.key) r.reader_keys.keys.items) (s.keys_have p j)
    ]

    below : (p : Reader) → (p ≡ record { key = k; ver = x.ver; told = None }) ⊎ IsIn p r.readers.readers.items →
        (before p.ver r.low ≡ true) × (before p.ver x.ver ≡ true) → IsTold firsts h' p
    below p (inl q) f =
        let z : before x.ver x.ver ≡ true = subst (λ (y : Reader). before y.ver x.ver ≡ true) q f.1 in
        let w : before x.ver x.ver ≡ false = before_total.irreflexive x.ver in
        absurd (cc (z, w))
    below p (inr j) f = told_same firsts h h' p (get_holds h from to x k) (s.below p j f.0)

    quiet : (p : Reader) → (p ≡ record { key = k; ver = x.ver; told = None }) ⊎ IsIn p r.readers.readers.items → (t : Bool) → r.all_touched ≡ t →
        list_any (same_key p.key) (cond r.all_touched ks.keys.items ts.keys.items) ≡ false → IsTold firsts h' p
    quiet p (inl q) true f z =
        let y : list_any (same_key p.key) ks.keys.items ≡ false = subst (λ t. list_any (same_key p.key) (cond t ks.keys.items ts.keys.items) ≡ false) f z in
        absurd (cc (y, own r.reader_keys ks p kh q))
    quiet p (inl q) false f z =
        let y : list_any (same_key p.key) ts.keys.items ≡ false = subst (λ t. list_any (same_key p.key) (cond t ks.keys.items ts.keys.items) ≡ false) f z in
        absurd (cc (y, own r.touched ts p th q))
    quiet p (inr j) true f z =
        let y : list_any (same_key p.key) ks.keys.items ≡ false = subst (λ t. list_any (same_key p.key) (cond t ks.keys.items ts.keys.items) ≡ false) f z in
        let w : list_any (same_key p.key) r.reader_keys.keys.items ≡ false = or_false (same_key p.key k) _ (sym (kh p.key) ∙ y) in
        absurd (cc (w, s.keys_have p j))
    quiet p (inr j) false f z =
        let y : list_any (same_key p.key) ts.keys.items ≡ false = subst (λ t. list_any (same_key p.key) (cond t ks.keys.items ts.keys.items) ≡ false) f z in
        let w : list_any (same_key p.key) r.touched.keys.items ≡ false = or_false (same_key p.key k) _ (sym (th p.key) ∙ y) in
        told_same firsts h h' p (get_holds h from to x k) (s.quiet p j
        (ap (λ t. list_any (same_key p.key) (cond t r.reader_keys.keys.items r.touched.keys.items)) f ∙ w))

-- ---- the mark of the new reader

-- once the new reader was told what it sees, all were
pub read_told : (firsts : List First2) (h : Handled) (k : Key) (v : Version) (a : Held) (rs new : List Reader) →
    new ≡ map (told_at k v a) (put_marked (record { key = k; ver = v; told = None }) rs) → a ≡ latest firsts h k v →
    ((p : Reader) → IsIn p rs → IsTold firsts h p) → (p : Reader) → IsIn p new → IsTold firsts h p
read_told firsts h k v a rs new e seen told p i = go (IsIn-map (told_at k v a) p (put_marked (record { key = k; ver = v; told = None }) rs)
    (subst (λ l. IsIn p l) e i))
  where
    version_self : same_version v v ≡ true
    version_self = elim (same_version_tells v v) [ inl q ↦ q.0 | inr q ↦ absurd (q.1 refl) ]

    go : (q : Reader) × IsIn q (put_marked (record { key = k; ver = v; told = None }) rs) × (p ≡ told_at k v a q) → IsTold firsts h p
    go (q, j, f) = by (same_key k q.key && same_version v q.ver) refl f (marked_cases (record { key = k; ver = v; told = None }) rs q j)
      where
        by : (t : Bool) → (same_key k q.key && same_version v q.ver) ≡ t → p ≡ cond t (record q { told = Some a }) q →
            (q ≡ record { key = k; ver = v; told = None }) ⊎ IsIn q rs → IsTold firsts h p
        by true g f o =
            let key : k ≡ q.key = elim (same_key_tells k q.key) [
              | inl s ↦ s.1
              | inr s ↦
                  absurd (cc (s.0, and_left (same_key k q.key) (same_version v q.ver) g))
            ] in
            let ver : v ≡ q.ver = elim (same_version_tells v q.ver) [
              | inl s ↦ s.1
              | inr s ↦
                  absurd (cc (s.0, and_right (same_key k q.key) (same_version v q.ver) g))
            ] in
            subst (IsTold firsts h) (sym f) (ap Some (seen ∙ (ap (λ l. latest firsts h l v) key ∙ ap (latest firsts h q.key) ver)))
        by false g f (inl o) =
            let z : (same_key k q.key && same_version v q.ver) ≡ true = ap (λ (y : Reader). same_key k y.key && same_version v y.ver) o
            ∙ (ap (λ t. t && same_version v v) (key_self k) ∙ version_self) in
            absurd (cc (z, g))
        by false g f (inr m) = subst (IsTold firsts h) (sym f) (told q m)
