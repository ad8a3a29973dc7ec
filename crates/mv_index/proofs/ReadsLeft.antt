-- What is left of a walk over the reads of a key.
use Rattle.std.proofs.Common.{◌≡◌, inl, inr, Bool, true, false, List, [], ◌∷◌, Some, refl, ap, sym, subst, ◌∙◌, ◌&&◌, arith}
use Rattle.std.specs.Ordering.{is_gt, is_lt}
use Rattle.std.specs.BTreeMap.{BTreeMap, get}
use Rattle.std.proofs.lemmas.Bool.Decides.{nat_tests}
use Rattle.std.proofs.lemmas.Int.{ints}
use Rattle.protocol.specs.Words.{Version, Exec, Key, before, same_key}
use Rattle.morty_base.proofs.Orders.{same_key_tells}
use Rattle.protocol.specs.Lists.{IsIn, IsRisingBy}
use Rattle.mv_index.specs.declared.write_index.Place.{Place}
use Rattle.mv_index.specs.WriteIndex.{place_cmp}
use Rattle.mv_index.proofs.PlaceOrder.{end_place}
use Rattle.mv_index.specs.ReadIndex.{IsReadPast}

abbrev pub Entry : Type 0
Entry = Place × Version

-- the entries that are left: all that are late are there; each is in the map, from the start on; and they rise
pub record IsLeft (m : BTreeMap Place Version) (k : Key) (v : Version) (rest : List Entry) : Type 0 where
  pub late : (x : Exec) (u : Version) → get place_cmp m (record { key = k; exec = x }) ≡ Some u → before v x.ver ≡ true → before u v ≡ true →
      (e : Entry) × IsIn e rest × (e.0 ≡ record { key = k; exec = x }) × (e.1 ≡ u)
  pub found : (e : Entry) → IsIn e rest → get place_cmp m e.0 ≡ Some e.1
  pub from : (e : Entry) → IsIn e rest → is_gt (place_cmp (end_place k v) e.0) ≡ false
  pub rises : IsRisingBy (λ (e f : Entry). is_lt (place_cmp e.0 f.0)) rest

between_key : (k : Key) (v : Version) (p : Place) (x : Exec) → is_gt (place_cmp (end_place k v) p) ≡ false →
    is_lt (place_cmp p (record { key = k; exec = x })) ≡ true → same_key p.key k ≡ true
unfolding same_key
between_key k v p x a b = grind (arith, nat_tests, ints)

key_self : (k : Key) → same_key k k ≡ true
key_self k = elim (same_key_tells k k) [ inl q ↦ q.0 | inr q ↦ absurd (q.1 refl) ]

-- an entry of the key that is not late is passed
pub left_next : (m : BTreeMap Place Version) (k : Key) (v : Version) (e : Entry) (rest : List Entry) → IsLeft m k v (e ∷ rest) →
    (before v e.0.exec.ver && before e.1 v) ≡ false → IsLeft m k v rest
left_next m k v e rest s n = record {
  late = λ x u g b c. go x u b c (s.late x u g b c);
  found = λ f i. s.found f (inr i);
  from = λ f i. s.from f (inr i);
  rises = s.rises.1;
}
  where
    go : (x : Exec) (u : Version) → before v x.ver ≡ true → before u v ≡ true →
        (f : Entry) × IsIn f (e ∷ rest) × (f.0 ≡ record { key = k; exec = x }) × (f.1 ≡ u) →
        (f : Entry) × IsIn f rest × (f.0 ≡ record { key = k; exec = x }) × (f.1 ≡ u)
    go x u b c (f, inr i, p, q) = (f, i, p, q)
    go x u b c (f, inl i, p, q) =
        let here : e.0 ≡ record { key = k; exec = x } = ap (λ (z : Entry). z.0) (sym i) ∙ p in
        let least : e.1 ≡ u = ap (λ (z : Entry). z.1) (sym i) ∙ q in
        let one : before v e.0.exec.ver ≡ true = subst (λ (z : Place). before v z.exec.ver ≡ true) (sym here) b in
        let two : before e.1 v ≡ true = subst (λ z. before z v ≡ true) (sym least) c in
        let both : (before v e.0.exec.ver && before e.1 v) ≡ true = ap (λ t. t && before e.1 v) one ∙ two in
        absurd cc

-- an entry of another key ends the walk
pub left_other : (m : BTreeMap Place Version) (k : Key) (v : Version) (e : Entry) (rest : List Entry) → IsLeft m k v (e ∷ rest) →
    same_key e.0.key k ≡ false → IsReadPast v (λ x. get place_cmp m (record { key = k; exec = x })) false
left_other m k v e rest s n = λ x u g b. go x u g b (before u v) refl
  where
    no : (x : Exec) (u : Version) → (f : Entry) × IsIn f (e ∷ rest) × (f.0 ≡ record { key = k; exec = x }) × (f.1 ≡ u) → ⊥
    no x u (f, inl i, p, q) =
        let here : e.0 ≡ record { key = k; exec = x } = ap (λ (z : Entry). z.0) (sym i) ∙ p in
        let same : same_key e.0.key k ≡ true = subst (λ (z : Place). same_key z.key k ≡ true) (sym here) (key_self k) in
        cc
    no x u (f, inr i, p, q) =
        let less : is_lt (place_cmp e.0 (record { key = k; exec = x })) ≡ true = subst (λ (z : Place). is_lt (place_cmp e.0 z) ≡ true) p (s.rises.0 f i) in
        let same = between_key k v e.0 x (s.from e (inl refl)) less in
        cc

    go : (x : Exec) (u : Version) → get place_cmp m (record { key = k; exec = x }) ≡ Some u → before v x.ver ≡ true → (t : Bool) → before u v ≡ t → t ≡ false
    go x u g b true c = absurd (no x u (s.late x u g b c))
    go x u g b false c = refl

-- a late entry answers
pub left_here : (m : BTreeMap Place Version) (k : Key) (v : Version) (e : Entry) (rest : List Entry) → IsLeft m k v (e ∷ rest) → same_key e.0.key k ≡ true →
    (before v e.0.exec.ver && before e.1 v) ≡ true → IsReadPast v (λ x. get place_cmp m (record { key = k; exec = x })) true
left_here m k v e rest s n b =
    let key : e.0.key ≡ k = elim (same_key_tells e.0.key k) [ inl q ↦ q.1 | inr q ↦ absurd (cc (q.0, n)) ] in
    let here : e.0 ≡ record { key = k; exec = e.0.exec } = ap (λ (l : Key). let q : Place = record { key = l; exec = e.0.exec } in q) key in (
      e.0.exec,
      e.1,
      subst (λ (z : Place). get place_cmp m z ≡ Some e.1) here (s.found e (inl refl)),
      first (before v e.0.exec.ver)
          (before e.1 v) b,
      second (before v e.0.exec.ver) (before e.1 v) b,
    )
  where
    first : (a b : Bool) → (a && b) ≡ true → a ≡ true
    first true b e = refl
    first false b e = e

    second : (a b : Bool) → (a && b) ≡ true → b ≡ true
    second true b e = e
    second false b e = cc

-- with nothing left none is late
pub left_none : (m : BTreeMap Place Version) (k : Key) (v : Version) → IsLeft m k v [] →
    IsReadPast v (λ x. get place_cmp m (record { key = k; exec = x })) false
left_none m k v s = λ x u g b. go x u g b (before u v) refl
  where
    go : (x : Exec) (u : Version) → get place_cmp m (record { key = k; exec = x }) ≡ Some u → before v x.ver ≡ true → (t : Bool) → before u v ≡ t → t ≡ false
    go x u g b true c = absurd (s.late x u g b c).1
    go x u g b false c = refl
