-- Items that are sorted by version are in order, and rise where their versions differ; items rise where each is earlier
-- than the next.
use Rattle.std.proofs.Common.{◌≡◌, ◌↔◌, ℕ, zero, suc, ◌+◌, ◌-◌, ◌<◌, true, false, List, length, get_or, refl, sym, ◌∙◌, ap, subst, arith, Ordering}
use Rattle.std.specs.declared.cmp.Ordering.TheVariants.{Less, Equal, Greater}
use Rattle.std.specs.Ordering.{is_lt, nat_cmp, ordering_then}
use Rattle.std.specs.Cmp.{IsStrictWeakOrder}
use Rattle.std.specs.List.{IsDistinct}
use Rattle.std.specs.List.Sorted.{IsPermutation, IsSortedBy}
use Rattle.std.proofs.lemmas.Bool.Decides.{nat_tests}
use Rattle.std.proofs.lemmas.List.{get_or-map, length-map}
use Rattle.std.proofs.lemmas.List.Sorted.{sorted_far, IsPermutation-map, IsPermutation-sym}
use Rattle.std.proofs.lemmas.Map.Keys.{apart_from_distinct, IsDistinct-IsPermutation, IsDistinct-from_apart}
use Rattle.morty_base.specs.declared.names.Version.{Version}
use Rattle.morty_base.specs.Names.{before, same_version}
use Rattle.morty_base.proofs.Orders.{version_less}
use Rattle.serial_ref.specs.declared.item.SerialItem.{SerialItem}
use Rattle.serial_ref.specs.SerialItem.{versions_of, DifferInVersion, IsRising, IsInOrder}

first_less : (o p : Ordering) → is_lt (ordering_then o p) ≡ false → is_lt o ≡ false
first_less Less p e = e
first_less Equal p e = refl
first_less Greater p e = refl

-- the derived comparison of items
abbrev pub item_cmp : SerialItem → SerialItem → Ordering
item_cmp i j =
    ordering_then (ordering_then (nat_cmp i.ver.ts j.ver.ts) (nat_cmp i.ver.client j.ver.client))
    (ordering_then (nat_cmp i.client j.client) (nat_cmp i.txn j.txn))

not_before : (i j : SerialItem) → is_lt (item_cmp i j) ≡ false → before i.ver j.ver ≡ false
not_before i j e =
    sym (version_less i.ver j.ver)
    ∙ first_less (ordering_then (nat_cmp i.ver.ts j.ver.ts) (nat_cmp i.ver.client j.ver.client))
    (ordering_then (nat_cmp i.client j.client) (nat_cmp i.txn j.txn)) e

ranks : IsStrictWeakOrder (λ (i j : SerialItem). before i.ver j.ver)
unfolding before
ranks = record { one_way = λ i j e. grind (arith, nat_tests); chain = λ i j k p q. grind (arith, nat_tests) }

-- items that were sorted by that comparison are in order
pub sorted_is_in_order : (xs olds news ys : List SerialItem) → olds ≡ xs → ys ≡ news → IsPermutation olds news → IsSortedBy (λ i j. is_lt (item_cmp i j)) news →
    IsInOrder xs ys
sorted_is_in_order xs olds news ys first last same sorted =
    let ranked : IsSortedBy (λ i j. before i.ver j.ver) news = λ k d low high. not_before (get_or news (k + 1) d) (get_or news k d) (sorted k d low high) in
    let done : IsInOrder olds news = record {
      same = same;
      rising = λ i j d less within. sorted_far (λ i j. before i.ver j.ver) ranks news ranked i j d (omega arith) within;
    } in
    subst (λ l. IsInOrder l ys) first (subst (λ l. IsInOrder olds l) (sym last) done)

flips : (a b : Version) → same_version a b ≡ same_version b a
unfolding same_version
flips a b = grind (arith, nat_tests)

earlier : (a b : Version) → same_version a b ≡ false → before b a ≡ false → before a b ≡ true
unfolding before same_version
earlier a b p q = grind (arith, nat_tests)

not_same : (a b : Version) → before a b ≡ true → same_version a b ≡ false
unfolding before same_version
not_same a b p = grind (arith, nat_tests)

-- the version at a place is that of the item there
version_at : (xs : List SerialItem) (i : ℕ) (d : SerialItem) (v : Version) → i < length xs → get_or (versions_of xs) i v ≡ (get_or xs i d).ver
version_at xs i d v there = get_or-map (λ i. i.ver) xs i d v there

-- in order, items whose versions differ rise
differ_rise : (xs ys : List SerialItem) → IsInOrder xs ys → DifferInVersion xs → IsRising ys
differ_rise xs ys o differ = λ i j d less within.
    let there : i < length ys = omega arith in
    let inside : j < length (versions_of ys) = omega (arith, length-map ys (λ (i : SerialItem). i.ver)) in
    let apart : IsDistinct same_version (versions_of ys) =
    IsDistinct-IsPermutation same_version flips (versions_of xs) (versions_of ys) (IsPermutation-map (λ i. i.ver) xs ys o.same) differ in
    let other = apart_from_distinct same_version (versions_of ys) i j d.ver apart less inside in
    earlier (get_or ys i d).ver (get_or ys j d).ver
    (sym (ap (λ v. same_version v (get_or (versions_of ys) j d.ver)) (version_at ys i d d.ver there)
    ∙ ap (same_version (get_or ys i d).ver) (version_at ys j d d.ver within)) ∙ other)
    (o.rising i j d less within)

-- items that rise in order differ in their versions
rising_differ : (xs ys : List SerialItem) → IsInOrder xs ys → IsRising ys → DifferInVersion xs
rising_differ xs ys o up =
    IsDistinct-IsPermutation same_version flips (versions_of ys) (versions_of xs) (IsPermutation-map (λ i. i.ver) ys xs (IsPermutation-sym xs ys o.same))
    (IsDistinct-from_apart same_version (versions_of ys) (λ i j v less inside.
    let d : SerialItem = record { ver = v; client = 0; txn = 0 } in
    let within : j < length ys = omega (arith, length-map ys (λ (i : SerialItem). i.ver)) in
    let there : i < length ys = omega arith in
    ap (λ w. same_version w (get_or (versions_of ys) j v)) (version_at ys i d v there)
    ∙ ap (same_version (get_or ys i d).ver) (version_at ys j d v within)
    ∙ not_same (get_or ys i d).ver (get_or ys j d).ver (up i j d less within)))

pub rises_where_they_differ : (xs ys : List SerialItem) → IsInOrder xs ys → IsRising ys ↔ DifferInVersion xs
rises_where_they_differ xs ys o = (rising_differ xs ys o, differ_rise xs ys o)

then_before : (a b c : Version) → before a b ≡ true → before b c ≡ true → before a c ≡ true
unfolding before
then_before a b c p q = grind (arith, nat_tests)

-- what is earlier than the next is earlier than all after it
pub rises_by_steps : (xs : List SerialItem) →
    ((k : ℕ) (d : SerialItem) → k + 1 < length xs → before (get_or xs k d).ver (get_or xs (k + 1) d).ver ≡ true) → IsRising xs
rises_by_steps xs next = λ i j d less within. go i (j - (i + 1)) j d (omega arith) within
  where
    go : (i gap j : ℕ) (d : SerialItem) → j ≡ (i + 1) + gap → j < length xs → before (get_or xs i d).ver (get_or xs j d).ver ≡ true
    go i zero j d at within =
        let here : j ≡ i + 1 = omega arith in
        let inside : i + 1 < length xs = omega arith in
        rw here (next i d inside)
    go i (suc gap) j d at within =
        let last : j ≡ ((i + 1) + gap) + 1 = omega arith in
        let inside : ((i + 1) + gap) + 1 < length xs = omega arith in
        rw last (then_before (get_or xs i d).ver (get_or xs ((i + 1) + gap) d).ver (get_or xs (((i + 1) + gap) + 1) d).ver
        (go i gap ((i + 1) + gap) d refl (omega arith)) (next ((i + 1) + gap) d inside))
