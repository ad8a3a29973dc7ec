-- The entries of a table of values are the keys in rising order, with what is held there.
use Rattle.std.proofs.Common.{◌≡◌, ◌≢◌, ◌⊎◌, inl, inr, Bool, true, false, cond, List, [], ◌∷◌, Option, Some, None, refl, ap, sym, ◌∙◌, ◌||◌}
use Rattle.std.specs.Prelude.{ℤ, pos, map, unwrap_or}
use Rattle.std.specs.Bool.{then_some}
use Rattle.std.specs.List.{list_any}
use Rattle.std.specs.Map.{keys_of}
use Rattle.std.specs.Option.{option_or, is_some}
use Rattle.std.specs.BTreeMap.{IsOrdered}
use Rattle.morty_base.proofs.Orders.{same_key_tells, key_before_total}
use Rattle.protocol.specs.Words.{Key, same_key, key_before}
use Rattle.protocol.specs.Lists.{IsIn}
use Rattle.protocol.proofs.ListsLemmas.{IsIn-map, map_in}
use Rattle.report.specs.declared.rows.ValueRow.{ValueRow}
use Rattle.txn_lang.specs.Keys.{Entry, found}
use Rattle.world_rows.specs.Rows.{put_key, sorted_keys}
use Rattle.world_rows.specs.Orders.{key_cmp}
use Rattle.world_rows.specs.Values.{value_at, value_row, HasValues}
use Rattle.world_rows.specs.declared.values.ValueTable.{ValueTable}
use Rattle.world_rows.proofs.OrdersLemmas.{keys_exact, key_less}
use Rattle.world_rows.proofs.EntriesLemmas.{entry_found, lookup_in, keys_rise}
use Rattle.world_rows.proofs.SortedLemmas.{AreNames, put, sorted, last_by, is_sorted}

abbrev itself : Key → Key
itself k = k

keys_named : AreNames key_before same_key
keys_named = record { order = key_before_total; tells = same_key_tells }

put_is : (k : Key) (ls : List Key) → put_key k ls ≡ put itself key_before same_key k ls
put_is k [] = refl
put_is k (l ∷ ls) = ap (λ (r : List Key). cond (key_before k l) (k ∷ l ∷ ls) (cond (same_key k l) (l ∷ ls) (l ∷ r))) (put_is k ls)

sorted_is : (ks : List Key) → sorted_keys ks ≡ sorted itself key_before same_key ks
sorted_is [] = refl
sorted_is (k ∷ ks) = ap (put_key k) (sorted_is ks) ∙ put_is k (sorted itself key_before same_key ks)

last_key : (k : Key) (ks : List Key) → last_by itself same_key k ks ≡ then_some (list_any (same_key k) ks) k
last_key k [] = refl
last_key k (l ∷ ls) = ap (λ o. option_or o (then_some (same_key k l) l)) (last_key k ls) ∙ go (same_key k l) (list_any (same_key k) ls) (same_key_tells k l)
  where
    go : (t u : Bool) → ((t ≡ true) × (k ≡ l)) ⊎ ((t ≡ false) × (k ≢ l)) → option_or (then_some u k) (then_some t l) ≡ then_some (t || u) k
    go true true q = refl
    go true false (inl q) = ap Some (sym q.1)
    go true false (inr q) = absurd (let z : true ≡ false = q.0 in cc)
    go false true q = refl
    go false false q = refl

abbrev pub Pair : Type 0
Pair = Key × ℤ

-- an entry as it is reported
abbrev pub shown : Pair → ValueRow
shown e = record { key = e.0; value = e.1 }

read_keys : (m : List Entry) (es : List Pair) → ((e : Pair) → IsIn e es → shown e ≡ value_row m e.0) → map shown es ≡ map (value_row m) (keys_of es)
read_keys m [] f = refl
read_keys m (e ∷ es) f = ap (λ (r : ValueRow). r ∷ map shown es) (f e (inl refl))
    ∙ ap (λ (l : List ValueRow). value_row m e.0 ∷ l) (read_keys m es (λ d i. f d (inr i)))

module _ (m : List Entry) (ks : List Key) (t : ValueTable) (h : HasValues m t) (has : (k : Key) → is_some (found m k) ≡ list_any (same_key k) ks)
    (o : IsOrdered key_cmp t.values) where
  held_there : (e : Pair) → IsIn e t.values.entries → found m e.0 ≡ Some e.1
  held_there e i = sym (h.each e.0) ∙ entry_found key_cmp keys_exact t.values.entries e o i

  sound : (k : Key) → IsIn k (keys_of t.values.entries) → last_by itself same_key k ks ≡ Some k
  sound k i =
      let f = IsIn-map (λ (e : Pair). e.0) k t.values.entries i in
      let e : Pair = f.0 in
      let any : list_any (same_key k) ks ≡ true = sym (has k) ∙ (ap (λ (l : Key). is_some (found m l)) f.2 ∙ ap is_some (held_there e f.1)) in
      last_key k ks ∙ ap (λ b. then_some b k) any

  complete : (k : Key) → last_by itself same_key k ks ≡ Some k → IsIn k (keys_of t.values.entries)
  complete k e = go (list_any (same_key k) ks) (sym (last_key k ks) ∙ e) (value_at t k) refl (ap is_some (h.each k) ∙ has k)
    where
      go : (b : Bool) → then_some b k ≡ Some k → (v : Option ℤ) → value_at t k ≡ v → is_some (value_at t k) ≡ b → IsIn k (keys_of t.values.entries)
      go false f v g z = absurd cc
      go true f None g z = let y : false ≡ true = sym (ap is_some g) ∙ z in absurd cc
      go true f (Some v) g z = map_in (λ (e : Pair). e.0) t.values.entries (k, v) (lookup_in key_cmp keys_exact k t.values.entries v g)

  pub value_rows_are : map shown t.values.entries ≡ map (value_row m) (sorted_keys ks)
  value_rows_are =
      read_keys m t.values.entries
      (λ e i. ap (λ (v : ℤ). (let r : ValueRow = record { key = e.0; value = v } in r)) (sym (ap (λ p. unwrap_or p (pos 0)) (held_there e i))))
      ∙ ap (map (value_row m))
      (is_sorted itself key_before same_key keys_named (keys_of t.values.entries) ks (keys_rise key_cmp key_before key_less (keys_of t.values.entries) o)
      sound complete ∙ sym (sorted_is ks))
