-- What an ordered map holds at a key is what its entries hold, also after a key was given a value.
use Rattle.std.proofs.Common.{◌≡◌, ℕ, ◌+◌, ◌<◌, Bool, true, false, List, [], ◌∷◌, length, drop, get_or, Option, Some, unwrap_or, refl, ap, sym, ◌∙◌, ℤ, pos, arith, cond, Ordering}
use Rattle.std.specs.Ordering.{is_eq, nat_cmp, int_cmp, ordering_then}
use Rattle.std.specs.BTreeMap.{is_at}
use Rattle.std.specs.Map.{lookup}
use Rattle.std.proofs.lemmas.List.{drop_more}
use Rattle.std.proofs.lemmas.Bool.Decides.{nat_tests}
use Rattle.std.proofs.lemmas.Int.{ints}
use Rattle.morty_base.specs.declared.names.Key.{Key}
use Rattle.morty_base.specs.Names.{same_key}
use Rattle.txn_lang.specs.Keys.{Entry, entry, first_of, found, held, after_writes, HoldTheSame}
use Rattle.txn_lang.proofs.SameMaps.{after_writes_same}
use Rattle.serial_runs.specs.Map.{entries_of}

-- the derived order of keys
abbrev pub key_cmp : Key → Key → Ordering
key_cmp k l = ordering_then (nat_cmp k.table l.table) (int_cmp k.index l.index)

-- keys are equal in the order where they are the same
equal_is_same : (k l : Key) → is_eq (key_cmp k l) ≡ same_key l k
unfolding same_key
equal_is_same k l = grind (arith, nat_tests, ints)

same_is_equal : (k l : Key) → is_eq (key_cmp k l) ≡ same_key k l
unfolding same_key
same_is_equal k l = grind (arith, nat_tests, ints)

first_is : (b : Bool) (x : ℤ) (rest : Option ℤ) → cond b (Some x) rest ≡ first_of b x rest
first_is true x rest = refl
first_is false x rest = refl

pub lookup_is_found : (pairs : List (Key × ℤ)) (k : Key) → lookup (is_at (key_cmp k)) pairs ≡ found (entries_of pairs) k
lookup_is_found [] k = refl
lookup_is_found (p ∷ ps) k =
    ap (λ b. cond b (Some p.1) (lookup (is_at (key_cmp k)) ps)) (equal_is_same k p.0)
    ∙ first_is (same_key p.0 k) p.1 (lookup (is_at (key_cmp k)) ps)
    ∙ ap (first_of (same_key p.0 k) p.1) (lookup_is_found ps k)

-- a key was given a value, and the other keys kept theirs
pub inserted : (old new : List (Key × ℤ)) (cells : List Entry) (key : Key) (stored x : ℤ) → entries_of old ≡ cells → stored ≡ x →
    ((q : Key) → lookup (is_at (key_cmp q)) new ≡ cond (is_at (key_cmp key) q) (Some stored) (lookup (is_at (key_cmp q)) old)) →
    HoldTheSame (entries_of new) (entry key x ∷ cells)
inserted old new cells key stored x view same updated = record {
  each = λ k.
      let before = lookup (is_at (key_cmp k)) old in
      ap (λ o. unwrap_or o (pos 0))
      (sym (lookup_is_found new k)
      ∙ updated k
      ∙ ap (λ b. cond b (Some stored) before) (same_is_equal key k)
      ∙ first_is (same_key key k) stored before
      ∙ ap (λ y. first_of (same_key key k) y before) same
      ∙ ap (first_of (same_key key k) x) (lookup_is_found old k ∙ ap (λ es. found es k) view));
}

-- one more of the writes was made
pub one_written : (writes : List Entry) (i : ℕ) (w : Entry) (cells next first : List Entry) → i < length writes → w ≡ get_or writes i w →
    HoldTheSame next (w ∷ cells) → HoldTheSame (after_writes (drop i writes) cells) first → HoldTheSame (after_writes (drop (i + 1) writes) next) first
one_written writes i w cells next first within is made so_far =
    let rest = drop (i + 1) writes in
    let here : drop i writes ≡ w ∷ rest = drop_more writes i w within ∙ ap (λ x. x ∷ rest) (sym is) in
    let grown = after_writes_same rest next (w ∷ cells) made in
    record { each = λ k. grown.each k ∙ ap (λ ws. held (after_writes ws cells) k) (sym here) ∙ so_far.each k }
