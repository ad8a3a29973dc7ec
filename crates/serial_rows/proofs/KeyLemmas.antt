-- The keys that a map names, with those of one more entry.
use Rattle.std.proofs.Common.{◌≡◌, ℕ, zero, suc, ◌+◌, ◌<◌, Bool, true, false, cond, List, []}
use Rattle.std.proofs.Common.{◌∷◌, length, take, get_or, Option, is_some, refl, sym, ◌∙◌, ap, add-one, ℤ, arith}
use Rattle.std.specs.BTreeMap.{is_at}
use Rattle.std.specs.BTreeSet.{BTreeSet, contains}
use Rattle.std.proofs.lemmas.Bool.Decides.{nat_tests}
use Rattle.std.proofs.lemmas.Int.{ints}
use Rattle.morty_base.specs.declared.names.Key.{Key}
use Rattle.morty_base.specs.Names.{same_key}
use Rattle.txn_lang.specs.Keys.{Entry, first_of, found, after_writes}
use Rattle.serial_rows.specs.Values.{key_cmp}
use Rattle.serial_rows.specs.Keys.{AreKeys}

-- keys are equal in the order where they are the same
pub is_key : (k l : Key) → is_at (key_cmp k) l ≡ same_key k l
unfolding same_key
is_key k l = grind (arith, nat_tests, ints)

some_first : (b : Bool) (x : ℤ) (rest : Option ℤ) → cond b true (is_some rest) ≡ is_some (first_of b x rest)
some_first true x rest = refl
some_first false x rest = refl

pub one_more_key : (m : List Entry) (e : Entry) (key : Key) (old new : BTreeSet Key) → key ≡ e.key → AreKeys m old →
    ((q : Key) → contains key_cmp new q ≡ cond (is_at (key_cmp key) q) true (contains key_cmp old q)) → AreKeys (e ∷ m) new
one_more_key m e key old new same are updated = record {
  each = λ k.
      updated k
      ∙ ap (λ x. cond (is_at (key_cmp x) k) true (contains key_cmp old k)) same
      ∙ ap (λ b. cond b true (contains key_cmp old k)) (is_key e.key k)
      ∙ ap (cond (same_key e.key k) true) (are.each k)
      ∙ some_first (same_key e.key k) e.value (found m k);
}

more_written : (ws m : List Entry) (i : ℕ) (w : Entry) → i < length ws → w ≡ get_or ws i w → after_writes (take (suc i) ws) m ≡ w ∷ after_writes (take i ws) m
more_written [] m i w within is = absurd (omega arith)
more_written (v ∷ ws) m zero w within is = ap (λ x. x ∷ m) (sym is)
more_written (v ∷ ws) m (suc i) w within is = more_written ws (v ∷ m) i w (omega arith) is

-- one more of the writes was made
pub one_more_written : (ws m : List Entry) (i : ℕ) (w : Entry) → i < length ws → w ≡ get_or ws i w →
    w ∷ after_writes (take i ws) m ≡ after_writes (take (i + 1) ws) m
one_more_written ws m i w within is = rw add-one (sym (more_written ws m i w within is))
