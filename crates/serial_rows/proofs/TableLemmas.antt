-- A table with one more entry, and its values.
use Rattle.std.proofs.Common.{◌≡◌, ◌||◌, List, [], ◌∷◌, map, refl, sym, ◌∙◌, ap, subst}
use Rattle.std.specs.List.{All, list_any, slice_index_or}
use Rattle.std.specs.BTreeMap.{is_at}
use Rattle.std.specs.BTreeSet.{BTreeSet, IsOrdered}
use Rattle.std.specs.List.Sorted.{IsStrictlySortedBy}
use Rattle.std.proofs.lemmas.List.Elements.{All-map}
use Rattle.morty_base.specs.declared.names.Key.{Key}
use Rattle.morty_base.specs.Names.{same_key}
use Rattle.txn_lang.specs.Keys.{Entry, held, HoldTheSame}
use Rattle.report.specs.declared.rows.ValueRow.{ValueRow}
use Rattle.serial_rows.specs.Values.{key_cmp, keys_of, AreValues}
use Rattle.serial_rows.specs.Keys.{AreKeys}
use Rattle.serial_rows.proofs.KeyLemmas.{is_key}

pub same_through : (a b c : List Entry) → HoldTheSame a b → HoldTheSame b c → HoldTheSame a c
same_through a b c first then = record { each = λ k. first.each k ∙ then.each k }

-- a key with what a map holds there
abbrev pub value_row : List Entry → Key → ValueRow
value_row m k = record { key = k; value = held m k }

keys_back : (m : List Entry) (ks : List Key) → keys_of (map (value_row m) ks) ≡ ks
keys_back m [] = refl
keys_back m (k ∷ ks) = ap (λ l. k ∷ l) (keys_back m ks)

any_same : (k : Key) (ks : List Key) → list_any (same_key k) ks ≡ list_any (is_at (key_cmp k)) ks
any_same k [] = refl
any_same k (l ∷ ks) = λ i. sym (is_key k l) i || any_same k ks i

-- the rows of the keys that a map names are its values
pub are_values : (m cells : List Entry) (keys : BTreeSet Key) (rows : List ValueRow) → HoldTheSame cells m → AreKeys m keys → IsOrdered key_cmp keys →
    rows ≡ map (value_row cells) keys.keys → AreValues m rows
are_values m cells keys rows same are ordered is =
    let names : keys_of rows ≡ keys.keys = ap keys_of is ∙ keys_back cells keys.keys in
    record {
      rising = subst (λ (ks : List Key). IsStrictlySortedBy key_cmp ks) (sym names) ordered;
      named = λ k. ap (list_any (same_key k)) names ∙ any_same k keys.keys ∙ are.each k;
      held =
          subst (λ (l : List ValueRow). All (λ r. r.value ≡ held m r.key) l) (sym is)
          (All-map (λ (r : ValueRow). r.value ≡ held m r.key) (value_row cells) keys.keys (λ i d lt. same.each (slice_index_or keys.keys i d)));
    }
