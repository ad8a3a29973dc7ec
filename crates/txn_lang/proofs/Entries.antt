-- What a list of entries shows of a key, where it is put together.
use Rattle.std.proofs.Common.{◌≡◌, Bool, true, false, List, [], ◌∷◌, ◌++◌, reverse, Option, Some, refl, ap, sym, ◌∙◌, ℤ}
use Rattle.std.specs.Option.{option_or}
use Rattle.std.proofs.lemmas.List.{reverse-append}
use Rattle.morty_base.specs.declared.names.Key.{Key}
use Rattle.morty_base.specs.Names.{same_key}
use Rattle.txn_lang.specs.Keys.{Entry, first_of, found}

first_or : (b : Bool) (x : ℤ) (o rest : Option ℤ) → option_or (first_of b x o) rest ≡ first_of b x (option_or o rest)
first_or true x o rest = refl
first_or false x o rest = refl

-- the entries in front show their keys, those behind them all others
pub found-append : (xs ys : List Entry) (k : Key) → found (xs ++ ys) k ≡ option_or (found xs k) (found ys k)
found-append [] ys k = refl
found-append (x ∷ xs) ys k =
    ap (first_of (same_key x.key k) x.value) (found-append xs ys k) ∙ sym (first_or (same_key x.key k) x.value (found xs k) (found ys k))

-- the first entry shows its key
pub found_first : (all rest : List Entry) (first : Entry) (k : Key) → all ≡ first ∷ rest → same_key first.key k ≡ true → Some first.value ≡ found all k
found_first all rest first k split same = sym (ap (λ es. found es k) split ∙ ap (λ b. first_of b first.value (found rest k)) same)

-- and of another key the rest shows what all do
pub found_later : (all rest : List Entry) (first : Entry) (k : Key) → all ≡ first ∷ rest → same_key first.key k ≡ false → found rest k ≡ found all k
found_later all rest first k split other = sym (ap (λ es. found es k) split ∙ ap (λ b. first_of b first.value (found rest k)) other)

found_last : (all front : List Entry) (last : Entry) (k : Key) → all ≡ front ++ last ∷ [] →
    found (reverse all) k ≡ first_of (same_key last.key k) last.value (found (reverse front) k)
found_last all front last k split = ap (λ es. found (reverse es) k) split ∙ ap (λ es. found es k) (reverse-append front (last ∷ []))

-- with the newest last: the last entry shows its key
pub found_newest : (all front : List Entry) (last : Entry) (k : Key) → all ≡ front ++ last ∷ [] → same_key last.key k ≡ true →
    Some last.value ≡ found (reverse all) k
found_newest all front last k split same = sym (found_last all front last k split ∙ ap (λ b. first_of b last.value (found (reverse front) k)) same)

-- and of another key those before it show what all do
pub found_older : (all front : List Entry) (last : Entry) (k : Key) → all ≡ front ++ last ∷ [] → same_key last.key k ≡ false →
    found (reverse front) k ≡ found (reverse all) k
found_older all front last k split other = sym (found_last all front last k split ∙ ap (λ b. first_of b last.value (found (reverse front) k)) other)
