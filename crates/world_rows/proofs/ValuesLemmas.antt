-- First values and writes, in a list and in a table, and of which keys there is a value.
use Rattle.std.proofs.Common.{◌≡◌, ◌≢◌, ◌⊎◌, ℕ, ◌+◌, ◌<◌, length, take, get_or, inl, inr, Bool, true, false, cond, List, [], ◌∷◌, ◌++◌, Option, Some, None, refl, ap, sym, subst, ◌∙◌, ◌||◌, arith}
use Rattle.std.specs.Prelude.{ℤ, map, flat_map}
use Rattle.std.specs.Bool.{then_some}
use Rattle.std.specs.List.{list_any}
use Rattle.std.specs.Option.{option_or, is_some}
use Rattle.std.specs.Ordering.{is_eq}
use Rattle.std.proofs.lemmas.Bool.Decides.{nat_tests}
use Rattle.std.proofs.lemmas.Int.{ints}
use Rattle.std.proofs.lemmas.List.{take_more, map-append}
use Rattle.std.proofs.lemmas.List.Folds.{list_any-append}
use Rattle.morty_base.proofs.Orders.{same_key_tells}
use Rattle.protocol.specs.Words.{Key, Write, same_key}
use Rattle.protocol.specs.declared.First2.{First2}
use Rattle.protocol.specs.World.Committed.{CommittedExec}
use Rattle.protocol_plans.specs.Scripted.{Scripted}
use Rattle.protocol_plans.specs.SerialOutcome.{first_map, entry_written, map_of}
use Rattle.txn_lang.specs.Keys.{Entry, first_of, found, after_writes}
use Rattle.world_rows.specs.Rows.{keys_of}
use Rattle.world_rows.specs.Orders.{key_cmp}
use Rattle.world_rows.specs.Values.{value_at, HasValues}
use Rattle.world_rows.specs.declared.values.ValueTable.{ValueTable}
use Rattle.world_rows.proofs.OrdersLemmas.{key_eq}

-- ---- one more first value

first_more : (fs : List First2) (f : First2) (k : Key) →
    found (first_map (fs ++ f ∷ [])) k ≡ option_or (found (first_map fs) k) (then_some (same_key f.key k) f.value)
first_more [] f k = go (same_key f.key k)
  where
    go : (t : Bool) → first_of t f.value None ≡ option_or None (then_some t f.value)
    go true = refl
    go false = refl
first_more (g ∷ fs) f k = go (same_key g.key k) (first_more fs f k)
  where
    go : (t : Bool) → found (first_map (fs ++ f ∷ [])) k ≡ option_or (found (first_map fs) k) (then_some (same_key f.key k) f.value) →
        first_of t g.value (found (first_map (fs ++ f ∷ [])) k) ≡ option_or (first_of t g.value (found (first_map fs) k)) (then_some (same_key f.key k) f.value)
    go true e = refl
    go false e = e

or_none : (o : Option ℤ) → o ≡ option_or o None
or_none None = refl
or_none (Some v) = refl

or_some : (o p : Option ℤ) → is_some o ≡ true → o ≡ option_or o p
or_some None p e = absurd cc
or_some (Some v) p e = refl

none_or : (o p : Option ℤ) → is_some o ≡ false → p ≡ option_or o p
none_or None p e = refl
none_or (Some v) p e = absurd cc

-- a key that has a value keeps it
pub first_kept : (fs : List First2) (f : First2) (t : ValueTable) → is_some (value_at t f.key) ≡ true → HasValues (first_map fs) t →
    HasValues (first_map (fs ++ f ∷ [])) t
first_kept fs f t e h = record { each = λ k. h.each k ∙ (go k (same_key f.key k) (same_key_tells f.key k) ∙ sym (first_more fs f k)) }
  where
    go : (k : Key) (b : Bool) → ((b ≡ true) × (f.key ≡ k)) ⊎ ((b ≡ false) × (f.key ≢ k)) →
        found (first_map fs) k ≡ option_or (found (first_map fs) k) (then_some b f.value)
    go k true (inl q) = or_some (found (first_map fs) k) (Some f.value) (ap is_some (sym (h.each k)) ∙ subst (λ (l : Key). is_some (value_at t l) ≡ true) q.1 e)
    go k true (inr q) = absurd (let z : true ≡ false = q.0 in cc)
    go k false q = or_none (found (first_map fs) k)

pub first_new : (fs : List First2) (f : First2) (t t' : ValueTable) → is_some (value_at t f.key) ≡ false →
    ((k : Key) → value_at t' k ≡ cond (is_eq (key_cmp f.key k)) (Some f.value) (value_at t k)) → HasValues (first_map fs) t →
    HasValues (first_map (fs ++ f ∷ [])) t'
first_new fs f t t' e u h = record {
  each = λ k. u k
      ∙ (ap (λ b. cond b (Some f.value) (value_at t k)) (key_eq f.key k)
      ∙ (ap (λ o. cond (same_key f.key k) (Some f.value) o) (h.each k)
      ∙ (go k (same_key f.key k) (same_key_tells f.key k) ∙ sym (first_more fs f k))));
}
  where
    go : (k : Key) (b : Bool) → ((b ≡ true) × (f.key ≡ k)) ⊎ ((b ≡ false) × (f.key ≢ k)) →
        cond b (Some f.value) (found (first_map fs) k) ≡ option_or (found (first_map fs) k) (then_some b f.value)
    go k true (inl q) = none_or (found (first_map fs) k) (Some f.value)
        (ap is_some (sym (h.each k)) ∙ subst (λ (l : Key). is_some (value_at t l) ≡ false) q.1 e)
    go k true (inr q) = absurd (let z : true ≡ false = q.0 in cc)
    go k false q = or_none (found (first_map fs) k)

-- ---- one more write

pub written : (m : List Entry) (w : Write) (t t' : ValueTable) →
    ((k : Key) → value_at t' k ≡ cond (is_eq (key_cmp w.key k)) (Some w.value) (value_at t k)) → HasValues m t → HasValues (entry_written w ∷ m) t'
written m w t t' u h = record {
  each = λ k. u k
      ∙ (ap (λ b. cond b (Some w.value) (value_at t k)) (key_eq w.key k)
      ∙ (ap (λ o. cond (same_key w.key k) (Some w.value) o) (h.each k) ∙ go (same_key w.key k) (found m k)));
}
  where
    go : (b : Bool) (o : Option ℤ) → cond b (Some w.value) o ≡ first_of b w.value o
    go true o = refl
    go false o = refl

pub after_more : (ws : List Entry) (w : Entry) (m : List Entry) → after_writes (ws ++ w ∷ []) m ≡ w ∷ after_writes ws m
after_more [] w m = refl
after_more (v ∷ ws) w m = after_more ws w (v ∷ m)

pub writes_more : (ws : List Write) (i : ℕ) (d : Write) (m : List Entry) → i < length ws →
    after_writes (map entry_written (take (i + 1) ws)) m ≡ entry_written (get_or ws i d) ∷ after_writes (map entry_written (take i ws)) m
writes_more ws i d m h =
    ap (λ (l : List Write). after_writes (map entry_written l) m) (take_more ws i d h)
    ∙ (ap (λ (l : List Entry). after_writes l m) (map-append entry_written (take i ws) (get_or ws i d ∷ []))
    ∙ after_more (map entry_written (take i ws)) (entry_written (get_or ws i d)) m)

-- the writes of one more execution
pub map_more : (m : List Entry) (cs : List CommittedExec) (c : CommittedExec) →
    map_of m (cs ++ c ∷ []) ≡ after_writes (map entry_written c.content.writes) (map_of m cs)
map_more m [] c = refl
map_more m (d ∷ cs) c = map_more (after_writes (map entry_written d.content.writes) m) cs c

-- ---- of which keys there is a value

turned : (k l : Key) → same_key k l ≡ same_key l k
unfolding same_key
turned k l = grind (arith, nat_tests, ints)

is_first : (fs : List First2) (k : Key) → is_some (found (first_map fs) k) ≡ list_any (same_key k) (map (λ f. f.key) fs)
is_first [] k = refl
is_first (f ∷ fs) k = ap (λ b. is_some (first_of b f.value (found (first_map fs) k))) (turned f.key k) ∙ go (same_key k f.key) (is_first fs k)
  where
    go : (b : Bool) → is_some (found (first_map fs) k) ≡ list_any (same_key k) (map (λ (g : First2). g.key) fs) →
        is_some (first_of b f.value (found (first_map fs) k)) ≡ (b || list_any (same_key k) (map (λ (g : First2). g.key) fs))
    go true e = refl
    go false e = e

is_written : (ws : List Write) (m : List Entry) (k : Key) →
    is_some (found (after_writes (map entry_written ws) m) k) ≡ (is_some (found m k) || list_any (same_key k) (map (λ w. w.key) ws))
is_written [] m k = go (is_some (found m k))
  where
    go : (b : Bool) → b ≡ (b || false)
    go true = refl
    go false = refl
is_written (w ∷ ws) m k =
    is_written ws (entry_written w ∷ m) k
    ∙ (ap (λ b. is_some (first_of b w.value (found m k)) || list_any (same_key k) (map (λ (v : Write). v.key) ws)) (turned w.key k)
    ∙ go (same_key k w.key) (found m k) (list_any (same_key k) (map (λ (v : Write). v.key) ws)))
  where
    go : (b : Bool) (o : Option ℤ) (t : Bool) → (is_some (first_of b w.value o) || t) ≡ (is_some o || (b || t))
    go true None t = refl
    go true (Some v) t = refl
    go false o t = refl

-- the keys of their writes
abbrev pub keys_in : List CommittedExec → List Key
keys_in cs = flat_map (λ c. map (λ w. w.key) c.content.writes) cs

has_value : (cs : List CommittedExec) (m : List Entry) (k : Key) →
    is_some (found (map_of m cs) k) ≡ (is_some (found m k) || list_any (same_key k) (keys_in cs))
has_value [] m k = go (is_some (found m k))
  where
    go : (b : Bool) → b ≡ (b || false)
    go true = refl
    go false = refl
has_value (c ∷ cs) m k =
    has_value cs (after_writes (map entry_written c.content.writes) m) k
    ∙ (ap (λ b. b || list_any (same_key k) (keys_in cs)) (is_written c.content.writes m k)
    ∙ (go (is_some (found m k)) (list_any (same_key k) (map (λ (w : Write). w.key) c.content.writes)) (list_any (same_key k) (keys_in cs))
    ∙ ap (λ b. is_some (found m k) || b) (sym (list_any-append (same_key k) (map (λ (w : Write). w.key) c.content.writes) (keys_in cs)))))
  where
    go : (b t u : Bool) → ((b || t) || u) ≡ (b || (t || u))
    go true t u = refl
    go false t u = refl

-- a key has a value just where it has a first one or a committed write
pub is_valued : (s : Scripted) (cs : List CommittedExec) (k : Key) → is_some (found (map_of (first_map s.firsts) cs) k) ≡ list_any (same_key k) (keys_of s cs)
is_valued s cs k =
    has_value cs (first_map s.firsts) k
    ∙ (ap (λ b. b || list_any (same_key k) (keys_in cs)) (is_first s.firsts k)
    ∙ sym (list_any-append (same_key k) (map (λ (f : First2). f.key) s.firsts) (keys_in cs)))
