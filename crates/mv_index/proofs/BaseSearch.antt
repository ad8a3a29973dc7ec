-- The entry of a key in a base that rises, and conflicts with a base, read by read.
use Rattle.std.proofs.Common.{◌≡◌, inl, inr, suc, Bool, true, false, cond, List, [], ◌∷◌, refl, ap, sym, subst, ◌∙◌, Option, Some, None, ◌&&◌, ◌||◌}
use Rattle.std.specs.Prelude.{filter, map, option_map}
use Rattle.std.specs.List.{list_any, slice_get}
use Rattle.std.specs.Option.{option_to_list}
use Rattle.std.specs.Bool.{then_some}
use Rattle.morty_base.proofs.Orders.{same_key_tells, key_before_total}
use Rattle.protocol.specs.Words.{Version, Key, Content, BaseEntry, Read, before, key_before, same_key}
use Rattle.protocol.specs.Lists.{IsIn}
use Rattle.protocol.specs.Replica.Held.{best_below}
use Rattle.protocol.specs.Replica.Votes.{conflicts_with_base}
use Rattle.protocol.specs.declared.Held.{Held}
use Rattle.mv_index.specs.BaseEntries.{EntriesRise, entry_with, held_of, misses_entry}
use Rattle.mv_index.specs.ReaderList.{prefix}
use Rattle.mv_index.specs.WriteIndex.{best_with}
use Rattle.mv_index.proofs.KeyOrder.{not_same, not_same_up, above}

none_after : (k : Key) (bs : List BaseEntry) → ((b : BaseEntry) → IsIn b bs → key_before k b.key ≡ true) → filter (λ b. same_key k b.key) bs ≡ []
none_after k [] h = refl
none_after k (b ∷ bs) h =
    ap (λ t. cond t (b ∷ filter (λ c. same_key k c.key) bs) (filter (λ c. same_key k c.key) bs)) (not_same_up k b.key (h b (inl refl)))
    ∙ none_after k bs (λ c i. h c (inr i))

-- a search finds the one entry of a key
pub entry_found : (k : Key) (bs : List BaseEntry) → EntriesRise bs →
    filter (λ b. same_key k b.key) bs ≡ option_to_list (entry_with k (slice_get bs (prefix (λ b. key_before b.key k) bs)))
entry_found k [] r = refl
entry_found k (b ∷ bs) r = go (key_before b.key k) refl (entry_found k bs r.1)
  where
    go : (t : Bool) → key_before b.key k ≡ t → filter (λ c. same_key k c.key) bs
        ≡ option_to_list (entry_with k (slice_get bs (prefix (λ c. key_before c.key k) bs))) →
        cond (same_key k b.key) (b ∷ filter (λ c. same_key k c.key) bs) (filter (λ c. same_key k c.key) bs)
        ≡ option_to_list (entry_with k (slice_get (b ∷ bs) (cond t (suc (prefix (λ c. key_before c.key k) bs)) 0)))
    go true e more = ap (λ t. cond t (b ∷ filter (λ c. same_key k c.key) bs) (filter (λ c. same_key k c.key) bs)) (not_same k b.key e) ∙ more
    go false e more = elim (same_key_tells k b.key) [
      | inl q ↦
          ap (λ t. cond t (b ∷ filter (λ c. same_key k c.key) bs) (filter (λ c. same_key k c.key) bs)) q.0
          ∙ (ap (λ l. b ∷ l) (none_after k bs (λ c i. subst (λ l. key_before l c.key ≡ true) (sym q.1) (r.0 c i)))
          ∙ ap (λ t. option_to_list (then_some t b)) (sym q.0))
      | inr q ↦
          ap (λ t. cond t (b ∷ filter (λ c. same_key k c.key) bs) (filter (λ c. same_key k c.key) bs)) q.0
          ∙ (none_after k bs (λ c i. key_before_total.transitive k b.key c.key (above k b.key e q.0) (r.0 c i))
          ∙ ap (λ t. option_to_list (then_some t b)) (sym q.0))
    ]

-- ---- what the entry is asked for

any_filter : {A : Type 0} (p q : A → Bool) (xs : List A) → list_any (λ x. p x && q x) xs ≡ list_any q (filter p xs)
any_filter p q [] = refl
any_filter p q (x ∷ xs) = go (p x) (any_filter p q xs)
  where
    go : (t : Bool) → list_any (λ x. p x && q x) xs ≡ list_any q (filter p xs) →
        ((t && q x) || list_any (λ x. p x && q x) xs) ≡ list_any q (cond t (x ∷ filter p xs) (filter p xs))
    go true e = ap (λ b. q x || b) e
    go false e = e

-- a test of the entries of a key is one of the entry that is found
pub any_found : {A : Type 0} (p q : A → Bool) (xs : List A) (o : Option A) → filter p xs ≡ option_to_list o →
    list_any (λ x. p x && q x) xs ≡ list_any q (option_to_list o)
any_found p q xs o e = any_filter p q xs ∙ ap (list_any q) e

pub best_found : (v : Version) (first : Held) (o : Option BaseEntry) → best_with v first (option_map held_of o)
    ≡ best_below v first (map held_of (option_to_list o))
best_found v first None = refl
best_found v first (Some b) = refl

or_none : (a : Bool) → a ≡ (a || false)
or_none true = refl
or_none false = refl

pub any_one : {A : Type 0} (q : A → Bool) (a : A) → q a ≡ list_any q (a ∷ [])
any_one q a = or_none (q a)

-- ---- conflicts

any_or : {A : Type 0} (p q : A → Bool) (xs : List A) → list_any (λ x. p x || q x) xs ≡ (list_any p xs || list_any q xs)
any_or p q [] = refl
any_or p q (x ∷ xs) = ap (λ t. (p x || q x) || t) (any_or p q xs) ∙ by (p x) (q x) (list_any p xs) (list_any q xs)
  where
    by : (a b c d : Bool) → ((a || b) || (c || d)) ≡ ((a || c) || (b || d))
    by true b c d = refl
    by false true true d = refl
    by false true false d = refl
    by false false c d = refl

any_never : {A : Type 0} (xs : List A) → list_any (λ x. false) xs ≡ false
any_never [] = refl
any_never (x ∷ xs) = any_never xs

-- the reads that miss one entry
reads_miss : (v : Version) (b : BaseEntry) (rs : List Read) → list_any (λ r. misses_entry v r b) rs
    ≡ (before b.wid.ver v && list_any (λ r. before r.wid.ver b.wid.ver && (same_key r.key b.key || false)) rs)
reads_miss v b [] = none (before b.wid.ver v)
  where
    none : (a : Bool) → false ≡ (a && false)
    none true = refl
    none false = refl
reads_miss v b (r ∷ rs) = step (same_key r.key b.key) (before b.wid.ver v) (before r.wid.ver b.wid.ver) _ _ (reads_miss v b rs)
  where
    step : (s a t x y : Bool) → x ≡ (a && y) → ((s && (a && t)) || x) ≡ (a && ((t && (s || false)) || y))
    step true true true x y e = refl
    step true true false x y e = e
    step true false t x y e = e
    step false true true x y e = e
    step false true false x y e = e
    step false false t x y e = e

-- a base is in conflict with a content where one of its reads missed an entry
pub base_conflicts : (v : Version) (c : Content) (bs : List BaseEntry) → list_any (λ r. list_any (misses_entry v r) bs) c.reads
    ≡ list_any (conflicts_with_base v c) bs
unfolding conflicts_with_base
base_conflicts v c [] = any_never c.reads
base_conflicts v c (b ∷ bs) =
    any_or (λ r. misses_entry v r b) (λ r. list_any (misses_entry v r) bs) c.reads
    ∙ (ap (λ t. t || list_any (λ r. list_any (misses_entry v r) bs) c.reads) (reads_miss v b c.reads)
    ∙ ap (λ t. (before b.wid.ver v && list_any (λ r. before r.wid.ver b.wid.ver && (same_key r.key b.key || false)) c.reads) || t) (base_conflicts v c bs))
