-- The Notes that are due, key by key.
use Rattle.std.proofs.Common.{◌≡◌, ◌≢◌, ◌⊎◌, inl, inr, ℕ, ◌+◌, ◌<◌, Bool, true, false, cond, List, [], ◌∷◌, ◌++◌, ◌||◌, ◌&&◌, map, length, get_or, take, Option, Some, ap, sym, subst, refl, ◌∙◌, append_assoc}
use Rattle.std.specs.Prelude.{not, filter}
use Rattle.std.specs.List.{list_any, flat_map}
use Rattle.std.proofs.lemmas.List.{take_more, flat_map_more, map-append}
use Rattle.std.specs.Bool.{then_some}
use Rattle.morty_base.proofs.Orders.{same_key_tells, key_before_total}
use Rattle.protocol.specs.Words.{Version, Key, Client, Wid, before, key_before, same_key, same_wid, Envelope, Note}
use Rattle.protocol.specs.declared.First2.{First2}
use Rattle.protocol.specs.declared.Held.{Held}
use Rattle.protocol.specs.Lists.{IsIn, one_when}
use Rattle.protocol.specs.Replica.Taken.{Handled, dropped}
use Rattle.protocol.specs.Replica.Held.{held, latest}
use Rattle.protocol.specs.Replica.Readers.{Reader as ReaderOf, readers, same_held, envelope_from, note_for, due}
use Rattle.protocol.proofs.ListsLemmas.{map_in}
use Rattle.mv_index.specs.declared.reader_list.Reader.{Reader}
use Rattle.mv_index.specs.ReaderList.{reader_of, IsInOrder}
use Rattle.mv_index.proofs.Keyed.{key_up_to, reads_from}
use Rattle.mv_index.proofs.Same.{due_now, no_note}
use Rattle.mv_index.proofs.Values.{filter_in}
use Rattle.mv_index.specs.KeyList.{AreRising}
use Rattle.mv_index.specs.Records.{StandsFor, WereTold, listed, low_of}
use Rattle.mv_index.specs.declared.records.Records.{Records}
use Rattle.mv_index.proofs.Rising.{in_order}
use Rattle.mv_index.proofs.Told.{at_in}
use Rattle.miss_notice.specs.Notes.{notes_by, notes_at}

-- ---- one reader

pub note_none : (firsts : List First2) (h h' : Handled) (number : ℕ) (p : ReaderOf) (told seen : Held) (t : Bool) → told ≡ latest firsts h p.key p.ver →
    seen ≡ latest firsts h' p.key p.ver → t ≡ same_held told seen → t ≡ true → [] ≡ note_for firsts h h' number p
unfolding note_for
note_none firsts h h' number p told seen t a b e f =
    sym (plain (before (dropped h') p.ver) (same_held (latest firsts h p.key p.ver) (latest firsts h' p.key p.ver)) _
    (ap (λ o. same_held o (latest firsts h' p.key p.ver)) (sym a) ∙ (ap (same_held told) (sym b) ∙ (sym e ∙ f))))
  where
    plain : (b t : Bool) (m : Envelope) → t ≡ true → one_when (b && not t) m ≡ []
    plain true true m e = refl
    plain true false m e = absurd cc
    plain false t m e = refl

pub note_some : (firsts : List First2) (h h' : Handled) (number : ℕ) (p : ReaderOf) (told seen : Held) (t : Bool) (lost : Option Wid) →
    told ≡ latest firsts h p.key p.ver → seen ≡ latest firsts h' p.key p.ver → t ≡ same_held told seen → t ≡ false → before (dropped h') p.ver ≡ true →
    lost ≡ then_some (not (list_any (λ (a : Held). same_wid told.wid a.wid) (held firsts h' p.key))) told.wid →
    envelope_from number (Client p.ver.client) (Note p.ver p.key seen.wid seen.value seen.sure lost) ∷ [] ≡ note_for firsts h h' number p
unfolding note_for
note_some firsts h h' number p told seen t lost a b e f above g =
    ap (λ o. envelope_from number (Client p.ver.client) (Note p.ver p.key seen.wid seen.value seen.sure o) ∷ []) (g
    ∙ ap (λ (o : Held). then_some (not (list_any (λ (x : Held). same_wid o.wid x.wid) (held firsts h' p.key))) o.wid) a)
    ∙ (ap (λ (o : Held). envelope_from number (Client p.ver.client)
    (Note p.ver p.key o.wid o.value o.sure (then_some (not
    (list_any (λ (x : Held). same_wid (latest firsts h p.key p.ver).wid x.wid) (held firsts h' p.key))) (latest firsts h p.key p.ver).wid)) ∷ []) b
    ∙ sym (plain (before (dropped h') p.ver) (same_held (latest firsts h p.key p.ver) (latest firsts h' p.key p.ver)) _ above
    (ap (λ o. same_held o (latest firsts h' p.key p.ver)) (sym a) ∙ (ap (same_held told) (sym b) ∙ (sym e ∙ f)))))
  where
    plain : (b t : Bool) (m : Envelope) → b ≡ true → t ≡ false → one_when (b && not t) m ≡ m ∷ []
    plain true true m d e = absurd cc
    plain true false m d e = refl
    plain false t m d e = absurd cc

-- ---- a list of readers or of keys that is gone through

pub notes_next : {A B C : Type 0} (g : A → B) (f : C → List B) (xs ys : List C) (i : ℕ) (d : C) (cur new note : List A) (start : List B) → xs ≡ ys →
    i < length xs → map g cur ≡ start ++ flat_map f (take i ys) → map g new ≡ map g cur ++ map g note → map g note ≡ f (get_or xs i d) →
    map g new ≡ start ++ flat_map f (take (i + 1) ys)
notes_next g f xs ys i d cur new note start e h ce ne oe =
    ne ∙ (ap (λ l. l ++ map g note) ce ∙ (ap (λ l. (start ++ flat_map f (take i ys)) ++ l) oe
    ∙ (flat_map_more f start (take i ys) (get_or xs i d)
    ∙ ap (λ l. start ++ flat_map f l) (subst (λ zs. take i zs ++ get_or xs i d ∷ [] ≡ take (i + 1) zs) e (sym (take_more xs i d h))))))

pub pushed : {A B : Type 0} (g : A → B) (cur new note : List A) → new ≡ cur ++ note → map g new ≡ map g cur ++ map g note
pushed g cur new note e = ap (map g) e ∙ map-append g cur note

-- a reader reads above the dropped version
pub reads_above : (firsts : List First2) (h : Handled) (r : Records) (p : Reader) → StandsFor firsts h r → IsIn p r.readers.readers.items →
    before (dropped h) p.ver ≡ true
reads_above firsts h r p s i = (filter_in (λ (q : ReaderOf). before (dropped h) q.ver) (readers h) (reader_of p)
    (subst (λ l. IsIn (reader_of p) l) s.readers_are (map_in reader_of r.readers.readers.items p i))).1

-- one of the readers of a key is a reader
pub own_in : (p : Reader → Bool) (rs xs : List Reader) (i : ℕ) (d : Reader) → xs ≡ filter p rs → i < length xs → IsIn (get_or xs i d) rs
own_in p rs xs i d e h = (filter_in p rs (get_or xs i d) (subst (λ l. IsIn (get_or xs i d) l) e (at_in xs i d h))).0

-- who has no Note may be left out
left_out : {B : Type 0} (f : Reader → List B) (k : Key) (v : Version) (rs : List Reader) → ((p : Reader) → IsIn p rs → before p.ver v ≡ true → f p ≡ []) →
    flat_map f (filter (reads_from k v) rs) ≡ flat_map f (filter (λ (p : Reader). same_key k p.key) rs)
left_out f k v [] none = refl
left_out {B} f k v (r ∷ rs) none = go (same_key k r.key) (before r.ver v) refl (left_out f k v rs (λ p i. none p (inr i)))
  where
    go : (a b : Bool) → before r.ver v ≡ b → flat_map f (filter (reads_from k v) rs) ≡ flat_map f (filter (λ (p : Reader). same_key k p.key) rs) →
        flat_map f (cond (a && not b) (r ∷ filter (reads_from k v) rs) (filter (reads_from k v) rs))
        ≡ flat_map f (cond a (r ∷ filter (λ (p : Reader). same_key k p.key) rs) (filter (λ (p : Reader). same_key k p.key) rs))
    go true true e more = more ∙ sym (ap (λ l. l ++ flat_map f (filter (λ (p : Reader). same_key k p.key) rs)) (none r (inl refl) e))
    go true false e more = ap (λ l. f r ++ l) more
    go false b e more = more

some_is : (a b : Held) → Some a ≡ Some b → a ≡ b
some_is a b e = cc

-- readers below what changed are due no Note
pub own_notes : (firsts : List First2) (h h' : Handled) (number : ℕ) (r : Records) (k : Key) → StandsFor firsts h' r → WereTold firsts h r →
    flat_map (notes_by firsts h h' number) (filter (reads_from k (low_of r)) r.readers.readers.items)
    ≡ flat_map (notes_by firsts h h' number) (filter (λ (p : Reader). same_key k p.key) r.readers.readers.items)
own_notes firsts h h' number r k s t = left_out (notes_by firsts h h' number) k (low_of r) r.readers.readers.items (λ p i e.
    no_note firsts h h' number (reader_of p) (some_is (latest firsts h' p.key p.ver) (latest firsts h p.key p.ver) (sym (s.below p i e) ∙ t.each p i)))

-- ---- key by key

flat_map_names : {B : Type 0} (f : ReaderOf → List B) (rs : List Reader) → flat_map (λ r. f (reader_of r)) rs ≡ flat_map f (map reader_of rs)
flat_map_names f [] = refl
flat_map_names f (r ∷ rs) = ap (λ l. f (reader_of r) ++ l) (flat_map_names f rs)

flat_map_same : {A B : Type 0} (f g : A → List B) (xs : List A) → ((a : A) → IsIn a xs → f a ≡ g a) → flat_map f xs ≡ flat_map g xs
flat_map_same f g [] h = refl
flat_map_same f g (x ∷ xs) h = ap (λ l. l ++ flat_map f xs) (h x (inl refl)) ∙ ap (λ l. g x ++ l) (flat_map_same f g xs (λ a i. h a (inr i)))

flat_map_nothing : {A B : Type 0} (xs : List A) → flat_map (λ (a : A). let nothing : List B = [] in nothing) xs ≡ []
flat_map_nothing [] = refl
flat_map_nothing (x ∷ xs) = flat_map_nothing xs

key_self : (k : Key) → same_key k k ≡ true
key_self k = elim (same_key_tells k k) [ inl q ↦ q.0 | inr q ↦ absurd (q.1 refl) ]

other_above : (k l : Key) → key_before k l ≡ true → same_key l k ≡ false
other_above k l e = elim (same_key_tells l k) [
  | inl q ↦ let z : key_before k k ≡ true = subst (λ m. key_before k m ≡ true) q.1 e in
      let y : key_before k k ≡ false = key_before_total.irreflexive k in absurd (cc (z, y))
  | inr q ↦ q.0
]

listed_above : (k : Key) (ks : List Key) → list_any (same_key k) ks ≡ true → (l : Key) × IsIn l ks × (k ≡ l)
listed_above k [] e = absurd cc
listed_above k (l ∷ ks) e = go (same_key k l) (same_key_tells k l) e (listed_above k ks)
  where
    go : (t : Bool) → ((t ≡ true) × (k ≡ l)) ⊎ ((t ≡ false) × (k ≢ l)) → (t || list_any (same_key k) ks) ≡ true →
        (list_any (same_key k) ks ≡ true → (m : Key) × IsIn m ks × (k ≡ m)) → (m : Key) × IsIn m (l ∷ ks) × (k ≡ m)
    go true (inl q) e more = (l, inl refl, q.1)
    go true (inr q) e more = absurd (cc (q.0))
    go false q e more = let m = more e in (m.0, inr m.1, m.2)

-- the notes of one reader stand at its key, before which there are none
moved : {B : Type 0} (k : Key) (here : List B) (f : Key → List B) (ks : List Key) → AreRising ks → ((l : Key) → key_before l k ≡ true → f l ≡ []) →
    list_any (same_key k) ks ≡ true → flat_map (λ l. cond (same_key l k) (here ++ f l) (f l)) ks ≡ here ++ flat_map f ks
moved k here f [] o none e = absurd cc
moved {B} k here f (l ∷ ks) o none e = go (same_key l k) (same_key_tells l k) (moved k here f ks o.1 none)
  where
    go : (t : Bool) → ((t ≡ true) × (l ≡ k)) ⊎ ((t ≡ false) × (l ≢ k)) →
        (list_any (same_key k) ks ≡ true → flat_map (λ l. cond (same_key l k) (here ++ f l) (f l)) ks ≡ here ++ flat_map f ks) →
        cond t (here ++ f l) (f l) ++ flat_map (λ l. cond (same_key l k) (here ++ f l) (f l)) ks ≡ here ++ (f l ++ flat_map f ks)
    go true (inl q) more =
        ap (λ r. (here ++ f l) ++ r) (flat_map_same (λ l. cond (same_key l k) (here ++ f l) (f l)) f ks
        (λ m i. ap (λ t. cond t (here ++ f m) (f m)) (other_above k m (subst (λ n. key_before n m ≡ true) q.1 (o.0 m i)))))
        ∙ append_assoc here (f l) (flat_map f ks)
    go true (inr q) more = absurd (cc (q.0))
    go false (inl q) more = absurd (cc (q.0))
    go false (inr q) more =
        let other : same_key k l ≡ false = elim (same_key_tells k l) [ inl s ↦ absurd (q.1 (sym s.1)) | inr s ↦ s.0 ] in
        let rest : list_any (same_key k) ks ≡ true = sym (ap (λ t. t || list_any (same_key k) ks) other) ∙ e in
        let (m, i, p) = listed_above k ks rest in
        let empty = none l (subst (λ n. key_before l n ≡ true) (sym p) (o.0 m i)) in
        ap (λ r. r ++ flat_map (λ l. cond (same_key l k) (here ++ f l) (f l)) ks) empty
        ∙ (more rest ∙ ap (λ r. here ++ (r ++ flat_map f ks)) (sym empty))

-- readers of keys that are not listed have none: the Notes key by key are those of all readers
by_keys : {B : Type 0} (f : Reader → List B) (ks : List Key) (rs : List Reader) → AreRising ks → IsInOrder rs →
    ((p : Reader) → IsIn p rs → list_any (same_key p.key) ks ≡ false → f p ≡ []) → flat_map (λ k. flat_map f (filter (λ (p : Reader). same_key k p.key) rs)) ks
    ≡ flat_map f rs
by_keys f ks [] k o none = flat_map_nothing ks
by_keys {B} f ks (s ∷ ss) k o none =
    flat_map_same (λ l. flat_map f (filter (λ (p : Reader). same_key l p.key) (s ∷ ss))) (λ l. cond (same_key l s.key) (f s ++ at l) (at l)) ks (λ l i.
    split l (same_key l s.key))
    ∙ (go (list_any (same_key s.key) ks) refl ∙ ap (λ l. f s ++ l) (by_keys f ks ss k o.1 (λ p i. none p (inr i))))
  where
    at : Key → List B
    at l = flat_map f (filter (λ (p : Reader). same_key l p.key) ss)

    split : (l : Key) (t : Bool) → flat_map f (cond t (s ∷ filter (λ (p : Reader). same_key l p.key) ss) (filter (λ (p : Reader). same_key l p.key) ss))
        ≡ cond t (f s ++ at l) (at l)
    split l true = refl
    split l false = refl

    empty : (l : Key) → key_before l s.key ≡ true → at l ≡ []
    empty l e = ap (flat_map f) (none_of ss (λ y i. key_up_to s y (o.0 y i)))
      where
        none_of : (rs : List Reader) → ((y : Reader) → IsIn y rs → key_before y.key s.key ≡ false) → filter (λ (p : Reader). same_key l p.key) rs ≡ []
        none_of [] h = refl
        none_of (y ∷ ys) h = ap (λ t. cond t (y ∷ filter (λ (p : Reader). same_key l p.key) ys) (filter (λ (p : Reader). same_key l p.key) ys)) (apart
            (same_key l y.key) (same_key_tells l y.key)) ∙ none_of ys (λ z i. h z (inr i))
          where
            apart : (t : Bool) → ((t ≡ true) × (l ≡ y.key)) ⊎ ((t ≡ false) × (l ≢ y.key)) → t ≡ false
            apart true (inl q) = let z : key_before y.key s.key ≡ true = subst (λ m. key_before m s.key ≡ true) q.1 e in absurd (cc (z, h y (inl refl)))
            apart true (inr q) = absurd (cc (q.0))
            apart false q = refl

    go : (t : Bool) → list_any (same_key s.key) ks ≡ t → flat_map (λ l. cond (same_key l s.key) (f s ++ at l) (at l)) ks ≡ f s ++ flat_map at ks
    go true e = moved s.key (f s) at ks k empty e
    go false e =
        let nothing = none s (inl refl) e in
        flat_map_same (λ l. cond (same_key l s.key) (f s ++ at l) (at l)) at ks (λ l i. ap (λ r. cond (same_key l s.key) (r ++ at l) (at l)) nothing
        ∙ either (same_key l s.key) (at l))
        ∙ ap (λ r. r ++ flat_map at ks) (sym nothing)
      where
        either : (t : Bool) (r : List B) → cond t r r ≡ r
        either true r = refl
        either false r = refl

-- the Notes that are due are those of the readers
pub due_of_readers : (firsts : List First2) (h : Handled) (m : Envelope) (number : ℕ) (r : Records) → StandsFor firsts (m ∷ h) r →
    flat_map (notes_by firsts h (m ∷ h) number) r.readers.readers.items ≡ due firsts number h (m ∷ h)
due_of_readers firsts h m number r s = flat_map_names (note_for firsts h (m ∷ h) number) r.readers.readers.items
    ∙ (ap (flat_map (note_for firsts h (m ∷ h) number)) s.readers_are ∙ due_now firsts number h m)

-- the Notes of the listed keys are those that are due
pub due_listed : (firsts : List First2) (h : Handled) (m : Envelope) (number : ℕ) (r : Records) → StandsFor firsts (m ∷ h) r → WereTold firsts h r →
    flat_map (notes_at (notes_by firsts h (m ∷ h) number) r.readers.readers.items) (listed r) ≡ due firsts number h (m ∷ h)
due_listed firsts h m number r s t =
    by_keys (notes_by firsts h (m ∷ h) number) (listed r) r.readers.readers.items (rising r.all_touched) (in_order
    (m ∷ h) r.readers.readers.items s.readers_are) quiet
    ∙ due_of_readers firsts h m number r s
  where
    rising : (b : Bool) → AreRising (cond b r.reader_keys.keys.items r.touched.keys.items)
    rising true = s.keys_rise
    rising false = s.touched_rise

    quiet : (p : Reader) → IsIn p r.readers.readers.items → list_any (same_key p.key) (listed r) ≡ false → notes_by firsts h (m ∷ h) number p ≡ []
    quiet p i e = no_note firsts h (m ∷ h) number (reader_of p) (some_is (latest firsts (m ∷ h) p.key p.ver) (latest firsts h p.key p.ver) (sym (s.quiet p i e)
        ∙ t.each p i))
