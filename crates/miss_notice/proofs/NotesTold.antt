-- Once each reader that a due Note goes to was told what the Note tells, all readers were told what they see.
use Rattle.std.proofs.Common.{◌≡◌, ◌⊎◌, inl, inr, ℕ, zero, suc, ◌+◌, ◌<◌, ◌≤◌, arith, Bool, true, false, cond, List, [], ◌∷◌, ◌&&◌, ◌||◌, map, length, get_or, drop, Option, Some, None, ap, sym, subst, refl, ◌∙◌}
use Rattle.std.specs.Prelude.{flat_map, not}
use Rattle.std.specs.List.{list_any}
use Rattle.std.specs.Bool.{then_some}
use Rattle.std.specs.Ordering.{int_eq}
use Rattle.std.proofs.lemmas.Bool.Decides.{Decides-int_eq}
use Rattle.morty_base.proofs.Orders.{same_wid_tells, same_version_tells}
use Rattle.protocol.specs.Words.{Wid, Client, before, same_key, same_version, same_wid, Envelope, Body, Note}
use Rattle.protocol.specs.declared.First2.{First2}
use Rattle.protocol.specs.declared.Held.{Held}
use Rattle.protocol.specs.Lists.{IsIn, one_when}
use Rattle.protocol.specs.Replica.Taken.{Handled, dropped}
use Rattle.protocol.specs.Replica.Held.{held, latest}
use Rattle.protocol.specs.Replica.Readers.{Reader as ReaderOf, same_bool, same_held, envelope_from, note_for}
use Rattle.protocol.proofs.ListsLemmas.{map_in, IsIn-map, IsIn-flat_map, flat_map_in, IsIn-one_when}
use Rattle.protocol.proofs.NamesLemmas.{key_is, key_itself, version_is}
use Rattle.protocol.proofs.TestLemmas.{and_left, and_right}
use Rattle.mv_index.specs.declared.reader_list.Reader.{Reader}
use Rattle.mv_index.specs.ReaderList.{reader_of}
use Rattle.mv_index.proofs.Counting.{in_any}
use Rattle.mv_index.specs.Records.{IsTold}
use Rattle.miss_notice.specs.declared.Envelope2.{Envelope2}
use Rattle.miss_notice.specs.declared.Mark.{Mark}
use Rattle.miss_notice.specs.Envelope2.{sent_by}
use Rattle.miss_notice.specs.Marks.{mark_in, marked_by, is_mark_of, has_note, IsSeen, AreLeft}
use Rattle.miss_notice.specs.Notes.{notes_by}
use Rattle.miss_notice.proofs.DueNotes.{note_some}

bool_is : (a b : Bool) → same_bool a b ≡ true → a ≡ b
bool_is true true e = refl
bool_is true false e = absurd cc
bool_is false true e = absurd cc
bool_is false false e = refl

held_is : (a b : Held) → same_held a b ≡ true → a ≡ b
held_is a b e =
    let rest = and_right (same_wid a.wid b.wid) _ e in
    let wids : a.wid ≡ b.wid = elim (same_wid_tells a.wid b.wid) [ inl q ↦ q.1 | inr q ↦ absurd (cc (q.0, and_left (same_wid a.wid b.wid) _ e)) ] in
    let values : a.value ≡ b.value = (Decides-int_eq a.value b.value).0 (and_left (int_eq a.value b.value) _ rest) in
    let sures : a.sure ≡ b.sure = bool_is a.sure b.sure (and_right (int_eq a.value b.value) _ rest) in
    λ i. record { wid = wids i; value = values i; sure = sures i }

version_itself : (p : Reader) → same_version p.ver p.ver ≡ true
version_itself p = elim (same_version_tells p.ver p.ver) [ inl q ↦ q.0 | inr q ↦ absurd (q.1 refl) ]

-- ---- one mark

pub unmarked : (rs : List Reader) → rs ≡ map (marked_by None) rs
unmarked [] = refl
unmarked (r ∷ rs) = ap (λ l. r ∷ l) (unmarked rs)

-- the readers that a mark leaves untold have another Note, as before
after_mark : (firsts : List First2) (h : Handled) (p q : Reader) (o : Option Mark) (ns : List Envelope2) → p ≡ marked_by o q → IsSeen firsts h o →
    IsTold firsts h q ⊎ ((is_mark_of q o || has_note q ns) ≡ true) → IsTold firsts h p ⊎ (has_note p ns ≡ true)
after_mark firsts h p q None ns f seen (inl t) = inl (subst (IsTold firsts h) (sym f) t)
after_mark firsts h p q None ns f seen (inr z) = inr (subst (λ (r : Reader). has_note r ns ≡ true) (sym f) z)
after_mark firsts h p q (Some m) ns f seen o = go (same_key m.key q.key && same_version m.ver q.ver) refl f o
  where
    go : (t : Bool) → (same_key m.key q.key && same_version m.ver q.ver) ≡ t → p ≡ cond t (record q { told = Some m.held }) q →
        IsTold firsts h q ⊎ ((t || has_note q ns) ≡ true) → IsTold firsts h p ⊎ (has_note p ns ≡ true)
    go true g f o =
        let key = key_is m.key q.key (and_left (same_key m.key q.key) _ g) in
        let ver = version_is m.ver q.ver (and_right (same_key m.key q.key) _ g) in
        inl (subst (IsTold firsts h) (sym f) (ap Some (seen ∙ (ap (λ l. latest firsts h l m.ver) key ∙ ap (latest firsts h q.key) ver))))
    go false g f (inl t) = inl (subst (IsTold firsts h) (sym f) t)
    go false g f (inr z) = inr (subst (λ (r : Reader). has_note r ns ≡ true) (sym f) z)

left_rest : (firsts : List First2) (h : Handled) (n : Envelope2) (ns : List Envelope2) (rs new : List Reader) → AreLeft firsts h (n ∷ ns) rs →
    new ≡ map (marked_by (mark_in n.body)) rs → AreLeft firsts h ns new
left_rest firsts h n ns rs new a e = record {
  seen = λ m i. a.seen m (inr i);
  told = λ p i. let (q, j, f) = IsIn-map (marked_by (mark_in n.body)) p rs (subst (λ l. IsIn p l) e i) in
      after_mark firsts h p q (mark_in n.body) ns f (a.seen n (inl refl)) (a.told q j);
}

drop_here : {A : Type 0} (xs : List A) (i : ℕ) (d : A) → i < length xs → drop i xs ≡ get_or xs i d ∷ drop (suc i) xs
drop_here [] i d h = absurd (omega arith)
drop_here (x ∷ xs) zero d h = refl
drop_here (x ∷ xs) (suc i) d h = drop_here xs i d (omega arith)

-- one Note after another is told
pub left_next : (firsts : List First2) (h : Handled) (notes : List Envelope2) (i : ℕ) (d : Envelope2) (o : Option Mark) (rs new : List Reader) →
    i < length notes → AreLeft firsts h (drop i notes) rs → o ≡ mark_in (get_or notes i d).body → new ≡ map (marked_by o) rs →
    AreLeft firsts h (drop (i + 1) notes) new
left_next firsts h notes i d o rs new within a e f =
    let next : suc i ≡ i + 1 = omega arith in
    subst (λ j. AreLeft firsts h (drop j notes) new) next (left_rest firsts h (get_or notes i d) (drop (suc i) notes) rs new
    (subst (λ l. AreLeft firsts h l rs) (drop_here notes i d within) a) (f ∙ ap (λ z. map (marked_by z) rs) e))

drop_past : {A : Type 0} (xs : List A) (i : ℕ) → length xs ≤ i → drop i xs ≡ []
drop_past [] zero h = refl
drop_past [] (suc i) h = refl
drop_past (x ∷ xs) zero h = absurd (omega arith)
drop_past (x ∷ xs) (suc i) h = drop_past xs i (omega arith)

pub left_none : (firsts : List First2) (h : Handled) (notes : List Envelope2) (i : ℕ) (rs : List Reader) → length notes ≤ i →
    AreLeft firsts h (drop i notes) rs → (p : Reader) → IsIn p rs → IsTold firsts h p
left_none firsts h notes i rs past a p j = elim (a.told p j) [
  | inl t ↦ t
  | inr z ↦ (let y : has_note p [] ≡ true = subst (λ l. has_note p l ≡ true) (drop_past notes i past) z in absurd cc)
]

-- ---- the Notes that are due

-- what stands in the Notes of a reader is a Note to it of what it sees
in_note : (firsts : List First2) (h h' : Handled) (number : ℕ) (p : ReaderOf) (m : Envelope) → IsIn m (note_for firsts h h' number p) →
    (lost : Option Wid) × (m.body ≡ Note p.ver p.key (latest firsts h' p.key p.ver).wid (latest firsts h' p.key p.ver).value
    (latest firsts h' p.key p.ver).sure lost)
unfolding note_for
in_note firsts h h' number p m i = (
  then_some (not (list_any (λ (a : Held). same_wid (latest firsts h p.key p.ver).wid a.wid) (held firsts h' p.key))) (latest firsts h p.key p.ver).wid,
  ap (λ (e : Envelope). e.body) (IsIn-one_when (before (dropped h') p.ver && not (same_held (latest firsts h p.key p.ver) (latest firsts h' p.key p.ver))) _ m i).1,
)

pub notes_left : (firsts : List First2) (h h' : Handled) (number : ℕ) (notes : List Envelope2) (rs : List Reader) →
    map (sent_by number) notes ≡ flat_map (notes_by firsts h h' number) rs → ((p : Reader) → IsIn p rs → IsTold firsts h p) →
    ((p : Reader) → IsIn p rs → before (dropped h') p.ver ≡ true) → AreLeft firsts h' notes rs
notes_left firsts h h' number notes rs e told above = record {
  seen = λ n i. let (p, j, k) = IsIn-flat_map (notes_by firsts h h' number) (sent_by number n) rs
      (subst (λ l. IsIn (sent_by number n) l) e (map_in (sent_by number) notes n i)) in
      let (lost, same) = in_note firsts h h' number (reader_of p) (sent_by number n) k in
      subst (λ (b : Body). IsSeen firsts h' (mark_in b)) (sym same) refl;
  told = λ p i. by p i (same_held (latest firsts h p.key p.ver) (latest firsts h' p.key p.ver)) refl;
}
  where
    lost : Reader → Option Wid
    lost p = then_some (not (list_any (λ (a : Held). same_wid (latest firsts h p.key p.ver).wid a.wid) (held firsts h' p.key))) (latest firsts h p.key p.ver).wid

    note : Reader → Body
    note p = Note p.ver p.key (latest firsts h' p.key p.ver).wid (latest firsts h' p.key p.ver).value (latest firsts h' p.key p.ver).sure (lost p)

    sent : Reader → Envelope
    sent p = envelope_from number (Client p.ver.client) (note p)

    by : (p : Reader) → IsIn p rs → (t : Bool) → same_held (latest firsts h p.key p.ver) (latest firsts h' p.key p.ver) ≡ t →
        IsTold firsts h' p ⊎ (has_note p notes ≡ true)
    by p i true f = inl (told p i ∙ ap Some (held_is (latest firsts h p.key p.ver) (latest firsts h' p.key p.ver) f))
    by p i false f =
        let due = note_some firsts h h' number (reader_of p) (latest firsts h p.key p.ver) (latest firsts h' p.key p.ver)
        (same_held (latest firsts h p.key p.ver) (latest firsts h' p.key p.ver)) (lost p) refl refl refl f (above p i) refl in
        let here = flat_map_in (notes_by firsts h h' number) rs p (sent p) i (subst (λ l. IsIn (sent p) l) due (inl refl)) in
        let (n, j, same) = IsIn-map (sent_by number) (sent p) notes (subst (λ l. IsIn (sent p) l) (sym e) here) in
        inr (in_any (λ (n : Envelope2). is_mark_of p (mark_in n.body)) notes n j
        (subst (λ (b : Body). is_mark_of p (mark_in b) ≡ true) (ap (λ (m : Envelope). m.body) same)
        (ap (λ t. t && same_version p.ver p.ver) (key_itself p.key) ∙ version_itself p)))
