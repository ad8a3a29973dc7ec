-- What an envelope that is sent or delivered changes in what is shown to a node's link.
use Rattle.std.proofs.Common.{◌≡◌, inl, inr, ℕ, zero, suc, ◌+◌, ◌<◌, ◌≤◌, Bool, true, false, cond, List, [], ◌∷◌, ◌++◌, length, refl, ap, sym, subst, ◌∙◌, Some, arith}
use Rattle.std.specs.Prelude.{not, ◌==◌, ◌||◌, ◌&&◌, nat_lt, filter}
use Rattle.std.specs.List.{slice_get}
use Rattle.std.proofs.lemmas.Bool.Decides.{nat_tests}
use Rattle.std.proofs.lemmas.List.{append_assoc, append-nil}
use Rattle.std.proofs.lemmas.List.Elements.{filter-append}
use Rattle.std.proofs.lemmas.List.Folds.{list_any-append}
use Rattle.protocol.specs.Words.{NodeId, Envelope, same_node}
use Rattle.protocol.specs.Lists.{IsIn, one_when}
use Rattle.protocol.specs.World.Events.{marked}
use Rattle.protocol.proofs.ListsLemmas.{IsIn-cases, IsIn-one_when}
use Rattle.menus.specs.Shown.{fresh_from, has_number, is_to, old_to}
use Rattle.menus.specs.Inbox.{Arrived, AreBelow, IsInboxOf, without}
use Rattle.menus.specs.Laws.{Follows}

-- ---- numbers

turned : (i k : ℕ) → (i == k) ≡ (k == i)
turned i k = grind (arith, nat_tests)

equal : (i k : ℕ) → (i == k) ≡ true → i ≡ k
equal i k e = grind (arith, nat_tests)

same : (i k : ℕ) → i ≡ k → (i == k) ≡ true
same i k e = grind (arith, nat_tests)

above : (i k : ℕ) → i < k → (k == i) ≡ false
above i k h = grind (arith, nat_tests)

below : (i k : ℕ) → k < i → (k == i) ≡ false
below i k h = grind (arith, nat_tests)

-- ---- the fresh places

fresh_push : (d : List ℕ) (n : NodeId) (i : ℕ) (ms : List Envelope) (m : Envelope) →
    fresh_from d n i (ms ++ m ∷ []) ≡ fresh_from d n i ms ++ one_when (same_node n m.to && not (has_number (i + length ms) d)) (i + length ms)
fresh_push d n i [] m =
    let e : i + 0 ≡ i = omega arith in
    append-nil (one_when (same_node n m.to && not (has_number i d)) i)
    ∙ ap (λ j. one_when (same_node n m.to && not (has_number j d)) j) (sym e)
fresh_push d n i (x ∷ ms) m =
    let e : suc i + length ms ≡ i + suc (length ms) = omega arith in
    ap (λ l. one_when (same_node n x.to && not (has_number i d)) i ++ l) (fresh_push d n (suc i) ms m)
    ∙ (sym (append_assoc (one_when (same_node n x.to && not (has_number i d)) i) (fresh_from d n (suc i) ms) _)
    ∙ ap (λ j. one_when (same_node n x.to && not (has_number i d)) i ++ fresh_from d n (suc i) ms ++ one_when (same_node n m.to && not (has_number j d)) j) e)

fresh_low : (d : List ℕ) (n : NodeId) (i : ℕ) (ms : List Envelope) (j : ℕ) → IsIn j (fresh_from d n i ms) → i ≤ j
fresh_low d n i [] j k = absurd k
fresh_low d n i (x ∷ ms) j k = elim (IsIn-cases j (one_when (same_node n x.to && not (has_number i d)) i) (fresh_from d n (suc i) ms) k) [
  | inl a ↦ let one = IsIn-one_when (same_node n x.to && not (has_number i d)) i j a in omega (arith, one.1)
  | inr a ↦ let more = fresh_low d n (suc i) ms j a in omega arith
]

fresh_high : (d : List ℕ) (n : NodeId) (i : ℕ) (ms : List Envelope) (j : ℕ) → IsIn j (fresh_from d n i ms) → j < i + length ms
fresh_high d n i [] j k = absurd k
fresh_high d n i (x ∷ ms) j k = elim (IsIn-cases j (one_when (same_node n x.to && not (has_number i d)) i) (fresh_from d n (suc i) ms) k) [
  | inl a ↦ let one = IsIn-one_when (same_node n x.to && not (has_number i d)) i j a in omega (arith, one.1)
  | inr a ↦ let more = fresh_high d n (suc i) ms j a in omega arith
]

none_equal : (j : ℕ) (is : List ℕ) → ((k : ℕ) → IsIn k is → (k == j) ≡ false) → has_number j is ≡ false
none_equal j [] h = refl
none_equal j (i ∷ is) h = ap (λ t. t || has_number j is) (h i (inl refl)) ∙ none_equal j is (λ k a. h k (inr a))

one_has : (t : Bool) (i : ℕ) → has_number i (one_when t i) ≡ t
one_has true i = ap (λ b. b || false) (same i i refl)
one_has false i = refl

one_has_no_other : (t : Bool) (i j : ℕ) → (i == j) ≡ false → has_number j (one_when t i) ≡ false
one_has_no_other true i j e = ap (λ b. b || false) e
one_has_no_other false i j e = refl

or_false : (t : Bool) → (t || false) ≡ t
or_false true = refl
or_false false = refl

-- a place is fresh where its envelope is to the node and was not delivered
fresh_has : (d : List ℕ) (n : NodeId) (i : ℕ) (ms : List Envelope) (k : ℕ) (m : Envelope) → slice_get ms k ≡ Some m →
    has_number (i + k) (fresh_from d n i ms) ≡ (same_node n m.to && not (has_number (i + k) d))
fresh_has d n i [] k m e = absurd (cc e)
fresh_has d n i (x ∷ ms) zero m e =
    let z : i + 0 ≡ i = omega arith in
    let there : x ≡ m = cc e in
    let t = same_node n x.to && not (has_number i d) in
    let none : has_number i (fresh_from d n (suc i) ms) ≡ false = none_equal i (fresh_from d n (suc i) ms) (λ k a. let low = fresh_low d n (suc i) ms k a in above i k (omega arith)) in
    rw z (list_any-append (λ j. j == i) (one_when t i) (fresh_from d n (suc i) ms)
    ∙ (ap (λ b. has_number i (one_when t i) || b) none
    ∙ (or_false (has_number i (one_when t i))
    ∙ (one_has t i
    ∙ ap (λ y. same_node n y.to && not (has_number i d)) there))))
fresh_has d n i (x ∷ ms) (suc k) m e =
    let z : i + suc k ≡ suc i + k = omega arith in
    let t = same_node n x.to && not (has_number i d) in
    rw z (list_any-append (λ j. j == suc i + k) (one_when t i) (fresh_from d n (suc i) ms)
    ∙ (ap (λ b. b || has_number (suc i + k) (fresh_from d n (suc i) ms)) (one_has_no_other t i (suc i + k) (below (suc i + k) i (omega arith)))
    ∙ fresh_has d n (suc i) ms k m e))

-- ---- one more place is delivered

has_marked : (k i : ℕ) (d : List ℕ) → has_number i (marked k d) ≡ (has_number i d || (k == i))
has_marked k i d = go (has_number k d) refl (k == i) refl
  where
    or_true : (t : Bool) → (t || true) ≡ true
    or_true true = refl
    or_true false = refl

    go : (t : Bool) → has_number k d ≡ t → (s : Bool) → (k == i) ≡ s → has_number i (cond t d (d ++ k ∷ [])) ≡ (has_number i d || s)
    go true e true f = subst (λ j. has_number j d ≡ true) (equal k i f) e ∙ sym (or_true (has_number i d))
    go true e false f = sym (or_false (has_number i d))
    go false e s f = list_any-append (λ j. j == i) d (k ∷ []) ∙ ap (λ b. has_number i d || b) (or_false (k == i) ∙ f)

one_marked : (k i : ℕ) (d : List ℕ) (s : Bool) → one_when (s && not (has_number i (marked k d))) i ≡ without k (one_when (s && not (has_number i d)) i)
one_marked k i d false = refl
one_marked k i d true = ap (λ b. one_when (not b) i) (has_marked k i d) ∙ go (has_number i d) (k == i) refl
  where
    go : (t s : Bool) → (k == i) ≡ s → one_when (not (t || s)) i ≡ without k (one_when (not t) i)
    go true s e = refl
    go false true e = sym (ap (λ b. cond (not b) (i ∷ []) []) (turned i k ∙ e))
    go false false e = sym (ap (λ b. cond (not b) (i ∷ []) []) (turned i k ∙ e))

fresh_marked : (k : ℕ) (d : List ℕ) (n : NodeId) (i : ℕ) (ms : List Envelope) → fresh_from (marked k d) n i ms ≡ without k (fresh_from d n i ms)
fresh_marked k d n i [] = refl
fresh_marked k d n i (x ∷ ms) =
    ap (λ l. l ++ fresh_from (marked k d) n (suc i) ms) (one_marked k i d (same_node n x.to))
    ∙ (ap (λ l. without k (one_when (same_node n x.to && not (has_number i d)) i) ++ l) (fresh_marked k d n (suc i) ms)
    ∙ sym (filter-append (λ j. not (j == k)) (one_when (same_node n x.to && not (has_number i d)) i) (fresh_from d n (suc i) ms)))

-- what is not among them takes nothing away
absent_stays : (k : ℕ) (is : List ℕ) → has_number k is ≡ false → without k is ≡ is
absent_stays k [] h = refl
absent_stays k (i ∷ is) h = go (i == k) h (absent_stays k is)
  where
    go : (t : Bool) → (t || has_number k is) ≡ false → (has_number k is ≡ false → without k is ≡ is) → cond (not t) (i ∷ without k is) (without k is) ≡ i ∷ is
    go true e more = absurd (cc e)
    go false e more = ap (λ l. i ∷ l) (more e)

-- ---- the delivered places

old_has : (p : ℕ → Bool) (k : ℕ) (d : List ℕ) → p k ≡ true → has_number k (filter p d) ≡ has_number k d
old_has p k [] e = refl
old_has p k (i ∷ is) e = go (i == k) refl (p i) refl (old_has p k is e)
  where
    go : (t : Bool) → (i == k) ≡ t → (s : Bool) → p i ≡ s → has_number k (filter p is) ≡ has_number k is → has_number k (cond s (i ∷ filter p is) (filter p is)) ≡ (t || has_number k is)
    go t f true g more = ap (λ b. b || has_number k (filter p is)) f ∙ ap (λ b. t || b) more
    go false f false g more = more
    go true f false g more = absurd (cc (g, subst (λ j. p j ≡ true) (sym (equal i k f)) e))

old_marked : (p : ℕ → Bool) (k : ℕ) (d : List ℕ) → p k ≡ true → filter p (marked k d) ≡ marked k (filter p d)
old_marked p k d e =
    go (has_number k d) refl ∙ ap (λ t. cond t (filter p d) (filter p d ++ k ∷ [])) (sym (old_has p k d e))
  where
    go : (t : Bool) → has_number k d ≡ t → filter p (cond t d (d ++ k ∷ [])) ≡ cond t (filter p d) (filter p d ++ k ∷ [])
    go true f = refl
    go false f = filter-append p d (k ∷ []) ∙ ap (λ t. filter p d ++ cond t (k ∷ []) []) e

old_unmarked : (p : ℕ → Bool) (k : ℕ) (d : List ℕ) → p k ≡ false → filter p (marked k d) ≡ filter p d
old_unmarked p k d e = go (has_number k d)
  where
    go : (t : Bool) → filter p (cond t d (d ++ k ∷ [])) ≡ filter p d
    go true = refl
    go false = filter-append p d (k ∷ []) ∙ (ap (λ t. filter p d ++ cond t (k ∷ []) []) e ∙ append-nil (filter p d))

get_before : (ms more : List Envelope) (i : ℕ) → i < length ms → slice_get (ms ++ more) i ≡ slice_get ms i
get_before [] more i h = absurd (omega arith)
get_before (m ∷ ms) more zero h = refl
get_before (m ∷ ms) more (suc i) h = get_before ms more i (omega arith)

old_push : (n : NodeId) (ms more : List Envelope) (d : List ℕ) → AreBelow (length ms) d → old_to (ms ++ more) n d ≡ old_to ms n d
old_push n ms more [] h = refl
old_push n ms more (i ∷ d) h =
    let l : nat_lt i (length ms) ≡ true = h i (inl refl) in
    let same : slice_get (ms ++ more) i ≡ slice_get ms i = get_before ms more i (grind (arith, nat_tests)) in
    ap (λ o. cond (is_to n o) (i ∷ old_to (ms ++ more) n d) (old_to (ms ++ more) n d)) same
    ∙ ap (λ l. cond (is_to n (slice_get ms i)) (i ∷ l) l) (old_push n ms more d (λ j a. h j (inr a)))

unsent : (k : ℕ) (d : List ℕ) → AreBelow k d → has_number k d ≡ false
unsent k d h = none_equal k d (λ j a. let l : nat_lt j k ≡ true = h j a in grind (arith, nat_tests))

-- ---- the inbox of a node

module _ (n : NodeId) (mail : List Envelope) (delivered : List ℕ) where
  next : (b : Arrived) → IsInboxOf n mail delivered b → AreBelow (length mail) b.fresh
  next b k = λ j a. let l = fresh_high delivered n 0 mail j (subst (IsIn j) k.fresh a) in let m : j < length mail = omega arith in grind (arith, nat_tests)

  pushed : (m : Envelope) (t : Bool) → AreBelow (length mail) delivered → same_node n m.to ≡ t →
      fresh_from delivered n 0 (mail ++ m ∷ []) ≡ fresh_from delivered n 0 mail ++ one_when t (length mail)
  pushed m t h e =
      let z : 0 + length mail ≡ length mail = omega arith in
      fresh_push delivered n 0 mail m
      ∙ (ap (λ j. fresh_from delivered n 0 mail ++ one_when (same_node n m.to && not (has_number j delivered)) j) z
      ∙ (ap (λ b. fresh_from delivered n 0 mail ++ one_when (same_node n m.to && not b) (length mail)) (unsent (length mail) delivered h)
      ∙ ap (λ b. fresh_from delivered n 0 mail ++ one_when b (length mail)) (go (same_node n m.to) ∙ e)))
    where
      go : (t : Bool) → (t && true) ≡ t
      go true = refl
      go false = refl

  sent : (b : Arrived) (m : Envelope) → IsInboxOf n mail delivered b → AreBelow (length mail) delivered → same_node n m.to ≡ true →
      IsInboxOf n (mail ++ m ∷ []) delivered (record b { fresh = b.fresh ++ length mail ∷ [] })
  sent b m k h e = record {
    fresh = ap (λ l. l ++ length mail ∷ []) k.fresh ∙ sym (pushed m true h e);
    old = k.old ∙ sym (old_push n mail (m ∷ []) delivered h);
  }

  sent_to_other : (b : Arrived) (m : Envelope) → IsInboxOf n mail delivered b → AreBelow (length mail) delivered → same_node n m.to ≡ false →
      IsInboxOf n (mail ++ m ∷ []) delivered b
  sent_to_other b m k h e = record {
    fresh = k.fresh ∙ (sym (append-nil (fresh_from delivered n 0 mail)) ∙ sym (pushed m false h e));
    old = k.old ∙ sym (old_push n mail (m ∷ []) delivered h);
  }

  to_node : (i : ℕ) (m : Envelope) (t : Bool) → slice_get mail i ≡ Some m → same_node n m.to ≡ t → is_to n (slice_get mail i) ≡ t
  to_node i m t e f = ap (is_to n) e ∙ f

  shown : (i : ℕ) (m : Envelope) → slice_get mail i ≡ Some m → has_number i (fresh_from delivered n 0 mail) ≡ (same_node n m.to && not (has_number i delivered))
  shown i m e = let z : 0 + i ≡ i = omega arith in
      subst (λ j. has_number j (fresh_from delivered n 0 mail) ≡ (same_node n m.to && not (has_number j delivered))) z (fresh_has delivered n 0 mail i m e)

  known : (b : Arrived) (i : ℕ) (m : Envelope) → IsInboxOf n mail delivered b → slice_get mail i ≡ Some m → same_node n m.to ≡ true →
      has_number i b.delivered ≡ not (has_number i b.fresh)
  known b i m k e f =
      ap (has_number i) k.old
      ∙ (old_has (λ j. is_to n (slice_get mail j)) i delivered (to_node i m true e f)
      ∙ (go (has_number i delivered)
      ∙ ap not (sym (ap (has_number i) k.fresh ∙ (shown i m e ∙ ap (λ t. t && not (has_number i delivered)) f)))))
    where
      go : (t : Bool) → t ≡ not (true && not t)
      go true = refl
      go false = refl

  taken : (b : Arrived) (i : ℕ) (m : Envelope) → IsInboxOf n mail delivered b → slice_get mail i ≡ Some m → same_node n m.to ≡ true →
      IsInboxOf n mail (marked i delivered) (record { fresh = without i b.fresh; delivered = marked i b.delivered })
  taken b i m k e f = record {
    fresh = ap (without i) k.fresh ∙ sym (fresh_marked i delivered n 0 mail);
    old = ap (marked i) k.old ∙ sym (old_marked (λ j. is_to n (slice_get mail j)) i delivered (to_node i m true e f));
  }

  taken_by_other : (b : Arrived) (i : ℕ) (m : Envelope) → IsInboxOf n mail delivered b → slice_get mail i ≡ Some m → same_node n m.to ≡ false →
      IsInboxOf n mail (marked i delivered) b
  taken_by_other b i m k e f =
      let none : has_number i (fresh_from delivered n 0 mail) ≡ false = shown i m e ∙ ap (λ t. t && not (has_number i delivered)) f in
      record {
        fresh = k.fresh ∙ (sym (absent_stays i (fresh_from delivered n 0 mail) none) ∙ sym (fresh_marked i delivered n 0 mail));
        old = k.old ∙ sym (old_unmarked (λ j. is_to n (slice_get mail j)) i delivered (to_node i m false e f));
      }

  pub follows : Follows n mail delivered
  follows = record {
    none = λ e f. rw (e, f) (record { fresh = refl; old = refl });
    next = next;
    sent = sent;
    sent_to_other = sent_to_other;
    known = known;
    taken = taken;
    taken_by_other = taken_by_other;
  }
