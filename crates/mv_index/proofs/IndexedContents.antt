-- The indexes of a table of contents go with it, and tell of conflicts.
use Rattle.std.proofs.Common.{◌≡◌, ◌≢◌, ◌⊎◌, inl, inr, ℕ, suc, ◌+◌, ◌<◌, ◌≤◌, length, get_or, take, Bool, true, false, cond, List, [], ◌∷◌, refl, ap, sym, subst, ◌∙◌, Option, Some, None, ◌&&◌, ◌||◌}
use Rattle.std.specs.List.{list_any}
use Rattle.std.specs.Option.{option_or}
use Rattle.std.specs.Bool.{then_some}
use Rattle.std.proofs.lemmas.List.{take_more, take_all}
use Rattle.morty_base.proofs.Orders.{same_exec_tells, same_key_tells, before_total}
use Rattle.protocol.specs.Words.{Version, Exec, Key, Content, Read, Write, before, same_exec, same_key, exec_before}
use Rattle.protocol.specs.declared.Held.{Held}
use Rattle.protocol.specs.Lists.{IsIn}
use Rattle.protocol.specs.Replica.Held.{last_write}
use Rattle.protocol.specs.Replica.Votes.{conflicts, misses, writes_key}
use Rattle.protocol.proofs.ListsLemmas.{IsIn-cases}
use Rattle.protocol.proofs.TestLemmas.{and_left, and_right}
use Rattle.mv_index.specs.ContentTable.{HasConflict, IsMissed, IsOne, least_read}
use Rattle.mv_index.specs.HeldByExec.{last_of_content}
use Rattle.mv_index.specs.ReadIndex.{with_reads, reads_key, IsReadPast}
use Rattle.mv_index.specs.WriteIndex.{IsLastBelow}
use Rattle.mv_index.proofs.Counting.{any_in, in_any}
use Rattle.mv_index.proofs.Growth.{option_or_none}
use Rattle.mv_index.proofs.PutsTurn.{last_write_none}
use Rattle.mv_index.proofs.ReadIndexLemmas.{with_reads_none, is_below, is_read_below, below_counted}
use Rattle.mv_index.proofs.Sorted.{false_where, or_left, or_right, both, get_or_in}
use Rattle.mv_index.proofs.Values.{last_write_exec}

-- ---- one content comes, goes, or is cut away

pub writes_added : (k : Key) (x y : Exec) (c : Content) (old new : Option Held) (o n : Option Content) → old ≡ last_of_content k x o → (x ≡ y → o ≡ None) →
    new ≡ cond (same_exec x y) (option_or (last_write y true 1 k c.writes) old) old → n ≡ cond (same_exec x y) (Some c) o → new ≡ last_of_content k x n
writes_added k x y c old new o n e none f g = f ∙ (go (same_exec x y) (same_exec_tells x y) ∙ ap (last_of_content k x) (sym g))
  where
    go : (t : Bool) → ((t ≡ true) × (x ≡ y)) ⊎ ((t ≡ false) × (x ≢ y)) → cond t (option_or (last_write y true 1 k c.writes) old) old
        ≡ last_of_content k x (cond t (Some c) o)
    go true (inl q) = ap (option_or (last_write y true 1 k c.writes)) (e ∙ ap (last_of_content k x) (none q.1))
        ∙ (option_or_none (last_write y true 1 k c.writes) ∙ ap (λ z. last_write z true 1 k c.writes) (sym q.1))
    go true (inr q) = absurd (cc (q.0))
    go false q = e

pub reads_added : (k : Key) (x y : Exec) (c : Content) (old new : Option Version) (o n : Option Content) → old ≡ least_read k o → (x ≡ y → o ≡ None) →
    new ≡ cond (same_exec x y) (with_reads k old c.reads) old → n ≡ cond (same_exec x y) (Some c) o → new ≡ least_read k n
reads_added k x y c old new o n e none f g = f ∙ (go (same_exec x y) (same_exec_tells x y) ∙ ap (least_read k) (sym g))
  where
    go : (t : Bool) → ((t ≡ true) × (x ≡ y)) ⊎ ((t ≡ false) × (x ≢ y)) → cond t (with_reads k old c.reads) old ≡ least_read k (cond t (Some c) o)
    go true (inl q) = ap (λ z. with_reads k z c.reads) (e ∙ ap (least_read k) (none q.1))
    go true (inr q) = absurd (cc (q.0))
    go false q = e

pub writes_removed : (k : Key) (x y : Exec) (d : Content) (old new : Option Held) (o n : Option Content) → old ≡ last_of_content k x o → (x ≡ y → o ≡ Some d) →
    new ≡ cond (same_exec x y && writes_key k d.writes) None old → n ≡ cond (same_exec x y) None o → new ≡ last_of_content k x n
writes_removed k x y d old new o n e there f g = f ∙ (go (same_exec x y) (same_exec_tells x y) (writes_key k d.writes) refl ∙ ap (last_of_content k x) (sym g))
  where
    go : (t : Bool) → ((t ≡ true) × (x ≡ y)) ⊎ ((t ≡ false) × (x ≢ y)) → (s : Bool) → writes_key k d.writes ≡ s →
        cond (t && s) None old ≡ last_of_content k x (cond t None o)
    go true (inl q) true w = refl
    go true (inl q) false w = e ∙ (ap (last_of_content k x) (there q.1) ∙ last_write_none x true 1 k d.writes w)
    go true (inr q) s w = absurd (cc (q.0))
    go false q s w = e

pub reads_removed : (k : Key) (x y : Exec) (d : Content) (old new : Option Version) (o n : Option Content) → old ≡ least_read k o → (x ≡ y → o ≡ Some d) →
    new ≡ cond (same_exec x y && reads_key k d.reads) None old → n ≡ cond (same_exec x y) None o → new ≡ least_read k n
reads_removed k x y d old new o n e there f g = f ∙ (go (same_exec x y) (same_exec_tells x y) (reads_key k d.reads) refl ∙ ap (least_read k) (sym g))
  where
    go : (t : Bool) → ((t ≡ true) × (x ≡ y)) ⊎ ((t ≡ false) × (x ≢ y)) → (s : Bool) → reads_key k d.reads ≡ s →
        cond (t && s) None old ≡ least_read k (cond t None o)
    go true (inl q) true w = refl
    go true (inl q) false w = e ∙ (ap (least_read k) (there q.1) ∙ with_reads_none k None d.reads w)
    go true (inr q) s w = absurd (cc (q.0))
    go false q s w = e

-- nothing goes where there is nothing
pub none_removed : (x y : Exec) (o n : Option Content) → (x ≡ y → o ≡ None) → n ≡ cond (same_exec x y) None o → n ≡ o
none_removed x y o n none g = g ∙ go (same_exec x y) (same_exec_tells x y)
  where
    go : (t : Bool) → ((t ≡ true) × (x ≡ y)) ⊎ ((t ≡ false) × (x ≢ y)) → cond t None o ≡ o
    go true (inl q) = sym (none q.1)
    go true (inr q) = absurd (cc (q.0))
    go false q = refl

pub writes_cut : (k : Key) (x : Exec) (b : Bool) (o : Option Content) → cond b (last_of_content k x o) None ≡ last_of_content k x (cond b o None)
writes_cut k x true o = refl
writes_cut k x false o = refl

pub reads_cut : (k : Key) (b : Bool) (o : Option Content) → cond b (least_read k o) None ≡ least_read k (cond b o None)
reads_cut k true o = refl
reads_cut k false o = refl

-- ---- an element of a list that is gone through

pub one_here : {A : Type 0} (P : A → Bool → Type 0) (xs : List A) (i : ℕ) (d : A) → i < length xs → P (get_or xs i d) true → IsOne P xs true
one_here P xs i d h p = (get_or xs i d, get_or_in xs i d h, p)

pub none_yet : {A : Type 0} (P : A → Bool → Type 0) (xs : List A) (i : ℕ) (d : A) → i < length xs → IsOne P (take i xs) false → P (get_or xs i d) false →
    IsOne P (take (i + 1) xs) false
none_yet P xs i d h none p = λ a j. elim (IsIn-cases a (take i xs) (get_or xs i d ∷ []) (subst (λ l. IsIn a l) (take_more xs i d h) j)) [
  | inl k ↦ none a k
  | inr k ↦ elim k [ inl e ↦ subst (λ b. P b false) (sym e) p | inr z ↦ absurd z ]
]

pub none_at_all : {A : Type 0} (P : A → Bool → Type 0) (xs : List A) (i : ℕ) → length xs ≤ i → IsOne P (take i xs) false → IsOne P xs false
none_at_all P xs i h none = subst (λ l. IsOne P l false) (take_all i xs h) none

-- ---- what a content wrote and read

none_written : (x : Exec) (sure : Bool) (i : ℕ) (k : Key) (ws : List Write) → last_write x sure i k ws ≡ None → writes_key k ws ≡ false
none_written x sure i k [] e = refl
none_written x sure i k (w ∷ ws) e = go (last_write x sure (suc i) k ws) refl (same_key k w.key) refl e (none_written x sure (suc i) k ws)
  where
    go : (o : Option Held) → last_write x sure (suc i) k ws ≡ o → (t : Bool) → same_key k w.key ≡ t →
        option_or o (then_some t (record { wid = record { ver = x.ver; eid = x.eid; seq = i }; value = w.value; sure = sure })) ≡ None →
        (last_write x sure (suc i) k ws ≡ None → writes_key k ws ≡ false) → (same_key k w.key || writes_key k ws) ≡ false
    go (Some a) f t g e more = absurd cc
    go None f true g e more = absurd cc
    go None f false g e more = ap (λ b. b || writes_key k ws) g ∙ more f

some_written : (x : Exec) (sure : Bool) (i : ℕ) (k : Key) (ws : List Write) (a : Held) → last_write x sure i k ws ≡ Some a → writes_key k ws ≡ true
some_written x sure i k ws a e = go (writes_key k ws) refl
  where
    go : (t : Bool) → writes_key k ws ≡ t → t ≡ true
    go true f = refl
    go false f = let z = last_write_none x sure i k ws f in absurd (cc (z, e))

written_content : (k : Key) (x : Exec) (o : Option Content) (a : Held) → last_of_content k x o ≡ Some a →
    (d : Content) × (o ≡ Some d) × (last_write x true 1 k d.writes ≡ Some a)
written_content k x None a e = absurd cc
written_content k x (Some d) a e = (d, refl, e)

read_content : (k : Key) (o : Option Content) (u : Version) → least_read k o ≡ Some u → (d : Content) × (o ≡ Some d) × (with_reads k None d.reads ≡ Some u)
read_content k None u e = absurd cc
read_content k (Some d) u e = (d, refl, e)

-- ---- reads that missed a write

later_exec : (u : Version) (x y : Exec) → before u x.ver ≡ false → before u y.ver ≡ true → exec_before x y ≡ true
unfolding exec_before
later_exec u x y e f = or_left (before x.ver y.ver) _ (go (before x.ver u) refl)
  where
    go : (t : Bool) → before x.ver u ≡ t → before x.ver y.ver ≡ true
    go true g = before_total.transitive x.ver u y.ver g f
    go false g = let q : x.ver ≡ u = before_total.total x.ver u g e in subst (λ v. before v y.ver ≡ true) (sym q) f

pub missed_none : (f : Exec → Option Content) (w : Key → Exec → Option Held) (v : Version) (r : Read) →
    ((k : Key) (x : Exec) → w k x ≡ last_of_content k x (f x)) → IsLastBelow v (w r.key) None → IsMissed f v r false
missed_none f w v r are none = λ x d e b g. none_written x true 1 r.key d.writes (sym (ap (last_of_content r.key x) e) ∙ (sym (are r.key x) ∙ none x b))

pub missed_some : (f : Exec → Option Content) (w : Key → Exec → Option Held) (v : Version) (r : Read) (a : Held) (t : Bool) →
    ((k : Key) (x : Exec) → w k x ≡ last_of_content k x (f x)) → IsLastBelow v (w r.key) (Some a) → t ≡ before r.wid.ver a.wid.ver → IsMissed f v r t
missed_some f w v r a t are (x, b, g, last) e = go t e (written_content r.key x (f x) a (sym (are r.key x) ∙ g))
  where
    go : (t : Bool) → t ≡ before r.wid.ver a.wid.ver → (d : Content) × (f x ≡ Some d) × (last_write x true 1 r.key d.writes ≡ Some a) → IsMissed f v r t
    go true e (d, h, l) =
        let q : a.wid.ver ≡ x.ver = ap (λ (y : Exec). y.ver) (last_write_exec x true 1 r.key d.writes a l) in
        (x, d, h, b, sym (e ∙ ap (before r.wid.ver) q), some_written x true 1 r.key d.writes a l)
    go false e (d, h, l) = λ y c i j m. by y c i j m (last_write y true 1 r.key c.writes) refl
      where
        by : (y : Exec) (c : Content) → f y ≡ Some c → before y.ver v ≡ true → before r.wid.ver y.ver ≡ true → (o : Option Held) →
            last_write y true 1 r.key c.writes ≡ o → writes_key r.key c.writes ≡ false
        by y c i j m None n = none_written y true 1 r.key c.writes n
        by y c i j m (Some p) n =
            let q : a.wid.ver ≡ x.ver = ap (λ (y : Exec). y.ver) (last_write_exec x true 1 r.key d.writes a l) in
            let not_first : exec_before x y ≡ false = last y p j (are r.key y ∙ (ap (last_of_content r.key y) i ∙ n)) in
            let first : exec_before x y ≡ true = later_exec r.wid.ver x y (sym (e ∙ ap (before r.wid.ver) q)) m in
            absurd (cc (not_first, first))

-- ---- the two halves of a conflict

pub missed_conflicts : (f : Exec → Option Content) (v : Version) (c : Content) → IsOne (IsMissed f v) c.reads true → HasConflict f v c true
unfolding conflicts
missed_conflicts f v c (r, i, (x, d, e, b, g, k)) = (
  x,
  d,
  e,
  or_left (misses v c x.ver d.writes) (misses x.ver d v c.writes) (both (before x.ver v) _ b
      (in_any (λ (s : Read). before s.wid.ver x.ver && writes_key s.key d.writes) c.reads r i (both (before r.wid.ver x.ver) (writes_key r.key d.writes) g k))),
)

same_key_is : (k l : Key) → same_key k l ≡ true → k ≡ l
same_key_is k l e = elim (same_key_tells k l) [ inl q ↦ q.1 | inr q ↦ absurd (cc (q.0, e)) ]

key_self : (k : Key) → same_key k k ≡ true
key_self k = elim (same_key_tells k k) [ inl q ↦ q.0 | inr q ↦ absurd (q.1 refl) ]

-- a least version below v is one of a read below v
below_some : (k : Key) (v : Version) (rs : List Read) (u : Version) → with_reads k None rs ≡ Some u → before u v ≡ true → list_any (is_read_below k v) rs ≡ true
unfolding is_below
below_some k v rs u e f = sym (below_counted k v None rs) ∙ (ap (is_below v) e ∙ f)

some_below : (k : Key) (v : Version) (rs : List Read) → list_any (is_read_below k v) rs ≡ true →
    (u : Version) × (with_reads k None rs ≡ Some u) × (before u v ≡ true)
unfolding is_below
some_below k v rs e = go (with_reads k None rs) refl (below_counted k v None rs ∙ e)
  where
    go : (o : Option Version) → with_reads k None rs ≡ o → is_below v (with_reads k None rs) ≡ true → (u : Version) × (o ≡ Some u) × (before u v ≡ true)
    go None f g = let z : false ≡ true = sym (ap (is_below v) f) ∙ g in absurd cc
    go (Some u) f g = (u, refl, sym (ap (is_below v) f) ∙ g)

neither : (a b : Bool) → a ≡ false → b ≡ false → (a || b) ≡ false
neither a b e f = ap (λ t. t || b) e ∙ f

pub past_conflicts : (f : Exec → Option Content) (g : Key → Exec → Option Version) (v : Version) (c : Content) (t : Bool) →
    ((k : Key) (x : Exec) → g k x ≡ least_read k (f x)) → IsOne (IsMissed f v) c.reads false →
    IsOne (λ (w : Write) s. IsReadPast v (g w.key) s) c.writes t → HasConflict f v c t
unfolding conflicts
past_conflicts f g v c true are none (w, i, (x, u, e, b, l)) =
    let (d, h, m) = read_content w.key (f x) u (sym (are w.key x) ∙ e) in
    let (r, j, p) = any_in (is_read_below w.key v) d.reads (below_some w.key v d.reads u m l) in
    let key : w.key ≡ r.key = same_key_is w.key r.key (and_right (before r.wid.ver v) (same_key w.key r.key) p) in
    let written : writes_key r.key c.writes ≡ true = in_any (λ (z : Write). same_key r.key z.key) c.writes w i (subst (λ n. same_key n w.key
    ≡ true) key (key_self w.key)) in (
      x,
      d,
      h,
      or_right (misses v c x.ver d.writes) (misses x.ver d v c.writes) (both (before v x.ver) _ b
          (in_any (λ (s : Read). before s.wid.ver v && writes_key s.key c.writes) d.reads r j
          (both (before r.wid.ver v) (writes_key r.key c.writes) (and_left (before r.wid.ver v) (same_key w.key r.key) p) written))),
    )
past_conflicts f g v c false are none past = λ x d e. neither (misses v c x.ver d.writes) (misses x.ver d v c.writes) (first x d e) (second x d e)
  where
    first : (x : Exec) (d : Content) → f x ≡ Some d → misses v c x.ver d.writes ≡ false
    first x d e = false_where (misses v c x.ver d.writes) (λ h.
        let below = and_left (before x.ver v) _ h in
        let some = and_right (before x.ver v) (list_any (λ (r : Read). before r.wid.ver x.ver && writes_key r.key d.writes) c.reads) h in
        let (r, i, p) = any_in (λ (r : Read). before r.wid.ver x.ver && writes_key r.key d.writes) c.reads some in
        let no = none r i x d e below (and_left (before r.wid.ver x.ver) (writes_key r.key d.writes) p) in
        let written = and_right (before r.wid.ver x.ver) (writes_key r.key d.writes) p in
        cc (no, written))

    second : (x : Exec) (d : Content) → f x ≡ Some d → misses x.ver d v c.writes ≡ false
    second x d e = false_where (misses x.ver d v c.writes) (λ h.
        let above = and_left (before v x.ver) _ h in
        let some = and_right (before v x.ver) (list_any (λ (r : Read). before r.wid.ver v && writes_key r.key c.writes) d.reads) h in
        let (r, i, p) = any_in (λ (r : Read). before r.wid.ver v && writes_key r.key c.writes) d.reads some in
        let (w, j, q) = any_in (λ (z : Write). same_key r.key z.key) c.writes (and_right (before r.wid.ver v) (writes_key r.key c.writes) p) in
        let key : r.key ≡ w.key = same_key_is r.key w.key q in
        let here : is_read_below w.key v r ≡ true = both (before r.wid.ver v) (same_key w.key r.key) (and_left (before r.wid.ver v)
        (writes_key r.key c.writes) p)
        (subst (λ n. same_key w.key n ≡ true) (sym key) (key_self w.key)) in
        let (u, m, l) = some_below w.key v d.reads (in_any (is_read_below w.key v) d.reads r i here) in
        let no = past w j x u (are w.key x ∙ (ap (least_read w.key) e ∙ m)) above in
        cc (no, l))
