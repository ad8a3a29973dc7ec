-- One reader is told what it sees.
use Rattle.std.proofs.Common.{◌≡◌, inl, inr, suc, Bool, true, false, cond, List, [], ◌∷◌, ◌&&◌, ◌||◌, map, get_or, refl, ap, sym, ◌∙◌, Some}
use Rattle.std.specs.Prelude.{slice_get, slice_set}
use Rattle.morty_base.proofs.Orders.{same_version_tells}
use Rattle.protocol.specs.Words.{Version, before, same_version, key_before, same_key}
use Rattle.protocol.specs.declared.Held.{Held}
use Rattle.protocol.specs.Lists.{IsIn}
use Rattle.protocol.proofs.TestLemmas.{and_left, and_right}
use Rattle.mv_index.specs.declared.reader_list.Reader.{Reader}
use Rattle.mv_index.specs.ReaderList.{prefix, stands_before, is_at, told_at, IsInOrder}
use Rattle.mv_index.proofs.Sorted.{is_key, stands_down, false_where, after_other, same_not, one_of}

is_version : (u v : Version) → same_version u v ≡ true → u ≡ v
is_version u v e = elim (same_version_tells u v) [ inl q ↦ q.1 | inr q ↦ absurd (cc (q.0, e)) ]

not_told : (a : Held) (r s : Reader) → (same_key r.key s.key && same_version r.ver s.ver) ≡ false → told_at r.key r.ver a s ≡ s
not_told a r s e = ap (λ t. cond t (record s { told = Some a }) s) e

none_told : (a : Held) (r : Reader) (rs : List Reader) → ((y : Reader) → IsIn y rs → (same_key r.key y.key && same_version r.ver y.ver) ≡ false) →
    map (told_at r.key r.ver a) rs ≡ rs
none_told a r [] h = refl
none_told a r (s ∷ ss) h = ap (λ x. x ∷ map (told_at r.key r.ver a) ss) (not_told a r s (h s (inl refl)))
    ∙ ap (λ l. s ∷ l) (none_told a r ss (λ y i. h y (inr i)))

-- none that stands after one is at its place
after_one : (r s : Reader) (ss : List Reader) → IsInOrder (s ∷ ss) → (same_key r.key s.key && same_version r.ver s.ver) ≡ true → (y : Reader) → IsIn y ss →
    (same_key r.key y.key && same_version r.ver y.ver) ≡ false
after_one r s ss o e y i = false_where (same_key r.key y.key && same_version r.ver y.ver) (λ f.
    let k : r.key ≡ s.key = is_key r.key s.key (and_left (same_key r.key s.key) (same_version r.ver s.ver) e) in
    let v : r.ver ≡ s.ver = is_version r.ver s.ver (and_right (same_key r.key s.key) (same_version r.ver s.ver) e) in
    let z : stands_before y.key y.ver r ≡ true = ap (λ l. key_before l y.key || (same_key l y.key && before r.ver y.ver)) k
    ∙ (ap (λ u. key_before s.key y.key || (same_key s.key y.key && before u y.ver)) v ∙ o.0 y i) in
    let w : stands_before y.key y.ver r ≡ false = same_not r y f in
    cc)

-- nor one that stands after a later place
after_more : (r s : Reader) (ss : List Reader) → IsInOrder (s ∷ ss) → stands_before s.key s.ver r ≡ true → (y : Reader) → IsIn y ss →
    (same_key r.key y.key && same_version r.ver y.ver) ≡ false
after_more r s ss o e y i = false_where (same_key r.key y.key && same_version r.ver y.ver) (λ f.
    let z : stands_before y.key y.ver r ≡ true = stands_down y.key y.ver r s e (o.0 y i) in
    let w : stands_before y.key y.ver r ≡ false = same_not r y f in
    cc)

pub told_there : (a : Held) (r : Reader) (rs : List Reader) (d : Reader) → IsInOrder rs →
    is_at (slice_get rs (prefix (stands_before r.key r.ver) rs)) r.key r.ver ≡ true →
    slice_set rs (prefix (stands_before r.key r.ver) rs) (record (get_or rs (prefix (stands_before r.key r.ver) rs) d) { told = Some a })
    ≡ map (told_at r.key r.ver a) rs
told_there a r [] d o e = refl
told_there a r (s ∷ ss) d o e = go (stands_before r.key r.ver s) refl e (told_there a r ss d o.1)
  where
    go : (t : Bool) → stands_before r.key r.ver s ≡ t → is_at (slice_get (s ∷ ss) (cond t (suc (prefix (stands_before r.key r.ver) ss)) 0)) r.key r.ver ≡ true →
        (is_at (slice_get ss (prefix (stands_before r.key r.ver) ss)) r.key r.ver ≡ true →
        slice_set ss (prefix (stands_before r.key r.ver) ss) (record (get_or ss (prefix (stands_before r.key r.ver) ss) d) { told = Some a })
        ≡ map (told_at r.key r.ver a) ss) → slice_set (s ∷ ss) (cond t (suc (prefix (stands_before r.key r.ver) ss)) 0) (record (get_or (s ∷ ss)
        (cond t (suc (prefix (stands_before r.key r.ver) ss)) 0) d) { told = Some a }) ≡ told_at r.key r.ver a s ∷ map (told_at r.key r.ver a) ss
    go true f e more = ap (λ l. s ∷ l) (more e) ∙ ap (λ x. x ∷ map (told_at r.key r.ver a) ss) (sym (not_told a r s (after_other r s f)))
    go false f e more = ap (λ l. record s { told = Some a } ∷ l) (sym (none_told a r ss (after_one r s ss o e)))
        ∙ ap (λ t. cond t (record s { told = Some a }) s ∷ map (told_at r.key r.ver a) ss) (sym e)

pub told_nowhere : (a : Held) (r : Reader) (rs : List Reader) → IsInOrder rs → is_at (slice_get rs (prefix (stands_before r.key r.ver) rs)) r.key r.ver
    ≡ false → rs ≡ map (told_at r.key r.ver a) rs
told_nowhere a r [] o e = refl
told_nowhere a r (s ∷ ss) o e = go (stands_before r.key r.ver s) refl e (told_nowhere a r ss o.1)
  where
    go : (t : Bool) → stands_before r.key r.ver s ≡ t → is_at (slice_get (s ∷ ss) (cond t (suc (prefix (stands_before r.key r.ver) ss)) 0)) r.key r.ver
        ≡ false → (is_at (slice_get ss (prefix (stands_before r.key r.ver) ss)) r.key r.ver ≡ false → ss ≡ map (told_at r.key r.ver a) ss) →
        s ∷ ss ≡ told_at r.key r.ver a s ∷ map (told_at r.key r.ver a) ss
    go true f e more = ap (λ l. s ∷ l) (more e) ∙ ap (λ x. x ∷ map (told_at r.key r.ver a) ss) (sym (not_told a r s (after_other r s f)))
    go false f e more = ap (λ l. s ∷ l) (sym (none_told a r ss (after_more r s ss o (one_of r s f e))))
        ∙ ap (λ x. x ∷ map (told_at r.key r.ver a) ss) (sym (not_told a r s e))
