-- A base that is put together holds for each key the write of the greatest name, and no other.
use Rattle.std.proofs.Common.{[], ◌≡◌, ◌⊎◌, inl, inr, refl, ap, sym, ◌∙◌, subst, true, false, Bool, cond, List, ◌∷◌}
use Rattle.protocol.specs.Words.{BaseEntry, same_key, key_before, wid_before, Key}
use Rattle.protocol.specs.Lists.{IsIn}
use Rattle.protocol.specs.Warden.Base.{put_entry, put_entries}
use Rattle.protocol.specs.World.Decided.{IsRising}
use Rattle.protocol.proofs.NamesLemmas.{key_is, wid_trans, wid_less, wid_itself, key_trans, key_order}
use Rattle.law_safety.proofs.BaseEntries.{HasEntry}

-- the base that is put together holds each entry, or a greater one, and no other
entry_self : (bs : List BaseEntry) (d : BaseEntry) → IsIn d bs → HasEntry bs d
entry_self bs d i = (d, i, refl, wid_itself d.wid)

pub entry_trans : (bs : List BaseEntry) (d e : BaseEntry) → d.key ≡ e.key → wid_before d.wid e.wid ≡ false → HasEntry bs d → HasEntry bs e
entry_trans bs d e k w h = (h.0, h.1, h.2 ∙ k, wid_trans h.0.wid d.wid e.wid h.3 w)

entry_more : (c : BaseEntry) (bs : List BaseEntry) (e : BaseEntry) → HasEntry bs e → HasEntry (c ∷ bs) e
entry_more c bs e h = (h.0, inr h.1, h.2, h.3)

put_new : (b : BaseEntry) (cs : List BaseEntry) → HasEntry (put_entry b cs) b
put_new b [] = entry_self (b ∷ []) b (inl refl)
put_new b (c ∷ cs) = go (put_new b cs) (same_key b.key c.key) refl (wid_before c.wid b.wid) refl (key_before b.key c.key)
  where
    go : HasEntry (put_entry b cs) b → (t : Bool) → same_key b.key c.key ≡ t → (u : Bool) → wid_before c.wid b.wid ≡ u → (k : Bool) →
        HasEntry (cond t (cond u (b ∷ cs) (c ∷ cs)) (cond k (b ∷ c ∷ cs) (c ∷ put_entry b cs))) b
    go ih true e true f k = entry_self (b ∷ cs) b (inl refl)
    go ih true e false f k = (c, inl refl, sym (key_is b.key c.key e), f)
    go ih false e u f true = entry_self (b ∷ c ∷ cs) b (inl refl)
    go ih false e u f false = entry_more c (put_entry b cs) b ih

put_keeps : (b : BaseEntry) (cs : List BaseEntry) (e : BaseEntry) → HasEntry cs e → HasEntry (put_entry b cs) e
put_keeps b [] e h = absurd h.1
put_keeps b (c ∷ cs) e h = go (λ g. put_keeps b cs e g) (same_key b.key c.key) refl (wid_before c.wid b.wid) refl (key_before b.key c.key) h.1
  where
    go : (HasEntry cs e → HasEntry (put_entry b cs) e) → (t : Bool) → same_key b.key c.key ≡ t → (u : Bool) → wid_before c.wid b.wid ≡ u → (k : Bool) →
        (h.0 ≡ c) ⊎ IsIn h.0 cs → HasEntry (cond t (cond u (b ∷ cs) (c ∷ cs)) (cond k (b ∷ c ∷ cs) (c ∷ put_entry b cs))) e
    go ih true q true f k (inl z) = (b, inl refl, key_is b.key c.key q ∙ ap (λ (y : BaseEntry). y.key) (sym z) ∙ h.2, wid_trans b.wid c.wid e.wid (wid_less c.wid b.wid f) (subst (λ (y : BaseEntry). wid_before y.wid e.wid ≡ false) z h.3))
    go ih true q true f k (inr i) = (h.0, inr i, h.2, h.3)
    go ih true q false f k i = (h.0, i, h.2, h.3)
    go ih false q u f true i = (h.0, inr i, h.2, h.3)
    go ih false q u f false (inl z) = (h.0, inl z, h.2, h.3)
    go ih false q u f false (inr i) = entry_more c (put_entry b cs) e (ih (h.0, i, h.2, h.3))

puts_keep : (cs bs : List BaseEntry) (e : BaseEntry) → HasEntry cs e → HasEntry (put_entries cs bs) e
puts_keep cs [] e h = h
puts_keep cs (b ∷ bs) e h = puts_keep (put_entry b cs) bs e (put_keeps b cs e h)

pub puts_hold : (cs bs : List BaseEntry) (e : BaseEntry) → IsIn e bs → HasEntry (put_entries cs bs) e
puts_hold cs [] e i = absurd i
puts_hold cs (b ∷ bs) e (inl z) = puts_keep (put_entry b cs) bs e (subst (λ (y : BaseEntry). HasEntry (put_entry b cs) y) (sym z) (put_new b cs))
puts_hold cs (b ∷ bs) e (inr i) = puts_hold (put_entry b cs) bs e i

pub put_of : (b : BaseEntry) (cs : List BaseEntry) (d : BaseEntry) → IsIn d (put_entry b cs) → (d ≡ b) ⊎ IsIn d cs
put_of b [] d i = i
put_of b (c ∷ cs) d i = go (put_of b cs d) (same_key b.key c.key) (wid_before c.wid b.wid) (key_before b.key c.key) i
  where
    go : (IsIn d (put_entry b cs) → (d ≡ b) ⊎ IsIn d cs) → (t u k : Bool) →
        IsIn d (cond t (cond u (b ∷ cs) (c ∷ cs)) (cond k (b ∷ c ∷ cs) (c ∷ put_entry b cs))) → (d ≡ b) ⊎ IsIn d (c ∷ cs)
    go ih true true k (inl z) = inl z
    go ih true true k (inr i) = inr (inr i)
    go ih true false k i = inr i
    go ih false u true i = i
    go ih false u false (inl z) = inr (inl z)
    go ih false u false (inr i) = elim (ih i) [ inl z ↦ inl z | inr j ↦ inr (inr j) ]

pub puts_of : (cs bs : List BaseEntry) (d : BaseEntry) → IsIn d (put_entries cs bs) → IsIn d cs ⊎ IsIn d bs
puts_of cs [] d i = inl i
puts_of cs (b ∷ bs) d i =
    elim (puts_of (put_entry b cs) bs d i) [ inl j ↦ elim (put_of b cs d j) [ inl z ↦ inr (inl z) | inr k ↦ inl k ] | inr j ↦ inr (inr j) ]

-- the base that is put together is rising by key
put_rising : (b : BaseEntry) (cs : List BaseEntry) → IsRising cs → IsRising (put_entry b cs)
put_rising b [] r = (λ e i. absurd i, tt)
put_rising b (c ∷ cs) r = go (put_rising b cs r.1) (same_key b.key c.key) refl (wid_before c.wid b.wid) (key_before b.key c.key) refl
  where
    go : IsRising (put_entry b cs) → (t : Bool) → same_key b.key c.key ≡ t → (u k : Bool) → key_before b.key c.key ≡ k →
        IsRising (cond t (cond u (b ∷ cs) (c ∷ cs)) (cond k (b ∷ c ∷ cs) (c ∷ put_entry b cs)))
    go ih true e true k f = (λ d i. subst (λ (y : Key). key_before y d.key ≡ true) (sym (key_is b.key c.key e)) (r.0 d i), r.1)
    go ih true e false k f = r
    go ih false e u true f =
        (λ d i. elim i [ inl z ↦ subst (λ (y : BaseEntry). key_before b.key y.key ≡ true) (sym z) f | inr j ↦ key_trans b.key c.key d.key f (r.0 d j) ], r)
    go ih false e u false f = (λ d i. elim (put_of b cs d i) [ inl z ↦ subst (λ (y : BaseEntry). key_before c.key y.key ≡ true) (sym z) (key_order b.key c.key e f) | inr j ↦ r.0 d j ], ih)

pub puts_rising : (cs bs : List BaseEntry) → IsRising cs → IsRising (put_entries cs bs)
puts_rising cs [] r = r
puts_rising cs (b ∷ bs) r = puts_rising (put_entry b cs) bs (put_rising b cs r)
