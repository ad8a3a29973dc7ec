-- Which Notes and refusals replicas send, and why.
use Rattle.std.proofs.Common.{◌≡◌, ℕ, ℤ, ◌⊎◌, inl, inr, refl, ap, sym, subst, true, false, Bool, List, [], ◌∷◌, ◌++◌, Option, None}
use Rattle.std.specs.Prelude.{cond, ◌&&◌, ◌||◌, map}
use Rattle.protocol.specs.Words.{Exec, Key, Version, Wid, Envelope, Body, Get, Note, Prepare, Finalize, Ask, Fence, TooOld, Voted, before, same_key, same_version, key_before}
use Rattle.protocol.specs.declared.First2.{First2}
use Rattle.protocol.specs.Lists.{IsIn}
use Rattle.protocol.specs.Replica.Taken.{Handled, takes, after_taking, dropped}
use Rattle.protocol.specs.Replica.Held.{first_held, first_value, latest}
use Rattle.protocol.specs.Replica.Votes.{Cast, casts, new_cast}
use Rattle.protocol.specs.Replica.Readers.{Reader, readers, reader_after, put_reader, same_held, due, note_for, envelope_from}
use Rattle.protocol.specs.Replica.Says.{says, answer, refusal}
use Rattle.protocol.specs.World.State.{Plan, World}
use Rattle.protocol.proofs.TestLemmas.{and_right}
use Rattle.protocol.proofs.ListsLemmas.{IsIn-cases, IsIn-map, IsIn-flat_map, IsIn-one_when}
use Rattle.std.proofs.lemmas.Bool.{not-true}
use Rattle.law_steps.proofs.Reach.{Reach}
use Rattle.law_steps.proofs.Induction.{ReplicasSaid, replicas_said_reach}

-- each envelope of g is one of h
abbrev pub Within : Handled → Handled → Type 0
Within g h = (m : Envelope) → IsIn m g → IsIn m h

-- a Get of the key at the version was taken
pub record WasGot (h : Handled) (v : Version) (k : Key) : Type 0 where
  pub exec : Exec
  pub envelope : Envelope
  pub there : IsIn envelope h
  pub body : envelope.body ≡ Get exec k
  pub version : exec.ver ≡ v

-- a Note tells what is latest, to one who asked; it names a write as gone only where what is latest had changed
pub record NoteFrom (firsts : List First2) (h : Handled) (v : Version) (k : Key) (wid : Wid) (value : ℤ) (s : Bool) (lost : Option Wid) : Type 0 where
  pub asked : WasGot h v k
  pub list : Handled
  pub within : Within list h
  pub told : record { wid = wid; value = value; sure = s } ≡ latest firsts list k v
  pub gone : (lost ≡ None) ⊎ ((g : Handled) × Within g h × (same_held (latest firsts g k v) (latest firsts list k v) ≡ false))

-- what a Note or a refusal stands for
abbrev pub Told : List First2 → ℕ → Handled → Body → Type 0
Told firsts r h (Note v k wid value s lost) = NoteFrom firsts h v k wid value s lost
Told firsts r h (TooOld v u) = (g : Handled) × Within g h × (before (dropped g) v ≡ false)
Told firsts r h _ = Unit {0}

taking_within : (h : Handled) (m : Envelope) → Within h (after_taking h m)
unfolding after_taking
taking_within h m n i = go (takes h m.body)
  where
    go : (t : Bool) → IsIn n (cond t (m ∷ h) h)
    go true = inr i
    go false = i

got_more : (h g : Handled) (v : Version) (k : Key) → Within h g → WasGot h v k → WasGot g v k
got_more h g v k f t = record { exec = t.exec; envelope = t.envelope; there = f t.envelope t.there; body = t.body; version = t.version }

told_more : (firsts : List First2) (r : ℕ) (h : Handled) (m : Envelope) (b : Body) → Told firsts r h b → Told firsts r (after_taking h m) b
told_more firsts r h m (Note v k wid value s lost) t = record {
  asked = got_more h (after_taking h m) v k (taking_within h m) t.asked;
  list = t.list;
  within = λ n i. taking_within h m n (t.within n i);
  told = t.told;
  gone = elim t.gone [ inl e ↦ inl e | inr g ↦ inr (g.0, (λ n i. taking_within h m n (g.1 n i)), g.2) ];
}
told_more firsts r h m (TooOld v u) t = (t.0, (λ n i. taking_within h m n (t.1 n i)), t.2)
told_more firsts r h m _ t = tt

-- a reader asked
in_readers : (r s : Reader) (rs : List Reader) → IsIn s (put_reader r rs) → (s ≡ r) ⊎ IsIn s rs
in_readers r s [] (inl e) = inl e
in_readers r s [] (inr f) = absurd f
in_readers r s (t ∷ ts) i = go (λ j. in_readers r s ts j) (key_before r.key t.key || (same_key r.key t.key && before r.ver t.ver)) (same_key r.key t.key && same_version r.ver t.ver) i
  where
    go : (IsIn s (put_reader r ts) → (s ≡ r) ⊎ IsIn s ts) → (a b : Bool) → IsIn s (cond a (r ∷ t ∷ ts) (cond b (t ∷ ts) (t ∷ put_reader r ts))) →
        (s ≡ r) ⊎ IsIn s (t ∷ ts)
    go ih true b (inl e) = inl e
    go ih true b (inr j) = inr j
    go ih false true j = inr j
    go ih false false (inl e) = inr (inl e)
    go ih false false (inr j) = elim (ih j) [ inl e ↦ inl e | inr k ↦ inr (inr k) ]

reader_asked : (h : Handled) (s : Reader) → IsIn s (readers h) → WasGot h s.ver s.key
reader_asked [] s i = absurd i
reader_asked (m ∷ h) s i = go (λ j. got_more h (m ∷ h) s.ver s.key (λ n k. inr k) (reader_asked h s j)) m.body refl i
  where
    go : (IsIn s (readers h) → WasGot (m ∷ h) s.ver s.key) → (b : Body) → m.body ≡ b → IsIn s (reader_after (readers h) b) → WasGot (m ∷ h) s.ver s.key
    go older (Get x k) q i = elim (in_readers (record { key = k; ver = x.ver }) s (readers h) i) [
      | inl e ↦ subst (λ (z : Reader). WasGot (m ∷ h) z.ver z.key) (sym e) (record { exec = x; envelope = m; there = inl refl; body = q; version = refl })
      | inr j ↦ older j
    ]
    go older _ q i = older i

answer_told : (firsts : List First2) (r : ℕ) (h : Handled) (m : Envelope) (b c : Body) → m.body ≡ b → IsIn c (answer firsts h b) → Told firsts r (m ∷ h) c
unfolding answer
answer_told firsts r h m (Get x k) c q (inl e) = subst (λ (z : Body). Told firsts r (m ∷ h) z) (sym e) (record {
  asked = record { exec = x; envelope = m; there = inl refl; body = q; version = refl };
  list = h;
  within = λ n i. inr i;
  told = refl;
  gone = inl refl;
})
answer_told firsts r h m (Get x k) c q (inr e) = absurd e
answer_told firsts r h m (Prepare x k) c q i = let j = IsIn-map (λ (y : Cast). Voted y.exec y.vote) c (new_cast h (casts h) (Prepare x k)) i in
    subst (λ (z : Body). Told firsts r (m ∷ h) z) (sym j.2) tt
answer_told firsts r h m (Finalize x u d k) c q i = let j = IsIn-one_when _ _ c i in subst (λ (z : Body). Told firsts r (m ∷ h) z) (sym j.1) tt
answer_told firsts r h m (Ask x u) c q i = let j = IsIn-one_when _ _ c i in subst (λ (z : Body). Told firsts r (m ∷ h) z) (sym j.1) tt
answer_told firsts r h m (Fence u) c q (inl e) = subst (λ (z : Body). Told firsts r (m ∷ h) z) (sym e) tt
answer_told firsts r h m (Fence u) c q (inr e) = absurd e
answer_told firsts r h m _ c q i = absurd i

refusal_told : (firsts : List First2) (r : ℕ) (h : Handled) (b c : Body) → takes h b ≡ false → IsIn c (refusal h b) → Told firsts r h c
unfolding takes
refusal_told firsts r h (Get x k) c q (inl e) = subst (λ (z : Body). Told firsts r h z) (sym e) (h, (λ n i. i), go (before (dropped h) x.ver) refl q)
  where
    go : (t : Bool) → before (dropped h) x.ver ≡ t → (t && true) ≡ false → before (dropped h) x.ver ≡ false
    go true e f = cc
    go false e f = e
refusal_told firsts r h (Get x k) c q (inr e) = absurd e
refusal_told firsts r h _ c q i = absurd i

due_told : (firsts : List First2) (r : ℕ) (h : Handled) (m e : Envelope) → IsIn e (due firsts r h (m ∷ h)) → Told firsts r (m ∷ h) e.body
unfolding due note_for
due_told firsts r h m e i =
    let k = IsIn-flat_map (note_for firsts h (m ∷ h) r) e (readers h) i in
    let j = IsIn-one_when _ _ e k.2 in
    subst (λ (z : Envelope). Told firsts r (m ∷ h) z.body) (sym j.1) (record {
      asked = got_more h (m ∷ h) k.0.ver k.0.key (λ n i. inr i) (reader_asked h k.0 k.1);
      list = m ∷ h;
      within = λ n i. i;
      told = refl;
      gone = inr (h, (λ n i. inr i), not-true (same_held (latest firsts h k.0.key k.0.ver) (latest firsts (m ∷ h) k.0.key k.0.ver)) (and_right (before (dropped (m ∷ h)) k.0.ver) _ j.0));
    })

said_told : (firsts : List First2) (r : ℕ) (h : Handled) (m e : Envelope) → IsIn e (says firsts r h m) → Told firsts r (after_taking h m) e.body
unfolding says after_taking
said_told firsts r h m e i = go (takes h m.body) refl i
  where
    body_in : (bs : List Body) → IsIn e (map (envelope_from r m.from) bs) → IsIn e.body bs
    body_in bs i = let k = IsIn-map (envelope_from r m.from) e bs i in subst (λ b. IsIn b bs) (sym (ap (λ (z : Envelope). z.body) k.2)) k.1

    go : (t : Bool) → takes h m.body ≡ t →
        IsIn e (cond t (map (envelope_from r m.from) (answer firsts h m.body) ++ due firsts r h (m ∷ h)) (map (envelope_from r m.from) (refusal h m.body))) →
        Told firsts r (cond t (m ∷ h) h) e.body
    go true q i = elim (IsIn-cases e (map (envelope_from r m.from) (answer firsts h m.body)) (due firsts r h (m ∷ h)) i) [
      | inl j ↦ answer_told firsts r h m m.body e.body refl (body_in (answer firsts h m.body) j)
      | inr j ↦ due_told firsts r h m e j
    ]
    go false q i = refusal_told firsts r h m.body e.body q (body_in (refusal h m.body) i)

pub told_reach : (p : Plan) (w : World) → Reach p w → ReplicasSaid (Told p.firsts) w
told_reach p w q = replicas_said_reach p (Told p.firsts) (told_more p.firsts) (λ v t r m e _ i. said_told p.firsts r (v.replica r) m e i) w q

-- a first value is the same as itself, and each first value is one
pub first_shape : (firsts : List First2) (k : Key) → (u : ℤ) × (first_held firsts k ≡ first_value u)
first_shape [] k = (_, refl)
first_shape (f ∷ fs) k = go (same_key k f.key) (first_shape fs k)
  where
    go : (t : Bool) → (u : ℤ) × (first_held fs k ≡ first_value u) → (u : ℤ) × (cond t (first_value f.value) (first_held fs k) ≡ first_value u)
    go true h = (f.value, refl)
    go false h = h
