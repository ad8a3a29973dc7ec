-- Whatever a replica says is an answer, a refusal or a Note, and comes from it.
use Rattle.std.proofs.Common.{◌≡◌, ℕ, inl, inr, refl, ap, sym, subst, true, false, Bool, List, ◌∷◌, ◌++◌, Some}
use Rattle.std.specs.Prelude.{cond, map, option_map}
use Rattle.protocol.specs.Words.{Exec, NodeId, Replica, Envelope, Body, Vote, Content, Get, Note, Prepare, Finalize, Ask, Fence, Voted}
use Rattle.protocol.specs.Lists.{IsIn, one_when}
use Rattle.protocol.specs.Replica.Taken.{Handled, takes}
use Rattle.protocol.specs.Replica.Votes.{casts, cast_on, new_cast, Cast, may_vote, verdict}
use Rattle.protocol.specs.declared.First2.{First2}
use Rattle.protocol.specs.Replica.Readers.{Reader, due, envelope_from, note_for, readers}
use Rattle.protocol.specs.Replica.Says.{says, answer, refusal}
use Rattle.protocol.proofs.NamesLemmas.{same_exec_refl}
use Rattle.protocol.proofs.ListsLemmas.{IsIn-cases, IsIn-map, IsIn-flat_map, IsIn-one_when}

abbrev pub IsNote : Body → Type 0
IsNote (Note v k wid value sure lost) = Unit {0}
IsNote _ = ⊥

-- what a replica says is an answer, a refusal or a Note
pub data Spoken (firsts : List First2) (r : ℕ) (h : Handled) (m e : Envelope) : Type 0 where
  Answers : takes h m.body ≡ true → IsIn e.body (answer firsts h m.body) → Spoken firsts r h m e
  Refuses : IsIn e.body (refusal h m.body) → Spoken firsts r h m e
  Notes : IsNote e.body → Spoken firsts r h m e

in_letter : (r : ℕ) (to : NodeId) (bs : List Body) (e : Envelope) → IsIn e (map (envelope_from r to) bs) → (e.from ≡ Replica r) × IsIn e.body bs
in_letter r to bs e i = let k = IsIn-map (envelope_from r to) e bs i in (ap (λ (m : Envelope). m.from) k.2, subst (λ b. IsIn b bs) (sym (ap (λ (m : Envelope). m.body) k.2)) k.1)

in_note : (firsts : List First2) (h h' : Handled) (r : ℕ) (reader : Reader) (e : Envelope) → IsIn e (note_for firsts h h' r reader) →
    (e.from ≡ Replica r) × IsNote e.body
unfolding note_for
in_note firsts h h' r reader e i = let k = IsIn-one_when _ _ e i in (rw k.1, rw k.1 tt)

in_due : (firsts : List First2) (h h' : Handled) (r : ℕ) (e : Envelope) → IsIn e (due firsts r h h') → (e.from ≡ Replica r) × IsNote e.body
unfolding due
in_due firsts h h' r e i = let k = IsIn-flat_map (note_for firsts h h' r) e (readers h) i in in_note firsts h h' r k.0 e k.2

pub spoken : (firsts : List First2) (r : ℕ) (h : Handled) (m e : Envelope) → IsIn e (says firsts r h m) → (e.from ≡ Replica r) × Spoken firsts r h m e
unfolding says
spoken firsts r h m e i = go (takes h m.body) refl i
  where
    go : (t : Bool) → takes h m.body ≡ t →
        IsIn e (cond t (map (envelope_from r m.from) (answer firsts h m.body) ++ due firsts r h (m ∷ h)) (map (envelope_from r m.from) (refusal h m.body))) →
        (e.from ≡ Replica r) × Spoken firsts r h m e
    go true q i = elim (IsIn-cases e (map (envelope_from r m.from) (answer firsts h m.body)) (due firsts r h (m ∷ h)) i) [
      | inl k ↦ let l = in_letter r m.from (answer firsts h m.body) e k in (l.0, Answers q l.1)
      | inr k ↦ let l = in_due firsts h (m ∷ h) r e k in (l.0, Notes l.1)
    ]
    go false q i = let l = in_letter r m.from (refusal h m.body) e i in (l.0, Refuses l.1)

vote_found : (x : Exec) (old : List Cast) (z : Exec) (c : Content) (w v : Vote) → Voted x v ≡ Voted z w →
    option_map (λ (y : Cast). y.vote) (cast_on x (record { exec = z; content = c; vote = w } ∷ old)) ≡ Some v
vote_found x old z c w v e = let f : z ≡ x = cc in let g : w ≡ v = cc in rw (f, same_exec_refl) (ap Some g)

pub voted_answer : (firsts : List First2) (h : Handled) (b : Body) (x : Exec) (v : Vote) → IsIn (Voted x v) (answer firsts h b) →
    option_map (λ (y : Cast). y.vote) (cast_on x (new_cast h (casts h) b ++ casts h)) ≡ Some v
unfolding answer
voted_answer firsts h (Prepare z c) x v i = go (may_vote h (casts h) z) i
  where
    go : (t : Bool) →
        IsIn (Voted x v) (map (λ (y : Cast). Voted y.exec y.vote) (one_when t (record { exec = z; content = c; vote = verdict h (casts h) z c }))) →
        option_map (λ (y : Cast). y.vote) (cast_on x (one_when t (record { exec = z; content = c; vote = verdict h (casts h) z c }) ++ casts h)) ≡ Some v
    go true (inl e) = vote_found x (casts h) z c (verdict h (casts h) z c) v e
    go true (inr i) = absurd i
    go false i = absurd i
voted_answer firsts h (Get y k) x v (inl e) = cc
voted_answer firsts h (Get y k) x v (inr e) = absurd e
voted_answer firsts h (Finalize y w d c) x v i = let k = IsIn-one_when _ _ (Voted x v) i in absurd (cc)
voted_answer firsts h (Ask y w) x v i = let k = IsIn-one_when _ _ (Voted x v) i in absurd (cc)
voted_answer firsts h (Fence w) x v (inl e) = cc
voted_answer firsts h (Fence w) x v (inr e) = absurd e
voted_answer firsts h _ x v i = absurd i
