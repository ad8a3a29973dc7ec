-- What a client's answers are, as it follows Notes: each label was told by a Note.
use Rattle.std.proofs.Common.{◌≡◌, ℕ, ℤ, ◌+◌, inl, inr, refl, sym, ◌∙◌, subst, true, false, Bool, List, [], ◌∷◌, ◌++◌, Option, Some, None, take, arith}
use Rattle.std.specs.Prelude.{cond, option_map, not, ◌&&◌, ◌-◌, nat_lt, unwrap_or}
use Rattle.std.specs.List.{slice_get, list_any, list_all}
use Rattle.std.specs.Ordering.{int_eq}
use Rattle.std.proofs.lemmas.Bool.Decides.{Decides-int_eq}
use Rattle.protocol.specs.Words.{Exec, Version, Wid, Key, Ending, Read, Write, Body, Content, Choice, Abandon, ToCommit, Note, Puts, Prepare, Finalize, Decide}
use Rattle.protocol.specs.Lists.{IsIn, one_when}
use Rattle.protocol.specs.declared.Held.{Held}
use Rattle.protocol.specs.declared.Fate.{Fate}
use Rattle.protocol.specs.Client.State.{Walk, Rules, ClientState, Turn, Answer, values, walk, walk_at, content, idle, may_put, reads_of}
use Rattle.protocol.specs.Client.Following.{Effect, prepare_if_idle, with_answer, rewind, follow_running, follow_prepared, note_running, note_prepared, note_at, note_on, place_of, answer_at, effect, next_label, surely, answers_question}
use Rattle.protocol.specs.Client.Deciding.{content_for, noted, ended, rewound, relabelled, next_execution, next_exec, conclude, decide, give_up, other_value, is_change, cut, moved_on}
use Rattle.protocol.specs.Client.Attempts.{prepare_if_ready, prepare_when, has_pending, question}
use Rattle.protocol.specs.Client.Following.Effect.{Nothing, Sure, Follow}
use Rattle.protocol.specs.World.State.{World}
use Rattle.protocol.specs.World.Decided.{WasSent}
use Rattle.protocol.specs.World.Premises.{IsProgramWalk}
use Rattle.law_serial.specs.Reads.{IsNoted}
use Rattle.protocol.proofs.TestLemmas.{and_right}
use Rattle.protocol.proofs.NamesLemmas.{key_is}
use Rattle.protocol.proofs.ListsLemmas.{IsIn-cases, IsIn-one_when, all_in}
use Rattle.law_serial.proofs.AnswersLemmas.{Fits, fits_append, fits_cut, fits_set, fits_get, fits_moved, fits_changed, place_get, read_at, effect_sure}

-- a label that Notes told
pub record LabelOK (w : World) (v : Version) (k : Key) (l : Held) : Type 0 where
  pub said : (s : Bool) × (lost : Option Wid) × WasSent w (Note v k l.wid l.value s lost)
  pub sure : l.sure ≡ true → (value : ℤ) × (lost : Option Wid) × WasSent w (Note v k l.wid value true lost)

pub record AnswerOK (w : World) (v : Version) (k : Key) (a : Answer) : Type 0 where
  pub label : LabelOK w v k a.label
  pub next : (l : Held) → a.next ≡ Some l → LabelOK w v k l

moves_on : (w : World) (v : Version) (k : Key) (a : Answer) → AnswerOK w v k a → AnswerOK w v k (moved_on a)
moves_on w v k a o = record { label = go a.next refl; next = λ l e. cc }
  where
    go : (n : Option Held) → a.next ≡ n → LabelOK w v k (unwrap_or n a.label)
    go None e = o.label
    go (Some l) e = o.next l e

abbrev pub SentOK : World → List Body → Type 0
SentOK w sent = (x : Exec) (k : Content) → IsIn (Prepare x k) sent → (rd : Read) → IsIn rd k.reads → IsNoted w x.ver rd

pub sent_append : (w : World) (xs ys : List Body) → SentOK w xs → SentOK w ys → SentOK w (xs ++ ys)
sent_append w xs ys s t x k i = elim (IsIn-cases (Prepare x k) xs ys i) [ inl j ↦ s x k j | inr j ↦ t x k j ]

pub sent_none : (w : World) → SentOK w []
sent_none w x k i = absurd i

pub sent_puts : (w : World) (t : Bool) (y : Exec) (ws : List Write) → SentOK w (one_when t (Puts y ws))
sent_puts w t y ws x k i = let j = IsIn-one_when t (Puts y ws) (Prepare x k) i in let e = j.1 in cc

pub sent_question : (w : World) (y : Exec) (o : Option Key) → SentOK w (question y o)
sent_question w y None x k i = absurd i
sent_question w y (Some l) x k (inl e) = cc
sent_question w y (Some l) x k (inr i) = absurd i

module _ (r : Rules) (prog : (n : ℕ) → IsProgramWalk (walk_at (slice_get r.txns n))) (w : World) where
  abbrev pub W : ClientState → List ℤ → Walk
  W c vs = walk_at (slice_get r.txns (c.begun - 1)) vs

  abbrev pub Good : ClientState → Type 0
  Good c = Fits (λ vs. walk_at (slice_get r.txns (c.begun - 1)) vs) (AnswerOK w c.exec.ver) [] c.answers

  abbrev pub TurnOK : Turn → Type 0
  TurnOK t = Good t.state × SentOK w t.sent

  pub settle_ok : (c : ClientState) (sent : List Body) → Good c → SentOK w sent → TurnOK (prepare_if_ready r c sent)
  unfolding prepare_if_ready content
  settle_ok c sent g s = go (walk r c).ending (list_all (λ (a : Answer). a.label.sure) c.answers) refl
    where
      noted_reads : (e : Ending) → list_all (λ (a : Answer). a.label.sure) c.answers ≡ true → (rd : Read) → IsIn rd (reads_of (walk r c).keys c.answers) →
          IsNoted w c.exec.ver rd
      noted_reads e q rd i =
          let a = read_at (walk r c).keys c.answers rd i in
          let o = fits_get (λ vs. walk_at (slice_get r.txns (c.begun - 1)) vs) (AnswerOK w c.exec.ver) [] c.answers a.place a.answer rd.key g a.found ((prog (c.begun - 1)).asked (values c.answers) a.place rd.key a.key) in
          let h = o.label.sure (all_in (λ (a : Answer). a.label.sure) c.answers a.answer q a.there) in
          let d = o.label.said in
          record {
            said = (d.0, d.1, subst (λ (z : Wid). WasSent w (Note c.exec.ver rd.key z rd.value d.0 d.1)) a.wid (subst (λ (z : ℤ). WasSent w (Note c.exec.ver rd.key a.answer.label.wid z d.0 d.1)) a.value d.2));
            sure = (h.0, h.1, subst (λ (z : Wid). WasSent w (Note c.exec.ver rd.key z h.0 true h.1)) a.wid h.2);
          }

      prepare : (e : Ending) → list_all (λ (a : Answer). a.label.sure) c.answers ≡ true → SentOK w (Prepare c.exec (content r c e) ∷ [])
      prepare e q x k (inl z) rd i = let a : x ≡ c.exec = cc in let b : k ≡ content r c e = cc in
          subst (λ (y : Exec). IsNoted w y.ver rd) (sym a) (noted_reads e q rd (subst (λ (y : Content). IsIn rd y.reads) b i))
      prepare e q x k (inr z) rd i = absurd z

      go : (o : Option Ending) (t : Bool) → list_all (λ (a : Answer). a.label.sure) c.answers ≡ t → TurnOK (prepare_when r c sent o t)
      go (Some e) true q = (g, sent_append w sent (Prepare c.exec (content r c e) ∷ []) s (prepare e q))
      go (Some e) false q = (g, s)
      go None t q = (g, s)

  next_ok : (c : ClientState) (sent : List Body) → Good c → SentOK w sent → TurnOK (next_execution r c sent)
  unfolding next_execution rewound relabelled
  next_ok c sent g s = go (list_any other_value c.answers) refl
    where
      go : (t : Bool) → list_any other_value c.answers ≡ t →
          TurnOK (cond t (record { state = rewound c (cut c.answers); sent = sent }) (prepare_if_ready r (relabelled c) (sent ++ one_when (may_put (walk r (relabelled c)).ending) (Puts (next_exec c.exec) (walk r (relabelled c)).writes))))
      go true q = (fits_changed (λ vs. walk_at (slice_get r.txns (c.begun - 1)) vs) (AnswerOK w c.exec.ver) (moves_on w c.exec.ver) [] c.answers g, s)
      go false q = settle_ok (relabelled c) _ (fits_moved (λ vs. walk_at (slice_get r.txns (c.begun - 1)) vs) (AnswerOK w c.exec.ver) (moves_on w c.exec.ver) [] c.answers g q)
          (sent_append w sent _ s (sent_puts w (may_put (walk r (relabelled c)).ending) (next_exec c.exec) (walk r (relabelled c)).writes))

  pub conclude_ok : (c : ClientState) (d : Choice) (sent : List Body) → Good c → SentOK w sent → TurnOK (conclude r c d sent)
  unfolding conclude
  conclude_ok c ToCommit sent g s = (g, s)
  conclude_ok c Abandon sent g s = go (list_any is_change c.answers && nat_lt (c.exec.eid + 1) r.execs)
    where
      go : (t : Bool) → TurnOK (cond t (next_execution r (noted c Abandon) sent) (record { state = ended (noted c Abandon) Fate.Aborted; sent = sent }))
      go true = next_ok (noted c Abandon) sent g s
      go false = (g, s)

  sent_decide : (x : Exec) (d : Choice) (o : Option Content) → SentOK w (Decide x d o ∷ [])
  sent_decide x d o y k (inl z) = cc
  sent_decide x d o y k (inr z) = absurd z

  pub sent_finalize : (x : Exec) (v : ℕ) (d : Choice) (o : Option Content) → SentOK w (Finalize x v d o ∷ [])
  sent_finalize x v d o y k (inl z) = cc
  sent_finalize x v d o y k (inr z) = absurd z

  pub decide_ok : (c : ClientState) (k : Content) (d : Choice) → Good c → TurnOK (decide r c k d)
  unfolding decide
  decide_ok c k d g = conclude_ok c d _ g (sent_decide c.exec d (content_for k d))

  pub give_up_ok : (c : ClientState) → Good c → TurnOK (give_up c)
  unfolding give_up
  give_up_ok c g = (g, sent_decide c.exec Abandon None)

  settle_idle_ok : (c : ClientState) → Good c → TurnOK (prepare_if_idle r c)
  unfolding prepare_if_idle
  settle_idle_ok c g = go (has_pending c.phase)
    where
      go : (t : Bool) → TurnOK (cond t (idle c) (prepare_if_ready r c []))
      go true = (g, sent_none w)
      go false = settle_ok c [] g (sent_none w)

  -- the key that is asked at place i
  abbrev Only : ClientState → ℕ → Key → Type 0
  Only c i k = (l : Key) → (walk_at (slice_get r.txns (c.begun - 1)) (take i (values c.answers))).asks ≡ Some l → l ≡ k

  fresh_answer : (v : Version) (k l : Key) (new : Held) → LabelOK w v k new → l ≡ k → AnswerOK w v l (record { label = new; next = None })
  fresh_answer v k l new n e = record { label = subst (λ (y : Key). LabelOK w v y new) (sym e) n; next = λ m z. cc }

  rewind_ok : (c : ClientState) (i : ℕ) (k : Key) (new : Held) → Good c → LabelOK w c.exec.ver k new → Only c i k → TurnOK (rewind r c i new)
  unfolding rewind rewound
  rewind_ok c i k new g n only = go (nat_lt (c.exec.eid + 1) r.execs)
    where
      go : (t : Bool) → TurnOK (cond t (idle (rewound c (take i c.answers ++ record { label = new; next = None } ∷ []))) (give_up c))
      go true = (fits_cut (λ vs. walk_at (slice_get r.txns (c.begun - 1)) vs) (AnswerOK w c.exec.ver) [] c.answers i (record { label = new; next = None }) g (λ l e. fresh_answer c.exec.ver k l new n (only l e)), sent_none w)
      go false = give_up_ok c g

  set_ok : (c : ClientState) (i : ℕ) (a : Answer) → Good c → (answer_at c i).label.value ≡ a.label.value →
      ((l : Key) → (walk_at (slice_get r.txns (c.begun - 1)) (take i (values c.answers))).asks ≡ Some l → AnswerOK w c.exec.ver l (answer_at c i) →
      AnswerOK w c.exec.ver l a) → Good (with_answer c i a)
  set_ok c i a g e f = fits_set (λ vs. walk_at (slice_get r.txns (c.begun - 1)) vs) (AnswerOK w c.exec.ver) [] c.answers i a g e f

  -- a label that a sure Note of its write name turned sure
  surer : (v : Version) (k l : Key) (old new : Held) → LabelOK w v k new → l ≡ k → (old.wid ≡ new.wid) × (new.sure ≡ true) → LabelOK w v l old →
      LabelOK w v l (surely old)
  surer v k l old new n e f o = record {
    said = o.said;
    sure = λ _. let h = n.sure f.1 in
        (h.0, h.1, subst (λ (z : Wid). WasSent w (Note v l z h.0 true h.1)) (sym f.0) (subst (λ (y : Key). WasSent w (Note v y new.wid h.0 true h.1)) (sym e) h.2));
  }

  follow_running_ok : (c : ClientState) (i : ℕ) (k : Key) (new : Held) (f : Effect) → Good c → LabelOK w c.exec.ver k new → Only c i k →
      (f ≡ Sure → ((answer_at c i).label.wid ≡ new.wid) × (new.sure ≡ true)) → TurnOK (follow_running r c i (answer_at c i) new f)
  unfolding follow_running
  follow_running_ok c i k new Nothing g n only h = (g, sent_none w)
  follow_running_ok c i k new Sure g n only h = settle_idle_ok _ (set_ok c i (record { label = surely (answer_at c i).label; next = None }) g refl
      (λ l e o. record { label = surer c.exec.ver k l (answer_at c i).label new n (only l e) (h refl) o.label; next = λ m z. cc }))
  follow_running_ok c i k new Follow g n only h = go (int_eq (answer_at c i).label.value new.value) refl
    where
      go : (t : Bool) → int_eq (answer_at c i).label.value new.value ≡ t →
          TurnOK (cond t (prepare_if_idle r (with_answer c i (record { label = new; next = None }))) (rewind r c i new))
      go true q = settle_idle_ok _ (set_ok c i (record { label = new; next = None }) g ((Decides-int_eq (answer_at c i).label.value new.value).0 q) (λ l e o. fresh_answer c.exec.ver k l new n (only l e)))
      go false q = rewind_ok c i k new g n only

  only_at : (c : ClientState) (k : Key) (i : ℕ) → place_of k 0 (walk r c).keys ≡ Some i → Only c i k
  only_at c k i e l q =
      let d = place_get k 0 (walk r c).keys i e in
      let same : d.0 ≡ i = (let z = d.1 in omega (arith, z)) in
      let a = (prog (c.begun - 1)).asked (values c.answers) d.0 k d.2 in
      some_is l k (sym q ∙ subst (λ j. (walk_at (slice_get r.txns (c.begun - 1)) (take j (values c.answers))).asks ≡ Some k) same a)
    where
      some_is : (a b : Key) → Some a ≡ Some b → a ≡ b
      some_is a b e = cc

  note_at_ok : (c : ClientState) (k : Key) (new : Held) (lost : Option Wid) (o : Option ℕ) → place_of k 0 (walk r c).keys ≡ o → Good c →
      LabelOK w c.exec.ver k new → TurnOK (note_at r c new lost o)
  unfolding note_at
  note_at_ok c k new lost None e g n = (g, sent_none w)
  note_at_ok c k new lost (Some i) e g n = follow_running_ok c i k new (effect (answer_at c i).label new lost) g n (only_at c k i e) (λ z. effect_sure (answer_at c i).label new lost z)

  answers_is : (o : Option Key) (k l : Key) → answers_question o k ≡ true → o ≡ Some l → l ≡ k
  answers_is None k l e f = cc
  answers_is (Some m) k l e f = let z : m ≡ l = cc in sym z ∙ sym (key_is k m e)

  note_on_ok : (c : ClientState) (k : Key) (new : Held) (lost : Option Wid) (t : Bool) → (t ≡ true → answers_question (walk r c).asks k ≡ true) → Good c →
      LabelOK w c.exec.ver k new → TurnOK (note_on r c k new lost t)
  unfolding note_on
  note_on_ok c k new lost true e g n = (fits_append (λ vs. walk_at (slice_get r.txns (c.begun - 1)) vs) (AnswerOK w c.exec.ver) [] c.answers (record { label = new; next = None }) g (λ l q. fresh_answer c.exec.ver k l new n (answers_is (walk r c).asks k l (e refl) q)), sent_none w)
  note_on_ok c k new lost false e g n = note_at_ok c k new lost (place_of k 0 (walk r c).keys) refl g n

  pub note_running_ok : (c : ClientState) (pending : Bool) (k : Key) (new : Held) (lost : Option Wid) → Good c → LabelOK w c.exec.ver k new →
      TurnOK (note_running r c pending k new lost)
  unfolding note_running
  note_running_ok c pending k new lost g n = note_on_ok c k new lost (not pending && answers_question (walk r c).asks k) (λ e. and_right (not pending) _ e) g n

  next_is : (v : Version) (k : Key) (a : Answer) → AnswerOK w v k a → LabelOK w v k (next_label a)
  next_is v k a o = go a.next refl
    where
      go : (n : Option Held) → a.next ≡ n → LabelOK w v k (unwrap_or n a.label)
      go None e = o.label
      go (Some l) e = o.next l e

  with_next : (v : Version) (k : Key) (a : Answer) (l : Held) → AnswerOK w v k a → LabelOK w v k l → AnswerOK w v k (record { label = a.label; next = Some l })
  with_next v k a l o n = record { label = o.label; next = λ m e. let z : l ≡ m = cc in subst (λ (y : Held). LabelOK w v k y) z n }

  surely_next : (v : Version) (k : Key) (a : Answer) → AnswerOK w v k a → LabelOK w v k (surely (next_label a)) →
      AnswerOK w v k (record { label = a.label; next = option_map surely a.next })
  surely_next v k a o s = record { label = o.label; next = λ m e. go m a.next refl e }
    where
      at_next : (n : Option Held) (l : Held) → n ≡ Some l → unwrap_or n a.label ≡ l
      at_next n l q = rw q refl

      go : (m : Held) (n : Option Held) → a.next ≡ n → option_map surely n ≡ Some m → LabelOK w v k m
      go m None q e = absurd cc
      go m (Some l) q e = let f : surely l ≡ m = cc in
          subst (λ (y : Held). LabelOK w v k y) f (subst (λ (y : Held). LabelOK w v k (surely y)) (at_next a.next l q) s)

  follow_prepared_ok : (c : ClientState) (i : ℕ) (k : Key) (new : Held) (f : Effect) → Good c → LabelOK w c.exec.ver k new → Only c i k →
      (f ≡ Sure → ((next_label (answer_at c i)).wid ≡ new.wid) × (new.sure ≡ true)) → Good (follow_prepared c i (answer_at c i) new f)
  follow_prepared_ok c i k new Nothing g n only h = g
  follow_prepared_ok c i k new Sure g n only h = set_ok c i (record { label = (answer_at c i).label; next = option_map surely (answer_at c i).next }) g refl
      (λ l e o. surely_next c.exec.ver l (answer_at c i) o (surer c.exec.ver k l (next_label (answer_at c i)) new n (only l e) (h refl) (next_is c.exec.ver l (answer_at c i) o)))
  follow_prepared_ok c i k new Follow g n only h = set_ok c i (record { label = (answer_at c i).label; next = Some new }) g refl
      (λ l e o. with_next c.exec.ver l (answer_at c i) new o (subst (λ (y : Key). LabelOK w c.exec.ver y new) (sym (only l e)) n))

  pub note_prepared_ok : (c : ClientState) (k : Key) (new : Held) (lost : Option Wid) → Good c → LabelOK w c.exec.ver k new →
      Good (note_prepared r c k new lost)
  unfolding note_prepared
  note_prepared_ok c k new lost g n = go (place_of k 0 (walk r c).keys) refl
    where
      go : (o : Option ℕ) → place_of k 0 (walk r c).keys ≡ o →
          Good (elim o [ None ↦ c | Some i ↦ follow_prepared c i (answer_at c i) new (effect (next_label (answer_at c i)) new lost) ])
      go None e = g
      go (Some i) e = follow_prepared_ok c i k new (effect (next_label (answer_at c i)) new lost) g n (only_at c k i e) (λ z. effect_sure (next_label (answer_at c i)) new lost z)
