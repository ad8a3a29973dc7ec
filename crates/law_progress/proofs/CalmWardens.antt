-- Wardens that were never told to recover or truncate do and say nothing.
use Rattle.std.proofs.Common.{◌≡◌, ℕ, ◌+◌, inl, inr, refl, ap, sym, ◌∙◌, subst, List, ◌++◌, Option, Some, None, length, arith, length-append}
use Rattle.std.specs.Prelude.{flat_map}
use Rattle.std.proofs.lemmas.Option.{slice_get_within}
use Rattle.protocol.specs.Words.{NodeId, Client, Warden, Envelope, Body, Told, Accepted, Fenced}
use Rattle.protocol.specs.Lists.{IsIn}
use Rattle.protocol.specs.Replica.Says.{says}
use Rattle.protocol.specs.Client.Counting.{sender}
use Rattle.protocol.specs.Client.State.{ClientState}
use Rattle.protocol.specs.Warden.State.{WardenRules, WardenState, WardenTurn, fresh_warden, still}
use Rattle.protocol.specs.Warden.Recovery.{recovery_hears, take_told, take_accept, heard}
use Rattle.protocol.specs.Warden.Step.{warden_hears, finished, fenced_from}
use Rattle.protocol.specs.Warden.Truncation.{take_fenced, finish}
use Rattle.protocol.specs.World.State.{Plan, World, first_world, warden_rules}
use Rattle.protocol.specs.World.Events.{to_all, parcel}
use Rattle.protocol.proofs.ListsLemmas.{IsIn-cases, at_cases}
use Rattle.law_steps.proofs.SendingLemmas.{from_to_all}
use Rattle.law_steps.proofs.SaysLemmas.{spoken}
use Rattle.law_progress.proofs.UndisturbedSteps.{Does, Takes, Acts, ClientAlone}
use Rattle.law_progress.proofs.UndisturbedSteps.Does.{Nothing, Client_takes, Client_goes, Client_runs, Replica_takes, Warden_takes}
use Rattle.law_progress.proofs.WaitingLemmas.{MarksWithin, in_marked}

-- a warden that did nothing hears what it will
pub hears_fresh : (r : WardenRules) (from : NodeId) (b : Body) → warden_hears r fresh_warden from b ≡ still fresh_warden
unfolding warden_hears recovery_hears take_told take_fenced finish
hears_fresh r from (Told x v vt ac de co) = go (sender r.replicas from)
  where
    f : ℕ → WardenTurn
    f k = take_told r fresh_warden x v (record { replica = k; vote = vt; accepted = ac; decided = de; content = co }) None

    go : (o : Option ℕ) → finished r (fenced_from r (heard fresh_warden f o) o (Told x v vt ac de co)) ≡ still fresh_warden
    go None = refl
    go (Some k) = refl
hears_fresh r from (Accepted x v) = go (sender r.replicas from)
  where
    go : (o : Option ℕ) → finished r (fenced_from r (heard fresh_warden (λ k. take_accept r fresh_warden x v k None) o) o (Accepted x v)) ≡ still fresh_warden
    go None = refl
    go (Some k) = refl
hears_fresh r from (Fenced v bs cs vs) = go (sender r.replicas from)
  where
    go : (o : Option ℕ) → finished r (fenced_from r (still fresh_warden) o (Fenced v bs cs vs)) ≡ still fresh_warden
    go None = refl
    go (Some k) = refl
hears_fresh r from b = other (sender r.replicas from)
  where
    other : (o : Option ℕ) → finished r (fenced_from r (still fresh_warden) o b) ≡ still fresh_warden
    other None = refl
    other (Some k) = refl

-- no warden has done anything, and only what was sent was delivered
pub record IsCalm (w : World) : Type 0 where
  pub wardens : (k : ℕ) → w.warden k ≡ fresh_warden
  pub silent : (e : Envelope) → IsIn e w.mail → (k : ℕ) → e.from ≡ Warden k → ⊥
  pub marks : MarksWithin w

pub calm_first : IsCalm first_world
calm_first = record { wardens = λ k. refl; silent = λ e i. absurd i; marks = λ i j. absurd j }

module _ (p : Plan) (w w' : World) (c : IsCalm w) where
  -- what a client or a replica sends is not from a warden
  more : (sent : List Envelope) → w'.mail ≡ w.mail ++ sent → ((e : Envelope) → IsIn e sent → (k : ℕ) → e.from ≡ Warden k → ⊥) → (e : Envelope) →
      IsIn e w'.mail → (k : ℕ) → e.from ≡ Warden k → ⊥
  more sent q f e i = elim (IsIn-cases e w.mail sent (subst (λ (l : List Envelope). IsIn e l) q i)) [ inl j ↦ c.silent e j | inr j ↦ f e j ]

  of_client : (d : ℕ) (bs : List Body) (e : Envelope) → IsIn e (flat_map (to_all p.replicas (Client d)) bs) → (k : ℕ) → e.from ≡ Warden k → ⊥
  of_client d bs e i k q = let z = (from_to_all p.replicas (Client d) bs e i).0 in cc

  of_replica : (r : ℕ) (m e : Envelope) → IsIn e (says p.firsts r (w.replica r) m) → (k : ℕ) → e.from ≡ Warden k → ⊥
  of_replica r m e i k q = let z = (spoken p.firsts r (w.replica r) m e i).0 in cc

  acts_marks : (sent : List Envelope) → Acts w w' sent → MarksWithin w'
  acts_marks sent a i j = let k = c.marks i (subst (λ (l : List ℕ). IsIn i l) a.delivered j) in
      let e : length w'.mail ≡ length w.mail + length sent = ap length a.mail ∙ length-append w.mail sent in omega (arith, k, e)

  takes_marks : (i : ℕ) (m : Envelope) (sent : List Envelope) → Takes w w' i m sent → MarksWithin w'
  takes_marks i m sent t j k =
      let e : length w'.mail ≡ length w.mail + length sent = ap length t.mail ∙ length-append w.mail sent in
      elim (in_marked i j w.delivered (subst (λ (l : List ℕ). IsIn j l) t.delivered k)) [
        | inl z ↦ (let y = c.marks j z in omega (arith, y, e))
        | inr z ↦ (let y = slice_get_within w.mail i m t.place in omega (arith, y, e, z))
      ]

  client_wardens : (d : ℕ) (s : ClientState) → ClientAlone w w' d s → (k : ℕ) → w'.warden k ≡ fresh_warden
  client_wardens d s a k = ap (λ (f : ℕ → WardenState). f k) a.warden ∙ c.wardens k

  pub calm_step : Does p w w' → IsCalm w'
  calm_step (Nothing e) = subst IsCalm (sym e) c
  calm_step (Client_takes d i m to t a) = record { wardens = client_wardens d _ a; silent = more _ t.mail (of_client d _); marks = takes_marks i m _ t }
  calm_step (Client_goes d g t a) = record { wardens = client_wardens d _ a; silent = more _ t.mail (of_client d _); marks = acts_marks _ t }
  calm_step (Client_runs d g q t a) = record { wardens = client_wardens d _ a; silent = more _ t.mail (of_client d _); marks = acts_marks _ t }
  calm_step (Replica_takes r i m to t a b d) = record {
    wardens = λ k. ap (λ (f : ℕ → WardenState). f k) d
        ∙ c.wardens k;
    silent = more _ t.mail (of_replica r m);
    marks = takes_marks i m _ t;
  }
  calm_step (Warden_takes k i m to t a b d) = record {
    wardens = λ j. ap (λ (f : ℕ → WardenState). f j) d
        ∙ at_cases (λ (s : WardenState). s ≡ fresh_warden) k _ w.warden j (λ e. ap (λ (u : WardenTurn). u.state) still_fresh) (c.wardens j);
    silent = more _ t.mail (λ e j. absurd (subst (λ (u : WardenTurn). IsIn e (flat_map (parcel p.replicas (Warden k)) u.sent)) still_fresh j));
    marks = takes_marks i m _ t;
  }
    where
      still_fresh : warden_hears (warden_rules p k) (w.warden k) m.from m.body ≡ still fresh_warden
      still_fresh = ap (λ (s : WardenState). warden_hears (warden_rules p k) s m.from m.body) (c.wardens k) ∙ hears_fresh (warden_rules p k) m.from m.body
