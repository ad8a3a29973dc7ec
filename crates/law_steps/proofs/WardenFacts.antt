-- What a warden sent it knows for good: its rounds, their proposals and its decisions.
use Rattle.std.proofs.Common.{◌≡◌, ℕ, ◌<◌, ◌≤◌, ◌+◌, ◌*◌, ◌⊎◌, inl, inr, refl, ap, sym, ◌∙◌, subst, true, false, Bool, cond, List, [], ◌∷◌, Some, None, arith}
use Rattle.std.specs.Prelude.{suc, ◌&&◌, ◌==◌, nat_lt, nat_le}
use Rattle.std.proofs.lemmas.Bool.Decides.{nat_tests}
use Rattle.std.proofs.Math.Nat.{mul-le-mul_right}
use Rattle.protocol.specs.Words.{Exec, NodeId, Body, Finalize, Decide, Ask, Fence, Drops, same_exec}
use Rattle.protocol.specs.Lists.{one_when, IsIn}
use Rattle.protocol.specs.Warden.State.{WardenRules, WardenState, Round, Proposal, DecidedProposal, Parcel}
use Rattle.protocol.specs.Warden.Recovery.{with_accept, recover, next_view, round_of, with_round, to_client, used}
use Rattle.protocol.specs.Warden.State.Parcel.{To_all, To_client}
use Rattle.protocol.specs.World.State.{Plan, World, in_range, warden_rules}
use Rattle.protocol.proofs.TestLemmas.{and_left, and_right, eqb_is, le_is, lt_is}
use Rattle.protocol.proofs.NamesLemmas.{exec_is, same_exec_refl}
use Rattle.law_steps.proofs.WardenActs.{WardenAct, told_round}
use Rattle.law_steps.proofs.WardenActs.WardenAct.{Rests, Asks, Counts_told, Counts_accepted, Begins_truncation, Counts_fenced, Ends_truncation}
use Rattle.law_steps.proofs.Reach.{Reach, HeardAt}
use Rattle.law_steps.proofs.Induction.{WardensSaid, wardens_said_reach, on_wardens}
use Rattle.law_steps.proofs.SendingLemmas.{parcel_body}

-- the round found is in the list, and is that of x in view v
pub round_found : (x : Exec) (v : ℕ) (rounds : List Round) (a : Round) → round_of x v rounds ≡ Some a → IsIn a rounds × (a.exec ≡ x) × (a.view ≡ v)
round_found x v [] a e = cc
round_found x v (b ∷ rounds) a e = go (λ f. round_found x v rounds a f) (same_exec x b.exec && (b.view == v)) refl e
  where
    go : (round_of x v rounds ≡ Some a → IsIn a rounds × (a.exec ≡ x) × (a.view ≡ v)) → (t : Bool) → (same_exec x b.exec && (b.view == v)) ≡ t →
        cond t (Some b) (round_of x v rounds) ≡ Some a → IsIn a (b ∷ rounds) × (a.exec ≡ x) × (a.view ≡ v)
    go ih true q e = let f : b ≡ a = cc in (inl (sym f), ap (λ (z : Round). z.exec) (sym f) ∙ sym (exec_is x b.exec (and_left _ _ q)), ap (λ (z : Round). z.view) (sym f) ∙ eqb_is b.view v (and_right _ _ q))
    go ih false q e = let k = ih e in (inr k.0, k.1, k.2)

eqb_self : (v : ℕ) → (v == v) ≡ true
eqb_self v = grind (arith, nat_tests)

-- the round that was put is the one found; for another execution or view the one found stays
pub put_found : (x : Exec) (v : ℕ) (new : Round) (rounds : List Round) (a : Round) → new.exec ≡ x → new.view ≡ v → round_of x v rounds ≡ Some a →
    round_of x v (with_round x v new rounds) ≡ Some new
put_found x v new [] a e f q = cc
put_found x v new (b ∷ rounds) a e f q = go (λ g. put_found x v new rounds a e f g) (same_exec x b.exec && (b.view == v)) refl q
  where
    hit : (same_exec x new.exec && (new.view == v)) ≡ true
    hit = rw (e, f, same_exec_refl, eqb_self) refl

    go : (round_of x v rounds ≡ Some a → round_of x v (with_round x v new rounds) ≡ Some new) → (t : Bool) → (same_exec x b.exec && (b.view == v)) ≡ t →
        cond t (Some b) (round_of x v rounds) ≡ Some a → round_of x v (cond t (new ∷ rounds) (b ∷ with_round x v new rounds)) ≡ Some new
    go ih true g q = rw hit refl
    go ih false g q = rw g (ih q)

pub put_kept : (x y : Exec) (v u : ℕ) (new : Round) (rounds : List Round) (a c : Round) → new.exec ≡ x → new.view ≡ v → round_of x v rounds ≡ Some a →
    round_of y u rounds ≡ Some c → (round_of y u (with_round x v new rounds) ≡ Some c) ⊎ ((y ≡ x) × (u ≡ v))
put_kept x y v u new [] a c e f q r = cc
put_kept x y v u new (b ∷ rounds) a c e f q r = go (λ g h. put_kept x y v u new rounds a c e f g h) (same_exec x b.exec && (b.view == v)) refl q (same_exec y b.exec && (b.view == u)) refl r (same_exec y new.exec && (new.view == u)) refl
  where
    go : (round_of x v rounds ≡ Some a → round_of y u rounds ≡ Some c → (round_of y u (with_round x v new rounds) ≡ Some c) ⊎ ((y ≡ x) × (u ≡ v)))
        → (t : Bool) → (same_exec x b.exec && (b.view == v)) ≡ t → cond t (Some b) (round_of x v rounds) ≡ Some a
        → (z : Bool) → (same_exec y b.exec && (b.view == u)) ≡ z → cond z (Some b) (round_of y u rounds) ≡ Some c
        → (s : Bool) → (same_exec y new.exec && (new.view == u)) ≡ s
        → (round_of y u (cond t (new ∷ rounds) (b ∷ with_round x v new rounds)) ≡ Some c) ⊎ ((y ≡ x) × (u ≡ v))
    go ih true g q z h r true k = inr (exec_is y new.exec (and_left _ _ k) ∙ e, sym (eqb_is new.view u (and_right _ _ k)) ∙ f)
    go ih true g q true h r false k = inr (exec_is y b.exec (and_left _ _ h) ∙ sym (exec_is x b.exec (and_left _ _ g)), sym (eqb_is b.view u (and_right _ _ h)) ∙ eqb_is b.view v (and_right _ _ g))
    go ih true g q false h r false k = inl (rw k r)
    go ih false g q true h r s k = inl (rw h r)
    go ih false g q false h r s k = elim (ih q r) [ inl z ↦ inl (rw h z) | inr z ↦ inr z ]

-- what is in the list after a put
pub put_in : (x : Exec) (v : ℕ) (new : Round) (rounds : List Round) (a : Round) → IsIn a (with_round x v new rounds) → (a ≡ new) ⊎ IsIn a rounds
put_in x v new [] a i = absurd i
put_in x v new (b ∷ rounds) a i = go (λ j. put_in x v new rounds a j) (same_exec x b.exec && (b.view == v)) i
  where
    go : (IsIn a (with_round x v new rounds) → (a ≡ new) ⊎ IsIn a rounds) → (t : Bool) → IsIn a (cond t (new ∷ rounds) (b ∷ with_round x v new rounds)) →
        (a ≡ new) ⊎ IsIn a (b ∷ rounds)
    go ih true (inl e) = inl e
    go ih true (inr i) = inr (inr i)
    go ih false (inl e) = inr (inl e)
    go ih false (inr i) = elim (ih i) [ inl e ↦ inl e | inr j ↦ inr (inr j) ]

-- how often x was asked for stays under a put
pub put_used : (x y : Exec) (v : ℕ) (new : Round) (rounds : List Round) → new.exec ≡ x → used y (with_round x v new rounds) ≡ used y rounds
put_used x y v new [] e = refl
put_used x y v new (b ∷ rounds) e = go (put_used x y v new rounds e) (same_exec x b.exec && (b.view == v)) refl
  where
    go : used y (with_round x v new rounds) ≡ used y rounds → (t : Bool) → (same_exec x b.exec && (b.view == v)) ≡ t →
        used y (cond t (new ∷ rounds) (b ∷ with_round x v new rounds)) ≡ used y (b ∷ rounds)
    go ih true q = let f : new.exec ≡ b.exec = e ∙ exec_is x b.exec (and_left _ _ q) in rw f refl
    go ih false q = rw ih refl

-- each round has a view of this warden, among those used
abbrev pub IsNumbered : ℕ → ℕ → List Round → Round → Type 0
IsNumbered k n rounds a = (i : ℕ) × (i < used a.exec rounds) × (a.view ≡ k + i * n)

pub later_view : (k n i u : ℕ) → 0 < n → i < u → k + i * n < k + u * n
later_view k n i u p l = let m : suc i * n ≤ u * n = mul-le-mul_right n l in omega (arith, m)

pub record WRec (n k : ℕ) (s : WardenState) : Type 0 where
  pub numbered : (a : Round) → IsIn a s.rounds → IsNumbered k n s.rounds a

abbrev pub WFact : ℕ → ℕ → WardenState → Body → Type 0
WFact n k s (Finalize x v d o) =
    ((0 < k) × (k ≤ n)) × ((a : Round) × (round_of x v s.rounds ≡ Some a) × (a.proposal ≡ Some (record { choice = d; content = o })))
WFact n k s (Decide x d o) = IsIn (record { exec = x; proposal = record { choice = d; content = o } }) s.decisions
WFact n k s (Ask x v) = Unit {0}
WFact n k s (Fence v) = Unit {0}
WFact n k s (Drops v b) = Unit {0}
WFact n k s _ = ⊥

-- a round with a proposal keeps it
abbrev pub Proposed : Exec → ℕ → Proposal → List Round → Type 0
Proposed x v p rounds = (a : Round) × (round_of x v rounds ≡ Some a) × (a.proposal ≡ Some p)

-- one more round for x
used_new : (x : Exec) (rounds : List Round) → used x rounds < cond (same_exec x x) (suc (used x rounds)) (used x rounds)
used_new x rounds = go (same_exec x x) (same_exec_refl x)
  where
    go : (t : Bool) → t ≡ true → used x rounds < cond t (suc (used x rounds)) (used x rounds)
    go true e = omega arith
    go false e = cc

module _ (r : WardenRules) (Got : NodeId → Body → Type 0) (s s' : WardenState) (sent : List Parcel) (pos : 0 < r.wardens) (range : (0 < r.warden) × (r.warden ≤ r.wardens)) where
  used_more : (x y : Exec) (rounds : List Round) (new : Round) → new.exec ≡ x → used y rounds ≤ used y (new ∷ rounds)
  used_more x y rounds new e = go (same_exec y new.exec)
    where
      go : (t : Bool) → used y rounds ≤ cond t (suc (used y rounds)) (used y rounds)
      go true = omega arith
      go false = omega arith

  put_numbered : WRec r.wardens r.warden s → (x : Exec) (v : ℕ) (a new : Round) → round_of x v s.rounds ≡ Some a → new.exec ≡ a.exec → new.view ≡ a.view →
      (b : Round) → IsIn b (with_round x v new s.rounds) → IsNumbered r.warden r.wardens (with_round x v new s.rounds) b
  put_numbered t x v a new q e f b i = let f0 = round_found x v s.rounds a q in go f0 (put_in x v new s.rounds b i)
    where
      go : IsIn a s.rounds × (a.exec ≡ x) × (a.view ≡ v) → (b ≡ new) ⊎ IsIn b s.rounds → IsNumbered r.warden r.wardens (with_round x v new s.rounds) b
      go g (inl z) = let k = t.numbered a g.0 in (k.0, subst (λ (y : ℕ). k.0 < y) (sym (put_used x b.exec v new s.rounds (e ∙ g.1))) (subst (λ (y : Exec). k.0 < used y s.rounds) (sym (ap (λ (y : Round). y.exec) z ∙ e)) k.1), ap (λ (y : Round). y.view) z ∙ f ∙ k.2)
      go g (inr j) = let k = t.numbered b j in (k.0, subst (λ (y : ℕ). k.0 < y) (sym (put_used x b.exec v new s.rounds (e ∙ g.1))) k.1, k.2)

  pub act_numbered : WardenAct r Got s s' sent → WRec r.wardens r.warden s → WRec r.wardens r.warden s'
  unfolding recover next_view
  act_numbered (Rests act) t = rw act.state t
  act_numbered (Asks act) t = rw act.state (record { numbered = go })
    where
      New : Round
      New = record { exec = act.exec; view = r.warden + used act.exec s.rounds * r.wardens; tolds = []; proposal = None; accepts = [] }

      go : (a : Round) →
          IsIn a (record { exec = act.exec; view = r.warden + used act.exec s.rounds * r.wardens; tolds = []; proposal = None; accepts = [] } ∷ s.rounds) →
          IsNumbered r.warden r.wardens (record { exec = act.exec; view = r.warden + used act.exec s.rounds * r.wardens; tolds = []; proposal = None; accepts = [] } ∷ s.rounds) a
      go a (inl z) = subst (λ (b : Round). IsNumbered r.warden r.wardens (record { exec = act.exec; view = r.warden + used act.exec s.rounds * r.wardens; tolds = []; proposal = None; accepts = [] } ∷ s.rounds) b) (sym z) (used act.exec s.rounds, used_new act.exec s.rounds, refl)
      go a (inr i) = let k = t.numbered a i in let m = used_more act.exec a.exec s.rounds (record { exec = act.exec; view = r.warden + used act.exec s.rounds * r.wardens; tolds = []; proposal = None; accepts = [] }) refl in (k.0, (let l = k.1 in omega (arith, l, m)), k.2)
  act_numbered (Counts_told act) t =
      rw act.state (record { numbered = put_numbered t act.exec act.view act.round (told_round act.round act.told act.proposal) act.found refl refl })
  act_numbered (Counts_accepted act) t = record { numbered = subst (λ (rounds : List Round). (b : Round) → IsIn b rounds → IsNumbered r.warden r.wardens rounds b) (sym act.rounds) (put_numbered t act.exec act.view act.round (with_accept act.round act.proposal act.replica) act.found refl refl) }
  act_numbered (Begins_truncation act) t = rw act.state (record { numbered = t.numbered })
  act_numbered (Counts_fenced act) t = rw act.state (record { numbered = t.numbered })
  act_numbered (Ends_truncation act) t = rw act.state (record { numbered = t.numbered })

  put_proposed : (x y : Exec) (v u : ℕ) (a new : Round) (p : Proposal) → round_of x v s.rounds ≡ Some a → new.exec ≡ a.exec → new.view ≡ a.view →
      ((q : Proposal) → a.proposal ≡ Some q → new.proposal ≡ Some q) → Proposed y u p s.rounds → Proposed y u p (with_round x v new s.rounds)
  put_proposed x y v u a new p q e f k h = let g = round_found x v s.rounds a q in go g (put_kept x y v u new s.rounds a h.0 (e ∙ g.1) (f ∙ g.2) q h.1)
    where
      go : IsIn a s.rounds × (a.exec ≡ x) × (a.view ≡ v) → (round_of y u (with_round x v new s.rounds) ≡ Some h.0) ⊎ ((y ≡ x) × (u ≡ v)) →
          Proposed y u p (with_round x v new s.rounds)
      go g (inl z) = (h.0, z, h.2)
      go g (inr z) = let same : Some a ≡ Some h.0 = sym q ∙ sym (ap (λ (y : Exec). round_of y v s.rounds) z.0) ∙ sym (ap (λ (u : ℕ). round_of y u s.rounds) z.1) ∙ h.1 in
          let same2 : a ≡ h.0 = cc in
          (new, subst (λ (y : Exec). round_of y u (with_round x v new s.rounds) ≡ Some new) (sym z.0) (subst (λ (u : ℕ). round_of x u (with_round x v new s.rounds) ≡ Some new) (sym z.1) (put_found x v new s.rounds a (e ∙ g.1) (f ∙ g.2) q)), k p (rw same2 h.2))

  pub act_proposed : WardenAct r Got s s' sent → WRec r.wardens r.warden s → (y : Exec) (u : ℕ) (p : Proposal) → Proposed y u p s.rounds →
      Proposed y u p s'.rounds
  unfolding recover next_view
  act_proposed (Rests act) t y u p h = rw act.state h
  act_proposed (Asks act) t y u p h = rw act.state (h.0, go (same_exec y act.exec && (r.warden + used act.exec s.rounds * r.wardens == u)) refl, h.2)
    where
      go : (z : Bool) → (same_exec y act.exec && (r.warden + used act.exec s.rounds * r.wardens == u)) ≡ z →
          cond z (Some (record { exec = act.exec; view = r.warden + used act.exec s.rounds * r.wardens; tolds = []; proposal = None; accepts = [] })) (round_of y u s.rounds) ≡ Some h.0
      go false f = h.1
      go true f = let g = round_found y u s.rounds h.0 h.1 in let k = t.numbered h.0 g.0 in
          let same : h.0.exec ≡ act.exec = g.1 ∙ exec_is y act.exec (and_left _ _ f) in
          let lt : k.0 < used act.exec s.rounds = subst (λ (z : Exec). k.0 < used z s.rounds) same k.1 in
          let below = later_view r.warden r.wardens k.0 (used act.exec s.rounds) pos lt in
          let is : r.warden + used act.exec s.rounds * r.wardens ≡ u = eqb_is _ _ (and_right (same_exec y act.exec) _ f) in
          let v1 = k.2 in let v2 = g.2 in
          absurd (omega (arith, below, is, v1, v2))
  act_proposed (Counts_told act) t y u p h =
      rw act.state (put_proposed act.exec y act.view u act.round (told_round act.round act.told act.proposal) p act.found refl refl (λ z f. cc) h)
  act_proposed (Counts_accepted act) t y u p h = rw act.rounds (put_proposed act.exec y act.view u act.round (with_accept act.round act.proposal act.replica) p act.found refl refl (λ z f. sym act.proposed ∙ f) h)
  act_proposed (Begins_truncation act) t y u p h = rw act.state h
  act_proposed (Counts_fenced act) t y u p h = rw act.state h
  act_proposed (Ends_truncation act) t y u p h = rw act.state h

  decisions_grow : WardenAct r Got s s' sent → (d : DecidedProposal) → IsIn d s.decisions → IsIn d s'.decisions
  unfolding recover next_view
  decisions_grow (Rests act) d i = rw act.state i
  decisions_grow (Asks act) d i = rw act.state i
  decisions_grow (Counts_told act) d i = rw act.state i
  decisions_grow (Counts_accepted act) d i = elim act.outcome [ inl w ↦ rw w.0 i | inr w ↦ rw w.0 (inr i) ]
  decisions_grow (Begins_truncation act) d i = rw act.state i
  decisions_grow (Counts_fenced act) d i = rw act.state i
  decisions_grow (Ends_truncation act) d i = rw act.state i

  pub ward_stays : WardenAct r Got s s' sent → WRec r.wardens r.warden s → (b : Body) → WFact r.wardens r.warden s b → WFact r.wardens r.warden s' b
  ward_stays a t (Finalize x v d o) f = (f.0, act_proposed a t x v (record { choice = d; content = o }) f.1)
  ward_stays a t (Decide x d o) f = decisions_grow a _ f
  ward_stays a t (Ask x v) f = tt
  ward_stays a t (Fence v) f = tt
  ward_stays a t (Drops v b) f = tt
  ward_stays a t _ f = absurd f

  only : (c : Parcel) → sent ≡ c ∷ [] → WFact r.wardens r.warden s' (parcel_body c) → (b : Parcel) → IsIn b sent → WFact r.wardens r.warden s' (parcel_body b)
  only c e f b i = go (rw e at i)
    where
      go : (b ≡ c) ⊎ ⊥ → WFact r.wardens r.warden s' (parcel_body b)
      go (inl z) = rw z f
      go (inr z) = absurd z

  to_client_body : (x : Exec) (c : Body) (b : Parcel) → IsIn b (to_client r x c) → parcel_body b ≡ c
  to_client_body x c b i = go (nat_lt 0 x.ver.client && nat_le x.ver.client r.clients) i
    where
      go : (t : Bool) → IsIn b (one_when t (To_client x.ver.client c)) → parcel_body b ≡ c
      go true (inl e) = ap parcel_body e
      go true (inr e) = absurd e
      go false i = absurd i

  pub ward_new : WardenAct r Got s s' sent → (b : Parcel) → IsIn b sent → WFact r.wardens r.warden s' (parcel_body b)
  ward_new (Rests act) b i = absurd (rw act.silent at i)
  ward_new (Asks act) b i = only _ act.sends tt b i
  ward_new (Counts_told act) b i = elim act.outcome [
    | inl w ↦ absurd (rw w.1 at i)
    | inr w ↦ let g = round_found act.exec act.view s.rounds act.round act.found in
        only _ w.2 (range, rw act.state (told_round act.round act.told act.proposal, put_found act.exec act.view (told_round act.round act.told act.proposal) s.rounds act.round g.1 g.2 act.found, w.0)) b i
  ]
  ward_new (Counts_accepted act) b i = elim act.outcome [ inl w ↦ absurd (rw w.1 at i) | inr w ↦ go w.0 (rw w.2 at i) ]
    where
      go : s'.decisions ≡ record { exec = act.exec; proposal = act.proposal } ∷ s.decisions →
          (b ≡ To_all (Decide act.exec act.proposal.choice act.proposal.content)) ⊎ IsIn b (to_client r act.exec (Decide act.exec act.proposal.choice act.proposal.content)) →
          WFact r.wardens r.warden s' (parcel_body b)
      go e (inl z) = rw (z, e) (inl refl)
      go e (inr z) = rw (to_client_body act.exec (Decide act.exec act.proposal.choice act.proposal.content) b z, e) (inl refl)
  ward_new (Begins_truncation act) b i = only _ act.sends tt b i
  ward_new (Counts_fenced act) b i = absurd (rw act.silent at i)
  ward_new (Ends_truncation act) b i = only _ act.sends tt b i

pub wardens_positive : (k n : ℕ) → in_range k n ≡ true → 0 < n
wardens_positive k n e = let a = lt_is 0 k (and_left _ _ e) in let b = le_is k n (and_right (nat_lt 0 k) _ e) in omega (arith, a, b)

pub wardens_range : (k n : ℕ) → in_range k n ≡ true → (0 < k) × (k ≤ n)
wardens_range k n e = (lt_is 0 k (and_left _ _ e), le_is k n (and_right (nat_lt 0 k) _ e))

pub wrec_reach : (p : Plan) (w : World) → Reach p w → (k : ℕ) → WRec p.wardens k (w.warden k)
wrec_reach p = on_wardens p (λ w. WRec p.wardens) (λ k. record { numbered = λ a i. absurd i }) (λ w w' st k s t. t)
    (λ w w' q s. act_numbered (warden_rules p s.k) (HeardAt w s.k) (w.warden s.k) s.state s.sent (wardens_positive s.k p.wardens s.real) (wardens_range s.k p.wardens s.real) s.act)

pub ward_facts_reach : (p : Plan) (w : World) → Reach p w → WardensSaid (WFact p.wardens) w
ward_facts_reach p w q = wardens_said_reach p (WFact p.wardens) (λ v t k s sent real a. (
  ward_stays (warden_rules p k) (HeardAt v k) (v.warden k) s sent (wardens_positive k p.wardens real) (wardens_range k p.wardens real) a (wrec_reach p v t k),
  ward_new (warden_rules p k) (HeardAt v k) (v.warden k) s sent (wardens_positive k p.wardens real) (wardens_range k p.wardens real) a,
)) w q
