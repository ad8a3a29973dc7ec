-- What a world sends rests on what was in its mail before.
use Rattle.std.proofs.Common.{◌≡◌, ℕ, ◌<◌, ◌≤◌, ◌⊎◌, inl, inr, refl, sym, ◌∙◌, subst, List, [], ◌∷◌, ◌++◌, length, arith}
use Rattle.std.specs.Prelude.{map, flat_map}
use Rattle.std.specs.List.{All}
use Rattle.std.proofs.lemmas.List.{append-nil, length-map}
use Rattle.std.proofs.lemmas.List.Elements.{All-nil, All-cons}
use Rattle.morty_base.proofs.Orders.{exec_before_total}
use Rattle.protocol.specs.Words.{Version, Exec, Key, Write, NodeId, Client, Replica, Warden, Envelope, Body, Content, Kept, BaseEntry, Prepare, Drops, exec_before, key_before}
use Rattle.protocol.specs.Lists.{IsIn}
use Rattle.protocol.specs.Replica.Taken.{after_taking}
use Rattle.protocol.specs.World.State.{Plan, World, mail_limit}
use Rattle.protocol.specs.World.Steps.{Happens}
use Rattle.protocol.specs.World.Steps.Happens.{Stays, Client_moves, Replica_moves, Warden_moves}
use Rattle.protocol.specs.World.Decided.{WasSent, IsRising}
use Rattle.protocol.proofs.ListsLemmas.{IsIn-cases, IsIn-map, map_in, flat_map_in, at_cases}
use Rattle.protocol.proofs.NamesLemmas.{key_irreflexive}
use Rattle.wire.specs.Values.{most_short}
use Rattle.wire.specs.Sendable.{IsShort, IsBase, IsKept, IsFit, MaySend}
use Rattle.law_steps.proofs.Reach.{Reach}
use Rattle.law_steps.proofs.SaysLemmas.{spoken}
use Rattle.law_steps.proofs.SendingLemmas.{from_to_all, from_parcels}
use Rattle.law_steps.proofs.MailLemmas.{took_reach, taking_cases}
use Rattle.law_steps.proofs.KnownLemmas.{Took}
use Rattle.law_steps.proofs.ClientFacts.{CFact, client_facts_reach}
use Rattle.law_steps.proofs.Senders.{prepare_from}
use Rattle.law_safety.proofs.BaseEntries.{entry_write}
use Rattle.law_safety.proofs.BaseOfDrop.{drop_base}
use Rattle.law_safety.proofs.OneContent.{contents_reach}
use Rattle.law_frames.proofs.ListsCounted.{distinct_within, rising_distinct, length_joined}
use Rattle.law_frames.proofs.RisingLemmas.{rises}
use Rattle.law_frames.proofs.KeptRising.{IsRisingByExec}

all_of : {A : Type 0} (P : A → Type 0) (xs : List A) → ((a : A) → IsIn a xs → P a) → All P xs
all_of P [] f = All-nil P
all_of P (x ∷ xs) f = All-cons P x xs (f x (inl refl)) (all_of P xs (λ a i. f a (inr i)))

-- ---- the executions and keys of the Prepares in the mail

abbrev execs_in : Body → List Exec
execs_in (Prepare x k) = x ∷ []
execs_in _ = []

abbrev keys_in : Body → List Key
keys_in (Prepare x k) = map (λ (w : Write). w.key) k.writes
keys_in _ = []

abbrev prepared_execs : World → List Exec
prepared_execs w = flat_map (λ m. execs_in m.body) w.mail

abbrev prepared_keys : World → List Key
prepared_keys w = flat_map (λ m. keys_in m.body) w.mail

execs_few : (b : Body) → length (execs_in b) ≤ 1
execs_few (Prepare x k) = omega arith
execs_few _ = omega arith

module _ (w : World) where
  prepared_exec : (x : Exec) (k : Content) → WasSent w (Prepare x k) → IsIn x (prepared_execs w)
  prepared_exec x k t = flat_map_in (λ (m : Envelope). execs_in m.body) w.mail t.envelope x t.there
      (subst (λ (b : Body). IsIn x (execs_in b)) (sym t.body) (inl refl))

  prepared_key : (x : Exec) (k : Content) (key : Key) → WasSent w (Prepare x k) → IsIn key (map (λ (w : Write). w.key) k.writes) → IsIn key (prepared_keys w)
  prepared_key x k key t i = flat_map_in (λ (m : Envelope). keys_in m.body) w.mail t.envelope key t.there
      (subst (λ (b : Body). IsIn key (keys_in b)) (sym t.body) i)

module _ (w : World) (room : length w.mail < mail_limit) where
  -- rising contents that were prepared
  pub kept_fit : (cs : List Kept) → IsRisingByExec cs → ((k : Kept) → IsIn k cs → WasSent w (Prepare k.exec k.content)) →
      ((k : Kept) → IsIn k cs → IsShort k.content) → IsKept cs
  kept_fit cs rising prepared short =
      let l = distinct_within (map (λ (k : Kept). k.exec) cs) (prepared_execs w)
      (rising_distinct (λ (k : Kept). k.exec) exec_before exec_before_total.irreflexive cs rising)
      (λ x i. let k = IsIn-map (λ (k : Kept). k.exec) x cs i in
      subst (λ (y : Exec). IsIn y (prepared_execs w)) (sym k.2) (prepared_exec w k.0.exec k.0.content (prepared k.0 k.1))) in
      let n = length-map cs (λ (k : Kept). k.exec) in
      let m = length_joined (λ (m : Envelope). execs_in m.body) 1 w.mail (λ m i. execs_few m.body) in
      record { count = omega (arith, l, n, m, room); rising = rises _ cs rising; short = all_of _ cs short }

  -- rising entries that were prepared, where each content in the mail is short
  pub base_fit : ((m : Envelope) → IsIn m w.mail → length (keys_in m.body) ≤ most_short) → (bs : List BaseEntry) → IsRising bs →
      ((d : BaseEntry) → IsIn d bs → IsIn d.key (prepared_keys w)) → IsBase bs
  base_fit short bs rising prepared =
      let l = distinct_within (map (λ (d : BaseEntry). d.key) bs) (prepared_keys w)
      (rising_distinct (λ (d : BaseEntry). d.key) key_before key_irreflexive bs rising)
      (λ x i. let k = IsIn-map (λ (d : BaseEntry). d.key) x bs i in subst (λ (y : Key). IsIn y (prepared_keys w)) (sym k.2) (prepared k.0 k.1)) in
      let n = length-map bs (λ (d : BaseEntry). d.key) in
      let m = length_joined (λ (m : Envelope). keys_in m.body) most_short w.mail short in
      record { count = omega (arith, l, n, m, room); rising = rises _ bs rising }

pub keys_few : (m : Envelope) → MaySend m → length (keys_in m.body) ≤ most_short
keys_few m s = go m.body s.body
  where
    go : (b : Body) → IsFit b → length (keys_in b) ≤ most_short
    go (Prepare x k) f = let n = length-map k.writes (λ (w : Write). w.key) in let l = f.writes in omega (arith, n, l)
    go _ f = omega arith

-- ---- a step

-- all that one step sends is from one node
abbrev IsOfOne : World → World → Type 0
IsOfOne w w' = (more : List Envelope) × (w'.mail ≡ w.mail ++ more) × ((node : NodeId) × ((m : Envelope) → IsIn m more → m.from ≡ node))

one_sender : (p : Plan) (w w' : World) → Happens p w w' → IsOfOne w w'
one_sender p w w' (Stays s) = ([], s.mail ∙ sym (append-nil w.mail), (Client 0, λ m i. absurd i))
one_sender p w w' (Client_moves s) = (_, s.mail, (Client s.c, λ m i. (from_to_all p.replicas (Client s.c) s.turn.sent m i).0))
one_sender p w w' (Replica_moves s) = (_, s.mail, (Replica s.r, λ m i. (spoken p.firsts s.r (w.replica s.r) s.m m i).0))
one_sender p w w' (Warden_moves s) = (_, s.mail, (Warden s.k, λ m i. (from_parcels p.replicas (Warden s.k) s.turn.sent m i).0))

module _ (p : Plan) (some : 0 < p.replicas) (w w' : World) (q : Reach p w) (q' : Reach p w') (step : Happens p w w') where
  -- what a replica has taken after the step was sent before it
  pub took_before : (r : ℕ) (m : Envelope) → IsIn m (w'.replica r) → IsIn m w.mail
  took_before r m i = go step
    where
      go : Happens p w w' → IsIn m w.mail
      go (Stays s) = ((took_reach p w q).took r m (rw s.replica at i)).0
      go (Client_moves s) = ((took_reach p w q).took r m (rw s.replica at i)).0
      go (Warden_moves s) = ((took_reach p w q).took r m (rw s.replica at i)).0
      go (Replica_moves s) = at_cases (λ h. IsIn m h → IsIn m w.mail) s.r (after_taking (w.replica s.r) s.m) w.replica r
          (λ e j. elim (taking_cases (w.replica s.r) s.m m j) [
            | inl z ↦ subst (λ (y : Envelope). IsIn y w.mail) (sym z) s.in_mail
            | inr k ↦ ((took_reach p w q).took s.r m k).0
          ])
          (λ j. ((took_reach p w q).took r m j).0) (rw s.replica at i)

  -- so each content that it knows was prepared before
  pub took_prepared : (r : ℕ) (x : Exec) (k : Content) → Took (w'.replica r) x k → WasSent w (Prepare x k)
  took_prepared r x k t = (contents_reach p some w q).from t.0.body x k t.2 (record { envelope = t.0; there = took_before r t.0 t.1; body = refl })

  -- with a Drop no Prepare is sent
  drop_alone : (m : Envelope) (v : Version) (bs : List BaseEntry) → IsIn m w'.mail → m.body ≡ Drops v bs →
      IsIn m w.mail ⊎ ((x : Exec) (k : Content) → WasSent w' (Prepare x k) → WasSent w (Prepare x k))
  drop_alone m v bs i e = go (one_sender p w w' step)
    where
      go : IsOfOne w w' → IsIn m w.mail ⊎ ((x : Exec) (k : Content) → WasSent w' (Prepare x k) → WasSent w (Prepare x k))
      go o = elim (IsIn-cases m w.mail o.0 (subst (λ l. IsIn m l) o.1 i)) [
        | inl j ↦ inl j
        | inr j ↦ inr (λ x k t. elim (IsIn-cases t.envelope w.mail o.0 (subst (λ l. IsIn t.envelope l) o.1 t.there)) [
          | inl l ↦ record { envelope = t.envelope; there = l; body = t.body }
          | inr l ↦ let c = (prepare_from p w' q' t.envelope x k t.there t.body).0 in
              let f : m.from ≡ Client x.ver.client = o.2.1 m j ∙ sym (o.2.1 t.envelope l) ∙ c in
              absurd (subst (CFact x.ver.client (w'.client x.ver.client)) e ((client_facts_reach p w' q').said m x.ver.client i f))
        ])
      ]

  -- a base that was sent
  pub drop_fit : length w.mail < mail_limit → ((m : Envelope) → IsIn m w.mail → MaySend m) → (m : Envelope) (v : Version) (bs : List BaseEntry) →
      IsIn m w'.mail → m.body ≡ Drops v bs → IsBase bs
  drop_fit room before m v bs i e = go (drop_alone m v bs i e)
    where
      go : IsIn m w.mail ⊎ ((x : Exec) (k : Content) → WasSent w' (Prepare x k) → WasSent w (Prepare x k)) → IsBase bs
      go (inl j) = subst IsFit e (before m j).body
      go (inr f) =
          let base = drop_base p some w' q' v bs (record { envelope = m; there = i; body = e }) in
          base_fit w room (λ m i. keys_few m (before m i)) bs base.rising (λ d j.
          let y = base.only d j in
          let k = entry_write y.exec 1 y.content.writes d y.entry in
          prepared_key w y.exec y.content d.key (f y.exec y.content y.prepared)
          (subst (λ (z : Key). IsIn z (map (λ (w : Write). w.key) y.content.writes)) (sym k.1.2) (map_in (λ (w : Write). w.key) y.content.writes k.1.0 k.1.1)))
