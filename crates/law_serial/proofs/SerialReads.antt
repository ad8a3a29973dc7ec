-- The committed executions are the serial run of their programs.
use Rattle.law_safety.proofs.OneContent.{same_prepared}
use Rattle.law_safety.proofs.OneExecution.{one_execution}
use Rattle.law_safety.proofs.OneTry.{one_attempt}
use Rattle.law_safety.proofs.CommitNeedsVotes.{commit_needs_votes}
use Rattle.law_safety.proofs.LocksLemmas.{cast_found}
use Rattle.law_safety.proofs.BaseEntries.{entry_wid}
use Rattle.law_safety.specs.CommittedList.{IsRisingByExec, IsCommittedAs, IsCommittedList}
use Rattle.law_steps.proofs.ReplicaFacts.{taking_reach}
use Rattle.law_steps.proofs.TakenLemmas.{cast_above_none}
use Rattle.protocol.proofs.TestLemmas.{true_false, and_left}
use Rattle.protocol.proofs.QuorumsLemmas.{quorums_meet}
use Rattle.protocol.specs.Replica.Votes.{casts, writes_key}
use Rattle.protocol.specs.Words.{Commit, wid_before, Exec, Version, Wid, Ending, Read, Content, Event, BaseEntry, Prepare, no_version, before, same_version, exec_before}
use Rattle.morty_base.proofs.Orders.{before_total, exec_before_total}
use Rattle.std.proofs.lemmas.List.Elements.{All-map}
use Rattle.std.specs.Prelude.{◌||◌, ◌&&◌, nat_lt, map, unwrap_or, pos}
use Rattle.std.proofs.Common.{◌≡◌, ℕ, ℤ, ◌-◌, ◌<◌, inl, inr, refl, ap, sym, ◌∙◌, subst, true, false, Bool, cond, List, [], ◌∷◌, ◌++◌, append_assoc, length, Option, Some, None}
use Rattle.std.specs.List.{slice_get, All}
use Rattle.std.proofs.lemmas.List.{append-nil}
use Rattle.txn_lang.specs.Keys.{Entry, found, held, after_writes}
use Rattle.txn_lang.specs.Runs.{Run, kept, kept_at}
use Rattle.txn_lang.specs.Program.{replay_of, serial_of, map_after, serial, last_map}
use Rattle.txn_lang.proofs.SerialRuns.{replays_serial}
use Rattle.txn_lang.proofs.Taking.{takes_answers}
use Rattle.protocol.specs.Lists.{IsIn}
use Rattle.protocol.specs.Warden.Base.{entries_of}
use Rattle.protocol.specs.Client.State.{Walk, Attempt, Answer, values, walk_at, reads_of, is_done}
use Rattle.protocol.specs.World.State.{Plan, World, rules, first_world}
use Rattle.protocol.specs.World.Events.{replay_from}
use Rattle.protocol.specs.World.Decided.{WasSent, Committed, IsOf}
use Rattle.protocol.specs.World.Committed.{CommittedExec, committed_executions}
use Rattle.protocol_plans.specs.Scripted.{Start, Scripted, plan_of}
use Rattle.protocol_plans.proofs.PlansHavePrograms.{plans_have_programs}
use Rattle.protocol.proofs.NamesLemmas.{version_is}
use Rattle.protocol.proofs.ListsLemmas.{IsIn-left, IsIn-right, IsIn-cases}
use Rattle.law_steps.proofs.Reach.{Reach, events_reach}
use Rattle.law_steps.proofs.Reach.From.{Begins}
use Rattle.law_safety.proofs.CommittedList.{committed_list}
use Rattle.law_serial.specs.SureNotes.{IsSure, IsLastWrite}
use Rattle.law_serial.specs.SureNotes.IsSure.{First_value, Last_write}
use Rattle.law_safety.specs.Replays.{HasReplay}
use Rattle.law_safety.proofs.ContentsReplayed.{replayed}
use Rattle.law_serial.proofs.ReadsCurrent.{reads_current}
use Rattle.law_serial.proofs.NothingBetween.{nothing_between}
use Rattle.protocol_plans.specs.SerialOutcome.{first_map, start_at, add_program, programs_of, entry_read, entry_written, IsRunOf, AreRuns, map_of}
use Rattle.law_serial.specs.Serial.{SerialReads}
use Rattle.law_serial.proofs.MapLemmas.{first_holds, others_hold, latest_found, map_one_more, split_at, rising_before, rising_after}
use Rattle.law_serial.proofs.ContentLemmas.{start_walk, walk_is, no_ending, reads_are, kept_writes, all_of, ended_asks}

module _ (s : Scripted) (positive : 0 < s.replicas) (events : List Event) where
  abbrev ThePlan : Plan
  ThePlan = plan_of s

  abbrev TheWorld : World
  TheWorld = replay_from (plan_of s) first_world events

  abbrev Executions : List CommittedExec
  Executions = committed_executions (plan_of s) (replay_from (plan_of s) first_world events)

  abbrev Firsts : List Entry
  Firsts = first_map s.firsts

  reached : Reach (plan_of s) (replay_from (plan_of s) first_world events)
  reached = events_reach (plan_of s) first_world first_world Begins events

  pub listed : IsCommittedList (replay_from (plan_of s) first_world events) (committed_executions (plan_of s) (replay_from (plan_of s) first_world events))
  listed = (committed_list (plan_of s) positive events).holds

  -- a committed version is above that of first values
  above_none : (x : Exec) → Committed TheWorld x → before no_version x.ver ≡ true
  above_none x c =
      let v = (commit_needs_votes (plan_of s) positive events).decided x c in
      let m = quorums_meet s.replicas _ _ v v in
      let k = cast_found x (casts (TheWorld.replica m.0)) Commit m.1 in
      subst (λ (y : Exec). before no_version y.ver
      ≡ true) k.2 (cast_above_none (TheWorld.replica m.0) (taking_reach (plan_of s) TheWorld (events_reach (plan_of s) first_world first_world Begins events) m.0) k.0 k.1)

  -- of two committed executions the earlier one has an earlier version
  pub version_before : (d c : CommittedExec) → IsCommittedAs TheWorld d → IsCommittedAs TheWorld c → exec_before d.exec c.exec ≡ true →
      before d.exec.ver c.exec.ver ≡ true
  unfolding exec_before
  version_before d c i j e = go (before d.exec.ver c.exec.ver) refl e
    where
      go : (t : Bool) → before d.exec.ver c.exec.ver ≡ t → (t || (same_version d.exec.ver c.exec.ver && nat_lt d.exec.eid c.exec.eid)) ≡ true →
          before d.exec.ver c.exec.ver ≡ true
      go true f g = f
      go false f g =
          let v = version_is d.exec.ver c.exec.ver (and_left (same_version d.exec.ver c.exec.ver) _ g) in
          let client : d.exec.ver.client ≡ c.exec.ver.client = ap (λ (z : Version). z.client) v in
          let there : IsOf TheWorld c.exec i.attempt = record { begun = subst (λ (k : ℕ). IsIn i.attempt (TheWorld.client k).attempts) client i.of_attempt.begun; version = i.of_attempt.version ∙ v } in
          let same = one_attempt (plan_of s) positive TheWorld (events_reach (plan_of s) first_world first_world Begins events) c.exec i.attempt j.attempt there j.of_attempt in
          let one = one_execution (plan_of s) positive events d.exec c.exec i.attempt j.attempt i.committed j.committed i.of_attempt j.of_attempt client (ap (λ (a : Attempt). a.txn) same) in
          absurd (true_false (sym (subst (λ (x : Exec). exec_before x c.exec ≡ true) one e) ∙ exec_before_total.irreflexive c.exec))

  -- a map that the executions before leave holds the value of each read
  holds : (earlier : List CommittedExec) (c : CommittedExec) (later : List CommittedExec) → earlier ++ c ∷ later ≡ Executions → (rd : Read) →
      IsIn rd c.content.reads → held (map_of Firsts earlier) rd.key ≡ rd.value
  holds earlier c later e rd i = go current.1
    where
      rising : IsRisingByExec (earlier ++ c ∷ later)
      rising = subst (λ (l : List CommittedExec). IsRisingByExec l) (sym e) listed.rising

      is : (d : CommittedExec) → IsIn d (earlier ++ c ∷ later) → IsCommittedAs TheWorld d
      is d j = listed.only d (subst (λ (l : List CommittedExec). IsIn d l) e j)

      mine : IsCommittedAs TheWorld c
      mine = is c (IsIn-right c earlier (c ∷ later) (inl refl))

      current : (before rd.wid.ver c.exec.ver ≡ true) × IsSure ThePlan TheWorld rd.key rd.wid rd.value
      current = reads_current (plan_of s) (record { replicas = positive; programs = (plans_have_programs s).0; grow = (plans_have_programs s).1 }) events c.exec c.content rd (is c (IsIn-right c earlier (c ∷ later) (inl refl))).prepared i

      unwritten : (d : CommittedExec) → IsIn d earlier → before rd.wid.ver d.exec.ver ≡ true → writes_key rd.key d.content.writes ≡ false
      unwritten d j low =
          let a = is d (IsIn-left d earlier (c ∷ later) j) in
          let m = is c (IsIn-right c earlier (c ∷ later) (inl refl)) in
          nothing_between (plan_of s) positive events c.exec d.exec c.content d.content rd m.committed m.prepared i a.committed a.prepared low
          (version_before d c a m (rising_before (λ (x y : CommittedExec). exec_before x.exec y.exec) earlier later c d rising j))

      some_held : (m : List Entry) (v : ℤ) → found m rd.key ≡ Some v → held m rd.key ≡ v
      some_held m v f = ap (λ (o : Option ℤ). unwrap_or o (pos 0)) f

      of_write : (d : CommittedExec) (value : ℤ) → value ≡ rd.value → IsIn d earlier → d.exec.ver ≡ rd.wid.ver
          → IsIn (record { key = rd.key; wid = rd.wid; value = value }) (entries_of d.exec 1 d.content.writes)
          → ((x : BaseEntry) → IsIn x (entries_of d.exec 1 d.content.writes) → x.key ≡ rd.key → wid_before rd.wid x.wid ≡ false) →
          held (map_of Firsts earlier) rd.key ≡ rd.value
      of_write d value vz j ver entry' last =
          let k = split_at d earlier j in
          let whole : earlier ++ c ∷ later ≡ k.0 ++ d ∷ (k.1 ++ c ∷ later) = ap (λ (l : List CommittedExec). l ++ c ∷ later) k.2
          ∙ append_assoc k.0 (d ∷ k.1) (c ∷ later) in
          let rise : IsRisingByExec (k.0 ++ d ∷ (k.1 ++ c ∷ later)) = subst (λ (l : List CommittedExec). IsRisingByExec l) whole rising in
          let none : (x : CommittedExec) → IsIn x k.1 → writes_key rd.key x.content.writes ≡ false = λ x h.
          let there : IsIn x earlier = subst (λ (l : List CommittedExec). IsIn x l) (sym k.2) (IsIn-right x k.0 (d ∷ k.1) (inr h)) in
          unwritten x there (subst (λ (v : Version). before v x.exec.ver ≡ true) ver
          (version_before d x (is d (IsIn-left d earlier (c ∷ later) j)) (is x (IsIn-left x earlier (c ∷ later) there))
          (rising_after (λ (a b : CommittedExec). exec_before a.exec b.exec) k.0 (k.1 ++ c ∷ later) d x rise (IsIn-left x k.1 (c ∷ later) h)))) in
          some_held (map_of Firsts earlier) rd.value (ap (λ (l : List CommittedExec). found (map_of Firsts l) rd.key) k.2
          ∙ latest_found k.0 k.1 d Firsts rd.key rd.wid value entry' last none ∙ ap Some vz)

      before_it : (d : CommittedExec) → IsIn d (earlier ++ c ∷ later) → before d.exec.ver c.exec.ver ≡ true → IsIn d earlier
      before_it d j low = elim (IsIn-cases d earlier (c ∷ later) j) [
        | inl h ↦ h
        | inr h ↦ elim h [
          | inl z ↦ absurd (true_false (sym (subst (λ (y : CommittedExec). before y.exec.ver c.exec.ver ≡ true) z low) ∙ before_total.irreflexive c.exec.ver))
          | inr g ↦
              let up = version_before c d (is c (IsIn-right c earlier (c ∷ later) (inl refl))) (is d j) (rising_after (λ (a b : CommittedExec). exec_before a.exec b.exec) earlier later c d rising g) in
              absurd (true_false (sym (before_total.transitive c.exec.ver d.exec.ver c.exec.ver up low) ∙ before_total.irreflexive c.exec.ver))
        ]
      ]

      go : IsSure ThePlan TheWorld rd.key rd.wid rd.value → held (map_of Firsts earlier) rd.key ≡ rd.value
      go (First_value w v) =
          ap (λ (o : Option ℤ). unwrap_or o (pos 0)) (others_hold earlier Firsts rd.key (λ d j. unwritten d j (subst (λ (u : Wid). before u.ver d.exec.ver
          ≡ true) (sym w) (above_none d.exec (is d (IsIn-left d earlier (c ∷ later) j)).committed))))
          ∙ first_holds s.firsts rd.key ∙ sym v
      go (Last_write y l committed prepared last) =
          let d = listed.all y committed in
          let a = listed.only d.0 d.1 in
          let k : l ≡ d.0.content = same_prepared (plan_of s) TheWorld (events_reach (plan_of s) first_world first_world Begins events) y l d.0.content prepared
          (subst (λ (x : Exec). WasSent TheWorld (Prepare x d.0.content)) d.2 a.prepared) in
          let n = entry_wid y 1 l.writes (record { key = rd.key; wid = rd.wid; value = rd.value }) last.entry in
          let ver : d.0.exec.ver ≡ rd.wid.ver = ap (λ (x : Exec). x.ver) d.2 ∙ sym n.0 in
          let top : IsLastWrite d.0.exec d.0.content rd.key rd.wid rd.value = subst (λ (x : Exec). IsLastWrite x d.0.content rd.key rd.wid rd.value) (sym d.2) (subst (λ (m : Content). IsLastWrite y m rd.key rd.wid rd.value) k last) in
          of_write d.0 rd.value refl (before_it d.0 (subst (λ (m : List CommittedExec). IsIn d.0 m) (sym e) d.1) (subst (λ (v : Version). before v c.exec.ver
          ≡ true) (sym ver) current.0)) ver top.entry top.last

  -- what a committed execution did, as the replay of its program
  record Ran (c : CommittedExec) (t : Start) : Type 0 where
    pub answers : List Answer
    pub reads : map entry_read c.content.reads ≡ (replay_of t.program (values answers)).reads
    pub writes : map entry_written c.content.writes ≡ kept (replay_of t.program (values answers))
    pub out : c.content.out ≡ (replay_of t.program (values answers)).out
    pub ending : Some c.content.ending ≡ (replay_of t.program (values answers)).ending

  -- it has a program
  ran : (c : CommittedExec) → IsCommittedAs TheWorld c → (t : Start) × (start_at s c.exec.ver.client c.txn ≡ Some t) × Ran c t
  ran c i = go (start_at s c.exec.ver.client c.txn) refl
    where
      h : HasReplay ThePlan TheWorld c.exec c.content
      h = replayed (plan_of s) TheWorld (events_reach (plan_of s) first_world first_world Begins events) c.exec c.content i.prepared

      n : h.0.txn ≡ c.txn
      n = ap (λ (a : Attempt). a.txn) (one_attempt (plan_of s) positive TheWorld (events_reach (plan_of s) first_world first_world Begins events) c.exec h.0 i.attempt h.1 i.of_attempt) ∙ sym i.txn

      walk : walk_at (slice_get (rules (plan_of s) c.exec.ver.client).txns (h.0.txn - 1)) (values h.2.answers)
          ≡ start_walk (start_at s c.exec.ver.client c.txn) (values h.2.answers)
      walk = ap (λ (m : ℕ). walk_at (slice_get (rules (plan_of s) c.exec.ver.client).txns (m - 1)) (values h.2.answers)) n
          ∙ walk_is s c.exec.ver.client c.txn (values h.2.answers)

      go : (o : Option Start) → start_at s c.exec.ver.client c.txn ≡ o → (t : Start) × (start_at s c.exec.ver.client c.txn ≡ Some t) × Ran c t
      go None f = absurd (no_ending h.2.ending (sym (ap (λ (w : Walk). w.ending) (walk ∙ ap (λ (o : Option Start). start_walk o (values h.2.answers)) f))
          ∙ h.2.ends))
      go (Some t) f = (t, f, did t (walk ∙ ap (λ (o : Option Start). start_walk o (values h.2.answers)) f))
        where
          did : (t : Start) → walk_at (slice_get (rules (plan_of s) c.exec.ver.client).txns (h.0.txn - 1)) (values h.2.answers)
              ≡ start_walk (Some t) (values h.2.answers) → Ran c t
          did t e = record {
            answers = h.2.answers;
            reads = ap (map entry_read) (h.2.reads ∙ ap (λ (w : Walk). reads_of w.keys h.2.answers) (e))
                ∙ reads_are (replay_of t.program (values h.2.answers)).reads h.2.answers ((takes_answers t.program.body (length t.program.names)).in_order (values h.2.answers));
            writes = ap (map entry_written) (h.2.writes ∙ ap (λ (w : Walk). cond (is_done h.2.ending) w.writes []) (e))
                ∙ kept_writes h.2.ending (replay_of t.program (values h.2.answers)).writes
                ∙ ap (λ (o : Option Ending). kept_at o (replay_of t.program (values h.2.answers)).writes) (sym h.2.ends ∙ ap (λ (w : Walk). w.ending) (e));
            out = h.2.out ∙ ap (λ (w : Walk). w.out) (e);
            ending = ap Some h.2.ended ∙ sym h.2.ends ∙ ap (λ (w : Walk). w.ending) (e);
          }

  -- the serial run on the map that the executions before leave is that replay
  serial_is : (earlier : List CommittedExec) (c : CommittedExec) (later : List CommittedExec) → earlier ++ c ∷ later ≡ Executions → (t : Start) (r : Ran c t) →
      serial_of t.program (map_of Firsts earlier) ≡ replay_of t.program (values r.answers)
  serial_is earlier c later e t r = (replays_serial t.program.body (length t.program.names)).serialised (map_of Firsts earlier) (values r.answers)
      (ended_asks t.program (values r.answers) c.content.ending (sym r.ending))
      (subst (λ (es : List Entry). All (λ (x : Entry). held (map_of Firsts earlier) x.key ≡ x.value) es) r.reads
      (All-map (λ (x : Entry). held (map_of Firsts earlier) x.key ≡ x.value) entry_read c.content.reads
      (all_of (λ (rd : Read). held (map_of Firsts earlier) rd.key ≡ rd.value) c.content.reads (λ rd i. holds earlier c later e rd i))))

  -- so it is for each part of the list, on the map that the part before leaves
  pub runs_from : (earlier part later : List CommittedExec) → earlier ++ (part ++ later) ≡ Executions →
      AreRuns part (serial (map_of Firsts earlier) (programs_of s part)) × (map_of Firsts (earlier ++ part)
      ≡ last_map (map_of Firsts earlier) (programs_of s part))
  runs_from earlier [] later e = (tt, ap (λ (l : List CommittedExec). map_of Firsts l) (append-nil earlier))
  runs_from earlier (c ∷ part) later e = go (runs_from (earlier ++ c ∷ []) part later (append_assoc earlier (c ∷ []) (part ++ later) ∙ e))
      (ran c (listed.only c (subst (λ (l : List CommittedExec). IsIn c l) e (IsIn-right c earlier (c ∷ (part ++ later)) (inl refl)))))
    where
      go : AreRuns part (serial (map_of Firsts (earlier ++ c ∷ [])) (programs_of s part)) × (map_of Firsts ((earlier ++ c ∷ []) ++ part)
          ≡ last_map (map_of Firsts (earlier ++ c ∷ [])) (programs_of s part)) →
          (t : Start) × (start_at s c.exec.ver.client c.txn ≡ Some t) × Ran c t →
          AreRuns (c ∷ part) (serial (map_of Firsts earlier) (programs_of s (c ∷ part))) × (map_of Firsts (earlier ++ c ∷ part)
          ≡ last_map (map_of Firsts earlier) (programs_of s (c ∷ part)))
      go ih (t, f, r) =
          let same = serial_is earlier c (part ++ later) e t r in
          let left : map_of Firsts (earlier ++ c ∷ []) ≡ map_after (map_of Firsts earlier) t.program =
          map_one_more earlier c Firsts ∙ ap (λ (ws : List Entry). after_writes ws (map_of Firsts earlier)) (r.writes ∙ ap kept (sym same)) in
          let runs : AreRuns (c ∷ part) (serial (map_of Firsts earlier) (t.program ∷ programs_of s part)) = (
            subst (λ (u : Run). IsRunOf c u) (sym same) (record { reads = r.reads; out = r.out; writes = r.writes; ending = r.ending }),
            subst (λ (m : List Entry). AreRuns part (serial m (programs_of s part))) left ih.0,
          ) in
          let last : map_of Firsts (earlier ++ c ∷ part) ≡ last_map (map_of Firsts earlier) (t.program ∷ programs_of s part) =
          ap (λ (l : List CommittedExec). map_of Firsts l) (sym (append_assoc earlier (c ∷ []) part)) ∙ ih.1
          ∙ ap (λ (m : List Entry). last_map m (programs_of s part)) left in
          subst (λ (o : Option Start). AreRuns (c ∷ part) (serial (map_of Firsts earlier) (add_program o (programs_of s part))) × (map_of Firsts (earlier ++ c ∷ part) ≡ last_map (map_of Firsts earlier) (add_program o (programs_of s part))))
          (sym f) (runs, last)

pub serial_reads : SerialReads
serial_reads s positive events =
    let cs = committed_executions (plan_of s) (replay_from (plan_of s) first_world events) in
    let r = runs_from s positive events [] cs [] (append-nil cs) in record { runs = r.0; left = r.1 }
