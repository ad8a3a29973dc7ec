-- The base of a world is the serial map at its version.
use Rattle.std.proofs.Common.{◌≡◌, ◌<◌, inl, inr, refl, ap, sym, ◌∙◌, subst, true, false, Bool, cond, List, [], ◌∷◌, ◌++◌, append_assoc, Option, Some}
use Rattle.std.specs.Prelude.{not, ◌||◌, ◌&&◌, nat_lt, ℤ, pos, unwrap_or}
use Rattle.std.proofs.lemmas.Bool.{not-true}
use Rattle.protocol.specs.Words.{Exec, Version, Wid, Key, BaseEntry, Content, Event, Write, Prepare, before, same_key, same_version, exec_before, wid_before}
use Rattle.morty_base.proofs.Orders.{before_total}
use Rattle.txn_lang.specs.Keys.{Entry, found}
use Rattle.txn_lang.specs.Program.{last_map}
use Rattle.protocol.specs.Lists.{IsIn}
use Rattle.protocol.specs.Replica.Votes.{writes_key}
use Rattle.protocol.specs.Warden.Base.{entries_of}
use Rattle.protocol.specs.World.State.{World, first_world}
use Rattle.protocol.specs.World.Events.{replay_from}
use Rattle.protocol.specs.World.Decided.{WasSent, IsWrite, IsBase}
use Rattle.protocol.specs.World.Committed.{CommittedExec, committed_executions, base_at}
use Rattle.protocol_plans.specs.Scripted.{Scripted, plan_of}
use Rattle.protocol.proofs.TestLemmas.{true_false, and_left}
use Rattle.protocol.proofs.NamesLemmas.{key_is, version_is}
use Rattle.protocol.proofs.ListsLemmas.{IsIn-left, IsIn-right}
use Rattle.law_safety.proofs.OneContent.{same_prepared}
use Rattle.law_steps.proofs.TakenLemmas.{IsIn-filter, IsIn-filtered}
use Rattle.law_steps.proofs.VotesLemmas.{any_true, any_in}
use Rattle.law_steps.proofs.Reach.{events_reach}
use Rattle.law_steps.proofs.Reach.From.{Begins}
use Rattle.law_safety.specs.CommittedList.{IsRisingByExec}
use Rattle.law_safety.proofs.BaseEntries.{entry_wid, entry_write, write_entry, rising_one}
use Rattle.law_safety.proofs.BaseOfWorld.{base_of_world}
use Rattle.protocol_plans.specs.SerialOutcome.{first_map, programs_of, map_of, upto_version, has_entry, has_kept_write}
use Rattle.law_serial.specs.Serial.{SerialBase}
use Rattle.law_serial.proofs.MapLemmas.{latest_found, split_at, rising_after}
use Rattle.law_serial.proofs.SerialReads.{listed, version_before, runs_from}

-- what is after an execution past a version is past it too
past : (v : Version) (c d : Exec) → exec_before c d ≡ true → before v c.ver ≡ true → before v d.ver ≡ true
unfolding exec_before
past v c d e p = go (before c.ver d.ver) refl e
  where
    go : (t : Bool) → before c.ver d.ver ≡ t → (t || (same_version c.ver d.ver && nat_lt c.eid d.eid)) ≡ true → before v d.ver ≡ true
    go true f g = before_total.transitive v c.ver d.ver p f
    go false f g = subst (λ (u : Version). before v u ≡ true) (version_is c.ver d.ver (and_left (same_version c.ver d.ver) _ g)) p

none_past : (v : Version) (cs : List CommittedExec) → ((c : CommittedExec) → IsIn c cs → before v c.exec.ver ≡ true) → upto_version v cs ≡ []
none_past v [] f = refl
none_past v (c ∷ cs) f = ap (λ (t : Bool). cond (not t) (c ∷ upto_version v cs) (upto_version v cs)) (f c (inl refl)) ∙ none_past v cs (λ d i. f d (inr i))

-- the executions at or below a version come first
upto_front : (v : Version) (cs : List CommittedExec) → IsRisingByExec cs → (later : List CommittedExec) × (cs ≡ upto_version v cs ++ later)
upto_front v [] r = ([], refl)
upto_front v (c ∷ cs) r = go (upto_front v cs r.1) (before v c.exec.ver) refl
  where
    go : (later : List CommittedExec) × (cs ≡ upto_version v cs ++ later) → (t : Bool) → before v c.exec.ver ≡ t →
        (later : List CommittedExec) × (c ∷ cs ≡ cond (not t) (c ∷ upto_version v cs) (upto_version v cs) ++ later)
    go ih false e = (ih.0, ap (λ (l : List CommittedExec). c ∷ l) ih.1)
    go ih true e = (c ∷ cs, ap (λ (l : List CommittedExec). l ++ c ∷ cs) (sym (none_past v cs (λ d i. past v c.exec d.exec (r.0 d i) e))))

or_true : (a b : Bool) → a ≡ true → (a || b) ≡ true
or_true true b e = refl
or_true false b e = cc

later_wid : (a b : Wid) → before a.ver b.ver ≡ true → wid_before a b ≡ true
unfolding wid_before
later_wid a b e = or_true (before a.ver b.ver) _ e

key_moved : (k a b : Key) → a ≡ b → same_key k a ≡ true → same_key k b ≡ true
key_moved k a b e h = ap (same_key k) (sym e) ∙ h

-- two tests are one where each holds with the other
same_test : (a b : Bool) → (a ≡ true → b ≡ true) → (b ≡ true → a ≡ true) → a ≡ b
same_test true b f g = sym (f refl)
same_test false true f g = absurd (true_false (sym (g refl)))
same_test false false f g = refl

module _ (s : Scripted) (positive : 0 < s.replicas) (events : List Event) (v : Version) where
  abbrev TheWorld : World
  TheWorld = replay_from (plan_of s) first_world events

  abbrev Executions : List CommittedExec
  Executions = committed_executions (plan_of s) (replay_from (plan_of s) first_world events)

  base : IsBase (replay_from (plan_of s) first_world events) v (base_at (plan_of s) (replay_from (plan_of s) first_world events) v)
  base = (base_of_world (plan_of s) positive events).holds v

  front : (later : List CommittedExec) × (committed_executions (plan_of s) (replay_from (plan_of s) first_world events)
      ≡ upto_version v (committed_executions (plan_of s) (replay_from (plan_of s) first_world events)) ++ later)
  front = upto_front v (committed_executions (plan_of s) (replay_from (plan_of s) first_world events)) (listed s positive events).rising

  -- a write of a listed execution at or below the version
  written : (d : CommittedExec) → IsIn d (upto_version v Executions) → (x : BaseEntry) → IsIn x (entries_of d.exec 1 d.content.writes) → IsWrite TheWorld v x
  written d j x h =
      let k = IsIn-filtered (λ (c : CommittedExec). not (before v c.exec.ver)) Executions d j in
      let a = (listed s positive events).only d k.0 in
      record { exec = d.exec; content = d.content; committed = a.committed; prepared = a.prepared; upto = not-true (before v d.exec.ver) k.1; entry = h }

  -- an entry of the base is the greatest write of its key
  greatest : (e : BaseEntry) → IsIn e (base_at (plan_of s) TheWorld v) → (x : BaseEntry) → IsWrite TheWorld v x → x.key ≡ e.key → wid_before e.wid x.wid ≡ false
  greatest e i x h f =
      let g = base.greatest x h in
      let same : g.0 ≡ e = rising_one (base_at (plan_of s) TheWorld v) base.rising g.0 e g.1 i (g.2 ∙ f) in
      subst (λ (y : BaseEntry). wid_before y.wid x.wid ≡ false) same g.3

  -- the listed execution up to the version whose write an entry of the base is
  listed_as : (e : BaseEntry) → IsWrite TheWorld v e → (d : CommittedExec) × IsIn d (upto_version v Executions) × IsIn e (entries_of d.exec 1 d.content.writes)
  listed_as e y = (d.0, there, mine)
    where
      d : (c : CommittedExec) × IsIn c Executions × (c.exec ≡ y.exec)
      d = (listed s positive events).all y.exec y.committed

      low : before v d.0.exec.ver ≡ false
      low = subst (λ (x : Exec). before v x.ver ≡ false) (sym d.2) y.upto

      there : IsIn d.0 (upto_version v Executions)
      there = IsIn-filter (λ (c : CommittedExec). not (before v c.exec.ver)) Executions d.0 d.1 (ap not low)

      same : y.content ≡ d.0.content
      same = same_prepared (plan_of s) TheWorld (events_reach (plan_of s) first_world first_world Begins events) y.exec y.content d.0.content y.prepared
          (subst (λ (x : Exec). WasSent TheWorld (Prepare x d.0.content)) d.2 ((listed s positive events).only d.0 d.1).prepared)

      mine : IsIn e (entries_of d.0.exec 1 d.0.content.writes)
      mine = subst (λ (x : Exec). IsIn e (entries_of x 1 d.0.content.writes)) (sym d.2) (subst (λ (c : Content). IsIn e (entries_of y.exec 1 c.writes)) same y.entry)

  entry_held : (e : BaseEntry) → IsIn e (base_at (plan_of s) TheWorld v) → found (map_of (first_map s.firsts) (upto_version v Executions)) e.key ≡ Some e.value
  entry_held e i = ap (λ (l : List CommittedExec). found (map_of (first_map s.firsts) l) e.key) k.2
      ∙ latest_found k.0 k.1 d.0 (first_map s.firsts) e.key e.wid e.value d.2 (λ x h f. greatest e i x (written d.0 d.1 x h) f) none
    where
      d : (c : CommittedExec) × IsIn c (upto_version v Executions) × IsIn e (entries_of c.exec 1 c.content.writes)
      d = listed_as e (base.only e i)

      k : (ys : List CommittedExec) × (zs : List CommittedExec) × (upto_version v Executions ≡ ys ++ d.0 ∷ zs)
      k = split_at d.0 (upto_version v Executions) d.1

      ver : e.wid.ver ≡ d.0.exec.ver
      ver = (entry_wid d.0.exec 1 d.0.content.writes e d.2).0

      rise : IsRisingByExec (k.0 ++ d.0 ∷ (k.1 ++ front.0))
      rise = subst (λ (l : List CommittedExec). IsRisingByExec l) (front.1 ∙ ap (λ (l : List CommittedExec). l ++ front.0) k.2
          ∙ append_assoc k.0 (d.0 ∷ k.1) front.0) (listed s positive events).rising

      none : (x : CommittedExec) → IsIn x k.1 → writes_key e.key x.content.writes ≡ false
      none x h = go (writes_key e.key x.content.writes) refl
        where
          inside : IsIn x (upto_version v Executions)
          inside = subst (λ (l : List CommittedExec). IsIn x l) (sym k.2) (IsIn-right x k.0 (d.0 ∷ k.1) (inr h))

          go : (t : Bool) → writes_key e.key x.content.writes ≡ t → t ≡ false
          go false q = refl
          go true q =
              let t = any_true (λ (u : Write). same_key e.key u.key) x.content.writes q in
              let f = write_entry x.exec 1 x.content.writes t.0 t.1 in
              let listed_x = (IsIn-filtered (λ (c : CommittedExec). not (before v c.exec.ver)) Executions x inside).0 in
              let up = version_before s positive events d.0 x ((listed s positive events).only d.0 (IsIn-filtered (λ (c : CommittedExec). not (before v c.exec.ver)) Executions d.0 d.1).0) ((listed s positive events).only x listed_x)
              (rising_after (λ (a b : CommittedExec). exec_before a.exec b.exec) k.0 (k.1 ++ front.0) d.0 x rise (IsIn-left x k.1 front.0 h)) in
              let w = greatest e i f.0 (written x inside f.0 f.1) (f.2 ∙ sym (key_is e.key t.0.key t.2)) in
              absurd (true_false (sym (later_wid e.wid f.0.wid (subst (λ (a : Version). before a f.0.wid.ver
              ≡ true) (sym ver) (subst (λ (b : Version). before d.0.exec.ver b ≡ true) (sym (entry_wid x.exec 1 x.content.writes f.0 f.1).0) up))) ∙ w))

  map_is : map_of (first_map s.firsts) (upto_version v Executions) ≡ last_map (first_map s.firsts) (programs_of s (upto_version v Executions))
  map_is = (runs_from s positive events [] (upto_version v Executions) front.0 (sym front.1)).1

  -- a key has an entry just where an execution up to the version kept a write of it
  entry_kept : (k : Key) → has_entry k (base_at (plan_of s) TheWorld v) ≡ true → has_kept_write k (upto_version v Executions) ≡ true
  entry_kept k h =
      let e = any_true (λ (x : BaseEntry). same_key k x.key) (base_at (plan_of s) TheWorld v) h in
      let y = base.only e.0 e.1 in
      let d = listed_as e.0 y in
      let u = entry_write d.0.exec 1 d.0.content.writes e.0 d.2 in
      any_in (λ (c : CommittedExec). writes_key k c.content.writes) (upto_version v Executions) d.0 d.1
      (any_in (λ (z : Write). same_key k z.key) d.0.content.writes u.1.0 u.1.1 (key_moved k e.0.key u.1.0.key u.1.2 e.2))

  entry_for : (k : Key) (c : CommittedExec) → IsIn c (upto_version v Executions) → (u : Write) → IsIn u c.content.writes → same_key k u.key ≡ true →
      has_entry k (base_at (plan_of s) TheWorld v) ≡ true
  entry_for k c i u j same =
      let x = write_entry c.exec 1 c.content.writes u j in
      found_for x.0 (written c i x.0 x.1) (key_moved k u.key x.0.key (sym x.2) same)
    where
      found_for : (x : BaseEntry) → IsWrite TheWorld v x → same_key k x.key ≡ true → has_entry k (base_at (plan_of s) TheWorld v) ≡ true
      found_for x y e =
          let g = base.greatest x y in
          any_in (λ (z : BaseEntry). same_key k z.key) (base_at (plan_of s) TheWorld v) g.0 g.1 (key_moved k x.key g.0.key (sym g.2) e)

  kept_entry : (k : Key) → has_kept_write k (upto_version v Executions) ≡ true → has_entry k (base_at (plan_of s) TheWorld v) ≡ true
  kept_entry k h =
      let d = any_true (λ (c : CommittedExec). writes_key k c.content.writes) (upto_version v Executions) h in
      let u = any_true (λ (z : Write). same_key k z.key) d.0.content.writes d.2 in
      entry_for k d.0 d.1 u.0 u.1 u.2

  keys_same : (k : Key) → has_entry k (base_at (plan_of s) TheWorld v) ≡ has_kept_write k (upto_version v Executions)
  keys_same k = same_test (has_entry k (base_at (plan_of s) TheWorld v)) (has_kept_write k (upto_version v Executions)) (entry_kept k) (kept_entry k)

pub serial_base : SerialBase
serial_base s positive events v = record {
  rising = (base s positive events v).rising;
  keys = keys_same s positive events v;
  values = λ e i. ap (λ (o : Option ℤ). unwrap_or o (pos 0)) (sym (ap (λ (m : List Entry). found m e.key) (sym (map_is s positive events v))
      ∙ entry_held s positive events v e i));
}
