-- Of two votes for Commit in conflict at one replica, the earlier one was decided Abandon there, or dropped.
use Rattle.std.proofs.Common.{ℕ, ◌<◌, ◌≡◌, ◌⊎◌, inl, inr, refl, sym, ◌∙◌, subst, true, false, Bool, [], ◌∷◌, ◌++◌, Some}
use Rattle.std.specs.Prelude.{◌&&◌}
use Rattle.protocol.specs.Words.{Exec, Version, Key, Envelope, BaseEntry, Body, Kept, Read, Commit, ToCommit, Prepare, Decide, before, same_key}
use Rattle.protocol.specs.Lists.{IsIn}
use Rattle.protocol.specs.Replica.Taken.{Handled, is_above, version_of, dropped, base}
use Rattle.protocol.specs.Replica.Acceptor.{commits}
use Rattle.protocol.specs.Replica.Votes.{casts, Cast, verdict, conflicts_with_base, writes_key}
use Rattle.protocol.specs.World.State.{Plan, World}
use Rattle.protocol.specs.World.Decided.{UpTo, WasSent}
use Rattle.protocol.proofs.NamesLemmas.{key_itself, up_to_trans, before_up_to, before_then, then_before, before_self}
use Rattle.protocol.proofs.ListsLemmas.{IsIn-right}
use Rattle.protocol.proofs.TestLemmas.{true_false}
use Rattle.law_steps.proofs.KnownLemmas.{IsWell}
use Rattle.law_steps.proofs.TakenLemmas.{takes_above, cast_is, cast_above_none, IsTaking}
use Rattle.law_steps.proofs.VotesLemmas.{any_in, verdict_commit, earlier_settled, conflicts_both_ways}
use Rattle.law_steps.proofs.MailLemmas.{took_reach}
use Rattle.law_steps.proofs.Reach.{Reach}
use Rattle.law_steps.proofs.ReplicaFacts.{well_reach, taking_reach}
use Rattle.law_steps.proofs.AlwaysLemmas.{always}
use Rattle.law_safety.specs.Bases.{MissesAt, TwoVotes, VotesTwice, IsOvertaken, TwoVotesOf}
use Rattle.law_safety.specs.Bases.IsOvertaken.{Decided_abandon, Was_dropped}
use Rattle.law_safety.proofs.OneContent.{same_prepared, contents_reach}
use Rattle.law_safety.proofs.BaseEntries.{both, or_left_in, entry_write, dropped_sent}
use Rattle.law_safety.proofs.LocksLemmas.{cast_prepare}
use Rattle.law_safety.proofs.ShapedBodies.{commit_decided}
use Rattle.law_safety.proofs.InvariantHolds.{safe_reach}

-- a list that another ends with
taking_end : (later g : Handled) → IsTaking (later ++ g) → IsTaking g
taking_end [] g t = t
taking_end (m ∷ later) g t = taking_end later g t.1

well_end : (later g : Handled) → IsWell (later ++ g) → IsWell g
well_end [] g t = t
well_end (m ∷ later) g t = well_end later g t.1

missed_base : (d : Cast) (k : Key) (c : Cast) (b : BaseEntry) → MissesAt k d c → b.key ≡ k → before b.wid.ver c.exec.ver ≡ false →
    before b.wid.ver d.exec.ver ≡ true → conflicts_with_base d.exec.ver d.content b ≡ true
unfolding conflicts_with_base
missed_base d k c b m e up low =
    both (before b.wid.ver d.exec.ver) _ low
    (any_in (λ (r : Read). before r.wid.ver b.wid.ver && writes_key r.key (record { key = b.key; value = b.value } ∷ [])) d.content.reads m.read m.there
    (both (before m.read.wid.ver b.wid.ver) _ (before_then m.read.wid.ver c.exec.ver b.wid.ver m.below up)
    (or_left_in (same_key m.read.key b.key) false (subst (λ (z : Key). same_key m.read.key z ≡ true) (m.key ∙ sym e) (key_itself m.read.key)))))

module _ (p : Plan) (some : 0 < p.replicas) (w : World) (q : Reach p w) (r : ℕ) (h later : Handled) (m : Envelope) (first second : Cast)
    (split : w.replica r ≡ later ++ m ∷ h) (twice : VotesTwice h m first second) where
  well : IsWell h
  well = (well_end later (m ∷ h) (subst IsWell split (well_reach p w q r))).1

  tk : IsTaking (m ∷ h)
  tk = taking_end later (m ∷ h) (subst IsTaking split (taking_reach p w q r))

  mail : (n : Envelope) → IsIn n h → IsIn n w.mail
  mail n k = ((took_reach p w q).took r n (subst (λ (l : Handled). IsIn n l) (sym split) (IsIn-right n later (m ∷ h) (inr k)))).0

  verd : verdict h (casts h) second.exec second.content ≡ Commit
  verd = sym (cast_is h m.body second twice.later).1 ∙ twice.votes

  same : (l : Kept) → IsIn l (commits h) → l.exec ≡ first.exec → l.content ≡ first.content
  same l k e =
      let a = commit_decided h l k in let b = cast_prepare h first twice.earlier in
      same_prepared p w q first.exec l.content first.content
      (subst (λ (y : Exec). WasSent w (Prepare y l.content)) e ((contents_reach p some w q).from (Decide l.exec ToCommit (Some l.content)) l.exec l.content (refl, refl) (record { envelope = a.0; there = mail a.0 a.1; body = a.2 })))
      (record { envelope = b.0; there = mail b.0 b.1; body = b.2 })

  above : before (dropped h) second.exec.ver ≡ true
  above = subst (λ (b : Body). is_above (dropped h) (version_of b) ≡ true) (cast_is h m.body second twice.later).0 (takes_above h m.body tk.0)

  low : UpTo first.exec.ver (dropped h) → (k : Key) → MissesAt k first second ⊎ MissesAt k second first → (b : BaseEntry) → IsIn b (base h) → b.key ≡ k →
      before b.wid.ver first.exec.ver ≡ true
  low z k (inl mis) b ib kb = absurd (true_false (sym (before_then (dropped h) second.exec.ver (dropped h) above (up_to_trans second.exec.ver first.exec.ver (dropped h) (before_up_to second.exec.ver first.exec.ver mis.earlier) z)) ∙ before_self (dropped h)))
  low z k (inr mis) b ib kb = go (before b.wid.ver first.exec.ver) refl
    where
      under : before b.wid.ver second.exec.ver ≡ true
      under =
          let y = (safe_reach p some w q).bases.written (dropped h) (base h) (dropped_sent w h mail first.exec.ver (cast_above_none h tk.1 first twice.earlier) z) b ib in
          then_before b.wid.ver (dropped h) second.exec.ver (subst (λ (v : Version). UpTo v (dropped h)) (sym (entry_write y.exec 1 y.content.writes b y.entry).0) y.upto) above

      go : (t : Bool) → before b.wid.ver first.exec.ver ≡ t → t ≡ true
      go true e = refl
      go false e = absurd (true_false (sym (any_in (conflicts_with_base second.exec.ver second.content) (base h) b ib (missed_base second k first b mis kb e under)) ∙ (verdict_commit h (casts h) second.exec second.content verd).base))

  overtaken : IsOvertaken h first second
  overtaken =
      elim (earlier_settled h second.exec second.content first well same twice.earlier twice.voted
      (conflicts_both_ways second.exec.ver first.exec.ver second.content first.content ∙ twice.conflict) verd) [
        | inl z ↦ Decided_abandon z
        | inr z ↦ Was_dropped z (low z)
      ]

pub two_votes : TwoVotes
two_votes = always TwoVotesOf overtaken
