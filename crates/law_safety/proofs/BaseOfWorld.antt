-- The base that is put together from the committed executions is that of the world.
use Rattle.std.proofs.Common.{◌≡◌, ◌<◌, inl, inr, refl, sym, subst, true, false, Bool, cond, List, []}
use Rattle.std.specs.Prelude.{map}
use Rattle.protocol.specs.Words.{Exec, Version, BaseEntry, Content, Kept, Prepare, before}
use Rattle.protocol.specs.Lists.{IsIn}
use Rattle.protocol.specs.Warden.Base.{entries_of, kept_entries}
use Rattle.protocol.specs.World.State.{Plan, World}
use Rattle.protocol.specs.World.Decided.{WasSent, IsWrite, IsBase}
use Rattle.protocol.specs.World.Committed.{CommittedExec, committed_executions, kept_of, base_at}
use Rattle.protocol.proofs.ListsLemmas.{map_in, flat_map_in, IsIn-map, IsIn-flat_map}
use Rattle.law_steps.proofs.Reach.{Reach}
use Rattle.law_steps.proofs.AlwaysLemmas.{always}
use Rattle.law_safety.specs.CommittedList.{IsCommittedAs}
use Rattle.law_safety.specs.Bases.{BaseOfWorld, BaseOfWorldOf}
use Rattle.law_safety.proofs.OneContent.{same_prepared}
use Rattle.law_safety.proofs.BaseLemmas.{puts_hold, puts_of, puts_rising}
use Rattle.law_safety.proofs.BaseIsOne.{base_one}
use Rattle.law_safety.proofs.CommittedList.{listed_only, listed_all}

module _ (p : Plan) (pos : 0 < p.replicas) (w : World) (q : Reach p w) where
  -- the entries of the committed contents at or below a version
  abbrev Entries : Version → List BaseEntry
  Entries v = kept_entries v (map kept_of (committed_executions p w))

  entry_written : (v : Version) (d : BaseEntry) → IsIn d (Entries v) → IsWrite w v d
  entry_written v d i =
      let k = IsIn-flat_map (λ (k : Kept). cond (before v k.exec.ver) [] (entries_of k.exec 1 k.content.writes)) d (map kept_of (committed_executions p w)) i in
      let c = IsIn-map kept_of k.0 (committed_executions p w) k.1 in
      go c.0 (listed_only p pos w q c.0 c.1) (before v c.0.exec.ver) refl (subst (λ (y : Kept). IsIn d (cond (before v y.exec.ver) [] (entries_of y.exec 1 y.content.writes))) c.2 k.2)
    where
      go : (c : CommittedExec) → IsCommittedAs w c → (z : Bool) → before v c.exec.ver ≡ z → IsIn d (cond z [] (entries_of c.exec 1 c.content.writes)) →
          IsWrite w v d
      go c a true e j = absurd j
      go c a false e j = record { exec = c.exec; content = c.content; committed = a.committed; prepared = a.prepared; upto = e; entry = j }

  written_entry : (v : Version) (d : BaseEntry) → IsWrite w v d → IsIn d (Entries v)
  written_entry v d y =
      let c = listed_all p pos w q y.exec y.committed in
      let a = listed_only p pos w q c.0 c.1 in
      let k : y.content ≡ c.0.content =
      same_prepared p w q y.exec y.content c.0.content y.prepared (subst (λ (x : Exec). WasSent w (Prepare x c.0.content)) c.2 a.prepared) in
      let j : IsIn d (entries_of c.0.exec 1 c.0.content.writes) = subst (λ (l : Content). IsIn d (entries_of c.0.exec 1 l.writes)) k (subst (λ (x : Exec). IsIn d (entries_of x 1 y.content.writes)) (sym c.2) y.entry) in
      let low : before v c.0.exec.ver ≡ false = subst (λ (x : Exec). before v x.ver ≡ false) (sym c.2) y.upto in
      flat_map_in (λ (k : Kept). cond (before v k.exec.ver) [] (entries_of k.exec 1 k.content.writes)) (map kept_of (committed_executions p w)) (kept_of c.0) d (map_in kept_of (committed_executions p w) c.0 c.1)
      (subst (λ (z : Bool). IsIn d (cond z [] (entries_of c.0.exec 1 c.0.content.writes))) (sym low) j)

  pub base_is : (v : Version) → IsBase w v (base_at p w v)
  unfolding base_at
  base_is v = record {
    rising = puts_rising [] (Entries v) tt;
    only = λ d i. elim (puts_of [] (Entries v) d i) [ inl j ↦ absurd j | inr j ↦ entry_written v d j ];
    greatest = λ d y. puts_hold [] (Entries v) d (written_entry v d y);
  }

pub base_of_world : BaseOfWorld
base_of_world = always BaseOfWorldOf (λ p some w q. record { holds = base_is p some w q; one = λ v bs b. base_one p some w q v bs (base_at p w v) b (base_is p some w q v) })
