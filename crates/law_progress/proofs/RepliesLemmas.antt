-- What a replica answers to a Get, and to the first Prepare of an execution.
use Rattle.std.proofs.Common.{◌≡◌, ℕ, inl, refl, ap, sym, ◌∙◌, subst, true, List, Option, Some, None}
use Rattle.std.specs.Prelude.{map, option_map}
use Rattle.protocol.specs.Words.{Exec, Key, Version, NodeId, Envelope, Get, Prepare, Voted, Content, Commit, no_version, before}
use Rattle.protocol.specs.declared.First2.{First2}
use Rattle.protocol.specs.Lists.{IsIn}
use Rattle.protocol.specs.Replica.Taken.{Handled, takes, dropped}
use Rattle.protocol.specs.Replica.Acceptor.{promised, decided}
use Rattle.protocol.specs.Replica.Held.{latest}
use Rattle.protocol.specs.Replica.Votes.{Cast, casts, cast_on, new_cast, may_vote, verdict, vote}
use Rattle.protocol.specs.Replica.Says.{says, answer, note_of}
use Rattle.protocol.specs.Replica.Readers.{envelope_from}
use Rattle.protocol.proofs.ListsLemmas.{IsIn-left}

module _ (firsts : List First2) (r : ℕ) (h : Handled) (none : dropped h ≡ no_version) where
  takes_above : (x : Exec) → before no_version x.ver ≡ true → before (dropped h) x.ver ≡ true
  takes_above x b = ap (λ (u : Version). before u x.ver) none ∙ b

  -- a Get is answered by a Note of what is latest
  pub says_note : (from to : NodeId) (x : Exec) (k : Key) → before no_version x.ver ≡ true →
      IsIn (envelope_from r from (note_of x.ver k (latest firsts h k x.ver))) (says firsts r h (record { from = from; to = to; body = Get x k }))
  unfolding says answer takes
  says_note from to x k b = rw (takes_above x b) (inl refl)

  -- a Prepare of an execution without a vote, with nothing in its way, is answered by a Vote
  pub says_vote : (m : Envelope) (x : Exec) (k : Content) → m.body ≡ Prepare x k → before no_version x.ver ≡ true → promised h x ≡ 0 → vote h x ≡ None →
      decided h x ≡ None → verdict h (casts h) x k ≡ Commit
      → IsIn (envelope_from r m.from (Voted x Commit)) (says firsts r h m)
  unfolding says answer takes may_vote
  says_vote m x k e b p v d c = subst (λ (z : Envelope). IsIn (envelope_from r m.from (Voted x Commit)) (says firsts r h z)) (λ i. record { from = m.from; to = m.to; body = sym e i })
      (rw (takes_above x b) (IsIn-left _ (map (envelope_from r m.from) (map (λ (y : Cast). Voted y.exec y.vote) (new_cast h (casts h) (Prepare x k)))) _ (rw (p, no_cast (cast_on x (casts h)) v, d, c) (inl refl))))
    where
      no_cast : (o : Option Cast) → option_map (λ (y : Cast). y.vote) o ≡ None → o ≡ None
      no_cast None e = refl
      no_cast (Some y) e = cc
