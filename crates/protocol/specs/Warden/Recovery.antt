-- How a warden recovers an execution, in views of its own.
use Rattle.std.specs.Prelude.{ℕ, suc, ◌+◌, ◌*◌, Bool, true, false, cond, not, ◌&&◌, ◌==◌, nat_lt, nat_le, List, [], ◌∷◌, ◌++◌, length, Option, Some, None, is_none, find}
use Rattle.std.specs.List.{list_any, list_all}
use Rattle.protocol.specs.Words.{Exec, NodeId, Choice, Abandon, ToCommit, Accept, Content, Body, Finalize, Accepted, Decide, Ask, Told, same_exec, Vote}
use Rattle.std.specs.Option.{option_or}
use Rattle.protocol.specs.Lists.{one_when}
use Rattle.protocol.specs.Replica.Votes.{is_commit_vote}
use Rattle.protocol.specs.Quorums.{quorum}
use Rattle.protocol.specs.Client.Counting.{sender}
use Rattle.protocol.specs.Warden.State.{Parcel, Proposal, Round, ToldAnswer, WardenRules, WardenState, WardenTurn, decision_on, still}
use Rattle.protocol.specs.Warden.State.Parcel.{To_all, To_client}

-- how many views this warden used for x
abbrev pub used : Exec → List Round → ℕ
used x [] = 0
used x (a ∷ rounds) = cond (same_exec x a.exec) (suc (used x rounds)) (used x rounds)

-- its lowest view not yet used for x: of W wardens the k-th has the views k, k + W, k + 2W and on
unfoldable pub next_view : WardenRules → WardenState → Exec → ℕ
next_view rules s x = rules.warden + used x s.rounds * rules.wardens

-- a warden asks all replicas in its next view
unfoldable pub recover : WardenRules → WardenState → Exec → WardenTurn
recover rules s x = record {
  state = record s { rounds = record { exec = x; view = next_view rules s x; tolds = []; proposal = None; accepts = [] } ∷ s.rounds };
  sent = To_all (Ask x (next_view rules s x)) ∷ [];
}

-- the first decision that is told
abbrev pub told_decision : List ToldAnswer → Option Choice
told_decision [] = None
told_decision (t ∷ ts) = option_or t.decided (told_decision ts)

-- the pair of the higher view, the first of equals
abbrev pub higher : Option Accept → Option Accept → Option Accept
higher None b = b
higher (Some a) None = Some a
higher (Some a) (Some b) = Some (cond (nat_lt a.view b.view) b a)

-- the pair accepted in the highest view that is told
abbrev pub told_accept : List ToldAnswer → Option Accept
told_accept [] = None
told_accept (t ∷ ts) = higher t.accepted (told_accept ts)

-- there is a vote, and it is Commit
abbrev pub is_voted_commit : Option Vote → Bool
is_voted_commit None = false
is_voted_commit (Some v) = is_commit_vote v

-- the replica told a Commit vote
abbrev pub told_commit : ToldAnswer → Bool
told_commit t = is_voted_commit t.vote

-- the first content that is told
abbrev pub told_content : List ToldAnswer → Option Content
told_content [] = None
told_content (t ∷ ts) = option_or t.content (told_content ts)

-- a decision, else the choice accepted in the highest view, else Commit where all voted so, else Abandon
abbrev pub fixed_choice : Option Choice → Option Accept → Bool → Choice
fixed_choice (Some d) a b = d
fixed_choice None (Some a) b = a.choice
fixed_choice None None true = ToCommit
fixed_choice None None false = Abandon

-- without a content Commit cannot be proposed
abbrev pub with_content : Choice → Option Content → Proposal
with_content ToCommit (Some c) = record { choice = ToCommit; content = Some c }
with_content _ _ = record { choice = Abandon; content = None }

-- the proposal that the first f+1 Tolds fix
unfoldable pub fixed : List ToldAnswer → Proposal
fixed ts = with_content (fixed_choice (told_decision ts) (told_accept ts) (list_all told_commit ts)) (told_content ts)

-- the round of x in view v
abbrev pub round_of : Exec → ℕ → List Round → Option Round
round_of x v rounds = find (λ a. same_exec x a.exec && (a.view == v)) rounds

-- that round is replaced
abbrev pub with_round : Exec → ℕ → Round → List Round → List Round
with_round x v new [] = []
with_round x v new (a ∷ rounds) = cond (same_exec x a.exec && (a.view == v)) (new ∷ rounds) (a ∷ with_round x v new rounds)

-- the warden with that round replaced
abbrev pub round_put : WardenState → Exec → ℕ → Round → WardenState
round_put s x v new = record s { rounds = with_round x v new s.rounds }

-- one more Told counts
abbrev pub with_told : Round → ToldAnswer → Round
with_told a t = record { exec = a.exec; view = a.view; tolds = a.tolds ++ t ∷ []; proposal = None; accepts = [] }

-- the round has its proposal
abbrev pub with_proposal : Round → Proposal → Round
with_proposal a p = record { exec = a.exec; view = a.view; tolds = a.tolds; proposal = Some p; accepts = [] }

-- the choice is fixed, and proposed in this view
unfoldable pub proposes : WardenState → Exec → ℕ → Round → WardenTurn
proposes s x v a = record {
  state = round_put s x v (with_proposal a (fixed a.tolds));
  sent = To_all (Finalize x v (fixed a.tolds).choice (fixed a.tolds).content) ∷ [];
}

-- the first f+1 replicas whose Told of a view arrives fix its choice
unfoldable pub take_told : WardenRules → WardenState → Exec → ℕ → ToldAnswer → Option Round → WardenTurn
take_told rules s x v t None = still s
take_told rules s x v t (Some a) =
    cond (not (is_none a.proposal && not (list_any (λ u. u.replica == t.replica) a.tolds))) (still s)
    (cond (nat_le (quorum rules.replicas) (suc (length a.tolds))) (proposes s x v (with_told a t))
    (still (round_put s x v (with_told a t))))

-- the client of the version, where there is one
abbrev pub to_client : WardenRules → Exec → Body → List Parcel
to_client rules x b = one_when (nat_lt 0 x.ver.client && nat_le x.ver.client rules.clients) (To_client x.ver.client b)

-- one more replica accepted
abbrev pub with_accept : Round → Proposal → ℕ → Round
with_accept a p j = record { exec = a.exec; view = a.view; tolds = a.tolds; proposal = Some p; accepts = a.accepts ++ j ∷ [] }

-- what was proposed is decided: all replicas are told, then the client
unfoldable pub decides : WardenRules → WardenState → Exec → ℕ → Round → Proposal → WardenTurn
decides rules s x v a p = record {
  state = record { rounds = with_round x v a s.rounds; decisions = record { exec = x; proposal = p } ∷ s.decisions; truncations = s.truncations };
  sent = To_all (Decide x p.choice p.content) ∷ to_client rules x (Decide x p.choice p.content);
}

-- f+1 Accepted of a view decide what was proposed in it
unfoldable pub count_accept : WardenRules → WardenState → Exec → ℕ → ℕ → Round → Option Proposal → WardenTurn
count_accept rules s x v j a None = still s
count_accept rules s x v j a (Some p) =
    cond (list_any (λ i. i == j) a.accepts) (still s)
    (cond (nat_le (quorum rules.replicas) (suc (length a.accepts))) (decides rules s x v (with_accept a p j) p)
    (still (round_put s x v (with_accept a p j))))

-- an Accepted of a view in which this warden asked
abbrev pub take_accept : WardenRules → WardenState → Exec → ℕ → ℕ → Option Round → WardenTurn
take_accept rules s x v j None = still s
take_accept rules s x v j (Some a) = count_accept rules s x v j a a.proposal

-- what counts comes from a replica
abbrev pub heard : WardenState → (ℕ → WardenTurn) → Option ℕ → WardenTurn
heard s f None = still s
heard s f (Some k) = f k

-- about an execution that it has decided a warden takes no more Told and no more Accepted
unfoldable pub recovery_hears : WardenRules → WardenState → NodeId → Body → WardenTurn
recovery_hears rules s from (Told x view vote accepted decided content) =
    let told : ℕ → ToldAnswer = λ k. record { replica = k; vote = vote; accepted = accepted; decided = decided; content = content } in
    cond (is_none (decision_on s x)) (heard s (λ k. take_told rules s x view (told k) (round_of x view s.rounds)) (sender rules.replicas from)) (still s)
recovery_hears rules s from (Accepted x view) =
    cond (is_none (decision_on s x)) (heard s (λ k. take_accept rules s x view k (round_of x view s.rounds)) (sender rules.replicas from)) (still s)
recovery_hears rules s from _ = still s
