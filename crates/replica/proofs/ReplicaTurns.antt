-- What the parts of a replica make of one envelope together.
use Rattle.std.proofs.Common.{◌≡◌, ◌⊎◌, inl, inr, ℕ, ◌∙◌, ap, sym, subst, refl, Bool, true, false, cond, List, [], ◌∷◌, Option, Some, None, ◌&&◌, ◌||◌, ◌++◌}
use Rattle.std.specs.Prelude.{ℤ, not, is_none, map, option_map}
use Rattle.std.specs.List.{list_any}
use Rattle.std.specs.Option.{option_or}
use Rattle.protocol.specs.Words.{Version, Exec, Key, Wid, NodeId, Accept, BaseEntry, Kept, Note, Accepted, Told, Fenced, TooOld, Vote, Commit, Choice, Content, Envelope, Body, Prepare, Decide, Voted, no_version, before}
use Rattle.protocol.specs.Lists.{one_when}
use Rattle.protocol.specs.Replica.Taken.{Handled, later, dropped, dropped_by, fence, fenced_by, version_of, lacks_content, is_above, takes}
use Rattle.protocol.specs.Replica.Acceptor.{decided}
use Rattle.protocol.specs.Replica.Votes.{Cast, casts, cast_on, may_vote, verdict, vote, is_commit_vote}
use Rattle.protocol.specs.Replica.Readers.{envelope_from, due}
use Rattle.protocol.specs.Replica.Says.{answer, refusal, says}
use Rattle.protocol.specs.declared.First2.{First2}
use Rattle.protocol.proofs.NamesLemmas.{same_exec_refl}
use Rattle.protocol.proofs.TestLemmas.{and_left, and_right, true_false}
use Rattle.view_cell.specs.Cell.{StandsFor as IsCellOf}
use Rattle.view_cell.specs.declared.Cell.{Cell}
use Rattle.view_cell.proofs.CellLemmas.{open_is}
use Rattle.view_cell.proofs.VotesStand.{votes_stand}
use Rattle.view_cell.proofs.DecisionsStand.{decisions_stand}
use Rattle.mv_index.proofs.Growth.{later_none}
use Rattle.mv_index.specs.Records.{StandsFor as RecordsStandFor, WereTold}
use Rattle.mv_index.specs.Unseen.{is_unseen}
use Rattle.mv_index.specs.declared.records.Records.{Records}
use Rattle.mv_index.proofs.VotesSame.{after_body}
use Rattle.replica.specs.Ballots.{ballot_at, StandsFor as BallotsStandFor}
use Rattle.replica.specs.Replica.{Keeps}
use Rattle.replica.specs.declared.ballots.Ballots.{Ballots}
use Rattle.replica.specs.declared.replica.Replica.{Replica}
use Rattle.replica.proofs.BallotTurns.{ballots_same, known_unvoted, known_again}

-- a body that is taken is about a version above the dropped one, with its content
pub taken_above : (h : Handled) (b : Body) (v : Version) → version_of b ≡ Some v → takes h b ≡ true → before (dropped h) v ≡ true
unfolding takes
taken_above h b v e t = sym (ap (is_above (dropped h)) e) ∙ and_left (is_above (dropped h) (version_of b)) (not (lacks_content b)) t

pub taken_content : (h : Handled) (b : Body) → takes h b ≡ true → lacks_content b ≡ false
unfolding takes
taken_content h b t = turned (lacks_content b) (and_right (is_above (dropped h) (version_of b)) (not (lacks_content b)) t)
  where
    turned : (t : Bool) → not t ≡ true → t ≡ false
    turned true e = cc
    turned false e = refl

pub none_untaken : (h : Handled) (b : Body) → version_of b ≡ None → takes h b ≡ false
unfolding takes
none_untaken h b e = ap (λ o. is_above (dropped h) o && not (lacks_content b)) e

-- the bodies that no rule names
abbrev pub IsUnruled : Body → Type 0
IsUnruled b =
    ((ver : Version) × (key : Key) × (wid : Wid) × (value : ℤ) × (sure : Bool) × (gone : Option Wid) × (b ≡ Note ver key wid value sure gone))
    ⊎ (((x : Exec) × (v : Vote) × (b ≡ Voted x v))
    ⊎ (((x : Exec) × (view : ℕ) × (b ≡ Accepted x view))
    ⊎ (((x : Exec) × (view : ℕ) × (v : Option Vote) × (accepted : Option Accept) × (decided : Option Choice) × (content : Option Content)
    × (b ≡ Told x view v accepted decided content))
    ⊎ (((w : Version) × (base : List BaseEntry) × (committed : List Kept) × (voted : List Kept) × (b ≡ Fenced w base committed voted))
    ⊎ ((ver : Version) × (w : Version) × (b ≡ TooOld ver w))))))

unruled_version : (b : Body) → IsUnruled b → version_of b ≡ None
unruled_version b (inl p) = ap version_of p.6
unruled_version b (inr (inl p)) = ap version_of p.2
unruled_version b (inr (inr (inl p))) = ap version_of p.2
unruled_version b (inr (inr (inr (inl p)))) = ap version_of p.6
unruled_version b (inr (inr (inr (inr (inl p))))) = ap version_of p.4
unruled_version b (inr (inr (inr (inr (inr p))))) = ap version_of p.2

pub unruled_untaken : (h : Handled) (b : Body) → IsUnruled b → takes h b ≡ true → ⊥
unruled_untaken h b u t = let n : takes h b ≡ false = none_untaken h b (unruled_version b u) in true_false (sym t ∙ n)

-- a body that neither drops nor fences
pub keeps_with : (firsts : List First2) (number : ℕ) (h : Handled) (from to : NodeId) (b : Body) (r : Replica) (records : Records) (ballots : Ballots) →
    dropped_by b ≡ no_version → fenced_by b ≡ no_version → Keeps firsts number h h r → RecordsStandFor firsts (after_body h from to b) records →
    WereTold firsts h records → BallotsStandFor (after_body h from to b) ballots →
    Keeps firsts number h (after_body h from to b) (record r { records = records; ballots = ballots })
keeps_with firsts number h from to b r records ballots d f k rs told bs = record {
  number_is = k.number_is;
  dropped_is = k.dropped_is ∙ sym (ap (later (dropped h)) d ∙ later_none (dropped h));
  fence_is = k.fence_is ∙ sym (ap (later (fence h)) f ∙ later_none (fence h));
  records = rs;
  told = told;
  ballots = bs;
}

-- ---- votes

abbrev pub cast_of : Handled → Exec → Content → Cast
cast_of h x c = record { exec = x; content = c; vote = verdict h (casts h) x c }

pub unvoted_unseen : (h : Handled) (x : Exec) (c : Content) → may_vote h (casts h) x ≡ false → is_unseen h (Prepare x c) ≡ true
unvoted_unseen h x c e = ap (λ t. not (list_any (λ (y : Cast). is_commit_vote y.vote) (one_when t (cast_of h x c)))) e

-- a vote that is not Commit
pub other_unseen : (h : Handled) (x : Exec) (c : Content) → is_commit_vote (verdict h (casts h) x c) ≡ false → is_unseen h (Prepare x c) ≡ true
other_unseen h x c e = go (may_vote h (casts h) x)
  where
    go : (t : Bool) → not (list_any (λ (y : Cast). is_commit_vote y.vote) (one_when t (cast_of h x c))) ≡ true
    go true = ap (λ t. not (t || false)) e
    go false = refl

pub not_voted : (h : Handled) (x : Exec) → may_vote h (casts h) x ≡ true → vote h x ≡ None
unfolding may_vote
not_voted h x e = none_of (cast_on x (casts h)) (and_left (is_none (cast_on x (casts h))) _ (and_right _ _ e))
  where
    none_of : (o : Option Cast) → is_none o ≡ true → option_map (λ (y : Cast). y.vote) o ≡ None
    none_of None e = refl
    none_of (Some y) e = cc

pub voted_now : (h : Handled) (from to : NodeId) (x : Exec) (c : Content) (v : Vote) → may_vote h (casts h) x ≡ true → v ≡ verdict h (casts h) x c →
    vote (after_body h from to (Prepare x c)) x ≡ Some v
voted_now h from to x c v e is =
    ap (λ t. option_map (λ (y : Cast). y.vote) (cast_on x (one_when t (cast_of h x c) ++ casts h))) e
    ∙ (ap (λ t. option_map (λ (y : Cast). y.vote) (cond t (Some (cast_of h x c)) (cast_on x (casts h)))) (same_exec_refl x) ∙ ap Some (sym is))

pub answer_unvoted : (firsts : List First2) (h : Handled) (x : Exec) (c : Content) → may_vote h (casts h) x ≡ false → [] ≡ answer firsts h (Prepare x c)
unfolding answer
answer_unvoted firsts h x c e = ap (λ t. map (λ (y : Cast). Voted y.exec y.vote) (one_when t (cast_of h x c))) (sym e)

pub answer_voted : (firsts : List First2) (h : Handled) (x : Exec) (c : Content) (v : Vote) → may_vote h (casts h) x ≡ true → v ≡ verdict h (casts h) x c →
    Voted x v ∷ [] ≡ answer firsts h (Prepare x c)
unfolding answer
answer_voted firsts h x c v e is = ap (λ u. Voted x u ∷ []) is ∙ ap (λ t. map (λ (y : Cast). Voted y.exec y.vote) (one_when t (cast_of h x c))) (sym e)

-- who may not vote keeps what it has
pub ballots_unvoted : (h : Handled) (from to : NodeId) (x : Exec) (c : Content) (bs : Ballots) → before (dropped h) x.ver ≡ true →
    may_vote h (casts h) x ≡ false → BallotsStandFor h bs → BallotsStandFor (after_body h from to (Prepare x c)) bs
ballots_unvoted h from to x c bs b e s =
    let k = s.each x b in
    ballots_same h from to (Prepare x c) x bs (λ z. refl)
    (record {
      cell = same_cell (ballot_at bs x).cell k.cell;
      content = k.content ∙ sym (known_unvoted h from to x c e);
    }) s
  where
    same_cell : (cell : Cell) → IsCellOf h x cell → IsCellOf (after_body h from to (Prepare x c)) x cell
    same_cell cell k = subst (λ t. IsCellOf (after_body h from to (Prepare x c)) x (cond t (record cell { vote = Some (verdict h (casts h) x c) }) cell)) (sym
        (open_is h x cell k) ∙ e) (votes_stand h x cell c from to k)

-- ---- decisions

pub decided_some : (o : Option Choice) (t : Bool) → t ≡ not (is_none o) → t ≡ true → is_none o ≡ false
decided_some None t e f = cc
decided_some (Some d) t e f = refl

pub decided_none : (o : Option Choice) (t : Bool) → t ≡ not (is_none o) → t ≡ false → o ≡ None
decided_none None t e f = refl
decided_none (Some d) t e f = cc

-- a second decision changes nothing
pub ballots_again : (h : Handled) (from to : NodeId) (x : Exec) (d : Choice) (c : Option Content) (bs : Ballots) → before (dropped h) x.ver ≡ true →
    is_none (decided h x) ≡ false → BallotsStandFor h bs → BallotsStandFor (after_body h from to (Decide x d c)) bs
ballots_again h from to x d c bs b e s =
    let k = s.each x b in
    ballots_same h from to (Decide x d c) x bs (λ z. refl)
    (record {
      cell = same_cell (ballot_at bs x).cell k.cell;
      content = k.content ∙ sym (known_again h from to x d c e);
    }) s
  where
    kept : (o : Option Choice) → is_none o ≡ false → option_or o (Some d) ≡ o
    kept None e = cc
    kept (Some a) e = refl

    same_cell : (cell : Cell) → IsCellOf h x cell → IsCellOf (after_body h from to (Decide x d c)) x cell
    same_cell cell k = subst (λ o. IsCellOf (after_body h from to (Decide x d c)) x (record cell { decided = o })) (kept cell.decided (ap is_none k.decision
        ∙ e)) (decisions_stand h x cell d c from to k)

-- ---- what is sent

pub says_taken : (firsts : List First2) (number : ℕ) (h : Handled) (m : Envelope) → takes h m.body ≡ true →
    map (envelope_from number m.from) (answer firsts h m.body) ++ due firsts number h (m ∷ h) ≡ says firsts number h m
unfolding says
says_taken firsts number h m e =
    sym (ap (λ t. cond t (map (envelope_from number m.from) (answer firsts h m.body) ++ due firsts number h (m ∷ h))
    (map (envelope_from number m.from) (refusal h m.body))) e)

pub says_untaken : (firsts : List First2) (number : ℕ) (h : Handled) (m : Envelope) → takes h m.body ≡ false →
    map (envelope_from number m.from) (refusal h m.body) ≡ says firsts number h m
unfolding says
says_untaken firsts number h m e =
    sym (ap (λ t. cond t (map (envelope_from number m.from) (answer firsts h m.body) ++ due firsts number h (m ∷ h))
    (map (envelope_from number m.from) (refusal h m.body))) e)

-- a mark on a replica leaves its parts
pub keeps_marked : (firsts : List First2) (number : ℕ) (seen h : Handled) (r : Replica) (t : Bool) → Keeps firsts number seen h r →
    Keeps firsts number seen h (record r { broken = t })
keeps_marked firsts number seen h r t k = record {
  number_is = k.number_is;
  dropped_is = k.dropped_is;
  fence_is = k.fence_is;
  records = k.records;
  told = k.told;
  ballots = k.ballots;
}
