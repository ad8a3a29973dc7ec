-- What one envelope does to what a replica keeps of each execution.
use Rattle.std.proofs.Common.{◌≡◌, ◌≢◌, ◌⊎◌, ◌≤◌, ℕ, inl, inr, ◌∙◌, ap, sym, subst, refl, Bool, true, false, cond, List, [], ◌∷◌, ◌++◌, Option, Some, None, ◌&&◌, ◌==◌, arith}
use Rattle.std.specs.Prelude.{IsTrue, ◌↔◌, is_none, option_map, nat_le, find, not}
use Rattle.std.specs.Option.{option_or}
use Rattle.std.specs.Bool.{then_some}
use Rattle.std.proofs.lemmas.Bool.{le-leb}
use Rattle.morty_base.proofs.Orders.{same_exec_tells}
use Rattle.protocol.specs.Words.{Version, Exec, NodeId, Vote, Choice, ToCommit, Abandon, Content, Kept, Envelope, Body, BaseEntry, Prepare, Finalize, Decide, Ask, Drops, before, same_exec}
use Rattle.protocol.specs.Lists.{one_when}
use Rattle.protocol.specs.Replica.Taken.{Handled, later, dropped, dropped_by}
use Rattle.protocol.specs.Replica.Acceptor.{promised, decided, accepted, accepted_content, accepted_content_for, acceptances, accept_on, pair_of, commits}
use Rattle.protocol.specs.Replica.Votes.{Cast, casts, cast_on, new_cast, may_vote, verdict, vote, known}
use Rattle.protocol.proofs.NamesLemmas.{then_before, same_exec_refl}
use Rattle.protocol.proofs.TestLemmas.{le_is}
use Rattle.protocol.proofs.ReplicaGrows.{later_left, later_right}
use Rattle.view_cell.specs.Cell.{StandsFor as IsCellOf}
use Rattle.view_cell.specs.Laws.{may_change}
use Rattle.view_cell.specs.declared.Cell.{Cell}
use Rattle.view_cell.proofs.CellLemmas.{open_is}
use Rattle.view_cell.proofs.VotesStand.{votes_stand}
use Rattle.view_cell.proofs.DecisionsStand.{decisions_stand}
use Rattle.mv_index.specs.HeldByExec.{committed_content}
use Rattle.mv_index.proofs.Growth.{option_or_none, option_or_assoc}
use Rattle.mv_index.proofs.CommitTurn.{uncommitted}
use Rattle.mv_index.proofs.VotesSame.{after_body}
use Rattle.replica.specs.Ballots.{blank, or_blank, ballot_at, IsBallotOf, StandsFor}
use Rattle.replica.specs.Known.{known_after}
use Rattle.replica.specs.declared.ballots.Ballot.{Ballot}
use Rattle.replica.specs.declared.ballots.Ballots.{Ballots}

-- what is above the new dropped version was above the old one
pub above_before : (h : Handled) (m : Envelope) (v : Version) → before (dropped (m ∷ h)) v ≡ true → before (dropped h) v ≡ true
above_before h m v e = then_before (dropped h) (dropped (m ∷ h)) v (later_left (dropped h) (dropped_by m.body)) e

-- ---- other executions

cast_skips : (x : Exec) (t : Bool) (k : Cast) (old : List Cast) → same_exec x k.exec ≡ false → cast_on x (one_when t k ++ old) ≡ cast_on x old
cast_skips x true k old e = ap (λ s. cond s (Some k) (cast_on x old)) e
cast_skips x false k old e = refl

commit_skips : (x : Exec) (t : Bool) (k : Kept) (old : List Kept) → same_exec x k.exec ≡ false → find (λ (c : Kept). same_exec x c.exec) (one_when t k ++ old)
    ≡ find (λ (c : Kept). same_exec x c.exec) old
commit_skips x true k old e = ap (λ s. cond s (Some k) (find (λ (c : Kept). same_exec x c.exec) old)) e
commit_skips x false k old e = refl

-- an envelope of another execution leaves the acceptor
cell_other : (h : Handled) (from to : NodeId) (b : Body) (x : Exec) (c : Cell) → may_change x b ≡ false → IsCellOf h x c → IsCellOf (after_body h from to b) x c
cell_other h from to (Prepare y k) x c e s = record {
  promise = let p = s.promise in omega arith;
  vote = s.vote ∙ sym (ap (λ o. option_map (λ (z : Cast). z.vote) o)
      (cast_skips x (may_vote h (casts h) y) (record { exec = y; content = k; vote = verdict h (casts h) y k }) (casts h) e));
  accept = s.accept;
  decision = s.decision ∙ sym (option_or_none (decided h x));
}
cell_other h from to (Finalize y v d k) x c e s = record {
  promise = let p = s.promise in rw e (omega arith);
  vote = s.vote;
  accept = s.accept ∙ sym (go (nat_le (promised h y) v));
  decision = s.decision ∙ sym (option_or_none (decided h x));
}
  where
    go : (t : Bool) → option_map pair_of (accept_on x (one_when t (record { exec = y; view = v; choice = d; content = k }) ++ acceptances h)) ≡ accepted h x
    go true = rw e refl
    go false = refl
cell_other h from to (Decide y d k) x c e s = record {
  promise = let p = s.promise in omega arith;
  vote = s.vote;
  accept = s.accept;
  decision = s.decision ∙ sym (ap (λ t. option_or (decided h x) (then_some t d)) e ∙ option_or_none (decided h x));
}
cell_other h from to (Ask y v) x c e s = record {
  promise = let p = s.promise in rw e (omega arith);
  vote = s.vote;
  accept = s.accept;
  decision = s.decision ∙ sym (option_or_none (decided h x));
}
cell_other h from to _ x c e s = record {
  promise = let p = s.promise in omega arith;
  vote = s.vote;
  accept = s.accept;
  decision = s.decision ∙ sym (option_or_none (decided h x));
}

-- the three sources of a known content
abbrev first_known : Option Content → Option Cast → Option Content → Option Content
first_known committed cast accepted = option_or committed (option_or (option_map (λ (y : Cast). y.content) cast) accepted)

known_other : (h : Handled) (from to : NodeId) (b : Body) (x : Exec) → may_change x b ≡ false → known (after_body h from to b) x ≡ known h x
known_other h from to (Prepare y k) x e =
    ap (λ o. first_known (committed_content h x) o (option_or (accepted_content h x) None)) (cast_skips x (may_vote h (casts h) y)
    (record { exec = y; content = k; vote = verdict h (casts h) y k }) (casts h) e)
    ∙ ap (first_known (committed_content h x) (cast_on x (casts h))) (option_or_none (accepted_content h x))
known_other h from to (Finalize y v d None) x e = ap (first_known (committed_content h x) (cast_on x (casts h))) (option_or_none (accepted_content h x))
known_other h from to (Finalize y v d (Some k)) x e =
    ap (λ t. first_known (committed_content h x) (cast_on x (casts h)) (option_or (accepted_content h x) (then_some (t && nat_le (promised h x) v) k))) e
    ∙ ap (first_known (committed_content h x) (cast_on x (casts h))) (option_or_none (accepted_content h x))
known_other h from to (Decide y ToCommit (Some k)) x e =
    ap (λ o. first_known (option_map (λ (z : Kept). z.content) o) (cast_on x (casts h)) (option_or (accepted_content h x) None)) (commit_skips x
    (is_none (decided h y)) (record { exec = y; content = k }) (commits h) e)
    ∙ ap (first_known (committed_content h x) (cast_on x (casts h))) (option_or_none (accepted_content h x))
known_other h from to (Decide y ToCommit None) x e = ap (first_known (committed_content h x) (cast_on x (casts h))) (option_or_none (accepted_content h x))
known_other h from to (Decide y Abandon k) x e = ap (first_known (committed_content h x) (cast_on x (casts h))) (option_or_none (accepted_content h x))
known_other h from to _ x e = ap (first_known (committed_content h x) (cast_on x (casts h))) (option_or_none (accepted_content h x))

-- an envelope leaves what is kept of the executions that it is not about
pub ballots_other : (h : Handled) (from to : NodeId) (b : Body) (bs : Ballots) → ((x : Exec) → may_change x b ≡ false) → StandsFor h bs →
    StandsFor (after_body h from to b) bs
ballots_other h from to b bs other s = record {
  each = λ x e.
      let k = s.each x (above_before h (record { from = from; to = to; body = b }) x.ver e) in
      record { cell = cell_other h from to b x _ (other x) k.cell; content = k.content ∙ sym (known_other h from to b x (other x)) };
}

-- an envelope about y changes what is kept of y alone
pub ballots_turn : (h : Handled) (from to : NodeId) (b : Body) (y : Exec) (new : Ballot) (old bs : Ballots) → ((x : Exec) → may_change x b ≡ same_exec x y) →
    ((x : Exec) → ballot_at bs x ≡ cond (same_exec x y) new (ballot_at old x)) → IsBallotOf (after_body h from to b) y new → StandsFor h old →
    StandsFor (after_body h from to b) bs
ballots_turn h from to b y new old bs about changes s t =
    record { each = λ x e. subst (IsBallotOf (after_body h from to b) x) (sym (changes x)) (go x e (same_exec x y) (same_exec_tells x y) refl) }
  where
    go : (x : Exec) → before (dropped (after_body h from to b)) x.ver ≡ true → (t : Bool) → ((t ≡ true) × (x ≡ y)) ⊎ ((t ≡ false) × (x ≢ y)) →
        same_exec x y ≡ t → IsBallotOf (after_body h from to b) x (cond t new (ballot_at old x))
    go x e true (inl q) f = subst (λ z. IsBallotOf (after_body h from to b) z new) (sym q.1) s
    go x e true (inr q) f = absurd (cc (q.0))
    go x e false q f =
        let k = t.each x (above_before h (record { from = from; to = to; body = b }) x.ver e) in
        record { cell = cell_other h from to b x _ (about x ∙ f) k.cell; content = k.content ∙ sym (known_other h from to b x (about x ∙ f)) }

-- one that changes nothing of y leaves all
pub ballots_same : (h : Handled) (from to : NodeId) (b : Body) (y : Exec) (bs : Ballots) → ((x : Exec) → may_change x b ≡ same_exec x y) →
    IsBallotOf (after_body h from to b) y (ballot_at bs y) → StandsFor h bs → StandsFor (after_body h from to b) bs
ballots_same h from to b y bs about s t = ballots_turn h from to b y (ballot_at bs y) bs bs about (λ x. go x (same_exec x y) (same_exec_tells x y)) s t
  where
    go : (x : Exec) (t : Bool) → ((t ≡ true) × (x ≡ y)) ⊎ ((t ≡ false) × (x ≢ y)) → ballot_at bs x ≡ cond t (ballot_at bs y) (ballot_at bs x)
    go x true (inl q) = ap (ballot_at bs) q.1
    go x true (inr q) = absurd (cc (q.0))
    go x false q = refl

-- ---- what is known of the execution itself

pub known_ask : (h : Handled) (from to : NodeId) (y : Exec) (v : ℕ) → known (after_body h from to (Ask y v)) y ≡ known h y
known_ask h from to y v = ap (first_known (committed_content h y) (cast_on y (casts h))) (option_or_none (accepted_content h y))

-- a content that is accepted
abbrev pub accepts_of : Bool → Option Content → Option Content
accepts_of true c = c
accepts_of false c = None

pub known_finalize : (h : Handled) (from to : NodeId) (y : Exec) (v : ℕ) (d : Choice) (c : Option Content) (t : Bool) → nat_le (promised h y) v ≡ t →
    known (after_body h from to (Finalize y v d c)) y ≡ option_or (known h y) (accepts_of t c)
known_finalize h from to y v d c t e =
    ap (λ o. option_or (committed_content h y) (option_or voted (option_or (accepted_content h y) o))) (new c)
    ∙ (ap (option_or (committed_content h y)) (sym (option_or_assoc voted (accepted_content h y) (accepts_of t c)))
    ∙ sym (option_or_assoc (committed_content h y) (option_or voted (accepted_content h y)) (accepts_of t c)))
  where
    voted : Option Content
    voted = option_map (λ (z : Cast). z.content) (cast_on y (casts h))

    taken : (s : Bool) (k : Content) → then_some s k ≡ accepts_of s (Some k)
    taken true k = refl
    taken false k = refl

    none : (s : Bool) → None ≡ accepts_of s None
    none true = refl
    none false = refl

    new : (c : Option Content) → accepted_content_for (promised h y) y (Finalize y v d c) ≡ accepts_of t c
    new None = none t
    new (Some k) = ap (λ s. then_some (s && nat_le (promised h y) v) k) (same_exec_refl y) ∙ (ap (λ s. then_some s k) e ∙ taken t k)

pub known_vote : (h : Handled) (from to : NodeId) (y : Exec) (c : Content) → may_vote h (casts h) y ≡ true →
    known (after_body h from to (Prepare y c)) y ≡ Some c
unfolding may_vote
known_vote h from to y c e =
    ap (λ o. first_known o (cast_on y (new_cast h (casts h) (Prepare y c) ++ casts h)) (option_or (accepted_content h y) None)) (uncommitted h y undecided)
    ∙ (ap (λ t. first_known None (cast_on y (one_when t (record { exec = y; content = c; vote = verdict h (casts h) y c }) ++ casts h))
    (option_or (accepted_content h y) None)) e
    ∙ ap (λ t. first_known None (cond t (Some (record { exec = y; content = c; vote = verdict h (casts h) y c })) (cast_on y (casts h)))
    (option_or (accepted_content h y) None)) (same_exec_refl y))
  where
    right : (a b : Bool) → (a && b) ≡ true → b ≡ true
    right true b e = e
    right false b e = cc

    none_of : (o : Option Choice) → is_none o ≡ true → o ≡ None
    none_of None e = refl
    none_of (Some d) e = cc

    undecided : decided h y ≡ None
    undecided = none_of (decided h y) (right (is_none (cast_on y (casts h))) _ (right (promised h y == 0) _ e))

pub known_unvoted : (h : Handled) (from to : NodeId) (y : Exec) (c : Content) → may_vote h (casts h) y ≡ false →
    known (after_body h from to (Prepare y c)) y ≡ known h y
known_unvoted h from to y c e =
    ap (λ t. first_known (committed_content h y) (cast_on y (one_when t (record { exec = y; content = c; vote = verdict h (casts h) y c }) ++ casts h))
    (option_or (accepted_content h y) None)) e
    ∙ ap (first_known (committed_content h y) (cast_on y (casts h))) (option_or_none (accepted_content h y))

pub known_decided : (h : Handled) (from to : NodeId) (y : Exec) (d : Choice) (c : Option Content) → decided h y ≡ None →
    known (after_body h from to (Decide y d c)) y ≡ known_after d c (known h y)
known_decided h from to y ToCommit (Some c) e =
    ap (λ o. first_known (option_map (λ (z : Kept). z.content)
    (find (λ (z : Kept). same_exec y z.exec) (one_when (is_none o) (record { exec = y; content = c })
    ++ commits h))) (cast_on y (casts h)) (option_or (accepted_content h y) None)) e
    ∙ ap (λ t. first_known (option_map (λ (z : Kept). z.content)
    (cond t (Some (record { exec = y; content = c })) (find (λ (z : Kept). same_exec y z.exec)
    (commits h)))) (cast_on y (casts h)) (option_or (accepted_content h y) None)) (same_exec_refl y)
known_decided h from to y ToCommit None e = ap (first_known (committed_content h y) (cast_on y (casts h))) (option_or_none (accepted_content h y))
known_decided h from to y Abandon c e = ap (first_known (committed_content h y) (cast_on y (casts h))) (option_or_none (accepted_content h y))

pub known_again : (h : Handled) (from to : NodeId) (y : Exec) (d : Choice) (c : Option Content) → is_none (decided h y) ≡ false →
    known (after_body h from to (Decide y d c)) y ≡ known h y
known_again h from to y ToCommit (Some c) e =
    ap (λ t. first_known (option_map (λ (z : Kept). z.content)
    (find (λ (z : Kept). same_exec y z.exec) (one_when t (record { exec = y; content = c })
    ++ commits h))) (cast_on y (casts h)) (option_or (accepted_content h y) None)) e
    ∙ ap (first_known (committed_content h y) (cast_on y (casts h))) (option_or_none (accepted_content h y))
known_again h from to y ToCommit None e = ap (first_known (committed_content h y) (cast_on y (casts h))) (option_or_none (accepted_content h y))
known_again h from to y Abandon c e = ap (first_known (committed_content h y) (cast_on y (casts h))) (option_or_none (accepted_content h y))

-- ---- ballots in their map

pub or_blank_put : (t : Bool) (b : Ballot) (o : Option Ballot) → or_blank (cond t (Some b) o) ≡ cond t b (or_blank o)
or_blank_put true b o = refl
or_blank_put false b o = refl

pub or_blank_cut : (t : Bool) (o : Option Ballot) → or_blank (cond t o None) ≡ cond t (or_blank o) blank
or_blank_cut true o = refl
or_blank_cut false o = refl

pub put_twice : (t : Bool) (b c d : Ballot) → cond t b (cond t c d) ≡ cond t b d
put_twice true b c d = refl
put_twice false b c d = refl

-- an acceptor to which nothing came is that of a blank ballot
pub cell_at_first : (c : Cell) → ((x : Exec) → IsCellOf [] x c) → (x : Exec) → c ≡ blank.cell
cell_at_first c e x = let s = e x in λ i. record { promised = s.promise i; vote = s.vote i; accepted = s.accept i; decided = s.decision i }

-- who may accept in a view
pub accept_level : (p v : ℕ) (t : Bool) → (IsTrue t ↔ (p ≤ v)) → nat_le p v ≡ t
accept_level p v t e = go t e (nat_le p v) refl
  where
    go : (t : Bool) → (IsTrue t ↔ (p ≤ v)) → (u : Bool) → nat_le p v ≡ u → u ≡ t
    go true e true f = refl
    go true e false f = let z : nat_le p v ≡ true = le-leb p v (e.0 refl) in absurd (cc (z, f))
    go false e true f = let z : false ≡ true = e.1 (le_is p v f) in absurd cc
    go false e false f = refl

-- what a Drop leaves
pub ballots_cut : (h : Handled) (from to : NodeId) (w : Version) (base : List BaseEntry) (old new : Ballots) →
    ((x : Exec) → ballot_at new x ≡ cond (before w x.ver) (ballot_at old x) blank) → StandsFor h old → StandsFor (after_body h from to (Drops w base)) new
ballots_cut h from to w base old new cuts s =
    let t = ballots_other h from to (Drops w base) old (λ x. refl) s in
    record {
      each = λ x e. subst (IsBallotOf (after_body h from to (Drops w base)) x) (sym (cuts x ∙ ap (λ t. cond t (ballot_at old x) blank) (above x e)))
          (t.each x e);
    }
  where
    above : (x : Exec) → before (later (dropped h) w) x.ver ≡ true → before w x.ver ≡ true
    above x e = then_before w (later (dropped h) w) x.ver (later_right (dropped h) w) e

-- an acceptor that is open to a vote has it once it is cast
pub voted_cell : (h : Handled) (from to : NodeId) (x : Exec) (content : Content) (c : Cell) (v : Vote) → IsCellOf h x c → may_vote h (casts h) x ≡ true →
    v ≡ verdict h (casts h) x content → IsCellOf (after_body h from to (Prepare x content)) x (record c { vote = Some v })
voted_cell h from to x content c v s may is =
    subst (λ u. IsCellOf (after_body h from to (Prepare x content)) x (record c { vote = Some u })) (sym is)
    (subst (λ t. IsCellOf (after_body h from to (Prepare x content)) x (cond t (record c { vote = Some (verdict h (casts h) x content) }) c))
    (sym (open_is h x c s) ∙ may) (votes_stand h x c content from to s))

-- one of an execution that is not decided has the first decision
pub decided_cell : (h : Handled) (from to : NodeId) (x : Exec) (d : Choice) (content : Option Content) (c : Cell) → IsCellOf h x c → decided h x ≡ None →
    IsCellOf (after_body h from to (Decide x d content)) x (record c { decided = Some d })
decided_cell h from to x d content c s e =
    subst (λ o. IsCellOf (after_body h from to (Decide x d content)) x (record c { decided = option_or o (Some d) })) (s.decision
    ∙ e) (decisions_stand h x c d content from to s)

pub or_blank_none : (t : Bool) (o : Option Ballot) → or_blank (cond t None o) ≡ cond t blank (or_blank o)
or_blank_none true o = refl
or_blank_none false o = refl
