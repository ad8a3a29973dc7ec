-- What an envelope changes of the contents that have a Commit vote and no decision.
use Rattle.std.proofs.Common.{◌≡◌, ◌≢◌, ◌⊎◌, inl, inr, ◌∙◌, Bool, true, false, cond, List, ◌∷◌, ◌++◌, ◌||◌, ◌&&◌, Option, Some, None, ap, sym, subst, refl}
use Rattle.std.specs.Prelude.{is_none, not, option_map, ◌==◌}
use Rattle.std.specs.List.{list_any}
use Rattle.std.specs.Option.{option_or}
use Rattle.std.specs.Bool.{then_some}
use Rattle.morty_base.proofs.Orders.{same_exec_tells}
use Rattle.protocol.specs.Words.{Exec, NodeId, before, same_exec, Choice, Content, Vote, Commit, Write, BaseEntry, Body, Get, Puts, Prepare, Decide, Drops, Key, Version}
use Rattle.protocol.specs.Lists.{one_when}
use Rattle.protocol.specs.Replica.Taken.{Handled, dropped}
use Rattle.protocol.specs.Replica.Acceptor.{promised, decided}
use Rattle.protocol.specs.Replica.Votes.{Cast, casts, cast_on, is_commit_vote, may_vote, new_cast, verdict, vote}
use Rattle.mv_index.proofs.Growth.{option_or_none}
use Rattle.mv_index.specs.Clash.{standing_vote, voted_content}
use Rattle.mv_index.specs.Unseen.{is_unseen}

-- the list after a body came
abbrev pub after_body : Handled → NodeId → NodeId → Body → Handled
after_body h from to b = record { from = from; to = to; body = b } ∷ h

standing_same : (h h' : Handled) (x : Exec) (o : Option Cast) → decided h' x ≡ decided h x → standing_vote h' x o ≡ standing_vote h x o
standing_same h h' x None e = refl
standing_same h h' x (Some y) e = ap (λ d. cond (is_commit_vote y.vote && is_none d) (Some y.content) None) e

-- where no vote is cast and nothing is decided no vote changes
pub votes_stay : (h h' : Handled) → casts h' ≡ casts h → ((x : Exec) → decided h' x ≡ decided h x) → (x : Exec) → voted_content h' x ≡ voted_content h x
votes_stay h h' c d x = ap (λ (l : List Cast). standing_vote h' x (cast_on x l)) c ∙ standing_same h h' x (cast_on x (casts h)) (d x)

decided_stays : (h : Handled) (x : Exec) → option_or (decided h x) None ≡ decided h x
decided_stays h x = option_or_none (decided h x)

pub get_votes : (h : Handled) (from to : NodeId) (y : Exec) (k : Key) (x : Exec) → voted_content (after_body h from to (Get y k)) x ≡ voted_content h x
get_votes h from to y k = votes_stay h (after_body h from to (Get y k)) refl (decided_stays h)

pub puts_votes : (h : Handled) (from to : NodeId) (y : Exec) (ws : List Write) (x : Exec) →
    voted_content (after_body h from to (Puts y ws)) x ≡ voted_content h x
puts_votes h from to y ws = votes_stay h (after_body h from to (Puts y ws)) refl (decided_stays h)

pub drop_votes : (h : Handled) (from to : NodeId) (w : Version) (new : List BaseEntry) (x : Exec) →
    voted_content (after_body h from to (Drops w new)) x ≡ voted_content h x
drop_votes h from to w new = votes_stay h (after_body h from to (Drops w new)) refl (decided_stays h)

-- ---- a decision

-- a second decision decides nothing
pub decided_again : (h : Handled) (from to : NodeId) (y : Exec) (d : Choice) (c : Option Content) → is_none (decided h y) ≡ false → (x : Exec) →
    decided (after_body h from to (Decide y d c)) x ≡ decided h x
decided_again h from to y d c e x = go (same_exec x y) (same_exec_tells x y)
  where
    some : (o : Option Choice) → is_none o ≡ false → option_or o (Some d) ≡ o
    some None e = absurd cc
    some (Some a) e = refl

    go : (t : Bool) → ((t ≡ true) × (x ≡ y)) ⊎ ((t ≡ false) × (x ≢ y)) → option_or (decided h x) (then_some t d) ≡ decided h x
    go true (inl q) = some (decided h x) (subst (λ z. is_none (decided h z) ≡ false) (sym q.1) e)
    go true (inr q) = absurd (cc (q.0))
    go false q = option_or_none (decided h x)

none_standing : (h : Handled) (x : Exec) (o : Option Cast) (d : Choice) → decided h x ≡ Some d → standing_vote h x o ≡ None
none_standing h x None d e = refl
none_standing h x (Some y) d e = ap (λ c. cond (is_commit_vote y.vote && is_none c) (Some y.content) None) e ∙ go (is_commit_vote y.vote)
  where
    go : (t : Bool) → cond (t && false) (Some y.content) None ≡ None
    go true = refl
    go false = refl

-- the first one takes the vote on its execution away
pub decision_votes : (h : Handled) (from to : NodeId) (y : Exec) (d : Choice) (c : Option Content) → decided h y ≡ None → (x : Exec) →
    voted_content (after_body h from to (Decide y d c)) x ≡ cond (same_exec x y) None (voted_content h x)
decision_votes h from to y d c e x = go (same_exec x y) (same_exec_tells x y) refl
  where
    go : (t : Bool) → ((t ≡ true) × (x ≡ y)) ⊎ ((t ≡ false) × (x ≢ y)) → same_exec x y ≡ t →
        voted_content (after_body h from to (Decide y d c)) x ≡ cond t None (voted_content h x)
    go true (inl q) f = none_standing (after_body h from to (Decide y d c)) x (cast_on x (casts h)) d (ap (λ o. option_or o (then_some (same_exec x y) d))
        (ap (decided h) q.1 ∙ e) ∙ ap (λ t. then_some t d) f)
    go true (inr q) f = absurd (cc (q.0))
    go false q f = standing_same h (after_body h from to (Decide y d c)) x (cast_on x (casts h)) (ap (λ t. option_or (decided h x) (then_some t d)) f
        ∙ option_or_none (decided h x))

-- ---- a Prepare

and_first : (a b : Bool) → (a && b) ≡ true → a ≡ true
and_first true b e = refl
and_first false b e = e

and_second : (a b : Bool) → (a && b) ≡ true → b ≡ true
and_second true b e = e
and_second false b e = cc

is_none_of : {A : Type 0} (o : Option A) → is_none o ≡ true → o ≡ None
is_none_of None e = refl
is_none_of (Some a) e = absurd cc

-- without a vote there is no content with one
pub unvoted_content : (h : Handled) (y : Exec) → vote h y ≡ None → voted_content h y ≡ None
unvoted_content h y e = go (cast_on y (casts h)) e
  where
    go : (o : Option Cast) → option_map (λ (z : Cast). z.vote) o ≡ None → standing_vote h y o ≡ None
    go None e = refl
    go (Some z) e = absurd cc

-- who may vote had no vote
no_cast : (h : Handled) (y : Exec) → may_vote h (casts h) y ≡ true → cast_on y (casts h) ≡ None
unfolding may_vote
no_cast h y e = is_none_of (cast_on y (casts h)) (and_first (is_none (cast_on y (casts h))) (is_none (decided h y)) (and_second (promised h y == 0) _ e))

no_decision : (h : Handled) (y : Exec) → may_vote h (casts h) y ≡ true → decided h y ≡ None
unfolding may_vote
no_decision h y e = is_none_of (decided h y) (and_second (is_none (cast_on y (casts h))) (is_none (decided h y)) (and_second (promised h y == 0) _ e))

-- a vote other than Commit changes nothing
pub other_vote : (h : Handled) (from to : NodeId) (y : Exec) (c : Content) → list_any (λ (k : Cast). is_commit_vote k.vote) (new_cast h (casts h) (Prepare y c))
    ≡ false → (x : Exec) → voted_content (after_body h from to (Prepare y c)) x ≡ voted_content h x
other_vote h from to y c e x = go (may_vote h (casts h) y) refl e
  where
    go : (t : Bool) → may_vote h (casts h) y ≡ t → list_any (λ (k : Cast). is_commit_vote k.vote) (one_when t
        (record { exec = y; content = c; vote = verdict h (casts h) y c })) ≡ false →
        standing_vote (after_body h from to (Prepare y c)) x (cast_on x (one_when t (record { exec = y; content = c; vote = verdict h (casts h) y c })
        ++ casts h)) ≡ voted_content h x
    go false f e = standing_same h (after_body h from to (Prepare y c)) x (cast_on x (casts h)) (decided_stays h x)
    go true f e = by (same_exec x y) (same_exec_tells x y)
      where
        no : is_commit_vote (verdict h (casts h) y c) ≡ false
        no = plain (is_commit_vote (verdict h (casts h) y c)) e
          where
            plain : (b : Bool) → (b || false) ≡ false → b ≡ false
            plain true e = e
            plain false e = refl

        by : (s : Bool) → ((s ≡ true) × (x ≡ y)) ⊎ ((s ≡ false) × (x ≢ y)) →
            standing_vote (after_body h from to (Prepare y c)) x (cond s (Some (record { exec = y; content = c; vote = verdict h (casts h) y c }))
            (cast_on x (casts h))) ≡ voted_content h x
        by true (inl q) =
            ap (λ t. cond (t && is_none (option_or (decided h x) None)) (Some c) None) no
            ∙ sym (ap (standing_vote h x) (ap (λ z. cast_on z (casts h)) q.1 ∙ no_cast h y f))
        by true (inr q) = absurd (cc (q.0))
        by false q = standing_same h (after_body h from to (Prepare y c)) x (cast_on x (casts h)) (decided_stays h x)

is_commit : (v : Vote) → Some v ≡ Some Commit → is_commit_vote v ≡ true
is_commit Commit e = refl
is_commit _ e = absurd cc

-- a Commit vote keeps its content
pub commit_vote : (h : Handled) (from to : NodeId) (y : Exec) (c : Content) → vote h y ≡ None → vote (after_body h from to (Prepare y c)) y ≡ Some Commit →
    (x : Exec) → voted_content (after_body h from to (Prepare y c)) x ≡ cond (same_exec x y) (Some c) (voted_content h x)
commit_vote h from to y c u v x = go (may_vote h (casts h) y) refl v
  where
    k : Cast
    k = record { exec = y; content = c; vote = verdict h (casts h) y c }

    self : same_exec y y ≡ true
    self = elim (same_exec_tells y y) [ inl q ↦ q.0 | inr q ↦ absurd (q.1 refl) ]

    go : (t : Bool) → may_vote h (casts h) y ≡ t → option_map (λ (z : Cast). z.vote) (cast_on y (one_when t k ++ casts h)) ≡ Some Commit →
        standing_vote (after_body h from to (Prepare y c)) x (cast_on x (one_when t k ++ casts h)) ≡ cond (same_exec x y) (Some c) (voted_content h x)
    go false f e = absurd (cc (u, e))
    go true f e = by (same_exec x y) (same_exec_tells x y)
      where
        yes_commit : is_commit_vote (verdict h (casts h) y c) ≡ true
        yes_commit = is_commit (verdict h (casts h) y c) (sym (ap (λ s. option_map (λ (z : Cast). z.vote) (cond s (Some k) (cast_on y (casts h)))) self) ∙ e)

        by : (s : Bool) → ((s ≡ true) × (x ≡ y)) ⊎ ((s ≡ false) × (x ≢ y)) →
            standing_vote (after_body h from to (Prepare y c)) x (cond s (Some k) (cast_on x (casts h))) ≡ cond s (Some c) (voted_content h x)
        by true (inl q) =
            ap (λ t. cond (t && is_none (option_or (decided h x) None)) (Some c) None) yes_commit
            ∙ ap (λ o. cond (is_none (option_or o None)) (Some c) None) (ap (decided h) q.1 ∙ no_decision h y f)
        by true (inr q) = absurd (cc (q.0))
        by false q = standing_same h (after_body h from to (Prepare y c)) x (cast_on x (casts h)) (decided_stays h x)

-- what records need not see changes no vote
pub unseen_votes : (h : Handled) (from to : NodeId) (b : Body) → is_unseen h b ≡ true → (x : Exec) →
    voted_content (after_body h from to b) x ≡ voted_content h x
unseen_votes h from to (Get y k) e = absurd cc
unseen_votes h from to (Puts y ws) e = absurd cc
unseen_votes h from to (Prepare y c) e = other_vote h from to y c (turned
    (list_any (λ (k : Cast). is_commit_vote k.vote) (new_cast h (casts h) (Prepare y c))) e)
  where
    turned : (b : Bool) → not b ≡ true → b ≡ false
    turned true e = cc
    turned false e = refl
unseen_votes h from to (Decide y d c) e = votes_stay h (after_body h from to (Decide y d c)) refl (decided_again h from to y d c
    (turned (is_none (decided h y)) e))
  where
    turned : (b : Bool) → not b ≡ true → b ≡ false
    turned true e = cc
    turned false e = refl
unseen_votes h from to (Drops w new) e = absurd cc
unseen_votes h from to b e = votes_stay h (after_body h from to b) refl (decided_stays h)

-- ---- the table of votes above the dropped version

-- where no vote changes the table stays
pub table_same : (h h' : Handled) (x : Exec) (o : Option Content) → dropped h' ≡ dropped h → voted_content h' x ≡ voted_content h x →
    o ≡ cond (before (dropped h) x.ver) (voted_content h x) None → o ≡ cond (before (dropped h') x.ver) (voted_content h' x) None
table_same h h' x o d e f = f ∙ (ap (λ w. cond (before w x.ver) (voted_content h x) None) (sym d) ∙ ap (λ c. cond (before (dropped h') x.ver) c None) (sym e))

-- where the vote on y changes the table changes at y
pub table_at : (h h' : Handled) (y x : Exec) (new o p : Option Content) → dropped h' ≡ dropped h → before (dropped h) y.ver ≡ true →
    voted_content h' x ≡ cond (same_exec x y) new (voted_content h x) → o ≡ cond (before (dropped h) x.ver) (voted_content h x) None →
    p ≡ cond (same_exec x y) new o → p ≡ cond (before (dropped h') x.ver) (voted_content h' x) None
table_at h h' y x new o p d b e f g =
    g ∙ (ap (λ c. cond (same_exec x y) new c) f ∙ (go (same_exec x y) (same_exec_tells x y)
    ∙ (ap (λ c. cond (before (dropped h) x.ver) c None) (sym e) ∙ ap (λ w. cond (before w x.ver) (voted_content h' x) None) (sym d))))
  where
    go : (t : Bool) → ((t ≡ true) × (x ≡ y)) ⊎ ((t ≡ false) × (x ≢ y)) → cond t new (cond (before (dropped h) x.ver) (voted_content h x) None)
        ≡ cond (before (dropped h) x.ver) (cond t new (voted_content h x)) None
    go true (inl q) = sym (ap (λ t. cond t new None) (ap (λ (z : Exec). before (dropped h) z.ver) q.1 ∙ b))
    go true (inr q) = absurd (cc (q.0))
    go false q = refl
