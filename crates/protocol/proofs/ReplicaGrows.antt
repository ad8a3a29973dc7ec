-- What a replica said or knew stays when it takes one more envelope.
use Rattle.std.proofs.Common.{◌≡◌, ◌≤◌, ◌⊎◌, ◌≢◌, inl, inr, refl, true, false, Bool, cond, List, ◌∷◌, ◌++◌, Some, arith, ap, ◌∙◌, None, Option}
use Rattle.std.specs.Option.{is_none}
use Rattle.std.specs.Prelude.{option_map}
use Rattle.protocol.specs.Words.{Version, Exec, Envelope, Body, Choice, Prepare, before, same_exec, Vote}
use Rattle.protocol.specs.Lists.{one_when}
use Rattle.protocol.specs.Replica.Taken.{Handled, later}
use Rattle.protocol.specs.Replica.Acceptor.{promised, decided}
use Rattle.protocol.specs.Replica.Votes.{Cast, casts, new_cast, cast_on, may_vote, verdict, vote}
use Rattle.protocol.specs.World.Decided.{UpTo}
use Rattle.protocol.proofs.TestLemmas.{and_left, and_right, some_not_none}
use Rattle.protocol.proofs.NamesLemmas.{same_exec_tells, up_to_itself, before_up_to}

pub decided_stays : (h : Handled) (m : Envelope) (x : Exec) (d : Choice) → decided h x ≡ Some d → decided (m ∷ h) x ≡ Some d
decided_stays h m x d e = rw e

pub promised_grows : (h : Handled) (m : Envelope) (x : Exec) → promised h x ≤ promised (m ∷ h) x
promised_grows h m x = omega arith

-- the later of two versions is at or above each
pub later_left : (a b : Version) → UpTo a (later a b)
later_left a b = go (before a b) refl
  where
    go : (t : Bool) → before a b ≡ t → UpTo a (cond t b a)
    go true p = before_up_to a b p
    go false p = up_to_itself a

pub later_right : (a b : Version) → UpTo b (later a b)
later_right a b = go (before a b) refl
  where
    go : (t : Bool) → before a b ≡ t → UpTo b (cond t b a)
    go true p = up_to_itself b
    go false p = p

-- who may vote has not voted
may_vote_none : (h : Handled) (old : List Cast) (z : Exec) → may_vote h old z ≡ true → is_none (cast_on z old) ≡ true
unfolding may_vote
may_vote_none h old z e = and_left _ _ (and_right _ _ e)

-- a first cast stays the one found
cast_kept : (x : Exec) (c : Cast) (old : List Cast) (y : Cast) → cast_on x old ≡ Some y → is_none (cast_on c.exec old) ≡ true → cast_on x (c ∷ old) ≡ Some y
cast_kept x c old y e n = go (same_exec x c.exec) (same_exec_tells x c.exec)
  where
    go : (t : Bool) → ((t ≡ true) × (x ≡ c.exec)) ⊎ ((t ≡ false) × (x ≢ c.exec)) → cond t (Some c) (cast_on x old) ≡ Some y
    go true (inl p) = absurd (some_not_none (cast_on c.exec old) y (rw p.1 at e) n)
    go true (inr p) = cc
    go false p = e

-- what was voted stays voted
new_cast_kept : (h : Handled) (old : List Cast) (b : Body) (x : Exec) (y : Cast) → cast_on x old ≡ Some y → cast_on x (new_cast h old b ++ old) ≡ Some y
new_cast_kept h old (Prepare z c) x y e = go (may_vote h old z) refl
  where
    go : (t : Bool) → may_vote h old z ≡ t → cast_on x (one_when t (record { exec = z; content = c; vote = verdict h old z c }) ++ old) ≡ Some y
    go true q = cast_kept x _ old y e (may_vote_none h old z q)
    go false q = e
new_cast_kept h old _ x y e = e

pub cast_stays : (h : Handled) (m : Envelope) (x : Exec) (y : Cast) → cast_on x (casts h) ≡ Some y → cast_on x (casts (m ∷ h)) ≡ Some y
cast_stays h m x y e = new_cast_kept h (casts h) m.body x y e

pub vote_stays : (h : Handled) (m : Envelope) (x : Exec) (v : Vote) → vote h x ≡ Some v → vote (m ∷ h) x ≡ Some v
vote_stays h m x v e = go (cast_on x (casts h)) refl e
  where
    go : (o : Option Cast) → cast_on x (casts h) ≡ o → option_map (λ (y : Cast). y.vote) o ≡ Some v → vote (m ∷ h) x ≡ Some v
    go None q f = absurd cc
    go (Some y) q f = ap (λ o. option_map (λ (z : Cast). z.vote) o) (cast_stays h m x y q) ∙ f
