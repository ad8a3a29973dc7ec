-- A Fenced answer names, or stands above, all that its sender voted Commit on at or below the version.
use Rattle.std.proofs.Common.{◌≡◌, ◌⊎◌, inl, inr, refl, ap, sym, ◌∙◌, subst, true, false, Bool, List, [], ◌∷◌, Option, Some, None}
use Rattle.std.specs.Prelude.{◌&&◌, not}
use Rattle.protocol.specs.Words.{Version, Exec, Envelope, Body, BaseEntry, Kept, Commit, Choice, Abandon, ToCommit, Fence, Drops, no_version, before}
use Rattle.protocol.specs.Lists.{IsIn}
use Rattle.protocol.specs.Replica.Taken.{Handled, takes, is_above, version_of, dropped, fence, fenced_by, later, base}
use Rattle.protocol.specs.Replica.Acceptor.{commits, new_commit, decided}
use Rattle.protocol.specs.Replica.Votes.{Cast, casts, new_cast}
use Rattle.protocol.specs.Replica.Says.{committed_upto, voted_upto}
use Rattle.protocol.specs.World.Decided.{UpTo}
use Rattle.protocol.proofs.ListsLemmas.{map_in, IsIn-cases, IsIn-right, IsIn-map}
use Rattle.protocol.proofs.ReplicaGrows.{decided_stays, later_left, later_right}
use Rattle.protocol.proofs.TestLemmas.{true_false}
use Rattle.protocol.proofs.NamesLemmas.{up_to_trans, before_up_to}
use Rattle.law_steps.specs.AnsweredOn.{AnsweredOn}
use Rattle.law_steps.proofs.KnownLemmas.{IsWell, commit_on, commit_finds, some_from, found}
use Rattle.law_steps.proofs.VotesLemmas.{verdict_commit}
use Rattle.law_steps.proofs.TakenLemmas.{IsTaking, takes_above, dropped_taken, no_base, IsIn-filter, IsIn-filtered, in_sorted, of_sorted, cast_is, cast_above_none}

-- where a cast of Commit at or below w stands in a Fenced answer
pub data Named (h g : Handled) (b : List BaseEntry) (cs vs : List Kept) (c : Cast) : Type 0 where
  As_committed : (k : Kept) → IsIn k cs → k.exec ≡ c.exec → Named h g b cs vs c
  As_voted : IsIn (record { exec = c.exec; content = c.content }) vs → Named h g b cs vs c
  As_abandoned : decided h c.exec ≡ Some Abandon → Named h g b cs vs c
  As_dropped : (v : Version) (m : Envelope) → IsIn m h → m.body ≡ Drops v b → UpTo c.exec.ver v → v ≡ dropped g → Named h g b cs vs c

-- what a Fenced says is so for good
pub record FencedFact (h : Handled) (w : Version) (b : List BaseEntry) (cs vs : List Kept) : Type 0 where
  pub list : Handled
  pub answer : AnsweredOn h list w b cs vs
  pub fenced : UpTo w (fence h)
  pub committed : (k : Kept) → IsIn k cs → IsIn k (commits h) × UpTo k.exec.ver w
  pub base : (b ≡ []) ⊎ ((v : Version) × (m : Envelope) × IsIn m h × (m.body ≡ Drops v b) × UpTo v w)
  pub voted : (c : Cast) → IsIn c (casts h) → c.vote ≡ Commit → UpTo c.exec.ver w → Named h list b cs vs c

-- after the fence nothing at or below it is voted Commit
no_new_commit : (h : Handled) (m : Envelope) (w : Version) → UpTo w (fence h) → (c : Cast) → IsIn c (new_cast h (casts h) m.body) → c.vote ≡ Commit →
    UpTo c.exec.ver w → ⊥
no_new_commit h m w f c i v u = let g = cast_is h m.body c i in
    true_false (sym (verdict_commit h (casts h) c.exec c.content (sym g.1 ∙ v)).above ∙ up_to_trans c.exec.ver w (fence h) u f)

named_more : (h g : Handled) (m : Envelope) (b : List BaseEntry) (cs vs : List Kept) (c : Cast) → Named h g b cs vs c → Named (m ∷ h) g b cs vs c
named_more h g m b cs vs c (As_committed k i e) = As_committed k i e
named_more h g m b cs vs c (As_voted i) = As_voted i
named_more h g m b cs vs c (As_abandoned e) = As_abandoned (decided_stays h m c.exec Abandon e)
named_more h g m b cs vs c (As_dropped v n i e u z) = As_dropped v n (inr i) e u z

pub fenced_more : (h : Handled) (m : Envelope) (w : Version) (b : List BaseEntry) (cs vs : List Kept) → FencedFact h w b cs vs → FencedFact (m ∷ h) w b cs vs
fenced_more h m w b cs vs f = record {
  list = f.list;
  answer = record { later = m ∷ f.answer.later; envelope = f.answer.envelope; split = ap (λ (l : Handled). m ∷ l) f.answer.split; body = f.answer.body; bases = f.answer.bases; committed = f.answer.committed; voted = f.answer.voted };
  fenced = up_to_trans w (fence h) (fence (m ∷ h)) f.fenced (later_left (fence h) (fenced_by m.body));
  committed = λ k i. let g = f.committed k i in (IsIn-right k (new_commit h m.body) (commits h) g.0, g.1);
  base = elim f.base [ inl e ↦ inl e | inr e ↦ inr (e.0, e.1, inr e.2, e.3, e.4) ];
  voted = λ c i v u. elim (IsIn-cases c (new_cast h (casts h) m.body) (casts h) i) [
    | inl j ↦ absurd (no_new_commit h m w f.fenced c j v u)
    | inr j ↦ named_more h f.list m b cs vs c (f.voted c j v u)
  ];
}

committed_kept : (h : Handled) (w : Version) (k : Kept) → IsIn k (commits h) → before (dropped h) k.exec.ver ≡ true → UpTo k.exec.ver w →
    IsIn k (committed_upto h w)
unfolding committed_upto
committed_kept h w k i a u = in_sorted _ k (IsIn-filter _ (commits h) k i (rw (a, u) refl))

kept_committed : (h : Handled) (w : Version) (k : Kept) → IsIn k (committed_upto h w) → IsIn k (commits h) × UpTo k.exec.ver w
unfolding committed_upto
kept_committed h w k i = let j = IsIn-filtered (λ (c : Kept). before (dropped h) c.exec.ver && not (before w c.exec.ver)) (commits h) k (of_sorted _ k i) in (j.0, not_up (before (dropped h) k.exec.ver) (before w k.exec.ver) j.1)
  where
    not_up : (a b : Bool) → (a && not b) ≡ true → b ≡ false
    not_up true true e = cc
    not_up true false e = refl
    not_up false b e = cc

voted_kept : (h : Handled) (w : Version) (c : Cast) → IsIn c (casts h) → c.vote ≡ Commit → decided h c.exec ≡ None → before (dropped h) c.exec.ver ≡ true →
    UpTo c.exec.ver w → IsIn (record { exec = c.exec; content = c.content }) (voted_upto h w)
unfolding voted_upto
voted_kept h w c i v n a u =
    in_sorted _ _ (map_in (λ (y : Cast). record { exec = y.exec; content = y.content }) _ c (IsIn-filter _ (casts h) c i (rw (v, n, a, u) refl)))

-- the answer to a Fence
named_now : (h : Handled) (w : Version) → IsWell h → IsTaking h → (c : Cast) → IsIn c (casts h) → c.vote ≡ Commit → UpTo c.exec.ver w →
    Named h h (base h) (committed_upto h w) (voted_upto h w) c
named_now h w well t c i v u = split (before (dropped h) c.exec.ver) refl
  where
    go : before (dropped h) c.exec.ver ≡ true → (o : Option Choice) → decided h c.exec ≡ o → Named h h (base h) (committed_upto h w) (voted_upto h w) c
    go a None q = As_voted (voted_kept h w c i v q a u)
    go a (Some Abandon) q = As_abandoned q
    go a (Some ToCommit) q = let s = some_from (commit_on c.exec (commits h)) (commit_finds h c.exec well q) in
        let l = found (λ (y : Kept). y.exec) c.exec (commits h) s.0 s.1 in
        As_committed s.0 (committed_kept h w s.0 l.0 (subst (λ (y : Exec). before (dropped h) y.ver ≡ true) (sym l.1) a) (subst (λ (y : Exec). UpTo y.ver w) (sym l.1) u)) l.1

    split : (z : Bool) → before (dropped h) c.exec.ver ≡ z → Named h h (base h) (committed_upto h w) (voted_upto h w) c
    split true q = go q (decided h c.exec) refl
    split false q = above (before no_version (dropped h)) refl
      where
        above : (z : Bool) → before no_version (dropped h) ≡ z → Named h h (base h) (committed_upto h w) (voted_upto h w) c
        above true a = let d = dropped_taken h a in As_dropped (dropped h) d.0 d.1 d.2 q refl
        above false a = absurd (true_false (sym (cast_above_none h t c i) ∙ up_to_trans c.exec.ver (dropped h) no_version q a))

base_now : (h : Handled) (w : Version) → before (dropped h) w ≡ true →
    (base h ≡ []) ⊎ ((v : Version) × (m : Envelope) × IsIn m h × (m.body ≡ Drops v (base h)) × UpTo v w)
base_now h w a = go (before no_version (dropped h)) refl
  where
    go : (z : Bool) → before no_version (dropped h) ≡ z → (base h ≡ []) ⊎ ((v : Version) × (m : Envelope) × IsIn m h × (m.body ≡ Drops v (base h)) × UpTo v w)
    go true e = let d = dropped_taken h e in inr (dropped h, d.0, d.1, d.2, before_up_to (dropped h) w a)
    go false e = inl (no_base h e)

pub fence_answer : (h : Handled) (m : Envelope) (w : Version) → IsWell h → IsTaking h → takes h m.body ≡ true → m.body ≡ Fence w →
    FencedFact (m ∷ h) w (base h) (committed_upto h w) (voted_upto h w)
fence_answer h m w well t k e =
    let a : before (dropped h) w ≡ true = subst (λ (b : Body). is_above (dropped h) (version_of b) ≡ true) e (takes_above h m.body k) in
    record {
      list = h;
      answer = record { later = []; envelope = m; split = refl; body = e; bases = refl; committed = refl; voted = refl };
      fenced = subst (λ (b : Body). UpTo w (later (fence h) (fenced_by b))) (sym e) (later_right (fence h) w);
      committed = λ k i. let g = kept_committed h w k i in (IsIn-right k (new_commit h m.body) (commits h) g.0, g.1);
      base = elim (base_now h w a) [ inl z ↦ inl z | inr z ↦ inr (z.0, z.1, inr z.2, z.3, z.4) ];
      voted = λ c i v u. elim (IsIn-cases c (new_cast h (casts h) m.body) (casts h) i) [
        | inl j ↦ absurd (none c (subst (λ (b : Body). IsIn c (new_cast h (casts h) b)) e j))
        | inr j ↦ named_more h h m (base h) (committed_upto h w) (voted_upto h w) c (named_now h w well t c j v u)
      ];
    }
  where
    none : (c : Cast) → IsIn c [] → ⊥
    none c i = i

-- what a Fenced answer names as voted was cast
pub kept_voted : (h : Handled) (w : Version) (k : Kept) → IsIn k (voted_upto h w) →
    (c : Cast) × IsIn c (casts h) × (k ≡ record { exec = c.exec; content = c.content })
unfolding voted_upto
kept_voted h w k i = let m = IsIn-map (λ (y : Cast). record { exec = y.exec; content = y.content }) k _ (of_sorted _ k i) in (m.0, (IsIn-filtered _ (casts h) m.0 m.1).0, m.2)
