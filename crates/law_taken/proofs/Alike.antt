-- Two lists of which the same is read, above the dropped version where that matters, and how the next vote, acceptance and
-- decision is read from them.
use Rattle.std.proofs.Common.{◌≡◌, refl, ap, true, [], Some}
use Rattle.std.specs.List.{list_any}
use Rattle.protocol.specs.Words.{Version, Exec, Content, Abandon, ToCommit, Kept, Body, Prepare, Finalize, Decide, Drops, before, same_exec}
use Rattle.protocol.specs.Replica.Taken.{Handled, dropped, fence, base, base_after, is_above, version_of}
use Rattle.protocol.specs.Replica.Acceptor.{promised, decided, new_acceptance, acceptances, accepted_content, new_commit, commits}
use Rattle.protocol.specs.Replica.Held.{kept_put, put_versions, new_abandon, abandons}
use Rattle.protocol.specs.Replica.Votes.{Cast, cast_on, may_vote, verdict, new_cast, casts, clashes_with_commit, clashes_with_vote, conflicts_with_base}
use Rattle.protocol.specs.Replica.Readers.{readers}
use Rattle.law_taken.specs.ReadsAs.{above}
use Rattle.law_taken.proofs.AboveLemmas.{other_exec, any_same, find_same}

-- what is read of two lists one envelope after another is the same, above the dropped version where that matters
pub record Alike (h g : Handled) : Type 0 where
  pub drops : dropped h ≡ dropped g
  pub fences : fence h ≡ fence g
  pub bases : base h ≡ base g
  pub promises : (x : Exec) → before (dropped g) x.ver ≡ true → promised h x ≡ promised g x
  pub decisions : (x : Exec) → before (dropped g) x.ver ≡ true → decided h x ≡ decided g x
  pub acceptance_list : above (λ a. a.exec.ver) (dropped g) (acceptances h) ≡ above (λ a. a.exec.ver) (dropped g) (acceptances g)
  pub accept_contents : (x : Exec) → before (dropped g) x.ver ≡ true → accepted_content h x ≡ accepted_content g x
  pub commit_list : above (λ c. c.exec.ver) (dropped g) (commits h) ≡ above (λ c. c.exec.ver) (dropped g) (commits g)
  pub abandon_list : above (λ x. x.ver) (dropped g) (abandons h) ≡ above (λ x. x.ver) (dropped g) (abandons g)
  pub cast_list : above (λ c. c.exec.ver) (dropped g) (casts h) ≡ above (λ c. c.exec.ver) (dropped g) (casts g)
  pub puts : (v : Version) → before (dropped g) v ≡ true → kept_put h v ≡ kept_put g v
  pub put_list : above (λ v. v) (dropped g) (put_versions h) ≡ above (λ v. v) (dropped g) (put_versions g)
  pub reader_list : above (λ r. r.ver) (dropped g) (readers h) ≡ above (λ r. r.ver) (dropped g) (readers g)

-- two empty lists
pub alike_empty : Alike [] []
alike_empty = record {
  drops = refl;
  fences = refl;
  bases = refl;
  promises = λ x u. refl;
  decisions = λ x u. refl;
  acceptance_list = refl;
  accept_contents = λ x u. refl;
  commit_list = refl;
  abandon_list = refl;
  cast_list = refl;
  puts = λ v u. refl;
  put_list = refl;
  reader_list = refl;
}

module _ (h g : Handled) (s : Alike h g) where
  -- votes are cast alike
  pub cast_same : (x : Exec) → before (dropped g) x.ver ≡ true → cast_on x (casts h) ≡ cast_on x (casts g)
  cast_same x up =
      find_same (λ (c : Cast). before (dropped g) c.exec.ver) (λ (c : Cast). same_exec x c.exec) (λ (c : Cast). same_exec x c.exec)
      (λ c low. other_exec (dropped g) x c.exec up low) (λ c low. other_exec (dropped g) x c.exec up low) (λ c high. refl) (casts h) (casts g) s.cast_list

  pub verdict_same : (x : Exec) (content : Content) → verdict h (casts h) x content ≡ verdict g (casts g) x content
  unfolding verdict
  verdict_same x content =
      let fences = s.fences in
      let bases = ap (list_any (conflicts_with_base x.ver content)) s.bases in
      let clash : list_any (clashes_with_commit h x content) (commits h) ≡ list_any (clashes_with_commit g x content) (commits g) =
      any_same (λ (c : Kept). before (dropped g) c.exec.ver) (clashes_with_commit h x content) (clashes_with_commit g x content)
      (λ c low. rw (s.drops, low) refl) (λ c low. rw low refl) (λ c high. rw s.drops refl) (commits h) (commits g) s.commit_list in
      let vote : list_any (clashes_with_vote h x content) (casts h) ≡ list_any (clashes_with_vote g x content) (casts g) =
      any_same (λ (c : Cast). before (dropped g) c.exec.ver) (clashes_with_vote h x content) (clashes_with_vote g x content)
      (λ c low. rw (s.drops, low) refl) (λ c low. rw low refl) (λ c high. rw (s.drops, s.decisions c.exec high) refl) (casts h) (casts g) s.cast_list in
      rw (fences, clash, bases, vote) refl

  may_same : (x : Exec) → before (dropped g) x.ver ≡ true → may_vote h (casts h) x ≡ may_vote g (casts g) x
  unfolding may_vote
  may_same x up = rw (s.promises x up, cast_same x up, s.decisions x up) refl

  pub new_cast_same : (b : Body) → is_above (dropped g) (version_of b) ≡ true → new_cast h (casts h) b ≡ new_cast g (casts g) b
  new_cast_same (Prepare x c) up = rw (may_same x up, verdict_same x c) refl
  new_cast_same _ up = refl

  pub new_acceptance_same : (b : Body) → is_above (dropped g) (version_of b) ≡ true → new_acceptance h b ≡ new_acceptance g b
  new_acceptance_same (Finalize x v d c) up = rw (s.promises x up) refl
  new_acceptance_same _ up = refl

  pub new_commit_same : (b : Body) → is_above (dropped g) (version_of b) ≡ true → new_commit h b ≡ new_commit g b
  new_commit_same (Decide x ToCommit (Some c)) up = rw (s.decisions x up) refl
  new_commit_same _ up = refl

  pub new_abandon_same : (b : Body) → is_above (dropped g) (version_of b) ≡ true → new_abandon h b ≡ new_abandon g b
  new_abandon_same (Decide x Abandon c) up = rw (s.decisions x up) refl
  new_abandon_same _ up = refl

  pub base_same : (b : Body) → base_after h (base h) b ≡ base_after g (base g) b
  base_same (Drops w new) = rw (s.drops, s.bases) refl
  base_same _ = s.bases
