-- What the definitions read from a replica's list, and that they read it the same from two lists.
use Rattle.std.specs.Prelude.{◌≡◌, ℕ, true, not, List, [], ◌∷◌, filter}
use Rattle.protocol.specs.Words.{Version, Exec, Key, Content, Envelope, Body, before}
use Rattle.protocol.specs.Replica.Taken.{Handled, dropped, fence, base, lacks_content, takes, after_taking}
use Rattle.protocol.specs.Replica.Acceptor.{promised, decided, acceptances, accepted, commits}
use Rattle.protocol.specs.Replica.Held.{kept_put, put_versions, abandons, held, latest}
use Rattle.protocol.specs.Replica.Votes.{casts, vote, known, verdict}
use Rattle.protocol.specs.Replica.Readers.{readers, due}
use Rattle.protocol.specs.Replica.Says.{committed_upto, voted_upto, answer, says}
use Rattle.protocol.specs.declared.First2.{First2}

-- the envelopes that a replica handled, the newest first, without each Finalize or Decide of Commit that lacks its
-- content: such a one changes nothing, while the definitions would read its view, its acceptance or its choice
abbrev pub handled : List Envelope → Handled
handled ms = filter (λ m. not (lacks_content m.body)) ms

-- those of them that it took
abbrev pub taken : List Envelope → Handled
taken [] = []
taken (m ∷ ms) = after_taking (taken ms) m

-- the elements whose version is above w
abbrev pub above : {A : Type 0} → (A → Version) → Version → List A → List A
above version w xs = filter (λ a. before w (version a)) xs

-- two lists in which the same is dropped and fenced, with one base, and in which all that is above the dropped version is
-- the same: promises, decisions, acceptances, contents, votes, Puts and readers; so is what is held and seen of each key,
-- how a replica votes, what it takes and what it says on any envelope
pub record ReadsAs (h g : Handled) : Type 0 where
  pub drops : dropped h ≡ dropped g
  pub fences : fence h ≡ fence g
  pub bases : base h ≡ base g
  pub promises : (x : Exec) → before (dropped g) x.ver ≡ true → promised h x ≡ promised g x
  pub decisions : (x : Exec) → before (dropped g) x.ver ≡ true → decided h x ≡ decided g x
  pub acceptance_list : above (λ a. a.exec.ver) (dropped g) (acceptances h) ≡ above (λ a. a.exec.ver) (dropped g) (acceptances g)
  pub accepts : (x : Exec) → before (dropped g) x.ver ≡ true → accepted h x ≡ accepted g x
  pub commit_list : above (λ c. c.exec.ver) (dropped g) (commits h) ≡ above (λ c. c.exec.ver) (dropped g) (commits g)
  pub abandon_list : above (λ x. x.ver) (dropped g) (abandons h) ≡ above (λ x. x.ver) (dropped g) (abandons g)
  pub contents : (x : Exec) → before (dropped g) x.ver ≡ true → known h x ≡ known g x
  pub cast_list : above (λ c. c.exec.ver) (dropped g) (casts h) ≡ above (λ c. c.exec.ver) (dropped g) (casts g)
  pub votes : (x : Exec) → before (dropped g) x.ver ≡ true → vote h x ≡ vote g x
  pub verdicts : (x : Exec) (content : Content) → verdict h (casts h) x content ≡ verdict g (casts g) x content
  pub puts : (v : Version) → before (dropped g) v ≡ true → kept_put h v ≡ kept_put g v
  pub put_list : above (λ v. v) (dropped g) (put_versions h) ≡ above (λ v. v) (dropped g) (put_versions g)
  pub reader_list : above (λ r. r.ver) (dropped g) (readers h) ≡ above (λ r. r.ver) (dropped g) (readers g)
  pub held_writes : (firsts : List First2) (k : Key) → held firsts h k ≡ held firsts g k
  pub latest_write : (firsts : List First2) (k : Key) (v : Version) → latest firsts h k v ≡ latest firsts g k v
  pub committed : (w : Version) → committed_upto h w ≡ committed_upto g w
  pub voted : (w : Version) → voted_upto h w ≡ voted_upto g w
  pub taking : (b : Body) → takes h b ≡ takes g b
  pub answers : (firsts : List First2) (b : Body) → takes g b ≡ true → answer firsts h b ≡ answer firsts g b
  pub due_notes : (firsts : List First2) (r : ℕ) (m : Envelope) → takes g m.body ≡ true → due firsts r h (m ∷ h) ≡ due firsts r g (m ∷ g)
  pub saying : (firsts : List First2) (r : ℕ) (m : Envelope) → says firsts r h m ≡ says firsts r g m

-- what is read from all envelopes that a replica handled is what is read from those that it took
abbrev pub HandledReadsAsTaken : Type 0
HandledReadsAsTaken = (ms : List Envelope) → ReadsAs (handled ms) (taken ms)
