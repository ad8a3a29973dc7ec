-- All envelopes that a replica handled are read as those that it took.
use Rattle.std.proofs.Common.{◌≡◌, ℕ, refl, ap, sym, ◌∙◌, true, false, Bool, cond, List, [], ◌∷◌, ◌++◌, Option, Some, None}
use Rattle.std.specs.Prelude.{not, ◌&&◌, nat_le, filter, find, map, filter_map, option_map, is_none}
use Rattle.std.specs.List.{list_any}
use Rattle.std.specs.Bool.{then_some}
use Rattle.protocol.specs.Words.{Version, Exec, Key, Client, BaseEntry, Kept, Envelope, Body, Get, Prepare, Finalize, Ask, Fence, Note, before, same_exec, same_version, same_key, same_wid}
use Rattle.protocol.specs.declared.First2.{First2}
use Rattle.protocol.specs.declared.Held.{Held}
use Rattle.protocol.specs.Replica.Taken.{Handled, dropped, dropped_by, base, is_above, version_of, lacks_content, takes, after_taking}
use Rattle.protocol.specs.Replica.Acceptor.{decided, Acceptance, pair_of, acceptances, accepted, commits}
use Rattle.protocol.specs.Replica.Held.{Put, kept_put, put_versions, abandons, counting_put, last_put, last_write, first_held, best_below, held, latest}
use Rattle.protocol.specs.Replica.Votes.{Cast, casts, vote, known, is_commit_vote}
use Rattle.protocol.specs.Replica.Readers.{Reader, readers, same_held, envelope_from, note_for, due}
use Rattle.protocol.specs.Replica.Says.{sorted_kept, committed_upto, voted_upto, note_of, answer, refusal, says}
use Rattle.protocol.specs.Lists.{one_when}
use Rattle.protocol.proofs.TestLemmas.{and_left}
use Rattle.law_taken.specs.ReadsAs.{handled, taken, ReadsAs, HandledReadsAsTaken}
use Rattle.law_taken.proofs.AboveLemmas.{up_to_trans, up_to_later, other_exec, other_version, any_same, filter_same, find_same, flat_same, map_same}
use Rattle.law_taken.proofs.Alike.{Alike, alike_empty, cast_same, verdict_same, new_cast_same}
use Rattle.law_taken.proofs.AlikeAfterTaken.{alike_both}
use Rattle.law_taken.proofs.AlikeAfterUntaken.{alike_first}

module _ (h g : Handled) (s : Alike h g) where
  accepted_same : (x : Exec) → before (dropped g) x.ver ≡ true → accepted h x ≡ accepted g x
  accepted_same x up = ap (option_map pair_of)
      (find_same (λ (a : Acceptance). before (dropped g) a.exec.ver) (λ (a : Acceptance). same_exec x a.exec) (λ (a : Acceptance). same_exec x a.exec)
      (λ a low. other_exec (dropped g) x a.exec up low) (λ a low. other_exec (dropped g) x a.exec up low) (λ a high. refl) (acceptances h) (acceptances g) s.acceptance_list)

  vote_same : (x : Exec) → before (dropped g) x.ver ≡ true → vote h x ≡ vote g x
  vote_same x up = ap (λ (o : Option Cast). option_map (λ c. c.vote) o) (cast_same h g s x up)

  known_same : (x : Exec) → before (dropped g) x.ver ≡ true → known h x ≡ known g x
  known_same x up =
      let commit : find (λ (c : Kept). same_exec x c.exec) (commits h) ≡ find (λ (c : Kept). same_exec x c.exec) (commits g) =
      find_same (λ (c : Kept). before (dropped g) c.exec.ver) (λ (c : Kept). same_exec x c.exec) (λ (c : Kept). same_exec x c.exec)
      (λ c low. other_exec (dropped g) x c.exec up low) (λ c low. other_exec (dropped g) x c.exec up low) (λ c high. refl) (commits h) (commits g) s.commit_list in
      rw (commit, cast_same h g s x up, s.accept_contents x up) refl

  -- the commits that are held, the versions with nothing committed, and what counts of their Puts
  abbrev Commits : Handled → List Kept
  Commits l = filter (λ c. before (dropped l) c.exec.ver) (commits l)

  abbrev Open : Handled → List Version
  Open l = filter (λ v. before (dropped l) v && not (list_any (λ (c : Kept). same_version v c.exec.ver) (Commits l))) (put_versions l)

  commits_same : Commits h ≡ Commits g
  commits_same = ap (λ w. filter (λ (c : Kept). before w c.exec.ver) (commits h)) s.drops ∙ s.commit_list

  open_same : Open h ≡ Open g
  open_same =
      ap (λ (cs : List Kept). filter (λ v. before (dropped h) v && not (list_any (λ (c : Kept). same_version v c.exec.ver) cs)) (put_versions h)) commits_same
      ∙ filter_same (before (dropped g))
      (λ v. before (dropped h) v && not (list_any (λ (c : Kept). same_version v c.exec.ver) (Commits g)))
      (λ v. before (dropped g) v && not (list_any (λ (c : Kept). same_version v c.exec.ver) (Commits g)))
      (λ v low. rw (s.drops, low) refl) (λ v low. rw low refl) (λ v high. rw s.drops refl) (put_versions h) (put_versions g) s.put_list

  counting_same : (v : Version) → before (dropped g) v ≡ true → counting_put h v (kept_put h v) ≡ counting_put g v (kept_put g v)
  counting_same v up = ap (counting_put h v) (s.puts v up) ∙ go (kept_put g v)
    where
      go : (o : Option Put) → counting_put h v o ≡ counting_put g v o
      go None = refl
      go (Some p) = ap (λ t. then_some (not t) p)
          (any_same (λ (x : Exec). before (dropped g) x.ver) (λ (x : Exec). same_version v x.ver && nat_le p.exec.eid x.eid) (λ (x : Exec). same_version v x.ver && nat_le p.exec.eid x.eid)
          (λ x low. rw (other_version (dropped g) v x.ver up low) refl) (λ x low. rw (other_version (dropped g) v x.ver up low) refl) (λ x high. refl) (abandons h) (abandons g) s.abandon_list)

  -- what the Puts of open versions hold
  puts_same : (k : Key) →
      filter_map (λ v. last_put k (counting_put h v (kept_put h v))) (Open h) ≡ filter_map (λ v. last_put k (counting_put g v (kept_put g v))) (Open g)
  puts_same k =
      map_same (λ v. before (dropped h) v && not (list_any (λ (c : Kept). same_version v c.exec.ver) (Commits h)))
      (λ v. last_put k (counting_put h v (kept_put h v))) (λ v. last_put k (counting_put g v (kept_put g v)))
      (λ v e. ap (last_put k) (counting_same v (ap (λ w. before w v) (sym s.drops) ∙ and_left (before (dropped h) v) _ e))) (put_versions h)
      ∙ ap (filter_map (λ v. last_put k (counting_put g v (kept_put g v)))) open_same

  -- all that is held, by its parts
  abbrev Joined : List First2 → Key → List BaseEntry → List Kept → List Held → List Held
  Joined firsts k bs cs puts =
      first_held firsts k ∷ (map (λ b. record { wid = b.wid; value = b.value; sure = true }) (filter (λ b. same_key k b.key) bs)
      ++ (filter_map (λ c. last_write c.exec true 1 k c.content.writes) cs ++ puts))

  held_same : (firsts : List First2) (k : Key) → held firsts h k ≡ held firsts g k
  unfolding held
  held_same firsts k =
      ap (λ (bs : List BaseEntry). Joined firsts k bs (Commits h) (filter_map (λ v. last_put k (counting_put h v (kept_put h v))) (Open h))) s.bases
      ∙ ap (λ (cs : List Kept). Joined firsts k (base g) cs (filter_map (λ v. last_put k (counting_put h v (kept_put h v))) (Open h))) commits_same
      ∙ ap (Joined firsts k (base g) (Commits g)) (puts_same k)

  latest_same : (firsts : List First2) (k : Key) (v : Version) → latest firsts h k v ≡ latest firsts g k v
  unfolding latest
  latest_same firsts k v = ap (best_below v (first_held firsts k)) (held_same firsts k)

  committed_same : (w : Version) → committed_upto h w ≡ committed_upto g w
  unfolding committed_upto
  committed_same w = ap sorted_kept
      (filter_same (λ (c : Kept). before (dropped g) c.exec.ver)
      (λ (c : Kept). before (dropped h) c.exec.ver && not (before w c.exec.ver)) (λ (c : Kept). before (dropped g) c.exec.ver && not (before w c.exec.ver))
      (λ c low. rw (s.drops, low) refl) (λ c low. rw low refl) (λ c high. rw s.drops refl) (commits h) (commits g) s.commit_list)

  and_low : (a b : Bool) → (a && (false && b)) ≡ false
  and_low true b = refl
  and_low false b = refl

  voted_same : (w : Version) → voted_upto h w ≡ voted_upto g w
  unfolding voted_upto
  voted_same w = ap (λ (cs : List Cast). sorted_kept (map (λ c. record { exec = c.exec; content = c.content }) cs))
      (filter_same (λ (c : Cast). before (dropped g) c.exec.ver)
      (λ (c : Cast). (is_commit_vote c.vote && is_none (decided h c.exec)) && (before (dropped h) c.exec.ver && not (before w c.exec.ver)))
      (λ (c : Cast). (is_commit_vote c.vote && is_none (decided g c.exec)) && (before (dropped g) c.exec.ver && not (before w c.exec.ver)))
      (λ c low. rw (s.drops, low) (and_low (is_commit_vote c.vote && is_none (decided h c.exec)) (not (before w c.exec.ver))))
      (λ c low. rw low (and_low (is_commit_vote c.vote && is_none (decided g c.exec)) (not (before w c.exec.ver)))) (λ c high. rw (s.drops, s.decisions c.exec high) refl) (casts h) (casts g) s.cast_list)

  taking_same : (b : Body) → takes h b ≡ takes g b
  unfolding takes
  taking_same b = ap (λ w. is_above w (version_of b) && not (lacks_content b)) s.drops

  takes_above : (b : Body) → takes g b ≡ true → is_above (dropped g) (version_of b) ≡ true
  unfolding takes
  takes_above b t = go (is_above (dropped g) (version_of b)) t
    where
      go : (u : Bool) → (u && not (lacks_content b)) ≡ true → u ≡ true
      go true e = refl
      go false e = e

  answer_same : (firsts : List First2) (b : Body) → is_above (dropped g) (version_of b) ≡ true → answer firsts h b ≡ answer firsts g b
  unfolding answer
  answer_same firsts (Get x k) up = ap (λ (a : Held). note_of x.ver k a ∷ []) (latest_same firsts k x.ver)
  answer_same firsts (Prepare x c) up = ap (map _) (new_cast_same h g s (Prepare x c) up)
  answer_same firsts (Finalize x v d c) up = rw (s.promises x up) refl
  answer_same firsts (Ask x v) up = rw (s.promises x up, vote_same x up, accepted_same x up, s.decisions x up, known_same x up) refl
  answer_same firsts (Fence w) up = rw (s.bases, committed_same w, voted_same w) refl
  answer_same firsts _ up = refl

  refusal_same : (b : Body) → refusal h b ≡ refusal g b
  refusal_same (Get x k) = rw s.drops refl
  refusal_same _ = refl

-- the Notes that are due after an envelope
module _ (h g : Handled) (s : Alike h g) where
  -- a Note, by what was seen, what is seen, and what is held
  abbrev NoteWith : ℕ → Reader → Version → Held → Held → List Held → List Envelope
  NoteWith r reader w old new there =
      one_when (before w reader.ver && not (same_held old new))
      (envelope_from r (Client reader.ver.client) (Note reader.ver reader.key new.wid new.value new.sure (then_some (not (list_any (λ a. same_wid old.wid a.wid) there)) old.wid)))

  due_same : (firsts : List First2) (r : ℕ) (m : Envelope) → is_above (dropped g) (version_of m.body) ≡ true → due firsts r h (m ∷ h) ≡ due firsts r g (m ∷ g)
  unfolding due note_for
  due_same firsts r m up =
      flat_same (λ (reader : Reader). before (dropped g) reader.ver) (note_for firsts h (m ∷ h) r) (note_for firsts g (m ∷ g) r)
      (λ reader low. rw (passed reader.ver low) refl) same (readers h) (readers g) s.reader_list
    where
      later' : Alike (m ∷ h) (m ∷ g)
      later' = alike_both h g s m up

      passed : (v : Version) → before (dropped g) v ≡ false → before (dropped (m ∷ h)) v ≡ false
      passed v low = up_to_trans v (dropped h) (dropped (m ∷ h)) (ap (λ w. before w v) s.drops ∙ low) (up_to_later (dropped h) (dropped_by m.body))

      same : (reader : Reader) → note_for firsts h (m ∷ h) r reader ≡ note_for firsts g (m ∷ g) r reader
      same reader =
          let k = reader.key in
          let v = reader.ver in
          ap (λ (w : Version). NoteWith r reader w (latest firsts h k v) (latest firsts (m ∷ h) k v) (held firsts (m ∷ h) k)) later'.drops
          ∙ ap (λ (old : Held). NoteWith r reader (dropped (m ∷ g)) old (latest firsts (m ∷ h) k v) (held firsts (m ∷ h) k)) (latest_same h g s firsts k v)
          ∙ ap (λ (new : Held). NoteWith r reader (dropped (m ∷ g)) (latest firsts g k v) new (held firsts (m ∷ h) k)) (latest_same (m ∷ h) (m ∷ g) later' firsts k v)
          ∙ ap (NoteWith r reader (dropped (m ∷ g)) (latest firsts g k v) (latest firsts (m ∷ g) k v)) (held_same (m ∷ h) (m ∷ g) later' firsts k)

  saying_same : (firsts : List First2) (r : ℕ) (m : Envelope) → says firsts r h m ≡ says firsts r g m
  unfolding says
  saying_same firsts r m = rw (taking_same h g s m.body) (go (takes g m.body) refl)
    where
      go : (t : Bool) → takes g m.body ≡ t →
          cond t (map (envelope_from r m.from) (answer firsts h m.body) ++ due firsts r h (m ∷ h)) (map (envelope_from r m.from) (refusal h m.body))
          ≡ cond t (map (envelope_from r m.from) (answer firsts g m.body) ++ due firsts r g (m ∷ g)) (map (envelope_from r m.from) (refusal g m.body))
      go true e = let up = takes_above h g s m.body e in rw (answer_same h g s firsts m.body up, due_same firsts r m up) refl
      go false e = ap (map (envelope_from r m.from)) (refusal_same h g s m.body)

  pub reads_as : ReadsAs h g
  reads_as = record {
    drops = s.drops;
    fences = s.fences;
    bases = s.bases;
    promises = s.promises;
    decisions = s.decisions;
    acceptance_list = s.acceptance_list;
    accepts = accepted_same h g s;
    commit_list = s.commit_list;
    abandon_list = s.abandon_list;
    contents = known_same h g s;
    cast_list = s.cast_list;
    votes = vote_same h g s;
    verdicts = verdict_same h g s;
    puts = s.puts;
    put_list = s.put_list;
    reader_list = s.reader_list;
    held_writes = held_same h g s;
    latest_write = latest_same h g s;
    committed = committed_same h g s;
    voted = voted_same h g s;
    taking = taking_same h g s;
    answers = λ firsts b t. answer_same h g s firsts b (takes_above h g s b t);
    due_notes = λ firsts r m t. due_same firsts r m (takes_above h g s m.body t);
    saying = saying_same;
  }

-- the two lists are alike
alike : (ms : List Envelope) → Alike (handled ms) (taken ms)
unfolding takes after_taking
alike [] = alike_empty
alike (m ∷ ms) = go (lacks_content m.body) (is_above (dropped (taken ms)) (version_of m.body)) refl (alike ms)
  where
    go : (l a : Bool) → is_above (dropped (taken ms)) (version_of m.body) ≡ a → Alike (handled ms) (taken ms) →
        Alike (cond (not l) (m ∷ handled ms) (handled ms)) (cond (a && not l) (m ∷ taken ms) (taken ms))
    go true true e s = s
    go true false e s = s
    go false true e s = alike_both (handled ms) (taken ms) s m e
    go false false e s = alike_first (handled ms) (taken ms) s m e

pub handled_reads_as_taken : HandledReadsAsTaken
handled_reads_as_taken ms = reads_as (handled ms) (taken ms) (alike ms)
