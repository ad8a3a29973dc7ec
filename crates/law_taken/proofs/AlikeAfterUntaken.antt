-- Two lists that are alike stay so with one more envelope in the first alone, about a version at or below the dropped one.
use Rattle.std.proofs.Common.{◌≡◌, ℕ, refl, ap, sym, ◌∙◌, subst, true, false, Bool, cond, List, [], ◌∷◌, ◌++◌, Option, Some, None, arith}
use Rattle.std.specs.Prelude.{max, nat_le, filter, is_none}
use Rattle.std.specs.List.{list_any}
use Rattle.std.specs.Option.{option_or}
use Rattle.std.proofs.lemmas.List.{append-nil}
use Rattle.std.proofs.lemmas.List.Elements.{filter-append}
use Rattle.protocol.specs.Words.{Version, Exec, Abandon, ToCommit, Kept, Envelope, Body, Get, Puts, Prepare, Finalize, Decide, Ask, Fence, Drops, no_version, before, same_version}
use Rattle.protocol.specs.Lists.{one_when}
use Rattle.protocol.specs.Replica.Taken.{Handled, later, dropped, dropped_by, fence, fenced_by, base, base_after, is_above, version_of}
use Rattle.protocol.specs.Replica.Acceptor.{view_for, promised, choice_for, decided, Acceptance, new_acceptance, acceptances, accepted_content_for, accepted_content, new_commit, commits}
use Rattle.protocol.specs.Replica.Held.{put_after, kept_put, put_version, put_versions, new_abandon, abandons, Put}
use Rattle.protocol.specs.Replica.Votes.{Cast, may_vote, verdict, new_cast, casts}
use Rattle.protocol.specs.Replica.Readers.{Reader, reader_after, readers}
use Rattle.protocol.specs.World.Decided.{UpTo}
use Rattle.protocol.proofs.NamesLemmas.{none_before}
use Rattle.law_taken.specs.ReadsAs.{above}
use Rattle.law_taken.proofs.AboveLemmas.{up_to_trans, up_to_later, later_up_to, later_holds, later_same, other_exec, other_version}
use Rattle.law_taken.proofs.ReadersLemmas.{put_failing}
use Rattle.law_taken.proofs.Alike.{Alike}

-- what is dropped is fenced
pub dropped_fenced : (h : Handled) → UpTo (dropped h) (fence h)
dropped_fenced [] = none_before no_version
dropped_fenced (m ∷ h) = go m.body (dropped_fenced h)
  where
    go : (b : Body) → UpTo (dropped h) (fence h) → UpTo (later (dropped h) (dropped_by b)) (later (fence h) (fenced_by b))
    go (Drops w new) ih = later_up_to (dropped h) w (later (fence h) w) (up_to_trans (dropped h) (fence h) (later (fence h) w) ih (up_to_later (fence h) w)) (later_holds (fence h) w)
    go b ih = later_up_to (dropped h) no_version _ (up_to_trans (dropped h) (fence h) _ ih (up_to_later (fence h) (fenced_by b))) (none_before _)

module _ (h g : Handled) (s : Alike h g) where
  -- one more envelope in the first list alone, about a version at or below the dropped one, or about none
  module _ (m : Envelope) (low : is_above (dropped g) (version_of m.body) ≡ false) where
    drop_stays : later (dropped h) (dropped_by m.body) ≡ dropped g
    drop_stays = later_same (dropped h) (dropped_by m.body) (subst (λ (v : Version). UpTo (dropped_by m.body) v) (sym s.drops) (go m.body low)) ∙ s.drops
      where
        go : (b : Body) → is_above (dropped g) (version_of b) ≡ false → UpTo (dropped_by b) (dropped g)
        go (Drops w new) e = e
        go _ e = none_before (dropped g)

    fence_stays : later (fence h) (fenced_by m.body) ≡ fence g
    fence_stays = later_same (fence h) (fenced_by m.body) (subst (λ (v : Version). UpTo (fenced_by m.body) v) (sym s.fences) (go m.body low)) ∙ s.fences
      where
        go : (b : Body) → is_above (dropped g) (version_of b) ≡ false → UpTo (fenced_by b) (fence g)
        go (Drops w new) e = up_to_trans w (dropped g) (fence g) e (dropped_fenced g)
        go (Fence w) e = up_to_trans w (dropped g) (fence g) e (dropped_fenced g)
        go _ e = none_before (fence g)

    base_stays : base_after h (base h) m.body ≡ base g
    base_stays = go m.body low
      where
        go : (b : Body) → is_above (dropped g) (version_of b) ≡ false → base_after h (base h) b ≡ base g
        go (Drops w new) e = rw (s.drops, e) s.bases
        go _ e = s.bases

    no_view : (x : Exec) → before (dropped g) x.ver ≡ true → view_for x m.body ≡ 0
    no_view x u = go m.body low
      where
        go : (b : Body) → is_above (dropped g) (version_of b) ≡ false → view_for x b ≡ 0
        go (Ask y v) e = rw (other_exec (dropped g) x y u e) refl
        go (Finalize y v d c) e = rw (other_exec (dropped g) x y u e) refl
        go _ e = refl

    no_choice : (x : Exec) → before (dropped g) x.ver ≡ true → choice_for x m.body ≡ None
    no_choice x u = go m.body low
      where
        go : (b : Body) → is_above (dropped g) (version_of b) ≡ false → choice_for x b ≡ None
        go (Decide y d c) e = rw (other_exec (dropped g) x y u e) refl
        go _ e = refl

    no_content : (n : ℕ) (x : Exec) → before (dropped g) x.ver ≡ true → accepted_content_for n x m.body ≡ None
    no_content n x u = go m.body low
      where
        go : (b : Body) → is_above (dropped g) (version_of b) ≡ false → accepted_content_for n x b ≡ None
        go (Finalize y v d (Some c)) e = rw (other_exec (dropped g) x y u e) refl
        go _ e = refl

    no_put : (v : Version) (o : Option Put) → before (dropped g) v ≡ true → put_after v o m.body ≡ o
    no_put v o u = go m.body low
      where
        go : (b : Body) → is_above (dropped g) (version_of b) ≡ false → put_after v o b ≡ o
        go (Puts y ws) e = rw (other_version (dropped g) v y.ver u e) refl
        go _ e = refl

    -- what is new is not above, so of the longer list the same is above
    list_stays : {A : Type 0} (ver : A → Version) (new old old' : List A) → above ver (dropped g) new ≡ [] →
        above ver (dropped g) old ≡ above ver (dropped g) old' → above ver (dropped g) (new ++ old) ≡ above ver (dropped g) old'
    list_stays {A = A} ver new old old' none e = let p : A → Bool = λ a. before (dropped g) (ver a) in filter-append p new old
        ∙ ap (λ (l : List A). l ++ filter p old) none ∙ e

    one_low : {A : Type 0} (ver : A → Version) (t : Bool) (a : A) → before (dropped g) (ver a) ≡ false → above ver (dropped g) (one_when t a) ≡ []
    one_low ver true a e = rw e refl
    one_low ver false a e = refl

    acceptance_low : above (λ a. a.exec.ver) (dropped g) (new_acceptance h m.body) ≡ []
    acceptance_low = go m.body low
      where
        go : (b : Body) → is_above (dropped g) (version_of b) ≡ false → above (λ a. a.exec.ver) (dropped g) (new_acceptance h b) ≡ []
        go (Finalize x v d c) e = one_low (λ (a : Acceptance). a.exec.ver) (nat_le (promised h x) v) (record { exec = x; view = v; choice = d; content = c }) e
        go _ e = refl

    commit_low : above (λ c. c.exec.ver) (dropped g) (new_commit h m.body) ≡ []
    commit_low = go m.body low
      where
        go : (b : Body) → is_above (dropped g) (version_of b) ≡ false → above (λ c. c.exec.ver) (dropped g) (new_commit h b) ≡ []
        go (Decide x ToCommit (Some c)) e = one_low (λ (k : Kept). k.exec.ver) (is_none (decided h x)) (record { exec = x; content = c }) e
        go _ e = refl

    abandon_low : above (λ x. x.ver) (dropped g) (new_abandon h m.body) ≡ []
    abandon_low = go m.body low
      where
        go : (b : Body) → is_above (dropped g) (version_of b) ≡ false → above (λ x. x.ver) (dropped g) (new_abandon h b) ≡ []
        go (Decide x Abandon c) e = one_low (λ (y : Exec). y.ver) (is_none (decided h x)) x e
        go _ e = refl

    cast_low : above (λ c. c.exec.ver) (dropped g) (new_cast h (casts h) m.body) ≡ []
    cast_low = go m.body low
      where
        go : (b : Body) → is_above (dropped g) (version_of b) ≡ false → above (λ c. c.exec.ver) (dropped g) (new_cast h (casts h) b) ≡ []
        go (Prepare x c) e = one_low (λ (y : Cast). y.exec.ver) (may_vote h (casts h) x) (record { exec = x; content = c; vote = verdict h (casts h) x c }) e
        go _ e = refl

    put_low : above (λ v. v) (dropped g) (put_version (put_versions h) m.body) ≡ above (λ v. v) (dropped g) (put_versions g)
    put_low = go m.body low
      where
        go : (b : Body) → is_above (dropped g) (version_of b) ≡ false →
            above (λ v. v) (dropped g) (put_version (put_versions h) b) ≡ above (λ v. v) (dropped g) (put_versions g)
        go (Puts x ws) e = at (list_any (same_version x.ver) (put_versions h))
          where
            at : (t : Bool) → filter (before (dropped g)) (cond t (put_versions h) (put_versions h ++ x.ver ∷ []))
                ≡ filter (before (dropped g)) (put_versions g)
            at true = s.put_list
            at false = filter-append (before (dropped g)) (put_versions h) (x.ver ∷ []) ∙ rw e (append-nil (filter (before (dropped g)) (put_versions h)))
                ∙ s.put_list
        go _ e = s.put_list

    reader_low : above (λ r. r.ver) (dropped g) (reader_after (readers h) m.body) ≡ above (λ r. r.ver) (dropped g) (readers g)
    reader_low = go m.body low
      where
        go : (b : Body) → is_above (dropped g) (version_of b) ≡ false →
            above (λ r. r.ver) (dropped g) (reader_after (readers h) b) ≡ above (λ r. r.ver) (dropped g) (readers g)
        go (Get x k) e = put_failing (λ (r : Reader). before (dropped g) r.ver) (record { key = k; ver = x.ver }) (readers h) e ∙ s.reader_list
        go _ e = s.reader_list

    none_more : {A : Type 0} (o p : Option A) → p ≡ None → option_or o p ≡ o
    none_more None p e = e
    none_more (Some a) p e = refl

    max_zero : (n k : ℕ) → k ≡ 0 → max n k ≡ n
    max_zero n k e = omega (arith, e)

    pub alike_first : Alike (m ∷ h) g
    alike_first = record {
      drops = drop_stays;
      fences = fence_stays;
      bases = base_stays;
      promises = λ x u. max_zero (promised h x) (view_for x m.body) (no_view x u) ∙ s.promises x u;
      decisions = λ x u. none_more (decided h x) (choice_for x m.body) (no_choice x u) ∙ s.decisions x u;
      acceptance_list = list_stays (λ a. a.exec.ver) (new_acceptance h m.body) (acceptances h) (acceptances g) acceptance_low s.acceptance_list;
      accept_contents = λ x u. none_more (accepted_content h x) (accepted_content_for (promised h x) x m.body) (no_content (promised h x) x u)
          ∙ s.accept_contents x u;
      commit_list = list_stays (λ c. c.exec.ver) (new_commit h m.body) (commits h) (commits g) commit_low s.commit_list;
      abandon_list = list_stays (λ x. x.ver) (new_abandon h m.body) (abandons h) (abandons g) abandon_low s.abandon_list;
      cast_list = list_stays (λ c. c.exec.ver) (new_cast h (casts h) m.body) (casts h) (casts g) cast_low s.cast_list;
      puts = λ v u. no_put v (kept_put h v) u ∙ s.puts v u;
      put_list = put_low;
      reader_list = reader_low;
    }
