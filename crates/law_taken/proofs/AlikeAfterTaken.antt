-- Two lists that are alike stay so with one more envelope in both, about a version above the dropped one.
use Rattle.std.proofs.Common.{◌≡◌, refl, ap, sym, ◌∙◌, true, false, Bool, cond, List, [], ◌∷◌, ◌++◌, Option}
use Rattle.std.specs.Prelude.{max, filter}
use Rattle.std.specs.List.{list_any}
use Rattle.std.specs.Option.{option_or}
use Rattle.std.proofs.lemmas.List.Elements.{filter-append}
use Rattle.protocol.specs.Words.{Version, Exec, Content, Choice, Envelope, Body, Get, Puts, Write, before, same_version}
use Rattle.protocol.specs.Replica.Taken.{Handled, later, dropped, dropped_by, fenced_by, is_above, version_of}
use Rattle.protocol.specs.Replica.Acceptor.{view_for, promised, choice_for, new_acceptance, acceptances, accepted_content_for, accepted_content, new_commit, commits}
use Rattle.protocol.specs.Replica.Held.{put_after, put_version, put_versions, new_abandon, abandons, Put}
use Rattle.protocol.specs.Replica.Votes.{new_cast, casts}
use Rattle.protocol.specs.Replica.Readers.{Reader, put_reader, reader_after, readers}
use Rattle.protocol.specs.World.Decided.{UpTo}
use Rattle.law_taken.specs.ReadsAs.{above}
use Rattle.law_taken.proofs.AboveLemmas.{up_to_trans, then_before, up_to_later, other_version, any_same, filter_same}
use Rattle.law_taken.proofs.ReadersLemmas.{readers_rise, put_passing}
use Rattle.law_taken.proofs.Alike.{Alike, new_cast_same, new_acceptance_same, new_commit_same, new_abandon_same, base_same}

-- lists of which the same is above one version have the same above a later one
above_later : {A : Type 0} (ver : A → Version) (w w' : Version) → UpTo w w' → (xs ys : List A) → above ver w xs ≡ above ver w ys →
    above ver w' xs ≡ above ver w' ys
above_later ver w w' up xs ys e =
    filter_same (λ a. before w (ver a)) (λ a. before w' (ver a)) (λ a. before w' (ver a))
    (λ a low. up_to_trans (ver a) w w' low up) (λ a low. up_to_trans (ver a) w w' low up) (λ a high. refl) xs ys e

module _ (h g : Handled) (s : Alike h g) where
  -- a version is put among others as it is among those above
  put_same : (x : Exec) (ws : List Write) → before (dropped g) x.ver ≡ true →
      above (λ v. v) (dropped g) (put_version (put_versions h) (Puts x ws)) ≡ above (λ v. v) (dropped g) (put_version (put_versions g) (Puts x ws))
  put_same x ws up = rw there (go (list_any (same_version x.ver) (put_versions g)))
    where
      there : list_any (same_version x.ver) (put_versions h) ≡ list_any (same_version x.ver) (put_versions g)
      there = any_same (before (dropped g)) (same_version x.ver) (same_version x.ver) (λ v low. other_version (dropped g) x.ver v up low) (λ v low. other_version (dropped g) x.ver v up low) (λ v high. refl)
          (put_versions h) (put_versions g) s.put_list

      go : (t : Bool) → filter (before (dropped g)) (cond t (put_versions h) (put_versions h ++ x.ver ∷ []))
          ≡ filter (before (dropped g)) (cond t (put_versions g) (put_versions g ++ x.ver ∷ []))
      go true = s.put_list
      go false = filter-append (before (dropped g)) (put_versions h) (x.ver ∷ [])
          ∙ ap (λ (l : List Version). l ++ filter (before (dropped g)) (x.ver ∷ [])) s.put_list
          ∙ sym (filter-append (before (dropped g)) (put_versions g) (x.ver ∷ []))

  -- one more envelope about a version above the dropped one
  module _ (m : Envelope) (up : is_above (dropped g) (version_of m.body) ≡ true) where
    higher : UpTo (dropped g) (dropped (m ∷ g))
    higher = up_to_later (dropped g) (dropped_by m.body)

    lower : (v : Version) → before (dropped (m ∷ g)) v ≡ true → before (dropped g) v ≡ true
    lower v e = then_before (dropped g) (dropped (m ∷ g)) v higher e

    list_same : {A : Type 0} (ver : A → Version) (new new' old old' : List A) → new ≡ new' → above ver (dropped g) old ≡ above ver (dropped g) old' →
        above ver (dropped (m ∷ g)) (new ++ old) ≡ above ver (dropped (m ∷ g)) (new' ++ old')
    list_same {A = A} ver new new' old old' e f =
        let p : A → Bool = λ a. before (dropped (m ∷ g)) (ver a) in
        filter-append p new old ∙ ap (λ (l : List A). filter p l ++ filter p old) e
        ∙ ap (λ (l : List A). filter p new' ++ l) (above_later ver (dropped g) (dropped (m ∷ g)) higher old old' f) ∙ sym (filter-append p new' old')

    put_list_same : above (λ v. v) (dropped (m ∷ g)) (put_versions (m ∷ h)) ≡ above (λ v. v) (dropped (m ∷ g)) (put_versions (m ∷ g))
    put_list_same = above_later (λ v. v) (dropped g) (dropped (m ∷ g)) higher (put_versions (m ∷ h)) (put_versions (m ∷ g)) (go m.body up)
      where
        go : (b : Body) → is_above (dropped g) (version_of b) ≡ true →
            above (λ v. v) (dropped g) (put_version (put_versions h) b) ≡ above (λ v. v) (dropped g) (put_version (put_versions g) b)
        go (Puts x ws) e = put_same x ws e
        go _ e = s.put_list

    reader_list_same : above (λ r. r.ver) (dropped (m ∷ g)) (readers (m ∷ h)) ≡ above (λ r. r.ver) (dropped (m ∷ g)) (readers (m ∷ g))
    reader_list_same = above_later (λ r. r.ver) (dropped g) (dropped (m ∷ g)) higher (readers (m ∷ h)) (readers (m ∷ g)) (go m.body up)
      where
        go : (b : Body) → is_above (dropped g) (version_of b) ≡ true →
            above (λ r. r.ver) (dropped g) (reader_after (readers h) b) ≡ above (λ r. r.ver) (dropped g) (reader_after (readers g) b)
        go (Get x k) e =
            let p : Reader → Bool = λ r. before (dropped g) r.ver in
            let reader : Reader = record { key = k; ver = x.ver } in
            put_passing p reader (readers h) (readers_rise h) e ∙ ap (put_reader reader) s.reader_list
            ∙ sym (put_passing p reader (readers g) (readers_rise g) e)
        go _ e = s.reader_list

    pub alike_both : Alike (m ∷ h) (m ∷ g)
    alike_both = record {
      drops = ap (λ v. later v (dropped_by m.body)) s.drops;
      fences = ap (λ v. later v (fenced_by m.body)) s.fences;
      bases = base_same h g s m.body;
      promises = λ x u. ap (λ n. max n (view_for x m.body)) (s.promises x (lower x.ver u));
      decisions = λ x u. ap (λ (o : Option Choice). option_or o (choice_for x m.body)) (s.decisions x (lower x.ver u));
      acceptance_list = list_same (λ a. a.exec.ver) (new_acceptance h m.body) (new_acceptance g m.body) (acceptances h) (acceptances g) (new_acceptance_same h g s m.body up) s.acceptance_list;
      accept_contents = λ x u. ap (λ (o : Option Content). option_or o (accepted_content_for (promised h x) x m.body)) (s.accept_contents x (lower x.ver u))
          ∙ ap (λ n. option_or (accepted_content g x) (accepted_content_for n x m.body)) (s.promises x (lower x.ver u));
      commit_list = list_same (λ c. c.exec.ver) (new_commit h m.body) (new_commit g m.body) (commits h) (commits g) (new_commit_same h g s m.body up) s.commit_list;
      abandon_list = list_same (λ x. x.ver) (new_abandon h m.body) (new_abandon g m.body) (abandons h) (abandons g) (new_abandon_same h g s m.body up) s.abandon_list;
      cast_list = list_same (λ c. c.exec.ver) (new_cast h (casts h) m.body) (new_cast g (casts g) m.body) (casts h) (casts g) (new_cast_same h g s m.body up) s.cast_list;
      puts = λ v u. ap (λ (o : Option Put). put_after v o m.body) (s.puts v (lower v u));
      put_list = put_list_same;
      reader_list = reader_list_same;
    }
