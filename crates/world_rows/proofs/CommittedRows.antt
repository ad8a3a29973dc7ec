-- The committed executions by the notes are those of the definitions.
use Rattle.std.proofs.Common.{◌≡◌, ℕ, Bool, true, false, cond, List, [], ◌∷◌, Option, Some, None, ◌++◌, refl, ap, sym, subst, ◌∙◌, append_assoc}
use Rattle.std.specs.Prelude.{flat_map, option_map}
use Rattle.std.specs.List.{slice_get}
use Rattle.std.specs.Option.{option_to_list}
use Rattle.std.specs.Map.{keys_of}
use Rattle.std.specs.BTreeMap.{IsOrdered}
use Rattle.std.specs.BTreeMap as map
use Rattle.protocol.specs.Words.{Exec, Content, Envelope, same_exec, exec_before}
use Rattle.protocol.specs.Lists.{IsIn}
use Rattle.protocol.specs.Client.State.{Attempt}
use Rattle.protocol.specs.World.State.{Plan, World}
use Rattle.protocol.specs.World.Committed.{CommittedExec, is_committed, attempt_at, committed_in, put_committed, sorted_committed, committed_executions}
use Rattle.protocol.proofs.ListsLemmas.{IsIn-flat_map, flat_map_in}
use Rattle.protocol_plans.specs.Scripted.{Scripted, plan_of}
use Rattle.world_rows.specs.Machine.{events_in}
use Rattle.world_rows.specs.Rows.{rows_of}
use Rattle.world_rows.specs.Report.{rows_with}
use Rattle.world_rows.specs.Orders.{version_cmp, exec_cmp}
use Rattle.world_rows.specs.Notes.{content_in, last_prepare, try_of, AreNotes}
use Rattle.world_rows.specs.Outcome.{exec_of_try, row_at, rows_at}
use Rattle.world_rows.specs.Laws.{CommitsAreToldOf}
use Rattle.world_rows.specs.declared.notes.Try.{Try}
use Rattle.world_rows.specs.declared.notes.Notes.{Notes}
use Rattle.world_rows.proofs.OrdersLemmas.{execs_exact, exec_less}
use Rattle.world_rows.proofs.EntriesLemmas.{entry_found, lookup_in, keys_rise, in_one, one_in, read_rise}
use Rattle.world_rows.proofs.SortedLemmas.{put, sorted, is_sorted}
use Rattle.world_rows.proofs.LastPrepare.{last_content, IsLast, is_last}
use Rattle.world_rows.proofs.LastPrepare.IsLast.{No_prepare, Prepared_at}
use Rattle.world_rows.proofs.LastCommitted.{name_of, execs_named, last_exec, exec_with, no_content, last_told}

-- ---- the sorted list of the definitions

put_is : (c : CommittedExec) (ds : List CommittedExec) → put_committed c ds ≡ put name_of exec_before same_exec c ds
put_is c [] = refl
put_is c (d ∷ ds) = ap (λ l. cond (exec_before c.exec d.exec) (c ∷ d ∷ ds) (cond (same_exec c.exec d.exec) (d ∷ ds) (d ∷ l))) (put_is c ds)

sorted_is : (cs : List CommittedExec) → sorted_committed cs ≡ sorted name_of exec_before same_exec cs
sorted_is [] = refl
sorted_is (c ∷ cs) = ap (put_committed c) (sorted_is cs) ∙ put_is c (sorted name_of exec_before same_exec cs)

-- ---- what the notes say of an entry

tried : (x : Exec) (a : Option Attempt) (o : Option Content) → exec_of_try x (option_map try_of a) o ≡ exec_with x a o
tried x None o = refl
tried x (Some a) None = refl
tried x (Some a) (Some k) = refl

with_name : (x : Exec) (t : Bool) (a : Option Try) (o : Option Content) (d : CommittedExec) → cond t (exec_of_try x a o) None ≡ Some d → d.exec ≡ x
with_name x false a o d e = absurd cc
with_name x true None o d e = absurd cc
with_name x true (Some a) None d e = absurd cc
with_name x true (Some a) (Some k) d e =
    let c : CommittedExec = record { exec = x; content = k; txn = a.txn; try = a.attempt } in
    let q : c ≡ d = cc in sym (ap (λ (y : CommittedExec). y.exec) q)

abbrev pub Entry : Type 0
Entry = Exec × ℕ

module _ (p : Plan) (w : World) (s : Notes) (n : AreNotes w.mail (λ c. (w.client c).attempts) s) (t : CommitsAreToldOf p w) where
  row_is : (x : Exec) (i : ℕ) → row_at s w.mail x i ≡ cond (is_committed p w x) (exec_with x (attempt_at w x.ver) (content_in (slice_get w.mail i))) None
  row_is x i =
      ap (λ b. cond b (exec_of_try x (map.get version_cmp s.tries x.ver) (content_in (slice_get w.mail i))) None) (n.committed x ∙ sym (t x))
      ∙ (ap (λ o. cond (is_committed p w x) (exec_of_try x o (content_in (slice_get w.mail i))) None) (n.tries x.ver)
      ∙ ap (λ o. cond (is_committed p w x) o None) (tried x (attempt_at w x.ver) (content_in (slice_get w.mail i))))

  abbrev told : List CommittedExec
  told = flat_map (λ (m : Envelope). committed_in p w m.body) w.mail

  -- where i is the number of the last Prepare
  row_last : (x : Exec) (i : ℕ) → last_prepare x w.mail ≡ Some i → row_at s w.mail x i ≡ last_exec x told
  row_last x i e = go (is_last x w.mail)
    where
      go : IsLast w.mail (last_prepare x w.mail) (last_content x w.mail) → row_at s w.mail x i ≡ last_exec x told
      go (No_prepare q r) = absurd (let z : None ≡ Some i = sym q ∙ e in cc)
      go (Prepared_at j k q r u) =
          let f : Some j ≡ Some i = sym q ∙ e in
          let g : j ≡ i = cc in
          row_is x i
          ∙ (ap (λ o. cond (is_committed p w x) (exec_with x (attempt_at w x.ver) o) None)
          (subst (λ (m : ℕ). content_in (slice_get w.mail m) ≡ Some k) g r ∙ sym u)
          ∙ sym (last_told p w x w.mail))

  module _ (o : IsOrdered exec_cmp s.prepared) where
    sound : (d : CommittedExec) → IsIn d (rows_at s w.mail) → last_exec d.exec told ≡ Some d
    sound d i =
        let k = IsIn-flat_map (λ (e : Entry). option_to_list (row_at s w.mail e.0 e.1)) d s.prepared.entries i in
        let e : Entry = k.0 in
        let is : row_at s w.mail e.0 e.1 ≡ Some d = in_one (row_at s w.mail e.0 e.1) d k.2 in
        let last : last_prepare e.0 w.mail ≡ Some e.1 = sym (n.prepared e.0) ∙ entry_found exec_cmp execs_exact s.prepared.entries e o k.1 in
        let name : d.exec ≡ e.0 = with_name e.0 _ _ _ d is in
        ap (λ (x : Exec). last_exec x told) name ∙ (sym (row_last e.0 e.1 last) ∙ is)

    complete : (d : CommittedExec) → last_exec d.exec told ≡ Some d → IsIn d (rows_at s w.mail)
    complete d e = go (last_prepare d.exec w.mail) refl (is_last d.exec w.mail)
      where
        go : (q : Option ℕ) → last_prepare d.exec w.mail ≡ q → IsLast w.mail (last_prepare d.exec w.mail) (last_content d.exec w.mail) →
            IsIn d (rows_at s w.mail)
        go q f (No_prepare g r) =
            let z : None ≡ Some d = sym (last_told p w d.exec w.mail
            ∙ (ap (λ k. cond (is_committed p w d.exec) (exec_with d.exec (attempt_at w d.exec.ver) k) None) r
            ∙ no_content d.exec (is_committed p w d.exec) (attempt_at w d.exec.ver))) ∙ e in
            absurd cc
        go q f (Prepared_at i k g r u) = flat_map_in (λ (e : Entry). option_to_list (row_at s w.mail e.0 e.1)) s.prepared.entries (d.exec, i) d
            (lookup_in exec_cmp execs_exact d.exec s.prepared.entries i (n.prepared d.exec ∙ g))
            (one_in (row_at s w.mail d.exec i) d (row_last d.exec i g ∙ e))

    pub rows_are : rows_at s w.mail ≡ committed_executions p w
    unfolding committed_executions
    rows_are =
        is_sorted name_of exec_before same_exec execs_named (rows_at s w.mail) told
        (read_rise exec_before name_of (λ (e : Entry). row_at s w.mail e.0 e.1) (λ e d q. with_name e.0 _ _ _ d q) s.prepared.entries
        (keys_rise exec_cmp exec_before exec_less (keys_of s.prepared.entries) o))
        sound complete
        ∙ sym (sorted_is told)

-- ---- what is gathered

-- one more entry that gives an execution
pub gathered : {A E : Type 0} (f : E → Option A) (cs : List A) (es rest : List E) (e : E) (d : A) → es ≡ e ∷ rest → f e ≡ Some d →
    (whole : List A) → cs ++ flat_map (λ x. option_to_list (f x)) es ≡ whole → (cs ++ d ∷ []) ++ flat_map (λ x. option_to_list (f x)) rest ≡ whole
gathered {A} {E} f cs es rest e d p q whole r =
    append_assoc cs (d ∷ []) (flat_map (λ x. option_to_list (f x)) rest)
    ∙ (ap (λ (o : Option A). cs ++ (option_to_list o ++ flat_map (λ x. option_to_list (f x)) rest)) (sym q)
    ∙ (ap (λ (l : List E). cs ++ flat_map (λ x. option_to_list (f x)) l) (sym p) ∙ r))

-- the rows of the committed executions are those of the world
pub rows_is : (s : Scripted) (w : World) (n : ℕ) → n ≡ events_in w → rows_with s w (committed_executions (plan_of s) w) n ≡ rows_of s w
unfolding rows_of
rows_is s w n e = ap (rows_with s w (committed_executions (plan_of s) w)) e
