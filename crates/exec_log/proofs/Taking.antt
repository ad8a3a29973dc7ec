-- A log with the segment of its last job stands for its program still.
use Rattle.std.proofs.Common.{◌≡◌, List, [], ◌∷◌, ◌++◌, Option, Some, None, ap, sym, subst, ◌∙◌, ⊎_elim, ℤ}
use Rattle.txn_lang.specs.Program.{Program, replay_of}
use Rattle.flat_code.specs.Operation.{Flat}
use Rattle.continuation.specs.declared.segment.Next.{Next}
use Rattle.continuation.specs.declared.segment.Seg.{Seg}
use Rattle.continuation.specs.Segment.{StopsAs, IsFirst, IsSuffix}
use Rattle.exec_log.specs.Entries.{write_entries}
use Rattle.exec_log.specs.Log.{Log, answers_in, answers_of}
use Rattle.exec_log.specs.Standing.{AreReadsOf, HasDone, IsUnbegun, IsResumed, StopsBy, StandsFor, IsLastRun}
use Rattle.exec_log.proofs.Fronts.{not_none, one_front}

-- a log with what a segment did
pub record HasTaken (l l' : Log) (seg : Seg) : Type 0 where
  pub reads : l'.reads ≡ l.reads
  pub places : l'.places ≡ l.places
  pub writes : write_entries l'.writes ≡ write_entries l.writes ++ seg.wrote
  pub out : l'.out ≡ l.out ++ seg.printed
  pub next : l'.next ≡ Some seg.next

module _ (code : Flat) (p : Program) (l l' : Log) (seg : Seg) (t : HasTaken l l' seg) where
  first : IsUnbegun l → IsFirst code p seg → HasDone p (answers_of l) l' × StopsAs code p (answers_of l) seg.next
  first u f =
      let none : answers_of l ≡ [] = ap answers_in u.reads in (
        record {
          writes = t.writes ∙ ap (λ ws. write_entries ws ++ seg.wrote) u.writes ∙ sym f.wrote ∙ ap (λ xs. (replay_of p xs).writes) (sym none);
          out = t.out ∙ ap (λ ls. ls ++ seg.printed) u.out ∙ sym f.printed ∙ ap (λ xs. (replay_of p xs).out) (sym none);
        },
        subst (λ xs. StopsAs code p xs seg.next) (sym none) f.next,
      )

  later : IsResumed p l → (front : List ℤ) (value : ℤ) → answers_of l ≡ front ++ value ∷ [] → IsSuffix code p front value seg →
      HasDone p (answers_of l) l' × StopsAs code p (answers_of l) seg.next
  later r front value is s =
      let one : r.front ≡ front = one_front r.front front r.value value (sym r.answers ∙ is) in (
        record {
          writes = t.writes ∙ ap (λ ws. ws ++ seg.wrote) (r.done.writes ∙ ap (λ xs. (replay_of p xs).writes) one) ∙ sym s.wrote
              ∙ ap (λ xs. (replay_of p xs).writes) (sym is);
          out = t.out ∙ ap (λ ls. ls ++ seg.printed) (r.done.out ∙ ap (λ xs. (replay_of p xs).out) one) ∙ sym s.printed
              ∙ ap (λ xs. (replay_of p xs).out) (sym is);
        },
        subst (λ xs. StopsAs code p xs seg.next) (sym is) s.next,
      )

  pending : (next : Option Next) → next ≡ None → StopsBy code p l next → IsLastRun code p l seg →
      HasDone p (answers_of l) l' × StopsAs code p (answers_of l) seg.next
  pending (Some n) e s run = absurd (cc)
  pending None e s run =
      ⊎_elim
      (λ u. ⊎_elim
      (λ f. first u f.1)
      (λ g. absurd (not_none g.0 g.1 (sym (ap answers_in u.reads) ∙ g.2)))
      run)
      (λ r. ⊎_elim
      (λ f. absurd (not_none r.front r.value (sym (ap answers_in f.0) ∙ r.answers)))
      (λ g. later r g.0 g.1 g.2 g.3)
      run)
      s

  pub stands_taken : l.next ≡ None → StandsFor code p l → IsLastRun code p l seg → StandsFor code p l'
  stands_taken none s run =
      let h = pending l.next none s.stops run in
      let same : answers_of l' ≡ answers_of l = ap answers_in t.reads in
      record {
        reads = subst (λ rs. AreReadsOf code p rs l'.places) (sym t.reads) (subst (AreReadsOf code p l.reads) (sym t.places) s.reads);
        stops = subst (StopsBy code p l') (sym t.next)
            (subst (λ xs. HasDone p xs l') (sym same) h.0, subst (λ xs. StopsAs code p xs seg.next) (sym same) h.1);
      }
