-- A log whose reads have other labels stands for the same.
use Rattle.std.proofs.Common.{◌≡◌, ℕ, zero, suc, Bool, List, [], ◌∷◌, take, Option, Some, None, refl, ap, sym, subst, ◌∙◌, ◌⊎◌, inl, inr, ⊎_elim, ℤ}
use Rattle.std.specs.Prelude.{slice_get, slice_set}
use Rattle.std.proofs.lemmas.List.{length-set}
use Rattle.morty_base.specs.declared.names.Wid.{Wid}
use Rattle.txn_lang.specs.Program.{Program}
use Rattle.flat_code.specs.Operation.{Flat}
use Rattle.continuation.specs.declared.segment.Next.{Next}
use Rattle.continuation.specs.Segment.{StopsAs}
use Rattle.exec_log.specs.declared.read.LogRead.{LogRead}
use Rattle.exec_log.specs.declared.read.Place.{Place}
use Rattle.exec_log.specs.Log.{Log, answers_in, answers_of, labelled_read, labelled_at, labelled}
use Rattle.exec_log.specs.Standing.{IsReadOf, HasDone, StopsBy, StandsFor}

same_answers : (reads : List LogRead) (i : ℕ) (r r' : LogRead) → slice_get reads i ≡ Some r → r'.value ≡ r.value →
    answers_in (slice_set reads i r') ≡ answers_in reads
same_answers [] i r r' h same = refl
same_answers (x ∷ xs) zero r r' h same =
    let here : x ≡ r = cc in
    ap (λ v. v ∷ answers_in xs) (same ∙ ap (λ (y : LogRead). y.value) (sym here))
same_answers (x ∷ xs) (suc i) r r' h same = ap (λ l. x.value ∷ l) (same_answers xs i r r' h same)

get_set : (reads : List LogRead) (i j : ℕ) (r r' a : LogRead) → slice_get reads i ≡ Some r → slice_get (slice_set reads i r') j ≡ Some a →
    ((slice_get reads j ≡ Some r) × (a ≡ r')) ⊎ (slice_get reads j ≡ Some a)
get_set [] i j r r' a h g = inr g
get_set (x ∷ xs) zero zero r r' a h g = inl (h, cc)
get_set (x ∷ xs) zero (suc j) r r' a h g = inr g
get_set (x ∷ xs) (suc i) zero r r' a h g = inr g
get_set (x ∷ xs) (suc i) (suc j) r r' a h g = get_set xs i j r r' a h g

module _ (code : Flat) (p : Program) (l : Log) (i : ℕ) (r : LogRead) (wid : Wid) (sure : Bool) (s : StandsFor code p l) (read : slice_get l.reads i
    ≡ Some r) where
  abbrev now : List LogRead
  now = slice_set l.reads i (labelled_read r.key wid r.value sure)

  same : answers_in now ≡ answers_of l
  same = same_answers l.reads i r (labelled_read r.key wid r.value sure) read refl

  each : (j : ℕ) (a : LogRead) (m : Place) → slice_get now j ≡ Some a → slice_get l.places j ≡ Some m → IsReadOf code p (take j (answers_of l)) a m
  each j a m ha hm =
      ⊎_elim
      (λ q.
      let is = s.reads.each j r m q.0 hm in
      subst (λ x. IsReadOf code p (take j (answers_of l)) x m) (sym q.1) (record { at = is.at; wrote = is.wrote; printed = is.printed }))
      (λ q. s.reads.each j a m q hm)
      (get_set l.reads i j r (labelled_read r.key wid r.value sure) a read ha)

  done : (answers : List ℤ) → HasDone p answers l → HasDone p answers (record l { reads = now })
  done answers d = record { writes = d.writes; out = d.out }

  stops : (next : Option Next) → StopsBy code p l next → StopsBy code p (record l { reads = now }) next
  stops (Some n) h =
      (subst (λ xs. HasDone p xs (record l { reads = now })) (sym same) (done (answers_of l) h.0), subst (λ xs. StopsAs code p xs n) (sym same) h.1)
  stops None h =
      ⊎_elim
      (λ u. absurd (let none = ap (λ rs. slice_get rs i) (sym u.reads) ∙ read in cc))
      (λ q. inr (record { front = q.front; value = q.value; answers = same ∙ q.answers; done = done q.front q.done }))
      h

  relabelled : StandsFor code p (record l { reads = now })
  relabelled = record {
    reads = record {
      even = s.reads.even ∙ sym (length-set l.reads i (labelled_read r.key wid r.value sure));
      each = λ j a m ha hm. subst (λ xs. IsReadOf code p (take j xs) a m) (sym same) (each j a m ha hm);
    };
    stops = stops l.next s.stops;
  }

-- the log with another label on a read
pub labels : (v l : Log) (i : ℕ) (old : LogRead) (wid : Wid) (value : ℤ) (sure : Bool) → v ≡ l → slice_get l.reads i ≡ Some old → value ≡ old.value →
    record v { reads = slice_set v.reads i (labelled_read old.key wid value sure) } ≡ record l { reads = labelled l.reads i wid sure }
labels v l i old wid value sure is read same =
    ap (λ x. record v { reads = slice_set v.reads i (labelled_read old.key wid x sure) }) same
    ∙ ap (λ (x : Log). record x { reads = slice_set x.reads i (labelled_read old.key wid old.value sure) }) is
    ∙ ap (λ o. record l { reads = labelled_at o l.reads i wid sure }) (sym read)

pub stands_labelled : (code : Flat) (p : Program) (v l : Log) (i : ℕ) (old : LogRead) (wid : Wid) (value : ℤ) (sure : Bool) → v ≡ l →
    slice_get l.reads i ≡ Some old → value ≡ old.value → StandsFor code p l →
    StandsFor code p (record v { reads = slice_set v.reads i (labelled_read old.key wid value sure) })
stands_labelled code p v l i old wid value sure is read same s =
    subst (λ x. StandsFor code p (record v { reads = slice_set v.reads i (labelled_read old.key wid x sure) })) (sym same)
    (subst (λ (x : Log). StandsFor code p (record x { reads = slice_set x.reads i (labelled_read old.key wid old.value sure) })) (sym is)
    (relabelled code p l i old wid sure s read))
