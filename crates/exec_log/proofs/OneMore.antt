-- The first reads of a log, and then a read that is asked on their answers, are the reads of its program.
use Rattle.std.proofs.Common.{◌≡◌, ℕ, ◌≤◌, List, [], ◌∷◌, ◌++◌, length, take, ap, sym, subst, ◌∙◌, ⊎_elim, arith, length-append}
use Rattle.std.proofs.lemmas.List.{map-append, length-map, take-map, take-append-le, length-take-le}
use Rattle.txn_lang.specs.Program.{Program}
use Rattle.flat_code.specs.Operation.{Flat}
use Rattle.exec_log.specs.declared.read.LogRead.{LogRead}
use Rattle.exec_log.specs.declared.read.Place.{Place}
use Rattle.exec_log.specs.Log.{answers_in}
use Rattle.exec_log.specs.Standing.{IsReadOf, AreReadsOf}
use Rattle.exec_log.proofs.Fronts.{get_last, get_take, take_take}

module _
    (code : Flat) (p : Program) (reads : List LogRead) (places : List Place) (are : AreReadsOf code p reads places)
    (i : ℕ) (r : LogRead) (m : Place) (le : i ≤ length reads) (is : IsReadOf code p (take i (answers_in reads)) r m) where
  abbrev now : List LogRead
  now = take i reads ++ r ∷ []

  pub answers_now : answers_in now ≡ take i (answers_in reads) ++ r.value ∷ []
  answers_now = map-append (λ (x : LogRead). x.value) (take i reads) (r ∷ []) ∙ ap (λ l. l ++ r.value ∷ []) (sym (take-map (λ (x : LogRead). x.value) i reads))

  as_before : (j : ℕ) → j ≤ i → take j (answers_in now) ≡ take j (answers_in reads)
  as_before j h =
      let short : j ≤ length (take i (answers_in reads)) = omega (arith, length-take-le i (answers_in reads), length-map reads (λ (x : LogRead). x.value)) in
      ap (take j) answers_now ∙ take-append-le j (take i (answers_in reads)) (r.value ∷ []) short ∙ take_take j i (answers_in reads) h

  -- the first reads, and then a read that is asked on their answers
  pub one_more : AreReadsOf code p (take i reads ++ r ∷ []) (take i places ++ m ∷ [])
  one_more =
      let even = are.even in
      let le' : i ≤ length places = omega arith in
      let n = length-take-le i reads le in
      let n' = length-take-le i places le' in
      record {
        even = omega (arith, length-append (take i reads) (r ∷ []), length-append (take i places) (m ∷ []));
        each = λ j a b ha hb.
            ⊎_elim
            (λ s. ⊎_elim
            (λ q.
            let small : j ≤ i = omega (arith, s.0) in
            subst (λ xs. IsReadOf code p xs a b) (sym (as_before j small)) (are.each j a b (get_take reads i j a s.1).1 (get_take places i j b q.1).1))
            (λ q. absurd (omega (arith, s.0, q.0)))
            (get_last (take i places) m j b hb))
            (λ s. ⊎_elim
            (λ q. absurd (omega (arith, s.0, q.0)))
            (λ q.
            let here : i ≡ j = omega (arith, s.0) in
            let all : i ≤ i = omega arith in
            subst (λ k. IsReadOf code p (take k (answers_in now)) a b) here
            (subst (λ x. IsReadOf code p (take i (answers_in now)) x b) (sym s.1)
            (subst (λ x. IsReadOf code p (take i (answers_in now)) r x) (sym q.1)
            (subst (λ xs. IsReadOf code p xs r m) (sym (as_before i all)) is))))
            (get_last (take i places) m j b hb))
            (get_last (take i reads) r j a ha);
      }
