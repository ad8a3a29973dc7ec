-- Reads that take their next labels leave the answers of the next execution.
use Rattle.std.proofs.Common.{◌≡◌, ℕ, zero, suc, ◌+◌, ◌<◌, Bool, true, false, cond, not, List, [], ◌∷◌, ◌++◌, map, length, take, get_or, Option, Some, None, refl, ap, sym, ◌∙◌, arith}
use Rattle.std.specs.Prelude.{◌||◌, slice_get, option_map, unwrap_or, is_some}
use Rattle.std.specs.List.{list_any}
use Rattle.std.specs.Ordering.{int_eq}
use Rattle.std.proofs.lemmas.Bool.Decides.{Decides-int_eq}
use Rattle.protocol.specs.declared.Held.{Held}
use Rattle.protocol.specs.Client.Deciding.{cut, has_other_value, moved_on, other_value}
use Rattle.exec_log.specs.declared.read.LogRead.{LogRead}
use Rattle.exec_log.specs.Log.{labelled}
use Rattle.coordinator.specs.Answers.{held_of, next_at, answer_with, answers_with}
use Rattle.coordinator.specs.Moving.{first_other, labelled_by, moved_read, moved_before}
use Rattle.protocol.specs.Client.Following.{no_answer, next_label}
use Rattle.coordinator.specs.Execution.{Loaded, StandsFor, answers_of}
use Rattle.coordinator.specs.declared.execution.Execution.{Execution}
use Rattle.coordinator.proofs.AnswersLemmas.{next_there}
use Rattle.coordinator.proofs.ExecutionLemmas.{labelled_more}

pub length_moved : (n : ℕ) (reads : List LogRead) (nexts : List (Option Held)) → length (moved_before n reads nexts) ≡ length reads
length_moved zero reads nexts = refl
length_moved (suc n) [] nexts = refl
length_moved (suc n) (r ∷ reads) [] = refl
length_moved (suc n) (r ∷ reads) (x ∷ nexts) = ap suc (length_moved n reads nexts)

-- one more read takes its next label
pub moved_more : (i : ℕ) (reads : List LogRead) (nexts : List (Option Held)) (h : Held) → next_at nexts i ≡ Some h →
    moved_before (suc i) reads nexts ≡ labelled (moved_before i reads nexts) i h.wid h.sure
moved_more zero [] nexts h e = refl
moved_more (suc i) [] nexts h e = refl
moved_more zero (r ∷ reads) [] h e = absurd (cc)
moved_more (suc i) (r ∷ reads) [] h e = absurd (cc)
moved_more zero (r ∷ reads) (x ∷ nexts) h e = ap (λ y. moved_read r y ∷ reads) e
moved_more (suc i) (r ∷ reads) (x ∷ nexts) h e =
    ap (λ l. moved_read r x ∷ l) (moved_more i reads nexts h e)
    ∙ sym (labelled_more (slice_get (moved_before i reads nexts) i) (moved_read r x) (moved_before i reads nexts) i h.wid h.sure)

-- one that has none stays
pub moved_same : (i : ℕ) (reads : List LogRead) (nexts : List (Option Held)) → next_at nexts i ≡ None →
    moved_before (suc i) reads nexts ≡ moved_before i reads nexts
moved_same zero [] nexts e = refl
moved_same (suc i) [] nexts e = refl
moved_same zero (r ∷ reads) [] e = refl
moved_same (suc i) (r ∷ reads) [] e = refl
moved_same zero (r ∷ reads) (x ∷ nexts) e = ap (λ y. moved_read r y ∷ reads) e
moved_same (suc i) (r ∷ reads) (x ∷ nexts) e = ap (λ l. moved_read r x ∷ l) (moved_same i reads nexts e)

pub moved_step : (i : ℕ) (reads : List LogRead) (nexts : List (Option Held)) →
    moved_before (i + 1) reads nexts ≡ labelled_by (next_at nexts i) (moved_before i reads nexts) i
moved_step i reads nexts = let one : i + 1 ≡ suc i = omega arith in ap (λ n. moved_before n reads nexts) one ∙ go (next_at nexts i) refl
  where
    go : (o : Option Held) → next_at nexts i ≡ o → moved_before (suc i) reads nexts ≡ labelled_by o (moved_before i reads nexts) i
    go None e = moved_same i reads nexts e
    go (Some h) e = moved_more i reads nexts h e

-- the same value
same_value : (r : LogRead) (h : Held) (t : Bool) → int_eq r.value h.value ≡ t → not t ≡ false → r.value ≡ h.value
same_value r h true e f = (Decides-int_eq r.value h.value).0 e
same_value r h false e f = absurd (cc)

moved_answer : (r : LogRead) (x : Option Held) → has_other_value (held_of r) x ≡ false → answer_with (moved_read r x) None ≡ moved_on (answer_with r x)
moved_answer r None e = refl
moved_answer r (Some h) e = ap (λ v. record { label = record { wid = h.wid; value = v; sure = h.sure }; next = None }) (same_value r h (int_eq r.value h.value) refl e)

moved_nothing : (reads : List LogRead) → answers_with reads [] ≡ map moved_on (answers_with reads [])
moved_nothing [] = refl
moved_nothing (r ∷ reads) = ap (λ l. answer_with r None ∷ l) (moved_nothing reads)

no_place : (o : Option ℕ) → option_map suc o ≡ None → o ≡ None
no_place None e = refl
no_place (Some i) e = cc

one_before : (o : Option ℕ) (i : ℕ) → option_map suc o ≡ Some i → (j : ℕ) × (o ≡ Some j) × (i ≡ suc j)
one_before None i e = absurd (cc)
one_before (Some j) i e = (j, refl, let same : suc j ≡ i = cc in sym same)

-- where no value changes, all take their next labels
pub moved_all : (reads : List LogRead) (nexts : List (Option Held)) → first_other reads nexts ≡ None →
    answers_with (moved_before (length reads) reads nexts) [] ≡ map moved_on (answers_with reads nexts)
moved_all [] nexts e = refl
moved_all (r ∷ reads) [] e = moved_nothing (r ∷ reads)
moved_all (r ∷ reads) (x ∷ nexts) e = go (has_other_value (held_of r) x) refl e (moved_all reads nexts)
  where
    go : (t : Bool) → has_other_value (held_of r) x ≡ t → cond t (Some 0) (option_map suc (first_other reads nexts)) ≡ None →
        (first_other reads nexts ≡ None → answers_with (moved_before (length reads) reads nexts) [] ≡ map moved_on (answers_with reads nexts)) →
        answers_with (moved_before (suc (length reads)) (r ∷ reads) (x ∷ nexts)) [] ≡ map moved_on (answers_with (r ∷ reads) (x ∷ nexts))
    go true is e ih = absurd (cc)
    go false is e ih =
        let rest = ih (no_place (first_other reads nexts) e) in
        ap (λ a. a ∷ answers_with (moved_before (length reads) reads nexts) []) (moved_answer r x is) ∙ ap (λ l. moved_on (answer_with r x) ∷ l) rest

-- else those before the first that changes, which takes its next label too, and the later ones are dropped
pub moved_cut : (reads : List LogRead) (nexts : List (Option Held)) (i : ℕ) (h : Held) → first_other reads nexts ≡ Some i → next_at nexts i ≡ Some h →
    take i (answers_with (moved_before i reads nexts) []) ++ record { label = h; next = None } ∷ [] ≡ cut (answers_with reads nexts)
moved_cut [] nexts i h e f = absurd (cc)
moved_cut (r ∷ reads) [] i h e f = absurd (cc)
moved_cut (r ∷ reads) (x ∷ nexts) i h e f = go (has_other_value (held_of r) x) refl e (λ j. moved_cut reads nexts j h)
  where
    first : (j : ℕ) → 0 ≡ j → next_at (x ∷ nexts) j ≡ Some h →
        take j (answers_with (moved_before j (r ∷ reads) (x ∷ nexts)) []) ++ record { label = h; next = None } ∷ [] ≡ moved_on (answer_with r x) ∷ []
    first zero z g = ap (λ y. record { label = unwrap_or y (held_of r); next = None } ∷ []) (sym g)
    first (suc j) z g = absurd (omega arith)

    go : (t : Bool) → has_other_value (held_of r) x ≡ t → cond t (Some 0) (option_map suc (first_other reads nexts)) ≡ Some i →
        ((j : ℕ) → first_other reads nexts ≡ Some j → next_at nexts j ≡ Some h →
        take j (answers_with (moved_before j reads nexts) []) ++ record { label = h; next = None } ∷ [] ≡ cut (answers_with reads nexts)) →
        take i (answers_with (moved_before i (r ∷ reads) (x ∷ nexts)) []) ++ record { label = h; next = None } ∷ []
        ≡ cond t (moved_on (answer_with r x) ∷ []) (moved_on (answer_with r x) ∷ cut (answers_with reads nexts))
    go true is e ih = let z : 0 ≡ i = cc in first i z f
    go false is e ih =
        let one = one_before (first_other reads nexts) i e in
        let there : next_at nexts one.0 ≡ Some h = ap (λ k. next_at (x ∷ nexts) k) (sym one.2) ∙ f in
        let rest = ih one.0 one.1 there in
        ap (λ k. take k (answers_with (moved_before k (r ∷ reads) (x ∷ nexts)) []) ++ record { label = h; next = None } ∷ []) one.2
        ∙ ap (λ a. a ∷ (take one.0 (answers_with (moved_before one.0 reads nexts) []) ++ record { label = h; next = None } ∷ [])) (moved_answer r x is)
        ∙ ap (λ l. moved_on (answer_with r x) ∷ l) rest

-- some value changes where there is such a place
pub other_found : (reads : List LogRead) (nexts : List (Option Held)) → list_any other_value (answers_with reads nexts) ≡ is_some (first_other reads nexts)
other_found [] nexts = refl
other_found (r ∷ reads) [] = other_found reads [] ∙ none_found reads
  where
    none_found : (rs : List LogRead) → is_some (first_other rs []) ≡ false
    none_found [] = refl
    none_found (r ∷ rs) = refl
other_found (r ∷ reads) (x ∷ nexts) = go (has_other_value (held_of r) x) (other_found reads nexts)
  where
    some_more : (o : Option ℕ) → is_some o ≡ is_some (option_map suc o)
    some_more None = refl
    some_more (Some i) = refl

    go : (t : Bool) → list_any other_value (answers_with reads nexts) ≡ is_some (first_other reads nexts) →
        (t || list_any other_value (answers_with reads nexts)) ≡ is_some (cond t (Some 0) (option_map suc (first_other reads nexts)))
    go true ih = refl
    go false ih = ih ∙ some_more (first_other reads nexts)

-- a value that changes is that of a next label
pub next_of_other : (reads : List LogRead) (nexts : List (Option Held)) (i : ℕ) → first_other reads nexts ≡ Some i → (h : Held) × (next_at nexts i ≡ Some h)
next_of_other [] nexts i e = absurd (cc)
next_of_other (r ∷ reads) [] i e = absurd (cc)
next_of_other (r ∷ reads) (None ∷ nexts) i e =
    let one = one_before (first_other reads nexts) i e in
    let rest = next_of_other reads nexts one.0 one.1 in
    (rest.0, ap (λ k. next_at (None ∷ nexts) k) one.2 ∙ rest.1)
next_of_other (r ∷ reads) (Some h ∷ nexts) i e = go (has_other_value (held_of r) (Some h)) e (next_of_other reads nexts)
  where
    go : (t : Bool) → cond t (Some 0) (option_map suc (first_other reads nexts)) ≡ Some i →
        ((j : ℕ) → first_other reads nexts ≡ Some j → (k : Held) × (next_at nexts j ≡ Some k)) → (k : Held) × (next_at (Some h ∷ nexts) i ≡ Some k)
    go true e ih = let z : 0 ≡ i = cc in (h, ap (λ k. next_at (Some h ∷ nexts) k) (sym z))
    go false e ih =
        let one = one_before (first_other reads nexts) i e in
        let rest = ih one.0 one.1 in
        (rest.0, ap (λ k. next_at (Some h ∷ nexts) k) one.2 ∙ rest.1)

-- what moving leaves of an execution
module _ (e m : Execution) (i : ℕ) (is : m ≡ record e { log = record e.log { reads = moved_before i e.log.reads e.nexts } }) where
  reads_are : m.log.reads ≡ moved_before i e.log.reads e.nexts
  reads_are = ap (λ (x : Execution). x.log.reads) is

  -- there are as many reads as before
  pub as_many : length m.log.reads ≡ length e.log.reads
  as_many = ap length reads_are ∙ length_moved i e.log.reads e.nexts

  pub all_moved : i ≡ length e.log.reads → first_other e.log.reads e.nexts ≡ None → answers_with m.log.reads [] ≡ map moved_on (answers_of e)
  all_moved n none = ap (λ rs. answers_with rs []) reads_are ∙ ap (λ k. answers_with (moved_before k e.log.reads e.nexts) []) n ∙ moved_all e.log.reads e.nexts none

  pub cut_moved : (h : Held) → i < length e.log.reads → first_other e.log.reads e.nexts ≡ Some i → h ≡ next_label (get_or (answers_of e) i no_answer) →
      take i (answers_with m.log.reads []) ++ record { label = h; next = None } ∷ [] ≡ cut (answers_of e)
  cut_moved h within first label =
      let k = next_of_other e.log.reads e.nexts i first in
      let same : h ≡ k.0 = label ∙ ap (λ o. unwrap_or o (get_or (answers_of e) i no_answer).label) (next_there e i within ∙ k.1) in
      ap (λ rs. take i (answers_with rs []) ++ record { label = h; next = None } ∷ []) reads_are
      ∙ ap (λ g. take i (answers_with (moved_before i e.log.reads e.nexts) []) ++ record { label = g; next = None } ∷ []) same
      ∙ moved_cut e.log.reads e.nexts i k.0 first k.1

-- one more read of an execution takes its next label
pub one_moved : (e m n : Execution) (i : ℕ) → m ≡ record e { log = record e.log { reads = moved_before i e.log.reads e.nexts } } →
    n ≡ record m { log = record m.log { reads = labelled_by (next_at m.nexts i) m.log.reads i } } →
    n ≡ record e { log = record e.log { reads = moved_before (i + 1) e.log.reads e.nexts } }
one_moved e m n i is more =
    more ∙ ap (λ (x : Execution). record x { log = record x.log { reads = labelled_by (next_at x.nexts i) x.log.reads i } }) is
    ∙ ap (λ rs. record e { log = record e.log { reads = rs } }) (sym (moved_step i e.log.reads e.nexts))

-- next labels say nothing of the log
pub stands_unlabelled : (o : Option Loaded) (e : Execution) (nexts : List (Option Held)) → StandsFor o e → StandsFor o (record e { nexts = nexts })
stands_unlabelled None e nexts s = record { whole = s.whole; follows = record { reads = s.follows.reads; next = s.follows.next } }
stands_unlabelled (Some l) e nexts s = record { whole = s.whole; follows = record { log = s.follows.log; job = s.follows.job } }
