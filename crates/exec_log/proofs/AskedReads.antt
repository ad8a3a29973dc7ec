-- The reads of a log are those of the replay on its answers, and what it knows is what the replay knows.
use Rattle.std.proofs.Common.{◌≡◌, ℕ, zero, suc, ◌<◌, ◌≤◌, List, [], ◌∷◌, ◌++◌, length, take, reverse, Some, refl, ap, sym, ◌∙◌, arith}
use Rattle.std.specs.Prelude.{slice_get}
use Rattle.std.specs.Option.{option_map}
use Rattle.std.proofs.Math.Seq.{take-length}
use Rattle.std.proofs.lemmas.List.{map-append, length-map}
use Rattle.std.proofs.lemmas.Option.{slice_get-map}
use Rattle.morty_base.specs.declared.names.Key.{Key}
use Rattle.txn_lang.specs.Keys.{Entry, found}
use Rattle.std.specs.Option.{option_or}
use Rattle.txn_lang.specs.Program.{Program, replay_of}
use Rattle.txn_lang.proofs.Entries.{found-append}
use Rattle.txn_lang.proofs.Growing.{reads_what_it_asked}
use Rattle.txn_lang.proofs.Knowing.{knows_its_own}
use Rattle.flat_code.specs.Operation.{Flat}
use Rattle.continuation.specs.Place.{KnowsAs}
use Rattle.msg.specs.declared.Write.{Write}
use Rattle.exec_log.specs.declared.read.LogRead.{LogRead}
use Rattle.exec_log.specs.declared.read.Place.{Place}
use Rattle.exec_log.specs.Entries.{read_entry, read_entries, write_entries}
use Rattle.exec_log.specs.Log.{answers_in}
use Rattle.exec_log.specs.Standing.{AreReadsOf}
use Rattle.exec_log.proofs.Fronts.{get_some, take_one}

none_in : (es : List Entry) → ((i : ℕ) (e : Entry) → slice_get es i ≡ Some e → ⊥) → es ≡ []
none_in [] h = refl
none_in (e ∷ es) h = absurd (h 0 e refl)

-- with no answers there are no reads
none_read : (p : Program) → (replay_of p []).reads ≡ []
none_read p = none_in (replay_of p []).reads (λ i e h. let none = ((reads_what_it_asked p.body (length p.names)).each [] i e h).1 in cc)

-- the answer to a read
pub answer_at : (reads : List LogRead) (i : ℕ) (r : LogRead) → slice_get reads i ≡ Some r → slice_get (answers_in reads) i ≡ Some r.value
answer_at reads i r h = slice_get-map (λ (x : LogRead). x.value) reads i ∙ ap (option_map (λ (x : LogRead). x.value)) h

module _ (code : Flat) (p : Program) (reads : List LogRead) (places : List Place) (are : AreReadsOf code p reads places) where
  -- the replay on the first answers has made the first reads
  pub reads_before : (i : ℕ) → i ≤ length reads → (replay_of p (take i (answers_in reads))).reads ≡ read_entries (take i reads)
  reads_before zero h = none_read p
  reads_before (suc i) h =
      let within : i < length reads = omega arith in
      let before : i ≤ length reads = omega arith in
      let even = are.even in
      let within' : i < length places = omega arith in
      let r = get_some reads i within in
      let m = get_some places i within' in
      let is = are.each i r.0 m.0 r.1 m.1 in
      ap (λ xs. (replay_of p xs).reads) (take_one (answers_in reads) i r.0.value (answer_at reads i r.0 r.1))
      ∙ (reads_what_it_asked p.body (length p.names)).next (take i (answers_in reads)) r.0.key r.0.value is.at.asks
      ∙ ap (λ es. es ++ read_entry r.0 ∷ []) (reads_before i before)
      ∙ sym (map-append read_entry (take i reads) (r.0 ∷ []))
      ∙ ap read_entries (sym (take_one reads i r.0 r.1))

  -- and on all of them all reads
  pub all_reads : (replay_of p (answers_in reads)).reads ≡ read_entries reads
  all_reads =
      let n = length reads in
      let whole : take n (answers_in reads) ≡ answers_in reads =
      ap (λ k. take k (answers_in reads)) (sym (length-map reads (λ (x : LogRead). x.value))) ∙ take-length (answers_in reads) in
      let le : n ≤ n = omega arith in
      ap (λ xs. (replay_of p xs).reads) (sym whole) ∙ reads_before n le ∙ ap read_entries (take-length reads)

  -- the last own write of a key, else its answer, is what the replay knows
  pub knows_before : (i : ℕ) → i ≤ length reads → (writes : List Write) → write_entries writes ≡ (replay_of p (take i (answers_in reads))).writes →
      (known : List Entry) → ((k : Key) → found known k ≡ found (reverse (write_entries writes) ++ read_entries (take i reads)) k) →
      KnowsAs known (replay_of p (take i (answers_in reads))).known
  knows_before i h writes same known shows = record {
    same = λ k.
        shows k
        ∙ found-append (reverse (write_entries writes)) (read_entries (take i reads)) k
        ∙ ap (λ ws. option_or (found (reverse ws) k) (found (read_entries (take i reads)) k)) same
        ∙ ap (λ rs. option_or (found (reverse (replay_of p (take i (answers_in reads))).writes) k) (found rs k)) (sym (reads_before i h))
        ∙ sym (knows_its_own p.body (length p.names) (take i (answers_in reads)) k);
  }
