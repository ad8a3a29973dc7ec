-- A log that is cut at a read, or goes on at its end, with one more answer stands for its program on that answer.
use Rattle.std.proofs.Common.{◌≡◌, ℕ, suc, ◌+◌, ◌<◌, ◌≤◌, List, [], ◌∷◌, ◌++◌, length, take, drop, map, reverse, Bool, Option, Some, None, refl, ap, sym, subst, ◌∙◌, inr, ⊎_elim, ℤ, arith, length-append}
use Rattle.std.specs.Prelude.{slice_get, slice_index_or}
use Rattle.std.proofs.Math.Seq.{take-append_seam, take-length, get_or-append_seam}
use Rattle.std.proofs.lemmas.List.{map-append, length-map, take-map, take-append-le, take-append-drop, length-take-le}
use Rattle.std.proofs.lemmas.Option.{slice_get_within, slice_get_read}
use Rattle.morty_base.specs.declared.names.Wid.{Wid}
use Rattle.msg.specs.declared.Write.{Write}
use Rattle.morty_base.specs.declared.names.Key.{Key}
use Rattle.txn_lang.specs.Keys.{Entry, found}
use Rattle.txn_lang.specs.Program.{Program, replay_of}
use Rattle.txn_lang.proofs.Growing.{grows}
use Rattle.flat_code.specs.Operation.{Flat}
use Rattle.continuation.specs.declared.segment.Next.{Next}
use Rattle.continuation.specs.declared.segment.Next.TheVariants as next
use Rattle.continuation.specs.declared.segment.Cont.{Cont}
use Rattle.continuation.specs.Place as place
use Rattle.continuation.specs.Place.{StandsAt, KnowsAs}
use Rattle.exec_log.specs.declared.read.LogRead.{LogRead}
use Rattle.exec_log.specs.declared.read.Place.{Place}
use Rattle.exec_log.specs.Entries.{write_entry, write_entries, read_entries}
use Rattle.exec_log.specs.Log.{Log, answers_in, answers_of, labelled_read, cut_at, answered_at}
use Rattle.exec_log.specs.Standing.{IsReadOf, AreReadsOf, HasDone, IsResumed, StopsBy, StandsFor, question}
use Rattle.exec_log.proofs.AskedReads.{knows_before}
use Rattle.exec_log.proofs.OneMore.{answers_now, one_more}
use Rattle.exec_log.proofs.Fronts.{get_take, take_one}

-- what was done before a read is a front of what was done, and was counted
front_of : {A B : Type 0} (f : A → B) (all : List A) (whole front rest : List B) (n : ℕ) → map f all ≡ whole → whole ≡ front ++ rest → n ≡ length front →
    map f (take n all) ≡ front
front_of f all whole front rest n is split count =
    ap (λ k. map f (take k all)) count
    ∙ sym (take-map f (length front) all)
    ∙ ap (take (length front)) (is ∙ split)
    ∙ take-append_seam front rest

out_front : (all whole front rest : List ℤ) (n : ℕ) → all ≡ whole → whole ≡ front ++ rest → n ≡ length front → take n all ≡ front
out_front all whole front rest n is split count = ap (λ k. take k all) count ∙ ap (take (length front)) (is ∙ split) ∙ take-append_seam front rest

-- the answers on which the segments taken ran, which begin with those before a read
pub record DoneAt (p : Program) (l : Log) (i : ℕ) : Type 0 where
  pub answers : List ℤ
  pub done : HasDone p answers l
  pub same : take i answers ≡ take i (answers_of l)

stops_done : (code : Flat) (p : Program) (l : Log) (i : ℕ) (next : Option Next) → i < length (answers_of l) → StopsBy code p l next → DoneAt p l i
stops_done code p l i (Some n) h s = record { answers = answers_of l; done = s.0; same = refl }
stops_done code p l i None h s =
    ⊎_elim
    (λ u. absurd (let none : length (answers_of l) ≡ 0 = ap (λ rs. length (answers_in rs)) u.reads in omega arith))
    (λ (r : IsResumed p l).
    let n : length (answers_of l) ≡ length r.front + 1 = ap length r.answers ∙ length-append r.front (r.value ∷ []) in
    let le : i ≤ length r.front = omega arith in
    record {
      answers = r.front;
      done = r.done;
      same = sym (ap (take i) r.answers ∙ take-append-le i r.front (r.value ∷ []) le);
    })
    s

-- a log cut at a read, with another answer to it
pub record IsCut (l l' : Log) (i : ℕ) (r : LogRead) (m : Place) : Type 0 where
  pub reads : l'.reads ≡ take i l.reads ++ r ∷ []
  pub places : l'.places ≡ take i l.places ++ m ∷ []
  pub writes : l'.writes ≡ take m.wrote l.writes
  pub out : l'.out ≡ take m.printed l.out
  pub next : l'.next ≡ None

-- what is done before a read stays done
done_before : (p : Program) (l l' : Log) (i : ℕ) (m : Place) (answers front : List ℤ) → HasDone p answers l → front ≡ take i answers →
    m.wrote ≡ length (replay_of p front).writes → m.printed ≡ length (replay_of p front).out →
    l'.writes ≡ take m.wrote l.writes → l'.out ≡ take m.printed l.out → HasDone p front l'
done_before p l l' i m answers front d is wrote printed writes out =
    let further = drop i answers in
    let whole : answers ≡ front ++ further = sym (take-append-drop i answers) ∙ ap (λ xs. xs ++ further) (sym is) in
    let longer = grows p.body (length p.names) front further in
    let split = ap (λ xs. (replay_of p xs).writes) whole ∙ longer.writes.1 in
    let split' = ap (λ xs. (replay_of p xs).out) whole ∙ longer.out.1 in
    record {
      writes = ap write_entries writes
          ∙ front_of write_entry l.writes (replay_of p answers).writes (replay_of p front).writes longer.writes.0 m.wrote d.writes split wrote;
      out = out ∙ out_front l.out (replay_of p answers).out (replay_of p front).out longer.out.0 m.printed d.out split' printed;
    }

none_next : (code : Flat) (p : Program) (l : Log) (next : Option Next) → next ≡ None → IsResumed p l → StopsBy code p l next
none_next code p l next e r = subst (StopsBy code p l) (sym e) (inr r)

-- the cut log stands for the first answers and the new one, with nothing done after that read
pub stands_cut : (code : Flat) (p : Program) (l l' : Log) (i : ℕ) (r : LogRead) (m : Place) → StandsFor code p l → i ≤ length l.reads → DoneAt p l i →
    IsReadOf code p (take i (answers_of l)) r m → IsCut l l' i r m → StandsFor code p l'
stands_cut code p l l' i r m s le d is c =
    let are = one_more code p l.reads l.places s.reads i r m le is in
    record {
      reads = subst (λ rs. AreReadsOf code p rs l'.places) (sym c.reads) (subst (AreReadsOf code p (take i l.reads ++ r ∷ [])) (sym c.places) are);
      stops = none_next code p l' l'.next c.next (record {
        front = take i (answers_of l);
        value = r.value;
        answers = ap answers_in c.reads ∙ answers_now code p l.reads l.places s.reads i r m le is;
        done = done_before p l l' i m d.answers (take i (answers_of l)) d.done (sym d.same) is.wrote is.printed c.writes c.out;
      });
    }

-- at a read of a log
pub stands_rewound : (code : Flat) (p : Program) (l l' : Log) (i : ℕ) (r r' : LogRead) (m : Place) → StandsFor code p l → slice_get l.reads i ≡ Some r →
    slice_get l.places i ≡ Some m → r'.key ≡ r.key → IsCut l l' i r' m → StandsFor code p l'
stands_rewound code p l l' i r r' m s hr hm same c =
    let within = slice_get_within l.reads i r hr in
    let le : i ≤ length l.reads = omega arith in
    let small : i < length (answers_of l) = omega (arith, length-map l.reads (λ (x : LogRead). x.value)) in
    let is = s.reads.each i r m hr hm in
    stands_cut code p l l' i r' m s le (stops_done code p l i l.next small s.stops)
    (record { at = subst (λ k. StandsAt code p (take i (answers_of l)) k m.cont) (sym same) is.at; wrote = is.wrote; printed = is.printed }) c

-- at its end, where a question stands
pub stands_answered : (code : Flat) (p : Program) (l l' : Log) (r : LogRead) (m : Place) → StandsFor code p l → l.next ≡ Some (next.Asks r.key m.cont) →
    m.wrote ≡ length l.writes → m.printed ≡ length l.out → l'.reads ≡ l.reads ++ r ∷ [] → l'.places ≡ l.places ++ m ∷ [] →
    l'.writes ≡ l.writes → l'.out ≡ l.out → l'.next ≡ None → StandsFor code p l'
stands_answered code p l l' r m s asks wrote printed reads places writes out none =
    let n = length l.reads in
    let even = s.reads.even in
    let le : n ≤ n = omega arith in
    let stop = subst (StopsBy code p l) asks s.stops in
    let count : length (answers_of l) ≡ n = length-map l.reads (λ (x : LogRead). x.value) in
    let whole : take n (answers_of l) ≡ answers_of l = ap (λ k. take k (answers_of l)) (sym count) ∙ take-length (answers_of l) in
    let all : take (length l.reads) l.places ≡ l.places = ap (λ k. take k l.places) (sym even) ∙ take-length l.places in
    let wrote' : m.wrote ≡ length (replay_of p (answers_of l)).writes = wrote ∙ sym (length-map l.writes write_entry) ∙ ap length stop.0.writes in
    let printed' : m.printed ≡ length (replay_of p (answers_of l)).out = printed ∙ ap length stop.0.out in
    let is : IsReadOf code p (take n (answers_of l)) r m =
    subst (λ xs. IsReadOf code p xs r m) (sym whole) (record { at = stop.1; wrote = wrote'; printed = printed' }) in
    stands_cut code p l l' n r m s le (record { answers = answers_of l; done = stop.0; same = refl }) is (record {
      reads = reads ∙ ap (λ rs. rs ++ r ∷ []) (sym (take-length l.reads));
      places = places ∙ ap (λ ms. ms ++ m ∷ []) (sym all);
      writes = writes ∙ sym (ap (λ k. take k l.writes) wrote ∙ take-length l.writes);
      out = out ∙ sym (ap (λ k. take k l.out) printed ∙ take-length l.out);
      next = none;
    })

-- a read and its place, and the log cut there with another answer
pub record Rewound (l l' : Log) (i : ℕ) (r r' : LogRead) (m : Place) : Type 0 where
  pub read : slice_get l.reads i ≡ Some r
  pub place : slice_get l.places i ≡ Some m
  pub cut : IsCut l l' i r' m

one_at : {A : Type 0} (o : Option A) (a b : A) → o ≡ Some a → o ≡ Some b → a ≡ b
one_at o a b h g = let same : Some a ≡ Some b = sym h ∙ g in cc

-- where the parts of a log were cut to a read, it was rewound
pub rewound : (v l l' : Log) (i : ℕ) (r r' : LogRead) (m m' : Place) → v ≡ l → slice_get v.reads i ≡ Some r → i < length v.places →
    l'.reads ≡ take i v.reads ++ r' ∷ [] → l'.places ≡ take (i + 1) v.places →
    m ≡ slice_index_or l'.places i m → m' ≡ slice_index_or l'.places i m' →
    l'.writes ≡ take m.wrote v.writes → l'.out ≡ take m'.printed v.out → l'.next ≡ None → Rewound l l' i r r' m
rewound v l l' i r r' m m' is read within reads places first second writes out next =
    let next_place : i + 1 ≡ suc i = omega arith in
    let n : length l'.places ≡ length (take (i + 1) v.places) = ap length places in
    let le : i + 1 ≤ length v.places = omega arith in
    let inside : i < length l'.places = omega (arith, length-take-le (i + 1) v.places le) in
    let at = slice_get_read l'.places (length l'.places) i m refl inside first in
    let at' = slice_get_read l'.places (length l'.places) i m' refl inside second in
    let one : m' ≡ m = one_at (slice_get l'.places i) m' m at' at in
    let there : slice_get v.places i ≡ Some m = (get_take v.places (i + 1) i m (ap (λ ms. slice_get ms i) (sym places) ∙ at)).1 in
    record {
      read = ap (λ (x : Log). slice_get x.reads i) (sym is) ∙ read;
      place = ap (λ (x : Log). slice_get x.places i) (sym is) ∙ there;
      cut = record {
        reads = reads ∙ ap (λ (x : Log). take i x.reads ++ r' ∷ []) is;
        places = places ∙ ap (λ k. take k v.places) next_place ∙ take_one v.places i m there ∙ ap (λ (x : Log). take i x.places ++ m ∷ []) is;
        writes = writes ∙ ap (λ (x : Log). take m.wrote x.writes) is;
        out = out ∙ ap (λ (x : Place). take x.printed v.out) one ∙ ap (λ (x : Log). take m.printed x.out) is;
        next = next;
      };
    }

-- the place at a read that was rewound, read again
pub place_again : (l l' : Log) (i : ℕ) (r r' : LogRead) (m again : Place) → Rewound l l' i r r' m → again ≡ slice_index_or l'.places i again → again ≡ m
place_again l l' i r r' m again w is =
    let within = slice_get_within l.places i m w.place in
    let le : i ≤ length l.places = omega arith in
    is
    ∙ ap (λ ms. slice_index_or ms i again) w.cut.places
    ∙ ap (λ k. slice_index_or (take i l.places ++ m ∷ []) k again) (sym (length-take-le i l.places le))
    ∙ get_or-append_seam (take i l.places) m [] again

-- the reads before a read, and that read with another answer
pub reads_cut : (v l : Log) (i : ℕ) (r : LogRead) (wid : Wid) (x value : ℤ) (sure : Bool) (reads : List LogRead) → v ≡ l → slice_get v.reads i ≡ Some r →
    x ≡ value → reads ≡ take i v.reads ++ labelled_read r.key wid x sure ∷ [] → reads ≡ answered_at l.reads i wid value sure
reads_cut v l i r wid x value sure reads is read same are =
    are
    ∙ ap (λ y. take i v.reads ++ labelled_read r.key wid y sure ∷ []) same
    ∙ ap (λ o. cut_at o v.reads i wid value sure) (sym read)
    ∙ ap (λ (y : Log). answered_at y.reads i wid value sure) is

-- the answers to reads with one more
pub answers_then : (front reads : List LogRead) (key : Key) (wid : Wid) (x value : ℤ) (sure : Bool) →
    reads ≡ front ++ labelled_read key wid x sure ∷ [] → x ≡ value → answers_in reads ≡ answers_in front ++ value ∷ []
answers_then front reads key wid x value sure is same =
    ap answers_in is
    ∙ map-append (λ (r : LogRead). r.value) front (labelled_read key wid x sure ∷ [])
    ∙ ap (λ y. answers_in front ++ y ∷ []) same

-- the place of a read that was rewound is where the job goes on
pub rewound_job : (code : Flat) (p : Program) (l l' : Log) (i : ℕ) (r r' : LogRead) (m : Place) (cont : Cont)
    (known : List Entry) (reads : List LogRead) (writes : List Write) →
    StandsFor code p l → Rewound l l' i r r' m → cont ≡ m.cont → reads ≡ take i l.reads → writes ≡ l'.writes →
    ((k : Key) → found known k ≡ found (reverse (write_entries writes) ++ read_entries reads) k) →
    place.StandsFor code (question p (take i (answers_of l)) r.key) cont known
rewound_job code p l l' i r r' m cont known reads writes s w same are were shows =
    let within = slice_get_within l.reads i r w.read in
    let le : i ≤ length l.reads = omega arith in
    let small : i < length (answers_of l) = omega (arith, length-map l.reads (λ (x : LogRead). x.value)) in
    let is = s.reads.each i r m w.read w.place in
    let d = stops_done code p l i l.next small s.stops in
    let done = done_before p l l' i m d.answers (take i (answers_of l)) d.done (sym d.same) is.wrote is.printed w.cut.writes w.cut.out in
    record {
      at = subst (StandsAt code p (take i (answers_of l)) r.key) (sym same) is.at;
      knows = knows_before code p l.reads l.places s.reads i le writes (ap write_entries were ∙ done.writes) known
          (λ k. shows k ∙ ap (λ rs. found (reverse (write_entries writes) ++ read_entries rs) k) are);
    }

-- the place of a question is where the job goes on
pub answered_job : (code : Flat) (p : Program) (l : Log) (key : Key) (at cont : Cont) (known : List Entry) (reads : List LogRead) (writes : List Write) →
    StandsFor code p l → l.next ≡ Some (next.Asks key at) → cont ≡ at → reads ≡ l.reads → writes ≡ l.writes →
    ((k : Key) → found known k ≡ found (reverse (write_entries writes) ++ read_entries reads) k) →
    place.StandsFor code (question p (answers_of l) key) cont known
answered_job code p l key at cont known reads writes s asks same are were shows =
    let n = length l.reads in
    let le : n ≤ n = omega arith in
    let stop = subst (StopsBy code p l) asks s.stops in
    let count : length (answers_of l) ≡ n = length-map l.reads (λ (x : LogRead). x.value) in
    let whole : take n (answers_of l) ≡ answers_of l = ap (λ k. take k (answers_of l)) (sym count) ∙ take-length (answers_of l) in
    record {
      at = subst (StandsAt code p (answers_of l) key) (sym same) stop.1;
      knows = subst (λ xs. KnowsAs known (replay_of p xs).known) whole
          (knows_before code p l.reads l.places s.reads n le writes
          (ap write_entries were ∙ stop.0.writes ∙ ap (λ xs. (replay_of p xs).writes) (sym whole)) known
          (λ k. shows k ∙ ap (λ rs. found (reverse (write_entries writes) ++ read_entries rs) k) (are ∙ sym (take-length l.reads))));
    }
