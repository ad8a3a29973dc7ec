-- The answers go with the reads: by place, at the end, cut, and relabelled.
use Rattle.std.proofs.Common.{◌≡◌, ℕ, zero, suc, ◌<◌, Bool, true, false, cond, List, [], ◌∷◌, ◌++◌, length, take, get_or, set, Option, Some, None, refl, ap, sym, ◌∙◌, arith, ℤ, ◌+◌}
use Rattle.std.specs.Prelude.{◌&&◌, slice_get, slice_set, option_map, IsSome, IfSome}
use Rattle.std.specs.List.{list_all, list_any}
use Rattle.protocol.specs.Words.{Wid, Key, same_key}
use Rattle.protocol.specs.declared.Held.{Held}
use Rattle.protocol.specs.Client.State.{Answer, values}
use Rattle.protocol.specs.Client.Following.{place_of, no_answer}
use Rattle.protocol.specs.Client.Deciding.{is_change}
use Rattle.exec_log.specs.declared.read.LogRead.{LogRead}
use Rattle.exec_log.specs.Log.{answers_in, asked_by, labelled_read, labelled, answered_at}
use Rattle.coordinator.specs.Answers.{held_of, next_at, answer_with, answers_with, are_sure, keys_in}
use Rattle.coordinator.specs.Execution.{answers_of}
use Rattle.coordinator.specs.declared.execution.Execution.{Execution}

pub values_with : (reads : List LogRead) (nexts : List (Option Held)) → values (answers_with reads nexts) ≡ answers_in reads
values_with [] nexts = refl
values_with (r ∷ reads) [] = ap (λ vs. r.value ∷ vs) (values_with reads [])
values_with (r ∷ reads) (h ∷ nexts) = ap (λ vs. r.value ∷ vs) (values_with reads nexts)

pub length_with : (reads : List LogRead) (nexts : List (Option Held)) → length (answers_with reads nexts) ≡ length reads
length_with [] nexts = refl
length_with (r ∷ reads) [] = ap suc (length_with reads [])
length_with (r ∷ reads) (h ∷ nexts) = ap suc (length_with reads nexts)

pub sure_with : (reads : List LogRead) (nexts : List (Option Held)) → list_all (λ (a : Answer). a.label.sure) (answers_with reads nexts) ≡ are_sure reads
sure_with [] nexts = refl
sure_with (r ∷ reads) [] = ap (λ b. r.sure && b) (sure_with reads [])
sure_with (r ∷ reads) (h ∷ nexts) = ap (λ b. r.sure && b) (sure_with reads nexts)

-- the answer at the place of a read
pub answer_there : (reads : List LogRead) (nexts : List (Option Held)) (i : ℕ) (r : LogRead) → slice_get reads i ≡ Some r →
    get_or (answers_with reads nexts) i no_answer ≡ answer_with r (next_at nexts i)
answer_there [] nexts i r e = absurd (cc)
answer_there (x ∷ reads) [] zero r e = let same : x ≡ r = cc in ap (λ y. answer_with y None) same
answer_there (x ∷ reads) [] (suc i) r e = answer_there reads [] i r e
answer_there (x ∷ reads) (h ∷ nexts) zero r e = let same : x ≡ r = cc in ap (λ y. answer_with y h) same
answer_there (x ∷ reads) (h ∷ nexts) (suc i) r e = answer_there reads nexts i r e

-- a read that is replaced
pub set_with : (reads : List LogRead) (nexts : List (Option Held)) (i : ℕ) (r : LogRead) →
    answers_with (slice_set reads i r) nexts ≡ set (answers_with reads nexts) i (answer_with r (next_at nexts i))
set_with [] nexts i r = refl
set_with (x ∷ reads) [] zero r = refl
set_with (x ∷ reads) [] (suc i) r = ap (λ l. answer_with x None ∷ l) (set_with reads [] i r)
set_with (x ∷ reads) (h ∷ nexts) zero r = refl
set_with (x ∷ reads) (h ∷ nexts) (suc i) r = ap (λ l. answer_with x h ∷ l) (set_with reads nexts i r)

-- one more read
pub push_with : (reads : List LogRead) (r : LogRead) → answers_with (reads ++ r ∷ []) [] ≡ answers_with reads [] ++ answer_with r None ∷ []
push_with [] r = refl
push_with (x ∷ reads) r = ap (λ l. answer_with x None ∷ l) (push_with reads r)

-- the first reads
pub take_with : (reads : List LogRead) (i : ℕ) → answers_with (take i reads) [] ≡ take i (answers_with reads [])
take_with reads zero = refl
take_with [] (suc i) = refl
take_with (x ∷ reads) (suc i) = ap (λ l. answer_with x None ∷ l) (take_with reads i)

-- within a list there is an element
pub read_there : (reads : List LogRead) (i : ℕ) → i < length reads → (r : LogRead) × (slice_get reads i ≡ Some r)
read_there [] i h = absurd (omega arith)
read_there (r ∷ reads) zero h = (r, refl)
read_there (r ∷ reads) (suc i) h = let within : i < length reads = omega arith in read_there reads i within

-- a label that is replaced
pub labelled_with : (reads : List LogRead) (nexts : List (Option Held)) (i : ℕ) (wid : Wid) (sure : Bool) → i < length reads →
    answers_with (labelled reads i wid sure) nexts ≡ set (answers_with reads nexts) i (record (get_or (answers_with reads nexts) i no_answer) {
      label = record { wid = wid; value = (get_or (answers_with reads nexts) i no_answer).label.value; sure = sure };
    })
labelled_with reads nexts i wid sure h =
    let r = read_there reads i h in
    rw r.1 (set_with reads nexts i (labelled_read r.0.key wid r.0.value sure)
    ∙ ap (λ (a : Answer). set (answers_with reads nexts) i (record a { label = record { wid = wid; value = a.label.value; sure = sure } }))
    (sym (answer_there reads nexts i r.0 r.1)))

-- an answer that is replaced, and the answers before it
pub answered_with : (reads : List LogRead) (i : ℕ) (wid : Wid) (value : ℤ) (sure : Bool) → i < length reads →
    answers_with (answered_at reads i wid value sure) [] ≡ take i (answers_with reads []) ++ record { label = record { wid = wid; value = value; sure = sure }; next = None } ∷ []
answered_with reads i wid value sure h =
    let r = read_there reads i h in
    let new : LogRead = labelled_read r.0.key wid value sure in
    rw r.1 (push_with (take i reads) new ∙ ap (λ l. l ++ answer_with new None ∷ []) (take_with reads i))

-- the place of a key, from a place on
pub place_more : (k : Key) (i : ℕ) (ls : List Key) → place_of k (suc i) ls ≡ option_map suc (place_of k i ls)
place_more k i [] = refl
place_more k i (l ∷ ls) = go (same_key k l) (place_more k (suc i) ls)
  where
    go : (t : Bool) → place_of k (suc (suc i)) ls ≡ option_map suc (place_of k (suc i) ls) →
        cond t (Some (suc i)) (place_of k (suc (suc i)) ls) ≡ option_map suc (cond t (Some i) (place_of k (suc i) ls))
    go true ih = refl
    go false ih = ih

-- without next labels nothing changes
pub no_change : (reads : List LogRead) → list_any is_change (answers_with reads []) ≡ false
no_change [] = refl
no_change (r ∷ reads) = no_change reads

one_more : (o : Option ℕ) → option_map suc o ≡ option_map (λ i. 1 + i) o
one_more None = refl
one_more (Some i) = let e : suc i ≡ 1 + i = omega arith in ap (λ n. Some n) e

-- past a read of another key
pub place_passed : (k : Key) (reads : List LogRead) (r : LogRead) (others : List LogRead) (o : Option ℕ) → reads ≡ r ∷ others → same_key k r.key ≡ false →
    place_of k 0 (keys_in others) ≡ o → place_of k 0 (keys_in reads) ≡ option_map (λ i. 1 + i) o
place_passed k reads r others o is other there =
    ap (λ rs. place_of k 0 (keys_in rs)) is
    ∙ ap (λ t. cond t (Some 0) (place_of k 1 (keys_in others))) other
    ∙ place_more k 0 (keys_in others)
    ∙ ap (option_map suc) there
    ∙ one_more o

-- an empty list
pub none_left : {A : Type 0} (xs : List A) → length xs ≡ 0 → xs ≡ []
none_left [] e = refl
none_left (x ∷ xs) e = absurd (omega (arith, e))

-- the next label at the place of a read
pub next_there : (e : Execution) (i : ℕ) → i < length e.log.reads → (get_or (answers_of e) i no_answer).next ≡ next_at e.nexts i
next_there e i h = let r = read_there e.log.reads i h in ap (λ (a : Answer). a.next) (answer_there e.log.reads e.nexts i r.0 r.1)

-- the question is answered, with the label's value as a call was passed it
pub asked_with : (e : Execution) (reads : List LogRead) (label : Held) (value : ℤ) → value ≡ label.value → IsSome (asked_by e.log.next) →
    IfSome (asked_by e.log.next) (λ k. reads ≡ e.log.reads ++ labelled_read k label.wid value label.sure ∷ []) → e.nexts ≡ [] →
    answers_with reads e.nexts ≡ answers_of e ++ record { label = label; next = None } ∷ []
asked_with e reads label value same = go (asked_by e.log.next)
  where
    go : (o : Option Key) → IsSome o → IfSome o (λ k. reads ≡ e.log.reads ++ labelled_read k label.wid value label.sure ∷ []) → e.nexts ≡ [] →
        answers_with reads e.nexts ≡ answers_of e ++ record { label = label; next = None } ∷ []
    go None some is none = absurd (cc (some))
    go (Some k) some is none = rw (none, is, same) (push_with e.log.reads (labelled_read k label.wid label.value label.sure))

-- a read is answered anew
pub rewound_with : (e : Execution) (reads : List LogRead) (i : ℕ) (label : Held) (value : ℤ) → value ≡ label.value → i < length e.log.reads →
    reads ≡ answered_at e.log.reads i label.wid value label.sure → e.nexts ≡ [] →
    answers_with reads e.nexts ≡ take i (answers_of e) ++ record { label = label; next = None } ∷ []
rewound_with e reads i label value same h is none =
    let to : reads ≡ answered_at e.log.reads i label.wid label.value label.sure = is ∙ ap (λ v. answered_at e.log.reads i label.wid v label.sure) same in
    rw (none, to) (answered_with e.log.reads i label.wid label.value label.sure h)

-- one more place without a next label
pub padded_with : (reads : List LogRead) (nexts : List (Option Held)) → answers_with reads (nexts ++ None ∷ []) ≡ answers_with reads nexts
padded_with [] nexts = refl
padded_with (r ∷ reads) [] = refl
padded_with (r ∷ reads) (h ∷ nexts) = ap (λ l. answer_with r h ∷ l) (padded_with reads nexts)

-- a next label that is put at its place
pub next_set : (reads : List LogRead) (nexts : List (Option Held)) (i : ℕ) (label : Held) → i < length reads → i < length nexts →
    answers_with reads (slice_set nexts i (Some label)) ≡ set (answers_with reads nexts) i (record (get_or (answers_with reads nexts) i no_answer) { next = Some label })
next_set [] nexts i label h k = absurd (omega arith)
next_set (r ∷ reads) [] i label h k = absurd (omega arith)
next_set (r ∷ reads) (x ∷ nexts) zero label h k = refl
next_set (r ∷ reads) (x ∷ nexts) (suc i) label h k =
    let within : i < length reads = omega arith in
    let listed : i < length nexts = omega arith in
    ap (λ l. answer_with r x ∷ l) (next_set reads nexts i label within listed)
