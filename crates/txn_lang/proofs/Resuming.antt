-- A replay that asks goes on with the answer.
use Rattle.std.proofs.Common.{◌≡◌, ℕ, List, [], ◌∷◌, ◌++◌, Option, Some, None, ap, sym, ◌∙◌, ℤ, zero-add, add_assoc}
use Rattle.morty_base.specs.declared.names.Key.{Key}
use Rattle.txn_lang.specs.Tree.{commands}
use Rattle.txn_lang.specs.Keys.{Entry, entry, found}
use Rattle.txn_lang.specs.Actions.{Actions, Begins, Reads, Writes, Prints, Ends, program_actions}
use Rattle.txn_lang.specs.Runs.{Run, asking, after_read, after_write, after_line, after_begin, read_by, next_answer}
use Rattle.txn_lang.specs.declared.tree.Block.{Block}
use Rattle.txn_lang.specs.Laws.{joined, GoesOn, GoesOnWithAnswer}
use Rattle.txn_lang.proofs.Induction.{replayed}

joined-asking : (k : Key) (known : List Entry) (s : Run) → joined (asking k known) s ≡ s
joined-asking k known s = ap (λ n. record { reads = s.reads; writes = s.writes; out = s.out; begun = n; asks = s.asks; ending = s.ending; known = s.known }) (zero-add s.begun)

joined-begin : (r s : Run) → joined (after_begin r) s ≡ after_begin (joined r s)
joined-begin r s = ap (λ n. record { reads = r.reads ++ s.reads; writes = r.writes ++ s.writes; out = r.out ++ s.out; begun = n; asks = s.asks; ending = s.ending; known = s.known }) (add_assoc 1 r.begun s.begun)

abbrev Asks : Actions → List Entry → List ℤ → Key → Type 0
Asks a known answers k = (replayed a known answers).asks ≡ Some k

-- the same of any function of answers
record Resumes (f : List ℤ → Run) (answers : List ℤ) (k : Key) : Type 0 where
  next : ℤ → Actions
  resumed : (x : ℤ) (further : List ℤ) → f (answers ++ x ∷ further) ≡ joined (f answers) (after_read (entry k x) (replayed (next x) (entry k x ∷ (f answers).known) further))

read_resumes : (shown : Option ℤ) (k : Key) (known : List Entry) (next : ℤ → Actions) (answers : List ℤ) (j : Key) → ((x : ℤ) (known : List Entry) (answers : List ℤ) → Asks (next x) known answers j → Resumes (replayed (next x) known) answers j) → (read_by shown (next_answer answers k) k known answers (λ x known s. replayed (next x) known s)).asks ≡ Some j → Resumes (λ answers. read_by shown (next_answer answers k) k known answers (λ x known s. replayed (next x) known s)) answers j
read_resumes (Some x) k known next answers j ih e = ih x known answers e
read_resumes None k known next [] j ih e =
    let same : k ≡ j = cc in
    record {
      next = next;
      resumed = λ x further.
          sym (joined-asking k known (after_read (entry k x) (replayed (next x) (entry k x ∷ known) further)))
          ∙ ap (λ i. joined (asking k known) (after_read (entry i x) (replayed (next x) (entry i x ∷ known) further))) same;
    }
read_resumes None k known next (x ∷ xs) j ih e =
    let r = ih x (entry k x ∷ known) xs e in
    record { next = r.next; resumed = λ y further. ap (after_read (entry k x)) (r.resumed y further) }

resumes : (a : Actions) (known : List Entry) (answers : List ℤ) (k : Key) → Asks a known answers k → Resumes (replayed a known) answers k
resumes (Begins next) known answers k e =
    let r = resumes next known answers k e in
    record { next = r.next; resumed = λ x further. ap after_begin (r.resumed x further) ∙ sym (joined-begin (replayed next known answers) (after_read (entry k x) (replayed (r.next x) (entry k x ∷ (replayed next known answers).known) further))) }
resumes (Reads j next) known answers k e =
    read_resumes (found known j) j known next answers k (λ x known answers. resumes (next x) known answers k) e
resumes (Writes w next) known answers k e =
    let r = resumes next (w ∷ known) answers k e in
    record { next = r.next; resumed = λ x further. ap (after_write w) (r.resumed x further) }
resumes (Prints y next) known answers k e =
    let r = resumes next known answers k e in
    record { next = r.next; resumed = λ x further. ap (after_line y) (r.resumed x further) }
resumes (Ends how) known answers k e = cc

pub goes_on : (a : Actions) (known : List Entry) (answers : List ℤ) (k : Key) → Asks a known answers k → GoesOn a known answers k
goes_on a known answers k e = let r = resumes a known answers k e in record { next = r.next; resumed = r.resumed }

pub goes_on_with_answer : (body : Block) (n : ℕ) → GoesOnWithAnswer body n
goes_on_with_answer body n answers k e = goes_on (program_actions (commands body) n) [] answers k e
