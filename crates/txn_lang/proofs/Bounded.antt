-- No run passes the counts of its program.
use Rattle.std.proofs.Common.{◌≡◌, ℕ, zero, suc, ◌+◌, ◌*◌, ◌≤◌, max, List, [], ◌∷◌, length, Option, Some, None, Ok, Err, Bool, true, false, refl, subst, ℤ, arith}
use Rattle.std.specs.Prelude.{slice_set, replicate, pos}
use Rattle.morty_base.specs.declared.names.Key.{Key}
use Rattle.morty_base.specs.declared.names.Ending.{Ending}
use Rattle.morty_base.specs.declared.names.Ending.TheVariants as ending
use Rattle.txn_lang.specs.declared.limits.Kind.TheVariants as kind
use Rattle.txn_lang.specs.Tree.{Term, Command, Let, Read, Write, Print, If, Repeat, Abort, Commands, End, Then, commands}
use Rattle.txn_lang.specs.Value.{Value, value, is_true}
use Rattle.txn_lang.specs.Keys.{Entry, entry, found}
use Rattle.txn_lang.specs.Actions.{Actions, Begins, Reads, Writes, Prints, Ends, Next, ending_of, with_value, choice, repeated, key_at, actions, all_actions, program_actions}
use Rattle.txn_lang.specs.Runs.{Run, asking, ended, after_read, after_write, after_line, after_begin, read_by, next_answer}
use Rattle.txn_lang.specs.Limits.{steps_in, steps, most_in, most, IsWithin}
use Rattle.txn_lang.specs.Runs.{serial_run}
use Rattle.txn_lang.specs.declared.tree.Block.{Block}
use Rattle.txn_lang.specs.Laws.{values_of, IsLimited, KeepsLimits}
use Rattle.txn_lang.proofs.Induction.{replayed}
use Rattle.txn_lang.proofs.SerialRuns.{replays_serial}

-- what a measure of runs grows by at each action
record Grows (m : Run → ℕ) (begin read write line : ℕ) : Type 0 where
  ends : (how : Ending) (known : List Entry) → m (ended how known) ≡ 0
  asks : (k : Key) (known : List Entry) → m (asking k known) ≡ 0
  begins : (r : Run) → m (after_begin r) ≡ begin + m r
  reads : (e : Entry) (r : Run) → m (after_read e r) ≡ read + m r
  writes : (w : Entry) (r : Run) → m (after_write w r) ≡ write + m r
  prints : (x : ℤ) (r : Run) → m (after_line x r) ≡ line + m r

-- a count of statements that is at least what they make the measure grow by
record Counts (begin read write line : ℕ) (count_in : Command → ℕ) (count : Commands → ℕ) : Type 0 where
  then : (c : Command) (rest : Commands) → count (Then c rest) ≡ count_in c + count rest
  lets : (v : ℕ) (e : Term) → begin ≤ count_in (Let v e)
  reads : (v table : ℕ) (i : Term) → begin + read ≤ count_in (Read v table i)
  writes : (table : ℕ) (i e : Term) → begin + write ≤ count_in (Write table i e)
  prints : (e : Term) → begin + line ≤ count_in (Print e)
  first : (e : Term) (a b : Commands) → begin + count a ≤ count_in (If e a b)
  second : (e : Term) (a b : Commands) → begin + count b ≤ count_in (If e a b)
  repeats : (n : ℕ) (body : Commands) → begin + n * count body ≤ count_in (Repeat n body)
  aborts : begin ≤ count_in Abort

module _ (m : Run → ℕ) (begin read write line : ℕ) (grows : Grows m begin read write line) where
  -- the measure of each replay of these actions is at most n
  record Below (n : ℕ) (a : Actions) : Type 0 where
    below : (known : List Entry) (answers : List ℤ) → m (replayed a known answers) ≤ n

  abbrev BelowFrom : ℕ → Next → Type 0
  BelowFrom n next = (locals : List ℤ) → Below n (next locals)

  ended_below : (n : ℕ) (how : Ending) → Below n (Ends how)
  ended_below n how = record { below = λ known answers. omega (arith, grows.ends how known) }

  begun_below : (n k : ℕ) (a : Actions) → begin + n ≤ k → Below n a → Below k (Begins a)
  begun_below n k a le h = record { below = λ known answers. omega (arith, grows.begins (replayed a known answers), h.below known answers) }

  written_below : (n k : ℕ) (w : Entry) (a : Actions) → write + n ≤ k → Below n a → Below k (Writes w a)
  written_below n k w a le h = record { below = λ known answers. omega (arith, grows.writes w (replayed a (w ∷ known) answers), h.below (w ∷ known) answers) }

  printed_below : (n k : ℕ) (x : ℤ) (a : Actions) → line + n ≤ k → Below n a → Below k (Prints x a)
  printed_below n k x a le h = record { below = λ known answers. omega (arith, grows.prints x (replayed a known answers), h.below known answers) }

  read_within : (n k : ℕ) (key : Key) (next : ℤ → Actions) → read + n ≤ k → ((x : ℤ) → Below n (next x)) → (shown : Option ℤ) (known : List Entry) (answers : List ℤ) → m (read_by shown (next_answer answers key) key known answers (λ x known s. replayed (next x) known s)) ≤ k
  read_within n k key next le h (Some x) known answers = omega (arith, (h x).below known answers)
  read_within n k key next le h None known [] = omega (arith, grows.asks key known)
  read_within n k key next le h None known (x ∷ xs) =
      omega (arith, grows.reads (entry key x) (replayed (next x) (entry key x ∷ known) xs), (h x).below (entry key x ∷ known) xs)

  read_below : (n k : ℕ) (key : Key) (next : ℤ → Actions) → read + n ≤ k → ((x : ℤ) → Below n (next x)) → Below k (Reads key next)
  read_below n k key next le h = record { below = λ known answers. read_within n k key next le h (found known key) known answers }

  value_below : (n : ℕ) (v : Value) (next : ℤ → Actions) → ((x : ℤ) → Below n (next x)) → Below n (with_value v next)
  value_below n (Ok x) next h = h x
  value_below n (Err fault) next h = ended_below n (ending_of fault)

  more : (n k : ℕ) (a : Actions) → n ≤ k → Below n a → Below k a
  more n k a le h = record { below = λ known answers. omega (arith, h.below known answers) }

  choice_below : (n : ℕ) (b : Bool) (f g : Next) (locals : List ℤ) → Below n (f locals) → Below n (g locals) → Below n (choice b f g locals)
  choice_below n true f g locals hf hg = hf
  choice_below n false f g locals hf hg = hg

  repeated_below : (times c : ℕ) (body : Next → Next) → ((n : ℕ) (next : Next) → BelowFrom n next → BelowFrom (c + n) (body next)) → (n : ℕ) (next : Next) → BelowFrom n next → BelowFrom (times * c + n) (repeated times body next)
  repeated_below zero c body step n next h locals = more n (0 * c + n) (next locals) (omega arith) (h locals)
  repeated_below (suc times) c body step n next h locals =
      more (c + (times * c + n)) (suc times * c + n) (body (repeated times body next) locals) (omega arith)
      (step (times * c + n) (repeated times body next) (repeated_below times c body step n next h) locals)

  module _ (count_in : Command → ℕ) (count : Commands → ℕ) (counts : Counts begin read write line count_in count) where
    mutual
      command_below : (c : Command) (n : ℕ) (next : Next) → BelowFrom n next → BelowFrom (count_in c + n) (actions c next)
      command_below (Let v e) n next h locals =
          begun_below n _ _ (omega (arith, counts.lets v e)) (value_below n (value e locals) _ (λ x. h (slice_set locals v x)))
      command_below (Read v table i) n next h locals =
          begun_below (read + n) _ _ (omega (arith, counts.reads v table i)) (value_below (read + n) (value i locals) _
          (λ at. read_below n (read + n) (key_at table at) _ (omega arith) (λ x. h (slice_set locals v x))))
      command_below (Write table i e) n next h locals =
          begun_below (write + n) _ _ (omega (arith, counts.writes table i e)) (value_below (write + n) (value i locals) _
          (λ at. value_below (write + n) (value e locals) _ (λ x. written_below n (write + n) (entry (key_at table at) x) _ (omega arith) (h locals))))
      command_below (Print e) n next h locals =
          begun_below (line + n) _ _ (omega (arith, counts.prints e)) (value_below (line + n) (value e locals) _ (λ x. printed_below n (line + n) x _ (omega arith) (h locals)))
      command_below (If e a b) n next h locals =
          let k = max (count a) (count b) + n in
          begun_below k _ _ (omega (arith, counts.first e a b, counts.second e a b)) (value_below k (value e locals) _
          (λ x. choice_below k (is_true x) _ _ locals
          (more (count a + n) k _ (omega arith) (all_below a n next h locals))
          (more (count b + n) k _ (omega arith) (all_below b n next h locals))))
      command_below (Repeat times body) n next h locals =
          begun_below (times * count body + n) _ _ (omega (arith, counts.repeats times body))
          (repeated_below times (count body) (all_actions body) (λ n next h. all_below body n next h) n next h locals)
      command_below Abort n next h locals = begun_below n _ _ (omega (arith, counts.aborts)) (ended_below n _)

      all_below : (cs : Commands) (n : ℕ) (next : Next) → BelowFrom n next → BelowFrom (count cs + n) (all_actions cs next)
      all_below End n next h locals = more n (count End + n) _ (omega arith) (h locals)
      all_below (Then c rest) n next h locals =
          more (count_in c + (count rest + n)) (count (Then c rest) + n) _ (omega (arith, counts.then c rest))
          (command_below c (count rest + n) (all_actions rest next) (all_below rest n next h) locals)

    program_below : (body : Commands) (n : ℕ) (answers : List ℤ) → m (replayed (program_actions body n) [] answers) ≤ count body
    program_below body n answers =
        let all = all_below body 0 (λ locals. Ends ending.Done) (λ locals. ended_below 0 ending.Done) (replicate n (pos 0)) in
        omega (arith, all.below [] answers)

begun_within : (body : Commands) (n : ℕ) (answers : List ℤ) → (replayed (program_actions body n) [] answers).begun ≤ steps body
begun_within = program_below (λ r. r.begun) 1 0 0 0
    (record { ends = λ how known. refl; asks = λ k known. refl; begins = λ r. refl; reads = λ e r. omega arith; writes = λ w r. omega arith; prints = λ x r. omega arith })
    steps_in steps
    (record { then = λ c rest. refl; lets = λ v e. omega arith; reads = λ v table i. omega arith; writes = λ table i e. omega arith; prints = λ e. omega arith; first = λ e a b. omega arith; second = λ e a b. omega arith; repeats = λ n body. omega arith; aborts = omega arith })

reads_within : (body : Commands) (n : ℕ) (answers : List ℤ) → length (replayed (program_actions body n) [] answers).reads ≤ most kind.Read body
reads_within = program_below (λ r. length r.reads) 0 1 0 0
    (record { ends = λ how known. refl; asks = λ k known. refl; begins = λ r. omega arith; reads = λ e r. omega arith; writes = λ w r. omega arith; prints = λ x r. omega arith })
    (most_in kind.Read) (most kind.Read)
    (record { then = λ c rest. refl; lets = λ v e. omega arith; reads = λ v table i. omega arith; writes = λ table i e. omega arith; prints = λ e. omega arith; first = λ e a b. omega arith; second = λ e a b. omega arith; repeats = λ n body. omega arith; aborts = omega arith })

writes_within : (body : Commands) (n : ℕ) (answers : List ℤ) → length (replayed (program_actions body n) [] answers).writes ≤ most kind.Write body
writes_within = program_below (λ r. length r.writes) 0 0 1 0
    (record { ends = λ how known. refl; asks = λ k known. refl; begins = λ r. omega arith; reads = λ e r. omega arith; writes = λ w r. omega arith; prints = λ x r. omega arith })
    (most_in kind.Write) (most kind.Write)
    (record { then = λ c rest. refl; lets = λ v e. omega arith; reads = λ v table i. omega arith; writes = λ table i e. omega arith; prints = λ e. omega arith; first = λ e a b. omega arith; second = λ e a b. omega arith; repeats = λ n body. omega arith; aborts = omega arith })

prints_within : (body : Commands) (n : ℕ) (answers : List ℤ) → length (replayed (program_actions body n) [] answers).out ≤ most kind.Print body
prints_within = program_below (λ r. length r.out) 0 0 0 1
    (record { ends = λ how known. refl; asks = λ k known. refl; begins = λ r. omega arith; reads = λ e r. omega arith; writes = λ w r. omega arith; prints = λ x r. omega arith })
    (most_in kind.Print) (most kind.Print)
    (record { then = λ c rest. refl; lets = λ v e. omega arith; reads = λ v table i. omega arith; writes = λ table i e. omega arith; prints = λ e. omega arith; first = λ e a b. omega arith; second = λ e a b. omega arith; repeats = λ n body. omega arith; aborts = omega arith })

is_limited : (body : Block) (n : ℕ) → IsWithin n (commands body) → (answers : List ℤ) → IsLimited (replayed (program_actions (commands body) n) [] answers)
is_limited body n within answers = record {
  begun = omega (arith, begun_within (commands body) n answers, within.steps_within);
  reads = omega (arith, reads_within (commands body) n answers, within.reads_within);
  writes = omega (arith, writes_within (commands body) n answers, within.writes_within);
  out = omega (arith, prints_within (commands body) n answers, within.prints_within);
}

pub keeps_limits : (body : Block) (n : ℕ) → KeepsLimits body n
keeps_limits body n within = record {
  replays = λ answers. is_limited body n within answers;
  serials = λ m. subst IsLimited ((replays_serial body n).replayed m) (is_limited body n within (values_of (serial_run body n m).reads));
}
