-- What a program does, one action after another.
use Rattle.std.specs.Prelude.{ℕ, zero, suc, List, Bool, true, false, Ok, Err, ℤ, pos, replicate, slice_set}
use Rattle.morty_base.specs.declared.names.Key.{Key}
use Rattle.morty_base.specs.declared.names.Ending.{Ending}
use Rattle.morty_base.specs.declared.names.Ending.TheVariants as ending
use Rattle.txn_lang.specs.declared.evaluation.EvalFault.{EvalFault}
use Rattle.txn_lang.specs.declared.evaluation.EvalFault.TheVariants.{Overflow, ZeroDivisor}
use Rattle.txn_lang.specs.Tree.{Command, Let, Read, Write, Print, If, Repeat, Abort, Commands, End, Then}
use Rattle.txn_lang.specs.Value.{Value, is_true, value}
use Rattle.txn_lang.specs.Keys.{Entry, entry}

-- the actions of a run: a statement is begun, a key is read, a write is made, a line is printed, the run ends;
-- what follows a read depends on the value that it gives
pub data Actions : Type 0 where
  Begins : (next : Actions) → Actions
  Reads : (key : Key) (next : ℤ → Actions) → Actions
  Writes : (write : Entry) (next : Actions) → Actions
  Prints : (line : ℤ) (next : Actions) → Actions
  Ends : (how : Ending) → Actions

-- what is done from the locals on
abbrev pub Next : Type 0
Next = List ℤ → Actions

abbrev pub ending_of : EvalFault → Ending
ending_of Overflow = ending.Overflow
ending_of ZeroDivisor = ending.ZeroDivisor

-- goes on with a value; a fault ends the run
abbrev pub with_value : Value → (ℤ → Actions) → Actions
with_value (Ok x) next = next x
with_value (Err fault) next = Ends (ending_of fault)

abbrev pub key_at : ℕ → ℤ → Key
key_at table index = record { table = table; index = index }

abbrev pub choice : Bool → Next → Next → Next
choice true a b = a
choice false a b = b

-- so many times one after another
abbrev pub repeated : ℕ → (Next → Next) → Next → Next
repeated zero body next = next
repeated (suc n) body next = body (repeated n body next)

-- a statement, and then what follows; `write` evaluates its index first
abbrev mutual
  pub actions : Command → Next → Next
  actions (Let v e) next locals = Begins (with_value (value e locals) (λ x. next (slice_set locals v x)))
  actions (Read v table i) next locals =
      Begins (with_value (value i locals) (λ at. Reads (key_at table at) (λ x. next (slice_set locals v x))))
  actions (Write table i e) next locals =
      Begins (with_value (value i locals) (λ at. with_value (value e locals) (λ x. Writes (entry (key_at table at) x) (next locals))))
  actions (Print e) next locals = Begins (with_value (value e locals) (λ x. Prints x (next locals)))
  actions (If e a b) next locals =
      Begins (with_value (value e locals) (λ x. choice (is_true x) (all_actions a next) (all_actions b next) locals))
  actions (Repeat n body) next locals = Begins (repeated n (all_actions body) next locals)
  actions Abort next locals = Begins (Ends ending.Abort)

  pub all_actions : Commands → Next → Next
  all_actions End next locals = next locals
  all_actions (Then c rest) next locals = actions c (all_actions rest next) locals

-- a program with n locals, which start at 0; past its last statement it is done
abbrev pub program_actions : Commands → ℕ → Actions
program_actions body n = all_actions body (λ locals. Ends ending.Done) (replicate n (pos 0))
