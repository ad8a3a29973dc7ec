-- What code does: the relation between a place in the code and actions.
use Rattle.std.specs.Prelude.{◌≡◌, ℕ, zero, suc, ◌<◌, ◌≤◌, [], map, length, replicate, Option, Some, None, Bool, true, false, slice_get, ℤ, pos}
use Rattle.morty_base.specs.declared.names.Key.{Key}
use Rattle.txn_lang.specs.Tree.{commands}
use Rattle.txn_lang.specs.Actions.{Actions, Begins, Reads, Writes, Prints, program_actions}
use Rattle.txn_lang.specs.Actions as action
use Rattle.txn_lang.specs.Program.{Program}
use Rattle.flat_code.specs.declared.frame.Frame.{Frame}
use Rattle.flat_code.specs.declared.frame.OpOut.{OpOut}
use Rattle.flat_code.specs.declared.frame.OpOut.TheVariants.{Went, Asks, Wrote, Printed, Ends}
use Rattle.flat_code.specs.declared.code.TheConstants.{MOST_OPERATIONS}
use Rattle.flat_code.specs.Operation.{Operation, operation, begins, Flat}
use Rattle.flat_code.specs.Step.{Step, gives, step, answered}

-- the operation at a place
abbrev pub fetched : Flat → ℕ → Option Operation
fetched code pc = slice_get (map operation code.operations) pc

-- what follows is done by D: after a question, for every answer
abbrev pub After : (Frame → Actions → Type 0) → Operation → OpOut → Frame → Actions → Type 0
After D o Went f a = D f a
After D o (Asks k) f a = (next : ℤ → Actions) × (a ≡ Reads k next) × ((x : ℤ) → D (answered o f x) (next x))
After D o (Wrote w) f a = (next : Actions) × (a ≡ Writes w next) × D f next
After D o (Printed x) f a = (next : Actions) × (a ≡ Prints x next) × D f next
After D o (Ends how) f a = a ≡ action.Ends how

abbrev pub Begun : Bool → (Actions → Type 0) → Actions → Type 0
Begun true P a = (next : Actions) × (a ≡ Begins next) × P next
Begun false P a = P a

abbrev pub DoesAt : (Frame → Actions → Type 0) → Option Operation → Frame → Actions → Type 0
DoesAt D None f a = ⊥
DoesAt D (Some o) f a = Begun (begins o) (After D o (step o f).out (step o f).at) a

-- from this place the code does these actions, within n operations of a run
abbrev pub DoesFrom : Flat → ℕ → Frame → Actions → Type 0
DoesFrom code zero f a = ⊥
DoesFrom code (suc n) f a = (length f.locals ≡ code.locals) × DoesAt (DoesFrom code n) (fetched code f.pc) f a

-- a place that a run reaches
pub record IsReached (code : Flat) (f : Frame) : Type 0 where
  pub left : ℕ
  pub rest : Actions
  pub does : DoesFrom code left f rest

abbrev pub first_frame : Flat → Frame
first_frame code = record { pc = 0; loops = []; locals = replicate code.locals (pos 0) }

-- from this place the code does these actions, within the most operations that a run has; the number is a field, so
-- that no clause counts the relation down from a numeral
pub record Does (code : Flat) (f : Frame) (a : Actions) : Type 0 where
  pub left : ℕ
  pub few : left ≤ MOST_OPERATIONS
  pub does : DoesFrom code left f a

-- the code of a program does what the program does
pub record IsCodeOf (code : Flat) (p : Program) : Type 0 where
  pub locals : code.locals ≡ length p.names
  pub does : Does code (first_frame code) (program_actions (commands p.body) (length p.names))

-- what the operation at a place gives
abbrev pub performed_at : Option Operation → Frame → Step
performed_at None f = gives Went f
performed_at (Some o) f = step o f

abbrev pub performed : Flat → Frame → Step
performed code f = performed_at (fetched code f.pc) f

-- how many statements an operation begins
abbrev pub ticks_of : Bool → ℕ
ticks_of true = 1
ticks_of false = 0

abbrev pub ticks_at : Option Operation → ℕ
ticks_at None = 0
ticks_at (Some o) = ticks_of (begins o)

abbrev pub ticks : Flat → Frame → ℕ
ticks code f = ticks_at (fetched code f.pc)

-- where a read stands, it has got its value
abbrev pub answered_at : Option Operation → Frame → ℤ → Frame
answered_at (Some o) f x = answered o f x
answered_at None f x = f

-- a place with an operation, over the locals of the code
pub record IsPlace (code : Flat) (f : Frame) : Type 0 where
  pub locals : length f.locals ≡ code.locals
  pub within : f.pc < length code.operations

-- the code stands at a read of this key, and goes on by `next` with the value that it is given
pub record Awaits (code : Flat) (f : Frame) (k : Key) (next : ℤ → Actions) : Type 0 where
  pub place : IsPlace code f
  pub asks : performed code f ≡ gives (Asks k) f
  pub does : (x : ℤ) → Does code (answered_at (fetched code f.pc) f x) (next x)

-- the code stands at a read that some run asks
pub record IsAsking (code : Flat) (f : Frame) : Type 0 where
  pub key : Key
  pub next : ℤ → Actions
  pub awaits : Awaits code f key next
