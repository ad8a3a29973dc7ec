-- What a saved place stands for: a program, the answers on which it asks, and what is known there.
use Rattle.std.specs.Prelude.{◌≡◌, List, [], Some, ℤ, length}
use Rattle.morty_base.specs.declared.names.Key.{Key}
use Rattle.txn_lang.specs.Tree.{commands}
use Rattle.txn_lang.specs.Keys.{Entry, found}
use Rattle.txn_lang.specs.Actions.{Actions, program_actions}
use Rattle.txn_lang.specs.Program.{Program, replay_of}
use Rattle.txn_lang.specs.Laws.{GoesOn}
use Rattle.flat_code.specs.declared.frame.Frame.{Frame}
use Rattle.flat_code.specs.Operation.{Flat}
use Rattle.flat_code.specs.Does.{Awaits, first_frame}
use Rattle.continuation.specs.declared.segment.Cont.{Cont}
use Rattle.continuation.specs.Reaching.{ComesTo}

abbrev pub actions_of : Program → Actions
actions_of p = program_actions (commands p.body) (length p.names)

abbrev pub frame_of : Cont → Frame
frame_of c = record { pc = c.pc; loops = c.loops; locals = c.locals }

abbrev pub cont_of : Frame → Cont
cont_of f = record { pc = f.pc; loops = f.loops; locals = f.locals }

-- these entries show of each key what those show
pub record KnowsAs (known shown : List Entry) : Type 0 where
  pub same : (k : Key) → found known k ≡ found shown k

-- on these answers the program asks for this key; the code comes to this place, and goes on from it as the program does
pub record StandsAt (code : Flat) (p : Program) (answers : List ℤ) (k : Key) (cont : Cont) : Type 0 where
  pub asks : (replay_of p answers).asks ≡ Some k
  pub goes : GoesOn (actions_of p) [] answers k
  pub awaits : Awaits code (frame_of cont) k goes.next
  pub comes : ComesTo code (first_frame code) [] answers k (replay_of p answers).known (frame_of cont)

-- a program, the answers to its reads, and the key for which it asks then
pub record Question : Type 0 where
  pub program : Program
  pub answers : List ℤ
  pub key : Key

-- a place at a question, with what is known there without asking
pub record StandsFor (code : Flat) (q : Question) (cont : Cont) (known : List Entry) : Type 0 where
  pub at : StandsAt code q.program q.answers q.key cont
  pub knows : KnowsAs known (replay_of q.program q.answers).known
