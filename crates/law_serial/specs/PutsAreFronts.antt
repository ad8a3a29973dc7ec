-- What an execution puts, beside what it prepares.
use Rattle.std.specs.Prelude.{◌≡◌, List, []}
use Rattle.txn_lang.specs.Laws.{IsFront}
use Rattle.protocol.specs.Words.{Exec, Done, Content, Write, Puts, Prepare}
use Rattle.protocol.specs.World.State.{Plan, World}
use Rattle.protocol.specs.World.Decided.{WasSent}
use Rattle.protocol.specs.Always.{AlwaysOfPrograms}

-- the writes that were put are the first of the content's, or its ending is not Done and it keeps none
pub record IsPutFirst (ws : List Write) (k : Content) : Type 0 where
  pub done : k.ending ≡ Done → IsFront ws k.writes
  pub other : (k.ending ≡ Done → ⊥) → k.writes ≡ []

-- what an execution puts are the first of the writes that it prepares
abbrev pub PutsAreFrontsOf : Plan → World → Type 0
PutsAreFrontsOf p w = (y : Exec) (ws : List Write) (k : Content) → WasSent w (Puts y ws) → WasSent w (Prepare y k) → IsPutFirst ws k

abbrev pub PutsAreFronts : Type 0
PutsAreFronts = AlwaysOfPrograms PutsAreFrontsOf
