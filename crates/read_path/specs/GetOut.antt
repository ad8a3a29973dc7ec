-- What a Get is answered.
use Rattle.std.specs.Prelude.{Bool, true, false}
use Rattle.protocol.specs.Words.{Body}
use Rattle.read_path.specs.declared.GetOut.{GetOut}
use Rattle.read_path.specs.declared.GetOut.TheVariants.{Note, TooOld}

-- the body that is sent
abbrev pub body_of : GetOut → Body
body_of (Note b) = b
body_of (TooOld b) = b

-- it says that the Get comes too late
abbrev pub is_too_old : GetOut → Bool
is_too_old (Note b) = false
is_too_old (TooOld b) = true
