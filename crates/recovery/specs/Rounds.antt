-- Where the round of an execution in a view stands.
use Rattle.std.specs.Prelude.{ℕ, Bool, false, cond, ◌==◌, List, [], ◌∷◌, length, Option, Some, None, slice_get}
use Rattle.protocol.specs.Words.{Exec}
use Rattle.protocol.specs.Warden.State.{Round}
use Rattle.recovery.specs.Round.{is_of}

-- the place of the newest round of x in view v, counted from the oldest; the newest stands first
abbrev pub place_of : Exec → ℕ → List Round → Option ℕ
place_of x v [] = None
place_of x v (a ∷ older) = cond (is_of x v a) (Some (length older)) (place_of x v older)

abbrev pub is_in_view : ℕ → Option Round → Bool
is_in_view v None = false
is_in_view v (Some a) = a.view == v

-- whether the round at a place is in view v, where the oldest stands first
abbrev pub is_view_at : ℕ → List Round → ℕ → Bool
is_view_at v rounds place = is_in_view v (slice_get rounds place)
