-- Where code stands when it asks: its place is a function of the code and of the answers so far.
use Rattle.std.specs.Prelude.{◌≡◌, ℕ, zero, suc, ◌+◌, List, [], ◌∷◌, ◌++◌, Option, Some, None, ℤ}
use Rattle.morty_base.specs.declared.names.Key.{Key}
use Rattle.txn_lang.specs.Keys.{Entry, entry, found}
use Rattle.flat_code.specs.declared.frame.Frame.{Frame}
use Rattle.flat_code.specs.declared.frame.OpOut.{OpOut}
use Rattle.flat_code.specs.declared.frame.OpOut.TheVariants.{Went, Asks, Wrote, Printed, Ends}
use Rattle.flat_code.specs.Operation.{Flat}
use Rattle.flat_code.specs.Does.{fetched, performed, answered_at}

-- goes on from a place, with what is known and the answers that are left, to the place where it asks
abbrev pub Goes : Type 0
Goes = Frame → List Entry → List ℤ → Option Frame

-- at a question: a known key shows its value; any other takes an answer, and where none is left the code stands there
abbrev pub asked : (ℤ → List Entry → List ℤ → Option Frame) → Frame → Key → Option ℤ → List Entry → List ℤ → Option Frame
asked next f k (Some x) known answers = next x known answers
asked next f k None known [] = Some f
asked next f k None known (x ∷ answers) = next x (entry k x ∷ known) answers

-- after what an operation gave
abbrev pub place_by : Flat → Goes → OpOut → Goes
place_by code next Went f known answers = next f known answers
place_by code next (Asks k) f known answers = asked (λ x. next (answered_at (fetched code f.pc) f x)) f k (found known k) known answers
place_by code next (Wrote w) f known answers = next f (w ∷ known) answers
place_by code next (Printed x) f known answers = next f known answers
place_by code next (Ends how) f known answers = None

-- where the code asks once it took these answers, if it does within n operations
abbrev pub place_within : Flat → ℕ → Goes
place_within code zero f known answers = None
place_within code (suc n) f known answers = place_by code (place_within code n) (performed code f).out (performed code f).at known answers

-- from a place the code comes on these answers to another, where it asks for this key, and goes on from there with any
-- further answer, knowing what is shown
pub record ComesTo (code : Flat) (start : Frame) (known : List Entry) (answers : List ℤ) (k : Key) (shown : List Entry) (f : Frame) : Type 0 where
  pub count : ℕ
  pub here : place_within code count start known answers ≡ Some f
  pub onward : (n : ℕ) (x : ℤ) (further : List ℤ) →
      place_within code (n + count) start known (answers ++ x ∷ further) ≡ place_within code n (answered_at (fetched code f.pc) f x) (entry k x ∷ shown) further
