-- What a replica promised and accepted in numbered views, and what was decided and committed at it.
use Rattle.std.specs.Prelude.{ℕ, max, cond, ◌&&◌, nat_le, List, [], ◌∷◌, ◌++◌, Option, Some, None, is_none, option_map, find}
use Rattle.protocol.specs.Words.{Exec, Choice, ToCommit, Accept, Content, Kept, Body, Finalize, Decide, Ask, same_exec}
use Rattle.std.specs.Option.{option_or}
use Rattle.std.specs.Bool.{then_some}
use Rattle.protocol.specs.Lists.{one_when}
use Rattle.protocol.specs.Replica.Taken.{Handled}

-- the view in which a body asks for a promise on x
abbrev pub view_for : Exec → Body → ℕ
view_for x (Ask y view) = cond (same_exec x y) view 0
view_for x (Finalize y view choice content) = cond (same_exec x y) view 0
view_for x _ = 0

-- the greatest view of an Ask or Finalize of x: nothing of a lower view is accepted
abbrev pub promised : Handled → Exec → ℕ
promised [] x = 0
promised (m ∷ h) x = max (promised h x) (view_for x m.body)

-- the choice that a body decides on x
abbrev pub choice_for : Exec → Body → Option Choice
choice_for x (Decide y choice content) = then_some (same_exec x y) choice
choice_for x _ = None

-- the choice of the first Decide of x
abbrev pub decided : Handled → Exec → Option Choice
decided [] x = None
decided (m ∷ h) x = option_or (decided h x) (choice_for x m.body)

-- a Finalize whose view was not below the promised one
pub record Acceptance : Type 0 where
  pub exec : Exec
  pub view : ℕ
  pub choice : Choice
  pub content : Option Content

-- what a body lets the replica accept
abbrev pub new_acceptance : Handled → Body → List Acceptance
new_acceptance h (Finalize x v d c) = one_when (nat_le (promised h x) v) (record { exec = x; view = v; choice = d; content = c })
new_acceptance h _ = []

-- what was accepted, the newest first
abbrev pub acceptances : Handled → List Acceptance
acceptances [] = []
acceptances (m ∷ h) = new_acceptance h m.body ++ acceptances h

-- the last acceptance on x
abbrev pub accept_on : Exec → List Acceptance → Option Acceptance
accept_on x accepts = find (λ a. same_exec x a.exec) accepts

-- its view and choice
abbrev pub pair_of : Acceptance → Accept
pair_of a = record { view = a.view; choice = a.choice }

-- the pair accepted last on x
abbrev pub accepted : Handled → Exec → Option Accept
accepted h x = option_map pair_of (accept_on x (acceptances h))

-- the content that an accepted Finalize of x brings, where p was promised before
abbrev pub accepted_content_for : ℕ → Exec → Body → Option Content
accepted_content_for p x (Finalize y view choice (Some c)) = then_some (same_exec x y && nat_le p view) c
accepted_content_for p x _ = None

-- the first content in an accepted Finalize of x
abbrev pub accepted_content : Handled → Exec → Option Content
accepted_content [] x = None
accepted_content (m ∷ h) x = option_or (accepted_content h x) (accepted_content_for (promised h x) x m.body)

-- the first Decide of an execution, if it is Commit, commits its content
abbrev pub new_commit : Handled → Body → List Kept
new_commit h (Decide x ToCommit (Some c)) = one_when (is_none (decided h x)) (record { exec = x; content = c })
new_commit h _ = []

-- the committed contents, the newest first
abbrev pub commits : Handled → List Kept
commits [] = []
commits (m ∷ h) = new_commit h m.body ++ commits h
