-- What the mail says to a node's link: which envelopes are for the node, and which executions wait for a warden.
use Rattle.std.specs.Prelude.{ℕ, suc, Bool, false, cond, not, ◌&&◌, ◌==◌, List, [], ◌∷◌, ◌++◌, filter, Option, Some, None}
use Rattle.std.specs.List.{list_any, slice_get}
use Rattle.protocol.specs.Words.{NodeId, Client, Exec, same_node, same_exec, exec_before, Envelope, Body, Puts, Prepare, Decide}
use Rattle.protocol.specs.Lists.{one_when}

-- the number is one of these
abbrev pub has_number : ℕ → List ℕ → Bool
has_number i is = list_any (λ j. j == i) is

-- the places of the envelopes to a node that were not delivered, where i is the place of the first
abbrev pub fresh_from : List ℕ → NodeId → ℕ → List Envelope → List ℕ
fresh_from delivered n i [] = []
fresh_from delivered n i (m ∷ ms) = one_when (same_node n m.to && not (has_number i delivered)) i ++ fresh_from delivered n (suc i) ms

-- the envelope, if there is one, is to the node
abbrev pub is_to : NodeId → Option Envelope → Bool
is_to n None = false
is_to n (Some m) = same_node n m.to

-- the places of the envelopes to a node that were delivered, in the order of first delivery
abbrev pub old_to : List Envelope → NodeId → List ℕ → List ℕ
old_to mail n delivered = filter (λ i. is_to n (slice_get mail i)) delivered

-- the execution of which a body brings writes or a content to replicas
abbrev pub begun_by : Body → Option Exec
begun_by (Puts x ws) = Some x
begun_by (Prepare x c) = Some x
begun_by _ = None

-- the body decides x
abbrev pub decides_on : Exec → Body → Bool
decides_on x (Decide y d c) = same_exec x y
decides_on x _ = false

-- no Decide of x was sent, and its client is stopped
abbrev pub is_waiting : List Envelope → List NodeId → Exec → Bool
is_waiting mail stopped x = not (list_any (λ m. decides_on x m.body) mail) && list_any (same_node (Client x.ver.client)) stopped

-- the lesser of two executions
abbrev pub lesser : Option Exec → Option Exec → Option Exec
lesser None b = b
lesser (Some x) None = Some x
lesser (Some x) (Some y) = Some (cond (exec_before y x) y x)

-- the execution where it waits
abbrev pub where_waiting : List Envelope → List NodeId → Option Exec → Option Exec
where_waiting mail stopped None = None
where_waiting mail stopped (Some x) = cond (is_waiting mail stopped x) (Some x) None

-- of the executions that these envelopes begin, the least that waits
abbrev pub least_waiting : List Envelope → List NodeId → List Envelope → Option Exec
least_waiting mail stopped [] = None
least_waiting mail stopped (m ∷ ms) = lesser (where_waiting mail stopped (begun_by m.body)) (least_waiting mail stopped ms)
