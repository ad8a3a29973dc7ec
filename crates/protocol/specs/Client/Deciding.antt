-- What follows for a client from a decision: the end of the attempt, or its next execution.
use Rattle.std.specs.Prelude.{◌+◌, Bool, true, false, cond, not, ◌&&◌, nat_lt, List, [], ◌∷◌, ◌++◌, map, Option, Some, None, unwrap_or}
use Rattle.std.specs.List.{list_any}
use Rattle.std.specs.Ordering.{int_eq}
use Rattle.protocol.specs.Words.{Exec, Choice, Abandon, ToCommit, Content, Body, Puts, Decide, same_wid}
use Rattle.protocol.specs.Lists.{one_when}
use Rattle.protocol.specs.declared.Fate.{Fate}
use Rattle.protocol.specs.Client.State.{Answer, ClientState, Rules, Turn, may_put, walk}
use Rattle.protocol.specs.Client.Attempts.{bumped, prepare_if_ready}
use Rattle.protocol.specs.Client.State.Phase.{Between, Running}
use Rattle.protocol.specs.declared.Fate.TheVariants.{Committed, Aborted}
use Rattle.protocol.specs.declared.Held.{Held}

-- a choice of Commit goes out with the content
abbrev pub content_for : Content → Choice → Option Content
content_for content Abandon = None
content_for content ToCommit = Some content

-- the decision is remembered
abbrev pub noted : ClientState → Choice → ClientState
noted c d = record c { decisions = record { exec = c.exec; choice = d } ∷ c.decisions }

-- the attempt ends
abbrev pub ended : ClientState → Fate → ClientState
ended c f = record c { phase = Between; fate = f }

-- a read takes its next label
abbrev pub moved_on : Answer → Answer
moved_on a = record { label = unwrap_or a.next a.label; next = None }

-- the next label names another write
abbrev pub has_other_wid : Held → Option Held → Bool
has_other_wid old None = false
has_other_wid old (Some new) = not (same_wid old.wid new.wid)

-- the read has a change pending
abbrev pub is_change : Answer → Bool
is_change a = has_other_wid a.label a.next

-- the next label has another value
abbrev pub has_other_value : Held → Option Held → Bool
has_other_value old None = false
has_other_value old (Some new) = not (int_eq old.value new.value)

-- the change of the read is one of value
abbrev pub other_value : Answer → Bool
other_value a = has_other_value a.label a.next

-- the answers up to the first whose value changes
abbrev pub cut : List Answer → List Answer
cut [] = []
cut (a ∷ answers) = cond (other_value a) (moved_on a ∷ []) (moved_on a ∷ cut answers)

-- the next execution of the version
abbrev pub next_exec : Exec → Exec
next_exec x = record { ver = x.ver; eid = x.eid + 1 }

-- the next execution runs again from a changed answer
unfoldable pub rewound : ClientState → List Answer → ClientState
rewound c answers = record c { exec = next_exec c.exec; answers = answers; serial = bumped c.serial; phase = Running true false }

-- the next execution keeps the values of all answers, and so its ending
unfoldable pub relabelled : ClientState → ClientState
relabelled c = record c { exec = next_exec c.exec; answers = map moved_on c.answers; phase = Running false false }

-- its Puts, where it ended Done
abbrev pub puts_again : Rules → ClientState → List Body
puts_again rules c = one_when (may_put (walk rules c).ending) (Puts c.exec (walk rules c).writes)

-- after an Abandon with a change pending the next execution begins
unfoldable pub next_execution : Rules → ClientState → List Body → Turn
next_execution rules c sent =
    cond (list_any other_value c.answers)
    (record { state = rewound c (cut c.answers); sent = sent })
    (prepare_if_ready rules (relabelled c) (sent ++ puts_again rules (relabelled c)))

-- what follows from a decision on the prepared execution
unfoldable pub conclude : Rules → ClientState → Choice → List Body → Turn
conclude rules c ToCommit sent = record { state = ended (noted c ToCommit) Committed; sent = sent }
conclude rules c Abandon sent =
    cond (list_any is_change c.answers && nat_lt (c.exec.eid + 1) rules.execs)
    (next_execution rules (noted c Abandon) sent)
    (record { state = ended (noted c Abandon) Aborted; sent = sent })

-- a client's own decision goes to all
unfoldable pub decide : Rules → ClientState → Content → Choice → Turn
decide rules c content choice = conclude rules c choice (Decide c.exec choice (content_for content choice) ∷ [])

-- where nothing is prepared, the client abandons the execution and the attempt
unfoldable pub give_up : ClientState → Turn
give_up c = record { state = ended (noted c Abandon) Aborted; sent = Decide c.exec Abandon None ∷ [] }
