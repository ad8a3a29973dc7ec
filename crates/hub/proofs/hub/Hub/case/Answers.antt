use Rattle.std.proofs.Common.{◌≡◌, true, rules}
use Rattle.hub.specs.Views.{history}
use Rattle.hub.specs.Turns.{IsRunning}
use Rattle.hub.proofs.hub.Hub.case.Goals as goal

pub returns-in-Some-2 : goal.returns-in-Some-2
returns-in-Some-2 g c = λ whole s n is here.
    let quiet = c.is_quiet.ensures whole s is in
    let live = c.is_live.ensures whole s n is here in
    let left = c.in_ok-job.ensures whole s n is here in
    let running : IsRunning (g.M.Machine.rules s.origin) c.args.self.now = record { no_end = search rules; not_quiet = search rules } in
    let lives : (g.M.Machine.rules s.origin).live (history c.args.self.now) n ≡ true = search rules in
    (running, lives, rw c.in-Some-2.is at left)

pub returns-then-is_marked : goal.returns-then-is_marked
returns-then-is_marked g c = λ whole s n is here.
    let quiet = c.is_quiet.ensures whole s is in
    let live = c.is_live.ensures whole s n is here in
    let left = c.in_ok-job.ensures whole s n is here in
    let running : IsRunning (g.M.Machine.rules s.origin) c.args.self.now = record { no_end = search rules; not_quiet = search rules } in
    let lives : (g.M.Machine.rules s.origin).live (history c.args.self.now) n ≡ true = search rules in
    let none = rw c.in_default-2.is at left in
    let marked = c.is_marked.ensures whole s n is here in
    (running, lives, none, search rules)

pub returns-then-is_out_of_turns : goal.returns-then-is_out_of_turns
returns-then-is_out_of_turns g c = λ whole s n is here.
    let quiet = c.is_quiet.ensures whole s is in
    let live = c.is_live.ensures whole s n is here in
    let left = c.in_ok-job.ensures whole s n is here in
    let running : IsRunning (g.M.Machine.rules s.origin) c.args.self.now = record { no_end = search rules; not_quiet = search rules } in
    let lives : (g.M.Machine.rules s.origin).live (history c.args.self.now) n ≡ true = search rules in
    let none = rw c.in_default-2.is at left in
    let marked = c.is_marked.ensures whole s n is here in
    let made = c.is_out_of_turns.ensures whole s n is here in
    (running, lives, none, search rules, search rules)

pub returns : goal.returns
returns g c = λ whole s n is here.
    let quiet = c.is_quiet.ensures whole s is in
    let live = c.is_live.ensures whole s n is here in
    let left = c.in_ok-job.ensures whole s n is here in
    let running : IsRunning (g.M.Machine.rules s.origin) c.args.self.now = record { no_end = search rules; not_quiet = search rules } in
    let lives : (g.M.Machine.rules s.origin).live (history c.args.self.now) n ≡ true = search rules in
    let none = rw c.in_default-2.is at left in
    let marked = c.is_marked.ensures whole s n is here in
    let made = c.is_out_of_turns.ensures whole s n is here in
    (running, lives, none, search rules, search rules)
