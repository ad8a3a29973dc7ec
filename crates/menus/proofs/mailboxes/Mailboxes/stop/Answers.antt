-- The slot's mailbox notes that its node is stopped, and a client's executions wait from now on.
use Rattle.std.proofs.Common.{◌≤◌, ◌<◌, ◌++◌, ◌∷◌, [], length, refl, sym, subst, arith}
use Rattle.menus.specs.Waiting.{AreWaiting}
use Rattle.menus.proofs.MailboxTurns.{stops, is_client, is_no_client}
use Rattle.menus.proofs.WaitingStops.{other_stops}
use Rattle.menus.proofs.mailboxes.Mailboxes.stop.Goals as goal

pub returns-then-slot-clients-clause-stopped : goal.returns-then-slot-clients-clause-stopped
returns-then-slot-clients-clause-stopped c = λ ns mail d st n are at.
    let s = c.args.self.now in
    let count = s.one_each in
    let within : c.args.slot < length s.boxes.items = omega (arith, count, c.requires.within) in
    let low : c.args.slot < s.slots.clients = omega (arith, c.clients.ensures, c.if-slot-clients.true) in
    let client = is_client ns mail d st n s c.args.slot are at low in
    let waits : AreWaiting s.slots.clients mail (st ++ n ∷ []) c.stop.new.self =
    subst (λ k. AreWaiting s.slots.clients mail (st ++ k ∷ []) c.stop.new.self) (sym client) (c.stop.ensures s.slots.clients mail st are.waiting) in
    stops ns mail d st n s c.args.slot are at _ c.index_mut.result.now _ refl refl refl refl waits within c.index_mut.ensures.value refl refl

pub returns-else-slot-clients-clause-stopped : goal.returns-else-slot-clients-clause-stopped
returns-else-slot-clients-clause-stopped c = λ ns mail d st n are at.
    let s = c.args.self.now in
    let count = s.one_each in
    let within : c.args.slot < length s.boxes.items = omega (arith, count, c.requires.within) in
    let high : s.slots.clients ≤ c.args.slot = omega (arith, c.clients.ensures, c.if-slot-clients.false) in
    let waits : AreWaiting s.slots.clients mail (st ++ n ∷ []) s.waiting =
    other_stops s.slots.clients mail st s.waiting are.waiting n (is_no_client ns mail d st n s c.args.slot are at high) in
    stops ns mail d st n s c.args.slot are at _ c.index_mut.result.now _ refl refl refl refl waits within c.index_mut.ensures.value refl refl
