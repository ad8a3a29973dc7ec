-- A Note answers the question, or is about an answered read.
use Rattle.std.proofs.Common.{Some, None, true, false, ◌∙◌, sym}
use Rattle.coordinator.proofs.FollowingLemmas.{note_answers, note_follows, note_nowhere, notes}
use Rattle.coordinator.proofs.memory.Memory.note_running.Goals as goal

pub returns-then-asks : goal.returns-then-asks
returns-then-asks c = λ g k pending given s runs.
    notes g k c.args.self.now c.answer.new.self pending given c.args.key c.args.new c.args.gone true c.in_ok-out.out s runs (sym c.asks.ensures.asks ∙ c.if-asks.true)
    (note_answers g k c.answer.new.self c.args.key c.args.new c.args.gone c.in_ok-out.out (c.in_ok-out.ensures g k pending given s runs))

pub returns-in_default : goal.returns-in_default
returns-in_default c = λ g k pending given s runs.
    notes g k c.args.self.now c.args.self.now pending given c.args.key c.args.new c.args.gone false c.new.result s runs (sym c.asks.ensures.asks ∙ c.if-asks.false)
    (note_follows g k c.args.self.now c.args.self.now c.args.key c.args.new c.args.gone None c.new.result s (sym c.place.ensures.place ∙ c.in_default.is)
    (note_nowhere g k c.args.self.now c.args.new c.args.gone c.new.result s c.new.ensures))

pub returns : goal.returns
returns c = λ g k pending given s runs.
    notes g k c.args.self.now c.note_at.new.self pending given c.args.key c.args.new c.args.gone false c.in_ok-out-2.out s runs (sym c.asks.ensures.asks ∙ c.if-asks.false)
    (note_follows g k c.args.self.now c.note_at.new.self c.args.key c.args.new c.args.gone (Some c.in-Some.i) c.in_ok-out-2.out s (sym c.place.ensures.place ∙ c.in-Some.is)
    (c.in_ok-out-2.ensures g k pending given s runs))
