-- The execution is abandoned, and the attempt with it.
use Rattle.std.proofs.Common.{◌∷◌, [], None, ◌∙◌, sym, subst, ap}
use Rattle.protocol.specs.Words.{Abandon, Decide}
use Rattle.protocol.specs.Client.Deciding.{give_up}
use Rattle.coordinator.specs.Memory.{Takes}
use Rattle.coordinator.specs.declared.memory.Memory.{Memory}
use Rattle.coordinator.proofs.DecidingLemmas.{gives_up}
use Rattle.coordinator.proofs.memory.Memory.give_up.Goals as goal

pub returns : goal.returns
returns c = λ g k s way.
    subst (λ (m : Memory). Takes g (give_up k) m c.in_ok-sent.sent) (sym c.end.ensures)
    (gives_up g k c.args.self.now c.in_ok-sent.sent s way (c.in_ok-sent.ensures ∙ ap (λ (m : Memory). Decide m.course.exec Abandon None ∷ []) c.end.ensures))
