use Rattle.hub.proofs.hub.Hub.counted.Goals as goal

pub returns-clause-turns : goal.returns-clause-turns
returns-clause-turns g c = rw (← c.self.view_is) c.self.invariant.1

pub returns-clause-rans : goal.returns-clause-rans
returns-clause-rans g c = rw (← c.self.view_is) (λ s is. (c.self.invariant.2 s is).used_are)
