use Rattle.std.proofs.Common.{◌≡◌, false, is_some, sym, ◌∙◌, ap}
use Rattle.hub.specs.Views.{told_end}
use Rattle.runner.proofs.Counts.{grown_on}
use Rattle.runner.proofs.Rounds.{goes_on, still_recalled}
use Rattle.runner.proofs.one.run_rounds.Goals as goal

pub rounds-preserved : goal.rounds-preserved
rounds-preserved g c =
    let none : is_some (told_end c.round.new.hub) ≡ false = ap is_some (sym c.ended.ensures.told ∙ c.in_default.is) in
    record {
      recalled = λ s is. still_recalled (g.M.Machine.rules s.origin) s.turns c.rounds.hub c.round.new.hub
          (c.in_ok-round.ensures.ok s is (c.rounds.invariant.recalled s is)) none;
      grown = λ s is.
          grown_on (g.M.Machine.rules s.origin) c.args.hub.now c.rounds.hub c.round.new.hub (c.rounds.invariant.grown s is) (c.in_ok-round.ensures.grown s is);
      kept = λ s is at. goes_on (g.M.Machine.rules s.origin) s.turns c.round.new.hub
          (c.in_ok-round.ensures.keeps s is (c.rounds.invariant.recalled s is) (c.rounds.invariant.kept s is at)) none;
    }

pub returns-in-Some-clause-grown : goal.returns-in-Some-clause-grown
returns-in-Some-clause-grown g c = λ s is.
    grown_on (g.M.Machine.rules s.origin) c.args.hub.now c.rounds.hub c.round.new.hub (c.rounds.invariant.grown s is) (c.in_ok-round.ensures.grown s is)
