-- The three parts make one turn of the warden.
use Rattle.std.proofs.lemmas.Result.{on_ok_weaker}
use Rattle.truncation.proofs.TruncatorLemmas.{hears}
use Rattle.truncation.proofs.truncator.Truncator.hear.Goals as goal

pub returns-clause-ok : goal.returns-clause-ok
returns-clause-ok c = on_ok_weaker c.finish.result (λ ended.
    hears c.args.env.now.from c.args.env.now.body c.args.self.now c.hear_fenced.new.self c.finish.new.self c.args.rec.now c.handle.new.self c.hear_fenced.new.rec
    c.args.out.now c.handle.new.out c.hear_fenced.new.out c.finish.new.out c.in_ok-handle.ensures.ok c.in_ok-hear_fenced.ensures ended) c.finish.ensures
