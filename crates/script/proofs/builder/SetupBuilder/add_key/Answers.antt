-- A further key.
use Rattle.script.proofs.BuilderLemmas.{key_added}
use Rattle.script.proofs.builder.SetupBuilder.add_key.Goals as goal

pub returns-then-branch-clause-keys : goal.returns-then-branch-clause-keys
returns-then-branch-clause-keys c = key_added c.args.self.now.firsts c.insert.new.self c.args.key c.in_ok-insert.ensures.updates.0
