-- Each kind of item is taken by its own call.
use Rattle.std.proofs.Common.{◌≡◌, sym, ap, subst}
use Rattle.std.specs.Prelude.{OnOk}
use Rattle.txn_parse.specs.Binding.{FaultIs}
use Rattle.script.specs.Items.{item}
use Rattle.script.specs.Meaning.{after}
use Rattle.script.specs.Checks.{checks}
use Rattle.script.specs.Building.{said_so_far}
use Rattle.script.proofs.builder.SetupBuilder.take.Goals as goal

pub returns-in-Version-clause-fault : goal.returns-in-Version-clause-fault
returns-in-Version-clause-fault c =
    let s = said_so_far c.args.self.now in
    subst (λ i. FaultIs {A = Unit {0}} (checks c.args.text.now s i) c.version.result) (sym (ap item c.in-Version.is)) (c.version.ensures s)

pub returns-in-First-clause-fault : goal.returns-in-First-clause-fault
returns-in-First-clause-fault c =
    subst (λ i. FaultIs {A = Unit {0}} (checks c.args.text.now (said_so_far c.args.self.now) i) c.first.result) (sym (ap item c.in-First.is)) c.first.ensures.fault

pub returns-in-First-clause-said : goal.returns-in-First-clause-said
returns-in-First-clause-said c =
    subst (λ i. OnOk c.first.result (said_so_far c.first.new.self ≡ after c.args.text.now (said_so_far c.args.self.now) i)) (sym (ap item c.in-First.is)) c.first.ensures.said
