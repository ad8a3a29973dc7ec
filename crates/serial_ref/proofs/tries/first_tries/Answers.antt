-- First tries name transactions and differ in their versions, so in order they do too, and rise.
use Rattle.std.proofs.Common.{◌↔◌, [], refl, sym, subst}
use Rattle.std.proofs.lemmas.Result.{IfOk-weaker}
use Rattle.serial_ref.specs.SerialItem.{AreNamed, DifferInVersion, IsRising}
use Rattle.serial_ref.proofs.TriesAreNamed.{tries_named}
use Rattle.serial_ref.proofs.TriesDiffer.{tries_differ}
use Rattle.serial_ref.proofs.tries.first_tries.Goals as goal

pub returns-clause-named : goal.returns-clause-named
returns-clause-named c =
    let s = c.args.setup.now in
    c.in_order.ensures.named s (subst (AreNamed s) (sym c.in_ok-all_tries.ensures) (tries_named s s.clients [] 1 refl refl))

pub returns-clause-rising : goal.returns-clause-rising
returns-clause-rising c =
    let items = c.in_ok-all_tries.field-0 in
    let differ : DifferInVersion items = subst DifferInVersion (sym c.in_ok-all_tries.ensures) (tries_differ 1 c.args.setup.now.clients) in
    IfOk-weaker c.in_order.result (λ sorted. IsRising sorted ↔ DifferInVersion items) IsRising (λ sorted same. same.1 differ) c.in_order.ensures.rising
