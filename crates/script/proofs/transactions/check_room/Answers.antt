-- The first transaction past the room.
use Rattle.std.proofs.Common.{◌≡◌, Err, get_or, sym, subst, ap, ◌∙◌}
use Rattle.txn_text.specs.declared.faults.FaultKind.TheVariants.{TooManyTransactions}
use Rattle.txn_text.specs.declared.faults.TextFault.{TextFault}
use Rattle.txn_text.specs.declared.faults.TextFault.TheVariants.{At}
use Rattle.txn_parse.specs.Binding.{FaultIs}
use Rattle.script.specs.declared.limits.TheConstants.{MOST_TRANSACTIONS}
use Rattle.script.specs.declared.items.RawTxn.{RawTxn}
use Rattle.script.specs.Checks.{room_checks}
use Rattle.script.proofs.BuilderLemmas.{room_fault, room_left}
use Rattle.script.proofs.transactions.check_room.Goals as goal

pub returns-in-Some : goal.returns-in-Some
returns-in-Some c =
    let txns = c.args.txns.now in
    let t = c.in-Some.txn.now in
    let here = c.in-Some.ensures.lookup.3 in
    let told : c.fault_at.result ≡ At (get_or txns MOST_TRANSACTIONS t).name.line TooManyTransactions = c.fault_at.ensures ∙ ap (λ (x : RawTxn). At x.name.line TooManyTransactions) (here.1 t) in
    subst (λ (f : TextFault). FaultIs {A = Unit {0}} (room_checks MOST_TRANSACTIONS txns) (Err f)) (sym told) (room_fault MOST_TRANSACTIONS txns t here.0)

pub returns-in-None : goal.returns-in-None
returns-in-None c = room_left MOST_TRANSACTIONS c.args.txns.now c.in-None.ensures.lookup.3
