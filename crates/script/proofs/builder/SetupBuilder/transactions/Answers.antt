-- The programs are known, the room is enough, and then come the times.
use Rattle.std.proofs.Common.{ℕ, List, ◌++◌}
use Rattle.std.proofs.lemmas.Result.{err_from_is_err_and}
use Rattle.txn_parse.proofs.NamesLemmas.{first_fault, later_fault}
use Rattle.script.specs.declared.limits.TheConstants.{MOST_TRANSACTIONS}
use Rattle.script.specs.declared.setup.Txn.{Txn}
use Rattle.script.specs.Meaning.{prog_names, said_by}
use Rattle.script.specs.Checks.{program_checks, room_checks, start_checks}
use Rattle.script.proofs.BuilderLemmas.{behind_passed}
use Rattle.script.proofs.builder.SetupBuilder.transactions.Goals as goal

pub returns-in_err-programs-clause-fault : goal.returns-in_err-programs-clause-fault
returns-in_err-programs-clause-fault c =
    let p = err_from_is_err_and c.from_residual.result c.from_residual.ensures.1 in
    let text = c.args.text.now in
    let txns = c.args.txns.now in
    rw (p.1, p.2) (first_fault (List ℕ) (List Txn) (program_checks text (prog_names (said_by c.args.self.now.setup)) txns) (room_checks MOST_TRANSACTIONS txns ++ start_checks text txns) c.in_err-programs.field-0.0 c.in_err-programs.ensures.fault)

pub returns-in_err-check_room-clause-fault : goal.returns-in_err-check_room-clause-fault
returns-in_err-check_room-clause-fault c =
    let p = err_from_is_err_and c.from_residual-in_err-check_room.result c.from_residual-in_err-check_room.ensures.1 in
    let text = c.args.text.now in
    let txns = c.args.txns.now in
    let f = c.in_err-check_room.field-0.0 in
    let room = room_checks MOST_TRANSACTIONS txns in
    rw (p.1, p.2) (behind_passed (Unit {0}) (List Txn) (program_checks text (prog_names (said_by c.args.self.now.setup)) txns) (room ++ start_checks text txns) f c.in_ok-programs.ensures.fault
    (first_fault (Unit {0}) (Unit {0}) room (start_checks text txns) f c.in_err-check_room.ensures))

pub returns-clause-fault : goal.returns-clause-fault
returns-clause-fault c =
    let text = c.args.text.now in
    let txns = c.args.txns.now in
    let r = c.starts.result in
    let room = room_checks MOST_TRANSACTIONS txns in
    later_fault (List Txn) (program_checks text (prog_names (said_by c.args.self.now.setup)) txns) (room ++ start_checks text txns) r c.in_ok-programs.ensures.fault
    (later_fault (List Txn) room (start_checks text txns) r c.in_ok-check_room.ensures c.starts.ensures.fault)
