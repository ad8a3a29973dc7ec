use Rattle.std.proofs.Common.{◌≡◌, ◌+◌, ℕ, List, ◌++◌, Err, Result, sym, ap, ◌∙◌, subst, drop}
use Rattle.std.proofs.lemmas.Result.{err_from_is_err_and}
use Rattle.txn_text.specs.Tokens.{token_bytes}
use Rattle.txn_text.specs.declared.faults.TextFault.{TextFault}
use Rattle.txn_parse.specs.declared.tree.RawStmt.{RawStmt}
use Rattle.txn_parse.specs.Tree.{Term, Command, Let, Read, Write, If, term, command, commands, commands_of}
use Rattle.txn_parse.specs.Binding.{Names, Check, first_failing, with_name, names_in, names_after, used_checks, local_checks_in, local_checks, FaultIs}
use Rattle.txn_parse.proofs.NamesLemmas.{first_fault, later_fault, none_first, fault_of_all}
use Rattle.txn_parse.proofs.RawTrees.{command-Let, command-Read, command-Write, command-If, first_behind}
use Rattle.txn_parse.proofs.names.+locals.Goals as goal

abbrev Told : List Check → Result (Unit {0}) TextFault → Type 0
Told checks r = FaultIs {A = Unit {0}} checks r

-- what is told of a statement's tree is told of the statement
of_stmt : (text : List ℕ) (names : Names) (s : RawStmt) (c : Command) (r : Result (Unit {0}) TextFault) → command s ≡ c → Told (local_checks_in text names c) r → Told (local_checks_in text names (command s)) r
of_stmt text names s c r same is = subst (λ x. Told (local_checks_in text names x) r) (sym same) is

-- checks of what was lent
on_loan : (text : List ℕ) (names lent : Names) (e : Term) (r : Result (Unit {0}) TextFault) → lent ≡ names → Told (used_checks text lent e) r → Told (used_checks text names e) r
on_loan text names lent e r same is = subst (λ ns. Told (used_checks text ns e) r) same is

pub take_locals_in-returns-in_err-check_used-in-Write-clause-fault : goal.take_locals_in-returns-in_err-check_used-in-Write-clause-fault
take_locals_in-returns-in_err-check_used-in-Write-clause-fault t c =
    let p = err_from_is_err_and c.from_residual-in_err-check_used-in-Write.result c.from_residual-in_err-check_used-in-Write.ensures.1 in
    let text = c.args.text.now in
    let i = term c.in-Write.index in
    let e = term c.in-Write.e in
    let f = c.in_err-check_used-in-Write.field-0.0 in
    rw (p.1, p.2) (of_stmt text c.args.names.now c.args.stmt.now (Write c.in-Write.field-0 i e) (Err f) (ap command c.in-Write.is ∙ command-Write c.in-Write.field-0 c.in-Write.index c.in-Write.e)
    (first_fault (Unit {0}) (Unit {0}) (used_checks text c.args.names.now i) (used_checks text c.args.names.now e) f (on_loan text c.args.names.now c.as_slice-in-Write.result.now i (Err f) c.as_slice-in-Write.ensures c.in_err-check_used-in-Write.ensures)))

pub take_locals_in-returns-in_ok-check_used-in-Write-clause-fault : goal.take_locals_in-returns-in_ok-check_used-in-Write-clause-fault
take_locals_in-returns-in_ok-check_used-in-Write-clause-fault t c =
    let text = c.args.text.now in
    let i = term c.in-Write.index in
    let e = term c.in-Write.e in
    let none = ap (λ ns. first_failing (used_checks text ns i)) (sym c.as_slice-in-Write.ensures) ∙ c.in_ok-check_used-in-Write.ensures in
    of_stmt text c.args.names.now c.args.stmt.now (Write c.in-Write.field-0 i e) c.check_used-in-Write-2.result (ap command c.in-Write.is ∙ command-Write c.in-Write.field-0 c.in-Write.index c.in-Write.e)
    (later_fault (Unit {0}) (used_checks text c.args.names.now i) (used_checks text c.args.names.now e) c.check_used-in-Write-2.result none (on_loan text c.args.names.now c.as_slice-in-Write-2.result.now e c.check_used-in-Write-2.result c.as_slice-in-Write-2.ensures c.check_used-in-Write-2.ensures))

pub take_locals_in-returns-in_err-check_used-in-If-clause-fault : goal.take_locals_in-returns-in_err-check_used-in-If-clause-fault
take_locals_in-returns-in_err-check_used-in-If-clause-fault t c =
    let p = err_from_is_err_and c.from_residual-in_err-check_used-in-If.result c.from_residual-in_err-check_used-in-If.ensures.1 in
    let text = c.args.text.now in
    let names = c.args.names.now in
    let e = term c.in-If.e in
    let a = commands c.in-If.a in
    let b = commands c.in-If.b in
    let f = c.in_err-check_used-in-If.field-0.0 in
    rw (p.1, p.2) (of_stmt text names c.args.stmt.now (If e a b) (Err f) (ap command c.in-If.is ∙ command-If c.in-If.e c.in-If.a c.in-If.b)
    (first_fault (Unit {0}) (Unit {0}) (used_checks text names e) (local_checks text names a ++ local_checks text (names_after text a names) b) f (on_loan text names c.as_slice-in-If.result.now e (Err f) c.as_slice-in-If.ensures c.in_err-check_used-in-If.ensures)))

pub take_locals_in-returns-in_err-take_locals-in-If-clause-fault : goal.take_locals_in-returns-in_err-take_locals-in-If-clause-fault
take_locals_in-returns-in_err-take_locals-in-If-clause-fault t c =
    let p = err_from_is_err_and c.from_residual-in_err-take_locals-in-If.result c.from_residual-in_err-take_locals-in-If.ensures.1 in
    let text = c.args.text.now in
    let names = c.args.names.now in
    let e = term c.in-If.e in
    let a = commands c.in-If.a in
    let b = commands c.in-If.b in
    let f = c.in_err-take_locals-in-If.field-0.0 in
    let none = ap (λ ns. first_failing (used_checks text ns e)) (sym c.as_slice-in-If.ensures) ∙ c.in_ok-check_used-in-If.ensures in
    rw (p.1, p.2) (of_stmt text names c.args.stmt.now (If e a b) (Err f) (ap command c.in-If.is ∙ command-If c.in-If.e c.in-If.a c.in-If.b)
    (later_fault (Unit {0}) (used_checks text names e) (local_checks text names a ++ local_checks text (names_after text a names) b) (Err f) none
    (first_fault (Unit {0}) (Unit {0}) (local_checks text names a) (local_checks text (names_after text a names) b) f c.in_err-take_locals-in-If.ensures.fault)))

pub take_locals_in-returns-in_ok-take_locals-in-If-clause-fault : goal.take_locals_in-returns-in_ok-take_locals-in-If-clause-fault
take_locals_in-returns-in_ok-take_locals-in-If-clause-fault t c =
    let text = c.args.text.now in
    let names = c.args.names.now in
    let e = term c.in-If.e in
    let a = commands c.in-If.a in
    let b = commands c.in-If.b in
    let r = c.take_locals-in-If.result in
    let none = ap (λ ns. first_failing (used_checks text ns e)) (sym c.as_slice-in-If.ensures) ∙ c.in_ok-check_used-in-If.ensures in
    of_stmt text names c.args.stmt.now (If e a b) r (ap command c.in-If.is ∙ command-If c.in-If.e c.in-If.a c.in-If.b)
    (later_fault (Unit {0}) (used_checks text names e) (local_checks text names a ++ local_checks text (names_after text a names) b) r none
    (later_fault (Unit {0}) (local_checks text names a) (local_checks text (names_after text a names) b) r c.in_ok-take_locals-in-If.ensures.fault
    (subst (λ ns. Told (local_checks text ns b) r) c.in_ok-take_locals-in-If.ensures.names c.take_locals-in-If.ensures.fault)))

pub take_locals_in-returns-in_ok-add_target-in-Let-clause-fault : goal.take_locals_in-returns-in_ok-add_target-in-Let-clause-fault
take_locals_in-returns-in_ok-add_target-in-Let-clause-fault t c =
    let text = c.args.text.now in
    let r = c.check_used.result in
    let placed : c.as_slice.result.now ≡ with_name (token_bytes text c.in-Let.target) c.args.names.now = c.as_slice.ensures ∙ c.in_ok-add_target-in-Let.ensures in
    of_stmt text c.args.names.now c.args.stmt.now (Let c.in-Let.target (term c.in-Let.e)) r (ap command c.in-Let.is ∙ command-Let c.in-Let.target c.in-Let.e)
    (subst (λ ns. Told (used_checks text ns (term c.in-Let.e)) r) placed c.check_used.ensures)

pub take_locals_in-returns-in_ok-add_target-in-Read-clause-fault : goal.take_locals_in-returns-in_ok-add_target-in-Read-clause-fault
take_locals_in-returns-in_ok-add_target-in-Read-clause-fault t c =
    let text = c.args.text.now in
    let r = c.check_used-in-Read.result in
    let placed : c.as_slice-in-Read.result.now ≡ with_name (token_bytes text c.in-Read.target) c.args.names.now = c.as_slice-in-Read.ensures ∙ c.in_ok-add_target-in-Read.ensures in
    of_stmt text c.args.names.now c.args.stmt.now (Read c.in-Read.target c.in-Read.field-1 (term c.in-Read.index)) r (ap command c.in-Read.is ∙ command-Read c.in-Read.target c.in-Read.field-1 c.in-Read.index)
    (subst (λ ns. Told (used_checks text ns (term c.in-Read.index)) r) placed c.check_used-in-Read.ensures)

pub take_locals-returns-in_err-take_locals_in-clause-fault : goal.take_locals-returns-in_err-take_locals_in-clause-fault
take_locals-returns-in_err-take_locals_in-clause-fault t c =
    let p = err_from_is_err_and c.from_residual.result c.from_residual.ensures.1 in
    let text = c.args.text.now in
    let items = c.as_slice-stmt-items.result.now in
    let i = c.loop-stmt.stmt-index in
    let x = c.stmt-item.result in
    let names = c.loop-stmt.names in
    let f = c.in_err-take_locals_in.field-0.0 in
    let rest = local_checks text (names_in text (command x) names) (commands_of (drop (i + 1) items)) in
    let same = ap (λ cs. first_failing (local_checks text names cs)) (sym (first_behind items i x c.loop-stmt-test.true c.stmt-item.is)) ∙ c.loop-stmt.invariant.checks in
    rw (p.1, p.2) (fault_of_all (local_checks_in text names (command x)) rest (local_checks text c.args.names.now (commands c.args.block.now)) f same c.in_err-take_locals_in.ensures.fault)

pub take_locals-loop-stmt-preserved : goal.take_locals-loop-stmt-preserved
take_locals-loop-stmt-preserved t c =
    let text = c.args.text.now in
    let items = c.as_slice-stmt-items.result.now in
    let i = c.loop-stmt.stmt-index in
    let x = c.stmt-item.result in
    let names = c.loop-stmt.names in
    let rest = commands_of (drop (i + 1) items) in
    let turn = first_behind items i x c.loop-stmt-test.true c.stmt-item.is in
    let placed = c.in_ok-take_locals_in.ensures.names in
    record {
      placed = ap (λ ns. names_after text rest ns) placed ∙ ap (λ cs. names_after text cs names) (sym turn) ∙ c.loop-stmt.invariant.placed;
      checks =
          ap (λ ns. first_failing (local_checks text ns rest)) placed
          ∙ sym (none_first (local_checks_in text names (command x)) (local_checks text (names_in text (command x) names) rest) c.in_ok-take_locals_in.ensures.fault)
          ∙ ap (λ cs. first_failing (local_checks text names cs)) (sym turn) ∙ c.loop-stmt.invariant.checks;
    }
