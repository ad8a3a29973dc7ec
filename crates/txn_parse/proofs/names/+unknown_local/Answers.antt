use Rattle.std.proofs.Common.{◌≡◌, Some, None, sym, ap, ◌∙◌}
use Rattle.std.specs.Prelude.{find}
use Rattle.txn_parse.specs.Tree.{term}
use Rattle.txn_parse.specs.Binding.{is_unknown, locals_of}
use Rattle.txn_parse.proofs.NamesLemmas.{found_first, found_second}
use Rattle.txn_parse.proofs.RawTrees.{term-Bin}
use Rattle.txn_parse.proofs.names.+unknown_local.Goals as goal

pub returns-in-Some : goal.returns-in-Some
returns-in-Some t c =
    let p = is_unknown c.args.text.now c.args.names.now in
    let a = c.in-Bin.operands.0 in
    let b = c.in-Bin.operands.1 in
    let first : Some c.in-Some.v ≡ find p (locals_of (term a)) = c.in-Some.ensures ∙ ap (λ x. find p (locals_of (term x.0))) c.get.ensures in
    sym (ap (λ e. find p (locals_of (term e))) c.in-Bin.is ∙ ap (λ e. find p (locals_of e)) (term-Bin c.in-Bin.field-0 a b) ∙ found_first p (locals_of (term a)) (locals_of (term b)) c.in-Some.v first)

pub returns-in-None : goal.returns-in-None
returns-in-None t c =
    let p = is_unknown c.args.text.now c.args.names.now in
    let a = c.in-Bin.operands.0 in
    let b = c.in-Bin.operands.1 in
    let first : None ≡ find p (locals_of (term a)) = c.in-None.ensures ∙ ap (λ x. find p (locals_of (term x.0))) c.get.ensures in
    c.unknown_local-in-None.ensures ∙ ap (λ x. find p (locals_of (term x.1))) c.get.ensures
    ∙ sym (ap (λ e. find p (locals_of (term e))) c.in-Bin.is ∙ ap (λ e. find p (locals_of e)) (term-Bin c.in-Bin.field-0 a b) ∙ found_second p (locals_of (term a)) (locals_of (term b)) first)
