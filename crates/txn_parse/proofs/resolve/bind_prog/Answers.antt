use Rattle.std.proofs.Common.{◌≡◌, ℕ, true, false, List, [], None, Err, length, sym, ap, ◌∙◌, subst, arith}
use Rattle.std.proofs.lemmas.Result.{err_from_is_err_and}
use Rattle.txn_lang.specs.Program.{Program}
use Rattle.txn_lang.specs.Tree as lang
use Rattle.txn_parse.specs.Tree.{Commands, commands}
use Rattle.txn_parse.specs.Binding.{Names, first_failing, local_checks, names_after, names_of, bound, FaultIs}
use Rattle.txn_parse.proofs.NamesLemmas.{first_fault}
use Rattle.txn_parse.proofs.ResolveLemmas.{known_tables, limit_decides, many_locals, many_times, within_passes, refused_passes, IsOf, formed_as, within_of, within_as}
use Rattle.txn_parse.proofs.resolve.bind_prog.Goals as goal
use Rattle.txn_parse.proofs.resolve.bind_prog.Goals.{then-len-gt-MOST_LOCALS-via-then-len-gt-MOST_LOCALS, then-len-gt-MOST_LOCALS-via-else-len-gt-MOST_LOCALS+then-most_times-from}

-- no local is unknown, as the call said that took them
locals_known : (text : List ℕ) (cs : Commands) (start : Names) → start ≡ [] → first_failing (local_checks text start cs) ≡ None → first_failing (local_checks text [] cs) ≡ None
locals_known text cs start none is = ap (λ ns. first_failing (local_checks text ns cs)) (sym none) ∙ is

pub bound_block-requires-clause-known : goal.bound_block-requires-clause-known
bound_block-requires-clause-known c = known_tables c.args.text.now c.args.tables.now (commands c.args.raw.now.body) c.requires.known

pub returns-in_err-take_locals-clause-fault : goal.returns-in_err-take_locals-clause-fault
returns-in_err-take_locals-clause-fault c =
    let p = err_from_is_err_and c.from_residual.result c.from_residual.ensures.1 in
    let text = c.args.text.now in
    let cs = commands c.args.raw.now.body in
    let f = c.in_err-take_locals.field-0.0 in
    rw (p.1, p.2) (first_fault (Unit {0}) Program (local_checks text [] cs) _ f (subst (λ ns. FaultIs {A = Unit {0}} (local_checks text ns cs) (Err f)) c.new-names.ensures c.in_err-take_locals.ensures.fault))

pub returns-then-len-gt-MOST_LOCALS-clause-fault : goal.returns-then-len-gt-MOST_LOCALS-clause-fault
returns-then-len-gt-MOST_LOCALS-clause-fault c =
    let text = c.args.text.now in
    let tables = c.args.tables.now in
    let cs = commands c.args.raw.now.body in
    let known = locals_known text cs c.new-names.result c.new-names.ensures c.in_ok-take_locals.ensures.fault in
    let names : c.take_locals.new.names ≡ names_of text cs = c.in_ok-take_locals.ensures.names ∙ ap (λ ns. names_after text cs ns) c.new-names.ensures in
    let many : c.len.result ≡ length (names_of text cs) = c.len.ensures ∙ ap length names in
    limit_decides text tables cs c.args.line true known (elim c.then-len-gt-MOST_LOCALS.branch [
      | then-len-gt-MOST_LOCALS-via-then-len-gt-MOST_LOCALS w ↦ many_locals text tables cs (let more = w.if-len-gt-MOST_LOCALS.true in omega (arith, more, many))
      | then-len-gt-MOST_LOCALS-via-else-len-gt-MOST_LOCALS+then-most_times-from w ↦ many_times text tables cs (let more = w.if-most_times-from.true in let from = w.from.ensures in let most = w.most_times.ensures in omega (arith, more, from, most))
    ])

-- the names and the body that were made
made : (text : List ℕ) (tables : Names) (cs : Commands) (start names lent : Names) (body : lang.Commands) → start ≡ [] → names ≡ names_after text cs start → lent ≡ names → body ≡ bound text tables lent cs → IsOf text tables cs names body
made text tables cs start names lent body none placed same is = record {
  names_are = placed ∙ ap (λ ns. names_after text cs ns) none;
  body_is = is ∙ ap (λ ns. bound text tables ns cs) same;
}

pub make_prog-requires : goal.make_prog-requires
make_prog-requires c =
    let text = c.args.text.now in
    let cs = commands c.args.raw.now.body in
    let known = locals_known text cs c.new-names.result c.new-names.ensures c.in_ok-take_locals.ensures.fault in
    let of = made text c.args.tables.now cs c.new-names.result c.take_locals.new.names c.as_slice.result.now (lang.commands c.in_ok-body.body) c.new-names.ensures c.in_ok-take_locals.ensures.names c.as_slice.ensures c.in_ok-body.ensures in
    formed_as text c.args.tables.now cs c.take_locals.new.names (lang.commands c.in_ok-body.body) of c.requires.parsed known

pub returns-in-Ok-clause-fault : goal.returns-in-Ok-clause-fault
returns-in-Ok-clause-fault c =
    let text = c.args.text.now in
    let tables = c.args.tables.now in
    let cs = commands c.args.raw.now.body in
    let known = locals_known text cs c.new-names.result c.new-names.ensures c.in_ok-take_locals.ensures.fault in
    let of = made text tables cs c.new-names.result c.take_locals.new.names c.as_slice.result.now (lang.commands c.in_ok-body.body) c.new-names.ensures c.in_ok-take_locals.ensures.names c.as_slice.ensures c.in_ok-body.ensures in
    let few = c.if-most_times-from.false in
    let from = c.from.ensures in
    let most = c.most_times.ensures in
    limit_decides text tables cs c.args.line false known
    (within_passes text tables cs (within_of text tables cs c.take_locals.new.names (lang.commands c.in_ok-body.body) of c.in-Ok.ensures.made.0) (omega (arith, few, from, most)))

pub returns-in-Err-Limit-clause-fault : goal.returns-in-Err-Limit-clause-fault
returns-in-Err-Limit-clause-fault c =
    let text = c.args.text.now in
    let tables = c.args.tables.now in
    let cs = commands c.args.raw.now.body in
    let known = locals_known text cs c.new-names.result c.new-names.ensures c.in_ok-take_locals.ensures.fault in
    let of = made text tables cs c.new-names.result c.take_locals.new.names c.as_slice.result.now (lang.commands c.in_ok-body.body) c.new-names.ensures c.in_ok-take_locals.ensures.names c.as_slice.ensures c.in_ok-body.ensures in
    limit_decides text tables cs c.args.line true known
    (refused_passes text tables cs c.requires.parsed known (λ w. c.in-Err-Limit.ensures.made (within_as text tables cs c.take_locals.new.names (lang.commands c.in_ok-body.body) of w)))
