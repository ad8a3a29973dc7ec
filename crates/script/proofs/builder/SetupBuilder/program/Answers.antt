-- A program whose tables are known, whose name is new, and whose block is bound.
use Rattle.std.proofs.Common.{◌<◌, ◌++◌, ◌∷◌, [], ℕ, length, Err, sym, ap, ◌∙◌, subst, arith}
use Rattle.std.proofs.lemmas.Result.{err_from_is_err_and}
use Rattle.txn_lang.specs.declared.program.Prog.{Prog}
use Rattle.txn_parse.specs.Tree.{commands}
use Rattle.txn_parse.specs.Binding.{FaultIs, first_failing, table_checks, local_checks, limit_check}
use Rattle.txn_parse.proofs.NamesLemmas.{first_fault, none_first}
use Rattle.script.specs.declared.limits.TheConstants.{MOST_PROGRAMS}
use Rattle.script.specs.Meaning.{said_by}
use Rattle.script.specs.Checks.{name_checks}
use Rattle.script.proofs.BuilderLemmas.{behind_passed, with_program, program_found}
use Rattle.script.proofs.builder.SetupBuilder.program.Goals as goal

pub returns-in_err-check_tables-clause-fault : goal.returns-in_err-check_tables-clause-fault
returns-in_err-check_tables-clause-fault c =
    let p = err_from_is_err_and c.from_residual.result c.from_residual.ensures.1 in
    let text = c.args.text.now in
    let s = said_by c.args.self.now.setup in
    let body = commands c.args.prog.now.body in
    let f = c.in_err-check_tables.field-0.0 in
    rw (p.1, p.2) (first_fault (Unit {0}) (Unit {0}) (table_checks text s.tables body) (name_checks text s c.args.name ++ (local_checks text [] body ++ limit_check text s.tables body c.args.word.line ∷ [])) f
    (subst (λ ts. FaultIs {A = Unit {0}} (table_checks text ts body) (Err f)) c.as_slice.ensures c.in_err-check_tables.ensures))

pub returns-in_err-place-clause-fault : goal.returns-in_err-place-clause-fault
returns-in_err-place-clause-fault c =
    let p = err_from_is_err_and c.from_residual-in_err-place.result c.from_residual-in_err-place.ensures.1 in
    let text = c.args.text.now in
    let s = said_by c.args.self.now.setup in
    let body = commands c.args.prog.now.body in
    let f = c.in_err-place.field-0.0 in
    let later = local_checks text [] body ++ limit_check text s.tables body c.args.word.line ∷ [] in
    let known = ap (λ ts. first_failing (table_checks text ts body)) (sym c.as_slice.ensures) ∙ c.in_ok-check_tables.ensures in
    rw (p.1, p.2) (behind_passed (Unit {0}) (Unit {0}) (table_checks text s.tables body) (name_checks text s c.args.name ++ later) f known
    (first_fault ℕ (Unit {0}) (name_checks text s c.args.name) later f c.in_err-place.ensures.fault))

pub returns-in_err-prog-clause-fault : goal.returns-in_err-prog-clause-fault
returns-in_err-prog-clause-fault c =
    let p = err_from_is_err_and c.from_residual-in_err-prog.result c.from_residual-in_err-prog.ensures.1 in
    let text = c.args.text.now in
    let s = said_by c.args.self.now.setup in
    let body = commands c.args.prog.now.body in
    let f = c.in_err-prog.field-0.0 in
    let later = local_checks text [] body ++ limit_check text s.tables body c.args.word.line ∷ [] in
    let known = ap (λ ts. first_failing (table_checks text ts body)) (sym c.as_slice.ensures) ∙ c.in_ok-check_tables.ensures in
    rw (p.1, p.2) (behind_passed (Unit {0}) (Unit {0}) (table_checks text s.tables body) (name_checks text s c.args.name ++ later) f known
    (behind_passed Prog (Unit {0}) (name_checks text s c.args.name) later f c.in_ok-place.ensures.fault
    (subst (λ ts. FaultIs {A = Prog} (local_checks text [] body ++ limit_check text ts body c.args.word.line ∷ []) (Err f)) c.as_slice-2.ensures c.in_err-prog.ensures.fault)))

pub returns-clause-fault : goal.returns-clause-fault
returns-clause-fault c =
    let text = c.args.text.now in
    let s = said_by c.args.self.now.setup in
    let body = commands c.args.prog.now.body in
    let later = local_checks text [] body ++ limit_check text s.tables body c.args.word.line ∷ [] in
    let known = ap (λ ts. first_failing (table_checks text ts body)) (sym c.as_slice.ensures) ∙ c.in_ok-check_tables.ensures in
    none_first (table_checks text s.tables body) (name_checks text s c.args.name ++ later) known
    ∙ none_first (name_checks text s c.args.name) later c.in_ok-place.ensures.fault
    ∙ ap (λ ts. first_failing (local_checks text [] body ++ limit_check text ts body c.args.word.line ∷ [])) (sym c.as_slice-2.ensures) ∙ c.in_ok-prog.ensures.fault

pub returns-clause-indexed : goal.returns-clause-indexed
returns-clause-indexed c =
    let b = c.args.self.now in
    let few : length b.setup.progs < MOST_PROGRAMS = let w = c.in_ok-place.ensures.within in let e = c.in_ok-place.ensures.place in omega (arith, w, e) in
    with_program b c.add.new.self c.push.new.self _ c.requires.indexed c.in_ok-push.ensures.ok few
    (program_found b c.add.new.self c.token_text-bytes.result.now _ c.in_ok-name.name c.in_ok-place.place c.in_ok-add.ensures c.requires.indexed c.token_text-bytes.ensures c.in_ok-name.ensures c.in_ok-place.ensures.new c.in_ok-place.ensures.place)
