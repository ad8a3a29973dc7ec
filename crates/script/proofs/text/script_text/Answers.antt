use Rattle.std.proofs.Common.{ℕ, List, sym, ◌∙◌, subst}
use Rattle.script.specs.Meaning.{said_by}
use Rattle.script.specs.Texts.{IsSetupOf}
use Rattle.script.proofs.CanonicalIsSaid.{canonical_is_said}
use Rattle.script.proofs.TextLemmas.{script_printed}
use Rattle.script.proofs.text.script_text.Goals as goal

pub returns-clause-text : goal.returns-clause-text
returns-clause-text c =
    c.into_text.ensures
    ∙ script_printed c.args.setup.now _ _ _ _ _ _ _ _ _ _ _ _ _ _ _ _ _
    c.as_slice-tables.ensures c.as_slice.ensures c.as_slice-2.ensures c.as_slice-3.ensures c.as_slice-4.ensures c.as_slice-5.ensures c.new-out.ensures
    c.in_ok-print_settings.ensures c.in_ok-print_tables.ensures c.in_ok-print_firsts.ensures c.in_ok-print_programs.ensures c.in_ok-print_clients.ensures
    c.in_ok-print_net.ensures c.in_ok-end_line.ensures c.in_ok-print_plan.ensures c.in_ok-word.ensures c.in_ok-end_line-2.ensures

pub returns-clause-says : goal.returns-clause-says
returns-clause-says c is =
    let setup = c.args.setup.now in
    subst (λ (text : List ℕ). IsSetupOf text setup) (sym (returns-clause-text c)) (canonical_is_said (said_by setup) is)
