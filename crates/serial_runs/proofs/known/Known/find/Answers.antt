use Rattle.std.proofs.Common.{[], ◌∷◌, ◌++◌, Some, ap, sym, ◌∙◌, w64}
use Rattle.std.proofs.lemmas.Int.{to_z-of_z}
use Rattle.morty_base.specs.Names.{same_key}
use Rattle.txn_lang.specs.Keys.{entry}
use Rattle.txn_lang.proofs.Entries.{found_newest, found_older}
use Rattle.serial_runs.proofs.known.Known.find.Goals as goal

pub returns-then-eq : goal.returns-then-eq
unfolding same_key
returns-then-eq c =
    let last = entry c.last.inside.key c.last.inside.value in
    let split = c.in-Some.ensures.cases.0 ∙ ap (λ e. c.in-Some.front.now ++ e ∷ []) (sym c.last.view_is) in
    ap Some (to_z-of_z w64 last.value c.last.invariant)
    ∙ found_newest c.entries.rest.now c.in-Some.front.now last c.args.key split (sym c.eq.ensures ∙ c.if-eq.true)
    ∙ c.entries.invariant

pub entries-preserved : goal.entries-preserved
unfolding same_key
entries-preserved c =
    let last = entry c.last.inside.key c.last.inside.value in
    let split = c.in-Some.ensures.cases.0 ∙ ap (λ e. c.in-Some.front.now ++ e ∷ []) (sym c.last.view_is) in
    found_older c.entries.rest.now c.in-Some.front.now last c.args.key split (sym c.eq.ensures ∙ c.if-eq.false)
    ∙ c.entries.invariant
