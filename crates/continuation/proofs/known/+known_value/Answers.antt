use Rattle.std.proofs.Common.{◌∷◌, Some, ap, sym, ◌∙◌, w64}
use Rattle.std.proofs.lemmas.Int.{to_z-of_z}
use Rattle.morty_base.specs.Names.{same_key}
use Rattle.txn_lang.specs.Keys.{entry}
use Rattle.txn_lang.proofs.Entries.{found_first, found_later}
use Rattle.continuation.proofs.known.+known_value.Goals as goal

pub returns-then-eq : goal.returns-then-eq
unfolding same_key
returns-then-eq t c =
    let first = entry c.first.inside.key c.first.inside.value in
    let split = c.in_ok-first.ensures.cases.0 ∙ ap (λ e. e ∷ c.in_ok-first.rest.now) (sym c.first.view_is) in
    ap Some (to_z-of_z w64 first.value c.first.invariant)
    ∙ found_first c.args.known.now c.in_ok-first.rest.now first c.args.key split (sym c.eq.ensures ∙ c.if-eq.true)

pub returns-else-eq : goal.returns-else-eq
unfolding same_key
returns-else-eq t c =
    let first = entry c.first.inside.key c.first.inside.value in
    let split = c.in_ok-first.ensures.cases.0 ∙ ap (λ e. e ∷ c.in_ok-first.rest.now) (sym c.first.view_is) in
    c.known_value.ensures
    ∙ found_later c.args.known.now c.in_ok-first.rest.now first c.args.key split (sym c.eq.ensures ∙ c.if-eq.false)
