use Rattle.std.proofs.Common.{[], ◌∷◌, ◌++◌, Some, ap, sym, ◌∙◌, w64}
use Rattle.std.proofs.lemmas.Int.{to_z-of_z}
use Rattle.morty_base.specs.Names.{same_key}
use Rattle.txn_lang.specs.Keys.{entry}
use Rattle.txn_lang.proofs.Entries.{found_newest, found_older}
use Rattle.continuation.proofs.known.+last_written.Goals as goal

pub returns-then-eq : goal.returns-then-eq
unfolding same_key
returns-then-eq t c =
    let last = entry c.last.inside.key c.last.inside.value in
    let split = c.in_ok-last.ensures.cases.0 ∙ ap (λ e. c.in_ok-last.front.now ++ e ∷ []) (sym c.last.view_is) in
    ap Some (to_z-of_z w64 last.value c.last.invariant)
    ∙ found_newest c.args.wrote.now c.in_ok-last.front.now last c.args.key split (sym c.eq.ensures ∙ c.if-eq.true)

pub returns-else-eq : goal.returns-else-eq
unfolding same_key
returns-else-eq t c =
    let last = entry c.last.inside.key c.last.inside.value in
    let split = c.in_ok-last.ensures.cases.0 ∙ ap (λ e. c.in_ok-last.front.now ++ e ∷ []) (sym c.last.view_is) in
    c.last_written.ensures
    ∙ found_older c.args.wrote.now c.in_ok-last.front.now last c.args.key split (sym c.eq.ensures ∙ c.if-eq.false)
