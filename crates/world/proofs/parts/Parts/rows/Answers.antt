-- What the notes report is what is reported of the world.
use Rattle.std.proofs.Common.{◌≡◌, Result, Ok, Err, refl, ap, sym, subst, ◌∙◌}
use Rattle.std.specs.Prelude.{IfOk}
use Rattle.std.proofs.lemmas.Result.{IfOk-at_ok}
use Rattle.protocol.specs.World.State.{Plan}
use Rattle.protocol.specs.World.Committed.{nodes}
use Rattle.world_rows.specs.Rows.{rows_of}
use Rattle.world_rows.specs.Report.{AreProgress}
use Rattle.world.proofs.parts.Parts.rows.Goals as goal

if_ok_given : {A E : Type 0} (r : Result A E) (S : A → Type 0) → ((a : A) → r ≡ Ok a → S a) → IfOk r S
if_ok_given (Ok a) S f = f a refl
if_ok_given (Err e) S f = tt

pub returns : goal.returns
returns c = if_ok_given c.rows.result _ (λ a made s l w p is told.
    let mail = c.mail-mail.ensures (nodes l.plan) w.mail w.delivered w.stopped is.boxes in
    let firsts = c.as_slice-firsts.ensures ∙ is.firsts ∙ ap (λ (q : Plan). q.firsts) p in
    let progress = subst (AreProgress s w) (sym c.as_slice.ensures) (c.in_ok-clients.ensures.told s l w p is) in
    IfOk-at_ok (λ r. r ≡ rows_of s w) made (c.rows.ensures s w is.notes mail firsts progress is.moved told))
