use Rattle.std.proofs.Common.{◌≡◌, ◌∙◌, Bool, true, false, cond, Some, Option, ap, refl, ◌&&◌}
use Rattle.std.specs.Option.{option_or}
use Rattle.std.specs.Bool.{then_some}
use Rattle.protocol.specs.Words.{same_exec, same_key}
use Rattle.protocol.specs.declared.Held.{Held}
use Rattle.mv_index.specs.WriteIndex.{held_at}
use Rattle.mv_index.proofs.PlaceOrder.{place_eq}
use Rattle.mv_index.proofs.write_index.WriteIndex.set.Goals as goal

set_at : (a b : Bool) (h : Held) (old : Option Held) → cond (a && b) (Some h) old ≡ cond a (option_or (then_some b h) old) old
set_at true true h old = refl
set_at true false h old = refl
set_at false b h old = refl

pub returns : goal.returns
returns c = λ k x.
    let new = c.named_write-held.result in
    c.in_ok-insert.ensures.updates.0 (record { key = k; exec = x })
    ∙ (ap (λ t. cond t (Some new) (held_at c.args.self.now k x))
    (place_eq (record { key = c.args.write.key; exec = c.args.exec }) (record { key = k; exec = x }))
    ∙ (set_at (same_exec x c.args.exec) (same_key k c.args.write.key) new (held_at c.args.self.now k x)
    ∙ ap (λ h. cond (same_exec x c.args.exec) (option_or (then_some (same_key k c.args.write.key) h) (held_at c.args.self.now k x))
    (held_at c.args.self.now k x)) c.named_write-held.ensures))
