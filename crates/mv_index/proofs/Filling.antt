-- One more write of an execution.
use Rattle.std.proofs.Common.{◌≡◌, ◌∙◌, Bool, true, false, cond, Option, ap, sym}
use Rattle.std.specs.Option.{option_or}
use Rattle.protocol.specs.declared.Held.{Held}
use Rattle.mv_index.proofs.Growth.{option_or_assoc}

pub fill_more : (b : Bool) (written last more old cur new : Option Held) → new ≡ cond b (option_or written cur) cur → cur ≡ cond b (option_or last old) old →
    more ≡ option_or written last → new ≡ cond b (option_or more old) old
fill_more true written last more old cur new e f g = e
    ∙ (ap (option_or written) f ∙ (sym (option_or_assoc written last old) ∙ ap (λ o. option_or o old) (sym g)))
fill_more false written last more old cur new e f g = e ∙ f
