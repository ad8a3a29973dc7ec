use Rattle.std.proofs.Common.{◌∙◌, ◌||◌, ap, subst, cond, None, List}
use Rattle.std.specs.Prelude.{OnOk}
use Rattle.std.specs.List.{list_any}
use Rattle.protocol.specs.Words.{Write, same_key}
use Rattle.protocol.specs.Replica.Held.{kept_put}
use Rattle.protocol.specs.Replica.Votes.{writes_key}
use Rattle.mv_index.specs.HeldByExec.{kept_writes}
use Rattle.mv_index.specs.KeyList.{Lists}
use Rattle.mv_index.proofs.touched.touch_kept.Goals as goal

pub returns-in-None : goal.returns-in-None
returns-in-None c = λ firsts h s above rising.
    let none = c.in-None.ensures firsts h s ∙ ap (λ t. cond t (kept_put h c.args.ver) None) above in
    record {
      rising = rising;
      has = λ k. ap (λ o. writes_key k (kept_writes o) || list_any (same_key k) c.args.touched.now.keys.items) none;
    }

pub returns-in-Some : goal.returns-in-Some
returns-in-Some c = λ firsts h s above rising.
    let kept = c.as_slice.ensures ∙ ap kept_writes (c.in-Some.ensures firsts h s ∙ ap (λ t. cond t (kept_put h c.args.ver) None) above) in
    subst (λ (ws : List Write). OnOk c.touch.result (Lists (λ k. writes_key k ws) c.args.touched.now c.touch.new.touched)) kept (c.touch.ensures rising)
