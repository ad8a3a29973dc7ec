use Rattle.std.proofs.Common.{◌≡◌, ◌∙◌, ◌++◌, sym, subst, append-nil}
use Rattle.mv_index.proofs.UpTo.{entries_upto, upto_list}
use Rattle.mv_index.proofs.content_table.ContentTable.upto.Goals as goal

pub returns : goal.returns
returns c =
    let m = c.args.self.now.contents in
    let w = c.args.w in
    let out = c.loop-exec.out in
    let all = subst (λ r. out ++ entries_upto w r ≡ entries_upto w m.entries) c.in-None.ensures.steps.0 c.loop-exec.invariant.1 in
    upto_list m w out c.loop-exec.invariant.0 (sym (append-nil out) ∙ all)
