use Rattle.std.proofs.Common.{◌∙◌, ◌&&◌, ap, sym, Some, None}
use Rattle.protocol.specs.Words.{BaseEntry, before, same_key}
use Rattle.mv_index.proofs.BaseSearch.{any_found, any_one}
use Rattle.mv_index.proofs.base_entries.BaseEntries.is_missed.Goals as goal

pub returns-in-None : goal.returns-in-None
returns-in-None c =
    let r = c.args.read in
    sym (any_found (λ (b : BaseEntry). same_key r.key b.key) (λ (b : BaseEntry). before b.wid.ver c.args.ver
    && before r.wid.ver b.wid.ver) c.args.self.now None c.in-None.ensures)

pub returns-then-is_before : goal.returns-then-is_before
returns-then-is_before c =
    let r = c.args.read in
    let e = c.in-Some.entry in
    let below = sym c.is_before.ensures ∙ c.if-is_before.true in
    c.is_before-then-is_before.ensures
    ∙ (sym (ap (λ t. t && before r.wid.ver e.wid.ver) below)
    ∙ (any_one (λ (b : BaseEntry). before b.wid.ver c.args.ver && before r.wid.ver b.wid.ver) e
    ∙ sym (any_found (λ (b : BaseEntry). same_key r.key b.key) (λ (b : BaseEntry). before b.wid.ver c.args.ver
    && before r.wid.ver b.wid.ver) c.args.self.now (Some e) c.in-Some.ensures)))

pub returns-else-is_before : goal.returns-else-is_before
returns-else-is_before c =
    let r = c.args.read in
    let e = c.in-Some.entry in
    let above = sym c.is_before.ensures ∙ c.if-is_before.false in
    c.if-is_before.false
    ∙ (sym (ap (λ t. t && before r.wid.ver e.wid.ver) above)
    ∙ (any_one (λ (b : BaseEntry). before b.wid.ver c.args.ver && before r.wid.ver b.wid.ver) e
    ∙ sym (any_found (λ (b : BaseEntry). same_key r.key b.key) (λ (b : BaseEntry). before b.wid.ver c.args.ver
    && before r.wid.ver b.wid.ver) c.args.self.now (Some e) c.in-Some.ensures)))
