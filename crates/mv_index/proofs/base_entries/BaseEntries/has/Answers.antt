use Rattle.std.proofs.Common.{◌∙◌, sym, Some, None}
use Rattle.protocol.specs.Words.{BaseEntry, same_key, same_wid}
use Rattle.mv_index.proofs.BaseSearch.{any_found, any_one}
use Rattle.mv_index.proofs.base_entries.BaseEntries.has.Goals as goal

pub returns-in-None : goal.returns-in-None
returns-in-None c =
    sym (any_found (λ (b : BaseEntry). same_key c.args.key b.key) (λ (b : BaseEntry). same_wid c.args.wid b.wid) c.args.self.now None c.in-None.ensures)

pub returns-in-Some : goal.returns-in-Some
returns-in-Some c =
    let e = c.in-Some.entry in
    c.is_same_wid.ensures
    ∙ (any_one (λ (b : BaseEntry). same_wid c.args.wid b.wid) e
    ∙ sym (any_found (λ (b : BaseEntry). same_key c.args.key b.key) (λ (b : BaseEntry). same_wid c.args.wid b.wid) c.args.self.now (Some e) c.in-Some.ensures))
