use Rattle.std.proofs.Common.{◌∙◌, ◌||◌, ◌&&◌, ap, List}
use Rattle.std.specs.List.{list_any}
use Rattle.protocol.specs.Words.{same_wid, same_key, BaseEntry}
use Rattle.protocol.specs.declared.Held.{Held}
use Rattle.protocol.specs.Replica.Taken.{base}
use Rattle.protocol.specs.Replica.Held.{first_held}
use Rattle.mv_index.specs.WriteIndex.{is_named}
use Rattle.mv_index.specs.HeldByExec.{sure_by}
use Rattle.mv_index.proofs.Best.{exec_of}
use Rattle.mv_index.proofs.Holding.{holds_is}
use Rattle.mv_index.proofs.HoldingsLemmas.{sure_are}
use Rattle.mv_index.proofs.holdings.Holdings.holds.Goals as goal

pub returns : goal.returns
returns c = λ firsts h s.
    let k = c.args.key in
    let w = c.args.wid in
    let first = c.is_same_wid-first.ensures ∙ ap (λ (a : Held). same_wid w a.wid) (c.held.ensures ∙ s.firsts_are k) in
    let based = c.has-based.ensures ∙ ap (λ (bs : List BaseEntry). list_any (λ b. same_key k b.key && same_wid w b.wid) bs) s.base_is in
    let sure = c.is_wid-sure.ensures ∙ ap (is_named w) (c.write_at.ensures ∙ sure_are firsts h c.args.self.now s k (exec_of w)) in
    let unsure = c.is_wid-unsure.ensures ∙ ap (is_named w) (c.at.ensures ∙ s.open_are.held_are k (exec_of w)) in
    c.or-3.ensures
    ∙ (ap (λ t. t || c.or-2.result) first
    ∙ (ap (λ t. same_wid w (first_held firsts k).wid || t) (c.or-2.ensures
    ∙ (ap (λ t. t || c.or.result) based
    ∙ ap (λ t. list_any (λ (b : BaseEntry). same_key k b.key && same_wid w b.wid) (base h) || t) (c.or.ensures
    ∙ (ap (λ t. t || c.is_wid-unsure.result) sure ∙ ap (λ t. is_named w (sure_by h k (exec_of w)) || t) unsure))))
    ∙ holds_is firsts h k w))
