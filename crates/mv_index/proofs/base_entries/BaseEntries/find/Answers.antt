use Rattle.std.proofs.Common.{◌≡◌, ◌∙◌, ap, sym, subst, List}
use Rattle.std.specs.Prelude.{slice_get}
use Rattle.std.specs.Option.{option_to_list}
use Rattle.protocol.specs.Words.{BaseEntry, key_before}
use Rattle.mv_index.specs.BaseEntries.{EntriesRise, entry_with}
use Rattle.mv_index.specs.ReaderList.{prefix}
use Rattle.mv_index.proofs.BaseSearch.{entry_found}
use Rattle.mv_index.proofs.base_entries.BaseEntries.find.Goals as goal

pub returns : goal.returns
returns c =
    let k = c.args.key in
    let bs = c.args.self.now in
    let first : c.as_slice.result.now ≡ bs = c.as_slice.ensures ∙ c.self.view_is in
    let second : c.as_slice-2.result.now ≡ bs = c.as_slice-2.ensures ∙ c.self.view_is in
    let rise : EntriesRise bs = subst EntriesRise c.self.view_is c.self.invariant in
    let at : c.place-at.result ≡ prefix (λ (b : BaseEntry). key_before b.key k) bs = c.place-at.ensures.place (subst EntriesRise (sym first) rise)
    ∙ ap (prefix (λ (b : BaseEntry). key_before b.key k)) first in
    entry_found k bs rise
    ∙ ap option_to_list (sym (c.entry_at.ensures
    ∙ (ap (λ (l : List BaseEntry). entry_with k (slice_get l c.place-at.result)) second ∙ ap (λ i. entry_with k (slice_get bs i)) at)))
