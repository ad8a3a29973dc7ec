use Rattle.std.proofs.Common.{◌∷◌, [], ◌∙◌, ap}
use Rattle.protocol.specs.Words.{Client}
use Rattle.protocol.specs.Replica.Readers.{envelope_from}
use Rattle.mv_index.specs.ReaderList.{reader_of}
use Rattle.miss_notice.proofs.DueNotes.{note_none, note_some}
use Rattle.miss_notice.proofs.changed.Goals as goal

pub returns-then-is_same_held : goal.returns-then-is_same_held
returns-then-is_same_held c = λ firsts h h' number s told above.
    note_none firsts h h' number (reader_of c.args.reader) c.args.told c.latest_below-seen.result _ told (c.latest_below-seen.ensures firsts h' s) c.is_same_held.ensures c.if-is_same_held.true

pub returns : goal.returns
returns c = λ firsts h h' number s told above.
    ap (λ b. envelope_from number (Client c.args.reader.ver.client) b ∷ []) c.note_body.ensures
    ∙ note_some firsts h h' number (reader_of c.args.reader) c.args.told c.latest_below-seen.result _ _ told (c.latest_below-seen.ensures firsts h' s) c.is_same_held.ensures c.if-is_same_held.false above (c.gone-gone.ensures firsts h' s)
