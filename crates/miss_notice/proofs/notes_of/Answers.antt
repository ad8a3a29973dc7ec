use Rattle.std.proofs.Common.{◌<◌, ◌≤◌, ◌++◌, ◌∙◌, length, map, arith, ap, subst, List}
use Rattle.std.specs.Prelude.{filter, flat_map}
use Rattle.std.specs.Option.{option_to_list}
use Rattle.std.proofs.lemmas.List.{take_all}
use Rattle.mv_index.specs.declared.reader_list.Reader.{Reader}
use Rattle.mv_index.proofs.Keyed.{reads_from}
use Rattle.mv_index.specs.Records.{low_of}
use Rattle.miss_notice.specs.Envelope2.{sent_by}
use Rattle.miss_notice.specs.Notes.{notes_by}
use Rattle.miss_notice.proofs.DueNotes.{notes_next, pushed, reads_above, own_in, own_notes}
use Rattle.miss_notice.proofs.notes_of.Goals as goal

pub loop-reader-preserved : goal.loop-reader-preserved
loop-reader-preserved c = λ firsts h h' number s t.
    let rs = c.args.rec.now.readers.readers.items in
    let mine = reads_from c.args.key (low_of c.args.rec.now) in
    let own = filter mine rs in
    let xs = c.due_readers-reader-items.result.now in
    let i = c.loop-reader.reader-index in
    let within : i < length xs = omega arith in
    let here = c.due_readers-reader-items.ensures firsts h' s in
    notes_next (sent_by number) (notes_by firsts h h' number) xs own i _ c.loop-reader.out c.push_some.new.out (option_to_list c.note.result) (map
    (sent_by number) c.args.out.now) here within
    (c.loop-reader.invariant firsts h h' number s t)
    (pushed (sent_by number) c.loop-reader.out c.push_some.new.out (option_to_list c.note.result) c.in_ok-push_some.ensures)
    (c.note.ensures firsts h h' number s (t.each _ (own_in mine rs xs i _ here within))
    (reads_above firsts h' c.args.rec.now _ s (own_in mine rs xs i _ here within)))

pub returns : goal.returns
returns c = λ firsts h h' number s t.
    let own = filter (reads_from c.args.key (low_of c.args.rec.now)) c.args.rec.now.readers.readers.items in
    let past : length c.due_readers-reader-items.result.now ≤ c.loop-reader.reader-index = omega arith in
    c.loop-reader.invariant firsts h h' number s t
    ∙ (ap (λ l. map (sent_by number) c.args.out.now ++ flat_map (notes_by firsts h h' number) l) (take_all c.loop-reader.reader-index own
    (subst (λ (l : List Reader). length l ≤ c.loop-reader.reader-index) (c.due_readers-reader-items.ensures firsts h' s) past))
    ∙ ap (λ l. map (sent_by number) c.args.out.now ++ l) (own_notes firsts h h' number c.args.rec.now c.args.key s t))
