use Rattle.std.proofs.Common.{◌<◌, ◌≤◌, ◌++◌, ◌∷◌, [], ◌∙◌, take, length, get_or, arith, ap, sym}
use Rattle.std.specs.Prelude.{flat_map}
use Rattle.std.proofs.lemmas.List.{take_more, take_all, flat_map_more}
use Rattle.protocol.specs.Words.{Key}
use Rattle.mv_index.specs.Records.{listed}
use Rattle.mv_index.proofs.Told.{got}
use Rattle.miss_notice.specs.Notes.{notes_by, notes_at}
use Rattle.miss_notice.proofs.DueNotes.{due_listed}
use Rattle.miss_notice.proofs.notes.Goals as goal

pub loop-i-preserved : goal.loop-i-preserved
loop-i-preserved c = λ firsts h h' number s t.
    let f = notes_at (notes_by firsts h h' number) c.args.rec.now.readers.readers.items in
    let ks = listed c.args.rec.now in
    let k = c.touched_key.result in
    let i = c.loop-i.i in
    let within : i < length ks = omega arith in
    c.in_ok-notes_of.ensures firsts h h' number s t
    ∙ (ap (λ l. l ++ f k) (c.loop-i.invariant firsts h h' number s t)
    ∙ (ap (λ (x : Key). flat_map f (take i ks) ++ f x) (sym (got ks i k k c.touched_key.ensures))
    ∙ (flat_map_more f [] (take i ks) (get_or ks i k)
    ∙ ap (flat_map f) (sym (take_more ks i k within)))))

pub returns : goal.returns
returns c = λ firsts h m number s t.
    let f = notes_at (notes_by firsts h (m ∷ h) number) c.args.rec.now.readers.readers.items in
    let past : length (listed c.args.rec.now) ≤ c.loop-i.i = omega arith in
    c.loop-i.invariant firsts h (m ∷ h) number s t
    ∙ (ap (flat_map f) (take_all c.loop-i.i (listed c.args.rec.now) past)
    ∙ due_listed firsts h m number c.args.rec.now s t)
