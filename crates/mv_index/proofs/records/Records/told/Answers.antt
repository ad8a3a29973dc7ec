use Rattle.std.proofs.Common.{◌∙◌, ◌||◌, ap, sym, subst, refl, map, Some, get_or}
use Rattle.std.specs.Prelude.{not}
use Rattle.mv_index.specs.declared.reader_list.Reader.{Reader}
use Rattle.mv_index.specs.ReaderList.{reader_of}
use Rattle.mv_index.specs.Records.{StandsFor}
use Rattle.mv_index.proofs.Told.{told_stands, set_map, set_there, got}
use Rattle.mv_index.proofs.records.Records.told.Goals as goal

pub returns-clause-stands : goal.returns-clause-stands
returns-clause-stands c = λ firsts h s.
    let r = c.args.self.now in
    let rs = r.readers.readers.items in
    let d = c.get-reader.result in
    let here = ap (λ (x : Reader). x.key) (got rs c.args.i d d c.get-reader.ensures) in
    let at = ap (λ (x : Reader). x.ver) (got rs c.args.i d d c.get-reader.ensures) in
    subst (λ a. StandsFor firsts h (record r { readers = c.tell.new.self; all_touched = a; low = c.earlier-self.result })) (sym c.either-self.ensures)
    (subst (λ l. StandsFor firsts h (record r { readers = c.tell.new.self; all_touched = r.all_touched || not c.has-listed.result; low = l }))
    (sym c.earlier-self.ensures)
    (told_stands firsts h r d.key d.ver c.tell.new.self c.has-listed.result s
    (ap (λ l. map reader_of l) (c.tell.ensures d) ∙ set_map reader_of rs c.args.i (record (get_or rs c.args.i d) { told = Some c.args.held }) d c.requires refl)
    (set_there r c.args.i d c.args.held d.key d.ver c.tell.new.self.readers.items c.requires here at (c.tell.ensures d))
    (c.has-listed.ensures s.touched_rise)))
