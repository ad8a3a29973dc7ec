use Rattle.std.proofs.Common.{◌∙◌, ◌||◌, ap, sym, subst, map}
use Rattle.std.specs.Prelude.{not}
use Rattle.mv_index.specs.ReaderList.{reader_of}
use Rattle.mv_index.specs.Records.{StandsFor}
use Rattle.mv_index.proofs.Rising.{in_order}
use Rattle.mv_index.proofs.Told.{told_stands, told_names, told_there}
use Rattle.mv_index.proofs.records.Records.mark.Goals as goal

pub returns-clause-stands : goal.returns-clause-stands
returns-clause-stands c = λ firsts h s.
    let r = c.args.self.now in
    let rs = r.readers.readers.items in
    let told = c.mark.ensures (in_order h rs s.readers_are) in
    subst (λ a. StandsFor firsts h (record r { readers = c.mark.new.self; all_touched = a; low = c.earlier-self.result })) (sym c.either-self.ensures)
    (subst (λ l. StandsFor firsts h (record r { readers = c.mark.new.self; all_touched = r.all_touched || not c.has-listed.result; low = l }))
    (sym c.earlier-self.ensures)
    (told_stands firsts h r c.args.key c.args.ver c.mark.new.self c.has-listed.result s
    (ap (map reader_of) told ∙ told_names c.args.key c.args.ver c.args.held rs)
    (told_there r c.args.key c.args.ver c.args.held c.mark.new.self.readers.items told)
    (c.has-listed.ensures s.touched_rise)))

pub returns-clause-mark : goal.returns-clause-mark
returns-clause-mark c = λ firsts h s. c.mark.ensures (in_order h c.args.self.now.readers.readers.items s.readers_are)
