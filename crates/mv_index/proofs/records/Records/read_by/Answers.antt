use Rattle.std.proofs.Common.{subst, sym, false}
use Rattle.protocol.specs.Words.{Get}
use Rattle.mv_index.specs.Records.{StandsFor}
use Rattle.mv_index.proofs.VotesSame.{after_body}
use Rattle.mv_index.proofs.Rising.{in_order}
use Rattle.mv_index.proofs.Reading.{read_stands}
use Rattle.mv_index.proofs.records.Records.read_by.Goals as goal

pub returns-clause-ok : goal.returns-clause-ok
returns-clause-ok c = λ firsts h from to eid s above.
    let r = c.args.self.now in
    let h' = after_body h from to (Get (record { ver = c.args.ver; eid = eid }) c.args.key) in
    subst (λ l. StandsFor firsts h' (record r {
      readers = c.add-3.new.self;
      reader_keys = c.add.new.self;
      touched = c.add-2.new.self;
      low = l;
      broken = false;
    })) (sym c.earlier-self.ensures)
    (read_stands firsts h from to (record { ver = c.args.ver; eid = eid }) c.args.key r c.add-3.new.self c.add.new.self c.add-2.new.self s above
    (c.in_ok-add-3.ensures (in_order h r.readers.readers.items s.readers_are))
    (c.in_ok-add.ensures.rising s.keys_rise) (c.in_ok-add.ensures.has s.keys_rise)
    (c.in_ok-add-2.ensures.rising s.touched_rise) (c.in_ok-add-2.ensures.has s.touched_rise))

pub returns-clause-readers : goal.returns-clause-readers
returns-clause-readers c = λ firsts h s. c.in_ok-add-3.ensures (in_order h c.args.self.now.readers.readers.items s.readers_are)
