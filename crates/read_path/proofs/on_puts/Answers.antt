use Rattle.std.proofs.Common.{◌∙◌, ap, sym, subst, true, false, refl}
use Rattle.protocol.specs.Words.{before, Puts}
use Rattle.mv_index.specs.Records.{StandsFor}
use Rattle.mv_index.proofs.Taken.{not_taken, takes_by_version, put_stands}
use Rattle.read_path.proofs.on_puts.Goals as goal

pub returns-then-is_before-clause-stands : goal.returns-then-is_before-clause-stands
returns-then-is_before-clause-stands c = λ firsts h from to s d.
    let above = ap (λ w. before w c.args.exec.ver) (sym d) ∙ sym c.if-is_before.ensures in
    put_stands firsts h (record { from = from; to = to; body = Puts c.args.exec c.args.writes.now }) c.put.result c.put.new.self (takes_by_version h
    (Puts c.args.exec c.args.writes.now) true above refl) (c.put.ensures.ok firsts h from to s above)

pub returns-else-is_before-clause-stands : goal.returns-else-is_before-clause-stands
returns-else-is_before-clause-stands c = λ firsts h from to s d.
    subst (λ g. StandsFor firsts g c.args.rec.now) (not_taken h (record { from = from; to = to; body = Puts c.args.exec c.args.writes.now })
    (takes_by_version h (Puts c.args.exec c.args.writes.now) false (ap (λ w. before w c.args.exec.ver) (sym d) ∙ sym c.if-is_before.ensures) refl)) s
