use Rattle.std.proofs.Common.{◌∙◌, ap, sym, map}
use Rattle.mv_index.specs.Records.{readers_of}
use Rattle.miss_notice.specs.Marks.{marked_by}
use Rattle.miss_notice.proofs.NotesTold.{unmarked}
use Rattle.miss_notice.proofs.tell.Goals as goal

pub returns-in-None-clause-marks : goal.returns-in-None-clause-marks
returns-in-None-clause-marks c = λ firsts h s.
    let rs = readers_of c.args.rec.now in
    unmarked rs ∙ ap (λ o. map (marked_by o) rs) (sym c.in-None.is)

pub returns-in-Some-clause-marks : goal.returns-in-Some-clause-marks
returns-in-Some-clause-marks c = λ firsts h s. c.mark.ensures.mark firsts h s ∙ ap (λ o. map (marked_by o) (readers_of c.args.rec.now)) (sym c.in-Some.is)
