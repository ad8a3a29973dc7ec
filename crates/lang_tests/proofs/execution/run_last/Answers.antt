use Rattle.std.proofs.Common.{◌∙◌, ap, refl, rules}
use Rattle.continuation.specs.declared.segment.Job.{Job}
use Rattle.lang_tests.proofs.ExecutionLemmas.{fits_only, only_code, stands_again}
use Rattle.lang_tests.proofs.execution.run_last.Goals as goal

pub run_job-requires : goal.run_job-requires
run_job-requires c = (
  search rules,
  fits_only c.as_slice.result.now c.args.code c.in_ok-share.field-0 c.args.log (record { client = 1; prog = 0; serial = 0; at = c.args.at })
      c.requires (c.as_slice.ensures.value ∙ c.in_ok-codes.ensures.items) c.in_ok-share.ensures refl,
)

pub returns : goal.returns
returns c =
    let ran = c.in_ok-last.last.code in
    let same = only_code c.as_slice.result.now c.in_ok-share.field-0 ran (c.as_slice.ensures.value ∙ c.in_ok-codes.ensures.items) c.in_ok-last.ensures.code in
    stands_again c.args.code ran c.args.log c.take.new.self c.args.at c.in_ok-last.last.job.at c.seg.result.now c.requires
    (same ∙ c.in_ok-share.ensures) (ap (λ (j : Job). j.at) c.in_ok-last.ensures.job) c.seg.ensures.run
    c.in_ok-take.ensures.stands c.in_ok-take.ensures.whole
