use Rattle.std.proofs.Common.{◌≡◌, Some, List, length, refl, ap, sym, subst, ◌∙◌, ℕ}
use Rattle.std.specs.Prelude.{slice_get, slice_index_or}
use Rattle.std.proofs.lemmas.Option.{slice_get_within, slice_get_read}
use Rattle.flat_code.specs.Operation.{Flat}
use Rattle.continuation.specs.Job.{CountsAtMost}
use Rattle.continuation.proofs.Resuming.{none_counted}
use Rattle.continuation.proofs.done.run_job.Goals as goal

-- the code that is shared is the one that the job names
named : (codes : List Flat) (i n : ℕ) (code read shared : Flat) → slice_get codes i ≡ Some code → n ≡ i → read ≡ slice_index_or codes n read → shared ≡ read →
    slice_get codes i ≡ Some shared
named codes i n code read shared there same is copy =
    slice_get_read codes (length codes) i read refl (slice_get_within codes i code there) (is ∙ ap (λ m. slice_index_or codes m read) same)
    ∙ ap Some (sym copy)

one : (codes : List Flat) (i : ℕ) (code shared : Flat) → slice_get codes i ≡ Some shared → slice_get codes i ≡ Some code → shared ≡ code
one codes i code shared h e = let same : Some shared ≡ Some code = sym h ∙ e in cc

pub returns-in_err-code-clause-at_most : goal.returns-in_err-code-clause-at_most
returns-in_err-code-clause-at_most g c = λ code there. none_counted code c.args.job.at c.args.steps.now

pub returns-in_err-seg-clause-at_most : goal.returns-in_err-seg-clause-at_most
returns-in_err-seg-clause-at_most g c = λ code there.
    let codes = c.args.codes.now in
    let i = c.args.job.prog in
    let h = named codes i c.from.result c.requires.code c.index-codes-from.result c.in_ok-code.code
    c.requires.there c.from.ensures c.index-codes-from.is c.in_ok-code.ensures in
    subst (λ x. CountsAtMost x c.args.job.at c.args.steps.now c.run_at.new.steps) (one codes i code c.in_ok-code.code h there) c.run_at.ensures.at_most

pub returns-clause-code : goal.returns-clause-code
returns-clause-code g c =
    named c.args.codes.now c.args.job.prog c.from.result c.requires.code c.index-codes-from.result c.in_ok-code.code
    c.requires.there c.from.ensures c.index-codes-from.is c.in_ok-code.ensures

pub returns-clause-at_most : goal.returns-clause-at_most
returns-clause-at_most g c = λ code there.
    let codes = c.args.codes.now in
    let i = c.args.job.prog in
    let h = named codes i c.from.result c.requires.code c.index-codes-from.result c.in_ok-code.code
    c.requires.there c.from.ensures c.index-codes-from.is c.in_ok-code.ensures in
    subst (λ x. CountsAtMost x c.args.job.at c.args.steps.now c.run_at.new.steps) (one codes i code c.in_ok-code.code h there) c.run_at.ensures.at_most
