-- One more try, or one that was told before.
use Rattle.std.proofs.Common.{refl}
use Rattle.world_rows.specs.Notes.{attempt_of}
use Rattle.world_rows.proofs.NotesLemmas.{begun_more, begun_again}
use Rattle.world_rows.proofs.notes.Notes.begun.Goals as goal

pub returns-clause-more : goal.returns-clause-more
returns-clause-more c = λ mail f g n b.
    begun_more mail f g _ _ (attempt_of c.args.ver c.args.txn c.args.attempt) n b refl refl c.in_ok-insert.ensures.updates.0

pub returns-clause-again : goal.returns-clause-again
returns-clause-again c = λ mail f n h.
    begun_again mail f _ _ (attempt_of c.args.ver c.args.txn c.args.attempt) n h refl refl c.in_ok-insert.ensures.updates.0
