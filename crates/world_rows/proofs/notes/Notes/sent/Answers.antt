-- The notes of one more envelope.
use Rattle.std.proofs.Common.{◌∙◌, cond, true, ap}
use Rattle.std.specs.BTreeMap.{get}
use Rattle.std.specs.BTreeSet.{contains}
use Rattle.world_rows.specs.Orders.{exec_cmp}
use Rattle.world_rows.specs.Notes.{is_of, committed_by}
use Rattle.world_rows.proofs.NotesLemmas.{sent_more}
use Rattle.world_rows.proofs.notes.Notes.sent.Goals as goal

pub returns : goal.returns
returns c = λ mail f n e.
    sent_more mail f c.args.number c.args.self.now c.note_commit.new.self c.args.envelope.now n e
    (λ x. ap (λ t. get exec_cmp t x) c.in_ok-note_commit.ensures.prepared ∙ c.in_ok-note_prepare.ensures.prepared x)
    (λ x. c.in_ok-note_commit.ensures.committed x
    ∙ ap (λ s. cond (is_of x (committed_by c.args.envelope.now.body)) true (contains exec_cmp s x)) c.in_ok-note_prepare.ensures.committed)
    (c.in_ok-note_commit.ensures.tries ∙ c.in_ok-note_prepare.ensures.tries)
