use Rattle.std.proofs.Common.{◌<◌, ◌≤◌, ◌∙◌, length, ap, arith}
use Rattle.mv_index.specs.Records.{readers_of}
use Rattle.miss_notice.specs.declared.Envelope2.{Envelope2}
use Rattle.miss_notice.specs.Marks.{mark_in}
use Rattle.miss_notice.proofs.NotesTold.{left_next, left_none}
use Rattle.miss_notice.proofs.tell_all.Goals as goal

pub loop-note-init : goal.loop-note-init
loop-note-init c = (λ firsts h s. s, λ firsts h s a. a)

pub loop-note-preserved : goal.loop-note-preserved
loop-note-preserved c = (
  λ firsts h s. c.tell.ensures.stands firsts h (c.loop-note.invariant.0 firsts h s),
  λ firsts h s a.
      let within : c.loop-note.note-index < length c.args.notes.now = omega arith in
      left_next firsts h c.args.notes.now c.loop-note.note-index c.note-item.result c.mark_of.result (readers_of c.loop-note.rec) (readers_of c.tell.new.rec) within
      (c.loop-note.invariant.1 firsts h s a) (c.mark_of.ensures ∙ ap (λ (n : Envelope2). mark_in n.body) c.note-item.is)
      (c.tell.ensures.marks firsts h (c.loop-note.invariant.0 firsts h s)),
)

pub returns-clause-told : goal.returns-clause-told
returns-clause-told c = λ firsts h s a.
    let past : length c.args.notes.now ≤ c.loop-note.note-index = omega arith in
    record { each = left_none firsts h c.args.notes.now c.loop-note.note-index (readers_of c.loop-note.rec) past (c.loop-note.invariant.1 firsts h s a) }
