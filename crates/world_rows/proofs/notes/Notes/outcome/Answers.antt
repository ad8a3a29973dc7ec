-- One more committed execution of the notes.
use Rattle.std.proofs.Common.{◌≡◌, ◌∙◌, ◌++◌, ◌∷◌, [], Some, ap, sym}
use Rattle.std.specs.Prelude.{option_map}
use Rattle.world_rows.specs.Outcome.{committed_of, row_at, rows_at}
use Rattle.world_rows.proofs.CommittedRows.{Entry, gathered}
use Rattle.world_rows.proofs.notes.Notes.outcome.Goals as goal

pub loop-exec-preserved-in-Continue-branch-4 : goal.loop-exec-preserved-in-Continue-branch-4
loop-exec-preserved-in-Continue-branch-4 c =
    let s = c.args.self.now in
    let mail = c.args.mail.now in
    let d = committed_of c.in-Some-2.committed in
    let cs = c.loop-exec.invariant.1.0 in
    let x = c.in-Some.exec.now in
    let i = c.in-Some.number.now in
    let found : row_at s mail x i ≡ Some d = sym c.in_ok-committed.ensures ∙ ap (option_map committed_of) c.in-Some-2.is in (
      c.loop-exec.invariant.0,
      (
        cs ++ d ∷ [],
        c.in_ok-add.ensures c.args.firsts.now cs c.loop-exec.invariant.1.1,
        gathered (λ (e : Entry). row_at s mail e.0 e.1) cs c.loop-exec.exec-iterator c.next.new.self (x, i) d c.in-Some.ensures.steps found (rows_at s mail)
            c.loop-exec.invariant.1.2,
      ),
    )
