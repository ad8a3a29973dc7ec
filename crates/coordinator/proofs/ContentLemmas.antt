-- The content of an execution that ended is the one that the protocol prepares.
use Rattle.std.proofs.Common.{◌≡◌, List, [], ◌∷◌, map, Option, Some, None, cond, refl, ap, sym, ◌∙◌}
use Rattle.morty_base.specs.declared.names.Ending.{Ending}
use Rattle.morty_base.specs.declared.names.Ending.TheVariants.{Done, Abort, Overflow, ZeroDivisor}
use Rattle.msg.specs.declared.Content.{Content}
use Rattle.msg.specs.declared.Write.{Write}
use Rattle.protocol.specs.declared.Held.{Held}
use Rattle.txn_lang.specs.Program.{replay_of}
use Rattle.txn_lang.specs.Runs.{kept_at}
use Rattle.continuation.specs.declared.segment.Next.{Next}
use Rattle.continuation.specs.declared.segment.Next.TheVariants as next
use Rattle.exec_log.specs.declared.read.LogRead.{LogRead}
use Rattle.exec_log.specs.Entries.{read_of, write_entries}
use Rattle.exec_log.specs.Log.{answers_in, ending_by}
use Rattle.exec_log.specs.Standing.{IsContentOf}
use Rattle.protocol.specs.Client.State.{is_done, reads_of}
use Rattle.protocol_plans.specs.Scripted.{write_of}
use Rattle.coordinator.specs.Answers.{answers_with, keys_in}
use Rattle.coordinator.specs.Execution.{Loaded, StandsFor, content_of}
use Rattle.coordinator.specs.declared.execution.Execution.{Execution}
use Rattle.coordinator.proofs.ShownWalk.{writes_back, done_followed}

reads_with : (reads : List LogRead) (nexts : List (Option Held)) → reads_of (keys_in reads) (answers_with reads nexts) ≡ map read_of reads
reads_with [] nexts = refl
reads_with (r ∷ reads) [] = ap (λ l. read_of r ∷ l) (reads_with reads [])
reads_with (r ∷ reads) (h ∷ nexts) = ap (λ l. read_of r ∷ l) (reads_with reads nexts)

kept_writes : (how : Ending) (ws : List Write) → map write_of (kept_at (Some how) (write_entries ws)) ≡ cond (is_done how) ws []
kept_writes Done ws = writes_back ws
kept_writes Abort ws = refl
kept_writes Overflow ws = refl
kept_writes ZeroDivisor ws = refl

-- the ending is that of the last segment
ended_by : (n : Option Next) (how : Ending) → ending_by n ≡ Some how → n ≡ Some (next.Ends how)
ended_by None how e = cc
ended_by (Some (next.Asks k cont)) how e = cc
ended_by (Some (next.Ends h)) how e = let same : h ≡ how = cc in ap (λ x. Some (next.Ends x)) same

same_content : (c d : Content) → c.reads ≡ d.reads → c.writes ≡ d.writes → c.out ≡ d.out → c.ending ≡ d.ending → c ≡ d
same_content c d a b e f = rw (a, b, e, f) refl

pub content_is : (l : Loaded) (e : Execution) (how : Ending) (k : Content) → StandsFor (Some l) e → ending_by e.log.next ≡ Some how →
    IsContentOf (replay_of l.program (answers_in e.log.reads)) k → k.reads ≡ map read_of e.log.reads → k ≡ content_of e how
content_is l e how k s ends is reads =
    let d = done_followed l e s (next.Ends how) (ended_by e.log.next how ends) in
    let same : k.ending ≡ how = let two : Some k.ending ≡ Some how = sym is.ending ∙ d.1 in cc in
    same_content k (content_of e how)
    (reads ∙ sym (reads_with e.log.reads e.nexts))
    (sym (writes_back k.writes) ∙ ap (map write_of) is.writes
    ∙ ap (λ o. map write_of (kept_at o (replay_of l.program (answers_in e.log.reads)).writes)) d.1
    ∙ ap (λ ws. map write_of (kept_at (Some how) ws)) (sym d.0.writes)
    ∙ kept_writes how e.log.writes)
    (is.out ∙ sym d.0.out)
    same
