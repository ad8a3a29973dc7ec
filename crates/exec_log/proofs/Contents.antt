-- The content of a log that has ended is what the replay did.
use Rattle.std.proofs.Common.{◌≡◌, List, [], ◌∷◌, length, map, Option, Some, None, refl, ap, sym, subst, ◌∙◌}
use Rattle.morty_base.specs.declared.names.Ending.{Ending}
use Rattle.morty_base.specs.declared.names.Ending.TheVariants.{Done, Abort, Overflow, ZeroDivisor}
use Rattle.msg.specs.declared.Content.{Content}
use Rattle.msg.specs.declared.Write.{Write}
use Rattle.txn_lang.specs.Keys.{Entry}
use Rattle.txn_lang.specs.Laws.{values_of}
use Rattle.txn_lang.specs.Program.{Program, replay_of, serial_of}
use Rattle.txn_lang.specs.Runs.{kept_at}
use Rattle.txn_lang.proofs.SerialRuns.{replays_serial}
use Rattle.flat_code.specs.Operation.{Flat}
use Rattle.continuation.specs.declared.segment.Next.{Next}
use Rattle.continuation.specs.declared.segment.Next.TheVariants as next
use Rattle.exec_log.specs.declared.read.LogRead.{LogRead}
use Rattle.exec_log.specs.Entries.{read_of, read_entry, content_entry, write_entry, write_entries, kept_writes}
use Rattle.exec_log.specs.Log.{Log, answers_of, ending_by}
use Rattle.exec_log.specs.Standing.{StopsBy, StandsFor, IsContentOf}
use Rattle.exec_log.proofs.AskedReads.{all_reads}

kept_are : (how : Ending) (writes : List Write) → map write_entry (kept_writes how writes) ≡ kept_at (Some how) (write_entries writes)
kept_are Done writes = refl
kept_are Abort writes = refl
kept_are Overflow writes = refl
kept_are ZeroDivisor writes = refl

without_labels : (reads : List LogRead) → map content_entry (map read_of reads) ≡ map read_entry reads
without_labels [] = refl
without_labels (r ∷ reads) = ap (λ es. read_entry r ∷ es) (without_labels reads)

ends_by : (n : Option Next) (how : Ending) → ending_by n ≡ Some how → n ≡ Some (next.Ends how)
ends_by None how e = cc
ends_by (Some (next.Asks k cont)) how e = cc
ends_by (Some (next.Ends h)) how e = let same : h ≡ how = cc in ap (λ x. Some (next.Ends x)) same

pub content_of : (code : Flat) (p : Program) (v l : Log) (how : Ending) (c : Content) → StandsFor code p l → v ≡ l → ending_by l.next ≡ Some how →
    c.reads ≡ map read_of v.reads → c.writes ≡ kept_writes how v.writes → c.out ≡ v.out → c.ending ≡ how →
    IsContentOf (replay_of p (answers_of l)) c
content_of code p v l how c s is ends reads writes out ending =
    let stands : StandsFor code p v = subst (StandsFor code p) (sym is) s in
    let stop = subst (StopsBy code p v) (ends_by v.next how (ap (λ (x : Log). ending_by x.next) is ∙ ends)) stands.stops in
    subst (λ (x : Log). IsContentOf (replay_of p (answers_of x)) c) is
    (record {
      reads = ap (map content_entry) reads ∙ without_labels v.reads ∙ sym (all_reads code p v.reads v.places stands.reads);
      writes = ap (map write_entry) writes ∙ kept_are how v.writes ∙ ap (kept_at (Some how)) stop.0.writes
          ∙ ap (λ o. kept_at o (replay_of p (answers_of v)).writes) (sym stop.1);
      out = out ∙ stop.0.out;
      ending = stop.1 ∙ ap Some (sym ending);
    })

-- a serial run that made these reads did what the replay on their values did
pub serial_content : (p : Program) (l : Log) (m : List Entry) (c : Content) → answers_of l ≡ values_of (serial_of p m).reads →
    IsContentOf (replay_of p (answers_of l)) c → IsContentOf (serial_of p m) c
serial_content p l m c same h =
    subst (λ r. IsContentOf r c) (ap (replay_of p) same ∙ (replays_serial p.body (length p.names)).replayed m) h
