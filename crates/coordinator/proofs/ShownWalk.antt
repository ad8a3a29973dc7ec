-- What an execution shows is the walk of its program on the answers so far.
use Rattle.std.proofs.Common.{◌≡◌, List, [], ◌∷◌, map, Option, Some, None, refl, ap, sym, subst, ◌∙◌, ℤ}
use Rattle.std.specs.Prelude.{IsSome, IsNone, MatchOption}
use Rattle.morty_base.specs.declared.names.Ending.{Ending}
use Rattle.msg.specs.declared.Write.{Write}
use Rattle.txn_lang.specs.Keys.{Entry}
use Rattle.txn_lang.specs.Program.{replay_of}
use Rattle.txn_lang.proofs.Taking.{takes_answers}
use Rattle.continuation.specs.declared.segment.Next.{Next}
use Rattle.continuation.specs.declared.segment.Next.TheVariants.{Asks, Ends}
use Rattle.continuation.specs.Segment.{StopsAs}
use Rattle.exec_log.specs.declared.read.LogRead.{LogRead}
use Rattle.exec_log.specs.Entries.{read_entries, write_entries}
use Rattle.exec_log.specs.Log.{answers_in, asked_by, ending_by}
use Rattle.exec_log.specs.Standing.{HasDone, StopsBy}
use Rattle.exec_log.proofs.AskedReads.{all_reads}
use Rattle.protocol.specs.Words.{Key}
use Rattle.protocol.specs.Client.State.{Walk, values}
use Rattle.protocol_plans.specs.Scripted.{write_of, program_walk}
use Rattle.coordinator.specs.Answers.{keys_in}
use Rattle.coordinator.specs.Execution.{Loaded, StandsFor, walk_of, answers_of, keys_of, shown}
use Rattle.coordinator.specs.declared.execution.Execution.{Execution}
use Rattle.coordinator.proofs.AnswersLemmas.{values_with}

entry_keys : (reads : List LogRead) → map (λ (e : Entry). e.key) (read_entries reads) ≡ keys_in reads
entry_keys [] = refl
entry_keys (r ∷ reads) = ap (λ ks. r.key ∷ ks) (entry_keys reads)

-- writes as entries, and back
pub writes_back : (ws : List Write) → map write_of (write_entries ws) ≡ ws
writes_back [] = refl
writes_back (w ∷ ws) = ap (λ l. w ∷ l) (writes_back ws)

same_walk : (w v : Walk) → w.keys ≡ v.keys → w.asks ≡ v.asks → w.ending ≡ v.ending → w.writes ≡ v.writes → w.out ≡ v.out → w ≡ v
same_walk w v a b c d e =
    rw (a, b, c, d, e) refl

asks_alone : (o : Option Key) (f : Option Ending) (k : Key) → o ≡ Some k → MatchOption o (IsSome f) (λ _. IsNone f) → f ≡ None
asks_alone None f k e h = absurd (cc)
asks_alone (Some j) None k e h = refl
asks_alone (Some j) (Some how) k e h = absurd (cc)

ends_alone : (o : Option Key) (f : Option Ending) (how : Ending) → f ≡ Some how → MatchOption o (IsSome f) (λ _. IsNone f) → o ≡ None
ends_alone None f how e h = refl
ends_alone (Some j) None how e h = absurd (cc)
ends_alone (Some j) (Some w) how e h = absurd (cc)

module _ (l : Loaded) (e : Execution) (s : StandsFor (Some l) e) where
  abbrev vs : List ℤ
  vs = answers_in e.log.reads

  pub keys_followed : (program_walk l.program vs).keys ≡ keys_of e
  keys_followed = ap (map (λ (x : Entry). x.key)) (all_reads l.code l.program e.log.reads e.log.places s.follows.log.reads) ∙ entry_keys e.log.reads

  asks_is : (n : Next) → StopsAs l.code l.program vs n → (replay_of l.program vs).asks ≡ asked_by (Some n)
  asks_is (Asks k cont) h = h.asks
  asks_is (Ends how) h = ends_alone _ _ how h ((takes_answers l.program.body _).asks_or_ends vs)

  ending_is : (n : Next) → StopsAs l.code l.program vs n → (replay_of l.program vs).ending ≡ ending_by (Some n)
  ending_is (Asks k cont) h = asks_alone _ _ k h.asks ((takes_answers l.program.body _).asks_or_ends vs)
  ending_is (Ends how) h = h

  -- what was done, once the log waits for no segment
  pub done_followed : (n : Next) → e.log.next ≡ Some n → HasDone l.program vs e.log × StopsAs l.code l.program vs n
  done_followed n is = subst (StopsBy l.code l.program e.log) is s.follows.log.stops

  pub walk_followed : (n : Next) → e.log.next ≡ Some n → program_walk l.program vs ≡ shown e.log
  walk_followed n is =
      let d = done_followed n is in
      same_walk (program_walk l.program vs) (shown e.log) keys_followed
      (asks_is n d.1 ∙ ap asked_by (sym is))
      (ending_is n d.1 ∙ ap ending_by (sym is))
      (ap (map write_of) (sym d.0.writes) ∙ writes_back e.log.writes)
      (sym d.0.out)

pub keys_shown : (o : Option Loaded) (e : Execution) → StandsFor o e → (walk_of o (values (answers_of e))).keys ≡ keys_of e
keys_shown None e s = ap keys_in (sym s.follows.reads)
keys_shown (Some l) e s = ap (λ vs. (program_walk l.program vs).keys) (values_with e.log.reads e.nexts) ∙ keys_followed l e s

pub walk_shown : (o : Option Loaded) (e : Execution) (n : Next) → StandsFor o e → e.log.next ≡ Some n → walk_of o (values (answers_of e)) ≡ shown e.log
walk_shown None e n s is = absurd (let none = s.follows.next in cc)
walk_shown (Some l) e n s is = ap (program_walk l.program) (values_with e.log.reads e.nexts) ∙ walk_followed l e s n is
