-- What an answer says of its status.
use Rattle.std.proofs.Common.{◌≡◌, ℕ, ◌≤◌, ◌⊎◌, true, false, List, [], reverse, refl, sym, ap, ◌∙◌, subst, inl, inr, Option, None, Some, arith}
use Rattle.std.specs.Prelude.{IfSome}
use Rattle.msg.specs.declared.Event.{Event}
use Rattle.morty_base.specs.declared.names.Ended.{Ended}
use Rattle.morty_base.specs.declared.names.Ended.TheVariants.{Quiet, Spent, Full}
use Rattle.morty_io.specs.Bytes.{Takes}
use Rattle.net_core.specs.Ruled.{LinkState}
use Rattle.script.specs.declared.setup.Setup.{Setup}
use Rattle.script.specs.Sayable.{IsSetup}
use Rattle.script_cli.specs.Runs.{IsRunOf}
use Rattle.script_cli.specs.declared.words.Command.{Command}
use Rattle.script_cli.specs.Words.{command_of, reads, runs, is_shared}
use Rattle.script_cli.specs.Lines.{bad_command_line, read_failed, too_long}
use Rattle.script_cli.specs.Due.{Due, unrun, AreLeft, IsTooLong, status_of, text_of_run, IsUnnamed, IsRunDue, IsLinkDue, IsDueOf, Printed, Unnamed, Ran, Linkless, IsFaulty, Of_script, Of_fault, IsDue, Unread, Too_long, Read, Generated}
use Rattle.script_cli.specs.Answer.{Given, Whole, Part, IsAnswered, Refused, Answered, Out_of_memory}
use Rattle.script_cli.specs.Clauses.{IsScriptFor, IsRunTold, IsPrintedFor, IsBadCommand, No_command, No_transaction, IsRefused, Long, Faulty, IsLinkTold, IsCut, Line_cut, Due_cut}
use Rattle.script_cli.proofs.CommandLemmas.{some_none, one_command, not_both, own_read, own_generated}

pub status_few : (e : Ended) → status_of e ≤ 1
status_few Quiet = omega arith
status_few Spent = omega arith
status_few Full = omega arith

-- a status of at most 1 is one of these
pub few_are : (n : ℕ) → n ≤ 1 → (n ≡ 0) ⊎ (n ≡ 1)
few_are n few = grind arith

module _ (left : Option (List ℕ)) (R : Type 0) (handed : List LinkState) where
  -- what is due for a command is the line of a source that failed, the line of one that is too long, the line of a fault, or
  -- what is due for a script
  pub by_due : (P : Type 0) (c : Command) (d : Due) → IsDue c left R handed d →
      (reads c ≡ true → R → d ≡ unrun 4 read_failed → P) →
      (reads c ≡ true → IfSome left IsTooLong → d ≡ unrun 3 too_long → P) →
      (reads c ≡ true → (bytes : List ℕ) → AreLeft left bytes → IsFaulty bytes d → P) →
      ((s : Setup) → IsSetup s → IsScriptFor c left s → IsDueOf c s handed d → P) → P
  by_due P c d (Unread reading failed is) unread long faulty script = unread reading failed is
  by_due P c d (Too_long reading over is) unread long faulty script = long reading over is
  by_due P c d (Read reading bytes are (Of_script some)) unread long faulty script =
      script some.script some.setup (own_read c left some.script bytes reading are some.is) some.due
  by_due P c d (Read reading bytes are (Of_fault is)) unread long faulty script = faulty reading bytes are is
  by_due P c d (Generated reading some) unread long faulty script = script some.script some.setup (own_generated c left some.script some.is) some.due

  -- the status of what is due for a script
  pub data ScriptStatus (c : Command) (s : Setup) (d : Due) : Type 0 where
    Is_fine : d.status ≤ 1 → ScriptStatus c s d
    Is_unnamed : IsUnnamed c s → d ≡ unrun 2 bad_command_line → ScriptStatus c s d
    Is_linkless : runs c ≡ true → IsLinkDue s handed d → ScriptStatus c s d

  pub script_status : (c : Command) (s : Setup) (d : Due) → IsDueOf c s handed d → ScriptStatus c s d
  script_status c s d (Printed still told is) = let zero : d.status ≡ 0 = ap (λ x. x.status) is in Is_fine (omega arith)
  script_status c s d (Unnamed un is) = Is_unnamed un is
  script_status c s d (Ran running run) = let few = status_few run.ended in let same = run.status in Is_fine (omega arith)
  script_status c s d (Linkless running link) = Is_linkless running link

  -- which status is due, and what of it is no run
  pub data HasStatus (c : Command) (d : Due) : Type 0 where
    Fine : d.status ≤ 1 → HasStatus c d
    At_two : (s : Setup) → IsScriptFor c left s → IsUnnamed c s → d.status ≡ 2 → d.text ≡ bad_command_line → d.journal ≡ [] → d.links ≡ [] → HasStatus c d
    At_three : d.status ≡ 3 → d.journal ≡ [] → d.links ≡ [] → HasStatus c d
    At_four : d.status ≡ 4 → R → d.text ≡ read_failed → d.journal ≡ [] → d.links ≡ [] → HasStatus c d
    At_six : d.status ≡ 6 → d.journal ≡ [] → d.links ≡ [] → HasStatus c d

  pub has_status : (c : Command) (d : Due) → IsDue c left R handed d → HasStatus c d
  has_status c d due = by_due (HasStatus c d) c d due
      (λ reading failed is. At_four (ap (λ x. x.status) is) failed (ap (λ x. x.text) is) (ap (λ x. x.journal) is) (ap (λ x. x.links) is))
      (λ reading over is. At_three (ap (λ x. x.status) is) (ap (λ x. x.journal) is) (ap (λ x. x.links) is))
      (λ reading bytes are faulty. At_three (ap (λ x. x.status) faulty.told) (ap (λ x. x.journal) faulty.told) (ap (λ x. x.links) faulty.told))
      (λ s setup own script. of_script s own (script_status c s d script))
    where
      of_script : (s : Setup) → IsScriptFor c left s → ScriptStatus c s d → HasStatus c d
      of_script s own (Is_fine few) = Fine few
      of_script s own (Is_unnamed un is) = At_two s own un (ap (λ x. x.status) is) (ap (λ x. x.text) is) (ap (λ x. x.journal) is) (ap (λ x. x.links) is)
      of_script s own (Is_linkless running link) = At_six (ap (λ x. x.status) link.line) (ap (λ x. x.journal) link.line) (ap (λ x. x.links) link.line)

  module _ (words : List (List ℕ)) (old new : Option (List ℕ)) (W : Type 0) (g : Given) where
    -- an answer of status 0 or 1 wrote what is due
    record WasWritten (c : Command) : Type 0 where
      due : Due
      is_due : IsDue c left R handed due
      takes : Takes old new due.text
      status : g.status ≡ due.status
      journal : g.journal ≡ due.journal
      links : g.links ≡ due.links

    well_written : (c : Command) → command_of words ≡ Some c → g.status ≤ 1 → IsAnswered words left R handed old new W g → WasWritten c
    well_written c asked few (Refused none w j l) = absurd (some_none (command_of words) c asked none)
    well_written c asked few (Out_of_memory same nine j l) = absurd (omega arith)
    well_written c asked few (Answered k is d due (Part takes failed five) j l) = absurd (omega arith)
    well_written c asked few (Answered k is d due (Whole takes e) j l) = record {
      due = d;
      is_due = subst (λ (k : Command). IsDue k left R handed d) (one_command (command_of words) c k asked is) due;
      takes = takes;
      status = e;
      journal = j;
      links = l;
    }

    run_told : (c : Command) (w : WasWritten c) (s : Setup) → IsSetup s → IsScriptFor c left s → IsRunDue c s handed w.due → IsRunTold c left handed old new g
    run_told c w s setup own run = record {
      script = s;
      setup = setup;
      own = own;
      ended = run.ended;
      run = subst (λ (j : List Event). IsRunOf (is_shared c) s handed run.ended (reverse j) g.links) (sym w.journal)
          (subst (λ (l : List LinkState). IsRunOf (is_shared c) s handed run.ended (reverse w.due.journal) l) (sym w.links) run.run);
      status = w.status ∙ run.status;
      written = subst (Takes old new) (run.written ∙ ap (λ (j : List Event). text_of_run c s j run.ended) (sym w.journal)) w.takes;
    }

    -- the run of a command that runs
    pub ran : IsAnswered words left R handed old new W g → (c : Command) → command_of words ≡ Some c → runs c ≡ true → g.status ≤ 1 → IsRunTold c left handed old new g
    ran answered c asked running few =
        let w = well_written c asked few answered in
        let same = w.status in
        by_due (IsRunTold c left handed old new g) c w.due w.is_due
        (λ reading failed is. absurd (let four : w.due.status ≡ 4 = ap (λ x. x.status) is in omega arith))
        (λ reading over is. absurd (let three : w.due.status ≡ 3 = ap (λ x. x.status) is in omega arith))
        (λ reading bytes are faulty. absurd (let three : w.due.status ≡ 3 = ap (λ x. x.status) faulty.told in omega arith))
        (λ s setup own script. of_script w same s setup own script)
      where
        of_script : (w : WasWritten c) → g.status ≡ w.due.status → (s : Setup) → IsSetup s → IsScriptFor c left s → IsDueOf c s handed w.due → IsRunTold c left handed old new g
        of_script w same s setup own (Printed still told is) = absurd (not_both (runs c) running still)
        of_script w same s setup own (Unnamed un is) = absurd (let two : w.due.status ≡ 2 = ap (λ x. x.status) is in omega arith)
        of_script w same s setup own (Ran runs_it run) = run_told c w s setup own run
        of_script w same s setup own (Linkless runs_it link) = absurd (let six : w.due.status ≡ 6 = ap (λ x. x.status) link.line in omega arith)

    -- the text of a command without a run
    pub printed : IsAnswered words left R handed old new W g → (c : Command) → command_of words ≡ Some c → runs c ≡ false → g.status ≤ 1 → IsPrintedFor c left old new g.status
    printed answered c asked still few =
        let w = well_written c asked few answered in
        let same = w.status in
        by_due (IsPrintedFor c left old new g.status) c w.due w.is_due
        (λ reading failed is. absurd (let four : w.due.status ≡ 4 = ap (λ x. x.status) is in omega arith))
        (λ reading over is. absurd (let three : w.due.status ≡ 3 = ap (λ x. x.status) is in omega arith))
        (λ reading bytes are faulty. absurd (let three : w.due.status ≡ 3 = ap (λ x. x.status) faulty.told in omega arith))
        (λ s setup own script. of_script w same s own script)
      where
        of_script : (w : WasWritten c) → g.status ≡ w.due.status → (s : Setup) → IsScriptFor c left s → IsDueOf c s handed w.due → IsPrintedFor c left old new g.status
        of_script w same s own (Printed as_is told is) = record {
          script = s;
          own = own;
          zero = same ∙ ap (λ x. x.status) is;
          text = w.due.text;
          told = told;
          written = w.takes;
        }
        of_script w same s own (Unnamed un is) = absurd (let two : w.due.status ≡ 2 = ap (λ x. x.status) is in omega arith)
        of_script w same s own (Ran runs_it run) = absurd (not_both (runs c) runs_it still)
        of_script w same s own (Linkless runs_it link) = absurd (not_both (runs c) runs_it still)

    -- 2
    pub bad_words : IsAnswered words left R handed old new W g → g.status ≡ 2 → IsBadCommand words left × Takes old new bad_command_line
    bad_words (Refused none (Whole takes e) j l) two = (No_command none, takes)
    bad_words (Refused none (Part takes failed five) j l) two = absurd (omega arith)
    bad_words (Out_of_memory same nine j l) two = absurd (omega arith)
    bad_words (Answered k is d due (Part takes failed five) j l) two = absurd (omega arith)
    bad_words (Answered k is d due (Whole takes e) j l) two = go (has_status k d due)
      where
        go : HasStatus k d → IsBadCommand words left × Takes old new bad_command_line
        go (Fine few) = absurd (omega arith)
        go (At_two s own un due_two text x y) = (No_transaction k is s own un, subst (Takes old new) text takes)
        go (At_three three x y) = absurd (omega arith)
        go (At_four four failed text x y) = absurd (omega arith)
        go (At_six six x y) = absurd (omega arith)

    pub good_words : IsAnswered words left R handed old new W g → command_of words ≡ None → (g.status ≡ 2) ⊎ ((g.status ≡ 5) ⊎ (g.status ≡ 9))
    good_words (Refused none (Whole takes e) j l) bad = inl e
    good_words (Refused none (Part takes failed five) j l) bad = inr (inl five)
    good_words (Out_of_memory same nine j l) bad = inr (inr nine)
    good_words (Answered k is d due w j l) bad = absurd (some_none (command_of words) k is bad)

    -- 3
    pub refused : IsAnswered words left R handed old new W g → g.status ≡ 3 → (c : Command) × (command_of words ≡ Some c) × (reads c ≡ true) × IsRefused left old new
    refused (Refused none (Whole takes e) j l) three = absurd (omega arith)
    refused (Refused none (Part takes failed five) j l) three = absurd (omega arith)
    refused (Out_of_memory same nine j l) three = absurd (omega arith)
    refused (Answered k is d due (Part takes failed five) j l) three = absurd (omega arith)
    refused (Answered k is d due (Whole takes e) j l) three =
        by_due ((c : Command) × (command_of words ≡ Some c) × (reads c ≡ true) × IsRefused left old new) k d due
        (λ reading failed told. absurd (let four : d.status ≡ 4 = ap (λ x. x.status) told in omega arith))
        (λ reading over told. (k, is, reading, Long over (subst (Takes old new) (ap (λ x. x.text) told) takes)))
        (λ reading bytes are faulty. (k, is, reading, Faulty bytes are faulty.line faulty.kind faulty.found (subst (Takes old new) (ap (λ x. x.text) faulty.told) takes)))
        (λ s setup own script. absurd (of_script s (script_status k s d script)))
      where
        of_script : (s : Setup) → ScriptStatus k s d → ⊥
        of_script s (Is_fine few) = omega arith
        of_script s (Is_unnamed un told) = let two : d.status ≡ 2 = ap (λ x. x.status) told in omega arith
        of_script s (Is_linkless running link) = let six : d.status ≡ 6 = ap (λ x. x.status) link.line in omega arith

    -- 4
    pub read_failed_so : IsAnswered words left R handed old new W g → g.status ≡ 4 → R × Takes old new read_failed
    read_failed_so (Refused none (Whole takes e) j l) four = absurd (omega arith)
    read_failed_so (Refused none (Part takes failed five) j l) four = absurd (omega arith)
    read_failed_so (Out_of_memory same nine j l) four = absurd (omega arith)
    read_failed_so (Answered k is d due (Part takes failed five) j l) four = absurd (omega arith)
    read_failed_so (Answered k is d due (Whole takes e) j l) four = go (has_status k d due)
      where
        go : HasStatus k d → R × Takes old new read_failed
        go (Fine few) = absurd (omega arith)
        go (At_two s own un two t x y) = absurd (omega arith)
        go (At_three three x y) = absurd (omega arith)
        go (At_four is failed text x y) = (failed, subst (Takes old new) text takes)
        go (At_six six x y) = absurd (omega arith)

    -- 5
    pub write_failed : IsAnswered words left R handed old new W g → g.status ≡ 5 → W
    write_failed (Refused none (Whole takes e) j l) five = absurd (omega arith)
    write_failed (Refused none (Part takes failed is) j l) five = failed
    write_failed (Out_of_memory same nine j l) five = absurd (omega arith)
    write_failed (Answered k is d due (Part takes failed e) j l) five = failed
    write_failed (Answered k is d due (Whole takes e) j l) five = absurd (never (has_status k d due))
      where
        never : HasStatus k d → ⊥
        never (Fine few) = omega arith
        never (At_two s own un two t x y) = omega arith
        never (At_three three x y) = omega arith
        never (At_four four failed text x y) = omega arith
        never (At_six six x y) = omega arith

    pub cut : IsAnswered words left R handed old new W g → g.status ≡ 5 → IsCut words left R handed old new g
    cut (Refused none (Whole takes e) j l) five = absurd (omega arith)
    cut (Refused none (Part takes failed is) j l) five = Line_cut none takes j l
    cut (Out_of_memory same nine j l) five = absurd (omega arith)
    cut (Answered k is d due (Part takes failed e) j l) five = Due_cut k is d due takes j l
    cut (Answered k is d due (Whole takes e) j l) five = absurd (never (has_status k d due))
      where
        never : HasStatus k d → ⊥
        never (Fine few) = omega arith
        never (At_two s own un two t x y) = omega arith
        never (At_three three x y) = omega arith
        never (At_four four failed text x y) = omega arith
        never (At_six six x y) = omega arith

    -- 6
    pub linkless : IsAnswered words left R handed old new W g → g.status ≡ 6 → (c : Command) × (command_of words ≡ Some c) × (runs c ≡ true) × IsLinkTold c left handed old new
    linkless (Refused none (Whole takes e) j l) six = absurd (omega arith)
    linkless (Refused none (Part takes failed five) j l) six = absurd (omega arith)
    linkless (Out_of_memory same nine j l) six = absurd (omega arith)
    linkless (Answered k is d due (Part takes failed five) j l) six = absurd (omega arith)
    linkless (Answered k is d due (Whole takes e) j l) six =
        by_due ((c : Command) × (command_of words ≡ Some c) × (runs c ≡ true) × IsLinkTold c left handed old new) k d due
        (λ reading failed told. absurd (let four : d.status ≡ 4 = ap (λ x. x.status) told in omega arith))
        (λ reading over told. absurd (let three : d.status ≡ 3 = ap (λ x. x.status) told in omega arith))
        (λ reading bytes are faulty. absurd (let three : d.status ≡ 3 = ap (λ x. x.status) faulty.told in omega arith))
        (λ s setup own script. of_script s own (script_status k s d script))
      where
        of_script : (s : Setup) → IsScriptFor k left s → ScriptStatus k s d → (c : Command) × (command_of words ≡ Some c) × (runs c ≡ true) × IsLinkTold c left handed old new
        of_script s own (Is_fine few) = absurd (omega arith)
        of_script s own (Is_unnamed un told) = absurd (let two : d.status ≡ 2 = ap (λ x. x.status) told in omega arith)
        of_script s own (Is_linkless running link) = (
          k,
          is,
          running,
          record {
            script = s;
            own = own;
            slot = link.slot;
            missing = link.missing;
            written = subst (Takes old new) (ap (λ x. x.text) link.line) takes;
          },
        )

    -- 9
    pub no_memory : IsAnswered words left R handed old new W g → g.status ≡ 9 → new ≡ old
    no_memory (Refused none (Whole takes e) j l) nine = absurd (omega arith)
    no_memory (Refused none (Part takes failed five) j l) nine = absurd (omega arith)
    no_memory (Out_of_memory same e j l) nine = same
    no_memory (Answered k is d due (Part takes failed five) j l) nine = absurd (omega arith)
    no_memory (Answered k is d due (Whole takes e) j l) nine = absurd (never (has_status k d due))
      where
        never : HasStatus k d → ⊥
        never (Fine few) = omega arith
        never (At_two s own un two t x y) = omega arith
        never (At_three three x y) = omega arith
        never (At_four four failed text x y) = omega arith
        never (At_six six x y) = omega arith
