-- Right input is answered with 0, 1 or 9, no status stands outside the table, and which of them have a run behind them.
use Rattle.std.proofs.Common.{◌≡◌, ℕ, ◌≤◌, ◌⊎◌, true, false, List, [], refl, sym, ap, ◌∙◌, subst, inl, inr, Option, None, Some, is_some, arith}
use Rattle.std.specs.Prelude.{IfSome}
use Rattle.net_core.specs.Ruled.{LinkState}
use Rattle.txn_text.specs.declared.faults.TextFault.TheVariants.{At}
use Rattle.script.specs.declared.setup.Setup.{Setup}
use Rattle.script.specs.Meaning.{said_by}
use Rattle.script.proofs.OneOutcome.{one_outcome}
use Rattle.script_plans.specs.Plans.{link_kind}
use Rattle.links.specs.Choosing.{first_for}
use Rattle.script_cli.specs.declared.words.Command.{Command}
use Rattle.script_cli.specs.declared.words.Command.TheVariants.{Run, Serial, Check, Trace, Gen, Big}
use Rattle.script_cli.specs.Words.{command_of, reads, runs}
use Rattle.script_cli.specs.Due.{AreLeft, IsTooLong, IsScriptText, IsDueOf, Printed, Unnamed, Ran, Linkless, IsDue}
use Rattle.script_cli.specs.Answer.{Given, Whole, Part, IsAnswered, Refused, Answered, Out_of_memory}
use Rattle.script_cli.specs.Clauses.{IsScriptFor, IsGoodInput, HasAll, IsStatus}
use Rattle.script_cli.proofs.CommandLemmas.{some_none, one_command, not_both}
use Rattle.script_cli.proofs.AnswerLemmas.{by_due, HasStatus, Fine, At_two, At_three, At_four, At_six, has_status, few_are, status_few}

-- the bytes that were read, of a command that was given a script
record WereGood (bytes : List ℕ) : Type 0 where
  script : Setup
  says : IsScriptText bytes script

were_good : (c : Command) (left : Option (List ℕ)) (bytes : List ℕ) → reads c ≡ true → IsGoodInput c left → AreLeft left bytes → WereGood bytes
were_good (Gen seeded) left bytes reading good are = absurd (not_both false reading refl)
were_good (Big seeded) left bytes reading good are = absurd (not_both false reading refl)
were_good (Run workers) None bytes reading good are = absurd good
were_good (Serial asked) None bytes reading good are = absurd good
were_good Check None bytes reading good are = absurd good
were_good Trace None bytes reading good are = absurd good
were_good (Run workers) (Some told) bytes reading good are = record { script = good.0; says = subst (λ (b : List ℕ). IsScriptText b good.0) (sym are) good.1 }
were_good (Serial asked) (Some told) bytes reading good are = record { script = good.0; says = subst (λ (b : List ℕ). IsScriptText b good.0) (sym are) good.1 }
were_good Check (Some told) bytes reading good are = record { script = good.0; says = subst (λ (b : List ℕ). IsScriptText b good.0) (sym are) good.1 }
were_good Trace (Some told) bytes reading good are = record { script = good.0; says = subst (λ (b : List ℕ). IsScriptText b good.0) (sym are) good.1 }

not_long : (c : Command) (left : Option (List ℕ)) → reads c ≡ true → IsGoodInput c left → IfSome left IsTooLong → ⊥
not_long (Gen seeded) left reading good over = not_both false reading refl
not_long (Big seeded) left reading good over = not_both false reading refl
not_long (Run workers) None reading good over = good
not_long (Serial asked) None reading good over = good
not_long Check None reading good over = good
not_long Trace None reading good over = good
not_long (Run workers) (Some told) reading good over = let short = good.1.short in omega (arith, over)
not_long (Serial asked) (Some told) reading good over = let short = good.1.short in omega (arith, over)
not_long Check (Some told) reading good over = let short = good.1.short in omega (arith, over)
not_long Trace (Some told) reading good over = let short = good.1.short in omega (arith, over)

-- 0, 1 of a run, or 9
abbrev pub IsComplete : Command → ℕ → Type 0
IsComplete c status = (status ≡ 0) ⊎ ((status ≡ 1) × (runs c ≡ true)) ⊎ (status ≡ 9)

-- a status that none of 0, 1 and 5 is
abbrev pub IsBare : ℕ → Type 0
IsBare n = (n ≡ 2) ⊎ (n ≡ 3) ⊎ (n ≡ 4) ⊎ (n ≡ 6) ⊎ (n ≡ 9)

bare_more : (n : ℕ) → IsBare n → 2 ≤ n
bare_more n (inl e) = omega arith
bare_more n (inr (inl e)) = omega arith
bare_more n (inr (inr (inl e))) = omega arith
bare_more n (inr (inr (inr (inl e)))) = omega arith
bare_more n (inr (inr (inr (inr e)))) = omega arith

bare_not_five : (n : ℕ) → IsBare n → n ≡ 5 → ⊥
bare_not_five n (inl e) five = omega arith
bare_not_five n (inr (inl e)) five = omega arith
bare_not_five n (inr (inr (inl e))) five = omega arith
bare_not_five n (inr (inr (inr (inl e)))) five = omega arith
bare_not_five n (inr (inr (inr (inr e)))) five = omega arith

few_status : (n : ℕ) → (n ≡ 0) ⊎ (n ≡ 1) → IsStatus n
few_status n (inl zero) = inl zero
few_status n (inr one) = inr (inl one)

module _ (left : Option (List ℕ)) (R : Type 0) (handed : List LinkState) (words : List (List ℕ)) (old new : Option (List ℕ)) (W : Type 0) (g : Given) where
  -- where nothing fails, right input is answered
  pub complete : IsAnswered words left R handed old new W g → (c : Command) → command_of words ≡ Some c → IsGoodInput c left →
      ((s : Setup) → IsScriptFor c left s → HasAll c s handed) → (R → ⊥) → (W → ⊥) → IsComplete c g.status
  complete (Refused none w j l) c asked good fit sound whole = absurd (some_none (command_of words) c asked none)
  complete (Out_of_memory same nine j l) c asked good fit sound whole = inr (inr nine)
  complete (Answered k is d due (Part takes failed five) j l) c asked good fit sound whole = absurd (whole failed)
  complete (Answered k is d due (Whole takes e) j l) c asked good fit sound whole =
      let own : IsDue c left R handed d = subst (λ (k : Command). IsDue k left R handed d) (one_command (command_of words) c k asked is) due in
      subst (IsComplete c) (sym e) (by_due left R handed (IsComplete c d.status) c d own
      (λ reading failed told. absurd (sound failed))
      (λ reading over told. absurd (not_long c left reading good over))
      (λ reading bytes are faulty.
      let were = were_good c left bytes reading good are in
      absurd (one_outcome.not_both bytes (said_by were.script) (At faulty.line faulty.kind) were.says.says faulty.found))
      (λ s setup own script. of_script s own script))
    where
      of_run : (s : Setup) → runs c ≡ true → (d.status ≡ 0) ⊎ (d.status ≡ 1) → IsComplete c d.status
      of_run s running (inl zero) = inl zero
      of_run s running (inr one) = inr (inl (one, running))

      of_script : (s : Setup) → IsScriptFor c left s → IsDueOf c s handed d → IsComplete c d.status
      of_script s own (Printed still text told) = inl (ap (λ x. x.status) told)
      of_script s own (Unnamed un told) = absurd ((fit s own).named un)
      of_script s own (Ran running run) = of_run s running (few_are d.status (let few = status_few run.ended in let same = run.status in omega arith))
      of_script s own (Linkless running link) =
          absurd (not_both (is_some (first_for (link_kind s) link.slot handed)) ((fit s own).linked running link.slot link.missing.needed) (ap is_some link.missing.missing.none))

  -- there are no other statuses
  pub known : IsAnswered words left R handed old new W g → IsStatus g.status
  known (Refused none (Whole takes e) j l) = inr (inr (inl e))
  known (Refused none (Part takes failed five) j l) = inr (inr (inr (inr (inr (inl five)))))
  known (Out_of_memory same nine j l) = inr (inr (inr (inr (inr (inr (inr nine))))))
  known (Answered k is d due (Part takes failed five) j l) = inr (inr (inr (inr (inr (inl five)))))
  known (Answered k is d due (Whole takes e) j l) = subst IsStatus (sym e) (go (has_status left R handed k d due))
    where
      go : HasStatus left R handed k d → IsStatus d.status
      go (Fine few) = few_status d.status (few_are d.status few)
      go (At_two s own un two t x y) = inr (inr (inl two))
      go (At_three three x y) = inr (inr (inr (inl three)))
      go (At_four four failed text x y) = inr (inr (inr (inr (inl four))))
      go (At_six six x y) = inr (inr (inr (inr (inr (inr (inl six))))))

  -- no run stands behind the others than 0, 1 and 5
  pub unrun_so : IsAnswered words left R handed old new W g → IsBare g.status → (g.journal ≡ []) × (g.links ≡ [])
  unrun_so (Refused none w j l) bare = (j, l)
  unrun_so (Out_of_memory same nine j l) bare = (j, l)
  unrun_so (Answered k is d due (Part takes failed five) j l) bare = absurd (bare_not_five g.status bare five)
  unrun_so (Answered k is d due (Whole takes e) j l) bare = go (has_status left R handed k d due)
    where
      go : HasStatus left R handed k d → (g.journal ≡ []) × (g.links ≡ [])
      go (Fine few) = absurd (let more = bare_more g.status bare in omega arith)
      go (At_two s own un two t x y) = (j ∙ x, l ∙ y)
      go (At_three three x y) = (j ∙ x, l ∙ y)
      go (At_four four failed text x y) = (j ∙ x, l ∙ y)
      go (At_six six x y) = (j ∙ x, l ∙ y)
