-- What stood ready and was run to its end is a run of its setup.
use Rattle.std.proofs.Common.{◌≡◌, ℕ, Bool, false, List, Some, subst}
use Rattle.morty_base.specs.declared.names.Ended.{Ended}
use Rattle.net_core.specs.Machine.{History}
use Rattle.net_core.specs.Marks.{end_of}
use Rattle.net_core.specs.Rounds.{InRounds}
use Rattle.net_core.specs.Ruled.{LinkState}
use Rattle.hub.specs.Starts.{AreLinks}
use Rattle.script.specs.declared.setup.Setup.{Setup}
use Rattle.script_plans.specs.Plans.{link_kind}
use Rattle.links.specs.Choosing.{AreChosen}
use Rattle.script_cli.specs.Runs.{rules_for, begun_all, IsRunOf}
use Rattle.script_cli.proofs.Slots.{links_back}

-- own is the setup that was run, and s the one that it is
pub ended_run : (shared : Bool) (own s : Setup) (handed chosen first back : List LinkState) (k : ℕ) (ended : Ended) (h : History) → own ≡ s →
    AreChosen (link_kind s) handed k chosen → first ≡ begun_all s (rules_for s).nodes chosen →
    end_of (rules_for own) own.turns h ≡ Some ended → (shared ≡ false → InRounds (rules_for own) own.turns h) →
    AreLinks (rules_for own) h (rules_for own).nodes first back → IsRunOf shared s handed ended h back
ended_run shared own s handed chosen first back k ended h same are begun end rounds links =
    subst (λ (x : Setup). AreChosen (link_kind x) handed k chosen → first ≡ begun_all x (rules_for x).nodes chosen → IsRunOf shared x handed ended h back) same
    (λ chosen_so begun_so. record {
      end = end;
      rounds = rounds;
      links = links_back own handed chosen back k h chosen_so (subst (λ f. AreLinks (rules_for own) h (rules_for own).nodes f back) begun_so links);
    }) are begun
