-- A script that some text says keeps the limits of scripts: its items pass their checks, group by group.
use Rattle.std.proofs.Common.{ℕ, List, Result, Ok, Err, sym, subst}
use Rattle.std.specs.Prelude.{IfOk}
use Rattle.txn_text.specs.declared.faults.TextFault.{TextFault}
use Rattle.script.specs.declared.setup.Setup.{Setup}
use Rattle.script.specs.Items.{Item}
use Rattle.script.specs.Rules.{Rule, Into, Many}
use Rattle.script.specs.Grammar.{version, setting, store, program, client, net, optional, as_list, plan, end_item, single, then_items, script}
use Rattle.script.specs.Meaning.{Script, nothing_said, said_by}
use Rattle.script.specs.Sayable.{IsSayable, IsSetup}
use Rattle.script.specs.Texts.{IsScriptOf, IsReadOf}
use Rattle.script.proofs.ReadableItems.{IsTold, items_told}
use Rattle.script.proofs.SayableSoFar.{HasOnlySettings, HasNoProgram, HasNoClient, HasNoPlan, IsSayableSoFar, Lead, many_lead, single_leads, then_lead}
use Rattle.script.proofs.SayableSettings.{silent_has, only_settings, version_takes, setting_takes}
use Rattle.script.proofs.SayableStores.{store_takes}
use Rattle.script.proofs.SayablePrograms.{program_takes}
use Rattle.script.proofs.SayableClients.{client_takes}
use Rattle.script.proofs.SayablePlans.{net_leads, plan_takes, end_takes}

module _ (text : List ℕ) where
  -- the rules of a script from plan items, the net, clients, programs, stores and settings on
  abbrev from_plans : Rule (List Item)
  from_plans = then_items (Many plan) (Into single end_item)

  abbrev from_net : Rule (List Item)
  from_net = then_items (Into as_list (optional net)) from_plans

  abbrev from_clients : Rule (List Item)
  from_clients = then_items (Many client) from_net

  abbrev from_programs : Rule (List Item)
  from_programs = then_items (Many program) from_clients

  abbrev from_stores : Rule (List Item)
  from_stores = then_items (Many store) from_programs

  abbrev from_settings : Rule (List Item)
  from_settings = then_items (Many setting) from_stores

  plans_lead : (is : List Item) → IsTold text from_plans is → Lead text IsSayableSoFar IsSayable is
  plans_lead =
      then_lead text IsSayableSoFar IsSayableSoFar IsSayable (Many plan) (Into single end_item)
      (many_lead text IsSayableSoFar plan (plan_takes text)) (single_leads text IsSayableSoFar IsSayable end_item (end_takes text))

  -- with less known, as much follows
  from_weaker : (P Q R : Script → Type 0) → ((s : Script) → P s → Q s) → (is : List Item) → Lead text Q R is → Lead text P R is
  from_weaker P Q R weaker is leads s p none = leads s (weaker s.script p) none

  net_and_plans_lead : (is : List Item) → IsTold text from_net is → Lead text HasNoPlan IsSayable is
  net_and_plans_lead =
      then_lead text HasNoPlan HasNoPlan IsSayable (Into as_list (optional net)) from_plans (net_leads text)
      (λ is h. from_weaker HasNoPlan IsSayableSoFar IsSayable (λ s p. p.so_far) is (plans_lead is h))

  clients_lead : (is : List Item) → IsTold text from_clients is → Lead text HasNoPlan IsSayable is
  clients_lead = then_lead text HasNoPlan HasNoPlan IsSayable (Many client) from_net (many_lead text HasNoPlan client (client_takes text)) net_and_plans_lead

  programs_lead : (is : List Item) → IsTold text from_programs is → Lead text HasNoClient IsSayable is
  programs_lead =
      then_lead text HasNoClient HasNoClient IsSayable (Many program) from_clients (many_lead text HasNoClient program (program_takes text))
      (λ is h. from_weaker HasNoClient HasNoPlan IsSayable (λ s p. record { so_far = p.so_far; no_plan = p.no_plan }) is (clients_lead is h))

  stores_lead : (is : List Item) → IsTold text from_stores is → Lead text HasNoProgram IsSayable is
  stores_lead =
      then_lead text HasNoProgram HasNoProgram IsSayable (Many store) from_programs (many_lead text HasNoProgram store (store_takes text))
      (λ is h. from_weaker HasNoProgram HasNoClient IsSayable without_program is (programs_lead is h))
    where
      without_program : (s : Script) → HasNoProgram s → HasNoClient s
      without_program s p = record { so_far = p.so_far; no_plan = p.no_plan; no_client = p.no_client }

  settings_lead : (is : List Item) → IsTold text from_settings is → Lead text HasOnlySettings IsSayable is
  settings_lead =
      then_lead text HasOnlySettings HasOnlySettings IsSayable (Many setting) from_stores (many_lead text HasOnlySettings setting (setting_takes text))
      (λ is h. from_weaker HasOnlySettings HasNoProgram IsSayable only_settings is (stores_lead is h))

  script_leads : (is : List Item) → IsTold text script is → Lead text HasOnlySettings IsSayable is
  unfolding script
  script_leads =
      then_lead text HasOnlySettings HasOnlySettings IsSayable (Into single version) from_settings
      (single_leads text HasOnlySettings HasOnlySettings version (version_takes text HasOnlySettings)) settings_lead

  pub said_is_sayable : (s : Script) → IsScriptOf text s → IsSayable s
  said_is_sayable s is = subst IsSayable (sym is.says) (script_leads is.items (items_told text is.items is.has) nothing_said silent_has is.passes)

  -- so is a setup that was read
  pub read_is_sayable : (r : Result Setup TextFault) → IsReadOf text r → IfOk r IsSetup
  read_is_sayable (Ok s) is = said_is_sayable (said_by s) is
  read_is_sayable (Err f) is = tt
