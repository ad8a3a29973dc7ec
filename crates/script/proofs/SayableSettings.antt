-- The version and the settings of a text: what is said keeps the limits of settings.
use Rattle.std.proofs.Common.{◌≡◌, ℕ, ◌≤◌, true, not, List, [], ◌∷◌, map, length, refl, sym, ap, subst, inl, inr, arith}
use Rattle.std.specs.List.{AllByRecursion, IsDistinct}
use Rattle.txn_text.specs.declared.faults.FaultKind.TheVariants as fault
use Rattle.txn_text.specs.declared.kinds.Token.{Token}
use Rattle.txn_parse.specs.Binding.{Names, number_of}
use Rattle.script.specs.declared.limits.TheConstants.{MOST_TABLES, MOST_PROGRAMS, MOST_CLIENTS}
use Rattle.script.specs.declared.items.SettingName.{SettingName}
use Rattle.script.specs.declared.items.SettingName.TheVariants as named
use Rattle.script.specs.declared.setup.First.{First}
use Rattle.script.specs.declared.setup.Txn.{Txn}
use Rattle.script.specs.Items.{Item, Setting}
use Rattle.script.specs.Grammar.{version, number_setting, policy_setting, setting}
use Rattle.script.specs.Meaning.{Script, Named, prog_names, with_setting, silent, is_stated}
use Rattle.script.specs.Checks.{check, may_be}
use Rattle.script.specs.Sayable.{AreNames, AreFirsts, IsProg, IsClient, IsNet, IsPlanItem}
use Rattle.script.proofs.ReadableItems.{IsTold}
use Rattle.script.proofs.SayableSoFar.{HasOnlySettings, HasNoProgram, passed, holds, Takes}

-- what a silent script says
pub silent_has : HasOnlySettings silent
silent_has = ((refl, refl, refl, refl, refl, refl), (refl, refl, refl, refl, refl, refl))

-- with one more setting
set_by : (name : SettingName) (n : ℕ) (s : Script) → HasOnlySettings s → may_be name n ≡ true → HasOnlySettings (with_setting name n s)
set_by named.Replicas n s h may = ((may, h.0.1, h.0.2, h.0.3, h.0.4, h.0.5), h.1)
set_by named.Wardens n s h may = ((h.0.0, may, h.0.2, h.0.3, h.0.4, h.0.5), h.1)
set_by named.Tries n s h may = ((h.0.0, h.0.1, may, h.0.3, h.0.4, h.0.5), h.1)
set_by named.Execs n s h may = ((h.0.0, h.0.1, h.0.2, may, h.0.4, h.0.5), h.1)
set_by named.Gap n s h may = ((h.0.0, h.0.1, h.0.2, h.0.3, may, h.0.5), h.1)
set_by named.Turns n s h may = ((h.0.0, h.0.1, h.0.2, h.0.3, h.0.4, may), h.1)

no_names : (most : ℕ) (names : Names) → names ≡ [] → AreNames most names
unfolding IsDistinct
no_names most names is = subst (AreNames most) (sym is) (record { named = refl; distinct = tt; few = omega arith })

no_firsts : (tables : ℕ) (firsts : List First) → firsts ≡ [] → AreFirsts tables firsts
unfolding IsDistinct
no_firsts tables firsts is = subst (AreFirsts tables) (sym is) (record { each = tt; distinct = tt })

-- a script with nothing but settings is sayable so far
pub only_settings : (s : Script) → HasOnlySettings s → HasNoProgram s
only_settings s h = record {
  so_far = record {
    settings = h.0;
    tables = no_names MOST_TABLES s.tables h.1.0;
    firsts = no_firsts (length s.tables) s.firsts h.1.1;
    named = no_named;
    progs = subst (AllByRecursion (IsProg (length s.tables))) (sym h.1.2) tt;
    clients = subst (AllByRecursion (IsClient (length s.progs))) (sym h.1.3) tt;
    few_clients = let e = h.1.3 in subst (λ (cs : List (List Txn)). length cs ≤ MOST_CLIENTS) (sym e) (omega arith);
    net = subst IsNet (sym h.1.4) tt;
    plan = subst (AllByRecursion (IsPlanItem s)) (sym h.1.5) tt;
  };
  no_plan = h.1.5;
  no_client = h.1.3;
  no_program = h.1.2;
}
  where
    no_named : AreNames MOST_PROGRAMS (prog_names s)
    no_named = no_names MOST_PROGRAMS (prog_names s) (ap (map (λ (p : Named). p.name)) h.1.2)

module _ (text : List ℕ) where
  pub version_takes : (P : Script → Type 0) (i : Item) → IsTold text version i → Takes text P P i
  unfolding version
  version_takes P i h = subst (Takes text P P) (sym h.made) (λ s p none. p)

  number_takes : (name : SettingName) (word n : Token) → Takes text HasOnlySettings HasOnlySettings (Setting name word n)
  number_takes name word n s p none =
      let first = passed (is_stated name s.stated) word fault.RepeatedSetting (check (not (may_be name (number_of text n))) n fault.SettingRange ∷ []) none in
      let second = passed (not (may_be name (number_of text n))) n fault.SettingRange [] first.1 in
      set_by name (number_of text n) s.script p (holds (may_be name (number_of text n)) second.0)

  pub setting_takes : (i : Item) → IsTold text setting i → Takes text HasOnlySettings HasOnlySettings i
  unfolding setting number_setting policy_setting
  setting_takes i (inl h) = subst (Takes text HasOnlySettings HasOnlySettings) (sym h.made) (number_takes h.of.0.0 h.of.0.1 h.of.1)
  setting_takes i (inr h) = subst (Takes text HasOnlySettings HasOnlySettings) (sym h.made) (λ s p none. p)
