-- What is said while the items of a text are taken keeps the limits of scripts, and which parts are still empty.
use Rattle.std.proofs.Common.{◌≡◌, ℕ, ◌≤◌, ◌||◌, Bool, true, false, not, List, [], ◌∷◌, ◌++◌, length, None, refl, sym, ap, ◌∙◌, subst}
use Rattle.std.specs.List.{AllByRecursion}
use Rattle.txn_text.specs.declared.faults.FaultKind.{FaultKind}
use Rattle.txn_text.specs.declared.kinds.Token.{Token}
use Rattle.txn_parse.specs.Binding.{Check, first_failing}
use Rattle.txn_parse.proofs.NamesLemmas.{none_failing}
use Rattle.script.specs.declared.limits.TheConstants.{MOST_TABLES, MOST_PROGRAMS, MOST_CLIENTS}
use Rattle.script.specs.declared.items.SettingName.TheVariants as named
use Rattle.script.specs.declared.setup.Net.TheVariants as net
use Rattle.script.specs.Items.{Item}
use Rattle.script.specs.Rules.{Rule, Into, Many}
use Rattle.script.specs.Grammar.{single, then_items}
use Rattle.script.specs.Meaning.{Script, Said, prog_names, script_after, after, after_all}
use Rattle.script.specs.Checks.{check, may_be, checks, all_checks}
use Rattle.script.specs.Sayable.{AreNames, AreFirsts, IsProg, IsClient, IsNet, IsPlanItem}
use Rattle.script.proofs.SayLemmas.{after_both, checks_both}
use Rattle.script.proofs.ReadableItems.{IsTold}

-- settings within their limits
abbrev pub HasSettings : Script → Type 0
HasSettings s =
    (may_be named.Replicas s.replicas ≡ true) × (may_be named.Wardens s.wardens ≡ true) × (may_be named.Tries s.tries ≡ true) ×
    (may_be named.Execs s.execs ≡ true) × (may_be named.Gap s.gap ≡ true) × (may_be named.Turns s.turns ≡ true)

-- nothing but settings is said
abbrev pub HasOnlySettings : Script → Type 0
HasOnlySettings s =
    HasSettings s × ((s.tables ≡ []) × (s.firsts ≡ []) × (s.progs ≡ []) × (s.clients ≡ []) × (s.net ≡ net.Fair) × (s.plan ≡ []))

-- what is said is sayable, but for a client
pub record IsSayableSoFar (s : Script) : Type 0 where
  pub settings : HasSettings s
  pub tables : AreNames MOST_TABLES s.tables
  pub firsts : AreFirsts (length s.tables) s.firsts
  pub named : AreNames MOST_PROGRAMS (prog_names s)
  pub progs : AllByRecursion (IsProg (length s.tables)) s.progs
  pub clients : AllByRecursion (IsClient (length s.progs)) s.clients
  pub few_clients : length s.clients ≤ MOST_CLIENTS
  pub net : IsNet s.net
  pub plan : AllByRecursion (IsPlanItem s) s.plan

-- and there is no plan item, no client and no program yet
pub record HasNoPlan (s : Script) : Type 0 where
  pub so_far : IsSayableSoFar s
  pub no_plan : s.plan ≡ []

pub record HasNoClient (s : Script) : Type 0 where
  pub so_far : IsSayableSoFar s
  pub no_plan : s.plan ≡ []
  pub no_client : s.clients ≡ []

pub record HasNoProgram (s : Script) : Type 0 where
  pub so_far : IsSayableSoFar s
  pub no_plan : s.plan ≡ []
  pub no_client : s.clients ≡ []
  pub no_program : s.progs ≡ []

-- what holds of each holds of one more behind them
pub all_push : {A : Type 0} (P : A → Type 0) (xs : List A) (x : A) → AllByRecursion P xs → P x → AllByRecursion P (xs ++ x ∷ [])
all_push P [] x all one = (one, tt)
all_push P (y ∷ xs) x all one = (all.0, all_push P xs x all.1 one)

pub all_weaker : {A : Type 0} (P Q : A → Type 0) (xs : List A) → ((x : A) → P x → Q x) → AllByRecursion P xs → AllByRecursion Q xs
all_weaker P Q [] weaker all = tt
all_weaker P Q (x ∷ xs) weaker all = (weaker x all.0, all_weaker P Q xs weaker all.1)

-- a check that passes, in front of others that do
pub passed : (b : Bool) (t : Token) (kind : FaultKind) (cs : List Check) → first_failing (check b t kind ∷ cs) ≡ None → (b ≡ false) × (first_failing cs ≡ None)
passed true t kind cs none = cc
passed false t kind cs none = (refl, none)

pub holds : (b : Bool) → not b ≡ false → b ≡ true
holds true is = refl
holds false is = cc

pub neither : (a b : Bool) → (a || b) ≡ false → (a ≡ false) × (b ≡ false)
neither true b is = cc
neither false b is = (refl, is)

module _ (text : List ℕ) where
  -- an item that passes its checks where P holds leads to Q
  abbrev pub Takes : (Script → Type 0) → (Script → Type 0) → Item → Type 0
  Takes P Q i = (s : Said) → P s.script → first_failing (checks text s i) ≡ None → Q (script_after text s.script i)

  -- so do items one after another
  abbrev pub Lead : (Script → Type 0) → (Script → Type 0) → List Item → Type 0
  Lead P Q is = (s : Said) → P s.script → first_failing (all_checks text s is) ≡ None → Q (after_all text s is).script

  pub many_lead : (P : Script → Type 0) (r : Rule Item) → ((i : Item) → IsTold text r i → Takes P P i) →
      (is : List Item) → IsTold text (Many r) is → Lead P P is
  many_lead P r takes [] h s p none = p
  many_lead P r takes (i ∷ is) h s p none =
      let parts = none_failing (checks text s i) (all_checks text (after text s i) is) none in
      many_lead P r takes is h.1 (after text s i) (takes i h.0 s p parts.0) parts.1

  pub one_leads : (P Q : Script → Type 0) (i : Item) → Takes P Q i → Lead P Q (i ∷ [])
  one_leads P Q i takes s p none = takes s p (none_failing (checks text s i) [] none).0

  pub single_leads : (P Q : Script → Type 0) (r : Rule Item) → ((i : Item) → IsTold text r i → Takes P Q i) →
      (is : List Item) → IsTold text (Into single r) is → Lead P Q is
  single_leads P Q r takes is h = subst (Lead P Q) (sym h.made) (one_leads P Q h.of (takes h.of h.told))

  pub both_lead : (P Q R : Script → Type 0) (xs ys : List Item) → Lead P Q xs → Lead Q R ys → Lead P R (xs ++ ys)
  both_lead P Q R xs ys first second s p none =
      let parts = none_failing (all_checks text s xs) (all_checks text (after_all text s xs) ys) (ap first_failing (sym (checks_both text s xs ys)) ∙ none) in
      subst (λ (t : Said). R t.script) (sym (after_both text s xs ys)) (second (after_all text s xs) (first s p parts.0) parts.1)

  pub then_lead : (P Q R : Script → Type 0) (r q : Rule (List Item)) → ((is : List Item) → IsTold text r is → Lead P Q is) →
      ((is : List Item) → IsTold text q is → Lead Q R is) → (is : List Item) → IsTold text (then_items r q) is → Lead P R is
  then_lead P Q R r q first second is h =
      subst (Lead P R) (sym h.made) (both_lead P Q R h.of.0 h.of.1 (first h.of.0 h.told.0) (second h.of.1 h.told.1))
