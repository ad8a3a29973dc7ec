-- What the lines of settings say.
use Rattle.std.proofs.Common.{◌≡◌, ℕ, ◌≤◌, ◌==◌, Bool, true, false, not, cond, List, [], ◌∷◌, Some, None, refl, ap, ◌∙◌, arith, inl, inr}
use Rattle.std.specs.Prelude.{codes, decimal}
use Rattle.std.proofs.lemmas.Bool.Decides.{nat_tests}
use Rattle.txn_text.specs.declared.bytes.TheConstants.{GREATEST_NUMBER}
use Rattle.txn_text.specs.declared.faults.FaultKind.{FaultKind}
use Rattle.txn_text.specs.declared.faults.FaultKind.TheVariants as fault
use Rattle.txn_text.specs.declared.faults.TextFault.TheVariants.{At}
use Rattle.txn_text.specs.declared.kinds.Token.{Token}
use Rattle.txn_text.specs.Tokens.{token_bytes}
use Rattle.txn_parse.specs.declared.symbols.Symbol.{Symbol}
use Rattle.txn_parse.specs.declared.symbols.Symbol.TheVariants as symbol
use Rattle.txn_parse.specs.Symbols.{words, Lexeme, lexeme}
use Rattle.txn_parse.specs.Binding.{Check, first_failing, number_of}
use Rattle.txn_print.proofs.LexedLemmas.{Lexed, none, one}
use Rattle.txn_print.proofs.ReadTerms.{number_back}
use Rattle.script.specs.declared.items.SettingName.{SettingName}
use Rattle.script.specs.declared.items.SettingName.TheVariants as named
use Rattle.script.specs.declared.setup.Policy.{Policy as PolicyValue}
use Rattle.script.specs.declared.setup.Policy.TheVariants as policy
use Rattle.script.specs.Items.{Version, Setting, Policy}
use Rattle.script.specs.Rules.{One, Both, Into, Many}
use Rattle.script.specs.Grammar.{token, behind, number, version, setting_of, policy_of, number_setting, policy_setting, setting, single}
use Rattle.script.specs.Meaning.{Said, is_stated, with_setting, with_stated}
use Rattle.script.specs.Checks.{check, may_be}
use Rattle.script.specs.Canonical.{setting_line, policy_line}
use Rattle.script.proofs.SayLemmas.{Says, one_derived, into_derived, both_derived, token_derived, behind_derived, IsCalm, says_single, says_one}

-- a check that passes in front of others
pub pass : (b : Bool) (t : Token) (kind : FaultKind) (cs : List Check) → b ≡ false → first_failing cs ≡ None → first_failing (check b t kind ∷ cs) ≡ None
pass b t kind cs is rest = ap (λ (x : Bool). cond x (Some (At t.line kind)) (first_failing cs)) is ∙ rest

pub none_of : (b : Bool) → b ≡ true → not b ≡ false
none_of b is = ap not is

-- the numbers of settings are small
pub may_small : (name : SettingName) (n : ℕ) → may_be name n ≡ true → n ≤ GREATEST_NUMBER
may_small named.Replicas n is = grind (arith, nat_tests)
may_small named.Wardens n is = grind (arith, nat_tests)
may_small named.Tries n is = grind (arith, nat_tests)
may_small named.Execs n is = grind (arith, nat_tests)
may_small named.Gap n is = grind (arith, nat_tests)
may_small named.Turns n is = grind (arith, nat_tests)

module _ (text : List ℕ) where
  -- the version
  pub version_says : (s : Said) (ls : List Lexeme) → Lexed text (setting_line (codes "morty") 1) ls → Says text (Into single version) ls s s
  unfolding words version
  version_says s zs (one p w ps ps' b (one q t qs qs' b' none)) =
      says_single text version (lexeme symbol.Morty w ∷ lexeme symbol.Number t ∷ []) s s (Version t)
      (into_derived Version (behind symbol.Morty number) (lexeme symbol.Morty w ∷ lexeme symbol.Number t ∷ []) t
      (behind_derived symbol.Morty number w (lexeme symbol.Number t ∷ []) t refl (token_derived symbol.Number t refl)))
      (pass (not (number_of text t == 1)) t fault.Version [] (none_of (number_of text t == 1) (ap (λ n. n == 1) (number_back text t 1 (omega arith) b'))) refl)
      refl (λ n. (1, refl))

  -- what is said once a setting is stated
  abbrev pub set : SettingName → ℕ → Said → Said
  set name n s = record { script = with_setting name n s.script; stated = with_stated name s.stated }

  -- a setting
  pub setting_says : (name : SettingName) (y : Symbol) (w t : Token) (n : ℕ) (s : Said) → setting_of y ≡ Some name → IsCalm 0 (lexeme y w ∷ lexeme symbol.Number t ∷ []) → token_bytes text t ≡ decimal n →
      may_be name n ≡ true → is_stated name s.stated ≡ false → Says text (Many setting) (lexeme y w ∷ lexeme symbol.Number t ∷ []) s (set name n s)
  unfolding setting number_setting
  setting_says name y w t n s chosen calm bytes may new =
      let same = number_back text t n (may_small name n may) bytes in
      says_one text setting (lexeme y w ∷ lexeme symbol.Number t ∷ []) s (set name n s) (Setting name w t)
      (inl (into_derived (λ x. Setting x.0.0 x.0.1 x.1) (Both (One setting_of symbol.Replicas) number) (lexeme y w ∷ lexeme symbol.Number t ∷ []) ((name, w), t)
      (both_derived (One setting_of symbol.Replicas) number (lexeme y w ∷ []) (lexeme symbol.Number t ∷ []) (name, w) t (one_derived setting_of symbol.Replicas y w name chosen) (token_derived symbol.Number t refl))))
      (pass (is_stated name s.stated) w fault.RepeatedSetting (check (not (may_be name (number_of text t))) t fault.SettingRange ∷ []) new
      (pass (not (may_be name (number_of text t))) t fault.SettingRange [] (none_of (may_be name (number_of text t)) (ap (may_be name) same ∙ may)) refl))
      (ap (λ (m : ℕ). set name m s) same) calm

  -- what is said once the policy is stated
  abbrev pub set_policy : PolicyValue → Said → Said
  set_policy p s = record { script = record s.script { policy = p }; stated = record s.stated { policy = true } }

  -- the policy
  pub policy_says : (s : Said) (p : PolicyValue) (ls : List Lexeme) → s.stated.policy ≡ false → Lexed text (policy_line p) ls → Says text (Many setting) ls s (set_policy p s)
  unfolding words setting policy_setting
  policy_says s policy.Rewind zs new (one p' w ps ps' b (one q t qs qs' b' none)) =
      says_one text setting (lexeme symbol.Policy w ∷ lexeme symbol.Rewind t ∷ []) s (set_policy policy.Rewind s) (Policy w policy.Rewind)
      (inr (into_derived (λ x. Policy x.0 x.1.0) (Both (token symbol.Policy) (One policy_of symbol.Rewind)) (lexeme symbol.Policy w ∷ lexeme symbol.Rewind t ∷ []) (w, (policy.Rewind, t))
      (both_derived (token symbol.Policy) (One policy_of symbol.Rewind) (lexeme symbol.Policy w ∷ []) (lexeme symbol.Rewind t ∷ []) w (policy.Rewind, t) (token_derived symbol.Policy w refl) (one_derived policy_of symbol.Rewind symbol.Rewind t policy.Rewind refl))))
      (pass s.stated.policy w fault.RepeatedSetting [] new refl) refl (λ n. (0, refl))
  policy_says s policy.Abort zs new (one p' w ps ps' b (one q t qs qs' b' none)) =
      says_one text setting (lexeme symbol.Policy w ∷ lexeme symbol.Abort t ∷ []) s (set_policy policy.Abort s) (Policy w policy.Abort)
      (inr (into_derived (λ x. Policy x.0 x.1.0) (Both (token symbol.Policy) (One policy_of symbol.Rewind)) (lexeme symbol.Policy w ∷ lexeme symbol.Abort t ∷ []) (w, (policy.Abort, t))
      (both_derived (token symbol.Policy) (One policy_of symbol.Rewind) (lexeme symbol.Policy w ∷ []) (lexeme symbol.Abort t ∷ []) w (policy.Abort, t) (token_derived symbol.Policy w refl) (one_derived policy_of symbol.Rewind symbol.Abort t policy.Abort refl))))
      (pass s.stated.policy w fault.RepeatedSetting [] new refl) refl (λ n. (0, refl))
