-- What a text says: its script, or its one fault, which is found in three stages.
use Rattle.std.specs.Prelude.{◌≡◌, ◌⊎◌, ℕ, List, Some, None, Result, Ok, Err}
use Rattle.txn_text.specs.declared.kinds.Token.{Token}
use Rattle.txn_text.specs.declared.faults.TextFault.{TextFault}
use Rattle.txn_text.specs.declared.faults.TextFault.TheVariants.{At, NoMemory}
use Rattle.txn_text.specs.Tokens.{tokens_of}
use Rattle.txn_parse.specs.Symbols.{lexemes}
use Rattle.txn_parse.specs.Faults.{IsTheFault}
use Rattle.txn_parse.specs.Gives.{last_line}
use Rattle.txn_parse.specs.Binding.{first_failing}
use Rattle.script.specs.declared.setup.Setup.{Setup}
use Rattle.script.specs.Items.{Item}
use Rattle.script.specs.Rules.{Derives}
use Rattle.script.specs.Grammar.{script}
use Rattle.script.specs.Stages.{IsWhole}
use Rattle.script.specs.Meaning.{Script, nothing_said, script_of, said_by}
use Rattle.script.specs.Checks.{all_checks}

-- tokens that are a script's
abbrev pub IsScript : List ℕ → List Token → List Item → Type 0
IsScript text tokens items = IsWhole (Derives script) (lexemes text tokens) items

-- the items of a text
pub record HasItems (text : List ℕ) (items : List Item) : Type 0 where
  pub tokens : List Token
  pub are_tokens : tokens_of text ≡ Ok tokens
  pub is_script : IsScript text tokens items

-- a text says this script
pub record IsScriptOf (text : List ℕ) (s : Script) : Type 0 where
  pub items : List Item
  pub has : HasItems text items
  pub passes : first_failing (all_checks text nothing_said items) ≡ None
  pub says : s ≡ script_of text items

-- its tokens are bad in the second stage
pub record IsBadlyPut (text : List ℕ) (f : TextFault) : Type 0 where
  pub tokens : List Token
  pub are_tokens : tokens_of text ≡ Ok tokens
  pub «fault» : IsTheFault (Derives script) (last_line text) (lexemes text tokens) f

-- one of its items is bad in the third stage
pub record IsBadlyMeant (text : List ℕ) (f : TextFault) : Type 0 where
  pub items : List Item
  pub has : HasItems text items
  pub fails : first_failing (all_checks text nothing_said items) ≡ Some f

-- the one fault of a text
pub data IsFaultOf (text : List ℕ) (f : TextFault) : Type 0 where
  bad_token : tokens_of text ≡ Err f → IsFaultOf text f
  badly_put : IsBadlyPut text f → IsFaultOf text f
  badly_meant : IsBadlyMeant text f → IsFaultOf text f

-- a setup that the text says
abbrev pub IsSetupOf : List ℕ → Setup → Type 0
IsSetupOf text s = IsScriptOf text (said_by s)

-- what a call gave: a setup that the text says, or its fault
abbrev pub IsReadOf : List ℕ → Result Setup TextFault → Type 0
IsReadOf text (Ok s) = IsSetupOf text s
IsReadOf text (Err (At line kind)) = IsFaultOf text (At line kind)
IsReadOf text (Err NoMemory) = Unit {0}

-- each text says one script or has one fault, and not both
pub record OneOutcome : Type 0 where
  pub one_script : (text : List ℕ) (s t : Script) → IsScriptOf text s → IsScriptOf text t → s ≡ t
  pub one_fault : (text : List ℕ) (f g : TextFault) → IsFaultOf text f → IsFaultOf text g → f ≡ g
  pub not_both : (text : List ℕ) (s : Script) (f : TextFault) → IsScriptOf text s → IsFaultOf text f → ⊥
  pub some : (text : List ℕ) → ((s : Script) × IsScriptOf text s) ⊎ ((f : TextFault) × IsFaultOf text f)
