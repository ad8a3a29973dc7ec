-- What a text says keeps the limits of scripts, and the canonical text of a script is read back.
use Rattle.std.specs.Prelude.{◌≡◌, ℕ, List, Result, Ok, Err}
use Rattle.txn_text.specs.declared.faults.TextFault.{TextFault}
use Rattle.txn_text.specs.declared.faults.TextFault.TheVariants.{At, NoMemory}
use Rattle.script.specs.declared.setup.Setup.{Setup}
use Rattle.script.specs.Meaning.{Script, said_by}
use Rattle.script.specs.Canonical.{canonical_script}
use Rattle.script.specs.Sayable.{IsSayable, IsSetup}
use Rattle.script.specs.Texts.{IsScriptOf, IsSetupOf}

-- a script that some text says keeps the limits of scripts
abbrev pub SaidIsSayable : Type 0
SaidIsSayable = (text : List ℕ) (s : Script) → IsScriptOf text s → IsSayable s

-- the canonical text of a setup that some text says, says it, and nothing else
pub record CanonicalIsReadBack : Type 0 where
  pub says : (s : Setup) → IsSetup s → IsSetupOf (canonical_script s) s
  pub alone : (s : Setup) (t : Script) → IsSetup s → IsScriptOf (canonical_script s) t → t ≡ said_by s

-- what a call gave: a setup that means the same, or want of memory
abbrev pub IsReadBack : Setup → Result Setup TextFault → Type 0
IsReadBack s (Ok t) = said_by t ≡ said_by s
IsReadBack s (Err (At line kind)) = ⊥
IsReadBack s (Err NoMemory) = Unit {0}
