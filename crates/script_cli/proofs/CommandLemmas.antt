-- Words are one command, and which script it has.
use Rattle.std.proofs.Common.{◌≡◌, ◌⊎◌, ℕ, Bool, true, false, List, refl, sym, ap, ◌∙◌, subst, inl, inr, Option, None, Some}
use Rattle.script.specs.declared.setup.Setup.{Setup}
use Rattle.script.specs.Meaning.{said_by}
use Rattle.lab.specs.Generated.{generated}
use Rattle.script_cli.specs.declared.words.Seeded.{Seeded}
use Rattle.script_cli.specs.declared.words.Command.{Command}
use Rattle.script_cli.specs.declared.words.Command.TheVariants.{Run, Serial, Check, Trace, Gen, Big}
use Rattle.script_cli.specs.Words.{reads}
use Rattle.script_cli.specs.Due.{AreLeft, IsScriptText, IsGeneratedFor}
use Rattle.script_cli.specs.Clauses.{IsScriptFor}

-- the words are one command
pub some_none : (o : Option Command) (c : Command) → o ≡ Some c → o ≡ None → ⊥
some_none o c some none = let e : Some c ≡ None = sym some ∙ none in cc

pub one_command : (o : Option Command) (c k : Command) → o ≡ Some c → o ≡ Some k → k ≡ c
one_command o c k is also = let e : Some k ≡ Some c = sym also ∙ is in cc

pub not_both : (b : Bool) → b ≡ true → b ≡ false → ⊥
not_both b holds fails = let e : true ≡ false = sym holds ∙ fails in cc

-- the script of a command that reads, and of one that does not
pub own_read : (c : Command) (left : Option (List ℕ)) (s : Setup) (bytes : List ℕ) → reads c ≡ true → AreLeft left bytes → IsScriptText bytes s → IsScriptFor c left s
own_read (Run workers) left s bytes reading are says = (bytes, are, says)
own_read (Serial asked) left s bytes reading are says = (bytes, are, says)
own_read Check left s bytes reading are says = (bytes, are, says)
own_read Trace left s bytes reading are says = (bytes, are, says)
own_read (Gen seeded) left s bytes reading are says = absurd (not_both false reading refl)
own_read (Big seeded) left s bytes reading are says = absurd (not_both false reading refl)

pub own_generated : (c : Command) (left : Option (List ℕ)) (s : Setup) → IsGeneratedFor c s → IsScriptFor c left s
own_generated (Run workers) left s is = absurd is
own_generated (Serial asked) left s is = absurd is
own_generated Check left s is = absurd is
own_generated Trace left s is = absurd is
own_generated (Gen seeded) left s is = is
own_generated (Big seeded) left s is = is

-- a command that makes its script reads nothing, and its script is that of its seed
pub unread : (c : Command) (seeded : Seeded) → (c ≡ Gen seeded) ⊎ (c ≡ Big seeded) → reads c ≡ false
unread c seeded (inl is) = ap reads is
unread c seeded (inr is) = ap reads is

pub is_generated : (c : Command) (seeded : Seeded) (s : Setup) → (c ≡ Gen seeded) ⊎ (c ≡ Big seeded) →
    said_by s ≡ generated seeded.seed seeded.size → IsGeneratedFor c s
is_generated c seeded s (inl is) says = subst (λ (k : Command). IsGeneratedFor k s) (sym is) says
is_generated c seeded s (inr is) says = subst (λ (k : Command). IsGeneratedFor k s) (sym is) says
