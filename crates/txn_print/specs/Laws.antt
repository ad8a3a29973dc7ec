-- What is true of canonical text.
use Rattle.std.specs.Prelude.{◌≡◌, ℕ, true, List, length, None, Ok}
use Rattle.std.specs.List.{list_all, IsDistinct}
use Rattle.std.specs.Str.{bytes_eq}
use Rattle.morty_base.specs.ScriptNames.{is_name}
use Rattle.txn_lang.specs.declared.limits.TheConstants.{DEEPEST_BLOCK, LONGEST_EXPRESSION}
use Rattle.txn_lang.specs.Tree.{Term, commands}
use Rattle.txn_lang.specs.Limits.{tokens}
use Rattle.txn_lang.specs.Program.{Program, IsProgram}
use Rattle.txn_text.specs.declared.kinds.Token.{Token}
use Rattle.txn_text.specs.Tokens.{tokens_of}
use Rattle.txn_parse.specs.Symbols.{lexemes}
use Rattle.txn_parse.specs.Tree.{Commands}
use Rattle.txn_parse.specs.Grammar.{Within, IsBlock}
use Rattle.txn_parse.specs.Binding.{first_failing, names_of, bound_body, block_checks}
use Rattle.txn_print.specs.Canonical.{Names, term_pieces, canonical}
use Rattle.txn_print.specs.Written.{AreWritten}

-- an expression has as many pieces as the limit on its length counts
abbrev pub PiecesAreCounted : Type 0
PiecesAreCounted = (locals : Names) (e : Term) → length (term_pieces locals e) ≡ tokens e

-- the text is one block, which passes its checks and stands for the program
pub record IsTextOf (tables : Names) (p : Program) (text : List ℕ) : Type 0 where
  pub tokens : List Token
  pub are_tokens : tokens_of text ≡ Ok tokens
  pub block : Commands
  pub derived : IsBlock (Within LONGEST_EXPRESSION DEEPEST_BLOCK) (lexemes text tokens) block
  pub passes : (line : ℕ) → first_failing (block_checks text tables block line) ≡ None
  pub names : names_of text block ≡ p.names
  pub body : bound_body text tables block ≡ commands p.body

-- distinct names of tables
pub record AreTables (tables : Names) : Type 0 where
  pub named : list_all is_name tables ≡ true
  pub distinct : IsDistinct bytes_eq tables

-- the canonical text of a program is read as that program
abbrev pub CanonicalIsRead : Type 0
CanonicalIsRead = (tables : Names) (p : Program) → AreTables tables → IsProgram p → AreWritten (length tables) (commands p.body) → IsTextOf tables p (canonical tables p)
