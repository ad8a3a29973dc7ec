-- The canonical text of a program is read as that program.
use Rattle.std.proofs.Common.{◌≡◌, ℕ, Bool, true, false, List, [], ◌∷◌, ◌++◌, length, take, refl, sym, ap, ◌∙◌, subst, arith}
use Rattle.std.proofs.lemmas.List.{append-nil}
use Rattle.txn_lang.specs.declared.limits.TheConstants.{DEEPEST_BLOCK}
use Rattle.txn_lang.specs.Tree as lang
use Rattle.txn_lang.specs.Limits.{IsWithin}
use Rattle.txn_lang.specs.Form.{IsWellFormed}
use Rattle.txn_text.specs.Layout.{ended}
use Rattle.txn_text.specs.declared.faults.FaultKind.TheVariants.{ProgramLimit}
use Rattle.txn_text.proofs.LayoutLemmas.{laid_out_is_read}
use Rattle.txn_parse.specs.Symbols.{Lexeme, lexemes}
use Rattle.txn_parse.specs.Binding.{first_failing, Names, names_of, bound, bound_body, passes_limit, table_checks, local_checks, limit_check}
use Rattle.txn_parse.proofs.NamesLemmas.{none_first}
use Rattle.txn_parse.proofs.ResolveLemmas.{within_passes}
use Rattle.txn_print.specs.Canonical.{program_pieces, block_pieces, canonical}
use Rattle.txn_print.specs.Spelling.{SpellAll}
use Rattle.txn_print.specs.Written.{AreWritten}
use Rattle.txn_print.specs.Laws.{AreTables, CanonicalIsRead}
use Rattle.txn_print.proofs.LaidLemmas.{are_laid}
use Rattle.txn_print.proofs.LexedLemmas.{Lexed, lexed}
use Rattle.txn_print.proofs.PiecesLemmas.{block_are}
use Rattle.txn_print.proofs.ReadBlocks.{BlockRead}
use Rattle.txn_print.proofs.ReadPrograms.{block_read}

-- a block as it was read, with its names and body
pub record WholeRead (text : List ℕ) (tables locals : Names) (ls : List Lexeme) (body : lang.Commands) : Type 0 where
  pub read : BlockRead text tables locals 0 DEEPEST_BLOCK ls body
  pub names : names_of text read.raw ≡ locals
  pub whole : bound_body text tables read.raw ≡ body
  pub limit : passes_limit text tables read.raw ≡ false

take_all : {A : Type 0} (xs : List A) → take (length xs) xs ≡ xs
take_all [] = refl
take_all (x ∷ xs) = ap (λ ys. x ∷ ys) (take_all xs)

pub whole_read : (text : List ℕ) (tables locals : Names) (body : lang.Commands) → AreTables tables → IsWithin (length locals) body → IsWellFormed locals body → AreWritten (length tables) body →
    (ls : List Lexeme) → Lexed text (block_pieces tables locals body) ls → WholeRead text tables locals ls body
whole_read text tables locals body known within formed written ls l =
    let r = block_read text tables locals formed.distinct known.distinct body 0 DEEPEST_BLOCK within.depth_within formed.filled formed.formed within.each written ls l in
    let names : names_of text r.raw ≡ locals = r.told.names ∙ ap (λ (k : ℕ). take k locals) formed.all_placed ∙ take_all locals in
    let whole : bound_body text tables r.raw ≡ body = ap (λ (ns : Names). bound text tables ns r.raw) names ∙ r.told.stands in
    record {
      read = r;
      names = names;
      whole = whole;
      limit = within_passes text tables r.raw (subst (λ (ns : Names). IsWithin (length ns) (bound_body text tables r.raw)) (sym names) (subst (IsWithin (length locals)) (sym whole) within)) r.told.times;
    }

pub canonical_is_read : CanonicalIsRead
canonical_is_read tables p known is written =
    let text = canonical tables p in
    let pieces = program_pieces tables p in
    let are = block_are p.names is.formed.named tables known.named (lang.commands p.body) is.within.each written in
    let laid = are_laid text pieces true 0 (length text) [] [] are (sym (append-nil text)) refl (omega arith) (ended (length text) (omega arith)) in
    let tokens = laid.tokens ++ [] in
    let spelled : SpellAll text pieces tokens = subst (SpellAll text pieces) (sym (append-nil laid.tokens)) laid.spelled in
    let r = whole_read text tables p.names (lang.commands p.body) known is.within is.formed written (lexemes text tokens) (lexed text pieces tokens spelled) in
    let raw = r.read.raw in
    record {
      tokens = tokens;
      are_tokens = laid_out_is_read text tokens laid.laid;
      block = raw;
      derived = r.read.derived;
      passes = λ line.
          none_first (table_checks text tables raw) (local_checks text [] raw ++ limit_check text tables raw line ∷ []) r.read.told.known
          ∙ none_first (local_checks text [] raw) (limit_check text tables raw line ∷ []) r.read.told.passes
          ∙ ap (λ (b : Bool). first_failing (record { fails = b; line = line; kind = ProgramLimit } ∷ [])) r.limit;
      names = r.names;
      body = r.whole;
    }
