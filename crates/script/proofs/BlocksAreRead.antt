-- What the laws of blocks say of the reader of blocks in a script.
use Rattle.std.proofs.Common.{◌≡◌, ℕ, List, [], ◌∷◌, Ok, Err, refl}
use Rattle.txn_parse.specs.declared.symbols.Symbol.TheVariants as symbol
use Rattle.txn_parse.specs.Symbols.{Lexeme, lexeme}
use Rattle.txn_parse.specs.Tree.{Commands, Abort, Then, End}
use Rattle.txn_parse.specs.Grammar.{Free, IsBlock, braced, last, aborts}
use Rattle.txn_parse.specs.Reading.{Found, block_from}
use Rattle.txn_parse.specs.Laws.{Begins}
use Rattle.txn_parse.proofs.Sound.{some_token}
use Rattle.txn_parse.proofs.FreeBlocks.{free_found, free_bad, reads_free}
use Rattle.script.proofs.Found.{Answers}
use Rattle.script.proofs.Stopping.{Blocks}

by_result : (at : ℕ) (ls : List Lexeme) (r : Found Commands) → block_from at ls ≡ r → Answers at (block_from at) (IsBlock Free) ls r
by_result at ls (Ok (b, rest)) is =
    let one = free_found at ls b rest is in
    record { front = one.front; split = one.split; derived = one.derived; again = λ more same. one.again tt more same }
by_result at ls (Err f) is =
    let one = free_bad at ls f is in
    record { front = one.front; rest = one.rest; split = one.split; place = one.place; begun = one.begun; again = λ more same. one.again tt more same }

some_block : Begins (IsBlock Free) []
some_block = (
  lexeme symbol.OpenBlock some_token ∷ (lexeme symbol.Abort some_token ∷ lexeme symbol.CloseBlock some_token ∷ []),
  Then Abort End,
  braced Free some_token some_token (lexeme symbol.Abort some_token ∷ []) (Then Abort End) tt (last Free (lexeme symbol.Abort some_token ∷ []) Abort (aborts Free some_token)),
)

pub blocks : (at : ℕ) → Blocks at
blocks at = record {
  answer = λ ls. by_result at ls (block_from at ls) refl;
  some = some_block;
  are_read = λ ls b rest d. reads_free at ls rest b d;
}
