-- What a rule that fits derives is read, in front of a token with which it does not go on.
use Rattle.std.proofs.Common.{◌≡◌, ℕ, Bool, true, false, ◌&&◌, ◌||◌, cond, List, [], ◌∷◌, ◌++◌, Ok, refl, sym, ap, ◌∙◌, inl, inr}
use Rattle.std.proofs.lemmas.List.{append_assoc}
use Rattle.std.proofs.lemmas.Bool.{cond-true, cond-false}
use Rattle.txn_text.specs.declared.kinds.Token.{Token}
use Rattle.txn_parse.specs.declared.symbols.Symbol.{Symbol}
use Rattle.txn_parse.specs.declared.symbols.Symbol.TheVariants as symbol
use Rattle.txn_parse.specs.Symbols.{Lexeme, lexeme, is}
use Rattle.txn_parse.specs.Tree.{Commands}
use Rattle.txn_parse.specs.Grammar.{Free, IsBlock}
use Rattle.txn_parse.specs.Reading.{Found, ◌>>=◌, separator_at, block_from}
use Rattle.script.specs.Rules.{Rule, One, Block, Nothing, Both, Into, Either, Many, Listed, IsMany, no_item, one_more, IsListed, last_one, last_ended, listed_more, Derives, empty, begins, goes_on, next_is, one_by, one_at, read}
use Rattle.script.specs.Fits.{apart, fits}
use Rattle.script.proofs.FitsLemmas.{none_left, none_right, apart_at}
use Rattle.script.proofs.Starts.{starts_with, starts, some_starts, fits_both, fits_either, FitsMany, fits_many, FitsListed, fits_listed}
use Rattle.script.proofs.Found.{made_of}
use Rattle.script.proofs.ReadingRules.{Shortens, more_of, all_at, many_step, listed_then, list_at, listed_step}
use Rattle.script.proofs.RulesAreRead.{separator_shortens, shortens_by}
use Rattle.script.proofs.RulesAnswer.{BlocksAnswer, answers}
use Rattle.txn_parse.specs.Laws.{Begins}

-- the next token is none of these
abbrev pub Stops : (Symbol → Bool) → List Lexeme → Type 0
Stops among rest = next_is among rest ≡ false

-- behind the first of two
both_stops : {A B : Type 0} (r : Rule A) (q : Rule B) → apart (begins q) (goes_on r) ≡ true → (back rest : List Lexeme) → starts_with q back ≡ true → Stops (goes_on (Both r q)) rest → Stops (goes_on r) (back ++ rest)
both_stops r q told [] [] s stop = refl
both_stops r q told [] (l ∷ ls) s stop =
    not_both (empty q) (goes_on r l.symbol) s (none_right (goes_on q l.symbol) (empty q && goes_on r l.symbol) stop)
  where
    not_both : (a b : Bool) → a ≡ true → (a && b) ≡ false → b ≡ false
    not_both true b e n = n
    not_both false b e n = cc
both_stops r q told (l ∷ back) rest s stop = apart_at (begins q) (goes_on r) told l.symbol s

-- behind the second of two
second_stops : {A B : Type 0} (r : Rule A) (q : Rule B) (rest : List Lexeme) → Stops (goes_on (Both r q)) rest → Stops (goes_on q) rest
second_stops r q [] stop = refl
second_stops r q (l ∷ ls) stop = none_left (goes_on q l.symbol) (empty q && goes_on r l.symbol) stop

either_first : {A : Type 0} (r q : Rule A) (rest : List Lexeme) → Stops (goes_on (Either r q)) rest → Stops (goes_on r) rest
either_first r q [] stop = refl
either_first r q (l ∷ ls) stop = none_left (goes_on r l.symbol) (goes_on q l.symbol || (empty q && begins r l.symbol)) stop

either_second : {A : Type 0} (r q : Rule A) (rest : List Lexeme) → Stops (goes_on (Either r q)) rest → Stops (goes_on q) rest
either_second r q [] stop = refl
either_second r q (l ∷ ls) stop = none_left (goes_on q l.symbol) (empty q && begins r l.symbol) (none_right (goes_on r l.symbol) (goes_on q l.symbol || (empty q && begins r l.symbol)) stop)

-- where the other one is derived, the one is not begun
other_begins : {A : Type 0} (r q : Rule A) → apart (begins r) (begins q) ≡ true → (ls rest : List Lexeme) → starts_with q ls ≡ true → Stops (goes_on (Either r q)) rest → next_is (begins r) (ls ++ rest) ≡ false
other_begins r q told [] [] s stop = refl
other_begins r q told [] (l ∷ rest) s stop =
    not_both (empty q) (begins r l.symbol) s (none_right (goes_on q l.symbol) (empty q && begins r l.symbol) (none_right (goes_on r l.symbol) (goes_on q l.symbol || (empty q && begins r l.symbol)) stop))
  where
    not_both : (a b : Bool) → a ≡ true → (a && b) ≡ false → b ≡ false
    not_both true b e n = n
    not_both false b e n = cc
other_begins r q told (l ∷ ls) rest s stop = not_first (begins r l.symbol) (begins q l.symbol) s (apart_at (begins r) (begins q) told l.symbol)
  where
    not_first : (a b : Bool) → b ≡ true → (a ≡ true → b ≡ false) → a ≡ false
    not_first true b e n = let c : true ≡ false = sym e ∙ n refl in cc
    not_first false b e n = refl

many_begun : {A : Type 0} (r : Rule A) (rest : List Lexeme) → Stops (goes_on (Many r)) rest → Stops (begins r) rest
many_begun r [] stop = refl
many_begun r (l ∷ ls) stop = none_left (begins r l.symbol) (goes_on r l.symbol) stop

-- behind an item of many
many_stops : {A : Type 0} (r : Rule A) → apart (begins r) (goes_on r) ≡ true → (ms rest : List Lexeme) → starts_with (Many r) ms ≡ true → Stops (goes_on (Many r)) rest → Stops (goes_on r) (ms ++ rest)
many_stops r told [] [] s stop = refl
many_stops r told [] (l ∷ ls) s stop = none_right (begins r l.symbol) (goes_on r l.symbol) stop
many_stops r told (l ∷ ms) rest s stop = apart_at (begins r) (goes_on r) told l.symbol s

-- an item is read
abbrev pub Reads : {A : Type 0} → Rule A → ℕ → Type 0
Reads {A} r last = (ls : List Lexeme) (a : A) (rest : List Lexeme) → Derives r ls a → Stops (goes_on r) rest → read r last (ls ++ rest) ≡ Ok (a, rest)

module _ {A : Type 0} (r : Rule A) (f : fits (Many r) ≡ true) (last : ℕ) (short : Shortens (read r last)) (reads : Reads r last) where
  parts : FitsMany r
  parts = fits_many r f

  many_reads : (ls : List Lexeme) (xs : List A) (rest : List Lexeme) → IsMany (Derives r) ls xs → Stops (goes_on (Many r)) rest → all_at (begins r) (read r last) (ls ++ rest) ≡ Ok (xs, rest)
  many_reads ls xs rest no_item stop = many_step (begins r) (read r last) short rest ∙ cond-false (next_is (begins r) rest) _ _ (many_begun r rest stop)
  many_reads ls xs rest (one_more fs ms a os d ds) stop =
      ap (all_at (begins r) (read r last)) (append_assoc fs ms rest)
      ∙ many_step (begins r) (read r last) short (fs ++ (ms ++ rest))
      ∙ cond-true (next_is (begins r) (fs ++ (ms ++ rest))) _ _ (some_starts r fs parts.some (starts r parts.item fs a d) (ms ++ rest))
      ∙ ap (λ x. x >>= more_of (all_at (begins r) (read r last))) (reads fs a (ms ++ rest) d (many_stops r parts.told_apart ms rest (starts (Many r) f ms os ds) stop))
      ∙ ap (λ x. x >>= made_of (λ os. a ∷ os)) (many_reads ms os rest ds stop)

module _ {A : Type 0} (r : Rule A) (f : fits (Listed r) ≡ true) (last : ℕ) (short : Shortens (read r last)) (reads : Reads r last) where
  parts_of : FitsListed r
  parts_of = fits_listed r f

  closes : (y : Token) (rest : List Lexeme) → separator_at last (lexeme symbol.CloseBlock y ∷ rest) ≡ Ok (false, rest)
  unfolding separator_at
  closes y rest = refl

  ended : (s y : Token) (rest : List Lexeme) → separator_at last (lexeme symbol.Semicolon s ∷ lexeme symbol.CloseBlock y ∷ rest) ≡ Ok (false, rest)
  unfolding separator_at
  ended s y rest = refl

  no_close : (x : Symbol) → begins r x ≡ true → is x symbol.CloseBlock ≡ false
  no_close symbol.CloseBlock b = let c : true ≡ false = sym b ∙ parts_of.closes in cc
  no_close x b = refl

  further : (s : Token) (ls : List Lexeme) → next_is (begins r) ls ≡ true → separator_at last (lexeme symbol.Semicolon s ∷ ls) ≡ Ok (true, ls)
  unfolding separator_at
  further s [] b = cc
  further s (l ∷ ls) b = cond-false (is l.symbol symbol.CloseBlock) _ _ (no_close l.symbol b)

  listed_starts : (ms : List Lexeme) (os : List A) → IsListed (Derives r) ms os → (rest : List Lexeme) → next_is (begins r) (ms ++ rest) ≡ true
  listed_starts ms os d rest = some_starts (Listed r) ms refl (starts (Listed r) f ms os d) rest

  item_read : (fs : List Lexeme) (a : A) (rest more : List Lexeme) → Derives r fs a → Stops (goes_on r) (rest ++ more) → list_at last (read r last) ((fs ++ rest) ++ more) ≡ listed_then last (list_at last (read r last)) (a, rest ++ more)
  item_read fs a rest more d stop =
      ap (list_at last (read r last)) (append_assoc fs rest more)
      ∙ listed_step last (read r last) short (separator_shortens last) (fs ++ (rest ++ more))
      ∙ ap (λ x. x >>= listed_then last (list_at last (read r last))) (reads fs a (rest ++ more) d stop)

  listed_reads : (ls : List Lexeme) (xs : List A) (rest : List Lexeme) → IsListed (Derives r) ls xs → list_at last (read r last) (ls ++ rest) ≡ Ok (xs, rest)
  listed_reads ls xs rest (last_one y fs a d) =
      item_read fs a (lexeme symbol.CloseBlock y ∷ []) rest d parts_of.ends
      ∙ ap (λ x. x >>= (λ m. cond m.0 (list_at last (read r last) m.1 >>= made_of (λ os. a ∷ os)) (Ok (a ∷ [], m.1)))) (closes y rest)
  listed_reads ls xs rest (last_ended s y fs a d) =
      item_read fs a (lexeme symbol.Semicolon s ∷ lexeme symbol.CloseBlock y ∷ []) rest d parts_of.goes
      ∙ ap (λ x. x >>= (λ m. cond m.0 (list_at last (read r last) m.1 >>= made_of (λ os. a ∷ os)) (Ok (a ∷ [], m.1)))) (ended s y rest)
  listed_reads ls xs rest (listed_more s fs ms a os d ds) =
      item_read fs a (lexeme symbol.Semicolon s ∷ ms) rest d parts_of.goes
      ∙ ap (λ x. x >>= (λ m. cond m.0 (list_at last (read r last) m.1 >>= made_of (λ os. a ∷ os)) (Ok (a ∷ [], m.1)))) (further s (ms ++ rest) (listed_starts ms os ds rest))
      ∙ ap (λ x. x >>= made_of (λ os. a ∷ os)) (listed_reads ms os rest ds)

-- what is true of the reader of blocks
abbrev pub BlocksAreRead : ℕ → Type 0
BlocksAreRead last = (ls : List Lexeme) (b : Commands) (rest : List Lexeme) → IsBlock Free ls b → block_from last (ls ++ rest) ≡ Ok (b, rest)

pub complete : {A : Type 0} (r : Rule A) → fits r ≡ true → (last : ℕ) → BlocksAnswer last → Begins (IsBlock Free) [] → BlocksAreRead last → Reads r last
complete (One choose sample) f last blocks b whole ls a rest d stop =
    ap (λ x. one_at last choose (x ++ rest)) d.alone ∙ ap (one_by last (lexeme d.symbol a.1) rest) d.chosen
complete Block f last blocks b whole ls a rest d stop = whole ls a rest d
complete (Nothing c) f last blocks b whole ls a rest d stop =
    ap (λ x. let y : Found _ = Ok (c, x ++ rest) in y) d.0 ∙ ap (λ x. let y : Found _ = Ok (x, rest) in y) (sym d.1)
complete (Both r q) f last blocks b whole ls a rest d stop =
    let p = fits_both r q f in
    ap (λ x. read r last x >>= (λ a. read q last a.1 >>= made_of (λ b. (a.0, b)))) (ap (λ x. x ++ rest) d.split ∙ append_assoc d.front d.back rest)
    ∙ ap (λ x. x >>= (λ a. read q last a.1 >>= made_of (λ b. (a.0, b))))
    (complete r p.first last blocks b whole d.front a.0 (d.back ++ rest) d.first (both_stops r q p.told_apart d.back rest (starts q p.second d.back a.1 d.second) stop))
    ∙ ap (λ x. x >>= made_of (λ b. (a.0, b))) (complete q p.second last blocks b whole d.back a.1 rest d.second (second_stops r q rest stop))
complete (Into make r) f last blocks b whole ls a rest d stop =
    ap (λ x. x >>= made_of make) (complete r f last blocks b whole ls d.of rest d.derived (made_stops make r rest stop))
    ∙ ap (λ x. let y : Found _ = Ok (x, rest) in y) (sym d.made)
  where
    made_stops : {A B : Type 0} (make : A → B) (r : Rule A) (rest : List Lexeme) → Stops (goes_on (Into make r)) rest → Stops (goes_on r) rest
    made_stops make r [] stop = refl
    made_stops make r (l ∷ ls) stop = stop
complete (Either r q) f last blocks b whole ls a rest (inl d) stop =
    let p = fits_either r q f in
    cond-true (next_is (begins r) (ls ++ rest)) _ _ (some_starts r ls p.some (starts r p.first ls a d) rest)
    ∙ complete r p.first last blocks b whole ls a rest d (either_first r q rest stop)
complete (Either r q) f last blocks b whole ls a rest (inr d) stop =
    let p = fits_either r q f in
    cond-false (next_is (begins r) (ls ++ rest)) _ _ (other_begins r q p.told_apart ls rest (starts q p.second ls a d) stop)
    ∙ complete q p.second last blocks b whole ls a rest d (either_second r q rest stop)
complete (Many r) f last blocks b whole ls xs rest d stop =
    let p = fits_many r f in
    many_reads r f last (shortens_by last r p.item p.some (answers r p.item last blocks b)) (complete r p.item last blocks b whole) ls xs rest d stop
complete (Listed r) f last blocks b whole ls xs rest d stop =
    let p = fits_listed r f in
    listed_reads r f last (shortens_by last r p.item p.some (answers r p.item last blocks b)) (complete r p.item last blocks b whole) ls xs rest d
