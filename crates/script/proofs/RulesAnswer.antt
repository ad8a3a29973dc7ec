-- Each rule that fits is read so: what was found is derived, and a fault is at the first token with which nothing goes on.
use Rattle.std.proofs.Common.{◌≡◌, ℕ, zero, suc, ◌<◌, Bool, true, false, cond, List, [], ◌∷◌, ◌++◌, length, Ok, refl, sym, ap, ◌∙◌, subst, inl, inr, arith}
use Rattle.std.proofs.lemmas.List.{length-append}
use Rattle.std.proofs.lemmas.Bool.{cond-true, cond-false}
use Rattle.txn_parse.specs.declared.symbols.Symbol.{Symbol}
use Rattle.txn_parse.specs.declared.symbols.Symbol.TheVariants as symbol
use Rattle.txn_parse.specs.Symbols.{Lexeme, lexeme}
use Rattle.txn_parse.specs.Grammar.{Free, IsBlock}
use Rattle.txn_parse.specs.Reading.{Reader, ◌>>=◌, separator_at, block_from}
use Rattle.txn_parse.specs.Laws.{Begins}
use Rattle.txn_parse.proofs.Sound.{some_token}
use Rattle.script.specs.Rules.{Rule, One, Block, Nothing, Both, Into, Either, Many, Listed, IsMany, no_item, one_more, IsListed, last_one, last_ended, listed_more, Derives, begins, next_is, read}
use Rattle.script.specs.Fits.{fits}
use Rattle.script.proofs.Starts.{fits_both, fits_either, fits_many, fits_listed}
use Rattle.script.proofs.Found.{Answers, found_here, then_answers, made_of, made_answers, answers_where, next_same}
use Rattle.script.proofs.ReadingRules.{Shortens, more_of, all_at, many_step, listed_then, list_at, listed_step}
use Rattle.script.proofs.RulesAreRead.{sample, one_reads, IsSep, closes, ended, parts, separator_answers, separator_shortens, shortens_by, some_tokens}

-- what is true of the items behind one
abbrev Later : {A : Type 0} → ℕ → Reader A → (List Lexeme → A → Type 0) → List Lexeme → Type 0
Later last Q G ls = (rest : List Lexeme) → length rest < length ls → Answers last Q G rest (Q rest)

-- any number of items, where so much is known of those behind the first
module _ {A : Type 0} (last : ℕ) (begun : Symbol → Bool) (item : Reader A) (G : List Lexeme → A → Type 0) (short : Shortens item)
    (some : (ls : List Lexeme) (a : A) → G ls a → 0 < length ls) (reads : (ls : List Lexeme) → Answers last item G ls (item ls)) where
  many_by : (ls : List Lexeme) → Later last (all_at begun item) (IsMany G) ls → (b : Bool) → next_is begun ls ≡ b → Answers last (all_at begun item) (IsMany G) ls (all_at begun item ls)
  many_by ls later true is =
      subst (Answers last (all_at begun item) (IsMany G) ls) (sym (many_step begun item short ls ∙ cond-true (next_is begun ls) _ _ is))
      (answers_where last (all_at begun item) (λ ms. item ms >>= more_of (all_at begun item)) (IsMany G) (IsMany G) ls (item ls >>= more_of (all_at begun item))
      (λ ms same. many_step begun item short ms ∙ cond-true (next_is begun ms) _ _ (sym (next_same begun ls ms same) ∙ is))
      (λ ms xs d. d)
      (then_answers last item G (more_of (all_at begun item)) (IsMany G) ls (item ls) (reads ls)
      (λ a front d. ([], a ∷ [], one_more front [] a [] d no_item))
      (λ a front rest split d.
      made_answers last (λ xs. a ∷ xs) (all_at begun item) (IsMany G) (λ ms. IsMany G (front ++ ms)) rest (all_at begun item rest)
      (λ ms xs e. one_more front ms a xs d e)
      (later rest (let e = ap length split in let f = length-append front rest in let g = some front a d in omega (arith, e, f, g))))))
  many_by ls later false is =
      subst (Answers last (all_at begun item) (IsMany G) ls) (sym (many_step begun item short ls ∙ cond-false (next_is begun ls) _ _ is))
      (answers_where last (all_at begun item) (λ ms. Ok ([], ms)) (IsMany G) (IsMany G) ls (Ok ([], ls))
      (λ ms same. many_step begun item short ms ∙ cond-false (next_is begun ms) _ _ (sym (next_same begun ls ms same) ∙ is))
      (λ ms xs d. d)
      (found_here (IsMany G) [] ls no_item))

  many_answers : (n : ℕ) (ls : List Lexeme) → length ls < n → Answers last (all_at begun item) (IsMany G) ls (all_at begun item ls)
  many_answers zero ls few = absurd (omega (arith, few))
  many_answers (suc n) ls few = many_by ls (λ rest less. many_answers n rest (omega (arith, less, few))) (next_is begun ls) refl

-- items between semicolons
module _ {A : Type 0} (last : ℕ) (item : Reader A) (G : List Lexeme → A → Type 0) (short : Shortens item)
    (some : (ls : List Lexeme) (a : A) → G ls a → 0 < length ls) (reads : (ls : List Lexeme) → Answers last item G ls (item ls)) (begun : Begins G []) where
  step : (ms : List Lexeme) → list_at last item ms ≡ (item ms >>= listed_then last (list_at last item))
  step ms = listed_step last item short (separator_shortens last) ms

  go_on : (a : A) (front : List Lexeme) → G front a → (m : Bool) (sep : List Lexeme) → IsSep sep m → (more : List Lexeme) × (xs : List A) × IsListed G (front ++ (sep ++ more)) xs
  go_on a front d false sep (closes y) = ([], a ∷ [], last_one y front a d)
  go_on a front d false sep (ended s y) = ([], a ∷ [], last_ended s y front a d)
  go_on a front d true sep (parts s) = (begun.0 ++ lexeme symbol.CloseBlock some_token ∷ [], a ∷ begun.1 ∷ [], listed_more s front (begun.0 ++ lexeme symbol.CloseBlock some_token ∷ []) a (begun.1 ∷ []) d (last_one some_token begun.0 begun.1 begun.2))

  behind : (a : A) (front : List Lexeme) → G front a → (m : Bool) (sep back : List Lexeme) → IsSep sep m → Answers last (list_at last item) (IsListed G) back (list_at last item back) →
      Answers last (λ ms. cond m (list_at last item ms >>= made_of (λ xs. a ∷ xs)) (Ok (a ∷ [], ms))) (λ ms. IsListed G (front ++ (sep ++ ms))) back (cond m (list_at last item back >>= made_of (λ xs. a ∷ xs)) (Ok (a ∷ [], back)))
  behind a front d false sep back (closes y) later = found_here (λ ms. IsListed G (front ++ lexeme symbol.CloseBlock y ∷ ms)) (a ∷ []) back (last_one y front a d)
  behind a front d false sep back (ended s y) later = found_here (λ ms. IsListed G (front ++ lexeme symbol.Semicolon s ∷ lexeme symbol.CloseBlock y ∷ ms)) (a ∷ []) back (last_ended s y front a d)
  behind a front d true sep back (parts s) later =
      made_answers last (λ xs. a ∷ xs) (list_at last item) (IsListed G) (λ ms. IsListed G (front ++ lexeme symbol.Semicolon s ∷ ms)) back (list_at last item back)
      (λ ms xs e. listed_more s front ms a xs d e) later

  listed_by : (ls : List Lexeme) → Later last (list_at last item) (IsListed G) ls → Answers last (list_at last item) (IsListed G) ls (list_at last item ls)
  listed_by ls later =
      subst (Answers last (list_at last item) (IsListed G) ls) (sym (step ls))
      (answers_where last (list_at last item) (λ ms. item ms >>= listed_then last (list_at last item)) (IsListed G) (IsListed G) ls (item ls >>= listed_then last (list_at last item))
      (λ ms same. step ms) (λ ms xs d. d)
      (then_answers last item G (listed_then last (list_at last item)) (IsListed G) ls (item ls) (reads ls)
      (λ a front d. (lexeme symbol.CloseBlock some_token ∷ [], a ∷ [], last_one some_token front a d))
      (λ a front rest split d.
      then_answers last (separator_at last) IsSep (λ m. cond m.0 (list_at last item m.1 >>= made_of (λ xs. a ∷ xs)) (Ok (a ∷ [], m.1))) (λ ms. IsListed G (front ++ ms)) rest (separator_at last rest)
      (separator_answers last rest)
      (λ m sep e. go_on a front d m sep e)
      (λ m sep back parted e. behind a front d m sep back e (later back
      (let x = ap length split in let f = length-append front rest in let g = some front a d in let y = ap length parted in let z = length-append sep back in omega (arith, x, f, g, y, z)))))))

  listed_answers : (n : ℕ) (ls : List Lexeme) → length ls < n → Answers last (list_at last item) (IsListed G) ls (list_at last item ls)
  listed_answers zero ls few = absurd (omega (arith, few))
  listed_answers (suc n) ls few = listed_by ls (λ rest less. listed_answers n rest (omega (arith, less, few)))

-- one or the other
module _ {A : Type 0} (r q : Rule A) (last : ℕ) (ls : List Lexeme) (one_answers : Answers last (read r last) (Derives r) ls (read r last ls)) (two_answers : Answers last (read q last) (Derives q) ls (read q last ls)) where
  either_by : (t : Bool) → next_is (begins r) ls ≡ t → Answers last (read (Either r q) last) (Derives (Either r q)) ls (read (Either r q) last ls)
  either_by true is =
      subst (Answers last (read (Either r q) last) (Derives (Either r q)) ls) (sym (cond-true (next_is (begins r) ls) _ _ is))
      (answers_where last (read (Either r q) last) (read r last) (Derives r) (Derives (Either r q)) ls (read r last ls)
      (λ ms same. cond-true (next_is (begins r) ms) _ _ (sym (next_same (begins r) ls ms same) ∙ is))
      (λ ms a d. inl d) one_answers)
  either_by false is =
      subst (Answers last (read (Either r q) last) (Derives (Either r q)) ls) (sym (cond-false (next_is (begins r) ls) _ _ is))
      (answers_where last (read (Either r q) last) (read q last) (Derives q) (Derives (Either r q)) ls (read q last ls)
      (λ ms same. cond-false (next_is (begins r) ms) _ _ (sym (next_same (begins r) ls ms same) ∙ is))
      (λ ms a d. inr d) two_answers)

-- what is true of the reader of blocks
abbrev pub BlocksAnswer : ℕ → Type 0
BlocksAnswer last = (ls : List Lexeme) → Answers last (block_from last) (IsBlock Free) ls (block_from last ls)

pub answers : {A : Type 0} (r : Rule A) → fits r ≡ true → (last : ℕ) → BlocksAnswer last → Begins (IsBlock Free) [] → (ls : List Lexeme) → Answers last (read r last) (Derives r) ls (read r last ls)
answers (One choose s) f last blocks b ls = one_reads last choose ls (sample (One choose s) f b)
answers Block f last blocks b ls = blocks ls
answers (Nothing a) f last blocks b ls = found_here (Derives (Nothing a)) a ls (refl, refl)
answers (Both r q) f last blocks b ls =
    let p = fits_both r q f in
    let x = sample q p.second b in
    then_answers last (read r last) (Derives r) (λ a. read q last a.1 >>= made_of (λ b. (a.0, b))) (Derives (Both r q)) ls (read r last ls) (answers r p.first last blocks b ls)
    (λ a front d. (x.0, (a, x.1), record { front = front; back = x.0; split = refl; first = d; second = x.2 }))
    (λ a front rest split d.
    made_answers last (λ b. (a, b)) (read q last) (Derives q) (λ ms. Derives (Both r q) (front ++ ms)) rest (read q last rest)
    (λ ms c e. record { front = front; back = ms; split = refl; first = d; second = e })
    (answers q p.second last blocks b rest))
answers (Into make r) f last blocks b ls =
    made_answers last make (read r last) (Derives r) (Derives (Into make r)) ls (read r last ls)
    (λ ms a d. record { of = a; derived = d; made = refl })
    (answers r f last blocks b ls)
answers (Either r q) f last blocks b ls =
    let p = fits_either r q f in
    either_by r q last ls (answers r p.first last blocks b ls) (answers q p.second last blocks b ls) (next_is (begins r) ls) refl
answers (Many r) f last blocks b ls =
    let p = fits_many r f in
    let item = answers r p.item last blocks b in
    many_answers last (begins r) (read r last) (Derives r) (shortens_by last r p.item p.some item) (some_tokens r p.item p.some) item (suc (length ls)) ls (omega arith)
answers (Listed r) f last blocks b ls =
    let p = fits_listed r f in
    let item = answers r p.item last blocks b in
    listed_answers last (read r last) (Derives r) (shortens_by last r p.item p.some item) (some_tokens r p.item p.some) item (sample r p.item b) (suc (length ls)) ls (omega arith)
