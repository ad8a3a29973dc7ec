-- What is derived begins with a symbol that its rule may begin with; and a rule that fits is read from each list that
-- begins with what it derives.
use Rattle.std.proofs.Common.{◌≡◌, Bool, true, false, not, ◌&&◌, List, [], ◌∷◌, ◌++◌, is_some, refl, sym, ap, ◌∙◌, subst, inl, inr}
use Rattle.txn_parse.specs.declared.symbols.Symbol.TheVariants as symbol
use Rattle.txn_parse.specs.Symbols.{Lexeme, lexeme}
use Rattle.txn_parse.specs.Tree.{Commands}
use Rattle.txn_parse.specs.Grammar.{Limits, IsBlock, braced}
use Rattle.script.specs.Rules.{Rule, One, Block, Nothing, Both, Into, Either, Many, Listed, IsMany, no_item, one_more, IsListed, last_one, last_ended, listed_more, Derives, empty, begins, goes_on, next_is}
use Rattle.script.specs.Fits.{apart, fits}
use Rattle.script.proofs.FitsLemmas.{and_left, and_right, both_true, or_left, or_right, not_true}

abbrev pub starts_with : {A : Type 0} → Rule A → List Lexeme → Bool
starts_with r [] = empty r
starts_with r (l ∷ ls) = begins r l.symbol

both_starts : {A B : Type 0} (r : Rule A) (q : Rule B) (front back : List Lexeme) → starts_with r front ≡ true → starts_with q back ≡ true → starts_with (Both r q) (front ++ back) ≡ true
both_starts r q [] [] s t = both_true (empty r) (empty q) s t
both_starts r q [] (l ∷ ls) s t = or_right (begins r l.symbol) (empty r && begins q l.symbol) (both_true (empty r) (begins q l.symbol) s t)
both_starts r q (l ∷ ls) back s t = or_left (begins r l.symbol) (empty r && begins q l.symbol) s

starts_right : {A : Type 0} (r q : Rule A) (ls : List Lexeme) → starts_with q ls ≡ true → starts_with (Either r q) ls ≡ true
starts_right r q [] s = s
starts_right r q (l ∷ ls) s = or_right (begins r l.symbol) (begins q l.symbol) s

starts_left : {A : Type 0} (r q : Rule A) (ls : List Lexeme) → empty r ≡ false → starts_with r ls ≡ true → starts_with (Either r q) ls ≡ true
starts_left r q [] none s = let clash : true ≡ false = sym s ∙ none in cc
starts_left r q (l ∷ ls) none s = or_left (begins r l.symbol) (begins q l.symbol) s

-- what begins with a list that a rule begins with, and is not empty
pub some_starts : {A : Type 0} (r : Rule A) (ls : List Lexeme) → empty r ≡ false → starts_with r ls ≡ true → (rest : List Lexeme) → next_is (begins r) (ls ++ rest) ≡ true
some_starts r [] none s rest = let clash : true ≡ false = sym s ∙ none in cc
some_starts r (l ∷ ls) none s rest = s

many_starts : {A : Type 0} (r : Rule A) (front back : List Lexeme) → empty r ≡ false → starts_with r front ≡ true → starts_with (Many r) (front ++ back) ≡ true
many_starts r [] back none s = let clash : true ≡ false = sym s ∙ none in cc
many_starts r (l ∷ ls) back none s = s

listed_starts : {A : Type 0} (r : Rule A) (front back : List Lexeme) → empty r ≡ false → starts_with r front ≡ true → starts_with (Listed r) (front ++ back) ≡ true
listed_starts r [] back none s = let clash : true ≡ false = sym s ∙ none in cc
listed_starts r (l ∷ ls) back none s = s

many_by : {A : Type 0} (r : Rule A) → empty r ≡ false → ((ls : List Lexeme) (a : A) → Derives r ls a → starts_with r ls ≡ true) → (ls : List Lexeme) (xs : List A) → IsMany (Derives r) ls xs → starts_with (Many r) ls ≡ true
many_by r some item ls xs no_item = refl
many_by r some item ls xs (one_more fs ms a rest d ds) = many_starts r fs ms some (item fs a d)

listed_by : {A : Type 0} (r : Rule A) → empty r ≡ false → ((ls : List Lexeme) (a : A) → Derives r ls a → starts_with r ls ≡ true) → (ls : List Lexeme) (xs : List A) → IsListed (Derives r) ls xs → starts_with (Listed r) ls ≡ true
listed_by r some item ls xs (last_one y fs a d) = listed_starts r fs (lexeme symbol.CloseBlock y ∷ []) some (item fs a d)
listed_by r some item ls xs (last_ended s y fs a d) = listed_starts r fs (lexeme symbol.Semicolon s ∷ lexeme symbol.CloseBlock y ∷ []) some (item fs a d)
listed_by r some item ls xs (listed_more s fs ms a rest d ds) = listed_starts r fs (lexeme symbol.Semicolon s ∷ ms) some (item fs a d)

block_by : {lim : Limits} {ls : List Lexeme} {b : Commands} → IsBlock lim ls b → starts_with Block ls ≡ true
block_by (braced lim x y ls cs may d) = refl

-- the parts of a test
pub record FitsBoth {A B : Type 0} (r : Rule A) (q : Rule B) : Type 0 where
  pub first : fits r ≡ true
  pub second : fits q ≡ true
  pub told_apart : apart (begins q) (goes_on r) ≡ true

pub fits_both : {A B : Type 0} (r : Rule A) (q : Rule B) → fits (Both r q) ≡ true → FitsBoth r q
fits_both r q f =
    let tail = and_right (fits r) (fits q && apart (begins q) (goes_on r)) f in
    record {
      first = and_left (fits r) (fits q && apart (begins q) (goes_on r)) f;
      second = and_left (fits q) (apart (begins q) (goes_on r)) tail;
      told_apart = and_right (fits q) (apart (begins q) (goes_on r)) tail;
    }

pub record FitsEither {A : Type 0} (r q : Rule A) : Type 0 where
  pub first : fits r ≡ true
  pub second : fits q ≡ true
  pub some : empty r ≡ false
  pub told_apart : apart (begins r) (begins q) ≡ true

pub fits_either : {A : Type 0} (r q : Rule A) → fits (Either r q) ≡ true → FitsEither r q
fits_either r q f =
    let one = and_right (fits r) (fits q && (not (empty r) && apart (begins r) (begins q))) f in
    let two = and_right (fits q) (not (empty r) && apart (begins r) (begins q)) one in
    record {
      first = and_left (fits r) (fits q && (not (empty r) && apart (begins r) (begins q))) f;
      second = and_left (fits q) (not (empty r) && apart (begins r) (begins q)) one;
      some = not_true (empty r) (and_left (not (empty r)) (apart (begins r) (begins q)) two);
      told_apart = and_right (not (empty r)) (apart (begins r) (begins q)) two;
    }

pub record FitsMany {A : Type 0} (r : Rule A) : Type 0 where
  pub item : fits r ≡ true
  pub some : empty r ≡ false
  pub told_apart : apart (begins r) (goes_on r) ≡ true

pub fits_many : {A : Type 0} (r : Rule A) → fits (Many r) ≡ true → FitsMany r
fits_many r f =
    let one = and_right (fits r) (not (empty r) && apart (begins r) (goes_on r)) f in
    record {
      item = and_left (fits r) (not (empty r) && apart (begins r) (goes_on r)) f;
      some = not_true (empty r) (and_left (not (empty r)) (apart (begins r) (goes_on r)) one);
      told_apart = and_right (not (empty r)) (apart (begins r) (goes_on r)) one;
    }

pub record FitsListed {A : Type 0} (r : Rule A) : Type 0 where
  pub item : fits r ≡ true
  pub some : empty r ≡ false
  pub closes : begins r symbol.CloseBlock ≡ false
  pub goes : goes_on r symbol.Semicolon ≡ false
  pub ends : goes_on r symbol.CloseBlock ≡ false

pub fits_listed : {A : Type 0} (r : Rule A) → fits (Listed r) ≡ true → FitsListed r
fits_listed r f =
    let e = not (goes_on r symbol.CloseBlock) in
    let d = not (goes_on r symbol.Semicolon) in
    let c = not (begins r symbol.CloseBlock) in
    let b = not (empty r) in
    let one = and_right (fits r) (b && (c && (d && e))) f in
    let two = and_right b (c && (d && e)) one in
    let three = and_right c (d && e) two in
    record {
      item = and_left (fits r) (b && (c && (d && e))) f;
      some = not_true (empty r) (and_left b (c && (d && e)) one);
      closes = not_true (begins r symbol.CloseBlock) (and_left c (d && e) two);
      goes = not_true (goes_on r symbol.Semicolon) (and_left d e three);
      ends = not_true (goes_on r symbol.CloseBlock) (and_right d e three);
    }

-- what is derived begins so
pub starts : {A : Type 0} (r : Rule A) → fits r ≡ true → (ls : List Lexeme) (a : A) → Derives r ls a → starts_with r ls ≡ true
starts (One choose sample) f ls a d = subst (λ x. starts_with (One choose sample) x ≡ true) (sym d.alone) (ap is_some d.chosen)
starts Block f ls a d = block_by d
starts (Nothing b) f ls a d = subst (λ x. starts_with (Nothing b) x ≡ true) (sym d.0) refl
starts (Both r q) f ls c d =
    let p = fits_both r q f in
    subst (λ x. starts_with (Both r q) x ≡ true) (sym d.split) (both_starts r q d.front d.back (starts r p.first d.front c.0 d.first) (starts q p.second d.back c.1 d.second))
starts (Into make r) f ls b d = made_starts make r ls (starts r f ls d.of d.derived)
  where
    made_starts : {A B : Type 0} (make : A → B) (r : Rule A) (ls : List Lexeme) → starts_with r ls ≡ true → starts_with (Into make r) ls ≡ true
    made_starts make r [] s = s
    made_starts make r (l ∷ ls) s = s
starts (Either r q) f ls a (inl d) = let p = fits_either r q f in starts_left r q ls p.some (starts r p.first ls a d)
starts (Either r q) f ls a (inr d) = let p = fits_either r q f in starts_right r q ls (starts q p.second ls a d)
starts (Many r) f ls xs d = let p = fits_many r f in many_by r p.some (starts r p.item) ls xs d
starts (Listed r) f ls xs d = let p = fits_listed r f in listed_by r p.some (starts r p.item) ls xs d
