-- Blocks without limits: what is in the grammar is found, what is found is in it, and a fault is at the first bad token.
use Rattle.std.proofs.Common.{◌≡◌, ℕ, ◌+◌, ◌≤◌, List, [], ◌∷◌, ◌++◌, length, Ok, Err, refl, sym, ap, ◌∙◌, subst, arith, inl, inr, ⊎_elim}
use Rattle.std.proofs.lemmas.List.{append_assoc, append-nil, length-append}
use Rattle.txn_text.specs.declared.faults.TextFault.{TextFault}
use Rattle.txn_parse.specs.Symbols.{Lexeme}
use Rattle.txn_parse.specs.Tree.{Commands}
use Rattle.txn_parse.specs.Grammar.{Free, Within, IsBlock}
use Rattle.txn_parse.specs.Reading.{Found, Reader, syntax_at, block_at, block_from}
use Rattle.txn_parse.specs.Laws.{IsFirstBad}
use Rattle.txn_parse.proofs.LimitsLemmas.{free_block, bound_block}
use Rattle.txn_parse.proofs.Sound.{IsFound, IsBad, Answers, first_of}
use Rattle.txn_parse.proofs.SoundBlocks.{block_answers}
use Rattle.txn_parse.proofs.CompleteBlocks.{reads_block}
use Rattle.txn_parse.proofs.WideLimits.{block_plain}

-- limits of at least n
record Wide (n : ℕ) : Type 0 where
  room : ℕ
  depth : ℕ
  rooms : n ≤ room
  depths : n ≤ depth

both : (n m : ℕ) → n ≤ m → Wide n
both n m few = record { room = m; depth = m; rooms = few; depths = few }

abbrev AnswersWide : ℕ → List Lexeme → Found Commands → Type 0
AnswersWide last ls r = Answers last (λ (j : Wide (length ls)). block_at last j.room j.depth) (IsBlock (Within (length ls) (length ls))) (IsBlock Free) ls r

wide_answers : (last : ℕ) (ls : List Lexeme) → AnswersWide last ls (block_at last (length ls) (length ls) ls)
wide_answers last ls = block_answers last (length ls) (λ (j : Wide (length ls)). j.room) (λ j. j.rooms) (length ls) (λ j. j.depth) (λ j. j.depths) ls

-- limits as great as the number of tokens are none
wide_by : (last n : ℕ) (ls : List Lexeme) → length ls ≤ n → (r : Found Commands) → block_at last (length ls) (length ls) ls ≡ r → AnswersWide last ls r → block_at last n n ls ≡ r
unfolding both
wide_by last n ls few (Ok r) is one = ap (block_at last n n) one.split ∙ one.again (both (length ls) n few) r.1 refl
wide_by last n ls few (Err f) is (inl one) =
    ap (block_at last n n) one.split ∙ one.again (both (length ls) n few) one.rest refl ∙ ap (λ (e : TextFault). let r : Found Commands = Err e in r) (sym one.place)
wide_by last n ls few (Err f) is (inr one) =
    let none = (block_plain last (length ls) (length ls) (omega arith) ls (omega arith)).plain f is one.l.token.line in
    absurd (⊎_elim none.0 none.1 one.place)

wide : (last n : ℕ) (ls : List Lexeme) → length ls ≤ n → block_at last n n ls ≡ block_from last ls
unfolding block_from
wide last n ls few = wide_by last n ls few (block_at last (length ls) (length ls) ls) refl (wide_answers last ls)

-- the same lists are read again without limits
again_free : (last : ℕ) (ls ms : List Lexeme) (r : Found Commands) → ((j : Wide (length ls)) → block_at last j.room j.depth ms ≡ r) → block_from last ms ≡ r
unfolding both
again_free last ls ms r again =
    let n = length ls + length ms in
    sym (wide last n ms (omega arith)) ∙ again (both (length ls) n (omega arith))

found_by : (last : ℕ) (ls : List Lexeme) (b : Commands) (rest : List Lexeme) (r : Found Commands) → r ≡ Ok (b, rest) → AnswersWide last ls r → IsFound (λ (j : Unit {0}). block_from last) (IsBlock Free) ls b rest
found_by last ls b rest (Ok q) is one =
    let same : q ≡ (b, rest) = cc in
    subst (λ (x : Commands × List Lexeme). IsFound (λ (j : Unit {0}). block_from last) (IsBlock Free) ls x.0 x.1) same (record {
      front = one.front;
      split = one.split;
      derived = free_block one.derived;
      again = λ j more first. again_free last ls (one.front ++ more) (Ok (q.0, more)) (λ i. one.again i more first);
    })
found_by last ls b rest (Err f) is one = cc

pub free_found : (last : ℕ) (ls : List Lexeme) (b : Commands) (rest : List Lexeme) → block_from last ls ≡ Ok (b, rest) → IsFound (λ (j : Unit {0}). block_from last) (IsBlock Free) ls b rest
unfolding block_from
free_found last ls b rest is = found_by last ls b rest (block_at last (length ls) (length ls) ls) is (wide_answers last ls)

bad_by : (last : ℕ) (ls : List Lexeme) (f : TextFault) (r : Found Commands) → block_at last (length ls) (length ls) ls ≡ r → r ≡ Err f → AnswersWide last ls r → IsBad last (λ (j : Unit {0}). block_from last) (IsBlock Free) ls f
bad_by last ls f (Ok q) was is one = cc
bad_by last ls f (Err g) was is (inl one) =
    let same : g ≡ f = cc in
    subst (IsBad last (λ (j : Unit {0}). block_from last) (IsBlock Free) ls) same (record {
      front = one.front;
      rest = one.rest;
      split = one.split;
      place = one.place;
      begun = one.begun;
      again = λ j more first. again_free last ls (one.front ++ more) (Err (syntax_at last more)) (λ i. one.again i more first);
    })
bad_by last ls f (Err g) was is (inr one) =
    let none = (block_plain last (length ls) (length ls) (omega arith) ls (omega arith)).plain g was one.l.token.line in
    absurd (⊎_elim none.0 none.1 one.place)

pub free_bad : (last : ℕ) (ls : List Lexeme) (f : TextFault) → block_from last ls ≡ Err f → IsBad last (λ (j : Unit {0}). block_from last) (IsBlock Free) ls f
unfolding block_from
free_bad last ls f is = bad_by last ls f (block_at last (length ls) (length ls) ls) refl is (wide_answers last ls)

-- what is in the grammar is found, whatever follows it
pub reads_free : (last : ℕ) (ls rest : List Lexeme) (b : Commands) → IsBlock Free ls b → block_from last (ls ++ rest) ≡ Ok (b, rest)
unfolding block_from
reads_free last ls rest b d =
    let n = length (ls ++ rest) in
    let len = length-append ls rest in
    reads_block last n n ls b rest (bound_block d n n (omega (arith, len)) (omega (arith, len)))

enough : (last : ℕ) (ls : List Lexeme) (b : Commands) → IsBlock Free ls b → (j : Unit {0}) × (block_from last ls ≡ Ok (b, []))
enough last ls b d = (tt, ap (block_from last) (sym (append-nil ls)) ∙ reads_free last ls [] b d)

-- a reader that finds what is in the grammar: so a bad token is the first
first_bad : {A J : Type 0} (last : ℕ) (Q : J → Reader A) (H : List Lexeme → A → Type 0) → ((ls : List Lexeme) (a : A) → H ls a → (j : J) × (Q j ls ≡ Ok (a, []))) →
    (ls : List Lexeme) (f : TextFault) → IsBad last Q H ls f → IsFirstBad H last ls f
first_bad last Q H enough ls f one = record {
  front = one.front;
  rest = one.rest;
  split = one.split;
  place = one.place;
  begun = one.begun;
  bad = λ l rest is begun.
      let whole = (one.front ++ l ∷ []) ++ begun.0 in
      let tokens : whole ≡ one.front ++ (l ∷ begun.0) = append_assoc one.front (l ∷ []) begun.0 in
      let read = enough whole begun.1 begun.2 in
      let fails = one.again read.0 (l ∷ begun.0) (ap first_of is) in
      let same = ap (Q read.0) tokens in
      let clash : Err (syntax_at last (l ∷ begun.0)) ≡ Ok (begun.1, []) = sym fails ∙ sym same ∙ read.1 in
      cc;
}

-- a fault is at the first token with which nothing begins
pub free_first_bad : (last : ℕ) (ls : List Lexeme) (f : TextFault) → block_from last ls ≡ Err f → IsFirstBad (IsBlock Free) last ls f
free_first_bad last ls f is = first_bad last (λ (j : Unit {0}). block_from last) (IsBlock Free) (enough last) ls f (free_bad last ls f is)
