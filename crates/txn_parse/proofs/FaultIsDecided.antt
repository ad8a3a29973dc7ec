-- Whether a block stands in front or a list of tokens has a fault is decided by counting, by cutting behind the first token
-- past a limit or the end of the block, and by a reader without limits.
use Rattle.std.proofs.Common.{◌≡◌, ◌⊎◌, ℕ, ◌-◌, List, [], ◌∷◌, ◌++◌, length, Option, Some, None, Ok, Err, refl, sym, ap, ◌∙◌, subst, arith, inl, inr, ⊎_elim}
use Rattle.std.proofs.lemmas.List.{append_assoc, append-nil, append_cancel_left, length-append}
use Rattle.txn_lang.specs.declared.limits.TheConstants.{DEEPEST_BLOCK, LONGEST_EXPRESSION}
use Rattle.txn_text.specs.declared.faults.FaultKind.{FaultKind}
use Rattle.txn_text.specs.declared.faults.FaultKind.TheVariants as fault
use Rattle.txn_text.specs.declared.faults.TextFault.{TextFault}
use Rattle.txn_text.specs.declared.faults.TextFault.TheVariants.{At}
use Rattle.txn_parse.specs.declared.symbols.Symbol.TheVariants as symbol
use Rattle.txn_parse.specs.Symbols.{Lexeme, lexeme}
use Rattle.txn_parse.specs.Tree.{Commands}
use Rattle.txn_parse.specs.Grammar.{Limits, Free, Within, IsBlock, braced}
use Rattle.txn_parse.specs.Reading.{Found, syntax_at, block_from}
use Rattle.txn_parse.specs.Laws.{Begins}
use Rattle.txn_parse.specs.Counts.{Counts, one_counted, and_then, counted}
use Rattle.txn_parse.specs.Faults.{IsWithinLimits, bad, past, ended, BeginsWithBlock, IsRefused, FaultIsDecided, IsPassed, IsCut, closed, passed, all, placed}
use Rattle.txn_parse.proofs.CountsLemmas.{counted-append, parts, limits_are_counts}
use Rattle.txn_parse.proofs.FirstPast.{first_past_of}
use Rattle.txn_parse.proofs.FreeBlocks.{free_found, free_first_bad, reads_free}
use Rattle.txn_parse.proofs.OneFault.{compared, fewer, stays_past}
use Rattle.txn_parse.proofs.LevelLemmas.{fronts, closes}

-- a token past a limit closes no block
past_opens : (t : Lexeme) (kind : FaultKind) (c : ℕ × ℕ) → counted c.0 c.1 (t ∷ []) ≡ Err (t, kind) → (t.symbol ≡ symbol.CloseBlock) → ⊥
past_opens t kind c is closes =
    let clash : (let r : Counts = Err (t, kind) in r) ≡ Ok (c.0 - 1, 0) = sym is ∙ ap (λ s. and_then (one_counted c.0 c.1 t s) (λ c. counted c.0 c.1 [])) closes in
    cc

counted_behind : (front : List Lexeme) (t : Lexeme) (w : IsWithinLimits front) → counted 0 0 (front ++ t ∷ []) ≡ counted w.0.0 w.0.1 (t ∷ [])
counted_behind front t w = counted-append front (t ∷ []) 0 0 ∙ ap (λ r. and_then r (λ c. counted c.0 c.1 (t ∷ []))) w.1

within_front : (p front q : List Lexeme) (c : ℕ × ℕ) → counted 0 0 p ≡ Ok c → p ≡ front ++ q → IsWithinLimits front
within_front p front q c is split = let x = parts front q 0 0 c (sym (ap (counted 0 0) split) ∙ is) in (x.0, x.1)

lengths : (xs ys qs rs : List Lexeme) (x y : Lexeme) → xs ++ x ∷ [] ≡ (xs ++ x ∷ qs) ++ y ∷ rs → ⊥
lengths xs ys qs rs x y is =
    let a = ap length is in
    let b = length-append xs (x ∷ []) in
    let c = length-append (xs ++ x ∷ qs) (y ∷ rs) in
    let d = length-append xs (x ∷ qs) in
    omega (arith, a, b, c, d)

-- what stands in front of a token of p and t stands in p
in_front : (p front rs : List Lexeme) (t r : Lexeme) → p ++ t ∷ [] ≡ front ++ r ∷ rs → (q : List Lexeme) × (p ≡ front ++ q)
in_front p front rs t r is =
    ⊎_elim (λ same. ([], same.0 ∙ sym (append-nil front)))
    (⊎_elim (λ q. absurd (lengths p front q.0 rs t r (is ∙ ap (λ x. x ++ r ∷ rs) q.1))) (λ q. (r ∷ q.0, q.1)))
    (compared p front t r [] rs is)

last_same : (xs ys : List Lexeme) (x y : Lexeme) → xs ++ x ∷ [] ≡ ys ++ y ∷ [] → x ≡ y
last_same xs ys x y is =
    ⊎_elim (λ same. same.1)
    (⊎_elim (λ q. absurd (lengths xs ys q.0 [] x y (is ∙ ap (λ z. z ++ y ∷ []) q.1))) (λ q. absurd (lengths ys xs q.0 [] y x (sym is ∙ ap (λ z. z ++ x ∷ []) q.1))))
    (compared xs ys x y [] [] is)

-- the last token of a block closes it
block_closes : {lim : Limits} {ls : List Lexeme} {b : Commands} → IsBlock lim ls b → (p : List Lexeme) (t : Lexeme) → ls ≡ p ++ t ∷ [] → t.symbol ≡ symbol.CloseBlock
block_closes (braced lim x y ls cs may d) p t is =
    sym (ap (λ (l : Lexeme). l.symbol) (last_same (lexeme symbol.OpenBlock x ∷ ls) p (lexeme symbol.CloseBlock y) t is))

-- what is read of a front that is cut off
record FoundIn (cut rest : List Lexeme) (b : Commands) : Type 0 where
  front : List Lexeme
  split : cut ≡ front ++ rest
  derived : IsBlock Free front b

found_in : (cut rest : List Lexeme) (b : Commands) → block_from 0 cut ≡ Ok (b, rest) → FoundIn cut rest b
found_in cut rest b is = let one = free_found 0 cut b rest is in record { front = one.front; split = one.split; derived = one.derived }

-- a block of the cut is within the limits
passed_within : (ls cut : List Lexeme) (limit : TextFault) → IsPassed ls cut limit → (front rest : List Lexeme) (b : Commands) → cut ≡ front ++ rest → IsBlock Free front b → IsWithinLimits front
passed_within ls cut limit p front [] b is d =
    absurd (past_opens p.token p.kind p.within.0 (sym (counted_behind p.front p.token p.within) ∙ p.past) (block_closes d p.front p.token (sym (append-nil front) ∙ sym is ∙ p.whole)))
passed_within ls cut limit p front (r ∷ rs) b is d =
    let inside = in_front p.front front rs p.token r (sym p.whole ∙ is) in
    within_front p.front front inside.0 p.within.0 p.within.1 inside.1

within_of : (ls cut : List Lexeme) (limit : Option TextFault) → IsCut ls cut limit → (front rest : List Lexeme) (b : Commands) → cut ≡ front ++ rest → IsBlock Free front b → IsWithinLimits front
within_of ls cut None (closed p) front rest b is d = within_front cut front rest (0, p.run) p.counts is
within_of ls cut None (all same within) front rest b is d = within_front cut front rest within.0 (ap (counted 0 0) (sym same) ∙ within.1) is
within_of ls cut _ (passed limit p) front rest b is d = passed_within ls cut limit p front rest b is d

-- the tokens behind the cut
behind_of : (ls cut : List Lexeme) (limit : Option TextFault) → IsCut ls cut limit → (q : List Lexeme) × (ls ≡ cut ++ q)
behind_of ls cut None (closed p) = (p.rest, p.split)
behind_of ls cut None (all same within) = ([], same ∙ sym (append-nil cut))
behind_of ls cut _ (passed limit p) = (p.rest, p.split ∙ sym (append_assoc p.front (p.token ∷ []) p.rest) ∙ ap (λ x. x ++ p.rest) (sym p.whole))

-- a block that was read of the cut stands in front, within the limits
pub record InFront (ls cut rest : List Lexeme) (b : Commands) : Type 0 where
  pub front : List Lexeme
  pub behind : List Lexeme
  pub here : cut ≡ front ++ rest
  pub split : ls ≡ front ++ behind
  pub derived : IsBlock Free front b
  pub within : IsBlock (Within LONGEST_EXPRESSION DEEPEST_BLOCK) front b
  pub counts : IsWithinLimits front

pub cut_found : (ls cut rest : List Lexeme) (limit : Option TextFault) (b : Commands) → IsCut ls cut limit → block_from 0 cut ≡ Ok (b, rest) → InFront ls cut rest b
cut_found ls cut rest limit b is read =
    let one = found_in cut rest b read in
    let more = behind_of ls cut limit is in
    let w = within_of ls cut limit is one.front rest b one.split one.derived in
    record {
      front = one.front;
      behind = rest ++ more.0;
      here = one.split;
      split = more.1 ∙ ap (λ x. x ++ more.0) one.split ∙ append_assoc one.front rest more.0;
      derived = one.derived;
      within = limits_are_counts.within one.front b w.0 one.derived w.1;
      counts = w;
    }

-- where no block is read of a front, none stands there but one that goes on behind it
abbrev NoneRead : List Lexeme → Type 0
NoneRead cut = (b : Commands) (rest : List Lexeme) → block_from 0 cut ≡ Ok (b, rest) → ⊥

none_read : (cut : List Lexeme) (f : TextFault) → block_from 0 cut ≡ Err f → NoneRead cut
none_read cut f is b rest read = let clash : (let r : Found Commands = Err f in r) ≡ Ok (b, rest) = sym is ∙ read in cc

none_by : (ls cut q : List Lexeme) → ls ≡ cut ++ q → NoneRead cut → ((l : Lexeme) (more : List Lexeme) → Begins (IsBlock Free) (cut ++ l ∷ []) → IsWithinLimits (cut ++ l ∷ more) → (rest : List Lexeme) → q ≡ l ∷ rest → ⊥) → BeginsWithBlock ls → ⊥
none_by ls cut q split none goes_on h =
    ⊎_elim (λ r. none h.block r.0 (ap (block_from 0) r.1 ∙ reads_free 0 h.front r.0 h.block h.derived))
    (λ r.
    let longer : (cut ++ r.0 ∷ []) ++ r.1 ≡ h.front = append_assoc cut (r.0 ∷ []) r.1 ∙ sym r.2 in
    let behind : q ≡ r.0 ∷ (r.1 ++ h.rest) = append_cancel_left cut q (r.0 ∷ (r.1 ++ h.rest)) (sym split ∙ h.split ∙ ap (λ x. x ++ h.rest) r.2 ∙ append_assoc cut (r.0 ∷ r.1) h.rest) in
    goes_on r.0 r.1 (r.1, h.block, subst (λ x. IsBlock Free x h.block) (sym longer) h.derived) (subst IsWithinLimits r.2 h.within) (r.1 ++ h.rest) behind)
    (fronts cut h.front q h.rest (sym split ∙ h.split))

-- a bad token of the cut
bad_refused : (last : ℕ) (ls cut q front more : List Lexeme) (l : Lexeme) (f : TextFault) → ls ≡ cut ++ q → cut ≡ front ++ l ∷ more → NoneRead cut → IsWithinLimits front → Begins (IsBlock Free) front → (Begins (IsBlock Free) (front ++ l ∷ []) → ⊥) → f ≡ At l.token.line fault.Syntax → IsRefused last ls f
bad_refused last ls cut q front more l f split here none within begun not place =
    record {
      none = none_by ls cut q split none (λ k qs begins _ rest is.
          let longer : cut ++ k ∷ [] ≡ (front ++ l ∷ []) ++ (more ++ k ∷ []) = ap (λ x. x ++ k ∷ []) here ∙ append_assoc front (l ∷ more) (k ∷ []) ∙ sym (append_assoc front (l ∷ []) (more ++ k ∷ [])) in
          not (fewer (IsBlock Free) (front ++ l ∷ []) (more ++ k ∷ []) (subst (Begins (IsBlock Free)) longer begins)));
      fault = bad (record { front = front; token = l; rest = more ++ q; split = split ∙ ap (λ x. x ++ q) here ∙ append_assoc front (l ∷ more) q; within = within; bad = not; begun = begun; place = place });
    }

-- the end of the cut
end_refused : (last : ℕ) (ls cut : List Lexeme) (limit : Option TextFault) → IsCut ls cut limit → NoneRead cut → Begins (IsBlock Free) cut → IsRefused last ls (placed last limit (At 0 fault.EndOfText))
end_refused last ls cut None (closed p) none begun =
    let rest = closes begun.2 cut begun.0 p.run refl p.some p.counts in
    let here : IsBlock Free cut begun.1 = subst (λ x. IsBlock Free x begun.1) (ap (λ x. cut ++ x) rest ∙ append-nil cut) begun.2 in
    absurd (none begun.1 [] (ap (block_from 0) (sym (append-nil cut)) ∙ reads_free 0 cut [] begun.1 here))
end_refused last ls cut None (all same within) none begun =
    record {
      none = none_by ls cut [] (same ∙ sym (append-nil cut)) none (λ l more _ _ rest is. cc);
      fault = ended (record {
        within = within;
        proper = λ b d. none b [] (ap (block_from 0) (sym same ∙ sym (append-nil ls)) ∙ reads_free 0 ls [] b d);
        begun = subst (Begins (IsBlock Free)) (sym same) begun;
        place = refl;
      });
    }
end_refused last ls cut _ (passed limit p) none begun =
    let more = behind_of ls cut (Some limit) (passed limit p) in
    record {
      none = none_by ls cut more.0 more.1 none (λ l qs _ within rest is. stays_past cut (l ∷ qs) within.0 (p.token, p.kind) (ap (counted 0 0) p.whole ∙ p.past) within.1);
      fault = past (record { front = p.front; token = p.token; rest = p.rest; kind = p.kind; split = p.split; within = p.within; past = p.past; begun = subst (Begins (IsBlock Free)) p.whole begun; place = p.place });
    }

-- in front of a token of the cut, nothing is past a limit
front_within : (ls cut : List Lexeme) (limit : Option TextFault) → IsCut ls cut limit → (front more : List Lexeme) (l : Lexeme) → cut ≡ front ++ l ∷ more → IsWithinLimits front
front_within ls cut None (closed p) front more l is = within_front cut front (l ∷ more) (0, p.run) p.counts is
front_within ls cut None (all same within) front more l is = within_front cut front (l ∷ more) within.0 (ap (counted 0 0) (sym same) ∙ within.1) is
front_within ls cut _ (passed limit p) front more l is =
    let inside = in_front p.front front more p.token l (sym p.whole ∙ is) in
    within_front p.front front inside.0 p.within.0 p.within.1 inside.1

placed_bad : (last : ℕ) (limit : Option TextFault) (f : TextFault) (n : ℕ) → f ≡ At n fault.Syntax → placed last limit f ≡ At n fault.Syntax
placed_bad last (Some limit) f n is = ap (placed last (Some limit)) is
placed_bad last None f n is = ap (placed last None) is

refused_by : (last : ℕ) (ls cut : List Lexeme) (limit : Option TextFault) → IsCut ls cut limit → NoneRead cut → (f : TextFault) (front rest : List Lexeme) → cut ≡ front ++ rest → f ≡ syntax_at 0 rest → Begins (IsBlock Free) front →
    ((l : Lexeme) (more : List Lexeme) → rest ≡ l ∷ more → Begins (IsBlock Free) (front ++ l ∷ []) → ⊥) → IsRefused last ls (placed last limit f)
refused_by last ls cut limit is none f front [] split place begun bads =
    subst (λ (x : TextFault). IsRefused last ls (placed last limit x)) (sym place)
    (end_refused last ls cut limit is none (subst (Begins (IsBlock Free)) (sym (split ∙ append-nil front)) begun))
refused_by last ls cut limit is none f front (l ∷ more) split place begun bads =
    let behind = behind_of ls cut limit is in
    bad_refused last ls cut behind.0 front more l (placed last limit f) behind.1 split none (front_within ls cut limit is front more l split) begun (bads l more refl) (placed_bad last limit f l.token.line place)

-- a fault that was read of the cut is the one of the whole list, once the end is placed
pub cut_refused : (last : ℕ) (ls cut : List Lexeme) (limit : Option TextFault) (f : TextFault) → IsCut ls cut limit → block_from 0 cut ≡ Err f → IsRefused last ls (placed last limit f)
cut_refused last ls cut limit f is read =
    let first = free_first_bad 0 cut f read in
    refused_by last ls cut limit is (none_read cut f read) f first.front first.rest first.split first.place first.begun first.bad

abbrev Decided : ℕ → List Lexeme → Type 0
Decided last ls = BeginsWithBlock ls ⊎ ((f : TextFault) × IsRefused last ls f)

cut_decided : (last : ℕ) (ls cut : List Lexeme) (limit : Option TextFault) → IsCut ls cut limit → (r : Found Commands) → block_from 0 cut ≡ r → Decided last ls
cut_decided last ls cut limit is (Ok r) read =
    let one = cut_found ls cut r.1 limit r.0 is read in
    inl (record { front = one.front; rest = one.behind; block = r.0; split = one.split; derived = one.derived; within = one.counts })
cut_decided last ls cut limit is (Err f) read = inr (_, cut_refused last ls cut limit f is read)

decided_by : (last : ℕ) (ls : List Lexeme) (r : Counts) → counted 0 0 ls ≡ r → Decided last ls
decided_by last ls (Ok c) is = cut_decided last ls ls None (all refl (c, is)) (block_from 0 ls) refl
decided_by last ls (Err e) is =
    let p = (first_past_of ls e is).1 in
    let cut = p.front ++ p.token ∷ [] in
    let limit = At p.token.token.line e.1 in
    let it : IsPassed ls cut limit = record { front = p.front; token = p.token; rest = p.rest; kind = e.1; split = p.split; whole = refl; within = p.within; past = p.past; place = refl } in
    cut_decided last ls cut (Some limit) (passed limit it) (block_from 0 cut) refl

pub fault_is_decided : FaultIsDecided
fault_is_decided last ls = decided_by last ls (counted 0 0 ls) refl
