-- A block whose checks pass stands for a program that is well formed and, where no limit is passed, within the limits.
use Rattle.std.proofs.Common.{◌≡◌, ℕ, suc, ◌+◌, ◌-◌, ◌<◌, ◌≤◌, max, Bool, true, false, not, ◌||◌, ◌&&◌, cond, ltb, List, [], ◌∷◌, ◌++◌, length, Some, None, refl, sym, ap, ◌∙◌, subst, arith}
use Rattle.std.specs.List.{list_all, IsDistinct}
use Rattle.std.specs.Str.{bytes_eq}
use Rattle.std.proofs.lemmas.Bool.{cond_both, cond-true, lt-ltb, ltb-false}
use Rattle.std.proofs.lemmas.List.{append_assoc, map-append, length-append, length_push}
use Rattle.std.proofs.lemmas.List.Folds.{list_all-append}
use Rattle.morty_base.specs.ScriptNames.{is_name}
use Rattle.txn_lang.specs.declared.limits.TheConstants.{DEEPEST_BLOCK, MOST_LOCALS, MOST_OF_A_KIND, MOST_STEPS, MOST_TIMES}
use Rattle.txn_lang.specs.Form.{with_target, placed_in, placed_after, IsFormedTerm, IsFilled as IsFilledBlock, IsFormedIn, IsFormed, IsWellFormed}
use Rattle.txn_lang.specs.Value.{UsesBelow}
use Rattle.txn_lang.specs.Limits.{depth_in, depth, FitsIn, Fits, IsWithin}
use Rattle.txn_text.specs.declared.faults.TextFault.{TextFault}
use Rattle.txn_text.specs.Tokens.{token_bytes}
use Rattle.txn_parse.specs.Tree.{Term, Num, Local, Neg, Not, Bin, Command, Let, Read, Write, Print, If, Repeat, Abort, Commands, End, Then}
use Rattle.txn_parse.specs.Binding.{first_failing, Names, is_known, place, with_name, locals_of, names_in, names_after, used_checks, local_checks_in, local_checks, most_times_in, most_times, bound_term, bound_in, bound, names_of, bound_body, passes_limit}
use Rattle.txn_parse.proofs.NamesLemmas.{none_failing, Grows, grows_none, grows_twice, place_new, known_with, place_stays, with_distinct}
use Rattle.txn_parse.proofs.BoundForm.{IsFilled, KeepsIn, Keeps, KeepsBlock, grows_after}

-- all names are names of scripts
with_named : (name : List ℕ) (names : Names) → is_name name ≡ true → list_all is_name names ≡ true → list_all is_name (with_name name names) ≡ true
with_named name names one all =
    cond_both (is_known names name) names (names ++ name ∷ []) (λ ns. list_all is_name ns ≡ true) (λ _. all)
    (λ _. list_all-append is_name names (name ∷ []) ∙ ap (λ b. b && (is_name name && true)) all ∙ ap (λ b. b && true) one)

mutual
  named_in : (text : List ℕ) (d : ℕ) (c : Command) (names : Names) → KeepsIn text d c → list_all is_name names ≡ true → list_all is_name (names_in text c names) ≡ true
  named_in text d (Let v e) names k all = with_named (token_bytes text v) names k.0 all
  named_in text d (Read v t i) names k all = with_named (token_bytes text v) names k.0 all
  named_in text d (Write t i e) names k all = all
  named_in text d (Print e) names k all = all
  named_in text d (If e a b) names k all = named_after text (d - 1) b (names_after text a names) k.4 (named_after text (d - 1) a names k.3 all)
  named_in text d (Repeat n body) names k all = named_after text (d - 1) body names k.2 all
  named_in text d Abort names k all = all

  named_after : (text : List ℕ) (d : ℕ) (cs : Commands) (names : Names) → Keeps text d cs → list_all is_name names ≡ true → list_all is_name (names_after text cs names) ≡ true
  named_after text d End names k all = all
  named_after text d (Then c rest) names k all = named_after text d rest (names_in text c names) k.1 (named_in text d c names k.0 all)

-- no name stands twice
mutual
  distinct_in : (text : List ℕ) (c : Command) (names : Names) → IsDistinct bytes_eq names → IsDistinct bytes_eq (names_in text c names)
  distinct_in text (Let v e) names d = with_distinct (token_bytes text v) names d
  distinct_in text (Read v t i) names d = with_distinct (token_bytes text v) names d
  distinct_in text (Write t i e) names d = d
  distinct_in text (Print e) names d = d
  distinct_in text (If e a b) names d = distinct_after text b (names_after text a names) (distinct_after text a names d)
  distinct_in text (Repeat n body) names d = distinct_after text body names d
  distinct_in text Abort names d = d

  distinct_after : (text : List ℕ) (cs : Commands) (names : Names) → IsDistinct bytes_eq names → IsDistinct bytes_eq (names_after text cs names)
  distinct_after text End names d = d
  distinct_after text (Then c rest) names d = distinct_after text rest (names_in text c names) (distinct_in text c names d)

known_from : (b : Bool) (f : TextFault) → cond (not b) (Some f) None ≡ None → b ≡ true
known_from true f is = refl
known_from false f is = cc

-- an expression whose locals have places among the names so far
used_formed : (text : List ℕ) (so_far names : Names) (e : Term) → Grows so_far names → first_failing (used_checks text so_far e) ≡ None →
    IsFormedTerm (length names) (length so_far) (bound_term text names e) × UsesBelow (bound_term text names e) (length names)
used_formed text so_far names (Num n) g none = (tt, tt)
used_formed text so_far names (Local v) g none =
    let known = known_from (is_known so_far (token_bytes text v)) _ none in
    let stays = place_stays so_far names (token_bytes text v) g known in
    let len = ap length g.split ∙ length-append so_far g.more in
    let below = stays.1 in
    ((λ _. below), omega (arith, below, len))
used_formed text so_far names (Neg a) g none = used_formed text so_far names a g none
used_formed text so_far names (Not a) g none = used_formed text so_far names a g none
used_formed text so_far names (Bin o a b) g none =
    let parts = none_failing (used_checks text so_far a) (used_checks text so_far b) (ap first_failing (sym (map-append _ (locals_of a) (locals_of b))) ∙ none) in
    let l = used_formed text so_far names a g parts.0 in
    let r = used_formed text so_far names b g parts.1 in
    ((l.0, r.0), (l.1, r.1))

-- the place of a target
record Target (so_far names : Names) (name : List ℕ) : Type 0 where
  below : place names name < length names
  turn : place names name ≤ length so_far
  placed : with_target (length names) (place names name) (length so_far) ≡ length (with_name name so_far)

placed_by : (n v placed count : ℕ) → v < n → max placed (v + 1) ≡ count → with_target n v placed ≡ count
placed_by n v placed count less is = cond-true (ltb v n) _ _ (lt-ltb v n less) ∙ is

target_of : (so_far names : Names) (name : List ℕ) (b : Bool) → is_known so_far name ≡ b → Grows (cond b so_far (so_far ++ name ∷ [])) names → (below : place names name < length names) → Target so_far names name
target_of so_far names name true is g below =
    let stays = place_stays so_far names name g is in
    let less = stays.1 in
    let same = ap (λ b. length (cond b so_far (so_far ++ name ∷ []))) is in
    record {
      below = below;
      turn = omega (arith, less);
      placed = placed_by (length names) (place names name) (length so_far) _ below (omega (arith, less, same));
    }
target_of so_far names name false is g below =
    let next : place names name ≡ length so_far = ap (λ ns. place ns name) g.split ∙ ap (λ ns. place ns name) (append_assoc so_far (name ∷ []) g.more) ∙ place_new so_far g.more name is in
    let same = ap (λ b. length (cond b so_far (so_far ++ name ∷ []))) is ∙ length_push so_far name in
    record {
      below = below;
      turn = omega (arith, next);
      placed = placed_by (length names) (place names name) (length so_far) _ below (omega (arith, next, same));
    }

target : (so_far names : Names) (name : List ℕ) → Grows (with_name name so_far) names → Target so_far names name
target so_far names name g =
    let stays = place_stays (with_name name so_far) names name g (known_with name so_far) in
    let len = ap length g.split ∙ length-append (with_name name so_far) g.more in
    let less = stays.1 in
    target_of so_far names name (is_known so_far name) refl g (omega (arith, less, len))

-- what a statement whose checks pass stands for
record FineIn (text : List ℕ) (tables so_far names : Names) (d : ℕ) (c : Command) : Type 0 where
  formed : IsFormedIn (length names) (length so_far) (bound_in text tables names c)
  placed : placed_in (length names) (bound_in text tables names c) (length so_far) ≡ length (names_in text c so_far)
  fits : most_times_in text c ≤ MOST_TIMES → FitsIn (length names) (bound_in text tables names c)
  deep : depth_in (bound_in text tables names c) ≤ d

record Fine (text : List ℕ) (tables so_far names : Names) (d : ℕ) (cs : Commands) : Type 0 where
  formed : IsFormed (length names) (length so_far) (bound text tables names cs)
  placed : placed_after (length names) (bound text tables names cs) (length so_far) ≡ length (names_after text cs so_far)
  fits : most_times text cs ≤ MOST_TIMES → Fits (length names) (bound text tables names cs)
  deep : depth (bound text tables names cs) ≤ suc d

filled : (text : List ℕ) (tables names : Names) (cs : Commands) → IsFilled cs → IsFilledBlock (bound text tables names cs)
filled text tables names End f = absurd f
filled text tables names (Then c rest) f = tt

mutual
  fine_in : (text : List ℕ) (tables so_far names : Names) (d : ℕ) (c : Command) → KeepsIn text d c → Grows (names_in text c so_far) names → first_failing (local_checks_in text so_far c) ≡ None → FineIn text tables so_far names d c
  fine_in text tables so_far names d (Let v e) k g none =
      let t = target so_far names (token_bytes text v) g in
      let x = used_formed text (with_name (token_bytes text v) so_far) names e g none in
      record {
        formed = ((λ _. t.turn), subst (λ p. IsFormedTerm (length names) p (bound_term text names e)) (sym t.placed) x.0);
        placed = t.placed;
        fits = λ _. (t.below, (x.1, k.1 names));
        deep = omega arith;
      }
  fine_in text tables so_far names d (Read v t i) k g none =
      let r = target so_far names (token_bytes text v) g in
      let x = used_formed text (with_name (token_bytes text v) so_far) names i g none in
      record {
        formed = ((λ _. r.turn), subst (λ p. IsFormedTerm (length names) p (bound_term text names i)) (sym r.placed) x.0);
        placed = r.placed;
        fits = λ _. (r.below, (x.1, k.1 names));
        deep = omega arith;
      }
  fine_in text tables so_far names d (Write t i e) k g none =
      let parts = none_failing (used_checks text so_far i) (used_checks text so_far e) none in
      let x = used_formed text so_far names i g parts.0 in
      let y = used_formed text so_far names e g parts.1 in
      record { formed = (x.0, y.0); placed = refl; fits = λ _. ((x.1, k.0 names), (y.1, k.1 names)); deep = omega arith }
  fine_in text tables so_far names d (Print e) k g none =
      let x = used_formed text so_far names e g none in
      record { formed = x.0; placed = refl; fits = λ _. (x.1, k names); deep = omega arith }
  fine_in text tables so_far names d (If e a b) k g none =
      let one = none_failing (used_checks text so_far e) (local_checks text so_far a ++ local_checks text (names_after text a so_far) b) none in
      let two = none_failing (local_checks text so_far a) (local_checks text (names_after text a so_far) b) one.1 in
      let middle = grows_twice (grows_after text b (names_after text a so_far)) g in
      let x = used_formed text so_far names e (grows_twice (grows_after text a so_far) middle) one.0 in
      let l = fine text tables so_far names (d - 1) a k.3 middle two.0 in
      let r = fine text tables (names_after text a so_far) names (d - 1) b k.4 g two.1 in
      let some = k.1 in
      let left = l.deep in
      let right = r.deep in
      record {
        formed = (x.0, filled text tables names a k.2, l.formed, subst (λ p. IsFormed (length names) p (bound text tables names b)) (sym l.placed) r.formed);
        placed = ap (placed_after (length names) (bound text tables names b)) l.placed ∙ r.placed;
        fits = λ few. ((x.1, k.0 names), l.fits (omega (arith, few)), r.fits (omega (arith, few)));
        deep = omega (arith, some, left, right);
      }
  fine_in text tables so_far names d (Repeat n body) k g none =
      let l = fine text tables so_far names (d - 1) body k.2 g none in
      let some = k.0 in
      let inner = l.deep in
      record {
        formed = (filled text tables names body k.1, l.formed);
        placed = l.placed;
        fits = λ few. (omega (arith, few), l.fits (omega (arith, few)));
        deep = omega (arith, some, inner);
      }
  fine_in text tables so_far names d Abort k g none = record { formed = tt; placed = refl; fits = λ _. tt; deep = omega arith }

  fine : (text : List ℕ) (tables so_far names : Names) (d : ℕ) (cs : Commands) → Keeps text d cs → Grows (names_after text cs so_far) names → first_failing (local_checks text so_far cs) ≡ None → Fine text tables so_far names d cs
  fine text tables so_far names d End k g none = record { formed = tt; placed = refl; fits = λ _. tt; deep = omega arith }
  fine text tables so_far names d (Then c rest) k g none =
      let parts = none_failing (local_checks_in text so_far c) (local_checks text (names_in text c so_far) rest) none in
      let l = fine_in text tables so_far names d c k.0 (grows_twice (grows_after text rest (names_in text c so_far)) g) parts.0 in
      let r = fine text tables (names_in text c so_far) names d rest k.1 g parts.1 in
      let left = l.deep in
      let right = r.deep in
      record {
        formed = (l.formed, subst (λ p. IsFormed (length names) p (bound text tables names rest)) (sym l.placed) r.formed);
        placed = ap (placed_after (length names) (bound text tables names rest)) l.placed ∙ r.placed;
        fits = λ few. (l.fits (omega (arith, few)), r.fits (omega (arith, few)));
        deep = omega (arith, left, right);
      }

-- a block of the grammar whose locals are known stands for a well-formed program
pub well_formed : (text : List ℕ) (tables : Names) (cs : Commands) → KeepsBlock text DEEPEST_BLOCK cs → first_failing (local_checks text [] cs) ≡ None → IsWellFormed (names_of text cs) (bound_body text tables cs)
unfolding IsDistinct
well_formed text tables cs k none =
    let f = fine text tables [] (names_of text cs) (DEEPEST_BLOCK - 1) cs k.inner (grows_none (names_of text cs)) none in
    record {
      named = named_after text (DEEPEST_BLOCK - 1) cs [] k.inner refl;
      distinct = distinct_after text cs [] tt;
      filled = filled text tables (names_of text cs) cs k.filled;
      formed = f.formed;
      all_placed = f.placed;
    }

or_false : (a b : Bool) → (a || b) ≡ false → (a ≡ false) × (b ≡ false)
or_false true b is = cc
or_false false b is = (refl, is)

-- and one within the limits, where none is passed
pub within_limits : (text : List ℕ) (tables : Names) (cs : Commands) → KeepsBlock text DEEPEST_BLOCK cs → first_failing (local_checks text [] cs) ≡ None → passes_limit text tables cs ≡ false → IsWithin (length (names_of text cs)) (bound_body text tables cs)
within_limits text tables cs k none is =
    let f = fine text tables [] (names_of text cs) (DEEPEST_BLOCK - 1) cs k.inner (grows_none (names_of text cs)) none in
    let a = or_false _ _ is in
    let b = or_false _ _ a.1 in
    let c = or_false _ _ b.1 in
    let d = or_false _ _ c.1 in
    let e = or_false _ _ d.1 in
    record {
      locals = ltb-false MOST_LOCALS _ a.0;
      steps_within = ltb-false MOST_STEPS _ b.0;
      reads_within = ltb-false MOST_OF_A_KIND _ c.0;
      writes_within = ltb-false MOST_OF_A_KIND _ d.0;
      prints_within = ltb-false MOST_OF_A_KIND _ e.0;
      depth_within = f.deep;
      each = f.fits (ltb-false MOST_TIMES _ e.1);
    }
