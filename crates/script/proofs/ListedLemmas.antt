-- Items between semicolons are read one after another.
use Rattle.std.proofs.Common.{◌≡◌, ℕ, true, false, cond, List, [], ◌∷◌, ◌++◌, Ok, Err, refl, sym, ap, ◌∙◌}
use Rattle.std.proofs.lemmas.List.{append_assoc}
use Rattle.txn_text.specs.declared.faults.TextFault.{TextFault}
use Rattle.txn_parse.specs.Symbols.{Lexeme}
use Rattle.txn_parse.specs.Reading.{Found, ◌>>=◌, separator_at}
use Rattle.script.specs.Rules.{Rule, Listed, empty, read}
use Rattle.script.specs.Fits.{fits}
use Rattle.script.specs.Grammar.{token, txn, node, version_name, named_pick, pick, entry}
use Rattle.script.proofs.Found.{made_of}
use Rattle.script.proofs.ReadingRules.{listed_then, list_at, listed_step}
use Rattle.script.proofs.RulesAreRead.{separator_shortens, shortens_by}
use Rattle.script.proofs.RulesAnswer.{answers}
use Rattle.script.proofs.BlocksAreRead.{blocks}

-- a rule of items that stand between semicolons
pub record IsItem {A : Type 0} (r : Rule A) : Type 0 where
  pub fit : fits r ≡ true
  pub some : empty r ≡ false

pub txn_is_item : IsItem txn
unfolding token txn
txn_is_item = record { fit = refl; some = refl }

pub entry_is_item : IsItem entry
unfolding token node version_name named_pick pick entry
entry_is_item = record { fit = refl; some = refl }

-- those that are there, in front of those that are read
abbrev pub with_front : {A : Type 0} → List A → Found (List A) → Found (List A)
with_front front (Ok r) = Ok (front ++ r.0, r.1)
with_front front (Err f) = Err f

more_by : {A : Type 0} (front : List A) (a : A) (r : Found (List A)) → with_front front (r >>= made_of (λ xs. a ∷ xs)) ≡ with_front (front ++ a ∷ []) r
more_by front a (Ok r) = ap (λ zs. let x : Found (List _) = Ok (zs, r.1) in x) (sym (append_assoc front (a ∷ []) r.0))
more_by front a (Err f) = refl

module _ {A : Type 0} (r : Rule A) (i : IsItem r) (at : ℕ) where
  step : (ls : List Lexeme) → read (Listed r) at ls ≡ (read r at ls >>= listed_then at (list_at at (read r at)))
  step ls = listed_step at (read r at) (shortens_by at r i.fit i.some (answers r i.fit at (blocks at).answer (blocks at).some)) (separator_shortens at) ls

  behind_item : (front : List A) (a : A) (ls ms : List Lexeme) → read r at ls ≡ Ok (a, ms) → with_front front (read (Listed r) at ls) ≡ with_front front (listed_then at (list_at at (read r at)) (a, ms))
  behind_item front a ls ms is = ap (with_front front) (step ls ∙ ap (λ x. x >>= listed_then at (list_at at (read r at))) is)

  pub listed_more : (front : List A) (a : A) (ls ms ns : List Lexeme) → read r at ls ≡ Ok (a, ms) → separator_at at ms ≡ Ok (true, ns) → with_front front (read (Listed r) at ls) ≡ with_front (front ++ a ∷ []) (read (Listed r) at ns)
  listed_more front a ls ms ns is sep =
      behind_item front a ls ms is
      ∙ ap (λ x. with_front front (x >>= (λ m. cond m.0 (list_at at (read r at) m.1 >>= made_of (λ xs. a ∷ xs)) (Ok (a ∷ [], m.1))))) sep
      ∙ more_by front a (read (Listed r) at ns)

  pub listed_last : (front : List A) (a : A) (ls ms ns : List Lexeme) → read r at ls ≡ Ok (a, ms) → separator_at at ms ≡ Ok (false, ns) → with_front front (read (Listed r) at ls) ≡ Ok (front ++ a ∷ [], ns)
  listed_last front a ls ms ns is sep =
      behind_item front a ls ms is
      ∙ ap (λ x. with_front front (x >>= (λ m. cond m.0 (list_at at (read r at) m.1 >>= made_of (λ xs. a ∷ xs)) (Ok (a ∷ [], m.1))))) sep

  pub listed_err : (front : List A) (ls : List Lexeme) (f : TextFault) → read r at ls ≡ Err f → with_front front (read (Listed r) at ls) ≡ Err f
  listed_err front ls f is = ap (with_front front) (step ls ∙ ap (λ x. x >>= listed_then at (list_at at (read r at))) is)

  pub separator_err : (front : List A) (a : A) (ls ms : List Lexeme) (f : TextFault) → read r at ls ≡ Ok (a, ms) → separator_at at ms ≡ Err f → with_front front (read (Listed r) at ls) ≡ Err f
  separator_err front a ls ms f is sep =
      behind_item front a ls ms is
      ∙ ap (λ x. with_front front (x >>= (λ m. cond m.0 (list_at at (read r at) m.1 >>= made_of (λ xs. a ∷ xs)) (Ok (a ∷ [], m.1))))) sep
