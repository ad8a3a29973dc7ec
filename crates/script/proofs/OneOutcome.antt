-- Each text says one script or has one fault, and not both.
use Rattle.std.proofs.Common.{◌≡◌, ◌⊎◌, ℕ, List, [], ◌∷◌, ◌++◌, Option, Some, None, Result, Ok, Err, refl, sym, ap, ◌∙◌, subst, inl, inr}
use Rattle.txn_text.specs.declared.kinds.Token.{Token}
use Rattle.txn_text.specs.declared.faults.FaultKind.{FaultKind}
use Rattle.txn_text.specs.declared.faults.TextFault.{TextFault}
use Rattle.txn_text.specs.Tokens.{tokens_of}
use Rattle.txn_parse.specs.Symbols.{Lexeme, lexemes}
use Rattle.txn_parse.specs.Reading.{Found}
use Rattle.txn_parse.specs.Counts.{counted, Counts}
use Rattle.txn_parse.specs.Faults.{IsWithinLimits, IsTheFault, IsFirstPast}
use Rattle.txn_parse.specs.Gives.{last_line}
use Rattle.txn_parse.specs.Binding.{first_failing}
use Rattle.txn_parse.proofs.OneFault.{one_fault_of, no_fault}
use Rattle.txn_parse.proofs.FirstPast.{first_past_of}
use Rattle.script.specs.Items.{Item}
use Rattle.script.specs.Rules.{Derives, read}
use Rattle.script.specs.Grammar.{script}
use Rattle.script.specs.Stages.{IsWhole, Stopped}
use Rattle.script.specs.Meaning.{Script, nothing_said, script_of}
use Rattle.script.specs.Checks.{all_checks}
use Rattle.script.specs.Texts.{HasItems, IsScriptOf, IsBadlyPut, IsFaultOf, bad_token, badly_put, badly_meant, OneOutcome}
use Rattle.script.proofs.Stopping.{read_whole, reached, failed, bad_fault, end_fault, cut_bad, cut_past}
use Rattle.script.proofs.GrammarFits.{script_fits}
use Rattle.script.proofs.BlocksAreRead.{blocks}

same_tokens : (text : List ℕ) (ts us : List Token) → tokens_of text ≡ Ok ts → tokens_of text ≡ Ok us → ts ≡ us
same_tokens text ts us one two = let e : (let r : Result (List Token) TextFault = Ok ts in r) ≡ Ok us = sym one ∙ two in cc

same_read : (ls : List Lexeme) (xs ys : List Item) → Derives script ls xs → Derives script ls ys → xs ≡ ys
same_read ls xs ys d e =
    same_found xs ys (sym (read_whole script script_fits 0 (blocks 0) ls xs d) ∙ read_whole script script_fits 0 (blocks 0) ls ys e)
  where
    same_found : (xs ys : List Item) → (let r : Found (List Item) = Ok (xs, []) in r) ≡ Ok (ys, []) → xs ≡ ys
    same_found xs ys is = let e : (xs, []) ≡ (ys, []) = cc in ap (λ (x : List Item × List Lexeme). x.0) e

same_items : (text : List ℕ) (xs ys : List Item) → HasItems text xs → HasItems text ys → xs ≡ ys
same_items text xs ys one two =
    let e = same_tokens text one.tokens two.tokens one.are_tokens two.are_tokens in
    same_read (lexemes text two.tokens) xs ys (subst (λ ts. Derives script (lexemes text ts) xs) e one.is_script.derived) two.is_script.derived

one_script : (text : List ℕ) (s t : Script) → IsScriptOf text s → IsScriptOf text t → s ≡ t
one_script text s t one two = one.says ∙ ap (script_of text) (same_items text one.items two.items one.has two.has) ∙ sym two.says

-- a text whose tokens are known has no bad token
no_bad_token : (text : List ℕ) (ts : List Token) (f : TextFault) → tokens_of text ≡ Ok ts → tokens_of text ≡ Err f → ⊥
no_bad_token text ts f one two = let e : (let r : Result (List Token) TextFault = Ok ts in r) ≡ Err f = sym one ∙ two in cc

-- a text that has items has no fault in the second stage
no_badly_put : (text : List ℕ) (items : List Item) (f : TextFault) → HasItems text items → IsBadlyPut text f → ⊥
no_badly_put text items f one two =
    let e = same_tokens text one.tokens two.tokens one.are_tokens two.are_tokens in
    no_fault (Derives script) (last_line text) (lexemes text two.tokens) f items
    (subst (λ ts. Derives script (lexemes text ts) items) e one.is_script.derived)
    (subst (λ ts. IsWithinLimits (lexemes text ts)) e one.is_script.within) two.fault

one_fault : (text : List ℕ) (f g : TextFault) → IsFaultOf text f → IsFaultOf text g → f ≡ g
one_fault text f g (bad_token one) (bad_token two) = let e : (let r : Result (List Token) TextFault = Err f in r) ≡ Err g = sym one ∙ two in cc
one_fault text f g (bad_token one) (badly_put two) = absurd (no_bad_token text two.tokens f two.are_tokens one)
one_fault text f g (bad_token one) (badly_meant two) = absurd (no_bad_token text two.has.tokens f two.has.are_tokens one)
one_fault text f g (badly_put one) (bad_token two) = absurd (no_bad_token text one.tokens g one.are_tokens two)
one_fault text f g (badly_put one) (badly_put two) =
    let e = same_tokens text one.tokens two.tokens one.are_tokens two.are_tokens in
    one_fault_of (Derives script) (last_line text) (lexemes text two.tokens) f g (subst (λ ts. IsTheFault (Derives script) (last_line text) (lexemes text ts) f) e one.fault) two.fault
one_fault text f g (badly_put one) (badly_meant two) = absurd (no_badly_put text two.items f two.has one)
one_fault text f g (badly_meant one) (bad_token two) = absurd (no_bad_token text one.has.tokens g one.has.are_tokens two)
one_fault text f g (badly_meant one) (badly_put two) = absurd (no_badly_put text one.items g one.has two)
one_fault text f g (badly_meant one) (badly_meant two) =
    let e : Some f ≡ Some g = sym one.fails ∙ ap (λ xs. first_failing (all_checks text nothing_said xs)) (same_items text one.items two.items one.has two.has) ∙ two.fails in
    cc

not_both : (text : List ℕ) (s : Script) (f : TextFault) → IsScriptOf text s → IsFaultOf text f → ⊥
not_both text s f one (bad_token two) = no_bad_token text one.has.tokens f one.has.are_tokens two
not_both text s f one (badly_put two) = no_badly_put text one.items f one.has two
not_both text s f one (badly_meant two) =
    let e : None ≡ Some f = sym one.passes ∙ ap (λ xs. first_failing (all_checks text nothing_said xs)) (same_items text one.items two.items one.has two.has) ∙ two.fails in
    cc

-- what the second stage decides
abbrev Decided : ℕ → List Lexeme → Type 0
Decided at ls = ((items : List Item) × IsWhole (Derives script) ls items) ⊎ ((f : TextFault) × IsTheFault (Derives script) at ls f)

within_by : (at : ℕ) (ls : List Lexeme) → IsWithinLimits ls → (r : Found (List Item)) → read script at ls ≡ r → Decided at ls
within_by at ls w (Ok (items, [])) is = inl (items, record { derived = (reached script script_fits at (blocks at) ls items [] is).whole refl; within = w })
within_by at ls w (Ok (items, l ∷ more)) is = inr (_, bad_fault (Derives script) at ls l more w (reached script script_fits at (blocks at) ls items (l ∷ more) is).stopped)
within_by at ls w (Err f) is = by_rest (failed script script_fits at (blocks at) ls f is).rest (failed script script_fits at (blocks at) ls f is).stopped (failed script script_fits at (blocks at) ls f is).proper
  where
    by_rest : (rest : List Lexeme) → Stopped (Derives script) ls rest → (rest ≡ [] → (a : List Item) → Derives script ls a → ⊥) → Decided at ls
    by_rest [] s proper = inr (_, end_fault (Derives script) at ls w s (proper refl))
    by_rest (l ∷ more) s proper = inr (_, bad_fault (Derives script) at ls l more w s)

past_by : (at place : ℕ) (kind : FaultKind) (ls : List Lexeme) (p : IsFirstPast ls place kind) (rest : List Lexeme) → Stopped (Derives script) (p.front ++ p.token ∷ []) rest → Decided at ls
past_by at place kind ls p [] s = inr (_, cut_past (Derives script) at place kind ls p s)
past_by at place kind ls p (l ∷ more) s = inr (_, cut_bad (Derives script) at place kind ls p l more s)

cut_by : (at place : ℕ) (kind : FaultKind) (ls : List Lexeme) (p : IsFirstPast ls place kind) (r : Found (List Item)) → read script at (p.front ++ p.token ∷ []) ≡ r → Decided at ls
cut_by at place kind ls p (Ok (items, rest)) is = past_by at place kind ls p rest (reached script script_fits at (blocks at) (p.front ++ p.token ∷ []) items rest is).stopped
cut_by at place kind ls p (Err f) is = let x = failed script script_fits at (blocks at) (p.front ++ p.token ∷ []) f is in past_by at place kind ls p x.rest x.stopped

decided_by : (at : ℕ) (ls : List Lexeme) (r : Counts) → counted 0 0 ls ≡ r → Decided at ls
decided_by at ls (Ok c) is = within_by at ls (c, is) (read script at ls) refl
decided_by at ls (Err e) is = let p = first_past_of ls e is in cut_by at p.0 e.1 ls p.1 (read script at (p.1.front ++ p.1.token ∷ [])) refl

checked_by : (text : List ℕ) (items : List Item) → HasItems text items → (o : Option TextFault) → first_failing (all_checks text nothing_said items) ≡ o → ((s : Script) × IsScriptOf text s) ⊎ ((f : TextFault) × IsFaultOf text f)
checked_by text items has None is = inl (script_of text items, record { items = items; has = has; passes = is; says = refl })
checked_by text items has (Some f) is = inr (f, badly_meant (record { items = items; has = has; fails = is }))

put_by : (text : List ℕ) (ts : List Token) → tokens_of text ≡ Ok ts → Decided (last_line text) (lexemes text ts) → ((s : Script) × IsScriptOf text s) ⊎ ((f : TextFault) × IsFaultOf text f)
put_by text ts is (inl d) = checked_by text d.0 (record { tokens = ts; are_tokens = is; is_script = d.1 }) (first_failing (all_checks text nothing_said d.0)) refl
put_by text ts is (inr d) = inr (d.0, badly_put (record { tokens = ts; are_tokens = is; «fault» = d.1 }))

text_by : (text : List ℕ) (r : Result (List Token) TextFault) → tokens_of text ≡ r → ((s : Script) × IsScriptOf text s) ⊎ ((f : TextFault) × IsFaultOf text f)
text_by text (Ok ts) is = put_by text ts is (decided_by (last_line text) (lexemes text ts) (counted 0 0 (lexemes text ts)) refl)
text_by text (Err f) is = inr (f, bad_token is)

pub one_outcome : OneOutcome
one_outcome = record { one_script = one_script; one_fault = one_fault; not_both = not_both; some = λ text. text_by text (tokens_of text) refl }
