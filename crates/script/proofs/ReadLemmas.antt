-- What is read of a text: one item behind the other, and all of them.
use Rattle.std.proofs.Common.{◌≡◌, ◌<◌, ◌+◌, ℕ, suc, List, [], ◌∷◌, ◌++◌, length, drop, get_or, None, All, Result, Ok, Err, sym, ap, ◌∙◌, add-one, drop-cons}
use Rattle.std.specs.Prelude.{IfOk}
use Rattle.std.proofs.lemmas.List.Elements.{All-nil, All-cons}
use Rattle.txn_text.specs.declared.kinds.Token.{Token}
use Rattle.txn_text.specs.declared.faults.TextFault.{TextFault}
use Rattle.txn_text.specs.declared.faults.TextFault.TheVariants.{At, NoMemory}
use Rattle.txn_text.specs.Tokens.{tokens_of, Gives}
use Rattle.txn_parse.specs.Symbols.{lexemes}
use Rattle.txn_parse.specs.Gives.{last_line}
use Rattle.txn_parse.specs.Binding.{first_failing, FaultIs}
use Rattle.script.specs.declared.setup.Setup.{Setup}
use Rattle.script.specs.declared.items.RawItem.{RawItem}
use Rattle.script.specs.Items.{item, items}
use Rattle.script.specs.Rules.{Derives}
use Rattle.script.specs.Grammar.{script}
use Rattle.script.specs.Stages.{IsWhole, IsReadAs, items_of}
use Rattle.script.specs.Meaning.{Said, nothing_said, said_by, script_of, after, after_all}
use Rattle.script.specs.Checks.{checks, all_checks}
use Rattle.script.specs.Texts.{HasItems, IsReadOf, bad_token, badly_put, badly_meant}
use Rattle.script.specs.Building.{IsReadable}
use Rattle.script.proofs.BuilderLemmas.{turn_fault, turn_passes}
use Rattle.script.proofs.ReadableItems.{Each, readable}

module _ (text : List ℕ) (list : List RawItem) (i : ℕ) (r : RawItem) (within : i < length list) (is : r ≡ get_or list i r) (s : Said) where
  left : items (drop i list) ≡ item r ∷ items (drop (i + 1) list)
  left = ap items (drop-cons list i r within ∙ ap (λ x. x ∷ drop (suc i) list) (sym is) ∙ ap (λ n. r ∷ drop n list) (sym (add-one i)))

  checks_left : all_checks text s (items (drop i list)) ≡ checks text s (item r) ++ all_checks text (after text s (item r)) (items (drop (i + 1) list))
  checks_left = ap (all_checks text s) left

  pub item_fault : (f : TextFault) → first_failing (all_checks text s (items (drop i list))) ≡ first_failing (all_checks text nothing_said (items list)) →
      FaultIs {A = Unit {0}} (checks text s (item r)) (Err f) → FaultIs {A = Setup} (all_checks text nothing_said (items list)) (Err f)
  item_fault f same =
      turn_fault (Unit {0}) Setup (checks text s (item r)) (all_checks text (after text s (item r)) (items (drop (i + 1) list))) (all_checks text s (items (drop i list)))
      (all_checks text nothing_said (items list)) f same checks_left

  pub item_passes : (t : Said) → t ≡ after text s (item r) → first_failing (all_checks text s (items (drop i list))) ≡ first_failing (all_checks text nothing_said (items list)) →
      first_failing (checks text s (item r)) ≡ None → first_failing (all_checks text t (items (drop (i + 1) list))) ≡ first_failing (all_checks text nothing_said (items list))
  item_passes t e same none =
      ap (λ x. first_failing (all_checks text x (items (drop (i + 1) list)))) e
      ∙ turn_passes (checks text s (item r)) (all_checks text (after text s (item r)) (items (drop (i + 1) list))) (all_checks text s (items (drop i list)))
      (all_checks text nothing_said (items list)) same checks_left none

  pub item_said : (t : Said) → t ≡ after text s (item r) → after_all text s (items (drop i list)) ≡ after_all text nothing_said (items list) →
      after_all text t (items (drop (i + 1) list)) ≡ after_all text nothing_said (items list)
  item_said t e same = ap (λ x. after_all text x (items (drop (i + 1) list))) e ∙ sym (ap (after_all text s) left) ∙ same

-- ---- a whole text

all_readable : (text : List ℕ) (list : List RawItem) → Each text (IsReadable text) (items list) → All (λ r. IsReadable text (item r)) list
all_readable text [] h = All-nil (λ r. IsReadable text (item r))
all_readable text (r ∷ list) h = All-cons (λ x. IsReadable text (item x)) r list h.0 (all_readable text list h.1)

module _ (text : List ℕ) (tokens : List Token) (are : tokens_of text ≡ Ok tokens) where
  has_items : (list : List RawItem) → IsWhole (Derives script) (lexemes text tokens) (items list) → HasItems text (items list)
  has_items list whole = record { tokens = tokens; are_tokens = are; is_script = whole }

  pub read_items_readable : (list : List RawItem) → IsWhole (Derives script) (lexemes text tokens) (items list) → All (λ r. IsReadable text (item r)) list
  read_items_readable list whole = all_readable text list (readable text (items list) (has_items list whole))

  pub read_of : (list : List RawItem) (r : Result Setup TextFault) → IsWhole (Derives script) (lexemes text tokens) (items list) →
      FaultIs (all_checks text nothing_said (items list)) r → IfOk r (λ s. said_by s ≡ script_of text (items list)) → IsReadOf text r
  read_of list (Ok s) whole passes says = record { items = items list; has = has_items list whole; passes = passes; says = says }
  read_of list (Err (At line kind)) whole fails says = badly_meant (record { items = items list; has = has_items list whole; fails = fails })
  read_of list (Err NoMemory) whole fails says = tt

  pub badly_put_of : (f : TextFault) → IsReadAs (Derives script) (last_line text) (lexemes text tokens) (items_of (Err f)) → IsReadOf text (Err f)
  badly_put_of (At line kind) is = badly_put (record { tokens = tokens; are_tokens = are; «fault» = is })
  badly_put_of NoMemory is = tt

pub bad_token_of : (text : List ℕ) (f : TextFault) → Gives (Err f) (tokens_of text) → IsReadOf text (Err f)
bad_token_of text (At line kind) is = bad_token is
bad_token_of text NoMemory is = tt
