-- The checks of a block, one kind behind the other.
use Rattle.std.proofs.Common.{◌≡◌, ℕ, ◌<◌, ◌≤◌, Bool, true, false, ◌||◌, ◌&&◌, cond, ltb, List, [], ◌∷◌, ◌++◌, length, Option, Some, None, All, refl, sym, ap, ◌∙◌, subst, arith}
use Rattle.std.specs.Prelude.{find}
use Rattle.std.specs.List.{list_all}
use Rattle.std.specs.Option.{option_or, option_map}
use Rattle.std.specs.Str.{bytes_eq}
use Rattle.std.proofs.lemmas.Bool.{lt-ltb, le-ltb}
use Rattle.std.proofs.lemmas.List.Elements.{All-head, All-tail}
use Rattle.morty_base.specs.ScriptNames.{is_name}
use Rattle.txn_lang.specs.declared.limits.TheConstants.{DEEPEST_BLOCK, MOST_LOCALS, MOST_OF_A_KIND, MOST_STEPS, MOST_TIMES}
use Rattle.txn_lang.specs.declared.limits.Kind.TheVariants as kinds
use Rattle.txn_lang.specs.Limits.{steps, most, IsWithin}
use Rattle.txn_lang.specs.Form.{IsWellFormed}
use Rattle.txn_lang.specs.Tree as lang
use Rattle.txn_text.specs.declared.kinds.Token.{Token}
use Rattle.txn_text.specs.declared.kinds.TokenKind.{TokenKind}
use Rattle.txn_text.specs.declared.kinds.TokenKind.TheVariants as kind
use Rattle.txn_text.specs.declared.faults.FaultKind.TheVariants.{UnknownTable, ProgramLimit}
use Rattle.txn_text.specs.declared.faults.TextFault.TheVariants.{At}
use Rattle.txn_text.specs.Tokens.{token_bytes}
use Rattle.txn_text.specs.Kinds.{IsOfKind}
use Rattle.txn_parse.specs.declared.symbols.Symbol.{Symbol}
use Rattle.txn_parse.specs.declared.symbols.Symbol.TheVariants as symbol
use Rattle.txn_parse.specs.Symbols.{Sign, words, marks, symbol_in, symbol_by, lexemes}
use Rattle.txn_parse.specs.Tree.{Commands}
use Rattle.txn_parse.specs.Binding.{first_failing, Names, is_unknown, tables_of, local_checks, most_times, names_of, bound, bound_body, passes_limit, table_checks, limit_check, IsParsed}
use Rattle.txn_parse.proofs.NamesLemmas.{first_failing-append, unknown_failing}
use Rattle.txn_parse.proofs.BoundForm.{NamesIn, KeepsBlock, block_keeps}
use Rattle.txn_parse.proofs.BoundPrograms.{well_formed, within_limits}

-- no word and no mark has the symbol of names
abbrev is_plain : Symbol → Bool
is_plain symbol.Name = false
is_plain s = true

both : (a b : Bool) → (a && b) ≡ true → (a ≡ true) × (b ≡ true)
both true b e = (refl, e)
both false b e = cc

plain_by : (s t : Symbol) (b : Bool) → is_plain s ≡ true → ((t ≡ symbol.Name) → ⊥) → (cond b s t ≡ symbol.Name) → ⊥
plain_by s t true p later is = let e : false ≡ true = sym (ap is_plain is) ∙ p in cc
plain_by s t false p later is = later is

plain_in : (signs : List Sign) (bytes : List ℕ) → list_all (λ s. is_plain s.symbol) signs ≡ true → (symbol_in signs bytes ≡ symbol.Name) → ⊥
plain_in [] bytes all is = cc
plain_in (s ∷ signs) bytes all is =
    let parts = both (is_plain s.symbol) (list_all (λ s. is_plain s.symbol) signs) all in
    plain_by s.symbol (symbol_in signs bytes) (bytes_eq s.bytes bytes) parts.0 (plain_in signs bytes parts.1) is

plain_words : list_all (λ s. is_plain s.symbol) words ≡ true
unfolding words
plain_words = refl

plain_marks : list_all (λ s. is_plain s.symbol) marks ≡ true
unfolding marks
plain_marks = refl

-- a token whose symbol is that of names has a name
pub named_by : (k : TokenKind) (bytes : List ℕ) → IsOfKind k bytes → (symbol_by k bytes ≡ symbol.Name) → is_name bytes ≡ true
named_by kind.Name bytes of is = of
named_by kind.Number bytes of is = cc
named_by kind.Word bytes of is = absurd (plain_in words bytes plain_words is)
named_by kind.Sym bytes of is = absurd (plain_in marks bytes plain_marks is)

names_in_lexemes : (text : List ℕ) (tokens : List Token) → All (λ t. IsOfKind t.kind (token_bytes text t)) tokens → NamesIn text (lexemes text tokens)
names_in_lexemes text [] all = tt
names_in_lexemes text (t ∷ tokens) all =
    ((λ is. named_by t.kind (token_bytes text t) (All-head (λ t. IsOfKind t.kind (token_bytes text t)) t tokens all) is), names_in_lexemes text tokens (All-tail (λ t. IsOfKind t.kind (token_bytes text t)) t tokens all))

-- what the grammar says of a block that was parsed
pub parsed_keeps : (text : List ℕ) (cs : Commands) → IsParsed text cs → KeepsBlock text DEEPEST_BLOCK cs
parsed_keeps text cs p = block_keeps p.derived text DEEPEST_BLOCK (omega arith, refl) (names_in_lexemes text p.tokens p.kinds)

map_none : {A B : Type 0} (f : A → B) (o : Option A) → option_map f o ≡ None → o ≡ None
map_none f None is = refl
map_none f (Some x) is = cc

-- where no check of the tables fails, all are known
pub known_tables : (text : List ℕ) (tables : Names) (cs : Commands) → first_failing (table_checks text tables cs) ≡ None → find (is_unknown text tables) (tables_of cs) ≡ None
known_tables text tables cs none = map_none (λ (t : Token). At t.line UnknownTable) (find (is_unknown text tables) (tables_of cs)) (sym (unknown_failing UnknownTable text tables (tables_of cs)) ∙ none)

-- where the locals are known, the check of the limits decides
pub limit_decides : (text : List ℕ) (tables : Names) (cs : Commands) (line : ℕ) (b : Bool) → first_failing (local_checks text [] cs) ≡ None → passes_limit text tables cs ≡ b → first_failing (local_checks text [] cs ++ limit_check text tables cs line ∷ []) ≡ cond b (Some (At line ProgramLimit)) None
limit_decides text tables cs line b known past =
    first_failing-append (local_checks text [] cs) (limit_check text tables cs line ∷ [])
    ∙ ap (λ o. option_or o (first_failing (limit_check text tables cs line ∷ []))) known
    ∙ ap (λ b. cond b (Some (At line ProgramLimit)) None) past

or_true : (a b : Bool) → b ≡ true → (a || b) ≡ true
or_true true b is = refl
or_true false b is = is

or_first : (a b : Bool) → a ≡ true → (a || b) ≡ true
or_first a b is = ap (λ x. x || b) is

both_false : (a b : Bool) → a ≡ false → b ≡ false → (a || b) ≡ false
both_false a b is also = ap (λ x. x || b) is ∙ also

pub many_locals : (text : List ℕ) (tables : Names) (cs : Commands) → MOST_LOCALS < length (names_of text cs) → passes_limit text tables cs ≡ true
many_locals text tables cs more = or_first _ _ (lt-ltb MOST_LOCALS _ more)

pub many_times : (text : List ℕ) (tables : Names) (cs : Commands) → MOST_TIMES < most_times text cs → passes_limit text tables cs ≡ true
many_times text tables cs more =
    or_true (ltb MOST_LOCALS (length (names_of text cs))) _ (or_true (ltb MOST_STEPS (steps (bound_body text tables cs))) _ (or_true (ltb MOST_OF_A_KIND (most kinds.Read (bound_body text tables cs))) _
    (or_true (ltb MOST_OF_A_KIND (most kinds.Write (bound_body text tables cs))) _ (or_true (ltb MOST_OF_A_KIND (most kinds.Print (bound_body text tables cs))) _ (lt-ltb MOST_TIMES _ more)))))

pub within_passes : (text : List ℕ) (tables : Names) (cs : Commands) → IsWithin (length (names_of text cs)) (bound_body text tables cs) → most_times text cs ≤ MOST_TIMES → passes_limit text tables cs ≡ false
within_passes text tables cs w few =
    both_false _ _ (le-ltb MOST_LOCALS _ w.locals) (both_false _ _ (le-ltb MOST_STEPS _ w.steps_within) (both_false _ _ (le-ltb MOST_OF_A_KIND _ w.reads_within)
    (both_false _ _ (le-ltb MOST_OF_A_KIND _ w.writes_within) (both_false _ _ (le-ltb MOST_OF_A_KIND _ w.prints_within) (le-ltb MOST_TIMES _ few)))))

passes_by : (text : List ℕ) (tables : Names) (cs : Commands) → IsParsed text cs → first_failing (local_checks text [] cs) ≡ None → (IsWithin (length (names_of text cs)) (bound_body text tables cs) → ⊥) → (b : Bool) → passes_limit text tables cs ≡ b → passes_limit text tables cs ≡ true
passes_by text tables cs p none refused true is = is
passes_by text tables cs p none refused false is = absurd (refused (within_limits text tables cs (parsed_keeps text cs p) none is))

-- a program that is refused passes a limit
pub refused_passes : (text : List ℕ) (tables : Names) (cs : Commands) → IsParsed text cs → first_failing (local_checks text [] cs) ≡ None → (IsWithin (length (names_of text cs)) (bound_body text tables cs) → ⊥) → passes_limit text tables cs ≡ true
refused_passes text tables cs p none refused = passes_by text tables cs p none refused (passes_limit text tables cs) refl

-- names and a body that are those of a block
pub record IsOf (text : List ℕ) (tables : Names) (cs : Commands) (names : Names) (body : lang.Commands) : Type 0 where
  pub names_are : names ≡ names_of text cs
  pub body_is : body ≡ bound text tables names cs

whole_body : {text : List ℕ} {tables : Names} {cs : Commands} {names : Names} {body : lang.Commands} → IsOf text tables cs names body → body ≡ bound_body text tables cs
whole_body {text} {tables} {cs} of = of.body_is ∙ ap (λ ns. bound text tables ns cs) of.names_are

pub formed_as : (text : List ℕ) (tables : Names) (cs : Commands) (names : Names) (body : lang.Commands) → IsOf text tables cs names body → IsParsed text cs → first_failing (local_checks text [] cs) ≡ None → IsWellFormed names body
formed_as text tables cs names body of p none =
    let it = well_formed text tables cs (parsed_keeps text cs p) none in
    subst (λ ns. IsWellFormed ns body) (sym of.names_are) (subst (IsWellFormed (names_of text cs)) (sym (whole_body of)) it)

pub within_of : (text : List ℕ) (tables : Names) (cs : Commands) (names : Names) (body : lang.Commands) → IsOf text tables cs names body → IsWithin (length names) body → IsWithin (length (names_of text cs)) (bound_body text tables cs)
within_of text tables cs names body of w = subst (λ ns. IsWithin (length ns) (bound_body text tables cs)) of.names_are (subst (IsWithin (length names)) (whole_body of) w)

pub within_as : (text : List ℕ) (tables : Names) (cs : Commands) (names : Names) (body : lang.Commands) → IsOf text tables cs names body → IsWithin (length (names_of text cs)) (bound_body text tables cs) → IsWithin (length names) body
within_as text tables cs names body of w = subst (IsWithin (length names)) (sym (whole_body of)) (subst (λ ns. IsWithin (length ns) (bound_body text tables cs)) (sym of.names_are) w)
