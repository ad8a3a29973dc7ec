-- The items of a text's tokens are readable: their names are names, and their blocks were read of the text.
use Rattle.std.proofs.Common.{◌≡◌, ◌⊎◌, ℕ, Bool, true, false, cond, List, [], ◌∷◌, ◌++◌, map, Option, Some, None, All, refl, sym, ap, ◌∙◌, subst, inl, inr}
use Rattle.std.proofs.lemmas.Bool.{false≢true}
use Rattle.std.proofs.lemmas.List.{append-nil}
use Rattle.std.proofs.lemmas.List.Elements.{All-nil, All-cons}
use Rattle.morty_base.specs.ScriptNames.{is_name}
use Rattle.txn_text.specs.declared.kinds.Token.{Token}
use Rattle.txn_text.specs.Tokens.{token_bytes}
use Rattle.txn_text.specs.Kinds.{IsOfKind, AreTokens}
use Rattle.txn_parse.specs.declared.symbols.Symbol.{Symbol}
use Rattle.txn_parse.specs.declared.symbols.Symbol.TheVariants as symbol
use Rattle.txn_parse.specs.Symbols.{Lexeme, lexeme, lexemes, symbol_of, is}
use Rattle.txn_parse.specs.Tree.{Commands}
use Rattle.txn_parse.specs.Faults.{IsWithinLimits}
use Rattle.txn_parse.specs.Grammar.{Free, Within, IsBlock}
use Rattle.txn_lang.specs.declared.limits.TheConstants.{DEEPEST_BLOCK, LONGEST_EXPRESSION}
use Rattle.txn_parse.proofs.ResolveLemmas.{named_by}
use Rattle.txn_text.proofs.TokensLieInOrder.{tokens_lie_in_order}
use Rattle.txn_parse.specs.Binding.{IsParsed}
use Rattle.txn_parse.proofs.PartLemmas.{part_within, block_within}
use Rattle.script.specs.Items.{Item}
use Rattle.script.specs.Rules.{Rule, One, Block, Nothing, Both, Into, Either, Many, Listed, IsOne, Derives, IsMany, no_item, one_more, IsListed, last_one, last_ended, listed_more}
use Rattle.script.specs.Grammar.{token, version, number_setting, policy_setting, setting, table, first, store, program, client, net, at_item, list_item, plan, end_item, single, as_list, optional, then_items, script}
use Rattle.script.specs.Texts.{HasItems}
use Rattle.script.specs.Building.{IsReadable}

module _ (text : List ℕ) where
  -- a token of the text, with its symbol
  pub record Has (l : Lexeme) : Type 0 where
    pub symbol : l.symbol ≡ symbol_of text l.token
    pub kind : IsOfKind l.token.kind (token_bytes text l.token)

  abbrev pub AllHave : List Lexeme → Type 0
  AllHave [] = Unit {0}
  AllHave (l ∷ ls) = Has l × AllHave ls

  -- tokens that stand one behind the other in the text, none of them past a limit
  pub record IsPart (ls : List Lexeme) : Type 0 where
    pub have : AllHave ls
    pub within : IsWithinLimits ls

  have_parts : (xs ys : List Lexeme) → AllHave (xs ++ ys) → AllHave xs × AllHave ys
  have_parts [] ys h = (tt, h)
  have_parts (x ∷ xs) ys h = let p = have_parts xs ys h.1 in ((h.0, p.0), p.1)

  front_part : (xs ys : List Lexeme) → IsPart (xs ++ ys) → IsPart xs
  front_part xs ys p = record { have = (have_parts xs ys p.have).0; within = part_within [] xs ys p.within }

  back_part : (xs ys : List Lexeme) → IsPart (xs ++ ys) → IsPart ys
  back_part xs ys p = record {
    have = (have_parts xs ys p.have).1;
    within = part_within xs ys [] (subst (λ zs. IsWithinLimits (xs ++ zs)) (sym (append-nil ys)) p.within);
  }

  same_lexemes : (ls : List Lexeme) → AllHave ls → lexemes text (map (λ l. l.token) ls) ≡ ls
  same_lexemes [] h = refl
  same_lexemes (l ∷ ls) h =
      ap (λ s. lexeme s l.token ∷ lexemes text (map (λ (x : Lexeme). x.token) ls)) (sym h.0.symbol)
      ∙ ap (λ xs. l ∷ xs) (same_lexemes ls h.1)

  -- what a token tells that the text has
  pub record IsChosen {A : Type 0} (choose : Symbol → Option A) (a : A × Token) : Type 0 where
    pub choice : choose (symbol_of text a.1) ≡ Some a.0
    pub kind : IsOfKind a.1.kind (token_bytes text a.1)

  pub record IsMadeOf {A B : Type 0} (make : A → B) (P : A → Type 0) (b : B) : Type 0 where
    pub of : A
    pub told : P of
    pub made : b ≡ make of

  abbrev pub Each : {A : Type 0} → (A → Type 0) → List A → Type 0
  Each P [] = Unit {0}
  Each P (x ∷ xs) = P x × Each P xs

  abbrev pub IsTold : {A : Type 0} → Rule A → A → Type 0
  IsTold (One choose sample) a = IsChosen choose a
  IsTold Block b = IsParsed text b
  IsTold (Nothing a) b = b ≡ a
  IsTold (Both r q) c = IsTold r c.0 × IsTold q c.1
  IsTold (Into make r) b = IsMadeOf make (IsTold r) b
  IsTold (Either r q) a = IsTold r a ⊎ IsTold q a
  IsTold (Many r) xs = Each (IsTold r) xs
  IsTold (Listed r) xs = Each (IsTold r) xs

  kinds_of : (ls : List Lexeme) → AllHave ls → All (λ t. IsOfKind t.kind (token_bytes text t)) (map (λ (l : Lexeme). l.token) ls)
  kinds_of [] h = All-nil (λ (t : Token). IsOfKind t.kind (token_bytes text t))
  kinds_of (l ∷ ls) h = All-cons (λ (t : Token). IsOfKind t.kind (token_bytes text t)) l.token (map (λ (x : Lexeme). x.token) ls) h.0.kind (kinds_of ls h.1)

  block_told : (ls : List Lexeme) (b : Commands) → IsBlock Free ls b → IsPart ls → IsParsed text b
  block_told ls b d p = record {
    tokens = map (λ (l : Lexeme). l.token) ls;
    kinds = kinds_of ls p.have;
    derived =
        subst (λ xs. IsBlock (Within LONGEST_EXPRESSION DEEPEST_BLOCK) xs b) (sym (same_lexemes ls p.have))
        (block_within [] ls [] b (subst IsWithinLimits (sym (append-nil ls)) p.within) d);
  }

  one_told : {A : Type 0} (choose : Symbol → Option A) (ls : List Lexeme) (a : A × Token) → IsOne choose ls a → IsPart ls → IsChosen choose a
  one_told choose ls a d p =
      let alone = subst IsPart d.alone p in
      record { choice = ap choose (sym alone.have.0.symbol) ∙ d.chosen; kind = alone.have.0.kind }

  many_told : {A : Type 0} (G : List Lexeme → A → Type 0) (P : A → Type 0) → ((ls : List Lexeme) (a : A) → G ls a → IsPart ls → P a) →
      (ls : List Lexeme) (xs : List A) → IsMany G ls xs → IsPart ls → Each P xs
  many_told G P each _ _ no_item p = tt
  many_told G P each _ _ (one_more ls ms a rest d more) p =
      (each ls a d (front_part ls ms p), many_told G P each ms rest more (back_part ls ms p))

  listed_told : {A : Type 0} (G : List Lexeme → A → Type 0) (P : A → Type 0) → ((ls : List Lexeme) (a : A) → G ls a → IsPart ls → P a) →
      (ls : List Lexeme) (xs : List A) → IsListed G ls xs → IsPart ls → Each P xs
  listed_told G P each _ _ (last_one y ls a d) p = (each ls a d (front_part ls (lexeme symbol.CloseBlock y ∷ []) p), tt)
  listed_told G P each _ _ (last_ended s y ls a d) p = (each ls a d (front_part ls (lexeme symbol.Semicolon s ∷ lexeme symbol.CloseBlock y ∷ []) p), tt)
  listed_told G P each _ _ (listed_more s ls ms a rest d more) p = (
    each ls a d (front_part ls (lexeme symbol.Semicolon s ∷ ms) p),
    listed_told G P each ms rest more (back_part (lexeme symbol.Semicolon s ∷ []) ms (back_part ls (lexeme symbol.Semicolon s ∷ ms) p)),
  )

  -- what is derived of a part of the text is told by it
  pub told : {A : Type 0} (r : Rule A) (ls : List Lexeme) (a : A) → Derives r ls a → IsPart ls → IsTold r a
  told (One choose sample) ls a d p = one_told choose ls a d p
  told Block ls b d p = block_told ls b d p
  told (Nothing a) ls b d p = d.1
  told (Both r q) ls c d p =
      let whole = subst IsPart d.split p in
      (told r d.front c.0 d.first (front_part d.front d.back whole), told q d.back c.1 d.second (back_part d.front d.back whole))
  told (Into make r) ls b d p = record { of = d.of; told = told r ls d.of d.derived p; made = d.made }
  told (Either r q) ls a (inl d) p = inl (told r ls a d p)
  told (Either r q) ls a (inr d) p = inr (told q ls a d p)
  told (Many r) ls xs d p = many_told (Derives r) (IsTold r) (told r) ls xs d p
  told (Listed r) ls xs d p = listed_told (Derives r) (IsTold r) (told r) ls xs d p

  -- ---- the items of scripts

  named_symbol : (s : Symbol) → is s symbol.Name ≡ true → s ≡ symbol.Name
  named_symbol symbol.Name e = refl
  named_symbol s e = absurd (false≢true e)

  only_tells : (b : Bool) (u : Unit {0}) → cond b (Some tt) None ≡ Some u → b ≡ true
  only_tells true u e = refl
  only_tells false u e = cc

  pub name_told : (t : Token) → IsTold (token symbol.Name) t → is_name (token_bytes text t) ≡ true
  unfolding token
  name_told t h =
      let x = h.of.1 in
      let named = named_symbol (symbol_of text x) (only_tells (is (symbol_of text x) symbol.Name) h.of.0 h.told.choice) in
      subst (λ (y : Token). is_name (token_bytes text y) ≡ true) (sym h.made) (named_by x.kind (token_bytes text x) h.told.kind named)

  version_told : (i : Item) → IsTold version i → IsReadable text i
  unfolding version
  version_told i h = subst (IsReadable text) (sym h.made) tt

  setting_told : (i : Item) → IsTold setting i → IsReadable text i
  unfolding setting number_setting policy_setting
  setting_told i (inl h) = subst (IsReadable text) (sym h.made) tt
  setting_told i (inr h) = subst (IsReadable text) (sym h.made) tt

  store_told : (i : Item) → IsTold store i → IsReadable text i
  unfolding store table first
  store_told i (inl h) =
      subst (IsReadable text) (sym h.made)
      (subst (λ (t : Token). is_name (token_bytes text t) ≡ true) (sym h.told.made) (name_told h.told.of.1 h.told.told.1))
  store_told i (inr h) = subst (IsReadable text) (sym h.made) tt

  program_told : (i : Item) → IsTold program i → IsReadable text i
  unfolding program
  program_told i h = subst (IsReadable text) (sym h.made) (name_told h.of.1.0 h.told.1.0, h.told.1.1)

  client_told : (i : Item) → IsTold client i → IsReadable text i
  unfolding client
  client_told i h = subst (IsReadable text) (sym h.made) tt

  same_item : (a b : Item) → Some a ≡ Some b → b ≡ a
  same_item a b e = cc

  net_item : (o : Option Item) → IsTold (optional net) o → Each (IsReadable text) (as_list o)
  unfolding net
  net_item None x = tt
  net_item (Some i) (inl x) = (subst (IsReadable text) (same_item i x.of x.made) (subst (IsReadable text) (sym x.told.made) tt), tt)
  net_item (Some i) (inr x) = absurd (cc (x))

  net_told : (l : List Item) → IsTold (Into as_list (optional net)) l → Each (IsReadable text) l
  net_told l h = subst (Each (IsReadable text)) (sym h.made) (net_item h.of h.told)

  plan_told : (i : Item) → IsTold plan i → IsReadable text i
  unfolding plan at_item list_item
  plan_told i (inl h) = subst (IsReadable text) (sym h.made) tt
  plan_told i (inr h) = subst (IsReadable text) (sym h.made) tt

  end_told : (i : Item) → IsTold end_item i → IsReadable text i
  unfolding end_item
  end_told i h = subst (IsReadable text) (sym h.made) tt

  each_append : (xs ys : List Item) → Each (IsReadable text) xs → Each (IsReadable text) ys → Each (IsReadable text) (xs ++ ys)
  each_append [] ys h k = k
  each_append (x ∷ xs) ys h k = (h.0, each_append xs ys h.1 k)

  each_told : (r : Rule Item) → ((i : Item) → IsTold r i → IsReadable text i) → (xs : List Item) → IsTold (Many r) xs → Each (IsReadable text) xs
  each_told r tells [] h = tt
  each_told r tells (x ∷ xs) h = (tells x h.0, each_told r tells xs h.1)

  single_told : (r : Rule Item) → ((i : Item) → IsTold r i → IsReadable text i) → (l : List Item) → IsTold (Into single r) l → Each (IsReadable text) l
  single_told r tells l h = subst (Each (IsReadable text)) (sym h.made) (tells h.of h.told, tt)

  joined : (r q : Rule (List Item)) → ((xs : List Item) → IsTold r xs → Each (IsReadable text) xs) → ((xs : List Item) → IsTold q xs → Each (IsReadable text) xs) →
      (l : List Item) → IsTold (then_items r q) l → Each (IsReadable text) l
  joined r q f g l h = subst (Each (IsReadable text)) (sym h.made) (each_append h.of.0 h.of.1 (f h.of.0 h.told.0) (g h.of.1 h.told.1))

  -- the rules of a script from plans, nets, clients, programs, stores and settings on
  abbrev from_plans : Rule (List Item)
  from_plans = then_items (Many plan) (Into single end_item)

  abbrev from_net : Rule (List Item)
  from_net = then_items (Into as_list (optional net)) from_plans

  abbrev from_clients : Rule (List Item)
  from_clients = then_items (Many client) from_net

  abbrev from_programs : Rule (List Item)
  from_programs = then_items (Many program) from_clients

  abbrev from_stores : Rule (List Item)
  from_stores = then_items (Many store) from_programs

  abbrev from_settings : Rule (List Item)
  from_settings = then_items (Many setting) from_stores

  script_told : (l : List Item) → IsTold script l → Each (IsReadable text) l
  unfolding script
  script_told =
      joined (Into single version) from_settings (single_told version version_told)
      (joined (Many setting) from_stores (each_told setting setting_told)
      (joined (Many store) from_programs (each_told store store_told)
      (joined (Many program) from_clients (each_told program program_told)
      (joined (Many client) from_net (each_told client client_told)
      (joined (Into as_list (optional net)) from_plans net_told
      (joined (Many plan) (Into single end_item) (each_told plan plan_told) (single_told end_item end_told)))))))

  have_tokens : (from : ℕ) (tokens : List Token) → AreTokens text from tokens → AllHave (lexemes text tokens)
  have_tokens from [] h = tt
  have_tokens from (t ∷ tokens) h = (record { symbol = refl; kind = h.1.kind }, have_tokens t.end tokens h.2)

  -- all that the grammar tells of the items of a text
  pub items_told : (items : List Item) → HasItems text items → IsTold script items
  items_told items has =
      let ls = lexemes text has.tokens in
      told script ls items has.is_script.derived (record {
        have = have_tokens 0 has.tokens (tokens_lie_in_order text has.tokens has.are_tokens);
        within = has.is_script.within;
      })

  pub readable : (items : List Item) → HasItems text items → Each (IsReadable text) items
  readable items has = script_told items (items_told items has)
