-- What is read of a text stands for tokens of their kinds.
use Rattle.std.proofs.Common.{◌≡◌, ℕ, ◌-◌, List, [], ◌∷◌, All, drop, take, sym, subst}
use Rattle.std.proofs.lemmas.List.Elements.{All-nil, All-cons, All-take}
use Rattle.txn_lang.specs.declared.limits.TheConstants.{LONGEST_EXPRESSION, DEEPEST_BLOCK}
use Rattle.txn_text.specs.declared.kinds.Token.{Token}
use Rattle.txn_text.specs.Tokens.{token_bytes}
use Rattle.txn_text.specs.Kinds.{IsOfKind, AreTokens}
use Rattle.txn_parse.specs.Tree.{Commands}
use Rattle.txn_parse.specs.Symbols.{lexemes}
use Rattle.txn_parse.specs.Grammar.{Within, IsBlock}
use Rattle.txn_parse.specs.Binding.{IsParsed}

kinds_of : (text : List ℕ) (from : ℕ) (toks : List Token) → AreTokens text from toks → All (λ t. IsOfKind t.kind (token_bytes text t)) toks
kinds_of text from [] are = All-nil (λ (t : Token). IsOfKind t.kind (token_bytes text t))
kinds_of text from (t ∷ toks) are =
    All-cons (λ (t : Token). IsOfKind t.kind (token_bytes text t)) t toks are.1.kind (kinds_of text t.end toks are.2)

pub is_parsed : (text : List ℕ) (toks read : List Token) (next : ℕ) (b : Commands) → AreTokens text 0 toks → read ≡ toks →
    IsBlock (Within LONGEST_EXPRESSION DEEPEST_BLOCK) (lexemes text (take (next - 0) (drop 0 read))) b → IsParsed text b
is_parsed text toks read next b are same derived = record {
  tokens = take (next - 0) (drop 0 read);
  kinds =
      All-take (λ (t : Token). IsOfKind t.kind (token_bytes text t)) (next - 0) (drop 0 read)
      (kinds_of text 0 read (subst (AreTokens text 0) (sym same) are));
  derived = derived;
}
