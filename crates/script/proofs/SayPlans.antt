-- What the lines of nets and plan items say.
use Rattle.std.proofs.Common.{◌≡◌, ℕ, ◌≤◌, ◌&&◌, nat_le, false, not, List, [], ◌∷◌, length, Some, None, Ok, refl, ap, ◌∙◌, arith, inl, inr}
use Rattle.std.specs.Prelude.{decimal}
use Rattle.std.proofs.lemmas.Bool.Decides.{nat_tests}
use Rattle.morty_base.specs.declared.names.Version.{Version}
use Rattle.morty_base.specs.declared.names.NodeId.{NodeId}
use Rattle.morty_base.specs.declared.names.NodeId.TheVariants as nodes
use Rattle.msg.specs.declared.Pick.{Pick}
use Rattle.msg.specs.declared.Pick.TheVariants as pick
use Rattle.net_core.specs.declared.plan.PlanItem.{PlanItem}
use Rattle.txn_text.specs.declared.bytes.TheConstants.{GREATEST_NUMBER}
use Rattle.txn_text.specs.declared.faults.FaultKind.TheVariants as fault
use Rattle.txn_text.specs.declared.kinds.Token.{Token}
use Rattle.txn_text.specs.Tokens.{token_bytes}
use Rattle.txn_parse.specs.declared.symbols.Symbol.{Symbol}
use Rattle.txn_parse.specs.declared.symbols.Symbol.TheVariants as symbol
use Rattle.txn_parse.specs.Symbols.{words, marks, Lexeme, lexeme}
use Rattle.txn_parse.specs.Counts.{counted}
use Rattle.txn_parse.specs.Binding.{first_failing, number_of}
use Rattle.txn_print.proofs.LexedLemmas.{Lexed, none, one}
use Rattle.txn_print.proofs.ReadTerms.{number_back}
use Rattle.script.specs.declared.limits.TheConstants.{GREATEST_PLANNED}
use Rattle.script.specs.declared.items.NodeKind.{NodeKind}
use Rattle.script.specs.declared.items.NodeKind.TheVariants as kinds
use Rattle.script.specs.declared.items.RawNode.{RawNode}
use Rattle.script.specs.declared.items.RawVersion.{RawVersion}
use Rattle.script.specs.declared.items.RawPick.{RawPick}
use Rattle.script.specs.declared.items.RawPick.TheVariants as picks
use Rattle.script.specs.Rules.{One, Both, Derives}
use Rattle.script.specs.Grammar as grammar
use Rattle.script.specs.Meaning.{Script, node_by, node_of, version_of, pick_of}
use Rattle.script.specs.Checks.{between, nodes_in, node_check, planned_check, pick_checks}
use Rattle.script.specs.Canonical.{node_pieces, pick_pieces}
use Rattle.script.specs.Sayable.{IsNode, IsVersion, IsPick}
use Rattle.script.proofs.SayLemmas.{one_derived, into_derived, both_derived, token_derived, behind_derived}
use Rattle.script.proofs.SaySettings.{pass}

pub under : (n most : ℕ) → n ≤ most → not (nat_le n most) ≡ false
under n most few = grind (arith, nat_tests)

pub within : (n most : ℕ) → 1 ≤ n → n ≤ most → not (nat_le 1 n && nat_le n most) ≡ false
within n most some few = grind (arith, nat_tests)

module _ (text : List ℕ) where
  -- a number that was printed
  pub read_as : (t : Token) (n : ℕ) → token_bytes text t ≡ decimal n → n ≤ GREATEST_NUMBER → number_of text t ≡ n
  read_as t n bytes small = number_back text t n small bytes

  -- a node
  pub record NodeRead (s : Script) (ls : List Lexeme) (n : NodeId) : Type 0 where
    pub raw : RawNode
    pub derived : Derives grammar.node ls raw
    pub same : node_of text raw ≡ n
    pub exists : (plan : List PlanItem) → first_failing (node_check text (record s { plan = plan }) raw ∷ []) ≡ None
    pub counts : (d r : ℕ) → counted d r ls ≡ Ok (d, 1)

  some_node : (s : Script) (k : NodeKind) (y : Symbol) (w t : Token) (m : ℕ) (n : NodeId) → grammar.node_of y ≡ Some k → token_bytes text t ≡ decimal m → node_by k m ≡ n → 1 ≤ m → ((plan : List PlanItem) → m ≤ nodes_in k (record s { plan = plan })) → m ≤ GREATEST_NUMBER →
      ((d r : ℕ) → counted d r (lexeme y w ∷ lexeme symbol.Number t ∷ []) ≡ Ok (d, 1)) → NodeRead s (lexeme y w ∷ lexeme symbol.Number t ∷ []) n
  unfolding grammar.node
  some_node s k y w t m n chosen bytes is some few small counts =
      let same = read_as t m bytes small in
      record {
        raw = record { kind = k; number = t };
        derived = into_derived (λ x. record { kind = x.0.0; number = x.1 }) (Both (One grammar.node_of symbol.Client) grammar.number) (lexeme y w ∷ lexeme symbol.Number t ∷ []) ((k, w), t)
            (both_derived (One grammar.node_of symbol.Client) grammar.number (lexeme y w ∷ []) (lexeme symbol.Number t ∷ []) (k, w) t (one_derived grammar.node_of symbol.Client y w k chosen) (token_derived symbol.Number t refl));
        same = ap (node_by k) same ∙ is;
        exists = λ plan. let many = nodes_in k (record s { plan = plan }) in
            pass (not (between 1 many (number_of text t))) t fault.NoSuchNode [] (ap (λ (i : ℕ). not (between 1 many i)) same ∙ within m many some (few plan)) refl;
        counts = counts;
      }

  -- the script has few nodes of each kind
  pub record HasFewNodes (s : Script) : Type 0 where
    pub clients : length s.clients ≤ GREATEST_NUMBER
    pub replicas : s.replicas ≤ GREATEST_NUMBER
    pub wardens : s.wardens ≤ GREATEST_NUMBER

  pub node_read : (s : Script) (n : NodeId) (ls : List Lexeme) → HasFewNodes s → IsNode s n → Lexed text (node_pieces n) ls → NodeRead s ls n
  unfolding words
  node_read s (nodes.Client m) zs few is (one p w ps ps' b (one q t qs qs' b' none)) =
      let most = few.clients in let last = is.1 in some_node s kinds.Client symbol.Client w t m (nodes.Client m) refl b' refl is.0 (λ plan. is.1) (omega (arith, most, last)) (λ d r. refl)
  node_read s (nodes.Replica m) zs few is (one p w ps ps' b (one q t qs qs' b' none)) =
      let most = few.replicas in let last = is.1 in some_node s kinds.Replica symbol.Replica w t m (nodes.Replica m) refl b' refl is.0 (λ plan. is.1) (omega (arith, most, last)) (λ d r. refl)
  node_read s (nodes.Warden m) zs few is (one p w ps ps' b (one q t qs qs' b' none)) =
      let most = few.wardens in let last = is.1 in some_node s kinds.Warden symbol.Warden w t m (nodes.Warden m) refl b' refl is.0 (λ plan. is.1) (omega (arith, most, last)) (λ d r. refl)

  -- a version
  record VersionRead (ls : List Lexeme) (v : Version) : Type 0 where
    raw : RawVersion
    derived : Derives grammar.version_name ls raw
    same : version_of text raw ≡ v
    small : not (nat_le (number_of text raw.client) GREATEST_PLANNED) ≡ false

  version_read : (v : Version) (t x c : Token) → IsVersion v → token_bytes text t ≡ decimal v.ts → token_bytes text c ≡ decimal v.client → VersionRead (lexeme symbol.Number t ∷ lexeme symbol.Dot x ∷ lexeme symbol.Number c ∷ []) v
  unfolding grammar.version_name
  version_read v t x c is b b' =
      let few = is.1 in
      let ts = read_as t v.ts b is.0 in
      let client = read_as c v.client b' (omega (arith, few)) in
      record {
        raw = record { ts = t; client = c };
        derived = into_derived (λ x. record { ts = x.0; client = x.1 }) (Both grammar.number (grammar.behind symbol.Dot grammar.number)) (lexeme symbol.Number t ∷ lexeme symbol.Dot x ∷ lexeme symbol.Number c ∷ []) (t, c)
            (both_derived grammar.number (grammar.behind symbol.Dot grammar.number) (lexeme symbol.Number t ∷ []) (lexeme symbol.Dot x ∷ lexeme symbol.Number c ∷ []) t c (token_derived symbol.Number t refl)
            (behind_derived symbol.Dot grammar.number x (lexeme symbol.Number c ∷ []) c refl (token_derived symbol.Number c refl)));
        same = ap (λ (n : ℕ). let w : Version = record { ts = n; client = number_of text c } in w) ts ∙ ap (λ (n : ℕ). let w : Version = record { ts = v.ts; client = n } in w) client;
        small = ap (λ (n : ℕ). not (nat_le n GREATEST_PLANNED)) client ∙ under v.client GREATEST_PLANNED is.1;
      }

  -- a pick
  pub record PickRead (ls : List Lexeme) (p : Pick) : Type 0 where
    pub raw : RawPick
    pub derived : Derives grammar.pick ls raw
    pub same : pick_of text raw ≡ p
    pub passes : first_failing (pick_checks text raw) ≡ None
    pub counts : (d r : ℕ) → (m : ℕ) × (counted d r ls ≡ Ok (d, m))

  plain_pick : (y : Symbol) (w : Token) (raw : RawPick) (p : Pick) → grammar.plain_pick_of y ≡ Some raw → pick_of text raw ≡ p → first_failing (pick_checks text raw) ≡ None →
      ((d r : ℕ) → (m : ℕ) × (counted d r (lexeme y w ∷ []) ≡ Ok (d, m))) → PickRead (lexeme y w ∷ []) p
  unfolding grammar.pick
  plain_pick y w raw p chosen same passes counts = record {
    raw = raw;
    derived = inl (into_derived (λ x. x.0) (One grammar.plain_pick_of symbol.Go) (lexeme y w ∷ []) (raw, w) (one_derived grammar.plain_pick_of symbol.Go y w raw chosen));
    same = same;
    passes = passes;
    counts = counts;
  }

  pub pick_read : (p : Pick) (ls : List Lexeme) → IsPick p → Lexed text (pick_pieces p) ls → PickRead ls p
  unfolding words marks grammar.pick grammar.named_pick
  pick_read pick.Idle ls is l = absurd is
  pick_read pick.Go zs is (one p w ps ps' b none) = plain_pick symbol.Go w picks.Go pick.Go refl refl refl (λ d r. (0, refl))
  pick_read pick.Hurry zs is (one p w ps ps' b none) = plain_pick symbol.Hurry w picks.Hurry pick.Hurry refl refl refl (λ d r. (0, refl))
  pick_read pick.Stop zs is (one p w ps ps' b none) = plain_pick symbol.Stop w picks.Stop pick.Stop refl refl refl (λ d r. (0, refl))
  pick_read (pick.Deliver n) zs is (one p w ps ps' b (one q t qs qs' b' none)) = record {
    raw = picks.Deliver t;
    derived = inr (inl (into_derived picks.Deliver (grammar.behind symbol.Deliver grammar.number) (lexeme symbol.Deliver w ∷ lexeme symbol.Number t ∷ []) t
        (behind_derived symbol.Deliver grammar.number w (lexeme symbol.Number t ∷ []) t refl (token_derived symbol.Number t refl))));
    same = ap pick.Deliver (read_as t n b' is);
    passes = refl;
    counts = λ d r. (1, refl);
  }
  pick_read (pick.Recover x) zs is (one p w ps ps' b (one q t qs qs' b' (one o y os os' e (one u c us us' f (one a i as' bs g none))))) =
      let v = version_read x.ver t y c is.0 b' f in
      let few = is.1 in
      let eid = read_as i x.eid g (omega (arith, few)) in
      record {
        raw = picks.Recover v.raw i;
        derived = inr (inr (inl (into_derived (λ x. picks.Recover x.0 x.1) (Both (grammar.behind symbol.Recover grammar.version_name) grammar.number)
            (lexeme symbol.Recover w ∷ lexeme symbol.Number t ∷ lexeme symbol.Dot y ∷ lexeme symbol.Number c ∷ lexeme symbol.Number i ∷ []) (v.raw, i)
            (both_derived (grammar.behind symbol.Recover grammar.version_name) grammar.number (lexeme symbol.Recover w ∷ lexeme symbol.Number t ∷ lexeme symbol.Dot y ∷ lexeme symbol.Number c ∷ []) (lexeme symbol.Number i ∷ []) v.raw i
            (behind_derived symbol.Recover grammar.version_name w (lexeme symbol.Number t ∷ lexeme symbol.Dot y ∷ lexeme symbol.Number c ∷ []) v.raw refl v.derived) (token_derived symbol.Number i refl)))));
        same = ap (λ (z : Version). pick.Recover (record { ver = z; eid = number_of text i })) v.same ∙ ap (λ (n : ℕ). pick.Recover (record { ver = x.ver; eid = n })) eid;
        passes = pass (not (nat_le (number_of text v.raw.client) GREATEST_PLANNED)) v.raw.client fault.PlanRange (planned_check text i ∷ []) v.small
            (pass (not (nat_le (number_of text i) GREATEST_PLANNED)) i fault.PlanRange [] (ap (λ (n : ℕ). not (nat_le n GREATEST_PLANNED)) eid ∙ under x.eid GREATEST_PLANNED is.1) refl);
        counts = λ d r. (2, refl);
      }
  pick_read (pick.Truncate x) zs is (one p w ps ps' b (one q t qs qs' b' (one o y os os' e (one u c us us' f none)))) =
      let v = version_read x t y c is b' f in
      record {
        raw = picks.Truncate v.raw;
        derived = inr (inr (inr (into_derived picks.Truncate (grammar.behind symbol.Truncate grammar.version_name) (lexeme symbol.Truncate w ∷ lexeme symbol.Number t ∷ lexeme symbol.Dot y ∷ lexeme symbol.Number c ∷ []) v.raw
            (behind_derived symbol.Truncate grammar.version_name w (lexeme symbol.Number t ∷ lexeme symbol.Dot y ∷ lexeme symbol.Number c ∷ []) v.raw refl v.derived))));
        same = ap pick.Truncate v.same;
        passes = pass (not (nat_le (number_of text v.raw.client) GREATEST_PLANNED)) v.raw.client fault.PlanRange [] v.small refl;
        counts = λ d r. (1, refl);
      }
