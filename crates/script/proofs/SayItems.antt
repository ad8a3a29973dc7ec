-- What the lines of nets and plan items say.
use Rattle.std.proofs.Common.{◌≡◌, ℕ, ◌≤◌, nat_le, true, false, not, List, [], ◌∷◌, ◌++◌, map, Some, None, Ok, refl, sym, ap, ◌∙◌, subst, arith, inl, inr}
use Rattle.std.specs.Prelude.{codes, decimal}
use Rattle.std.specs.List.{AllByRecursion}
use Rattle.std.proofs.lemmas.List.{append_assoc, append-nil}
use Rattle.morty_base.specs.declared.names.NodeId.{NodeId}
use Rattle.msg.specs.declared.Pick.{Pick}
use Rattle.net_core.specs.declared.plan.PlanItem.{PlanItem}
use Rattle.net_core.specs.declared.plan.PlanWhat.{PlanWhat}
use Rattle.net_core.specs.declared.plan.PlanWhat.TheVariants as what
use Rattle.txn_text.specs.declared.faults.FaultKind.TheVariants as fault
use Rattle.txn_text.specs.declared.kinds.Token.{Token}
use Rattle.txn_text.specs.Tokens.{token_bytes}
use Rattle.txn_parse.specs.declared.symbols.Symbol.{Symbol}
use Rattle.txn_parse.specs.declared.symbols.Symbol.TheVariants as symbol
use Rattle.txn_parse.specs.Symbols.{words, marks, is as is_symbol, Lexeme, lexeme}
use Rattle.txn_parse.specs.Counts.{counted, and_then}
use Rattle.txn_parse.specs.Binding.{first_failing, number_of}
use Rattle.txn_parse.proofs.CountsLemmas.{counted-append}
use Rattle.txn_parse.proofs.NamesLemmas.{none_first}
use Rattle.txn_print.specs.Piece.{Symbol as Mark}
use Rattle.txn_print.specs.Canonical.{in_braces}
use Rattle.txn_print.proofs.LexedLemmas.{Lexed, none, one, Parts, parts}
use Rattle.txn_print.proofs.LinesLaid.{joined}
use Rattle.script.specs.declared.limits.TheConstants.{MOST_CALLS, GREATEST_PERCENTAGE}
use Rattle.script.specs.declared.items.Calls.{Calls}
use Rattle.script.specs.declared.items.Calls.TheVariants as calls
use Rattle.script.specs.declared.items.RawEntry.{RawEntry}
use Rattle.script.specs.declared.items.RawEntry.TheVariants as entries
use Rattle.script.specs.declared.items.RawNet.{RawNet}
use Rattle.script.specs.declared.items.RawNet.TheVariants as nets
use Rattle.script.specs.declared.items.Stated.{Stated}
use Rattle.script.specs.declared.setup.Net.{Net as NetValue}
use Rattle.script.specs.declared.setup.Net.TheVariants as net_value
use Rattle.script.specs.Items.{Net, At, Entries}
use Rattle.script.specs.Rules.{One, Both, Into, Either, Many, Listed, last_one, Derives}
use Rattle.script.specs.Grammar as grammar
use Rattle.script.specs.Meaning.{Script, Said, net_of, node_of, pick_of, calls_by, entry_of}
use Rattle.script.specs.Checks.{check, between, node_check, is_listed, pick_checks, entry_checks, percentage_check, net_checks}
use Rattle.script.specs.Canonical.{net_line, node_pieces, pick_pieces, entry_pieces, entry_line, plan_line}
use Rattle.script.specs.Sayable.{IsNet, IsCalls, IsPlanned, IsPlanItem}
use Rattle.script.proofs.SayLemmas.{Says, one_derived, into_derived, both_derived, token_derived, behind_derived, IsCalm, says_none, says_one, says_both}
use Rattle.script.proofs.SaySettings.{pass}
use Rattle.script.proofs.SayPlans.{under, within, read_as, NodeRead, HasFewNodes, node_read, PickRead, pick_read}

module _ (text : List ℕ) where
  percentage : (t : Token) (n : ℕ) → n ≤ GREATEST_PERCENTAGE → number_of text t ≡ n → not (nat_le (number_of text t) GREATEST_PERCENTAGE) ≡ false
  percentage t n few is = ap (λ (i : ℕ). not (nat_le i GREATEST_PERCENTAGE)) is ∙ under n GREATEST_PERCENTAGE few

  net_says_by : (raw : RawNet) (n : NetValue) (w : Token) (ls : List Lexeme) (s : Said) → Derives (Either (Into (λ x. x.0) (One grammar.net_of symbol.Fair)) grammar.seeded) ls raw → net_of text raw ≡ n → first_failing (net_checks text raw) ≡ None →
      IsCalm 0 (lexeme symbol.Net w ∷ ls) → Says text (Into grammar.as_list (grammar.optional grammar.net)) (lexeme symbol.Net w ∷ ls) s (record s { script = record s.script { net = n } })
  unfolding grammar.net
  net_says_by raw n w ls s d same passes calm =
      let choice = Either (Into (λ x. x.0) (One grammar.net_of symbol.Fair)) grammar.seeded in
      record {
        items = Net raw ∷ [];
        derived = into_derived grammar.as_list (grammar.optional grammar.net) (lexeme symbol.Net w ∷ ls) (Some (Net raw))
            (inl (into_derived Some grammar.net (lexeme symbol.Net w ∷ ls) (Net raw) (into_derived Net (grammar.behind symbol.Net choice) (lexeme symbol.Net w ∷ ls) raw (behind_derived symbol.Net choice w ls raw refl d))));
        passes = none_first (net_checks text raw) [] passes;
        says = ap (λ (m : NetValue). let x : Said = record s { script = record s.script { net = m } } in x) same;
        calm = calm;
      }

  pub net_says : (n : NetValue) (s : Said) (ls : List Lexeme) → IsNet n → Lexed text (net_line n) ls → Says text (Into grammar.as_list (grammar.optional grammar.net)) ls s (record s { script = record s.script { net = n } })
  unfolding words grammar.seeded
  net_says net_value.Fair s zs is (one p w ps ps' b (one q t qs qs' b' none)) =
      net_says_by nets.Fair net_value.Fair w (lexeme symbol.Fair t ∷ []) s
      (inl (into_derived (λ x. x.0) (One grammar.net_of symbol.Fair) (lexeme symbol.Fair t ∷ []) (nets.Fair, t) (one_derived grammar.net_of symbol.Fair symbol.Fair t nets.Fair refl))) refl refl (λ r. (0, refl))
  net_says net_value.Listed s zs is (one p w ps ps' b (one q t qs qs' b' none)) =
      net_says_by nets.Listed net_value.Listed w (lexeme symbol.Listed t ∷ []) s
      (inl (into_derived (λ x. x.0) (One grammar.net_of symbol.Fair) (lexeme symbol.Listed t ∷ []) (nets.Listed, t) (one_derived grammar.net_of symbol.Fair symbol.Listed t nets.Listed refl))) refl refl (λ r. (0, refl))
  net_says (net_value.Seeded seed late again hurry) s zs is (one p w ps ps' b (one q x qs qs' b' (one a y as' as'' c (one d z ds ds' e (one f u fs fs' g (one h v hs hs' i (one j k js js' l (one m o ms ms' n' (one pp t pps pps' bb none))))))))) =
      let few = is.1 in
      let few' = is.2 in
      let few'' = is.3 in
      let e1 = read_as text y seed c is.0 in
      let e2 = read_as text u late g (omega (arith, few)) in
      let e3 = read_as text k again l (omega (arith, few')) in
      let e4 = read_as text t hurry bb (omega (arith, few'')) in
      net_says_by (nets.Seeded y u k t) (net_value.Seeded seed late again hurry) w
      (lexeme symbol.Seeded x ∷ lexeme symbol.Number y ∷ lexeme symbol.Late z ∷ lexeme symbol.Number u ∷ lexeme symbol.Repeat v ∷ lexeme symbol.Number k ∷ lexeme symbol.Hurry o ∷ lexeme symbol.Number t ∷ []) s
      (inr (into_derived (λ x. nets.Seeded x.0 x.1.0 x.1.1.0 x.1.1.1)
      (Both (grammar.behind symbol.Seeded grammar.number) (Both (grammar.behind symbol.Late grammar.number) (Both (grammar.behind symbol.Repeat grammar.number) (grammar.behind symbol.Hurry grammar.number))))
      (lexeme symbol.Seeded x ∷ lexeme symbol.Number y ∷ lexeme symbol.Late z ∷ lexeme symbol.Number u ∷ lexeme symbol.Repeat v ∷ lexeme symbol.Number k ∷ lexeme symbol.Hurry o ∷ lexeme symbol.Number t ∷ []) (y, (u, (k, t)))
      (both_derived (grammar.behind symbol.Seeded grammar.number) (Both (grammar.behind symbol.Late grammar.number) (Both (grammar.behind symbol.Repeat grammar.number) (grammar.behind symbol.Hurry grammar.number)))
      (lexeme symbol.Seeded x ∷ lexeme symbol.Number y ∷ []) (lexeme symbol.Late z ∷ lexeme symbol.Number u ∷ lexeme symbol.Repeat v ∷ lexeme symbol.Number k ∷ lexeme symbol.Hurry o ∷ lexeme symbol.Number t ∷ []) y (u, (k, t))
      (counted_derived symbol.Seeded x y refl)
      (both_derived (grammar.behind symbol.Late grammar.number) (Both (grammar.behind symbol.Repeat grammar.number) (grammar.behind symbol.Hurry grammar.number))
      (lexeme symbol.Late z ∷ lexeme symbol.Number u ∷ []) (lexeme symbol.Repeat v ∷ lexeme symbol.Number k ∷ lexeme symbol.Hurry o ∷ lexeme symbol.Number t ∷ []) u (k, t)
      (counted_derived symbol.Late z u refl)
      (both_derived (grammar.behind symbol.Repeat grammar.number) (grammar.behind symbol.Hurry grammar.number) (lexeme symbol.Repeat v ∷ lexeme symbol.Number k ∷ []) (lexeme symbol.Hurry o ∷ lexeme symbol.Number t ∷ []) k t
      (counted_derived symbol.Repeat v k refl) (counted_derived symbol.Hurry o t refl))))))
      (seeded_as e1 e2 e3 e4)
      (pass (not (nat_le (number_of text u) GREATEST_PERCENTAGE)) u fault.NetRange (percentage_check text k ∷ percentage_check text t ∷ []) (percentage u late is.1 e2)
      (pass (not (nat_le (number_of text k) GREATEST_PERCENTAGE)) k fault.NetRange (percentage_check text t ∷ []) (percentage k again is.2 e3)
      (pass (not (nat_le (number_of text t) GREATEST_PERCENTAGE)) t fault.NetRange [] (percentage t hurry is.3 e4) refl)))
      (λ r. (1, refl))
    where
      counted_derived : (y : Symbol) (w t : Token) → is_symbol y y ≡ true → Derives (grammar.behind y grammar.number) (lexeme y w ∷ lexeme symbol.Number t ∷ []) t
      counted_derived y w t same = behind_derived y grammar.number w (lexeme symbol.Number t ∷ []) t same (token_derived symbol.Number t refl)

      seeded_as : {a b c d a' b' c' d' : ℕ} → a ≡ a' → b ≡ b' → c ≡ c' → d ≡ d' → net_value.Seeded a b c d ≡ net_value.Seeded a' b' c' d'
      seeded_as e1 e2 e3 e4 = cc

  -- an entry of a list
  record EntryRead (ls : List Lexeme) (e : PlanWhat) : Type 0 where
    raw : RawEntry
    derived : Derives grammar.entry ls raw
    same : entry_of text raw ≡ e
    passes : first_failing (entry_checks text raw) ≡ None
    counts : (d r : ℕ) → (m : ℕ) × (counted d r ls ≡ Ok (d, m))

  calls_read : (c : Calls) (y : Symbol) (w t : Token) (n : ℕ) (e : PlanWhat) → grammar.calls_of y ≡ Some c → calls_by c n ≡ e → IsCalls n → token_bytes text t ≡ decimal n →
      ((d r : ℕ) → (m : ℕ) × (counted d r (lexeme y w ∷ lexeme symbol.Number t ∷ []) ≡ Ok (d, m))) → EntryRead (lexeme y w ∷ lexeme symbol.Number t ∷ []) e
  unfolding grammar.entry
  calls_read c y w t n e chosen is few bytes counts =
      let most = few.1 in
      let same = read_as text t n bytes (omega (arith, most)) in
      record {
        raw = entries.Calls c (Some t);
        derived = inl (into_derived (λ x. entries.Calls x.0.0 x.1) (Both (One grammar.calls_of symbol.Wait) (grammar.optional grammar.number)) (lexeme y w ∷ lexeme symbol.Number t ∷ []) ((c, w), Some t)
            (both_derived (One grammar.calls_of symbol.Wait) (grammar.optional grammar.number) (lexeme y w ∷ []) (lexeme symbol.Number t ∷ []) (c, w) (Some t) (one_derived grammar.calls_of symbol.Wait y w c chosen)
            (inl (into_derived Some grammar.number (lexeme symbol.Number t ∷ []) t (token_derived symbol.Number t refl)))));
        same = ap (calls_by c) same ∙ is;
        passes = pass (not (between 1 MOST_CALLS (number_of text t))) t fault.PlanRange [] (ap (λ (i : ℕ). not (between 1 MOST_CALLS i)) same ∙ within n MOST_CALLS few.0 few.1) refl;
        counts = counts;
      }

  -- an entry of a listed net
  IsEntry : PlanWhat → Type 0
  IsEntry (what.At now p) = ⊥
  IsEntry e = IsPlanned net_value.Listed e

  entry_read : (e : PlanWhat) (ls : List Lexeme) → IsEntry e → Lexed text (entry_pieces e) ls → EntryRead ls e
  unfolding words grammar.entry IsEntry
  entry_read (what.At now p) ls is l = absurd is
  entry_read (what.Wait n) zs is (one p w ps ps' b (one q t qs qs' b' none)) = calls_read calls.Wait symbol.Wait w t n (what.Wait n) refl refl is.1 b' (λ d r. (1, refl))
  entry_read (what.Next n) zs is (one p w ps ps' b (one q t qs qs' b' none)) = calls_read calls.Next symbol.Next w t n (what.Next n) refl refl is.1 b' (λ d r. (1, refl))
  entry_read (what.Newest n) zs is (one p w ps ps' b (one q t qs qs' b' none)) = calls_read calls.Newest symbol.Newest w t n (what.Newest n) refl refl is.1 b' (λ d r. (1, refl))
  entry_read (what.One p) ls is l =
      let r = pick_read text p ls is.1 l in
      record { raw = entries.One r.raw; derived = inr (into_derived entries.One grammar.pick ls r.raw r.derived); same = ap what.One r.same; passes = r.passes; counts = r.counts }

  module _ (base : Script) (st : Stated) (few : HasFewNodes text base) where
    -- what is said where these are the plan items
    abbrev pub with_plan : List PlanItem → Said
    with_plan items = record { script = record base { plan = items }; stated = st }

    at_says : (before : List PlanItem) (n : NodeId) (now : ℕ) (p : Pick) (w t : Token) (ls front back : List Lexeme) → ls ≡ front ++ back → is_listed base.net ≡ false → number_of text t ≡ now → NodeRead text base front n → PickRead text back p →
        Says text (Many grammar.plan) (lexeme symbol.At w ∷ lexeme symbol.Number t ∷ ls) (with_plan before) (with_plan (before ++ record { node = n; what = what.At now p } ∷ []))
    unfolding grammar.plan grammar.at_item
    at_says before n now p w t ls front back split fair same m k =
        let item : PlanItem = record { node = n; what = what.At now p } in
        let k' = k.counts 0 1 in
        let whole = inl (into_derived (λ x. At x.0 x.1.0 x.1.1.0 x.1.1.1) (Both (grammar.token symbol.At) (Both grammar.number (Both grammar.node grammar.pick))) (lexeme symbol.At w ∷ lexeme symbol.Number t ∷ (front ++ back)) (w, (t, (m.raw, k.raw)))
        (both_derived (grammar.token symbol.At) (Both grammar.number (Both grammar.node grammar.pick)) (lexeme symbol.At w ∷ []) (lexeme symbol.Number t ∷ (front ++ back)) w (t, (m.raw, k.raw)) (token_derived symbol.At w refl)
        (both_derived grammar.number (Both grammar.node grammar.pick) (lexeme symbol.Number t ∷ []) (front ++ back) t (m.raw, k.raw) (token_derived symbol.Number t refl)
        (both_derived grammar.node grammar.pick front back m.raw k.raw m.derived k.derived)))) in
        says_one text grammar.plan (lexeme symbol.At w ∷ lexeme symbol.Number t ∷ ls) (with_plan before) (with_plan (before ++ item ∷ [])) (At w t m.raw k.raw)
        (subst (λ (ms : List Lexeme). Derives grammar.plan (lexeme symbol.At w ∷ lexeme symbol.Number t ∷ ms) (At w t m.raw k.raw)) (sym split) whole)
        (none_first (node_check text (record base { plan = before }) m.raw ∷ []) (check (is_listed base.net) w fault.WrongNet ∷ pick_checks text k.raw) (m.exists before) ∙ pass (is_listed base.net) w fault.WrongNet (pick_checks text k.raw) fair k.passes)
        (ap (λ (i : ℕ). with_plan (before ++ record { node = node_of text m.raw; what = what.At i (pick_of text k.raw) } ∷ [])) same
        ∙ ap (λ (x : NodeId). with_plan (before ++ record { node = x; what = what.At now (pick_of text k.raw) } ∷ [])) m.same ∙ ap (λ (x : Pick). with_plan (before ++ record { node = n; what = what.At now x } ∷ [])) k.same)
        (λ r. (k'.0, ap (counted 0 1) split ∙ counted-append front back 0 1 ∙ ap (λ z. and_then z (λ c. counted c.0 c.1 back)) (m.counts 0 1) ∙ k'.1))

    list_says : (before : List PlanItem) (n : NodeId) (e : PlanWhat) (w x y : Token) (ls front back : List Lexeme) → ls ≡ front ++ lexeme symbol.OpenBlock x ∷ (back ++ lexeme symbol.CloseBlock y ∷ []) → is_listed base.net ≡ true →
        NodeRead text base front n → EntryRead back e → Says text (Many grammar.plan) (lexeme symbol.List w ∷ ls) (with_plan before) (with_plan (before ++ record { node = n; what = e } ∷ []))
    unfolding grammar.plan grammar.list_item
    list_says before n e w x y ls front back split listed m k =
        let item : PlanItem = record { node = n; what = e } in
        let k' = k.counts 1 0 in
        let tail = lexeme symbol.OpenBlock x ∷ (back ++ lexeme symbol.CloseBlock y ∷ []) in
        let inside = behind_derived symbol.OpenBlock (Listed grammar.entry) x (back ++ lexeme symbol.CloseBlock y ∷ []) (k.raw ∷ []) refl (last_one y back k.raw k.derived) in
        let whole = inr (into_derived (λ x. Entries x.0 x.1.0 x.1.1) (Both (grammar.token symbol.List) (Both grammar.node (grammar.behind symbol.OpenBlock (Listed grammar.entry)))) (lexeme symbol.List w ∷ (front ++ tail)) (w, (m.raw, k.raw ∷ []))
        (both_derived (grammar.token symbol.List) (Both grammar.node (grammar.behind symbol.OpenBlock (Listed grammar.entry))) (lexeme symbol.List w ∷ []) (front ++ tail) w (m.raw, k.raw ∷ []) (token_derived symbol.List w refl)
        (both_derived grammar.node (grammar.behind symbol.OpenBlock (Listed grammar.entry)) front tail m.raw (k.raw ∷ []) m.derived inside))) in
        let entry_passes = none_first (entry_checks text k.raw) [] k.passes in
        says_one text grammar.plan (lexeme symbol.List w ∷ ls) (with_plan before) (with_plan (before ++ item ∷ [])) (Entries w m.raw (k.raw ∷ []))
        (subst (λ (ms : List Lexeme). Derives grammar.plan (lexeme symbol.List w ∷ ms) (Entries w m.raw (k.raw ∷ []))) (sym split) whole)
        (none_first (node_check text (record base { plan = before }) m.raw ∷ []) (check (not (is_listed base.net)) w fault.WrongNet ∷ (entry_checks text k.raw ++ [])) (m.exists before)
        ∙ pass (not (is_listed base.net)) w fault.WrongNet (entry_checks text k.raw ++ []) (ap not listed) entry_passes)
        (ap (λ (z : NodeId). with_plan (before ++ record { node = z; what = entry_of text k.raw } ∷ [])) m.same ∙ ap (λ (z : PlanWhat). with_plan (before ++ record { node = n; what = z } ∷ [])) k.same)
        (λ r. (
          0,
          ap (counted 0 0) split ∙ counted-append front tail 0 0 ∙ ap (λ z. and_then z (λ c. counted c.0 c.1 tail)) (m.counts 0 0)
              ∙ counted-append back (lexeme symbol.CloseBlock y ∷ []) 1 0 ∙ ap (λ z. and_then z (λ c. counted c.0 c.1 (lexeme symbol.CloseBlock y ∷ []))) k'.1,
        ))

    entry_says : (before : List PlanItem) (n : NodeId) (e : PlanWhat) (ls : List Lexeme) → IsEntry e → is_listed base.net ≡ true → ((ms : List Lexeme) → Lexed text (node_pieces n) ms → NodeRead text base ms n) → Lexed text (entry_line n e) ls →
        Says text (Many grammar.plan) ls (with_plan before) (with_plan (before ++ record { node = n; what = e } ∷ []))
    unfolding words marks
    entry_says before n e zs is listed node (one p w ps ls b l) = by_parts (parts text (node_pieces n) (in_braces (entry_pieces e)) l)
      where
        by_last : (front back inner last : List Lexeme) (x : Token) → ls ≡ front ++ lexeme symbol.OpenBlock x ∷ back → back ≡ inner ++ last → Lexed text (node_pieces n) front → Lexed text (entry_pieces e) inner → Lexed text (Mark (codes "}") ∷ []) last →
            Says text (Many grammar.plan) (lexeme symbol.List w ∷ ls) (with_plan before) (with_plan (before ++ record { node = n; what = e } ∷ []))
        by_last front back inner last x split part first second (one q y qs qs' c none) =
            list_says before n e w x y ls front inner (split ∙ ap (λ (ms : List Lexeme). front ++ lexeme symbol.OpenBlock x ∷ ms) part) listed (node front first) (entry_read e inner is second)

        by_back : (front back : List Lexeme) → ls ≡ front ++ back → Lexed text (node_pieces n) front → Lexed text (in_braces (entry_pieces e)) back → Says text (Many grammar.plan) (lexeme symbol.List w ∷ ls) (with_plan before) (with_plan (before ++ record { node = n; what = e } ∷ []))
        by_back front back split first (one q x qs qs' c rest) =
            let r = parts text (entry_pieces e) (Mark (codes "}") ∷ []) rest in
            by_last front qs' r.front r.back x split r.split first r.first r.second

        by_parts : Parts text (node_pieces n) (in_braces (entry_pieces e)) ls → Says text (Many grammar.plan) (lexeme symbol.List w ∷ ls) (with_plan before) (with_plan (before ++ record { node = n; what = e } ∷ []))
        by_parts r = by_back r.front r.back r.split r.first r.second

    item_says : (before : List PlanItem) (item : PlanItem) (ls : List Lexeme) → IsPlanItem base item → Lexed text (plan_line item) ls → Says text (Many grammar.plan) ls (with_plan before) (with_plan (before ++ item ∷ []))
    unfolding words IsEntry
    item_says before item ls is l = by_what item.node item.what is.says (λ ms m. node_read text base item.node ms few is.node m) ls l
      where
        by_what : (n : NodeId) (e : PlanWhat) → IsPlanned base.net e → ((ms : List Lexeme) → Lexed text (node_pieces n) ms → NodeRead text base ms n) → (ls : List Lexeme) → Lexed text (plan_line (record { node = n; what = e })) ls →
            Says text (Many grammar.plan) ls (with_plan before) (with_plan (before ++ record { node = n; what = e } ∷ []))
        by_what n (what.At now p) is node zs (one q w qs qs' b (one r t rs rest b' l)) =
            let x = parts text (node_pieces n) (pick_pieces p) l in
            at_says before n now p w t rest x.front x.back x.split is.0 (read_as text t now b' is.1) (node x.front x.first) (pick_read text p x.back is.2 x.second)
        by_what n (what.Wait k) is node ls l = entry_says before n (what.Wait k) ls (refl, is.1) is.0 node l
        by_what n (what.Next k) is node ls l = entry_says before n (what.Next k) ls (refl, is.1) is.0 node l
        by_what n (what.Newest k) is node ls l = entry_says before n (what.Newest k) ls (refl, is.1) is.0 node l
        by_what n (what.One p) is node ls l = entry_says before n (what.One p) ls (refl, is.1) is.0 node l

    pub plan_says : (items before : List PlanItem) (ls : List Lexeme) → AllByRecursion (IsPlanItem base) items → Lexed text (joined (map plan_line items)) ls → Says text (Many grammar.plan) ls (with_plan before) (with_plan (before ++ items))
    plan_says [] before zs each none = subst (λ (xs : List PlanItem). Says text (Many grammar.plan) [] (with_plan before) (with_plan xs)) (sym (append-nil before)) (says_none text grammar.plan (with_plan before))
    plan_says (i ∷ is) before ls each l =
        let x = parts text (plan_line i) (joined (map plan_line is)) l in
        let more : before ++ i ∷ [] ++ is ≡ before ++ (i ∷ is) = append_assoc before (i ∷ []) is in
        let rest = plan_says is (before ++ i ∷ []) x.back each.1 x.second in
        subst (λ (ms : List Lexeme). Says text (Many grammar.plan) ms (with_plan before) (with_plan (before ++ i ∷ is))) (sym x.split)
        (subst (λ (xs : List PlanItem). Says text (Many grammar.plan) (x.front ++ x.back) (with_plan before) (with_plan xs)) more
        (says_both text grammar.plan x.front x.back (with_plan before) (with_plan (before ++ i ∷ [])) (with_plan (before ++ i ∷ [] ++ is)) (item_says before i x.front each.0 x.first) rest))
