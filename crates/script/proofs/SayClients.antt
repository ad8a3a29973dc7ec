-- What the lines of clients say.
use Rattle.std.proofs.Common.{◌≡◌, ℕ, zero, suc, ◌+◌, ◌<◌, ◌≤◌, ◌==◌, ◌||◌, nat_le, true, false, not, List, [], ◌∷◌, ◌++◌, map, length, Some, None, Ok, refl, sym, ap, ◌∙◌, subst, arith, inl, inr}
use Rattle.std.specs.Prelude.{codes}
use Rattle.std.specs.List.{AllByRecursion, IsDistinct}
use Rattle.std.specs.Str.{bytes_eq}
use Rattle.std.proofs.lemmas.Bool.Decides.{nat_tests}
use Rattle.std.proofs.lemmas.List.{append_assoc, append-nil, length-append}
use Rattle.txn_text.specs.declared.faults.FaultKind.TheVariants as fault
use Rattle.txn_text.specs.declared.kinds.Token.{Token}
use Rattle.txn_text.specs.Tokens.{token_bytes}
use Rattle.txn_parse.specs.declared.symbols.Symbol.TheVariants as symbol
use Rattle.txn_parse.specs.Symbols.{words, marks, Lexeme, lexeme}
use Rattle.txn_parse.specs.Counts.{counted, and_then}
use Rattle.txn_parse.specs.Binding.{first_failing, Names, is_known, place, number_of}
use Rattle.txn_parse.proofs.CountsLemmas.{counted-append}
use Rattle.txn_parse.proofs.NamesLemmas.{none_first}
use Rattle.txn_print.specs.Piece.{Symbol as Mark}
use Rattle.txn_print.proofs.LexedLemmas.{Lexed, none, one, Parts, parts}
use Rattle.txn_print.proofs.LinesLaid.{joined}
use Rattle.txn_print.proofs.PlacesLemmas.{place_of, known_here}
use Rattle.txn_print.proofs.ReadTerms.{number_back, name_spelled}
use Rattle.script.specs.declared.limits.TheConstants.{MOST_CLIENTS, MOST_TRANSACTIONS, LATEST_START}
use Rattle.script.specs.declared.items.RawTxn.{RawTxn}
use Rattle.script.specs.declared.items.Stated.{Stated}
use Rattle.script.specs.declared.setup.Txn.{Txn}
use Rattle.script.specs.Items.{Client}
use Rattle.script.specs.Rules.{Both, Many, IsListed, last_one, listed_more, Derives}
use Rattle.script.specs.Grammar.{token, behind, optional, number, name, txn, txns, client}
use Rattle.script.specs.Meaning.{Script, Said, prog_names, txn_of}
use Rattle.script.specs.Checks.{program_checks, room_checks, number_checks, at_most, start_checks}
use Rattle.script.specs.Canonical.{txn_pieces, more_txns, first_txns, client_line, client_lines}
use Rattle.script.specs.Sayable.{IsTxn, IsClient}
use Rattle.script.proofs.SayLemmas.{Says, into_derived, both_derived, token_derived, behind_derived, IsCalm, says_none, says_one, says_both}
use Rattle.script.proofs.SaySettings.{pass, none_of}

module _ (text : List ℕ) (programs : Names) (distinct : IsDistinct bytes_eq programs) where
  -- a transaction
  record TxnRead (ls : List Lexeme) (t : Txn) : Type 0 where
    raw : RawTxn
    derived : Derives txn ls raw
    same : txn_of text programs raw ≡ t
    known : first_failing (program_checks text programs (raw ∷ [])) ≡ None
    starts : first_failing (number_checks text (at_most LATEST_START) fault.AtRange raw.at) ≡ None
    counts : counted 1 0 ls ≡ Ok (1, 1)

  txn_read : (t : Txn) (ls : List Lexeme) → IsTxn (length programs) t → Lexed text (txn_pieces programs t) ls → TxnRead ls t
  unfolding words txn
  txn_read t zs is (one p n ps ps' b (one q w qs qs' b' (one r a rs rs' b'' none))) =
      let raw : RawTxn = record { name = n; at = Some a } in
      let spelled = name_spelled text programs t.prog n b in
      let start = is.start in
      let here = ap (place programs) spelled ∙ place_of programs distinct t.prog is.known in
      let late = number_back text a t.at (omega (arith, start)) b'' in
      record {
        raw = raw;
        derived = into_derived (λ x. record { name = x.0; at = x.1 }) (Both name (optional (behind symbol.At number))) (lexeme symbol.Name n ∷ lexeme symbol.At w ∷ lexeme symbol.Number a ∷ []) (n, Some a)
            (both_derived name (optional (behind symbol.At number)) (lexeme symbol.Name n ∷ []) (lexeme symbol.At w ∷ lexeme symbol.Number a ∷ []) n (Some a) (token_derived symbol.Name n refl)
            (inl (into_derived Some (behind symbol.At number) (lexeme symbol.At w ∷ lexeme symbol.Number a ∷ []) a (behind_derived symbol.At number w (lexeme symbol.Number a ∷ []) a refl (token_derived symbol.Number a refl)))));
        same = ap (λ (m : ℕ). let x : Txn = record { prog = m; at = number_of text a } in x) here ∙ ap (λ (m : ℕ). let x : Txn = record { prog = t.prog; at = m } in x) late;
        known = pass (not (is_known programs (token_bytes text n))) n fault.UnknownProgram [] (none_of (is_known programs (token_bytes text n)) (ap (is_known programs) spelled ∙ known_here programs distinct t.prog is.known)) refl;
        starts = pass (not (nat_le (number_of text a) LATEST_START)) a fault.AtRange [] (none_of (nat_le (number_of text a) LATEST_START) (ap (λ (m : ℕ). nat_le m LATEST_START) late ∙ within t.at start)) refl;
        counts = refl;
      }
    where
      within : (n : ℕ) → n ≤ LATEST_START → nat_le n LATEST_START ≡ true
      within n few = grind (arith, nat_tests)

  -- what is told of transactions, and what stands behind one up to the closing brace
  record TxnsTold (ts : List Txn) : Type 0 where
    raws : List RawTxn
    same : map (txn_of text programs) raws ≡ ts
    known : first_failing (program_checks text programs raws) ≡ None
    starts : first_failing (start_checks text raws) ≡ None
    many : length raws ≡ length ts

  record MoreRead (ls : List Lexeme) (ts : List Txn) : Type 0 where
    told : TxnsTold ts
    derive : (y : Token) (ms : List Lexeme) (raw : RawTxn) → Derives txn ms raw → IsListed (Derives txn) (ms ++ (ls ++ lexeme symbol.CloseBlock y ∷ [])) (raw ∷ told.raws)
    calm : IsCalm 1 ls

  told_then : (t : Txn) (ts : List Txn) (ls : List Lexeme) → TxnRead ls t → TxnsTold ts → TxnsTold (t ∷ ts)
  told_then t ts ls r o =
      let count = o.many in
      record {
        raws = r.raw ∷ o.raws;
        same = ap (λ (x : Txn). x ∷ map (txn_of text programs) o.raws) r.same ∙ ap (λ (xs : List Txn). t ∷ xs) o.same;
        known = none_first (program_checks text programs (r.raw ∷ [])) (program_checks text programs o.raws) r.known ∙ o.known;
        starts = none_first (number_checks text (at_most LATEST_START) fault.AtRange r.raw.at) (start_checks text o.raws) r.starts ∙ o.starts;
        many = omega (arith, count);
      }

  more_read : (ts : List Txn) (ls : List Lexeme) → AllByRecursion (IsTxn (length programs)) ts → Lexed text (more_txns programs ts) ls → MoreRead ls ts
  unfolding words marks told_then
  more_read [] zs each none = record {
    told = record { raws = []; same = refl; known = refl; starts = refl; many = refl };
    derive = λ y ms raw d. last_one y ms raw d;
    calm = λ n. (n, refl);
  }
  more_read (t ∷ ts) zs each (one p s ps ls b l) =
      let x = parts text (txn_pieces programs t) (more_txns programs ts) l in
      let r = txn_read t x.front each.0 x.first in
      let o = more_read ts x.back each.1 x.second in
      record {
        told = told_then t ts x.front r o.told;
        derive = λ y ms raw d. subst (λ (ns : List Lexeme). IsListed (Derives txn) (ms ++ lexeme symbol.Semicolon s ∷ ns) (raw ∷ r.raw ∷ o.told.raws))
            (sym (ap (λ (ns : List Lexeme). ns ++ lexeme symbol.CloseBlock y ∷ []) x.split ∙ append_assoc x.front x.back (lexeme symbol.CloseBlock y ∷ [])))
            (listed_more s ms (x.front ++ (x.back ++ lexeme symbol.CloseBlock y ∷ [])) raw (r.raw ∷ o.told.raws) d (o.derive y x.front r.raw r.derived));
        calm = λ n. let c = o.calm 1 in
            (c.0, ap (counted 1 0) x.split ∙ counted-append x.front x.back 1 0 ∙ ap (λ k. and_then k (λ c. counted c.0 c.1 x.back)) r.counts ∙ c.1);
      }

  -- the transactions of a client, behind the opening brace
  record ListRead (ls : List Lexeme) (ts : List Txn) : Type 0 where
    told : TxnsTold ts
    derived : Derives txns ls told.raws
    calm : (m : ℕ) × (counted 1 0 ls ≡ Ok (0, m))

  list_read : (ts : List Txn) (ls : List Lexeme) → AllByRecursion (IsTxn (length programs)) ts → Lexed text (first_txns programs ts ++ Mark (codes "}") ∷ []) ls → ListRead ls ts
  unfolding words marks txns told_then
  list_read [] zs each (one p y ps ls b none) = record {
    told = record { raws = []; same = refl; known = refl; starts = refl; many = refl };
    derived = inl (into_derived (λ x. []) (token symbol.CloseBlock) (lexeme symbol.CloseBlock y ∷ []) y (token_derived symbol.CloseBlock y refl));
    calm = (0, refl);
  }
  list_read (t ∷ ts) zs each l = by_parts (parts text (txn_pieces programs t ++ more_txns programs ts) (Mark (codes "}") ∷ []) l)
    where
      by_back : (front back : List Lexeme) → zs ≡ front ++ back → Lexed text (txn_pieces programs t ++ more_txns programs ts) front → Lexed text (Mark (codes "}") ∷ []) back → ListRead zs (t ∷ ts)
      by_back front back split within (one p y ps ls b none) =
          let x = parts text (txn_pieces programs t) (more_txns programs ts) within in
          let r = txn_read t x.front each.0 x.first in
          let o = more_read ts x.back each.1 x.second in
          let whole : zs ≡ x.front ++ (x.back ++ lexeme symbol.CloseBlock y ∷ []) =
          split ∙ ap (λ (ns : List Lexeme). ns ++ lexeme symbol.CloseBlock y ∷ []) x.split ∙ append_assoc x.front x.back (lexeme symbol.CloseBlock y ∷ []) in
          let c = o.calm 1 in
          record {
            told = told_then t ts x.front r o.told;
            derived = inr (subst (λ (ns : List Lexeme). IsListed (Derives txn) ns (r.raw ∷ o.told.raws)) (sym whole) (o.derive y x.front r.raw r.derived));
            calm = (
              0,
              ap (counted 1 0) whole ∙ counted-append x.front (x.back ++ lexeme symbol.CloseBlock y ∷ []) 1 0
                  ∙ ap (λ k. and_then k (λ c. counted c.0 c.1 (x.back ++ lexeme symbol.CloseBlock y ∷ []))) r.counts
                  ∙ counted-append x.back (lexeme symbol.CloseBlock y ∷ []) 1 1 ∙ ap (λ k. and_then k (λ c. counted c.0 c.1 (lexeme symbol.CloseBlock y ∷ []))) c.1,
            );
          }

      by_parts : Parts text (txn_pieces programs t ++ more_txns programs ts) (Mark (codes "}") ∷ []) zs → ListRead zs (t ∷ ts)
      by_parts p = by_back p.front p.back p.split p.first p.second

  room_left : (room : ℕ) (ts : List RawTxn) → length ts ≤ room → first_failing (room_checks room ts) ≡ None
  room_left room [] few = refl
  room_left zero (t ∷ ts) few = absurd (let e : ⊥ = omega (arith, few) in e)
  room_left (suc room) (t ∷ ts) few = room_left room ts (omega (arith, few))

  module _ (base : Script) (st : Stated) (names_are : prog_names base ≡ programs) where
    -- what is said where these are the clients
    abbrev pub with_clients : List (List Txn) → Said
    with_clients cs = record { script = record base { clients = cs }; stated = st }

    client_derived : (w k x : Token) (ls : List Lexeme) (raws : List RawTxn) → Derives txns ls raws → Derives client (lexeme symbol.Client w ∷ lexeme symbol.Number k ∷ lexeme symbol.OpenBlock x ∷ ls) (Client w k raws)
    unfolding client
    client_derived w k x ls raws d =
        into_derived (λ x. Client x.0 x.1.0 x.1.1) (Both (token symbol.Client) (Both number (behind symbol.OpenBlock txns))) (lexeme symbol.Client w ∷ lexeme symbol.Number k ∷ lexeme symbol.OpenBlock x ∷ ls) (w, (k, raws))
        (both_derived (token symbol.Client) (Both number (behind symbol.OpenBlock txns)) (lexeme symbol.Client w ∷ []) (lexeme symbol.Number k ∷ lexeme symbol.OpenBlock x ∷ ls) w (k, raws) (token_derived symbol.Client w refl)
        (both_derived number (behind symbol.OpenBlock txns) (lexeme symbol.Number k ∷ []) (lexeme symbol.OpenBlock x ∷ ls) k raws (token_derived symbol.Number k refl) (behind_derived symbol.OpenBlock txns x ls raws refl d)))

    order_holds : (n many : ℕ) → n ≡ many + 1 → many < MOST_CLIENTS → (not (n == many + 1) || nat_le MOST_CLIENTS many) ≡ false
    order_holds n many same few = grind (arith, nat_tests)

    client_says : (before : List (List Txn)) (ts : List Txn) (ls : List Lexeme) → IsClient (length programs) ts → length before < MOST_CLIENTS → Lexed text (client_line programs (length before + 1) ts) ls →
        Says text (Many client) ls (with_clients before) (with_clients (before ++ ts ∷ []))
    unfolding words marks
    client_says before ts zs is few (one p w ps ps' b (one q k qs qs' b' (one r x rs ls b'' l))) =
        let o = list_read ts ls is.each l in
        let raws = o.told.raws in
        let many = o.told.many in
        let room = is.few in
        let order = order_holds (number_of text k) (length before) (number_back text k (length before + 1) (omega (arith, few)) b') few in
        let c = o.calm in
        says_one text client (lexeme symbol.Client w ∷ lexeme symbol.Number k ∷ lexeme symbol.OpenBlock x ∷ ls) (with_clients before) (with_clients (before ++ ts ∷ [])) (Client w k raws)
        (client_derived w k x ls raws o.derived)
        (pass (not (number_of text k == length before + 1) || nat_le MOST_CLIENTS (length before)) w fault.ClientOrder
        (program_checks text (prog_names base) raws ++ (room_checks MOST_TRANSACTIONS raws ++ start_checks text raws)) order
        (none_first (program_checks text (prog_names base) raws) (room_checks MOST_TRANSACTIONS raws ++ start_checks text raws) (ap (λ (ns : Names). first_failing (program_checks text ns raws)) names_are ∙ o.told.known)
        ∙ none_first (room_checks MOST_TRANSACTIONS raws) (start_checks text raws) (room_left MOST_TRANSACTIONS raws (omega (arith, many, room))) ∙ o.told.starts))
        (ap (λ (xs : List Txn). with_clients (before ++ xs ∷ [])) (ap (λ (ns : Names). map (txn_of text ns) raws) names_are ∙ o.told.same)) (λ n. c)

    pub clients_say : (cs before : List (List Txn)) (ls : List Lexeme) → AllByRecursion (IsClient (length programs)) cs → length (before ++ cs) ≤ MOST_CLIENTS → Lexed text (joined (client_lines programs (length before + 1) cs)) ls →
        Says text (Many client) ls (with_clients before) (with_clients (before ++ cs))
    clients_say [] before zs each few none = subst (λ (xs : List (List Txn)). Says text (Many client) [] (with_clients before) (with_clients xs)) (sym (append-nil before)) (says_none text client (with_clients before))
    clients_say (c ∷ cs) before ls each few l =
        let x = parts text (client_line programs (length before + 1) c) (joined (client_lines programs (length before + 1 + 1) cs)) l in
        let len = length-append before (c ∷ cs) in
        let one' = length-append before (c ∷ []) in
        let more : before ++ c ∷ [] ++ cs ≡ before ++ (c ∷ cs) = append_assoc before (c ∷ []) cs in
        let head = client_says before c x.front each.0 (omega (arith, few, len)) x.first in
        let next : length before + 1 + 1 ≡ length (before ++ c ∷ []) + 1 = omega (arith, one') in
        let rest = clients_say cs (before ++ c ∷ []) x.back each.1 (subst (λ (xs : List (List Txn)). length xs ≤ MOST_CLIENTS) (sym more) few) (subst (λ (n : ℕ). Lexed text (joined (client_lines programs n cs)) x.back) next x.second) in
        subst (λ (ms : List Lexeme). Says text (Many client) ms (with_clients before) (with_clients (before ++ c ∷ cs))) (sym x.split)
        (subst (λ (xs : List (List Txn)). Says text (Many client) (x.front ++ x.back) (with_clients before) (with_clients xs)) more
        (says_both text client x.front x.back (with_clients before) (with_clients (before ++ c ∷ [])) (with_clients (before ++ c ∷ [] ++ cs)) head rest))
