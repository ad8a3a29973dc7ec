-- What is kept of the newest truncation tells what the definitions read of it, and each call keeps it so.
use Rattle.std.proofs.Common.{◌≡◌, ℕ, suc, Bool, true, false, cond, not, nat_le, nat_lt, List, [], ◌∷◌, ◌++◌, length, Option, Some, None, refl, ap}
use Rattle.std.proofs.Common.{sym, subst, ◌∙◌, arith}
use Rattle.std.specs.Prelude.{◌&&◌, ◌==◌, is_some}
use Rattle.std.specs.List.{list_any, list_all}
use Rattle.std.proofs.lemmas.Bool.Decides.{nat_tests}
use Rattle.std.proofs.lemmas.List.{append-nil}
use Rattle.protocol.specs.Words.{Version, Exec, NodeId, Warden, Envelope, Body, Fenced, Fence, Drops, BaseEntry, Kept, same_version}
use Rattle.protocol.specs.Quorums.{quorum}
use Rattle.protocol.specs.Client.Counting.{sender}
use Rattle.protocol.specs.Warden.State.{FencedAnswer, Truncation, WardenRules, WardenState, WardenTurn, decision_on, still}
use Rattle.protocol.specs.Warden.State.Parcel.{To_all}
use Rattle.protocol.specs.Warden.Base.{base_of}
use Rattle.protocol.specs.Warden.Recovery.{recovery_hears}
use Rattle.protocol.specs.Warden.Truncation.{with_truncations, to_recover, counted, with_fenced, take_fenced, recover_all, is_counted as counts_by}
use Rattle.protocol.specs.Warden.Truncation.{is_finished, drop_sent, finish, truncate}
use Rattle.protocol.specs.Warden.Step.{fenced_from, finished, warden_hears}
use Rattle.protocol.specs.World.Events.{to_all}
use Rattle.recovery.specs.Recoverer.{RecoveringWarden, Does}
use Rattle.recovery.specs.Laws.{turn_with}
use Rattle.recovery.proofs.KeepsTruncations.{keeps_truncations}
use Rattle.truncation.specs.declared.truncation.Truncation.{Truncation as Newest}
use Rattle.truncation.specs.Truncator.{TruncatingWarden, IsNewest, StandsFor, StandsAt, Steps, Turns, newest_of, is_counted, is_settled, with_answer}
use Rattle.truncation.specs.Truncator.{with_named}
use Rattle.truncation.proofs.RecoveringLemmas.{envelopes, sent_on, onto, recover_all_keeps}

-- the truncations before the newest
abbrev rest_of : List Truncation → List Truncation
rest_of [] = []
rest_of (t ∷ ts) = ts

-- a Fenced is taken at the newest truncation alone
abbrev taken_at : WardenRules → WardenTurn → Version → FencedAnswer → Truncation → List Truncation → WardenTurn
taken_at r u version a t ts =
    cond (not (counts_by r t version a.replica)) u
    (cond (nat_le (quorum r.replicas) (suc (length t.answers))) (recover_all r (with_fenced u t a ts) (to_recover (t.answers ++ a ∷ [])))
    (with_fenced u t a ts))

take_at_newest : (r : WardenRules) (u : WardenTurn) (version : Version) (a : FencedAnswer) (ts : List Truncation) → take_fenced r u version a ts
    ≡ taken_at r u version a (newest_of ts) (rest_of ts)
unfolding take_fenced
take_at_newest r u version a [] = refl
take_at_newest r u version a (t ∷ ts) = refl

-- the newest truncation alone is finished
abbrev finished_at : WardenRules → WardenTurn → Truncation → List Truncation → WardenTurn
finished_at r u t ts =
    cond (is_finished r u.state t)
    (record { state = with_truncations u.state (drop_sent t ∷ ts); sent = u.sent ++ To_all (Drops t.w (base_of t.w u.state t.answers)) ∷ [] }) u

finish_at_newest : (r : WardenRules) (u : WardenTurn) (ts : List Truncation) → finish r u ts ≡ finished_at r u (newest_of ts) (rest_of ts)
unfolding finish
finish_at_newest r u [] = refl
finish_at_newest r u (t ∷ ts) = refl

below : (n q : ℕ) → not (nat_le q n) ≡ nat_lt n q
below n q = grind (arith, nat_tests)

same_count : (d : Bool) (v : Bool) (n m q : ℕ) (b c : Bool) → (d ≡ false → n ≡ m) → (d ≡ false → b ≡ c) → (not d && (v && (not (nat_le q n) && not b)))
    ≡ ((not d && v) && (nat_lt m q && not c))
same_count true v n m q b c e f = refl
same_count false true n m q b c e f = ap (λ k. not (nat_le q k) && not b) (e refl) ∙ (ap (λ t. t && not b) (below m q) ∙ ap (λ t. nat_lt m q && not t) (f refl))
same_count false false n m q b c e f = refl

-- a Fenced counts as the definitions count it
pub counts_is : (r : WardenRules) (n : ℕ) (kept : Newest) (t : Truncation) (version : Version) (k : ℕ) → n ≡ r.replicas → IsNewest n kept t
    → is_counted n kept version k ≡ counts_by r t version k
counts_is r n kept t version k e p =
    ap (λ d. not d && (same_version version kept.w &&
    (not (nat_le (quorum n) (length kept.answers)) && not (list_any (λ (a : FencedAnswer). a.replica == k) kept.answers)))) p.dropped
    ∙ (ap (λ w. not t.dropped && (same_version version w &&
    (not (nat_le (quorum n) (length kept.answers)) && not (list_any (λ (a : FencedAnswer). a.replica == k) kept.answers)))) p.w
    ∙ (ap (λ m. not t.dropped && (same_version version t.w &&
    (not (nat_le (quorum m) (length kept.answers)) && not (list_any (λ (a : FencedAnswer). a.replica == k) kept.answers)))) e
    ∙ same_count t.dropped (same_version version t.w) (length kept.answers) (length t.answers) (quorum r.replicas) _ _ (λ d. ap length (p.answers d))
    (λ d. ap (list_any (λ (a : FencedAnswer). a.replica == k)) (p.answers d))))

same_end : (d : Bool) (q : ℕ) (f : Exec → Bool) (us bs : List FencedAnswer) (xs : List Exec) → (d ≡ false → us ≡ bs)
    → (d ≡ false → xs ≡ cond (nat_le q (length bs)) (to_recover bs) [])
    → (not d && (nat_le q (length us) && list_all f xs)) ≡ (not d && (nat_le q (length bs) && list_all f (to_recover bs)))
same_end true q f us bs xs e g = refl
same_end false q f us bs xs e g = ap (λ l. nat_le q (length l) && list_all f xs) (e refl)
    ∙ (ap (λ l. nat_le q (length bs) && list_all f l) (g refl) ∙ go (nat_le q (length bs)))
  where
    go : (b : Bool) → (b && list_all f (cond b (to_recover bs) [])) ≡ (b && list_all f (to_recover bs))
    go true = refl
    go false = refl

-- a truncation is settled as the definitions end it
pub settled_is : (r : WardenRules) (n : ℕ) (kept : Newest) (t : Truncation) (s s' : WardenState) → n ≡ r.replicas → IsNewest n kept t → s
    ≡ with_truncations s' []
    → is_settled n s kept ≡ is_finished r s' t
settled_is r n kept t s s' e p q =
    ap (λ (z : WardenState). is_settled n z kept) q
    ∙ (ap (λ d. not d && (nat_le (quorum n) (length kept.answers) && list_all (λ x. is_some (decision_on s' x)) kept.named)) p.dropped
    ∙ (same_end t.dropped (quorum n) (λ x. is_some (decision_on s' x)) kept.answers t.answers kept.named p.answers p.named
    ∙ ap (λ m. not t.dropped && (nat_le (quorum m) (length t.answers) && list_all (λ x. is_some (decision_on s' x)) (to_recover t.answers))) e))

and_first : (a b : Bool) → (a && b) ≡ true → a ≡ true
and_first true b e = refl
and_first false b e = e

and_second : (a b : Bool) → (a && b) ≡ true → b ≡ true
and_second true b e = e
and_second false b e = absurd cc

under_way : (d : Bool) (b : Bool) → (not d && b) ≡ true → d ≡ false
under_way true b e = absurd cc
under_way false b e = refl

longer : (us : List FencedAnswer) (a : FencedAnswer) → length (us ++ a ∷ []) ≡ suc (length us)
longer [] a = refl
longer (b ∷ us) a = ap suc (longer us a)

-- one answer more, and what a quorum names
pub counted_is : (n : ℕ) (kept : Newest) (t : Truncation) (version : Version) (a : FencedAnswer) → IsNewest n kept t → is_counted n kept version a.replica
    ≡ true
    → IsNewest n (with_named n (with_answer kept a)) (record { w = t.w; answers = t.answers ++ a ∷ []; dropped = false })
counted_is n kept t version a p c =
    let d : t.dropped ≡ false = sym p.dropped ∙ under_way kept.dropped _ c in
    let full : not (nat_le (quorum n) (length kept.answers))
    ≡ true = and_first _ _ (and_second (same_version version kept.w) _ (and_second (not kept.dropped) _ c)) in
    let none : kept.named ≡ [] = p.named d ∙
    (ap (λ l. cond (nat_le (quorum n) (length l)) (to_recover t.answers) []) (sym (p.answers d))
    ∙ empty (nat_le (quorum n) (length kept.answers)) full) in
    let more : kept.answers ++ a ∷ [] ≡ t.answers ++ a ∷ [] = ap (λ l. l ++ a ∷ []) (p.answers d) in
    go (nat_le (quorum n) (length (kept.answers ++ a ∷ []))) refl d none more
  where
    empty : (b : Bool) → not b ≡ true → cond b (to_recover t.answers) [] ≡ []
    empty true e = absurd cc
    empty false e = refl

    go : (b : Bool) → nat_le (quorum n) (length (kept.answers ++ a ∷ [])) ≡ b → t.dropped ≡ false → kept.named ≡ [] → kept.answers ++ a ∷ []
        ≡ t.answers ++ a ∷ []
        → IsNewest n (cond b (record (with_answer kept a) { named = to_recover (kept.answers ++ a ∷ []) }) (with_answer kept a))
        (record { w = t.w; answers = t.answers ++ a ∷ []; dropped = false })
    go true e d none more = record {
      w = p.w;
      dropped = p.dropped ∙ d;
      answers = λ z. more;
      named = λ z. ap to_recover more ∙ sym (ap (λ b. cond b (to_recover (t.answers ++ a ∷ [])) []) (ap (λ l. nat_le (quorum n) (length l)) (sym more) ∙ e));
    }
    go false e d none more = record {
      w = p.w;
      dropped = p.dropped ∙ d;
      answers = λ z. more;
      named = λ z. none ∙ sym (ap (λ b. cond b (to_recover (t.answers ++ a ∷ [])) []) (ap (λ l. nat_le (quorum n) (length l)) (sym more) ∙ e));
    }

-- a truncation under way stands in the list
as_many : (r : WardenRules) (ts : List Truncation) (version : Version) (k : ℕ) (new : Truncation) → counts_by r (newest_of ts) version k ≡ true → length ts
    ≡ length (new ∷ rest_of ts)
as_many r [] version k new e = absurd cc
as_many r (t ∷ ts) version k new e = refl

as_many_at_end : (r : WardenRules) (s : WardenState) (ts : List Truncation) (new : Truncation) → is_finished r s (newest_of ts) ≡ true → length ts
    ≡ length (new ∷ rest_of ts)
as_many_at_end r s [] new e = absurd cc
as_many_at_end r s (t ∷ ts) new e = refl

-- where nothing happens the two stand for the same
pub stays : (f : WardenRules → WardenTurn → WardenTurn) (t : TruncatingWarden) (rec : RecoveringWarden) (out : List Envelope) → rec.broken ≡ false
    → ((before : List Envelope) (u : WardenTurn) → StandsAt t rec before out u → f rec.rules u ≡ u) → Steps f t t rec rec out out
stays f t rec out e h = record { recoverer_whole = e; rules = refl; turn = λ before u at. subst (StandsAt t rec before out) (sym (h before u at)) at }

pub steps_as : (f g : WardenRules → WardenTurn → WardenTurn) (t t' : TruncatingWarden) (rec rec' : RecoveringWarden) (out out' : List Envelope)
    → Steps f t t' rec rec' out out'
    → ((before : List Envelope) (u : WardenTurn) → StandsAt t rec before out u → g rec.rules u ≡ f rec.rules u) → Steps g t t' rec rec' out out'
steps_as f g t t' rec rec' out out' p h =
    record {
      recoverer_whole = p.recoverer_whole;
      rules = p.rules;
      turn = λ before u at. subst (StandsAt t' rec' before out') (sym (h before u at)) (p.turn before u at);
    }

-- no Fenced comes from a node that is no replica
pub nobody_fenced : (r : WardenRules) (u : WardenTurn) (o : Option ℕ) (b : Body) → o ≡ None → fenced_from r u o b ≡ u
nobody_fenced r u o b e = ap (λ p. fenced_from r u p b) e

-- nothing else counts
pub other_fenced : (r : WardenRules) (u : WardenTurn) (o : Option ℕ) (b : Body)
    → ((w : Version) (base : List BaseEntry) (committed voted : List Kept) → b ≡ Fenced w base committed voted → ⊥) → fenced_from r u o b ≡ u
other_fenced r u None b h = refl
other_fenced r u (Some k) (Fenced w base committed voted) h = absurd (h w base committed voted refl)
other_fenced r u (Some k) _ h = refl

-- a Fenced that does not count changes nothing
pub ignored : (t : TruncatingWarden) (rec : RecoveringWarden) (before out : List Envelope) (u : WardenTurn) (version : Version) (a : FencedAnswer)
    → StandsAt t rec before out u
    → is_counted t.replicas t.newest version a.replica ≡ false → take_fenced rec.rules u version a u.state.truncations ≡ u
ignored t rec before out u version a at e =
    take_at_newest rec.rules u version a u.state.truncations
    ∙ ap (λ c. cond (not c) u (cond (nat_le (quorum rec.rules.replicas) (suc (length (newest_of u.state.truncations).answers)))
    (recover_all rec.rules (with_fenced u (newest_of u.state.truncations) a (rest_of u.state.truncations))
    (to_recover ((newest_of u.state.truncations).answers ++ a ∷ [])))
    (with_fenced u (newest_of u.state.truncations) a (rest_of u.state.truncations))))
    (sym (counts_is rec.rules t.replicas t.newest (newest_of u.state.truncations) version a.replica at.stands.replicas at.stands.newest) ∙ e)

recovers_when : (r : WardenRules) (u : WardenTurn) (c b : Bool) (xs : List Exec) → cond b (recover_all r u xs) u ≡ recover_all r u (cond b xs [])
recovers_when r u c true xs = refl
recovers_when r u c false xs = refl

-- a Fenced that counts, and the recoveries that the last of a quorum begins
pub takes : (t t' : TruncatingWarden) (rec rec' : RecoveringWarden) (out out' : List Envelope) (version : Version) (a : FencedAnswer)
    → is_counted t.replicas t.newest version a.replica ≡ true
    → t' ≡ record t { newest = with_named t.replicas (with_answer t.newest a) }
    → Does (recover_all rec.rules (still rec.state) t'.newest.named) rec rec' out out'
    → Steps (λ r u. take_fenced r u version a u.state.truncations) t t' rec rec' out out'
takes t t' rec rec' out out' version a c new d = record {
  recoverer_whole = d.still_whole;
  rules = d.rules;
  turn = λ before u at.
      let r = rec.rules in let ts = u.state.truncations in let top = newest_of ts in let ts' = counted top a (rest_of ts) in
      let counts : counts_by r top version a.replica ≡ true = sym (counts_is r t.replicas t.newest top version a.replica at.stands.replicas at.stands.newest)
      ∙ c in
      let newest : IsNewest t.replicas t'.newest (newest_of ts') = subst (λ (z : TruncatingWarden). IsNewest t.replicas z.newest (newest_of ts')) (sym new)
      (counted_is t.replicas t.newest top version a at.stands.newest c) in
      let q = recover_all r (still u.state) t'.newest.named in
      let turn : take_fenced r u version a ts ≡ onto q ts' u.sent =
      take_at_newest r u version a ts
      ∙ (ap (λ b. cond (not b) u (cond (nat_le (quorum r.replicas) (suc (length top.answers)))
      (recover_all r (with_fenced u top a (rest_of ts)) (to_recover (top.answers ++ a ∷ []))) (with_fenced u top a (rest_of ts)))) counts
      ∙ (recovers_when r (with_fenced u top a (rest_of ts)) true (nat_le (quorum r.replicas) (suc (length top.answers))) (to_recover (top.answers ++ a ∷ []))
      ∙ (ap (recover_all r (with_fenced u top a (rest_of ts)))
      (sym (newest.named refl ∙ (ap (λ n. cond (nat_le (quorum n) (length (top.answers ++ a ∷ []))) (to_recover (top.answers ++ a ∷ [])) []) at.stands.replicas
      ∙ ap (λ n. cond (nat_le (quorum r.replicas) n) (to_recover (top.answers ++ a ∷ [])) []) (longer top.answers a))))
      ∙ recover_all_keeps r u.state ts' u.sent t'.newest.named))) in
      let bare : recover_all r (still rec.state) t'.newest.named ≡ onto q [] [] =
      ap (λ s. recover_all r (still s) t'.newest.named) at.stands.recoveries ∙ recover_all_keeps r u.state [] [] t'.newest.named in
      subst (StandsAt t' rec' before out') (sym turn) (record {
        stands = record {
          whole = ap (λ (z : TruncatingWarden). z.broken) new ∙ at.stands.whole;
          recoverer_whole = d.still_whole;
          warden = ap (λ (z : TruncatingWarden). z.warden) new ∙ (at.stands.warden ∙ ap (λ (z : WardenRules). z.warden) (sym d.rules));
          replicas = ap (λ (z : TruncatingWarden). z.replicas) new ∙ (at.stands.replicas ∙ ap (λ (z : WardenRules). z.replicas) (sym d.rules));
          recoveries = d.turn.state_is ∙ ap (λ (z : WardenTurn). z.state) bare;
          begun = ap (λ (z : TruncatingWarden). z.begun) new ∙ (at.stands.begun ∙ as_many r ts version a.replica (newest_of ts') counts);
          newest = subst (λ n. IsNewest n t'.newest (newest_of ts')) (sym (ap (λ (z : TruncatingWarden). z.replicas) new)) newest;
        };
        sent = subst (λ z. out' ≡ before ++ envelopes z (u.sent ++ q.sent)) (sym d.rules)
            (sent_on r before out out' u.sent q.sent at.sent (d.turn.sent ∙ ap (λ (z : WardenTurn). out ++ envelopes r z.sent) bare));
      });
}

-- a truncation that is not settled goes on
pub goes_on : (t : TruncatingWarden) (rec : RecoveringWarden) (before out : List Envelope) (u : WardenTurn) → StandsAt t rec before out u
    → is_settled t.replicas rec.state t.newest ≡ false
    → finished rec.rules u ≡ u
goes_on t rec before out u at e =
    let top = newest_of u.state.truncations in
    finish_at_newest rec.rules u u.state.truncations
    ∙ ap (λ c. cond c (record {
      state = with_truncations u.state (drop_sent top ∷ rest_of u.state.truncations);
      sent = u.sent ++ To_all (Drops top.w (base_of top.w u.state top.answers)) ∷ [];
    }) u)
    (sym (settled_is rec.rules t.replicas t.newest top rec.state u.state at.stands.replicas at.stands.newest at.stands.recoveries) ∙ e)

base_bare : (w : Version) (s : WardenState) (answers : List FencedAnswer) → base_of w (with_truncations s []) answers ≡ base_of w s answers
unfolding base_of
base_bare w s answers = refl

settled_under_way : (n : ℕ) (s : WardenState) (kept : Newest) → is_settled n s kept ≡ true → kept.dropped ≡ false
settled_under_way n s kept e = under_way kept.dropped _ e

-- a settled truncation sends its Drop
pub ends : (t t' : TruncatingWarden) (rec : RecoveringWarden) (out out' : List Envelope) (base : List BaseEntry) → rec.broken ≡ false
    → is_settled t.replicas rec.state t.newest ≡ true
    → t' ≡ record t { newest = record t.newest { answers = []; named = []; dropped = true } } → base ≡ base_of t.newest.w rec.state t.newest.answers
    → out' ≡ out ++ to_all t.replicas (Warden t.warden) (Drops t.newest.w base) → Steps finished t t' rec rec out out'
ends t t' rec out out' base whole c new b sent = record {
  recoverer_whole = whole;
  rules = refl;
  turn = λ before u at.
      let r = rec.rules in let ts = u.state.truncations in let top = newest_of ts in
      let finishes : is_finished r u.state top
      ≡ true = sym (settled_is r t.replicas t.newest top rec.state u.state at.stands.replicas at.stands.newest at.stands.recoveries) ∙ c in
      let d : top.dropped ≡ false = sym at.stands.newest.dropped ∙ settled_under_way t.replicas rec.state t.newest c in
      let body : Drops t.newest.w base ≡ Drops top.w (base_of top.w u.state top.answers) =
      ap (Drops t.newest.w) (b ∙ (ap (λ s. base_of t.newest.w s t.newest.answers) at.stands.recoveries
      ∙ (base_bare t.newest.w u.state t.newest.answers ∙ ap (base_of t.newest.w u.state) (at.stands.newest.answers d))))
      ∙ ap (λ w. Drops w (base_of w u.state top.answers)) at.stands.newest.w in
      let turn : finished r u ≡ record {
        state = with_truncations u.state (drop_sent top ∷ rest_of ts);
        sent = u.sent ++ To_all (Drops top.w (base_of top.w u.state top.answers)) ∷ [];
      } =
      finish_at_newest r u ts
      ∙ ap (λ z. cond z (record {
        state = with_truncations u.state (drop_sent top ∷ rest_of ts);
        sent = u.sent ++ To_all (Drops top.w (base_of top.w u.state top.answers)) ∷ [];
      }) u) finishes in
      subst (StandsAt t' rec before out') (sym turn) (record {
        stands = record {
          whole = ap (λ (z : TruncatingWarden). z.broken) new ∙ at.stands.whole;
          recoverer_whole = whole;
          warden = ap (λ (z : TruncatingWarden). z.warden) new ∙ at.stands.warden;
          replicas = ap (λ (z : TruncatingWarden). z.replicas) new ∙ at.stands.replicas;
          recoveries = at.stands.recoveries;
          begun = ap (λ (z : TruncatingWarden). z.begun) new ∙ (at.stands.begun ∙ as_many_at_end r u.state ts (drop_sent top) finishes);
          newest = subst (λ (z : TruncatingWarden). IsNewest z.replicas z.newest (drop_sent top)) (sym new)
              (record { w = at.stands.newest.w; dropped = refl; answers = λ e. absurd cc; named = λ e. absurd cc });
        };
        sent = sent_on r before out out' u.sent (To_all (Drops top.w (base_of top.w u.state top.answers)) ∷ []) at.sent
            (sent ∙ (ap (λ z. out ++ to_all t.replicas (Warden t.warden) z) body
            ∙ (ap (λ n. out ++ to_all n (Warden t.warden) (Drops top.w (base_of top.w u.state top.answers))) at.stands.replicas
            ∙ (ap (λ k. out ++ to_all r.replicas (Warden k) (Drops top.w (base_of top.w u.state top.answers))) at.stands.warden
            ∙ ap (λ l. out ++ l) (sym (append-nil (to_all r.replicas (Warden r.warden) (Drops top.w (base_of top.w u.state top.answers)))))))));
      });
}

-- a turn of recovery is one of the warden, where it neither reads nor changes truncations
pub recovers_on : (f : WardenState → WardenTurn) → ((s : WardenState) (ts : List Truncation) → f (with_truncations s ts) ≡ turn_with (f s) ts)
    → (t : TruncatingWarden) (rec rec' : RecoveringWarden) (s : WardenState) (out out' : List Envelope) → StandsFor t rec s
    → Does (f rec.state) rec rec' out out' → StandsAt t rec' out out' (f s)
recovers_on f keeps t rec rec' s out out' p d =
    let same : f rec.state ≡ turn_with (f s) [] = ap f p.recoveries ∙ keeps s [] in
    let stay : (f s).state.truncations ≡ s.truncations = ap (λ (z : WardenTurn). z.state.truncations) (keeps s s.truncations) in
    record {
      stands = record {
        whole = p.whole;
        recoverer_whole = d.still_whole;
        warden = p.warden ∙ ap (λ (z : WardenRules). z.warden) (sym d.rules);
        replicas = p.replicas ∙ ap (λ (z : WardenRules). z.replicas) (sym d.rules);
        recoveries = d.turn.state_is ∙ ap (λ (z : WardenTurn). z.state) same;
        begun = p.begun ∙ ap length (sym stay);
        newest = subst (λ ts. IsNewest t.replicas t.newest (newest_of ts)) (sym stay) p.newest;
      };
      sent = subst (λ z. out' ≡ out ++ envelopes z (f s).sent) (sym d.rules) (d.turn.sent ∙ ap (λ (z : WardenTurn). out ++ envelopes rec.rules z.sent) same);
    }

-- recovery, then a Fenced, then the end: a warden takes an envelope
pub hears : (from : NodeId) (b : Body) (t t' t'' : TruncatingWarden) (rec rec' rec'' : RecoveringWarden) (out out' out'' out''' : List Envelope)
    → Does (recovery_hears rec.rules rec.state from b) rec rec' out out'
    → Steps (λ r u. fenced_from r u (sender r.replicas from) b) t t' rec' rec'' out' out'' → Steps finished t' t'' rec'' rec'' out'' out'''
    → Turns (λ r s. warden_hears r s from b) t t'' rec rec'' out out'''
unfolding warden_hears
hears from b t t' t'' rec rec' rec'' out out' out'' out''' d p q = record {
  rules = p.rules ∙ d.rules;
  turn = λ s stands.
      let first = recovers_on (λ z. recovery_hears rec.rules z from b) (λ z ts. keeps_truncations.hears rec.rules z ts from b) t rec rec' s out out' stands d in
      let u = recovery_hears rec.rules s from b in
      subst (λ r. StandsAt t'' rec'' out out''' (finished r (fenced_from rec.rules u (sender rec.rules.replicas from) b))) (p.rules ∙ d.rules)
      (q.turn out (fenced_from rec.rules u (sender rec.rules.replicas from) b)
      (subst (λ (r : WardenRules). StandsAt t' rec'' out out'' (fenced_from r u (sender r.replicas from) b)) d.rules (p.turn out u first)));
}

-- a truncation begins
pub begins : (t t' : TruncatingWarden) (rec : RecoveringWarden) (s : WardenState) (w : Version) (out out' : List Envelope) → StandsFor t rec s
    → t' ≡ record t { newest = record { w = w; answers = []; named = []; dropped = false }; begun = suc t.begun; broken = false }
    → out' ≡ out ++ to_all t.replicas (Warden t.warden) (Fence w) → StandsAt t' rec out out' (truncate s w)
unfolding truncate
begins t t' rec s w out out' p new sent = record {
  stands = record {
    whole = ap (λ (z : TruncatingWarden). z.broken) new;
    recoverer_whole = p.recoverer_whole;
    warden = ap (λ (z : TruncatingWarden). z.warden) new ∙ p.warden;
    replicas = ap (λ (z : TruncatingWarden). z.replicas) new ∙ p.replicas;
    recoveries = p.recoveries;
    begun = ap (λ (z : TruncatingWarden). z.begun) new ∙ ap suc p.begun;
    newest = subst (λ (z : TruncatingWarden). IsNewest z.replicas z.newest (record { w = w; answers = []; dropped = false })) (sym new)
        (record { w = refl; dropped = refl; answers = λ e. refl; named = λ e. nothing (nat_le (quorum t.replicas) 0) });
  };
  sent = sent ∙ (ap (λ n. out ++ to_all n (Warden t.warden) (Fence w)) p.replicas ∙ (ap (λ k. out ++ to_all rec.rules.replicas (Warden k) (Fence w)) p.warden
      ∙ ap (λ l. out ++ l) (sym (append-nil (to_all rec.rules.replicas (Warden rec.rules.warden) (Fence w))))));
}
  where
    nothing : (b : Bool) → [] ≡ cond b (to_recover []) []
    nothing true = refl
    nothing false = refl
