-- Recovering one execution after another neither reads nor changes truncations, and goes on where it stopped.
use Rattle.std.proofs.Common.{◌≡◌, ℕ, ◌+◌, ◌<◌, Bool, true, false, List, [], ◌∷◌, ◌++◌, length, get_or, take, refl, ap, sym, subst, ◌∙◌, add-one}
use Rattle.std.specs.Prelude.{◌||◌, is_some, flat_map}
use Rattle.std.proofs.Math.Seq.{take-suc}
use Rattle.std.proofs.lemmas.List.{append-nil, append_assoc}
use Rattle.std.proofs.lemmas.Grind.{flat_map-append}
use Rattle.protocol.specs.Words.{Exec, Warden, Envelope}
use Rattle.protocol.specs.Warden.State.{Parcel, Truncation, WardenRules, WardenState, WardenTurn, decision_on, still}
use Rattle.protocol.specs.Warden.Recovery.{recover, next_view}
use Rattle.protocol.specs.Warden.Truncation.{with_truncations, recover_more, recover_all, is_recovering}
use Rattle.protocol.specs.World.Events.{parcel}
use Rattle.recovery.specs.Recoverer.{RecoveringWarden, Does}
use Rattle.truncation.specs.Truncator.{recovers_next}

-- the turn with these truncations, behind what was sent
abbrev pub onto : WardenTurn → List Truncation → List Parcel → WardenTurn
onto t ts sent = record { state = with_truncations t.state ts; sent = sent ++ t.sent }

-- a turn goes on with another
abbrev pub then_turn : WardenTurn → WardenTurn → WardenTurn
then_turn t u = record { state = u.state; sent = t.sent ++ u.sent }

one_kept : (r : WardenRules) (s : WardenState) (ts : List Truncation) (sent : List Parcel) (x : Exec) (xs : List Exec) (b : Bool)
    → recover_all r (record { state = with_truncations s ts; sent = sent }) xs ≡ onto (recover_all r (still s) xs) ts sent
    → ((s' : WardenState) (ts' : List Truncation) (sent' : List Parcel) → recover_all r (record { state = with_truncations s' ts'; sent = sent' }) xs
    ≡ onto (recover_all r (still s') xs) ts' sent')
    → recover_all r (recover_more r (record { state = with_truncations s ts; sent = sent }) x b) xs
    ≡ onto (recover_all r (recover_more r (still s) x b) xs) ts sent
unfolding recover next_view
one_kept r s ts sent x xs true h more = h
one_kept r s ts sent x xs false h more =
    let t = recover r s x in
    more t.state ts (sent ++ t.sent)
    ∙ sym (ap (λ u. onto u ts sent) (more t.state t.state.truncations t.sent)
    ∙ ap (λ l. record { state = with_truncations (recover_all r (still t.state) xs).state ts; sent = l })
    (sym (append_assoc sent t.sent (recover_all r (still t.state) xs).sent)))

pub recover_all_keeps : (r : WardenRules) (s : WardenState) (ts : List Truncation) (sent : List Parcel) (xs : List Exec)
    → recover_all r (record { state = with_truncations s ts; sent = sent }) xs ≡ onto (recover_all r (still s) xs) ts sent
recover_all_keeps r s ts sent [] = ap (λ l. record { state = with_truncations s ts; sent = l }) (sym (append-nil sent))
recover_all_keeps r s ts sent (x ∷ xs) =
    one_kept r s ts sent x xs (is_some (decision_on s x) || is_recovering s x) (recover_all_keeps r s ts sent xs)
    (λ s' ts' sent'. recover_all_keeps r s' ts' sent' xs)

recover_all_append : (r : WardenRules) (u : WardenTurn) (xs ys : List Exec) → recover_all r u (xs ++ ys) ≡ recover_all r (recover_all r u xs) ys
recover_all_append r u [] ys = refl
recover_all_append r u (x ∷ xs) ys = recover_all_append r (recover_more r u x (is_some (decision_on u.state x) || is_recovering u.state x)) xs ys

next_is : (r : WardenRules) (t : WardenTurn) (x : Exec) (b : Bool) → recover_more r t x b ≡ then_turn t (recover_more r (still t.state) x b)
next_is r t x true = ap (λ l. record { state = t.state; sent = l }) (sym (append-nil t.sent))
next_is r t x false = refl

-- one execution more
recover_all_more : (r : WardenRules) (s : WardenState) (xs : List Exec) (i : ℕ) (d : Exec) → i < length xs
    → then_turn (recover_all r (still s) (take i xs)) (recovers_next r (recover_all r (still s) (take i xs)).state (get_or xs i d))
    ≡ recover_all r (still s) (take (i + 1) xs)
recover_all_more r s xs i d h =
    let t = recover_all r (still s) (take i xs) in let x = get_or xs i d in
    sym (ap (λ n. recover_all r (still s) (take n xs)) (add-one i) ∙ (ap (recover_all r (still s)) (take-suc xs i d h)
    ∙ (recover_all_append r (still s) (take i xs) (x ∷ []) ∙ next_is r t x (is_some (decision_on t.state x) || is_recovering t.state x))))

-- the envelopes of a turn
abbrev pub envelopes : WardenRules → List Parcel → List Envelope
envelopes r sent = flat_map (parcel r.replicas (Warden r.warden)) sent

-- envelopes behind envelopes
pub sent_on : (r : WardenRules) (before out out' : List Envelope) (ps qs : List Parcel) → out ≡ before ++ envelopes r ps → out' ≡ out ++ envelopes r qs
    → out' ≡ before ++ envelopes r (ps ++ qs)
sent_on r before out out' ps qs e f =
    f ∙ (ap (λ l. l ++ envelopes r qs) e ∙ (append_assoc before (envelopes r ps) (envelopes r qs)
    ∙ ap (λ l. before ++ l) (sym (flat_map-append (parcel r.replicas (Warden r.warden)) ps qs))))

-- a turn after a turn
pub does_then : (f : WardenRules → WardenState → WardenTurn) (t : WardenTurn) (w w' w'' : RecoveringWarden) (out out' out'' : List Envelope)
    → Does t w w' out out' → Does (f w'.rules w'.state) w' w'' out' out'' → Does (then_turn t (f w.rules t.state)) w w'' out out''
does_then f t w w' w'' out out' out'' d e =
    let same : f w'.rules w'.state ≡ f w.rules t.state = ap (λ r. f r w'.state) d.rules ∙ ap (f w.rules) d.turn.state_is in
    record {
      whole = d.whole;
      still_whole = e.still_whole;
      rules = e.rules ∙ d.rules;
      turn = record {
        state_is = e.turn.state_is ∙ ap (λ (u : WardenTurn). u.state) same;
        sent = sent_on w.rules out out' out'' t.sent (f w.rules t.state).sent d.turn.sent
            (e.turn.sent ∙ (ap (λ (u : WardenTurn). out' ++ envelopes w'.rules u.sent) same ∙ ap (λ r. out' ++ envelopes r (f w.rules t.state).sent) d.rules));
      };
    }

-- recovering one execution more
pub does_more : (w w' w'' : RecoveringWarden) (out out' out'' : List Envelope) (xs : List Exec) (i : ℕ) (d : Exec) → i < length xs
    → Does (recover_all w.rules (still w.state) (take i xs)) w w' out out' → Does (recovers_next w'.rules w'.state (get_or xs i d)) w' w'' out' out''
    → Does (recover_all w.rules (still w.state) (take (i + 1) xs)) w w'' out out''
does_more w w' w'' out out' out'' xs i d h p q =
    subst (λ (t : WardenTurn). Does t w w'' out out'') (recover_all_more w.rules w.state xs i d h)
    (does_then (λ r s. recovers_next r s (get_or xs i d)) (recover_all w.rules (still w.state) (take i xs)) w w' w'' out out' out'' p q)

-- at first nothing is recovered
pub does_nothing : (w : RecoveringWarden) (out : List Envelope) → w.broken ≡ false → Does (still w.state) w w out out
does_nothing w out e = record { whole = e; still_whole = e; rules = refl; turn = record { state_is = refl; sent = sym (append-nil out) } }
