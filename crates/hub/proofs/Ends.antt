-- How a run ends, and what one more event makes of marks, turns and counts.
use Rattle.std.proofs.Common.{◌≡◌, ◌≢◌, ℕ, suc, zero, ◌+◌, ◌-◌, ◌^◌, ◌≤◌, min, Bool, true, false, cond, not, ◌&&◌, ◌||◌}
use Rattle.std.proofs.Common.{List, [], ◌∷◌, length, replicate, set, map, Option, Some, None, refl, sym, ◌∙◌, ap, arith, inl, inr}
use Rattle.std.proofs.lemmas.List.{length-map}
use Rattle.std.proofs.lemmas.List.Sums.{sum_by-cons}
use Rattle.std.specs.Prelude.{nat_le, slice_set, slice_index, count_by}
use Rattle.std.specs.List.{list_any, slice_get}
use Rattle.morty_base.specs.declared.names.NodeId.{NodeId}
use Rattle.morty_base.specs.declared.names.Ended.{Ended}
use Rattle.morty_base.specs.declared.names.Ended.TheVariants.{Quiet, Spent, Full}
use Rattle.morty_base.specs.Names.{same_node}
use Rattle.msg.specs.declared.Pick.{Pick}
use Rattle.msg.specs.declared.Event.{Event}
use Rattle.msg.specs.declared.Event.TheVariants.{Picked, Ran}
use Rattle.net_core.specs.Machine.{History, Machine, Effect, Moves, Refused, Not_enabled}
use Rattle.net_core.specs.Marks.{picks, is_turn, turns_made, mark_after, is_marked, is_full, is_quiet, is_refused, is_out_of_turns, end_of}
use Rattle.net_core.specs.Replay.{out_of}
use Rattle.net_core.specs.declared.machine.StepOut.{StepOut}
use Rattle.hub.specs.Turns.{ended_by, marks_after, turns_after}
use Rattle.hub.specs.Kept.{picks_in}
use Rattle.morty_base.proofs.Orders.{same_node_tells}
use Rattle.hub.proofs.Linking.{OthersDiffer}
use Rattle.hub.proofs.Lists.{map_same}

-- how a run has ended, by the tests of `end_of`
end_by : Bool → Bool → Bool → Option Ended
end_by full quiet out = cond full (Some Full) (cond quiet (Some Quiet) (cond out (Some Spent) None))

pub ends_quiet : (m : Machine) (turns : ℕ) (h : History) → is_full m h ≡ false → is_quiet m h ≡ true → end_of m turns h ≡ Some Quiet
unfolding end_by
ends_quiet m turns h full quiet = let out = list_any (is_out_of_turns m turns h) m.nodes in λ i. end_by (full i) (quiet i) out

any_at : {A : Type 0} (p : A → Bool) (xs : List A) (k : ℕ) (a : A) → slice_get xs k ≡ Some a → p a ≡ true → list_any p xs ≡ true
any_at {A} p [] k a e h = absurd (let t : ◌≡◌ {A = Option A} None (Some a) = e in cc)
any_at {A} p (x ∷ xs) zero a e h =
    let t : ◌≡◌ {A = Option A} (Some x) (Some a) = e in
    let same : x ≡ a = cc in
    ap (λ b. b || list_any p xs) (ap p same ∙ h)
any_at p (x ∷ xs) (suc k) a e h = right (p x) (list_any p xs) (any_at p xs k a e h)
  where
    right : (a b : Bool) → b ≡ true → (a || b) ≡ true
    right true b e = refl
    right false b e = e

pub ends_spent : (m : Machine) (turns : ℕ) (h : History) (slot : ℕ) (n : NodeId) → is_full m h ≡ false → is_quiet m h ≡ false →
    slice_get m.nodes slot ≡ Some n → m.live h n ≡ true → is_marked m h n ≡ false → nat_le turns (turns_made n h) ≡ true → end_of m turns h ≡ Some Spent
unfolding end_by
ends_spent m turns h slot n full quiet here live marked made =
    let out : is_out_of_turns m turns h n ≡ true = (λ i. live i && (not (marked i) && made i)) in
    let some = any_at (is_out_of_turns m turns h) m.nodes slot n here out in
    λ i. end_by (full i) (quiet i) (some i)

-- an event that was refused ends the run
pub ends_full : (m : Machine) (turns : ℕ) (h : History) (e : Event) (f : Effect) → m.effect h e ≡ f → (x : Ended) → ended_by f ≡ Some x →
    end_of m turns (e ∷ h) ≡ Some x
unfolding end_by
ends_full m turns h e Moves is x end = absurd (let t : ◌≡◌ {A = Option Ended} None (Some x) = end in cc)
ends_full m turns h e Not_enabled is x end = absurd (let t : ◌≡◌ {A = Option Ended} None (Some x) = end in cc)
ends_full m turns h e Refused is x end =
    (λ i. end_by (is_refused (is i)) (is_quiet m (e ∷ h)) (list_any (is_out_of_turns m turns (e ∷ h)) m.nodes)) ∙ end

pub not_full_by : (m : Machine) (h : History) (e : Event) (f : Effect) → m.effect h e ≡ f → ended_by f ≡ None → is_full m (e ∷ h) ≡ false
not_full_by m h e Moves is none = ap is_refused is
not_full_by m h e Not_enabled is none = ap is_refused is
not_full_by m h e Refused is none = absurd (let t : ◌≡◌ {A = Option Ended} (Some Full) None = none in cc)

map_ext : {A B : Type 0} (f g : A → B) (xs : List A) → ((j : ℕ) (b : A) → slice_get xs j ≡ Some b → g b ≡ f b) → map f xs ≡ map g xs
map_ext f g [] same = refl
map_ext f g (x ∷ xs) same = (λ i. sym (same 0 x refl) i ∷ map_ext f g xs (λ j b e. same (suc j) b e) i)

-- a list that is mapped otherwise at one place alone
set_map : {A B : Type 0} (f g : A → B) (v : B) (xs : List A) (k : ℕ) (a : A) → slice_get xs k ≡ Some a → g a ≡ v
    → ((j : ℕ) (b : A) → slice_get xs j ≡ Some b → j ≢ k → g b ≡ f b) → set (map f xs) k v ≡ map g xs
set_map {A} f g v [] k a e at others = absurd (let t : ◌≡◌ {A = Option A} None (Some a) = e in cc)
set_map {A} f g v (x ∷ xs) zero a e at others =
    let t : ◌≡◌ {A = Option A} (Some x) (Some a) = e in
    let same : x ≡ a = cc in
    (λ i. sym (ap g same ∙ at) i ∷ map_ext f g xs (λ j b eq. others (suc j) b eq (λ z. absurd (omega arith))) i)
set_map f g v (x ∷ xs) (suc k) a e at others =
    (λ i. sym (others 0 x refl (λ z. absurd (omega arith))) i
    ∷ set_map f g v xs k a e at (λ j b eq ne. others (suc j) b eq (λ z. ne (omega arith))) i)

or_false : (a b : Bool) → a ≡ false → (a || b) ≡ b
or_false a b e = ap (λ c. c || b) e

and_not_false : (a b : Bool) → a ≡ false → (not a && b) ≡ b
and_not_false a b e = ap (λ c. not c && b) e

-- the marks after a pick of the node of a slot
pub marks_pick : (m : Machine) (h : History) (n : NodeId) (p : Pick) (nodes : List NodeId) (slot : ℕ) (f : Effect) → m.effect h (Picked n p) ≡ f
    → same_node n n ≡ true → slice_get nodes slot ≡ Some n → OthersDiffer nodes slot n
    → marks_after slot (out_of f) (map (is_marked m h) nodes) ≡ map (is_marked m (Picked n p ∷ h)) nodes
marks_pick m h n p nodes slot Moves is own here others =
    ap (λ k. replicate k false) (length-map nodes (is_marked m h))
    ∙ map_same false nodes ∙ ap (λ f. map (λ k. mark_after k (Picked n p) f (is_marked m h k)) nodes) (sym is)
marks_pick m h n p nodes slot Not_enabled is own here others =
    set_map (is_marked m h) (λ k. same_node k n || is_marked m h k) true nodes slot n here (ap (λ b. b || is_marked m h n) own)
    (λ j k e ne. or_false (same_node k n) (is_marked m h k) (others j k e ne))
    ∙ ap (λ f. map (λ k. mark_after k (Picked n p) f (is_marked m h k)) nodes) (sym is)
marks_pick m h n p nodes slot Refused is own here others =
    set_map (is_marked m h) (λ k. not (same_node k n) && is_marked m h k) false nodes slot n here (ap (λ b. not b && is_marked m h n) own)
    (λ j k e ne. and_not_false (same_node k n) (is_marked m h k) (others j k e ne))
    ∙ ap (λ f. map (λ k. mark_after k (Picked n p) f (is_marked m h k)) nodes) (sym is)

-- what did not move the machine is not told as a move
pub not_moved : (f : Effect) (out : StepOut) → out ≡ out_of f → f ≢ Moves → out ≢ StepOut.Moved
not_moved Moves out is other = absurd (other refl)
not_moved Refused out is other = λ moved. let t : StepOut.Full ≡ StepOut.Moved = sym is ∙ moved in absurd cc
not_moved Not_enabled out is other = λ moved. let t : StepOut.Idle ≡ StepOut.Moved = sym is ∙ moved in absurd cc

pub own_node : (n : NodeId) → same_node n n ≡ true
own_node n = elim (same_node_tells n n) [ inl e ↦ e.0 | inr e ↦ absurd (e.1 refl) ]

-- no two slots have one node
pub others_differ : (nodes : List NodeId) (slot : ℕ) (n : NodeId) →
    ((i k : ℕ) (x : NodeId) → slice_get nodes i ≡ Some x → slice_get nodes k ≡ Some x → i ≡ k) → slice_get nodes slot ≡ Some n → OthersDiffer nodes slot n
others_differ nodes slot n apart here j k e ne =
    elim (same_node_tells k n) [ inl t ↦ absurd (ne (apart j slot n (e ∙ ap (λ x. Some x) t.1) here)) | inr t ↦ t.0 ]

pub picks_in_le : (h : History) → picks_in h ≤ length h
picks_in_le [] = omega arith
picks_in_le (Picked n p ∷ h) = let i = picks_in_le h in omega arith
picks_in_le (Ran c ∷ h) = let i = picks_in_le h in omega arith

at_map : {A : Type 0} (f : A → ℕ) (xs : List A) (k : ℕ) (a : A) → slice_get xs k ≡ Some a → slice_index (map f xs) k ≡ f a
at_map {A} f [] k a e = absurd (let t : ◌≡◌ {A = Option A} None (Some a) = e in cc)
at_map {A} f (x ∷ xs) zero a e = let t : ◌≡◌ {A = Option A} (Some x) (Some a) = e in let same : x ≡ a = cc in ap f same
at_map f (x ∷ xs) (suc k) a e = at_map f xs k a e

pub count_step : (p : Pick) (xs : List Pick) → count_by is_turn (p ∷ xs) ≡ cond (is_turn p) (count_by is_turn xs + 1) (count_by is_turn xs)
count_step p xs =
    sum_by-cons (λ x. cond (is_turn x) 1 0) p xs
    ∙ elim (is_turn p) as (λ b. cond b 1 0 + count_by is_turn xs ≡ cond b (count_by is_turn xs + 1) (count_by is_turn xs))
    [ true ↦ omega arith | false ↦ omega arith ]

pub turns_own : (h : History) (n : NodeId) (p : Pick) (b : Bool) → is_turn p ≡ b → same_node n n ≡ true →
    turns_made n (Picked n p ∷ h) ≡ cond b (turns_made n h + 1) (turns_made n h)
turns_own h n p b is own =
    ap (λ t. count_by is_turn (cond t (p ∷ picks n h) (picks n h))) own
    ∙ count_step p (picks n h)
    ∙ ap (λ t. cond t (count_by is_turn (picks n h) + 1) (count_by is_turn (picks n h))) is

turns_by : (h : History) (n : NodeId) (p : Pick) (nodes : List NodeId) (slot : ℕ) (b : Bool) → is_turn p ≡ b
    → same_node n n ≡ true → slice_get nodes slot ≡ Some n → OthersDiffer nodes slot n → turns_made n h + 1 ≤ 2 ^ 32 - 1
    → cond b (slice_set (map (λ k. turns_made k h) nodes) slot (min (slice_index (map (λ k. turns_made k h) nodes) slot + 1) (2 ^ 32 - 1)))
    (map (λ k. turns_made k h) nodes)
    ≡ map (λ k. turns_made k (Picked n p ∷ h)) nodes
turns_by h n p nodes slot true is own here others room =
    set_map (λ k. turns_made k h) (λ k. turns_made k (Picked n p ∷ h)) _ nodes slot n here
    (turns_own h n p true is own ∙ (let at = at_map (λ k. turns_made k h) nodes slot n here in omega arith))
    (λ j k e ne. ap (λ t. count_by is_turn (cond t (p ∷ picks k h) (picks k h))) (others j k e ne))
turns_by h n p nodes slot false is own here others room =
    map_at (λ k. turns_made k h) (λ k. turns_made k (Picked n p ∷ h)) nodes slot n here
    (turns_own h n p false is own)
    (λ j k e ne. ap (λ t. count_by is_turn (cond t (p ∷ picks k h) (picks k h))) (others j k e ne))
  where
    map_at : {A B : Type 0} (f g : A → B) (xs : List A) (k : ℕ) (a : A) → slice_get xs k ≡ Some a → g a ≡ f a
        → ((j : ℕ) (b : A) → slice_get xs j ≡ Some b → j ≢ k → g b ≡ f b) → map f xs ≡ map g xs
    map_at {A} f g [] k a e at others = refl
    map_at {A} f g (x ∷ xs) zero a e at others =
        let t : ◌≡◌ {A = Option A} (Some x) (Some a) = e in
        let same : x ≡ a = cc in
        (λ i. (ap f same ∙ sym at ∙ sym (ap g same)) i ∷ map_ext f g xs (λ j b eq. others (suc j) b eq (λ z. absurd (omega arith))) i)
    map_at f g (x ∷ xs) (suc k) a e at others =
        (λ i. sym (others 0 x refl (λ z. absurd (omega arith))) i
        ∷ map_at f g xs k a e at (λ j b eq ne. others (suc j) b eq (λ z. ne (omega arith))) i)

-- the turns made after a pick of the node of a slot
pub turns_pick : (h : History) (n : NodeId) (p : Pick) (nodes : List NodeId) (slot : ℕ)
    → same_node n n ≡ true → slice_get nodes slot ≡ Some n → OthersDiffer nodes slot n → turns_made n h + 1 ≤ 2 ^ 32 - 1
    → turns_after slot p (map (λ k. turns_made k h) nodes) ≡ map (λ k. turns_made k (Picked n p ∷ h)) nodes
turns_pick h n p nodes slot own here others room = turns_by h n p nodes slot (is_turn p) refl own here others room
