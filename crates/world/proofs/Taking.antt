-- What taking an event makes of a World.
use Rattle.std.proofs.Common.{◌≡◌, ◌≢◌, ℕ, ◌<◌, ◌≤◌, ◌+◌, Bool, true, false, List, [], ◌∷◌, ◌++◌, Option, Some, None, length, refl, sym, ap, ◌∙◌, subst, arith}
use Rattle.std.specs.Prelude.{zero, suc, nat_le, is_some, slice_get, take}
use Rattle.std.proofs.lemmas.Bool.Decides.{nat_tests}
use Rattle.protocol.specs.Words.{Envelope, Event}
use Rattle.protocol.specs.World.State.{Plan, World, mail_limit}
use Rattle.protocol.specs.World.Events.{Move, enabled, after}
use Rattle.world.specs.Clients.{Loads}
use Rattle.world.specs.Nodes.{HaveViewsLeft}
use Rattle.net_core.specs.Machine.{History, Effect, Moves, Refused, Not_enabled}
use Rattle.world_rows.specs.Machine.{effect_of, effect_in}
use Rattle.world_rows.proofs.Lawful.{stays}
use Rattle.world.specs.declared.origin.Origin.{Origin}
use Rattle.world.specs.declared.parts.Parts.{Parts}
use Rattle.world.specs.declared.world.World.{World as Kept}
use Rattle.world.specs.Origin.{IsOrigin, plan, loads, world_at}
use Rattle.world.specs.World.{IsWorld, IsSound, IsWhole, IsReached, CanHappen, Stands, with_sent}
use Rattle.world.proofs.SoundWorlds.{worlds_are_sound}

by_option : (o : Option Move) (t : Bool) → is_some o ≡ false → effect_of o t ≡ Not_enabled
by_option None t e = refl
by_option (Some v) t e = absurd (cc e)

by_room : (o : Option Move) (t : Bool) (f : Effect) → is_some o ≡ true → ((v : Move) → effect_of (Some v) t ≡ f) → effect_of o t ≡ f
by_room None t f e g = absurd (cc e)
by_room (Some v) t f e g = g v

module _ (p : Plan) (w : World) (e : Event) where
  pub idle_effect : is_some (enabled p w e) ≡ false → effect_in p w e ≡ Not_enabled
  unfolding effect_in
  idle_effect none = by_option (enabled p w e) (nat_le mail_limit (length w.mail)) none

  pub full_effect : is_some (enabled p w e) ≡ true → nat_le mail_limit (length w.mail) ≡ true → effect_in p w e ≡ Refused
  unfolding effect_in
  full_effect some full = ap (effect_of (enabled p w e)) full ∙ by_room (enabled p w e) true Refused some (λ v. refl)

  pub moves_effect : is_some (enabled p w e) ≡ true → nat_le mail_limit (length w.mail) ≡ false → effect_in p w e ≡ Moves
  unfolding effect_in
  moves_effect some room = ap (effect_of (enabled p w e)) room ∙ by_room (enabled p w e) false Moves some (λ v. refl)

pub idle_still : (f : Effect) → f ≡ Not_enabled → f ≢ Moves
idle_still f e g = cc (e, g)

pub full_still : (f : Effect) → f ≡ Refused → f ≢ Moves
full_still f e g = cc (e, g)

-- what does not move it leaves what it stands for
pub stands_still : (k : Kept) (o : Origin) (h : History) (e : Event) → Stands k o h → effect_in (plan o) (world_at o h) e ≢ Moves → Stands k o (e ∷ h)
stands_still k o h e s still =
    let same = stays (plan o) (world_at o h) e still in
    record {
      some_node = s.some_node;
      unbroken = s.unbroken;
      whole = subst (IsWhole o) (sym same) s.whole;
      slots = s.slots;
      after = record { origin = s.after.origin; world = subst (λ w. IsWorld (loads o s.after.origin) w k.parts) (sym same) s.after.world };
    }

-- the parts stand for the world after the event
pub stands_moved : (k : Kept) (parts : Parts) (o : Origin) (h : History) (e : Event) (s : Stands k o h) → parts.boxes.slots ≡ k.parts.boxes.slots →
    IsWorld (loads o s.after.origin) (after (plan o) (world_at o h) e) parts → Stands (record { slots = k.slots; parts = parts; broken = false }) o (e ∷ h)
stands_moved k parts o h e s slots world = record {
  some_node = s.some_node;
  unbroken = refl;
  whole = worlds_are_sound o s.after.origin (e ∷ h);
  slots = slots ∙ s.slots;
  after = record { origin = s.after.origin; world = world };
}

-- an event that passes the test can happen
pub can_happen : (k : Kept) (e : Event) (t : Bool) → IsReached k →
    ((l : Loads) (w : World) → IsWorld l w k.parts → HaveViewsLeft l.plan w → t ≡ is_some (enabled l.plan w e)) → t ≡ true → CanHappen k.parts e
can_happen k e t r f is = record {
  loads = loads r.origin r.stands.after.origin;
  world = world_at r.origin r.history;
  stands = r.stands.after.world;
  sound = r.stands.whole.sound;
  can = sym (f (loads r.origin r.stands.after.origin) (world_at r.origin r.history) r.stands.after.world r.stands.whole.sound.views) ∙ is;
}

pub less_than : (a b : ℕ) → nat_le a b ≡ false → b < a
less_than a b e = grind (arith, nat_tests)

-- one more of a list is taken
pub take_more : {A : Type 0} (xs : List A) (i : ℕ) (x : A) → slice_get xs i ≡ Some x → take (suc i) xs ≡ take i xs ++ x ∷ []
take_more [] i x e = absurd (cc e)
take_more (y ∷ xs) zero x e = let f : y ≡ x = cc in ap (λ z. z ∷ []) f
take_more (y ∷ xs) (suc i) x e = ap (λ ys. y ∷ ys) (take_more xs i x e)

pub append_assoc : {A : Type 0} (xs ys zs : List A) → (xs ++ ys) ++ zs ≡ xs ++ (ys ++ zs)
append_assoc [] ys zs = refl
append_assoc (x ∷ xs) ys zs = ap (λ l. x ∷ l) (append_assoc xs ys zs)

pub take_all : {A : Type 0} (xs : List A) → take (length xs) xs ≡ xs
take_all [] = refl
take_all (x ∷ xs) = ap (λ l. x ∷ l) (take_all xs)

pub append_none : {A : Type 0} (xs : List A) → xs ++ [] ≡ xs
append_none [] = refl
append_none (x ∷ xs) = ap (λ l. x ∷ l) (append_none xs)

-- so many of the envelopes were sent
pub record IsPosted (before : Parts) (ms : List Envelope) (i : ℕ) (now : Parts) : Type 0 where
  pub stands : (l : Loads) (w : World) → IsWorld l w before → IsWorld l (with_sent w (take i ms)) now

pub take_past : {A : Type 0} (xs : List A) (i : ℕ) → length xs ≤ i → take i xs ≡ xs
take_past [] zero le = refl
take_past [] (suc i) le = refl
take_past (x ∷ xs) zero le = absurd (let f : ⊥ = omega (arith, le) in f)
take_past (x ∷ xs) (suc i) le = ap (λ l. x ∷ l) (take_past xs i (omega (arith, le)))

-- one more envelope was sent
pub posted_more : (w : World) (ms : List Envelope) (i : ℕ) (m : Envelope) → slice_get ms i ≡ Some m → (w.mail ++ take i ms) ++ m ∷ [] ≡ w.mail ++ take (i + 1) ms
posted_more w ms i m e =
    let n : suc i ≡ i + 1 = omega arith in
    append_assoc w.mail (take i ms) (m ∷ []) ∙ ap (λ t. w.mail ++ t) (sym (take_more ms i m e) ∙ ap (λ k. take k ms) n)

-- where the parts follow an event that moves the world, the World stands for it
pub moved_by : (k : Kept) (parts : Parts) (o : Origin) (h : History) (e : Event) (s : Stands k o h) →
    ((l : Loads) (w : World) → IsWorld l w k.parts → IsSound l.plan w → is_some (enabled l.plan w e) ≡ true → IsWorld l (after l.plan w e) parts) →
    is_some (enabled (plan o) (world_at o h) e) ≡ true → Stands (record { slots = k.slots; parts = parts; broken = false }) o (e ∷ h)
moved_by k parts o h e s f can =
    let world = f (loads o s.after.origin) (world_at o h) s.after.world s.whole.sound can in
    stands_moved k parts o h e s (world.slots ∙ sym s.after.world.slots) world
