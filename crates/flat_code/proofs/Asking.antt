-- An operation that asks is a read, and leaves its place.
use Rattle.std.proofs.Common.{◌≡◌, ℕ, Ok, Err, sym, ap, ℤ}
use Rattle.std.specs.Prelude.{⊤}
use Rattle.morty_base.specs.declared.names.Key.{Key}
use Rattle.txn_lang.specs.Value.{Value, value}
use Rattle.txn_lang.specs.Actions.{key_at}
use Rattle.flat_code.specs.declared.frame.Frame.{Frame}
use Rattle.flat_code.specs.declared.frame.OpOut.TheVariants as out
use Rattle.flat_code.specs.Operation.{Operation, Let, Read, Write, Print, Test, Go, Enter, Again, Skip, Abort, Finish}
use Rattle.flat_code.specs.Step.{Step, gives, step, on_value}

abbrev pub IsRead : Operation → Type 0
IsRead (Read v table i) = ⊤
IsRead _ = ⊥

pub record AsksThere (o : Operation) (f at : Frame) : Type 0 where
  pub is_read : IsRead o
  pub stays : at ≡ f

never : (v : Value) (f : Frame) (next : ℤ → Step) (k : Key) → ((x : ℤ) → (next x).out ≡ out.Asks k → ⊥) → (on_value v f next).out ≡ out.Asks k → ⊥
never (Ok x) f next k h e = h x e
never (Err fault) f next k h e = cc

stays : (v : Value) (f at : Frame) (table : ℕ) (k : Key) → on_value v f (λ x. gives (out.Asks (key_at table x)) f) ≡ gives (out.Asks k) at → at ≡ f
stays (Ok x) f at table k e = sym (ap (λ (s : Step). s.at) e)
stays (Err fault) f at table k e = sym (ap (λ (s : Step). s.at) e)

outs : (o : Operation) (f at : Frame) (k : Key) → step o f ≡ gives (out.Asks k) at → (step o f).out ≡ out.Asks k
outs o f at k e = ap (λ (s : Step). s.out) e

pub asks_there : (o : Operation) (f at : Frame) (k : Key) → step o f ≡ gives (out.Asks k) at → AsksThere o f at
asks_there (Read v table i) f at k e = record { is_read = tt; stays = stays (value i f.locals) f at table k e }
asks_there (Let v t) f at k e = absurd (never (value t f.locals) f _ k (λ x h. cc) (outs (Let v t) f at k e))
asks_there (Write table i t) f at k e =
    absurd (never (value i f.locals) f _ k (λ x h. never (value t f.locals) f _ k (λ y g. cc) h) (outs (Write table i t) f at k e))
asks_there (Print t) f at k e = absurd (never (value t f.locals) f _ k (λ x h. cc) (outs (Print t) f at k e))
asks_there (Test t past) f at k e = absurd (never (value t f.locals) f _ k (λ x h. cc) (outs (Test t past) f at k e))
asks_there (Go past) f at k e = let h = outs (Go past) f at k e in cc
asks_there (Enter further) f at k e = let h = outs (Enter further) f at k e in cc
asks_there (Again back) f at k e = let h = outs (Again back) f at k e in cc
asks_there Skip f at k e = let h = outs Skip f at k e in cc
asks_there Abort f at k e = let h = outs Abort f at k e in cc
asks_there Finish f at k e = let h = outs Finish f at k e in cc
