-- The last Prepare of an execution is found by its number.
use Rattle.std.proofs.Common.{◌≡◌, ℕ, zero, suc, Bool, true, false, cond, List, [], ◌∷◌, Option, Some, None, refl, ap, ◌∙◌}
use Rattle.std.specs.Prelude.{option_map}
use Rattle.std.specs.Bool.{then_some}
use Rattle.std.specs.List.{slice_get}
use Rattle.std.specs.Option.{option_or}
use Rattle.protocol.specs.Words.{Exec, Content, Envelope, Body, Prepare}
use Rattle.world_rows.specs.Notes.{content_of, content_in, prepared_by, is_of, last_prepare}

-- the content that a body prepares for x
abbrev pub content_for : Exec → Body → Option Content
content_for x b = cond (is_of x (prepared_by b)) (content_of b) None

-- the content of the last Prepare of x
abbrev pub last_content : Exec → List Envelope → Option Content
last_content x [] = None
last_content x (m ∷ ms) = option_or (last_content x ms) (content_for x m.body)

-- there is no Prepare, or the last one stands at a number and has a content
pub data IsLast (mail : List Envelope) (o : Option ℕ) (c : Option Content) : Type 0 where
  No_prepare : o ≡ None → c ≡ None → IsLast mail o c
  Prepared_at : (i : ℕ) (k : Content) → o ≡ Some i → content_in (slice_get mail i) ≡ Some k → c ≡ Some k → IsLast mail o c

-- a Prepare has a content
has_content : (x : Exec) (b : Body) → is_of x (prepared_by b) ≡ true → (k : Content) × (content_of b ≡ Some k)
has_content x (Prepare y k) e = (k, refl)
has_content x _ e = absurd cc

pub is_last : (x : Exec) (mail : List Envelope) → IsLast mail (last_prepare x mail) (last_content x mail)
is_last x [] = No_prepare refl refl
is_last x (m ∷ ms) = go (last_prepare x ms) (last_content x ms) (is_last x ms) (is_of x (prepared_by m.body)) refl
  where
    go : (o : Option ℕ) (c : Option Content) → IsLast ms o c → (t : Bool) → is_of x (prepared_by m.body) ≡ t →
        IsLast (m ∷ ms) (option_or (option_map suc o) (then_some t zero)) (option_or c (cond t (content_of m.body) None))
    go o c (Prepared_at i k p q r) t e = Prepared_at (suc i) k (ap (λ (z : Option ℕ). option_or (option_map suc z) (then_some t zero)) p) q
        (ap (λ (z : Option Content). option_or z (cond t (content_of m.body) None)) r)
    go o c (No_prepare p q) true e =
        let k = has_content x m.body e in
        Prepared_at zero k.0 (ap (λ (z : Option ℕ). option_or (option_map suc z) (Some zero)) p) k.1
        (ap (λ (z : Option Content). option_or z (content_of m.body)) q ∙ k.1)
    go o c (No_prepare p q) false e =
        No_prepare (ap (λ (z : Option ℕ). option_or (option_map suc z) None) p) (ap (λ (z : Option Content). option_or z None) q)
