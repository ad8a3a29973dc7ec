-- Code comes to one place on the same answers; what was done before a question and after its answer comes to one place together.
use Rattle.std.proofs.Common.{◌≡◌, ℕ, zero, suc, ◌+◌, List, [], ◌∷◌, ◌++◌, Option, Some, None, sym, ap, ◌∙◌, ℤ, arith, append_assoc, add_assoc}
use Rattle.morty_base.specs.declared.names.Key.{Key}
use Rattle.txn_lang.specs.Keys.{Entry, entry, found}
use Rattle.flat_code.specs.declared.frame.Frame.{Frame}
use Rattle.flat_code.specs.declared.frame.OpOut.{OpOut}
use Rattle.flat_code.specs.declared.frame.OpOut.TheVariants.{Went, Asks, Wrote, Printed, Ends}
use Rattle.flat_code.specs.Operation.{Flat}
use Rattle.flat_code.specs.Does.{fetched, performed, answered_at}
use Rattle.continuation.specs.Reaching.{Goes, asked, place_by, place_within, ComesTo}

-- where the one comes to a place, so does the other
abbrev Extends : Goes → Goes → Type 0
Extends D E = (f : Frame) (known : List Entry) (answers : List ℤ) (g : Frame) → D f known answers ≡ Some g → E f known answers ≡ Some g

asked_too : (D E : Goes) (by : ℤ → Frame) → Extends D E → (f : Frame) (k : Key) (o : Option ℤ) (known : List Entry) (answers : List ℤ) (g : Frame) →
    asked (λ x. D (by x)) f k o known answers ≡ Some g → asked (λ x. E (by x)) f k o known answers ≡ Some g
asked_too D E by h f k (Some x) known answers g e = h (by x) known answers g e
asked_too D E by h f k None known [] g e = e
asked_too D E by h f k None known (x ∷ answers) g e = h (by x) (entry k x ∷ known) answers g e

by_too : (code : Flat) (D E : Goes) → Extends D E → (what : OpOut) (f : Frame) (known : List Entry) (answers : List ℤ) (g : Frame) →
    place_by code D what f known answers ≡ Some g → place_by code E what f known answers ≡ Some g
by_too code D E h Went f known answers g e = h f known answers g e
by_too code D E h (Asks k) f known answers g e = asked_too D E (answered_at (fetched code f.pc) f) h f k (found known k) known answers g e
by_too code D E h (Wrote w) f known answers g e = h f (w ∷ known) answers g e
by_too code D E h (Printed x) f known answers g e = h f known answers g e
by_too code D E h (Ends how) f known answers g e = absurd (cc)

-- more operations come to the same place
more : (code : Flat) (n m : ℕ) → Extends (place_within code n) (place_within code (n + m))
more code zero m f known answers g e = absurd (cc)
more code (suc n) m f known answers g e =
    let next : suc n + m ≡ suc (n + m) = omega arith in
    ap (λ j. place_within code j f known answers) next
    ∙ by_too code (place_within code n) (place_within code (n + m)) (more code n m) (performed code f).out (performed code f).at known answers g e

-- so there is one place
pub one_place : (code : Flat) (start : Frame) (known : List Entry) (answers : List ℤ) (j k : Key) (shown seen : List Entry) (f g : Frame) →
    ComesTo code start known answers j shown f → ComesTo code start known answers k seen g → f ≡ g
one_place code start known answers j k shown seen f g a b =
    let left = more code a.count b.count start known answers f a.here in
    let right = more code b.count a.count start known answers g b.here in
    let both : b.count + a.count ≡ a.count + b.count = omega arith in
    let same : Some f ≡ Some g = sym left ∙ ap (λ n. place_within code n start known answers) (sym both) ∙ right in
    cc

-- from a question with its answer to the next question
pub comes_further : (code : Flat) (start : Frame) (answers : List ℤ) (value : ℤ) (k j : Key) (shown seen : List Entry) (f g : Frame) →
    ComesTo code start [] answers k shown f → ComesTo code (answered_at (fetched code f.pc) f value) (entry k value ∷ shown) [] j seen g →
    ComesTo code start [] (answers ++ value ∷ []) j seen g
comes_further code start answers value k j shown seen f g a b = record {
  count = b.count + a.count;
  here = a.onward b.count value [] ∙ b.here;
  onward = λ n x further.
      ap (λ m. place_within code m start [] ((answers ++ value ∷ []) ++ x ∷ further)) (sym (add_assoc n b.count a.count))
      ∙ ap (place_within code (n + b.count + a.count) start []) (append_assoc answers (value ∷ []) (x ∷ further))
      ∙ a.onward (n + b.count) value (x ∷ further)
      ∙ b.onward n x further;
}
