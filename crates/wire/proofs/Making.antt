-- Each way to make a field of smaller ones keeps it exact.
use Rattle.std.proofs.Common.{◌≡◌, ℕ, zero, suc, ◌<◌, Bool, List, [], ◌∷◌, ◌++◌, length, take, Option, Some, None, Ok, Err, refl, sym, ap, subst, ◌∙◌, append_assoc, arith, inl, inr}
use Rattle.std.specs.Prelude.{IfSome, if◌then◌else◌}
use Rattle.wire.specs.declared.fault.FrameFault.{FrameFault}
use Rattle.wire.specs.declared.fault.FrameFault.TheVariants as faults
use Rattle.wire.specs.Field.{◌>>=◌, Field, ◌&◌, tagged, built, shaped, checked, optional_at, optional_frame, optional}
use Rattle.wire.proofs.Bytes.{IsBytes, IsBytes-rest, bind_ok, bind_err, guard_ok, ok_is, cut}
use Rattle.wire.proofs.Exact.{Reads, IsExact}

pub both_exact : {A B : Type 0} {a : Field A} {b : Field B} → IsExact a → IsExact b → IsExact (a & b)
both_exact {a = a} {b = b} p q = record {
  reads = λ bytes x fits e.
      let f = bind_ok (a.judged bytes) (λ y. b.judged y.1 >>= λ z. Ok ((y.0, z.0), z.1)) x e in
      let g = bind_ok (b.judged f.0.1) (λ z. Ok ((f.0.0, z.0), z.1)) x f.2 in
      let first = p.reads bytes f.0 fits f.1 in
      let second = q.reads f.0.1 g.0 (IsBytes-rest (a.frame f.0.0) f.0.1 (subst IsBytes first.parts fits)) g.1 in
      let read : Reads (a & b) bytes ((f.0.0, g.0.0), g.0.1) = record {
        parts = first.parts ∙ ap (λ (t : List ℕ). a.frame f.0.0 ++ t) second.parts ∙ sym (append_assoc (a.frame f.0.0) (b.frame g.0.0) g.0.1);
        admits = (first.admits, second.admits);
        in_range = (first.in_range, second.in_range);
      } in
      subst (Reads (a & b) bytes) (ok_is ((f.0.0, g.0.0), g.0.1) x g.2) read;
  again = λ x rest may fits.
      let ab = a & b in
      ap ab.judged (append_assoc (a.frame x.0) (b.frame x.1) rest) ∙ rw (p.again x.0 (b.frame x.1 ++ rest) may.0 fits.0, q.again x.1 rest may.1 fits.1) refl;
  short = λ x n may fits lt.
      let ab = a & b in
      elim (cut (a.frame x.0) (b.frame x.1) n lt) [
        | inl c ↦ ap ab.judged c.front ∙ bind_err _ _ faults.Short (p.short x.0 n may.0 fits.0 c.within)
        | inr (k, c) ↦ ap ab.judged c.front ∙ rw (p.again x.0 (take k (b.frame x.1)) may.0 fits.0, q.short x.1 k may.1 fits.1 c.within) refl
      ];
}

pub tagged_exact : {K : Type 0} {P : K → Type 0} (tag : Field K) (rest : (k : K) → Field (P k)) → IsExact tag → ((k : K) → IsExact (rest k))
    → IsExact (tagged tag rest)
tagged_exact {K} {P} tag rest p q = record {
  reads = λ bytes x fits e.
      let f = bind_ok (tag.judged bytes) (λ k. (rest k.0).judged k.1 >>= λ y. Ok ((k.0, y.0), y.1)) x e in
      let after = rest f.0.0 in
      let g = bind_ok (after.judged f.0.1) (λ y. Ok ((f.0.0, y.0), y.1)) x f.2 in
      let first = p.reads bytes f.0 fits f.1 in
      let exact = q f.0.0 in
      let second = exact.reads f.0.1 g.0 (IsBytes-rest (tag.frame f.0.0) f.0.1 (subst IsBytes first.parts fits)) g.1 in
      let made : ((k : K) × P k) × List ℕ = ((f.0.0, g.0.0), g.0.1) in
      let read : Reads (tagged tag rest) bytes made = record {
        parts = first.parts ∙ ap (λ (t : List ℕ). tag.frame f.0.0 ++ t) second.parts ∙ sym (append_assoc (tag.frame f.0.0) (after.frame g.0.0) g.0.1);
        admits = (first.admits, second.admits);
        in_range = (first.in_range, second.in_range);
      } in
      subst (Reads (tagged tag rest) bytes) (ok_is made x g.2) read;
  again = λ x bytes may fits.
      let whole = tagged tag rest in
      let after = rest x.0 in
      let exact = q x.0 in
      ap whole.judged (append_assoc (tag.frame x.0) (after.frame x.1) bytes)
      ∙ rw (p.again x.0 (after.frame x.1 ++ bytes) may.0 fits.0, exact.again x.1 bytes may.1 fits.1) refl;
  short = λ x n may fits lt.
      let whole = tagged tag rest in
      let after = rest x.0 in
      let exact = q x.0 in
      elim (cut (tag.frame x.0) (after.frame x.1) n lt) [
        | inl c ↦ ap whole.judged c.front ∙ bind_err _ _ faults.Short (p.short x.0 n may.0 fits.0 c.within)
        | inr (k, c) ↦ ap whole.judged c.front ∙ rw (p.again x.0 (take k (after.frame x.1)) may.0 fits.0, exact.short x.1 k may.1 fits.1 c.within) refl
      ];
}

-- putting together undoes taking apart where the value is whole; what is put together is whole, and taken apart is the same again
pub built_exact : {A B : Type 0} (IsWhole : B → Type 0) (parts : B → A) (whole : A → B) {a : Field A}
    → ((x : B) → IsWhole x → whole (parts x) ≡ x) → ((y : A) → parts (whole y) ≡ y) → ((y : A) → IsWhole (whole y)) → IsExact a
    → IsExact (built IsWhole parts whole a)
built_exact IsWhole parts whole {a = a} back same is p = record {
  reads = λ bytes x fits e.
      let f = bind_ok (a.judged bytes) (λ y. Ok (whole y.0, y.1)) x e in
      let r = p.reads bytes f.0 fits f.1 in
      let read : Reads (built IsWhole parts whole a) bytes (whole f.0.0, f.0.1) = record {
        parts = rw (same f.0.0) r.parts;
        admits = (is f.0.0, rw (same f.0.0) r.admits);
        in_range = rw (same f.0.0) r.in_range;
      } in
      subst (Reads (built IsWhole parts whole a) bytes) (ok_is (whole f.0.0, f.0.1) x f.2) read;
  again = λ x rest may fits. rw (p.again (parts x) rest may.1 fits, back x may.0) refl;
  short = λ x n may fits lt. bind_err _ _ faults.Short (p.short (parts x) n may.1 fits lt);
}

pub shaped_exact : {A B : Type 0} (parts : B → A) (whole : A → B) {a : Field A}
    → ((x : B) → whole (parts x) ≡ x) → ((y : A) → parts (whole y) ≡ y) → IsExact a → IsExact (shaped parts whole a)
shaped_exact parts whole {a = a} back same p = record {
  reads = λ bytes x fits e.
      let f = bind_ok (a.judged bytes) (λ y. Ok (whole y.0, y.1)) x e in
      let r = p.reads bytes f.0 fits f.1 in
      let read : Reads (shaped parts whole a) bytes (whole f.0.0, f.0.1) = record {
        parts = rw (same f.0.0) r.parts;
        admits = rw (same f.0.0) r.admits;
        in_range = rw (same f.0.0) r.in_range;
      } in
      subst (Reads (shaped parts whole a) bytes) (ok_is (whole f.0.0, f.0.1) x f.2) read;
  again = λ x rest may fits. rw (p.again (parts x) rest may fits, back x) refl;
  short = λ x n may fits lt. bind_err _ _ faults.Short (p.short (parts x) n may fits lt);
}

pub checked_exact : {A : Type 0} (fault : FrameFault) (test : A → Bool) {a : Field A} → IsExact a → IsExact (checked fault test a)
checked_exact fault test {a = a} p = record {
  reads = λ bytes x fits e.
      let f = bind_ok (a.judged bytes) (λ y. if test y.0 then Ok y else Err fault) x e in
      let g = guard_ok (test f.0.0) fault f.0 x f.2 in
      let r = p.reads bytes f.0 fits f.1 in
      subst (Reads (checked fault test a) bytes) g.1 (record { parts = r.parts; admits = (g.0, r.admits); in_range = r.in_range });
  again = λ x rest may fits. rw (p.again x rest may.1 fits, may.0) refl;
  short = λ x n may fits lt. bind_err _ _ faults.Short (p.short x n may.1 fits lt);
}

optional_reads : {A : Type 0} (a : Field A) → IsExact a → (bytes : List ℕ) (x : Option A × List ℕ) → IsBytes bytes → optional_at a bytes ≡ Ok x
    → Reads (optional a) bytes x
optional_reads a p [] x fits e = absurd cc
optional_reads a p (zero ∷ bytes) x fits e =
    subst (Reads (optional a) (0 ∷ bytes)) (ok_is (None, bytes) x e) (record { parts = refl; admits = tt; in_range = tt })
optional_reads a p (suc zero ∷ bytes) x fits e =
    let f = bind_ok (a.judged bytes) (λ y. Ok (Some y.0, y.1)) x e in
    let r = p.reads bytes f.0 (IsBytes-rest (1 ∷ []) bytes fits) f.1 in
    subst (Reads (optional a) (1 ∷ bytes)) (ok_is (Some f.0.0, f.0.1) x f.2)
    (record { parts = ap (λ (t : List ℕ). 1 ∷ t) r.parts; admits = r.admits; in_range = r.in_range })
optional_reads a p (suc (suc b) ∷ bytes) x fits e = absurd cc

optional_again : {A : Type 0} (a : Field A) → IsExact a → (o : Option A) (rest : List ℕ) → IfSome o a.Admits → IfSome o a.InRange
    → optional_at a (optional_frame a o ++ rest) ≡ Ok (o, rest)
optional_again a p None rest may fits = refl
optional_again a p (Some x) rest may fits = rw (p.again x rest may fits) refl

optional_short : {A : Type 0} (a : Field A) → IsExact a → (o : Option A) (n : ℕ) → IfSome o a.Admits → IfSome o a.InRange → n < length (optional_frame a o)
    → optional_at a (take n (optional_frame a o)) ≡ Err faults.Short
optional_short a p None zero may fits lt = refl
optional_short a p None (suc n) may fits lt = absurd (omega arith)
optional_short a p (Some x) zero may fits lt = refl
optional_short a p (Some x) (suc n) may fits lt = bind_err _ _ faults.Short (p.short x n may fits (omega (arith, lt)))

pub optional_exact : {A : Type 0} {a : Field A} → IsExact a → IsExact (optional a)
optional_exact {a = a} p = record { reads = optional_reads a p; again = optional_again a p; short = optional_short a p }
