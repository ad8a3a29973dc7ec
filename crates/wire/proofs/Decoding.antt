-- What is decoded is a frame, what is a frame is decoded, a fault is that of the bytes, and the laws of frames.
use Rattle.std.proofs.Common.{◌≡◌, ℕ, ◌+◌, ◌≤◌, ◌<◌, List, [], ◌++◌, length, take, Some, Result, Ok, sym, ap, subst, ◌∙◌, arith, length-append}
use Rattle.std.proofs.lemmas.List.{take_at, append-nil}
use Rattle.msg.specs.declared.Envelope.{Envelope}
use Rattle.wire.specs.declared.fault.FrameFault.{FrameFault}
use Rattle.wire.specs.declared.fault.FrameFault.TheVariants as faults
use Rattle.wire.specs.Frame.{envelope}
use Rattle.wire.specs.Outcome.{Fails}
use Rattle.wire.specs.Sendable.{MaySend}
use Rattle.wire.specs.Wire.{frame, InRange, frame_fault, fault_of, BeginsWith, IsFault}
use Rattle.wire.proofs.Bytes.{IsBytes, done, ok_is}
use Rattle.wire.proofs.Envelopes.{envelope_exact}
use Rattle.wire.proofs.Sendable.{admits, may_send}

pub frame_judged : (m : Envelope) (rest : List ℕ) → MaySend m → InRange m → envelope.judged (frame m ++ rest) ≡ Ok (m, rest)
frame_judged m rest may fits = let exact = envelope_exact in exact.again m rest (admits m may) fits

pub decoded_begins : (bytes : List ℕ) (m : Envelope) (rest : List ℕ) (len : ℕ) → IsBytes bytes → envelope.judged bytes ≡ Ok (m, rest)
    → len + length rest ≡ length bytes → BeginsWith bytes m len
decoded_begins bytes m rest len fits e total =
    let exact = envelope_exact in
    let r = exact.reads bytes (m, rest) fits e in
    let size : length (envelope.frame m) ≡ len = omega (arith, length-append (envelope.frame m) rest, ap (λ (t : List ℕ). length t) r.parts, total) in
    record {
      may_send = may_send m r.admits;
      in_range = r.in_range;
      within = omega (arith, total);
      front = ap (take len) r.parts ∙ take_at (envelope.frame m) rest len size;
    }

pub rest_within : (bytes : List ℕ) (m : Envelope) (rest : List ℕ) → IsBytes bytes → envelope.judged bytes ≡ Ok (m, rest) → length rest ≤ length bytes
rest_within bytes m rest fits e =
    let exact = envelope_exact in
    let r = exact.reads bytes (m, rest) fits e in
    omega (arith, length-append (envelope.frame m) rest, ap (λ (t : List ℕ). length t) r.parts)

-- the answer of an envelope and its length
abbrev pub decoded : Envelope → ℕ → Result (Envelope × ℕ) FrameFault
decoded m len = Ok (m, len)

pub decoded_only : (bytes : List ℕ) (m n : Envelope) (rest more : List ℕ) (len : ℕ) → envelope.judged bytes ≡ Ok (m, rest) → len + length rest ≡ length bytes
    → MaySend n → InRange n → bytes ≡ frame n ++ more → decoded n (length (frame n)) ≡ decoded m len
decoded_only bytes m n rest more len e total may fits is =
    let other : envelope.judged bytes ≡ Ok (n, more) = ap envelope.judged is ∙ frame_judged n more may fits in
    let same : (m, rest) ≡ (n, more) = ok_is (m, rest) (n, more) (sym e ∙ other) in
    let rests : length rest ≡ length more = ap (λ (p : Envelope × List ℕ). length p.1) same in
    let size : length (frame n) ≡ len = omega (arith, length-append (envelope.frame n) more, ap (λ (t : List ℕ). length t) is, rests, total) in
    ap (λ (p : Envelope × List ℕ). decoded p.0 (length (frame n))) (sym same) ∙ ap (λ (k : ℕ). decoded m k) size

fails_found : {A B : Type 0} (fault : FrameFault) (x : A) (y : B) → Fails fault (done x) → Fails fault (done y)
fails_found faults.NoMemory x y h = tt
fails_found fault x y h = absurd cc

pub failed_only : (fault : FrameFault) (bytes : List ℕ) (n : Envelope) (more : List ℕ) → Fails fault (envelope.judged bytes)
    → MaySend n → InRange n → bytes ≡ frame n ++ more → Fails fault (decoded n (length (frame n)))
failed_only fault bytes n more h may fits is =
    let given : Envelope × List ℕ = (n, more) in
    let asked : Envelope × ℕ = (n, length (frame n)) in
    fails_found fault given asked (subst (Fails fault) (ap envelope.judged is ∙ frame_judged n more may fits) h)

pub fault_told : (fault : FrameFault) (bytes : List ℕ) → Fails fault (envelope.judged bytes) → IsFault fault bytes
fault_told faults.NoMemory bytes h = tt
fault_told fault bytes h = ap fault_of h

-- ---- the laws

pub no_prefix : (m n : Envelope) (rest : List ℕ) → MaySend m → InRange m → MaySend n → InRange n → frame n ≡ frame m ++ rest → (m ≡ n) × (rest ≡ [])
no_prefix m n rest may fits may' fits' e =
    let first : envelope.judged (frame n) ≡ Ok (m, rest) = ap envelope.judged e ∙ frame_judged m rest may fits in
    let second : envelope.judged (frame n) ≡ Ok (n, []) = ap envelope.judged (sym (append-nil (frame n))) ∙ frame_judged n [] may' fits' in
    let same : (m, rest) ≡ (n, []) = ok_is (m, rest) (n, []) (sym first ∙ second) in
    (ap (λ (p : Envelope × List ℕ). p.0) same, ap (λ (p : Envelope × List ℕ). p.1) same)

pub cut_is_short : (m : Envelope) (n : ℕ) → MaySend m → InRange m → n < length (frame m) → frame_fault (take n (frame m)) ≡ Some faults.Short
cut_is_short m n may fits lt = let exact = envelope_exact in ap fault_of (exact.short m n (admits m may) fits lt)

pub one_frame : (bytes others : List ℕ) (m : Envelope) (len size : ℕ) → BeginsWith bytes m len → BeginsWith others m size → take len bytes ≡ take size others
one_frame bytes others m len size p q = p.front ∙ sym q.front
