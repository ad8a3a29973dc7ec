-- What is kept of an envelope opens to it.
use Rattle.std.proofs.Common.{◌≡◌, ℕ, List, [], ◌∷◌, ◌++◌, map, drop, Some, Ok, sym, ap, ◌∙◌}
use Rattle.std.specs.Prelude.{slice_get}
use Rattle.std.specs.Option.{option_map}
use Rattle.std.proofs.lemmas.List.{append-nil, take-append-drop, map-append}
use Rattle.std.proofs.lemmas.Option.{slice_get-map}
use Rattle.msg.specs.declared.Envelope.{Envelope}
use Rattle.wire.specs.Frame.{envelope}
use Rattle.wire.specs.Sendable.{MaySend}
use Rattle.wire.specs.Wire.{frame, InRange, BeginsWith}
use Rattle.wire.proofs.Decoding.{frame_judged}
use Rattle.net_core.specs.Mail.{read_envelope, opened, ends_there, IsFrame}

judged_whole : (m : Envelope) → MaySend m → InRange m → envelope.judged (frame m) ≡ Ok (m, [])
judged_whole m may fits = ap envelope.judged (sym (append-nil (frame m))) ∙ frame_judged m [] may fits

pub opened_frame : (m : Envelope) → MaySend m → InRange m → opened (frame m) ≡ m
opened_frame m may fits = ap read_envelope (judged_whole m may fits)

pub frame_is_frame : (m : Envelope) → MaySend m → InRange m → IsFrame (frame m)
frame_is_frame m may fits = record { whole = ap ends_there (judged_whole m may fits); same = ap frame (opened_frame m may fits) }

-- what bytes begin with is what they open to
opened_read : (bytes : List ℕ) (m : Envelope) (len : ℕ) → BeginsWith bytes m len → opened bytes ≡ m
opened_read bytes m len h =
    let parts : bytes ≡ frame m ++ drop len bytes = sym (take-append-drop len bytes) ∙ ap (λ (t : List ℕ). t ++ drop len bytes) h.front in
    ap read_envelope (ap envelope.judged parts ∙ frame_judged m (drop len bytes) h.may_send h.in_range)

-- the envelope sent at a place is what its bytes open to
pub opened_at : (frames : List (List ℕ)) (i : ℕ) (bytes : List ℕ) → Some bytes ≡ slice_get frames i → slice_get (map opened frames) i ≡ Some (opened bytes)
opened_at frames i bytes is = slice_get-map opened frames i ∙ ap (option_map opened) (sym is)

pub read_at : (frames : List (List ℕ)) (i : ℕ) (bytes : List ℕ) (m : Envelope) (len : ℕ) → Some bytes ≡ slice_get frames i → BeginsWith bytes m len
    → Some m ≡ slice_get (map opened frames) i
read_at frames i bytes m len is h = sym (opened_at frames i bytes is ∙ ap (λ (n : Envelope). Some n) (opened_read bytes m len h))

-- one more envelope
pub opened_push : (frames : List (List ℕ)) (m : Envelope) → MaySend m → InRange m → map opened (frames ++ frame m ∷ []) ≡ map opened frames ++ m ∷ []
opened_push frames m may fits = map-append opened frames (frame m ∷ []) ∙ ap (λ (n : Envelope). map opened frames ++ n ∷ []) (opened_frame m may fits)
