-- One more frame of a mail.
use Rattle.std.proofs.Common.{◌≡◌, ℕ, zero, suc, ◌+◌, List, [], ◌∷◌, ◌++◌, take, refl, sym, ◌∙◌, ap, add-one, append-nil}
use Rattle.std.proofs.lemmas.List.{append_assoc}
use Rattle.std.specs.Prelude.{flat_map}
use Rattle.msg.specs.declared.Envelope.{Envelope}
use Rattle.wire.specs.Wire.{frame}
use Rattle.run_trace.specs.Frames.{frame_at}

next_frame : (mail : List Envelope) (i : ℕ) → flat_map frame (take (suc i) mail) ≡ flat_map frame (take i mail) ++ frame_at mail i
next_frame [] zero = refl
next_frame [] (suc i) = refl
next_frame (m ∷ mail) zero = append-nil (frame m)
next_frame (m ∷ mail) (suc i) = ap (λ t. frame m ++ t) (next_frame mail i) ∙ sym (append_assoc (frame m) (flat_map frame (take i mail)) (frame_at mail i))

pub one_more_frame : (mail : List Envelope) (i : ℕ) → flat_map frame (take (i + 1) mail) ≡ flat_map frame (take i mail) ++ frame_at mail i
one_more_frame mail i = rw add-one (next_frame mail i)
