-- A read moves the front of what is left to the buffer.
use Rattle.std.proofs.Common.{◌≡◌, ◌+◌, ◌-◌, ◌≤◌, ◌++◌, ℕ, List, length, take, drop, sym, ap, ◌∙◌, subst, length-drop, arith}
use Rattle.std.proofs.lemmas.List.{take_rest}
use Rattle.morty_io.specs.Memory.{MemSourceState}
use Rattle.morty_io.proofs.Moved.{front_of_buffer}
use Rattle.morty_io.proofs.mem_source.MemSourceSource.read.Goals as goal

pub returns-clause-moved : goal.returns-clause-moved
returns-clause-moved c =
    let xs = c.as_slice.result.now in
    let at = c.self.inside.at in
    let n = c.copy_front-n.result in
    let left = take_rest xs at in
    let copied : c.copy_front-n.new.to ≡ take n (take (length xs - at) (drop at xs)) ++ drop n c.args.buf.now =
    c.copy_front-n.ensures.copied in
    let fits : n + at ≤ length xs =
    omega (arith, c.self.invariant, c.copy_front-n.ensures.count, ap length left, length-drop at xs, ap length c.as_slice.ensures) in
    let here : drop at xs ≡ take n c.copy_front-n.new.to ++ drop (at + n) xs =
    front_of_buffer xs _ _ n at (rw left at copied) fits in
    ap (λ (s : MemSourceState). s.left) (sym c.self.view_is)
    ∙ subst (λ (ys : List ℕ). drop at ys ≡ take n c.copy_front-n.new.to ++ drop (at + n) ys) c.as_slice.ensures here
