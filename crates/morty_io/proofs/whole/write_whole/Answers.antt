-- One more call takes one more piece.
use Rattle.std.proofs.Common.{ap, length, length-drop, arith}
use Rattle.std.proofs.lemmas.List.{take_rest}
use Rattle.morty_io.proofs.Moved.{Takes-more}
use Rattle.morty_io.proofs.whole.write_whole.Goals as goal

pub loop-done-preserved : goal.loop-done-preserved
loop-done-preserved g c =
    let xs = c.args.bytes.now in
    let done = c.loop-done.done in
    let piece = take_rest xs done in
    record {
      in_range = omega (arith, ap length piece, length-drop done xs, c.in-Ok.ensures.bound);
      taken = Takes-more _ _ _ xs _ done _ piece c.loop-done.invariant.taken c.in-Ok.ensures.appended;
      counted = omega (arith, c.in-Ok.ensures.counted);
    }
