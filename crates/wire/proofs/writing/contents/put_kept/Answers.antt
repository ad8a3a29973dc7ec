-- Each content that was kept is short enough.
use Rattle.wire.specs.Values.{kept}
use Rattle.wire.proofs.Items.{kept_may_put}
use Rattle.wire.proofs.writing.contents.put_kept.Goals as goal

pub put_items-requires : goal.put_items-requires
unfolding kept
put_items-requires c = rw c.as_slice.ensures (kept_may_put c.args.kept.now c.requires.1)
