use Rattle.std.proofs.Common.{◌∙◌, cond, Some, List, ap}
use Rattle.std.specs.Prelude.{option_map}
use Rattle.std.specs.BTreeMap.{get}
use Rattle.protocol.specs.Words.{same_version, Write}
use Rattle.protocol.specs.Replica.Held.{Put as KeptPut}
use Rattle.mv_index.specs.PutTable.{put_of}
use Rattle.mv_index.specs.Orders.{version_cmp}
use Rattle.mv_index.proofs.TableOrder.{version_eq, option_map_cond}
use Rattle.mv_index.proofs.put_table.PutTable.keep.Goals as goal

pub returns : goal.returns
returns c = λ v.
    let put : KeptPut = record { exec = c.args.exec; writes = c.in_ok-writes.writes } in
    let old = get version_cmp c.args.self.now.puts v in
    ap (option_map put_of) (c.in_ok-insert.ensures.updates.0 v)
    ∙ (option_map_cond put_of _ _ old
    ∙ (ap (λ b. cond b (Some put) (option_map put_of old)) (version_eq c.args.exec.ver v)
    ∙ ap (λ (ws : List Write). let p : KeptPut = record { exec = c.args.exec; writes = ws } in
    cond (same_version v c.args.exec.ver) (Some p) (option_map put_of old)) c.in_ok-writes.ensures))
