-- The kept Puts as a function of versions.
use Rattle.std.specs.Prelude.{Bool, true, ◌&&◌, ◌||◌, ◌==◌, nat_lt, List, length, Option, Some, None, option_map}
use Rattle.std.specs.BTreeMap.{get}
use Rattle.protocol.specs.Words.{Version, Exec, Write}
use Rattle.protocol.specs.Replica.Held.{Put as KeptPut}
use Rattle.mv_index.specs.Orders.{version_cmp}
use Rattle.mv_index.specs.declared.put_table.Put.{Put}
use Rattle.mv_index.specs.declared.put_table.PutTable.{PutTable}

-- the record of the definitions
abbrev pub put_of : Put → KeptPut
put_of p = record { exec = p.exec; writes = p.writes }

-- what is kept of version v
abbrev pub put_at : PutTable → Version → Option KeptPut
put_at t v = option_map put_of (get version_cmp t.puts v)

-- whether the writes of x replace what is kept
abbrev pub replaces : Option KeptPut → Exec → List Write → Bool
replaces None x ws = true
replaces (Some q) x ws = nat_lt q.exec.eid x.eid || (q.exec.eid == x.eid && nat_lt (length q.writes) (length ws))
