-- The orders of the keys of the tables, as they are derived for them.
use Rattle.std.specs.declared.cmp.Ordering.{Ordering}
use Rattle.std.specs.Ordering.{nat_cmp, int_cmp, ordering_then}
use Rattle.protocol.specs.Words.{Version, Exec, Key}

-- versions by ts, and then by client
abbrev pub version_cmp : Version → Version → Ordering
version_cmp a b = ordering_then (nat_cmp a.ts b.ts) (nat_cmp a.client b.client)

-- executions by version, and then by number
abbrev pub exec_cmp : Exec → Exec → Ordering
exec_cmp a b = ordering_then (ordering_then (nat_cmp a.ver.ts b.ver.ts) (nat_cmp a.ver.client b.ver.client)) (nat_cmp a.eid b.eid)

-- keys by table, and then by index
abbrev pub key_cmp : Key → Key → Ordering
key_cmp a b = ordering_then (nat_cmp a.table b.table) (int_cmp a.index b.index)
