-- The tests by which names are compared, and what they tell.
use Rattle.std.specs.Prelude.{◌≡◌, ◌<◌, ◌≤◌, ◌⊎◌, Bool, true, false, ◌&&◌, ◌||◌, ◌==◌, nat_lt}
use Rattle.std.specs.Ordering.{int_cmp, int_eq, is_lt}
use Rattle.morty_base.specs.declared.names.Version.{Version}
use Rattle.morty_base.specs.declared.names.Exec.{Exec}
use Rattle.morty_base.specs.declared.names.Wid.{Wid}
use Rattle.morty_base.specs.declared.names.Key.{Key}
use Rattle.morty_base.specs.declared.names.NodeId.{NodeId}
use Rattle.morty_base.specs.declared.names.NodeId.TheVariants.{Client, Replica, Warden}

-- the version of first values
abbrev pub no_version : Version
no_version = record { ts = 0; client = 0 }

-- the write name of a first value
abbrev pub first_wid : Wid
first_wid = record { ver = no_version; eid = 0; seq = 0 }

-- an earlier version: by ts, and then by client
unfoldable pub before : Version → Version → Bool
before a b = nat_lt a.ts b.ts || (a.ts == b.ts && nat_lt a.client b.client)

abbrev pub IsBefore : Version → Version → Type 0
IsBefore a b = (a.ts < b.ts) ⊎ ((a.ts ≡ b.ts) × (a.client < b.client))

abbrev pub IsUpTo : Version → Version → Type 0
IsUpTo a b = (a.ts < b.ts) ⊎ ((a.ts ≡ b.ts) × (a.client ≤ b.client))

unfoldable pub same_version : Version → Version → Bool
same_version a b = a.ts == b.ts && a.client == b.client

-- an earlier execution: by version, and then by number
unfoldable pub exec_before : Exec → Exec → Bool
exec_before a b = before a.ver b.ver || (same_version a.ver b.ver && nat_lt a.eid b.eid)

unfoldable pub same_exec : Exec → Exec → Bool
same_exec x y = (x.ver.ts == y.ver.ts && x.ver.client == y.ver.client) && x.eid == y.eid

-- an earlier write name: by version, execution number and place
unfoldable pub wid_before : Wid → Wid → Bool
wid_before a b = before a.ver b.ver || (same_version a.ver b.ver && (nat_lt a.eid b.eid || (a.eid == b.eid && nat_lt a.seq b.seq)))

unfoldable pub same_wid : Wid → Wid → Bool
same_wid a b = ((a.ver.ts == b.ver.ts && a.ver.client == b.ver.client) && a.eid == b.eid) && a.seq == b.seq

-- an earlier key: by table, and then by index
unfoldable pub key_before : Key → Key → Bool
key_before k l = nat_lt k.table l.table || (k.table == l.table && is_lt (int_cmp k.index l.index))

unfoldable pub same_key : Key → Key → Bool
same_key k l = k.table == l.table && int_eq k.index l.index

-- clients before replicas before wardens, each kind by number
unfoldable pub node_before : NodeId → NodeId → Bool
node_before (Client a) (Client b) = nat_lt a b
node_before (Client a) _ = true
node_before (Replica a) (Client b) = false
node_before (Replica a) (Replica b) = nat_lt a b
node_before (Replica a) (Warden b) = true
node_before (Warden a) (Warden b) = nat_lt a b
node_before (Warden a) _ = false

unfoldable pub same_node : NodeId → NodeId → Bool
same_node (Client a) (Client b) = a == b
same_node (Replica a) (Replica b) = a == b
same_node (Warden a) (Warden b) = a == b
same_node _ _ = false
