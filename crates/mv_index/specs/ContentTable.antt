-- A table of contents as a function of executions, and its indexes.
use Rattle.std.specs.Prelude.{◌≡◌, Bool, true, false, List, Option, Some, None}
use Rattle.std.specs.BTreeMap.{get}
use Rattle.protocol.specs.Words.{Version, Exec, Key, Content, Kept, Read, before, same_version, exec_before}
use Rattle.protocol.specs.Lists.{IsIn, IsRisingBy}
use Rattle.protocol.specs.Replica.Votes.{conflicts, writes_key}
use Rattle.mv_index.specs.HeldByExec.{last_of_content}
use Rattle.mv_index.specs.Orders.{exec_cmp}
use Rattle.mv_index.specs.ReadIndex.{read_at, with_reads}
use Rattle.mv_index.specs.WriteIndex.{held_at}
use Rattle.mv_index.specs.declared.content_table.ContentTable.{ContentTable}

-- the content of x
abbrev pub content_at : ContentTable → Exec → Option Content
content_at t x = get exec_cmp t.contents x

-- the least version from which a content read k
abbrev pub least_read : Key → Option Content → Option Version
least_read k None = None
least_read k (Some c) = with_reads k None c.reads

-- the indexes are those of the contents
pub record IsIndexed (t : ContentTable) : Type 0 where
  pub writes_are : (k : Key) (x : Exec) → held_at t.writes k x ≡ last_of_content k x (content_at t x)
  pub reads_are : (k : Key) (x : Exec) → read_at t.reads k x ≡ least_read k (content_at t x)

-- whether there is one of version v
abbrev pub HasVersion : (Exec → Option Content) → Version → Bool → Type 0
HasVersion f v true = (x : Exec) × (c : Content) × (f x ≡ Some c) × (same_version v x.ver ≡ true)
HasVersion f v false = (x : Exec) → same_version v x.ver ≡ true → f x ≡ None

-- whether one of them is in conflict with content c at version v
abbrev pub HasConflict : (Exec → Option Content) → Version → Content → Bool → Type 0
HasConflict f v c true = (x : Exec) × (d : Content) × (f x ≡ Some d) × (conflicts v c x.ver d ≡ true)
HasConflict f v c false = (x : Exec) (d : Content) → f x ≡ Some d → conflicts v c x.ver d ≡ false

-- whether a content at version v that read r missed a write of one of them
abbrev pub IsMissed : (Exec → Option Content) → Version → Read → Bool → Type 0
IsMissed f v r true = (x : Exec) × (d : Content) × (f x ≡ Some d) × (before x.ver v ≡ true) × (before r.wid.ver x.ver ≡ true)
    × (writes_key r.key d.writes ≡ true)
IsMissed f v r false = (x : Exec) (d : Content) → f x ≡ Some d → before x.ver v ≡ true → before r.wid.ver x.ver ≡ true → writes_key r.key d.writes ≡ false

-- whether an element is so
abbrev pub IsOne : {A : Type 0} → (A → Bool → Type 0) → List A → Bool → Type 0
IsOne {A} P xs true = (a : A) × IsIn a xs × P a true
IsOne {A} P xs false = (a : A) → IsIn a xs → P a false

-- an execution stands before another
abbrev pub stands_first : Kept → Kept → Bool
stands_first c d = exec_before c.exec d.exec

-- the values of f at executions at or below w, in rising order of execution
pub record IsListUpTo (f : Exec → Option Content) (w : Version) (l : List Kept) : Type 0 where
  pub rises : IsRisingBy stands_first l
  pub sound : (c : Kept) → IsIn c l → (f c.exec ≡ Some c.content) × (before w c.exec.ver ≡ false)
  pub complete : (c : Kept) → f c.exec ≡ Some c.content → before w c.exec.ver ≡ false → IsIn c l
