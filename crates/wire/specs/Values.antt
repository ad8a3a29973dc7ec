-- The fields of plain values: names, bytes that name something, and lists.
use Rattle.std.specs.Prelude.{ℕ, Bool, true, false, nat_le, ℤ, List, [], ◌∷◌, Option, Some, None, if◌then◌else◌}
use Rattle.morty_base.specs.declared.names.Version.{Version}
use Rattle.morty_base.specs.declared.names.Exec.{Exec}
use Rattle.morty_base.specs.declared.names.Wid.{Wid}
use Rattle.morty_base.specs.declared.names.Key.{Key}
use Rattle.morty_base.specs.declared.names.Ending.{Ending}
use Rattle.morty_base.specs.declared.names.Ending.TheVariants as endings
use Rattle.morty_base.specs.Names.{key_before, exec_before}
use Rattle.msg.specs.declared.Vote.{Vote}
use Rattle.msg.specs.declared.Vote.TheVariants as votes
use Rattle.msg.specs.declared.Choice.{Choice}
use Rattle.msg.specs.declared.Choice.TheVariants as choices
use Rattle.msg.specs.declared.Read.{Read}
use Rattle.msg.specs.declared.Write.{Write}
use Rattle.msg.specs.declared.Content.{Content}
use Rattle.msg.specs.declared.Accept.{Accept}
use Rattle.msg.specs.declared.Kept.{Kept}
use Rattle.msg.specs.declared.BaseEntry.{BaseEntry}
use Rattle.wire.specs.declared.fault.FrameFault.TheVariants as faults
use Rattle.wire.specs.Field.{Field, u16, u32, u64, i64, named, ◌&◌, shaped, checked, optional, counted}

-- ---- names

unfoldable pub version : Field Version
version = shaped (λ v. (v.ts, v.client)) (λ p. record { ts = p.0; client = p.1 }) (u64 & u32)

unfoldable pub exec : Field Exec
exec = shaped (λ x. (x.ver, x.eid)) (λ p. record { ver = p.0; eid = p.1 }) (version & u32)

unfoldable pub wid : Field Wid
wid = shaped (λ d. (d.ver, (d.eid, d.seq))) (λ p. record { ver = p.0; eid = p.1.0; seq = p.1.1 }) (version & u32 & u32)

unfoldable pub key : Field Key
key = shaped (λ k. (k.table, k.index)) (λ p. record { table = p.0; index = p.1 }) (u16 & i64)

unfoldable pub view : Field ℕ
view = u32

-- ---- bytes that name something

unfoldable pub flag : Field Bool
flag = named (false ∷ true ∷ []) (λ b. if b then 1 else 0)

abbrev pub vote_code : Vote → ℕ
vote_code votes.Commit = 0
vote_code votes.Tentative = 1
vote_code votes.Final = 2

unfoldable pub vote : Field Vote
vote = named (votes.Commit ∷ votes.Tentative ∷ votes.Final ∷ []) vote_code

abbrev pub told_vote_code : Option Vote → ℕ
told_vote_code None = 0
told_vote_code (Some votes.Commit) = 1
told_vote_code (Some votes.Tentative) = 2
told_vote_code (Some votes.Final) = 3

unfoldable pub told_vote : Field (Option Vote)
told_vote = named (None ∷ Some votes.Commit ∷ Some votes.Tentative ∷ Some votes.Final ∷ []) told_vote_code

abbrev pub choice_code : Choice → ℕ
choice_code choices.Abandon = 0
choice_code choices.Commit = 1

unfoldable pub choice : Field Choice
choice = named (choices.Abandon ∷ choices.Commit ∷ []) choice_code

abbrev pub decided_code : Option Choice → ℕ
decided_code None = 0
decided_code (Some choices.Abandon) = 1
decided_code (Some choices.Commit) = 2

unfoldable pub decided : Field (Option Choice)
decided = named (None ∷ Some choices.Abandon ∷ Some choices.Commit ∷ []) decided_code

abbrev pub ending_code : Ending → ℕ
ending_code endings.Done = 0
ending_code endings.Abort = 1
ending_code endings.Overflow = 2
ending_code endings.ZeroDivisor = 3

unfoldable pub ending : Field Ending
ending = named (endings.Done ∷ endings.Abort ∷ endings.Overflow ∷ endings.ZeroDivisor ∷ []) ending_code

-- ---- lists and contents

-- the most items that a count of 2 bytes may name
abbrev pub most_short : ℕ
most_short = 64

-- the most items that a count of 4 bytes may name
abbrev pub most_long : ℕ
most_long = 67108864

unfoldable pub write : Field Write
write = shaped (λ w. (w.key, w.value)) (λ p. record { key = p.0; value = p.1 }) (key & i64)

unfoldable pub read : Field Read
read = shaped (λ r. (r.key, (r.wid, r.value))) (λ p. record { key = p.0; wid = p.1.0; value = p.1.1 }) (key & wid & i64)

unfoldable pub reads : Field (List Read)
reads = counted u16 most_short (λ before. read)

unfoldable pub writes : Field (List Write)
writes = counted u16 most_short (λ before. write)

unfoldable pub out : Field (List ℤ)
out = counted u16 most_short (λ before. i64)

unfoldable pub content : Field Content
content = shaped (λ c. (c.reads, (c.writes, (c.out, c.ending))))
    (λ p. record { reads = p.0; writes = p.1.0; out = p.1.1.0; ending = p.1.1.1 })
    (reads & writes & out & ending)

-- a flag, or a choice, and behind a 1 the content
unfoldable pub chosen : Field (Option Content)
chosen = optional content

-- the key stands above that of the entry before
abbrev pub is_key_above : Option BaseEntry → Key → Bool
is_key_above None k = true
is_key_above (Some e) k = key_before e.key k

unfoldable pub base_key : Option BaseEntry → Field Key
base_key before = checked faults.Order (is_key_above before) key

unfoldable pub base_entry : Option BaseEntry → Field BaseEntry
base_entry before = shaped (λ e. (e.key, (e.wid, e.value))) (λ p. record { key = p.0; wid = p.1.0; value = p.1.1 }) (base_key before & wid & i64)

unfoldable pub base : Field (List BaseEntry)
base = counted u32 most_long base_entry

-- the execution stands above that of the entry before
abbrev pub is_exec_above : Option Kept → Exec → Bool
is_exec_above None x = true
is_exec_above (Some e) x = exec_before e.exec x

unfoldable pub kept_exec : Option Kept → Field Exec
kept_exec before = checked faults.Order (is_exec_above before) exec

unfoldable pub kept_entry : Option Kept → Field Kept
kept_entry before = shaped (λ e. (e.exec, e.content)) (λ p. record { exec = p.0; content = p.1 }) (kept_exec before & content)

unfoldable pub kept : Field (List Kept)
kept = counted u32 most_long kept_entry

unfoldable pub accept : Field Accept
accept = shaped (λ a. (a.view, a.choice)) (λ p. record { view = p.0; choice = p.1 }) (view & choice)

-- a count of 2 bytes
abbrev pub short_count : Field ℕ
short_count = checked faults.Long (λ n. nat_le n most_short) u16

-- a count of 4 bytes
abbrev pub long_count : Field ℕ
long_count = checked faults.Long (λ n. nat_le n most_long) u32
