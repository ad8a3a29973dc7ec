-- Each field of a plain value is exact.
use Rattle.std.proofs.Common.{◌≡◌, Bool, true, false, List, [], ◌∷◌, Option, Some, None, refl, arith}
use Rattle.std.specs.Prelude.{◌==◌, if◌then◌else◌}
use Rattle.std.specs.List.{find}
use Rattle.morty_base.specs.declared.names.Ending.{Ending}
use Rattle.morty_base.specs.declared.names.Ending.TheVariants as endings
use Rattle.msg.specs.declared.Vote.{Vote}
use Rattle.msg.specs.declared.Vote.TheVariants as votes
use Rattle.msg.specs.declared.Choice.{Choice}
use Rattle.msg.specs.declared.Choice.TheVariants as choices
use Rattle.msg.specs.declared.Kept.{Kept}
use Rattle.msg.specs.declared.BaseEntry.{BaseEntry}
use Rattle.wire.specs.declared.fault.FrameFault.TheVariants as faults
use Rattle.wire.specs.Values.{version, exec, wid, key, view, flag, vote, vote_code, told_vote, told_vote_code, choice, choice_code, decided, decided_code, ending, ending_code, most_short, most_long, write, read, reads, writes, out, content, chosen, is_key_above, base_key, base_entry, base, is_exec_above, kept_exec, kept_entry, kept, accept}
use Rattle.wire.proofs.Exact.{IsExact, u16_exact, u32_exact, u64_exact, u16_counts, u32_counts, i64_exact, named_exact}
use Rattle.wire.proofs.Making.{both_exact, shaped_exact, checked_exact, optional_exact}
use Rattle.wire.proofs.Counting.{counted_exact}

-- ---- names

pub version_exact : IsExact version
unfolding version
version_exact = shaped_exact _ _ (λ v. refl) (λ p. refl) (both_exact u64_exact u32_exact)

pub exec_exact : IsExact exec
unfolding exec
exec_exact = shaped_exact _ _ (λ x. refl) (λ p. refl) (both_exact version_exact u32_exact)

pub wid_exact : IsExact wid
unfolding wid
wid_exact = shaped_exact _ _ (λ d. refl) (λ p. refl) (both_exact version_exact (both_exact u32_exact u32_exact))

pub key_exact : IsExact key
unfolding key
key_exact = shaped_exact _ _ (λ k. refl) (λ p. refl) (both_exact u16_exact i64_exact)

pub view_exact : IsExact view
unfolding view
view_exact = u32_exact

-- ---- bytes that name something

abbrev flags : List Bool
flags = false ∷ true ∷ []

flag_first : (b : Bool) → find (λ y. (if y then 1 else 0) == (if b then 1 else 0)) flags ≡ Some b
flag_first false = refl
flag_first true = refl

pub flag_exact : IsExact flag
unfolding flag
flag_exact = named_exact flags (λ b. if b then 1 else 0) flag_first

abbrev vote_list : List Vote
vote_list = votes.Commit ∷ votes.Tentative ∷ votes.Final ∷ []

vote_first : (v : Vote) → find (λ y. vote_code y == vote_code v) vote_list ≡ Some v
vote_first votes.Commit = refl
vote_first votes.Tentative = refl
vote_first votes.Final = refl

pub vote_exact : IsExact vote
unfolding vote
vote_exact = named_exact vote_list vote_code vote_first

abbrev told_votes : List (Option Vote)
told_votes = None ∷ Some votes.Commit ∷ Some votes.Tentative ∷ Some votes.Final ∷ []

told_vote_first : (v : Option Vote) → find (λ y. told_vote_code y == told_vote_code v) told_votes ≡ Some v
told_vote_first None = refl
told_vote_first (Some votes.Commit) = refl
told_vote_first (Some votes.Tentative) = refl
told_vote_first (Some votes.Final) = refl

pub told_vote_exact : IsExact told_vote
unfolding told_vote
told_vote_exact = named_exact told_votes told_vote_code told_vote_first

abbrev choice_list : List Choice
choice_list = choices.Abandon ∷ choices.Commit ∷ []

choice_first : (c : Choice) → find (λ y. choice_code y == choice_code c) choice_list ≡ Some c
choice_first choices.Abandon = refl
choice_first choices.Commit = refl

choice_exact : IsExact choice
unfolding choice
choice_exact = named_exact choice_list choice_code choice_first

abbrev decisions : List (Option Choice)
decisions = None ∷ Some choices.Abandon ∷ Some choices.Commit ∷ []

decided_first : (d : Option Choice) → find (λ y. decided_code y == decided_code d) decisions ≡ Some d
decided_first None = refl
decided_first (Some choices.Abandon) = refl
decided_first (Some choices.Commit) = refl

pub decided_exact : IsExact decided
unfolding decided
decided_exact = named_exact decisions decided_code decided_first

abbrev ending_list : List Ending
ending_list = endings.Done ∷ endings.Abort ∷ endings.Overflow ∷ endings.ZeroDivisor ∷ []

ending_first : (e : Ending) → find (λ y. ending_code y == ending_code e) ending_list ≡ Some e
ending_first endings.Done = refl
ending_first endings.Abort = refl
ending_first endings.Overflow = refl
ending_first endings.ZeroDivisor = refl

ending_exact : IsExact ending
unfolding ending
ending_exact = named_exact ending_list ending_code ending_first

-- ---- lists and contents

write_exact : IsExact write
unfolding write
write_exact = shaped_exact _ _ (λ w. refl) (λ p. refl) (both_exact key_exact i64_exact)

read_exact : IsExact read
unfolding read
read_exact = shaped_exact _ _ (λ r. refl) (λ p. refl) (both_exact key_exact (both_exact wid_exact i64_exact))

reads_exact : IsExact reads
unfolding reads
reads_exact = counted_exact most_short _ u16_exact (λ n le. u16_counts n (omega (arith, le)))
    (record { exact = λ before. read_exact; same = λ before x. refl; in_range = λ before other x h. h })

pub writes_exact : IsExact writes
unfolding writes
writes_exact = counted_exact most_short _ u16_exact (λ n le. u16_counts n (omega (arith, le)))
    (record { exact = λ before. write_exact; same = λ before x. refl; in_range = λ before other x h. h })

out_exact : IsExact out
unfolding out
out_exact = counted_exact most_short _ u16_exact (λ n le. u16_counts n (omega (arith, le)))
    (record { exact = λ before. i64_exact; same = λ before x. refl; in_range = λ before other x h. h })

pub content_exact : IsExact content
unfolding content
content_exact = shaped_exact _ _ (λ c. refl) (λ p. refl) (both_exact reads_exact (both_exact writes_exact (both_exact out_exact ending_exact)))

pub chosen_exact : IsExact chosen
unfolding chosen
chosen_exact = optional_exact content_exact

base_entry_exact : (before : Option BaseEntry) → IsExact (base_entry before)
unfolding base_entry base_key
base_entry_exact before =
    shaped_exact _ _ (λ e. refl) (λ p. refl) (both_exact (checked_exact faults.Order (is_key_above before) key_exact) (both_exact wid_exact i64_exact))

base_entry_same : (before : Option BaseEntry) (e : BaseEntry) → (base_entry before).frame e ≡ (base_entry None).frame e
unfolding base_entry base_key
base_entry_same before e = refl

base_entry_range : (before other : Option BaseEntry) (e : BaseEntry) → (base_entry before).InRange e → (base_entry other).InRange e
unfolding base_entry base_key
base_entry_range before other e h = h

pub base_exact : IsExact base
unfolding base
base_exact = counted_exact most_long base_entry u32_exact (λ n le. u32_counts n (omega (arith, le)))
    (record { exact = base_entry_exact; same = base_entry_same; in_range = base_entry_range })

kept_entry_exact : (before : Option Kept) → IsExact (kept_entry before)
unfolding kept_entry kept_exec
kept_entry_exact before = shaped_exact _ _ (λ e. refl) (λ p. refl) (both_exact (checked_exact faults.Order (is_exec_above before) exec_exact) content_exact)

kept_entry_same : (before : Option Kept) (e : Kept) → (kept_entry before).frame e ≡ (kept_entry None).frame e
unfolding kept_entry kept_exec
kept_entry_same before e = refl

kept_entry_range : (before other : Option Kept) (e : Kept) → (kept_entry before).InRange e → (kept_entry other).InRange e
unfolding kept_entry kept_exec
kept_entry_range before other e h = h

pub kept_exact : IsExact kept
unfolding kept
kept_exact = counted_exact most_long kept_entry u32_exact (λ n le. u32_counts n (omega (arith, le)))
    (record { exact = kept_entry_exact; same = kept_entry_same; in_range = kept_entry_range })

pub accept_exact : IsExact accept
unfolding accept
accept_exact = shaped_exact _ _ (λ a. refl) (λ p. refl) (both_exact view_exact choice_exact)
