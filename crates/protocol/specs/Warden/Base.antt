-- The base that a Drop carries.
use Rattle.std.specs.Prelude.{ℕ, suc, cond, List, [], ◌∷◌, ◌++◌, Option, Some, None, flat_map}
use Rattle.protocol.specs.Words.{Version, Exec, Kept, Write, BaseEntry, before, same_key, key_before, wid_before, Content}
use Rattle.protocol.specs.Warden.State.{WardenState, DecidedProposal, FencedAnswer, decision_on}

-- of two writes of a key the one of the greater name stays, the first of equals
abbrev pub put_entry : BaseEntry → List BaseEntry → List BaseEntry
put_entry b [] = b ∷ []
put_entry b (c ∷ cs) =
    cond (same_key b.key c.key) (cond (wid_before c.wid b.wid) (b ∷ cs) (c ∷ cs))
    (cond (key_before b.key c.key) (b ∷ c ∷ cs) (c ∷ put_entry b cs))

-- the entries go in one after another
abbrev pub put_entries : List BaseEntry → List BaseEntry → List BaseEntry
put_entries base [] = base
put_entries base (b ∷ bs) = put_entries (put_entry b base) bs

-- the writes of x as entries, where i is the place of the first
abbrev pub entries_of : Exec → ℕ → List Write → List BaseEntry
entries_of x i [] = []
entries_of x i (w ∷ ws) = record { key = w.key; wid = record { ver = x.ver; eid = x.eid; seq = i }; value = w.value } ∷ entries_of x (suc i) ws

-- the writes at or below w of the contents named as committed
abbrev pub kept_entries : Version → List Kept → List BaseEntry
kept_entries version cs = flat_map (λ (c : Kept). cond (before version c.exec.ver) [] (entries_of c.exec 1 c.content.writes)) cs

-- the writes of a content, if there is one
abbrev pub content_entries : Exec → Option Content → List BaseEntry
content_entries x None = []
content_entries x (Some k) = entries_of x 1 k.writes

-- the writes that this warden decided Commit of
abbrev pub decided_entries_of : Exec → Option DecidedProposal → List BaseEntry
decided_entries_of x None = []
decided_entries_of x (Some d) = content_entries x d.proposal.content

-- the writes at or below w of the contents named as voted that this warden decided Commit of
abbrev pub decided_entries : Version → WardenState → List Kept → List BaseEntry
decided_entries version s cs = flat_map (λ (c : Kept). cond (before version c.exec.ver) [] (decided_entries_of c.exec (decision_on s c.exec))) cs

-- the base: for each key, rising, the write of the greatest name among all these
unfoldable pub base_of : Version → WardenState → List FencedAnswer → List BaseEntry
base_of version s answers = put_entries []
    (flat_map (λ (a : FencedAnswer). a.base) answers
    ++ (flat_map (λ (a : FencedAnswer). kept_entries version a.committed) answers
    ++ flat_map (λ (a : FencedAnswer). decided_entries version s a.voted) answers))
