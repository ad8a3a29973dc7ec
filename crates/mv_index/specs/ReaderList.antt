-- Readers with what they were told last.
use Rattle.std.specs.Prelude.{ℕ, suc, Bool, true, false, cond, ◌&&◌, ◌||◌, List, [], ◌∷◌, Option, Some, None}
use Rattle.protocol.specs.Words.{Version, Key, before, same_version, key_before, same_key}
use Rattle.protocol.specs.Lists.{IsRisingBy}
use Rattle.protocol.specs.declared.Held.{Held}
use Rattle.protocol.specs.Replica.Readers.{Reader as ReaderOf}
use Rattle.mv_index.specs.declared.reader_list.Reader.{Reader}

abbrev pub reader_of : Reader → ReaderOf
reader_of r = record { key = r.key; ver = r.ver }

-- how many elements pass the test before one that does not
abbrev pub prefix : {A : Type 0} → (A → Bool) → List A → ℕ
prefix p [] = 0
prefix p (x ∷ xs) = cond (p x) (suc (prefix p xs)) 0

-- the reader stands before this key and version
abbrev pub stands_before : Key → Version → Reader → Bool
stands_before k v r = key_before r.key k || (same_key r.key k && before r.ver v)

-- it is of this key and version
abbrev pub is_at : Option Reader → Key → Version → Bool
is_at None k v = false
is_at (Some r) k v = same_key k r.key && same_version v r.ver

-- readers stand in rising order of key and version, each once; one that stands there keeps its mark
abbrev pub put_marked : Reader → List Reader → List Reader
put_marked r [] = r ∷ []
put_marked r (s ∷ ss) =
    cond (key_before r.key s.key || (same_key r.key s.key && before r.ver s.ver)) (r ∷ s ∷ ss)
    (cond (same_key r.key s.key && same_version r.ver s.ver) (s ∷ ss) (s ∷ put_marked r ss))

-- the reader of a key at a version was told this
abbrev pub told_at : Key → Version → Held → Reader → Reader
told_at k v a r = cond (same_key k r.key && same_version v r.ver) (record r { told = Some a }) r

abbrev pub IsInOrder : List Reader → Type 0
IsInOrder rs = IsRisingBy (λ r s. stands_before s.key s.ver r) rs
