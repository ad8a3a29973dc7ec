-- What the words of a call ask for: the table of its commands.
use Rattle.std.specs.Prelude.{ℕ, ◌+◌, ◌-◌, ◌≤◌, ⊤, Bool, true, false, not, ◌&&◌, ◌==◌, nat_lt, nat_le, length, take, drop, if◌then◌else◌, List, [], ◌∷◌, codes, Option, Some, None, is_some}
use Rattle.std.specs.Option.{option_map, option_and_then}
use Rattle.std.specs.List.{list_all, position}
use Rattle.std.specs.Str.{bytes_eq}
use Rattle.morty_base.specs.Names.{same_version}
use Rattle.morty_base.specs.ScriptNames.{is_digit}
use Rattle.txn_text.specs.Bytes.{number_of}
use Rattle.lab.specs.declared.generated.TheConstants.{GREATEST_SEED, MOST_GENERATED}
use Rattle.serial_ref.specs.declared.item.SerialItem.{SerialItem}
use Rattle.serial_ref.specs.SerialItem.{DifferInVersion}
use Rattle.script_cli.specs.declared.words.Command.{Command}
use Rattle.script_cli.specs.declared.words.Command.TheVariants.{Run, Serial, Check, Trace, Gen, Big}
use Rattle.script_cli.specs.declared.words.Seeded.{Seeded}
use Rattle.script_cli.specs.declared.words.TheConstants.{GREATEST_NUMBER}

-- digits, at least one
abbrev pub is_decimal : List ℕ → Bool
is_decimal word = nat_lt 0 (length word) && list_all is_digit word

abbrev pub number_if : Bool → ℕ → ℕ → ℕ → Option ℕ
number_if decimal least most n = if decimal && (nat_le least n && nat_le n most) then Some n else None

-- the number that a word says: digits without a sign, where leading zeros are allowed, from the least to the most
abbrev pub number_said : ℕ → ℕ → List ℕ → Option ℕ
number_said least most word = number_if (is_decimal word) least most (number_of word)

abbrev pub is_byte : ℕ → ℕ → Bool
is_byte byte b = b == byte

-- what stands before a byte at its first place, and behind it
abbrev pub front_to : ℕ → List ℕ → Option (List ℕ)
front_to byte word = option_map (λ i. take i word) (position (is_byte byte) word)

abbrev pub back_from : ℕ → List ℕ → Option (List ℕ)
back_from byte word = option_map (λ i. drop (i + 1) word) (position (is_byte byte) word)

-- the number of a client or of a transaction
abbrev pub count_said : List ℕ → Option ℕ
count_said word = number_said 1 GREATEST_NUMBER word

abbrev pub item_of : Option ℕ → Option ℕ → Option ℕ → Option SerialItem
item_of (Some ts) (Some client) (Some txn) = Some (record { ver = record { ts = ts; client = client }; client = client; txn = txn })
item_of _ _ _ = None

-- the transaction and the version that a word TS.C:N says
abbrev pub item_said : List ℕ → Option SerialItem
item_said word =
    let names = back_from 46 word in
    item_of (option_and_then (number_said 1 GREATEST_SEED) (front_to 46 word)) (option_and_then count_said (option_and_then (front_to 58) names))
    (option_and_then count_said (option_and_then (back_from 58) names))

abbrev pub with_item : Option SerialItem → Option (List SerialItem) → Option (List SerialItem)
with_item (Some item) (Some items) = Some (item ∷ items)
with_item _ _ = None

-- those of all words, where each says one
abbrev pub items_said : List (List ℕ) → Option (List SerialItem)
items_said [] = Some []
items_said (word ∷ words) = with_item (item_said word) (items_said words)

-- no two items have one version
abbrev pub differ : List SerialItem → Bool
differ [] = true
differ (i ∷ is) = list_all (λ j. not (same_version i.ver j.ver)) is && differ is

abbrev pub serial_if : Option (List SerialItem) → Option Command
serial_if None = None
serial_if (Some items) = if differ items then Some (Serial items) else None

-- behind `serial` stand transactions at versions that differ
abbrev pub serial_of : List (List ℕ) → Option Command
serial_of rest = serial_if (items_said rest)

abbrev pub sized : ℕ → Option ℕ → Option Seeded
sized seed None = None
sized seed (Some size) = Some (record { seed = seed; size = size })

abbrev pub seeded : Option ℕ → List ℕ → Option Seeded
seeded None size = None
seeded (Some seed) size = sized seed (number_said 1 MOST_GENERATED size)

-- a seed and a size
abbrev pub seeded_of : List (List ℕ) → Option Seeded
seeded_of (seed ∷ size ∷ []) = seeded (number_said 0 GREATEST_SEED seed) size
seeded_of rest = None

-- how many workers a word asks for: one digit, from 1 to 8
abbrev pub digit_said : ℕ → Option ℕ
digit_said digit = if nat_le 49 digit && nat_le digit 56 then Some (digit - 48) else None

abbrev pub workers_said : List ℕ → Option ℕ
workers_said (digit ∷ []) = digit_said digit
workers_said _ = None

-- how many the words behind `run` ask for: one, where there are none
abbrev pub workers_of : List (List ℕ) → Option ℕ
workers_of [] = Some 1
workers_of (word ∷ []) = if bytes_eq (take 10 word) (codes "--workers=") then workers_said (drop 10 word) else None
workers_of (word ∷ count ∷ []) = if bytes_eq word (codes "--workers") then workers_said count else None
workers_of rest = None

abbrev pub run_of : List (List ℕ) → Option Command
run_of rest = option_map Run (workers_of rest)

-- behind `check` and `trace` stands no word
abbrev pub alone : Command → List (List ℕ) → Option Command
alone command [] = Some command
alone command (word ∷ rest) = None

-- behind `gen` and `big` stand a seed and a size
abbrev pub generating : Option Seeded → Option Command
generating None = None
generating (Some s) = Some (Gen s)

abbrev pub summing : Option Seeded → Option Command
summing None = None
summing (Some s) = Some (Big s)

-- the command of another first word than `run`
abbrev pub command_but_run : List ℕ → List (List ℕ) → Option Command
command_but_run word rest =
    if bytes_eq word (codes "serial") then serial_of rest
    else (if bytes_eq word (codes "check") then alone Check rest
    else (if bytes_eq word (codes "trace") then alone Trace rest
    else (if bytes_eq word (codes "gen") then generating (seeded_of rest)
    else (if bytes_eq word (codes "big") then summing (seeded_of rest) else None))))

-- the command of a first word and those behind it
abbrev pub command_said : List ℕ → List (List ℕ) → Option Command
command_said word rest = if bytes_eq word (codes "run") then run_of rest else command_but_run word rest

-- the command that the words are, if they are one
abbrev pub command_of : List (List ℕ) → Option Command
command_of [] = None
command_of (word ∷ rest) = command_said word rest

-- a seed and a size are within their limits
pub record IsSeeded (s : Seeded) : Type 0 where
  pub seed : s.seed ≤ GREATEST_SEED
  pub some : 1 ≤ s.size
  pub few : s.size ≤ MOST_GENERATED

-- the numbers of a command are within their limits, and its versions differ
abbrev pub IsInRange : Command → Type 0
IsInRange (Serial items) = DifferInVersion items
IsInRange (Gen s) = IsSeeded s
IsInRange (Big s) = IsSeeded s
IsInRange _ = ⊤

-- the command reads a script from the source
abbrev pub reads : Command → Bool
reads (Gen s) = false
reads (Big s) = false
reads _ = true

-- it runs its script over links
abbrev pub runs : Command → Bool
runs (Run workers) = true
runs Trace = true
runs (Big s) = true
runs _ = false

-- it runs its script by several workers
abbrev pub is_shared : Command → Bool
is_shared (Run workers) = nat_lt 1 workers
is_shared _ = false

-- how many workers the words ask for, where these are several
abbrev pub if_several : Option ℕ → Option ℕ
if_several None = None
if_several (Some workers) = if nat_lt 1 workers then Some workers else None

abbrev pub several_of : List (List ℕ) → Option ℕ
several_of [] = None
several_of (word ∷ rest) = if bytes_eq word (codes "run") then if_several (workers_of rest) else None

abbrev pub wants_workers : List (List ℕ) → Bool
wants_workers words = is_some (several_of words)
