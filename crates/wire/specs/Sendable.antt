-- Which envelopes have a frame, in plain words.
use Rattle.std.specs.Prelude.{◌≡◌, ◌≤◌, Bool, true, List, [], ◌∷◌, length, IfSome}
use Rattle.std.specs.List.{All}
use Rattle.morty_base.specs.declared.names.NodeId.{NodeId}
use Rattle.morty_base.specs.declared.names.NodeId.TheVariants as nodes
use Rattle.morty_base.specs.Names.{key_before, exec_before}
use Rattle.msg.specs.declared.Content.{Content}
use Rattle.msg.specs.declared.Kept.{Kept}
use Rattle.msg.specs.declared.BaseEntry.{BaseEntry}
use Rattle.msg.specs.declared.Body.{Body}
use Rattle.msg.specs.declared.Body.TheVariants as bodies
use Rattle.msg.specs.declared.Envelope.{Envelope}
use Rattle.wire.specs.Values.{most_short, most_long}
use Rattle.wire.specs.Bodies.{choice_of}
use Rattle.wire.specs.Frame.{client, replica, warden, most_nodes}

-- a node's number is one of those that there may be
abbrev pub IsNumbered : NodeId → Type 0
IsNumbered (nodes.Client n) = (1 ≤ n) × (n ≤ most_nodes client)
IsNumbered (nodes.Replica n) = (1 ≤ n) × (n ≤ most_nodes replica)
IsNumbered (nodes.Warden n) = (1 ≤ n) × (n ≤ most_nodes warden)

-- each list of a content is short enough for a count of 2 bytes
pub record IsShort (c : Content) : Type 0 where
  pub reads : length c.reads ≤ most_short
  pub writes : length c.writes ≤ most_short
  pub out : length c.out ≤ most_short

abbrev pub IsBelowFirst : {A : Type 0} → (A → A → Bool) → A → List A → Type 0
IsBelowFirst earlier x [] = Unit {0}
IsBelowFirst earlier x (y ∷ ys) = earlier x y ≡ true

-- each item stands above the one before it
abbrev pub Rises : {A : Type 0} → (A → A → Bool) → List A → Type 0
Rises earlier [] = Unit {0}
Rises earlier (x ∷ xs) = IsBelowFirst earlier x xs × Rises earlier xs

pub record IsBase (entries : List BaseEntry) : Type 0 where
  pub count : length entries ≤ most_long
  pub rising : Rises (λ d e. key_before d.key e.key) entries

pub record IsKept (entries : List Kept) : Type 0 where
  pub count : length entries ≤ most_long
  pub rising : Rises (λ d e. exec_before d.exec e.exec) entries
  pub short : All (λ e. IsShort e.content) entries

-- a content stands exactly for Commit, lists are within their limits, and those that rise do
abbrev pub IsFit : Body → Type 0
IsFit (bodies.Puts x ws) = length ws ≤ most_short
IsFit (bodies.Prepare x c) = IsShort c
IsFit (bodies.Finalize x n b c) = (b ≡ choice_of c) × IfSome c IsShort
IsFit (bodies.Decide x b c) = (b ≡ choice_of c) × IfSome c IsShort
IsFit (bodies.Told x n v a d c) = IfSome c IsShort
IsFit (bodies.Fenced w b c v) = IsBase b × IsKept c × IsKept v
IsFit (bodies.Drop w b) = IsBase b
IsFit b = Unit {0}

-- The sender and the receiver are numbered within the limits, and the body is fit to be sent.
pub record MaySend (m : Envelope) : Type 0 where
  pub from : IsNumbered m.from
  pub to : IsNumbered m.to
  pub body : IsFit m.body
