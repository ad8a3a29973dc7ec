-- A cell stands for what a list says of its execution, once an Ask or a Finalize of it came.
use Rattle.std.proofs.Common.{◌≡◌, ℕ, ◌<◌, ◌≤◌, refl, sym, ap, ◌∙◌, true, List, [], ◌∷◌, Option, Some, None, arith}
use Rattle.std.specs.Prelude.{is_none, option_map, nat_le, nat_lt}
use Rattle.std.proofs.lemmas.Bool.{le-leb, lt-leb, le-ltb, lt-ltb}
use Rattle.protocol.specs.Words.{Exec, NodeId, Choice, Content, Envelope, Finalize, Accepted, Ask, Told}
use Rattle.std.specs.Option.{option_or}
use Rattle.protocol.specs.Replica.Taken.{Handled}
use Rattle.protocol.specs.Replica.Acceptor.{promised, decided}
use Rattle.protocol.specs.Replica.Votes.{Cast, casts, cast_on, may_vote, known}
use Rattle.protocol.specs.Replica.Says.{answer}
use Rattle.protocol.specs.declared.First2.{First2}
use Rattle.protocol.proofs.NamesLemmas.{same_exec_refl}
use Rattle.view_cell.specs.declared.Cell.{Cell}
use Rattle.view_cell.specs.Cell.{StandsFor, with_pair, open_to_vote}

-- an option is itself where nothing stands behind it
pub first_alone : {A : Type 0} (o : Option A) → option_or o None ≡ o
first_alone None = refl
first_alone (Some a) = refl

-- an Ask of x in view v
abbrev asks : NodeId → NodeId → Exec → ℕ → Envelope
asks from to x v = record { from = from; to = to; body = Ask x v }

-- a Finalize of x in view v
abbrev proposes : NodeId → NodeId → Exec → ℕ → Choice → Option Content → Envelope
proposes from to x v d k = record { from = from; to = to; body = Finalize x v d k }

-- a promise stands for the list with the Ask
pub ask_taken : (h : Handled) (x : Exec) (from to : NodeId) (c : Cell) (v : ℕ) → c.promised < v → StandsFor h x c →
    StandsFor (asks from to x v ∷ h) x (record c { promised = v })
ask_taken h x from to c v above cell =
    let e : c.promised ≡ promised h x = cell.promise in
    record {
      promise = rw same_exec_refl (omega arith);
      vote = cell.vote;
      accept = cell.accept;
      decision = cell.decision ∙ sym (first_alone (decided h x));
    }

-- an Ask of a higher view is answered with what the cell tells
pub ask_told : (firsts : List First2) (h : Handled) (x : Exec) (c : Cell) (v : ℕ) → c.promised < v → StandsFor h x c →
    answer firsts h (Ask x v) ≡ Told x v c.vote c.accepted c.decided (known h x) ∷ []
unfolding answer
ask_told firsts h x c v above cell =
    let e : c.promised ≡ promised h x = cell.promise in
    let t : nat_lt (promised h x) v ≡ true = lt-ltb (promised h x) v (omega arith) in
    rw (t, ← cell.vote, ← cell.accept, ← cell.decision) refl

-- an Ask of no higher view is not answered
pub ask_unanswered : (firsts : List First2) (h : Handled) (x : Exec) (c : Cell) (v : ℕ) → v ≤ c.promised → StandsFor h x c →
    answer firsts h (Ask x v) ≡ []
unfolding answer
ask_unanswered firsts h x c v low cell =
    let e : c.promised ≡ promised h x = cell.promise in
    rw (le-ltb (promised h x) v (omega arith)) refl

-- the pair stands for the list with the Finalize
pub finalize_taken : (h : Handled) (x : Exec) (k : Option Content) (from to : NodeId) (c : Cell) (v : ℕ) (d : Choice) → c.promised ≤ v → StandsFor h x c →
    StandsFor (proposes from to x v d k ∷ h) x (with_pair c v d)
finalize_taken h x k from to c v d up cell =
    let e : c.promised ≡ promised h x = cell.promise in
    let t : nat_le (promised h x) v ≡ true = le-leb (promised h x) v (omega arith) in
    record {
      promise = rw same_exec_refl (omega arith);
      vote = cell.vote;
      accept = rw (t, same_exec_refl) refl;
      decision = cell.decision ∙ sym (first_alone (decided h x));
    }

-- a Finalize of no lower view is answered
pub finalize_answered : (firsts : List First2) (h : Handled) (x : Exec) (k : Option Content) (c : Cell) (v : ℕ) (d : Choice) → c.promised ≤ v → StandsFor h x c →
    answer firsts h (Finalize x v d k) ≡ Accepted x v ∷ []
unfolding answer
finalize_answered firsts h x k c v d up cell =
    let e : c.promised ≡ promised h x = cell.promise in
    rw (le-leb (promised h x) v (omega arith)) refl

-- a Finalize of a lower view is not answered
pub finalize_unanswered : (firsts : List First2) (h : Handled) (x : Exec) (k : Option Content) (c : Cell) (v : ℕ) (d : Choice) → v < c.promised → StandsFor h x c →
    answer firsts h (Finalize x v d k) ≡ []
unfolding answer
finalize_unanswered firsts h x k c v d low cell =
    let e : c.promised ≡ promised h x = cell.promise in
    rw (lt-leb (promised h x) v (omega arith)) refl

-- a mapped option is there where the option is
none_mapped : {A B : Type 0} (f : A → B) (o : Option A) → is_none (option_map f o) ≡ is_none o
none_mapped f None = refl
none_mapped f (Some a) = refl

-- a cell is open to a vote where its list is
pub open_is : (h : Handled) (x : Exec) (c : Cell) → StandsFor h x c → may_vote h (casts h) x ≡ open_to_vote c
unfolding may_vote
open_is h x c cell =
    let n : is_none c.vote ≡ is_none (cast_on x (casts h)) = ap is_none cell.vote ∙ none_mapped (λ (y : Cast). y.vote) (cast_on x (casts h)) in
    rw (n, cell.promise, cell.decision) refl
