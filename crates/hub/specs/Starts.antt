-- What a run started from, and what stays true of it.
use Rattle.std.specs.Prelude.{◌≡◌, ℕ, List, [], ◌∷◌, ◌++◌, reverse, Some}
use Rattle.std.specs.Option.{option_map}
use Rattle.morty_base.specs.declared.names.NodeId.{NodeId}
use Rattle.net_core.specs.Machine.{History, Machine}
use Rattle.net_core.specs.Marks.{picks}
use Rattle.net_core.specs.Ruled.{LinkState, mind_after, AllRuled}
use Rattle.net_core.specs.declared.link.LinkMind.{LinkMind}

-- what a run started from: the machine's origin, the turns of each node, and the links in the order of their slots
pub record Start (O : Type 0) : Type 0 where
  pub origin : O
  pub turns : ℕ
  pub links : List LinkState

-- a node's link after a history, where it was so at the start
abbrev pub link_after : Machine → NodeId → LinkState → History → LinkState
link_after m n a h = record {
  kind = a.kind;
  slot = a.slot;
  picks = a.picks ++ reverse (picks n h);
  mind = option_map (λ first. mind_after a.kind first m n h) a.mind;
}

-- the picks of a link that told its mind at the start are those of its rule
abbrev pub FollowsRule : Machine → NodeId → LinkState → History → Type 0
FollowsRule m n a h = (first : LinkMind) → a.mind ≡ Some first → AllRuled a.kind first m n h

-- a node's link, which was so at the start and is so now: its picks are the node's, its mind is the one after them, and it
-- followed its rule
pub record IsLinkAt (m : Machine) (h : History) (n : NodeId) (a b : LinkState) : Type 0 where
  pub after : b ≡ link_after m n a h
  pub ruled : FollowsRule m n a h

-- each link is that of its slot's node
abbrev pub AreLinks : Machine → History → List NodeId → List LinkState → List LinkState → Type 0
AreLinks m h [] [] [] = Unit {0}
AreLinks m h (n ∷ ns) (a ∷ first) (b ∷ now) = IsLinkAt m h n a b × AreLinks m h ns first now
AreLinks m h _ _ _ = ⊥

-- all that a run keeps: the machine is the replay of the journal from the start's origin, and the links are what the
-- journal says of them
pub record IsRun {O : Type 0} (rules : O → Machine) (stands : O → History → Type 0) (s : Start O) (h : History) (now : List LinkState) : Type 0 where
  pub replay : stands s.origin h
  pub links : AreLinks (rules s.origin) h (rules s.origin).nodes s.links now
