-- Links whose picks follow their rule.
use Rattle.std.specs.Prelude.{◌≡◌, ℕ, true, cond, List, [], ◌∷◌, ◌++◌, Option, IfSome, is_some}
use Rattle.std.specs.Option.{option_map}
use Rattle.morty_base.specs.declared.names.NodeId.{NodeId}
use Rattle.morty_base.specs.Names.{same_node}
use Rattle.msg.specs.declared.Pick.{Pick}
use Rattle.msg.specs.declared.Event.TheVariants.{Picked, Ran}
use Rattle.net_core.specs.Machine.{History, Machine, Menu}
use Rattle.net_core.specs.Minds.{fresh_mind}
use Rattle.net_core.specs.LinkRules.{link_rule}
use Rattle.net_core.specs.declared.plan.LinkKind.{LinkKind}
use Rattle.net_core.specs.declared.plan.LinkPlan.{LinkPlan}
use Rattle.net_core.specs.declared.link.LinkMind.{LinkMind}

-- what can be told of a link: which rule it follows if it tells a mind, for which slot, all that it picked, and its mind
pub record LinkState : Type 0 where
  pub kind : LinkKind
  pub slot : ℕ
  pub picks : List Pick
  pub mind : Option LinkMind

-- a link that was begun with a plan, which keeps its picks
abbrev pub begun : LinkPlan → LinkState → LinkState
begun plan a = record a { mind = option_map (λ _. fresh_mind a.kind a.slot plan) a.mind }

-- where both tell a mind, the pick and the mind after it are the rule's on this menu
abbrev pub IsByRule : LinkKind → Menu → Pick → Option LinkMind → Option LinkMind → Type 0
IsByRule kind menu p before after = IfSome before (λ mind. IfSome after (λ mind'. (p, mind') ≡ link_rule kind mind menu))

-- a link of state a picked p on this menu, and is of state b now
pub record IsPicked (menu : Menu) (p : Pick) (a b : LinkState) : Type 0 where
  pub kind : b.kind ≡ a.kind
  pub slot : b.slot ≡ a.slot
  pub picks : b.picks ≡ a.picks ++ p ∷ []
  pub told : is_some b.mind ≡ is_some a.mind
  pub rule : IsByRule a.kind menu p a.mind b.mind

-- the mind of a node's link after a history, where it was this at first
abbrev pub mind_after : LinkKind → LinkMind → Machine → NodeId → History → LinkMind
mind_after kind first m n [] = first
mind_after kind first m n (Picked k p ∷ h) =
    cond (same_node n k) (link_rule kind (mind_after kind first m n h) (m.menu h n)).1 (mind_after kind first m n h)
mind_after kind first m n (Ran c ∷ h) = mind_after kind first m n h

-- the pick is the rule's, if it is of this node
abbrev pub IsRuled : LinkKind → LinkMind → Machine → NodeId → NodeId → Pick → History → Type 0
IsRuled kind first m n k p h = same_node n k ≡ true → p ≡ (link_rule kind (mind_after kind first m n h) (m.menu h n)).0

-- each pick of the node is the one that the rule gives, one after another from this mind on, on the menus before them
abbrev pub AllRuled : LinkKind → LinkMind → Machine → NodeId → History → Type 0
AllRuled kind first m n [] = Unit {0}
AllRuled kind first m n (Picked k p ∷ h) = IsRuled kind first m n k p h × AllRuled kind first m n h
AllRuled kind first m n (Ran c ∷ h) = AllRuled kind first m n h
