-- What a run says of the links that come back, slot by slot.
use Rattle.std.proofs.Common.{◌≡◌, ℕ, zero, suc, Bool, true, false, List, [], ◌∷◌, Option, Some, None, is_some, refl, subst}
use Rattle.std.specs.List.{slice_get}
use Rattle.std.specs.Option.{option_map}
use Rattle.morty_base.specs.declared.names.NodeId.{NodeId}
use Rattle.net_core.specs.Machine.{History, Machine}
use Rattle.net_core.specs.Minds.{fresh_mind}
use Rattle.net_core.specs.Ruled.{LinkState, begun, AllRuled}
use Rattle.net_core.specs.declared.plan.LinkPlan.{LinkPlan}
use Rattle.net_core.specs.declared.link.LinkMind.{LinkMind}
use Rattle.hub.specs.Starts.{IsLinkAt, AreLinks}

-- the link of a slot's node, which was so at the start and is so now
pub record IsBack (m : Machine) (h : History) (n : NodeId) (a : LinkState) (now : List LinkState) (slot : ℕ) : Type 0 where
  pub link : LinkState
  pub there : slice_get now slot ≡ Some link
  pub is_at : IsLinkAt m h n a link

-- each link that was handed in comes back
pub link_back : (m : Machine) (h : History) (nodes : List NodeId) (first now : List LinkState) (slot : ℕ) (n : NodeId) (a : LinkState) →
    slice_get nodes slot ≡ Some n → slice_get first slot ≡ Some a → AreLinks m h nodes first now → IsBack m h n a now slot
link_back m h [] first now slot n a here is links = absurd (let t : ◌≡◌ {A = Option NodeId} None (Some n) = here in cc)
link_back m h (k ∷ nodes) [] now slot n a here is links = absurd links
link_back m h (k ∷ nodes) (x ∷ first) [] slot n a here is links = absurd links
link_back m h (k ∷ nodes) (x ∷ first) (b ∷ now) zero n a here is links =
    let t : ◌≡◌ {A = Option NodeId} (Some k) (Some n) = here in
    let i : ◌≡◌ {A = Option LinkState} (Some x) (Some a) = is in
    let node : k ≡ n = cc in
    let link : x ≡ a = cc in
    record {
      link = b;
      there = refl;
      is_at = subst (λ k'. IsLinkAt m h k' a b) node (subst (λ x'. IsLinkAt m h k x' b) link links.0);
    }
link_back m h (k ∷ nodes) (x ∷ first) (b ∷ now) (suc slot) n a here is links =
    let back = link_back m h nodes first now slot n a here is links.1 in record { link = back.link; there = back.there; is_at = back.is_at }

is_fresh : (o : Option LinkMind) (fresh : LinkMind) → is_some o ≡ true → option_map (λ _. fresh) o ≡ Some fresh
is_fresh (Some mind) fresh told = refl
is_fresh None fresh told = absurd (let t : false ≡ true = told in cc)

-- one that tells its mind and was begun with a plan has followed its rule from the fresh mind of that plan on
pub followed : (m : Machine) (h : History) (n : NodeId) (a b : LinkState) (plan : LinkPlan) → is_some a.mind ≡ true →
    IsLinkAt m h n (begun plan a) b → AllRuled a.kind (fresh_mind a.kind a.slot plan) m n h
followed m h n a b plan told at = at.ruled (fresh_mind a.kind a.slot plan) (is_fresh a.mind (fresh_mind a.kind a.slot plan) told)
