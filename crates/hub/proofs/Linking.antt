-- A link after one more event.
use Rattle.std.proofs.Common.{◌≡◌, ◌≢◌, ℕ, suc, zero, Bool, true, false, cond, List, [], ◌∷◌}
use Rattle.std.proofs.Common.{◌++◌, Option, Some, None, is_some, refl, sym, ◌∙◌, ap, subst, arith, append-nil, length}
use Rattle.std.specs.Prelude.{reverse, slice_set}
use Rattle.std.specs.Option.{option_map}
use Rattle.std.specs.List.{slice_get}
use Rattle.std.proofs.lemmas.List.{append_assoc, reverse-append}
use Rattle.morty_base.specs.declared.names.NodeId.{NodeId}
use Rattle.morty_base.specs.Names.{same_node}
use Rattle.msg.specs.declared.Pick.{Pick}
use Rattle.msg.specs.declared.Event.TheVariants.{Picked, Ran}
use Rattle.net_core.specs.Machine.{History, Machine, Menu}
use Rattle.net_core.specs.Marks.{picks}
use Rattle.net_core.specs.LinkRules.{link_rule}
use Rattle.net_core.specs.Ruled.{LinkState, IsByRule, IsPicked, mind_after}
use Rattle.net_core.specs.declared.plan.LinkKind.{LinkKind}
use Rattle.net_core.specs.declared.link.LinkMind.{LinkMind}
use Rattle.hub.specs.Starts.{IsLinkAt, AreLinks, link_after}

-- the link of a node after a pick of a node that is this one or not
after_pick : Machine → NodeId → LinkState → History → Pick → Bool → LinkState
unfolding link_after
after_pick m n a h p b = record {
  kind = a.kind;
  slot = a.slot;
  picks = a.picks ++ reverse (cond b (p ∷ picks n h) (picks n h));
  mind = option_map (λ first. cond b (link_rule a.kind (mind_after a.kind first m n h) (m.menu h n)).1 (mind_after a.kind first m n h)) a.mind;
}

-- another node's pick changes nothing
link_other : (m : Machine) (h : History) (n k : NodeId) (p : Pick) (a b : LinkState) → same_node n k ≡ false → IsLinkAt m h n a b →
    IsLinkAt m (Picked k p ∷ h) n a b
unfolding after_pick
link_other m h n k p a b other at = record {
  after = at.after ∙ sym (ap (after_pick m n a h p) other);
  ruled = λ first is. ((λ same. absurd (let e : true ≡ false = sym same ∙ other in cc)), at.ruled first is);
}

-- where the mind before was told and came from the first by f, the mind after is the rule's
mind_next : (k : LinkKind) (menu : Menu) (p : Pick) (x : Option LinkMind) (f : LinkMind → LinkMind) (y z : Option LinkMind) → y ≡ option_map f x →
    is_some z ≡ is_some y → IsByRule k menu p y z → z ≡ option_map (λ first. (link_rule k (f first) menu).1) x
mind_next k menu p None f None None e told rule = refl
mind_next k menu p None f None (Some z) e told rule = absurd (let t : true ≡ false = told in cc)
mind_next k menu p None f (Some y) z e told rule = absurd (let t : ◌≡◌ {A = Option LinkMind} (Some y) None = e in cc)
mind_next k menu p (Some x) f None z e told rule = absurd (let t : ◌≡◌ {A = Option LinkMind} None (Some (f x)) = e in cc)
mind_next k menu p (Some x) f (Some y) None e told rule = absurd (let t : false ≡ true = told in cc)
mind_next k menu p (Some x) f (Some y) (Some z) e told rule =
    let t : ◌≡◌ {A = Option LinkMind} (Some y) (Some (f x)) = e in
    let same : y ≡ f x = cc in
    ap (λ (r : Pick × LinkMind). Some r.1) rule ∙ ap (λ w. Some (link_rule k w menu).1) same

-- and so is the pick
pick_ruled : (k : LinkKind) (menu : Menu) (p : Pick) (f : LinkMind → LinkMind) (x y z : Option LinkMind) (first : LinkMind) → x ≡ Some first →
    y ≡ option_map f x → is_some z ≡ is_some y → IsByRule k menu p y z → p ≡ (link_rule k (f first) menu).0
pick_ruled k menu p f None y z first is e told rule = absurd (let t : ◌≡◌ {A = Option LinkMind} None (Some first) = is in cc)
pick_ruled k menu p f (Some x) None z first is e told rule = absurd (let t : ◌≡◌ {A = Option LinkMind} None (Some (f x)) = e in cc)
pick_ruled k menu p f (Some x) (Some y) None first is e told rule = absurd (let t : false ≡ true = told in cc)
pick_ruled k menu p f (Some x) (Some y) (Some z) first is e told rule =
    let t : ◌≡◌ {A = Option LinkMind} (Some y) (Some (f x)) = e in
    let i : ◌≡◌ {A = Option LinkMind} (Some x) (Some first) = is in
    let same : y ≡ f x = cc in
    let same' : x ≡ first = cc in
    ap (λ (r : Pick × LinkMind). r.0) rule ∙ ap (λ w. (link_rule k w menu).0) (same ∙ ap f same')

-- the node's own pick
link_own : (m : Machine) (h : History) (n : NodeId) (p : Pick) (a b c : LinkState) → same_node n n ≡ true → IsLinkAt m h n a b →
    IsPicked (m.menu h n) p b c → IsLinkAt m (Picked n p ∷ h) n a c
unfolding after_pick
link_own m h n p a b c own at now =
    let f : LinkMind → LinkMind = λ first. mind_after a.kind first m n h in
    let kind : b.kind ≡ a.kind = ap (λ s. s.kind) at.after in
    let mind : b.mind ≡ option_map f a.mind = ap (λ s. s.mind) at.after in
    let rule : IsByRule a.kind (m.menu h n) p b.mind c.mind = subst (λ k. IsByRule k (m.menu h n) p b.mind c.mind) kind now.rule in
    record {
      after =
          (let kinds : c.kind ≡ a.kind = now.kind ∙ kind in
          let slots : c.slot ≡ a.slot = now.slot ∙ ap (λ s. s.slot) at.after in
          let all : c.picks ≡ a.picks ++ reverse (p ∷ picks n h) =
          now.picks ∙ ap (λ xs. xs ++ p ∷ []) (ap (λ s. s.picks) at.after) ∙ append_assoc a.picks (reverse (picks n h)) (p ∷ [])
          ∙ ap (λ t. a.picks ++ t) (sym (reverse-append (p ∷ []) (picks n h))) in
          let minds : c.mind ≡ option_map (λ first. (link_rule a.kind (f first) (m.menu h n)).1) a.mind =
          mind_next a.kind (m.menu h n) p a.mind f b.mind c.mind mind now.told rule in
          let to_true : c ≡ after_pick m n a h p true = (λ i. record { kind = kinds i; slot = slots i; picks = all i; mind = minds i }) in
          to_true ∙ sym (ap (after_pick m n a h p) own));
      ruled = λ first is. ((λ same. pick_ruled a.kind (m.menu h n) p f a.mind b.mind c.mind first is mind now.told rule), at.ruled first is);
    }

-- no other place has this node
abbrev pub OthersDiffer : List NodeId → ℕ → NodeId → Type 0
OthersDiffer nodes slot n = (j : ℕ) (k : NodeId) → slice_get nodes j ≡ Some k → j ≢ slot → same_node k n ≡ false

-- where every place differs, nothing changes
links_others : (m : Machine) (h : History) (n : NodeId) (p : Pick) (nodes : List NodeId) (first now : List LinkState) →
    ((j : ℕ) (k : NodeId) → slice_get nodes j ≡ Some k → same_node k n ≡ false) → AreLinks m h nodes first now →
    AreLinks m (Picked n p ∷ h) nodes first now
links_others m h n p [] [] [] others at = tt
links_others m h n p [] [] (b ∷ now) others at = at
links_others m h n p [] (a ∷ first) now others at = at
links_others m h n p (k ∷ nodes) [] now others at = at
links_others m h n p (k ∷ nodes) (a ∷ first) [] others at = at
links_others m h n p (k ∷ nodes) (a ∷ first) (b ∷ now) others at =
    (link_other m h k n p a b (others 0 k refl) at.0, links_others m h n p nodes first now (λ j x e. others (suc j) x e) at.1)

-- a pick of the node of a slot, whose link is now of state c
pub links_pick : (m : Machine) (h : History) (n : NodeId) (p : Pick) (nodes : List NodeId) (first now : List LinkState) (slot : ℕ) (b c : LinkState) →
    same_node n n ≡ true → slice_get nodes slot ≡ Some n → slice_get now slot ≡ Some b → OthersDiffer nodes slot n → IsPicked (m.menu h n) p b c →
    AreLinks m h nodes first now → AreLinks m (Picked n p ∷ h) nodes first (slice_set now slot c)
links_pick m h n p [] [] [] slot b c own here is others now at = absurd (let t : ◌≡◌ {A = Option NodeId} None (Some n) = here in cc)
links_pick m h n p [] [] (x ∷ now) slot b c own here is others new at = absurd at
links_pick m h n p [] (a ∷ first) now slot b c own here is others new at = absurd at
links_pick m h n p (k ∷ nodes) [] now slot b c own here is others new at = absurd at
links_pick m h n p (k ∷ nodes) (a ∷ first) [] slot b c own here is others new at = absurd at
links_pick m h n p (k ∷ nodes) (a ∷ first) (x ∷ now) zero b c own here is others new at =
    let t : ◌≡◌ {A = Option NodeId} (Some k) (Some n) = here in
    let i : ◌≡◌ {A = Option LinkState} (Some x) (Some b) = is in
    let same : k ≡ n = cc in
    let same' : x ≡ b = cc in (
      subst (λ k'. IsLinkAt m (Picked n p ∷ h) k' a c) (sym same)
          (link_own m h n p a b c own (subst (λ x'. IsLinkAt m h n a x') same' (subst (λ k'. IsLinkAt m h k' a x) same at.0)) new),
      links_others m h n p nodes first now (λ j y e. others (suc j) y e (λ z. absurd (omega arith))) at.1,
    )
links_pick m h n p (k ∷ nodes) (a ∷ first) (x ∷ now) (suc slot) b c own here is others new at = (
  link_other m h k n p a x (others 0 k refl (λ z. absurd (omega arith))) at.0,
  links_pick m h n p nodes first now slot b c own here is (λ j y e ne. others (suc j) y e (λ z. ne (omega arith))) new at.1,
)

as_it_was : (x : Option LinkMind) → x ≡ option_map (λ first. first) x
as_it_was None = refl
as_it_was (Some y) = refl

link_first : (m : Machine) (n : NodeId) (a : LinkState) → IsLinkAt m [] n a a
unfolding link_after
link_first m n a = record {
  after = (λ i. record { kind = a.kind; slot = a.slot; picks = sym (append-nil a.picks) i; mind = as_it_was a.mind i });
  ruled = λ first is. tt;
}

-- before the first event each link is as it was handed in
pub links_first : (m : Machine) (nodes : List NodeId) (links : List LinkState) → length nodes ≡ length links → AreLinks m [] nodes links links
links_first m [] [] same = tt
links_first m [] (a ∷ links) same = absurd (omega arith)
links_first m (n ∷ nodes) [] same = absurd (omega arith)
links_first m (n ∷ nodes) (a ∷ links) same = (link_first m n a, links_first m nodes links (omega arith))

-- a segment given back changes no link
link_ran : (m : Machine) (h : History) (n : NodeId) (c : ℕ) (a b : LinkState) → IsLinkAt m h n a b → IsLinkAt m (Ran c ∷ h) n a b
link_ran m h n c a b at = record { after = at.after; ruled = at.ruled }

pub links_ran : (m : Machine) (h : History) (c : ℕ) (nodes : List NodeId) (first now : List LinkState) → AreLinks m h nodes first now →
    AreLinks m (Ran c ∷ h) nodes first now
links_ran m h c [] [] [] at = tt
links_ran m h c [] [] (b ∷ now) at = at
links_ran m h c [] (a ∷ first) now at = at
links_ran m h c (k ∷ nodes) [] now at = at
links_ran m h c (k ∷ nodes) (a ∷ first) [] at = at
links_ran m h c (k ∷ nodes) (a ∷ first) (b ∷ now) at = (link_ran m h k c a b at.0, links_ran m h c nodes first now at.1)
