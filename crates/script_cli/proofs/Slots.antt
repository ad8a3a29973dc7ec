-- What a run says of the links that come back, slot by slot.
use Rattle.std.proofs.Common.{◌≡◌, ℕ, zero, suc, Bool, true, false, List, [], ◌∷◌, length, Option, Some, None, is_some, refl, sym, ap, ◌∙◌, subst, arith}
use Rattle.std.specs.Prelude.{slice_set, cond, ◌&&◌, ◌==◌}
use Rattle.std.proofs.lemmas.Bool.Decides.{nat_tests}
use Rattle.std.specs.List.{slice_get, find}
use Rattle.std.specs.Option.{option_map}
use Rattle.morty_base.specs.declared.names.NodeId.{NodeId}
use Rattle.net_core.specs.Machine.{History, Machine}
use Rattle.net_core.specs.Minds.{fresh_mind}
use Rattle.net_core.specs.Ruled.{LinkState, begun, AllRuled}
use Rattle.net_core.specs.declared.plan.LinkKind.{LinkKind}
use Rattle.net_core.specs.declared.plan.LinkKind.TheVariants.{Fair, Listed, Seeded}
use Rattle.net_core.specs.declared.link.LinkMind.{LinkMind}
use Rattle.hub.specs.Starts.{IsLinkAt, AreLinks}
use Rattle.script.specs.declared.setup.Setup.{Setup}
use Rattle.script_plans.specs.Plans.{link_kind, link_plan}
use Rattle.links.specs.Choosing.{same_kind, is_for, first_for, AreChosen}
use Rattle.script_cli.specs.Runs.{rules_for, begun_all, AreLinksBack}

module _ (s : Setup) where
  -- the first k links are begun, and the others not yet
  abbrev pub begun_upto : ℕ → List NodeId → List LinkState → List LinkState
  begun_upto zero ns links = links
  begun_upto (suc k) (n ∷ ns) (a ∷ links) = begun (link_plan s n) a ∷ begun_upto k ns links
  begun_upto (suc k) _ links = links

  -- one more is begun
  pub one_more_begun : (k : ℕ) (ns : List NodeId) (links : List LinkState) (n : NodeId) (a : LinkState) →
      slice_get ns k ≡ Some n → slice_get (begun_upto k ns links) k ≡ Some a →
      slice_set (begun_upto k ns links) k (begun (link_plan s n) a) ≡ begun_upto (suc k) ns links
  one_more_begun zero [] links n a node is = absurd (let t : ◌≡◌ {A = Option NodeId} None (Some n) = node in cc)
  one_more_begun zero (m ∷ ns) [] n a node is = absurd (let t : ◌≡◌ {A = Option LinkState} None (Some a) = is in cc)
  one_more_begun zero (m ∷ ns) (x ∷ links) n a node is =
      let t : ◌≡◌ {A = Option NodeId} (Some m) (Some n) = node in
      let i : ◌≡◌ {A = Option LinkState} (Some x) (Some a) = is in
      let same : n ≡ m = cc in
      let link : a ≡ x = cc in
      ap (λ k. begun (link_plan s k) a ∷ links) same ∙ ap (λ b. begun (link_plan s m) b ∷ links) link
  one_more_begun (suc k) [] links n a node is = absurd (let t : ◌≡◌ {A = Option NodeId} None (Some n) = node in cc)
  one_more_begun (suc k) (m ∷ ns) [] n a node is = absurd (let t : ◌≡◌ {A = Option LinkState} None (Some a) = is in cc)
  one_more_begun (suc k) (m ∷ ns) (x ∷ links) n a node is = ap (λ rest. begun (link_plan s m) x ∷ rest) (one_more_begun k ns links n a node is)

  -- all of them are
  pub all_begun : (k : ℕ) (ns : List NodeId) (links : List LinkState) → length ns ≡ k → length links ≡ k → begun_upto k ns links ≡ begun_all s ns links
  all_begun zero [] [] node count = refl
  all_begun zero [] (a ∷ links) node count = absurd (omega arith)
  all_begun zero (n ∷ ns) links node count = absurd (omega arith)
  all_begun (suc k) [] links node count = absurd (omega arith)
  all_begun (suc k) (n ∷ ns) [] node count = absurd (omega arith)
  all_begun (suc k) (n ∷ ns) (a ∷ links) node count =
      ap (λ rest. begun (link_plan s n) a ∷ rest) (all_begun k ns links (omega arith) (omega arith))

  -- the link of a slot, of which one was begun
  record WasBegun (h : History) (m : Machine) (n : NodeId) (chosen : List LinkState) (slot : ℕ) (b : LinkState) : Type 0 where
    first : LinkState
    there : slice_get chosen slot ≡ Some first
    is_at : IsLinkAt m h n (begun (link_plan s n) first) b

  was_begun : (m : Machine) (h : History) (ns : List NodeId) (chosen back : List LinkState) (slot : ℕ) (n : NodeId) (b : LinkState) →
      slice_get ns slot ≡ Some n → slice_get back slot ≡ Some b → AreLinks m h ns (begun_all s ns chosen) back → WasBegun h m n chosen slot b
  was_begun m h [] chosen back slot n b node is links = absurd (let t : ◌≡◌ {A = Option NodeId} None (Some n) = node in cc)
  was_begun m h (k ∷ ns) [] back slot n b node is links = absurd links
  was_begun m h (k ∷ ns) (a ∷ chosen) [] slot n b node is links = absurd links
  was_begun m h (k ∷ ns) (a ∷ chosen) (x ∷ back) zero n b node is links =
      let t : ◌≡◌ {A = Option NodeId} (Some k) (Some n) = node in
      let i : ◌≡◌ {A = Option LinkState} (Some x) (Some b) = is in
      let same : k ≡ n = cc in
      let link : x ≡ b = cc in
      record {
        first = a;
        there = refl;
        is_at = subst (λ n'. IsLinkAt m h n' (begun (link_plan s n') a) b) same (subst (λ x'. IsLinkAt m h k (begun (link_plan s k) a) x') link links.0);
      }
  was_begun m h (k ∷ ns) (a ∷ chosen) (x ∷ back) (suc slot) n b node is links =
      let was = was_begun m h ns chosen back slot n b node is links.1 in record { first = was.first; there = was.there; is_at = was.is_at }

  pub links_count : (m : Machine) (h : History) (ns : List NodeId) (first back : List LinkState) → AreLinks m h ns first back → length back ≡ length ns
  links_count m h [] [] [] links = refl
  links_count m h [] [] (b ∷ back) links = absurd links
  links_count m h [] (a ∷ first) back links = absurd links
  links_count m h (n ∷ ns) [] back links = absurd links
  links_count m h (n ∷ ns) (a ∷ first) [] links = absurd links
  links_count m h (n ∷ ns) (a ∷ first) (b ∷ back) links = let rest = links_count m h ns first back links.1 in omega arith

  is_fresh : (o : Option LinkMind) (fresh : LinkMind) → is_some o ≡ true → option_map (λ _. fresh) o ≡ Some fresh
  is_fresh (Some mind) fresh told = refl
  is_fresh None fresh told = absurd (let t : false ≡ true = told in cc)

  found_is : (p : LinkState → Bool) (xs : List LinkState) (a : LinkState) → find p xs ≡ Some a → p a ≡ true
  found_is p [] a is = absurd (let t : ◌≡◌ {A = Option LinkState} None (Some a) = is in cc)
  found_is p (x ∷ xs) a is = go (p x) refl is (found_is p xs a)
    where
      go : (t : Bool) → p x ≡ t → cond t (Some x) (find p xs) ≡ Some a → (find p xs ≡ Some a → p a ≡ true) → p a ≡ true
      go true e f rest = let same : x ≡ a = cc in ap p (sym same) ∙ e
      go false e f rest = rest f

  kinds_same : (k l : LinkKind) → same_kind k l ≡ true → l ≡ k
  kinds_same Fair Fair e = refl
  kinds_same Listed Listed e = refl
  kinds_same Seeded Seeded e = refl
  kinds_same Fair Listed e = absurd (let t : false ≡ true = e in cc)
  kinds_same Fair Seeded e = absurd (let t : false ≡ true = e in cc)
  kinds_same Listed Fair e = absurd (let t : false ≡ true = e in cc)
  kinds_same Listed Seeded e = absurd (let t : false ≡ true = e in cc)
  kinds_same Seeded Fair e = absurd (let t : false ≡ true = e in cc)
  kinds_same Seeded Listed e = absurd (let t : false ≡ true = e in cc)

  both : (a b : Bool) → (a && b) ≡ true → (a ≡ true) × (b ≡ true)
  both true b e = (refl, e)
  both false b e = absurd (let t : false ≡ true = e in cc)

  same_slot : (a b : ℕ) → (a == b) ≡ true → b ≡ a
  same_slot a b e = grind (arith, nat_tests)

  -- it followed the rule of its kind
  followed : (m : Machine) (h : History) (n : NodeId) (a b : LinkState) (slot : ℕ) → is_for (link_kind s) slot a ≡ true → is_some a.mind ≡ true →
      IsLinkAt m h n (begun (link_plan s n) a) b → AllRuled (link_kind s) (fresh_mind (link_kind s) slot (link_plan s n)) m n h
  followed m h n a b slot fits told at =
      let tests = both (same_kind (link_kind s) a.kind) (slot == a.slot) fits in
      let kind : a.kind ≡ link_kind s = kinds_same (link_kind s) a.kind tests.0 in
      let own : a.slot ≡ slot = same_slot slot a.slot tests.1 in
      let fresh = fresh_mind a.kind a.slot (link_plan s n) in
      let ruled : AllRuled a.kind fresh m n h = at.ruled fresh (is_fresh a.mind fresh told) in
      subst (λ j. AllRuled (link_kind s) (fresh_mind (link_kind s) j (link_plan s n)) m n h) own
      (subst (λ k. AllRuled k (fresh_mind k a.slot (link_plan s n)) m n h) kind ruled)

  -- the links that were chosen and begun come back
  pub links_back : (handed chosen back : List LinkState) (k : ℕ) (h : History) → AreChosen (link_kind s) handed k chosen →
      AreLinks (rules_for s) h (rules_for s).nodes (begun_all s (rules_for s).nodes chosen) back → AreLinksBack s handed h back
  links_back handed chosen back k h are links = record {
    count = links_count (rules_for s) h (rules_for s).nodes (begun_all s (rules_for s).nodes chosen) back links;
    each = λ slot n b node is.
        let was = was_begun (rules_for s) h (rules_for s).nodes chosen back slot n b node is links in
        let found : first_for (link_kind s) slot handed ≡ Some was.first = are.each slot was.first was.there in
        record {
          first = was.first;
          chosen = found;
          after = was.is_at.after;
          picks = ap (λ a. a.picks) was.is_at.after;
          ruled = λ told. followed (rules_for s) h n was.first b slot (found_is (is_for (link_kind s) slot) handed was.first found) told was.is_at;
        };
  }
