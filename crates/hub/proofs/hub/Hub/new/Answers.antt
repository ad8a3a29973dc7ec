use Rattle.std.proofs.Common.{◌≡◌, false, [], length, map, replicate, refl, sym, ◌∙◌, ap, subst, None, Some, Option, rules}
use Rattle.std.proofs.lemmas.List.{length-map, length-replicate}
use Rattle.morty_base.specs.declared.names.Ended.{Ended}
use Rattle.hub.specs.Starts.{AreLinks}
use Rattle.hub.proofs.Lists.{map_same}
use Rattle.hub.proofs.Linking.{links_first}
use Rattle.hub.proofs.hub.Hub.new.Goals as goal

pub invariant_of-result : goal.invariant_of-result
invariant_of-result g c =
    rw (c.new.ensures.items, c.in_ok-marks.ensures, c.in_ok-made.ensures, c.in_ok-handed.ensures)
    (let n = c.nodes-nodes.result in
    let counts : n ≡ length c.args.links.items = c.nodes-nodes.ensures.count ∙ sym c.requires.links in
    let states = map g.L.Link.state_of c.args.links.items in (
      record {
        few = (let fits = c.nodes-nodes.type_inv in search rules);
        nodes_are = sym c.requires.links;
        handed_are = length-replicate n _ ∙ counts;
        marks_fit = length-replicate n _ ∙ counts;
        made_fit = length-replicate n _ ∙ counts;
      },
      refl,
      λ s is. record { used_are = refl; ends = λ e none. absurd (let t : ◌≡◌ {A = Option Ended} None (Some e) = none in cc) },
      λ whole s is.
          let at = c.requires.start s is in
          let m = g.M.Machine.rules s.origin in
          let count = g.met.M.Machine.counted c.args.machine s.origin [] at.0 in
          let all : n ≡ length m.nodes = c.nodes-nodes.ensures.count ∙ count in
          record {
            run = record {
              replay = at.0;
              links = subst (λ first. AreLinks m [] m.nodes first states) (sym at.2)
                  (links_first m m.nodes states (sym count ∙ sym c.requires.links ∙ sym (length-map c.args.links.items g.L.Link.state_of)));
            };
            turns_are = sym at.1;
            marks_are = ap (λ k. replicate k false) all ∙ map_same false m.nodes;
            made_are = ap (λ k. replicate k 0) all ∙ map_same 0 m.nodes;
            not_full = λ none. refl;
          },
      λ whole. refl,
      λ s is. sym counts ∙ c.nodes-nodes.ensures.count ∙ g.met.M.Machine.counted c.args.machine s.origin [] (c.requires.start s is).0,
      c.requires.usable,
    ))
