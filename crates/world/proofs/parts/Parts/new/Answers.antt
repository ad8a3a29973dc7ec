-- The parts of a world in which nothing happened.
use Rattle.std.proofs.Common.{◌≡◌, ℕ, List, [], map, length, refl, ap, sym, subst, ◌∙◌}
use Rattle.std.specs.List.{slice_get}
use Rattle.coordinator.specs.declared.memory.Rules.{Rules}
use Rattle.coordinator.specs.declared.memory.Txn2.{Txn2}
use Rattle.coordinator.specs.Memory.{IsWithinLimits}
use Rattle.world.specs.Clients.{Loads}
use Rattle.world.specs.Nodes.{IsSetupOf}
use Rattle.protocol.specs.declared.First2.{First2}
use Rattle.protocol.specs.World.State.{first_world}
use Rattle.menus.specs.Laws.{counts_in}
use Rattle.menus.specs.Slots.{Counts, nodes_of}
use Rattle.menus.specs.Mailboxes.{AreMailboxes}
use Rattle.script.specs.declared.setup.Setup.{Setup}
use Rattle.script_plans.specs.Plans.{first_of}
use Rattle.world.specs.Origin.{plan, loads}
use Rattle.world.specs.Setup.{rules_of, slots_in, txn_of}
use Rattle.world.proofs.SetupLemmas.{is_setup_of, counts_same, clients_counted}
use Rattle.world.proofs.LimitsLemmas.{within_limits}
use Rattle.world.proofs.parts.Parts.new.Goals as goal

-- equal parts make the same setup
same_setup : (l : Loads) (r r' : Rules) (ts ts' : List (List Txn2)) (n n' : ℕ) (fs fs' : List First2) → r ≡ r' → ts ≡ ts' → n ≡ n' → fs ≡ fs' →
    IsSetupOf l r ts n fs → IsSetupOf l r' ts' n' fs'
same_setup l r r' ts ts' n n' fs fs' p q u v h =
    subst (λ (x : Rules). IsSetupOf l x ts' n' fs') p (subst (λ (x : List (List Txn2)). IsSetupOf l r x n' fs') q
    (subst (λ (x : ℕ). IsSetupOf l r ts x fs') u (subst (λ (x : List First2). IsSetupOf l r ts n x) v h)))

pub new-requires-clause-within : goal.new-requires-clause-within
new-requires-clause-within c = λ k i own there.
    let txns = c.as_slice.ensures ∙ c.in_ok-txns.ensures in
    let same = ap (λ (xs : List (List Txn2)). slice_get xs i) (sym txns) in
    subst (λ (r : Rules). IsWithinLimits (record { client = k; rules = r; txns = own })) (sym c.rules.ensures)
    (within_limits c.args.setup.now c.requires k i own (same ∙ there))

pub returns-clause-stands : goal.returns-clause-stands
returns-clause-stands c = λ o is e k.
    let of_setup : c.args.setup.now ≡ o.setup = sym e in
    let txns = c.as_slice.ensures ∙ c.in_ok-txns.ensures ∙ ap (λ (s : Setup). map (map txn_of) s.clients) of_setup in
    let firsts = c.in_ok-firsts.ensures ∙ ap (λ (s : Setup). map first_of s.firsts) of_setup in
    let rules = c.rules.ensures ∙ ap rules_of of_setup in
    let wardens = ap (λ (s : Setup). s.wardens) of_setup in
    let counted : slots_in o.setup ≡ counts_in (plan o) =
    ap (λ (n : ℕ). let v : Counts = record { clients = n; replicas = o.setup.replicas; wardens = o.setup.wardens } in v) (clients_counted o is) in
    let slots = c.slots.ensures ∙ ap slots_in of_setup ∙ counted in
    record {
      codes = c.in_ok-shared.ensures ∙ sym k ∙ is.codes.codes_are;
      firsts = c.firsts-2.view_is ∙ firsts;
      txns = c.in_ok-counts.ensures ∙ ap (λ (s : Setup). map length s.clients) of_setup ∙ counts_same o is;
      slots = c.in_ok-boxes.ensures.slots ∙ slots;
      nodes = c.in_ok-nodes.ensures (loads o is) (same_setup (loads o is) _ _ _ _ _ _ _ _ (sym rules) (sym txns) (sym wardens) (sym firsts) (is_setup_of o is));
      boxes = subst (λ (v : Counts). AreMailboxes (nodes_of v) [] [] [] c.in_ok-boxes.boxes) slots c.in_ok-boxes.ensures.stands;
      notes = c.new-3.ensures (λ n. (first_world.client n).attempts) (λ n. refl);
      moved = refl;
    }
