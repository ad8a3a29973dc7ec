-- The net and the plan items of a text: percentages and numbers are within their limits, and nodes are there.
use Rattle.std.proofs.Common.{◌≡◌, ℕ, ◌<◌, ◌≤◌, ◌==◌, nat_le, true, false, not, List, [], ◌∷◌, ◌++◌, map, length, Option, Some, None, sym, subst, inl, inr}
use Rattle.std.proofs.Common.{arith}
use Rattle.std.specs.List.{AllByRecursion}
use Rattle.std.proofs.lemmas.Bool.Decides.{nat_tests}
use Rattle.net_core.specs.declared.plan.PlanItem.{PlanItem}
use Rattle.txn_text.specs.declared.faults.FaultKind.TheVariants as fault
use Rattle.txn_text.specs.declared.kinds.Token.{Token}
use Rattle.txn_parse.specs.Binding.{first_failing, number_of}
use Rattle.txn_parse.proofs.NamesLemmas.{none_failing}
use Rattle.script.specs.declared.limits.TheConstants.{MOST_CALLS, GREATEST_PERCENTAGE, GREATEST_PLANNED}
use Rattle.script.specs.declared.items.Calls.{Calls}
use Rattle.script.specs.declared.items.Calls.TheVariants as calls
use Rattle.script.specs.declared.items.NodeKind.TheVariants as kinds
use Rattle.script.specs.declared.items.NodeKind.{NodeKind}
use Rattle.script.specs.declared.items.RawNode.{RawNode}
use Rattle.script.specs.declared.items.RawVersion.{RawVersion}
use Rattle.script.specs.declared.items.RawPick.{RawPick}
use Rattle.script.specs.declared.items.RawPick.TheVariants as picks
use Rattle.script.specs.declared.items.RawEntry.{RawEntry}
use Rattle.script.specs.declared.items.RawEntry.TheVariants as entries
use Rattle.script.specs.declared.items.RawNet.{RawNet}
use Rattle.script.specs.declared.items.RawNet.TheVariants as nets
use Rattle.script.specs.declared.setup.Net.{Net as NetValue}
use Rattle.script.specs.Items.{Item, Net, At, Entries, End}
use Rattle.script.specs.Rules.{Into}
use Rattle.script.specs.Grammar as grammar
use Rattle.script.specs.Meaning.{Script, net_of, node_by, node_of, version_of, pick_of, calls_by, entry_of, number_of_or, at_of, planned}
use Rattle.script.specs.Checks.{check, between, nodes_in, is_listed, planned_check, pick_checks, entry_checks, entries_checks, number_checks, percentage_check}
use Rattle.script.specs.Checks.{net_checks}
use Rattle.script.specs.Sayable.{IsNet, IsNode, IsVersion, IsPick, IsCalls, IsPlanned, IsPlanItem, IsSayable}
use Rattle.script.proofs.ReadableItems.{IsTold}
use Rattle.script.proofs.SayableSoFar.{IsSayableSoFar, HasNoPlan, all_weaker, passed, holds, Takes, Lead, one_leads}
use Rattle.script.proofs.SayableStores.{number_small}

up_to : (most n : ℕ) → nat_le n most ≡ true → n ≤ most
up_to most n is = grind (arith, nat_tests)

in_between : (least most n : ℕ) → between least most n ≡ true → (least ≤ n) × (n ≤ most)
in_between least most n is = (grind (arith, nat_tests), grind (arith, nat_tests))

-- what is told of the plan stays while it grows
pub plan_kept : (s : Script) (plan items : List PlanItem) → AllByRecursion (IsPlanItem s) items → AllByRecursion (IsPlanItem (record s { plan = plan })) items
plan_kept s plan items = all_weaker (IsPlanItem s) (IsPlanItem (record s { plan = plan })) items (λ i h. record { node = h.node; says = h.says })

all_joined : {A : Type 0} (P : A → Type 0) (xs ys : List A) → AllByRecursion P xs → AllByRecursion P ys → AllByRecursion P (xs ++ ys)
all_joined P [] ys all more = more
all_joined P (x ∷ xs) ys all more = (all.0, all_joined P xs ys all.1 more)

-- with more plan items
with_plan : (s : Script) (items : List PlanItem) → IsSayableSoFar s → AllByRecursion (IsPlanItem s) items → IsSayableSoFar (record s { plan = s.plan ++ items })
with_plan s items h are = record {
  settings = h.settings;
  tables = h.tables;
  firsts = h.firsts;
  named = h.named;
  progs = h.progs;
  clients = h.clients;
  few_clients = h.few_clients;
  net = h.net;
  plan = plan_kept s (s.plan ++ items) (s.plan ++ items) (all_joined (IsPlanItem s) s.plan items h.plan are);
}

module _ (text : List ℕ) where
  -- ---- the net

  percentage : (n : Token) → not (nat_le (number_of text n) GREATEST_PERCENTAGE) ≡ false → number_of text n ≤ GREATEST_PERCENTAGE
  percentage n is = up_to GREATEST_PERCENTAGE (number_of text n) (holds (nat_le (number_of text n) GREATEST_PERCENTAGE) is)

  net_sayable : (raw : RawNet) → first_failing (net_checks text raw) ≡ None → IsNet (net_of text raw)
  net_sayable nets.Fair none = tt
  net_sayable nets.Listed none = tt
  net_sayable (nets.Seeded seed late again hurry) none =
      let a =
      passed (not (nat_le (number_of text late) GREATEST_PERCENTAGE)) late fault.NetRange
      (percentage_check text again ∷ percentage_check text hurry ∷ []) none
      in
      let b = passed (not (nat_le (number_of text again) GREATEST_PERCENTAGE)) again fault.NetRange (percentage_check text hurry ∷ []) a.1 in
      let c = passed (not (nat_le (number_of text hurry) GREATEST_PERCENTAGE)) hurry fault.NetRange [] b.1 in
      (number_small text seed, percentage late a.0, percentage again b.0, percentage hurry c.0)

  net_takes : (raw : RawNet) → Takes text HasNoPlan HasNoPlan (Net raw)
  net_takes raw s h none =
      let t = s.script in
      let now : Script = record t { net = net_of text raw } in
      record {
        so_far = record {
          settings = h.so_far.settings;
          tables = h.so_far.tables;
          firsts = h.so_far.firsts;
          named = h.so_far.named;
          progs = h.so_far.progs;
          clients = h.so_far.clients;
          few_clients = h.so_far.few_clients;
          net = net_sayable raw none;
          plan = subst (AllByRecursion (IsPlanItem now)) (sym h.no_plan) tt;
        };
        no_plan = h.no_plan;
      }

  same_item : (a b : Item) → Some a ≡ Some b → b ≡ a
  same_item a b e = cc

  maybe_net : (o : Option Item) → IsTold text (grammar.optional grammar.net) o → Lead text HasNoPlan HasNoPlan (grammar.as_list o)
  unfolding grammar.net
  maybe_net None x = λ s p none. p
  maybe_net (Some i) (inl x) =
      one_leads text HasNoPlan HasNoPlan i
      (subst (Takes text HasNoPlan HasNoPlan) (same_item i x.of x.made) (subst (Takes text HasNoPlan HasNoPlan) (sym x.told.made) (net_takes x.told.of)))
  maybe_net (Some i) (inr x) = absurd (cc (x))

  pub net_leads : (is : List Item) → IsTold text (Into grammar.as_list (grammar.optional grammar.net)) is → Lead text HasNoPlan HasNoPlan is
  net_leads is h = subst (Lead text HasNoPlan HasNoPlan) (sym h.made) (maybe_net h.of h.told)

  -- ---- plan items

  node_by_kind : (s : Script) (k : NodeKind) (n : ℕ) → (1 ≤ n) × (n ≤ nodes_in k s) → IsNode s (node_by k n)
  node_by_kind s kinds.Client n h = h
  node_by_kind s kinds.Replica n h = h
  node_by_kind s kinds.Warden n h = h

  node_sayable : (s : Script) (n : RawNode) → not (between 1 (nodes_in n.kind s) (number_of text n.number)) ≡ false → IsNode s (node_of text n)
  node_sayable s n is =
      let there = in_between 1 (nodes_in n.kind s) (number_of text n.number) (holds (between 1 (nodes_in n.kind s) (number_of text n.number)) is) in
      node_by_kind s n.kind (number_of text n.number) (there.0, there.1)

  planned_small : (n : Token) → not (nat_le (number_of text n) GREATEST_PLANNED) ≡ false → number_of text n ≤ GREATEST_PLANNED
  planned_small n is = up_to GREATEST_PLANNED (number_of text n) (holds (nat_le (number_of text n) GREATEST_PLANNED) is)

  version_sayable : (v : RawVersion) → not (nat_le (number_of text v.client) GREATEST_PLANNED) ≡ false → IsVersion (version_of text v)
  version_sayable v is = (number_small text v.ts, planned_small v.client is)

  pick_sayable : (p : RawPick) → first_failing (pick_checks text p) ≡ None → IsPick (pick_of text p)
  pick_sayable picks.Go none = tt
  pick_sayable picks.Hurry none = tt
  pick_sayable picks.Stop none = tt
  pick_sayable (picks.Deliver n) none = number_small text n
  pick_sayable (picks.Recover v eid) none =
      let a = passed (not (nat_le (number_of text v.client) GREATEST_PLANNED)) v.client fault.PlanRange (planned_check text eid ∷ []) none in
      let b = passed (not (nat_le (number_of text eid) GREATEST_PLANNED)) eid fault.PlanRange [] a.1 in
      (version_sayable v a.0, planned_small eid b.0)
  pick_sayable (picks.Truncate v) none = version_sayable v (passed (not (nat_le (number_of text v.client) GREATEST_PLANNED)) v.client fault.PlanRange [] none).0

  calls_small : (n : Option Token) → first_failing (number_checks text (between 1 MOST_CALLS) fault.PlanRange n) ≡ None → IsCalls (number_of_or 1 text n)
  calls_small None none = (omega arith, omega arith)
  calls_small (Some n) none =
      let p = passed (not (between 1 MOST_CALLS (number_of text n))) n fault.PlanRange [] none in
      let there = in_between 1 MOST_CALLS (number_of text n) (holds (between 1 MOST_CALLS (number_of text n)) p.0) in
      (there.0, there.1)

  calls_sayable : (n : NetValue) (c : Calls) (many : ℕ) → is_listed n ≡ true → IsCalls many → IsPlanned n (calls_by c many)
  calls_sayable n calls.Wait many listed few = (listed, few)
  calls_sayable n calls.Next many listed few = (listed, few)
  calls_sayable n calls.Newest many listed few = (listed, few)

  entry_sayable : (n : NetValue) (e : RawEntry) → is_listed n ≡ true → first_failing (entry_checks text e) ≡ None → IsPlanned n (entry_of text e)
  entry_sayable n (entries.Calls c many) listed none = calls_sayable n c (number_of_or 1 text many) listed (calls_small many none)
  entry_sayable n (entries.One p) listed none = (listed, pick_sayable p none)

  entries_sayable : (s : Script) (n : RawNode) (es : List RawEntry) → IsNode s (node_of text n) → is_listed s.net ≡ true →
      first_failing (entries_checks text es) ≡ None → AllByRecursion (IsPlanItem s) (map (planned text n) es)
  entries_sayable s n [] there listed none = tt
  entries_sayable s n (e ∷ es) there listed none =
      let p = none_failing (entry_checks text e) (entries_checks text es) none in
      (record { node = there; says = entry_sayable s.net e listed p.0 }, entries_sayable s n es there listed p.1)

  at_takes : (word now : Token) (n : RawNode) (p : RawPick) → Takes text IsSayableSoFar IsSayableSoFar (At word now n p)
  at_takes word now n p s h none =
      let t = s.script in
      let a =
      passed (not (between 1 (nodes_in n.kind t) (number_of text n.number))) n.number fault.NoSuchNode
      (check (is_listed t.net) word fault.WrongNet ∷ pick_checks text p) none
      in
      let b = passed (is_listed t.net) word fault.WrongNet (pick_checks text p) a.1 in
      with_plan t (at_of text now n p ∷ []) h (record { node = node_sayable t n a.0; says = (b.0, number_small text now, pick_sayable p b.1) }, tt)

  list_takes : (word : Token) (n : RawNode) (es : List RawEntry) → Takes text IsSayableSoFar IsSayableSoFar (Entries word n es)
  list_takes word n es s h none =
      let t = s.script in
      let a =
      passed (not (between 1 (nodes_in n.kind t) (number_of text n.number))) n.number fault.NoSuchNode
      (check (not (is_listed t.net)) word fault.WrongNet ∷ entries_checks text es) none
      in
      let b = passed (not (is_listed t.net)) word fault.WrongNet (entries_checks text es) a.1 in
      with_plan t (map (planned text n) es) h (entries_sayable t n es (node_sayable t n a.0) (holds (is_listed t.net) b.0) b.1)

  pub plan_takes : (i : Item) → IsTold text grammar.plan i → Takes text IsSayableSoFar IsSayableSoFar i
  unfolding grammar.plan grammar.at_item grammar.list_item
  plan_takes i (inl h) = subst (Takes text IsSayableSoFar IsSayableSoFar) (sym h.made) (at_takes h.of.0 h.of.1.0 h.of.1.1.0 h.of.1.1.1)
  plan_takes i (inr h) = subst (Takes text IsSayableSoFar IsSayableSoFar) (sym h.made) (list_takes h.of.0 h.of.1.0 h.of.1.1)

  -- ---- the end

  some_client : (n : ℕ) → (n == 0) ≡ false → 0 < n
  some_client n is = grind (arith, nat_tests)

  pub end_takes : (i : Item) → IsTold text grammar.end_item i → Takes text IsSayableSoFar IsSayable i
  unfolding grammar.end_item
  end_takes i h = subst (Takes text IsSayableSoFar IsSayable) (sym h.made) (ends h.of)
    where
      ends : (word : Token) → Takes text IsSayableSoFar IsSayable (End word)
      ends word s k none = record {
        settings = record {
          replicas = k.settings.0;
          wardens = k.settings.1;
          tries = k.settings.2;
          execs = k.settings.3;
          gap = k.settings.4;
          turns = k.settings.5;
        };
        tables = k.tables;
        firsts = k.firsts;
        named = k.named;
        progs = k.progs;
        clients = record {
          each = k.clients;
          some = some_client (length s.script.clients) (passed (length s.script.clients == 0) word fault.ClientOrder [] none).0;
          few = k.few_clients;
        };
        net = k.net;
        plan = k.plan;
      }
