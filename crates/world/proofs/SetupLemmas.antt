-- The plan of a setup is what its clients, wardens and first values say, by the programs that have code.
use Rattle.std.proofs.Common.{◌≡◌, ℕ, ℤ, suc, ◌+◌, ◌-◌, ◌<◌, List, [], ◌∷◌, Some, map, length, get_or, refl, sym, ap, ◌∙◌, subst, arith}
use Rattle.std.specs.Prelude.{zero, slice_get}
use Rattle.std.specs.List.{AllByRecursion}
use Rattle.std.specs.Option.{option_map}
use Rattle.std.proofs.lemmas.List.{length-map}
use Rattle.std.proofs.lemmas.Option.{slice_get-map}
use Rattle.coordinator.specs.Execution.{Loaded, walk_of}
use Rattle.coordinator.specs.Memory.{HavePrograms, txn_in}
use Rattle.coordinator.specs.declared.memory.Txn2.{Txn2}
use Rattle.world.specs.Nodes.{IsSetupOf}
use Rattle.protocol_plans.specs.Scripted.{program_walk, txn_of as txn_said}
use Rattle.script.specs.declared.setup.NamedProg.{NamedProg}
use Rattle.script.specs.declared.setup.Txn.{Txn}
use Rattle.script.specs.Meaning.{named_of}
use Rattle.script.specs.Sayable.{IsTxn, IsClient}
use Rattle.script_plans.specs.Plans.{first_of, program_of, start_of}
use Rattle.world.specs.declared.origin.Origin.{Origin}
use Rattle.world.specs.Origin.{IsOrigin, loads, numbers_in}
use Rattle.world.specs.Setup.{rules_of, txn_of}

get_some : {A : Type 0} (xs : List A) (i : ℕ) → i < length xs → (x : A) × (slice_get xs i ≡ Some x)
get_some [] i less = absurd (let f : ⊥ = omega (arith, less) in f)
get_some (x ∷ xs) zero less = (x, refl)
get_some (x ∷ xs) (suc i) less = get_some xs i (omega (arith, less))

module _ (o : Origin) (is : IsOrigin o) where
  -- the program of a number, with its code
  record HasProgram (n : ℕ) : Type 0 where
    loaded : Loaded
    there : slice_get is.codes.programs n ≡ Some loaded
    own : loaded.program ≡ program_of (slice_get o.setup.progs n)

  program_at : (n : ℕ) → n < length o.setup.progs → HasProgram n
  program_at n less =
      let same = ap length is.codes.own in
      let long = length-map is.codes.programs (λ (l : Loaded). l.program) in
      let wide = length-map o.setup.progs (λ (p : NamedProg). p.prog) in
      let less' : n < length is.codes.programs = omega (arith, less, same, long, wide) in
      let l = get_some is.codes.programs n less' in
      let p = get_some o.setup.progs n less in
      let a = ap (option_map (λ (x : Loaded). x.program)) (sym l.1) ∙ sym (slice_get-map (λ (x : Loaded). x.program) is.codes.programs n) in
      let at = slice_get-map (λ (x : NamedProg). x.prog) o.setup.progs n in
      let b = ap (λ xs. slice_get xs n) is.codes.own ∙ at ∙ ap (option_map (λ (x : NamedProg). x.prog)) p.1 in
      let e : Some l.0.program ≡ Some p.0.prog = a ∙ b in
      let f : l.0.program ≡ p.0.prog = cc in
      record { loaded = l.0; there = l.1; own = f ∙ sym (ap program_of p.1) }

  txn_same : (t : Txn) → t.prog < length o.setup.progs → txn_said (start_of o.setup.progs t) ≡ txn_in is.codes.programs (txn_of t)
  txn_same t less =
      let p = program_at t.prog less in
      let walks : (vs : List ℤ) → program_walk (program_of (slice_get o.setup.progs t.prog)) vs ≡ walk_of (slice_get is.codes.programs t.prog) vs =
      λ vs. ap (λ q. program_walk q vs) (sym p.own) ∙ ap (λ q. walk_of q vs) (sym p.there) in
      λ i. record { walk = λ vs. walks vs i; at = t.at }

  few_progs : (n : ℕ) → n < length (map named_of o.setup.progs) → n < length o.setup.progs
  few_progs n less = subst (λ m. n < m) (length-map o.setup.progs named_of) less

  txns_same : (ts : List Txn) → AllByRecursion (IsTxn (length (map named_of o.setup.progs))) ts →
      map txn_said (map (start_of o.setup.progs) ts) ≡ map (txn_in is.codes.programs) (map txn_of ts)
  txns_same [] each = refl
  txns_same (t ∷ ts) each = λ i. txn_same t (few_progs t.prog each.0.known) i ∷ txns_same ts each.1 i

  clients_same : (cs : List (List Txn)) → AllByRecursion (IsClient (length (map named_of o.setup.progs))) cs →
      map (map txn_said) (map (map (start_of o.setup.progs)) cs) ≡ map (map (txn_in is.codes.programs)) (map (map txn_of) cs)
  clients_same [] each = refl
  clients_same (ts ∷ cs) each = λ i. txns_same ts each.0.each i ∷ clients_same cs each.1 i

  txns_have : (ts : List Txn) → AllByRecursion (IsTxn (length (map named_of o.setup.progs))) ts → HavePrograms is.codes.programs (map txn_of ts)
  txns_have [] each i t e = absurd (cc e)
  txns_have (s ∷ ts) each zero t e =
      let p = program_at s.prog (few_progs s.prog each.0.known) in
      let f : txn_of s ≡ t = cc in
      (p.loaded, ap (λ (u : Txn2). slice_get is.codes.programs u.prog) (sym f) ∙ p.there)
  txns_have (s ∷ ts) each (suc i) t e = txns_have ts each.1 i t e

  clients_have : (cs : List (List Txn)) → AllByRecursion (IsClient (length (map named_of o.setup.progs))) cs → (i : ℕ) (own : List Txn2) →
      slice_get (map (map txn_of) cs) i ≡ Some own → HavePrograms is.codes.programs own
  clients_have [] each i own e = absurd (cc e)
  clients_have (ts ∷ cs) each zero own e = let f : map txn_of ts ≡ own = cc in subst (HavePrograms is.codes.programs) f (txns_have ts each.0.each)
  clients_have (ts ∷ cs) each (suc i) own e = clients_have cs each.1 i own e

  own_numbers : (ts : List Txn) → map (λ (t : Txn2). t.prog) (map txn_of ts) ≡ map (λ (t : Txn). t.prog) ts
  own_numbers [] = refl
  own_numbers (t ∷ ts) = ap (λ ns. t.prog ∷ ns) (own_numbers ts)

  -- by the numbers that the setup says
  numbers_are : (cs : List (List Txn)) (i : ℕ) (own : List Txn2) → slice_get (map (map txn_of) cs) i ≡ Some own →
      map (λ (t : Txn2). t.prog) own ≡ get_or (map (map (λ (t : Txn). t.prog)) cs) i []
  numbers_are [] i own e = absurd (cc e)
  numbers_are (ts ∷ cs) zero own e = let f : map txn_of ts ≡ own = cc in ap (map (λ (t : Txn2). t.prog)) (sym f) ∙ own_numbers ts
  numbers_are (ts ∷ cs) (suc i) own e = numbers_are cs i own e

  -- the nodes of a world are made by what the setup says
  pub is_setup_of : IsSetupOf (loads o is) (rules_of o.setup) (map (map txn_of) o.setup.clients) o.setup.wardens (map first_of o.setup.firsts)
  is_setup_of = record {
    clients = record {
      replicas = refl;
      tries = refl;
      execs = refl;
      gap = refl;
      clients = clients_same o.setup.clients is.says.clients.each;
      programs = λ i own e.
          let at : i ≡ i + 1 - 1 = omega arith in
          record {
            there = clients_have o.setup.clients is.says.clients.each i own e;
            numbers = numbers_are o.setup.clients i own e ∙ ap (λ n. get_or (numbers_in o.setup) n []) at;
          };
    };
    wardens = refl;
    firsts = refl;
  }

  map_lengths : (cs : List (List Txn)) → map length cs ≡ map length (map (map txn_said) (map (map (start_of o.setup.progs)) cs))
  map_lengths [] = refl
  map_lengths (ts ∷ cs) = λ i. (sym (length-map ts (start_of o.setup.progs)) ∙ sym (length-map (map (start_of o.setup.progs) ts) txn_said)) i ∷ map_lengths cs i

  -- as many transactions for each client
  pub counts_same : map length o.setup.clients ≡ map length (loads o is).plan.clients
  counts_same = map_lengths o.setup.clients

  client_count : (cs : List (List Txn)) → length cs ≡ length (map (map txn_said) (map (map (start_of o.setup.progs)) cs))
  client_count cs = sym (length-map cs (map (start_of o.setup.progs))) ∙ sym (length-map (map (map (start_of o.setup.progs)) cs) (map txn_said))

  -- and as many clients
  pub clients_counted : length o.setup.clients ≡ length (loads o is).plan.clients
  clients_counted = client_count o.setup.clients
