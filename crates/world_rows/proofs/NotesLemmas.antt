-- What one more envelope or try changes of what was noted.
use Rattle.std.proofs.Common.{◌≡◌, ◌≢◌, ◌⊎◌, inl, inr, ℕ, zero, suc, Bool, true, false, cond, List, [], ◌∷◌, ◌++◌, length, Option, Some, None, refl, ap, sym, ◌∙◌}
use Rattle.std.specs.Prelude.{find, option_map}
use Rattle.std.specs.Bool.{then_some}
use Rattle.std.specs.List.{list_any}
use Rattle.std.specs.Map.{lookup}
use Rattle.std.specs.Option.{option_or}
use Rattle.std.specs.Ordering.{is_eq}
use Rattle.std.specs.BTreeMap.{is_at}
use Rattle.std.specs.BTreeMap as map
use Rattle.std.specs.BTreeSet as set
use Rattle.std.proofs.lemmas.Bool.Decides.{eqb_tells}
use Rattle.protocol.specs.Words.{Version, Exec, Envelope, same_version}
use Rattle.protocol.specs.Client.State.{Attempt}
use Rattle.protocol.proofs.NamesLemmas.{same_version_tells}
use Rattle.world_rows.specs.Orders.{version_cmp, exec_cmp}
use Rattle.world_rows.specs.Notes.{is_of, prepared_by, committed_by, last_prepare, try_of, AreNotes, IsBegun}
use Rattle.world_rows.specs.declared.notes.Notes.{Notes}
use Rattle.world_rows.proofs.Appended.{any_more}
use Rattle.world_rows.proofs.OrdersLemmas.{version_eq}

-- nothing was noted
pub no_notes : (f : ℕ → List Attempt) → ((c : ℕ) → f c ≡ []) → (s : Notes) → s.prepared.entries ≡ [] → s.committed.keys ≡ [] → s.tries.entries ≡ [] →
    AreNotes [] f s
no_notes f e s p q r = record {
  prepared = λ x. ap (lookup (is_at (exec_cmp x))) p;
  committed = λ x. ap (list_any (is_at (exec_cmp x))) q;
  tries = λ v. ap (lookup (is_at (version_cmp v))) r ∙ sym (ap (λ (l : List Attempt). option_map try_of (find (λ a. same_version v a.ver) l)) (e v.client));
}

-- a turn in which no client begins a try
pub same_notes : (mail : List Envelope) (f g : ℕ → List Attempt) (s : Notes) → ((c : ℕ) → g c ≡ f c) → AreNotes mail f s → AreNotes mail g s
same_notes mail f g s e n = record {
  prepared = n.prepared;
  committed = n.committed;
  tries = λ v. n.tries v ∙ sym (ap (λ (l : List Attempt). option_map try_of (find (λ a. same_version v a.ver) l)) (e v.client));
}

-- ---- one more envelope

last_more : (x : Exec) (mail : List Envelope) (m : Envelope) →
    last_prepare x (mail ++ m ∷ []) ≡ cond (is_of x (prepared_by m.body)) (Some (length mail)) (last_prepare x mail)
last_more x [] m = go (is_of x (prepared_by m.body))
  where
    go : (t : Bool) → then_some t zero ≡ cond t (Some zero) None
    go true = refl
    go false = refl
last_more x (n ∷ ms) m = ap (λ o. option_or (option_map suc o) (then_some (is_of x (prepared_by n.body)) zero)) (last_more x ms m)
    ∙ go (is_of x (prepared_by m.body))
  where
    go : (t : Bool) → option_or (option_map suc (cond t (Some (length ms)) (last_prepare x ms))) (then_some (is_of x (prepared_by n.body)) zero)
        ≡ cond t (Some (suc (length ms))) (option_or (option_map suc (last_prepare x ms)) (then_some (is_of x (prepared_by n.body)) zero))
    go true = refl
    go false = refl

pub sent_more : (mail : List Envelope) (f : ℕ → List Attempt) (n : ℕ) (s s' : Notes) (m : Envelope) → AreNotes mail f s → n ≡ length mail →
    ((x : Exec) → map.get exec_cmp s'.prepared x ≡ cond (is_of x (prepared_by m.body)) (Some n) (map.get exec_cmp s.prepared x)) →
    ((x : Exec) → set.contains exec_cmp s'.committed x ≡ cond (is_of x (committed_by m.body)) true (set.contains exec_cmp s.committed x)) →
    s'.tries ≡ s.tries → AreNotes (mail ++ m ∷ []) f s'
sent_more mail f n s s' m a e p q r = record {
  prepared = λ x. p x
      ∙ (ap (λ i. cond (is_of x (prepared_by m.body)) (Some i) (map.get exec_cmp s.prepared x)) e
      ∙ (ap (λ o. cond (is_of x (prepared_by m.body)) (Some (length mail)) o) (a.prepared x) ∙ sym (last_more x mail m)));
  committed = λ x. q x
      ∙ (ap (λ t. cond (is_of x (committed_by m.body)) true t) (a.committed x) ∙ sym (any_more (λ (n : Envelope). is_of x (committed_by n.body)) mail m));
  tries = λ v. ap (λ t. map.get version_cmp t v) r ∙ a.tries v;
}

-- ---- one more try

at_other : (v : Version) (a : Attempt) (f g : ℕ → List Attempt) → IsBegun a f g → same_version v a.ver ≡ false →
    find (λ (b : Attempt). same_version v b.ver) (g v.client) ≡ find (λ (b : Attempt). same_version v b.ver) (f v.client)
at_other v a f g b e = elim (eqb_tells v.client a.ver.client) [
  | inl q ↦ let same : v.client ≡ a.ver.client = q.1 in
      ap (λ (c : ℕ). find (λ (d : Attempt). same_version v d.ver) (g c)) same
      ∙ (ap (λ (l : List Attempt). find (λ (d : Attempt). same_version v d.ver) l) b.here
      ∙ (ap (λ t. cond t (Some a) (find (λ (d : Attempt). same_version v d.ver) (f a.ver.client))) e
      ∙ sym (ap (λ (c : ℕ). find (λ (d : Attempt). same_version v d.ver) (f c)) same)))
  | inr q ↦ ap (λ (l : List Attempt). find (λ (d : Attempt). same_version v d.ver) l) (b.others v.client q.1)
]

self_version : (v : Version) → same_version v v ≡ true
self_version v = elim (same_version_tells v v) [ inl q ↦ q.0 | inr q ↦ absurd (q.1 refl) ]

at_begun : (v : Version) (a : Attempt) (f g : ℕ → List Attempt) → IsBegun a f g →
    find (λ (b : Attempt). same_version v b.ver) (g v.client) ≡ cond (same_version v a.ver) (Some a) (find (λ (b : Attempt). same_version v b.ver) (f v.client))
at_begun v a f g b = go (same_version v a.ver) refl (same_version_tells v a.ver)
  where
    go : (t : Bool) → same_version v a.ver ≡ t → ((t ≡ true) × (v ≡ a.ver)) ⊎ ((t ≡ false) × (v ≢ a.ver)) →
        find (λ (b : Attempt). same_version v b.ver) (g v.client) ≡ cond t (Some a) (find (λ (b : Attempt). same_version v b.ver) (f v.client))
    go true e (inl q) =
        ap (λ (u : Version). find (λ (d : Attempt). same_version u d.ver) (g u.client)) q.1
        ∙ (ap (λ (l : List Attempt). find (λ (d : Attempt). same_version a.ver d.ver) l) b.here
        ∙ ap (λ t. cond t (Some a) (find (λ (d : Attempt). same_version a.ver d.ver) (f a.ver.client))) (self_version a.ver))
    go true e (inr q) = absurd (let z : true ≡ false = q.0 in cc)
    go false e q = at_other v a f g b e

map_cond : (t : Bool) (a : Attempt) (o : Option Attempt) → option_map try_of (cond t (Some a) o) ≡ cond t (Some (try_of a)) (option_map try_of o)
map_cond true a o = refl
map_cond false a o = refl

pub begun_more : (mail : List Envelope) (f g : ℕ → List Attempt) (s s' : Notes) (a : Attempt) → AreNotes mail f s → IsBegun a f g →
    s'.prepared ≡ s.prepared → s'.committed ≡ s.committed →
    ((v : Version) → map.get version_cmp s'.tries v ≡ cond (is_eq (version_cmp a.ver v)) (Some (try_of a)) (map.get version_cmp s.tries v)) → AreNotes mail g s'
begun_more mail f g s s' a n b p q r = record {
  prepared = λ x. ap (λ t. map.get exec_cmp t x) p ∙ n.prepared x;
  committed = λ x. ap (λ t. set.contains exec_cmp t x) q ∙ n.committed x;
  tries = λ v. r v
      ∙ (ap (λ t. cond t (Some (try_of a)) (map.get version_cmp s.tries v)) (version_eq a.ver v)
      ∙ (ap (λ o. cond (same_version v a.ver) (Some (try_of a)) o) (n.tries v)
      ∙ (sym (map_cond (same_version v a.ver) a (find (λ (d : Attempt). same_version v d.ver) (f v.client)))
      ∙ sym (ap (option_map try_of) (at_begun v a f g b)))));
}

pub begun_again : (mail : List Envelope) (f : ℕ → List Attempt) (s s' : Notes) (a : Attempt) → AreNotes mail f s →
    find (λ (b : Attempt). same_version a.ver b.ver) (f a.ver.client) ≡ Some a →
    s'.prepared ≡ s.prepared → s'.committed ≡ s.committed →
    ((v : Version) → map.get version_cmp s'.tries v ≡ cond (is_eq (version_cmp a.ver v)) (Some (try_of a)) (map.get version_cmp s.tries v)) → AreNotes mail f s'
begun_again mail f s s' a n h p q r = record {
  prepared = λ x. ap (λ t. map.get exec_cmp t x) p ∙ n.prepared x;
  committed = λ x. ap (λ t. set.contains exec_cmp t x) q ∙ n.committed x;
  tries = λ v. r v ∙ (ap (λ t. cond t (Some (try_of a)) (map.get version_cmp s.tries v)) (version_eq a.ver v) ∙ here v);
}
  where
    here : (v : Version) → cond (same_version v a.ver) (Some (try_of a)) (map.get version_cmp s.tries v)
        ≡ option_map try_of (find (λ (d : Attempt). same_version v d.ver) (f v.client))
    here v = go (same_version v a.ver) (same_version_tells v a.ver)
      where
        go : (t : Bool) → ((t ≡ true) × (v ≡ a.ver)) ⊎ ((t ≡ false) × (v ≢ a.ver)) →
            cond t (Some (try_of a)) (map.get version_cmp s.tries v) ≡ option_map try_of (find (λ (d : Attempt). same_version v d.ver) (f v.client))
        go true (inl k) = sym (ap (λ (u : Version). option_map try_of (find (λ (d : Attempt). same_version u d.ver) (f u.client))) k.1
            ∙ ap (option_map try_of) h)
        go true (inr k) = absurd (let z : true ≡ false = k.0 in cc)
        go false k = n.tries v
