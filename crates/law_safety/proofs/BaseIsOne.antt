-- A world has one base at a version.
use Rattle.std.proofs.Common.{◌≡◌, ℕ, ◌<◌, inl, inr, ap, sym, ◌∙◌, subst, false, List, [], ◌∷◌, arith}
use Rattle.std.specs.Prelude.{suc}
use Rattle.protocol.specs.Words.{Exec, Version, BaseEntry, Content, Write, Prepare, key_before, wid_before}
use Rattle.protocol.specs.Lists.{IsIn}
use Rattle.protocol.specs.Warden.Base.{entries_of}
use Rattle.protocol.specs.World.State.{Plan, World}
use Rattle.protocol.specs.World.Decided.{WasSent, IsWrite, IsBase}
use Rattle.protocol.proofs.NamesLemmas.{key_trans, key_irreflexive, wid_equal, exec_of}
use Rattle.law_steps.proofs.Reach.{Reach}
use Rattle.law_steps.proofs.AlwaysLemmas.{always}
use Rattle.law_safety.specs.Bases.{BaseIsOne, BaseIsOneOf}
use Rattle.law_safety.proofs.OneContent.{same_prepared}
use Rattle.law_safety.proofs.RisingLemmas.{IsStrict, same_members}
use Rattle.law_safety.proofs.BaseEntries.{rising_one, entry_wid}

-- no key is before itself, nor two before each other
keys_strict : IsStrict (λ (d e : BaseEntry). key_before d.key e.key)
keys_strict = record { itself = λ d. key_irreflexive d.key; chain = λ d e f. key_trans d.key e.key f.key }

pub entry_one : (x : Exec) (i : ℕ) (ws : List Write) (d e : BaseEntry) → IsIn d (entries_of x i ws) → IsIn e (entries_of x i ws) → d.wid.seq ≡ e.wid.seq → d ≡ e
entry_one x i [] d e j k q = absurd j
entry_one x i (w ∷ ws) d e (inl a) (inl b) q = a ∙ sym b
entry_one x i (w ∷ ws) d e (inl a) (inr k) q = let l = (entry_wid x (suc i) ws e k).2 in let f = ap (λ (z : BaseEntry). z.wid.seq) a in absurd (omega (arith, l, f, q))
entry_one x i (w ∷ ws) d e (inr j) (inl b) q = let l = (entry_wid x (suc i) ws d j).2 in let f = ap (λ (z : BaseEntry). z.wid.seq) b in absurd (omega (arith, l, f, q))
entry_one x i (w ∷ ws) d e (inr j) (inr k) q = entry_one x (suc i) ws d e j k q

module _ (p : Plan) (pos : 0 < p.replicas) (w : World) (q : Reach p w) where
  -- two writes of one name are one
  write_one : (v : Version) (d e : BaseEntry) → IsWrite w v d → IsWrite w v e → wid_before d.wid e.wid ≡ false → wid_before e.wid d.wid ≡ false → d ≡ e
  write_one v d e a b f g =
      let n = wid_equal d.wid e.wid f g in
      let i = entry_wid a.exec 1 a.content.writes d a.entry in
      let j = entry_wid b.exec 1 b.content.writes e b.entry in
      let same : a.exec ≡ b.exec = exec_of a.exec b.exec (ap (λ (z : Version). z.ts) (sym i.0) ∙ n.0 ∙ ap (λ (z : Version). z.ts) j.0) (ap (λ (z : Version). z.client) (sym i.0) ∙ n.1 ∙ ap (λ (z : Version). z.client) j.0) (sym i.1 ∙ n.2 ∙ j.1) in
      let kept : a.content ≡ b.content =
      same_prepared p w q b.exec a.content b.content (subst (λ (z : Exec). WasSent w (Prepare z a.content)) same a.prepared) b.prepared in
      entry_one b.exec 1 b.content.writes d e (subst (λ (z : Content). IsIn d (entries_of b.exec 1 z.writes)) kept (subst (λ (z : Exec). IsIn d (entries_of z 1 a.content.writes)) same a.entry)) b.entry n.3

  into : (v : Version) (bs cs : List BaseEntry) → IsBase w v bs → IsBase w v cs → (d : BaseEntry) → IsIn d bs → IsIn d cs
  into v bs cs b c d i =
      let e = c.greatest d (b.only d i) in
      let f = b.greatest e.0 (c.only e.0 e.1) in
      let back : f.0 ≡ d = rising_one bs b.rising f.0 d f.1 i (f.2 ∙ e.2) in
      let low : wid_before d.wid e.0.wid ≡ false = subst (λ (z : BaseEntry). wid_before z.wid e.0.wid ≡ false) back f.3 in
      subst (λ (z : BaseEntry). IsIn z cs) (sym (write_one v d e.0 (b.only d i) (c.only e.0 e.1) low e.3)) e.1

  pub base_one : (v : Version) (bs cs : List BaseEntry) → IsBase w v bs → IsBase w v cs → bs ≡ cs
  base_one v bs cs b c = same_members (λ (d e : BaseEntry). key_before d.key e.key) keys_strict bs cs b.rising c.rising (into v bs cs b c) (into v cs bs c b)

pub base_is_one : BaseIsOne
base_is_one = always BaseIsOneOf base_one
