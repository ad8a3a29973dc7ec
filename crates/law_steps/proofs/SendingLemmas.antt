-- Who sent an envelope that goes to all replicas, or in a parcel of a warden.
use Rattle.std.proofs.Common.{◌≡◌, ℕ, inl, inr, ap, sym, subst, List}
use Rattle.std.specs.Prelude.{flat_map}
use Rattle.protocol.specs.Words.{NodeId, Replica, Envelope, Body}
use Rattle.protocol.specs.Lists.{IsIn, upto}
use Rattle.protocol.specs.Warden.State.{Parcel}
use Rattle.protocol.specs.Warden.State.Parcel.{To_all, To_client}
use Rattle.protocol.specs.World.Events.{to_all, parcel}
use Rattle.protocol.proofs.ListsLemmas.{IsIn-map, IsIn-flat_map}

-- who sends to all replicas
pub from_to_all : (n : ℕ) (node : NodeId) (bs : List Body) (e : Envelope) → IsIn e (flat_map (to_all n node) bs) → (e.from ≡ node) × IsIn e.body bs
from_to_all n node bs e i =
    let k = IsIn-flat_map (to_all n node) e bs i in
    let l = IsIn-map (λ r. record { from = node; to = Replica r; body = k.0 }) e (upto n) k.2 in
    (ap (λ (m : Envelope). m.from) l.2, subst (λ b. IsIn b bs) (sym (ap (λ (m : Envelope). m.body) l.2)) k.1)

abbrev pub parcel_body : Parcel → Body
parcel_body (To_all b) = b
parcel_body (To_client c b) = b

from_parcel : (n : ℕ) (node : NodeId) (a : Parcel) (e : Envelope) → IsIn e (parcel n node a) → (e.from ≡ node) × (e.body ≡ parcel_body a)
from_parcel n node (To_all b) e i = let l = IsIn-map (λ r. record { from = node; to = Replica r; body = b }) e (upto n) i in (ap (λ (m : Envelope). m.from) l.2, ap (λ (m : Envelope). m.body) l.2)
from_parcel n node (To_client c b) e (inl q) = (ap (λ (m : Envelope). m.from) q, ap (λ (m : Envelope). m.body) q)
from_parcel n node (To_client c b) e (inr i) = absurd i

pub from_parcels : (n : ℕ) (node : NodeId) (ps : List Parcel) (e : Envelope) → IsIn e (flat_map (parcel n node) ps) →
    (e.from ≡ node) × (a : Parcel) × IsIn a ps × (e.body ≡ parcel_body a)
from_parcels n node ps e i =
    let k = IsIn-flat_map (parcel n node) e ps i in
    let l = from_parcel n node k.0 e k.2 in
    (l.0, k.0, k.1, l.1)
