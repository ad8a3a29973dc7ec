-- What a Fenced answer stands for.
use Rattle.std.specs.Prelude.{◌≡◌, List, ◌∷◌, ◌++◌}
use Rattle.protocol.specs.Words.{Version, Envelope, BaseEntry, Kept, Fence}
use Rattle.protocol.specs.Replica.Taken.{Handled, base}
use Rattle.protocol.specs.Replica.Says.{committed_upto, voted_upto}

-- a Fenced answer that stands for the list g of its sender, which took a Fence of v next
pub record AnsweredOn (h g : Handled) (v : Version) (bs : List BaseEntry) (cs vs : List Kept) : Type 0 where
  pub later : Handled
  pub envelope : Envelope
  pub split : h ≡ later ++ envelope ∷ g
  pub body : envelope.body ≡ Fence v
  pub bases : bs ≡ base g
  pub committed : cs ≡ committed_upto g v
  pub voted : vs ≡ voted_upto g v
