-- Once all readers were told what they see, no key need be listed.
use Rattle.std.proofs.Common.{◌≡◌, false, List, [], sym, subst}
use Rattle.protocol.specs.Words.{Version}
use Rattle.protocol.specs.declared.First2.{First2}
use Rattle.protocol.specs.Replica.Taken.{Handled}
use Rattle.mv_index.specs.KeyList.{AreRising}
use Rattle.mv_index.specs.declared.key_list.KeyList.{KeyList}
use Rattle.mv_index.specs.Records.{StandsFor, WereTold, listed}
use Rattle.mv_index.specs.declared.records.Records.{Records}

abbrev pub after_settling : Records → KeyList → Version → Records
after_settling r none low = record r { all_touched = false; touched = none; low = low }

pub settle_stands : (firsts : List First2) (h : Handled) (r : Records) (none : KeyList) (low : Version) → StandsFor firsts h r → WereTold firsts h r →
    none.keys.items ≡ [] → StandsFor firsts h (after_settling r none low) × WereTold firsts h (after_settling r none low)
    × (listed (after_settling r none low) ≡ [])
settle_stands firsts h r none low s t n = (
  record {
    holdings = s.holdings;
    voted = s.voted;
    voted_indexed = s.voted_indexed;
    readers_are = s.readers_are;
    keys_rise = s.keys_rise;
    keys_have = s.keys_have;
    touched_rise = subst (λ l. AreRising l) (sym n) tt;
    quiet = λ p i z. t.each p i;
    below = λ p i z. t.each p i;
    whole = s.whole;
  },
  record { each = t.each },
  n,
)
