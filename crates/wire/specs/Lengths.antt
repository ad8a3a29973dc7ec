-- How long the lists of bodies can make them.
use Rattle.std.specs.Prelude.{ℕ, ◌+◌, ◌*◌}
use Rattle.wire.specs.Values.{most_short, most_long}

-- the most bytes of a content: its reads take 38 each, its writes 18, its numbers 8, and the rest 7
abbrev pub most_content : ℕ
most_content = most_short * 38 + most_short * 18 + most_short * 8 + 7

-- the most bytes of what was kept: a count, and an execution of 16 bytes with each content
abbrev pub most_kept : ℕ
most_kept = most_long * (16 + most_content) + 4

-- the most bytes of a body: a base and two lists of what was kept are the longest
abbrev pub most_body : ℕ
most_body = 3 * most_kept + 100
