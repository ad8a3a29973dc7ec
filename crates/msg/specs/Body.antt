-- What a body is made of.
use Rattle.std.specs.Prelude.{Bool, true, false}
use Rattle.msg.specs.declared.Body.{Body}
use Rattle.msg.specs.declared.Body.TheVariants.{Puts, Prepare, Finalize, Decide, Told, Fenced, Drop}

-- the body has no list and no place for a content
abbrev pub is_plain : Body → Bool
is_plain (Puts exec writes) = false
is_plain (Prepare exec content) = false
is_plain (Finalize exec view choice content) = false
is_plain (Decide exec choice content) = false
is_plain (Told exec view vote accepted decided content) = false
is_plain (Fenced w base committed voted) = false
is_plain (Drop w base) = false
is_plain _ = true
