-- The fields of each kind of body.
use Rattle.std.specs.Prelude.{◌≡◌, ℕ, Bool, ℤ, List, Option, Some, None, Ok}
use Rattle.morty_base.specs.declared.names.Version.{Version}
use Rattle.morty_base.specs.declared.names.Exec.{Exec}
use Rattle.morty_base.specs.declared.names.Wid.{Wid}
use Rattle.morty_base.specs.declared.names.Key.{Key}
use Rattle.msg.specs.declared.Vote.{Vote}
use Rattle.msg.specs.declared.Choice.{Choice}
use Rattle.msg.specs.declared.Choice.TheVariants as choices
use Rattle.msg.specs.declared.Write.{Write}
use Rattle.msg.specs.declared.Content.{Content}
use Rattle.msg.specs.declared.Accept.{Accept}
use Rattle.msg.specs.declared.Kept.{Kept}
use Rattle.msg.specs.declared.BaseEntry.{BaseEntry}
use Rattle.msg.specs.declared.Body.{Body}
use Rattle.msg.specs.declared.Body.TheVariants as bodies
use Rattle.wire.specs.declared.head.Kind.{Kind}
use Rattle.wire.specs.declared.head.Kind.TheVariants as kinds
use Rattle.wire.specs.Field.{◌>>=◌, Field, Judged, i64, ◌&◌, optional}
use Rattle.wire.specs.Values.{version, exec, wid, key, view, flag, vote, told_vote, decided, writes, content, chosen, base, kept, accept}

-- what the fields of each kind hold
abbrev pub Parts : Kind → Type 0
Parts kinds.Get = Exec × Key
Parts kinds.Note = Version × (Key × (Wid × (ℤ × (Bool × Option Wid))))
Parts kinds.Puts = Exec × List Write
Parts kinds.Prepare = Exec × Content
Parts kinds.Vote = Exec × Vote
Parts kinds.Finalize = Exec × (ℕ × Option Content)
Parts kinds.Accepted = Exec × ℕ
Parts kinds.Decide = Exec × Option Content
Parts kinds.Ask = Exec × ℕ
Parts kinds.Told = Exec × (ℕ × (Option Vote × (Option Accept × (Option Choice × Option Content))))
Parts kinds.Fence = Version
Parts kinds.Fenced = Version × (List BaseEntry × (List Kept × List Kept))
Parts kinds.Drop = Version × List BaseEntry
Parts kinds.TooOld = Version × Version

-- the fields of each kind, in order
unfoldable pub fields : (k : Kind) → Field (Parts k)
fields kinds.Get = exec & key
fields kinds.Note = version & key & wid & i64 & flag & optional wid
fields kinds.Puts = exec & writes
fields kinds.Prepare = exec & content
fields kinds.Vote = exec & vote
fields kinds.Finalize = exec & view & chosen
fields kinds.Accepted = exec & view
fields kinds.Decide = exec & chosen
fields kinds.Ask = exec & view
fields kinds.Told = exec & view & told_vote & optional accept & decided & chosen
fields kinds.Fence = version
fields kinds.Fenced = version & base & kept & kept
fields kinds.Drop = version & base
fields kinds.TooOld = version & version

-- the kind of a body, and what its fields hold
abbrev pub parts : Body → (k : Kind) × Parts k
parts (bodies.Get x k) = (kinds.Get, (x, k))
parts (bodies.Note v k d value sure gone) = (kinds.Note, (v, (k, (d, (value, (sure, gone))))))
parts (bodies.Puts x ws) = (kinds.Puts, (x, ws))
parts (bodies.Prepare x c) = (kinds.Prepare, (x, c))
parts (bodies.Vote x v) = (kinds.Vote, (x, v))
parts (bodies.Finalize x n b c) = (kinds.Finalize, (x, (n, c)))
parts (bodies.Accepted x n) = (kinds.Accepted, (x, n))
parts (bodies.Decide x b c) = (kinds.Decide, (x, c))
parts (bodies.Ask x n) = (kinds.Ask, (x, n))
parts (bodies.Told x n v a d c) = (kinds.Told, (x, (n, (v, (a, (d, c))))))
parts (bodies.Fence w) = (kinds.Fence, w)
parts (bodies.Fenced w b c v) = (kinds.Fenced, (w, (b, (c, v))))
parts (bodies.Drop w b) = (kinds.Drop, (w, b))
parts (bodies.TooOld v w) = (kinds.TooOld, (v, w))

-- a content stands exactly for Commit
abbrev pub choice_of : Option Content → Choice
choice_of None = choices.Abandon
choice_of (Some c) = choices.Commit

-- the body of this kind whose fields hold this
abbrev pub body_of : (k : Kind) → Parts k → Body
body_of kinds.Get p = bodies.Get p.0 p.1
body_of kinds.Note p = bodies.Note p.0 p.1.0 p.1.1.0 p.1.1.1.0 p.1.1.1.1.0 p.1.1.1.1.1
body_of kinds.Puts p = bodies.Puts p.0 p.1
body_of kinds.Prepare p = bodies.Prepare p.0 p.1
body_of kinds.Vote p = bodies.Vote p.0 p.1
body_of kinds.Finalize p = bodies.Finalize p.0 p.1.0 (choice_of p.1.1) p.1.1
body_of kinds.Accepted p = bodies.Accepted p.0 p.1
body_of kinds.Decide p = bodies.Decide p.0 (choice_of p.1) p.1
body_of kinds.Ask p = bodies.Ask p.0 p.1
body_of kinds.Told p = bodies.Told p.0 p.1.0 p.1.1.0 p.1.1.1.0 p.1.1.1.1.0 p.1.1.1.1.1
body_of kinds.Fence p = bodies.Fence p
body_of kinds.Fenced p = bodies.Fenced p.0 p.1.0 p.1.1.0 p.1.1.1
body_of kinds.Drop p = bodies.Drop p.0 p.1
body_of kinds.TooOld p = bodies.TooOld p.0 p.1

abbrev pub HasContentForCommit : Body → Type 0
HasContentForCommit (bodies.Finalize x n b c) = b ≡ choice_of c
HasContentForCommit (bodies.Decide x b c) = b ≡ choice_of c
HasContentForCommit b = Unit {0}

-- the body of this kind with which bytes begin
abbrev pub body_at : Kind → List ℕ → Judged Body
body_at k bytes = (fields k).judged bytes >>= λ x. Ok (body_of k x.0, x.1)

abbrev pub body_frame : Body → List ℕ
body_frame b = (fields (parts b).0).frame (parts b).1

abbrev pub BodyAdmits : Body → Type 0
BodyAdmits b = (fields (parts b).0).Admits (parts b).1

abbrev pub BodyInRange : Body → Type 0
BodyInRange b = (fields (parts b).0).InRange (parts b).1
