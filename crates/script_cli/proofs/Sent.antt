-- A world may go to another thread, and the code of all programs may be seen from several.
use mathlib.Core.List.{List, [], ◌∷◌}
use denote.Hole.{as_row}
use denote.Builtin.{u32}
use denote.Param.Send.{IsSend, IsSync, sendable}
use denote.Param.SendFields.{FieldsHave, declared_send}
use denote.Struct.Declared.{Declared, field}
use denote.Struct.Record.{declared}
use denote.Struct.Field.{Field, u64-field}
use Rattle.morty_base.specs.contracts.list.List.{the_row as list_row, the_field as list_field}
use Rattle.morty_base.proofs.list.List.TheSendSync as list
use Rattle.flat_code.specs.contracts.code.Code as code
use Rattle.continuation.proofs.Crossing.{code_send, code_sync}
use Rattle.menus.proofs.slots.Slots.TheSendSync as slots
use Rattle.menus.specs.contracts.mailboxes.Mailboxes.{the_field as mailboxes_field}
use Rattle.menus.proofs.mailboxes.Mailboxes.TheSendSync as mailboxes
use Rattle.protocol.specs.contracts.First2.{the_row as first_row}
use Rattle.protocol.proofs.First2.TheSendSync as first
use Rattle.world.specs.contracts.nodes.Nodes.{the_field as nodes_field}
use Rattle.world.proofs.nodes.Nodes.TheSendSync as nodes
use Rattle.world_rows.specs.contracts.notes.Notes.{the_field as notes_field}
use Rattle.world_rows.proofs.notes.Notes.TheSendSync as notes
use Rattle.world.specs.contracts.world.World as world

pub codes_sync : IsSync (list_row code.the_row)
codes_sync = list.the_sync code.the_row code_sync

firsts_send : IsSend (list_row first_row)
firsts_send = list.the_send first_row first.the_send

counts_send : IsSend (list_row u32)
counts_send = list.the_send u32 (search sendable)

codes_send : IsSend (list_row code.the_row)
codes_send = list.the_send code.the_row code_send

u64_send : IsSend (as_row u64-field)
u64_send = search sendable

-- the parts of a world, whose type has no name here
abbrev parts : List Field
parts = list_field code.the_row ∷ list_field first_row ∷ list_field u32 ∷ nodes_field ∷ mailboxes_field ∷ notes_field ∷ u64-field ∷ []

parts_send : FieldsHave IsSend parts
parts_send = (codes_send, (firsts_send, (counts_send, (nodes.the_send, (mailboxes.the_send, (notes.the_send, (u64_send, tt)))))))

-- a declared type as a field of another
declared_field_send : (T : Declared) → FieldsHave IsSend T.parts → IsSend (as_row (field T))
declared_field_send T has = declared_send T has

pub world_send : IsSend world.the_row
world_send =
    declared_send world.the_type (
      slots.the_send,
      (
        declared_field_send (declared (record { name = _; args = []; types = []; parts = parts; D = _; as_values = _; Ghost = _; ghosts = _; make = _; eta = _; beta = _ }) _) parts_send,
        (search sendable, tt),
      ),
    )
