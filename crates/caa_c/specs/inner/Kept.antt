-- What a seat owns: what a box of the session does, or nothing where it is empty.
use Rattle.std.specs.Prelude.{Option, Some, None}
use base.Fml.{Fml, ftrue}
use base.Stored.{Coded}
use denote.RawPtr.{Ptr}
use Rattle.std.specs.Box.Ownership.{box_owns}
use Rattle.std.specs.Global.{Global, Box}
use Rattle.std_heap.specs.contracts.GlobalAllocator.TheImpl.{ghosts}
use Rattle.std.specs.Coded.{coded_option}
use Rattle.caa_c.specs.contracts.session.Session.{the_row}

abbrev pub SessionValue : Type 0
SessionValue = the_row.Denot

abbrev pub seat_owns : Global → Ptr → Option the_row.Denot → Fml
seat_owns alloc p (Some x) = box_owns (ghosts.dealloc_token alloc) the_row p x
seat_owns alloc p None = ftrue

abbrev pub seat_coded : Coded (Option the_row.Denot)
seat_coded = coded_option the_row.coded

-- what is in a box, if there is one
abbrev pub boxed : Option (Box SessionValue) → Option SessionValue
boxed None = None
boxed (Some b) = Some b.value
