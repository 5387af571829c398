-- What is asked of the tables, in their own words.
use Rattle.std.specs.Prelude.{ℕ, pos, false, if◌then◌else◌, List, Option, Some, None}
use Rattle.role_states.specs.declared.frame.Frame.{Frame}
use Rattle.role_states.specs.inner.Stacks.{at, top}
use Rattle.resolution_core.specs.declared.recovery.Recovery.{Recovery}
use Rattle.resolution_core.specs.inner.Recoveries.{at as recovery_at}

-- the place of a frame, where there is one
abbrev pub place_of : Option Frame → Option ℕ
place_of None = None
place_of (Some frame) = Some frame.place

-- the innermost place of t by its frames
abbrev pub place_kept : List (List Frame) → ℕ → Option ℕ
place_kept stacks t = place_of (top (at stacks t))

-- in no place nothing is done
abbrev pub no_frame : Frame
no_frame = record { place = 0; position = 0; register = pos 0; handling = false }

-- the frame, where there is one
abbrev pub or_none : Option Frame → Frame
or_none None = no_frame
or_none (Some frame) = frame

-- the innermost frame of t
abbrev pub frame_kept : List (List Frame) → ℕ → Frame
frame_kept stacks t = or_none (top (at stacks t))

-- the exception that is handled in p by this frame: the one to which p is resolved, in a handler
abbrev pub handled_kept : List Recovery → Frame → ℕ → Option ℕ
handled_kept rows frame p = if frame.handling then (recovery_at rows p).resolved else None
