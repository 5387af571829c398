-- Frames, one inside another.
use Rattle.std.specs.Prelude.{ℕ, ℤ, pos, suc, true, false, List, [], ◌∷◌, Option, Some, None, slice_index_or}
use Rattle.role_states.specs.declared.frame.Frame.{Frame}

-- a participant is in no more places at once
abbrev pub most_frames : ℕ
most_frames = 8

-- the innermost frame
abbrev pub top : List Frame → Option Frame
top [] = None
top (f ∷ fs) = Some f

-- those round it
abbrev pub rest : List Frame → List Frame
rest [] = []
rest (f ∷ fs) = fs

-- the frames of t; past the end there are none
abbrev pub at : List (List Frame) → ℕ → List Frame
at stacks t = slice_index_or stacks t []

-- ---- what a call does to them

-- a frame at the beginning of a body
abbrev pub entered : ℕ → Frame
entered p = record { place = p; position = 0; register = pos 0; handling = false }

-- one step on, where the register may get a value
abbrev pub advanced : Option ℤ → Frame → Frame
advanced None f = record f { position = suc f.position }
advanced (Some v) f = record f { position = suc f.position; register = v }

-- at the beginning of the handler
abbrev pub begun : Frame → Frame
begun f = record f { position = 0; register = pos 0; handling = true }

-- the innermost frame changes, and no other
abbrev pub changed : (Frame → Frame) → List Frame → List Frame
changed change [] = []
changed change (f ∷ fs) = change f ∷ fs
