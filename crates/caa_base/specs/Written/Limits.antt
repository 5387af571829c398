-- How much of each thing there may be at most, and which numbers values and counts may be.
use Rattle.std.specs.Prelude.{ℕ, ℤ, pos, negsuc, neg_ℤ, ◌+◌, ◌≤ℤ◌, nat_le, Bool}

-- ---- numbers

-- the value of an object or a register lies between this number below 0 and this number above
abbrev pub most_value : ℕ
most_value = 1000000000000

-- a value is within the limit on both sides of 0
abbrev pub IsValue : ℤ → Type 0
IsValue v = (neg_ℤ (pos most_value) ≤ℤ v) × (v ≤ℤ pos most_value)

-- the same as a test
abbrev pub is_value : ℤ → Bool
is_value (pos n) = nat_le n most_value
is_value (negsuc n) = nat_le (n + 1) most_value

-- a count in a line of a script: rounds of one piece of work, or the number of the put that a drill refuses
abbrev pub most_count : ℕ
most_count = 1000000

-- ---- texts, in bytes

-- a script
abbrev pub most_script_bytes : ℕ
most_script_bytes = 1048576

-- a script with the text of a journal after it
abbrev pub most_audit_bytes : ℕ
most_audit_bytes = 268435456

-- a line without its line feed
abbrev pub most_line_bytes : ℕ
most_line_bytes = 16384

-- a name
abbrev pub most_name_bytes : ℕ
most_name_bytes = 32

-- ---- parts of a script

-- participants of a script
abbrev pub most_participants : ℕ
most_participants = 64

-- objects of a script
abbrev pub most_objects : ℕ
most_objects = 256

-- actions that a script declares
abbrev pub most_actions : ℕ
most_actions = 256

-- graphs that a script declares
abbrev pub most_graphs : ℕ
most_graphs = 256

-- roles of an action
abbrev pub most_roles : ℕ
most_roles = 16

-- nested uses of an action
abbrev pub most_nests : ℕ
most_nests = 256

-- actions of a nested use
abbrev pub most_alternates : ℕ
most_alternates = 4

-- steps of a body or a handler
abbrev pub most_steps : ℕ
most_steps = 256

-- watches of a script
abbrev pub most_watches : ℕ
most_watches = 16

-- drills of a script
abbrev pub most_drills : ℕ
most_drills = 1000

-- ---- plans and journals

-- places that stand round one another, the innermost counted
abbrev pub most_depth : ℕ
most_depth = 8

-- places of a plan
abbrev pub most_places : ℕ
most_places = 65536

-- entries of a journal
abbrev pub most_entries : ℕ
most_entries = 1000000

-- entries of a journal that is audited
abbrev pub most_audited : ℕ
most_audited = 1000000
