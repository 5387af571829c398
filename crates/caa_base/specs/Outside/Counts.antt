-- How the faults of the outside are counted.
use Rattle.std.specs.Prelude.{◌≡◌, ℕ, ◌+◌, ◌<◌, ◌-◌, ◌^◌, nat_lt, if◌then◌else◌, Bool, true, false, Result, Ok, Err}

-- a count rose in a call: it is greater after than before, unless it stands at the last number that it can show
abbrev pub Rose : ℕ → ℕ → Type 0
Rose before after = after < 2 ^ 64 - 1 → before < after

-- a count after one more; it stops at the last number that it can show
abbrev pub counted_up : ℕ → ℕ
counted_up count = if nat_lt count (2 ^ 64 - 1) then count + 1 else count

-- what a call does to a count of faults: where it answers a fault the count is one more, as far as it can show it, and else it is
-- as it was
abbrev pub CountsFault : Bool → ℕ → ℕ → Type 0
CountsFault true before after = after ≡ counted_up before
CountsFault false before after = after ≡ before

-- a count of faults after a call that gave this answer
abbrev pub faults_after : {T E : Type 0} → Result T E → ℕ → ℕ
faults_after (Ok v) faults = faults
faults_after (Err e) faults = counted_up faults
