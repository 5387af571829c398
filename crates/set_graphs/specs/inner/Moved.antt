-- Sets of the primitives from some number on.
use Rattle.std.specs.Prelude.{ℕ, ◌+◌, ◌*◌, ◌^◌}

-- these members before it, and its own members from bit `next` on
abbrev pub moved_after : ℕ → ℕ → ℕ → ℕ
moved_after before next set = before + 2 ^ next * set
