-- The work that roles do: mixing a number.
use Rattle.std.specs.Prelude.{ℕ, ℤ, pos, negsuc, ◌+◌, ◌*◌, ◌-◌, ◌/◌, ◌%◌, ◌^◌, zero, suc}

-- a number modulo m: from 0 to m - 1 also where it is negative
abbrev pub residue : ℤ → ℕ → ℕ
residue (pos n) m = n % m
residue (negsuc n) m = (m - 1) - n % m

-- a state after one round
abbrev pub next_state : ℕ → ℕ
next_state state = (1103515245 * state + 12345) % 2 ^ 31

-- a state after this many rounds
unfoldable pub state_after : ℕ → ℕ → ℕ
state_after state zero = state
state_after state (suc rounds) = next_state (state_after state rounds)

-- the number of a turn by a seed: the state of the seed after as many rounds, divided by 65536; the first turn has the number 1
abbrev pub turn_number : ℕ → ℕ → ℕ
turn_number seed turn = state_after seed turn / 65536

-- a number after this many rounds of mixing, which begin at its residue modulo 2 ^ 31
abbrev pub mix : ℤ → ℕ → ℤ
mix number rounds = pos (state_after (residue number (2 ^ 31)) rounds)

-- a piece of mixing work that was done: where it began, and for how many rounds
pub record Worked : Type 0 where
  pub from : ℤ
  pub rounds : ℕ
