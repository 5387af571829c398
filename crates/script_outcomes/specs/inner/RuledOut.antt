-- What the rows of one action rule out.
use Rattle.std.specs.Prelude.{◌≡◌, ℕ, true, false, List}
use Rattle.caa_base.specs.Written.Lists.{member}
use Rattle.script_outcomes.specs.declared.outlooks.Row.{Row}
use Rattle.script_outcomes.specs.Nevers.{can_come}

-- only what is among these can't come
abbrev pub RulesOutOnly : List ℕ → List Row → Type 0
RulesOutOnly nevers rows = (x : ℕ) → can_come rows x ≡ false → member x nevers ≡ true
