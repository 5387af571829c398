use Rattle.std.proofs.Common.{◌≡◌, drop}
use Rattle.place_plan.specs.Drafts.DraftRules.{is_rising, is_rising_above}
use Rattle.place_plan.proofs.drafts.ranges.is_rising.Given as goal

abbrev pub invariant-loop-number : goal.invariant-loop-number
invariant-loop-number l = is_rising_above l.low (drop l.number-index l.rest) ≡ is_rising l.numbers
