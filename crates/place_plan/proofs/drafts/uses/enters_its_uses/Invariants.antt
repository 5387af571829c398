use Rattle.std.proofs.Common.{◌≡◌, drop}
use Rattle.place_plan.specs.Drafts.DraftRules.{same_numbers, entered_by, filled_by}
use Rattle.place_plan.proofs.drafts.uses.enters_its_uses.Given as goal

abbrev pub invariant-loop-number : goal.invariant-loop-number
invariant-loop-number l =
    same_numbers (entered_by l.rest) (filled_by l.role l.number (drop l.number l.nests))
    ≡ same_numbers (entered_by l.steps) (filled_by l.role 0 l.nests)
