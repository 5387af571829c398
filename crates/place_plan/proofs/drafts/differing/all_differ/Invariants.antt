use Rattle.std.proofs.Common.{◌≡◌, drop}
use Rattle.place_plan.specs.Drafts.DraftRules.{all_differ}
use Rattle.place_plan.proofs.drafts.differing.all_differ.Given as goal

abbrev pub invariant-loop-index : goal.invariant-loop-index
invariant-loop-index l = all_differ (drop l.index l.numbers) ≡ all_differ l.numbers
