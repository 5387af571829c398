use Rattle.std.proofs.Common.{◌≡◌, true, take}
use Rattle.place_plan.specs.Drafts.DraftRules.{all_differ}
use Rattle.script_checker.proofs.lookups.all_differ.Given as goal

abbrev pub invariant-loop-number : goal.invariant-loop-number
invariant-loop-number l = (l.met ≡ take l.number-index l.list) × (all_differ (take l.number-index l.list) ≡ true)
