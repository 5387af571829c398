use Rattle.std.proofs.Common.{◌≡◌, drop}
use Rattle.place_plan.specs.Drafts.DraftRules.{roles_enter}
use Rattle.place_plan.proofs.drafts.uses.roles_enter.Given as goal

abbrev pub invariant-loop-number : goal.invariant-loop-number
invariant-loop-number l = roles_enter l.nests l.number (drop l.number l.roles) ≡ roles_enter l.nests 0 l.roles
