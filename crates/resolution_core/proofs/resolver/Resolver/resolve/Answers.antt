use Rattle.std.proofs.Common.{◌≡◌, ◌∙◌, ◌∷◌, sym, ap, subst, Some, slice_set}
use Rattle.place_plan.specs.Plans.Places.{internal_of}
use Rattle.place_plan.specs.RulesOfJournals.Raising.{exceptions_raised}
use Rattle.core_words.specs.Joining.{IsCoverOf}
use Rattle.resolution_core.specs.inner.Recoveries.{at, resolved_to}
use Rattle.resolution_core.specs.inner.Standing.{StandsFor}
use Rattle.resolution_core.proofs.Keeping.{resolved_keeps}
use Rattle.resolution_core.proofs.resolver.Resolver.resolve.Goals as goal

pub returns-clause-least : goal.returns-clause-least
returns-clause-least c = λ plan past s.
    let was = s.each c.args.place in
    let is : (at c.args.self.now c.args.place).cover ≡ Some c.in-Some.cover = rw (← c.row.ensures) c.in-Some.is in
    (subst (IsCoverOf (internal_of plan c.args.place) (exceptions_raised plan past c.args.place)) is was.cover).1

pub returns-clause-keeps : goal.returns-clause-keeps
returns-clause-keeps c = λ plan past e by s arg acts.
    subst (StandsFor plan (e ∷ past))
    (ap (λ x. slice_set c.args.self.now c.args.place (resolved_to x (at c.args.self.now c.args.place))) arg ∙ sym c.settle.ensures)
    (resolved_keeps plan past e c.args.place by c.args.self.now c.requires.there s acts)
