use Rattle.std.proofs.Common.{◌≡◌, [], map, IfSome, subst}
use Rattle.std.proofs.Math.Logic.{∥∥₁_map}
use Rattle.place_plan.specs.RulesOfJournals.WellFormed.{AllWellFormed}
use Rattle.entry_log.specs.Live.{IsLive, entries_with}
use Rattle.entry_log.specs.LineLogs.{Tells}
use Rattle.entry_log.specs.LoggedPlants.{IsOnlyPlanOf}
use Rattle.entry_log.proofs.logged_plant.LoggedPlant.is_live.Goals as goal

pub returns-clause-script : goal.returns-clause-script
returns-clause-script g c =
    subst (λ d. ∥ IsOnlyPlanOf d.script d.plan ∥₁) c.self.view_is (∥∥₁_map c.self.invariant.1 (λ k. k.planned))

pub returns-clause-all : goal.returns-clause-all
returns-clause-all g c =
    subst (λ d. ∥ IfSome (g.P.Plant.history d.plant) (λ all. all ≡ map (λ m. m.came) d.course) ∥₁) c.self.view_is
    (∥∥₁_map c.self.invariant.1 (λ k. k.all))

pub returns-clause-live : goal.returns-clause-live
returns-clause-live g c =
    subst (λ d. ∥ (AllWellFormed d.plan (entries_with [] d.course) → IsLive g.K.Sink d.plan d.opening [] d.course) ∥₁) c.self.view_is
    (∥∥₁_map c.self.invariant.1 (λ k. k.live))

pub returns-clause-told : goal.returns-clause-told
returns-clause-told g c =
    subst (λ d. ∥ (AllWellFormed d.plan (entries_with [] d.course) → Tells g.K.Sink d.plan d.opening d.log (entries_with [] d.course)) ∥₁) c.self.view_is
    (∥∥₁_map c.self.invariant.1 (λ k. k.told))
