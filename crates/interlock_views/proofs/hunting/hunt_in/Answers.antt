use Rattle.std.proofs.Common.{rules, ◌∙◌, refl}
use Rattle.std.proofs.lemmas.Result.{IfOk-weaker}
use Rattle.interlock_views.proofs.Played.{hunt_begins}
use Rattle.interlock_views.proofs.hunting.hunt_in.Goals as goal

pub returns-clause-plan : goal.returns-clause-plan
returns-clause-plan g c =
    IfOk-weaker c.refuse_all.result _ _ (λ after on. on.plan ∙ (c.in_ok-hunt.ensures.plan ∙ c.in_ok-plan.ensures)) c.refuse_all.ensures

pub returns-clause-taken : goal.returns-clause-taken
returns-clause-taken g c = IfOk-weaker c.refuse_all.result _ _ (λ after on. on.taken ∙ c.in_ok-hunt.ensures.taken) c.refuse_all.ensures

pub returns-clause-hunt : goal.returns-clause-hunt
returns-clause-hunt g c =
    let told = c.args.rules.items in
    IfOk-weaker c.refuse_all.result _ _
    (λ after on. on.hunt told (c.in_ok-hunt.ensures.hunt told (hunt_begins _ refl (search rules)))) c.refuse_all.ensures
