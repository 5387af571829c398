use Rattle.std.proofs.Common.{[], ◌∷◌, ◌++◌, ap, ◌∙◌, refl}
use Rattle.place_plan.specs.inner.PlaceLists.{rows_of}
use Rattle.place_plan.specs.inner.Unfolded.{bare_place}
use Rattle.place_plan.proofs.OnPlans.PlaceLists.{pushed}
use Rattle.place_plan.proofs.plans.places.Places.push.Goals as goal

pub returns : goal.returns
returns c =
    let old = c.self.inside in
    ap (rows_of c.append.new.list.items c.append-2.new.list.items old.uses.items) c.in_ok-push.ensures.items
    ∙ pushed old.around.items c.append.new.list.items c.args.around.now old.players.items c.append-2.new.list.items
    c.args.who.now old.uses.items old.parts.items
    (record {
      around = c.in_ok-around.around;
      nest = c.args.nest;
      action = c.args.action;
      roles = c.in_ok-roles.roles;
      uses = record { from = 0; to = 0 };
    }) c.self.invariant c.in_ok-around.ensures.list c.in_ok-roles.ensures.list c.in_ok-around.ensures.part
    c.in_ok-roles.ensures.part refl
    ∙ ap (λ rows. rows ++ bare_place c.args.action c.args.who.now c.args.around.now c.args.nest ∷ []) c.self.view_is
