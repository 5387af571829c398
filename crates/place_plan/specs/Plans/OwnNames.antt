-- Names that tell the parts of a plan apart.
use Rattle.std.specs.Prelude.{◌≡◌, ◌≢◌, ℕ, ◌<◌, true, List, map, length}
use Rattle.std.specs.List.{All, AllPairs}
use Rattle.caa_base.specs.Written.Names.{is_name}
use Rattle.place_plan.specs.declared.drafts.draft_rows.GraphRow.{GraphRow}
use Rattle.place_plan.specs.declared.drafts.draft_rows.ObjectRow.{ObjectRow}
use Rattle.place_plan.specs.declared.drafts.draft_rows.RoleRow.{RoleRow}
use Rattle.place_plan.specs.declared.drafts.draft_rows.NestRow.{NestRow}
use Rattle.place_plan.specs.declared.drafts.draft_rows.ActionRow.{ActionRow}
use Rattle.place_plan.specs.Plans.PlanValue.{Plan}

-- each is a name by the grammar, and no two are the same
pub record AreOwnNames (names : List (List ℕ)) : Type 0 where
  pub spelled : All (λ name. is_name name ≡ true) names
  pub differ : AllPairs (λ a b. a ≢ b) names

-- a graph has such names, one for each of its exceptions
pub record NamesExceptions (row : GraphRow) : Type 0 where
  pub own : AreOwnNames row.names
  pub each : length row.names ≡ row.graph.count

-- participants, objects and the exceptions of each graph have names of their own, and no object is watched twice
pub record HasOwnNames (plan : Plan) : Type 0 where
  pub participants : AreOwnNames plan.participants
  pub objects : AreOwnNames (map (λ (row : ObjectRow). row.name) plan.objects)
  pub graphs : All NamesExceptions plan.graphs
  pub watched : All (λ object. object < length plan.objects) plan.watches
  pub once : AllPairs (λ a b. a ≢ b) plan.watches

-- the roles of an action have names of their own, and so have its nested uses
pub record NamesParts (action : ActionRow) : Type 0 where
  pub roles : AreOwnNames (map (λ (row : RoleRow). row.name) action.roles)
  pub nests : AreOwnNames (map (λ (row : NestRow). row.name) action.nests)

-- actions have names of their own, and so have the roles and the nested uses of each. No text tells these parts by their names, so a
-- plan without them may still have its journals written and read
pub record HasOwnParts (plan : Plan) : Type 0 where
  pub actions : AreOwnNames (map (λ (row : ActionRow). row.name) plan.actions)
  pub parts : All NamesParts plan.actions
