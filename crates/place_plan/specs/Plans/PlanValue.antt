-- What a plan is seen as.
use Rattle.std.specs.Prelude.{ℕ, List}
use Rattle.caa_base.specs.declared.written.entry.Drill.{Drill}
use Rattle.place_plan.specs.declared.drafts.draft_rows.ObjectRow.{ObjectRow}
use Rattle.place_plan.specs.declared.drafts.draft_rows.GraphRow.{GraphRow}
use Rattle.place_plan.specs.declared.drafts.draft_rows.ActionRow.{ActionRow}

-- an instance of an action: the places round it, the innermost first, of which a play has none; which nested use of the enclosing
-- action it is, 0 for a play; the number of the action; the participants that play its roles, in the order of the roles; and the places
-- of its nested uses in their order, of each use one for each of its actions
pub record PlaceRow : Type 0 where
  pub around : List ℕ
  pub nest : ℕ
  pub action : ℕ
  pub roles : List ℕ
  pub children : List (List ℕ)

-- the names of the participants, the objects, the graphs, the actions, the places into which the plays unfold, which of
-- these are the plays, the puts that the device is to refuse, and the objects that are watched
pub record Plan : Type 0 where
  pub participants : List (List ℕ)
  pub objects : List ObjectRow
  pub graphs : List GraphRow
  pub actions : List ActionRow
  pub places : List PlaceRow
  pub plays : List ℕ
  pub drills : List Drill
  pub watches : List ℕ
