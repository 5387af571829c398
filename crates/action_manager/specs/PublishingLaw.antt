-- What the plays of a legal journal publish is what they commit.
use Rattle.std.specs.Prelude.{◌≡◌, ◌≤◌, ℕ, List, length, take}
use Rattle.caa_base.specs.declared.written.entry.Entry.{Entry}
use Rattle.place_plan.specs.Plans.PlanValue.{Plan}
use Rattle.place_plan.specs.Plans.Places.{initials_of}
use Rattle.place_plan.specs.RulesOfJournals.Journals.{plays_ended, committed_value}
use Rattle.shared_views.specs.Publications.{value_after}
use Rattle.shared_views.specs.declared.observed.Reading.{Reading}
use Rattle.action_manager.specs.Publishing.{publications_of}

-- what was published, play by play, gives the committed values
pub record PublishingLaw (plan : Plan) (past : List Entry) : Type 0 where
  -- each play that has ended published once
  pub count : length (publications_of plan past) ≡ length (plays_ended plan past)
  -- after the first n publications an object has the value that the first n plays committed
  pub values : (n o : ℕ) → n ≤ length (publications_of plan past)
      → value_after (initials_of plan) (take n (publications_of plan past)) o ≡ committed_value plan past n o

-- the reading is what so many of the plays that had ended in this past committed
pub record IsCommitted (plan : Plan) (past : List Entry) (o : ℕ) (r : Reading) : Type 0 where
  pub ends : r.ends ≤ length (plays_ended plan past)
  pub value : r.value ≡ committed_value plan past r.ends o
