-- When a play has failed, and what is said of a plan that was played to its end.
use Rattle.std.specs.Prelude.{◌≡◌, ◌+◌, ◌-◌, ◌^◌, ◌<◌, ◌==◌, Bool, ◌&&◌, List, reverse, IfSome, is_none}
use Rattle.std.specs.List.{list_any}
use Rattle.caa_base.specs.declared.written.entry.Entry.{Entry}
use Rattle.caa_base.specs.declared.written.entry.Kind.TheVariants as kind
use Rattle.caa_base.specs.declared.written.entry.Outcome.TheVariants as outcome
use Rattle.caa_base.specs.Written.Marks.{mark_of}
use Rattle.place_plan.specs.Plans.PlanValue.{Plan}
use Rattle.place_plan.specs.Plans.Places.{parent}
use Rattle.place_plan.specs.RulesOfJournals.Entries.{is_of}
use Rattle.place_plan.specs.RulesOfJournals.Journals.{IsLegal, IsComplete, faults_in}
use Rattle.journal_laws.specs.Laws.{KeepsLaws}
use Rattle.journal_replay.specs.Device.{attempts_in, history_after, HasValues, HasDrills}
use Rattle.caa_commands.specs.OutsideUse.{Left, TellsAsBefore}

-- the entry ends a play as failed
abbrev pub is_failed_play : Plan → Entry → Bool
is_failed_play plan e = is_of kind.End e && ((e.mark == mark_of outcome.Failed) && is_none (parent plan e.place))

-- a play failed
abbrev pub has_failed_play : Plan → List Entry → Bool
has_failed_play plan journal = list_any (is_failed_play plan) journal

-- the plan was played to its end, and the journal that is handed back is the one of the play
pub record IsPlayed {P : Type 0} (plan : Plan) (left : Left P) : Type 0 where
  -- lawful clause
  pub legal : IsLegal plan left.journal
  pub complete : IsComplete plan left.journal
  pub laws : KeepsLaws plan (reverse left.journal)
  -- fault law: the device's count rose by one for each put and restore that was refused, unless it stands at its end
  pub faults : left.plant.faults_after < 2 ^ 64 - 1 → left.plant.faults_after ≡ left.plant.faults_before + faults_in left.journal
  -- it was asked once for each put and restore of the journal, and refused no laying out
  pub calls : left.plant.calls_after ≡ attempts_in left.journal
  pub laid : left.plant.lay_faults_after ≡ left.plant.lay_faults_before
  -- history clause: where the device tells all that it was ever asked for, that is one laying out more, then what the journal asks, in
  -- order, and nothing else
  pub history : left.plant.history ≡ history_after plan left.journal left.plant.history_before
  -- device clause: where the device tells its values and puts, they are those of the journal
  pub device : IfSome left.plant.state (HasValues plan left.journal)
  -- drill clause: where it tells its drills and tries, the refused puts are just those that were drilled
  pub drills : IfSome left.plant.drilling (HasDrills plan left.journal)
  -- and it goes on telling what it told before the play
  pub tells : TellsAsBefore left.plant
