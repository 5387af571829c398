-- How the code comes to a move: by what is due as if the device took each put, or what is lacking.
use Rattle.std.specs.Prelude.{◌≡◌, ℕ, Bool, true, false, ◌||◌, List, Option, Some, None}
use Rattle.caa_base.specs.declared.written.entry.Entry.{Entry}
use Rattle.caa_base.specs.declared.written.entry.Kind.TheVariants as kind
use Rattle.place_plan.specs.declared.drafts.draft_rows.Step.{Step}
use Rattle.place_plan.specs.declared.drafts.draft_rows.Step.TheVariants as step
use Rattle.place_plan.specs.Plans.PlanValue.{Plan}
use Rattle.place_plan.specs.RulesOfJournals.Entries.{is_of}
use Rattle.place_plan.specs.RulesOfJournals.Roles.{register, is_over}
use Rattle.place_plan.specs.RulesOfJournals.Journals.{is_put}
use Rattle.place_plan.specs.RulesOfJournals.Machine.{work_entry}
use Rattle.journal_replay.specs.Moves.{IsWait}
use Rattle.journal_replay.specs.declared.moves.Move.{Move}
use Rattle.journal_replay.specs.declared.moves.Move.TheVariants as move
use Rattle.journal_replay.specs.declared.moves.Lack.{Lack}

-- the entry of t that a move comes to where the device takes each put, where there is one
abbrev pub entry_in : ℕ → Move → Option Entry
entry_in t (move.Make e) = Some e
entry_in t (move.Put e) = Some e
entry_in t (move.Mix work) = Some (work_entry work.place t work.rounds work.from)
entry_in t (move.Wait wait) = None
entry_in t move.Over = None

-- an entry that is made is neither one of work nor a put, one that is put is a put, work that is to be done starts with the register
-- of t, who waits does so for what is lacking, and who is through is over
abbrev pub IsRight : Plan → List Entry → ℕ → Move → Type 0
IsRight plan past t (move.Make e) = is_of kind.Work e || is_put e ≡ false
IsRight plan past t (move.Put e) = is_put e ≡ true
IsRight plan past t (move.Mix work) = work.from ≡ register plan past work.place t
IsRight plan past t (move.Wait wait) = IsWait plan past t wait.place wait.lack
IsRight plan past t move.Over = is_over plan past t ≡ true

-- the wait for what is lacking in p
abbrev pub waits_for : ℕ → Lack → Move
waits_for p l = move.Wait (record { place = p; lack = l })

-- the step leads into a place
abbrev pub enters : Option Step → Bool
enters (Some (step.Enter k)) = true
enters _ = false
