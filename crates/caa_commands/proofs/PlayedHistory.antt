-- All that a device was ever asked for, after a play and after a laying out.
use Rattle.std.proofs.Common.{◌≡◌, ◌∙◌, true, List, [], Option, ap, sym, subst, inr}
use Rattle.caa_base.specs.declared.outside.plant.Asked.{Asked}
use Rattle.caa_base.specs.declared.written.entry.Entry.{Entry}
use Rattle.place_plan.specs.Plans.PlanValue.{Plan}
use Rattle.journal_replay.specs.Device.{history_after, WasOnlyLaid}
use Rattle.caa_commands.specs.declared.finding.Finding.{Finding}
use Rattle.caa_commands.specs.declared.finding.Finding.TheVariants as finding
use Rattle.caa_commands.specs.OutsideUse.{Left, IsUnplayed}
use Rattle.caa_commands.specs.Calls.{DoesNotBegin}

-- a history by the plan that was handed in, and by what the device was asked for before
pub went_on : (plan p : Plan) (journal : List Entry) (before b after : Option (List Asked)) → after ≡ history_after p journal b → p ≡ plan
    → b ≡ before → after ≡ history_after plan journal before
went_on plan p journal before b after h same base = h ∙ ap (λ q. history_after q journal b) same ∙ ap (history_after plan journal) base

-- after a play without an entry the device was only laid out
pub only_laid : (plan p : Plan) (journal : List Entry) (before b after : Option (List Asked)) → after ≡ history_after p journal b
    → p ≡ plan → journal ≡ [] → b ≡ before → WasOnlyLaid plan before after
only_laid plan p journal before b after h same none base =
    inr (true, went_on plan p journal before b after h same base ∙ ap (λ es. history_after plan es before) none)

-- where no memory was found, and nothing was played, no play began
pub nothing_played : {P : Type 0} (plan : Plan) (found : Finding) (left : Left P) → found ≡ finding.OutOfMemory
    → left.plant.lay_faults_after ≡ left.plant.lay_faults_before → IsUnplayed plan left → DoesNotBegin plan found left
nothing_played plan found left lost laid unplayed = subst (λ f. DoesNotBegin plan f left) (sym lost) (laid, unplayed)
