-- What the draft of a script comes to whose lines were all taken.
use Rattle.std.proofs.Common.{◌≡◌, List, length, None, refl, sym, ap, ◌∙◌, subst}
use Rattle.place_plan.specs.declared.drafts.draft_rows.GraphRow.{GraphRow}
use Rattle.place_plan.specs.Drafts.DraftRules.{broken_rule}
use Rattle.place_plan.specs.Plans.Unfolding.{plan_of}
use Rattle.action_script.specs.Forms.Printing.{AreScript, forms_of}
use Rattle.action_script.specs.Forms.ScriptValue.{Script}
use Rattle.script_checker.specs.declared.declared.Declared.{Declared}
use Rattle.script_checker.specs.inner.Rows.{parted}
use Rattle.script_checker.specs.Compiled.{IsDeclared, BreaksNoRule}
use Rattle.script_checker.specs.PlanSizes.{counts_so_far, HasCounts}
use Rattle.script_checker.proofs.AcceptedDraft.{counts, keeps_parts, sizes_counted}
use Rattle.script_checker.proofs.Taking.{drafted, planned_by}

module _ (script : Script) (d : Declared) (rows : List GraphRow) (h : IsDeclared script d rows) where
  -- it breaks no rule
  pub unbroken : BreaksNoRule script → broken_rule (parted d rows) ≡ None
  unbroken law = law h.accepted (parted d rows) (drafted script d rows h)

  -- its plan is as large as was counted
  pub plan_counted : AreScript script.names (forms_of script.lines) → HasCounts script (counts_so_far d)
  plan_counted is =
      let draft = parted d rows in
      let of_draft = drafted script d rows h in
      let parts = keeps_parts script.names script.lines is.sound h.accepted draft of_draft in
      let sizes = sizes_counted script.names script.lines is.sound h.accepted draft of_draft parts in
      let few = counts script.names script.lines is.sound h.accepted draft of_draft in
      let participants =
      subst (λ (t : Declared). length t.participants ≡ length t.participant_rows) (sym h.declared) (sym few.participants.0) in
      let objects = subst (λ (t : Declared). length t.objects ≡ length t.object_rows) (sym h.declared) (sym few.objects.0) in
      let places = ap (λ (t : Declared). t.all_places) h.declared ∙ sizes.0 in
      let whole = ap (λ (t : Declared). t.whole_bound) h.declared ∙ sizes.1 in
      record {
        plan = plan_of draft;
        made = planned_by script d rows h (plan_of draft) refl;
        counted =
            rw (participants, objects, places, whole) refl;
      }
