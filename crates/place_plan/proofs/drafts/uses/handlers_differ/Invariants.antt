use Rattle.std.proofs.Common.{◌≡◌, drop, map}
use Rattle.place_plan.specs.declared.drafts.draft_rows.HandlerRow.{HandlerRow}
use Rattle.place_plan.specs.Drafts.DraftRules.{all_differ}
use Rattle.place_plan.proofs.drafts.uses.handlers_differ.Given as goal

abbrev pub invariant-loop-index : goal.invariant-loop-index
invariant-loop-index l =
    all_differ (map (λ (h : HandlerRow). h.exception) (drop l.index l.handlers))
    ≡ all_differ (map (λ (h : HandlerRow). h.exception) l.handlers)
