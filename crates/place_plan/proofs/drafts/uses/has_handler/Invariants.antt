use Rattle.std.proofs.Common.{◌≡◌, drop, map}
use Rattle.place_plan.specs.declared.drafts.draft_rows.HandlerRow.{HandlerRow}
use Rattle.caa_base.specs.Written.Lists.{member}
use Rattle.place_plan.proofs.drafts.uses.has_handler.Given as goal

abbrev pub invariant-loop-handler : goal.invariant-loop-handler
invariant-loop-handler l =
    member l.exception (map (λ (h : HandlerRow). h.exception) (drop l.handler-index l.handlers))
    ≡ member l.exception (map (λ (h : HandlerRow). h.exception) l.handlers)
