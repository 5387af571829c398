use Rattle.std.proofs.Common.{sym, ◌∙◌}
use Rattle.place_plan.proofs.OnDrafts.DraftKeeps.{range_known}
use Rattle.place_plan.proofs.drafts.close.broken_part.Goals as goal

pub keeps_depth-requires-clause-known : goal.keeps_depth-requires-clause-known
keeps_depth-requires-clause-known c = range_known c.args.draft.now (sym c.keeps_ranges.ensures ∙ c.if-not-keeps_ranges.false)
