-- What the tables of sizes tell of a draft with the actions that have ended.
use Rattle.std.proofs.Common.{◌≡◌, ℕ, ◌<◌, List, length, subst, arith}
use Rattle.caa_base.specs.Written.Limits.{most_depth}
use Rattle.place_plan.specs.declared.drafts.draft.Draft.{Draft}
use Rattle.place_plan.specs.declared.drafts.draft_rows.ActionRow.{ActionRow}
use Rattle.place_plan.specs.Plans.Bound.{bound}
use Rattle.place_plan.specs.Drafts.DraftRules.{KeepsParts}
use Rattle.place_plan.specs.Plans.Unfolding.{plan_of}
use Rattle.place_plan.specs.Plans.Weights.{counted, at, played_weight, own_entries}
use Rattle.place_plan.proofs.OnPlans.Weighing.{counted_places, counted_bound}
use Rattle.script_checker.specs.declared.declared.Declared.{Declared}
use Rattle.script_checker.specs.declared.declared.Block.{Block}
use Rattle.script_checker.proofs.DepthsKept.{AreShallow}
use Rattle.script_checker.proofs.WeightsTell.{IsWeight, own_weights, own_at, weighs}
use Rattle.script_checker.proofs.WeightsKept.{one_place}

-- how many entries an instance of an action may have, as far as they are counted
abbrev counted_entries : ActionRow → ℕ
counted_entries action = counted (own_entries action)

module _ (d : Declared) (b : Block) (shallow : AreShallow d b) (draft : Draft) (keeps : KeepsParts draft)
    (same : draft.actions ≡ d.actions) where
  pub places_told : ((a : ℕ) → a < length d.actions → IsWeight one_place d.places d.actions a)
      → counted (played_weight (at d.places) draft.plays) ≡ counted (length (plan_of draft).places)
  places_told tell =
      counted_places draft keeps d.places (own_weights one_place d.actions)
      (λ a l. own_at one_place d.actions a (subst (λ (actions : List ActionRow). a < length actions) same l))
      (rw same (λ a l. weighs one_place d.depths d.places d.actions shallow.depths.tell tell shallow.there.0 most_depth
      a l (shallow.depths.tell a l).1))

  pub entries_told : ((a : ℕ) → a < length d.actions → IsWeight own_entries d.bounds d.actions a)
      → counted (played_weight (at d.bounds) draft.plays) ≡ counted (bound (plan_of draft))
  entries_told tell =
      counted_bound draft keeps d.bounds (own_weights counted_entries d.actions)
      (rw same (λ a l. own_at counted_entries d.actions a l))
      (rw same (λ a l. weighs counted_entries d.depths d.bounds d.actions shallow.depths.tell
      (λ n below. omega (arith, tell n below)) shallow.there.0 most_depth a l (shallow.depths.tell a l).1))
