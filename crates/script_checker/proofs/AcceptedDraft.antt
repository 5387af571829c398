-- The draft of an accepted script keeps rules of place_plan.
use Rattle.std.proofs.Common.{◌≡◌, ℕ, ◌≤◌, ◌==◌, true, not, List, None, length, slice_index_or, codes, refl, sym, subst, ◌∙◌, arith, suc}
use Rattle.std.specs.List.{list_all}
use Rattle.std.proofs.lemmas.Bool.{le-leb, and_parts, and_from}
use Rattle.caa_base.specs.Written.Lists.{is_empty}
use Rattle.caa_base.specs.declared.written.entry.Drill.{Drill}
use Rattle.place_plan.specs.declared.drafts.draft_rows.ActionRow.{ActionRow}
use Rattle.place_plan.specs.declared.drafts.draft_rows.ObjectRow.{ObjectRow}
use Rattle.place_plan.specs.declared.drafts.draft_rows.PlayRow.{PlayRow}
use Rattle.place_plan.specs.Plans.Places.{no_action}
use Rattle.place_plan.specs.declared.drafts.draft.Draft.{Draft}
use Rattle.place_plan.specs.Drafts.DraftRules.{size_rule, graph_rule, order_rule, enter_rule, fill_rule, fills, nest_fills, all_below, all_differ, face_rule, has_one_face, depth_rule, handlers_differ, bound_rule, KeepsParts, object_rule, holds_action, holds_role, holds_nest, range_rule, exceptions_of, action_in_range, handler_rule, maps_all, broken_rule}
use Rattle.action_script.specs.Words.NumberedNames.{number_in}
use Rattle.action_script.specs.declared.forms.script.Line.{Line}
use Rattle.action_script.specs.Forms.Printing.{is_sound, forms_of}
use Rattle.script_checker.specs.declared.declared.Declared.{Declared}
use Rattle.script_checker.specs.declared.declared.Block.{Block}
use Rattle.script_checker.specs.declared.declared.Block.TheVariants as block
use Rattle.script_checker.specs.DeclaredSoFar.{nothing_yet, nothing_declared, exceptions_at}
use Rattle.script_checker.specs.Compiled.{declared_after, AreAccepted, IsDraftOf}
use Rattle.script_checker.proofs.Accepted.{IsKept, holds_after}
use Rattle.script_checker.proofs.CountsKept.{AreCountsFew, counts_kept, few_at_first}
use Rattle.script_checker.proofs.PartsFit.{ActionsFit, fits_kept}
use Rattle.script_checker.proofs.EntersKept.{AllEnter, enters_kept}
use Rattle.caa_base.proofs.ListLemmas.{all_imply, all_both}
use Rattle.script_checker.proofs.NestsKept.{Pass, pass_kept}
use Rattle.script_checker.proofs.NestTests.{uses_filled, filled_test, uses_faced, faced_test}
use Rattle.script_checker.proofs.HandlersKept.{HandlersDiffer, differ_kept}
use Rattle.script_checker.proofs.HeldKept.{AreHeld, held_in, uses_held, held_kept}
use Rattle.script_checker.proofs.DepthsKept.{AreShallow, depths_kept, depths_within}
use Rattle.place_plan.specs.Plans.Bound.{bound}
use Rattle.place_plan.specs.Plans.Unfolding.{plan_of}
use Rattle.place_plan.specs.Plans.Weights.{counted, at, played_weight}
use Rattle.script_checker.proofs.WeightsKept.{AreWeighed, weights_kept}
use Rattle.script_checker.proofs.SizesTold.{places_told, entries_told}
use Rattle.script_checker.proofs.OrderKept.{IsInOrder, order_kept}
use Rattle.script_checker.proofs.PlaysKept.{play_right, PlaysRight, plays_kept, plays_ranged, plays_filled}
use Rattle.script_checker.proofs.GraphsKept.{IsPlainFirst, first_kept, rows_first, rows_named, rows_many, rows_count}
use Rattle.script_checker.proofs.RangesKept.{action_right, is_valued, drill_below}
use Rattle.script_checker.proofs.MapsKept.{use_mapped, AreMapped, maps_kept, mapped_at_first}
use Rattle.caa_base.specs.Written.Limits.{most_participants, most_objects, most_actions, most_watches, most_drills, most_graphs, most_places, most_entries}

module _ (names : List (List ℕ)) (lines : List Line) (sound : list_all (is_sound names) (forms_of lines) ≡ true)
    (accepted : AreAccepted names (nothing_yet names) lines) (draft : Draft)
    (drafted : IsDraftOf names (declared_after names (nothing_yet names) lines).declared draft) where
  abbrev last : Declared
  last = (declared_after names (nothing_yet names) lines).declared

  abbrev block_after : Block
  block_after = (declared_after names (nothing_yet names) lines).block

  -- what each line keeps, and what holds before the first
  kept : (Holds : Declared → Block → Type 0) → IsKept names Holds → Holds (nothing_declared (number_in names (codes "universal"))) block.Top
      → Holds last block_after
  kept Holds each first = holds_after names Holds each (nothing_yet names) lines sound accepted first

  pub counts : AreCountsFew last block_after
  counts = kept AreCountsFew (counts_kept names) (few_at_first (number_in names (codes "universal")))

  fits : ActionsFit last block_after
  fits = kept ActionsFit (fits_kept names) (refl, tt)

  -- no more parts than the limits allow
  pub keeps_sizes : size_rule draft ≡ true
  keeps_sizes =
      let participants : length draft.participants ≤ most_participants =
      rw drafted.participants (omega (arith, counts.participants.0, counts.participants.1)) in
      let objects : length draft.objects ≤ most_objects = rw drafted.objects (omega (arith, counts.objects.0, counts.objects.1)) in
      let graphs : length draft.graphs ≤ suc most_graphs =
      rw (rows_many names last.graphs draft.graphs drafted.graphs) (omega (arith, counts.graphs.0, counts.graphs.1)) in
      let actions : length draft.actions ≤ most_actions = rw drafted.actions (omega (arith, counts.actions.0, counts.actions.1)) in
      let watches : length draft.watches ≤ most_watches = rw drafted.watches counts.watches in
      let drills : length draft.drills ≤ most_drills = rw drafted.drills counts.drills in
      rw (
        le-leb _ _ participants,
        le-leb _ _ objects,
        le-leb _ _ graphs,
        le-leb _ _ actions,
        le-leb _ _ watches,
        le-leb _ _ drills,
      ) (rw drafted.actions fits.0)

  -- the plain graph stands first, and each graph has its names
  pub keeps_graphs : graph_rule draft ≡ true
  keeps_graphs =
      let first = kept IsPlainFirst (first_kept names) refl in
      rw (rows_first names last.graphs draft.graphs drafted.graphs first, rows_named names last.graphs draft.graphs drafted.graphs) refl

  -- each role enters just the uses that it fills
  pub keeps_enters : enter_rule draft ≡ true
  keeps_enters = rw drafted.actions (kept AllEnter (enters_kept names) refl)

  -- what an action nests was declared before it
  pub keeps_order : order_rule draft ≡ true
  keeps_order =
      let h = kept IsInOrder (order_kept names) ((refl, tt), refl) in
      rw drafted.actions h.1

  -- every role of what is nested or played is filled, each by another
  nests_filled : list_all (λ (action : ActionRow). list_all (nest_fills draft) action.nests) draft.actions ≡ true
  nests_filled =
      let h = kept (Pass uses_filled filled_test) (pass_kept uses_filled filled_test names) (refl, tt) in
      all_imply (λ (action : ActionRow). list_all (uses_filled draft.actions last.graphs) action.nests)
      (λ (action : ActionRow). list_all (nest_fills draft) action.nests) draft.actions
      (λ action k. all_imply (uses_filled draft.actions last.graphs) (nest_fills draft) action.nests
      (λ nest m.
      let p = and_parts (all_below (length draft.actions) nest.actions) _ m in
      let q = and_parts (all_differ nest.roles) _ p.1 in
      all_imply (λ a. length nest.roles == length (slice_index_or draft.actions a no_action).roles)
      (λ a. fills draft a nest.roles) nest.actions (λ a e. and_from _ _ e q.0) q.1)
      k)
      (subst (λ (actions : List ActionRow). list_all
      (λ (action : ActionRow). list_all (uses_filled actions last.graphs) action.nests) actions ≡ true) (sym drafted.actions) h.0)

  plays_right : list_all (play_right (length draft.participants) draft.actions) draft.plays ≡ true
  plays_right =
      let h = kept PlaysRight (plays_kept names) refl in
      rw (drafted.participants, counts.participants.0, drafted.actions, drafted.plays) h

  pub keeps_fillings : fill_rule draft ≡ true
  keeps_fillings = and_from _ _ nests_filled (plays_filled draft plays_right)

  -- all actions of a use tell the same exceptions outside
  pub keeps_faces : face_rule draft ≡ true
  keeps_faces =
      let h = kept (Pass uses_faced faced_test) (pass_kept uses_faced faced_test names) (refl, tt) in
      all_imply (λ (action : ActionRow). list_all (uses_faced draft.actions last.graphs) action.nests)
      (λ (action : ActionRow). list_all (has_one_face draft) action.nests) draft.actions
      (λ action k. all_imply (uses_faced draft.actions last.graphs) (has_one_face draft) action.nests
      (λ nest m. (and_parts (all_below (length draft.actions) nest.actions) _ m).1) k)
      (subst (λ (actions : List ActionRow). list_all
      (λ (action : ActionRow). list_all (uses_faced actions last.graphs) action.nests) actions ≡ true) (sym drafted.actions) h.0)

  -- an action owns all objects that it touches
  pub keeps_objects : object_rule draft ≡ true
  keeps_objects =
      let h = kept AreHeld (held_kept names) (refl, tt) in
      all_imply (held_in draft.actions) (holds_action draft) draft.actions
      (λ action k.
      let p = and_parts (list_all (holds_role action.objects) action.roles) _ k in
      and_from _ _ p.0 (all_imply (uses_held draft.actions action.objects) (holds_nest draft action.objects) action.nests
      (λ nest m. (and_parts (all_below (length draft.actions) nest.actions) _ m).1) p.1))
      (subst (λ (actions : List ActionRow). list_all (held_in actions) actions ≡ true) (sym drafted.actions) h.0)

  -- no action is too deep
  pub shallow : AreShallow last block_after
  shallow =
      kept AreShallow (depths_kept names)
      (record { there = (refl, tt); depths = record { many = refl; tell = λ a l. absurd (omega arith) }; shallow_in = tt })

  pub keeps_depths : depth_rule draft ≡ true
  keeps_depths =
      rw drafted.actions (depths_within last.depths last.actions shallow.depths.tell shallow.there.0 0 last.actions (omega arith))

  -- what the plays come to is counted
  pub weighed : AreWeighed last block_after
  weighed =
      kept AreWeighed (weights_kept names)
      (record {
        there = (refl, tt);
        right = refl;
        places = (record { many = refl; tell = λ a l. absurd (omega arith); whole = refl }, omega arith);
        entries = (record { many = refl; tell = λ a l. absurd (omega arith); whole = refl }, omega arith);
      })

  -- where all parts are right, the places and the bound of the plan are those that were counted
  pub sizes_counted : KeepsParts draft → (last.all_places ≡ length (plan_of draft).places) × (last.whole_bound ≡ bound (plan_of draft))
  sizes_counted keeps =
      let places = places_told last block_after shallow draft keeps drafted.actions weighed.places.0.tell in
      let entries = entries_told last block_after shallow draft keeps drafted.actions weighed.entries.0.tell in
      let all_places : last.all_places ≡ counted (length (plan_of draft).places) =
      weighed.places.0.whole ∙ subst
      (λ (plays : List PlayRow). counted (played_weight (at last.places) plays) ≡ counted (length (plan_of draft).places))
      drafted.plays places in
      let whole : last.whole_bound ≡ counted (bound (plan_of draft)) =
      weighed.entries.0.whole ∙ subst
      (λ (plays : List PlayRow). counted (played_weight (at last.bounds) plays) ≡ counted (bound (plan_of draft))) drafted.plays
      entries in
      (omega (arith, all_places, weighed.places.1), omega (arith, whole, weighed.entries.1))

  -- so they are within the limits
  pub keeps_bound : KeepsParts draft → bound_rule draft ≡ true
  keeps_bound keeps =
      let sizes = sizes_counted keeps in
      and_from _ _ (le-leb (length (plan_of draft).places) most_places (omega (arith, sizes.0, weighed.places.1)))
      (le-leb (bound (plan_of draft)) most_entries (omega (arith, sizes.1, weighed.entries.1)))

  -- no role handles an exception twice
  pub handlers_apart : list_all (λ (action : ActionRow). list_all handlers_differ action.roles) draft.actions ≡ true
  handlers_apart =
      let h = kept HandlersDiffer (differ_kept names) (refl, tt) in
      rw drafted.actions h.0

  -- ---- ranges and maps

  mapped : AreMapped last block_after
  mapped = kept AreMapped (maps_kept names) (mapped_at_first (number_in names (codes "universal")))

  many_objects : length last.objects ≤ length draft.objects
  many_objects = rw drafted.objects (omega (arith, counts.objects.0))

  exceptions : (g : ℕ) → exceptions_of draft g ≡ length (exceptions_at last.graphs g)
  exceptions g = rows_count names last.graphs draft.graphs g drafted.graphs

  actions_right : list_all (action_in_range draft) draft.actions ≡ true
  actions_right =
      let many_actions : length last.actions ≤ length draft.actions = rw drafted.actions (omega arith) in
      let many_graphs : length last.graphs ≤ length draft.graphs = omega (arith, rows_many names last.graphs draft.graphs drafted.graphs) in
      subst
      (λ (actions : List ActionRow). list_all
      (action_right (length draft.objects) (length draft.actions) (length draft.graphs) (exceptions_of draft)) actions ≡ true)
      (sym drafted.actions)
      (mapped.ranges.ended_right (length draft.objects) (length draft.actions) (length draft.graphs) (exceptions_of draft)
      many_objects many_actions many_graphs (λ g. omega (arith, exceptions g)))

  -- all numbers are in range
  pub keeps_ranges : range_rule draft ≡ true
  keeps_ranges =
      let outside = mapped.ranges.outside_right in
      let valued = subst (λ (rows : List ObjectRow). list_all is_valued rows ≡ true) (sym drafted.objects) outside.valued in
      let drilled =
      subst (λ (drills : List Drill). list_all (drill_below (length draft.objects)) drills ≡ true) (sym drafted.drills)
      (outside.drilled (length draft.objects) many_objects) in
      let watched =
      subst (λ (watches : List ℕ). all_below (length draft.objects) watches ≡ true) (sym drafted.watches)
      (outside.watched (length draft.objects) many_objects) in
      and_from _ _ valued (and_from _ _ actions_right (and_from _ _ (plays_ranged draft plays_right) (and_from _ _ drilled watched)))

  -- each exception of a nested use is mapped
  nests_map_all : list_all (λ (action : ActionRow). list_all (maps_all draft) action.nests) draft.actions ≡ true
  nests_map_all =
      let face : ℕ → ℕ = λ a. (slice_index_or draft.actions a no_action).interface in
      let h = mapped.maps (exceptions_of draft) face (record { counts = λ g l. exceptions g; faces = λ a l. rw drafted.actions refl }) in
      all_imply (λ (action : ActionRow). list_all (use_mapped (exceptions_of draft) face) action.nests)
      (λ (action : ActionRow). list_all (maps_all draft) action.nests) draft.actions
      (λ action k. all_imply (use_mapped (exceptions_of draft) face) (maps_all draft) action.nests
      (λ nest m. (and_parts (not (is_empty nest.actions)) _ m).1) k)
      (subst (λ (actions : List ActionRow). list_all
      (λ (action : ActionRow). list_all (use_mapped (exceptions_of draft) face) action.nests) actions ≡ true) (sym drafted.actions) h.0)

  pub keeps_handlers : handler_rule draft ≡ true
  keeps_handlers =
      all_both (λ (action : ActionRow). list_all handlers_differ action.roles)
      (λ (action : ActionRow). list_all (maps_all draft) action.nests) draft.actions handlers_apart nests_map_all

  -- ---- all rules

  pub keeps_parts : KeepsParts draft
  keeps_parts = record {
    sizes = keeps_sizes;
    graphs = keeps_graphs;
    ranges = keeps_ranges;
    order = keeps_order;
    fillings = keeps_fillings;
    enters = keeps_enters;
    objects = keeps_objects;
    depths = keeps_depths;
    handlers = keeps_handlers;
  }

  pub breaks_none : broken_rule draft ≡ None
  breaks_none =
      let parts = keeps_parts in
      rw (
        parts.sizes,
        parts.graphs,
        parts.ranges,
        parts.order,
        parts.fillings,
        parts.enters,
        parts.objects,
        parts.depths,
        parts.handlers,
        keeps_bound parts,
        keeps_faces,
      ) refl
