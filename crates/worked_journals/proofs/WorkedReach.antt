-- What can come in the places of small actions, worked out by hand: what can't come is shown not to, and a table of all that can is shown
-- to leave nothing out.
--
-- The scripts: that of Alternates.antt, and the same with this action in place of `bad`:
--   action quiet / use x / roles r / body r / read x / end
use Rattle.std.proofs.Common.{◌≡◌, ℕ, pos, ◌==◌, ◌<◌, ◌⊎◌, true, false, ◌||◌, if◌then◌else◌, List, [], ◌∷◌, ◌++◌, length, slice_get, Some, zero, suc, refl, sym, ap, ◌∙◌, subst, inl, inr, arith, codes}
use Rattle.std.proofs.lemmas.Bool.{and_parts, or_cases, or_left, cases_Bool, eqb-true, eq-eqb, false≢true}
use Rattle.cover_table.specs.Cover.{CoverOrder, IsLeastCover, covers, covers_each}
use Rattle.caa_base.specs.Written.Lists.{member}
use Rattle.caa_base.specs.declared.written.entry.Outcome.{Outcome}
use Rattle.caa_base.specs.declared.written.entry.Outcome.TheVariants as outcome
use Rattle.caa_base.specs.declared.written.entry.Test.TheVariants.{Below, Above}
use Rattle.caa_base.specs.declared.written.entry.Verdict.TheVariants as verdict
use Rattle.caa_base.proofs.ListLemmas.{all_from}
use Rattle.place_plan.specs.Plans.PlanValue.{Plan}
use Rattle.place_plan.specs.Plans.Places.{graph_at}
use Rattle.place_plan.specs.declared.drafts.draft_rows.AbortRow.TheVariants as abort
use Rattle.place_plan.specs.declared.drafts.draft_rows.ActionRow.{ActionRow}
use Rattle.place_plan.specs.declared.drafts.draft_rows.GraphRow.{GraphRow}
use Rattle.place_plan.specs.declared.drafts.draft_rows.NestRow.{NestRow}
use Rattle.place_plan.specs.declared.drafts.draft_rows.RoleRow.{RoleRow}
use Rattle.place_plan.specs.declared.drafts.draft_rows.Step.{Step}
use Rattle.place_plan.specs.declared.drafts.draft_rows.Step.TheVariants as step
use Rattle.reach_laws.specs.ReachedSteps.{can_raise, is_enter, EndsBy}
use Rattle.reach_laws.specs.CanCome.{action_of, use_in, step_in, body_verdicts, answers, Source, step_of_role, nested_use, given_up_use, stands_at, is_right_behind, IsBefore, in_body, through, Excludes, itself, or_given_up, earlier, CanRaise, CanBeRaised, CanBeResolved, CanEnd, CanBeTried, by_step, by_use, by_itself, by_abort, by_failure, least_of, calmly, by_answers, broken_off, not_taken_back, in_turn}
use Rattle.reach_tables.specs.declared.table.ReachRow.{ReachRow}
use Rattle.reach_tables.specs.ReachTable.{can_resolve, groups_of, LeavesNothingOut}
use Rattle.worked_journals.proofs.Notation.{plain_graph, universal, graph, object, program, role, nest, action, least_cover_from}
use Rattle.worked_journals.proofs.Alternates.{x, plan, good_action, outer_action}

-- ---- an action that asks for an undo: the one behind it can be tried

pub bad_undone : CanEnd plan 0 outcome.Undone
bad_undone = calmly 0 outcome.Undone refl refl

pub good_tried : CanBeTried plan 2 0 1 1
good_tried = in_turn 2 0 1 1 refl refl undone_before
  where
    undone_before : (i c : ℕ) → i < 1 → slice_get (use_in (action_of plan 2) 0).actions i ≡ Some c → CanEnd plan c outcome.Undone
    undone_before zero c l at = let same : 0 ≡ c = cc in subst (λ b. CanEnd plan b outcome.Undone) same bad_undone
    undone_before (suc i) c l at = absurd (omega arith)

-- and it never commits, since it handles nothing
calm_asks : (a : ℕ) (how : Outcome) → EndsBy (graph_at plan (action_of plan a).interface) (body_verdicts (action_of plan a)) how
    → a ≡ 0 → how ≡ outcome.Commit → ⊥
calm_asks a how said e f =
    let by_body : EndsBy (graph_at plan 0) (verdict.Undo ∷ []) outcome.Commit =
    subst (EndsBy (graph_at plan 0) (verdict.Undo ∷ [])) f
    (subst (λ b. EndsBy (graph_at plan (action_of plan b).interface) (body_verdicts (action_of plan b)) how) e said) in
    false≢true (sym by_body.0)

hot_asks : (a y : ℕ) (how : Outcome) → EndsBy (graph_at plan (action_of plan a).interface) (answers (action_of plan a) y) how
    → a ≡ 0 → how ≡ outcome.Commit → ⊥
hot_asks a y how said e f =
    let by_handlers : EndsBy (graph_at plan 0) (verdict.Undo ∷ []) outcome.Commit =
    subst (EndsBy (graph_at plan 0) (verdict.Undo ∷ [])) f
    (subst (λ b. EndsBy (graph_at plan (action_of plan b).interface) (answers (action_of plan b) y) how) e said) in
    false≢true (sym by_handlers.0)

pub bad_asks : (a : ℕ) (how : Outcome) → CanEnd plan a how → a ≡ 0 → how ≡ outcome.Commit → ⊥
bad_asks a how (calmly _ _ ends said) e f = calm_asks a how said e f
bad_asks a how (by_answers _ y _ resolved said) e f = hot_asks a y how said e f
bad_asks a how (broken_off _ y resolved fails) e f = cc
bad_asks a how (not_taken_back _ undone some) e f = cc

-- ---- an action in which nothing can be raised: the one behind it is never tried

abbrev pub quiet_r : RoleRow
quiet_r = role (codes "r") (program (step.Read x ∷ []) verdict.Done) [] abort.Never

abbrev pub quiet_action : ActionRow
quiet_action = action (codes "quiet") (x ∷ []) (quiet_r ∷ []) []

abbrev pub quiet_plan : Plan
quiet_plan = record plan { actions = quiet_action ∷ good_action ∷ outer_action ∷ [] }

no_use : (a k j b : ℕ) → CanBeTried quiet_plan a k j b → a ≡ 0 → ⊥
no_use a k j b (in_turn _ _ _ _ entered at undone) e =
    let none : slice_get [] j ≡ Some b = subst (λ c. slice_get (use_in (action_of quiet_plan c) k).actions j ≡ Some b) e at in
    cc

no_step : (r i y : ℕ) (s : Step) → step_in quiet_action r i ≡ Some s → can_raise universal y s ≡ true → ⊥
no_step zero zero y s at raises =
    let same : step.Read x ≡ s = cc in
    false≢true (subst (λ t. can_raise universal y t ≡ true) (sym same) raises)
no_step zero (suc i) y s at raises = cc
no_step (suc r) i y s at raises = cc

no_source : (a : ℕ) (source : Source) (y : ℕ) → CanRaise quiet_plan a source y → a ≡ 0 → ⊥
no_source a source y (by_step _ r i _ s at raises) e =
    no_step r i y s (subst (λ c. step_in (action_of quiet_plan c) r i ≡ Some s) e at)
    (subst (λ c. can_raise (action_of quiet_plan c).fault y s ≡ true) e raises)
no_source a source y (by_use _ k j b _ how tried ends made) e = no_use a k j b tried e

not_raised : (a : ℕ) (source : Source) (y : ℕ) → CanBeRaised quiet_plan a source y → a ≡ 0 → ⊥
not_raised a source y (by_itself _ _ _ can) e = no_source a source y can e
not_raised a source y (by_abort _ k j b z other u tried others together names) e = no_use a k j b tried e
not_raised a source y (by_failure _ k j b other u tried others together some) e = no_use a k j b tried e

pub not_resolved : (a y : ℕ) → CanBeResolved quiet_plan a y → a ≡ 0 → ⊥
not_resolved a y (least_of _ _ raised source some can apart least) e = by_raised raised some can
  where
    by_raised : (raised : List ℕ) → 0 < length raised
        → ((z : ℕ) → member z raised ≡ true → CanBeRaised quiet_plan a (source z) z) → ⊥
    by_raised [] some can = absurd (omega arith)
    by_raised (z ∷ zs) some can = not_raised a (source z) z (can z (or_left _ _ (eq-eqb z z refl))) e

calm_commits : (a : ℕ) (how : Outcome)
    → EndsBy (graph_at quiet_plan (action_of quiet_plan a).interface) (body_verdicts (action_of quiet_plan a)) how
    → a ≡ 0 → how ≡ outcome.Undone → ⊥
calm_commits a how said e f =
    let by_body : EndsBy (graph_at plan 0) (verdict.Done ∷ []) outcome.Undone =
    subst (EndsBy (graph_at plan 0) (verdict.Done ∷ [])) f
    (subst (λ b. EndsBy (graph_at quiet_plan (action_of quiet_plan b).interface) (body_verdicts (action_of quiet_plan b)) how)
    e said) in
    false≢true by_body

pub quiet_stays : (a : ℕ) (how : Outcome) → CanEnd quiet_plan a how → a ≡ 0 → how ≡ outcome.Undone → ⊥
quiet_stays a how (calmly _ _ ends said) e f = calm_commits a how said e f
quiet_stays a how (by_answers _ y _ resolved said) e f = not_resolved a y resolved e
quiet_stays a how (broken_off _ y resolved fails) e f = not_resolved a y resolved e
quiet_stays a how (not_taken_back _ undone some) e f = cc

pub never_tried : (a k j b : ℕ) → CanBeTried quiet_plan a k j b → a ≡ 2 → k ≡ 0 → j ≡ 1 → ⊥
never_tried a k j b (in_turn _ _ _ _ entered at undone) e f g =
    let first : slice_get (use_in (action_of quiet_plan a) k).actions 0 ≡ Some 0 = rw (e, f) refl in
    quiet_stays 0 outcome.Undone (undone 0 0 (omega (arith, g)) first) refl refl

-- ---- a table of all that can come in the first script

-- `bad` is refused its put, or says undo
abbrev pub bad_reach : ReachRow
bad_reach = record { order = []; by_uses = []; given_up = []; commits = false; signals = []; undone = true; failed = true }

-- `good` can be refused its add
abbrev pub good_reach : ReachRow
good_reach = record { order = []; by_uses = []; given_up = []; commits = true; signals = []; undone = true; failed = true }

-- `outer` hears of an undo of `good`, or of a failure of either
abbrev pub outer_reach : ReachRow
outer_reach =
    record {
      order = [];
      by_uses = (universal ∷ []) ∷ [];
      given_up = [];
      commits = true;
      signals = [];
      undone = true;
      failed = true;
    }

pub nothing_left_out : LeavesNothingOut plan (bad_reach ∷ good_reach ∷ outer_reach ∷ [])
nothing_left_out zero = record { order = refl; uses = refl; calm = refl; resolved = refl; failures = refl }
nothing_left_out (suc zero) = record { order = refl; uses = refl; calm = refl; resolved = refl; failures = refl }
nothing_left_out (suc (suc zero)) = record { order = refl; uses = refl; calm = refl; resolved = refl; failures = refl }
nothing_left_out (suc (suc (suc a))) = record { order = refl; uses = refl; calm = refl; resolved = refl; failures = refl }

-- without what the use carries out, something is left out
pub left_out : LeavesNothingOut plan (bad_reach ∷ good_reach ∷ record outer_reach { by_uses = [] } ∷ []) → ⊥
left_out all = false≢true (all 2).uses

-- ---- the rule of order: a role that checks twice raises once, so what covers both is never resolved; two roles raise both
--
-- The script:
--   object height 0 / object width 0
--   graph sizes / exception large / exception high / exception wide / cover large high / cover large wide / end
--   action alone / use height width / internal sizes / roles r
--   body r / read height / check above 9 high / read width / check above 9 wide / end
--   action shared / use height width / internal sizes / roles r s
--   body r / read height / check above 9 high / body s / read width / check above 9 wide / end

abbrev pub height : ℕ
height = 0

abbrev pub width : ℕ
width = 1

abbrev pub large : ℕ
large = 1

abbrev pub high : ℕ
high = 2

abbrev pub wide : ℕ
wide = 3

abbrev pub sizes_graph : GraphRow
sizes_graph =
    graph
    (codes "universal" ∷ codes "large" ∷ codes "high" ∷ codes "wide" ∷ [])
    ((universal ∷ large ∷ high ∷ wide ∷ []) ∷ (large ∷ high ∷ wide ∷ []) ∷ (high ∷ []) ∷ (wide ∷ []) ∷ [])

abbrev pub sizes : CoverOrder
sizes = sizes_graph.graph

abbrev pub checks_height : List Step
checks_height = step.Read height ∷ step.Check Above (pos 9) high ∷ []

abbrev pub checks_width : List Step
checks_width = step.Read width ∷ step.Check Above (pos 9) wide ∷ []

abbrev pub alone_r : RoleRow
alone_r = role (codes "r") (program (checks_height ++ checks_width) verdict.Done) [] abort.Never

abbrev pub alone_action : ActionRow
alone_action = record (action (codes "alone") (height ∷ width ∷ []) (alone_r ∷ []) []) { internal = 1 }

abbrev pub shared_r : RoleRow
shared_r = role (codes "r") (program checks_height verdict.Done) [] abort.Never

abbrev pub shared_s : RoleRow
shared_s = role (codes "s") (program checks_width verdict.Done) [] abort.Never

abbrev pub shared_action : ActionRow
shared_action = record (action (codes "shared") (height ∷ width ∷ []) (shared_r ∷ shared_s ∷ []) []) { internal = 1 }

abbrev pub sizes_plan : Plan
sizes_plan =
    record plan {
      objects = object (codes "height") 0 ∷ object (codes "width") 0 ∷ [];
      graphs = plain_graph ∷ sizes_graph ∷ [];
      actions = alone_action ∷ shared_action ∷ [];
    }

-- ---- one role: each exception has a step of its own, and the one has to be over before the other begins

abbrev RaisedAlone : Source → ℕ → Type 0
RaisedAlone source y = ((source ≡ step_of_role 0 1) × (y ≡ high)) ⊎ ((source ≡ step_of_role 0 3) × (y ≡ wide))

steps_alone : (r i y : ℕ) (s : Step) → step_in alone_action r i ≡ Some s → can_raise universal y s ≡ true
    → RaisedAlone (step_of_role r i) y
steps_alone zero zero y s at raises =
    let same : step.Read height ≡ s = cc in
    absurd (false≢true (subst (λ t. can_raise universal y t ≡ true) (sym same) raises))
steps_alone zero (suc zero) y s at raises =
    let same : step.Check Above (pos 9) high ≡ s = cc in
    inl (refl, sym (eqb-true high y (subst (λ t. can_raise universal y t ≡ true) (sym same) raises)))
steps_alone zero (suc (suc zero)) y s at raises =
    let same : step.Read width ≡ s = cc in
    absurd (false≢true (subst (λ t. can_raise universal y t ≡ true) (sym same) raises))
steps_alone zero (suc (suc (suc zero))) y s at raises =
    let same : step.Check Above (pos 9) wide ≡ s = cc in
    inr (refl, sym (eqb-true wide y (subst (λ t. can_raise universal y t ≡ true) (sym same) raises)))
steps_alone zero (suc (suc (suc (suc i)))) y s at raises = absurd cc
steps_alone (suc r) i y s at raises = absurd cc

no_use_alone : (a k j b : ℕ) → CanBeTried sizes_plan a k j b → a ≡ 0 → ⊥
no_use_alone a k j b (in_turn _ _ _ _ entered at undone) e =
    let none : slice_get [] j ≡ Some b = subst (λ c. slice_get (use_in (action_of sizes_plan c) k).actions j ≡ Some b) e at in
    cc

raises_alone : (a : ℕ) (source : Source) (y : ℕ) → CanRaise sizes_plan a source y → a ≡ 0 → RaisedAlone source y
raises_alone a source y (by_step _ r i _ s at raises) e =
    steps_alone r i y s (subst (λ c. step_in (action_of sizes_plan c) r i ≡ Some s) e at)
    (subst (λ c. can_raise (action_of sizes_plan c).fault y s ≡ true) e raises)
raises_alone a source y (by_use _ k j b _ how tried ends made) e = absurd (no_use_alone a k j b tried e)

raised_alone : (a : ℕ) (source : Source) (y : ℕ) → CanBeRaised sizes_plan a source y → a ≡ 0 → RaisedAlone source y
raised_alone a source y (by_itself _ _ _ can) e = raises_alone a source y can e
raised_alone a source y (by_abort _ k j b z other u tried others together names) e = absurd (no_use_alone a k j b tried e)
raised_alone a source y (by_failure _ k j b other u tried others together some) e = absurd (no_use_alone a k j b tried e)

pub first_excludes : Excludes alone_action (step_of_role 0 1) (step_of_role 0 3)
first_excludes = earlier _ _ (in_body _ _ 0 1 3 (omega arith) refl refl) refl

-- of some of which each is raised so, and no two exclude each other
module _ (raised : List ℕ) (source : ℕ → Source)
    (can : (y : ℕ) → member y raised ≡ true → RaisedAlone (source y) y)
    (apart : (y z : ℕ) → member y raised ≡ true → member z raised ≡ true → (y ≡ z → ⊥)
    → Excludes alone_action (source y) (source z) → ⊥) where
  not_both : member high raised ≡ true → member wide raised ≡ true → ⊥
  not_both h w = elim (can high h) [
    | inl a ↦ elim (can wide w) [
      | inl b ↦ let same : wide ≡ high = b.1 in cc
      | inr b ↦ apart high wide h w (λ same. cc)
          (subst (λ s. Excludes alone_action s (source wide)) (sym a.0)
          (subst (Excludes alone_action (step_of_role 0 1)) (sym b.0) first_excludes))
    ]
    | inr a ↦ let same : high ≡ wide = a.1 in cc
  ]

  all_high : member high raised ≡ true → (y : ℕ) → member y raised ≡ true → y ≡ high
  all_high h y m = elim (can y m) [
    | inl a ↦ a.1
    | inr a ↦ absurd (not_both h (subst (λ z. member z raised ≡ true) a.1 m))
  ]

  all_wide : member high raised ≡ false → (y : ℕ) → member y raised ≡ true → y ≡ wide
  all_wide h y m = elim (can y m) [
    | inl a ↦ absurd (false≢true (sym h ∙ subst (λ z. member z raised ≡ true) a.1 m))
    | inr a ↦ a.1
  ]

  -- what is raised is one exception, and that one covers all of it
  each_by : (x : ℕ) → covers sizes x x ≡ true → ((y : ℕ) → member y raised ≡ true → y ≡ x) → covers_each sizes x raised ≡ true
  each_by x own all = all_from (covers sizes x) raised (λ y m. subst (λ z. covers sizes x z ≡ true) (sym (all y m)) own)

  pub not_large : IsLeastCover sizes raised large → ⊥
  not_large least = elim (cases_Bool (member high raised)) [
    | inl h ↦ false≢true (least.least high (omega arith) (each_by high refl (all_high h)))
    | inr h ↦ false≢true (least.least wide (omega arith) (each_by wide refl (all_wide h)))
  ]

pub never_large : (a y : ℕ) → CanBeResolved sizes_plan a y → a ≡ 0 → y ≡ large → ⊥
never_large a y (least_of _ _ raised source some can apart least) e f =
    not_large raised source (λ z m. raised_alone a (source z) z (can z m) e)
    (λ z u m n differ excludes. apart z u m n differ
    (subst (λ b. Excludes (action_of sizes_plan b) (source z) (source u)) (sym e) excludes))
    (subst (IsLeastCover sizes raised) f
    (subst (λ b. IsLeastCover (graph_at sizes_plan (action_of sizes_plan b).internal) raised y) e least))

-- ---- two roles: neither step has to be over before the other begins

no_enter : (r i k : ℕ) → is_enter k (step_in shared_action r i) ≡ true → ⊥
no_enter zero zero k e = false≢true e
no_enter zero (suc zero) k e = false≢true e
no_enter zero (suc (suc i)) k e = false≢true e
no_enter (suc zero) zero k e = false≢true e
no_enter (suc zero) (suc zero) k e = false≢true e
no_enter (suc zero) (suc (suc i)) k e = false≢true e
no_enter (suc (suc r)) i k e = false≢true e

no_use_behind : (s t : Source) → IsBefore shared_action s t → (k : ℕ) → t ≡ nested_use k → ⊥
no_use_behind s t (in_body _ _ r i j l first second) k e =
    no_enter r j k (subst (λ u. stands_at shared_action r j u ≡ true) e second)
no_use_behind s t (through _ _ m first second) k e = no_use_behind s (nested_use m) first m refl

one_role : (s t : Source) → IsBefore shared_action s t → (q i r j : ℕ) → s ≡ step_of_role q i → t ≡ step_of_role r j → q ≡ r
one_role s t (in_body _ _ o m n l first second) q i r j e f =
    let by_first = and_parts _ _ (subst (λ u. stands_at shared_action o m u ≡ true) e first) in
    let by_second = and_parts _ _ (subst (λ u. stands_at shared_action o n u ≡ true) f second) in
    eqb-true q o by_first.0 ∙ sym (eqb-true r o by_second.0)
one_role s t (through _ _ m first second) q i r j e f = absurd (no_use_behind s (nested_use m) first m refl)

pub beside : (s t : Source) → Excludes shared_action s t → (q i r j : ℕ) → s ≡ step_of_role q i → t ≡ step_of_role r j → q ≡ r
beside s t (itself _ kept) q i r j e f = let same : step_of_role q i ≡ step_of_role r j = sym e ∙ f in cc
beside s t (or_given_up k) q i r j e f = absurd cc
beside s t (earlier _ _ before behind) q i r j e f = one_role s t before q i r j e f

abbrev by_measure : ℕ → Source
by_measure y = if y == high then step_of_role 0 1 else step_of_role 1 1

high_or_wide : (y : ℕ) → member y (high ∷ wide ∷ []) ≡ true → (y ≡ high) ⊎ (y ≡ wide)
high_or_wide y m = elim (or_cases (high == y) ((wide == y) || false) m) [
  | inl e ↦ inl (sym (eqb-true high y e))
  | inr e ↦ elim (or_cases (wide == y) false e) [
    | inl f ↦ inr (sym (eqb-true wide y f))
    | inr f ↦ absurd (false≢true f)
  ]
]

pub large_comes : CanBeResolved sizes_plan 1 large
large_comes =
    least_of 1 large (high ∷ wide ∷ []) by_measure (omega arith) raised apart (least_cover_from sizes (high ∷ wide ∷ []) large refl)
  where
    raised : (y : ℕ) → member y (high ∷ wide ∷ []) ≡ true → CanBeRaised sizes_plan 1 (by_measure y) y
    raised y m = elim (high_or_wide y m) [
      | inl e ↦ subst (λ z. CanBeRaised sizes_plan 1 (by_measure z) z) (sym e)
          (by_itself 1 high (step_of_role 0 1) (by_step 1 0 1 high (step.Check Above (pos 9) high) refl refl))
      | inr e ↦ subst (λ z. CanBeRaised sizes_plan 1 (by_measure z) z) (sym e)
          (by_itself 1 wide (step_of_role 1 1) (by_step 1 1 1 wide (step.Check Above (pos 9) wide) refl refl))
    ]

    of_two : (y z : ℕ) → (y ≡ high) ⊎ (y ≡ wide) → (z ≡ high) ⊎ (z ≡ wide) → (y ≡ z → ⊥)
        → Excludes shared_action (by_measure y) (by_measure z) → ⊥
    of_two y z (inl e) (inl f) differ excludes = differ (e ∙ sym f)
    of_two y z (inl e) (inr f) differ excludes =
        absurd (omega (arith, beside _ _ excludes 0 1 1 1 (ap by_measure e) (ap by_measure f)))
    of_two y z (inr e) (inl f) differ excludes =
        absurd (omega (arith, beside _ _ excludes 1 1 0 1 (ap by_measure e) (ap by_measure f)))
    of_two y z (inr e) (inr f) differ excludes = differ (e ∙ sym f)

    apart : (y z : ℕ) → member y (high ∷ wide ∷ []) ≡ true → member z (high ∷ wide ∷ []) ≡ true → (y ≡ z → ⊥)
        → Excludes shared_action (by_measure y) (by_measure z) → ⊥
    apart y z m n = of_two y z (high_or_wide y m) (high_or_wide z n)

-- ---- a use between: it has to be over before what stands behind it begins, but where it was given up a role may raise right behind it
--
-- The script, after that of `shared`:
--   action guarded / use height width / internal sizes / roles r s / nest n shared r s
--   body r / enter n / check below 1 high / check below 1 wide / body s / check above 9 large / enter n / end

abbrev pub guarded_r : RoleRow
guarded_r =
    role
    (codes "r")
    (program (step.Enter 0 ∷ step.Check Below (pos 1) high ∷ step.Check Below (pos 1) wide ∷ []) verdict.Done)
    []
    abort.Never

abbrev pub guarded_s : RoleRow
guarded_s = role (codes "s") (program (step.Check Above (pos 9) large ∷ step.Enter 0 ∷ []) verdict.Done) [] abort.Never

abbrev pub guarded_n : NestRow
guarded_n = nest (codes "n") (1 ∷ []) (0 ∷ 1 ∷ []) (universal ∷ [])

abbrev pub guarded_action : ActionRow
guarded_action =
    record (action (codes "guarded") (height ∷ width ∷ []) (guarded_r ∷ guarded_s ∷ []) (guarded_n ∷ [])) { internal = 1 }

-- what one role does before the use, and what the other does behind it
pub across_the_use : Excludes guarded_action (step_of_role 1 0) (step_of_role 0 1)
across_the_use =
    earlier _ _ (through _ _ 0 (in_body _ _ 1 0 1 (omega arith) refl refl) (in_body _ _ 0 0 1 (omega arith) refl refl)) refl

-- the use, and the steps behind it
pub use_then_step : Excludes guarded_action (nested_use 0) (step_of_role 0 1)
use_then_step = earlier _ _ (in_body _ _ 0 0 1 (omega arith) refl refl) refl

-- where it was given up, all of these but the very next
pub given_up_then_further : Excludes guarded_action (given_up_use 0) (step_of_role 0 2)
given_up_then_further = earlier _ _ (in_body _ _ 0 0 2 (omega arith) refl refl) refl

pub given_up_then_next : (s t : Source) → Excludes guarded_action s t → s ≡ given_up_use 0 → t ≡ step_of_role 0 1 → ⊥
given_up_then_next s t (itself _ kept) e f = let same : given_up_use 0 ≡ step_of_role 0 1 = sym e ∙ f in cc
given_up_then_next s t (or_given_up k) e f = cc
given_up_then_next s t (earlier _ _ before behind) e f =
    let at : is_right_behind guarded_action (given_up_use 0) (step_of_role 0 1) ≡ false =
    subst (λ u. is_right_behind guarded_action u (step_of_role 0 1) ≡ false) e
    (subst (λ u. is_right_behind guarded_action s u ≡ false) f behind) in
    false≢true (sym at)

-- ---- and a table tells as much of the two that check

-- nobody handles what is resolved, so a place ends undone
abbrev pub sizes_reach : ReachRow
sizes_reach = record { order = []; by_uses = []; given_up = []; commits = true; signals = []; undone = true; failed = true }

pub sizes_told : LeavesNothingOut sizes_plan (sizes_reach ∷ sizes_reach ∷ [])
sizes_told zero = record { order = refl; uses = refl; calm = refl; resolved = refl; failures = refl }
sizes_told (suc zero) = record { order = refl; uses = refl; calm = refl; resolved = refl; failures = refl }
sizes_told (suc (suc a)) = record { order = refl; uses = refl; calm = refl; resolved = refl; failures = refl }

pub alone_told : can_resolve sizes (groups_of alone_action sizes_reach) large ≡ false
alone_told = refl

pub shared_told : can_resolve sizes (groups_of shared_action sizes_reach) large ≡ true
shared_told = refl
