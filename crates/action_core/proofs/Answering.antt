-- What the tables answer is what the definitions say.
use Rattle.std.proofs.Common.{◌≡◌, ◌∙◌, ℕ, ◌==◌, ◌<◌, ◌≤◌, Bool, true, false, not, cond, ◌&&◌, ◌||◌, List, [], ◌∷◌, Option, Some, None, is_none, is_some, length, slice_get, refl, sym, ap, ap₂, arith, inl, inr}
use Rattle.std.specs.List.{list_any, list_all}
use Rattle.std.proofs.lemmas.Bool.{cases_lt, eqb-true, eq-eqb, false≢true, or_left, or_right}
use Rattle.cover_table.specs.Cover.{has_bit}
use Rattle.caa_base.specs.declared.written.entry.Entry.{Entry}
use Rattle.caa_base.specs.declared.written.entry.Kind.TheVariants as kind
use Rattle.caa_base.specs.declared.written.entry.Outcome.{Outcome}
use Rattle.caa_base.specs.declared.written.entry.Outcome.TheVariants as outcome
use Rattle.caa_base.specs.Written.Lists.{member, first_not, is_at, same_option}
use Rattle.caa_base.proofs.ListLemmas.{first_not_fails, first_not_nowhere}
use Rattle.place_plan.specs.declared.drafts.draft_rows.Step.TheVariants as step
use Rattle.place_plan.specs.Plans.PlanValue.{Plan}
use Rattle.place_plan.specs.Plans.Places.{parent, roles_of, objects_of, uses, alternates_of, next_alternate, plays_of}
use Rattle.place_plan.specs.RulesOfJournals.Entries.{has_by, is_by, is_in, newest}
use Rattle.place_plan.specs.RulesOfJournals.Whereabouts.{inside, is_inside, all_are_inside, has_ended, is_undoing, is_undone, is_left_in_silence, is_live}
use Rattle.place_plan.specs.RulesOfJournals.Raising.{has_handled, is_halted, all_are_halted, is_calm, exception_handled}
use Rattle.place_plan.specs.RulesOfJournals.Objects.{holder_of, objects_are_ready, is_tried, next_restore}
use Rattle.place_plan.specs.RulesOfJournals.Roles.{position, register, next_step, next_play, is_over, program_in}
use Rattle.place_plan.specs.RulesOfJournals.Journals.{LegalPast}
use Rattle.place_plan.proofs.OnPlans.Passing.{past_end}
use Rattle.place_plan.proofs.OnPlans.PlaysRise.{plays_in}
use Rattle.journal_laws.proofs.Playable.{IsPlayable}
use Rattle.journal_laws.proofs.Raised.{role_inside, raises}
use Rattle.journal_laws.proofs.Newest.{stands_newest, newest_none}
use Rattle.journal_laws.proofs.Holding.{undoing_started}
use Rattle.journal_laws.proofs.Lives.{live_from}
use Rattle.journal_laws.proofs.Over.{over_outside, over_done, over_from}
use Rattle.role_states.specs.declared.frame.Frame.{Frame}
use Rattle.role_states.specs.inner.Stacks.{at, top}
use Rattle.role_states.specs.inner.Standing.{IsInnermost, IsFrameOf, StandsFor}
use Rattle.role_states.proofs.Keeping.{innermost}
use Rattle.resolution_core.specs.declared.recovery.Recovery.{Recovery}
use Rattle.resolution_core.specs.inner.Recoveries.{at as recovery_at}
use Rattle.resolution_core.specs.inner.Standing.{StandsFor as RecoveriesStand}
use Rattle.object_versions.specs.declared.version.Version.{Version}
use Rattle.object_versions.specs.inner.KeptVersions.{at as version_at, StandsFor as VersionsStand}
use Rattle.action_core.specs.declared.stage.Stage.{Stage}
use Rattle.action_core.specs.inner.Asked.{place_of, place_kept, or_none, frame_kept, handled_kept}
use Rattle.action_core.specs.inner.KeptStages.{at as stage_at, StageOfEach}
use Rattle.action_endings.specs.inner.KeptEndings.{name_in}
use Rattle.journal_replay.specs.Questions.{outcome_of_end, name_of_abort}

-- ---- where participants are

module _ (plan : Plan) (playable : IsPlayable plan) (past : List Entry) (legal : LegalPast plan past) where
  -- who is in a place is a participant
  pub known_inside : (t p : ℕ) → inside plan past t ≡ Some p → t < length plan.participants
  known_inside t p here = playable.known p t (role_inside plan playable.tree past legal t p here)

  module _ (stacks : List (List Frame)) (s : StandsFor plan past stacks) where
    pub inside_right : (t : ℕ) → place_kept stacks t ≡ inside plan past t
    inside_right t = elim (cases_lt t (length plan.participants)) [
      | inl low ↦ by_top (top (at stacks t)) (innermost plan past t (at stacks t) (s.each t low))
      | inr high ↦
          let none : at stacks t ≡ [] = let many = s.as_many in past_end stacks t [] (omega (arith, high, many)) in
          ap (λ (fs : List Frame). place_of (top fs)) none ∙ by_place (inside plan past t) refl high
    ]
      where
        by_top : (o : Option Frame) → IsInnermost plan past t o → place_of o ≡ inside plan past t
        by_top None w = sym w
        by_top (Some f) w = sym w.0

        by_place : (o : Option ℕ) → inside plan past t ≡ o → length plan.participants ≤ t → None ≡ inside plan past t
        by_place None w high = sym w
        by_place (Some p) w high = let low = known_inside t p w in absurd (omega (arith, low, high))

    -- the frame of who is in a place is that of this place
    pub frame_right : (t p : ℕ) → inside plan past t ≡ Some p
        → ((frame_kept stacks t).place ≡ p) × IsFrameOf plan past t (frame_kept stacks t)
    frame_right t p here = by_top (top (at stacks t)) (innermost plan past t (at stacks t) (s.each t (known_inside t p here)))
      where
        by_top : (o : Option Frame) → IsInnermost plan past t o → ((or_none o).place ≡ p) × IsFrameOf plan past t (or_none o)
        by_top None w = let both : None ≡ Some p = sym w ∙ here in absurd cc
        by_top (Some f) w = let both : Some f.place ≡ Some p = sym w.0 ∙ here in (cc, w.1)

    pub register_right : (t p : ℕ) → inside plan past t ≡ Some p → (frame_kept stacks t).register ≡ register plan past p t
    register_right t p here = let w = frame_right t p here in w.1.register ∙ ap (λ q. register plan past q t) w.0

    pub handled_right : (t p : ℕ) → inside plan past t ≡ Some p → (frame_kept stacks t).handling ≡ has_handled past p t
    handled_right t p here = let w = frame_right t p here in w.1.handling ∙ ap (λ q. has_handled past q t) w.0

    pub position_right : (t p : ℕ) → inside plan past t ≡ Some p → (frame_kept stacks t).position ≡ position plan past p t
    position_right t p here = let w = frame_right t p here in w.1.position ∙ ap (λ q. position plan past q t) w.0

    module _ (rows : List Recovery) (r : RecoveriesStand plan past rows) where
      pub exception_right : (t p : ℕ) → inside plan past t ≡ Some p
          → handled_kept rows (frame_kept stacks t) p ≡ exception_handled past p t
      exception_right t p here =
          ap (λ b. cond b (recovery_at rows p).resolved None) (handled_right t p here) ∙ by_handle (has_handled past p t) refl
        where
          by_handle : (b : Bool) → has_handled past p t ≡ b
              → cond b (recovery_at rows p).resolved None ≡ exception_handled past p t
          by_handle true w =
              let some = stands_newest (is_by kind.Handle p t) past w in
              (r.each p).resolution ∙ ((raises plan playable.tree past legal).handles p t some.0 some.1).0 ∙ sym some.1
          by_handle false w = sym (newest_none (is_by kind.Handle p t) past w)

pub no_next : (plan : Plan) → IsPlayable plan → (past : List Entry) (t : ℕ) → length plan.participants ≤ t
    → next_play plan past t ≡ None
no_next plan playable past t high =
    first_not_nowhere (λ p. has_by kind.Arrive past p t) (plays_of plan t) (λ p m.
    let low = playable.known p t (plays_in plan t plan.plays p m).1 in
    absurd (omega (arith, low, high)))

-- ---- how far places have come

ended_as_any : (test : Entry → Bool) (past : List Entry) → is_some (outcome_of_end (newest test past)) ≡ list_any test past
ended_as_any test [] = refl
ended_as_any test (e ∷ past) = by_test (test e) (ended_as_any test past)
  where
    by_test : (b : Bool) → is_some (outcome_of_end (newest test past)) ≡ list_any test past
        → is_some (outcome_of_end (cond b (Some e) (newest test past))) ≡ (b || list_any test past)
    by_test true h = refl
    by_test false h = h

pub ended_right : (plan : Plan) (past : List Entry) (stages : List Stage) → StageOfEach plan past stages → (p : ℕ)
    → is_some (stage_at stages p).ended ≡ has_ended past p
ended_right plan past stages s p =
    ap (λ (o : Option Outcome). is_some o) (s.each p).ended ∙ ended_as_any (is_in kind.End p) past

-- ---- objects

module _ (plan : Plan) (playable : IsPlayable plan) (past : List Entry) (versions : List Version)
    (s : VersionsStand plan past versions) where
  pub restored_live : LegalPast plan past → (p o : ℕ) → is_undoing past p ≡ true → has_ended past p ≡ false
      → next_restore plan past p ≡ Some o → (is_live past p ≡ true) × (uses plan p o ≡ true)
  restored_live legal p o undoing lasts next = (
    live_from p past (undoing_started plan playable.tree past legal p undoing) lasts,
    (first_not_fails (is_tried past p) (objects_of plan p) o next).1,
  )

-- ---- giving up

-- what an Abort names is told in two words
pub name_told : (o : Option Entry) → name_in o ≡ name_of_abort o
name_told None = refl
name_told (Some e) = refl
