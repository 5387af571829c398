-- Wrong rules for when a place is undone, for a put that is refused in a handler, and for how a place that failed is left. Each
-- leaves out one condition of a right rule, and lets a journal through that the right rules refuse and that breaks a law. So each
-- shows what one condition is there for.
use Rattle.std.proofs.Common.{◌≡◌, ℕ, pos, true, if◌then◌else◌, List, [], ◌∷◌, ◌++◌, take, Option, Some, None, MatchOption, arith, refl}
use Rattle.std.proofs.lemmas.Bool.{false≢true, true≢false}
use Rattle.caa_base.specs.declared.written.entry.Entry.{Entry}
use Rattle.caa_base.specs.declared.written.entry.Kind.TheVariants as kind
use Rattle.caa_base.specs.declared.written.entry.Verdict.{Verdict}
use Rattle.caa_base.specs.declared.written.entry.Verdict.TheVariants as verdict
use Rattle.place_plan.specs.declared.drafts.draft.Draft.{Draft}
use Rattle.place_plan.specs.Plans.Bound.{action_bound}
use Rattle.place_plan.specs.Plans.PlanValue.{Plan}
use Rattle.place_plan.specs.Plans.Unfolding.{unfold_at}
use Rattle.place_plan.specs.Drafts.DraftRules.{depth_within}
use Rattle.place_plan.specs.RulesOfJournals.Whereabouts.{inside, has_ended, is_going}
use Rattle.place_plan.specs.RulesOfJournals.Objects.{has_failed}
use Rattle.place_plan.specs.RulesOfJournals.Roles.{program_of, was_refused_in_handler, wants_undo}
use Rattle.place_plan.specs.RulesOfJournals.Rules.{Row, IsPlain, Names, SaysVerdict, verdict_due, exception_carried}
use Rattle.journal_laws.specs.Laws.{StillLaw, ReactionLaw}
use Rattle.worked_journals.proofs.Notation.{arrive, start, write, put_fault, verdict_done, verdict_undo, undo, restore_well, end_commit, end_failed, leave, program, rule_at, UnfoldsInto}
use Rattle.worked_journals.proofs.SpoiledRules.{RuleBook, IsTooLax, entries_before, entries_after}
use Rattle.worked_journals.proofs.ThreeLevels as three_levels
use Rattle.worked_journals.proofs.ThreeLevels.{ann, bob, x}
use Rattle.worked_journals.proofs.PutFailsInHandler as put_fails
use Rattle.worked_journals.proofs.FailureHandled as failure_handled

-- ---- an Undo that doesn't wait for all roles
--
-- What a role has done is set back where it is at rest. If an object is set back while another role still moves it, it has no value
-- that anybody can tell.

-- the rule of an Undo, but for the wait until all roles have said how they end: that one of them asks for it is enough
pub record UndoesAtOnce (plan : Plan) (past : List Entry) (e : Entry) : Type 0 where
  pub here : inside plan past e.by ≡ Some e.place
  pub when : is_going past e.place ≡ true
  pub wanted : wants_undo plan past e.place ≡ true
  pub plain : IsPlain e

abbrev pub undoes_at_once : RuleBook
undoes_at_once kind.Undo = UndoesAtOnce
undoes_at_once k = Row k

-- three levels, where bob asks for undo and raises nothing
abbrev pub asking_draft : Draft
asking_draft =
    record three_levels.draft {
      actions =
          three_levels.deep_action
          ∷ three_levels.mid_action
          ∷ (record three_levels.outer_action {
            roles = three_levels.outer_a ∷ record three_levels.outer_b { body = program [] verdict.Undo } ∷ [];
          }) ∷ [];
    }

abbrev pub asking : Plan
asking = record three_levels.plan { actions = asking_draft.actions }

asking_unfold : UnfoldsInto asking_draft asking
unfolding unfold_at depth_within action_bound
asking_unfold = record { whole = refl; same = refl }

-- bob sets the outermost action back while ann is at work two levels further in, and then ann puts the same object
abbrev pub ann_is_still_at_work : List Entry
ann_is_still_at_work =
    arrive 0 ann
    ∷ arrive 0 bob
    ∷ start 0 ann
    ∷ arrive 1 ann
    ∷ start 1 ann
    ∷ arrive 2 ann
    ∷ start 2 ann
    ∷ verdict_undo 0 bob
    ∷ undo 0 bob
    ∷ restore_well 0 bob x 0
    ∷ write 2 ann x 3
    ∷ []

pub undoes_at_once_is_too_lax : IsTooLax undoes_at_once StillLaw asking ann_is_still_at_work
undoes_at_once_is_too_lax = record {
  lets_through = assumption;
  refused = λ h. absurd (false≢true (rule_at asking ann_is_still_at_work 8 h).agreed.agreed);
  breaks =
      λ law. absurd (false≢true
      (law.quiet 0 (entries_after 10 ann_is_still_at_work) (entries_before 10 ann_is_still_at_work)
      (write 2 ann x 3) refl refl refl).1);
}

-- ---- a handler that goes on to its verdict over a refused put
--
-- A handler is the last that an action has against an exception. If a put of it was refused, the exception isn't handled, and
-- nobody else is there to handle it.

-- the verdict that is due, but from a handler in which a put was refused the one that it has at its end
abbrev pub verdict_anyway : Plan → List Entry → ℕ → ℕ → Option Verdict
verdict_anyway plan past p t =
    if was_refused_in_handler past p t then Some (program_of plan past p t).verdict else verdict_due plan past p t

pub record SaysAnyway (plan : Plan) (past : List Entry) (e : Entry) : Type 0 where
  pub here : inside plan past e.by ≡ Some e.place
  pub due : MatchOption (verdict_anyway plan past e.place e.by) ⊥ (SaysVerdict e)
  pub value : e.value ≡ pos 0

abbrev pub handles_over_refusals : RuleBook
handles_over_refusals kind.Verdict = SaysAnyway
handles_over_refusals k = Row k

-- the device refuses the put of the handler, and ann is done all the same
abbrev pub handled_without_its_put : List Entry
handled_without_its_put = take 8 put_fails.journal ++ verdict_done 0 ann ∷ end_commit 0 ann ∷ leave 0 ann ∷ []

pub handles_over_refusals_is_too_lax : IsTooLax handles_over_refusals ReactionLaw put_fails.plan handled_without_its_put
handles_over_refusals_is_too_lax = record {
  lets_through = assumption (put_fails.broken_is_least);
  refused = λ h. let wrong = (rule_at put_fails.plan handled_without_its_put 8 h).due.0 in absurd (omega (arith, wrong));
  breaks =
      λ law. absurd (true≢false
      (law.refused 0 (entries_after 7 handled_without_its_put) (entries_before 7 handled_without_its_put)
      (put_fault 0 ann x 4) refl refl refl).0);
}

-- ---- a Leave that keeps a failure to itself
--
-- An action that failed leaves an object as it shouldn't be. The action round it has that object, too, and goes on with it unless
-- it is told.

-- what is carried out, but for nothing where a restore was refused
abbrev pub carried_but_failure : Plan → List Entry → ℕ → ℕ → Option ℕ
carried_but_failure plan past p t = if has_failed past p then None else exception_carried plan past p t

pub record LeavesUntold (plan : Plan) (past : List Entry) (e : Entry) : Type 0 where
  pub here : inside plan past e.by ≡ Some e.place
  pub when : has_ended past e.place ≡ true
  pub carries : Names e (carried_but_failure plan past e.place e.by)
  pub value : e.value ≡ pos 0

abbrev pub leaves_untold : RuleBook
leaves_untold kind.Leave = LeavesUntold
leaves_untold k = Row k

-- the inner action failed, so that x keeps the 5 that was to be taken back, and the outer one commits that
abbrev pub failure_is_kept : List Entry
failure_is_kept = take 9 failure_handled.journal ++ leave 1 ann ∷ verdict_done 0 ann ∷ end_commit 0 ann ∷ leave 0 ann ∷ []

pub leaves_untold_is_too_lax : IsTooLax leaves_untold ReactionLaw failure_handled.plan failure_is_kept
leaves_untold_is_too_lax = record {
  lets_through = assumption;
  refused = λ h. let wrong = (rule_at failure_handled.plan failure_is_kept 9 h).carries.0 in absurd (omega (arith, wrong));
  breaks =
      λ law. absurd (false≢true
      (law.told 1 0 (entries_after 9 failure_is_kept) (entries_before 9 failure_is_kept) (leave 1 ann)
      (end_failed 1 ann) refl refl refl refl refl refl));
}
