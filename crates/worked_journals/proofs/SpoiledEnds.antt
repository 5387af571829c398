-- Wrong rules for how a place starts, is undone, ends and is left, and a wrong bound. Each leaves out one condition of a right
-- rule, and lets a journal through that the right rules refuse and that breaks a law. So each shows what one condition is there
-- for.
use Rattle.std.proofs.Common.{◌≡◌, ℕ, pos, ◌+◌, ◌*◌, ◌<◌, Bool, true, false, not, ◌||◌, ◌&&◌, if◌then◌else◌, ◌==◌, List, [], ◌∷◌, ◌++◌, length, take, Option, Some, None, MatchBool, inl, arith, refl, ap, sum_by}
use Rattle.std.specs.Prelude.{slice_index_or, nat_abs}
use Rattle.std.specs.List.{list_any}
use Rattle.std.proofs.lemmas.Bool.{false≢true, true≢false}
use Rattle.caa_base.specs.declared.written.entry.Entry.{Entry}
use Rattle.caa_base.specs.declared.written.entry.Kind.TheVariants as kind
use Rattle.place_plan.specs.declared.drafts.draft_rows.ActionRow.{ActionRow}
use Rattle.place_plan.specs.Plans.PlanValue.{Plan, PlaceRow}
use Rattle.caa_base.specs.Written.Lists.{first_not}
use Rattle.place_plan.specs.Plans.Places.{objects_of, no_action}
use Rattle.place_plan.specs.RulesOfJournals.Entries.{has}
use Rattle.place_plan.specs.RulesOfJournals.Whereabouts.{inside, all_are_inside, has_started, has_ended, is_undoing}
use Rattle.place_plan.specs.RulesOfJournals.Raising.{is_doomed}
use Rattle.place_plan.specs.RulesOfJournals.Objects.{writes, is_tried, value_of, before_start, next_restore}
use Rattle.place_plan.specs.RulesOfJournals.Roles.{has_given}
use Rattle.place_plan.specs.RulesOfJournals.Rules.{Row, IsPlain, Names, EndsAgreed, undone_mark, exception_carried}
use Rattle.place_plan.specs.Plans.Bound.{longest_body, longest_handler}
use Rattle.place_plan.specs.RulesOfJournals.Journals.{IsLegal, IsComplete}
use Rattle.journal_laws.specs.Laws.{ExitLaw, OutcomeLaw, EffectLaw, IsolationLaw}
use Rattle.worked_journals.proofs.Notation.{arrive, start, read, work, verdict_done, end_commit, end_undone, leave, complete_from, rule_at}
use Rattle.worked_journals.proofs.Spoiled.{ends_undone_after_refusal, ends_undone_after_refusal_is_illegal}
use Rattle.worked_journals.proofs.SpoiledRules.{RuleBook, IsTooLax, entries_before, entries_after}
use Rattle.worked_journals.proofs.FirstPath as first_path
use Rattle.worked_journals.proofs.FirstPath.{ann, bob, x}
use Rattle.worked_journals.proofs.RestoreFails as restore_fails
use Rattle.worked_journals.proofs.RestoreFails.{y}
use Rattle.worked_journals.proofs.InnerCommitted as inner_committed
use Rattle.worked_journals.proofs.TwoPlays as two_plays
use Rattle.worked_journals.proofs.ThreeLevels as three_levels

-- ---- a Start while an object is held elsewhere
--
-- Two places that change one object at the same time lose one of the changes, and neither could be undone without the other.

-- the rule of a Start, but for the condition that the objects of the place have come back
pub record StartsWhileHeld (plan : Plan) (past : List Entry) (e : Entry) : Type 0 where
  pub here : inside plan past e.by ≡ Some e.place
  pub waits : has_started past e.place ≡ false
  pub spared : is_doomed plan past e.place ≡ false
  pub together : all_are_inside plan past e.place ≡ true
  pub plain : IsPlain e

abbrev pub starts_while_held : RuleBook
starts_while_held kind.Start = StartsWhileHeld
starts_while_held k = Row k

-- ann has read the object and is about to add to it, and bob's play starts and reads it too
abbrev pub both_read : List Entry
both_read =
    arrive 0 ann
    ∷ start 0 ann
    ∷ arrive 1 bob
    ∷ read 0 ann x 0
    ∷ start 1 bob
    ∷ read 1 bob x 0
    ∷ []

pub starts_while_held_is_too_lax : IsTooLax starts_while_held IsolationLaw two_plays.plan both_read
starts_while_held_is_too_lax = record {
  lets_through = assumption;
  refused = λ h. absurd (false≢true (rule_at two_plays.plan both_read 4 h).ready);
  breaks = λ law. absurd (false≢true (law.nested (read 1 bob x 0 ∷ []) (entries_before 5 both_read) 0 1 x refl refl refl refl refl));
}

-- ---- an undo that spares what an inner action wrote
--
-- What an inner action commits is final only once the outer one ends well. If the outer one is undone, it must be as if neither had
-- been.

-- p wrote o, and not only a place inside it
abbrev pub wrote_itself : List Entry → ℕ → ℕ → Bool
wrote_itself past p o = list_any (λ e. writes o e && (e.place == p)) past

-- the least object that p wrote itself and that has no restore there
abbrev pub next_own_restore : Plan → List Entry → ℕ → Option ℕ
next_own_restore plan past p = first_not (λ o. is_tried past p o || not (wrote_itself past p o)) (objects_of plan p)

pub record RestoresOwn (plan : Plan) (past : List Entry) (e : Entry) : Type 0 where
  pub here : inside plan past e.by ≡ Some e.place
  pub when : is_undoing past e.place ≡ true
  pub lasts : has_ended past e.place ≡ false
  pub least : next_own_restore plan past e.place ≡ Some e.arg
  pub value : e.value ≡ value_of plan (before_start past e.place) e.arg
  pub mark : (e.mark == 0) || (e.mark == 1) ≡ true

pub record EndsAfterOwn (plan : Plan) (past : List Entry) (e : Entry) : Type 0 where
  pub lasts : has_ended past e.place ≡ false
  pub all_tried : next_own_restore plan past e.place ≡ None
  pub mark : e.mark ≡ undone_mark past e.place
  pub arg : e.arg ≡ 0

pub record MayEndAfterOwn (plan : Plan) (past : List Entry) (e : Entry) : Type 0 where
  pub here : inside plan past e.by ≡ Some e.place
  pub how : MatchBool (is_undoing past e.place) (EndsAfterOwn plan past e) (EndsAgreed plan past e)
  pub value : e.value ≡ pos 0

abbrev pub undo_spares_inner : RuleBook
undo_spares_inner kind.Restore = RestoresOwn
undo_spares_inner kind.End = MayEndAfterOwn
undo_spares_inner k = Row k

-- the inner action wrote 5 and committed; the outer one asks for undo, and yet the 5 stays
abbrev pub inner_write_stays : List Entry
inner_write_stays = take 10 inner_committed.journal ++ end_undone 0 ann ∷ leave 0 ann ∷ []

inner_write_stays_is_complete : IsComplete inner_committed.plan inner_write_stays
inner_write_stays_is_complete = complete_from inner_committed.plan inner_write_stays refl

pub undo_spares_inner_is_too_lax : IsTooLax undo_spares_inner EffectLaw inner_committed.plan inner_write_stays
undo_spares_inner_is_too_lax = record {
  lets_through = assumption;
  refused = λ h. let wrong = (rule_at inner_committed.plan inner_write_stays 10 h).how.all_tried in cc;
  breaks = λ law. absurd (omega (arith, ap nat_abs (law inner_write_stays_is_complete x refl)));
}

-- ---- an undo that ends as undone though a restore was refused
--
-- Undone says to everyone outside that all objects have their old values. If the device refused to put one back, that isn't so, and
-- the End has to say failed.

-- the End of an undo, with a mark that says nothing of refused restores
pub record EndsUndoneAnyway (plan : Plan) (past : List Entry) (e : Entry) : Type 0 where
  pub lasts : has_ended past e.place ≡ false
  pub all_tried : next_restore plan past e.place ≡ None
  pub mark : e.mark ≡ if has kind.Abort past e.place then 3 else 2
  pub arg : e.arg ≡ 0

pub record MayEndAnyway (plan : Plan) (past : List Entry) (e : Entry) : Type 0 where
  pub here : inside plan past e.by ≡ Some e.place
  pub how : MatchBool (is_undoing past e.place) (EndsUndoneAnyway plan past e) (EndsAgreed plan past e)
  pub value : e.value ≡ pos 0

abbrev pub failed_restore_ends_undone : RuleBook
failed_restore_ends_undone kind.End = MayEndAnyway
failed_restore_ends_undone k = Row k

-- the device refuses to put the old value of y back, and the End says undone
pub failed_restore_ends_undone_is_too_lax : IsTooLax failed_restore_ends_undone OutcomeLaw restore_fails.plan ends_undone_after_refusal
failed_restore_ends_undone_is_too_lax = record {
  lets_through = assumption;
  refused = ends_undone_after_refusal_is_illegal;
  breaks = λ law. absurd (false≢true ((law 0 (end_undone 0 ann) refl).undone (inl refl) y refl));
}

-- ---- a Leave at the participant's own verdict
--
-- Roles leave together, after all have agreed on how the action ends. A role that has said done may still be needed: if another
-- raises something, all recover together.

-- the rule of a Leave, but for the wait until the place has ended: the participant's own verdict is enough
pub record LeavesAtOwnVerdict (plan : Plan) (past : List Entry) (e : Entry) : Type 0 where
  pub here : inside plan past e.by ≡ Some e.place
  pub when : has_ended past e.place || has_given plan past e.place e.by ≡ true
  pub carries : Names e (exception_carried plan past e.place e.by)
  pub value : e.value ≡ pos 0

abbrev pub leaves_at_own_verdict : RuleBook
leaves_at_own_verdict kind.Leave = LeavesAtOwnVerdict
leaves_at_own_verdict k = Row k

-- bob says done and is gone while ann still works
abbrev pub bob_leaves_first : List Entry
bob_leaves_first =
    arrive 0 ann
    ∷ arrive 0 bob
    ∷ start 0 bob
    ∷ work 0 bob 2 1406932606
    ∷ verdict_done 0 bob
    ∷ leave 0 bob
    ∷ read 0 ann x 5
    ∷ verdict_done 0 ann
    ∷ end_commit 0 ann
    ∷ leave 0 ann
    ∷ []

pub leaves_at_own_verdict_is_too_lax : IsTooLax leaves_at_own_verdict ExitLaw first_path.plan bob_leaves_first
leaves_at_own_verdict_is_too_lax = record {
  lets_through = assumption (first_path.mixed);
  refused = λ h. absurd (false≢true (rule_at first_path.plan bob_leaves_first 5 h).when);
  breaks =
      λ law. absurd (true≢false
      (law 0 (entries_after 8 bob_leaves_first) (entries_before 8 bob_leaves_first)
      (end_commit 0 ann) refl refl).together);
}

-- ---- a bound that counts the steps of a role alone
--
-- A role has up to eight entries that are no steps: it arrives, is halted, says a verdict before a resolution and one after it,
-- begins its handler, is refused a put there, gives up, leaves.

-- for each role its steps, without the eight; the rest as in the right bound
abbrev pub action_steps : ActionRow → ℕ → ℕ
action_steps action roles = roles * (longest_body action.roles + longest_handler action.roles) + length action.objects + 4

abbrev pub bound_of_steps : Plan → ℕ
bound_of_steps plan =
    sum_by (λ (row : PlaceRow). action_steps (slice_index_or plan.actions row.action no_action) (length row.roles))
    plan.places

-- a journal that is legal and complete, and longer than a bound allows
pub record IsTooLong (bound : Plan → ℕ) (plan : Plan) (journal : List Entry) : Type 0 where
  pub legal : IsLegal plan journal
  pub complete : IsComplete plan journal
  pub long : bound plan < length journal

-- the journal with three levels has 27 entries, where this bound allows 19
pub bound_of_steps_counts : (bound_of_steps three_levels.plan ≡ 19) × (length three_levels.journal ≡ 27)
bound_of_steps_counts = (refl, refl)

pub bound_of_steps_is_too_low : IsTooLong bound_of_steps three_levels.plan three_levels.journal
bound_of_steps_is_too_low = record { legal = three_levels.worked.legal; complete = three_levels.worked.complete; long = omega arith }
