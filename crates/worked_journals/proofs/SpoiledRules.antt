-- Wrong rules for what comes once something was raised. Each leaves out one condition of a right rule, and lets a journal through
-- that the right rules refuse and that breaks a law. So each shows what one condition is there for.
use Rattle.std.proofs.Common.{◌≡◌, ℕ, pos, Bool, true, false, not, ◌&&◌, ◌||◌, if◌then◌else◌, List, [], ◌∷◌, ◌++◌, length, reverse, codes, suc, take, drop, Option, Some, None, MatchBool, arith, refl, ap, subst}
use Rattle.std.specs.Prelude.{is_none}
use Rattle.std.proofs.lemmas.Bool.{false≢true, true≢false}
use Rattle.cover_table.specs.Cover.{IsLeastCover}
use Rattle.caa_base.specs.declared.written.entry.Entry.{Entry}
use Rattle.caa_base.specs.declared.written.entry.Kind.{Kind}
use Rattle.caa_base.specs.declared.written.entry.Kind.TheVariants as kind
use Rattle.caa_base.specs.declared.written.entry.Verdict.TheVariants as verdict
use Rattle.place_plan.specs.declared.drafts.draft_rows.RoleRow.{RoleRow}
use Rattle.place_plan.specs.declared.drafts.draft_rows.Step.TheVariants as step
use Rattle.place_plan.specs.declared.drafts.draft.Draft.{Draft}
use Rattle.place_plan.specs.Plans.PlanValue.{Plan}
use Rattle.place_plan.specs.Plans.Bound.{action_bound}
use Rattle.place_plan.specs.Plans.Places.{parent, roles_of, internal_of, handler_of, abort_row}
use Rattle.place_plan.specs.RulesOfJournals.Entries.{code_of, is_in, is_by, newest}
use Rattle.place_plan.specs.RulesOfJournals.Whereabouts.{inside, has_ended, is_undoing, is_going, is_left_in_silence}
use Rattle.place_plan.specs.RulesOfJournals.Raising.{has_handled, exceptions_raised, is_doomed, is_hot, exception_resolved}
use Rattle.place_plan.specs.RulesOfJournals.Objects.{value_of, holder_of}
use Rattle.place_plan.specs.RulesOfJournals.Roles.{register, next_step, all_have_given, wants_undo, signals, has_aborted}
use Rattle.place_plan.specs.RulesOfJournals.Rules.{Row, Names, put_of, abort_of, SignalsLeast, EndsUndone, outcome_mapped}
use Rattle.place_plan.specs.Plans.Unfolding.{unfold_at}
use Rattle.place_plan.specs.Drafts.DraftRules.{depth_within}
use Rattle.place_plan.specs.RulesOfJournals.Journals.{LegalPast, IsLegal}
use Rattle.journal_laws.specs.Laws.{Holds, Splits, as_taken, AtMostOne, StopLaw, ResolutionLaw, InnerFirstLaw}
use Rattle.journal_laws.proofs.Playable.{IsTree}
use Rattle.journal_laws.proofs.Phases.{is_open}
use Rattle.journal_laws.proofs.Frozen.{frozen}
use Rattle.journal_laws.proofs.InnerFirst.{legal_rest}
use Rattle.worked_journals.proofs.Notation.{arrive, start, write, raise, resolve, handle, verdict_done, abort_naming, undo, restore_well, end_commit, end_aborted, leave, leave_carrying}
use Rattle.worked_journals.proofs.Notation.{universal, program, handler, play, inner, played, unfolded, least_cover_from, rule_at, UnfoldsInto}
use Rattle.worked_journals.proofs.TwoSiblings as two_siblings
use Rattle.worked_journals.proofs.TwoSiblings.{ann, bob, x, mid, left, right}
use Rattle.worked_journals.proofs.ThreeLevels as three_levels
use Rattle.worked_journals.proofs.ThreeLevels.{big, stop, bent, bad}
use Rattle.worked_journals.proofs.Spoiled.{carries_into_doom, carries_into_doom_is_illegal}

-- ---- rules that are too lax

-- a rule for each kind of entry
abbrev pub RuleBook : Type 1
RuleBook = Kind → Plan → List Entry → Entry → Type 0

-- each entry keeps the rule for its kind; the newest stands first
abbrev pub LegalBy : RuleBook → Plan → List Entry → Type 0
LegalBy rules plan [] = Unit {0}
LegalBy rules plan (e ∷ past) = LegalBy rules plan past × rules e.kind plan past e

-- by the right rules these are the legal journals
pub legal_by_rows : (plan : Plan) (past : List Entry) → LegalBy Row plan past → LegalPast plan past
legal_by_rows plan [] h = tt
legal_by_rows plan (e ∷ past) h = (legal_by_rows plan past h.0, h.1)

-- the rules let this journal through, the right rules refuse it, and it breaks the law
pub record IsTooLax (rules : RuleBook) (Law : Plan → List Entry → Type 0) (plan : Plan) (journal : List Entry) : Type 0 where
  pub lets_through : LegalBy rules plan (reverse journal)
  pub refused : IsLegal plan journal → ⊥
  pub breaks : Law plan (reverse journal) → ⊥

-- what stands before the entry with this index of a journal, and after it; the newest stands first
abbrev pub entries_before : ℕ → List Entry → List Entry
entries_before index journal = reverse (take index journal)

abbrev pub entries_after : ℕ → List Entry → List Entry
entries_after index journal = reverse (drop (suc index) journal)

-- ---- a put once something was raised
--
-- Machines stop before they recover. If a role still moves something once another has raised, it moves while the others recover.

-- the rule of a put, but for the condition that the role is able to go on: in its body, that nothing was raised
pub record PutsOn (plan : Plan) (past : List Entry) (e : Entry) : Type 0 where
  pub here : inside plan past e.by ≡ Some e.place
  pub puts : put_of (next_step plan past e.place e.by) (register plan past e.place e.by) ≡ Some (e.arg, e.value)
  pub holds : holder_of plan past e.arg ≡ Some e.place
  pub mark : e.mark ≡ 0

abbrev pub puts_on : RuleBook
puts_on kind.Write = PutsOn
puts_on k = Row k

-- the two siblings, of whom ann puts x in its body and raises nothing
abbrev pub putting_draft : Draft
putting_draft =
    record two_siblings.draft {
      actions =
          (record two_siblings.duo_action {
            roles = record two_siblings.duo_a { body = program (step.Put x (pos 7) ∷ []) verdict.Done } ∷ two_siblings.duo_b ∷ [];
          }) ∷ [];
    }

abbrev pub putting : Plan
putting = record two_siblings.plan { actions = putting_draft.actions }

putting_unfold : UnfoldsInto putting_draft putting
unfolding unfold_at depth_within action_bound
putting_unfold = record { whole = refl; same = refl }

-- bob raises, and ann puts x all the same
abbrev pub ann_puts_on : List Entry
ann_puts_on = arrive 0 ann ∷ arrive 0 bob ∷ start 0 bob ∷ raise 0 bob right ∷ write 0 ann x 7 ∷ []

pub puts_on_is_too_lax : IsTooLax puts_on StopLaw putting ann_puts_on
puts_on_is_too_lax = record {
  lets_through = assumption;
  refused = λ h. absurd (false≢true (rule_at putting ann_puts_on 4 h).can);
  breaks =
      λ law. absurd (false≢true
      (law.stopped 0 (entries_after 4 ann_puts_on) (entries_before 4 ann_puts_on) (write 0 ann x 7) refl refl refl refl).1);
}

-- ---- a Resolve that doesn't wait for all roles
--
-- A role that isn't halted may still raise something of its own. If the exception to recover from is chosen before, it doesn't
-- cover what comes then, and nobody recovers from that.

-- the rule of a Resolve, but for the wait until all roles are halted
pub record ResolvesEarly (plan : Plan) (past : List Entry) (e : Entry) : Type 0 where
  pub here : inside plan past e.by ≡ Some e.place
  pub when : is_hot plan past e.place ≡ true
  pub fresh : exception_resolved past e.place ≡ None
  pub least : IsLeastCover (internal_of plan e.place) (exceptions_raised plan past e.place) e.arg
  pub mark : e.mark ≡ 0
  pub value : e.value ≡ pos 0

abbrev pub resolves_early : RuleBook
resolves_early kind.Resolve = ResolvesEarly
resolves_early k = Row k

-- the two siblings, each with a handler for `right` too
abbrev pub with_right_handler : RoleRow → RoleRow
with_right_handler role = record role { handlers = handler right (program [] verdict.Done) ∷ role.handlers }

abbrev pub siblings_draft : Draft
siblings_draft =
    record two_siblings.draft {
      actions =
          (record two_siblings.duo_action {
            roles = with_right_handler two_siblings.duo_a ∷ with_right_handler two_siblings.duo_b ∷ [];
          }) ∷ [];
    }

abbrev pub siblings : Plan
siblings = record two_siblings.plan { actions = siblings_draft.actions }

siblings_unfold : UnfoldsInto siblings_draft siblings
unfolding unfold_at depth_within action_bound
siblings_unfold = record { whole = refl; same = refl }

-- bob raises, resolves and handles `right`, and only then ann raises `left`, which `right` doesn't cover
abbrev pub left_comes_late : List Entry
left_comes_late =
    arrive 0 ann
    ∷ arrive 0 bob
    ∷ start 0 bob
    ∷ raise 0 bob right
    ∷ resolve 0 bob right
    ∷ handle 0 bob right
    ∷ raise 0 ann left
    ∷ handle 0 ann right
    ∷ verdict_done 0 bob
    ∷ verdict_done 0 ann
    ∷ end_commit 0 ann
    ∷ leave 0 ann
    ∷ leave 0 bob
    ∷ []

right_is_least : IsLeastCover (internal_of siblings 0) (right ∷ []) right
right_is_least = least_cover_from _ _ _ refl

pub resolves_early_is_too_lax : IsTooLax resolves_early ResolutionLaw siblings left_comes_late
resolves_early_is_too_lax = record {
  lets_through = assumption (right_is_least);
  refused = λ h. absurd (false≢true (rule_at siblings left_comes_late 4 h).together);
  breaks =
      λ law. absurd (false≢true
      ((law.handles 0).least (entries_after 5 left_comes_late) (entries_before 5 left_comes_late)
      (handle 0 bob right) refl refl).above);
}

-- ---- a Handle of another exception than the resolved one
--
-- All roles are to recover from one and the same trouble, as their least cover names it.

-- the rule of a Handle, but for which exception it is: once the place is resolved, any for which the role has a handler
pub record HandlesAnother (plan : Plan) (past : List Entry) (e : Entry) : Type 0 where
  pub here : inside plan past e.by ≡ Some e.place
  pub when : is_hot plan past e.place ≡ true
  pub resolution : is_none (exception_resolved past e.place) ≡ false
  pub able_to : is_none (handler_of plan e.place e.by e.arg) ≡ false
  pub fresh : has_handled past e.place e.by ≡ false
  pub mark : e.mark ≡ 0
  pub value : e.value ≡ pos 0

abbrev pub handles_another : RuleBook
handles_another kind.Handle = HandlesAnother
handles_another k = Row k

-- the action is resolved to `mid`; ann handles that, and bob what it raised itself
abbrev pub bob_handles_right : List Entry
bob_handles_right =
    arrive 0 ann
    ∷ arrive 0 bob
    ∷ start 0 bob
    ∷ raise 0 bob right
    ∷ raise 0 ann left
    ∷ resolve 0 bob mid
    ∷ handle 0 ann mid
    ∷ handle 0 bob right
    ∷ write 0 ann x 1
    ∷ verdict_done 0 ann
    ∷ verdict_done 0 bob
    ∷ end_commit 0 ann
    ∷ leave 0 ann
    ∷ leave 0 bob
    ∷ []

mid_is_least : IsLeastCover (internal_of siblings 0) (left ∷ right ∷ []) mid
mid_is_least = least_cover_from _ _ _ refl

pub handles_another_is_too_lax : IsTooLax handles_another ResolutionLaw siblings bob_handles_right
handles_another_is_too_lax = record {
  lets_through = assumption (mid_is_least);
  refused = λ h. let wrong = (rule_at siblings bob_handles_right 7 h).resolution in cc;
  breaks = λ law.
      let both =
      (law.handles 0).one (entries_after 6 bob_handles_right) (entries_before 6 bob_handles_right)
      (entries_after 7 bob_handles_right) (entries_before 7 bob_handles_right) (handle 0 ann mid)
      (handle 0 bob right) refl refl refl refl in
      absurd (omega (arith, both));
}

-- ---- an Abort that doesn't wait for those further in
--
-- Work is given up from the inside out. If the outer place is given up first, the inner one still works on objects of a place that
-- nobody stands by any more.

-- the rule of an Abort, but for the wait until all roles have come back into the place
pub record AbortsFirst (plan : Plan) (past : List Entry) (e : Entry) : Type 0 where
  pub here : inside plan past e.by ≡ Some e.place
  pub when : is_going past e.place ≡ true
  pub doom : is_doomed plan past e.place ≡ true
  pub fresh : has_aborted past e.place e.by ≡ false
  pub names : Names e (abort_of (abort_row plan e.place e.by) (register plan past e.place e.by))
  pub value : e.value ≡ pos 0

abbrev pub outer_aborts_first : RuleBook
outer_aborts_first kind.Abort = AbortsFirst
outer_aborts_first k = Row k

abbrev pub cid : ℕ
cid = 2

-- three levels with one participant more, which takes part in `mid` beside ann and waits there
abbrev pub mid_n : RoleRow
mid_n = record three_levels.mid_m { name = codes "n"; body = program [] verdict.Done }

abbrev pub outer_c : RoleRow
outer_c = record three_levels.outer_a { name = codes "c" }

abbrev pub levels_draft : Draft
levels_draft =
    record three_levels.draft {
      participants = codes "ann" ∷ codes "bob" ∷ codes "cid" ∷ [];
      actions =
          three_levels.deep_action
          ∷ (record three_levels.mid_action { roles = three_levels.mid_m ∷ mid_n ∷ [] })
          ∷ (record three_levels.outer_action {
            roles = three_levels.outer_a ∷ three_levels.outer_b ∷ outer_c ∷ [];
            nests = (record three_levels.outer_n { roles = 0 ∷ 2 ∷ [] }) ∷ [];
          }) ∷ [];
      plays = played 2 (ann ∷ bob ∷ cid ∷ []) ∷ [];
    }

abbrev pub levels : Plan
levels =
    unfolded levels_draft
    (play 2 (ann ∷ bob ∷ cid ∷ []) ((1 ∷ []) ∷ [])
    ∷ inner (0 ∷ []) 0 1 (ann ∷ cid ∷ []) ((2 ∷ []) ∷ [])
    ∷ inner (1 ∷ 0 ∷ []) 0 0 (ann ∷ []) [] ∷ [])
    (0 ∷ [])

levels_unfold : UnfoldsInto levels_draft levels
unfolding unfold_at depth_within action_bound
levels_unfold = record { whole = refl; same = refl }

-- cid gives up in `mid` while ann is still at work in `deep`, further in
abbrev pub cid_aborts_first : List Entry
cid_aborts_first =
    arrive 0 ann
    ∷ arrive 0 bob
    ∷ arrive 0 cid
    ∷ start 0 ann
    ∷ arrive 1 ann
    ∷ arrive 1 cid
    ∷ start 1 ann
    ∷ arrive 2 ann
    ∷ start 2 ann
    ∷ write 2 ann x 3
    ∷ raise 0 bob stop
    ∷ abort_naming 1 cid bad
    ∷ abort_naming 2 ann bad
    ∷ undo 2 ann
    ∷ restore_well 2 ann x 0
    ∷ end_aborted 2 ann
    ∷ leave 2 ann
    ∷ abort_naming 1 ann bad
    ∷ undo 1 ann
    ∷ restore_well 1 ann x 0
    ∷ end_aborted 1 ann
    ∷ leave_carrying 1 ann bent
    ∷ leave_carrying 1 cid bent
    ∷ resolve 0 ann big
    ∷ handle 0 ann big
    ∷ handle 0 bob big
    ∷ handle 0 cid big
    ∷ verdict_done 0 ann
    ∷ verdict_done 0 bob
    ∷ verdict_done 0 cid
    ∷ end_commit 0 bob
    ∷ leave 0 ann
    ∷ leave 0 bob
    ∷ leave 0 cid
    ∷ []

big_is_least : IsLeastCover (internal_of levels 0) (bent ∷ bent ∷ stop ∷ []) big
big_is_least = least_cover_from _ _ _ refl

pub outer_aborts_first_is_too_lax : IsTooLax outer_aborts_first InnerFirstLaw levels cid_aborts_first
outer_aborts_first_is_too_lax = record {
  lets_through = assumption (big_is_least);
  refused = λ h. absurd (false≢true (rule_at levels cid_aborts_first 11 h).together);
  breaks =
      λ law. absurd (false≢true
      (law 1 2 (entries_after 11 cid_aborts_first) (entries_before 11 cid_aborts_first)
      (abort_naming 1 cid bad) refl refl refl refl));
}

-- ---- a commit in a doomed place
--
-- Once something was raised round a place, its roles have one way out of it, which is to give up. If an agreement could still end
-- it, they would have two.

-- the End of an agreement, but for the condition that nothing was raised round the place
pub record EndsInDoom (plan : Plan) (past : List Entry) (e : Entry) : Type 0 where
  pub goes : is_going past e.place ≡ true
  pub agreed : all_have_given plan past e.place ≡ true
  pub kept : wants_undo plan past e.place ≡ false
  pub outcome : SignalsLeast plan e (signals past e.place (roles_of plan e.place))

pub record MayEndInDoom (plan : Plan) (past : List Entry) (e : Entry) : Type 0 where
  pub here : inside plan past e.by ≡ Some e.place
  pub how : MatchBool (is_undoing past e.place) (EndsUndone plan past e) (EndsInDoom plan past e)
  pub value : e.value ≡ pos 0

abbrev pub inner_commit_after_doom : RuleBook
inner_commit_after_doom kind.End = MayEndInDoom
inner_commit_after_doom k = Row k

-- by these rules a participant has at most one entry at each moment, the device's answer aside
abbrev pub AtMostOneBy : RuleBook → Plan → List Entry → Type 0
AtMostOneBy rules plan past =
    (later before : List Entry) → past ≡ later ++ before → (e f : Entry)
    → rules e.kind plan before e → rules f.kind plan before f → e.by ≡ f.by → as_taken e.kind e ≡ as_taken f.kind f

-- by the right rules that is a law
pub at_most_one_by_rows : (plan : Plan) → Holds AtMostOne plan → Holds (AtMostOneBy Row) plan
at_most_one_by_rows plan law past legal later before split e f =
    law before (legal_rest plan later before (subst (LegalPast plan) split legal)) e f

-- bob raises when ann, in the innermost place, has said done: ann may then end that place as if all were well, and may also give up
abbrev pub ann_commits_in_doom : List Entry
ann_commits_in_doom =
    arrive 0 ann
    ∷ arrive 0 bob
    ∷ start 0 ann
    ∷ arrive 1 ann
    ∷ start 1 ann
    ∷ arrive 2 ann
    ∷ start 2 ann
    ∷ write 2 ann x 3
    ∷ verdict_done 2 ann
    ∷ raise 0 bob stop
    ∷ end_commit 2 ann
    ∷ leave 2 ann
    ∷ abort_naming 1 ann bad
    ∷ undo 1 ann
    ∷ restore_well 1 ann x 0
    ∷ end_aborted 1 ann
    ∷ leave_carrying 1 ann bent
    ∷ resolve 0 ann big
    ∷ handle 0 ann big
    ∷ handle 0 bob big
    ∷ verdict_done 0 ann
    ∷ verdict_done 0 bob
    ∷ end_commit 0 bob
    ∷ leave 0 ann
    ∷ leave 0 bob
    ∷ []

-- taken as a whole this journal does no harm, since what ann wrote is undone with the place round it
pub ann_commits_in_doom_value : value_of three_levels.plan (reverse ann_commits_in_doom) x ≡ pos 0
ann_commits_in_doom_value = refl

-- what breaks is the law that a participant has at most one entry: after bob's raise the journal no longer settles what ann does
pub inner_commit_after_doom_is_too_lax : IsTooLax inner_commit_after_doom
    (AtMostOneBy inner_commit_after_doom) three_levels.plan ann_commits_in_doom
inner_commit_after_doom_is_too_lax = record {
  lets_through = assumption (three_levels.big_is_least);
  refused = λ h. absurd (true≢false (rule_at three_levels.plan ann_commits_in_doom 10 h).how.spared);
  breaks = λ law.
      let two =
      law (reverse (drop 10 ann_commits_in_doom)) (entries_before 10 ann_commits_in_doom) refl (end_commit 2 ann)
      (abort_naming 2 ann bad) (assumption) (assumption) refl in
      absurd (omega (arith, ap (λ e. code_of e.kind) two));
}

-- ---- an exception that is carried into a doomed place
--
-- In a doomed place nobody resolves or handles anything, its roles only give up. An exception that is raised there is lost.

-- what is carried out, but for the condition that the place round it isn't doomed
abbrev pub carried_into_doom : Plan → List Entry → ℕ → ℕ → Option ℕ
carried_into_doom plan past p t =
    if is_none (parent plan p) || is_left_in_silence plan past p then None
    else outcome_mapped plan p (newest (is_in kind.End p) past) (newest (is_by kind.Abort p t) past)

pub record CarriesPastDoom (plan : Plan) (past : List Entry) (e : Entry) : Type 0 where
  pub here : inside plan past e.by ≡ Some e.place
  pub when : has_ended past e.place ≡ true
  pub carries : Names e (carried_into_doom plan past e.place e.by)
  pub value : e.value ≡ pos 0

abbrev pub carries_past_doom : RuleBook
carries_past_doom kind.Leave = CarriesPastDoom
carries_past_doom k = Row k

-- nothing is raised in a place once something was raised round it
abbrev pub DoomIsQuiet : Plan → List Entry → Type 0
DoomIsQuiet plan past =
    (p : ℕ) (later before : List Entry) (e : Entry) → Splits past later e before → is_doomed plan before p ≡ true
    → exceptions_raised plan (e ∷ before) p ≡ exceptions_raised plan before p

-- by the right rules that holds of each tree of places
pub doom_is_quiet : (plan : Plan) → IsTree plan → Holds DoomIsQuiet plan
doom_is_quiet plan tree past legal p later before e split doom =
    let whole : LegalPast plan (later ++ e ∷ before) = subst (LegalPast plan) split legal in
    let rest : LegalPast plan before × Row e.kind plan before e = legal_rest plan later (e ∷ before) whole in
    let shut : is_open plan before p ≡ false = not_open (is_going before p) (is_doomed plan before p) doom in
    (frozen plan tree before rest.0 e p shut rest.1).raised
  where
    not_open : (a b : Bool) → b ≡ true → a && not b ≡ false
    not_open true true h = refl
    not_open false true h = refl
    not_open a false h = absurd (false≢true h)

-- what ann names where it gives up in the innermost place is raised in the place round that one, which is given up as well. The
-- resolution law asks nothing of a place that is given up, so this journal does not break it. What breaks is a lemma from which the
-- exit law and the resolution law are proved: what was raised in a place stays as it is once the place is doomed
pub carries_past_doom_is_too_lax : IsTooLax carries_past_doom DoomIsQuiet three_levels.plan carries_into_doom
carries_past_doom_is_too_lax = record {
  lets_through = assumption (three_levels.big_is_least);
  refused = carries_into_doom_is_illegal;
  breaks = λ quiet.
      let same =
      quiet 1 (entries_after 13 carries_into_doom) (entries_before 13 carries_into_doom)
      (leave_carrying 2 ann universal) refl refl in
      absurd (omega (arith, ap length same));
}
