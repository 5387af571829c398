-- What every legal past of a plan keeps, besides where its participants are: all laws are drawn from these four records.
use Rattle.std.proofs.Common.{◌≡◌, ℕ, ◌<◌, ◌+◌, ◌⊎◌, true, false, not, ◌||◌, List, Some, None, count_by, slice_get, is_none}
use Rattle.cover_table.specs.Cover.{IsLeastCover}
use Rattle.caa_base.specs.declared.written.entry.Entry.{Entry}
use Rattle.caa_base.specs.declared.written.entry.Kind.TheVariants as kind
use Rattle.place_plan.specs.declared.drafts.draft_rows.Step.TheVariants as step
use Rattle.place_plan.specs.Plans.PlanValue.{Plan}
use Rattle.caa_base.specs.Written.Lists.{member}
use Rattle.place_plan.specs.Plans.Places.{around, parent, roles_of, alternates_of, nest_number, body_of, internal_of, handler_of}
use Rattle.place_plan.specs.RulesOfJournals.Entries.{has, has_by}
use Rattle.place_plan.specs.RulesOfJournals.Whereabouts.{inside, stays, has_started, has_ended, is_undoing, is_left_in_silence}
use Rattle.place_plan.specs.RulesOfJournals.Raising.{has_handled, exceptions_raised, is_raised, is_doomed, is_halted, all_are_halted, exception_resolved, exception_handled}
use Rattle.place_plan.specs.RulesOfJournals.Objects.{is_tried, has_failed}
use Rattle.place_plan.specs.RulesOfJournals.Roles.{position, next_step, has_given_after, all_have_given, is_handling, wants_undo, all_have_aborted}
use Rattle.journal_laws.specs.Laws.{AskedForUndo, is_restore}

-- ---- what was raised, and whom it halted

pub record Raises (plan : Plan) (past : List Entry) : Type 0 where
  -- who is halted in a place finds something raised there
  pub halts : (p t : ℕ) → is_halted plan past p t ≡ true → is_raised plan past p ≡ true
  -- who is in a place within p is neither halted in p nor handles there
  pub away : (p t q : ℕ) → inside plan past t ≡ Some q → member p (around plan q) ≡ true
      → (is_halted plan past p t ≡ false) × (has_handled past p t ≡ false)
  -- a place is resolved once all are halted, to the least cover of whatever is raised in it, then and later
  pub resolves : (p x : ℕ) → exception_resolved past p ≡ Some x
      → (all_are_halted plan past p ≡ true) × (is_raised plan past p ≡ true)
      × IsLeastCover (internal_of plan p) (exceptions_raised plan past p) x
  -- who handles an exception handles the resolved one, and has a handler for it
  pub handles : (p t x : ℕ) → exception_handled past p t ≡ Some x
      → (exception_resolved past p ≡ Some x) × (is_none (handler_of plan p t x) ≡ false)

-- ---- what the roles have said

pub record Says (plan : Plan) (past : List Entry) : Type 0 where
  -- who began its handler has given its verdict once it is no longer in it
  pub handler : (p t : ℕ) → has_handled past p t ≡ true → has_given_after past p t ≡ not (is_handling past p t)
  -- who gave its verdict after the Resolve without a handler asked for undo
  pub other : (p t : ℕ) → has_given_after past p t ≡ true → has_handled past p t ≡ false
      → (x : ℕ) × (exception_resolved past p ≡ Some x) × (is_none (handler_of plan p t x) ≡ true)
      × AskedForUndo past p t
  -- where nothing is raised, who has given its verdict has no step left
  pub done : (p t : ℕ) → is_raised plan past p ≡ false → has_by kind.Verdict past p t ≡ true → next_step plan past p t ≡ None
  -- a place is undone where all have given up, or have agreed and one asked for it
  pub undoing : (p : ℕ) → is_undoing past p ≡ true
      → (all_have_aborted plan past p ≡ true)
      ⊎ ((has kind.Abort past p ≡ false) × (all_have_given plan past p ≡ true) × (wants_undo plan past p ≡ true))
  -- a place ends after its undo, or where all have agreed and none asked for it
  pub ended : (p : ℕ) → has_ended past p ≡ true
      → (is_undoing past p ≡ true)
      ⊎ ((has kind.Abort past p ≡ false) × (all_have_given plan past p ≡ true) × (wants_undo plan past p ≡ false))

-- ---- who came and went, and the uses that it passed

-- the body of t in p has the step that enters use k before the position m
abbrev pub PassedEnter : Plan → ℕ → ℕ → ℕ → ℕ → Type 0
PassedEnter plan p t k m = (n : ℕ) × (n < m) × (slice_get (body_of plan p t).steps n ≡ Some (step.Enter k))

pub record Visits (plan : Plan) (past : List Entry) : Type 0 where
  -- who arrived stays, has left, or has withdrawn; and one of these alone
  pub came : (p t : ℕ) → stays past p t || has_by kind.Leave past p t || has_by kind.Withdraw past p t ≡ has_by kind.Arrive past p t
  pub gone : (p t : ℕ) → stays past p t ≡ true → (has_by kind.Leave past p t ≡ false) × (has_by kind.Withdraw past p t ≡ false)
  pub left : (p : ℕ) → has kind.Leave past p ≡ true → has_ended past p ≡ true
  pub withdrew : (p t : ℕ) → has_by kind.Withdraw past p t ≡ true → (is_doomed plan past p ≡ true) × (has_started past p ≡ false)
  pub whole : (p t : ℕ) → has_started past p ≡ true → member t (roles_of plan p) ≡ true → has_by kind.Arrive past p t ≡ true
  -- who arrived in a place of a use has left it and passed the enter step; or it is at that step, and if it has left, then in
  -- silence
  pub at_step : (p c t : ℕ) → parent plan c ≡ Some p → has_by kind.Arrive past c t ≡ true → has_handled past p t ≡ false
      → ((has_by kind.Leave past c t ≡ true) × PassedEnter plan p t (nest_number plan c) (position plan past p t))
      ⊎ ((next_step plan past p t ≡ Some (step.Enter (nest_number plan c)))
      × (has_by kind.Leave past c t ≡ true → is_left_in_silence plan past c ≡ true))
  -- who arrived in a later place of a use has left each earlier one in silence
  pub turn : (p c d t : ℕ) → parent plan c ≡ Some p → parent plan d ≡ Some p → nest_number plan c ≡ nest_number plan d
      → c < d → has_by kind.Arrive past d t ≡ true
      → (has_by kind.Leave past c t ≡ true) × (is_left_in_silence plan past c ≡ true)
  -- of each use whose enter step it has passed, it has left a place aloud
  pub passed : (p t n k : ℕ) → has_handled past p t ≡ false → n < position plan past p t
      → slice_get (body_of plan p t).steps n ≡ Some (step.Enter k)
      → (c : ℕ) × (member c (alternates_of plan p k) ≡ true) × (has_by kind.Leave past c t ≡ true)
      × (is_left_in_silence plan past c ≡ false)
  -- who arrived in a later play has left each earlier one
  pub plays : (p q t : ℕ) → p < q → member p plan.plays ≡ true → member q plan.plays ≡ true
      → member t (roles_of plan p) ≡ true → has_by kind.Arrive past q t ≡ true → has_by kind.Leave past p t ≡ true

-- ---- which restores were tried

pub record Tries (plan : Plan) (past : List Entry) : Type 0 where
  pub undone : (p : ℕ) → has kind.Restore past p ≡ true → is_undoing past p ≡ true
  -- each object is tried at most once, and the mark says how it went
  pub once : (p o : ℕ) → (is_tried past p o ≡ true
      → count_by (is_restore p o 0) past + count_by (is_restore p o 1) past ≡ 1)
      × (is_tried past p o ≡ false → count_by (is_restore p o 0) past + count_by (is_restore p o 1) past ≡ 0)
  pub failed : (p o : ℕ) → has_failed past p ≡ false → count_by (is_restore p o 1) past ≡ 0

-- ---- all of it

pub record Core (plan : Plan) (past : List Entry) : Type 0 where
  pub raises : Raises plan past
  pub says : Says plan past
  pub visits : Visits plan past
  pub tries : Tries plan past
