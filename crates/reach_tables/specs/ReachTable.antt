-- A table of what can come in the places of each action, and when it leaves nothing out.
use Rattle.std.specs.Prelude.{◌≡◌, ℕ, ◌==◌, Bool, true, false, not, ◌&&◌, ◌||◌, if◌then◌else◌, List, [], ◌∷◌, ◌++◌, map, length, slice_index_or, nat_lt, Some, zero, suc}
use Rattle.std.specs.List.{list_all, list_any, range_with_len, filter}
use Rattle.cover_table.specs.Cover.{CoverOrder, covers}
use Rattle.caa_base.specs.declared.written.entry.Entry.{Entry}
use Rattle.caa_base.specs.declared.written.entry.Kind.TheVariants as kind
use Rattle.caa_base.specs.declared.written.entry.Outcome.{Outcome}
use Rattle.caa_base.specs.declared.written.entry.Outcome.TheVariants as outcome
use Rattle.caa_base.specs.declared.written.entry.Verdict.{Verdict}
use Rattle.place_plan.specs.declared.drafts.draft_rows.AbortRow.{AbortRow}
use Rattle.place_plan.specs.declared.drafts.draft_rows.AbortRow.TheVariants as abort
use Rattle.place_plan.specs.declared.drafts.draft_rows.ActionRow.{ActionRow}
use Rattle.place_plan.specs.declared.drafts.draft_rows.NestRow.{NestRow}
use Rattle.place_plan.specs.declared.drafts.draft_rows.RoleRow.{RoleRow}
use Rattle.place_plan.specs.declared.drafts.draft_rows.Step.{Step}
use Rattle.place_plan.specs.declared.drafts.draft_rows.Step.TheVariants as step
use Rattle.place_plan.specs.Plans.PlanValue.{Plan}
use Rattle.caa_base.specs.Written.Lists.{member, is_empty}
use Rattle.place_plan.specs.Plans.Places.{graph_at, internal_of, next_alternate, no_role}
use Rattle.place_plan.specs.RulesOfJournals.Entries.{is_in, has, newest}
use Rattle.place_plan.specs.RulesOfJournals.Whereabouts.{outcome_at}
use Rattle.place_plan.specs.RulesOfJournals.Raising.{exceptions_raised, exception_resolved}
use Rattle.journal_laws.specs.Due.{is_least}
use Rattle.reach_laws.specs.ReachedSteps.{reached, enters, body_enters, can_fail_at, ask_for_undo, all_signals}
use Rattle.reach_laws.specs.CanCome.{action_of, Source, step_of_role, nested_use, given_up_use, is_right_behind, is_given_up, bodies_end, body_verdicts, answers}
use Rattle.reach_laws.specs.Reach.{action_number}
use Rattle.reach_tables.specs.declared.table.RaisedBy.{RaisedBy}
use Rattle.reach_tables.specs.declared.table.RaisedBy.TheVariants as by
use Rattle.reach_tables.specs.declared.table.ReachRow.{ReachRow}
use Rattle.reach_tables.specs.declared.table.Told.{Told}
use Rattle.reach_tables.specs.declared.table.UseOrder.{UseOrder}

-- ---- what a table says

-- of an action without roles, as there is none: it commits
abbrev pub no_reach : ReachRow
no_reach = record { order = []; by_uses = []; given_up = []; commits = true; signals = []; undone = false; failed = false }

-- of the action of this number
abbrev pub row_of : List ReachRow → ℕ → ReachRow
row_of table a = slice_index_or table a no_reach

-- a place can end so
abbrev pub tells_end : ReachRow → Outcome → Bool
tells_end row outcome.Commit = row.commits
tells_end row (outcome.Signal x) = member x row.signals
tells_end row outcome.Undone = row.undone
tells_end row outcome.Aborted = false
tells_end row outcome.Failed = row.failed

-- ---- which sources there are, by the table

-- the source that it names
abbrev pub source_of : RaisedBy → Source
source_of (by.Step r i) = step_of_role r i
source_of (by.Use k) = nested_use k
source_of (by.GivenUp k) = given_up_use k

-- what the step i of the role r raises
abbrev pub told_step : ℕ → ℕ → ℕ → Step → List Told
told_step fault r i (step.Put o v) = record { by = by.Step r i; exception = fault } ∷ []
told_step fault r i (step.Add o v) = record { by = by.Step r i; exception = fault } ∷ []
told_step fault r i (step.Check test bound x) = record { by = by.Step r i; exception = x } ∷ []
told_step fault r i (step.Raise x) = record { by = by.Step r i; exception = x } ∷ []
told_step fault r i _ = []

-- so of all steps; `i` is the number of the first
abbrev pub told_steps : ℕ → ℕ → ℕ → List Step → List Told
told_steps fault r i [] = []
told_steps fault r i (s ∷ steps) = told_step fault r i s ++ told_steps fault r (suc i) steps

-- and of all roles, as far as somebody comes to their steps; `r` is the number of the first
abbrev pub told_roles : ℕ → ℕ → List RoleRow → List Told
told_roles fault r [] = []
told_roles fault r (role ∷ roles) = told_steps fault r 0 (reached role.body.steps) ++ told_roles fault (suc r) roles

-- what one source raises
abbrev pub told_of : RaisedBy → List ℕ → List Told
told_of source xs = map (λ x. record { by = source; exception = x }) xs

-- what the uses carry out; `k` is the number of the first
abbrev pub told_uses : ℕ → List (List ℕ) → List Told
told_uses k [] = []
told_uses k (xs ∷ rest) = told_of (by.Use k) xs ++ told_uses (suc k) rest

-- the same where they are given up
abbrev pub told_given_up : ℕ → List (List ℕ) → List Told
told_given_up k [] = []
told_given_up k (xs ∷ rest) = told_of (by.GivenUp k) xs ++ told_given_up (suc k) rest

-- all that can raise something in the places of an action
abbrev pub all_told : ActionRow → ReachRow → List Told
all_told action row = told_roles action.fault 0 action.roles ++ (told_uses 0 row.by_uses ++ told_given_up 0 row.given_up)

-- the source raises x, by what is told
abbrev pub is_told : List Told → ℕ → Bool
is_told told x = list_any (λ (t : Told). t.exception == x) told

-- ---- which of them exclude each other

-- the use k has to be over before l begins, by the list
abbrev pub lists_pair : List UseOrder → ℕ → ℕ → Bool
lists_pair order k l = list_any (λ (o : UseOrder). (o.first == k) && (o.second == l)) order

-- the step enters a use that passes the test
abbrev pub enters_some : (ℕ → Bool) → Step → Bool
enters_some test (step.Enter n) = test n
enters_some test _ = false

-- some step behind the step i enters such a use
abbrev pub enters_behind : (ℕ → Bool) → ℕ → List Step → Bool
enters_behind test i [] = false
enters_behind test zero (s ∷ steps) = list_any (enters_some test) steps
enters_behind test (suc i) (s ∷ steps) = enters_behind test i steps

-- some step before the step j does
abbrev pub enters_before : (ℕ → Bool) → ℕ → List Step → Bool
enters_before test j [] = false
enters_before test zero (s ∷ steps) = false
enters_before test (suc j) (s ∷ steps) = enters_some test s || enters_before test j steps

-- the steps of the role r that somebody comes to
abbrev pub steps_of : ActionRow → ℕ → List Step
steps_of action r = reached (slice_index_or action.roles r no_role).body.steps

-- the step i of the role r has to be over before the use k begins
abbrev pub leads_to : ActionRow → List UseOrder → ℕ → ℕ → ℕ → Bool
leads_to action order r i k = enters_behind (λ l. (l == k) || lists_pair order l k) i (steps_of action r)

-- the use k has to be over before the step j of the role r begins
abbrev pub leads_from : ActionRow → List UseOrder → ℕ → ℕ → ℕ → Bool
leads_from action order k r j = enters_before (λ l. (l == k) || lists_pair order k l) j (steps_of action r)

-- both are so to some use
abbrev pub leads_through : ActionRow → List UseOrder → ℕ → ℕ → ℕ → ℕ → Bool
leads_through action order r i q j =
    list_any (λ k. leads_to action order r i k && leads_from action order k q j) (range_with_len 0 (length action.nests))

-- the one has to be over before the other begins, by the list
abbrev pub is_before : ActionRow → List UseOrder → RaisedBy → RaisedBy → Bool
is_before action order (by.Step r i) (by.Step q j) = ((r == q) && nat_lt i j) || leads_through action order r i q j
is_before action order (by.Step r i) (by.Use l) = leads_to action order r i l
is_before action order (by.Step r i) (by.GivenUp l) = leads_to action order r i l
is_before action order (by.Use k) (by.Step q j) = leads_from action order k q j
is_before action order (by.Use k) (by.Use l) = lists_pair order k l
is_before action order (by.Use k) (by.GivenUp l) = lists_pair order k l
is_before action order (by.GivenUp k) (by.Step q j) = leads_from action order k q j
is_before action order (by.GivenUp k) (by.Use l) = lists_pair order k l
is_before action order (by.GivenUp k) (by.GivenUp l) = lists_pair order k l

-- both are one source, and it isn't a use that was given up; or the same use, given up and not
abbrev pub is_same : RaisedBy → RaisedBy → Bool
is_same (by.Step r i) (by.Step q j) = (r == q) && (i == j)
is_same (by.Use k) (by.Use l) = k == l
is_same (by.Use k) (by.GivenUp l) = k == l
is_same _ _ = false

-- where the one raises something in a place, the other doesn't raise anything else there
abbrev pub excludes : ActionRow → List UseOrder → RaisedBy → RaisedBy → Bool
excludes action order s t =
    is_same s t || (is_before action order s t && not (is_right_behind action (source_of s) (source_of t)))

-- both can raise in one place
abbrev pub are_together : ActionRow → List UseOrder → RaisedBy → RaisedBy → Bool
are_together action order s t = not (excludes action order s t) && not (excludes action order t s)

-- ---- what can be resolved

-- what one source raises, and all that can be raised in the same place
abbrev pub group_of : ActionRow → List UseOrder → List Told → Told → List ℕ
group_of action order told t =
    t.exception ∷ map (λ (u : Told). u.exception) (filter (λ (u : Told). are_together action order t.by u.by) told)

-- the same of each source
abbrev pub groups_of : ActionRow → ReachRow → List (List ℕ)
groups_of action row = map (group_of action row.order (all_told action row)) (all_told action row)

-- x covers the first of these, and is the least cover of those that it covers
abbrev pub resolves : CoverOrder → ℕ → List ℕ → Bool
resolves order x [] = false
resolves order x (y ∷ ys) = covers order x y && is_least order (filter (covers order x) (y ∷ ys)) x

-- so of some group: then x can be resolved
abbrev pub can_resolve : CoverOrder → List (List ℕ) → ℕ → Bool
can_resolve order groups x = list_any (resolves order x) groups

-- ---- what is told of a use

-- the source can raise by itself something beside the use k
abbrev pub is_beside : ActionRow → List UseOrder → ℕ → Told → Bool
is_beside action order k t = not (is_given_up (source_of t.by)) && are_together action order t.by (by.Use k)

-- something can be raised beside what this use carries out
abbrev pub has_beside : ActionRow → ReachRow → ℕ → Bool
has_beside action row k = list_any (is_beside action row.order k) (all_told action row)

-- ---- when it leaves nothing out

-- some role comes to the step that enters the use k before it comes to the one that enters l
abbrev pub enters_in_turn : ℕ → ℕ → List Step → Bool
enters_in_turn k l [] = false
enters_in_turn k l (s ∷ steps) = (enters k s && list_any (enters l) steps) || enters_in_turn k l steps

abbrev pub leads_on : ActionRow → ℕ → ℕ → Bool
leads_on action k l = list_any (λ (role : RoleRow). enters_in_turn k l (reached role.body.steps)) action.roles

-- each pair of the list is right: a role leads from its first use to another, which is its second or is listed before that one
abbrev pub tells_order : ActionRow → List UseOrder → Bool
tells_order action [] = true
tells_order action (o ∷ order) =
    (leads_on action o.first o.through && ((o.through == o.second) || lists_pair order o.through o.second)) && tells_order action order

-- what a role names where its place is given up is told, as the use maps it
abbrev pub tells_abort : NestRow → List ℕ → AbortRow → Bool
tells_abort nest raised abort.Never = true
tells_abort nest raised (abort.Always x) = member (slice_index_or nest.maps x 0) raised
tells_abort nest raised (abort.Where test bound x) = member (slice_index_or nest.maps x 0) raised

-- what a use makes of each way in which its alternate can end is told
abbrev pub tells_ends : NestRow → List ℕ → Bool → ReachRow → Bool
tells_ends nest raised is_last row =
    list_all (λ x. member (slice_index_or nest.maps x 0) raised) row.signals
    && ((not (row.undone && is_last) || member nest.undo raised) && (not row.failed || member nest.failure raised))

-- what the roles name where the alternate is given up is told
abbrev pub tells_aborts : NestRow → List ℕ → ActionRow → Bool
tells_aborts nest raised action = list_all (λ (role : RoleRow). tells_abort nest raised role.abort) action.roles

-- and that its undo can fail then, where it has objects
abbrev pub tells_failure : NestRow → List ℕ → ActionRow → Bool
tells_failure nest raised action = is_empty action.objects || member nest.failure raised

-- all of this is told of an alternate of the use k, and of those behind it where it can be undone; `beside` says that something can
-- be raised beside the use
abbrev pub tells_alternates : Plan → List ReachRow → NestRow → ReachRow → ℕ → Bool → List ℕ → Bool
tells_alternates plan table nest row k beside [] = true
tells_alternates plan table nest row k beside (b ∷ rest) =
    (tells_ends nest (slice_index_or row.by_uses k []) (is_empty rest) (row_of table b)
    && (not beside || (tells_aborts nest (slice_index_or row.given_up k []) (action_of plan b)
    && tells_failure nest (slice_index_or row.by_uses k []) (action_of plan b))))
    && (not (row_of table b).undone || tells_alternates plan table nest row k beside rest)

-- each role of the use comes to the step that enters it
abbrev pub all_enter : ActionRow → ℕ → NestRow → Bool
all_enter action k nest = list_all (λ r. body_enters k (slice_index_or action.roles r no_role)) nest.roles

-- and so of a use that all its roles come to
abbrev pub tells_use : Plan → List ReachRow → ActionRow → ReachRow → ℕ → NestRow → Bool
tells_use plan table action row k nest =
    not (all_enter action k nest) || tells_alternates plan table nest row k (has_beside action row k) nest.actions

-- and of all uses; `n` is the number of the first
abbrev pub tells_uses : Plan → List ReachRow → ActionRow → ReachRow → ℕ → List NestRow → Bool
tells_uses plan table action row n [] = true
tells_uses plan table action row n (nest ∷ nests) =
    tells_use plan table action row n nest && tells_uses plan table action row (suc n) nests

-- an end by what is signalled is told
abbrev pub tells_signals : CoverOrder → ReachRow → List ℕ → Bool
tells_signals order row [] = row.commits
tells_signals order row (x ∷ xs) =
    list_all (λ y. not (is_least order (x ∷ xs) y) || member y row.signals) (range_with_len 0 order.count)

-- the end by these verdicts is told
abbrev pub tells_verdicts : CoverOrder → ReachRow → List Verdict → Bool
tells_verdicts order row verdicts = if ask_for_undo verdicts then row.undone else tells_signals order row (all_signals verdicts)

-- how a place ends in which x is resolved is told, where it can be
abbrev pub tells_resolved : CoverOrder → CoverOrder → ActionRow → ReachRow → List (List ℕ) → ℕ → Bool
tells_resolved internal interface action row groups x =
    not (can_resolve internal groups x)
    || (tells_verdicts interface row (answers action x) && (not (list_any (can_fail_at x) action.roles) || row.undone))

-- all of this is told of an action
pub record TellsAll (plan : Plan) (table : List ReachRow) (action : ActionRow) (row : ReachRow) : Type 0 where
  pub order : tells_order action row.order ≡ true
  pub uses : tells_uses plan table action row 0 action.nests ≡ true
  pub calm : not (bodies_end action) || tells_verdicts (graph_at plan action.interface) row (body_verdicts action) ≡ true
  pub resolved : list_all
      (tells_resolved (graph_at plan action.internal) (graph_at plan action.interface) action row (groups_of action row))
      (range_with_len 0 (graph_at plan action.internal).count) ≡ true
  pub failures : not row.undone || (is_empty action.objects || row.failed) ≡ true

-- and so of each action of the plan
abbrev pub LeavesNothingOut : Plan → List ReachRow → Type 0
LeavesNothingOut plan table = (a : ℕ) → TellsAll plan table (action_of plan a) (row_of table a)

-- ---- what such a table tells of a journal

-- whatever comes in a place is told of its action
pub record TellsWhatComes (plan : Plan) (table : List ReachRow) (past : List Entry) : Type 0 where
  pub raised : (p x : ℕ) → member x (exceptions_raised plan past p) ≡ true
      → is_told (all_told (action_of plan (action_number plan p)) (row_of table (action_number plan p))) x ≡ true
  pub resolved : (p x : ℕ) → exception_resolved past p ≡ Some x
      → can_resolve (internal_of plan p) (groups_of (action_of plan (action_number plan p)) (row_of table (action_number plan p))) x ≡ true
  pub ended : (p : ℕ) (e : Entry) → newest (is_in kind.End p) past ≡ Some e → has kind.Abort past p ≡ false
      → tells_end (row_of table (action_number plan p)) (outcome_at e) ≡ true
  pub behind : (c d : ℕ) → next_alternate plan c ≡ Some d → has kind.Arrive past d ≡ true
      → (row_of table (action_number plan c)).undone ≡ true

-- a table that leaves nothing out tells whatever comes, in every legal journal
abbrev pub TablesTell : Plan → List Entry → Type 0
TablesTell plan past = (table : List ReachRow) → LeavesNothingOut plan table → TellsWhatComes plan table past
