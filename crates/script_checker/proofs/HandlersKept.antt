-- The handlers of a role in an accepted script have different exceptions.
use Rattle.std.proofs.Common.{◌≡◌, ℕ, ◌==◌, Bool, true, false, not, List, [], ◌∷◌, ◌++◌, map, slice_index_or, Option, Some, None, refl, sym, ◌∙◌, subst}
use Rattle.std.specs.List.{list_all, list_any}
use Rattle.std.proofs.lemmas.Bool.{and_parts, false≢true, not-true, or_parts}
use Rattle.caa_base.specs.Written.Lists.{member, index_of}
use Rattle.caa_base.specs.declared.written.entry.Verdict.{Verdict}
use Rattle.caa_base.specs.declared.written.entry.Verdict.TheVariants as verdict
use Rattle.place_plan.specs.declared.drafts.draft_rows.ActionRow.{ActionRow}
use Rattle.place_plan.specs.declared.drafts.draft_rows.AbortRow.{AbortRow}
use Rattle.place_plan.specs.declared.drafts.draft_rows.Step.{Step}
use Rattle.place_plan.specs.declared.drafts.draft_rows.RoleRow.{RoleRow}
use Rattle.place_plan.specs.declared.drafts.draft_rows.HandlerRow.{HandlerRow}
use Rattle.place_plan.specs.declared.drafts.draft_rows.Program.{Program}
use Rattle.place_plan.specs.Plans.Places.{no_role}
use Rattle.place_plan.specs.Drafts.DraftRules.{all_differ, handlers_differ}
use Rattle.action_script.specs.declared.forms.form.Form.{Form}
use Rattle.action_script.specs.declared.forms.form.Form.TheVariants as form
use Rattle.script_checker.specs.declared.declared.Declared.{Declared}
use Rattle.script_checker.specs.declared.declared.Block.{Block}
use Rattle.script_checker.specs.declared.declared.Block.TheVariants as block
use Rattle.script_checker.specs.declared.open_action.OpenAction.{OpenAction}
use Rattle.script_checker.specs.declared.open_action.OpenProgram.{OpenProgram}
use Rattle.script_checker.specs.AtTop.{declared_with, block_begun}
use Rattle.script_checker.specs.InAction.{handles, goes_on, closed_if, step_of, with_step, with_program, idle_role, with_abort, action_with, row_of}
use Rattle.script_checker.specs.After.{ended}
use Rattle.script_checker.proofs.Accepted.{IsKept, NoneInAction, once}
use Rattle.script_checker.proofs.ListsChange.{all_change, all_set, all_mapped, all_push}
use Rattle.script_checker.proofs.NestTests.{eqb_turn}

-- the exceptions that some handlers are for
abbrev exceptions_of : List HandlerRow → List ℕ
exceptions_of handlers = map (λ (h : HandlerRow). h.exception) handlers

-- ---- one handler more

eqb_turn_false : (a b : ℕ) → (a == b) ≡ false → (b == a) ≡ false
eqb_turn_false a b h = by_test (b == a) refl
  where
    by_test : (c : Bool) → (b == a) ≡ c → (b == a) ≡ false
    by_test false e = e
    by_test true e = absurd (false≢true (sym h ∙ eqb_turn b a e))

absent_push : (n x : ℕ) (program : Program) (handlers : List HandlerRow) → member n (exceptions_of handlers) ≡ false
    → (x == n) ≡ false → member n (exceptions_of (handlers ++ record { exception = x; program = program } ∷ [])) ≡ false
absent_push n x program [] h e = rw e refl
absent_push n x program (k ∷ handlers) h e =
    let p = or_parts (k.exception == n) (member n (exceptions_of handlers)) h in
    rw (p.0, absent_push n x program handlers p.1 e) refl

differ_push : (x : ℕ) (program : Program) (handlers : List HandlerRow) → all_differ (exceptions_of handlers) ≡ true
    → list_any (handles x) handlers ≡ false
    → all_differ (exceptions_of (handlers ++ record { exception = x; program = program } ∷ [])) ≡ true
differ_push x program [] h f = refl
differ_push x program (k ∷ handlers) h f =
    let p = and_parts (not (member k.exception (exceptions_of handlers))) (all_differ (exceptions_of handlers)) h in
    let q = or_parts (k.exception == x) (list_any (handles x) handlers) f in
    rw (
      absent_push k.exception x program handlers (not-true _ p.0) (eqb_turn_false k.exception x q.0),
      differ_push x program handlers p.1 q.1,
    ) refl

-- ---- what is being declared

-- no handler of the role has the exception yet
abbrev fresh_in : RoleRow → Option ℕ → Bool
fresh_in row None = true
fresh_in row (Some x) = not (list_any (handles x) row.handlers)

abbrev fresh_for : List RoleRow → Option OpenProgram → Bool
fresh_for rows None = true
fresh_for rows (Some p) = fresh_in (slice_index_or rows p.role no_role) p.exception

abbrev OpenDiffer : OpenAction → Type 0
OpenDiffer a = (list_all handlers_differ a.role_rows ≡ true) × (fresh_for a.role_rows a.program ≡ true)

program_differs : (exception : Option ℕ) (program : Program) (row : RoleRow) → fresh_in row exception ≡ true → handlers_differ row ≡ true
    → handlers_differ (with_program row exception program) ≡ true
program_differs None program row f h = h
program_differs (Some x) program row f h = differ_push x program row.handlers h (not-true _ f)

closed_differ : (a : OpenAction) (v : Verdict) (o : Option OpenProgram) → a.program ≡ o → OpenDiffer a → OpenDiffer (closed_if a o v)
closed_differ a v None e h = h
closed_differ a v (Some p) e h =
    let fresh : fresh_for a.role_rows (Some p) ≡ true = subst (λ (o : Option OpenProgram). fresh_for a.role_rows o ≡ true) e h.1 in (
      all_set handlers_differ a.role_rows p.role no_role _
          (program_differs p.exception (record { steps = p.steps; verdict = v }) (slice_index_or a.role_rows p.role no_role) fresh) h.0,
      refl,
    )

fresh_still : (rows : List RoleRow) (o : Option OpenProgram) (x : Option Step) → fresh_for rows o ≡ true
    → fresh_for rows (with_step o x) ≡ true
fresh_still rows o None h = h
fresh_still rows None (Some x) h = h
fresh_still rows (Some p) (Some x) h = h

module _ (names : List (List ℕ)) (d : Declared) (a : OpenAction) where
  abort_differs : (role : ℕ) (row : AbortRow) → a.program ≡ None → OpenDiffer a → OpenDiffer (with_abort a role row)
  abort_differs role row shut h = (
    all_change handlers_differ (λ (r : RoleRow). record r { abort = row }) a.role_rows (index_of role a.roles) no_role
        (λ r k. k) h.0,
    rw shut refl,
  )

  says_differ : (f : Form) → NoneInAction d a f → (goes_on f ≡ false → a.program ≡ None) → OpenDiffer a
      → OpenDiffer (action_with names d a f)
  says_differ (form.Roles roles) none shut h = (all_mapped handlers_differ (idle_role names) roles (λ name. refl), rw (shut refl) refl)
  says_differ (form.Abort role x) none shut h = abort_differs role _ (shut refl) h
  says_differ (form.AbortTest role t v x) none shut h = abort_differs role _ (shut refl) h
  says_differ (form.Body role) none shut h = (h.0, refl)
  says_differ (form.Handler role x) none shut h = (h.0, rw (once d a (form.Handler role x) none) refl)
  says_differ form.DoneLine none shut h = closed_differ a _ a.program refl h
  says_differ (form.SignalLine x) none shut h = closed_differ a _ a.program refl h
  says_differ form.UndoLine none shut h = closed_differ a _ a.program refl h
  says_differ f none shut h = (h.0, fresh_still a.role_rows a.program (step_of d a f) h.1)

abbrev roles_differ : ActionRow → Bool
roles_differ action = list_all handlers_differ action.roles

abbrev DifferIn : Block → Type 0
DifferIn (block.Action a) = OpenDiffer a
DifferIn b = Unit {0}

abbrev pub HandlersDiffer : Declared → Block → Type 0
HandlersDiffer d b = (list_all roles_differ d.actions ≡ true) × DifferIn b

begins_differ : (names : List (List ℕ)) (d : Declared) (f : Form) → HandlersDiffer d block.Top
    → HandlersDiffer (declared_with names d f) (block_begun d f)
begins_differ names d (form.Action name) h = (h.0, (refl, refl))
begins_differ names d f h = h

ends_differ : (names : List (List ℕ)) (d : Declared) (b : Block) → HandlersDiffer d b → HandlersDiffer (ended names d b) block.Top
ends_differ names d (block.Action a) h = (all_push roles_differ d.actions (row_of names a) h.0 h.1.0, tt)
ends_differ names d block.Top h = h
ends_differ names d (block.Graph g) h = h

pub differ_kept : (names : List (List ℕ)) → IsKept names HandlersDiffer
differ_kept names = record {
  at_top = λ d f sound none h. begins_differ names d f h;
  in_graph = λ d g f sound none h. h;
  in_action = λ d a f sound none shut h. (h.0, says_differ names d a f none shut h.1);
  closes = λ d a h. (h.0, closed_differ a verdict.Done a.program refl h.1);
  ends = λ d b none h. ends_differ names d b h;
}
