-- The roles and nested uses of accepted actions are within the limits.
use Rattle.std.proofs.Common.{subst, ◌≡◌, ℕ, ◌≤◌, nat_le, true, false, not, ◌&&◌, List, [], ◌∷◌, ◌++◌, length, Option, Some, None, refl, arith, length-set}
use Rattle.std.proofs.lemmas.List.{length-map}
use Rattle.std.specs.List.{list_all}
use Rattle.std.proofs.lemmas.Bool.{and_parts, ltb-false, le-leb, and_from}
use Rattle.caa_base.specs.Written.Lists.{is_empty, index_of}
use Rattle.caa_base.specs.declared.written.entry.Verdict.{Verdict}
use Rattle.caa_base.specs.declared.written.entry.Verdict.TheVariants as verdict
use Rattle.place_plan.specs.declared.drafts.draft_rows.AbortRow.{AbortRow}
use Rattle.place_plan.specs.declared.drafts.draft_rows.Step.{Step}
use Rattle.place_plan.specs.declared.drafts.draft_rows.RoleRow.{RoleRow}
use Rattle.place_plan.specs.declared.drafts.draft_rows.HandlerRow.{HandlerRow}
use Rattle.place_plan.specs.declared.drafts.draft_rows.Program.{Program}
use Rattle.place_plan.specs.Plans.Places.{no_role, no_nest}
use Rattle.place_plan.specs.Drafts.DraftRules.{program_fits, role_fits, nest_fits, action_fits}
use Rattle.action_script.specs.declared.forms.form.Form.{Form}
use Rattle.action_script.specs.declared.forms.form.Form.TheVariants as form
use Rattle.script_checker.specs.declared.declared.Declared.{Declared}
use Rattle.script_checker.specs.declared.declared.Block.{Block}
use Rattle.script_checker.specs.declared.declared.Block.TheVariants as block
use Rattle.script_checker.specs.declared.open_action.OpenAction.{OpenAction}
use Rattle.script_checker.specs.declared.open_action.OpenNest.{OpenNest}
use Rattle.script_checker.specs.declared.open_action.OpenProgram.{OpenProgram}
use Rattle.script_checker.specs.DeclaredSoFar.{begun_nest, inner, nest_of, nest_rows}
use Rattle.script_checker.specs.AtTop.{declared_with, block_begun}
use Rattle.script_checker.specs.InAction.{past_limit_in_action, closed_if, steps_of, with_step, begun_program, with_program, idle_role, with_abort, with_nest, action_with, row_of}
use Rattle.script_checker.specs.After.{ended}
use Rattle.script_checker.specs.Compiled.{HasNone}
use Rattle.caa_base.proofs.ListLemmas.{as_filled}
use Rattle.script_checker.proofs.Accepted.{IsKept, within, filled}
use Rattle.script_checker.proofs.ListsChange.{all_push, all_change, all_set, all_mapped, all_rows}
use Rattle.script_checker.proofs.CountsKept.{few_more}
use Rattle.caa_base.specs.Written.Limits.{most_steps, most_roles, most_nests, most_alternates}

-- the steps of what is being declared, and the roles and nested uses so far
pub record AreFit (program : Option OpenProgram) (rows : List RoleRow) (names : List ℕ) (uses : List OpenNest) : Type 0 where
  pub steps : length (steps_of program) ≤ most_steps
  pub roles : list_all role_fits rows ≡ true
  pub few_roles : length rows ≤ most_roles
  pub all_roles : length rows ≡ length names
  pub nests : list_all (λ (nest : OpenNest). nest_fits nest.row) uses ≡ true
  pub few_nests : length uses ≤ most_nests

abbrev pub ActionFits : OpenAction → Type 0
ActionFits a = AreFit a.program a.role_rows a.roles a.nests

-- a role with one more program that fits
program_added : (exception : Option ℕ) (program : Program) → program_fits program ≡ true → (row : RoleRow) → role_fits row ≡ true
    → role_fits (with_program row exception program) ≡ true
program_added None program p row h =
    let parts = and_parts (program_fits row.body) (list_all (λ (h : HandlerRow). program_fits h.program) row.handlers) h in
    and_from _ _ p parts.1
program_added (Some x) program p row h =
    let parts = and_parts (program_fits row.body) (list_all (λ (h : HandlerRow). program_fits h.program) row.handlers) h in
    and_from _ _ parts.0
    (all_push (λ (h : HandlerRow). program_fits h.program) row.handlers (record { exception = x; program = program }) parts.1 p)

closed_fits : (a : OpenAction) (v : Verdict) (o : Option OpenProgram) → a.program ≡ o → ActionFits a → ActionFits (closed_if a o v)
closed_fits a v None e h = h
closed_fits a v (Some p) e h =
    let program : Program = record { steps = p.steps; verdict = v } in
    let few : length p.steps ≤ most_steps = subst (λ (o : Option OpenProgram). length (steps_of o) ≤ most_steps) e h.steps in
    record {
      steps = omega arith;
      roles =
          all_change role_fits (λ (row : RoleRow). with_program row p.exception program) a.role_rows p.role no_role
          (program_added p.exception program (le-leb _ _ few)) h.roles;
      few_roles = rw length-set h.few_roles;
      all_roles = rw length-set h.all_roles;
      nests = h.nests;
      few_nests = h.few_nests;
    }

-- one action more
more_alternates : (actions : List ℕ) (a : ℕ) → nat_le most_alternates (length actions) ≡ false
    → (not (is_empty (actions ++ a ∷ [])) && nat_le (length (actions ++ a ∷ [])) most_alternates) ≡ true
more_alternates [] a w = refl
more_alternates (b ∷ actions) a w = le-leb _ _ (few_more most_alternates (b ∷ actions) a w)

-- one step more
more_steps : (o : Option OpenProgram) (x : Step) → nat_le most_steps (length (steps_of o)) ≡ false
    → length (steps_of (with_step o (Some x))) ≤ most_steps
more_steps None x w = omega arith
more_steps (Some p) x w = few_more most_steps p.steps x w

module _ (names : List (List ℕ)) (d : Declared) (a : OpenAction) (h : ActionFits a) where
  begun : (p : OpenProgram) → p.steps ≡ [] → AreFit (Some p) a.role_rows a.roles a.nests
  begun p e =
      record {
        steps = rw e (omega arith);
        roles = h.roles;
        few_roles = h.few_roles;
        all_roles = h.all_roles;
        nests = h.nests;
        few_nests = h.few_nests;
      }

  stepped : (x : Step) → nat_le most_steps (length (steps_of a.program)) ≡ false
      → ActionFits (record a { program = with_step a.program (Some x) })
  stepped x w =
      record {
        steps = more_steps a.program x w;
        roles = h.roles;
        few_roles = h.few_roles;
        all_roles = h.all_roles;
        nests =
            h.nests;
        few_nests = h.few_nests;
      }

  aborted : (role : ℕ) (row : AbortRow) → ActionFits (with_abort a role row)
  aborted role row = record {
    steps = h.steps;
    roles = all_change role_fits (λ (r : RoleRow). record r { abort = row }) a.role_rows (index_of role a.roles) no_role (λ r k. k) h.roles;
    few_roles = rw length-set h.few_roles;
    all_roles = rw length-set h.all_roles;
    nests = h.nests;
    few_nests = h.few_nests;
  }

  -- a use that changes and still fits
  nest_changed : (name : ℕ) (nest : OpenNest) → (nest_fits (nest_of a name).row ≡ true → nest_fits nest.row ≡ true)
      → ActionFits (with_nest a name nest)
  nest_changed name nest keeps = record {
    steps = h.steps;
    roles = h.roles;
    few_roles = h.few_roles;
    all_roles = h.all_roles;
    nests = all_set (λ (nest : OpenNest). nest_fits nest.row) a.nests (index_of name a.nest_names) (begun_nest no_nest) nest keeps h.nests;
    few_nests = rw length-set h.few_nests;
  }

  says_fits : (f : Form) → past_limit_in_action d a f ≡ false → ActionFits (action_with names d a f)
  says_fits (form.Roles roles) w = record {
    steps = h.steps;
    roles = all_mapped role_fits (idle_role names) roles (λ name. refl);
    few_roles = rw length-map (ltb-false most_roles (length roles) w);
    all_roles = rw length-map refl;
    nests = h.nests;
    few_nests = h.few_nests;
  }
  says_fits (form.Nest nest action roles) w = record {
    steps = h.steps;
    roles = h.roles;
    few_roles = h.few_roles;
    all_roles = h.all_roles;
    nests = all_push (λ (nest : OpenNest). nest_fits nest.row) a.nests _ h.nests refl;
    few_nests = few_more most_nests a.nests _ w;
  }
  says_fits (form.Map nest lower upper) w = nest_changed nest _ (λ k. k)
  says_fits (form.MapUndo nest x) w = nest_changed nest _ (λ k. k)
  says_fits (form.MapFailure nest x) w = nest_changed nest _ (λ k. k)
  says_fits (form.Alternate nest action) w =
      nest_changed nest _ (λ k. more_alternates (nest_of a nest).row.actions (index_of action d.action_names) w)
  says_fits (form.Abort role x) w = aborted role _
  says_fits (form.AbortTest role t v x) w = aborted role _
  says_fits (form.Body role) w = begun (begun_program (index_of role a.roles) None) refl
  says_fits (form.Handler role x) w = begun (begun_program (index_of role a.roles) (Some (index_of x (inner d a)))) refl
  says_fits (form.ReadStep object) w = stepped _ w
  says_fits (form.PutStep object v) w = stepped _ w
  says_fits (form.AddStep object v) w = stepped _ w
  says_fits (form.WorkStep k) w = stepped _ w
  says_fits (form.CheckStep t v x) w = stepped _ w
  says_fits (form.RaiseStep x) w = stepped _ w
  says_fits (form.EnterStep n) w = stepped _ w
  says_fits form.DoneLine w = closed_fits a _ a.program refl h
  says_fits (form.SignalLine x) w = closed_fits a _ a.program refl h
  says_fits form.UndoLine w = closed_fits a _ a.program refl h
  says_fits f w = h

-- ---- actions that have ended

abbrev pub FitsIn : Block → Type 0
FitsIn (block.Action a) = ActionFits a
FitsIn b = Unit {0}

abbrev pub ActionsFit : Declared → Block → Type 0
ActionsFit d b = (list_all action_fits d.actions ≡ true) × FitsIn b

rows_many : (nests : List OpenNest) → length (nest_rows nests) ≡ length nests
rows_many nests = length-map nests (λ (nest : OpenNest). nest.row)

module _ (names : List (List ℕ)) (d : Declared) where
  end_fits : (a : OpenAction) → ActionFits a → is_empty a.roles ≡ false → action_fits (row_of names a) ≡ true
  end_fits a h u =
      let some : is_empty a.role_rows ≡ false = as_filled a.role_rows a.roles h.all_roles u in
      let few : length (nest_rows a.nests) ≤ most_nests = omega (arith, h.few_nests, rows_many a.nests) in
      rw (
        some,
        le-leb (length a.role_rows) most_roles h.few_roles,
        le-leb (length (nest_rows a.nests)) most_nests few,
        h.roles,
        all_rows nest_fits a.nests h.nests,
      ) refl

  begins_fit : (f : Form) → ActionsFit d block.Top → ActionsFit (declared_with names d f) (block_begun d f)
  begins_fit (form.Action name) h =
      (h.0, record { steps = omega arith; roles = refl; few_roles = omega arith; all_roles = refl; nests = refl; few_nests = omega arith })
  begins_fit f h = h

  ends_fit : (b : Block) → HasNone (record { declared = d; block = b }) form.End → ActionsFit d b → ActionsFit (ended names d b) block.Top
  ends_fit (block.Action a) none h = (all_push action_fits d.actions (row_of names a) h.0 (end_fits a h.1 (filled d a form.End none)), tt)
  ends_fit block.Top none h = h
  ends_fit (block.Graph g) none h = h

pub fits_kept : (names : List (List ℕ)) → IsKept names ActionsFit
fits_kept names = record {
  at_top = λ d f sound none h. begins_fit names d f h;
  in_graph = λ d g f sound none h. h;
  in_action = λ d a f sound none shut h. (h.0, says_fits names d a h.1 f (within d a f none));
  closes = λ d a h. (h.0, closed_fits a verdict.Done a.program refl h.1);
  ends = λ d b none h. ends_fit names d b none h;
}
