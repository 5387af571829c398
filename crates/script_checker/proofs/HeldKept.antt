-- An accepted action owns the objects that its steps, and the actions nested in it, touch.
use Rattle.std.proofs.Common.{◌≡◌, ℕ, nat_lt, Bool, true, not, ◌&&◌, List, [], ◌∷◌, ◌++◌, length, slice_index_or, Option, Some, None, refl, subst}
use Rattle.std.specs.List.{list_all}
use Rattle.std.proofs.lemmas.Bool.{and_parts, false≢true, and_from, not-false, or_parts}
use Rattle.caa_base.specs.Written.Lists.{member, index_of, is_empty}
use Rattle.caa_base.specs.declared.written.entry.Verdict.{Verdict}
use Rattle.caa_base.specs.declared.written.entry.Verdict.TheVariants as verdict
use Rattle.place_plan.specs.declared.drafts.draft_rows.ActionRow.{ActionRow}
use Rattle.place_plan.specs.declared.drafts.draft_rows.AbortRow.{AbortRow}
use Rattle.place_plan.specs.declared.drafts.draft_rows.RoleRow.{RoleRow}
use Rattle.place_plan.specs.declared.drafts.draft_rows.NestRow.{NestRow}
use Rattle.place_plan.specs.declared.drafts.draft_rows.HandlerRow.{HandlerRow}
use Rattle.place_plan.specs.declared.drafts.draft_rows.Program.{Program}
use Rattle.place_plan.specs.declared.drafts.draft_rows.Step.{Step}
use Rattle.place_plan.specs.declared.drafts.draft_rows.Step.TheVariants as step
use Rattle.place_plan.specs.Plans.Places.{no_action, no_role, no_nest}
use Rattle.place_plan.specs.Drafts.DraftRules.{all_below, all_differ, holds_step, holds_role}
use Rattle.action_script.specs.declared.forms.form.Form.{Form}
use Rattle.action_script.specs.declared.forms.form.Form.TheVariants as form
use Rattle.script_checker.specs.declared.declared.Declared.{Declared}
use Rattle.script_checker.specs.declared.declared.Block.{Block}
use Rattle.script_checker.specs.declared.declared.Block.TheVariants as block
use Rattle.script_checker.specs.declared.open_action.OpenAction.{OpenAction}
use Rattle.script_checker.specs.declared.open_action.OpenNest.{OpenNest}
use Rattle.script_checker.specs.declared.open_action.OpenProgram.{OpenProgram}
use Rattle.script_checker.specs.Numbers.{is_among}
use Rattle.script_checker.specs.DeclaredSoFar.{begun_nest, inner, nest_of}
use Rattle.script_checker.specs.AtTop.{is_action, declared_with, block_begun}
use Rattle.script_checker.specs.InAction.{closed_if, steps_of, with_step, begun_program, with_program, idle_role, with_abort, with_nest, action_with, row_of}
use Rattle.script_checker.specs.After.{ended}
use Rattle.caa_base.proofs.ListLemmas.{all_imply, empty_is}
use Rattle.script_checker.proofs.KnownNames.{two_known, then_known}
use Rattle.script_checker.proofs.Accepted.{IsKept, NoneInAction, known, once, held}
use Rattle.script_checker.proofs.ListsChange.{all_push, all_change, all_set, all_mapped, all_rows}
use Rattle.script_checker.proofs.NestTests.{below_more, one_longer, acts_same}

abbrev all_members : List ℕ → ActionRow → Bool
all_members objects action = list_all (λ o. member o objects) action.objects

-- the actions of a use are there, and the action owns their objects
abbrev pub uses_held : List ActionRow → List ℕ → NestRow → Bool
uses_held actions objects nest =
    all_below (length actions) nest.actions && list_all (λ a. all_members objects (slice_index_or actions a no_action)) nest.actions

-- what is being declared touches these objects alone
pub record TouchesOnly (actions : List ActionRow) (objects : List ℕ) (steps : List Step) (roles : List RoleRow)
    (nests : List OpenNest) : Type 0 where
  pub steps_held : list_all (holds_step objects) steps ≡ true
  pub holds_roles : list_all (holds_role objects) roles ≡ true
  pub holds_nests : list_all (λ (nest : OpenNest). uses_held actions objects nest.row) nests ≡ true

abbrev OpenHeld : List ActionRow → OpenAction → Type 0
OpenHeld actions a = TouchesOnly actions a.uses (steps_of a.program) a.role_rows a.nests

abbrev pub held_in : List ActionRow → ActionRow → Bool
held_in actions action = list_all (holds_role action.objects) action.roles && list_all (uses_held actions action.objects) action.nests

-- ---- the objects are said

any_step : (objects : List ℕ) (s : Step) → holds_step [] s ≡ true → holds_step objects s ≡ true
any_step objects (step.Read o) h = absurd (false≢true h)
any_step objects (step.Put o v) h = absurd (false≢true h)
any_step objects (step.Add o v) h = absurd (false≢true h)
any_step objects (step.Work k) h = refl
any_step objects (step.Check t v x) h = refl
any_step objects (step.Raise x) h = refl
any_step objects (step.Enter n) h = refl

any_role : (objects : List ℕ) (role : RoleRow) → holds_role [] role ≡ true → holds_role objects role ≡ true
any_role objects role h =
    let p =
    and_parts (list_all (holds_step []) role.body.steps)
    (list_all (λ (h : HandlerRow). list_all (holds_step []) h.program.steps) role.handlers) h in
    and_from _ _ (all_imply (holds_step []) (holds_step objects) role.body.steps (any_step objects) p.0)
    (all_imply (λ (h : HandlerRow). list_all (holds_step []) h.program.steps)
    (λ (h : HandlerRow). list_all (holds_step objects) h.program.steps) role.handlers
    (λ h k. all_imply (holds_step []) (holds_step objects) h.program.steps (any_step objects) k) p.1)

any_use : (actions : List ActionRow) (objects : List ℕ) (nest : NestRow) → uses_held actions [] nest ≡ true
    → uses_held actions objects nest ≡ true
any_use actions objects nest h =
    let p = and_parts (all_below (length actions) nest.actions) _ h in
    and_from _ _ p.0
    (all_imply (λ a. all_members [] (slice_index_or actions a no_action))
    (λ a. all_members objects (slice_index_or actions a no_action)) nest.actions
    (λ a k. all_imply (λ o. member o []) (λ o. member o objects) (slice_index_or actions a no_action).objects
    (λ o m. absurd (false≢true m)) k) p.1)

any_objects : (actions : List ActionRow) (old objects : List ℕ) (steps : List Step) (roles : List RoleRow) (nests : List OpenNest)
    → old ≡ [] → TouchesOnly actions old steps roles nests → TouchesOnly actions objects steps roles nests
any_objects actions old objects steps roles nests e h =
    let k = subst (λ (old : List ℕ). TouchesOnly actions old steps roles nests) e h in
    record {
      steps_held = all_imply (holds_step []) (holds_step objects) steps (any_step objects) k.steps_held;
      holds_roles = all_imply (holds_role []) (holds_role objects) roles (any_role objects) k.holds_roles;
      holds_nests =
          all_imply (λ (nest : OpenNest). uses_held actions [] nest.row) (λ (nest : OpenNest). uses_held actions objects nest.row) nests
          (λ nest m. any_use actions objects nest.row m) k.holds_nests;
    }

-- ---- programs

holds_program : (objects : List ℕ) (exception : Option ℕ) (program : Program) → list_all (holds_step objects) program.steps ≡ true
    → (row : RoleRow) → holds_role objects row ≡ true → holds_role objects (with_program row exception program) ≡ true
holds_program objects None program p row h =
    and_from _ _ p
    (and_parts (list_all (holds_step objects) row.body.steps)
    (list_all (λ (h : HandlerRow). list_all (holds_step objects) h.program.steps) row.handlers) h).1
holds_program objects (Some x) program p row h =
    let parts =
    and_parts (list_all (holds_step objects) row.body.steps)
    (list_all (λ (h : HandlerRow). list_all (holds_step objects) h.program.steps) row.handlers) h in
    and_from _ _ parts.0
    (all_push (λ (h : HandlerRow). list_all (holds_step objects) h.program.steps) row.handlers
    (record { exception = x; program = program }) parts.1 p)

closed_held : (actions : List ActionRow) (a : OpenAction) (v : Verdict) (o : Option OpenProgram) → a.program ≡ o → OpenHeld actions a
    → OpenHeld actions (closed_if a o v)
closed_held actions a v None e h = h
closed_held actions a v (Some p) e h =
    let program : Program = record { steps = p.steps; verdict = v } in
    let steps : list_all (holds_step a.uses) p.steps ≡ true =
    subst (λ (o : Option OpenProgram). list_all (holds_step a.uses) (steps_of o) ≡ true) e h.steps_held in
    record {
      steps_held = refl;
      holds_roles =
          all_change (holds_role a.uses) (λ (row : RoleRow). with_program row p.exception program) a.role_rows p.role no_role
          (holds_program a.uses p.exception program steps) h.holds_roles;
      holds_nests = h.holds_nests;
    }

-- one step more
step_held : (objects : List ℕ) (o : Option OpenProgram) (x : Step) → holds_step objects x ≡ true
    → list_all (holds_step objects) (steps_of o) ≡ true → list_all (holds_step objects) (steps_of (with_step o (Some x))) ≡ true
step_held objects None x m h = h
step_held objects (Some p) x m h = all_push (holds_step objects) p.steps x h m

-- ---- lines

module _ (names : List (List ℕ)) (d : Declared) (a : OpenAction) (h : OpenHeld d.actions a) where
  one_step : (x : Step) → holds_step a.uses x ≡ true → OpenHeld d.actions (record a { program = with_step a.program (Some x) })
  one_step x m =
      record { steps_held = step_held a.uses a.program x m h.steps_held; holds_roles = h.holds_roles; holds_nests = h.holds_nests }

  other_abort : (role : ℕ) (row : AbortRow) → OpenHeld d.actions (with_abort a role row)
  other_abort role row = record {
    steps_held = h.steps_held;
    holds_roles =
        all_change (holds_role a.uses) (λ (r : RoleRow). record r { abort = row }) a.role_rows (index_of role a.roles) no_role
        (λ r k. k) h.holds_roles;
    holds_nests = h.holds_nests;
  }

  other_nest : (name : ℕ) (nest : OpenNest)
      → (uses_held d.actions a.uses (nest_of a name).row ≡ true → uses_held d.actions a.uses nest.row ≡ true)
      → OpenHeld d.actions (with_nest a name nest)
  other_nest name nest keeps = record {
    steps_held = h.steps_held;
    holds_roles = h.holds_roles;
    holds_nests =
        all_set (λ (nest : OpenNest). uses_held d.actions a.uses nest.row) a.nests (index_of name a.nest_names) (begun_nest no_nest)
        nest keeps h.holds_nests;
  }

  no_steps : (p : OpenProgram) (bodies : List ℕ) → p.steps ≡ [] → OpenHeld d.actions (record a { bodies = bodies; program = Some p })
  no_steps p bodies e = record { steps_held = rw e refl; holds_roles = h.holds_roles; holds_nests = h.holds_nests }

  says_held : (f : Form) → NoneInAction d a f → OpenHeld d.actions (action_with names d a f)
  says_held (form.Uses objects) none =
      any_objects d.actions a.uses _ (steps_of a.program) a.role_rows a.nests
      (empty_is a.uses (not-false _ (or_parts (not (is_empty a.uses)) (not (all_differ objects)) (once d a (form.Uses objects) none)).0))
      h
  says_held (form.Roles roles) none =
      record {
        steps_held = h.steps_held;
        holds_roles = all_mapped (holds_role a.uses) (idle_role names) roles (λ name. refl);
        holds_nests = h.holds_nests;
      }
  says_held (form.Nest nest action roles) none =
      let there = then_known (is_action d action) (list_all (is_among a.roles) roles) (known d a (form.Nest nest action roles) none) in
      let m = not-false _ (held d a (form.Nest nest action roles) none) in
      record {
        steps_held = h.steps_held;
        holds_roles = h.holds_roles;
        holds_nests =
            all_push (λ (nest : OpenNest). uses_held d.actions a.uses nest.row) a.nests _ h.holds_nests (rw (there.0, m) refl);
      }
  says_held (form.Map nest lower upper) none = other_nest nest _ (λ k. k)
  says_held (form.MapUndo nest x) none = other_nest nest _ (λ k. k)
  says_held (form.MapFailure nest x) none = other_nest nest _ (λ k. k)
  says_held (form.Alternate nest action) none =
      let there = two_known (is_among a.nest_names nest) (is_action d action) (known d a (form.Alternate nest action) none) in
      let m = not-false _ (held d a (form.Alternate nest action) none) in
      let row = (nest_of a nest).row in
      other_nest nest _ (λ k.
      let p = and_parts (all_below (length d.actions) row.actions) _ k in
      and_from _ _ (all_push (λ n. nat_lt n (length d.actions)) row.actions (index_of action d.action_names) p.0 there.1)
      (all_push (λ n. all_members a.uses (slice_index_or d.actions n no_action)) row.actions (index_of action d.action_names) p.1 m))
  says_held (form.Abort role x) none = other_abort role _
  says_held (form.AbortTest role t v x) none = other_abort role _
  says_held (form.Body role) none = no_steps (begun_program (index_of role a.roles) None) (a.bodies ++ index_of role a.roles ∷ []) refl
  says_held (form.Handler role x) none = no_steps (begun_program (index_of role a.roles) (Some (index_of x (inner d a)))) a.bodies refl
  says_held (form.ReadStep object) none = one_step _ (not-false _ (held d a (form.ReadStep object) none))
  says_held (form.PutStep object v) none = one_step _ (not-false _ (held d a (form.PutStep object v) none))
  says_held (form.AddStep object v) none = one_step _ (not-false _ (held d a (form.AddStep object v) none))
  says_held (form.WorkStep k) none = one_step _ refl
  says_held (form.CheckStep t v x) none = one_step _ refl
  says_held (form.RaiseStep x) none = one_step _ refl
  says_held (form.EnterStep n) none = one_step _ refl
  says_held form.DoneLine none = closed_held d.actions a _ a.program refl h
  says_held (form.SignalLine x) none = closed_held d.actions a _ a.program refl h
  says_held form.UndoLine none = closed_held d.actions a _ a.program refl h
  says_held f none = h

-- ---- actions that have ended

abbrev HeldIn : Declared → Block → Type 0
HeldIn d (block.Action a) = OpenHeld d.actions a
HeldIn d b = Unit {0}

abbrev pub AreHeld : Declared → Block → Type 0
AreHeld d b = (list_all (held_in d.actions) d.actions ≡ true) × HeldIn d b

held_longer : (actions : List ActionRow) (more : ActionRow) (action : ActionRow) → held_in actions action ≡ true
    → held_in (actions ++ more ∷ []) action ≡ true
held_longer actions more action h =
    let p = and_parts (list_all (holds_role action.objects) action.roles) _ h in
    and_from _ _ p.0
    (all_imply (uses_held actions action.objects) (uses_held (actions ++ more ∷ []) action.objects) action.nests
    (λ nest k.
    let q = and_parts (all_below (length actions) nest.actions) _ k in
    and_from _ _ (below_more (length actions) _ nest.actions (one_longer actions more) q.0)
    (acts_same (all_members action.objects) actions more nest.actions q.0 q.1))
    p.1)

module _ (names : List (List ℕ)) (d : Declared) where
  begins_held : (f : Form) → AreHeld d block.Top → AreHeld (declared_with names d f) (block_begun d f)
  begins_held (form.Action name) h = (h.0, record { steps_held = refl; holds_roles = refl; holds_nests = refl })
  begins_held f h = h

  ends_held : (b : Block) → AreHeld d b → AreHeld (ended names d b) block.Top
  ends_held (block.Action a) h =
      let row = row_of names a in (
        all_push (held_in (d.actions ++ row ∷ [])) d.actions row
            (all_imply (held_in d.actions) (held_in (d.actions ++ row ∷ [])) d.actions (held_longer d.actions row) h.0)
            (held_longer d.actions row row (and_from _ _ h.1.holds_roles (all_rows (uses_held d.actions a.uses) a.nests h.1.holds_nests))),
        tt,
      )
  ends_held block.Top h = h
  ends_held (block.Graph g) h = h

pub held_kept : (names : List (List ℕ)) → IsKept names AreHeld
held_kept names = record {
  at_top = λ d f sound none h. begins_held names d f h;
  in_graph = λ d g f sound none h. h;
  in_action = λ d a f sound none shut h. (h.0, says_held names d a h.1 f none);
  closes = λ d a h. (h.0, closed_held d.actions a verdict.Done a.program refl h.1);
  ends = λ d b none h. ends_held names d b h;
}
