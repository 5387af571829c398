-- The numbers in what an accepted script declares are in range, however much is declared later.
use Rattle.std.proofs.Common.{subst, ◌≡◌, ℕ, suc, zero, ◌+◌, ◌<◌, ◌≤◌, nat_lt, Bool, true, false, not, ◌&&◌, is_some, List, [], ◌∷◌, ◌++◌, length, replicate, slice_set, Option, Some, None, unwrap_or, refl, sym, arith, length-append}
use Rattle.std.specs.List.{list_all}
use Rattle.std.proofs.lemmas.Bool.{and_parts, false≢true, lt-ltb, eqb-true, and_from, not-false, or_parts}
use Rattle.caa_base.specs.Written.Lists.{member, index_of, is_empty}
use Rattle.caa_base.specs.declared.written.entry.Drill.{Drill}
use Rattle.caa_base.specs.declared.written.entry.Verdict.{Verdict}
use Rattle.caa_base.specs.declared.written.entry.Verdict.TheVariants as verdict
use Rattle.caa_base.specs.Written.Limits.{is_value}
use Rattle.place_plan.specs.declared.drafts.draft_rows.ActionRow.{ActionRow}
use Rattle.place_plan.specs.declared.drafts.draft_rows.ObjectRow.{ObjectRow}
use Rattle.place_plan.specs.declared.drafts.draft_rows.AbortRow.{AbortRow}
use Rattle.place_plan.specs.declared.drafts.draft_rows.AbortRow.TheVariants as abort
use Rattle.place_plan.specs.declared.drafts.draft_rows.RoleRow.{RoleRow}
use Rattle.place_plan.specs.declared.drafts.draft_rows.NestRow.{NestRow}
use Rattle.place_plan.specs.declared.drafts.draft_rows.Program.{Program}
use Rattle.place_plan.specs.declared.drafts.draft_rows.Step.{Step}
use Rattle.place_plan.specs.declared.drafts.draft_rows.Step.TheVariants as step
use Rattle.place_plan.specs.Plans.Places.{no_role, no_nest}
use Rattle.place_plan.specs.Drafts.DraftRules.{is_rising, all_below, all_differ, step_in_range, verdict_in_range, abort_in_range, program_in_range, handler_in_range, role_in_range, nest_in_range}
use Rattle.action_script.specs.declared.forms.form.Form.{Form}
use Rattle.action_script.specs.declared.forms.form.Form.TheVariants as form
use Rattle.action_script.specs.Forms.Printing.{is_sound}
use Rattle.script_checker.specs.declared.declared.Declared.{Declared}
use Rattle.script_checker.specs.declared.declared.Block.{Block}
use Rattle.script_checker.specs.declared.declared.Block.TheVariants as block
use Rattle.script_checker.specs.declared.open_graph.DeclaredGraph.{DeclaredGraph}
use Rattle.script_checker.specs.declared.open_action.OpenAction.{OpenAction}
use Rattle.script_checker.specs.declared.open_action.OpenNest.{OpenNest}
use Rattle.script_checker.specs.declared.open_action.OpenProgram.{OpenProgram}
use Rattle.script_checker.specs.Numbers.{is_among, chosen_from}
use Rattle.script_checker.specs.DeclaredSoFar.{nothing_declared, begun_nest, graph_number, inner, outer, exceptions_at, nest_of, face}
use Rattle.script_checker.specs.AtTop.{is_action, declared_with, block_begun}
use Rattle.script_checker.specs.InAction.{closed_if, steps_of, with_step, begun_program, with_program, idle_role, with_abort, with_nest, action_with, row_of}
use Rattle.script_checker.specs.After.{ended}
use Rattle.caa_base.proofs.ListLemmas.{empty_is}
use Rattle.script_checker.proofs.KnownNames.{one_known, two_known, then_known, last_known}
use Rattle.script_checker.proofs.Accepted.{IsKept, NoneAtTop, NoneInAction, known_at_top, known, once}
use Rattle.script_checker.proofs.ListsChange.{all_push, all_change, all_set, all_mapped, all_rows}
use Rattle.script_checker.proofs.ChosenNumbers.{either, rises}
use Rattle.script_checker.proofs.NestTests.{still_below, numbers_below}
use Rattle.script_checker.proofs.GraphsKept.{first_alone}
use Rattle.script_checker.proofs.GraphsThere.{has_exception, some_exception, named_there, GraphsThere, there_kept, there_at_first}
use Rattle.script_checker.proofs.PartsFit.{ActionsFit, fits_kept}
use Rattle.script_checker.proofs.ValuesSaid.{value_first, value_second, rounds_alone, parts_sound}

-- ---- numbers below a count

zeros_below : (count many : ℕ) → nat_lt 0 many ≡ true → all_below many (replicate count 0) ≡ true
zeros_below zero many h = refl
zeros_below (suc count) many h = and_from _ _ h (zeros_below count many h)

-- chosen numbers are below the count of what they are chosen from
chosen_below : (n many : ℕ) (names xs : List ℕ) → n + length xs ≤ many → all_below many (chosen_from n names xs) ≡ true
chosen_below n many names [] l = refl
chosen_below n many names (x ∷ xs) l =
    let more = chosen_below (n + 1) many names xs (omega (arith, l)) in
    either (λ (ys : List ℕ). all_below many ys ≡ true) (member x names) (n ∷ chosen_from (n + 1) names xs) (chosen_from (n + 1) names xs)
    (and_from _ _ (lt-ltb n many (omega (arith, l))) more)
    more

-- ---- the action that is being declared

-- how much there is of what its numbers count
pub record Counts : Type 0 where
  pub objects : ℕ
  pub actions : ℕ
  pub roles : ℕ
  pub internal : ℕ
  pub interface : ℕ

-- the counts are no less than what is declared
pub record AreEnough (c : Counts) (objects : List ℕ) (actions : List ActionRow) (roles inner outer : List ℕ) : Type 0 where
  pub of_objects : length objects ≤ c.objects
  pub of_actions : length actions ≤ c.actions
  pub of_roles : length roles ≤ c.roles
  pub of_inner : length inner ≤ c.internal
  pub of_outer : length outer ≤ c.interface

-- a handler that is being declared is of an exception that is there
abbrev handled_in_range : ℕ → Option ℕ → Bool
handled_in_range internal None = true
handled_in_range internal (Some x) = nat_lt x internal

abbrev opening_in_range : ℕ → Option OpenProgram → Bool
opening_in_range internal None = true
opening_in_range internal (Some p) = handled_in_range internal p.exception

-- all of its numbers are in range: those of the steps so far, of what they are of, of the objects, which rise, of the fault
-- exception, of the roles and of the nested uses
abbrev PartsRight : Counts → OpenAction → Type 0
PartsRight c a =
    (list_all (step_in_range c.objects c.internal) (steps_of a.program) ≡ true)
    × (opening_in_range c.internal a.program ≡ true)
    × ((is_rising a.uses && all_below c.objects a.uses) ≡ true)
    × (nat_lt (unwrap_or a.fault 0) c.internal ≡ true)
    × (list_all (role_in_range c.objects c.internal c.interface) a.role_rows ≡ true)
    × (list_all (λ (nest : OpenNest). nest_in_range c.actions c.roles c.internal nest.row) a.nests ≡ true)

abbrev Enough : Counts → Declared → OpenAction → Type 0
Enough c d a = AreEnough c d.objects d.actions a.roles (inner d a) (outer d a)

abbrev OpenRight : Declared → OpenAction → Type 0
OpenRight d a = (c : Counts) → Enough c d a → PartsRight c a

-- ---- programs

program_right : (c : Counts) (exception : Option ℕ) (program : Program) → handled_in_range c.internal exception ≡ true
    → program_in_range c.objects c.internal c.interface program ≡ true → (row : RoleRow)
    → role_in_range c.objects c.internal c.interface row ≡ true
    → role_in_range c.objects c.internal c.interface (with_program row exception program) ≡ true
program_right c None program e p row h = and_from _ _ p (and_parts (program_in_range c.objects c.internal c.interface row.body) _ h).1
program_right c (Some x) program e p row h =
    let parts = and_parts (program_in_range c.objects c.internal c.interface row.body) _ h in
    let more =
    and_parts (list_all (handler_in_range c.objects c.internal c.interface) row.handlers) (abort_in_range c.interface row.abort)
    parts.1 in
    and_from _ _ parts.0
    (and_from _ _ (all_push (handler_in_range c.objects c.internal c.interface) row.handlers
    (record { exception = x; program = program }) more.0 (and_from _ _ e p)) more.1)

closed_parts : (c : Counts) (a : OpenAction) (v : Verdict) (o : Option OpenProgram) → a.program ≡ o → verdict_in_range c.interface v ≡ true
    → PartsRight c a → PartsRight c (closed_if a o v)
closed_parts c a v None e w k = k
closed_parts c a v (Some p) e w k =
    let program : Program = record { steps = p.steps; verdict = v } in
    let handled : handled_in_range c.internal p.exception ≡ true =
    subst (λ (o : Option OpenProgram). opening_in_range c.internal o ≡ true) e k.1 in
    let steps : list_all (step_in_range c.objects c.internal) p.steps ≡ true =
    subst (λ (o : Option OpenProgram). list_all (step_in_range c.objects c.internal) (steps_of o) ≡ true) e k.0 in (
      refl,
      refl,
      k.2,
      k.3,
      all_change (role_in_range c.objects c.internal c.interface) (λ (row : RoleRow). with_program row p.exception program)
          a.role_rows p.role no_role (program_right c p.exception program handled (and_from _ _ steps w)) k.4,
      k.5,
    )

-- where it is closed, there is as much as before
closed_enough : (c : Counts) (d : Declared) (a : OpenAction) (v : Verdict) (o : Option OpenProgram) → Enough c d (closed_if a o v)
    → Enough c d a
closed_enough c d a v None b = b
closed_enough c d a v (Some p) b = b

closed_right : (d : Declared) (a : OpenAction) (v : Verdict) → ((c : Counts) → Enough c d a → verdict_in_range c.interface v ≡ true)
    → OpenRight d a → OpenRight d (closed_if a a.program v)
closed_right d a v w h = λ c b.
    let k = closed_enough c d a v a.program b in
    closed_parts c a v a.program refl (w c k) (h c k)

-- ---- nested uses

record NestParts (c : Counts) (row : NestRow) : Type 0 where
  actions_right : all_below c.actions row.actions ≡ true
  roles_right : all_below c.roles row.roles ≡ true
  maps_right : all_below c.internal row.maps ≡ true
  undo_right : nat_lt row.undo c.internal ≡ true
  failure_right : nat_lt row.failure c.internal ≡ true

abbrev NestRight : Counts → NestRow → Type 0
NestRight c row = nest_in_range c.actions c.roles c.internal row ≡ true

nest_parts : (c : Counts) (row : NestRow) → NestRight c row → NestParts c row
nest_parts c row h =
    let p = and_parts (all_below c.actions row.actions) _ h in
    let q = and_parts (all_below c.roles row.roles) _ p.1 in
    let m = and_parts (all_below c.internal row.maps) _ q.1 in
    let l = and_parts (nat_lt row.undo c.internal) _ m.1 in
    record { actions_right = p.0; roles_right = q.0; maps_right = m.0; undo_right = l.0; failure_right = l.1 }

nest_from : (c : Counts) (row : NestRow) → NestParts c row → NestRight c row
nest_from c row p =
    and_from _ _ p.actions_right (and_from _ _ p.roles_right (and_from _ _ p.maps_right (and_from _ _ p.undo_right p.failure_right)))

mapped_right : (c : Counts) (row : NestRow) (i x : ℕ) → nat_lt x c.internal ≡ true → NestRight c row
    → NestRight c (record row { maps = slice_set row.maps i x })
mapped_right c row i x l h =
    let p = nest_parts c row h in
    nest_from c (record row { maps = slice_set row.maps i x })
    (record {
      actions_right = p.actions_right;
      roles_right = p.roles_right;
      maps_right =
          all_set (λ n. nat_lt n c.internal) row.maps i 0 x (λ k. l) p.maps_right;
      undo_right = p.undo_right;
      failure_right =
          p.failure_right;
    })

undone_right : (c : Counts) (row : NestRow) (x : ℕ) → nat_lt x c.internal ≡ true → NestRight c row → NestRight c (record row { undo = x })
undone_right c row x l h =
    let p = nest_parts c row h in
    nest_from c (record row { undo = x })
    (record {
      actions_right = p.actions_right;
      roles_right = p.roles_right;
      maps_right = p.maps_right;
      undo_right = l;
      failure_right = p.failure_right;
    })

failed_right : (c : Counts) (row : NestRow) (x : ℕ) → nat_lt x c.internal ≡ true → NestRight c row
    → NestRight c (record row { failure = x })
failed_right c row x l h =
    let p = nest_parts c row h in
    nest_from c (record row { failure = x })
    (record {
      actions_right = p.actions_right;
      roles_right = p.roles_right;
      maps_right = p.maps_right;
      undo_right =
          p.undo_right;
      failure_right = l;
    })

alternated_right : (c : Counts) (row : NestRow) (a : ℕ) → nat_lt a c.actions ≡ true → NestRight c row
    → NestRight c (record row { actions = row.actions ++ a ∷ [] })
alternated_right c row a l h =
    let p = nest_parts c row h in
    nest_from c (record row { actions = row.actions ++ a ∷ [] })
    (record {
      actions_right = all_push (λ n. nat_lt n c.actions) row.actions a p.actions_right l;
      roles_right = p.roles_right;
      maps_right = p.maps_right;
      undo_right = p.undo_right;
      failure_right = p.failure_right;
    })

-- ---- lines that change a part

-- one step more
steps_more : (c : Counts) (o : Option OpenProgram) (x : Step) → step_in_range c.objects c.internal x ≡ true
    → list_all (step_in_range c.objects c.internal) (steps_of o) ≡ true
    → list_all (step_in_range c.objects c.internal) (steps_of (with_step o (Some x))) ≡ true
steps_more c None x m h = h
steps_more c (Some p) x m h = all_push (step_in_range c.objects c.internal) p.steps x h m

same_opening : (internal : ℕ) (o : Option OpenProgram) (x : Step) → opening_in_range internal o ≡ true
    → opening_in_range internal (with_step o (Some x)) ≡ true
same_opening internal None x h = h
same_opening internal (Some p) x h = h

module _ (d : Declared) (a : OpenAction) (h : OpenRight d a) where
  step_more : (x : Step) → ((c : Counts) → Enough c d a → step_in_range c.objects c.internal x ≡ true)
      → OpenRight d (record a { program = with_step a.program (Some x) })
  step_more x right = λ c b.
      let k = h c b in
      (steps_more c a.program x (right c b) k.0, same_opening c.internal a.program x k.1, k.2, k.3, k.4, k.5)

  -- a body or a handler is begun
  opened : (p : OpenProgram) (bodies : List ℕ) → p.steps ≡ []
      → ((c : Counts) → Enough c d a → handled_in_range c.internal p.exception ≡ true)
      → OpenRight d (record a { bodies = bodies; program = Some p })
  opened p bodies e right = λ c b.
      let k = h c b in
      (rw e refl, right c b, k.2, k.3, k.4, k.5)

  -- the exceptions that a role tells outside when it is aborted
  abort_said : (role : ℕ) (row : AbortRow) → ((c : Counts) → Enough c d a → abort_in_range c.interface row ≡ true)
      → OpenRight d (with_abort a role row)
  abort_said role row right = λ c b.
      let k = h c b in (
        k.0,
        k.1,
        k.2,
        k.3,
        all_change (role_in_range c.objects c.internal c.interface) (λ (r : RoleRow). record r { abort = row }) a.role_rows
            (index_of role a.roles) no_role
            (λ r m.
            let p = and_parts (program_in_range c.objects c.internal c.interface r.body) _ m in
            let q =
            and_parts (list_all (handler_in_range c.objects c.internal c.interface) r.handlers) (abort_in_range c.interface r.abort)
            p.1 in
            and_from _ _ p.0 (and_from _ _ q.0 (right c b)))
            k.4,
        k.5,
      )

  -- a nested use changes
  nest_changes : (name : ℕ) (nest : OpenNest) → ((c : Counts) → Enough c d a → NestRight c (nest_of a name).row → NestRight c nest.row)
      → OpenRight d (with_nest a name nest)
  nest_changes name nest keeps = λ c b.
      let k = h c b in (
        k.0,
        k.1,
        k.2,
        k.3,
        k.4,
        all_set (λ (nest : OpenNest). nest_in_range c.actions c.roles c.internal nest.row) a.nests
            (index_of name a.nest_names) (begun_nest no_nest) nest (keeps c b) k.5,
      )

-- ---- exceptions of graphs

-- one more graph takes no exception from a graph
grown : (graphs : List DeclaredGraph) (more : DeclaredGraph) (g : ℕ)
    → length (exceptions_at graphs g) ≤ length (exceptions_at (graphs ++ more ∷ []) g)
grown [] more g = omega arith
grown (graph ∷ graphs) more zero = omega arith
grown (graph ∷ graphs) more (suc g) = grown graphs more g

plain_one : (graphs : List DeclaredGraph) → first_alone graphs ≡ true → length (exceptions_at graphs 0) ≡ 1
plain_one [] h = absurd (false≢true h)
plain_one (graph ∷ graphs) h = eqb-true (length graph.exceptions) 1 h

not_some : (o : Option ℕ) → is_some o ≡ false → o ≡ None
not_some None e = refl
not_some (Some x) e = absurd (false≢true (sym e))

-- a graph that is said in place of the plain one has no fewer exceptions
said_graph : (graphs : List DeclaredGraph) (old : Option ℕ) (g : ℕ) → first_alone graphs ≡ true → list_all has_exception graphs ≡ true
    → is_some old ≡ false → g < length graphs → length (exceptions_at graphs (unwrap_or old 0)) ≤ length (exceptions_at graphs g)
said_graph graphs old g plain filled e l =
    let one = plain_one graphs plain in
    let some = some_exception graphs g filled l in
    let few : length (exceptions_at graphs 0) ≤ length (exceptions_at graphs g) = omega arith in
    rw (not_some old e) few

-- ---- lines

module _ (names : List (List ℕ)) (d : Declared) (a : OpenAction) (now : GraphsThere d (block.Action a)) (h : OpenRight d a) where
  says_open : (f : Form) → is_sound names f ≡ true → NoneInAction d a f → OpenRight d (action_with names d a f)
  says_open (form.Internal graph) sound none = λ c b.
      let few =
      said_graph d.graphs a.internal (graph_number d graph) now.plain now.filled (once d a (form.Internal graph) none)
      (named_there names d a graph (one_known (is_among d.graph_names graph) (known d a (form.Internal graph) none)) now) in
      let m : length (exceptions_at d.graphs (graph_number d graph)) ≤ c.internal = b.of_inner in
      h c
      (record {
        of_objects = b.of_objects;
        of_actions = b.of_actions;
        of_roles = b.of_roles;
        of_inner = omega arith;
        of_outer =
            b.of_outer;
      })
  says_open (form.Interface graph) sound none = λ c b.
      let few =
      said_graph d.graphs a.interface (graph_number d graph) now.plain now.filled (once d a (form.Interface graph) none)
      (named_there names d a graph (one_known (is_among d.graph_names graph) (known d a (form.Interface graph) none)) now) in
      let m : length (exceptions_at d.graphs (graph_number d graph)) ≤ c.interface = b.of_outer in
      h c
      (record {
        of_objects = b.of_objects;
        of_actions = b.of_actions;
        of_roles = b.of_roles;
        of_inner = b.of_inner;
        of_outer =
            omega arith;
      })
  says_open (form.Fault x) sound none = λ c b.
      let k = h c b in (
        k.0,
        k.1,
        k.2,
        still_below (index_of x (inner d a)) (length (inner d a)) c.internal (one_known (is_among (inner d a) x) (known d a (form.Fault x) none))
            b.of_inner,
        k.4,
        k.5,
      )
  says_open (form.Uses objects) sound none = λ c b.
      let k = h c b in
      let m : length d.objects ≤ c.objects = b.of_objects in
      (k.0, k.1, and_from _ _ (rises 0 objects d.objects) (chosen_below 0 c.objects objects d.objects (omega arith)), k.3, k.4, k.5)
  says_open (form.Roles roles) sound none = λ c b.
      let e =
      empty_is a.roles
      (not-false _ (or_parts (not (is_empty a.roles)) (not (all_differ roles)) (once d a (form.Roles roles) none)).0) in
      let few : length a.roles ≤ c.roles = rw e (omega arith) in
      let k =
      h c
      (record { of_objects = b.of_objects; of_actions = b.of_actions; of_roles = few; of_inner = b.of_inner; of_outer = b.of_outer }) in
      (k.0, k.1, k.2, k.3, all_mapped (role_in_range c.objects c.internal c.interface) (idle_role names) roles (λ name. refl), k.5)
  says_open (form.Nest nest action roles) sound none = λ c b.
      let k = h c b in
      let among = then_known (is_action d action) (list_all (is_among a.roles) roles) (known d a (form.Nest nest action roles) none) in
      let some = some_exception d.graphs (unwrap_or a.internal 0) now.filled now.begun.0 in
      let one : nat_lt 0 c.internal ≡ true = lt-ltb 0 c.internal (omega (arith, b.of_inner)) in (
        k.0,
        k.1,
        k.2,
        k.3,
        k.4,
        all_push (λ (nest : OpenNest). nest_in_range c.actions c.roles c.internal nest.row) a.nests _ k.5
            (and_from _ _
            (and_from _ _ (still_below (index_of action d.action_names) (length d.actions) c.actions among.0 b.of_actions) refl)
            (and_from _ _ (numbers_below a.roles roles c.roles among.1 b.of_roles)
            (and_from _ _ (zeros_below _ c.internal one) (and_from _ _ one one)))),
      )
  says_open (form.Map nest lower upper) sound none =
      let among =
      last_known (is_among a.nest_names nest) (is_among (face d a nest) lower) (is_among (inner d a) upper)
      (known d a (form.Map nest lower upper) none) in
      nest_changes d a h nest _
      (λ c b. mapped_right c (nest_of a nest).row (index_of lower (face d a nest)) (index_of upper (inner d a))
      (still_below (index_of upper (inner d a)) (length (inner d a)) c.internal among b.of_inner))
  says_open (form.MapUndo nest x) sound none =
      let among = (two_known (is_among a.nest_names nest) (is_among (inner d a) x) (known d a (form.MapUndo nest x) none)).1 in
      nest_changes d a h nest _
      (λ c b. undone_right c (nest_of a nest).row (index_of x (inner d a))
      (still_below (index_of x (inner d a)) (length (inner d a)) c.internal among b.of_inner))
  says_open (form.MapFailure nest x) sound none =
      let among = (two_known (is_among a.nest_names nest) (is_among (inner d a) x) (known d a (form.MapFailure nest x) none)).1 in
      nest_changes d a h nest _
      (λ c b. failed_right c (nest_of a nest).row (index_of x (inner d a))
      (still_below (index_of x (inner d a)) (length (inner d a)) c.internal among b.of_inner))
  says_open (form.Alternate nest action) sound none =
      let among = (two_known (is_among a.nest_names nest) (is_action d action) (known d a (form.Alternate nest action) none)).1 in
      nest_changes d a h nest _
      (λ c b. alternated_right c (nest_of a nest).row (index_of action d.action_names)
      (still_below (index_of action d.action_names) (length d.actions) c.actions among b.of_actions))
  says_open (form.Abort role x) sound none =
      let among = (two_known (is_among a.roles role) (is_among (outer d a) x) (known d a (form.Abort role x) none)).1 in
      abort_said d a h role (abort.Always (index_of x (outer d a)))
      (λ c b. still_below (index_of x (outer d a)) (length (outer d a)) c.interface among b.of_outer)
  says_open (form.AbortTest role t v x) sound none =
      let among = (two_known (is_among a.roles role) (is_among (outer d a) x) (known d a (form.AbortTest role t v x) none)).1 in
      let w = value_second _ v _ (parts_sound names (form.AbortTest role t v x) sound) in
      abort_said d a h role (abort.Where t v (index_of x (outer d a)))
      (λ c b. and_from _ _ w (still_below (index_of x (outer d a)) (length (outer d a)) c.interface among b.of_outer))
  says_open (form.Body role) sound none =
      opened d a h (begun_program (index_of role a.roles) None) (a.bodies ++ index_of role a.roles ∷ []) refl (λ c b. refl)
  says_open (form.Handler role x) sound none =
      let among = (two_known (is_among a.roles role) (is_among (inner d a) x) (known d a (form.Handler role x) none)).1 in
      opened d a h (begun_program (index_of role a.roles) (Some (index_of x (inner d a)))) a.bodies refl
      (λ c b. still_below (index_of x (inner d a)) (length (inner d a)) c.internal among b.of_inner)
  says_open (form.ReadStep object) sound none =
      let among = one_known (is_among d.objects object) (known d a (form.ReadStep object) none) in
      step_more d a h (step.Read (index_of object d.objects))
      (λ c b. still_below (index_of object d.objects) (length d.objects) c.objects among b.of_objects)
  says_open (form.PutStep object v) sound none =
      let among = one_known (is_among d.objects object) (known d a (form.PutStep object v) none) in
      let w = value_second _ v _ (parts_sound names (form.PutStep object v) sound) in
      step_more d a h (step.Put (index_of object d.objects) v)
      (λ c b. and_from _ _ (still_below (index_of object d.objects) (length d.objects) c.objects among b.of_objects) w)
  says_open (form.AddStep object v) sound none =
      let among = one_known (is_among d.objects object) (known d a (form.AddStep object v) none) in
      let w = value_second _ v _ (parts_sound names (form.AddStep object v) sound) in
      step_more d a h (step.Add (index_of object d.objects) v)
      (λ c b. and_from _ _ (still_below (index_of object d.objects) (length d.objects) c.objects among b.of_objects) w)
  says_open (form.WorkStep k) sound none =
      step_more d a h (step.Work k) (λ c b. rounds_alone k (parts_sound names (form.WorkStep k) sound))
  says_open (form.CheckStep t v x) sound none =
      let among = one_known (is_among (inner d a) x) (known d a (form.CheckStep t v x) none) in
      let w = value_first v _ (parts_sound names (form.CheckStep t v x) sound) in
      step_more d a h (step.Check t v (index_of x (inner d a)))
      (λ c b. and_from _ _ w (still_below (index_of x (inner d a)) (length (inner d a)) c.internal among b.of_inner))
  says_open (form.RaiseStep x) sound none =
      let among = one_known (is_among (inner d a) x) (known d a (form.RaiseStep x) none) in
      step_more d a h (step.Raise (index_of x (inner d a)))
      (λ c b. still_below (index_of x (inner d a)) (length (inner d a)) c.internal among b.of_inner)
  says_open (form.EnterStep nest) sound none = step_more d a h (step.Enter (index_of nest a.nest_names)) (λ c b. refl)
  says_open form.DoneLine sound none = closed_right d a verdict.Done (λ c b. refl) h
  says_open (form.SignalLine x) sound none =
      let among = one_known (is_among (outer d a) x) (known d a (form.SignalLine x) none) in
      closed_right d a (verdict.Signal (index_of x (outer d a)))
      (λ c b. still_below (index_of x (outer d a)) (length (outer d a)) c.interface among b.of_outer) h
  says_open form.UndoLine sound none = closed_right d a verdict.Undo (λ c b. refl) h
  says_open f sound none = h

-- ---- actions that have ended

-- by so many objects, actions and graphs, and the count of exceptions of each graph
abbrev pub action_right : ℕ → ℕ → ℕ → (ℕ → ℕ) → ActionRow → Bool
action_right objects actions graphs count action =
    (nat_lt action.internal graphs && (nat_lt action.interface graphs && nat_lt action.fault (count action.internal)))
    && ((is_rising action.objects && all_below objects action.objects)
    && (list_all (role_in_range objects (count action.internal) (count action.interface)) action.roles
    && list_all (nest_in_range actions (length action.roles) (count action.internal)) action.nests))

-- their numbers are in range, however much is declared later
abbrev pub EndedRight : Declared → Type 0
EndedRight d =
    (objects actions graphs : ℕ) (count : ℕ → ℕ) → length d.objects ≤ objects → length d.actions ≤ actions → length d.graphs ≤ graphs →
    ((g : ℕ) → length (exceptions_at d.graphs g) ≤ count g) → list_all (action_right objects actions graphs count) d.actions ≡ true

abbrev RightIn : Declared → Block → Type 0
RightIn d (block.Action a) = OpenRight d a
RightIn d b = Unit {0}

module _ (names : List (List ℕ)) (d : Declared) where
  ended_row : (a : OpenAction) → GraphsThere d (block.Action a) → length a.role_rows ≡ length a.roles → OpenRight d a
      → (objects actions graphs : ℕ) (count : ℕ → ℕ) → length d.objects ≤ objects → length d.actions ≤ actions → length d.graphs ≤ graphs
      → ((g : ℕ) → length (exceptions_at d.graphs g) ≤ count g) → action_right objects actions graphs count (row_of names a) ≡ true
  ended_row a there all_roles here objects actions graphs count lo la lg lc =
      let inside = unwrap_or a.internal 0 in
      let outside = unwrap_or a.interface 0 in
      let c : Counts =
      record { objects = objects; actions = actions; roles = length a.role_rows; internal = count inside; interface = count outside } in
      let k =
      here c
      (record { of_objects = lo; of_actions = la; of_roles = omega (arith, all_roles); of_inner = lc inside; of_outer = lc outside }) in
      and_from _ _
      (and_from _ _ (lt-ltb inside graphs (omega (arith, there.begun.0)))
      (and_from _ _ (lt-ltb outside graphs (omega (arith, there.begun.1))) k.3))
      (and_from _ _ k.2 (and_from _ _ k.4 (all_rows (nest_in_range actions (length a.role_rows) (count inside)) a.nests k.5)))

  ends_ended : (b : Block) → GraphsThere d b → ActionsFit d b → RightIn d b → EndedRight d → EndedRight (ended names d b)
  ends_ended block.Top there fits here h = h
  ends_ended (block.Graph g) there fits here h = λ objects actions graphs count lo la lg lc.
      let n : length (d.graphs ++ g ∷ []) ≡ length d.graphs + 1 = length-append d.graphs (g ∷ []) in
      let m : length (d.graphs ++ g ∷ []) ≤ graphs = lg in
      h objects actions graphs count lo la (omega arith) (λ i.
      let more = grown d.graphs g i in
      let most : length (exceptions_at (d.graphs ++ g ∷ []) i) ≤ count i = lc i in
      omega arith)
  ends_ended (block.Action a) there fits here h = λ objects actions graphs count lo la lg lc.
      let row = row_of names a in
      let n : length (d.actions ++ row ∷ []) ≡ length d.actions + 1 = length-append d.actions _ in
      let m : length (d.actions ++ row ∷ []) ≤ actions = la in
      let few : length d.actions ≤ actions = omega arith in
      all_push (action_right objects actions graphs count) d.actions row (h objects actions graphs count lo few lg lc)
      (ended_row a there fits.1.all_roles here objects actions graphs count lo few lg lc)

  begins_ended : (f : Form) → EndedRight d → EndedRight (declared_with names d f)
  begins_ended (form.Object name v) h = λ objects actions graphs count lo la lg lc.
      let n : length (d.objects ++ name ∷ []) ≡ length d.objects + 1 = length-append d.objects (name ∷ []) in
      let m : length (d.objects ++ name ∷ []) ≤ objects = lo in
      h objects actions graphs count (omega arith) la lg lc
  begins_ended f h = h

-- ---- objects, drills and watches

abbrev pub is_valued : ObjectRow → Bool
is_valued row = is_value row.initial

abbrev pub drill_below : ℕ → Drill → Bool
drill_below objects drill = nat_lt drill.object objects

-- the values of the objects are in range, and drills and watches are of objects that are there
pub record ObjectsRight (objects : List ℕ) (rows : List ObjectRow) (drills : List Drill) (watches : List ℕ) : Type 0 where
  pub valued : list_all is_valued rows ≡ true
  pub drilled : (many : ℕ) → length objects ≤ many → list_all (drill_below many) drills ≡ true
  pub watched : (many : ℕ) → length objects ≤ many → all_below many watches ≡ true

abbrev pub OutsideRight : Declared → Type 0
OutsideRight d = ObjectsRight d.objects d.object_rows d.drills d.watches

module _ (names : List (List ℕ)) (d : Declared) where
  says_outside : (f : Form) → is_sound names f ≡ true → NoneAtTop d f → OutsideRight d → OutsideRight (declared_with names d f)
  says_outside (form.Object name v) sound none h =
      let n : length (d.objects ++ name ∷ []) ≡ length d.objects + 1 = length-append d.objects (name ∷ []) in
      record {
        valued = all_push is_valued d.object_rows _ h.valued (value_second _ v _ (parts_sound names (form.Object name v) sound));
        drilled = λ many l. h.drilled many (omega (arith, l));
        watched = λ many l. h.watched many (omega (arith, l));
      }
  says_outside (form.Drill object nth) sound none h =
      let a = one_known (is_among d.objects object) (known_at_top d (form.Drill object nth) none) in
      record {
        valued = h.valued;
        drilled =
            λ many l. all_push (drill_below many) d.drills _ (h.drilled many l)
            (still_below (index_of object d.objects) (length d.objects) many a l);
        watched = h.watched;
      }
  says_outside (form.Watch object) sound none h =
      let a = one_known (is_among d.objects object) (known_at_top d (form.Watch object) none) in
      record {
        valued = h.valued;
        drilled = h.drilled;
        watched =
            λ many l. all_push (λ n. nat_lt n many) d.watches _ (h.watched many l)
            (still_below (index_of object d.objects) (length d.objects) many a l);
      }
  says_outside f sound none h = h

  ends_outside : (b : Block) → OutsideRight d → OutsideRight (ended names d b)
  ends_outside block.Top h = h
  ends_outside (block.Graph g) h = h
  ends_outside (block.Action a) h = h

-- ---- all of it

pub record AreInRange (d : Declared) (b : Block) : Type 0 where
  pub there : GraphsThere d b
  pub fits : ActionsFit d b
  pub open_right : RightIn d b
  pub ended_right : EndedRight d
  pub outside_right : OutsideRight d

module _ (names : List (List ℕ)) (d : Declared) where
  begins_right : (f : Form) → GraphsThere d block.Top → RightIn (declared_with names d f) (block_begun d f)
  begins_right (form.Action name) there = λ c b.
      let one = plain_one d.graphs there.plain in
      let m : length (exceptions_at d.graphs 0) ≤ c.internal = b.of_inner in
      (refl, refl, refl, lt-ltb 0 c.internal (omega arith), refl, refl)
  begins_right f there = tt

pub ranges_kept : (names : List (List ℕ)) → IsKept names AreInRange
ranges_kept names =
    let there = there_kept names in
    let fits = fits_kept names in
    record {
      at_top = λ d f sound none h. record {
        there = there.at_top d f sound none h.there;
        fits = fits.at_top d f sound none h.fits;
        open_right = begins_right names d f h.there;
        ended_right = begins_ended names d f h.ended_right;
        outside_right = says_outside names d f sound none h.outside_right;
      };
      in_graph =
          λ d g f sound none h. record {
            there = there.in_graph d g f sound none h.there;
            fits = h.fits;
            open_right = tt;
            ended_right = h.ended_right;
            outside_right = h.outside_right;
          };
      in_action = λ d a f sound none shut h. record {
        there = there.in_action d a f sound none shut h.there;
        fits = fits.in_action d a f sound none shut h.fits;
        open_right = says_open names d a h.there h.open_right f sound none;
        ended_right = h.ended_right;
        outside_right = h.outside_right;
      };
      closes = λ d a h. record {
        there = there.closes d a h.there;
        fits = fits.closes d a h.fits;
        open_right = closed_right d a verdict.Done (λ c b. refl) h.open_right;
        ended_right = h.ended_right;
        outside_right = h.outside_right;
      };
      ends = λ d b none h. record {
        there = there.ends d b none h.there;
        fits = fits.ends d b none h.fits;
        open_right = tt;
        ended_right = ends_ended names d b h.there h.fits h.open_right h.ended_right;
        outside_right = ends_outside names d b h.outside_right;
      };
    }

-- before the first line
pub in_range_at_first : (universal : ℕ) → AreInRange (nothing_declared universal) block.Top
in_range_at_first universal = record {
  there = there_at_first universal;
  fits = (refl, tt);
  open_right = tt;
  ended_right = λ objects actions graphs count lo la lg lc. refl;
  outside_right = record { valued = refl; drilled = λ many l. refl; watched = λ many l. refl };
}
