-- The names of actions, roles and nested uses of an accepted script tell these parts apart.
use Rattle.std.proofs.Common.{◌≡◌, ◌≢◌, ℕ, zero, suc, ◌<◌, true, not, List, [], ◌∷◌, ◌++◌, map, length, get_or, slice_index_or, slice_set, codes, refl, sym, ap, ◌∙◌, subst, Option, Some, None, arith}
use Rattle.std.specs.List.{All, AllPairs, flat_map}
use Rattle.std.proofs.lemmas.Bool.{and_parts, or_parts, not-false, not-true}
use Rattle.std.proofs.lemmas.List.{get_or_append_left, length-append, map-append}
use Rattle.std.proofs.lemmas.List.Elements.{All-nil, All-cons, All-push}
use Rattle.std.proofs.lemmas.List.Kept.{AllPairs-cons}
use Rattle.caa_base.specs.Written.Names.{is_name, name_at}
use Rattle.caa_base.specs.Written.Lists.{member, index_of, is_empty}
use Rattle.caa_base.specs.declared.written.entry.Verdict.{Verdict}
use Rattle.caa_base.specs.declared.written.entry.Verdict.TheVariants as verdict
use Rattle.place_plan.specs.declared.drafts.draft_rows.ActionRow.{ActionRow}
use Rattle.place_plan.specs.declared.drafts.draft_rows.RoleRow.{RoleRow}
use Rattle.place_plan.specs.declared.drafts.draft_rows.NestRow.{NestRow}
use Rattle.place_plan.specs.declared.drafts.draft_rows.Program.{Program}
use Rattle.place_plan.specs.Plans.PlanValue.{Plan}
use Rattle.place_plan.specs.Plans.Places.{no_role, no_nest}
use Rattle.place_plan.specs.Plans.OwnNames.{AreOwnNames, NamesParts, HasOwnParts}
use Rattle.place_plan.specs.Drafts.DraftRules.{all_differ}
use Rattle.action_script.specs.declared.forms.form.Form.{Form}
use Rattle.action_script.specs.declared.forms.form.Form.TheVariants as form
use Rattle.action_script.specs.declared.lines.field.Field.TheVariants as field
use Rattle.action_script.specs.declared.lines.sort.Sort.TheVariants as sort
use Rattle.action_script.specs.Lines.Kinds.{new}
use Rattle.action_script.specs.Words.NumberedNames.{number_in}
use Rattle.action_script.specs.Forms.ScriptValue.{Script}
use Rattle.action_script.specs.Forms.Printing.{all_fit, is_sound, forms_of, form_names, AreScript}
use Rattle.action_script.proofs.OnForms.Fits.{AreNumbered}
use Rattle.action_script.proofs.OnForms.Numbered.{numbered-with_names, numbered-none}
use Rattle.script_checker.specs.declared.declared.Declared.{Declared}
use Rattle.script_checker.specs.declared.declared.Block.{Block}
use Rattle.script_checker.specs.declared.declared.Block.TheVariants as block
use Rattle.script_checker.specs.declared.open_action.OpenAction.{OpenAction}
use Rattle.script_checker.specs.declared.open_action.OpenNest.{OpenNest}
use Rattle.script_checker.specs.declared.open_action.OpenProgram.{OpenProgram}
use Rattle.script_checker.specs.DeclaredSoFar.{nothing_yet, nothing_declared, begun_nest, nest_of, nest_rows}
use Rattle.script_checker.specs.AtTop.{declared_with, block_begun}
use Rattle.script_checker.specs.InAction.{with_program, closed_if, idle_role, with_nest, action_with, row_of}
use Rattle.script_checker.specs.After.{ended}
use Rattle.script_checker.specs.Compiled.{declared_after, IsPlanOf}
use Rattle.script_checker.proofs.Accepted.{IsKept, NoneAtTop, NoneInAction, once_at_top, once, holds_after}
use Rattle.script_checker.proofs.NamesKept.{not_met, own_none, named, AreNamedBy, named_push, named_rows, first_spelled}
use Rattle.script_checker.proofs.ValuesSaid.{parts_sound}

-- ---- the names of rows

abbrev role_names : List RoleRow → List (List ℕ)
role_names rows = map (λ (row : RoleRow). row.name) rows

abbrev use_names : List OpenNest → List (List ℕ)
use_names nests = map (λ (nest : OpenNest). nest.row.name) nests

abbrev action_names : List ActionRow → List (List ℕ)
action_names rows = map (λ (row : ActionRow). row.name) rows

-- a row that changes, but for what it is seen as
set_same : {A B : Type 0} (f : A → B) (xs : List A) (i : ℕ) (d y : A) → f y ≡ f (slice_index_or xs i d)
    → map f (slice_set xs i y) ≡ map f xs
set_same f [] i d y e = refl
set_same f (x ∷ xs) zero d y e = ap (λ z. z ∷ map f xs) e
set_same f (x ∷ xs) (suc i) d y e = ap (λ zs. f x ∷ zs) (set_same f xs i d y e)

program_named : (role : RoleRow) (x : Option ℕ) (program : Program) → (with_program role x program).name ≡ role.name
program_named role None program = refl
program_named role (Some x) program = refl

idle_named : (names : List (List ℕ)) (roles : List ℕ) → role_names (map (idle_role names) roles) ≡ map (name_at names) roles
idle_named names [] = refl
idle_named names (r ∷ roles) = ap (λ (rest : List (List ℕ)). name_at names r ∷ rest) (idle_named names roles)

rows_named : (nests : List OpenNest) → map (λ (row : NestRow). row.name) (nest_rows nests) ≡ use_names nests
rows_named [] = refl
rows_named (nest ∷ nests) = ap (λ (rest : List (List ℕ)). nest.row.name ∷ rest) (rows_named nests)

-- the first of some names of their own
first_own : (xs ys : List (List ℕ)) → AreOwnNames (xs ++ ys) → AreOwnNames xs
first_own xs ys h =
    let within = λ (i : ℕ) (l : i < length xs). let l : i < length (xs ++ ys) = omega (arith, l, length-append xs ys) in l in
    record {
      spelled = λ i d l. subst (λ (name : List ℕ). is_name name ≡ true) (get_or_append_left xs ys d i l) (h.spelled i d (within i l));
      differ = λ i j d l w e.
          let v : i < length xs = omega (arith, l, w) in
          h.differ i j d l (within j w) (get_or_append_left xs ys d i v ∙ e ∙ sym (get_or_append_left xs ys d j w));
    }

-- ---- the roles that a line says

differing : (xs : List ℕ) → all_differ xs ≡ true → AllPairs (λ a b. a ≢ b) xs
differing [] h = λ i j d l w. absurd (omega arith)
differing (x ∷ xs) h =
    let parts = and_parts (not (member x xs)) (all_differ xs) h in
    AllPairs-cons (λ a b. a ≢ b) x xs
    (λ i d l e. not_met x xs i d (not-true (member x xs) parts.0) l (sym e)) (differing xs parts.1)

module _ (names : List (List ℕ)) where
  rest_spelled : (xs : List ℕ) → all_fit names [] (map field.Name xs) ≡ true → All (λ n. is_name (name_at names n) ≡ true) xs
  rest_spelled [] h = All-nil (λ n. is_name (name_at names n) ≡ true)
  rest_spelled (x ∷ xs) h =
      let parts = and_parts (is_name (name_at names x)) (all_fit names [] (map field.Name xs)) h in
      All-cons (λ n. is_name (name_at names n) ≡ true) x xs parts.0 (rest_spelled xs parts.1)

  all_spelled : (xs : List ℕ) → all_fit names (new sort.Role ∷ []) (map field.Name xs) ≡ true → All (λ n. is_name (name_at names n) ≡ true) xs
  all_spelled [] h = All-nil (λ n. is_name (name_at names n) ≡ true)
  all_spelled (x ∷ xs) h =
      let parts = and_parts (is_name (name_at names x)) (all_fit names [] (map field.Name xs)) h in
      All-cons (λ n. is_name (name_at names n) ≡ true) x xs parts.0 (rest_spelled xs parts.1)

-- ---- what each line keeps

-- the names of the actions that have ended, and that of the one that is being declared
abbrev begun_names : List (List ℕ) → List ActionRow → Block → List (List ℕ)
begun_names names rows (block.Action a) = action_names rows ++ name_at names a.name ∷ []
begun_names names rows b = action_names rows

-- they have names of their own, and so have the parts of those that have ended
record AreActionsNamed (names : List (List ℕ)) (begun : List ℕ) (rows : List ActionRow) (words : List (List ℕ)) : Type 0 where
  pub own : AreNamedBy names begun words
  pub parts : All NamesParts rows

-- the roles and the nested uses of an action have names of their own
record ArePartsNamed (names : List (List ℕ)) (roles : List ℕ) (role_words : List (List ℕ)) (nests : List ℕ)
    (nest_words : List (List ℕ)) : Type 0 where
  pub of_roles : AreNamedBy names roles role_words
  pub of_nests : AreNamedBy names nests nest_words

abbrev ActionNamed : List (List ℕ) → OpenAction → Type 0
ActionNamed names a = ArePartsNamed names a.roles (role_names a.role_rows) a.nest_names (use_names a.nests)

-- and so have those of the action that is being declared
abbrev OpenNamed : List (List ℕ) → Block → Type 0
OpenNamed names (block.Action a) = ActionNamed names a
OpenNamed names b = Unit {0}

abbrev PartsStand : List (List ℕ) → Declared → Block → Type 0
PartsStand names d b = AreActionsNamed names d.action_names d.actions (begun_names names d.actions b) × OpenNamed names b

module _ (names : List (List ℕ)) (numbered : AreNumbered names) where
  none_named : AreNamedBy names [] []
  none_named = record { own = own_none names (name_at names); same = refl }

  begins_actions : (d : Declared) (f : Form) → is_sound names f ≡ true → NoneAtTop d f
      → AreActionsNamed names d.action_names d.actions (action_names d.actions)
      → AreActionsNamed names (declared_with names d f).action_names (declared_with names d f).actions
      (begun_names names (declared_with names d f).actions (block_begun d f))
  begins_actions d (form.Action n) sound none h = record {
    own =
        named_push names numbered d.action_names (action_names d.actions) n
        (first_spelled names numbered n _ (parts_sound names (form.Action n) sound)) (once_at_top d (form.Action n) none) h.own;
    parts = h.parts;
  }
  begins_actions d f sound none h = h

  begins_named : (d : Declared) (f : Form) → OpenNamed names (block_begun d f)
  begins_named d (form.Action n) = record { of_roles = none_named; of_nests = none_named }
  begins_named d f = tt

  -- other rows of the same names
  roles_as : (a : OpenAction) (rows : List RoleRow) → role_names rows ≡ role_names a.role_rows → ActionNamed names a
      → ActionNamed names (record a { role_rows = rows })
  roles_as a rows e h = record { of_roles = subst (AreNamedBy names a.roles) (sym e) h.of_roles; of_nests = h.of_nests }

  nest_as : (a : OpenAction) (name : ℕ) (nest : OpenNest) → nest.row.name ≡ (nest_of a name).row.name → ActionNamed names a
      → ActionNamed names (with_nest a name nest)
  nest_as a name nest e h =
      let same = set_same (λ (nest : OpenNest). nest.row.name) a.nests (index_of name a.nest_names) (begun_nest no_nest) nest e in
      record { of_roles = h.of_roles; of_nests = subst (AreNamedBy names a.nest_names) (sym same) h.of_nests }

  -- a body or a handler that ends changes no name
  closed_stand : (d : Declared) (a : OpenAction) (v : Verdict) (o : Option OpenProgram) → PartsStand names d (block.Action a)
      → PartsStand names d (block.Action (closed_if a o v))
  closed_stand d a v None h = h
  closed_stand d a v (Some p) h =
      (h.0, roles_as a _ (set_same (λ (row : RoleRow). row.name) a.role_rows p.role no_role _ (program_named _ p.exception _)) h.1)

  roles_said : (a : OpenAction) (roles : List ℕ) → is_sound names (form.Roles roles) ≡ true → all_differ roles ≡ true
      → AreNamedBy names roles (role_names (map (idle_role names) roles))
  roles_said a roles sound differ =
      let spelled = all_spelled names roles (parts_sound names (form.Roles roles) sound) in
      record {
        own = record { each = λ i d l. named names numbered (get_or roles i d) (spelled i d l); differ = differing roles differ };
        same = idle_named names roles;
      }

  acts_stand : (d : Declared) (a : OpenAction) (f : Form) → is_sound names f ≡ true → NoneInAction d a f
      → PartsStand names d (block.Action a) → PartsStand names d (block.Action (action_with names d a f))
  acts_stand d a (form.Roles roles) sound none h =
      let differ = (or_parts (not (is_empty a.roles)) (not (all_differ roles)) (once d a (form.Roles roles) none)).1 in
      (h.0, record { of_roles = roles_said a roles sound (not-false (all_differ roles) differ); of_nests = h.1.of_nests })
  acts_stand d a (form.Nest nest action roles) sound none h =
      let spelled = first_spelled names numbered nest _ (parts_sound names (form.Nest nest action roles) sound) in
      let pushed =
      named_push names numbered a.nest_names (use_names a.nests) nest spelled (once d a (form.Nest nest action roles) none)
      h.1.of_nests in (
        h.0,
        record {
          of_roles = h.1.of_roles;
          of_nests =
              subst (AreNamedBy names (a.nest_names ++ nest ∷ []))
              (sym (map-append (λ (nest : OpenNest). nest.row.name) a.nests (_ ∷ []))) pushed;
        },
      )
  acts_stand d a (form.Map nest lower upper) sound none h = (h.0, nest_as a nest _ refl h.1)
  acts_stand d a (form.MapUndo nest x) sound none h = (h.0, nest_as a nest _ refl h.1)
  acts_stand d a (form.MapFailure nest x) sound none h = (h.0, nest_as a nest _ refl h.1)
  acts_stand d a (form.Alternate nest action) sound none h = (h.0, nest_as a nest _ refl h.1)
  acts_stand d a (form.Abort role x) sound none h =
      (h.0, roles_as a _ (set_same (λ (row : RoleRow). row.name) a.role_rows (index_of role a.roles) no_role _ refl) h.1)
  acts_stand d a (form.AbortTest role t v x) sound none h =
      (h.0, roles_as a _ (set_same (λ (row : RoleRow). row.name) a.role_rows (index_of role a.roles) no_role _ refl) h.1)
  acts_stand d a form.DoneLine sound none h = closed_stand d a _ a.program h
  acts_stand d a (form.SignalLine x) sound none h = closed_stand d a _ a.program h
  acts_stand d a form.UndoLine sound none h = closed_stand d a _ a.program h
  acts_stand d a f sound none h = h

  ends_stand : (d : Declared) (b : Block) → PartsStand names d b → PartsStand names (ended names d b) block.Top
  ends_stand d block.Top h = h
  ends_stand d (block.Graph g) h = (h.0, tt)
  ends_stand d (block.Action a) h = (
    record {
      own =
          subst (AreNamedBy names d.action_names) (sym (map-append (λ (row : ActionRow). row.name) d.actions (row_of names a ∷ [])))
          h.0.own;
      parts = All-push NamesParts d.actions (row_of names a) h.0.parts (record {
        roles = named_rows names a.roles (role_names a.role_rows) h.1.of_roles;
        nests = subst AreOwnNames (sym (rows_named a.nests)) (named_rows names a.nest_names (use_names a.nests) h.1.of_nests);
      });
    },
    tt,
  )

  parts_kept : IsKept names (PartsStand names)
  parts_kept = record {
    at_top = λ d f sound none h. (begins_actions d f sound none h.0, begins_named d f);
    in_graph = λ d g f sound none h. h;
    in_action = λ d a f sound none shut h. acts_stand d a f sound none h;
    closes = λ d a h. closed_stand d a verdict.Done a.program h;
    ends = λ d b none h. ends_stand d b h;
  }

  nothing_stands : PartsStand names (nothing_declared (number_in names (codes "universal"))) block.Top
  nothing_stands = (record { own = none_named; parts = All-nil NamesParts }, tt)

-- ---- the plan

-- where the actions that have begun have names of their own, so have those that have ended
ended_own : (names : List (List ℕ)) (rows : List ActionRow) (b : Block) → AreOwnNames (begun_names names rows b)
    → AreOwnNames (action_names rows)
ended_own names rows block.Top h = h
ended_own names rows (block.Graph g) h = h
ended_own names rows (block.Action a) h = first_own (action_names rows) (name_at names a.name ∷ []) h

-- an accepted script has a plan whose names tell its actions, and the roles and nested uses of each, apart
pub own_parts_of : (script : Script) (plan : Plan) → AreScript script.names (forms_of script.lines) → IsPlanOf script plan
    → HasOwnParts plan
own_parts_of script plan whole h =
    let names = script.names in
    let numbered : AreNumbered names =
    subst (λ (names : List (List ℕ)). AreNumbered names) whole.order
    (numbered-with_names [] (flat_map (form_names names) (forms_of script.lines)) numbered-none) in
    let s = declared_after names (nothing_yet names) script.lines in
    let d = s.declared in
    let stand =
    (holds_after names (PartsStand names) (parts_kept names numbered) (nothing_yet names) script.lines whole.sound h.accepted
    (nothing_stands names numbered)).0 in
    let own = ended_own names d.actions s.block (named_rows names d.action_names (begun_names names d.actions s.block) stand.own) in
    subst HasOwnParts (sym h.unfolded) (record {
      actions = subst (λ (rows : List ActionRow). AreOwnNames (action_names rows)) (sym h.declared.actions) own;
      parts = subst (λ (rows : List ActionRow). All NamesParts rows) (sym h.declared.actions) stand.parts;
    })
