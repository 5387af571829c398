-- What is kept of the names is that of what the checks have declared, line by line.
use Rattle.std.proofs.Common.{◌≡◌, ℕ, Bool, true, false, List, [], ◌∷◌, ◌++◌, map, set, Option, Some, None, refl, sym, ap, ◌∙◌}
use Rattle.std.proofs.lemmas.List.{map-append, map-set}
use lib.Seq.{map-set_same}
use lib.ListN.{get_or-map as map_index}
use Rattle.caa_base.specs.Written.Lists.{index_of, first_of}
use Rattle.caa_base.specs.declared.written.entry.Verdict.{Verdict}
use Rattle.caa_base.specs.declared.written.entry.Verdict.TheVariants as verdict
use Rattle.place_plan.specs.Plans.Places.{no_nest}
use Rattle.place_plan.specs.declared.drafts.draft_rows.ActionRow.{ActionRow}
use Rattle.action_script.specs.declared.forms.form.Form.{Form}
use Rattle.action_script.specs.declared.forms.form.Form.TheVariants as form
use Rattle.script_checker.specs.declared.declared.SoFar.{SoFar}
use Rattle.script_checker.specs.declared.declared.Declared.{Declared}
use Rattle.script_checker.specs.declared.declared.Block.{Block}
use Rattle.script_checker.specs.declared.declared.Block.TheVariants as block
use Rattle.script_checker.specs.declared.open_graph.DeclaredGraph.{DeclaredGraph}
use Rattle.script_checker.specs.declared.open_action.OpenAction.{OpenAction}
use Rattle.script_checker.specs.declared.open_action.OpenNest.{OpenNest}
use Rattle.script_checker.specs.declared.open_action.OpenProgram.{OpenProgram}
use Rattle.script_checker.specs.declared.open_action.Carried.{Carried}
use Rattle.script_checker.specs.declared.open_action.Carried.TheVariants as what
use Rattle.script_checker.specs.DeclaredSoFar.{begun_nest, nest_of, inner, outer, face}
use Rattle.script_checker.specs.InAction.{goes_on, closed_if, carried, alternated, with_nest, nest_said, action_with, row_of}
use Rattle.script_checker.specs.After.{settled_block, settled, said_in as said_by_checks, after}
use Rattle.name_uses.specs.declared.scope.Inside.TheVariants as inside
use Rattle.name_uses.specs.declared.scope.OpenNames.{OpenNames}
use Rattle.name_uses.specs.inner.Scopes.{names_of_action, inside_of, scope_of, said_in_action, said_in, said, first_with, firsts_with}

-- the first action of a nested use
abbrev pub first_action : OpenNest → Option ℕ
first_action nest = first_of nest.row.actions

-- ---- nested uses

-- what is carried out of a use says nothing of its first action
carried_first : (nest : OpenNest) (w : Carried) (e : ℕ) → first_action (carried nest w e) ≡ first_action nest
carried_first nest (what.Exception lower) e = refl
carried_first nest what.Undo e = refl
carried_first nest what.Failure e = refl

mapped_firsts : (a : OpenAction) (name : ℕ) (w : Carried) (e : ℕ)
    → map first_action (with_nest a name (carried (nest_of a name) w e)).nests ≡ map first_action a.nests
mapped_firsts a name w e =
    map-set_same first_action a.nests (index_of name a.nest_names) (carried (nest_of a name) w e) (begun_nest no_nest)
    (carried_first (nest_of a name) w e)

-- a further action stands behind the first
first_of-more : (actions : List ℕ) (k : ℕ) → first_of (actions ++ k ∷ []) ≡ first_with (first_of actions) k
first_of-more [] k = refl
first_of-more (x ∷ xs) k = refl

alternated_firsts : (a : OpenAction) (name k : ℕ) → firsts_with (map first_action a.nests) (index_of name a.nest_names) k
    ≡ map first_action (with_nest a name (alternated (nest_of a name) k)).nests
alternated_firsts a name k =
    let i = index_of name a.nest_names in
    let firsts = map first_action a.nests in
    ap (λ first. set firsts i (first_with first k)) (map_index first_action a.nests i (begun_nest no_nest))
    ∙ ap (λ first. set firsts i first) (sym (first_of-more (nest_of a name).row.actions k))
    ∙ sym (map-set first_action a.nests i (alternated (nest_of a name) k))

-- ---- actions

-- a body or handler that ends says nothing of names
pub closed_names : (a : OpenAction) (p : Option OpenProgram) (v : Verdict) → names_of_action (closed_if a p v) ≡ names_of_action a
closed_names a None v = refl
closed_names a (Some p) v = refl

-- the names of an action with other uses
abbrev with_firsts : OpenAction → List (Option ℕ) → OpenNames
with_firsts a firsts = record (names_of_action a) { firsts = firsts }

-- a line of an action
action_step : (names : List (List ℕ)) (d : Declared) (a : OpenAction) (f : Form)
    → said_in_action d.graph_names d.action_names (names_of_action a) f ≡ names_of_action (action_with names d a f)
action_step names d a (form.Nest nest action roles) =
    ap (λ firsts. record (names_of_action a) { nests = a.nest_names ++ nest ∷ []; firsts = firsts })
    (sym (map-append first_action a.nests (begun_nest (nest_said names d a nest action roles) ∷ [])))
action_step names d a (form.Map nest lower upper) =
    ap (with_firsts a) (sym (mapped_firsts a nest (what.Exception (index_of lower (face d a nest))) (index_of upper (inner d a))))
action_step names d a (form.MapUndo nest exception) =
    ap (with_firsts a) (sym (mapped_firsts a nest what.Undo (index_of exception (inner d a))))
action_step names d a (form.MapFailure nest exception) =
    ap (with_firsts a) (sym (mapped_firsts a nest what.Failure (index_of exception (inner d a))))
action_step names d a (form.Alternate nest action) =
    ap (with_firsts a) (alternated_firsts a nest (index_of action d.action_names))
action_step names d a form.DoneLine = sym (closed_names a a.program verdict.Done)
action_step names d a (form.SignalLine exception) = sym (closed_names a a.program (verdict.Signal (index_of exception (outer d a))))
action_step names d a form.UndoLine = sym (closed_names a a.program verdict.Undo)
action_step names d a f = refl

-- ---- any line

-- a line in this block
block_step : (names : List (List ℕ)) (d : Declared) (b : Block) (f : Form)
    → said_in (scope_of (record { declared = d; block = b })) (inside_of b) f ≡ scope_of (said_by_checks names d b f)
block_step names d block.Top form.End = refl
block_step names d block.Top f = refl
block_step names d (block.Graph g) form.End =
    ap (λ graphs. record (scope_of (record { declared = d; block = block.Top })) { graphs = graphs })
    (sym (map-append (λ (graph : DeclaredGraph). graph.exceptions) d.graphs (g ∷ [])))
block_step names d (block.Graph g) f = refl
block_step names d (block.Action a) form.End =
    ap (λ faces. record (scope_of (record { declared = d; block = block.Top })) { faces = faces })
    (sym (map-append (λ (row : ActionRow). row.interface) d.actions (row_of names a ∷ [])))
block_step names d (block.Action a) f =
    ap (λ o. record (scope_of (record { declared = d; block = block.Top })) { inside = inside.Action o })
    (action_step names d a f)

settled_names : (steps : Bool) (b : Block) → inside_of (settled_block steps b) ≡ inside_of b
settled_names true block.Top = refl
settled_names true (block.Graph g) = refl
settled_names true (block.Action a) = refl
settled_names false block.Top = refl
settled_names false (block.Graph g) = refl
settled_names false (block.Action a) = ap inside.Action (closed_names a a.program verdict.Done)

-- a body or a handler that ends before a line says nothing of names
pub settled_scope : (s : SoFar) (f : Form) → scope_of s ≡ scope_of (settled s f)
settled_scope s f = ap (λ within. record (scope_of s) { inside = within }) (sym (settled_names (goes_on f) s.block))

-- what is kept after a line is that of what is declared then
pub scope_step : (names : List (List ℕ)) (s : SoFar) (f : Form) → said (scope_of s) f ≡ scope_of (after names s f)
scope_step names s f =
    ap (λ scope. said scope f) (settled_scope s f) ∙ block_step names s.declared (settled_block (goes_on f) s.block) f
