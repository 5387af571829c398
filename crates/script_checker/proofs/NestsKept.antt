-- What each nested use of an accepted script keeps, by the actions and graphs that are there.
use Rattle.std.proofs.Common.{◌≡◌, ℕ, Bool, true, List, [], ◌∷◌, ◌++◌, slice_set, Option, Some, None, refl}
use Rattle.std.specs.List.{list_all}
use Rattle.caa_base.specs.Written.Lists.{index_of}
use Rattle.caa_base.specs.declared.written.entry.Verdict.{Verdict}
use Rattle.caa_base.specs.declared.written.entry.Verdict.TheVariants as verdict
use Rattle.place_plan.specs.declared.drafts.draft_rows.ActionRow.{ActionRow}
use Rattle.place_plan.specs.declared.drafts.draft_rows.NestRow.{NestRow}
use Rattle.place_plan.specs.Plans.Places.{no_nest}
use Rattle.action_script.specs.declared.forms.form.Form.{Form}
use Rattle.action_script.specs.declared.forms.form.Form.TheVariants as form
use Rattle.script_checker.specs.declared.declared.Declared.{Declared}
use Rattle.script_checker.specs.declared.declared.Block.{Block}
use Rattle.script_checker.specs.declared.declared.Block.TheVariants as block
use Rattle.script_checker.specs.declared.open_graph.DeclaredGraph.{DeclaredGraph}
use Rattle.script_checker.specs.declared.open_action.OpenAction.{OpenAction}
use Rattle.script_checker.specs.declared.open_action.OpenNest.{OpenNest}
use Rattle.script_checker.specs.declared.open_action.OpenProgram.{OpenProgram}
use Rattle.script_checker.specs.DeclaredSoFar.{begun_nest, nest_of}
use Rattle.script_checker.specs.AtTop.{declared_with, block_begun}
use Rattle.script_checker.specs.InAction.{closed_if, action_with, with_nest, nest_said, row_of}
use Rattle.script_checker.specs.After.{ended}
use Rattle.caa_base.proofs.ListLemmas.{all_imply}
use Rattle.script_checker.proofs.Accepted.{IsKept, NoneInAction}
use Rattle.script_checker.proofs.ListsChange.{all_push, all_set, all_rows}

-- a test of nested uses that each line of one keeps, and that more actions and graphs keep
pub record IsNestTest (test : List ActionRow → List DeclaredGraph → NestRow → Bool) : Type 0 where
  pub nested : (names : List (List ℕ)) (d : Declared) (a : OpenAction) (nest action : ℕ) (roles : List ℕ)
      → NoneInAction d a (form.Nest nest action roles) → test d.actions d.graphs (nest_said names d a nest action roles) ≡ true
  pub mapped : (actions : List ActionRow) (graphs : List DeclaredGraph) (row : NestRow) (i x : ℕ)
      → test actions graphs row ≡ true → test actions graphs (record row { maps = slice_set row.maps i x }) ≡ true
  pub undone : (actions : List ActionRow) (graphs : List DeclaredGraph) (row : NestRow) (x : ℕ) → test actions graphs row ≡ true
      → test actions graphs (record row { undo = x }) ≡ true
  pub failed : (actions : List ActionRow) (graphs : List DeclaredGraph) (row : NestRow) (x : ℕ) → test actions graphs row ≡ true
      → test actions graphs (record row { failure = x }) ≡ true
  pub alternated : (d : Declared) (a : OpenAction) (nest action : ℕ) → NoneInAction d a (form.Alternate nest action)
      → test d.actions d.graphs (nest_of a nest).row ≡ true
      → test d.actions d.graphs
      (record (nest_of a nest).row { actions = (nest_of a nest).row.actions ++ index_of action d.action_names ∷ [] }) ≡ true
  pub one_action : (actions : List ActionRow) (graphs : List DeclaredGraph) (action : ActionRow) (row : NestRow)
      → test actions graphs row ≡ true → test (actions ++ action ∷ []) graphs row ≡ true
  pub one_graph : (actions : List ActionRow) (graphs : List DeclaredGraph) (graph : DeclaredGraph) (row : NestRow)
      → test actions graphs row ≡ true → test actions (graphs ++ graph ∷ []) row ≡ true

module _ (test : List ActionRow → List DeclaredGraph → NestRow → Bool) (is_test : IsNestTest test) where
  -- all uses of an action pass
  abbrev pub ends_well : List ActionRow → List DeclaredGraph → ActionRow → Bool
  ends_well actions graphs action = list_all (test actions graphs) action.nests

  -- those of the action that is being declared pass
  abbrev OpenPass : Declared → Block → Type 0
  OpenPass d (block.Action a) = list_all (λ (nest : OpenNest). test d.actions d.graphs nest.row) a.nests ≡ true
  OpenPass d b = Unit {0}

  -- and those of the actions that have ended
  abbrev pub Pass : Declared → Block → Type 0
  Pass d b = (list_all (ends_well d.actions d.graphs) d.actions ≡ true) × OpenPass d b

  closed_pass : (d : Declared) (a : OpenAction) (v : Verdict) (o : Option OpenProgram) → OpenPass d (block.Action a)
      → OpenPass d (block.Action (closed_if a o v))
  closed_pass d a v None h = h
  closed_pass d a v (Some p) h = h

  module _ (names : List (List ℕ)) (d : Declared) where
    says_pass : (f : Form) → Pass d block.Top → Pass (declared_with names d f) (block_begun d f)
    says_pass (form.Action name) h = (h.0, refl)
    says_pass f h = h

    nest_changes : (a : OpenAction) (name : ℕ) (nest : OpenNest) → OpenPass d (block.Action a)
        → (test d.actions d.graphs (nest_of a name).row ≡ true → test d.actions d.graphs nest.row ≡ true)
        → OpenPass d (block.Action (with_nest a name nest))
    nest_changes a name nest h keeps =
        all_set (λ (nest : OpenNest). test d.actions d.graphs nest.row) a.nests (index_of name a.nest_names) (begun_nest no_nest) nest
        keeps h

    acts_pass : (a : OpenAction) (f : Form) → NoneInAction d a f → OpenPass d (block.Action a)
        → OpenPass d (block.Action (action_with names d a f))
    acts_pass a (form.Nest nest action roles) none h =
        all_push (λ (nest : OpenNest). test d.actions d.graphs nest.row) a.nests _ h (is_test.nested names d a nest action roles none)
    acts_pass a (form.Map nest lower upper) none h = nest_changes a nest _ h (is_test.mapped d.actions d.graphs (nest_of a nest).row _ _)
    acts_pass a (form.MapUndo nest x) none h = nest_changes a nest _ h (is_test.undone d.actions d.graphs (nest_of a nest).row _)
    acts_pass a (form.MapFailure nest x) none h = nest_changes a nest _ h (is_test.failed d.actions d.graphs (nest_of a nest).row _)
    acts_pass a (form.Alternate nest action) none h = nest_changes a nest _ h (is_test.alternated d a nest action none)
    acts_pass a form.DoneLine none h = closed_pass d a _ a.program h
    acts_pass a (form.SignalLine x) none h = closed_pass d a _ a.program h
    acts_pass a form.UndoLine none h = closed_pass d a _ a.program h
    acts_pass a f none h = h

    ends_pass : (b : Block) → Pass d b → Pass (ended names d b) block.Top
    ends_pass block.Top h = h
    ends_pass (block.Graph g) h = (
      all_imply (ends_well d.actions d.graphs) (ends_well d.actions (d.graphs ++ g ∷ [])) d.actions
          (λ action k. all_imply (test d.actions d.graphs) (test d.actions (d.graphs ++ g ∷ [])) action.nests
          (is_test.one_graph d.actions d.graphs g) k)
          h.0,
      tt,
    )
    ends_pass (block.Action a) h =
        let row = row_of names a in
        let more = all_imply (test d.actions d.graphs) (test (d.actions ++ row ∷ []) d.graphs) in (
          all_push (ends_well (d.actions ++ row ∷ []) d.graphs) d.actions row
              (all_imply (ends_well d.actions d.graphs) (ends_well (d.actions ++ row ∷ []) d.graphs) d.actions
              (λ action k. more action.nests (is_test.one_action d.actions d.graphs row) k) h.0)
              (more row.nests (is_test.one_action d.actions d.graphs row) (all_rows (test d.actions d.graphs) a.nests h.1)),
          tt,
        )

  pub pass_kept : (names : List (List ℕ)) → IsKept names Pass
  pass_kept names = record {
    at_top = λ d f sound none h. says_pass names d f h;
    in_graph = λ d g f sound none h. h;
    in_action = λ d a f sound none shut h. (h.0, acts_pass names d a f none h.1);
    closes = λ d a h. (h.0, closed_pass d a verdict.Done a.program h.1);
    ends = λ d b none h. ends_pass names d b h;
  }
