-- In the actions of an accepted script each role enters just the uses that it fills.
use Rattle.std.proofs.Common.{◌≡◌, ℕ, Bool, true, List}
use Rattle.std.specs.List.{list_all}
use Rattle.std.proofs.lemmas.Bool.{not-false}
use Rattle.place_plan.specs.declared.drafts.draft_rows.ActionRow.{ActionRow}
use Rattle.place_plan.specs.Drafts.DraftRules.{roles_enter}
use Rattle.action_script.specs.declared.forms.form.Form.{Form}
use Rattle.action_script.specs.declared.forms.form.Form.TheVariants as form
use Rattle.script_checker.specs.declared.declared.Declared.{Declared}
use Rattle.script_checker.specs.declared.declared.Block.{Block}
use Rattle.script_checker.specs.declared.declared.Block.TheVariants as block
use Rattle.script_checker.specs.AtTop.{declared_with}
use Rattle.script_checker.specs.InAction.{row_of}
use Rattle.script_checker.specs.After.{ended}
use Rattle.script_checker.specs.Compiled.{HasNone}
use Rattle.script_checker.proofs.Accepted.{IsKept, entered}
use Rattle.script_checker.proofs.ListsChange.{all_push}

abbrev pub enters : ActionRow → Bool
enters action = roles_enter action.nests 0 action.roles

abbrev pub AllEnter : Declared → Block → Type 0
AllEnter d b = list_all enters d.actions ≡ true

module _ (names : List (List ℕ)) (d : Declared) where
  says_enter : (f : Form) → list_all enters d.actions ≡ true → list_all enters (declared_with names d f).actions ≡ true
  says_enter (form.Action name) h = h
  says_enter f h = h

  ends_enter : (b : Block) → HasNone (record { declared = d; block = b }) form.End → list_all enters d.actions ≡ true
      → list_all enters (ended names d b).actions ≡ true
  ends_enter (block.Action a) none h = all_push enters d.actions (row_of names a) h (not-false _ (entered d a form.End none))
  ends_enter b none h = h

pub enters_kept : (names : List (List ℕ)) → IsKept names AllEnter
enters_kept names = record {
  at_top = λ d f sound none h. says_enter names d f h;
  in_graph = λ d g f sound none h. h;
  in_action = λ d a f sound none shut h. h;
  closes = λ d a h. h;
  ends = λ d b none h. ends_enter names d b none h;
}
