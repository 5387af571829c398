-- What an accepted action nests was declared before it.
use Rattle.std.proofs.Common.{◌≡◌, ℕ, suc, ◌+◌, true, List, [], ◌∷◌, ◌++◌, length, refl, sym, subst, arith}
use Rattle.std.specs.List.{list_all}
use Rattle.std.proofs.lemmas.Bool.{and_parts}
use Rattle.place_plan.specs.declared.drafts.draft_rows.ActionRow.{ActionRow}
use Rattle.place_plan.specs.declared.drafts.draft_rows.NestRow.{NestRow}
use Rattle.place_plan.specs.Drafts.DraftRules.{all_below, nests_below}
use Rattle.action_script.specs.declared.forms.form.Form.{Form}
use Rattle.action_script.specs.declared.forms.form.Form.TheVariants as form
use Rattle.script_checker.specs.declared.declared.Declared.{Declared}
use Rattle.script_checker.specs.declared.declared.Block.{Block}
use Rattle.script_checker.specs.declared.declared.Block.TheVariants as block
use Rattle.script_checker.specs.AtTop.{declared_with}
use Rattle.script_checker.specs.InAction.{row_of}
use Rattle.script_checker.specs.After.{ended}
use Rattle.script_checker.proofs.Accepted.{IsKept}
use Rattle.script_checker.proofs.ListsChange.{all_rows}
use Rattle.script_checker.proofs.NestsKept.{Pass, pass_kept}
use Rattle.script_checker.proofs.NestTests.{uses_there, there_test}

abbrev pub IsInOrder : Declared → Block → Type 0
IsInOrder d b = Pass uses_there there_test d b × (nests_below 0 d.actions ≡ true)

below_push : (n m : ℕ) (actions : List ActionRow) (action : ActionRow) → n + length actions ≡ m → nests_below n actions ≡ true
    → list_all (λ (nest : NestRow). all_below m nest.actions) action.nests ≡ true → nests_below n (actions ++ action ∷ []) ≡ true
below_push n m [] action e h k =
    let same : n ≡ m = omega arith in
    rw (subst (λ (m : ℕ). list_all (λ (nest : NestRow). all_below m nest.actions) action.nests ≡ true) (sym same) k) refl
below_push n m (a ∷ actions) action e h k =
    let p = and_parts (list_all (λ (nest : NestRow). all_below n nest.actions) a.nests) (nests_below (suc n) actions) h in
    rw (p.0, below_push (suc n) m actions action (omega arith) p.1 k) refl

module _ (names : List (List ℕ)) (d : Declared) where
  says_order : (f : Form) → nests_below 0 d.actions ≡ true → nests_below 0 (declared_with names d f).actions ≡ true
  says_order (form.Action name) h = h
  says_order f h = h

  ends_order : (b : Block) → IsInOrder d b → nests_below 0 (ended names d b).actions ≡ true
  ends_order (block.Action a) h =
      below_push 0 (length d.actions) d.actions (row_of names a) (omega arith) h.1 (all_rows (uses_there d.actions d.graphs) a.nests h.0.1)
  ends_order block.Top h = h.1
  ends_order (block.Graph g) h = h.1

pub order_kept : (names : List (List ℕ)) → IsKept names IsInOrder
order_kept names =
    let there = pass_kept uses_there there_test names in
    record {
      at_top = λ d f sound none h. (there.at_top d f sound none h.0, says_order names d f h.1);
      in_graph = λ d g f sound none h. h;
      in_action = λ d a f sound none shut h. (there.in_action d a f sound none shut h.0, h.1);
      closes = λ d a h. (there.closes d a h.0, h.1);
      ends = λ d b none h. (there.ends d b none h.0, ends_order names d b h);
    }
