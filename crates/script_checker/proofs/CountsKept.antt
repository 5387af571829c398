-- An accepted script declares no more parts than the limits allow.
use Rattle.std.proofs.Common.{◌≡◌, ℕ, suc, ◌+◌, ◌<◌, ◌≤◌, nat_le, false, List, [], ◌∷◌, ◌++◌, length, refl, arith, length-append}
use Rattle.std.proofs.lemmas.Bool.{leb-false}
use Rattle.action_script.specs.declared.forms.form.Form.{Form}
use Rattle.action_script.specs.declared.forms.form.Form.TheVariants as form
use Rattle.script_checker.specs.declared.declared.Declared.{Declared}
use Rattle.script_checker.specs.declared.declared.Block.{Block}
use Rattle.script_checker.specs.declared.declared.Block.TheVariants as block
use Rattle.script_checker.specs.DeclaredSoFar.{nothing_declared}
use Rattle.script_checker.specs.AtTop.{past_limit_at_top, declared_with, block_begun}
use Rattle.script_checker.specs.InAction.{row_of}
use Rattle.script_checker.specs.After.{ended}
use Rattle.script_checker.proofs.Accepted.{IsKept, within_at_top}
use Rattle.caa_base.specs.Written.Limits.{most_participants, most_objects, most_drills, most_watches, most_graphs, most_actions}

-- ---- one list more

-- a member more, where there were fewer than the most
pub few_more : {A : Type 0} (most : ℕ) (xs : List A) (x : A) → nat_le most (length xs) ≡ false → length (xs ++ x ∷ []) ≤ most
few_more most xs x e =
    let l : length xs < most = leb-false most (length xs) e in
    let n : length (xs ++ x ∷ []) ≡ length xs + 1 = length-append xs (x ∷ []) in
    omega arith

same_more : {A B : Type 0} (xs : List A) (ys : List B) (x : A) (y : B) → length xs ≡ length ys
    → length (xs ++ x ∷ []) ≡ length (ys ++ y ∷ [])
same_more xs ys x y e =
    let m : length (xs ++ x ∷ []) ≡ length xs + 1 = length-append xs (x ∷ []) in
    let n : length (ys ++ y ∷ []) ≡ length ys + 1 = length-append ys (y ∷ []) in
    omega arith

-- ---- participants, objects, drills and watches

-- as many rows as names, and not too many
abbrev pub FewParticipants : Declared → Type 0
FewParticipants d = (length d.participant_rows ≡ length d.participants) × (length d.participants ≤ most_participants)

abbrev pub FewObjects : Declared → Type 0
FewObjects d = (length d.object_rows ≡ length d.objects) × (length d.objects ≤ most_objects)

abbrev pub FewDrills : Declared → Type 0
FewDrills d = length d.drills ≤ most_drills

abbrev pub FewWatches : Declared → Type 0
FewWatches d = length d.watches ≤ most_watches

-- graphs and actions that have begun, and how many of these have ended
abbrev pub open_graphs : Block → ℕ
open_graphs (block.Graph g) = 1
open_graphs _ = 0

abbrev open_actions : Block → ℕ
open_actions (block.Action a) = 1
open_actions _ = 0

abbrev pub FewGraphs : Declared → ℕ → Type 0
FewGraphs d begun = (length d.graphs + begun ≤ suc (length d.graph_names)) × (length d.graph_names ≤ most_graphs)

abbrev pub FewActions : Declared → ℕ → Type 0
FewActions d begun = (length d.actions + begun ≤ length d.action_names) × (length d.action_names ≤ most_actions)

module _ (names : List (List ℕ)) (d : Declared) where
  says_participants : (f : Form) → past_limit_at_top d f ≡ false → FewParticipants d → FewParticipants (declared_with names d f)
  says_participants (form.Participant name) w h =
      (same_more d.participant_rows d.participants _ name h.0, few_more most_participants d.participants name w)
  says_participants f w h = h

  says_objects : (f : Form) → past_limit_at_top d f ≡ false → FewObjects d → FewObjects (declared_with names d f)
  says_objects (form.Object name value) w h = (same_more d.object_rows d.objects _ name h.0, few_more most_objects d.objects name w)
  says_objects f w h = h

  says_drills : (f : Form) → past_limit_at_top d f ≡ false → FewDrills d → FewDrills (declared_with names d f)
  says_drills (form.Drill object nth) w h = few_more most_drills d.drills _ w
  says_drills f w h = h

  says_watches : (f : Form) → past_limit_at_top d f ≡ false → FewWatches d → FewWatches (declared_with names d f)
  says_watches (form.Watch object) w h = few_more most_watches d.watches _ w
  says_watches f w h = h

  -- ---- graphs and actions

  says_graphs : (f : Form) → past_limit_at_top d f ≡ false → FewGraphs d 0
      → FewGraphs (declared_with names d f) (open_graphs (block_begun d f))
  says_graphs (form.Graph name) w h =
      let n : length (d.graph_names ++ name ∷ []) ≡ length d.graph_names + 1 = length-append d.graph_names _ in
      (omega (arith, h.0), few_more most_graphs d.graph_names name w)
  says_graphs f w h = h

  says_actions : (f : Form) → past_limit_at_top d f ≡ false → FewActions d 0
      → FewActions (declared_with names d f) (open_actions (block_begun d f))
  says_actions (form.Action name) w h =
      let n : length (d.action_names ++ name ∷ []) ≡ length d.action_names + 1 = length-append d.action_names _ in
      (omega (arith, h.0), few_more most_actions d.action_names name w)
  says_actions f w h = h

-- ---- all counts

pub record AreFew (d : Declared) (in_graph in_action : ℕ) : Type 0 where
  pub participants : FewParticipants d
  pub objects : FewObjects d
  pub drills : FewDrills d
  pub watches : FewWatches d
  pub graphs : FewGraphs d in_graph
  pub actions : FewActions d in_action

abbrev pub AreCountsFew : Declared → Block → Type 0
AreCountsFew d b = AreFew d (open_graphs b) (open_actions b)

ends_few : (names : List (List ℕ)) (d : Declared) (b : Block) → AreCountsFew d b → AreFew (ended names d b) 0 0
ends_few names d block.Top h = h
ends_few names d (block.Graph g) h =
    let n : length (d.graphs ++ g ∷ []) ≡ length d.graphs + 1 = length-append d.graphs _ in
    let graphs : FewGraphs (ended names d (block.Graph g)) 0 = (omega (arith, h.graphs.0), h.graphs.1) in
    record {
      participants = h.participants;
      objects = h.objects;
      drills = h.drills;
      watches = h.watches;
      graphs = graphs;
      actions = h.actions;
    }
ends_few names d (block.Action a) h =
    let n : length (d.actions ++ row_of names a ∷ []) ≡ length d.actions + 1 = length-append d.actions _ in
    let actions : FewActions (ended names d (block.Action a)) 0 = (omega (arith, h.actions.0), h.actions.1) in
    record {
      participants = h.participants;
      objects = h.objects;
      drills = h.drills;
      watches = h.watches;
      graphs = h.graphs;
      actions = actions;
    }

pub counts_kept : (names : List (List ℕ)) → IsKept names AreCountsFew
counts_kept names = record {
  at_top = λ d f sound none h.
      let w = within_at_top d f none in
      record {
        participants = says_participants names d f w h.participants;
        objects = says_objects names d f w h.objects;
        drills = says_drills names d f w h.drills;
        watches = says_watches names d f w h.watches;
        graphs = says_graphs names d f w h.graphs;
        actions = says_actions names d f w h.actions;
      };
  in_graph = λ d g f sound none h. h;
  in_action = λ d a f sound none shut h. h;
  closes = λ d a h. h;
  ends = λ d b none h. ends_few names d b h;
}

pub few_at_first : (universal : ℕ) → AreFew (nothing_declared universal) 0 0
few_at_first universal =
    record {
      participants = (refl, omega arith);
      objects = (refl, omega arith);
      drills = omega arith;
      watches = omega arith;
      graphs = (omega arith, omega arith);
      actions = (omega arith, omega arith);
    }
