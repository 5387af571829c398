-- No accepted action is too deep.
use Rattle.std.proofs.Common.{◌≡◌, ℕ, suc, zero, ◌+◌, ◌<◌, ◌≤◌, nat_lt, nat_le, Bool, true, false, List, [], ◌∷◌, ◌++◌, length, slice_index_or, Option, Some, None, refl, arith, length-append, below_more}
use Rattle.std.specs.List.{list_all}
use Rattle.std.proofs.lemmas.Bool.{and_parts, ltb-true, lt-ltb, leb-false, le-leb, and_from}
use Rattle.caa_base.specs.Written.Limits.{most_depth}
use Rattle.caa_base.specs.Written.Lists.{index_of}
use Rattle.caa_base.specs.declared.written.entry.Verdict.{Verdict}
use Rattle.caa_base.specs.declared.written.entry.Verdict.TheVariants as verdict
use Rattle.place_plan.specs.declared.drafts.draft_rows.ActionRow.{ActionRow}
use Rattle.place_plan.specs.declared.drafts.draft_rows.NestRow.{NestRow}
use Rattle.place_plan.specs.Plans.Places.{no_action, no_nest}
use Rattle.place_plan.specs.Drafts.DraftRules.{all_below, deepest_of, deepest, depth_within, depths_fit}
use Rattle.place_plan.specs.Plans.Weights.{counted, at}
use Rattle.action_script.specs.declared.forms.form.Form.{Form}
use Rattle.action_script.specs.declared.forms.form.Form.TheVariants as form
use Rattle.script_checker.specs.declared.declared.Declared.{Declared}
use Rattle.script_checker.specs.declared.declared.Block.{Block}
use Rattle.script_checker.specs.declared.declared.Block.TheVariants as block
use Rattle.script_checker.specs.declared.open_action.OpenAction.{OpenAction}
use Rattle.script_checker.specs.declared.open_action.OpenNest.{OpenNest}
use Rattle.script_checker.specs.declared.open_action.OpenProgram.{OpenProgram}
use Rattle.script_checker.specs.DeclaredSoFar.{begun_nest, nest_of}
use Rattle.script_checker.specs.AtTop.{declared_with, block_begun}
use Rattle.script_checker.specs.InAction.{closed_if, action_with, with_nest, row_of}
use Rattle.script_checker.specs.After.{ended}
use Rattle.caa_base.proofs.ListLemmas.{at_row}
use Rattle.script_checker.proofs.Accepted.{IsKept, NoneInAction, shallow}
use Rattle.script_checker.proofs.ListsChange.{all_push, all_set, all_rows}
use Rattle.script_checker.proofs.NestsKept.{Pass, pass_kept}
use Rattle.script_checker.proofs.NestTests.{same_action, uses_there, there_test}

-- ---- tables

pub at_longer : (table : List ℕ) (v a : ℕ) → a < length table → at (table ++ v ∷ []) a ≡ at table a
at_longer [] v a l = absurd (omega arith)
at_longer (x ∷ xs) v zero l = refl
at_longer (x ∷ xs) v (suc a) l = at_longer xs v a (omega arith)

pub at_last : (table : List ℕ) (v n : ℕ) → length table ≡ n → at (table ++ v ∷ []) n ≡ v
at_last [] v zero e = refl
at_last [] v (suc n) e = absurd (omega arith)
at_last (x ∷ xs) v zero e = absurd (omega arith)
at_last (x ∷ xs) v (suc n) e = at_last xs v n (omega arith)

pub action_last : (actions : List ActionRow) (more : ActionRow) (n : ℕ) → length actions ≡ n
    → slice_index_or (actions ++ more ∷ []) n no_action ≡ more
action_last [] more zero e = refl
action_last [] more (suc n) e = absurd (omega arith)
action_last (x ∷ xs) more zero e = absurd (omega arith)
action_last (x ∷ xs) more (suc n) e = action_last xs more n (omega arith)

of_longer : (table : List ℕ) (v : ℕ) (acts : List ℕ) → all_below (length table) acts ≡ true
    → deepest_of (at (table ++ v ∷ [])) acts ≡ deepest_of (at table) acts
of_longer table v [] h = refl
of_longer table v (a ∷ acts) h =
    let p = and_parts (nat_lt a (length table)) (all_below (length table) acts) h in
    rw (at_longer table v a (ltb-true _ _ p.0), of_longer table v acts p.1) refl

deepest_longer : (table : List ℕ) (v : ℕ) (nests : List NestRow)
    → list_all (λ (nest : NestRow). all_below (length table) nest.actions) nests ≡ true
    → deepest (at (table ++ v ∷ [])) nests ≡ deepest (at table) nests
deepest_longer table v [] h = refl
deepest_longer table v (nest ∷ nests) h =
    let p =
    and_parts (all_below (length table) nest.actions) (list_all (λ (nest : NestRow). all_below (length table) nest.actions) nests) h in
    rw (of_longer table v nest.actions p.0, deepest_longer table v nests p.1) refl

-- ---- what is nested isn't of the most depth

abbrev pub is_shallow : List ℕ → NestRow → Bool
is_shallow depths nest = list_all (λ a. nat_lt (at depths a) most_depth) nest.actions

of_small : (depths acts : List ℕ) → list_all (λ a. nat_lt (at depths a) most_depth) acts ≡ true → deepest_of (at depths) acts < most_depth
of_small depths [] h = omega arith
of_small depths (a ∷ acts) h =
    let p = and_parts (nat_lt (at depths a) most_depth) (list_all (λ a. nat_lt (at depths a) most_depth) acts) h in
    let here = ltb-true (at depths a) most_depth p.0 in
    let more = of_small depths acts p.1 in
    omega arith

deepest_small : (depths : List ℕ) (nests : List NestRow) → list_all (is_shallow depths) nests ≡ true
    → deepest (at depths) nests < most_depth
deepest_small depths [] h = omega arith
deepest_small depths (nest ∷ nests) h =
    let p = and_parts (is_shallow depths nest) (list_all (is_shallow depths) nests) h in
    let here = of_small depths nest.actions p.0 in
    let more = deepest_small depths nests p.1 in
    omega arith

-- ---- the depths that are counted

-- the table is above the depths of what the action nests, and within the limit
abbrev pub IsDepth : List ℕ → List ActionRow → ℕ → Type 0
IsDepth depths actions a = (suc (deepest (at depths) (slice_index_or actions a no_action).nests) ≤ at depths a) × (at depths a ≤ most_depth)

pub record DepthsTell (depths : List ℕ) (actions : List ActionRow) : Type 0 where
  pub many : length depths ≡ length actions
  pub tell : (a : ℕ) → a < length actions → IsDepth depths actions a

pub nests_there : (actions : List ActionRow) (depths : List ℕ) (a : ℕ) → length depths ≡ length actions → a < length actions
    → list_all (λ (action : ActionRow). list_all (λ (nest : NestRow). all_below (length actions) nest.actions) action.nests) actions ≡ true
    → list_all (λ (nest : NestRow). all_below (length depths) nest.actions) (slice_index_or actions a no_action).nests ≡ true
nests_there actions depths a e l h =
    rw e (at_row (λ (action : ActionRow). list_all (λ (nest : NestRow). all_below (length actions) nest.actions) action.nests)
    actions a no_action h l)

one_more : (depths : List ℕ) (actions : List ActionRow) (action : ActionRow) → DepthsTell depths actions
    → list_all (is_shallow depths) action.nests ≡ true
    → list_all (λ (nest : NestRow). all_below (length actions) nest.actions) action.nests ≡ true
    → list_all (λ (action : ActionRow). list_all (λ (nest : NestRow). all_below (length actions) nest.actions) action.nests) actions ≡ true
    → (a : ℕ) → a < length actions + 1 → IsDepth (depths ++ counted (1 + deepest (at depths) action.nests) ∷ []) (actions ++ action ∷ []) a
one_more depths actions action h flat here there =
    let v = counted (1 + deepest (at depths) action.nests) in
    let small = deepest_small depths action.nests flat in
    let is : v ≡ suc (deepest (at depths) action.nests) = omega arith in
    below_more (IsDepth (depths ++ v ∷ []) (actions ++ action ∷ [])) (length actions)
    (λ k l.
    let within : k < length depths = omega (arith, h.many) in
    rw (
      same_action actions action k l,
      at_longer depths v k within,
      deepest_longer depths v (slice_index_or actions k no_action).nests (nests_there actions depths k h.many l there),
    ) (h.tell k l))
    (rw (
      action_last actions action (length actions) refl,
      at_last depths v (length actions) h.many,
      deepest_longer depths v action.nests (rw h.many here),
    ) (omega arith, omega arith))

-- what the action that is being declared nests is shallow
abbrev ShallowIn : Declared → Block → Type 0
ShallowIn d (block.Action a) = list_all (λ (nest : OpenNest). is_shallow d.depths nest.row) a.nests ≡ true
ShallowIn d b = Unit {0}

pub record AreShallow (d : Declared) (b : Block) : Type 0 where
  pub there : Pass uses_there there_test d b
  pub depths : DepthsTell d.depths d.actions
  pub shallow_in : ShallowIn d b

closed_shallow : (d : Declared) (a : OpenAction) (v : Verdict) (o : Option OpenProgram) → ShallowIn d (block.Action a)
    → ShallowIn d (block.Action (closed_if a o v))
closed_shallow d a v None h = h
closed_shallow d a v (Some p) h = h

module _ (names : List (List ℕ)) (d : Declared) where
  begins_told : (f : Form) → DepthsTell d.depths d.actions → DepthsTell (declared_with names d f).depths (declared_with names d f).actions
  begins_told (form.Action name) h = h
  begins_told f h = h

  begins_shallow : (f : Form) → ShallowIn (declared_with names d f) (block_begun d f)
  begins_shallow (form.Action name) = refl
  begins_shallow f = tt

  nest_changes : (a : OpenAction) (name : ℕ) (nest : OpenNest) → ShallowIn d (block.Action a)
      → (is_shallow d.depths (nest_of a name).row ≡ true → is_shallow d.depths nest.row ≡ true)
      → ShallowIn d (block.Action (with_nest a name nest))
  nest_changes a name nest h keeps =
      all_set (λ (nest : OpenNest). is_shallow d.depths nest.row) a.nests (index_of name a.nest_names) (begun_nest no_nest) nest keeps h

  below_most : (depth : ℕ) → nat_le most_depth depth ≡ false → nat_lt depth most_depth ≡ true
  below_most depth e = lt-ltb depth most_depth (leb-false most_depth depth e)

  says_shallow : (a : OpenAction) (f : Form) → NoneInAction d a f → ShallowIn d (block.Action a)
      → ShallowIn d (block.Action (action_with names d a f))
  says_shallow a (form.Nest nest action roles) none h =
      all_push (λ (nest : OpenNest). is_shallow d.depths nest.row) a.nests _ h
      (and_from _ _ (below_most _ (shallow d a (form.Nest nest action roles) none)) refl)
  says_shallow a (form.Map nest lower upper) none h = nest_changes a nest _ h (λ k. k)
  says_shallow a (form.MapUndo nest x) none h = nest_changes a nest _ h (λ k. k)
  says_shallow a (form.MapFailure nest x) none h = nest_changes a nest _ h (λ k. k)
  says_shallow a (form.Alternate nest action) none h =
      nest_changes a nest _ h
      (λ k. all_push (λ n. nat_lt (at d.depths n) most_depth) (nest_of a nest).row.actions (index_of action d.action_names)
      k (below_most _ (shallow d a (form.Alternate nest action) none)))
  says_shallow a form.DoneLine none h = closed_shallow d a _ a.program h
  says_shallow a (form.SignalLine x) none h = closed_shallow d a _ a.program h
  says_shallow a form.UndoLine none h = closed_shallow d a _ a.program h
  says_shallow a f none h = h

  ends_told : (b : Block) → AreShallow d b → DepthsTell (ended names d b).depths (ended names d b).actions
  ends_told (block.Action a) h =
      let row = row_of names a in
      let v = counted (1 + deepest (at d.depths) row.nests) in
      let m : length (d.depths ++ v ∷ []) ≡ length d.depths + 1 = length-append d.depths (v ∷ []) in
      let n : length (d.actions ++ row ∷ []) ≡ length d.actions + 1 = length-append d.actions (row ∷ []) in
      record {
        many = omega (arith, h.depths.many);
        tell =
            λ k l. one_more d.depths d.actions row h.depths (all_rows (is_shallow d.depths) a.nests h.shallow_in)
            (all_rows (uses_there d.actions d.graphs) a.nests h.there.1) h.there.0 k (omega arith);
      }
  ends_told block.Top h = h.depths
  ends_told (block.Graph g) h = h.depths

pub depths_kept : (names : List (List ℕ)) → IsKept names AreShallow
depths_kept names =
    let there = pass_kept uses_there there_test names in
    record {
      at_top =
          λ d f sound none h. record {
            there = there.at_top d f sound none h.there;
            depths = begins_told names d f h.depths;
            shallow_in = begins_shallow names d f;
          };
      in_graph = λ d g f sound none h. record { there = h.there; depths = h.depths; shallow_in = tt };
      in_action =
          λ d a f sound none shut h. record {
            there = there.in_action d a f sound none shut h.there;
            depths = h.depths;
            shallow_in = says_shallow names d a f none h.shallow_in;
          };
      closes =
          λ d a h. record {
            there = there.closes d a h.there;
            depths = h.depths;
            shallow_in =
                closed_shallow d a verdict.Done a.program h.shallow_in;
          };
      ends = λ d b none h. record { there = there.ends d b none h.there; depths = ends_told names d b h; shallow_in = tt };
    }

-- ---- the depths of the actions

module _ (depths : List ℕ) (actions : List ActionRow) (tell : (a : ℕ) → a < length actions → IsDepth depths actions a)
    (there : list_all (λ (action : ActionRow). list_all (λ (nest : NestRow). all_below (length actions) nest.actions)
    action.nests) actions ≡ true) where
  -- what a level tells is no more than what the table tells
  of_level : (f : ℕ → ℕ) (acts : List ℕ) → ((a : ℕ) → a < length actions → f a ≤ at depths a) → all_below (length actions) acts ≡ true
      → deepest_of f acts ≤ deepest_of (at depths) acts
  of_level f [] ih h = omega arith
  of_level f (a ∷ acts) ih h =
      let p = and_parts (nat_lt a (length actions)) (all_below (length actions) acts) h in
      let here = ih a (ltb-true _ _ p.0) in
      let more = of_level f acts ih p.1 in
      omega arith

  level : (f : ℕ → ℕ) (nests : List NestRow) → ((a : ℕ) → a < length actions → f a ≤ at depths a)
      → list_all (λ (nest : NestRow). all_below (length actions) nest.actions) nests ≡ true → deepest f nests ≤ deepest (at depths) nests
  level f [] ih h = omega arith
  level f (nest ∷ nests) ih h =
      let p =
      and_parts (all_below (length actions) nest.actions)
      (list_all (λ (nest : NestRow). all_below (length actions) nest.actions) nests) h in
      let here = of_level f nest.actions ih p.0 in
      let more = level f nests ih p.1 in
      omega arith

  within_table : (most a : ℕ) → a < length actions → depth_within most actions a ≤ at depths a
  unfolding depth_within
  within_table zero a l = omega arith
  within_table (suc most) a l =
      let nests = (slice_index_or actions a no_action).nests in
      let less =
      level (depth_within most actions) nests (within_table most)
      (at_row (λ (action : ActionRow). list_all (λ (nest : NestRow). all_below (length actions) nest.actions) action.nests)
      actions a no_action there l) in
      let here = (tell a l).0 in
      omega arith

  pub depths_within : (n : ℕ) (rest : List ActionRow) → n + length rest ≡ length actions → depths_fit n actions rest ≡ true
  depths_within n [] e = refl
  depths_within n (a ∷ rest) e =
      let l : n < length actions = omega arith in
      let here = within_table (suc most_depth) n l in
      let few = (tell n l).1 in
      and_from _ _ (le-leb (depth_within (suc most_depth) actions n) most_depth (omega arith)) (depths_within (suc n) rest (omega arith))
