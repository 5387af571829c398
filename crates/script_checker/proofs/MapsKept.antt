-- Each nested use of an accepted script maps as many exceptions as its first action tells outside.
use Rattle.std.proofs.Common.{◌≡◌, ℕ, suc, zero, ◌+◌, ◌<◌, nat_lt, ◌==◌, Bool, true, false, not, ◌&&◌, List, [], ◌∷◌, ◌++◌, length, replicate, slice_index_or, slice_set, Option, Some, None, refl, sym, ap, ◌∙◌, arith, length-append, length-set}
use Rattle.std.proofs.lemmas.List.{length-replicate}
use Rattle.std.specs.List.{list_all}
use Rattle.std.proofs.lemmas.Bool.{and_parts, false≢true, not-true, ltb-true, eq-eqb, and_from}
use Rattle.caa_base.specs.Written.Lists.{index_of, is_empty}
use Rattle.caa_base.specs.declared.written.entry.Verdict.{Verdict}
use Rattle.caa_base.specs.declared.written.entry.Verdict.TheVariants as verdict
use Rattle.place_plan.specs.declared.drafts.draft_rows.ActionRow.{ActionRow}
use Rattle.place_plan.specs.declared.drafts.draft_rows.NestRow.{NestRow}
use Rattle.place_plan.specs.Plans.Places.{no_action, no_nest}
use Rattle.action_script.specs.declared.forms.form.Form.{Form}
use Rattle.action_script.specs.declared.forms.form.Form.TheVariants as form
use Rattle.script_checker.specs.declared.declared.Declared.{Declared}
use Rattle.script_checker.specs.declared.declared.Block.{Block}
use Rattle.script_checker.specs.declared.declared.Block.TheVariants as block
use Rattle.script_checker.specs.declared.open_graph.DeclaredGraph.{DeclaredGraph}
use Rattle.script_checker.specs.declared.open_action.OpenAction.{OpenAction}
use Rattle.script_checker.specs.declared.open_action.OpenNest.{OpenNest}
use Rattle.script_checker.specs.declared.open_action.OpenProgram.{OpenProgram}
use Rattle.script_checker.specs.Numbers.{is_among}
use Rattle.script_checker.specs.DeclaredSoFar.{nothing_declared, begun_nest, exceptions_at, action_of, nest_of}
use Rattle.script_checker.specs.AtTop.{is_action, declared_with, block_begun}
use Rattle.script_checker.specs.InAction.{closed_if, with_nest, action_with, row_of}
use Rattle.script_checker.specs.After.{ended}
use Rattle.caa_base.proofs.ListLemmas.{at_row}
use Rattle.script_checker.proofs.KnownNames.{then_known}
use Rattle.script_checker.proofs.Accepted.{IsKept, NoneInAction, known}
use Rattle.script_checker.proofs.ListsChange.{all_push, all_set, all_rows}
use Rattle.script_checker.proofs.NestTests.{same_action}
use Rattle.script_checker.proofs.RangesKept.{AreInRange, action_right, ranges_kept, in_range_at_first}

-- by the count of exceptions of each graph, and the graph of the exceptions that each action tells outside
abbrev pub use_mapped : (ℕ → ℕ) → (ℕ → ℕ) → NestRow → Bool
use_mapped count face row = not (is_empty row.actions) && (length row.maps == count (face (slice_index_or row.actions 0 0)))

-- these are those of the graphs and actions that are there
pub record AreCounted (graphs : List DeclaredGraph) (actions : List ActionRow) (count face : ℕ → ℕ) : Type 0 where
  pub counts : (g : ℕ) → g < length graphs → count g ≡ length (exceptions_at graphs g)
  pub faces : (a : ℕ) → a < length actions → face a ≡ (slice_index_or actions a no_action).interface

-- the uses of an action are mapped
abbrev all_mapped : (ℕ → ℕ) → (ℕ → ℕ) → ActionRow → Bool
all_mapped count face action = list_all (use_mapped count face) action.nests

abbrev MappedIn : (ℕ → ℕ) → (ℕ → ℕ) → Block → Type 0
MappedIn count face (block.Action a) = list_all (λ (nest : OpenNest). use_mapped count face nest.row) a.nests ≡ true
MappedIn count face b = Unit {0}

-- those of the actions that have ended are mapped, and those that are being declared
abbrev pub MapsRight : Declared → Block → Type 0
MapsRight d b =
    (count face : ℕ → ℕ) → AreCounted d.graphs d.actions count face → (list_all (all_mapped count face) d.actions ≡ true) × MappedIn
    count face b

-- ---- one graph or action more

same_graph : (graphs : List DeclaredGraph) (more : DeclaredGraph) (g : ℕ) → g < length graphs
    → length (exceptions_at (graphs ++ more ∷ []) g) ≡ length (exceptions_at graphs g)
same_graph [] more g l = absurd (omega arith)
same_graph (graph ∷ graphs) more zero l = refl
same_graph (graph ∷ graphs) more (suc g) l = same_graph graphs more g (omega arith)

fewer_graphs : (graphs : List DeclaredGraph) (more : DeclaredGraph) (actions : List ActionRow) (count face : ℕ → ℕ)
    → AreCounted (graphs ++ more ∷ []) actions count face → AreCounted graphs actions count face
fewer_graphs graphs more actions count face h =
    let n : length (graphs ++ more ∷ []) ≡ length graphs + 1 = length-append graphs (more ∷ []) in
    record { counts = λ g l. h.counts g (omega arith) ∙ same_graph graphs more g l; faces = h.faces }

fewer_actions : (graphs : List DeclaredGraph) (actions : List ActionRow) (more : ActionRow) (count face : ℕ → ℕ)
    → AreCounted graphs (actions ++ more ∷ []) count face → AreCounted graphs actions count face
fewer_actions graphs actions more count face h =
    let n : length (actions ++ more ∷ []) ≡ length actions + 1 = length-append actions (more ∷ []) in
    record {
      counts = h.counts;
      faces = λ a l. h.faces a (omega arith)
          ∙ ap (λ (action : ActionRow). action.interface) (same_action actions more a l);
    }

-- ---- changes of a use

mapped_still : (count face : ℕ → ℕ) (row : NestRow) (i x : ℕ) → use_mapped count face row ≡ true
    → use_mapped count face (record row { maps = slice_set row.maps i x }) ≡ true
mapped_still count face row i x h = rw length-set h

first_still : (actions : List ℕ) (a : ℕ) → is_empty actions ≡ false → slice_index_or (actions ++ a ∷ []) 0 0 ≡ slice_index_or actions 0 0
first_still [] a h = absurd (false≢true (sym h))
first_still (b ∷ actions) a h = refl

some_still : (actions : List ℕ) (a : ℕ) → not (is_empty (actions ++ a ∷ [])) ≡ true
some_still [] a = refl
some_still (b ∷ actions) a = refl

alternate_still : (count face : ℕ → ℕ) (row : NestRow) (a : ℕ) → use_mapped count face row ≡ true
    → use_mapped count face (record row { actions = row.actions ++ a ∷ [] }) ≡ true
alternate_still count face row a h =
    let p = and_parts (not (is_empty row.actions)) _ h in
    and_from _ _ (some_still row.actions a) (rw (first_still row.actions a (not-true _ p.0)) p.1)

-- ---- lines

closed_maps : (count face : ℕ → ℕ) (a : OpenAction) (v : Verdict) (o : Option OpenProgram) → MappedIn count face (block.Action a)
    → MappedIn count face (block.Action (closed_if a o v))
closed_maps count face a v None h = h
closed_maps count face a v (Some p) h = h

-- the graph of what an action tells outside is there
face_there : (d : Declared) (b : Block) (a : ℕ) → AreInRange d b → a < length d.actions
    → (slice_index_or d.actions a no_action).interface < length d.graphs
face_there d b a h l =
    let count : ℕ → ℕ = λ g. length (exceptions_at d.graphs g) in
    let k =
    at_row (action_right (length d.objects) (length d.actions) (length d.graphs) count) d.actions a no_action
    (h.ended_right (length d.objects) (length d.actions) (length d.graphs) count (omega arith) (omega arith) (omega arith)
    (λ g. omega arith))
    l in
    let action = slice_index_or d.actions a no_action in
    ltb-true action.interface (length d.graphs)
    (and_parts (nat_lt action.interface (length d.graphs)) _
    (and_parts (nat_lt action.internal (length d.graphs)) _ (and_parts _ _ k).0).1).0

module _ (names : List (List ℕ)) (d : Declared) where
  begins_maps : (f : Form) → MapsRight d block.Top → MapsRight (declared_with names d f) (block_begun d f)
  begins_maps (form.Action name) h = λ count face b. ((h count face b).0, refl)
  begins_maps f h = h

  ends_maps : (b : Block) → MapsRight d b → MapsRight (ended names d b) block.Top
  ends_maps block.Top h = h
  ends_maps (block.Graph g) h = λ count face b. ((h count face (fewer_graphs d.graphs _ d.actions count face b)).0, tt)
  ends_maps (block.Action a) h = λ count face b.
      let k = h count face (fewer_actions d.graphs d.actions (row_of names a) count face b) in
      (all_push (all_mapped count face) d.actions (row_of names a) k.0 (all_rows (use_mapped count face) a.nests k.1), tt)

  nest_maps : (count face : ℕ → ℕ) (a : OpenAction) (name : ℕ) (nest : OpenNest)
      → (use_mapped count face (nest_of a name).row ≡ true → use_mapped count face nest.row ≡ true) → MappedIn count face (block.Action a)
      → MappedIn count face (block.Action (with_nest a name nest))
  nest_maps count face a name nest keeps h =
      all_set (λ (nest : OpenNest). use_mapped count face nest.row) a.nests (index_of name a.nest_names) (begun_nest no_nest) nest keeps h

  acts_maps : (a : OpenAction) (f : Form) → NoneInAction d a f → AreInRange d (block.Action a) → (count face : ℕ → ℕ)
      → AreCounted d.graphs d.actions count face → MappedIn count face (block.Action a)
      → MappedIn count face (block.Action (action_with names d a f))
  acts_maps a (form.Nest nest action roles) none ranges count face b h =
      let there =
      ltb-true _ _
      (then_known (is_action d action) (list_all (is_among a.roles) roles) (known d a (form.Nest nest action roles) none)).0 in
      let outside = (action_of d action).interface in
      let n : length (replicate (length (exceptions_at d.graphs outside)) 0) ≡ count (face (index_of action d.action_names)) =
      length-replicate (length (exceptions_at d.graphs outside)) 0 ∙ sym
      (b.counts outside (face_there d (block.Action a) (index_of action d.action_names) ranges there)) ∙ ap count
      (sym (b.faces (index_of action d.action_names) there)) in
      all_push (λ (nest : OpenNest). use_mapped count face nest.row) a.nests _ h (eq-eqb _ _ n)
  acts_maps a (form.Map nest lower upper) none ranges count face b h =
      nest_maps count face a nest _ (mapped_still count face (nest_of a nest).row _ _) h
  acts_maps a (form.MapUndo nest x) none ranges count face b h = nest_maps count face a nest _ (λ k. k) h
  acts_maps a (form.MapFailure nest x) none ranges count face b h = nest_maps count face a nest _ (λ k. k) h
  acts_maps a (form.Alternate nest action) none ranges count face b h =
      nest_maps count face a nest _ (alternate_still count face (nest_of a nest).row _) h
  acts_maps a form.DoneLine none ranges count face b h = closed_maps count face a _ a.program h
  acts_maps a (form.SignalLine x) none ranges count face b h = closed_maps count face a _ a.program h
  acts_maps a form.UndoLine none ranges count face b h = closed_maps count face a _ a.program h
  acts_maps a f none ranges count face b h = h

pub record AreMapped (d : Declared) (b : Block) : Type 0 where
  pub ranges : AreInRange d b
  pub maps : MapsRight d b

pub maps_kept : (names : List (List ℕ)) → IsKept names AreMapped
maps_kept names =
    let ranges = ranges_kept names in
    record {
      at_top = λ d f sound none h. record { ranges = ranges.at_top d f sound none h.ranges; maps = begins_maps names d f h.maps };
      in_graph = λ d g f sound none h. record { ranges = ranges.in_graph d g f sound none h.ranges; maps = h.maps };
      in_action = λ d a f sound none shut h. record {
        ranges = ranges.in_action d a f sound none shut h.ranges;
        maps = λ count face b. let k = h.maps count face b in (k.0, acts_maps names d a f none h.ranges count face b k.1);
      };
      closes = λ d a h. record {
        ranges = ranges.closes d a h.ranges;
        maps = λ count face b. let k = h.maps count face b in (k.0, closed_maps count face a verdict.Done a.program k.1);
      };
      ends = λ d b none h. record { ranges = ranges.ends d b none h.ranges; maps = ends_maps names d b h.maps };
    }

-- before the first line
pub mapped_at_first : (universal : ℕ) → AreMapped (nothing_declared universal) block.Top
mapped_at_first universal = record { ranges = in_range_at_first universal; maps = λ count face b. (refl, tt) }
