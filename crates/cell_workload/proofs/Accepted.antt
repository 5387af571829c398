-- The checks accept each line of the cell's script.
use Rattle.std.proofs.Common.{◌≡◌, ℕ, ◌+◌, ◌*◌, ◌%◌, ◌==◌, ◌≤◌, Bool, true, false, not, ◌&&◌, ◌||◌, List, [], ◌∷◌, ◌++◌, length, map, codes, refl, arith}
use Rattle.std.specs.List.{range_with_len}
use Rattle.std.proofs.lemmas.Bool.{and_parts, both_ways, le-ltb, leb-true}
use Rattle.std.proofs.lemmas.List.FromFn.{length-range_with_len}
use Rattle.caa_base.specs.Written.Lists.{index_of}
use Rattle.exception_graph.specs.Chains.{IsFirstInCycle, IsFirstUnjoined}
use Rattle.place_plan.specs.declared.drafts.draft_rows.PlayRow.{PlayRow}
use Rattle.place_plan.specs.Plans.Weights.{at}
use Rattle.place_plan.specs.Plans.Bound.{action_bound}
use Rattle.action_script.specs.declared.forms.form.Form.{Form}
use Rattle.action_script.specs.declared.forms.form.Form.TheVariants as form
use Rattle.action_script.specs.Forms.Printing.{numbered_from}
use Rattle.action_script.specs.Words.NumberedNames.{number_in}
use Rattle.script_checker.specs.declared.check_error.CheckCause.TheVariants as cause
use Rattle.script_checker.specs.declared.declared.Block.{Block}
use Rattle.script_checker.specs.declared.declared.Block.TheVariants as block
use Rattle.script_checker.specs.declared.declared.Declared.{Declared}
use Rattle.script_checker.specs.declared.declared.SoFar.{SoFar}
use Rattle.script_checker.specs.declared.open_graph.DeclaredGraph.{DeclaredGraph}
use Rattle.script_checker.specs.AtTop.{bound_with, places_with, play_row, unfilled_at_top}
use Rattle.script_checker.specs.Causes.{is_unknown, is_twice, is_unfilled, fills_twice, is_past_limit, is_past_bound, in_action, EndsGraph}
use Rattle.script_checker.specs.InAction.{enters_otherwise_in_action, not_held_in_action, too_deep_in_action, other_face_in_action}
use Rattle.script_checker.specs.DeclaredSoFar.{nothing_yet}
use Rattle.script_checker.specs.After.{after, settled}
use Rattle.script_checker.specs.Compiled.{AreAccepted, HasNone, IsAccepted}
use Rattle.cell_workload.specs.CellNames.{cell_names, jams, jam, arm_jam, press_jam, faces, lost_piece, cellgraph, piece_lost}
use Rattle.cell_workload.specs.CellLines.{outside_lines, load_lines, forge_lines, forge_jam_lines, plain_lines, jammed_lines, lost_lines}
use Rattle.cell_workload.specs.CellScript.{cell_forms, most_cycles, play_line, played, players}
use Rattle.cell_workload.proofs.Faultless.{jam_acyclic, jam_joined, jam_pairs, one_acyclic, one_joined}

-- ---- one line, by tests

abbrev ends_graph : Block → Form → Bool
ends_graph (block.Graph g) form.End = true
ends_graph b f = false

-- the line has a cause, or ends a graph
abbrev may_have : SoFar → Form → Bool
may_have s f =
    is_unknown s.declared s.block f || (is_twice s.declared s.block f || (is_unfilled s.declared s.block f
    || (fills_twice s.block f || (in_action (λ a. enters_otherwise_in_action a f) s.block
    || (in_action (λ a. not_held_in_action s.declared a f) s.block || (in_action (λ a. too_deep_in_action s.declared f) s.block
    || (is_past_limit s.declared s.block f || (is_past_bound s.declared s.block f
    || (in_action (λ a. other_face_in_action s.declared a f) s.block || ends_graph s.block f)))))))))

or_none : (a b : Bool) → (a || b) ≡ false → (a ≡ false) × (b ≡ false)
or_none true b h = absurd (cc)
or_none false b h = (refl, h)

no_end : (Holds : DeclaredGraph → Type 0) (b : Block) (f : Form) → ends_graph b f ≡ false → EndsGraph Holds b f → ⊥
no_end Holds (block.Graph g) form.End not h = cc
no_end Holds b f not h = h

-- none of the tests says so
record SaysNone (s : SoFar) (f : Form) : Type 0 where
  unknown : is_unknown s.declared s.block f ≡ false
  twice : is_twice s.declared s.block f ≡ false
  unfilled : is_unfilled s.declared s.block f ≡ false
  filled_twice : fills_twice s.block f ≡ false
  order : in_action (λ a. enters_otherwise_in_action a f) s.block ≡ false
  held : in_action (λ a. not_held_in_action s.declared a f) s.block ≡ false
  deep : in_action (λ a. too_deep_in_action s.declared f) s.block ≡ false
  limit : is_past_limit s.declared s.block f ≡ false
  bound : is_past_bound s.declared s.block f ≡ false
  face : in_action (λ a. other_face_in_action s.declared a f) s.block ≡ false
  graph : ends_graph s.block f ≡ false

says_none : (s : SoFar) (f : Form) → may_have s f ≡ false → SaysNone s f
says_none s f none =
    let a = or_none (is_unknown s.declared s.block f) _ none in
    let b = or_none (is_twice s.declared s.block f) _ a.1 in
    let c = or_none (is_unfilled s.declared s.block f) _ b.1 in
    let d = or_none (fills_twice s.block f) _ c.1 in
    let e = or_none (in_action (λ a. enters_otherwise_in_action a f) s.block) _ d.1 in
    let g = or_none (in_action (λ a. not_held_in_action s.declared a f) s.block) _ e.1 in
    let i = or_none (in_action (λ a. too_deep_in_action s.declared f) s.block) _ g.1 in
    let j = or_none (is_past_limit s.declared s.block f) _ i.1 in
    let k = or_none (is_past_bound s.declared s.block f) _ j.1 in
    let l = or_none (in_action (λ a. other_face_in_action s.declared a f) s.block) (ends_graph s.block f) k.1 in
    record {
      unknown = a.0;
      twice = b.0;
      unfilled = c.0;
      filled_twice = d.0;
      order = e.0;
      held = g.0;
      deep = i.0;
      limit = j.0;
      bound = k.0;
      face = l.0;
      graph = l.1;
    }

none_had : (s : SoFar) (f : Form) → SaysNone s f → HasNone s f
none_had s f none cause.Unknown h = both_ways (is_unknown s.declared s.block f) none.unknown h
none_had s f none cause.Twice h = both_ways (is_twice s.declared s.block f) none.twice h
none_had s f none (cause.Cycle at) h = no_end _ s.block f none.graph h
none_had s f none (cause.NoLeast a b) h = no_end _ s.block f none.graph h
none_had s f none cause.RoleUnfilled h = both_ways (is_unfilled s.declared s.block f) none.unfilled h
none_had s f none cause.RoleTwice h = both_ways (fills_twice s.block f) none.filled_twice h
none_had s f none cause.NestOrder h = both_ways (in_action (λ a. enters_otherwise_in_action a f) s.block) none.order h
none_had s f none cause.ObjectNotHeld h = both_ways (in_action (λ a. not_held_in_action s.declared a f) s.block) none.held h
none_had s f none cause.TooDeep h = both_ways (in_action (λ a. too_deep_in_action s.declared f) s.block) none.deep h
none_had s f none cause.Limit h = both_ways (is_past_limit s.declared s.block f) none.limit h
none_had s f none cause.JournalBound h = both_ways (is_past_bound s.declared s.block f) none.bound h
none_had s f none cause.AlternateFace h = both_ways (in_action (λ a. other_face_in_action s.declared a f) s.block) none.face h
none_had s f none cause.OutOfMemory h = h

-- ---- several lines

-- each of these forms is accepted, one after the other
abbrev AreFine : SoFar → List Form → Type 0
AreFine s [] = Unit {0}
AreFine s (f ∷ forms) = IsAccepted s f × AreFine (after cell_names s f) forms

-- what is declared after them
abbrev goes : SoFar → List Form → SoFar
goes s [] = s
goes s (f ∷ forms) = goes (after cell_names s f) forms

-- no test says that one of them has a cause
abbrev all_fine : SoFar → List Form → Bool
all_fine s [] = true
all_fine s (f ∷ forms) = not (may_have (settled s f) f) && all_fine (after cell_names s f) forms

not_true : (b : Bool) → not b ≡ true → b ≡ false
not_true true h = cc
not_true false h = refl

fine : (s : SoFar) (forms : List Form) → all_fine s forms ≡ true → AreFine s forms
fine s [] h = tt
fine s (f ∷ forms) h =
    let p = and_parts (not (may_have (settled s f) f)) (all_fine (after cell_names s f) forms) h in (
      none_had (settled s f) f (says_none (settled s f) f (not_true (may_have (settled s f) f) p.0)),
      fine (after cell_names s f) forms p.1,
    )

fine_then : (s : SoFar) (forms more : List Form) → AreFine s forms → AreFine (goes s forms) more → AreFine s (forms ++ more)
fine_then s [] more first rest = rest
fine_then s (f ∷ forms) more first rest = (first.0, fine_then (after cell_names s f) forms more first.1 rest)

on_lines : (number : ℕ) (s : SoFar) (forms : List Form) → AreFine s forms → AreAccepted cell_names s (numbered_from number forms)
on_lines number s [] all = tt
on_lines number s (f ∷ forms) all = (all.0, on_lines (number + 1) (after cell_names s f) forms all.1)

-- ---- the graphs

-- the end of a graph without a fault
end_fine : (d : Declared) (g : DeclaredGraph) → ((at : ℕ) → IsFirstInCycle (length g.exceptions) g.pairs at → ⊥)
    → ((a b : ℕ) → IsFirstUnjoined (length g.exceptions) g.pairs a b → ⊥)
    → IsAccepted (record { declared = d; block = block.Graph g }) form.End
end_fine d g acyclic joined cause.Unknown h = cc
end_fine d g acyclic joined cause.Twice h = cc
end_fine d g acyclic joined (cause.Cycle at) h = acyclic at h
end_fine d g acyclic joined (cause.NoLeast a b) h = joined a b h
end_fine d g acyclic joined cause.RoleUnfilled h = cc
end_fine d g acyclic joined cause.RoleTwice h = cc
end_fine d g acyclic joined cause.NestOrder h = cc
end_fine d g acyclic joined cause.ObjectNotHeld h = cc
end_fine d g acyclic joined cause.TooDeep h = cc
end_fine d g acyclic joined cause.Limit h = cc
end_fine d g acyclic joined cause.JournalBound h = cc
end_fine d g acyclic joined cause.AlternateFace h = cc
end_fine d g acyclic joined cause.OutOfMemory h = h

-- the lines up to the end of the first graph
abbrev to_jams : List Form
to_jams =
    outside_lines
    ++ (form.Graph jams
    ∷ form.Exception jam
    ∷ form.Exception arm_jam
    ∷ form.Exception press_jam
    ∷ form.Cover jam arm_jam
    ∷ form.Cover jam press_jam
    ∷ [])

abbrev at_jams : SoFar
at_jams = goes (nothing_yet cell_names) to_jams

-- up to that of the second
abbrev to_faces : List Form
to_faces = form.Graph faces ∷ form.Exception lost_piece ∷ []

abbrev at_faces : SoFar
at_faces = goes (after cell_names at_jams form.End) to_faces

-- and of the third
abbrev to_cellgraph : List Form
to_cellgraph = form.Graph cellgraph ∷ form.Exception piece_lost ∷ []

abbrev at_cellgraph : SoFar
at_cellgraph = goes (after cell_names at_faces form.End) to_cellgraph

-- the actions
abbrev actions : List Form
actions = load_lines ++ (forge_lines ++ (forge_jam_lines ++ (plain_lines ++ (jammed_lines ++ lost_lines))))

abbrev before_actions : SoFar
before_actions = after cell_names at_cellgraph form.End

abbrev before_plays : SoFar
before_plays = goes before_actions actions

jams_fine : AreFine (nothing_yet cell_names) to_jams
jams_fine = fine (nothing_yet cell_names) to_jams refl

jams_end : IsAccepted at_jams form.End
jams_end =
    end_fine at_jams.declared
    (record { exceptions = number_in cell_names (codes "universal") ∷ jam ∷ arm_jam ∷ press_jam ∷ []; pairs = jam_pairs })
    jam_acyclic jam_joined

faces_fine : AreFine (after cell_names at_jams form.End) to_faces
faces_fine = fine (after cell_names at_jams form.End) to_faces refl

faces_end : IsAccepted at_faces form.End
faces_end =
    end_fine at_faces.declared (record { exceptions = number_in cell_names (codes "universal") ∷ lost_piece ∷ []; pairs = [] })
    one_acyclic one_joined

cellgraph_fine : AreFine (after cell_names at_faces form.End) to_cellgraph
cellgraph_fine = fine (after cell_names at_faces form.End) to_cellgraph refl

cellgraph_end : IsAccepted at_cellgraph form.End
cellgraph_end =
    end_fine at_cellgraph.declared (record { exceptions = number_in cell_names (codes "universal") ∷ piece_lost ∷ []; pairs = [] })
    one_acyclic one_joined

actions_fine : AreFine before_actions actions
actions_fine = fine before_actions actions refl

-- ---- the plays

-- where so much was played
abbrev at_play : Declared → List PlayRow → ℕ → ℕ → SoFar
at_play d plays places bound =
    record { declared = record d { plays = plays; all_places = places; whole_bound = bound }; block = block.Top }

-- the three participants may play the action of this name, which has three places and 95 entries at most
record IsReady (d : Declared) (action : ℕ) : Type 0 where
  known : is_unknown d block.Top (form.Play action players) ≡ false
  filled : unfilled_at_top d (form.Play action players) ≡ false
  places : at d.places (index_of action d.action_names) ≤ 3
  bounds : at d.bounds (index_of action d.action_names) ≤ 95

ready : (tenth fifth : Bool) → IsReady before_plays.declared (played tenth fifth)
unfolding action_bound
ready true fifth = record { known = refl; filled = refl; places = leb-true _ 3 refl; bounds = leb-true _ 95 refl }
ready false true = record { known = refl; filled = refl; places = leb-true _ 3 refl; bounds = leb-true _ 95 refl }
ready false false = record { known = refl; filled = refl; places = leb-true _ 3 refl; bounds = leb-true _ 95 refl }

play_fine : (d : Declared) (action : ℕ) (plays : List PlayRow) (n b : ℕ) → IsReady d action → n + 3 ≤ 65536 → b + 95 ≤ 1000000
    → IsAccepted (at_play d plays n b) (form.Play action players)
play_fine d action plays n b is places bounds =
    let s = at_play d plays n b in
    let own = is.places in
    let entries = is.bounds in
    none_had s (form.Play action players) (record {
      unknown = is.known;
      twice = refl;
      unfilled = is.filled;
      filled_twice = refl;
      order = refl;
      held = refl;
      deep = refl;
      limit = le-ltb 65536 (places_with s.declared action) (omega (arith, own, places));
      bound = le-ltb 1000000 (bound_with s.declared action) (omega (arith, entries, bounds));
      face = refl;
      graph = refl;
    })

plays_fine : (d : Declared) → ((tenth fifth : Bool) → IsReady d (played tenth fifth)) → (cycles : List ℕ) (plays : List PlayRow) (n b : ℕ)
    → n + 3 * length cycles ≤ 65536 → b + 95 * length cycles ≤ 1000000 → AreFine (at_play d plays n b) (map play_line cycles)
plays_fine d all [] plays n b places bounds = tt
plays_fine d all (cycle ∷ cycles) plays n b places bounds =
    let action = played (cycle % 10 == 0) (cycle % 5 == 0) in
    let is = all (cycle % 10 == 0) (cycle % 5 == 0) in
    let s = at_play d plays n b in
    let own = is.places in
    let entries = is.bounds in (
      play_fine d action plays n b is (omega (arith, places)) (omega (arith, bounds)),
      plays_fine d all cycles (plays ++ play_row s.declared action players ∷ []) (places_with s.declared action)
          (bound_with s.declared action) (omega (arith, own, places)) (omega (arith, entries, bounds)),
    )

-- ---- the script

pub accepts_cell : (cycles : ℕ) → cycles ≤ most_cycles
    → AreAccepted cell_names (nothing_yet cell_names) (numbered_from 1 (cell_forms cycles))
accepts_cell cycles few =
    let numbers = range_with_len 1 cycles in
    let counted = length-range_with_len 1 cycles in
    let plays = map play_line numbers in
    on_lines 1 (nothing_yet cell_names) (cell_forms cycles)
    (fine_then (nothing_yet cell_names) to_jams
    (form.End ∷ to_faces ++ (form.End ∷ to_cellgraph ++ (form.End ∷ actions ++ plays))) jams_fine (
      jams_end,
      fine_then (after cell_names at_jams form.End) to_faces (form.End ∷ to_cellgraph ++ (form.End ∷ actions ++ plays)) faces_fine (
        faces_end,
        fine_then (after cell_names at_faces form.End) to_cellgraph (form.End ∷ actions ++ plays) cellgraph_fine (
          cellgraph_end,
          fine_then before_actions actions plays actions_fine
              (plays_fine before_plays.declared ready numbers [] 0 0 (omega (arith, counted, few)) (omega (arith, counted, few))),
        ),
      ),
    ))
