-- What a line at the top, outside graphs and actions, is refused for, and what it declares.
use Rattle.std.specs.Prelude.{ℕ, ◌+◌, ◌==◌, nat_lt, nat_le, Bool, false, not, List, [], ◌∷◌, ◌++◌, map, length}
use Rattle.std.specs.List.{list_any}
use Rattle.place_plan.specs.declared.drafts.draft_rows.PlayRow.{PlayRow}
use Rattle.place_plan.specs.Drafts.DraftRules.{all_differ}
use Rattle.place_plan.specs.Plans.Weights.{counted, at}
use Rattle.caa_base.specs.Written.Lists.{member, index_of}
use Rattle.caa_base.specs.Written.Limits.{most_participants, most_objects, most_actions, most_graphs, most_watches, most_drills, most_places, most_entries}
use Rattle.caa_base.specs.Written.Names.{name_at}
use Rattle.action_script.specs.declared.forms.form.Form.{Form}
use Rattle.action_script.specs.declared.forms.form.Form.TheVariants as form
use Rattle.script_checker.specs.declared.declared.Declared.{Declared}
use Rattle.script_checker.specs.declared.declared.Block.{Block}
use Rattle.script_checker.specs.declared.declared.Block.TheVariants as block
use Rattle.script_checker.specs.Numbers.{is_among, is_drill}
use Rattle.script_checker.specs.DeclaredSoFar.{plain_graph, named, action_of}

-- ---- causes

-- once its block has ended, an action may be named
abbrev pub is_action : Declared → ℕ → Bool
is_action d name = nat_lt (index_of name d.action_names) (length d.actions)

-- what it declares was declared
abbrev pub twice_at_top : Declared → Form → Bool
twice_at_top d (form.Participant name) = is_among d.participants name
twice_at_top d (form.Object name value) = is_among d.objects name
twice_at_top d (form.Drill object nth) = list_any (is_drill (index_of object d.objects) nth) d.drills
twice_at_top d (form.Watch object) = member (index_of object d.objects) d.watches
twice_at_top d (form.Graph name) = is_among d.graph_names name
twice_at_top d (form.Action name) = is_among d.action_names name
twice_at_top d _ = false

-- so many fill the roles of this action
abbrev pub is_filled_by : Declared → ℕ → ℕ → Bool
is_filled_by d action count = length (action_of d action).roles == count

-- the number of participants is wrong
abbrev pub unfilled_at_top : Declared → Form → Bool
unfilled_at_top d (form.Play action who) = not (is_filled_by d action (length who))
unfilled_at_top d _ = false

-- a participant would play two roles
abbrev pub filled_twice_at_top : Form → Bool
filled_twice_at_top (form.Play action who) = not (all_differ who)
filled_twice_at_top _ = false

-- the places of all plays with one more of this action
abbrev pub places_with : Declared → ℕ → ℕ
places_with d action = counted (d.all_places + at d.places (index_of action d.action_names))

-- with the line there would be too many of something
abbrev pub past_limit_at_top : Declared → Form → Bool
past_limit_at_top d (form.Participant name) = nat_le most_participants (length d.participants)
past_limit_at_top d (form.Object name value) = nat_le most_objects (length d.objects)
past_limit_at_top d (form.Drill object nth) = nat_le most_drills (length d.drills)
past_limit_at_top d (form.Watch object) = nat_le most_watches (length d.watches)
past_limit_at_top d (form.Graph name) = nat_le most_graphs (length d.graph_names)
past_limit_at_top d (form.Action name) = nat_le most_actions (length d.action_names)
past_limit_at_top d (form.Play action who) = nat_lt most_places (places_with d action)
past_limit_at_top d _ = false

-- the entries of all plays with one more of this action
abbrev pub bound_with : Declared → ℕ → ℕ
bound_with d action = counted (d.whole_bound + at d.bounds (index_of action d.action_names))

-- with the play a journal could have too many entries
abbrev pub past_bound_at_top : Declared → Form → Bool
past_bound_at_top d (form.Play action who) = nat_lt most_entries (bound_with d action)
past_bound_at_top d _ = false

-- ---- what the line declares

-- an action that is played by these participants
abbrev pub play_row : Declared → ℕ → List ℕ → PlayRow
play_row d action who = record { action = index_of action d.action_names; who = map (λ p. index_of p d.participants) who }

-- what is declared with it; of a graph or an action that begins, the name
abbrev pub declared_with : List (List ℕ) → Declared → Form → Declared
declared_with names d (form.Participant name) =
    record d {
      participants = d.participants ++ name ∷ [];
      participant_rows = d.participant_rows ++ name_at names name ∷ [];
    }
declared_with names d (form.Object name value) =
    record d {
      objects = d.objects ++ name ∷ [];
      object_rows = d.object_rows ++ record { name = name_at names name; initial = value } ∷ [];
    }
declared_with names d (form.Drill object nth) =
    record d { drills = d.drills ++ record { object = index_of object d.objects; nth = nth } ∷ [] }
declared_with names d (form.Watch object) = record d { watches = d.watches ++ index_of object d.objects ∷ [] }
declared_with names d (form.Graph name) = record d { graph_names = d.graph_names ++ name ∷ [] }
declared_with names d (form.Action name) = record d { action_names = d.action_names ++ name ∷ [] }
declared_with names d (form.Play action who) =
    record d {
      plays = d.plays ++ play_row d action who ∷ [];
      all_places = places_with d action;
      whole_bound = bound_with d action;
    }
declared_with names d _ = d

-- where the next line stands
abbrev pub block_begun : Declared → Form → Block
block_begun d (form.Graph name) = block.Graph (plain_graph d.universal)
block_begun d (form.Action name) = block.Action (named name)
block_begun d _ = block.Top
