-- What a plan says of its places.
use Rattle.std.specs.Prelude.{ℕ, ℤ, pos, ◌==◌, Bool, ◌||◌, if◌then◌else◌, List, [], ◌∷◌, map, slice_index_or, slice_get, Option, Some, None}
use Rattle.cover_table.specs.Cover.{CoverOrder}
use Rattle.caa_base.specs.declared.written.entry.Verdict.TheVariants as verdict
use Rattle.place_plan.specs.declared.drafts.draft_rows.ObjectRow.{ObjectRow}
use Rattle.place_plan.specs.declared.drafts.draft_rows.GraphRow.{GraphRow}
use Rattle.place_plan.specs.declared.drafts.draft_rows.ActionRow.{ActionRow}
use Rattle.place_plan.specs.declared.drafts.draft_rows.RoleRow.{RoleRow}
use Rattle.place_plan.specs.declared.drafts.draft_rows.NestRow.{NestRow}
use Rattle.place_plan.specs.declared.drafts.draft_rows.HandlerRow.{HandlerRow}
use Rattle.place_plan.specs.declared.drafts.draft_rows.Program.{Program}
use Rattle.place_plan.specs.declared.drafts.draft_rows.AbortRow.{AbortRow}
use Rattle.place_plan.specs.declared.drafts.draft_rows.AbortRow.TheVariants as abort
use Rattle.place_plan.specs.Plans.PlanValue.{Plan, PlaceRow}
use Rattle.caa_base.specs.Written.Lists.{member, index_of, first_of, last_or, next_after}

-- ---- past the end of a table: nobody has a role there, and nothing is done

-- no steps, and a verdict without a signal
abbrev pub idle : Program
idle = record { steps = []; verdict = verdict.Done }

-- a role that does nothing
abbrev pub no_role : RoleRow
no_role = record { name = []; body = idle; handlers = []; abort = abort.Never }

-- an action that nobody plays
abbrev pub no_action : ActionRow
no_action = record { name = []; internal = 0; interface = 0; fault = 0; objects = []; roles = []; nests = [] }

-- a place where nobody is
abbrev pub no_place : PlaceRow
no_place = record { around = []; nest = 0; action = 0; roles = []; children = [] }

-- a nested use without actions
abbrev pub no_nest : NestRow
no_nest = record { name = []; actions = []; roles = []; maps = []; undo = 0; failure = 0 }

-- a graph without exceptions
abbrev pub no_graph : GraphRow
no_graph = record { graph = record { count = 0; rows = [] }; names = [] }

-- an object that stays 0
abbrev pub no_object : ObjectRow
no_object = record { name = []; initial = pos 0 }

-- ---- places

-- the row of p
abbrev pub place_at : Plan → ℕ → PlaceRow
place_at plan p = slice_index_or plan.places p no_place

-- the action of a row of places
abbrev pub action_in : Plan → Option PlaceRow → ActionRow
action_in plan None = no_action
action_in plan (Some row) = slice_index_or plan.actions row.action no_action

-- the action that p is an instance of
abbrev pub action_at : Plan → ℕ → ActionRow
action_at plan p = action_in plan (slice_get plan.places p)

-- the places round p, the innermost first
abbrev pub around : Plan → ℕ → List ℕ
around plan p = (place_at plan p).around

-- the place right round p; none for a play
abbrev pub parent : Plan → ℕ → Option ℕ
parent plan p = first_of (around plan p)

-- p is q, or inside it
abbrev pub is_within : Plan → ℕ → ℕ → Bool
is_within plan p q = (p == q) || member q (around plan p)

-- the play that p belongs to
abbrev pub top_of : Plan → ℕ → ℕ
top_of plan p = last_or p (around plan p)

-- the participants that play the roles of p
abbrev pub roles_of : Plan → ℕ → List ℕ
roles_of plan p = (place_at plan p).roles

-- the objects that p uses, in ascending order
abbrev pub objects_of : Plan → ℕ → List ℕ
objects_of plan p = (action_at plan p).objects

-- p uses o
abbrev pub uses : Plan → ℕ → ℕ → Bool
uses plan p o = member o (objects_of plan p)

-- ---- nested uses and their alternates

-- the places of the nested use of this number in p, one for each of its actions: the first is tried first
abbrev pub alternates_of : Plan → ℕ → ℕ → List ℕ
alternates_of plan p nest = slice_index_or (place_at plan p).children nest []

-- the place of this alternate of a nested use, if p has one
abbrev pub child : Plan → ℕ → ℕ → ℕ → Option ℕ
child plan p nest alternate = slice_get (alternates_of plan p nest) alternate

-- which nested use of the place round it p is of
abbrev pub nest_number : Plan → ℕ → ℕ
nest_number plan p = (place_at plan p).nest

-- the alternate that is tried after p in a use of q
abbrev pub next_in : Plan → ℕ → Option ℕ → Option ℕ
next_in plan p None = None
next_in plan p (Some q) = next_after p (alternates_of plan q (nest_number plan p))

-- the alternate that is tried after p: a play has none, nor has the last of its use
abbrev pub next_alternate : Plan → ℕ → Option ℕ
next_alternate plan p = next_in plan p (parent plan p)

-- ---- what t plays in p

-- the role of this number
abbrev pub role_at : Plan → ℕ → ℕ → RoleRow
role_at plan p role = slice_index_or (action_at plan p).roles role no_role

-- the role of t in p
abbrev pub role_row : Plan → ℕ → ℕ → RoleRow
role_row plan p t = role_at plan p (index_of t (roles_of plan p))

-- the number of the role of t, or none
abbrev pub role_of : Plan → ℕ → ℕ → Option ℕ
role_of plan p t = if member t (roles_of plan p) then Some (index_of t (roles_of plan p)) else None

-- the body of t in p
abbrev pub body_of : Plan → ℕ → ℕ → Program
body_of plan p t = (role_row plan p t).body

-- the handler for x among these
abbrev pub handler_in : ℕ → List HandlerRow → Option Program
handler_in x [] = None
handler_in x (h ∷ hs) = if h.exception == x then Some h.program else handler_in x hs

-- the handler of t for x in p
abbrev pub handler_of : Plan → ℕ → ℕ → ℕ → Option Program
handler_of plan p t x = handler_in x (role_row plan p t).handlers

-- what t names where p is aborted
abbrev pub abort_row : Plan → ℕ → ℕ → AbortRow
abort_row plan p t = (role_row plan p t).abort

-- ---- exceptions

-- what a refused put raises
abbrev pub fault_of : Plan → ℕ → ℕ
fault_of plan p = (action_at plan p).fault

-- the order of a graph
abbrev pub graph_at : Plan → ℕ → CoverOrder
graph_at plan g = (slice_index_or plan.graphs g no_graph).graph

-- the order of the exceptions that are raised in p
abbrev pub internal_of : Plan → ℕ → CoverOrder
internal_of plan p = graph_at plan (action_at plan p).internal

-- the order of the exceptions that p tells outside
abbrev pub interface_of : Plan → ℕ → CoverOrder
interface_of plan p = graph_at plan (action_at plan p).interface

-- the name of an exception of a graph
abbrev pub exception_name : Plan → ℕ → ℕ → List ℕ
exception_name plan g x = slice_index_or (slice_index_or plan.graphs g no_graph).names x []

-- a nested use of the action of q
abbrev pub nest_in : Plan → ℕ → Option ℕ → NestRow
nest_in plan nest None = no_nest
nest_in plan nest (Some q) = slice_index_or (action_at plan q).nests nest no_nest

-- the use of the enclosing action that p is of
abbrev pub nest_of : Plan → ℕ → NestRow
nest_of plan p = nest_in plan (nest_number plan p) (parent plan p)

-- what an exception of p is in the place round it
abbrev pub map_signal : Plan → ℕ → ℕ → ℕ
map_signal plan p x = slice_index_or (nest_of plan p).maps x 0

-- ---- objects and plays

-- the value that o has at first
abbrev pub initial_of : Plan → ℕ → ℤ
initial_of plan o = (slice_index_or plan.objects o no_object).initial

-- the value that each object has at first
abbrev pub initials_of : Plan → List ℤ
initials_of plan = map (λ o. o.initial) plan.objects

-- those of these places in which t has a role
abbrev pub plays_with : Plan → ℕ → List ℕ → List ℕ
plays_with plan t [] = []
plays_with plan t (p ∷ ps) = if member t (roles_of plan p) then p ∷ plays_with plan t ps else plays_with plan t ps

-- the plays of t, in order
abbrev pub plays_of : Plan → ℕ → List ℕ
plays_of plan t = plays_with plan t plan.plays
