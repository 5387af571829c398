-- What a name means by what is kept is what it means to the checks.
use Rattle.std.proofs.Common.{◌≡◌, ℕ, List, [], ◌∷◌, length, map, get_or, unwrap_or, refl, ap, ◌∙◌}
use Rattle.std.proofs.lemmas.List.{length-map}
use lib.ListN.{get_or-map as map_index}
use Rattle.caa_base.specs.Written.Lists.{index_of, first_of}
use Rattle.place_plan.specs.Plans.Places.{no_nest, no_action}
use Rattle.place_plan.specs.declared.drafts.draft_rows.ActionRow.{ActionRow}
use Rattle.action_script.specs.declared.lines.sort.Sort.{Sort}
use Rattle.action_script.specs.declared.lines.sort.Sort.TheVariants as sort
use Rattle.script_checker.specs.declared.declared.SoFar.{SoFar}
use Rattle.script_checker.specs.declared.declared.Block.{Block}
use Rattle.script_checker.specs.declared.declared.Block.TheVariants as block
use Rattle.script_checker.specs.declared.open_graph.DeclaredGraph.{DeclaredGraph}
use Rattle.script_checker.specs.DeclaredSoFar.{begun_nest, nest_of, no_graph}
use Rattle.name_uses.specs.declared.thing.Thing.TheVariants as thing
use Rattle.name_uses.specs.Meanings.{roles_in, nests_in, own_in, internal_in, interface_in, face_in, exception_of, meant}
use Rattle.name_uses.specs.inner.Scopes.{inside_of, scope_of, roles_at, nests_at, own_at, internal_at, interface_at, face_at, exception_at, meaning_at}
use Rattle.name_uses.proofs.ScopeSteps.{first_action}

-- ---- the block

roles_same : (b : Block) → roles_at (inside_of b) ≡ roles_in b
roles_same block.Top = refl
roles_same (block.Graph g) = refl
roles_same (block.Action a) = refl

nests_same : (b : Block) → nests_at (inside_of b) ≡ nests_in b
nests_same block.Top = refl
nests_same (block.Graph g) = refl
nests_same (block.Action a) = refl

own_same : (b : Block) → own_at (inside_of b) ≡ own_in b
own_same block.Top = refl
own_same (block.Graph g) = refl
own_same (block.Action a) = refl

internal_same : (b : Block) → internal_at (inside_of b) ≡ internal_in b
internal_same block.Top = refl
internal_same (block.Graph g) = refl
internal_same (block.Action a) = refl

interface_same : (b : Block) → interface_at (inside_of b) ≡ interface_in b
interface_same block.Top = refl
interface_same (block.Graph g) = refl
interface_same (block.Action a) = refl

-- ---- what nested uses tell outside

first_or : (actions : List ℕ) → unwrap_or (first_of actions) 0 ≡ get_or actions 0 0
first_or [] = refl
first_or (x ∷ xs) = refl

face_same : (s : SoFar) (b : Block) (nest : ℕ) → face_at (scope_of s) (inside_of b) nest ≡ face_in s.declared b nest
face_same s block.Top nest = refl
face_same s (block.Graph g) nest = refl
face_same s (block.Action a) nest =
    let faces = map (λ (row : ActionRow). row.interface) s.declared.actions in
    let first = get_or (nest_of a nest).row.actions 0 0 in
    ap (λ o. get_or faces (unwrap_or o 0) 0) (map_index first_action a.nests (index_of nest a.nest_names) (begun_nest no_nest))
    ∙ ap (λ k. get_or faces k 0) (first_or (nest_of a nest).row.actions)
    ∙ map_index (λ (row : ActionRow). row.interface) s.declared.actions first no_action

-- ---- names

exception_same : (s : SoFar) (g name : ℕ) → exception_at (scope_of s) g name ≡ exception_of s.declared g name
exception_same s g name =
    ap (λ exceptions. thing.Exception g (index_of name exceptions))
    (map_index (λ (graph : DeclaredGraph). graph.exceptions) s.declared.graphs g no_graph)

exception_by : (s : SoFar) (g h name : ℕ) → g ≡ h → exception_at (scope_of s) g name ≡ exception_of s.declared h name
exception_by s g h name same = ap (λ k. exception_at (scope_of s) k name) same ∙ exception_same s h name

pub meaning_is : (s : SoFar) (srt : Sort) (name : ℕ) → meaning_at (scope_of s) srt name ≡ meant s srt name
meaning_is s sort.Participant name = refl
meaning_is s sort.Object name = refl
meaning_is s sort.Graph name = refl
meaning_is s sort.Action name = refl
meaning_is s sort.Role name =
    ap (λ k. thing.Role k (index_of name (roles_at (inside_of s.block))))
    (length-map s.declared.actions (λ (row : ActionRow). row.interface))
    ∙ ap (λ names. thing.Role (length s.declared.actions) (index_of name names)) (roles_same s.block)
meaning_is s sort.Nest name =
    ap (λ k. thing.Nest k (index_of name (nests_at (inside_of s.block))))
    (length-map s.declared.actions (λ (row : ActionRow). row.interface))
    ∙ ap (λ names. thing.Nest (length s.declared.actions) (index_of name names)) (nests_same s.block)
meaning_is s sort.Own name =
    ap (λ k. thing.Exception k (index_of name (own_at (inside_of s.block))))
    (length-map s.declared.graphs (λ (graph : DeclaredGraph). graph.exceptions))
    ∙ ap (λ names. thing.Exception (length s.declared.graphs) (index_of name names)) (own_same s.block)
meaning_is s sort.Inner name = exception_by s _ (internal_in s.block) name (internal_same s.block)
meaning_is s sort.Outer name = exception_by s _ (interface_in s.block) name (interface_same s.block)
meaning_is s (sort.Told nest) name = exception_by s _ (face_in s.declared s.block nest) name (face_same s s.block nest)
