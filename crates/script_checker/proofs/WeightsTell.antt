-- Tables that tell how much the actions of a script unfold into, where none is too deep.
use Rattle.std.proofs.Common.{◌≡◌, ℕ, suc, zero, ◌+◌, ◌<◌, ◌≤◌, nat_lt, true, List, [], ◌∷◌, map, length, slice_index_or, refl, arith, sum_by}
use Rattle.std.specs.List.{list_all}
use Rattle.std.proofs.lemmas.Bool.{and_parts, ltb-true}
use Rattle.std.proofs.lemmas.List.Sums.{sum_by-cons}
use Rattle.place_plan.specs.declared.drafts.draft_rows.ActionRow.{ActionRow}
use Rattle.place_plan.specs.declared.drafts.draft_rows.NestRow.{NestRow}
use Rattle.place_plan.specs.Plans.Places.{no_action}
use Rattle.place_plan.specs.Drafts.DraftRules.{all_below, deepest_of, deepest}
use Rattle.place_plan.specs.Plans.Weights.{counted, at, nested_weight, weight}
use Rattle.caa_base.proofs.ListLemmas.{at_row}
use Rattle.script_checker.proofs.DepthsKept.{IsDepth}

-- the weights of the actions by themselves
abbrev pub own_weights : (ActionRow → ℕ) → List ActionRow → List ℕ
own_weights own actions = map own actions

pub own_at : (own : ActionRow → ℕ) (actions : List ActionRow) (a : ℕ) → a < length actions
    → at (own_weights own actions) a ≡ own (slice_index_or actions a no_action)
own_at own [] a l = absurd (omega arith)
own_at own (x ∷ xs) zero l = refl
own_at own (x ∷ xs) (suc a) l = own_at own xs a (omega arith)

-- the table tells what the action and all that is nested in it weigh, as far as it is counted
abbrev pub IsWeight : (ActionRow → ℕ) → List ℕ → List ActionRow → ℕ → Type 0
IsWeight own table actions a =
    at table a ≡ counted (own (slice_index_or actions a no_action) + nested_weight (at table) (slice_index_or actions a no_action).nests)

module _ (own : ActionRow → ℕ) (depths table : List ℕ) (actions : List ActionRow) (deep : (a : ℕ) → a < length actions
    → IsDepth depths actions a) (tell : (a : ℕ) → a < length actions → IsWeight own table actions a)
    (there : list_all (λ (action : ActionRow). list_all (λ (nest : NestRow). all_below (length actions) nest.actions)
    action.nests) actions ≡ true) where
  -- this tells what the table does of all actions that are no deeper
  abbrev Agrees : ℕ → (ℕ → ℕ) → Type 0
  Agrees most f = (a : ℕ) → a < length actions → at depths a ≤ most → at table a ≡ counted (f a)

  acts_agree : (most : ℕ) (f : ℕ → ℕ) (acts : List ℕ) → Agrees most f → all_below (length actions) acts ≡ true
      → deepest_of (at depths) acts ≤ most → counted (sum_by (at table) acts) ≡ counted (sum_by f acts)
  acts_agree most f [] ih h d = refl
  acts_agree most f (a ∷ acts) ih h d =
      let p = and_parts (nat_lt a (length actions)) (all_below (length actions) acts) h in
      let shallow : at depths a ≤ most = omega arith in
      let rest : deepest_of (at depths) acts ≤ most = omega arith in
      omega
      (arith, sum_by-cons (at table) a acts, sum_by-cons f a acts, ih a (ltb-true _ _ p.0) shallow, acts_agree most f acts ih p.1 rest)

  nests_agree : (most : ℕ) (f : ℕ → ℕ) (nests : List NestRow) → Agrees most f
      → list_all (λ (nest : NestRow). all_below (length actions) nest.actions) nests ≡ true → deepest (at depths) nests ≤ most
      → counted (nested_weight (at table) nests) ≡ counted (nested_weight f nests)
  nests_agree most f [] ih h d = refl
  nests_agree most f (nest ∷ nests) ih h d =
      let p =
      and_parts (all_below (length actions) nest.actions)
      (list_all (λ (nest : NestRow). all_below (length actions) nest.actions) nests) h in
      let first : deepest_of (at depths) nest.actions ≤ most = omega arith in
      let rest : deepest (at depths) nests ≤ most = omega arith in
      omega (
        arith,
        sum_by-cons (λ (other : NestRow). sum_by (at table) other.actions) nest nests,
        sum_by-cons (λ (other : NestRow). sum_by f other.actions) nest nests,
        acts_agree most f nest.actions ih p.0 first,
        nests_agree most f nests ih p.1 rest,
      )

  pub weighs : (most : ℕ) → Agrees most (weight (own_weights own actions) most actions)
  unfolding weight
  weighs zero a l d = let k = (deep a l).0 in absurd (omega arith)
  weighs (suc most) a l d =
      let nests = (slice_index_or actions a no_action).nests in
      let k = (deep a l).0 in
      let shallow : deepest (at depths) nests ≤ most = omega arith in
      let below =
      at_row (λ (action : ActionRow). list_all (λ (nest : NestRow). all_below (length actions) nest.actions) action.nests) actions a
      no_action there l in
      omega (
        arith,
        tell a l,
        own_at own actions a l,
        nests_agree most (weight (own_weights own actions) most actions) nests (weighs most) below shallow,
      )
