-- What holds of the spots of every legal journal. `past` is its entries, the newest first.
use Rattle.std.specs.Prelude.{◌≡◌, ℕ, ◌==◌, nat_lt, count_by, true, false, not, ◌&&◌, ◌||◌, if◌then◌else◌, List, Bool, Some, None, slice_get, suc}
use Rattle.std.specs.List.{list_any}
use Rattle.caa_base.specs.declared.written.entry.Entry.{Entry}
use Rattle.place_plan.specs.declared.drafts.draft_rows.Step.TheVariants as step
use Rattle.place_plan.specs.Plans.PlanValue.{Plan}
use Rattle.place_plan.specs.Plans.Places.{parent, alternates_of, body_of, handler_of}
use Rattle.place_plan.specs.RulesOfJournals.Whereabouts.{inside, stays, has_ended, is_left_in_silence}
use Rattle.place_plan.specs.RulesOfJournals.Raising.{has_handled, is_raised, is_doomed, exception_resolved}
use Rattle.place_plan.specs.RulesOfJournals.Roles.{position, is_handling, was_refused_in_handler, verdict_of, is_undo}
use Rattle.interlock_laws.specs.Spots.{own_step, whole_use, given_up, Spot, body_at, raised_at, quiet_at, handler_at, broken_at, resolved_to, spot_of, behind, told, raised_by}

-- ---- spot is position

-- the handler of t in p was broken off, or asked for an undo at its end
abbrev pub is_broken_off : List Entry → ℕ → ℕ → Bool
is_broken_off past p t = was_refused_in_handler past p t || (not (is_handling past p t) && is_undo (verdict_of past p t))

-- where t stands in p, which is resolved to x: before its first step, as long as it hasn't begun the handler
abbrev pub handler_spot : Plan → List Entry → ℕ → ℕ → ℕ → Spot
handler_spot plan past p t x =
    if has_handled past p t then (if is_broken_off past p t then broken_at x else handler_at x (position plan past p t))
    else resolved_to x (handler_of plan p t x)

-- t is inside p, which isn't resolved
pub record IsUnresolvedIn (plan : Plan) (past : List Entry) (p t : ℕ) : Type 0 where
  pub here : inside plan past t ≡ Some p
  pub unresolved : exception_resolved past p ≡ None

-- where roles stand is what the rules say of them
pub record SpotIsPosition (plan : Plan) (past : List Entry) : Type 0 where
  -- before a place is resolved, who is inside it has just the steps behind it that it has made
  pub steps : (p t : ℕ) → IsUnresolvedIn plan past p t → behind (spot_of plan past p t) ≡ position plan past p t
  -- and has raised just what its spot says, unless the place is doomed: nothing, or one exception
  pub raised : (p t : ℕ) → IsUnresolvedIn plan past p t → is_doomed plan past p ≡ false
      → raised_by plan past p t ≡ told (spot_of plan past p t)
  -- so where nothing is raised in it or round it, it is in its body
  pub calm : (p t : ℕ) → IsUnresolvedIn plan past p t → is_doomed plan past p ≡ false → is_raised plan past p ≡ false
      → (j : ℕ) × (spot_of plan past p t ≡ body_at (position plan past p t) j)
  -- who is in a place right inside p, or further in, stands at the step that it enters by, until that place ends
  pub further : (p c t : ℕ) → exception_resolved past p ≡ None → parent plan c ≡ Some p → stays past c t ≡ true
      → has_ended past c ≡ false → (j : ℕ) × (spot_of plan past p t ≡ body_at (position plan past p t) j)
  -- and from then on has the use behind it, unless it goes on to a further alternate
  pub back : (p c t : ℕ) → exception_resolved past p ≡ None → parent plan c ≡ Some p → stays past c t ≡ true
      → has_ended past c ≡ true
      → behind (spot_of plan past p t)
      ≡ (if is_left_in_silence plan past c then position plan past p t else suc (position plan past p t))
  -- in a place that is resolved it stands in its handler
  pub resolved : (p t x : ℕ) → exception_resolved past p ≡ Some x → spot_of plan past p t ≡ handler_spot plan past p t x

-- ---- fit

-- a place of a use is the last that was entered, and has ended
abbrev pub is_over : Plan → List Entry → ℕ → Bool
is_over plan past c = has_ended past c && not (is_left_in_silence plan past c)

-- the use k of p is over
abbrev pub is_use_over : Plan → List Entry → ℕ → ℕ → Bool
is_use_over plan past p k = list_any (is_over plan past) (alternates_of plan p k)

-- a role of a place that isn't resolved has a use behind it just where the use is over
abbrev pub UsesAreOver : Plan → List Entry → Type 0
UsesAreOver plan past =
    (p t n k : ℕ) → exception_resolved past p ≡ None → slice_get (body_of plan p t).steps n ≡ Some (step.Enter k)
    → is_use_over plan past p k ≡ nat_lt n (behind (spot_of plan past p t))

-- who is at a step that enters a use is at the alternate behind all that were left in silence
abbrev pub AlternatesAreLeft : Plan → List Entry → Type 0
AlternatesAreLeft plan past =
    (p t i j k : ℕ) → exception_resolved past p ≡ None → slice_get (body_of plan p t).steps i ≡ Some (step.Enter k)
    → spot_of plan past p t ≡ body_at i j → j ≡ count_by (is_left_in_silence plan past) (alternates_of plan p k)

-- the role has come out of the use that the step n enters, which was given up
abbrev pub is_given_up : ℕ → Spot → Bool
is_given_up n (raised_at (given_up i) y) = i == n
is_given_up n (quiet_at i) = i == suc n
is_given_up n spot = false

-- the same, or it has raised something by the step behind since
abbrev pub was_given_up : ℕ → Spot → Bool
was_given_up n (raised_at (own_step i) y) = i == suc n
was_given_up n spot = is_given_up n spot

-- t can stand at the spot a of a place that isn't resolved while u stands at b there
pub record Fits (plan : Plan) (p t u : ℕ) (a b : Spot) : Type 0 where
  -- a use that both enter is behind both, or behind neither
  pub over : (n m k : ℕ) → slice_get (body_of plan p t).steps n ≡ Some (step.Enter k)
      → slice_get (body_of plan p u).steps m ≡ Some (step.Enter k) → nat_lt n (behind a) ≡ nat_lt m (behind b)
  -- who is about to enter it is so at one alternate
  pub turn : (n m k i j : ℕ) → slice_get (body_of plan p t).steps n ≡ Some (step.Enter k)
      → slice_get (body_of plan p u).steps m ≡ Some (step.Enter k) → a ≡ body_at n i → b ≡ body_at m j → i ≡ j
  -- what the one has raised when it came out of it, the other has
  pub whole : (n m k y : ℕ) → slice_get (body_of plan p t).steps n ≡ Some (step.Enter k)
      → slice_get (body_of plan p u).steps m ≡ Some (step.Enter k) → a ≡ raised_at (whole_use n) y → b ≡ raised_at (whole_use m) y
  -- and if it was given up, it was so for both
  pub gave_up : (n m k : ℕ) → slice_get (body_of plan p t).steps n ≡ Some (step.Enter k)
      → slice_get (body_of plan p u).steps m ≡ Some (step.Enter k) → is_given_up n a ≡ true → was_given_up m b ≡ true

-- so do any two roles
abbrev pub SpotsFit : Plan → List Entry → Type 0
SpotsFit plan past =
    (p t u : ℕ) → exception_resolved past p ≡ None → Fits plan p t u (spot_of plan past p t) (spot_of plan past p u)
