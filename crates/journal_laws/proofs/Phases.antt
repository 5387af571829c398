-- How far a place has come: it waits, is calm or hot, is doomed, is being undone, or has ended.
use Rattle.std.proofs.Common.{◌≡◌, ℕ, Bool, true, false, not, ◌&&◌, ◌||◌, List, refl, inl, inr}
use Rattle.std.proofs.lemmas.Bool.{and_parts, and_from, or_cases, not-true, not_from_false, cases_Bool}
use Rattle.caa_base.specs.declared.written.entry.Entry.{Entry}
use Rattle.place_plan.specs.Plans.PlanValue.{Plan}
use Rattle.place_plan.specs.RulesOfJournals.Whereabouts.{has_started, has_ended, is_undoing, is_live, is_going}
use Rattle.place_plan.specs.RulesOfJournals.Raising.{is_raised, is_doomed, is_calm, is_hot}

-- ---- one phase or another

-- the phase of p, with what the decision asks on its way there
pub data Phase (plan : Plan) (past : List Entry) (p : ℕ) : Type 0 where
  at_end : has_ended past p ≡ true → Phase plan past p
  at_wait : has_ended past p ≡ false → has_started past p ≡ false → Phase plan past p
  at_undo : has_ended past p ≡ false → has_started past p ≡ true → is_undoing past p ≡ true → Phase plan past p
  at_doom : has_ended past p ≡ false → has_started past p ≡ true → is_undoing past p ≡ false
      → is_doomed plan past p ≡ true → Phase plan past p
  at_hot : has_ended past p ≡ false → has_started past p ≡ true → is_undoing past p ≡ false
      → is_doomed plan past p ≡ false → is_raised plan past p ≡ true → Phase plan past p
  at_calm : has_ended past p ≡ false → has_started past p ≡ true → is_undoing past p ≡ false
      → is_doomed plan past p ≡ false → is_raised plan past p ≡ false → Phase plan past p

pub phase_of : (plan : Plan) (past : List Entry) (p : ℕ) → Phase plan past p
phase_of plan past p = elim (cases_Bool (has_ended past p)) [
  | inl a ↦ at_end a
  | inr a ↦ elim (cases_Bool (has_started past p)) [
    | inr b ↦ at_wait a b
    | inl b ↦ elim (cases_Bool (is_undoing past p)) [
      | inl c ↦ at_undo a b c
      | inr c ↦ elim (cases_Bool (is_doomed plan past p)) [
        | inl d ↦ at_doom a b c d
        | inr d ↦ elim (cases_Bool (is_raised plan past p)) [ inl x ↦ at_hot a b c d x | inr x ↦ at_calm a b c d x ]
      ]
    ]
  ]
]

-- ---- what goes on, and what is open: going on, with nothing raised round it

pub record IsGoing (past : List Entry) (p : ℕ) : Type 0 where
  pub started : has_started past p ≡ true
  pub lasts : has_ended past p ≡ false
  pub kept : is_undoing past p ≡ false

pub going_parts : (past : List Entry) (p : ℕ) → is_going past p ≡ true → IsGoing past p
going_parts past p h =
    let a = and_parts (is_live past p) (not (is_undoing past p)) h in
    let b = and_parts (has_started past p) (not (has_ended past p)) a.0 in
    record { started = b.0; lasts = not-true _ b.1; kept = not-true _ a.1 }

pub going_from : (past : List Entry) (p : ℕ) → has_ended past p ≡ false → has_started past p ≡ true
    → is_undoing past p ≡ false → is_going past p ≡ true
going_from past p f s u =
    and_from (is_live past p) (not (is_undoing past p))
    (and_from (has_started past p) (not (has_ended past p)) s (not_from_false _ f)) (not_from_false _ u)

-- p goes on, and nothing was raised round it: it is calm or hot
abbrev pub is_open : Plan → List Entry → ℕ → Bool
is_open plan past p = is_going past p && not (is_doomed plan past p)

pub record IsOpen (plan : Plan) (past : List Entry) (p : ℕ) : Type 0 where
  pub goes : is_going past p ≡ true
  pub started : has_started past p ≡ true
  pub lasts : has_ended past p ≡ false
  pub kept : is_undoing past p ≡ false
  pub spared : is_doomed plan past p ≡ false

pub open_parts : (plan : Plan) (past : List Entry) (p : ℕ) → is_open plan past p ≡ true → IsOpen plan past p
open_parts plan past p h =
    let a = and_parts (is_going past p) (not (is_doomed plan past p)) h in
    let g = going_parts past p a.0 in
    record { goes = a.0; started = g.started; lasts = g.lasts; kept = g.kept; spared = not-true _ a.1 }

pub open_from : (plan : Plan) (past : List Entry) (p : ℕ) → is_going past p ≡ true → is_doomed plan past p ≡ false
    → is_open plan past p ≡ true
open_from plan past p g d = and_from (is_going past p) (not (is_doomed plan past p)) g (not_from_false _ d)

-- ---- calm and hot

pub calm_open : (plan : Plan) (past : List Entry) (p : ℕ) → is_calm plan past p ≡ true
    → IsOpen plan past p × (is_raised plan past p ≡ false)
calm_open plan past p h =
    let a = and_parts (is_going past p) (not (is_doomed plan past p) && not (is_raised plan past p)) h in
    let b = and_parts (not (is_doomed plan past p)) (not (is_raised plan past p)) a.1 in
    (open_parts plan past p (open_from plan past p a.0 (not-true _ b.0)), not-true _ b.1)

pub hot_open : (plan : Plan) (past : List Entry) (p : ℕ) → is_hot plan past p ≡ true → IsOpen plan past p × (is_raised plan past p ≡ true)
hot_open plan past p h =
    let a = and_parts (is_going past p) (not (is_doomed plan past p) && is_raised plan past p) h in
    let b = and_parts (not (is_doomed plan past p)) (is_raised plan past p) a.1 in
    (open_parts plan past p (open_from plan past p a.0 (not-true _ b.0)), b.1)

pub calm_from : (plan : Plan) (past : List Entry) (p : ℕ) → IsOpen plan past p → is_raised plan past p ≡ false → is_calm plan past p ≡ true
calm_from plan past p o r =
    and_from (is_going past p) _ o.goes
    (and_from (not (is_doomed plan past p)) _ (not_from_false _ o.spared) (not_from_false _ r))

pub hot_from : (plan : Plan) (past : List Entry) (p : ℕ) → IsOpen plan past p → is_raised plan past p ≡ true → is_hot plan past p ≡ true
hot_from plan past p o r = and_from (is_going past p) _ o.goes (and_from (not (is_doomed plan past p)) _ (not_from_false _ o.spared) r)

-- what isn't raised isn't hot, and what is isn't calm
pub not_hot : (plan : Plan) (past : List Entry) (p : ℕ) → is_raised plan past p ≡ false → is_hot plan past p ≡ false
not_hot plan past p r = out (is_going past p) (not (is_doomed plan past p)) (is_raised plan past p) r
  where
    out : (a b c : Bool) → c ≡ false → (a && (b && c)) ≡ false
    out false b c h = refl
    out true false c h = refl
    out true true c h = h

pub not_calm : (plan : Plan) (past : List Entry) (p : ℕ) → is_raised plan past p ≡ true → is_calm plan past p ≡ false
not_calm plan past p r = out (is_going past p) (not (is_doomed plan past p)) (is_raised plan past p) r
  where
    out : (a b c : Bool) → c ≡ true → (a && (b && not c)) ≡ false
    out false b c h = refl
    out true false c h = refl
    out true true c h = rw h refl

-- a place that is calm or hot is open
pub open_either : (plan : Plan) (past : List Entry) (p : ℕ) → is_calm plan past p || is_hot plan past p ≡ true → IsOpen plan past p
open_either plan past p h = elim (or_cases (is_calm plan past p) (is_hot plan past p) h) [
  | inl w ↦ (calm_open plan past p w).0
  | inr w ↦ (hot_open plan past p w).0
]
