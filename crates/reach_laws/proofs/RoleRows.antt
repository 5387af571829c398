-- The players of a place and the rows of its action: what is said of the one is said of the other.
use Rattle.std.proofs.Common.{◌≡◌, ℕ, ◌<◌, Bool, true, ◌||◌, List, [], ◌∷◌, ◌++◌, map, length, slice_index_or, Some, zero, suc, refl, ap, ap₂, subst, arith}
use Rattle.std.specs.List.{list_all, list_any}
use Rattle.std.proofs.lemmas.Bool.{or_left, or_right}
use Rattle.caa_base.specs.declared.written.entry.Entry.{Entry}
use Rattle.caa_base.specs.declared.written.entry.Verdict.{Verdict}
use Rattle.place_plan.specs.declared.drafts.draft_rows.ActionRow.{ActionRow}
use Rattle.place_plan.specs.declared.drafts.draft_rows.RoleRow.{RoleRow}
use Rattle.place_plan.specs.Plans.PlanValue.{Plan}
use Rattle.caa_base.specs.Written.Lists.{member, index_of}
use Rattle.place_plan.specs.Plans.Places.{action_at, roles_of, role_row, no_role}
use Rattle.place_plan.specs.RulesOfJournals.Roles.{verdict_of, is_undo, wants_undo, signal_in, signals}
use Rattle.place_plan.proofs.OnPlans.Casts.{member_at}
use Rattle.place_plan.proofs.OnPlans.ClosedPlan.{member_index}
use Rattle.journal_laws.proofs.EnterSteps.{index_is}
use Rattle.reach_laws.specs.ReachedSteps.{ask_for_undo, all_signals}
use Rattle.reach_laws.specs.CanCome.{action_of}
use Rattle.reach_laws.specs.Reach.{action_number}
use Rattle.reach_laws.proofs.ListsAlone.{row_any, rows_all}
use Rattle.reach_laws.proofs.Planned.{IsPlanned}

-- who plays these rows says the verdict that f tells of the row
abbrev pub SayRows : List Entry → ℕ → (RoleRow → Verdict) → List ℕ → List RoleRow → Type 0
SayRows past p f ts rows =
    (i : ℕ) → i < length ts → verdict_of past p (slice_index_or ts i 0) ≡ Some (f (slice_index_or rows i no_role))

-- so they signal what these verdicts signal
rows_signal : (past : List Entry) (p : ℕ) (f : RoleRow → Verdict) (ts : List ℕ) (rows : List RoleRow)
    → length ts ≡ length rows → SayRows past p f ts rows → signals past p ts ≡ all_signals (map f rows)
rows_signal past p f [] [] l say = refl
rows_signal past p f [] (row ∷ rows) l say = absurd (omega (arith, l))
rows_signal past p f (t ∷ ts) [] l say = absurd (omega (arith, l))
rows_signal past p f (t ∷ ts) (row ∷ rows) l say =
    ap₂ (λ v xs. signal_in v ++ xs) (say zero (omega arith))
    (rows_signal past p f ts rows (omega (arith, l)) (λ i lt. say (suc i) (omega arith)))

-- and ask for an undo where these do
rows_ask : (past : List Entry) (p : ℕ) (f : RoleRow → Verdict) (ts : List ℕ) (rows : List RoleRow)
    → length ts ≡ length rows → SayRows past p f ts rows
    → list_any (λ t. is_undo (verdict_of past p t)) ts ≡ ask_for_undo (map f rows)
rows_ask past p f [] [] l say = refl
rows_ask past p f [] (row ∷ rows) l say = absurd (omega (arith, l))
rows_ask past p f (t ∷ ts) [] l say = absurd (omega (arith, l))
rows_ask past p f (t ∷ ts) (row ∷ rows) l say =
    ap₂ (λ v b. is_undo v || b) (say zero (omega arith))
    (rows_ask past p f ts rows (omega (arith, l)) (λ i lt. say (suc i) (omega arith)))

-- where the verdict of one row is undo, they ask for it
one_asks : (f : RoleRow → Verdict) (rows : List RoleRow) (i : ℕ) → i < length rows
    → is_undo (Some (f (slice_index_or rows i no_role))) ≡ true → ask_for_undo (map f rows) ≡ true
one_asks f [] i l h = absurd (omega arith)
one_asks f (row ∷ rows) zero l h = or_left _ _ h
one_asks f (row ∷ rows) (suc i) l h = or_right _ _ (one_asks f rows i (omega arith) h)

module _ (plan : Plan) (planned : IsPlanned plan) where
  -- each role of p says what f tells of its row
  abbrev pub AllSay : List Entry → ℕ → (RoleRow → Verdict) → Type 0
  AllSay past p f = (t : ℕ) → member t (roles_of plan p) ≡ true → verdict_of past p t ≡ Some (f (role_row plan p t))

  row_below : (p t : ℕ) → member t (roles_of plan p) ≡ true → index_of t (roles_of plan p) < length (action_at plan p).roles
  row_below p t m = omega (arith, member_index t (roles_of plan p) m, planned.many p)

  -- the row of the player at an index is the one at that index
  pub index_at : (p i : ℕ) → i < length (roles_of plan p) → index_of (slice_index_or (roles_of plan p) i 0) (roles_of plan p) ≡ i
  index_at p i l = index_is (roles_of plan p) i (slice_index_or (roles_of plan p) i 0) (planned.differ p) l refl

  say_rows : (past : List Entry) (p : ℕ) (f : RoleRow → Verdict) → AllSay past p f
      → SayRows past p f (roles_of plan p) (action_at plan p).roles
  say_rows past p f say i l =
      let t = slice_index_or (roles_of plan p) i 0 in
      subst (λ j. verdict_of past p t ≡ Some (f (slice_index_or (action_at plan p).roles j no_role))) (index_at p i l)
      (say t (member_at (roles_of plan p) i 0 l))

  pub all_signal : (past : List Entry) (p : ℕ) (f : RoleRow → Verdict) → AllSay past p f
      → signals past p (roles_of plan p) ≡ all_signals (map f (action_at plan p).roles)
  all_signal past p f say =
      rows_signal past p f (roles_of plan p) (action_at plan p).roles (planned.many p) (say_rows past p f say)

  pub all_ask : (past : List Entry) (p : ℕ) (f : RoleRow → Verdict) → AllSay past p f
      → wants_undo plan past p ≡ ask_for_undo (map f (action_at plan p).roles)
  all_ask past p f say =
      rows_ask past p f (roles_of plan p) (action_at plan p).roles (planned.many p) (say_rows past p f say)

  -- what the row of a role passes, some row of the action passes
  pub role_any : (p t : ℕ) (test : RoleRow → Bool) → member t (roles_of plan p) ≡ true → test (role_row plan p t) ≡ true
      → list_any test (action_of plan (action_number plan p)).roles ≡ true
  role_any p t test m h =
      subst (λ (a : ActionRow). list_any test a.roles ≡ true) (planned.actions p t m)
      (row_any test (action_at plan p).roles (index_of t (roles_of plan p)) no_role (row_below p t m) h)

  -- what the row of each role passes, all rows pass
  pub role_all : (p : ℕ) (test : RoleRow → Bool)
      → ((t : ℕ) → member t (roles_of plan p) ≡ true → test (role_row plan p t) ≡ true)
      → list_all test (action_at plan p).roles ≡ true
  role_all p test each = rows_all test (action_at plan p).roles no_role (λ i l.
      let below : i < length (roles_of plan p) = omega (arith, l, planned.many p) in
      subst (λ j. test (slice_index_or (action_at plan p).roles j no_role) ≡ true) (index_at p i below)
      (each (slice_index_or (roles_of plan p) i 0) (member_at (roles_of plan p) i 0 below)))

  -- where the row of a role says undo, the verdicts of the action ask for it
  pub role_asks : (p t : ℕ) (f : RoleRow → Verdict) → member t (roles_of plan p) ≡ true
      → is_undo (Some (f (role_row plan p t))) ≡ true → ask_for_undo (map f (action_at plan p).roles) ≡ true
  role_asks p t f m h = one_asks f (action_at plan p).roles (index_of t (roles_of plan p)) (row_below p t m) h

  -- the row of the player of a role of a use is that of the role
  pub row_played : (p r : ℕ) → r < length (roles_of plan p)
      → role_row plan p (slice_index_or (roles_of plan p) r 0) ≡ slice_index_or (action_at plan p).roles r no_role
  row_played p r l = ap (λ j. slice_index_or (action_at plan p).roles j no_role) (index_at p r l)
