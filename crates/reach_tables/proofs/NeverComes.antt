-- What a table that leaves nothing out doesn't tell to be resolved never is.
use Rattle.std.proofs.Common.{◌≡◌, ℕ, ◌==◌, ◌<◌, true, false, List, [], ◌∷◌, length, slice_index_or, zero, suc, sym, ◌∙◌, subst, arith, inl, inr}
use Rattle.std.specs.List.{All}
use Rattle.std.proofs.lemmas.Bool.{or_cases, eqb-true, false≢true}
use Rattle.caa_base.specs.Written.Lists.{member}
use Rattle.place_plan.specs.Plans.PlanValue.{Plan}
use Rattle.place_plan.specs.Plans.Places.{graph_at}
use Rattle.place_plan.proofs.OnPlans.Passing.{past_end, below_or_not}
use Rattle.journal_laws.specs.Laws.{Holds}
use Rattle.reach_laws.specs.CanCome.{action_of, CanBeResolved}
use Rattle.reach_laws.specs.Reach.{ResolvesNoOther}
use Rattle.reach_tables.specs.declared.table.ReachRow.{ReachRow}
use Rattle.reach_tables.specs.ReachTable.{row_of, groups_of, can_resolve, LeavesNothingOut}
use Rattle.reach_tables.specs.Never.{ListNever}
use Rattle.reach_tables.specs.inner.NoneComes.{NoneComes}
use Rattle.reach_tables.proofs.AllTold.{resolved_told}

-- what holds of all numbers of a list holds of a member
all_member : (P : ℕ → Type 0) (xs : List ℕ) (x : ℕ) → All P xs → member x xs ≡ true → P x
all_member P [] x all m = absurd (false≢true m)
all_member P (y ∷ ys) x all m = elim (or_cases (y == x) (member x ys) m) [
  | inl e ↦ subst P (eqb-true y x e) (all zero x (omega arith))
  | inr e ↦ all_member P ys x (λ k d l. all (suc k) d (omega arith)) e
]

-- what the table tells of an action isn't resolved in a place of it
none_resolved : (plan : Plan) (table : List ReachRow) → LeavesNothingOut plan table → (a x : ℕ) (xs : List ℕ)
    → NoneComes plan (row_of table a) a xs → member x xs ≡ true → CanBeResolved plan a x → ⊥
none_resolved plan table all a x xs none m can =
    let groups = groups_of (action_of plan a) (row_of table a) in
    false≢true (sym (all_member (λ y. can_resolve (graph_at plan (action_of plan a).internal) groups y ≡ false) xs x none m)
    ∙ (resolved_told plan table all a x can).1)

-- so lists of what it doesn't tell list what is never resolved
pub list_never : (plan : Plan) (table : List ReachRow) (lists : List (List ℕ)) → LeavesNothingOut plan table
    → Holds ResolvesNoOther plan
    → ((a : ℕ) → a < length lists → NoneComes plan (row_of table a) a (slice_index_or lists a [])) → ListNever plan lists
list_never plan table lists all law each a x m past legal p here resolved =
    let can : CanBeResolved plan a x = subst (λ b. CanBeResolved plan b x) here (law past legal p x resolved) in
    elim (below_or_not a (length lists)) [
      | inl below ↦ none_resolved plan table all a x (slice_index_or lists a []) (each a below) m can
      | inr beyond ↦ absurd (false≢true (subst (λ xs. member x xs ≡ true) (past_end lists a [] beyond) m))
    ]
