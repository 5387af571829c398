-- What the checker finds, in the words of a table that leaves nothing out.
use Rattle.std.proofs.Common.{◌≡◌, ℕ, ◌==◌, ◌+◌, ◌<◌, ◌≤◌, Bool, true, false, not, ◌||◌, List, [], ◌∷◌, length, zero, suc, refl, sym, ◌∙◌, subst, arith, inl, inr}
use Rattle.std.specs.List.{list_all, range_with_len}
use Rattle.std.proofs.lemmas.Bool.{and_from, or_left, or_right, eqb-true, eq-eqb, false≢true, not_from_false, cases_Bool, cases_eq}
use Rattle.cover_table.specs.Cover.{CoverOrder, IsLeastCover, IsOrder}
use Rattle.place_plan.specs.Plans.PlanValue.{Plan}
use Rattle.place_plan.specs.Plans.Places.{graph_at, no_action}
use Rattle.caa_base.specs.Written.Lists.{member, is_empty}
use Rattle.place_plan.proofs.OnPlans.Passing.{past_end, below_or_not}
use Rattle.journal_laws.specs.Due.{is_least}
use Rattle.journal_laws.proofs.LeastOf.{least_is, is_least_from}
use Rattle.reach_laws.specs.CanCome.{action_of}
use Rattle.reach_tables.specs.declared.table.ReachRow.{ReachRow}
use Rattle.reach_tables.specs.ReachTable.{no_reach, row_of, groups_of, tells_signals, tells_resolved, TellsAll, LeavesNothingOut}

-- ---- tests and ranges

-- two tests of which each holds where the other does are one
pub as_one : (b c : Bool) → (b ≡ true → c ≡ true) → (c ≡ true → b ≡ true) → b ≡ c
as_one true c to from = sym (to refl)
as_one false true to from = from refl
as_one false false to from = refl

-- what each number from a on passes, all pass
pub range_all : (f : ℕ → Bool) (a n : ℕ) → ((x : ℕ) → a ≤ x → x < a + n → f x ≡ true) → list_all f (range_with_len a n) ≡ true
range_all f a zero each = refl
range_all f a (suc n) each =
    and_from (f a) (list_all f (range_with_len (a + 1) n)) (each a (omega arith) (omega arith))
    (range_all f (a + 1) n (λ x l m. each x (omega arith) (omega arith)))

-- and one number more
pub one_more : (f : ℕ → Bool) (n : ℕ) → ((x : ℕ) → x < n → f x ≡ true) → f n ≡ true → (x : ℕ) → x < n + 1 → f x ≡ true
one_more f n each last x l = elim (cases_eq x n) [
  | inl e ↦ subst (λ z. f z ≡ true) (sym e) last
  | inr e ↦ each x (omega arith)
]

-- ---- least covers

-- the least cover is the number that passes the test
pub least_same : (order : CoverOrder) (xs : List ℕ) (least x : ℕ) → IsOrder order → IsLeastCover order xs least → x < order.count
    → (least == x) ≡ is_least order xs x
least_same order xs least x ordered here below =
    as_one (least == x) (is_least order xs x)
    (λ e. subst (λ y. is_least order xs y ≡ true) (eqb-true least x e) (is_least_from order xs least here))
    (λ passes. let other = least_is order xs x below passes in
    eq-eqb least x (ordered.antisymmetric least x here.in_range other.in_range (other.least least here.in_range here.above)
    (here.least x other.in_range other.above)))

-- where the least cover is told, so is each number that passes the test
pub least_told : (order : CoverOrder) (xs told : List ℕ) (least : ℕ) → IsOrder order → IsLeastCover order xs least
    → member least told ≡ true
    → list_all (λ y. not (is_least order xs y) || member y told) (range_with_len 0 order.count) ≡ true
least_told order xs told least ordered here m =
    range_all (λ y. not (is_least order xs y) || member y told) 0 order.count each
  where
    each : (y : ℕ) → 0 ≤ y → y < 0 + order.count → not (is_least order xs y) || member y told ≡ true
    each y l below = elim (cases_Bool (is_least order xs y)) [
      | inl passes ↦
          let same : (least == y) ≡ true = least_same order xs least y ordered here (omega arith) ∙ passes in
          or_right _ _ (subst (λ z. member z told ≡ true) (eqb-true least y same) m)
      | inr fails ↦ or_left _ _ (not_from_false _ fails)
    ]

-- a list with a member isn't empty
pub not_none : {A : Type 0} (xs : List A) → (length xs == 0) ≡ false → is_empty xs ≡ false
not_none [] none = none
not_none (x ∷ xs) none = refl

-- of some signals the end is told where their least cover is
pub signals_told : (order : CoverOrder) (row : ReachRow) (xs : List ℕ) (least : ℕ) → IsOrder order → IsLeastCover order xs least
    → is_empty xs ≡ false → member least row.signals ≡ true → tells_signals order row xs ≡ true
signals_told order row [] least ordered here some m = absurd (false≢true (sym some))
signals_told order row (x ∷ xs) least ordered here some m = least_told order (x ∷ xs) row.signals least ordered here m

-- ---- past the last action

-- of an action that isn't there all is told
none_told : (plan : Plan) (table : List ReachRow) → TellsAll plan table no_action no_reach
none_told plan table = record {
  order = refl;
  uses = refl;
  calm = refl;
  resolved = range_all (tells_resolved (graph_at plan 0) (graph_at plan 0) no_action no_reach (groups_of no_action no_reach)) 0
      (graph_at plan 0).count (λ x l m. refl);
  failures = refl;
}

-- what is told of each action of the plan is told of each number
pub every_number : (plan : Plan) (table : List ReachRow) → length plan.actions ≡ length table
    → ((a : ℕ) → a < length plan.actions → TellsAll plan table (action_of plan a) (row_of table a)) → LeavesNothingOut plan table
every_number plan table same each a = elim (below_or_not a (length plan.actions)) [
  | inl below ↦ each a below
  | inr past ↦
      subst (λ action. TellsAll plan table action (row_of table a)) (sym (past_end plan.actions a no_action past))
      (subst (TellsAll plan table no_action) (sym (past_end table a no_reach (omega (arith, same)))) (none_told plan table))
]
