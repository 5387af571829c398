-- Rows and outlooks to which one is added rule out what they may.
use Rattle.std.proofs.Common.{◌≡◌, ℕ, zero, suc, Bool, true, false, not, List, [], ◌∷◌, ◌++◌, map, length, slice_index_or, sym, ◌∙◌, refl}
use Rattle.std.proofs.lemmas.Bool.{false≢true}
use Rattle.caa_base.specs.Written.Lists.{member}
use Rattle.place_plan.specs.Plans.PlanValue.{Plan}
use Rattle.reach_tables.specs.Never.{NeverResolved, ListNever}
use Rattle.script_outcomes.specs.declared.outlooks.Outlook.{Outlook}
use Rattle.script_outcomes.specs.declared.outlooks.Row.{Row}
use Rattle.script_outcomes.specs.Nevers.{can_come, TellsNever}
use Rattle.script_outcomes.specs.inner.RuledOut.{RulesOutOnly}

-- what holds of each place of a list, and past its end, still holds with one more that it holds of
pub each_more : {A B : Type 0} (f : B → A) (Q : ℕ → A → Type 0) (d : A) → ((n : ℕ) → Q n d) → (xs : List B) (x : B)
    → ((n : ℕ) → Q n (slice_index_or (map f xs) n d)) → Q (length xs) (f x)
    → (n : ℕ) → Q n (slice_index_or (map f (xs ++ x ∷ [])) n d)
each_more f Q d past [] x each last zero = last
each_more f Q d past [] x each last (suc n) = past (suc n)
each_more f Q d past (y ∷ ys) x each last zero = each zero
each_more f Q d past (y ∷ ys) x each last (suc n) =
    each_more f (λ m. Q (suc m)) d (λ m. past (suc m)) ys x (λ m. each (suc m)) last n

-- a test whose opposite fails passes
not_false : (b : Bool) → not b ≡ false → b ≡ true
not_false true e = refl
not_false false e = sym e

-- a row that can come unless its number is among them
pub rows_more : (nevers : List ℕ) (rows : List Row) (row : Row) → RulesOutOnly nevers rows
    → row.can_come ≡ not (member (length rows) nevers) → RulesOutOnly nevers (rows ++ row ∷ [])
rows_more nevers rows row only can =
    each_more (λ r. r.can_come) (λ n b. b ≡ false → member n nevers ≡ true) true (λ n e. absurd (false≢true (sym e))) rows row only
    (λ no. not_false (member (length rows) nevers) (sym can ∙ no))

-- the outlook of the next action, whose rows rule out only what is listed for it
pub outlooks_more : (plan : Plan) (lists : List (List ℕ)) (outlooks : List Outlook) (outlook : Outlook) → ListNever plan lists
    → TellsNever plan outlooks → RulesOutOnly (slice_index_or lists (length outlooks) []) outlook.rows.items
    → TellsNever plan (outlooks ++ outlook ∷ [])
outlooks_more plan lists outlooks outlook listed tells only =
    each_more (λ o. o.rows.items) (λ a rows. (x : ℕ) → can_come rows x ≡ false → NeverResolved plan a x) []
    (λ a x e. absurd (false≢true (sym e))) outlooks outlook tells (λ x no. listed (length outlooks) x (only x no))
