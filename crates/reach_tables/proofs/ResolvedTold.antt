-- What is the least cover of exceptions of which no sources exclude each other can be resolved, by what is told of an action.
use Rattle.std.proofs.Common.{◌≡◌, ℕ, ◌==◌, ◌<◌, Bool, true, false, cond, ◌&&◌, ◌||◌, List, [], ◌∷◌, map, length, refl, sym, subst, arith, inl, inr}
use Rattle.std.specs.List.{list_all, list_any, filter}
use Rattle.std.proofs.lemmas.Bool.{and_from, or_cases, or_left, or_right, eqb-true, eq-eqb, false≢true, cases_eq}
use Rattle.cover_table.specs.Cover.{CoverOrder, IsLeastCover, covers}
use Rattle.caa_base.specs.Written.Lists.{member}
use Rattle.caa_base.proofs.ListLemmas.{all_at, all_from}
use Rattle.place_plan.specs.declared.drafts.draft_rows.ActionRow.{ActionRow}
use Rattle.journal_laws.specs.Due.{is_least}
use Rattle.journal_laws.proofs.LeastOf.{is_least_from}
use Rattle.reach_laws.specs.CanCome.{Source, Excludes, AreTogether}
use Rattle.reach_tables.specs.declared.table.ReachRow.{ReachRow}
use Rattle.reach_tables.specs.declared.table.Told.{Told}
use Rattle.reach_tables.specs.ReachTable.{all_told, are_together, group_of, groups_of, resolves, can_resolve, tells_order}
use Rattle.reach_tables.proofs.SourcesTold.{told_as, named_together, IsAmong}

-- ---- what a filter keeps

-- all that a test keeps passes it, and what passes is kept
kept_pass : (test : ℕ → Bool) (xs : List ℕ) → list_all test (filter test xs) ≡ true
kept_pass test [] = refl
kept_pass test (x ∷ xs) = by_test (test x) refl (kept_pass test xs)
  where
    by_test : (b : Bool) → test x ≡ b → list_all test (filter test xs) ≡ true
        → list_all test (cond b (x ∷ filter test xs) (filter test xs)) ≡ true
    by_test true e h = and_from (test x) (list_all test (filter test xs)) e h
    by_test false e h = h

passing_kept : (test : ℕ → Bool) (xs : List ℕ) (y : ℕ) → member y xs ≡ true → test y ≡ true → member y (filter test xs) ≡ true
passing_kept test [] y m passes = absurd (false≢true m)
passing_kept test (x ∷ xs) y m passes = elim (or_cases (x == y) (member y xs) m) [
  | inl e ↦ first (test x) (subst (λ z. test z ≡ true) (sym (eqb-true x y e)) passes) e
  | inr e ↦ later (test x) (passing_kept test xs y e passes)
]
  where
    first : (b : Bool) → b ≡ true → (x == y) ≡ true → member y (cond b (x ∷ filter test xs) (filter test xs)) ≡ true
    first true e h = or_left _ _ h
    first false e h = absurd (false≢true e)

    later : (b : Bool) → member y (filter test xs) ≡ true → member y (cond b (x ∷ filter test xs) (filter test xs)) ≡ true
    later true h = or_right _ _ h
    later false h = h

-- so of what is told: where something passes, its exception is kept
told_kept : (test : Told → Bool) (told : List Told) (y : ℕ)
    → list_any (λ (u : Told). test u && (u.exception == y)) told ≡ true
    → member y (map (λ (u : Told). u.exception) (filter test told)) ≡ true
told_kept test [] y h = absurd (false≢true h)
told_kept test (t ∷ told) y h = by_test (test t) h (told_kept test told y)
  where
    rest : Bool
    rest = list_any (λ (u : Told). test u && (u.exception == y)) told

    by_test : (b : Bool) → (b && (t.exception == y)) || rest ≡ true
        → (rest ≡ true → member y (map (λ (u : Told). u.exception) (filter test told)) ≡ true)
        → member y (map (λ (u : Told). u.exception) (cond b (t ∷ filter test told) (filter test told))) ≡ true
    by_test true h later = elim (or_cases (t.exception == y) rest h) [
      | inl e ↦ or_left _ _ e
      | inr e ↦ or_right _ _ (later e)
    ]
    by_test false h later = later h

-- ---- groups

-- what goes together with a source is in its group
in_group : (action : ActionRow) (row : ReachRow) (t u : Told) → IsAmong (all_told action row) u
    → are_together action row.order t.by u.by ≡ true
    → member u.exception (group_of action row.order (all_told action row) t) ≡ true
in_group action row t u among together =
    or_right _ _
    (told_kept (λ (v : Told). are_together action row.order t.by v.by) (all_told action row) u.exception
    (among (λ (v : Told). are_together action row.order t.by v.by && (v.exception == u.exception))
    (and_from (are_together action row.order t.by u.by) (u.exception == u.exception) together
    (eq-eqb u.exception u.exception refl))))

-- the least cover of some exceptions, of which this is one, is that of what it covers among more
least_resolves : (order : CoverOrder) (raised : List ℕ) (y : ℕ) (ys : List ℕ) (x : ℕ) → member y raised ≡ true
    → ((z : ℕ) → member z raised ≡ true → member z (y ∷ ys) ≡ true) → IsLeastCover order raised x
    → resolves order x (y ∷ ys) ≡ true
least_resolves order raised y ys x m within least =
    and_from (covers order x y) (is_least order (filter (covers order x) (y ∷ ys)) x)
    (all_at (covers order x) raised y least.above m)
    (is_least_from order (filter (covers order x) (y ∷ ys)) x (record {
      in_range = least.in_range;
      above = kept_pass (covers order x) (y ∷ ys);
      least = λ u u_in over. least.least u u_in
          (all_from (covers order u) raised (λ z n. all_at (covers order u) (filter (covers order x) (y ∷ ys)) z over
          (passing_kept (covers order x) (y ∷ ys) z (within z n) (all_at (covers order x) raised z least.above n))));
    }))

-- what one of some lists passes, which are made of what is told
made_any : (test : List ℕ → Bool) (make : Told → List ℕ) (told : List Told) → list_any (λ (t : Told). test (make t)) told ≡ true
    → list_any test (map make told) ≡ true
made_any test make [] h = h
made_any test make (t ∷ told) h = elim (or_cases (test (make t)) (list_any (λ (u : Told). test (make u)) told) h) [
  | inl e ↦ or_left _ _ e
  | inr e ↦ or_right _ _ (made_any test make told e)
]

module _ (action : ActionRow) (row : ReachRow) (right : tells_order action row.order ≡ true) where
  pub resolves_told : (order : CoverOrder) (raised : List ℕ) (source : ℕ → Source) (x : ℕ) → 0 < length raised
      → ((y : ℕ) → member y raised ≡ true → IsAmong (all_told action row) (told_as (source y) y))
      → ((y z : ℕ) → member y raised ≡ true → member z raised ≡ true → (y ≡ z → ⊥)
      → Excludes action (source y) (source z) → ⊥)
      → IsLeastCover order raised x → can_resolve order (groups_of action row) x ≡ true
  resolves_told order [] source x some among apart least = absurd (omega arith)
  resolves_told order (y ∷ ys) source x some among apart least =
      made_any (resolves order x) (group_of action row.order (all_told action row)) (all_told action row)
      (among y here (λ (t : Told). resolves order x (group_of action row.order (all_told action row) t))
      (least_resolves order (y ∷ ys) y _ x here within least))
    where
      here : member y (y ∷ ys) ≡ true
      here = or_left _ _ (eq-eqb y y refl)

      both : (z : ℕ) → member z (y ∷ ys) ≡ true → (y ≡ z → ⊥) → AreTogether action (source y) (source z)
      both z m differ = record { first = apart y z here m differ; second = apart z y m here (λ e. differ (sym e)) }

      within : (z : ℕ) → member z (y ∷ ys) ≡ true
          → member z (group_of action row.order (all_told action row) (told_as (source y) y)) ≡ true
      within z m = elim (cases_eq y z) [
        | inl e ↦ or_left _ _ (eq-eqb y z e)
        | inr e ↦
            in_group action row (told_as (source y) y) (told_as (source z) z) (among z m)
            (named_together action row.order right (source y) (source z) (both z m e))
      ]
