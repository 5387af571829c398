-- What the places of a draft weigh together, by the weights of its actions.
use Rattle.std.proofs.Common.{◌≡◌, ℕ, ◌+◌, ◌<◌, nat_lt, true, ◌&&◌, List, [], ◌∷◌, length, slice_index_or, zero, suc, refl, sym, ap, ap₂, ◌∙◌, arith, sum_by}
use Rattle.std.specs.List.{list_all}
use Rattle.std.proofs.lemmas.Bool.{and_parts, or_left, or_right, eq-eqb}
use Rattle.std.proofs.lemmas.List.Sums.{sum_by-append, sum_by-cons}
use Rattle.caa_base.specs.Written.Limits.{most_depth}
use Rattle.place_plan.specs.declared.drafts.draft.Draft.{Draft}
use Rattle.place_plan.specs.declared.drafts.draft_rows.NestRow.{NestRow}
use Rattle.place_plan.specs.declared.drafts.draft_rows.PlayRow.{PlayRow}
use Rattle.place_plan.specs.Plans.PlanValue.{PlaceRow}
use Rattle.caa_base.specs.Written.Lists.{member}
use Rattle.place_plan.specs.Plans.Places.{no_action, no_nest}
use Rattle.place_plan.specs.Plans.Unfolding.{Unfolding, cast_of, alternates_from, use_from, uses_from, children_from, unfold_at, plays_from, plan_of}
use Rattle.place_plan.specs.Plans.Weights.{at, counted, nested_weight, own_entries, weight, played_weight}
use Rattle.place_plan.specs.inner.Tables.{Tells}
use Rattle.place_plan.specs.Plans.Bound.{row_bound, action_bound, bound}
use Rattle.place_plan.specs.Drafts.DraftRules.{KeepsParts, play_in_range, fills}
use Rattle.caa_base.proofs.ListLemmas.{all_both, all_imply}
use Rattle.place_plan.proofs.OnPlans.Counted.{played_counted}
use Rattle.place_plan.proofs.OnDrafts.DraftKeeps.{plays_range, plays_fill}
use Rattle.place_plan.proofs.OnPlans.Casts.{IsCast, play_is_cast, use_cast}

-- each place weighs what the table gives its action, if its roles are those of the action
module _ (draft : Draft) (keeps : KeepsParts draft) (f : PlaceRow → ℕ) (own : List ℕ)
    (weighs : (row : PlaceRow) → IsCast draft row.action row.roles → f row ≡ at own row.action) where
  abbrev at_depth : ℕ → Unfolding
  at_depth d = unfold_at d draft.actions

  -- what is nested weighs what the table of one level less says
  abbrev Weighs : ℕ → Type 0
  Weighs d =
      (a : ℕ) (who outer : List ℕ) (i n : ℕ) → IsCast draft a who
      → sum_by f (at_depth d a who outer i n) ≡ weight own d draft.actions a

  alternates_weigh : (d : ℕ) → Weighs d → (cast outer : List ℕ) (i n : ℕ) (acts : List ℕ)
      → ((b : ℕ) → member b acts ≡ true → IsCast draft b cast)
      → sum_by f (alternates_from (at_depth d) cast outer i n acts) ≡ sum_by (weight own d draft.actions) acts
  alternates_weigh d ih cast outer i n [] h = refl
  alternates_weigh d ih cast outer i n (a ∷ acts) h =
      let tree = at_depth d a cast outer i n in
      let rest = alternates_from (at_depth d) cast outer i (n + length tree) acts in
      sum_by-append f tree rest
      ∙ ap₂ (λ x y. x + y) (ih a cast outer i n (h a (or_left _ _ (eq-eqb a a refl))))
      (alternates_weigh d ih cast outer i (n + length tree) acts (λ b m. h b (or_right _ _ m)))
      ∙ sym (sum_by-cons (weight own d draft.actions) a acts)

  uses_weigh : (d : ℕ) → Weighs d → (who outer : List ℕ) (i n : ℕ) (nests : List NestRow)
      → ((k b : ℕ) → member b (slice_index_or nests k no_nest).actions ≡ true
      → IsCast draft b (cast_of who (slice_index_or nests k no_nest)))
      → sum_by f (uses_from (at_depth d) who outer i n nests) ≡ nested_weight (weight own d draft.actions) nests
  uses_weigh d ih who outer i n [] h = refl
  uses_weigh d ih who outer i n (nest ∷ nests) h =
      let trees = use_from (at_depth d) who outer i n nest in
      let rest = uses_from (at_depth d) who outer (suc i) (n + length trees) nests in
      sum_by-append f trees rest
      ∙ ap₂ (λ x y. x + y) (alternates_weigh d ih (cast_of who nest) outer i n nest.actions (h 0))
      (uses_weigh d ih who outer (suc i) (n + length trees) nests (λ k. h (suc k)))
      ∙ sym (sum_by-cons (λ (other : NestRow). sum_by (weight own d draft.actions) other.actions) nest nests)

  all_weigh : (d : ℕ) → Weighs d
  unfolding unfold_at weight
  all_weigh zero a who outer i n cast = refl
  all_weigh (suc d) a who outer i n cast =
      let nests = (slice_index_or draft.actions a no_action).nests in
      let row : PlaceRow =
      record {
        around = outer;
        nest = i;
        action = a;
        roles = who;
        children = children_from (at_depth d) who (n ∷ outer) 0 (n + 1) nests;
      } in
      sum_by-cons f row (uses_from (at_depth d) who (n ∷ outer) 0 (n + 1) nests)
      ∙ ap₂ (λ x y. x + y) (weighs row cast)
      (uses_weigh d (all_weigh d) who (n ∷ outer) 0 (n + 1) (slice_index_or draft.actions a no_action).nests
      (use_cast draft keeps a who cast))

  plays_weigh : (d n : ℕ) (plays : List PlayRow)
      → list_all (λ (play : PlayRow). play_in_range draft play && fills draft play.action play.who) plays ≡ true
      → sum_by f (plays_from (at_depth d) n plays) ≡ played_weight (weight own d draft.actions) plays
  plays_weigh d n [] h = refl
  plays_weigh d n (play ∷ plays) h =
      let tree = at_depth d play.action play.who [] 0 n in
      let rest = plays_from (at_depth d) (n + length tree) plays in
      let parts = and_parts (play_in_range draft play && fills draft play.action play.who) _ h in
      sum_by-append f tree rest
      ∙ ap₂ (λ x y. x + y) (all_weigh d play.action play.who [] 0 n (play_is_cast draft play parts.0))
      (plays_weigh d (n + length tree) plays parts.1)
      ∙ sym (sum_by-cons (λ (other : PlayRow). weight own d draft.actions other.action) play plays)

  -- so the places of the draft weigh what its plays do by the table
  pub places_weigh : (d : ℕ) → sum_by f (plays_from (at_depth d) 0 draft.plays) ≡ played_weight (weight own d draft.actions) draft.plays
  places_weigh d =
      plays_weigh d 0 draft.plays
      (all_both (play_in_range draft) (λ (play : PlayRow). fills draft play.action play.who) draft.plays
      (plays_range draft keeps) (plays_fill draft keeps))

-- so many rows, each of weight 1
pub length_weighs : (rows : List PlaceRow) → sum_by (λ (row : PlaceRow). 1) rows ≡ length rows
length_weighs [] = refl
length_weighs (row ∷ rows) = omega (arith, sum_by-cons (λ (other : PlaceRow). 1) row rows, length_weighs rows)

-- a sum of what is counted of each row is counted as that of the rows
sum_of_counted : (f : PlaceRow → ℕ) (rows : List PlaceRow)
    → counted (sum_by (λ (row : PlaceRow). counted (f row)) rows) ≡ counted (sum_by f rows)
sum_of_counted f [] = refl
sum_of_counted f (row ∷ rows) =
    omega (
      arith,
      sum_by-cons (λ (other : PlaceRow). counted (f other)) row rows,
      sum_by-cons f row rows,
      sum_of_counted f rows,
    )

-- ---- what tables tell of a draft

module _ (draft : Draft) (keeps : KeepsParts draft) where
  plays_known : list_all (λ (play : PlayRow). nat_lt play.action (length draft.actions)) draft.plays ≡ true
  plays_known =
      all_imply (play_in_range draft) (λ (play : PlayRow). nat_lt play.action (length draft.actions)) draft.plays
      (λ play h. (and_parts (nat_lt play.action (length draft.actions)) _ h).0) (plays_range draft keeps)

  pub counted_places : (table own : List ℕ) → ((a : ℕ) → a < length draft.actions → at own a ≡ 1)
      → Tells draft.actions table (weight own most_depth draft.actions)
      → counted (played_weight (at table) draft.plays) ≡ counted (length (plan_of draft).places)
  counted_places table own ones tells =
      played_counted draft.actions table (weight own most_depth draft.actions) tells draft.plays plays_known
      ∙ ap counted (sym (places_weigh draft keeps (λ row. 1) own
      (λ row cast. sym (ones row.action cast.action)) most_depth) ∙ length_weighs (plan_of draft).places)

  pub counted_bound : (table own : List ℕ)
      → Tells draft.actions own (λ a. own_entries (slice_index_or draft.actions a no_action))
      → Tells draft.actions table (weight own most_depth draft.actions)
      → counted (played_weight (at table) draft.plays) ≡ counted (bound (plan_of draft))
  counted_bound table own bounds tells =
      played_counted draft.actions table (weight own most_depth draft.actions) tells draft.plays plays_known
      ∙ ap counted (sym (places_weigh draft keeps (λ row. counted (row_bound draft.actions row)) own
      (λ row cast. ap (λ n. counted (action_bound (slice_index_or draft.actions row.action no_action) n)) cast.many
      ∙ sym (bounds row.action cast.action)) most_depth))
      ∙ sum_of_counted (row_bound draft.actions) (plan_of draft).places
