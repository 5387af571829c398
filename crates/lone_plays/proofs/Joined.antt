-- What plays that share nothing with the others may do alone, they may do beside them, whatever those do alone.
use Rattle.std.proofs.Common.{◌≡◌, ℕ, ◌==◌, Bool, true, false, List, [], ◌∷◌, Some, None, Option, refl, sym, ap, ◌∙◌, subst, cond, not, inl, inr}
use Rattle.std.specs.List.{list_any}
use Rattle.std.proofs.lemmas.Bool.{or_cases, or_right, false≢true, false_from_ne_true, both_ways, not-true, or_left, eq-eqb}
use Rattle.caa_base.specs.declared.written.entry.Entry.{Entry}
use Rattle.caa_base.specs.declared.written.entry.Kind.{Kind}
use Rattle.caa_base.specs.declared.written.entry.Kind.TheVariants as kind
use Rattle.caa_base.specs.Written.Lists.{member}
use Rattle.caa_base.proofs.ListLemmas.{first_not_fails}
use Rattle.place_plan.specs.Plans.PlanValue.{Plan}
use Rattle.place_plan.specs.Plans.Places.{roles_of, objects_of, uses, top_of, around, plays_of}
use Rattle.place_plan.specs.RulesOfJournals.Entries.{has_by}
use Rattle.place_plan.specs.RulesOfJournals.Whereabouts.{inside_after, inside}
use Rattle.place_plan.specs.RulesOfJournals.Roles.{next_play}
use Rattle.place_plan.specs.RulesOfJournals.Rules.{Row, MayFollow, MayArrive, arrival}
use Rattle.place_plan.specs.RulesOfJournals.Journals.{LegalPast}
use Rattle.journal_laws.proofs.Playable.{IsTree, IsPlayable}
use Rattle.journal_laws.proofs.Tree.{arrives_in}
use Rattle.journal_laws.proofs.Makers.{maker_role}
use Rattle.lone_plays.specs.Lone.{shares_with, is_other, StandApart, lone_plan, lone_entries, LoneJournals}
use Rattle.lone_plays.proofs.Left.{IsGroup, inner_mine}
use Rattle.lone_plays.proofs.Followed.{alike}
use Rattle.lone_plays.proofs.Alike.{turned, row_alike}
use Rattle.lone_plays.proofs.Tops.{any_from, filtered, mine, group, lone_play}
use Rattle.lone_plays.proofs.LoneJournal.{stands, holder_uses}

module _ (plan : Plan) (playable : IsPlayable plan) (chosen : ℕ → Bool) (apart : StandApart plan chosen) where
  abbrev lone : Plan
  lone = lone_plan plan chosen

  abbrev inside_mine : ℕ → Bool
  inside_mine = mine plan playable chosen apart

  -- the places of the plan with these plays alone are a tree, and share nothing with the others
  lone_tree : IsTree lone
  lone_tree = record {
    above = playable.tree.above;
    chain = playable.tree.chain;
    tops = λ p m. playable.tree.tops p (filtered chosen plan.plays p m).0;
    roles_in = playable.tree.roles_in;
    enters = playable.tree.enters;
  }

  lone_group : IsGroup lone inside_mine
  lone_group =
      let g = group plan playable chosen apart in
      record { up = g.up; below = g.below; people = g.people; things = g.things }

  -- ---- alone, nobody is in another place

  -- wherever somebody is, it is in one of these places
  abbrev AllInside : List Entry → Type 0
  AllInside past = (t q : ℕ) → inside lone past t ≡ Some q → inside_mine q ≡ true

  arrives_mine : (past : List Entry) (e : Entry) → AllInside past → MayArrive lone past e → inside_mine e.place ≡ true
  arrives_mine past e all h = by_place (inside lone past e.by) refl
    where
      by_place : (o : Option ℕ) → inside lone past e.by ≡ o → inside_mine e.place ≡ true
      by_place None w =
          let next : next_play lone past e.by ≡ Some e.place = subst (λ o. arrival lone past e.by o ≡ Some e.place) w h.leads in
          (lone_play plan playable chosen apart e.by e.place
          (first_not_fails (λ p. has_by kind.Arrive past p e.by) (plays_of lone e.by) e.place next).1).0
      by_place (Some q) w =
          let round = (arrives_in lone lone_tree past e q h w).0 in
          let there : member q (around lone e.place) ≡ true = rw round (or_left _ _ (eq-eqb q q refl)) in
          sym (lone_group.up e.place q there) ∙ all e.by q w

  follows_mine : (past : List Entry) (k : Kind) (e : Entry) → AllInside past → Row k lone past e → inside_mine e.place ≡ true
  follows_mine past kind.Arrive e all h = arrives_mine past e all h
  follows_mine past _ e all h = all e.by e.place h.here

  inside_on : (k : Kind) (past : List Entry) (p q : ℕ) (own : Bool) (was : Option ℕ) → inside_mine p ≡ true
      → ((r : ℕ) → was ≡ Some r → inside_mine r ≡ true) → inside_after lone k p own was ≡ Some q → inside_mine q ≡ true
  inside_on kind.Arrive past p q true was m all h = let same : p ≡ q = cc in subst (λ a. inside_mine a ≡ true) same m
  inside_on kind.Arrive past p q false was m all h = all q h
  inside_on kind.Withdraw past p q true was m all h = sym (inner_mine lone inside_mine lone_group p q h) ∙ m
  inside_on kind.Withdraw past p q false was m all h = all q h
  inside_on kind.Leave past p q true was m all h = sym (inner_mine lone inside_mine lone_group p q h) ∙ m
  inside_on kind.Leave past p q false was m all h = all q h
  inside_on _ past p q own was m all h = all q h

  all_inside : (past : List Entry) → LegalPast lone past → AllInside past
  all_inside [] legal t q h = absurd cc
  all_inside (e ∷ past) legal t q h =
      let before = all_inside past legal.0 in
      inside_on e.kind past e.place q (e.by == t) (inside lone past t) (follows_mine past e.kind e before legal.1) (before t) h

  within : (past : List Entry) → LegalPast lone past → lone_entries plan past chosen ≡ past
  within [] legal = refl
  within (e ∷ past) legal =
      rw (follows_mine past e.kind e (all_inside past legal.0) legal.1) (ap (λ es. e ∷ es) (within past legal.0))

  -- ---- beside the others

  -- what may follow the rest alone, in one of these places, may follow the whole past
  pub follows_back : (past : List Entry) (e : Entry) → LegalPast plan past → inside_mine e.place ≡ true
      → LegalPast lone (lone_entries plan past chosen) → MayFollow lone (lone_entries plan past chosen) e → MayFollow plan past e
  follows_back past e whole m legal may =
      let made = maker_role lone lone_tree (lone_entries plan past chosen) e legal may in
      row_alike plan plan.plays lone.plays past (lone_entries plan past chosen) e
      (turned plan lone.plays plan.plays (lone_entries plan past chosen) past e.place e.by
      (alike plan inside_mine (group plan playable chosen apart) lone.plays past e.place e.by
      (stands plan playable chosen apart past e.place e.by whole m made)))
      (λ o h. holder_uses lone lone_tree (lone_entries plan past chosen) legal o e.place h) e.kind may

-- ---- the plays that aren't chosen

any_has : (test : ℕ → Bool) (xs : List ℕ) → list_any test xs ≡ true → (x : ℕ) × (member x xs ≡ true) × (test x ≡ true)
any_has test [] h = absurd (false≢true h)
any_has test (x ∷ xs) h = elim (or_cases (test x) (list_any test xs) h) [
  | inl w ↦ (x, or_left _ _ (eq-eqb x x refl), w)
  | inr w ↦ let found = any_has test xs w in (found.0, or_right _ _ found.1, found.2)
]

-- of two lists, the one has a member of the other where the other has one of it
any_turned : (xs ys : List ℕ) → list_any (λ x. member x ys) xs ≡ true → list_any (λ y. member y xs) ys ≡ true
any_turned xs ys h = let found = any_has (λ x. member x ys) xs h in any_from (λ y. member y xs) ys found.0 found.2 found.1

shares_turned : (plan : Plan) (p q : ℕ) → shares_with plan p q ≡ true → shares_with plan q p ≡ true
shares_turned plan p q h =
    elim (or_cases (list_any (λ t. member t (roles_of plan q)) (roles_of plan p))
    (list_any (λ o. uses plan q o) (objects_of plan p)) h) [
      | inl w ↦ or_left _ _ (any_turned (roles_of plan p) (roles_of plan q) w)
      | inr w ↦ or_right _ _ (any_turned (objects_of plan p) (objects_of plan q) w)
    ]

not_other : (b : Bool) → not b ≡ false → b ≡ true
not_other true h = refl
not_other false h = absurd (false≢true (sym h))

others_apart : (plan : Plan) (chosen : ℕ → Bool) → StandApart plan chosen → StandApart plan (is_other chosen)
others_apart plan chosen apart p q m n c d =
    false_from_ne_true _ (λ w. both_ways _ (apart q p n m (not_other (chosen q) d) (not-true (chosen p) c)) (shares_turned plan p q w))

-- ---- both together

module _ (plan : Plan) (playable : IsPlayable plan) (chosen : ℕ → Bool) (apart : StandApart plan chosen) where
  all_joined : (past : List Entry) → LegalPast (lone_plan plan chosen) (lone_entries plan past chosen)
      → LegalPast (lone_plan plan (is_other chosen)) (lone_entries plan past (is_other chosen)) → LegalPast plan past
  all_joined [] a b = tt
  all_joined (e ∷ past) a b = by_place (chosen (top_of plan e.place)) refl a b (λ c d. all_joined past c d)
    where
      by_place : (c : Bool) → chosen (top_of plan e.place) ≡ c
          → LegalPast (lone_plan plan chosen) (cond c (e ∷ lone_entries plan past chosen) (lone_entries plan past chosen))
          → LegalPast (lone_plan plan (is_other chosen))
          (cond (not c) (e ∷ lone_entries plan past (is_other chosen)) (lone_entries plan past (is_other chosen)))
          → (LegalPast (lone_plan plan chosen) (lone_entries plan past chosen)
          → LegalPast (lone_plan plan (is_other chosen)) (lone_entries plan past (is_other chosen)) → LegalPast plan past)
          → LegalPast plan (e ∷ past)
      by_place true m a b ih = let whole = ih a.0 b in (whole, follows_back plan playable chosen apart past e whole m a.0 a.1)
      by_place false m a b ih = let whole = ih a b.0 in
          (whole, follows_back plan playable (is_other chosen) (others_apart plan chosen apart) past e whole (ap not m) b.0 b.1)

-- plays that share nothing with the others don't hinder one another
pub lone_journals : (plan : Plan) → IsPlayable plan → LoneJournals plan
lone_journals plan playable chosen apart =
    record { joined = all_joined plan playable chosen apart; within = within plan playable chosen apart }
