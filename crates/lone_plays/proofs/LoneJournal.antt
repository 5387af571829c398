-- Chosen plays that share nothing with the others don't see them.
use Rattle.std.proofs.Common.{◌≡◌, ℕ, Bool, true, false, cond, List, [], ◌∷◌, ◌++◌, filter, reverse, slice_get, suc, Some, None, Option, refl, sym, ap, ◌∙◌, subst}
use Rattle.std.specs.List.{list_any}
use Rattle.std.proofs.lemmas.List.{append-nil, reverse-append}
use Rattle.std.proofs.lemmas.List.Elements.{filter-append}
use Rattle.std.proofs.lemmas.Bool.{or_parts, or_left, eqb-true, eq-eqb, false≢true}
use Rattle.caa_base.specs.declared.written.entry.Entry.{Entry}
use Rattle.caa_base.specs.declared.written.entry.Kind.{Kind}
use Rattle.caa_base.specs.declared.written.entry.Kind.TheVariants as kind
use Rattle.caa_base.specs.Outside.PlantState.{has_drill}
use Rattle.caa_base.specs.Written.Lists.{member, is_empty, last_of}
use Rattle.caa_base.proofs.ListLemmas.{last_member}
use Rattle.place_plan.specs.Plans.PlanValue.{Plan}
use Rattle.place_plan.specs.Plans.Places.{roles_of, uses, plays_of}
use Rattle.place_plan.proofs.OnJournals.EntryKinds.{of_kind}
use Rattle.place_plan.specs.RulesOfJournals.Objects.{holder_of, value_of}
use Rattle.place_plan.specs.RulesOfJournals.Roles.{is_over_after, is_over}
use Rattle.place_plan.specs.RulesOfJournals.Journals.{LegalPast, is_fault}
use Rattle.place_plan.specs.RulesOfJournals.Attempts.{is_attempt_on, attempts_on, IsDrilled}
use Rattle.journal_laws.specs.Laws.{Holds, touches_object}
use Rattle.journal_laws.proofs.Playable.{IsTree, IsPlayable}
use Rattle.journal_laws.proofs.Options.{some_apart}
use Rattle.journal_laws.proofs.Raised.{role_inside}
use Rattle.journal_laws.proofs.Holding.{holder_is_innermost}
use Rattle.journal_laws.proofs.Isolation.{isolation}
use Rattle.journal_laws.proofs.Makers.{maker_role}
use Rattle.lone_plays.specs.Lone.{StandApart, lone_plan, lone_entries, LonePlays}
use Rattle.lone_plays.proofs.Left.{IsOurs, IsOurObject, AllOwn, our_role, our_object, has_by_left}
use Rattle.lone_plays.proofs.Asked.{value_left, asked_left, asked_ours}
use Rattle.lone_plays.proofs.Followed.{HasPlays, Stands, alike}
use Rattle.lone_plays.proofs.Alike.{row_alike}
use Rattle.lone_plays.proofs.Tops.{mine, group, top_of_play, same_plays, plays_mine, lone_play}

-- ---- lists

filter-reverse : (test : Entry → Bool) (es : List Entry) → filter test (reverse es) ≡ reverse (filter test es)
filter-reverse test [] = refl
filter-reverse test (e ∷ es) =
    ap (filter test) (reverse-append (e ∷ []) es) ∙ filter-append test (reverse es) (e ∷ []) ∙ by_test (test e) (filter-reverse test es)
  where
    by_test : (b : Bool) → filter test (reverse es) ≡ reverse (filter test es)
        → filter test (reverse es) ++ cond b (e ∷ []) [] ≡ reverse (cond b (e ∷ filter test es) (filter test es))
    by_test true ih = ap (λ fs. fs ++ e ∷ []) ih ∙ sym (reverse-append (e ∷ []) (filter test es))
    by_test false ih = append-nil (filter test (reverse es)) ∙ ih

-- where none passes, none is left
none_left : (test : Entry → Bool) (es : List Entry) → list_any test es ≡ false → filter test es ≡ []
none_left test [] h = refl
none_left test (e ∷ es) h = let parts = or_parts (test e) (list_any test es) h in rw parts.0 (none_left test es parts.1)

-- ---- entries

-- what asks the device to change an object touches it
asked_by : (k : Kind) (e : Entry) (o : ℕ) → is_attempt_on o (of_kind k e) ≡ true → (touches_object k ≡ true) × (e.arg ≡ o)
asked_by kind.Write e o w = (refl, eqb-true e.arg o w)
asked_by kind.PutFault e o w = (refl, eqb-true e.arg o w)
asked_by kind.Restore e o w = (refl, eqb-true e.arg o w)
asked_by _ e o w = absurd (false≢true w)

module _ (plan : Plan) (tree : IsTree plan) where
  -- a place that holds an object uses it
  pub holder_uses : (past : List Entry) → LegalPast plan past → (o p : ℕ) → holder_of plan past o ≡ Some p → uses plan p o ≡ true
  holder_uses past legal o p h = ((holder_is_innermost plan tree past legal o p).0 h).1

  -- the entries of a legal past are their makers' own
  pub all_own : (past : List Entry) → LegalPast plan past → AllOwn plan past
  all_own [] legal = tt
  all_own (e ∷ past) legal = (
    all_own past legal.0,
    record {
      role = maker_role plan tree past e legal.0 legal.1;
      object = λ o w.
          let how = asked_by e.kind e o w in
          subst (λ a. uses plan e.place a ≡ true) how.1
          (holder_uses past legal.0 e.arg e.place ((isolation plan tree (e ∷ past) legal).held [] past e refl how.0));
    },
  )

module _ (plan : Plan) (playable : IsPlayable plan) where
  abbrev tree : IsTree plan
  tree = playable.tree

  module _ (chosen : ℕ → Bool) (apart : StandApart plan chosen) where
    abbrev inside_mine : ℕ → Bool
    inside_mine = mine plan playable chosen apart

    comes : (t : ℕ) → IsOurs plan inside_mine t
        → HasPlays plan inside_mine (group plan playable chosen apart) (lone_plan plan chosen).plays t
    comes t ours = record {
      same = same_plays plan playable chosen apart t ours;
      there = λ p m. plays_mine plan playable chosen apart t p ours m;
    }

    pub stands : (past : List Entry) (p t : ℕ) → LegalPast plan past → inside_mine p ≡ true → member t (roles_of plan p) ≡ true
        → Stands plan inside_mine (group plan playable chosen apart) (lone_plan plan chosen).plays past p t
    stands past p t legal m r = record {
      own = all_own plan tree past legal;
      place = m;
      role = r;
      coming = comes t (our_role plan inside_mine (group plan playable chosen apart) p t m r);
      inside = λ q w. role_inside plan tree past legal t q w;
    }

    legal_left : (past : List Entry) → LegalPast plan past → LegalPast (lone_plan plan chosen) (lone_entries plan past chosen)
    legal_left [] legal = tt
    legal_left (e ∷ past) legal = by_place (inside_mine e.place) refl (legal_left past legal.0)
      where
        by_place : (b : Bool) → inside_mine e.place ≡ b → LegalPast (lone_plan plan chosen) (lone_entries plan past chosen)
            → LegalPast (lone_plan plan chosen) (cond b (e ∷ lone_entries plan past chosen) (lone_entries plan past chosen))
        by_place false m ih = ih
        by_place true m ih = (
          ih,
          row_alike plan (lone_plan plan chosen).plays plan.plays (lone_entries plan past chosen) past e
              (alike plan inside_mine (group plan playable chosen apart) (lone_plan plan chosen).plays past e.place e.by
              (stands past e.place e.by legal.0 m (maker_role plan tree past e legal.0 legal.1)))
              (λ o h. holder_uses plan tree past legal.0 o e.place h) e.kind legal.1,
        )

    over_left : (past : List Entry) → LegalPast plan past → (t : ℕ) → is_over plan past t ≡ true
        → is_over (lone_plan plan chosen) (lone_entries plan past chosen) t ≡ true
    over_left past legal t over = by_last (last_of (plays_of (lone_plan plan chosen) t)) refl
      where
        by_last : (o : Option ℕ) → last_of (plays_of (lone_plan plan chosen) t) ≡ o
            → is_over_after (lone_entries plan past chosen) t o ≡ true
        by_last None h = refl
        by_last (Some p) h =
            let found = lone_play plan playable chosen apart t p (last_member (plays_of (lone_plan plan chosen) t) p h) in
            let ours = our_role plan inside_mine (group plan playable chosen apart) p t found.0 found.1 in
            let last : last_of (plays_of plan t) ≡ Some p = ap last_of (sym (same_plays plan playable chosen apart t ours)) ∙ h in
            has_by_left plan inside_mine (group plan playable chosen apart) kind.Leave p t found.0 past (all_own plan tree past legal)
            ∙ subst (λ q. is_over_after past t q ≡ true) last over

    attempts_left : (past : List Entry) → LegalPast plan past → (o : ℕ) → IsOurObject plan inside_mine o
        → attempts_on (reverse (lone_entries plan past chosen)) o ≡ attempts_on (reverse past) o
    attempts_left past legal o ours =
        filter-reverse (is_attempt_on o) (lone_entries plan past chosen)
        ∙ ap reverse (asked_left plan inside_mine (group plan playable chosen apart) (lone_plan plan chosen).plays o ours past (all_own plan tree past legal))
        ∙ sym (filter-reverse (is_attempt_on o) past)

    drilled_left : (past : List Entry) → LegalPast plan past → IsDrilled plan (reverse past)
        → IsDrilled (lone_plan plan chosen) (reverse (lone_entries plan past chosen))
    drilled_left past legal drilled o k e h = by_any (list_any (is_attempt_on o) (lone_entries plan past chosen)) refl
      where
        by_any : (b : Bool) → list_any (is_attempt_on o) (lone_entries plan past chosen) ≡ b
            → is_fault e ≡ has_drill plan.drills o (suc k)
        by_any true w =
            let ours = asked_ours plan inside_mine (group plan playable chosen apart) (lone_plan plan chosen).plays o past (all_own plan tree past legal) w in
            drilled o k e (ap (λ es. slice_get es k) (sym (attempts_left past legal o ours)) ∙ h)
        by_any false w =
            let none : attempts_on (reverse (lone_entries plan past chosen)) o ≡ [] =
            filter-reverse (is_attempt_on o) (lone_entries plan past chosen)
            ∙ ap reverse (none_left (is_attempt_on o) (lone_entries plan past chosen) w) in
            absurd (some_apart (ap (λ es. slice_get es k) (sym none) ∙ h))

    values_left : (past : List Entry) → LegalPast plan past → (p o : ℕ) → member p plan.plays ≡ true → chosen p ≡ true
        → uses plan p o ≡ true → value_of (lone_plan plan chosen) (lone_entries plan past chosen) o ≡ value_of plan past o
    values_left past legal p o m c u = by_roles (roles_of plan p) refl
      where
        by_roles : (ts : List ℕ) → roles_of plan p ≡ ts → value_of (lone_plan plan chosen) (lone_entries plan past chosen) o ≡ value_of plan past o
        by_roles [] r = absurd (false≢true (sym (playable.filled p m) ∙ ap is_empty r))
        by_roles (t ∷ ts) r =
            let role : member t (roles_of plan p) ≡ true = rw r (or_left _ _ (eq-eqb t t refl)) in
            let ours =
            our_object plan inside_mine (group plan playable chosen apart) p t o (ap chosen (top_of_play plan playable p m) ∙ c) role u in
            value_left plan inside_mine (group plan playable chosen apart) (lone_plan plan chosen).plays o ours past (all_own plan tree past legal) []

-- plays that share nothing with the others don't see them
pub lone_plays : (plan : Plan) → IsPlayable plan → Holds LonePlays plan
lone_plays plan playable past legal chosen apart = record {
  legal = legal_left plan playable chosen apart past legal;
  complete = λ whole t known. over_left plan playable chosen apart past legal t (whole t known);
  drilled = drilled_left plan playable chosen apart past legal;
  values = values_left plan playable chosen apart past legal;
}
