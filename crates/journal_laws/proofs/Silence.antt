-- Once a place has ended, it is settled whether its roles leave it in silence.
use Rattle.std.proofs.Common.{◌≡◌, ℕ, ◌==◌, Bool, true, false, not, List, [], ◌∷◌, None, refl, subst, sym, inl, inr, is_none}
use Rattle.std.specs.List.{list_any}
use Rattle.std.proofs.lemmas.Bool.{and_parts, or_parts, eqb-true, false≢true, cases_Bool, true_from_ne_false, both_ways}
use Rattle.caa_base.specs.declared.written.entry.Entry.{Entry}
use Rattle.caa_base.specs.declared.written.entry.Kind.{Kind}
use Rattle.caa_base.specs.declared.written.entry.Kind.TheVariants as kind
use Rattle.place_plan.specs.Plans.PlanValue.{Plan}
use Rattle.place_plan.specs.Plans.Places.{next_alternate}
use Rattle.place_plan.specs.RulesOfJournals.Entries.{is_in, newest}
use Rattle.place_plan.specs.RulesOfJournals.Whereabouts.{has_ended, is_undone, is_left_in_silence}
use Rattle.place_plan.specs.RulesOfJournals.Rules.{Row, MayFollow}
use Rattle.place_plan.specs.RulesOfJournals.Journals.{LegalPast}
use Rattle.journal_laws.proofs.Playable.{IsTree}
use Rattle.place_plan.proofs.OnJournals.EntryKinds.{of_kind}
use Rattle.journal_laws.proofs.Lives.{live_parts}
use Rattle.journal_laws.proofs.Holding.{end_live}

-- where no entry passes a test, none is the newest that does
pub none_newest : (test : Entry → Bool) (past : List Entry) → list_any test past ≡ false → newest test past ≡ None
none_newest test [] h = refl
none_newest test (e ∷ past) h = let parts = or_parts (test e) (list_any test past) h in rw parts.0 (none_newest test past parts.1)

-- what is left in silence has ended
pub silent_ended : (plan : Plan) (past : List Entry) (c : ℕ) → is_left_in_silence plan past c ≡ true → has_ended past c ≡ true
silent_ended plan past c h =
    true_from_ne_false _ (λ lasts.
    let none : newest (is_in kind.End c) past ≡ None = none_newest (is_in kind.End c) past lasts in
    let undone : is_undone (newest (is_in kind.End c) past) ≡ true =
    (and_parts (is_undone (newest (is_in kind.End c) past)) (not (is_none (next_alternate plan c))) h).0 in
    false≢true (subst (λ o. is_undone o ≡ true) none undone))

module _ (plan : Plan) (tree : IsTree plan) where
  silence_stays_by : (past : List Entry) (k : Kind) (e : Entry) (c : ℕ) → LegalPast plan past
      → Row k plan past (of_kind k e) → has_ended past c ≡ true
      → is_left_in_silence plan (of_kind k e ∷ past) c ≡ is_left_in_silence plan past c
  silence_stays_by past kind.End e c legal h w =
      elim (cases_Bool (e.place == c)) [
        | inl x ↦
            absurd (both_ways _ (live_parts e.place past (end_live plan tree past (of_kind kind.End e) legal h)).1
            (subst (λ a. has_ended past a ≡ true) (sym (eqb-true e.place c x)) w))
        | inr x ↦ rw x refl
      ]
  silence_stays_by past _ e c legal h w = refl

  -- how a place that has ended is left doesn't change
  pub silence_stays : (past : List Entry) (e : Entry) (c : ℕ) → LegalPast plan past → MayFollow plan past e
      → has_ended past c ≡ true → is_left_in_silence plan (e ∷ past) c ≡ is_left_in_silence plan past c
  silence_stays past e c legal h w = silence_stays_by past e.kind e c legal h w
