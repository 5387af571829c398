-- One entry more: how the stages go on standing for the journal.
use Rattle.std.proofs.Common.{◌≡◌, ◌∙◌, ◌==◌, ◌<◌, Bool, true, false, cond, ◌&&◌, ◌||◌, List, ◌∷◌, Option, Some, length, slice_set, get_or-set_same, get_or-set_other, length-set, refl, sym, ap, subst, inl, inr}
use Rattle.std.proofs.lemmas.Bool.{cases_Bool, eqb-true, eq-eqb, both_ways}
use Rattle.caa_base.specs.declared.written.entry.Entry.{Entry}
use Rattle.caa_base.specs.declared.written.entry.Kind.TheVariants as kind
use Rattle.place_plan.specs.Plans.PlanValue.{Plan}
use Rattle.place_plan.specs.RulesOfJournals.Entries.{is_of, is_in, newest}
use Rattle.place_plan.specs.RulesOfJournals.Whereabouts.{outcome_at}
use Rattle.action_core.specs.declared.stage.Stage.{Stage}
use Rattle.action_core.specs.inner.KeptStages.{unstarted, at, IsStageOf, StageOfEach}
use Rattle.journal_replay.specs.Questions.{outcome_of_end}

-- a test of the kind, in the place of the entry and elsewhere

here : (b c x : Bool) → c ≡ true → (b || x) ≡ ((b && c) || x)
here true c x h = rw h refl
here false c x h = refl

ended_here : (b c : Bool) (e : Entry) (o : Option Entry) → c ≡ true
    → cond b (Some (outcome_at e)) (outcome_of_end o) ≡ outcome_of_end (cond (b && c) (Some e) o)
ended_here true c e o h = rw h refl
ended_here false c e o h = refl

apart : (b c x : Bool) → c ≡ false → x ≡ ((b && c) || x)
apart true c x h = rw h refl
apart false c x h = refl

ended_apart : (b c : Bool) (e : Entry) (o : Option Entry) → c ≡ false → outcome_of_end o ≡ outcome_of_end (cond (b && c) (Some e) o)
ended_apart true c e o h = rw h refl
ended_apart false c e o h = refl

pub stage_keeps : (plan : Plan) (past : List Entry) (e : Entry) (old : List Stage) (row : Stage) → e.place < length old
    → row.started ≡ (is_of kind.Start e || (at old e.place).started) → row.undoing ≡
    (is_of kind.Undo e || (at old e.place).undoing)
    → row.ended ≡ cond (is_of kind.End e) (Some (outcome_at e)) (at old e.place).ended
    → StageOfEach plan past old → StageOfEach plan (e ∷ past) (slice_set old e.place row)
stage_keeps plan past e old row l started undoing ended s = record {
  as_many = length-set old e.place row ∙ s.as_many;
  each = λ q. elim (cases_Bool (e.place == q)) [
    | inl same ↦ subst (λ r. IsStageOf (e ∷ past) r (at (slice_set old e.place row) r)) (eqb-true e.place q same) own
    | inr other ↦
        let kept : at (slice_set old e.place row) q ≡ at old q =
        get_or-set_other old e.place q row unstarted (λ w. both_ways _ other (eq-eqb e.place q (sym w))) in
        subst (IsStageOf (e ∷ past) q) (sym kept) (record {
          started = (s.each q).started ∙ apart (is_of kind.Start e) (e.place == q) _ other;
          undoing = (s.each q).undoing ∙ apart (is_of kind.Undo e) (e.place == q) _ other;
          ended = (s.each q).ended ∙ ended_apart (is_of kind.End e) (e.place == q) e (newest (is_in kind.End q) past) other;
        })
  ];
}
  where
    self : (e.place == e.place) ≡ true
    self = eq-eqb e.place e.place refl

    own : IsStageOf (e ∷ past) e.place (at (slice_set old e.place row) e.place)
    own = subst (IsStageOf (e ∷ past) e.place) (sym (get_or-set_same old e.place row unstarted l)) (record {
      started =
          started ∙ ap (λ b. is_of kind.Start e || b) (s.each e.place).started
          ∙ here (is_of kind.Start e) (e.place == e.place) _ self;
      undoing =
          undoing ∙ ap (λ b. is_of kind.Undo e || b) (s.each e.place).undoing
          ∙ here (is_of kind.Undo e) (e.place == e.place) _ self;
      ended =
          ended ∙ ap (cond (is_of kind.End e) (Some (outcome_at e))) (s.each e.place).ended
          ∙ ended_here (is_of kind.End e) (e.place == e.place) e (newest (is_in kind.End e.place) past) self;
    })
