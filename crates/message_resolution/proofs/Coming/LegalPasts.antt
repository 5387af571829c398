-- Every legal past keeps what one event keeps; so all that decide agree, for good.
use Rattle.std.proofs.Common.{◌≡◌, ℕ, ◌<◌, true, List, [], ◌∷◌, ◌++◌, slice_get, Option, Some, None, option_map, refl, sym, ◌∙◌, ap, subst, Contains}
use Rattle.std.proofs.lemmas.Bool.{not-true, eqb-false}
use Rattle.std.proofs.lemmas.Option.{slice_get_within, get_or_from_slice_get}
use Rattle.std.proofs.lemmas.List.Elements.{All-nil, Contains-append_right}
use Rattle.cover_table.specs.Cover.{CoverOrder, IsSound}
use Rattle.message_resolution.specs.declared.node.message.Message.{Message}
use Rattle.message_resolution.specs.declared.world.event.Event.{Event}
use Rattle.message_resolution.specs.declared.world.event.Event.TheVariants.{Raise, Deliver}
use Rattle.message_resolution.specs.Members.LocalEvents.{LocalEvent, raises, receives, raised_at, resolved_at}
use Rattle.message_resolution.specs.Members.Answers.{resolution, decisions}
use Rattle.message_resolution.specs.Members.Nodes.{IsMessage, MayMeet, sender_of}
use Rattle.message_resolution.specs.Histories.Courses.{Course, course_of, course_with, member_of, met_at, raised_by, all_raised, HasDecided}
use Rattle.message_resolution.specs.Histories.Legal.{MayCome, LegalPast, is_from_other}
use Rattle.message_resolution.specs.Histories.Agreement.{DecidersAgree}
use Rattle.message_resolution.proofs.Containing.{nothing_in}
use Rattle.message_resolution.proofs.LeastCovers.{least_one_only}
use Rattle.message_resolution.proofs.Coming.Kept.{KeepsWords, KeepsDecisions}
use Rattle.message_resolution.proofs.Coming.Advance.{MeetsNow, advanced, lasting, keeps_words}
use Rattle.message_resolution.proofs.Coming.Deciding.{keeps_decisions, raises_no_more}

-- what a legal event is to its member
pub record StepOf (order : CoverOrder) (count : ℕ) (course : Course) (e : Event) : Type 0 where
  pub x : LocalEvent
  pub met : met_at course.messages e ≡ Some x
  pub member : member_of e < count
  pub may : MeetsNow order course (member_of e) x
  pub raised : raised_at x ≡ raised_by e

pub contains_got : {A : Type 0} (xs : List A) (k : ℕ) (x : A) → slice_get xs k ≡ Some x → Contains xs x
contains_got xs k x is = (k, slice_get_within xs k x is, get_or_from_slice_get xs k x x is)

delivered_step : (order : CoverOrder) (count : ℕ) (course : Course) (to number : ℕ) (found : Option Message)
    → slice_get course.messages number ≡ found → to < count → is_from_other to found ≡ true → StepOf order count course (Deliver to number)
delivered_step order count course to number None is to_in other = absurd cc
delivered_step order count course to number (Some m) is to_in other = record {
  x = receives m;
  met = ap (option_map (λ y. receives y)) is;
  member = to_in;
  may = (contains_got course.messages number m is, eqb-false (sender_of m) to (not-true _ other));
  raised = refl;
}

module _ (order : CoverOrder) (count : ℕ) where
  pub step_of : (past : List Event) (e : Event) → MayCome order count past e → StepOf order count (course_of order count past) e
  step_of past (Raise by f) may = record {
    x = raises f;
    met = refl;
    member = may.in_range.0;
    may = (not-true _ may.legal, may.in_range.1);
    raised = refl;
  }
  step_of past (Deliver to number) may =
      delivered_step order count (course_of order count past) to number (slice_get (course_of order count past).messages number) refl
      may.in_range may.legal

  pub course_step : (past : List Event) (e : Event) (step : StepOf order count (course_of order count past) e)
      → course_of order count (e ∷ past) ≡ advanced order count (course_of order count past) (member_of e) step.x
  course_step past e step = ap (course_with order count (course_of order count past) (member_of e)) step.met

  abbrev pub Keeps : Course → List ℕ → Type 0
  Keeps course raised = KeepsWords order count course raised × KeepsDecisions order count course raised

  pub keeps : (past : List Event) → IsSound order → LegalPast order count past → Keeps (course_of order count past) (all_raised past)
  keeps [] sound legal = (
    record {
      raised_sent = λ u e at. absurd (nothing_in _ at);
      sent_raised = λ u e at. absurd (nothing_in _ at);
      suspended = λ u at. absurd (nothing_in _ at);
      said = λ u spoken. absurd cc;
      received = λ t m at. absurd (nothing_in _ at);
      once = λ u e f at_e at_f. absurd (nothing_in _ at_e);
      members = λ u e at. absurd (nothing_in _ at);
      met = λ t. All-nil (MayMeet order count t);
      known = All-nil (IsMessage order count);
      to_raised = λ u e at. absurd (nothing_in _ at);
      from_raised = λ e at. absurd (nothing_in _ at);
    },
    record {
      resolved_decided = λ u e at. absurd (nothing_in _ at);
      resolved_sent = λ u has. absurd cc;
      decided = λ t e at. absurd (nothing_in _ at);
    },
  )
  keeps (e ∷ past) sound legal =
      let course = course_of order count past in
      let before = keeps past sound legal.0 in
      let step = step_of past e legal.1 in
      let words = keeps_words order sound count course (all_raised past) before.0 (member_of e) step.member step.x step.may in
      let decisions_kept =
      keeps_decisions order sound count course (all_raised past) before.0 before.1 (member_of e) step.member step.x step.may in
      subst (λ (c : Course). Keeps c (raised_by e ++ all_raised past)) (sym (course_step past e step))
      (subst (λ (es : List ℕ). Keeps (advanced order count course (member_of e) step.x) (es ++ all_raised past)) step.raised
      (words, decisions_kept))

  -- what was decided stays decided
  pub decided_stays : (later past : List Event) (t e : ℕ) → LegalPast order count (later ++ past) → HasDecided order count past t e
      → HasDecided order count (later ++ past) t e
  decided_stays [] past t e legal has = has
  decided_stays (l ∷ later) past t e legal has =
      let rest = later ++ past in
      let course = course_of order count rest in
      let step = step_of rest l legal.1 in
      let before = decided_stays later past t e legal.0 has in
      let after =
      lasting order count course (member_of l) step.x (λ v met. Contains (decisions order count v met) e) t
      (λ had. Contains-append_right (resolution order count (member_of l) (course.local (member_of l)) step.x
      ++ resolved_at step.x) _ e had)
      before in
      subst (λ (c : Course). Contains (decisions order count t (c.local t)) e) (sym (course_step rest l step)) after

  -- and nothing more is raised
  pub raised_stays : (later past : List Event) (t e : ℕ) → IsSound order → LegalPast order count (later ++ past)
      → HasDecided order count past t e → all_raised (later ++ past) ≡ all_raised past
  raised_stays [] past t e sound legal has = refl
  raised_stays (l ∷ later) past t e sound legal has =
      let rest = later ++ past in
      let step = step_of rest l legal.1 in
      let spoken = ((keeps rest sound legal.0).1.decided t e (decided_stays later past t e legal.0 has)).0 in
      let none : raised_by l ≡ [] =
      sym step.raised ∙ raises_no_more order count (course_of order count rest) (member_of l) step.x step.member spoken step.may in
      ap (λ es. es ++ all_raised rest) none ∙ raised_stays later past t e sound legal.0 has

  -- all that decide agree on the least cover of all that was raised, for good
  pub deciders_agree : (past : List Event) → IsSound order → DecidersAgree order count past
  deciders_agree past sound t e has later legal =
      let kept = (keeps (later ++ past) sound legal).1 in
      let least = (kept.decided t e (decided_stays later past t e legal has)).1 in
      record {
        raised = raised_stays later past t e sound legal has;
        agreed = record {
          least = least;
          only =
              λ u other decides. least_one_only order (all_raised (later ++ past)) other e sound.is_order
              (kept.decided u other decides).1 least;
        };
      }
