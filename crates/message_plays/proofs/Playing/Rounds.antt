-- Turn after turn, and the raise after them.
use Rattle.std.proofs.Common.{◌≡◌, ◌≢◌, ℕ, ◌+◌, ◌/◌, true, false, List, [], ◌∷◌, length, Result, Ok, Err, ◌↔◌, refl, sym, ◌∙◌, ap, subst, add-one, Contains, arith}
use Rattle.std.specs.Prelude.{OnOk, IsErr}
use Rattle.std.proofs.lemmas.Bool.{not_from_false, false_from_ne_true, false≢true}
use Rattle.caa_base.specs.Written.Mixing.{state_after, next_state}
use Rattle.cover_table.specs.Cover.{CoverOrder, IsSound}
use Rattle.place_plan.specs.Plans.PlanValue.{Plan}
use Rattle.message_resolution.specs.declared.node.message.Message.{Message}
use Rattle.message_resolution.specs.declared.world.event.Event.{Event}
use Rattle.message_resolution.specs.declared.world.event.Event.TheVariants.{Raise}
use Rattle.message_resolution.specs.declared.world.NotLegal.{NotLegal}
use Rattle.message_resolution.specs.Histories.Courses.{course_of, all_raised}
use Rattle.message_resolution.specs.Histories.Legal.{LegalPast, is_legal_event}
use Rattle.message_resolution.specs.Histories.Worlds.{WorldView}
use Rattle.message_resolution.proofs.Containing.{first_in}
use Rattle.message_resolution.proofs.Coming.Settled.{words, unspoken, unsent}
use Rattle.message_plays.specs.Turns.{with_turn, after_turns, with_last_wish}

-- one turn more
pub after_more : (plan : Plan) (seed turns : ℕ)
    → after_turns plan seed (turns + 1) ≡ with_turn plan (after_turns plan seed turns) (next_state (state_after seed turns) / 65536)
unfolding after_turns state_after
after_more plan seed turns = rw add-one refl

pub state_more : (seed turns : ℕ) → state_after seed (turns + 1) ≡ next_state (state_after seed turns)
unfolding state_after
state_more seed turns = rw add-one refl

pub after_none : (plan : Plan) (seed : ℕ) → after_turns plan seed 0 ≡ []
unfolding after_turns
after_none plan seed = refl

pub state_none : (seed : ℕ) → state_after seed 0 ≡ seed
unfolding state_after
state_none seed = refl

-- where something was raised, nobody raises after the turns
pub last_wish-raised : (plan : Plan) (past : List Event) (es : List ℕ) → es ≢ [] → with_last_wish plan past es ≡ past
last_wish-raised plan past [] some = absurd (some refl)
last_wish-raised plan past (e ∷ es) some = refl

-- an event that is legal happens
pub happens : (old new : WorldView) (e : Event) (answer : Result (Unit {0}) NotLegal)
    → OnOk answer (new ≡ record old { past = e ∷ old.past })
    → (IsErr answer ↔ (is_legal_event (course_of old.order old.count old.past) e ≡ false)) → is_legal_event
    (course_of old.order old.count old.past) e ≡ true → new.past ≡ e ∷ old.past
happens old new e (Ok done) ok refused legal = ap (λ (w : WorldView). w.past) ok
happens old new e (Err refusal) ok refused legal = absurd (false≢true (sym (refused.0 refl) ∙ legal))

module _ (order : CoverOrder) (count : ℕ) (sound : IsSound order) (past : List Event) (legal : LegalPast order count past) where
  -- where nothing was raised each member may raise
  pub may_raise : all_raised past ≡ [] → (by e : ℕ) → is_legal_event (course_of order count past) (Raise by e) ≡ true
  may_raise none by e = not_from_false _ (false_from_ne_true _ (unspoken order count sound past legal none by))

  -- nothing was raised just where nothing was sent
  pub unraised_from_unsent : length (course_of order count past).messages ≡ 0 → all_raised past ≡ []
  unraised_from_unsent none = cases (all_raised past) refl
    where
      cases : (es : List ℕ) → all_raised past ≡ es → all_raised past ≡ []
      cases [] is = is
      cases (e ∷ es) is =
          let kept = words order count sound past legal in
          let who = kept.from_raised e (subst (λ xs. Contains xs e) (sym is) (first_in e es)) in
          let at = kept.sent_raised who.0 e who.1 in
          absurd (omega (arith, at.1, none))

  pub raised_from_sent : length (course_of order count past).messages ≢ 0 → all_raised past ≢ []
  raised_from_sent some none = cases (course_of order count past).messages refl
    where
      cases : (ms : List Message) → (course_of order count past).messages ≡ ms → ⊥
      cases [] is = some (ap length is)
      cases (m ∷ ms) is = unsent order count sound past legal none m (subst (λ xs. Contains xs m) (sym is) (first_in m ms))
