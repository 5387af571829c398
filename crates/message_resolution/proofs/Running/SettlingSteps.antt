-- Settling, one message and one member at a time.
use Rattle.std.proofs.Common.{◌≡◌, ℕ, zero, suc, ◌+◌, ◌*◌, ◌<◌, ◌≤◌, List, [], ◌∷◌, ◌++◌, length, slice_get, inl, inr, ◌⊎◌, refl, sym, ◌∙◌, ap, subst, Contains, arith}
use Rattle.std.proofs.lemmas.Bool.{cases_eq}
use Rattle.std.proofs.lemmas.Option.{slice_get_within}
use Rattle.cover_table.specs.Cover.{CoverOrder, ComesBefore}
use Rattle.message_resolution.specs.declared.node.message.Message.{Message}
use Rattle.message_resolution.specs.declared.world.event.Event.{Event}
use Rattle.message_resolution.specs.declared.world.event.Event.TheVariants.{Deliver}
use Rattle.message_resolution.specs.Histories.Courses.{Course, course_of}
use Rattle.message_resolution.specs.Histories.Legal.{LegalPast, MayCome, is_from_other}
use Rattle.message_resolution.specs.Histories.Settling.{IsDue, Settles, settled, delivers}
use Rattle.message_resolution.specs.inner.Rows.{DeliversDue, DeliversRow, SettlesUpTo}
use Rattle.message_resolution.specs.inner.Runs.{RunView}
use Rattle.std.proofs.Math.Nat.{mul-le-mul_left}
use Rattle.message_resolution.proofs.Containing.{first_in, later_in}
use Rattle.message_resolution.proofs.Coming.LegalPasts.{step_of, course_step}
use Rattle.message_resolution.proofs.Coming.FewMessages.{few_messages}
use Rattle.message_resolution.proofs.Coming.Settled.{other_some}

got_before : (messages more : List Message) (number : ℕ) → number < length messages
    → slice_get (messages ++ more) number ≡ slice_get messages number
got_before [] more number below = absurd (omega arith)
got_before (m ∷ messages) more zero below = refl
got_before (m ∷ messages) more (suc number) below = got_before messages more number (omega arith)

module _ (order : CoverOrder) (count : ℕ) where
  due_sent : (past : List Event) (n u : ℕ) → IsDue order count past n u → n < length (course_of order count past).messages
  due_sent past n u due =
      let found = other_some u (slice_get (course_of order count past).messages n) due.other in
      slice_get_within (course_of order count past).messages n found.0 found.1

  pub due_may_come : (past : List Event) (number t : ℕ) → IsDue order count past number t → MayCome order count past (Deliver t number)
  due_may_come past number t due = record { in_range = due.member; legal = due.other }

  -- what is due after a delivery of a later message was due before it
  due_before : (past : List Event) (number t n u : ℕ) → LegalPast order count past → IsDue order count past number t → n ≤ number
      → IsDue order count (Deliver t number ∷ past) n u → IsDue order count past n u
  due_before past number t n u legal due low now =
      let below = due_sent past number t due in
      let step = step_of order count past (Deliver t number) (due_may_come past number t due) in
      let same : slice_get (course_of order count (Deliver t number ∷ past)).messages n
      ≡ slice_get (course_of order count past).messages n =
      ap (λ (c : Course). slice_get c.messages n) (course_step order count past (Deliver t number) step) ∙ got_before
      (course_of order count past).messages _ n (omega arith) in
      record {
        member = now.member;
        other = sym (ap (is_from_other u) same) ∙ now.other;
        never = λ at. now.never (later_in (Deliver t number) past (Deliver u n) at);
      }

  module _ (start past : List Event) (number t : ℕ) where
    before_next : (n u : ℕ) → ComesBefore n u number (t + 1) → ComesBefore n u number t ⊎ ((n ≡ number) × (u ≡ t))
    before_next n u before = elim before [
      | inl less ↦ inl (inl less)
      | inr same ↦ elim (cases_eq u t) [
        | inl here ↦ inr (same.0, here)
        | inr other ↦ let upto = same.1 in inl (inr (same.0, omega arith))
      ]
    ]

    at_most : (n u : ℕ) → ComesBefore n u number t → n ≤ number
    at_most n u before = elim before [ inl less ↦ omega arith | inr same ↦ let is = same.0 in omega arith ]

    -- one that is due is delivered
    pub up_to_due : LegalPast order count past → SettlesUpTo order count start past number t → IsDue order count past number t
        → SettlesUpTo order count start (Deliver t number ∷ past) number (t + 1)
    up_to_due legal upto due = record {
      rest = λ final later. upto.rest final (delivers (record { due = due; first = upto.calm }) later);
      calm = λ n u before now. elim (before_next n u before) [
        | inl earlier ↦ upto.calm n u earlier (due_before past number t n u legal due (at_most n u earlier) now)
        | inr here ↦ now.never (subst (λ k. Contains (Deliver t number ∷ past) (Deliver u k)) (sym here.0)
            (subst (λ v. Contains (Deliver t number ∷ past) (Deliver v number)) (sym here.1) (first_in (Deliver t number) past)))
      ];
    }

    -- one that isn't is passed over
    pub up_to_calm : SettlesUpTo order count start past number t → (IsDue order count past number t → ⊥)
        → SettlesUpTo order count start past number (t + 1)
    up_to_calm upto calm = record {
      rest = upto.rest;
      calm = λ n u before now. elim (before_next n u before) [
        | inl earlier ↦ upto.calm n u earlier now
        | inr here ↦ calm (subst (λ k. IsDue order count past k t) here.0 (subst (λ v. IsDue order count past n v) here.1 now))
      ];
    }

  -- past the last message nothing is due
  pub up_to_all : (start past : List Event) → LegalPast order count past → SettlesUpTo order count start past (2 * count) 0
      → Settles order count start past
  up_to_all start past legal upto = upto.rest past (settled (λ n u due.
      let below = due_sent past n u due in
      let few = few_messages order count past legal in
      upto.calm n u (inl (omega arith)) due))

-- one more member of a row
module _ (first cur next : RunView) (number t : ℕ) (row : DeliversRow first cur number t) (due : DeliversDue cur next number t) where
  moved : (P : CoverOrder → ℕ → Type 0) → P cur.order cur.count → P first.order first.count
  moved P p = subst (λ o. P o first.count) row.order (subst (λ n. P cur.order n) row.count p)

  still : (P : CoverOrder → ℕ → Type 0) → P first.order first.count → P cur.order cur.count
  still P p = subst (λ o. P o cur.count) (sym row.order) (subst (λ n. P first.order n) (sym row.count) p)

  row_long : length next.past ≤ length first.past + (t + 1)
  row_long =
      let before = row.long in
      elim due.past [
        | inl now ↦ let more = ap length now.1 in omega arith
        | inr none ↦ let same = ap length none.1 in omega arith
      ]

  row_settles : (start : List Event) → SettlesUpTo first.order first.count start first.past number 0
      → SettlesUpTo first.order first.count start next.past number (t + 1)
  row_settles start begins =
      let upto = row.settles start begins in
      elim due.past [
        | inl now ↦ subst (λ es. SettlesUpTo first.order first.count start es number (t + 1)) (sym now.1)
            (up_to_due first.order first.count start cur.past number t (moved (λ o n. LegalPast o n cur.past) due.legal)
            upto (moved (λ o n. IsDue o n cur.past number t) now.0))
        | inr none ↦ subst (λ es. SettlesUpTo first.order first.count start es number (t + 1)) (sym none.1)
            (up_to_calm first.order first.count start cur.past number t upto (λ is. none.0 (still (λ o n. IsDue o n cur.past number t) is)))
      ]

  pub row_more : DeliversRow first next number (t + 1)
  row_more = record {
    order = due.order ∙ row.order;
    count = due.count ∙ row.count;
    room = due.room ∙ row.room;
    long = row_long;
    settles = row_settles;
  }

-- the rows fit
pub row_fits : (m n : ℕ) → m < 2 * n → m * n + n ≤ 2 * n * n
row_fits m n less = let h : m + 1 ≤ 2 * n = omega arith in omega (arith, mul-le-mul_left n h)
