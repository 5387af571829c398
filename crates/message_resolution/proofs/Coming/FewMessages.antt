-- No member sends more than two messages.
use Rattle.std.proofs.Common.{◌≡◌, ◌≢◌, ℕ, zero, suc, ◌+◌, ◌*◌, ◌<◌, ◌≤◌, ◌&&◌, ◌||◌, not, Bool, true, false, List, [], ◌∷◌, length, length-append, inl, inr, refl, sym, ◌∙◌, ap, subst, map, arith}
use Rattle.std.specs.Prelude.{if◌then◌else◌}
use Rattle.std.proofs.lemmas.Bool.{cases_eq, cases_Bool}
use Rattle.std.proofs.lemmas.List.{length-map}
use Rattle.cover_table.specs.Cover.{CoverOrder}
use Rattle.message_resolution.specs.declared.node.message.Message.TheVariants as message
use Rattle.message_resolution.specs.declared.world.event.Event.{Event}
use Rattle.message_resolution.specs.Members.LeastCover.{least_cover}
use Rattle.message_resolution.specs.Members.LocalEvents.{LocalEvent, raises, receives, told, has_spoken}
use Rattle.message_resolution.specs.Members.Answers.{may_resolve, has_resolved, resolution, word, answers}
use Rattle.message_resolution.specs.Histories.Courses.{Course, course_of, member_of}
use Rattle.message_resolution.specs.Histories.Legal.{LegalPast}
use Rattle.message_resolution.proofs.Coming.Advance.{MeetsNow, advanced, local_same, local_other}
use Rattle.message_resolution.proofs.Coming.LegalPasts.{step_of, course_step}

-- what a function gives at each number below n, together
total : (ℕ → ℕ) → ℕ → ℕ
total f zero = 0
total f (suc n) = total f n + f n

total_agree : (f g : ℕ → ℕ) (n : ℕ) → ((u : ℕ) → u < n → g u ≡ f u) → total g n ≡ total f n
unfolding total
total_agree f g zero same = refl
total_agree f g (suc n) same =
    let before = total_agree f g n (λ u below. same u (omega arith)) in
    let here = same n (omega arith) in
    omega arith

-- one change
total_changed : (f g : ℕ → ℕ) (n t : ℕ) → t < n → ((u : ℕ) → u ≢ t → g u ≡ f u) → total g n + f t ≡ total f n + g t
unfolding total
total_changed f g zero t t_in same = absurd (omega arith)
total_changed f g (suc n) t t_in same = elim (cases_eq t n) [
  | inl last ↦
      let before = total_agree f g n (λ u below. same u (λ is. omega arith)) in
      subst (λ k. (total g n + g n) + f k ≡ (total f n + f n) + g k) (sym last) (omega arith)
  | inr other ↦
      let before = total_changed f g n t (omega arith) same in
      let here = same n (λ is. other (sym is)) in
      omega arith
]

total_two : (n : ℕ) → total (λ u. 2) n ≡ 2 * n
unfolding total
total_two zero = refl
total_two (suc n) = let before = total_two n in omega arith

-- what a member may still send
unsaid : ℕ → ℕ → List LocalEvent → ℕ
unsaid count t past = (if has_spoken past then 0 else 1) + (if has_resolved count t past then 0 else 1)

word_spends : (order : CoverOrder) (course : Course) (t : ℕ) (past : List LocalEvent) (x : LocalEvent) → past ≡ course.local t
    → MeetsNow order course t x → length (word t past x) + (if has_spoken (x ∷ past) then 0 else 1) ≤ (if has_spoken past then 0 else 1)
word_spends order course t past (raises e) is may =
    let silent : has_spoken past ≡ false = ap has_spoken is ∙ may.0 in
    rw silent (omega arith)
word_spends order course t past (receives (message.Raised v e)) is may = elim (cases_Bool (has_spoken past)) [
  | inl spoken ↦ rw spoken (omega arith)
  | inr silent ↦ rw silent (omega arith)
]
word_spends order course t past (receives (message.Suspended v)) is may = omega arith
word_spends order course t past (receives (message.Resolved v e)) is may = omega arith

spends_one : (may had : Bool) (e : ℕ)
    → length (if may && not had then e ∷ [] else []) + (if may || had then 0 else 1) ≤ (if had then 0 else 1)
spends_one true true e = omega arith
spends_one true false e = omega arith
spends_one false true e = omega arith
spends_one false false e = omega arith

module _ (order : CoverOrder) (count : ℕ) (course : Course) (t : ℕ) (x : LocalEvent) (may : MeetsNow order course t x) where
  spends : length (answers order count t (course.local t) x) + unsaid count t (x ∷ course.local t) ≤ unsaid count t (course.local t)
  unfolding unsaid
  spends =
      let past : List LocalEvent = course.local t in
      let said = word_spends order course t (course.local t) x refl may in
      let resolved =
      spends_one (may_resolve count t (x ∷ course.local t)) (has_resolved count t (course.local t))
      (least_cover order (told (x ∷ course.local t))) in
      let both =
      length-append (word t (course.local t) x) (map (λ e. message.Resolved t e) (resolution order count t (course.local t) x)) in
      let many = length-map (resolution order count t (course.local t) x) (λ e. message.Resolved t e) in
      omega arith

  few_more : t < count → length course.messages + total (λ u. unsaid count u (course.local u)) count ≤ 2 * count
      → length (advanced order count course t x).messages + total (λ u. unsaid count u ((advanced order count course t x).local u))
      count ≤ 2 * count
  few_more t_in before =
      let spent = spends in
      let f : ℕ → ℕ = λ u. unsaid count u (course.local u) in
      let g : ℕ → ℕ = λ u. unsaid count u ((advanced order count course t x).local u) in
      let changed = total_changed f g count t t_in (λ u other. ap (unsaid count u) (local_other order count course t x u other)) in
      let now : g t ≡ unsaid count t (x ∷ course.local t) = ap (unsaid count t) (local_same order count course t x) in
      let more = length-append course.messages (answers order count t (course.local t) x) in
      omega arith

few : (order : CoverOrder) (count : ℕ) (past : List Event) → LegalPast order count past
    → length (course_of order count past).messages + total (λ u. unsaid count u ((course_of order count past).local u)) count ≤ 2 * count
unfolding unsaid
few order count [] legal = let all = total_two count in omega arith
few order count (e ∷ past) legal =
    let step = step_of order count past e legal.1 in
    subst (λ (c : Course). length c.messages + total (λ u. unsaid count u (c.local u)) count ≤ 2 * count)
    (sym (course_step order count past e step))
    (few_more order count (course_of order count past) (member_of e) step.x step.may step.member (few order count past legal.0))

-- so many members send at most two messages each
pub few_messages : (order : CoverOrder) (count : ℕ) (past : List Event) → LegalPast order count past
    → length (course_of order count past).messages ≤ 2 * count
few_messages order count past legal = let all = few order count past legal in omega arith
