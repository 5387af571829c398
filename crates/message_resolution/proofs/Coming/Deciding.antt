-- One more event keeps what is kept of what was resolved and decided.
use Rattle.std.proofs.Common.{◌≡◌, ℕ, ◌<◌, true, List, [], ◌∷◌, ◌++◌, inl, inr, refl, sym, ap, subst, All, Contains}
use Rattle.std.proofs.lemmas.Bool.{cases_Bool, both_ways, or_cases, or_right}
use Rattle.std.proofs.lemmas.List.Elements.{Contains-append_left, Contains-append_right, Contains-append_cases}
use Rattle.cover_table.specs.Cover.{CoverOrder, IsLeastCover, IsSound}
use Rattle.message_resolution.specs.declared.node.message.Message.{Message}
use Rattle.message_resolution.specs.declared.node.message.Message.TheVariants as message
use Rattle.message_resolution.specs.Members.LocalEvents.{LocalEvent, raises, receives, raised_at, resolved_at, told, has_spoken}
use Rattle.message_resolution.specs.Members.Answers.{may_resolve, has_resolved, resolution, answers, decisions}
use Rattle.message_resolution.specs.Members.LeastCover.{least_cover}
use Rattle.message_resolution.specs.Members.Nodes.{MayMeet}
use Rattle.message_resolution.specs.Histories.Courses.{Course}
use Rattle.message_resolution.proofs.Containing.{nothing_in, first_in, one_in}
use Rattle.message_resolution.proofs.LeastCovers.{least-same_set}
use Rattle.message_resolution.proofs.Knowing.States.{told_in}
use Rattle.message_resolution.proofs.Knowing.Resolving.{resolves_rightly, does_resolve}
use Rattle.message_resolution.proofs.Coming.Answering.{sends_resolved, resolution_sent, in_resolution_only, resolution_least}
use Rattle.message_resolution.proofs.Coming.Kept.{KeepsWords, KeepsDecisions, AllSpoken, told_raised, raised_told_all, all_spoken}
use Rattle.message_resolution.proofs.Coming.Advance.{MeetsNow, advanced, local_same, at_each, lasting, keeps_words}

resolved_only : (x : LocalEvent) (e : ℕ) → Contains (resolved_at x) e → (v : ℕ) × (x ≡ receives (message.Resolved v e))
resolved_only (raises f) e at = absurd (nothing_in e at)
resolved_only (receives (message.Raised v f)) e at = absurd (nothing_in e at)
resolved_only (receives (message.Suspended v)) e at = absurd (nothing_in e at)
resolved_only (receives (message.Resolved v f)) e at = (v, ap (λ y. receives (message.Resolved v y)) (one_in f e at))

-- once all have spoken, an event raises nothing
pub raises_no_more : (order : CoverOrder) (count : ℕ) (course : Course) (t : ℕ) (x : LocalEvent) → t < count → AllSpoken count course
    → MeetsNow order course t x → raised_at x ≡ []
raises_no_more order count course t (raises e) t_in spoken may = absurd (both_ways (has_spoken (course.local t)) may.0 (spoken t t_in))
raises_no_more order count course t (receives m) t_in spoken may = refl

module _ (order : CoverOrder) (sound : IsSound order) (count : ℕ) (course : Course) (raised : List ℕ)
    (words : KeepsWords order count course raised) (kept : KeepsDecisions order count course raised) (t : ℕ) (t_in : t < count)
    (x : LocalEvent) (may : MeetsNow order course t x) where
  abbrev sent : List Message
  sent = answers order count t (course.local t) x

  abbrev next : Course
  next = advanced order count course t x

  abbrev Decides : ℕ → ℕ → List LocalEvent → Type 0
  Decides e u past = Contains (decisions order count u past) e

  step_resolved_decided : (u e : ℕ) → Contains next.messages (message.Resolved u e) → Decides e u (next.local u)
  step_resolved_decided u e at = elim (Contains-append_cases course.messages sent _ at) [
    | inl before ↦ lasting order count course t x (Decides e) u
        (λ had. Contains-append_right (resolution order count t (course.local t) x ++ resolved_at x) _ e had)
        (kept.resolved_decided u e before)
    | inr now ↦
        let by = sends_resolved order count t (course.local t) x u e now in
        let here : Decides e t (x ∷ course.local t) =
        Contains-append_left (resolution order count t (course.local t) x ++ resolved_at x) _ e
        (Contains-append_left (resolution order count t (course.local t) x) (resolved_at x) e
        (subst (λ es. Contains es e) (sym by.1) (first_in e []))) in
        subst (λ v. Decides e v (next.local v)) (sym by.0) (subst (Decides e t) (sym (local_same order count course t x)) here)
  ]

  abbrev SentOne : ℕ → Type 0
  SentOne u = (e : ℕ) × Contains next.messages (message.Resolved u e)

  step_resolved_sent : (u : ℕ) → has_resolved count u (next.local u) ≡ true → SentOne u
  step_resolved_sent u = at_each order count course t x (λ v past. has_resolved count v past ≡ true → SentOne v) u
      (λ has. elim (cases_Bool (has_resolved count t (course.local t))) [
        | inl had ↦ let found = kept.resolved_sent t had in (found.0, Contains-append_left course.messages sent _ found.1)
        | inr fresh ↦ elim (or_cases (may_resolve count t (x ∷ course.local t)) (has_resolved count t (course.local t)) has) [
          | inl now ↦
              let e = least_cover order (told (x ∷ course.local t)) in (
                e,
                Contains-append_right course.messages sent _
                    (resolution_sent order count t (course.local t) x e (does_resolve order count t (course.local t) x now fresh)),
              )
          | inr had ↦ absurd (both_ways (has_resolved count t (course.local t)) fresh had)
        ]
      ])
      (λ other has. let found = kept.resolved_sent u has in (found.0, Contains-append_left course.messages sent _ found.1))

  next_words : KeepsWords order count next (raised_at x ++ raised)
  next_words = keeps_words order sound count course raised words t t_in x may

  abbrev Agreed : ℕ → Type 0
  Agreed e = AllSpoken count next × IsLeastCover order (raised_at x ++ raised) e

  -- what was agreed stays
  agreed_stays : (e : ℕ) → AllSpoken count course × IsLeastCover order raised e → Agreed e
  agreed_stays e was = (
    λ u u_in. lasting order count course t x (λ v past. has_spoken past ≡ true) u
        (λ had. or_right _ (has_spoken (course.local t)) had) (was.0 u u_in),
    subst (λ es. IsLeastCover order (es ++ raised) e) (sym (raises_no_more order count course t x t_in was.0 may)) was.1,
  )

  -- what is resolved now is agreed
  agreed_now : (e : ℕ) → resolution order count t (course.local t) x ≡ e ∷ [] → Agreed e
  agreed_now e is =
      let right = resolves_rightly order count t (course.local t) x e [] is in
      let may_next : may_resolve count t (next.local t) ≡ true =
      subst (λ past. may_resolve count t past ≡ true) (sym (local_same order count course t x)) right.0 in
      let met = subst (λ past. All (MayMeet order count t) past) (local_same order count course t x) (next_words.met t) in
      let least = resolution_least order count t (course.local t) x e sound (told_in order count t (x ∷ course.local t) met) is in
      let least_next = subst (λ past. IsLeastCover order (told past) e) (sym (local_same order count course t x)) least in (
        all_spoken order count next (raised_at x ++ raised) next_words t may_next,
        least-same_set order (told (next.local t)) (raised_at x ++ raised) e
            (told_raised order count next (raised_at x ++ raised) next_words t)
            (raised_told_all order count next (raised_at x ++ raised) next_words t may_next) least_next,
      )

  agreed_heard : (e : ℕ) → (v : ℕ) × (x ≡ receives (message.Resolved v e)) → Agreed e
  agreed_heard e from =
      let may_m = subst (MeetsNow order course t) from.1 may in
      agreed_stays e (kept.decided from.0 e (kept.resolved_decided from.0 e may_m.0))

  step_decided : (u e : ℕ) → Decides e u (next.local u) → Agreed e
  step_decided u e = at_each order count course t x (λ v past. Decides e v past → Agreed e) u
      (λ at. elim (Contains-append_cases (resolution order count t (course.local t) x ++ resolved_at x) _ e at) [
        | inl now ↦ elim (Contains-append_cases (resolution order count t (course.local t) x) (resolved_at x) e now) [
          | inl resolves ↦ agreed_now e (in_resolution_only order count t (course.local t) x e resolves)
          | inr heard ↦ agreed_heard e (resolved_only x e heard)
        ]
        | inr before ↦ agreed_stays e (kept.decided t e before)
      ])
      (λ other at. agreed_stays e (kept.decided u e at))

  pub keeps_decisions : KeepsDecisions order count (advanced order count course t x) (raised_at x ++ raised)
  keeps_decisions = record {
    resolved_decided = step_resolved_decided;
    resolved_sent = step_resolved_sent;
    decided = step_decided;
  }
