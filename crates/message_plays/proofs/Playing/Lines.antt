-- The lines of a play, and its text.
use Rattle.std.proofs.Common.{◌≡◌, ◌≢◌, ℕ, ◌+◌, ◌*◌, ◌<◌, List, [], ◌∷◌, ◌++◌, length, length-append, append_assoc, add-zero, zero-add, slice_get, take, Option, Some, None, reverse, codes, inl, inr, refl, sym, ◌∙◌, ap, subst, subst₂, Contains, arith}
use Rattle.std.specs.Prelude.{IfSome}
use Rattle.std.specs.List.{flat_map}
use Rattle.std.proofs.lemmas.List.{append-nil, take_more, flat_map_more}
use Rattle.std.proofs.lemmas.Option.{slice_get_within, get_or_from_slice_get}
use Rattle.cover_table.specs.Cover.{CoverOrder}
use Rattle.place_plan.specs.Plans.PlanValue.{Plan}
use Rattle.message_resolution.specs.declared.world.event.Event.{Event}
use Rattle.message_resolution.specs.declared.world.event.Event.TheVariants.{Raise, Deliver}
use Rattle.message_resolution.specs.Members.Answers.{decisions}
use Rattle.message_resolution.specs.Members.Nodes.{IsCoverOf, IsOneOf}
use Rattle.message_resolution.specs.Histories.Agreement.{IsAgreedForGood}
use Rattle.message_resolution.specs.Histories.Courses.{course_of, member_of, all_raised}
use Rattle.message_resolution.specs.Histories.Legal.{LegalPast}
use Rattle.message_resolution.specs.Histories.Settling.{Settles, settled, AllHaveDecided}
use Rattle.message_resolution.specs.Histories.Worlds.{WorldView}
use Rattle.message_resolution.proofs.Containing.{nothing_in, cases_in}
use Rattle.message_resolution.proofs.Coming.LegalPasts.{step_of, contains_got}
use Rattle.message_resolution.proofs.Running.Places.{got_push, Contains-from_reverse}
use Rattle.message_plays.specs.Turns.{members, order_of, course, after_turns, first_wish, with_raise, with_last_wish, before_settling}
use Rattle.message_plays.specs.Texts.{event_line, resolved_line, resolved_lines, IsPlayedByMessages}
use Rattle.message_plays.specs.inner.WorldOfPlan.{IsWorldOf, AddsDecisions, HasEvent}
use Rattle.message_plays.proofs.Playing.Wishes.{first_wish-end}
use Rattle.message_plays.proofs.Playing.Rounds.{after_none}

-- each event of a legal past is of a member that is there
event_member : (order : CoverOrder) (count : ℕ) (past : List Event) (e : Event) → LegalPast order count past → Contains past e
    → member_of e < count
event_member order count [] e legal at = absurd (nothing_in e at)
event_member order count (x ∷ past) e legal at = elim (cases_in x past e at) [
  | inl same ↦ let step = step_of order count past x legal.1 in subst (λ y. member_of y < count) same step.member
  | inr later ↦ event_member order count past e legal.0 later
]

pub has_event : (plan : Plan) (past : List Event) (index : ℕ) (e : Event) → LegalPast (order_of plan) (members plan) past
    → slice_get (reverse past) index ≡ Some e → HasEvent plan e
has_event plan past index (Raise by exception) legal is =
    event_member (order_of plan) (members plan) past (Raise by exception) legal
    (Contains-from_reverse past (Raise by exception) (contains_got (reverse past) index (Raise by exception) is))
has_event plan past index (Deliver to number) legal is =
    event_member (order_of plan) (members plan) past (Deliver to number) legal
    (Contains-from_reverse past (Deliver to number) (contains_got (reverse past) index (Deliver to number) is))

-- one more event
pub lines_more : (f : Event → List ℕ) (xs : List Event) (i : ℕ) (e : Event) (old new next : List ℕ) → slice_get xs i ≡ Some e
    → new ≡ old ++ flat_map f (take i xs) → next ≡ new ++ f e → next ≡ old ++ flat_map f (take (i + 1) xs)
lines_more f xs i e old new next at before added =
    let one : take (i + 1) xs ≡ take i xs ++ e ∷ [] =
    take_more xs i e (slice_get_within xs i e at) ∙ ap (λ y. take i xs ++ y ∷ []) (get_or_from_slice_get xs i e e at) in
    added ∙ ap (λ t. t ++ f e) before ∙ flat_map_more f old (take i xs) e ∙ ap (λ ys. old ++ flat_map f ys) (sym one)

-- what a member has decided in a world is what it has decided in the play
pub own_of_plan : (plan : Plan) (world : WorldView) → IsWorldOf plan world → (t : ℕ) (found : Option ℕ)
    → IsOneOf (decisions world.order world.count t ((course_of world.order world.count world.past).local t)) found
    → IsOneOf (decisions (order_of plan) (members plan) t ((course plan world.past).local t)) found
own_of_plan plan world is t found own =
    subst₂ (λ o n. IsOneOf (decisions o n t ((course_of o n world.past).local t)) found) is.order is.count own

pub agreed_of_plan : (plan : Plan) (world : WorldView) → IsWorldOf plan world → (found : Option ℕ)
    → IfSome found (IsAgreedForGood world.order world.count world.past)
    → IfSome found (IsAgreedForGood (order_of plan) (members plan) world.past)
agreed_of_plan plan world is found agreed = subst₂ (λ o n. IfSome found (IsAgreedForGood o n world.past)) is.order is.count agreed

pub legal_of_plan : (plan : Plan) (world : WorldView) → IsWorldOf plan world → LegalPast world.order world.count world.past
    → LegalPast (order_of plan) (members plan) world.past
legal_of_plan plan world is legal = subst₂ (λ o n. LegalPast o n world.past) is.order is.count legal

-- one more line of what a member has decided
resolved_lines-push : (plan : Plan) (m : ℕ) (decided : List (Option ℕ)) (found : Option ℕ)
    → resolved_lines plan m (decided ++ found ∷ []) ≡ resolved_lines plan m decided ++ resolved_line plan (m + length decided) found
resolved_lines-push plan m [] found = rw add-zero (append-nil (resolved_line plan m found))
resolved_lines-push plan m (d ∷ decided) found =
    ap (λ ls. resolved_line plan m d ++ ls) (resolved_lines-push plan (m + 1) decided found)
    ∙ sym
    (append_assoc (resolved_line plan m d) (resolved_lines plan (m + 1) decided) (resolved_line plan ((m + 1) + length decided) found))
    ∙ ap (λ k. (resolved_line plan m d ++ resolved_lines plan (m + 1) decided) ++ resolved_line plan k found) (omega arith)

pub decisions_more : (plan : Plan) (past : List Event) (old new next : List ℕ) (n : ℕ) (found : Option ℕ)
    → AddsDecisions plan past old new n → IsOneOf (decisions (order_of plan) (members plan) n ((course plan past).local n)) found
    → IfSome found (IsAgreedForGood (order_of plan) (members plan) past) → next ≡ new ++ resolved_line plan n found
    → AddsDecisions plan past old next (n + 1)
decisions_more plan past old new next n found before own agreed added =
    let all = before.all in
    let longer = length-append before.decided (found ∷ []) in
    record {
      decided = before.decided ++ found ∷ [];
      all = omega arith;
      own = λ t is at. elim (got_push before.decided found is t at) [
        | inl earlier ↦ before.own t is earlier
        | inr last ↦ subst (λ o. IsOneOf (decisions (order_of plan) (members plan) t ((course plan past).local t)) o) last.1
            (subst (λ k. IsOneOf (decisions (order_of plan) (members plan) k ((course plan past).local k)) found)
            (sym all ∙ sym last.0) own)
      ];
      agreed = λ t is at. elim (got_push before.decided found is t at) [
        | inl earlier ↦ before.agreed t is earlier
        | inr last ↦ subst (λ o. IfSome o (IsAgreedForGood (order_of plan) (members plan) past)) last.1 agreed
      ];
      lines =
          added
          ∙ ap (λ text. text ++ resolved_line plan n found) before.lines
          ∙ append_assoc old (resolved_lines plan 0 before.decided) (resolved_line plan n found)
          ∙ ap (λ ls. old ++ ls)
          (ap (λ k. resolved_lines plan 0 before.decided ++ resolved_line plan k found)
          (sym all ∙ sym (zero-add (length before.decided))) ∙ sym (resolved_lines-push plan 0 before.decided found));
    }

-- what was decided is the least cover of everything, or nothing was raised
pub decided_least : (order : CoverOrder) (count : ℕ) (past : List Event) (t : ℕ) (found : Option ℕ) → t < count → LegalPast order count past
    → (all_raised past ≢ [] → AllHaveDecided order count past)
    → IsOneOf (decisions order count t ((course_of order count past).local t)) found → IfSome found (IsAgreedForGood order count past)
    → IsCoverOf order (all_raised past) found
decided_least order count past t None t_in legal all own agreed = cases (all_raised past) refl
  where
    cases : (es : List ℕ) → all_raised past ≡ es → all_raised past ≡ []
    cases [] is = is
    cases (e ∷ es) is =
        let found = all (λ none. let both : e ∷ es ≡ [] = sym is ∙ none in absurd cc) t t_in in
        absurd (nothing_in found.0 (subst (λ ds. Contains ds found.0) own found.1))
decided_least order count past t (Some e) t_in legal all own agreed = let stays = agreed [] legal in stays.agreed.least

-- settling raises nothing, so all have decided afterwards where anything is raised then
all_decided : (order : CoverOrder) (count : ℕ) (old new : List Event) → (all_raised old ≢ [] → AllHaveDecided order count new)
    → (all_raised old ≡ [] → new ≡ old) → all_raised new ≢ [] → AllHaveDecided order count new
all_decided order count old new decided unchanged some = cases (all_raised old) refl
  where
    cases : (es : List ℕ) → all_raised old ≡ es → AllHaveDecided order count new
    cases [] is = absurd (some (ap all_raised (unchanged is) ∙ is))
    cases (e ∷ es) is = decided (λ none. let both : e ∷ es ≡ [] = sym is ∙ none in absurd cc)

-- a world that played a plan by the turns of a seed, and settled
pub record HasSettled (plan : Plan) (seed : ℕ) (old new : WorldView) : Type 0 where
  pub world : IsWorldOf plan old
  pub turns : old.past ≡ before_settling plan seed
  pub others : new ≡ record old { past = new.past }
  pub settles : Settles old.order old.count old.past new.past
  pub decided : all_raised old.past ≢ [] → AllHaveDecided old.order old.count new.past
  pub unchanged : all_raised old.past ≡ [] → new.past ≡ old.past
  pub legal : LegalPast new.order new.count new.past

module _ (plan : Plan) (seed : ℕ) (old new : WorldView) (h : HasSettled plan seed old new) where
  of_plan : (Q : CoverOrder → ℕ → Type 0) → Q old.order old.count → Q (order_of plan) (members plan)
  of_plan Q q = subst₂ Q h.world.order h.world.count q

  pub settled_world : IsWorldOf plan new
  settled_world = subst (IsWorldOf plan) (sym h.others) (record { order = h.world.order; count = h.world.count })

  legal : LegalPast (order_of plan) (members plan) new.past
  legal = legal_of_plan plan new settled_world h.legal

  all : all_raised new.past ≢ [] → AllHaveDecided (order_of plan) (members plan) new.past
  all =
      of_plan (λ o n. all_raised new.past ≢ [] → AllHaveDecided o n new.past)
      (all_decided old.order old.count old.past new.past h.decided h.unchanged)

  pub played : (events text : List ℕ) → events ≡ codes "messages\n" ++ flat_map (event_line plan) (reverse new.past)
      → AddsDecisions plan new.past events text (members plan) → IsPlayedByMessages plan seed text
  played events text told adds = record {
    past = new.past;
    settles =
        subst (λ es. Settles (order_of plan) (members plan) es new.past) h.turns (of_plan (λ o n. Settles o n old.past new.past) h.settles);
    decided = adds.decided;
    all = adds.all;
    own = adds.own;
    least = λ t found at.
        let within = slice_get_within adds.decided t found at in
        let many = adds.all in
        decided_least (order_of plan) (members plan) new.past t found (omega arith) legal all (adds.own t found at)
        (adds.agreed t found at);
    told = adds.lines ∙ ap (λ es. es ++ resolved_lines plan 0 adds.decided) told;
  }

-- where there are no members nothing happens
pub played_by_nobody : (plan : Plan) (seed : ℕ) (text : List ℕ) → members plan ≡ 0 → text ≡ codes "messages\n"
    → IsPlayedByMessages plan seed text
played_by_nobody plan seed text none told =
    let turns : after_turns plan seed (4 * members plan) ≡ [] = ap (λ n. after_turns plan seed (4 * n)) none ∙ after_none plan seed in
    let wish : first_wish plan 0 (members plan) ≡ None = first_wish-end plan 0 (members plan) none in
    let past : before_settling plan seed ≡ [] = ap (λ es. with_last_wish plan es (all_raised es)) turns ∙ ap (with_raise []) wish in
    record {
      past = [];
      settles =
          subst (λ es. Settles (order_of plan) (members plan) es []) (sym past)
          (settled (λ number t due. let within = due.member in absurd (omega arith)));
      decided = [];
      all = sym none;
      own = λ t found at. absurd cc;
      least = λ t found at. absurd cc;
      told = told;
    }
