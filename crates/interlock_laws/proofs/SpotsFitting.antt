-- Any two roles of a place that isn't resolved stand at spots that fit.
use Rattle.std.proofs.Common.{◌≡◌, ℕ, ◌==◌, Bool, true, false, not, cond, ◌&&◌, List, [], ◌∷◌, Some, None, Option, slice_get, suc, refl, sym, ap, ◌∙◌, subst, inl, inr, is_none}
use Rattle.std.proofs.lemmas.Bool.{and_parts, and_left, eqb-true, eq-eqb, false≢true, cases_Bool}
use Rattle.caa_base.specs.declared.written.entry.Entry.{Entry}
use Rattle.caa_base.specs.declared.written.entry.Kind.{Kind}
use Rattle.caa_base.specs.declared.written.entry.Kind.TheVariants as kind
use Rattle.caa_base.specs.declared.written.entry.Outcome.{Outcome}
use Rattle.caa_base.specs.declared.written.entry.Outcome.TheVariants as outcome
use Rattle.caa_base.specs.Written.Lists.{is_at, member}
use Rattle.place_plan.specs.declared.drafts.draft_rows.Step.TheVariants as step
use Rattle.place_plan.specs.Plans.PlanValue.{Plan}
use Rattle.place_plan.specs.Plans.Places.{parent, roles_of, next_alternate, alternates_of, nest_number, nest_of, map_signal, body_of, fault_of}
use Rattle.place_plan.specs.RulesOfJournals.Entries.{is_in, is_by, newest}
use Rattle.place_plan.specs.RulesOfJournals.Whereabouts.{outcome_at, has_ended, is_left_in_silence}
use Rattle.place_plan.specs.RulesOfJournals.Raising.{exception_resolved}
use Rattle.place_plan.specs.RulesOfJournals.Roles.{position, is_undo, verdict_at}
use Rattle.place_plan.specs.RulesOfJournals.Rules.{Row, MayEnd, abort_mapped}
use Rattle.place_plan.specs.RulesOfJournals.Journals.{LegalPast}
use Rattle.journal_laws.specs.Laws.{Holds}
use Rattle.journal_laws.proofs.Playable.{IsPlayable}
use Rattle.journal_laws.proofs.Core.{Core}
use Rattle.caa_base.proofs.ListLemmas.{at_same}
use Rattle.place_plan.proofs.OnJournals.EntryKinds.{of_kind}
use Rattle.journal_laws.proofs.Holding.{end_live}
use Rattle.journal_laws.proofs.Lives.{live_parts}
use Rattle.reach_laws.proofs.CameOut.{one_enter}
use Rattle.interlock_laws.specs.Spots.{whole_use, Spot, body_at, raised_at, quiet_at, handler_at, broken_at, stepped, raising, refused, said, back_from, out_of, out_of_abort, spot_of}
use Rattle.interlock_laws.specs.SpotLaws.{is_given_up, was_given_up, SpotsFit}
use Rattle.interlock_laws.proofs.SpotSteps.{unresolved_before}
use Rattle.interlock_laws.proofs.StayedIn.{live_staying}
use Rattle.interlock_laws.proofs.BodySpots.{standing}
use Rattle.interlock_laws.proofs.UsesBehind.{at_enter_step, uses_are_over}
use Rattle.interlock_laws.proofs.AlternatesLeft.{alternates_are_left}

-- ---- what entries keep of who has come out of a use

-- who came out of a use with an exception, or gave it up, is so still
record IsLasting (f : Spot → Spot) : Type 0 where
  raised : (n y : ℕ) (s : Spot) → s ≡ raised_at (whole_use n) y → f s ≡ raised_at (whole_use n) y
  left : (n : ℕ) (s : Spot) → was_given_up n s ≡ true → was_given_up n (f s) ≡ true

-- and nobody comes out of one so
record IsMild (f : Spot → Spot) : Type 0 where
  lasting : IsLasting f
  raised : (n y : ℕ) (s : Spot) → f s ≡ raised_at (whole_use n) y → s ≡ raised_at (whole_use n) y
  left : (n : ℕ) (s : Spot) → is_given_up n (f s) ≡ true → is_given_up n s ≡ true

stepped_left : (n : ℕ) (s : Spot) → was_given_up n s ≡ true → was_given_up n (stepped s) ≡ true
stepped_left n (body_at i j) h = absurd (false≢true h)
stepped_left n (raised_at cause y) h = h
stepped_left n (quiet_at i) h = h
stepped_left n (handler_at x i) h = absurd (false≢true h)
stepped_left n (broken_at x) h = absurd (false≢true h)

stepped_raised : (n y : ℕ) (s : Spot) → stepped s ≡ raised_at (whole_use n) y → s ≡ raised_at (whole_use n) y
stepped_raised n y (body_at i j) e = absurd cc
stepped_raised n y (raised_at cause z) e = e
stepped_raised n y (quiet_at i) e = e
stepped_raised n y (handler_at x i) e = absurd cc
stepped_raised n y (broken_at x) e = e

stepped_given : (n : ℕ) (s : Spot) → is_given_up n (stepped s) ≡ true → is_given_up n s ≡ true
stepped_given n (body_at i j) h = absurd (false≢true h)
stepped_given n (raised_at cause y) h = h
stepped_given n (quiet_at i) h = h
stepped_given n (handler_at x i) h = absurd (false≢true h)
stepped_given n (broken_at x) h = absurd (false≢true h)

step_mild : IsMild stepped
step_mild = record {
  lasting = record { raised = λ n y s e. ap stepped e; left = stepped_left };
  raised = stepped_raised;
  left = stepped_given;
}

raising_left : (z n : ℕ) (s : Spot) → was_given_up n s ≡ true → was_given_up n (raising z s) ≡ true
raising_left z n (body_at i j) h = absurd (false≢true h)
raising_left z n (raised_at cause y) h = h
raising_left z n (quiet_at i) h = h
raising_left z n (handler_at x i) h = absurd (false≢true h)
raising_left z n (broken_at x) h = absurd (false≢true h)

raising_raised : (z n y : ℕ) (s : Spot) → raising z s ≡ raised_at (whole_use n) y → s ≡ raised_at (whole_use n) y
raising_raised z n y (body_at i j) e = absurd cc
raising_raised z n y (raised_at cause w) e = e
raising_raised z n y (quiet_at i) e = absurd cc
raising_raised z n y (handler_at x i) e = e
raising_raised z n y (broken_at x) e = e

raising_given : (z n : ℕ) (s : Spot) → is_given_up n (raising z s) ≡ true → is_given_up n s ≡ true
raising_given z n (body_at i j) h = absurd (false≢true h)
raising_given z n (raised_at cause y) h = h
raising_given z n (quiet_at i) h = absurd (false≢true h)
raising_given z n (handler_at x i) h = absurd (false≢true h)
raising_given z n (broken_at x) h = absurd (false≢true h)

raise_mild : (z : ℕ) → IsMild (raising z)
raise_mild z = record {
  lasting = record { raised = λ n y s e. ap (raising z) e; left = raising_left z };
  raised = raising_raised z;
  left = raising_given z;
}

refused_left : (z n : ℕ) (s : Spot) → was_given_up n s ≡ true → was_given_up n (refused z s) ≡ true
refused_left z n (body_at i j) h = absurd (false≢true h)
refused_left z n (raised_at cause y) h = h
refused_left z n (quiet_at i) h = h
refused_left z n (handler_at x i) h = absurd (false≢true h)
refused_left z n (broken_at x) h = absurd (false≢true h)

refused_raised : (z n y : ℕ) (s : Spot) → refused z s ≡ raised_at (whole_use n) y → s ≡ raised_at (whole_use n) y
refused_raised z n y (body_at i j) e = absurd cc
refused_raised z n y (raised_at cause w) e = e
refused_raised z n y (quiet_at i) e = e
refused_raised z n y (handler_at x i) e = absurd cc
refused_raised z n y (broken_at x) e = e

refused_given : (z n : ℕ) (s : Spot) → is_given_up n (refused z s) ≡ true → is_given_up n s ≡ true
refused_given z n (body_at i j) h = absurd (false≢true h)
refused_given z n (raised_at cause y) h = h
refused_given z n (quiet_at i) h = h
refused_given z n (handler_at x i) h = absurd (false≢true h)
refused_given z n (broken_at x) h = absurd (false≢true h)

refuse_mild : (z : ℕ) → IsMild (refused z)
refuse_mild z = record {
  lasting = record { raised = λ n y s e. ap (refused z) e; left = refused_left z };
  raised = refused_raised z;
  left = refused_given z;
}

said_left : (undo : Bool) (n : ℕ) (s : Spot) → was_given_up n s ≡ true → was_given_up n (said undo s) ≡ true
said_left true n (body_at i j) h = absurd (false≢true h)
said_left true n (raised_at cause y) h = h
said_left true n (quiet_at i) h = h
said_left true n (handler_at x i) h = absurd (false≢true h)
said_left true n (broken_at x) h = absurd (false≢true h)
said_left false n s h = h

said_raised : (undo : Bool) (n y : ℕ) (s : Spot) → said undo s ≡ raised_at (whole_use n) y → s ≡ raised_at (whole_use n) y
said_raised true n y (body_at i j) e = e
said_raised true n y (raised_at cause w) e = e
said_raised true n y (quiet_at i) e = e
said_raised true n y (handler_at x i) e = absurd cc
said_raised true n y (broken_at x) e = e
said_raised false n y s e = e

said_given : (undo : Bool) (n : ℕ) (s : Spot) → is_given_up n (said undo s) ≡ true → is_given_up n s ≡ true
said_given true n (body_at i j) h = h
said_given true n (raised_at cause y) h = h
said_given true n (quiet_at i) h = h
said_given true n (handler_at x i) h = absurd (false≢true h)
said_given true n (broken_at x) h = h
said_given false n s h = h

said_same_raised : (undo : Bool) (n y : ℕ) (s : Spot) → s ≡ raised_at (whole_use n) y → said undo s ≡ raised_at (whole_use n) y
said_same_raised true n y s e = ap (said true) e
said_same_raised false n y s e = e

say_mild : (undo : Bool) → IsMild (said undo)
say_mild undo = record {
  lasting = record { raised = said_same_raised undo; left = said_left undo };
  raised = said_raised undo;
  left = said_given undo;
}

back_left : (plan : Plan) (c : ℕ) (abort : Option Entry) (how : Outcome) (n : ℕ) (s : Spot) → was_given_up n s ≡ true
    → was_given_up n (back_from plan c abort how s) ≡ true
back_left plan c abort how n (body_at i j) h = absurd (false≢true h)
back_left plan c abort how n (raised_at cause y) h = h
back_left plan c abort how n (quiet_at i) h = h
back_left plan c abort how n (handler_at x i) h = absurd (false≢true h)
back_left plan c abort how n (broken_at x) h = absurd (false≢true h)

back_lasting : (plan : Plan) (c : ℕ) (abort : Option Entry) (how : Outcome) → IsLasting (back_from plan c abort how)
back_lasting plan c abort how =
    record { raised = λ n y s e. ap (back_from plan c abort how) e; left = back_left plan c abort how }

lasts_raised : (f : Spot → Spot) → IsLasting f → (b : Bool) (n y : ℕ) (s : Spot) → s ≡ raised_at (whole_use n) y
    → cond b (f s) s ≡ raised_at (whole_use n) y
lasts_raised f l true n y s e = l.raised n y s e
lasts_raised f l false n y s e = e

lasts_left : (f : Spot → Spot) → IsLasting f → (b : Bool) (n : ℕ) (s : Spot) → was_given_up n s ≡ true
    → was_given_up n (cond b (f s) s) ≡ true
lasts_left f l true n s h = l.left n s h
lasts_left f l false n s h = h

mild_raised : (f : Spot → Spot) → IsMild f → (b : Bool) (n y : ℕ) (s : Spot) → cond b (f s) s ≡ raised_at (whole_use n) y
    → s ≡ raised_at (whole_use n) y
mild_raised f l true n y s e = l.raised n y s e
mild_raised f l false n y s e = e

mild_left : (f : Spot → Spot) → IsMild f → (b : Bool) (n : ℕ) (s : Spot) → is_given_up n (cond b (f s) s) ≡ true → is_given_up n s ≡ true
mild_left f l true n s h = l.left n s h
mild_left f l false n s h = h

-- ---- who comes out of a use with an exception, and who gave it up

-- what one raises when it comes out, unless it was given up, all do
out_raised : (plan : Plan) (c : ℕ) (abort : Option Entry) (i j n y : ℕ) (how : Outcome)
    → out_of plan c abort i j how ≡ raised_at (whole_use n) y
    → (i ≡ n) × ((also : Option Entry) (m l : ℕ) → out_of plan c also m l how ≡ raised_at (whole_use m) y)
out_raised plan c abort i j n y outcome.Commit e = absurd cc
out_raised plan c abort i j n y (outcome.Signal x) e =
    (cc, λ also m l. let same : map_signal plan c x ≡ y = cc in ap (raised_at (whole_use m)) same)
out_raised plan c abort i j n y outcome.Undone e = by_next (is_none (next_alternate plan c)) e
  where
    by_next : (b : Bool) → cond b (raised_at (whole_use i) (nest_of plan c).undo) (body_at i (suc j)) ≡ raised_at (whole_use n) y
        → (i ≡ n) × ((also : Option Entry) (m l : ℕ)
        → cond b (raised_at (whole_use m) (nest_of plan c).undo) (body_at m (suc l)) ≡ raised_at (whole_use m) y)
    by_next true w = (cc, λ also m l. let same : (nest_of plan c).undo ≡ y = cc in ap (raised_at (whole_use m)) same)
    by_next false w = absurd cc
out_raised plan c abort i j n y outcome.Aborted e = by_name (abort_mapped plan c abort) e
  where
    by_name : (o : Option ℕ) → out_of_abort i o ≡ raised_at (whole_use n) y
        → (i ≡ n) × ((also : Option Entry) (m l : ℕ) → out_of plan c also m l outcome.Aborted ≡ raised_at (whole_use m) y)
    by_name None w = absurd cc
    by_name (Some z) w = absurd cc
out_raised plan c abort i j n y outcome.Failed e =
    (cc, λ also m l. let same : (nest_of plan c).failure ≡ y = cc in ap (raised_at (whole_use m)) same)

abort_given : (i n : ℕ) (o : Option ℕ) → is_given_up n (out_of_abort i o) ≡ true → i ≡ n
abort_given i n None h = let same = eqb-true (suc i) (suc n) h in cc
abort_given i n (Some y) h = eqb-true i n h

given_abort : (m : ℕ) (o : Option ℕ) → was_given_up m (out_of_abort m o) ≡ true
given_abort m None = eq-eqb (suc m) (suc m) refl
given_abort m (Some y) = eq-eqb m m refl

-- where one has given up, all have
out_given : (plan : Plan) (c : ℕ) (abort : Option Entry) (i j n : ℕ) (how : Outcome) → is_given_up n (out_of plan c abort i j how) ≡ true
    → (i ≡ n) × ((also : Option Entry) (m l : ℕ) → was_given_up m (out_of plan c also m l how) ≡ true)
out_given plan c abort i j n outcome.Commit h = absurd (false≢true h)
out_given plan c abort i j n (outcome.Signal x) h = absurd (false≢true h)
out_given plan c abort i j n outcome.Undone h = absurd (by_next (is_none (next_alternate plan c)) h)
  where
    by_next : (b : Bool) → is_given_up n (cond b (raised_at (whole_use i) (nest_of plan c).undo) (body_at i (suc j))) ≡ true → ⊥
    by_next true w = false≢true w
    by_next false w = false≢true w
out_given plan c abort i j n outcome.Aborted h =
    (abort_given i n (abort_mapped plan c abort) h, λ also m l. given_abort m (abort_mapped plan c also))
out_given plan c abort i j n outcome.Failed h = absurd (false≢true h)

module _ (plan : Plan) (playable : IsPlayable plan) (core : Holds Core plan) where
  -- the step n of the body of t in p enters the use k
  abbrev Enters : ℕ → ℕ → ℕ → ℕ → Type 0
  Enters p t n k = slice_get (body_of plan p t).steps n ≡ Some (step.Enter k)

  -- what comes out of a use together: t stands at a, and u at b
  record Together (p t u : ℕ) (a b : Spot) : Type 0 where
    whole : (n m k y : ℕ) → Enters p t n k → Enters p u m k → a ≡ raised_at (whole_use n) y → b ≡ raised_at (whole_use m) y
    gave_up : (n m k : ℕ) → Enters p t n k → Enters p u m k → is_given_up n a ≡ true → was_given_up m b ≡ true

  mild_together : (f : Spot → Spot) → IsMild f → (p t u : ℕ) (b c : Bool) (a d : Spot) → Together p t u a d
      → Together p t u (cond b (f a) a) (cond c (f d) d)
  mild_together f l p t u b c a d was = record {
    whole = λ n m k y at also e. lasts_raised f l.lasting c m y d (was.whole n m k y at also (mild_raised f l b n y a e));
    gave_up = λ n m k at also h. lasts_left f l.lasting c m d (was.gave_up n m k at also (mild_left f l b n a h));
  }

  -- ---- the end of a use

  -- t, with a role in the place of p that ends, was at the step that enters its use
  record AtUse (past : List Entry) (e : Entry) (p t : ℕ) : Type 0 where
    turn : ℕ
    stood : spot_of plan past p t ≡ body_at (position plan past p t) turn
    enters : Enters p t (position plan past p t) (nest_number plan e.place)

  at_use : (past : List Entry) (e : Entry) (p t : ℕ) → LegalPast plan past → MayEnd plan past (of_kind kind.End e)
      → exception_resolved past p ≡ None → parent plan e.place ≡ Some p → member t (roles_of plan e.place) ≡ true → AtUse past e p t
  at_use past e p t legal h none up role =
      let live = live_parts e.place past (end_live plan playable.tree past (of_kind kind.End e) legal h) in
      let in_it = live_staying plan playable.tree past legal e.place t role live.0 live.1 in
      let found =
      (standing plan playable core past legal p t none).further e.place up in_it
      (and_left (has_ended past e.place) (not (is_left_in_silence plan past e.place)) live.1) in
      record {
        turn = found.0;
        stood = found.1;
        enters =
            at_enter_step plan playable core past e.place p t legal none up
            ((core past legal).visits.whole e.place t live.0 role) live.1;
      }

  -- the other role of the use is in the place that ends, too, and at the step that enters it
  also_in : (past : List Entry) (e : Entry) (p t u n m k : ℕ) → LegalPast plan past → MayEnd plan past (of_kind kind.End e)
      → exception_resolved past p ≡ None → parent plan e.place ≡ Some p → (at : AtUse past e p t) → position plan past p t ≡ n
      → Enters p t n k → Enters p u m k
      → (member u (roles_of plan e.place) ≡ true) × ((here : AtUse past e p u) → position plan past p u ≡ m)
  also_in past e p t u n m k legal h none up at same enters also =
      let one : Some (step.Enter (nest_number plan e.place)) ≡ Some (step.Enter k) =
      sym at.enters ∙ ap (slice_get (body_of plan p t).steps) same ∙ enters in
      let its_use : nest_number plan e.place ≡ k = cc in (
        (playable.tree.enters p u None m k also e.place
            (subst (λ a. member e.place (alternates_of plan p a) ≡ true) its_use (playable.back p e.place up))).1,
        λ here. one_enter plan playable core p u (position plan past p u) m k (here.enters ∙ ap (λ a. Some (step.Enter a)) its_use) also,
      )

  end_together : (past : List Entry) (e : Entry) (p t u : ℕ) → LegalPast plan past → MayEnd plan past (of_kind kind.End e)
      → exception_resolved past p ≡ None → parent plan e.place ≡ Some p → member t (roles_of plan e.place) ≡ true
      → is_at (parent plan e.place) p ≡ true
      → Together p t u (spot_of plan (of_kind kind.End e ∷ past) p t) (spot_of plan (of_kind kind.End e ∷ past) p u)
  end_together past e p t u legal h none up role right_inside =
      let how = outcome_at (of_kind kind.End e) in
      let abort = λ (v : ℕ). newest (is_by kind.Abort e.place v) past in
      let at = at_use past e p t legal h none up role in
      let spot : spot_of plan (of_kind kind.End e ∷ past) p t ≡ out_of plan e.place (abort t) (position plan past p t) at.turn how =
      rw (right_inside, role) (ap (back_from plan e.place (abort t) how) at.stood) in
      let other : (r : member u (roles_of plan e.place) ≡ true) → (here : AtUse past e p u)
      → spot_of plan (of_kind kind.End e ∷ past) p u ≡ out_of plan e.place (abort u) (position plan past p u) here.turn how =
      λ r here. rw (right_inside, r) (ap (back_from plan e.place (abort u) how) here.stood) in
      record {
        whole = λ n m k y enters also e'.
            let out = out_raised plan e.place (abort t) (position plan past p t) at.turn n y how (sym spot ∙ e') in
            let in_it = also_in past e p t u n m k legal h none up at out.0 enters also in
            let here = at_use past e p u legal h none up in_it.0 in
            other in_it.0 here ∙ out.1 (abort u) (position plan past p u) here.turn
            ∙ ap (λ i. raised_at (whole_use i) y) (in_it.1 here);
        gave_up = λ n m k enters also g.
            let out =
            out_given plan e.place (abort t) (position plan past p t) at.turn n how (subst (λ s. is_given_up n s ≡ true) spot g) in
            let in_it = also_in past e p t u n m k legal h none up at out.0 enters also in
            let here = at_use past e p u legal h none up in_it.0 in
            subst (λ i. was_given_up i (spot_of plan (of_kind kind.End e ∷ past) p u) ≡ true) (in_it.1 here)
            (subst (λ s. was_given_up (position plan past p u) s ≡ true) (sym (other in_it.0 here))
            (out.1 (abort u) (position plan past p u) here.turn));
      }

  -- t has no role in the place that ends
  end_apart : (past : List Entry) (e : Entry) (p t u : ℕ) → (is_at (parent plan e.place) p && member t (roles_of plan e.place)) ≡ false
      → Together p t u (spot_of plan past p t) (spot_of plan past p u)
      → Together p t u (spot_of plan (of_kind kind.End e ∷ past) p t) (spot_of plan (of_kind kind.End e ∷ past) p u)
  end_apart past e p t u x was =
      let back = back_from plan e.place (newest (is_by kind.Abort e.place u) past) (outcome_at (of_kind kind.End e)) in
      let lasting = back_lasting plan e.place (newest (is_by kind.Abort e.place u) past) (outcome_at (of_kind kind.End e)) in
      let own = is_at (parent plan e.place) p && member u (roles_of plan e.place) in
      let same : spot_of plan (of_kind kind.End e ∷ past) p t ≡ spot_of plan past p t = rw x refl in
      record {
        whole = λ n m k y at also e'.
            lasts_raised back lasting own m y (spot_of plan past p u) (was.whole n m k y at also (sym same ∙ e'));
        gave_up = λ n m k at also g.
            lasts_left back lasting own m (spot_of plan past p u)
            (was.gave_up n m k at also (subst (λ s. is_given_up n s ≡ true) same g));
      }

  -- ---- all kinds

  together_by : (past : List Entry) (k : Kind) (e : Entry) (p t u : ℕ) → LegalPast plan past → Row k plan past (of_kind k e)
      → exception_resolved past p ≡ None → is_in kind.Resolve p (of_kind k e) ≡ false
      → Together p t u (spot_of plan past p t) (spot_of plan past p u)
      → Together p t u (spot_of plan (of_kind k e ∷ past) p t) (spot_of plan (of_kind k e ∷ past) p u)
  together_by past kind.Read e p t u legal h none n was =
      mild_together stepped step_mild p t u ((e.place == p) && (e.by == t)) ((e.place == p) && (e.by == u)) _ _ was
  together_by past kind.Work e p t u legal h none n was =
      mild_together stepped step_mild p t u ((e.place == p) && (e.by == t)) ((e.place == p) && (e.by == u)) _ _ was
  together_by past kind.Write e p t u legal h none n was =
      mild_together stepped step_mild p t u ((e.place == p) && (e.by == t)) ((e.place == p) && (e.by == u)) _ _ was
  together_by past kind.Check e p t u legal h none n was =
      mild_together stepped step_mild p t u ((e.place == p) && (e.by == t)) ((e.place == p) && (e.by == u)) _ _ was
  together_by past kind.PutFault e p t u legal h none n was =
      mild_together (refused (fault_of plan p)) (refuse_mild (fault_of plan p)) p t u ((e.place == p) && (e.by == t))
      ((e.place == p) && (e.by == u)) _ _ was
  together_by past kind.Raise e p t u legal h none n was =
      mild_together (raising e.arg) (raise_mild e.arg) p t u ((e.place == p) && (e.by == t)) ((e.place == p) && (e.by == u)) _ _ was
  together_by past kind.Verdict e p t u legal h none n was =
      let undo = is_undo (Some (verdict_at (of_kind kind.Verdict e))) in
      mild_together (said undo) (say_mild undo) p t u ((e.place == p) && (e.by == t)) ((e.place == p) && (e.by == u)) _ _ was
  together_by past kind.Resolve e p t u legal h none n was = rw n was
  together_by past kind.End e p t u legal h none n was =
      elim (cases_Bool (is_at (parent plan e.place) p && member t (roles_of plan e.place))) [
        | inl x ↦
            let parts = and_parts (is_at (parent plan e.place) p) (member t (roles_of plan e.place)) x in
            end_together past e p t u legal h none (at_same (parent plan e.place) p parts.0) parts.1 parts.0
        | inr x ↦ end_apart past e p t u x was
      ]
  together_by past _ e p t u legal h none n was = was

  together : (past : List Entry) → LegalPast plan past → (p t u : ℕ) → exception_resolved past p ≡ None
      → Together p t u (spot_of plan past p t) (spot_of plan past p u)
  together [] legal p t u none = record {
    whole = λ n m k y at also e. absurd cc;
    gave_up = λ n m k at also g. absurd (false≢true g);
  }
  together (e ∷ past) legal p t u none =
      let before = unresolved_before past e p none in
      together_by past e.kind e p t u legal.0 legal.1 before.1 before.0 (together past legal.0 p t u before.1)

  pub spots_fit : Holds SpotsFit plan
  spots_fit past legal p t u none = record {
    over = λ n m k enters also.
        sym (uses_are_over plan playable core past legal p t n k none enters)
        ∙ uses_are_over plan playable core past legal p u m k none also;
    turn = λ n m k i j enters also at here.
        alternates_are_left plan playable core past legal p t n i k none enters at
        ∙ sym (alternates_are_left plan playable core past legal p u m j k none also here);
    whole = (together past legal p t u none).whole;
    gave_up = (together past legal p t u none).gave_up;
  }
