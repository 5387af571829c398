-- What the rules ask about an entry of plays that share nothing with the others, the rest of the past answers as the whole does.
use Rattle.std.proofs.Common.{◌≡◌, ℕ, Bool, true, List, [], Some, ap, ◌∙◌}
use Rattle.caa_base.specs.declared.written.entry.Entry.{Entry}
use Rattle.caa_base.specs.declared.written.entry.Kind.TheVariants as kind
use Rattle.caa_base.specs.Written.Lists.{member}
use Rattle.place_plan.specs.Plans.PlanValue.{Plan}
use Rattle.place_plan.specs.Plans.Places.{roles_of, plays_of}
use Rattle.place_plan.specs.RulesOfJournals.Whereabouts.{inside}
use Rattle.place_plan.specs.RulesOfJournals.Rules.{arrival}
use Rattle.lone_plays.proofs.Left.{IsGroup, AllOwn, left, our_role, our_object, ours_mine, has_left, has_by_left}
use Rattle.lone_plays.proofs.Asked.{alone, inside_left, all_inside_left, going_left, raised_left, doomed_left, calm_left, hot_left, halted_left, all_halted_left, resolved_left, holder_left, ready_left, value_left, first_value_left, next_restore_left}
use Rattle.lone_plays.proofs.Spoken.{register_left, step_left, raise_left, given_left, all_given_left, able_left, wants_undo_left, signals_left, all_aborted_left, due_left, undone_mark_left, carried_left, arrival_left}
use Rattle.lone_plays.proofs.Alike.{AreAlike}

module _ (plan : Plan) (mine : ℕ → Bool) (group : IsGroup plan mine) (plays : List ℕ) where
  abbrev lone : Plan
  lone = alone plan mine group plays

  abbrev rest : List Entry → List Entry
  rest past = left mine past

  -- the plays of a participant of ours are among the plays, and among these places
  pub record HasPlays (t : ℕ) : Type 0 where
    pub same : plays_of lone t ≡ plays_of plan t
    pub there : (p : ℕ) → member p (plays_of plan t) ≡ true → mine p ≡ true

  -- t has a role in p, which is one of these places, and wherever it is, after a past whose entries are their makers' own
  pub record Stands (past : List Entry) (p t : ℕ) : Type 0 where
    pub own : AllOwn plan past
    pub place : mine p ≡ true
    pub role : member t (roles_of plan p) ≡ true
    pub coming : HasPlays t
    pub inside : (q : ℕ) → inside plan past t ≡ Some q → member t (roles_of plan q) ≡ true

  pub alike : (past : List Entry) (p t : ℕ) → Stands past p t → AreAlike lone plan (rest past) past p t
  alike past p t at =
      let ours = our_role plan mine group p t at.place at.role in
      let here = inside_left plan mine group plays t ours past at.own in
      record {
        whereabouts = here;
        leads = ap (arrival lone (rest past) t) here
            ∙ arrival_left plan mine group plays t at.coming.same at.coming.there past at.own (inside plan past t)
            (λ q w. ours_mine plan mine group q t ours (at.inside q w));
        together = all_inside_left plan mine group plays p at.place past at.own;
        started = has_left plan mine group kind.Start p at.place past at.own;
        ended = has_left plan mine group kind.End p at.place past at.own;
        undoing = has_left plan mine group kind.Undo p at.place past at.own;
        goes = going_left plan mine group plays p at.place past at.own;
        raised = raised_left plan mine group plays p at.place past at.own;
        doomed = doomed_left plan mine group plays p at.place past at.own;
        calm = calm_left plan mine group plays p at.place past at.own;
        hot = hot_left plan mine group plays p at.place past at.own;
        halted = halted_left plan mine group plays p t at.place past at.own;
        all_halted = all_halted_left plan mine group plays p at.place past at.own;
        resolution = resolved_left plan mine group plays p at.place past at.own;
        handled = has_by_left plan mine group kind.Handle p t at.place past at.own;
        kept = register_left plan mine group plays p t at.place past at.own;
        steps = step_left plan mine group plays p t at.place past at.own;
        raises = raise_left plan mine group plays p t at.place past at.own;
        given = given_left plan mine group plays p t at.place past at.own;
        all_given = all_given_left plan mine group plays p at.place past at.own;
        can = able_left plan mine group plays p t at.place past at.own;
        wanted = wants_undo_left plan mine group plays p at.place past at.own;
        signalled = signals_left plan mine group plays p at.place past at.own (roles_of plan p);
        aborted = has_by_left plan mine group kind.Abort p t at.place past at.own;
        all_aborted = all_aborted_left plan mine group plays p at.place past at.own;
        due = due_left plan mine group plays p t at.place past at.own;
        mark = undone_mark_left plan mine group plays p at.place past at.own;
        carries = carried_left plan mine group plays p t at.place past at.own;
        ready = ready_left plan mine group plays p t at.place at.role past at.own;
        holder = λ o u. holder_left plan mine group plays o (our_object plan mine group p t o at.place at.role u) past at.own;
        value = λ o u. value_left plan mine group plays o (our_object plan mine group p t o at.place at.role u) past at.own [];
        first_value = λ o u. first_value_left plan mine group plays p t o at.place at.role u past at.own;
        restores = next_restore_left plan mine group plays p at.place past at.own;
      }
