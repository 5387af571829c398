-- An entry that may follow a past by the rules may follow another one that answers alike all that the rules ask about its place and
-- its maker.
use Rattle.std.proofs.Common.{◌≡◌, ℕ, Bool, true, false, ◌||◌, List, [], ◌∷◌, Some, sym, ap, ap₂, ◌∙◌, subst, MatchBool, MatchOption}
use Rattle.cover_table.specs.Cover.{IsLeastCover}
use Rattle.caa_base.specs.declared.written.entry.Entry.{Entry}
use Rattle.caa_base.specs.declared.written.entry.Kind.{Kind}
use Rattle.caa_base.specs.declared.written.entry.Kind.TheVariants as kind
use Rattle.caa_base.specs.Written.Mixing.{mix}
use Rattle.caa_base.proofs.ListLemmas.{first_not_fails}
use Rattle.place_plan.specs.Plans.PlanValue.{Plan}
use Rattle.place_plan.specs.Plans.Places.{roles_of, objects_of, uses, abort_row, internal_of}
use Rattle.place_plan.specs.RulesOfJournals.Whereabouts.{inside, all_are_inside, has_started, has_ended, is_undoing, is_going}
use Rattle.place_plan.specs.RulesOfJournals.Raising.{has_handled, exceptions_raised, is_doomed, is_calm, is_hot, is_halted, all_are_halted, exception_resolved}
use Rattle.place_plan.specs.RulesOfJournals.Objects.{holder_of, objects_are_ready, value_of, before_start, is_tried, next_restore}
use Rattle.place_plan.specs.RulesOfJournals.Roles.{register, next_step, next_raise, has_given, all_have_given, is_able, wants_undo, signals, has_aborted, all_have_aborted}
use Rattle.place_plan.specs.RulesOfJournals.Rules.{Names, SaysVerdict, arrival, MayArrive, MayWithdraw, MayStart, MayRead, MayWork, put_of, MayPut, is_check, MayCheck, MayRaise, MayInform, MayResolve, MayHandle, verdict_due, MayVerdict, abort_of, MayAbort, AskForUndo, HaveAgreed, MayUndo, MayRestore, SignalsLeast, undone_mark, EndsUndone, EndsAgreed, MayEnd, exception_carried, MayLeave, Row}

-- the past qs of the plan b answers as the past ps of the plan a what the rules ask about p and t; both plans have the places of one
pub record AreAlike (a b : Plan) (ps qs : List Entry) (p t : ℕ) : Type 0 where
  pub whereabouts : inside a ps t ≡ inside b qs t
  pub leads : arrival a ps t (inside a ps t) ≡ arrival b qs t (inside b qs t)
  pub together : all_are_inside a ps p ≡ all_are_inside b qs p
  pub started : has_started ps p ≡ has_started qs p
  pub ended : has_ended ps p ≡ has_ended qs p
  pub undoing : is_undoing ps p ≡ is_undoing qs p
  pub goes : is_going ps p ≡ is_going qs p
  pub raised : exceptions_raised a ps p ≡ exceptions_raised b qs p
  pub doomed : is_doomed a ps p ≡ is_doomed b qs p
  pub calm : is_calm a ps p ≡ is_calm b qs p
  pub hot : is_hot a ps p ≡ is_hot b qs p
  pub halted : is_halted a ps p t ≡ is_halted b qs p t
  pub all_halted : all_are_halted a ps p ≡ all_are_halted b qs p
  pub resolution : exception_resolved ps p ≡ exception_resolved qs p
  pub handled : has_handled ps p t ≡ has_handled qs p t
  pub kept : register a ps p t ≡ register b qs p t
  pub steps : next_step a ps p t ≡ next_step b qs p t
  pub raises : next_raise a ps p t ≡ next_raise b qs p t
  pub given : has_given a ps p t ≡ has_given b qs p t
  pub all_given : all_have_given a ps p ≡ all_have_given b qs p
  pub can : is_able a ps p t ≡ is_able b qs p t
  pub wanted : wants_undo a ps p ≡ wants_undo b qs p
  pub signalled : signals ps p (roles_of a p) ≡ signals qs p (roles_of b p)
  pub aborted : has_aborted ps p t ≡ has_aborted qs p t
  pub all_aborted : all_have_aborted a ps p ≡ all_have_aborted b qs p
  pub due : verdict_due a ps p t ≡ verdict_due b qs p t
  pub mark : undone_mark ps p ≡ undone_mark qs p
  pub carries : exception_carried a ps p t ≡ exception_carried b qs p t
  pub ready : objects_are_ready a ps p ≡ objects_are_ready b qs p
  pub holder : (o : ℕ) → uses a p o ≡ true → holder_of a ps o ≡ holder_of b qs o
  pub value : (o : ℕ) → uses a p o ≡ true → value_of a ps o ≡ value_of b qs o
  pub first_value : (o : ℕ) → uses a p o ≡ true → value_of a (before_start ps p) o ≡ value_of b (before_start qs p) o
  pub restores : next_restore a ps p ≡ next_restore b qs p

module _ (plan : Plan) (xs ys : List ℕ) where
  -- the plan with these plays, and with those
  abbrev these : Plan
  these = record plan { plays = xs }

  abbrev those : Plan
  those = record plan { plays = ys }

  -- the same, seen from the other past
  pub turned : (ps qs : List Entry) (p t : ℕ) → AreAlike these those ps qs p t → AreAlike those these qs ps p t
  turned ps qs p t same = record {
    whereabouts = sym same.whereabouts;
    leads = sym same.leads;
    together = sym same.together;
    started = sym same.started;
    ended = sym same.ended;
    undoing = sym same.undoing;
    goes = sym same.goes;
    raised = sym same.raised;
    doomed = sym same.doomed;
    calm = sym same.calm;
    hot = sym same.hot;
    halted = sym same.halted;
    all_halted = sym same.all_halted;
    resolution = sym same.resolution;
    handled = sym same.handled;
    kept = sym same.kept;
    steps = sym same.steps;
    raises = sym same.raises;
    given = sym same.given;
    all_given = sym same.all_given;
    can = sym same.can;
    wanted = sym same.wanted;
    signalled = sym same.signalled;
    aborted = sym same.aborted;
    all_aborted = sym same.all_aborted;
    due = sym same.due;
    mark = sym same.mark;
    carries = sym same.carries;
    ready = sym same.ready;
    holder = λ o u. sym (same.holder o u);
    value = λ o u. sym (same.value o u);
    first_value = λ o u. sym (same.first_value o u);
    restores = sym same.restores;
  }

  module _ (ps qs : List Entry) (e : Entry) (same : AreAlike these those ps qs e.place e.by)
      (used : (o : ℕ) → holder_of those qs o ≡ Some e.place → uses plan e.place o ≡ true) where
    held : (o : ℕ) → holder_of those qs o ≡ Some e.place → holder_of these ps o ≡ Some e.place
    held o h = same.holder o (used o h) ∙ h

    arrive : MayArrive those qs e → MayArrive these ps e
    arrive h = record { leads = same.leads ∙ h.leads; plain = h.plain }

    withdraw : MayWithdraw those qs e → MayWithdraw these ps e
    withdraw h = record {
      here = same.whereabouts ∙ h.here;
      waits = same.started ∙ h.waits;
      doom = same.doomed ∙ h.doom;
      plain = h.plain;
    }

    start : MayStart those qs e → MayStart these ps e
    start h = record {
      here = same.whereabouts ∙ h.here;
      waits = same.started ∙ h.waits;
      spared = same.doomed ∙ h.spared;
      together = same.together ∙ h.together;
      ready = same.ready ∙ h.ready;
      plain = h.plain;
    }

    read : MayRead those qs e → MayRead these ps e
    read h = record {
      here = same.whereabouts ∙ h.here;
      can = same.can ∙ h.can;
      reads = same.steps ∙ h.reads;
      holds = held e.arg h.holds;
      value = h.value ∙ sym (same.value e.arg (used e.arg h.holds));
      mark = h.mark;
    }

    work : MayWork those qs e → MayWork these ps e
    work h = record {
      here = same.whereabouts ∙ h.here;
      can = same.can ∙ h.can;
      works = same.steps ∙ h.works;
      value = h.value ∙ ap (λ v. mix v e.arg) (sym same.kept);
      mark = h.mark;
    }

    put : MayPut those qs e → MayPut these ps e
    put h = record {
      here = same.whereabouts ∙ h.here;
      can = same.can ∙ h.can;
      puts = ap₂ put_of same.steps same.kept ∙ h.puts;
      holds = held e.arg h.holds;
      mark = h.mark;
    }

    check : MayCheck those qs e → MayCheck these ps e
    check h = record {
      here = same.whereabouts ∙ h.here;
      can = same.can ∙ h.can;
      checks = ap is_check same.steps ∙ h.checks;
      passes = same.raises ∙ h.passes;
      plain = h.plain;
    }

    raise : MayRaise those qs e → MayRaise these ps e
    raise h = record {
      here = same.whereabouts ∙ h.here;
      when = ap₂ (λ a b. a || b) same.calm same.hot ∙ h.when;
      running = same.halted ∙ h.running;
      unsaid = same.given ∙ h.unsaid;
      raises = same.raises ∙ h.raises;
      mark = h.mark;
      value = h.value;
    }

    inform : MayInform those qs e → MayInform these ps e
    inform h = record {
      here = same.whereabouts ∙ h.here;
      when = same.hot ∙ h.when;
      running = same.halted ∙ h.running;
      silent = same.raises ∙ h.silent;
      plain = h.plain;
    }

    resolve : MayResolve those qs e → MayResolve these ps e
    resolve h = record {
      here = same.whereabouts ∙ h.here;
      when = same.hot ∙ h.when;
      together = same.all_halted ∙ h.together;
      fresh = same.resolution ∙ h.fresh;
      least = subst (λ rs. IsLeastCover (internal_of plan e.place) rs e.arg) (sym same.raised) h.least;
      mark = h.mark;
      value = h.value;
    }

    handle : MayHandle those qs e → MayHandle these ps e
    handle h = record {
      here = same.whereabouts ∙ h.here;
      when = same.hot ∙ h.when;
      resolution = same.resolution ∙ h.resolution;
      able_to = h.able_to;
      fresh = same.handled ∙ h.fresh;
      mark = h.mark;
      value = h.value;
    }

    say : MayVerdict those qs e → MayVerdict these ps e
    say h = record {
      here = same.whereabouts ∙ h.here;
      due = subst (λ o. MatchOption o ⊥ (SaysVerdict e)) (sym same.due) h.due;
      value = h.value;
    }

    give_up : MayAbort those qs e → MayAbort these ps e
    give_up h = record {
      here = same.whereabouts ∙ h.here;
      when = same.goes ∙ h.when;
      doom = same.doomed ∙ h.doom;
      together = same.together ∙ h.together;
      fresh = same.aborted ∙ h.fresh;
      names = subst (λ v. Names e (abort_of (abort_row plan e.place e.by) v)) (sym same.kept) h.names;
      value = h.value;
    }

    asked : AskForUndo those qs e.place → AskForUndo these ps e.place
    asked h = record { spared = same.doomed ∙ h.spared; agreed = same.all_given ∙ h.agreed; wanted = same.wanted ∙ h.wanted }

    agreed : HaveAgreed those qs e.place → HaveAgreed these ps e.place
    agreed h =
        subst (λ b. MatchBool b (Unit {0}) (AskForUndo these ps e.place)) (sym same.all_aborted)
        (by_all (all_have_aborted those qs e.place) h)
      where
        by_all : (b : Bool) → MatchBool b (Unit {0}) (AskForUndo those qs e.place) → MatchBool b (Unit {0}) (AskForUndo these ps e.place)
        by_all true h = tt
        by_all false h = asked h

    undo : MayUndo those qs e → MayUndo these ps e
    undo h = record {
      here = same.whereabouts ∙ h.here;
      when = same.goes ∙ h.when;
      agreed = agreed h.agreed;
      plain = h.plain;
    }

    restore : MayRestore those qs e → MayRestore these ps e
    restore h = record {
      here = same.whereabouts ∙ h.here;
      when = same.undoing ∙ h.when;
      lasts = same.ended ∙ h.lasts;
      least = same.restores ∙ h.least;
      value = h.value ∙ sym (same.first_value e.arg (first_not_fails (is_tried qs e.place) (objects_of plan e.place) e.arg h.least).1);
      mark = h.mark;
    }

    signals_least : (rs : List ℕ) → SignalsLeast those e rs → SignalsLeast these e rs
    signals_least [] h = h
    signals_least (x ∷ rs) h = h

    ends_undone : EndsUndone those qs e → EndsUndone these ps e
    ends_undone h = record {
      lasts = same.ended ∙ h.lasts;
      all_tried = same.restores ∙ h.all_tried;
      mark = h.mark ∙ sym same.mark;
      arg = h.arg;
    }

    ends_agreed : EndsAgreed those qs e → EndsAgreed these ps e
    ends_agreed h = record {
      goes = same.goes ∙ h.goes;
      spared = same.doomed ∙ h.spared;
      agreed = same.all_given ∙ h.agreed;
      kept = same.wanted ∙ h.kept;
      outcome = subst (SignalsLeast these e) (sym same.signalled) (signals_least (signals qs e.place (roles_of plan e.place)) h.outcome);
    }

    end : MayEnd those qs e → MayEnd these ps e
    end h = record {
      here = same.whereabouts ∙ h.here;
      how = subst (λ b. MatchBool b (EndsUndone these ps e) (EndsAgreed these ps e)) (sym same.undoing)
          (by_undo (is_undoing qs e.place) h.how);
      value = h.value;
    }
      where
        by_undo : (b : Bool) → MatchBool b (EndsUndone those qs e) (EndsAgreed those qs e)
            → MatchBool b (EndsUndone these ps e) (EndsAgreed these ps e)
        by_undo true h = ends_undone h
        by_undo false h = ends_agreed h

    leave : MayLeave those qs e → MayLeave these ps e
    leave h = record {
      here = same.whereabouts ∙ h.here;
      when = same.ended ∙ h.when;
      carries = subst (Names e) (sym same.carries) h.carries;
      value = h.value;
    }

    pub row_alike : (k : Kind) → Row k those qs e → Row k these ps e
    row_alike kind.Arrive h = arrive h
    row_alike kind.Withdraw h = withdraw h
    row_alike kind.Start h = start h
    row_alike kind.Read h = read h
    row_alike kind.Work h = work h
    row_alike kind.Write h = put h
    row_alike kind.Check h = check h
    row_alike kind.PutFault h = put h
    row_alike kind.Raise h = raise h
    row_alike kind.Inform h = inform h
    row_alike kind.Resolve h = resolve h
    row_alike kind.Handle h = handle h
    row_alike kind.Verdict h = say h
    row_alike kind.Abort h = give_up h
    row_alike kind.Undo h = undo h
    row_alike kind.Restore h = restore h
    row_alike kind.End h = end h
    row_alike kind.Leave h = leave h
