use Rattle.std.proofs.Common.{refl, sym, subst₂, arith}
use Rattle.place_plan.specs.RulesOfJournals.Journals.{IsLegal, IsComplete}
use Rattle.interlock_views.proofs.Played.{played_so}
use Rattle.interlock_views.proofs.hunting.play.Goals as goal

pub judge_lines-requires-clause-legal : goal.judge_lines-requires-clause-legal
judge_lines-requires-clause-legal c = subst₂ IsLegal (sym c.in_ok-played.ensures.plan) (sym c.as_slice.ensures) c.in_ok-played.ensures.legal

pub judge_lines-requires-clause-complete : goal.judge_lines-requires-clause-complete
judge_lines-requires-clause-complete c = subst₂ IsComplete (sym c.in_ok-played.ensures.plan) (sym c.as_slice.ensures) c.in_ok-played.ensures.complete

pub returns : goal.returns
returns c =
    played_so c.args.hunt _ _ _ _ _ c.in_ok-played.ensures.plan refl refl (omega arith) c.in_ok-played.ensures.legal
    c.in_ok-played.ensures.complete c.as_slice.ensures c.deref.ensures.value c.in_ok-unbroken.ensures
