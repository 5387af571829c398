-- The computed entry is the right one: it may follow, nothing else of its maker may, and who is over has none.
use Rattle.std.proofs.Common.{◌≡◌, ℕ, List, None, refl, ap, sym, ◌∙◌}
use Rattle.caa_base.specs.declared.written.entry.Entry.{Entry}
use Rattle.place_plan.specs.Plans.PlanValue.{Plan}
use Rattle.place_plan.specs.RulesOfJournals.Journals.{LegalPast, HasNoEntry}
use Rattle.journal_laws.specs.Laws.{Holds, AtMostOne}
use Rattle.journal_laws.specs.Due.{due_of, DueIsRight}
use Rattle.journal_laws.proofs.Playable.{IsPlayable}
use Rattle.journal_laws.proofs.Core.{Core}
use Rattle.journal_laws.proofs.Options.{some_apart, some_same}
use Rattle.journal_laws.proofs.Over.{over_outside, over_done}
use Rattle.journal_laws.proofs.DueOnly.{only_due}
use Rattle.journal_laws.proofs.DueMay.{due_fits}

module _ (plan : Plan) (playable : IsPlayable plan) (core : Holds Core plan) where
  -- a participant to whom nothing is due has no entry
  pub none_due : (past : List Entry) (t : ℕ) → LegalPast plan past → due_of plan past t ≡ None → HasNoEntry plan past t
  none_due past t legal h e same k = some_apart (sym h ∙ ap (due_of plan past) (sym same) ∙ only_due plan playable core past legal e k)

  pub due_is_right : Holds DueIsRight plan
  due_is_right past legal = record {
    may = λ t e h. let f = due_fits plan playable core past legal t e h in (f.may, f.own);
    refused = λ t e h. (due_fits plan playable core past legal t e h).refused;
    only = only_due plan playable core past legal;
    over_silent =
        λ t h. none_due past t legal
        (rw (over_outside plan playable past legal t h, over_done plan playable past legal t h) refl);
  }

  pub at_most_one : Holds AtMostOne plan
  at_most_one past legal e f h k same =
      some_same (sym (only_due plan playable core past legal e h) ∙ ap (due_of plan past) same
      ∙ only_due plan playable core past legal f k)
