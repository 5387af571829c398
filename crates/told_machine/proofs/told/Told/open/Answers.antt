use Rattle.std.proofs.Common.{◌∙◌, List, reverse, ap, sym, subst, arith}
use Rattle.caa_base.specs.declared.written.entry.Entry.{Entry}
use Rattle.place_plan.specs.RulesOfJournals.Journals.{LegalPast}
use Rattle.told_machine.specs.Tickets.{made_by_each}
use Rattle.told_machine.proofs.told.Told.open.Goals as goal

pub invariant_of-result : goal.invariant_of-result
invariant_of-result g c =
    let plan = c.args.plan in
    let none = sym c.in_ok-journal.ensures.entries in
    record {
      legal = subst (λ (es : List Entry). LegalPast plan (reverse es)) none tt;
      room = omega (arith, c.in_ok-journal.ensures.room, c.bound.ensures);
      stands = subst (λ (es : List Entry). g.R.StandsFor.stand_for c.in_ok-records.records plan (reverse es)) none c.in_ok-records.ensures;
      counted = c.in_ok-made.ensures ∙ ap (λ (es : List Entry). made_by_each plan (reverse es)) none;
      both = tt;
    }
