use Rattle.std.proofs.Common.{◌∙◌, reverse, refl, sym, subst}
use Rattle.place_plan.specs.RulesOfJournals.Rules.{MayFollow}
use Rattle.told_machine.proofs.Counting.{is_kept, kept_at}
use Rattle.told_machine.proofs.NoWork.{no_work, none_told, asked_still}
use Rattle.told_machine.proofs.told.Told.work_done.Goals.{then-is_some-via-then-is_some, then-is_some-via-else-is_some+then-by-ticket}
use Rattle.told_machine.proofs.told.Told.work_done.Goals as goal

pub by-requires : goal.by-requires
by-requires g c =
    let told = c.args.self.now in
    is_kept told.plan (reverse told.journal.entries) told.made told.counted c.args.by c.requires

pub returns-then-is_some-clause-worked : goal.returns-then-is_some-clause-worked
returns-then-is_some-clause-worked g c =
    let told = c.args.self.now in (
      refl,
      λ work may. elim c.then-is_some.branch [
        | then-is_some-via-then-is_some w ↦ asked_still told.asked (sym c.is_some.ensures ∙ w.if-is_some.true) may.free
        | then-is_some-via-else-is_some+then-by-ticket w ↦
            w.if-by-ticket.true
            (w.by.ensures ∙ kept_at told.plan (reverse told.journal.entries) told.made told.counted c.args.by c.requires ∙ sym may.number)
      ],
    )

pub add-requires-clause-may : goal.add-requires-clause-may
add-requires-clause-may g c =
    let told = c.args.self.now in
    subst (MayFollow told.plan (reverse told.journal.entries)) (sym c.entry-entry.ensures) c.in-Mix.ensures.next.may

pub returns-in-Mix-clause-worked : goal.returns-in-Mix-clause-worked
returns-in-Mix-clause-worked g c =
    let told = c.args.self.now in
    record {
      work = c.in-Mix.work;
      may =
          record {
            next = c.in-Mix.ensures;
            number =
                sym c.if-by-ticket.false
                ∙ c.by.ensures ∙ kept_at told.plan (reverse told.journal.entries) told.made told.counted c.args.by c.requires;
            free = none_told told.asked (sym c.is_some.ensures ∙ c.if-is_some.false);
          };
      entry = c.entry-entry.ensures;
      added = c.add.ensures.journal;
    }

pub returns-in_default : goal.returns-in_default
returns-in_default g c =
    let told = c.args.self.now in
    record {
      plan = refl;
      asked = refl;
      worked = (
        refl,
        λ work may.
            no_work told.plan (reverse told.journal.entries) c.args.by c.move_of.result c.in_default.not-Mix c.move_of.ensures work may.next,
      );
    }
