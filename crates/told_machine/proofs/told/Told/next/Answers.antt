use Rattle.std.proofs.Common.{◌∙◌, Option, reverse, refl, sym, subst}
use Rattle.caa_base.specs.declared.written.entry.Entry.{Entry}
use Rattle.told_machine.specs.Told.{Nexts}
use Rattle.told_machine.specs.declared.next.Next.TheVariants as next
use Rattle.told_machine.proofs.Counting.{is_kept, kept_at}
use Rattle.told_machine.proofs.NoWork.{none_asked}
use Rattle.told_machine.proofs.told.Told.next.Goals as goal

pub by-requires : goal.by-requires
by-requires g c =
    let told = c.args.self.now in
    is_kept told.plan (reverse told.journal.entries) told.made told.counted c.args.by c.requires

pub returns-in-Mix-clause-next : goal.returns-in-Mix-clause-next
returns-in-Mix-clause-next g c =
    let told = c.args.self.now in
    let es = told.journal.entries in
    subst (λ (o : Option Entry). Nexts told.plan es es c.args.by o o (next.Works c.in-Mix.work c.by.result))
    (sym (none_asked told.asked c.in_default.not-Some)) (record {
      next = c.in-Mix.ensures;
      number = c.by.ensures ∙ kept_at told.plan (reverse es) told.made told.counted c.args.by c.requires;
      kept = refl;
      free = refl;
    })
