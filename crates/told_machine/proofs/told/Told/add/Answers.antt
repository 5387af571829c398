use Rattle.std.proofs.Common.{◌∙◌, ◌≤◌, ◌∷◌, List, length, reverse, ap, sym, subst, arith, slice_index_or}
use Rattle.std.proofs.lemmas.List.{length-reverse}
use Rattle.std.proofs.lemmas.List.Elements.{All-head}
use Rattle.caa_base.specs.declared.written.entry.Entry.{Entry}
use Rattle.place_plan.specs.RulesOfJournals.Journals.{LegalPast}
use Rattle.place_plan.specs.RulesOfJournals.WellFormed.{IsWellFormed}
use Rattle.journal_replay.proofs.Additions.{legal_last, has_space}
use Rattle.journal_replay.proofs.Devices.{reverse_last}
use Rattle.told_machine.specs.Tickets.{made_by_each}
use Rattle.told_machine.specs.inner.Putting.{BothMayFollow}
use Rattle.told_machine.proofs.Counting.{is_kept, is_few, kept_more}
use Rattle.told_machine.proofs.told.Told.add.Goals as goal

pub note-requires-2-clause-known : goal.note-requires-2-clause-known
note-requires-2-clause-known g c =
    let told = c.args.self.now in
    let past = reverse told.journal.entries in
    let formed = All-head (IsWellFormed told.plan) c.args.entry past (c.is_well_formed.ensures (c.args.entry ∷ past) (told.legal, c.requires.may)) in
    is_kept told.plan past told.made told.counted c.args.entry.by formed.by

pub note-requires-2-clause-few : goal.note-requires-2-clause-few
note-requires-2-clause-few g c =
    let told = c.args.self.now in
    let past = reverse told.journal.entries in
    let formed = All-head (IsWellFormed told.plan) c.args.entry past (c.is_well_formed.ensures (c.args.entry ∷ past) (told.legal, c.requires.may)) in
    subst (λ (es : List Entry). slice_index_or told.made c.args.entry.by 0 ≤ length es) (sym c.as_slice-2.ensures)
    (subst (λ n. slice_index_or told.made c.args.entry.by 0 ≤ n) (length-reverse told.journal.entries)
    (is_few told.plan past told.made told.counted c.args.entry.by formed.by))

pub push-requires : goal.push-requires
push-requires g c =
    let told = c.args.self.now in
    has_space told.plan told.journal.entries c.args.entry told.legal c.requires.may told.journal.room c.is_bounded.ensures told.room

pub invariant_of-self : goal.invariant_of-self
invariant_of-self g c =
    let told = c.args.self.now in
    let past = reverse told.journal.entries in
    let formed = All-head (IsWellFormed told.plan) c.args.entry past (c.is_well_formed.ensures (c.args.entry ∷ past) (told.legal, c.requires.may)) in
    let noted = subst (λ (es : List Entry). g.R.StandsFor.stand_for c.note.new.self told.plan (c.args.entry ∷ reverse es))
    c.as_slice.ensures c.note.ensures in
    let grown = ap reverse c.push.ensures.entries ∙ reverse_last told.journal.entries c.args.entry in
    record {
      legal =
          subst (λ (es : List Entry). LegalPast told.plan (reverse es)) (sym c.push.ensures.entries)
          (legal_last told.plan told.journal.entries c.args.entry told.legal c.requires.may);
      room = omega (arith, told.room, c.push.ensures.room);
      stands = subst (g.R.StandsFor.stand_for c.note.new.self told.plan) (sym grown) noted;
      counted = c.note-2.ensures ∙ kept_more told.plan past told.made c.args.entry told.counted formed.by ∙ ap (made_by_each told.plan) (sym grown);
      both = subst (BothMayFollow told.plan (reverse c.push.new.self.entries)) (sym c.requires.free) tt;
    }
