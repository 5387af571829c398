use Rattle.std.proofs.Common.{◌++◌, [], refl, sym, ap}
use Rattle.std.specs.List.{flat_map}
use Rattle.caa_base.proofs.KnownBytes.{append_known-more}
use Rattle.journal_text.specs.Texts.Text.{first_line, entry_line, entries_text}
use Rattle.journal_text.proofs.OnTexts.BlockLemmas.{append_known-nothing, part_of, part_on, on_err}
use Rattle.journal_text.proofs.texts.text_blocks.write_in_blocks.Goals as goal

pub returns-in_err-write_all-clause-part : goal.returns-in_err-write_all-clause-part
returns-in_err-write_all-clause-part g c =
    on_err c.from_residual.result
    (part_of _ _ _ [] first_line (flat_map (entry_line c.args.plan.now) c.args.journal.now.entries ++ c.args.rest.now) _ refl
    (sym (append_known-nothing _)) c.in_err-write_all.ensures.part)

pub returns-in_err-write_entries-clause-part : goal.returns-in_err-write_entries-clause-part
returns-in_err-write_entries-clause-part g c =
    let plan = c.args.plan.now in
    let rest = c.args.rest.now in
    on_err c.from_residual-in_err-write_entries.result
    (part_of _ _ _ first_line (flat_map (entry_line plan) c.as_slice.result.now) rest _
    (ap (λ es. entries_text plan es ++ rest) (sym c.as_slice.ensures)) c.in_ok-write_all.ensures.done
    c.in_err-write_entries.ensures.part)

pub returns-clause-part : goal.returns-clause-part
returns-clause-part g c =
    let plan = c.args.plan.now in
    part_on c.write_all-2.result _ _ _ (entries_text plan c.args.journal.now.entries) c.args.rest.now
    (append_known-more _ _ _ _ _ _ c.in_ok-write_all.ensures.done c.in_ok-write_entries.ensures.done
    (ap (entries_text plan) c.as_slice.ensures)) c.write_all-2.ensures.part
