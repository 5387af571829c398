use Rattle.std.proofs.Common.{◌<◌, ◌^◌, pos, length, ◌∙◌, arith}
use Rattle.caa_base.specs.declared.written.entry.Entry.{Entry}
use Rattle.caa_base.specs.declared.written.entry.Kind.TheVariants as kind
use Rattle.journal_text.specs.Texts.Text.{entry_line}
use Rattle.journal_text.proofs.OnTexts.BlockLemmas.{line_on}
use Rattle.journal_text.proofs.OnTexts.ShortLines.{line_short, line_fits}
use Rattle.journal_text.proofs.texts.text_blocks.put_entries.Goals as goal

pub write_entry-at-requires-clause-room : goal.write_entry-at-requires-clause-room
write_entry-at-requires-clause-room c =
    let plan = c.args.plan.now in
    let index = c.loop-entry.entry-index in
    let l : index < length c.args.entries.now = c.loop-entry-test.true in
    let few : length plan.places < 2 ^ 32 = omega (arith, c.places.ensures) in
    line_fits plan c.requires.named _ (c.requires.entries index _ l) few c.loop-entry.at index (length c.args.entries.now)
    (length c.loop-entry.block) c.loop-entry.invariant.few l (omega (arith, c.requires.room, c.loop-entry.invariant.kept))

pub loop-entry-preserved : goal.loop-entry-preserved
loop-entry-preserved c =
    let plan = c.args.plan.now in
    let index = c.loop-entry.entry-index in
    let l : index < length c.args.entries.now = c.loop-entry-test.true in
    let few : length plan.places < 2 ^ 32 = omega (arith, c.places.ensures) in
    let first : Entry = record { kind = kind.Arrive; place = 0; by = 0; arg = 0; mark = 0; value = pos 0 } in
    record {
      few =
          omega (
            arith,
            c.write_entry-at.ensures.at,
            c.loop-entry.invariant.few,
            line_short plan c.requires.named _ (c.requires.entries index first l) few,
          );
      kept = c.write_entry-at.ensures.kept ∙ c.loop-entry.invariant.kept;
      lines =
          line_on (entry_line plan) c.args.entries.now index _ _ _ l c.write_entry-at.ensures.written c.loop-entry.invariant.lines;
    }
