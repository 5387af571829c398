use Rattle.std.proofs.Common.{◌<◌, ◌^◌, length, ap, arith}
use Rattle.journal_text.proofs.OnTexts.LineLengths.{line_length}
use Rattle.journal_text.proofs.texts.entry_writer.room_for.Goals as goal

pub returns-in-Some : goal.returns-in-Some
returns-in-Some c =
    let plan = c.args.plan.now in
    let few : length plan.places < 2 ^ 32 = omega (arith, c.places.ensures) in
    omega (
      arith,
      line_length plan c.args.entry.now c.requires few,
      ap length c.participant_name-maker.ensures,
      ap length c.said_name-said.ensures,
      c.in-Some.ensures,
    )
