use Rattle.std.proofs.Common.{arith}
use Rattle.journal_text.proofs.OnTexts.BadLines.{texts-differ}
use Rattle.journal_text.proofs.texts.text_reader.texts_differ.Goals as goal

pub returns : goal.returns
returns c = texts-differ c.args.plan.now (record { named = c.requires; small = omega (arith, c.places.ensures) })
