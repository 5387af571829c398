use Rattle.script_documents.proofs.Utf16.{counts_units}
use Rattle.script_documents.proofs.positions.counts_units.Goals as goal

pub returns : goal.returns
returns c = counts_units c.args.character
