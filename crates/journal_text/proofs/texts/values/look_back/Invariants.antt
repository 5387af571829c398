use Rattle.std.proofs.Common.{take, drop, reverse}
use Rattle.journal_text.specs.Texts.KnownValues.{LooksBack}
use Rattle.journal_text.proofs.texts.values.look_back.Given as goal

abbrev pub invariant-loop-index : goal.invariant-loop-index
invariant-loop-index l =
    LooksBack l.plan l.found l.restored (reverse l.entries) (reverse (take l.index l.entries)) (drop l.index l.entries)
