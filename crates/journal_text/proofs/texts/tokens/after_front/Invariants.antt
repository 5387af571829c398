use Rattle.std.proofs.Common.{◌≡◌, take}
use Rattle.journal_text.proofs.texts.tokens.after_front.Given as goal

abbrev pub invariant-loop-index : goal.invariant-loop-index
invariant-loop-index l = take l.index l.text ≡ take l.index l.front
