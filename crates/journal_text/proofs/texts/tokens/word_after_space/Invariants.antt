use Rattle.std.proofs.Common.{◌≡◌, take, true}
use Rattle.journal_text.specs.inner.Tokens.{is_whole}
use Rattle.journal_text.proofs.texts.tokens.word_after_space.Given as goal

abbrev pub invariant-loop-index : goal.invariant-loop-index
invariant-loop-index l = is_whole (take l.index l.after) ≡ true
