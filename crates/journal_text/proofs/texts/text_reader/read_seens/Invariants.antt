use Rattle.std.proofs.Common.{◌≡◌, ◌++◌, length}
use Rattle.std.specs.List.{flat_map}
use Rattle.journal_text.specs.Watching.Looks.{AreInOrder, AreOfPlan, last_watch}
use Rattle.journal_text.specs.Texts.Text.{seen_line}
use Rattle.journal_text.proofs.texts.text_reader.read_seens.Given as goal

abbrev pub decreases-loop-seen : goal.decreases-loop-seen
decreases-loop-seen l = length l.rest

abbrev pub invariant-loop-seen : goal.invariant-loop-seen
invariant-loop-seen l = record {
  order : AreInOrder l.seens.items;
  fit : AreOfPlan l.plan l.seens.items;
  least : l.least ≡ last_watch 0 l.seens.items;
  front : l.text ≡ flat_map (seen_line l.plan) l.seens.items ++ l.rest;
}
