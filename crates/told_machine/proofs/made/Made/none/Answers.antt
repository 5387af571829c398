use Rattle.std.proofs.Common.{rules, ◌≡◌, ◌∙◌}
use Rattle.std.specs.Prelude.{replicate}
use Rattle.told_machine.proofs.Counting.{none_made}
use Rattle.told_machine.proofs.made.Made.none.Goals as goal

pub returns : goal.returns
returns c =
    let zeros : c.in_ok-counts.counts.items ≡ replicate c.participants.result 0 = search rules in
    zeros ∙ none_made c.args.plan.now c.participants.result c.participants.ensures
