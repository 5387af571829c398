use Rattle.script_checker.proofs.AcceptedDraft.{breaks_none}
use Rattle.script_checker.proofs.compile.breaks_no_rule.Goals as goal

pub returns : goal.returns
returns c =
    λ accepted draft drafted. breaks_none c.args.script.now.names c.args.script.now.lines c.are_script.ensures.sound accepted draft drafted
