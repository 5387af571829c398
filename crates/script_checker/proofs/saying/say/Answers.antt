use Rattle.std.proofs.Common.{sym, ◌∙◌}
use Rattle.script_checker.proofs.Choosing.{least_first, none_first}
use Rattle.script_checker.proofs.saying.say.Goals as goal

pub returns-in-Some-clause-refused : goal.returns-in-Some-clause-refused
returns-in-Some-clause-refused c =
    λ ne. least_first c.args.so_far.now c.args.form.now c.requires c.in-Some.cause (sym c.in_ok-found.ensures ∙ c.in-Some.is)

pub returns-clause-accepted : goal.returns-clause-accepted
returns-clause-accepted c = none_first c.args.so_far.now c.args.form.now c.requires (sym c.in_ok-found.ensures ∙ c.in_default.is)
