-- How a call that asks for rules ends.
use Rattle.std.specs.Prelude.{if◌then◌else◌}
use Rattle.interlock_views.specs.Told.{is_bad}
use Rattle.interlock_views.specs.declared.asking.RulesTold.{RulesTold}
use Rattle.interlock_views.specs.declared.asking.RulesTold.TheVariants as told
use Rattle.caa_show.specs.declared.showing.Status.{Status}
use Rattle.caa_show.specs.declared.showing.Status.TheVariants as status

-- the status of what is told of rules: a rule is broken, or none is, or the rules are refused
abbrev pub status_of : RulesTold → Status
status_of (told.Hunted text hunt) = if is_bad (told.Hunted text hunt) then status.Found else status.Done
status_of (told.Judged text judged) = if is_bad (told.Judged text judged) then status.Found else status.Done
status_of (told.Refused why) = status.Refused
