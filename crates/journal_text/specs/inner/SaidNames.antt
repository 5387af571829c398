-- The names in the line of an entry.
use Rattle.std.specs.Prelude.{ℕ, List, []}
use Rattle.std.specs.Option.{unwrap_or}
use Rattle.caa_base.specs.declared.written.entry.Entry.{Entry}
use Rattle.caa_base.specs.declared.written.entry.Kind.{Kind}
use Rattle.caa_base.specs.declared.written.entry.Kind.TheVariants as kind
use Rattle.place_plan.specs.Plans.PlanValue.{Plan}
use Rattle.place_plan.specs.Plans.Places.{parent}
use Rattle.journal_text.specs.Texts.Text.{object_name, internal_name, told_name, carried_name}

-- the name that an entry of each kind says beside its maker's; empty where it says none
abbrev pub said_name : Kind → Plan → Entry → List ℕ
said_name kind.Read plan e = object_name plan e.arg
said_name kind.Write plan e = object_name plan e.arg
said_name kind.PutFault plan e = object_name plan e.arg
said_name kind.Restore plan e = object_name plan e.arg
said_name kind.Raise plan e = internal_name plan e.place e.arg
said_name kind.Resolve plan e = internal_name plan e.place e.arg
said_name kind.Handle plan e = internal_name plan e.place e.arg
said_name kind.Verdict plan e = unwrap_or (told_name plan e) []
said_name kind.Abort plan e = unwrap_or (told_name plan e) []
said_name kind.End plan e = unwrap_or (told_name plan e) []
said_name kind.Leave plan e = unwrap_or (carried_name plan (parent plan e.place) e) []
said_name _ plan e = []
