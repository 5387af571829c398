-- What tells a work from every other work of its participant.
use Rattle.std.specs.Prelude.{ℕ, ◌==◌, List, filter, length, map}
use Rattle.std.specs.List.{range_with_len}
use Rattle.caa_base.specs.declared.written.entry.Entry.{Entry}
use Rattle.place_plan.specs.Plans.PlanValue.{Plan}

-- how many of the entries t made. While t is at a work it makes none; so no work of t that comes later has the same number before it
abbrev pub made_by : List Entry → ℕ → ℕ
made_by past t = length (filter (λ e. e.by == t) past)

-- the same of each participant, in their order
abbrev pub made_by_each : Plan → List Entry → List ℕ
made_by_each plan past = map (made_by past) (range_with_len 0 (length plan.participants))
