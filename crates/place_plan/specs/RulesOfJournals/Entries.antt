-- The entries of a journal: what each kind may say, and which stand in a past.
use Rattle.std.specs.Prelude.{ℕ, ◌==◌, Bool, ◌&&◌, if◌then◌else◌, List, [], ◌∷◌, Option, Some, None}
use Rattle.std.specs.List.{list_any}
use Rattle.caa_base.specs.declared.written.entry.Entry.{Entry}
use Rattle.caa_base.specs.declared.written.entry.Kind.{Kind}
use Rattle.caa_base.specs.declared.written.entry.Kind.TheVariants as kind

-- the number of a kind, in the order of their declaration
abbrev pub code_of : Kind → ℕ
code_of kind.Arrive = 0
code_of kind.Withdraw = 1
code_of kind.Start = 2
code_of kind.Read = 3
code_of kind.Work = 4
code_of kind.Write = 5
code_of kind.Check = 6
code_of kind.PutFault = 7
code_of kind.Raise = 8
code_of kind.Inform = 9
code_of kind.Resolve = 10
code_of kind.Handle = 11
code_of kind.Verdict = 12
code_of kind.Abort = 13
code_of kind.Undo = 14
code_of kind.Restore = 15
code_of kind.End = 16
code_of kind.Leave = 17

-- the entry is of this kind
abbrev pub is_of : Kind → Entry → Bool
is_of k e = code_of k == code_of e.kind

-- the entry is of this kind, in place p
abbrev pub is_in : Kind → ℕ → Entry → Bool
is_in k p e = is_of k e && (e.place == p)

-- the same, made by t
abbrev pub is_by : Kind → ℕ → ℕ → Entry → Bool
is_by k p t e = is_in k p e && (e.by == t)

-- such an entry stands in the past
abbrev pub has : Kind → List Entry → ℕ → Bool
has k past p = list_any (is_in k p) past

-- the same, made by t
abbrev pub has_by : Kind → List Entry → ℕ → ℕ → Bool
has_by k past p t = list_any (is_by k p t) past

-- the newest entry that passes a test
abbrev pub newest : (Entry → Bool) → List Entry → Option Entry
newest test [] = None
newest test (e ∷ past) = if test e then Some e else newest test past
