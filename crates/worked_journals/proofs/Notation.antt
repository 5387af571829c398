-- Words in which worked plans and journals are written, and what computing shows of them.
use Rattle.std.proofs.Common.{◌≡◌, ℕ, ℤ, pos, ◌+◌, ◌-◌, ◌^◌, ◌<◌, Bool, true, false, not, ◌&&◌, ◌||◌, List, [], ◌∷◌, length, map, reverse, zero, suc, arith, below_more}
use Rattle.std.specs.Prelude.{nat_lt, codes, None}
use Rattle.std.specs.List.{range_with_len}
use Rattle.std.proofs.lemmas.Bool.{and_parts, false≢true, ltb-true}
use Rattle.cover_table.specs.Cover.{CoverOrder, IsLeastCover, covers, covers_each}
use Rattle.caa_base.specs.declared.written.entry.Entry.{Entry}
use Rattle.caa_base.specs.declared.written.entry.Kind.{Kind}
use Rattle.caa_base.specs.declared.written.entry.Kind.TheVariants as kind
use Rattle.caa_base.specs.declared.written.entry.Verdict.{Verdict}
use Rattle.caa_base.specs.declared.written.entry.Drill.{Drill}
use Rattle.place_plan.specs.declared.drafts.draft.Draft.{Draft}
use Rattle.place_plan.specs.declared.drafts.draft_rows.ActionRow.{ActionRow}
use Rattle.place_plan.specs.declared.drafts.draft_rows.GraphRow.{GraphRow}
use Rattle.place_plan.specs.declared.drafts.draft_rows.NestRow.{NestRow}
use Rattle.place_plan.specs.declared.drafts.draft_rows.PlayRow.{PlayRow}
use Rattle.place_plan.specs.declared.drafts.draft_rows.ObjectRow.{ObjectRow}
use Rattle.place_plan.specs.declared.drafts.draft_rows.RoleRow.{RoleRow}
use Rattle.place_plan.specs.declared.drafts.draft_rows.HandlerRow.{HandlerRow}
use Rattle.place_plan.specs.declared.drafts.draft_rows.Program.{Program}
use Rattle.place_plan.specs.declared.drafts.draft_rows.Step.{Step}
use Rattle.place_plan.specs.declared.drafts.draft_rows.AbortRow.{AbortRow}
use Rattle.place_plan.specs.Plans.PlanValue.{Plan, PlaceRow}
use Rattle.place_plan.specs.Plans.Bound.{bound}
use Rattle.place_plan.specs.Drafts.DraftRules.{broken_rule}
use Rattle.place_plan.specs.RulesOfJournals.Objects.{value_of}
use Rattle.place_plan.specs.Plans.Unfolding.{plan_of}
use Rattle.place_plan.specs.RulesOfJournals.Roles.{is_over}
use Rattle.place_plan.specs.RulesOfJournals.Rules.{MayFollow}
use Rattle.place_plan.specs.RulesOfJournals.WellFormed.{IsWellFormed}
use Rattle.place_plan.specs.RulesOfJournals.Journals.{LegalPast, IsLegal, IsComplete, puts_of}
use Rattle.journal_laws.specs.Laws.{last_write, is_kept}

-- ---- graphs

-- graph 0 has `universal` alone, which covers itself
abbrev pub plain_graph : GraphRow
plain_graph = record { graph = record { count = 1; rows = 1 ∷ [] }; names = codes "universal" ∷ [] }

-- ---- entries, as in the text of a journal: the place, who made it, and what it says

abbrev pub bare : Kind → ℕ → ℕ → Entry
bare k place by = record { kind = k; place = place; by = by; arg = 0; mark = 0; value = pos 0 }

-- an entry with an object, or a number of rounds, and a value
abbrev pub showing : Kind → ℕ → ℕ → ℕ → ℕ → Entry
showing k place by arg value = record { kind = k; place = place; by = by; arg = arg; mark = 0; value = pos value }

-- an entry with an exception
abbrev pub naming : Kind → ℕ → ℕ → ℕ → Entry
naming k place by exception = record { kind = k; place = place; by = by; arg = exception; mark = 0; value = pos 0 }

-- an entry with a mark, and an exception where the mark is of one
abbrev pub marked : Kind → ℕ → ℕ → ℕ → ℕ → Entry
marked k place by mark arg = record { kind = k; place = place; by = by; arg = arg; mark = mark; value = pos 0 }

abbrev pub arrive : ℕ → ℕ → Entry
arrive place by = bare kind.Arrive place by

abbrev pub withdraw : ℕ → ℕ → Entry
withdraw place by = bare kind.Withdraw place by

abbrev pub start : ℕ → ℕ → Entry
start place by = bare kind.Start place by

abbrev pub read : ℕ → ℕ → ℕ → ℕ → Entry
read place by object value = showing kind.Read place by object value

abbrev pub work : ℕ → ℕ → ℕ → ℕ → Entry
work place by rounds value = showing kind.Work place by rounds value

abbrev pub write : ℕ → ℕ → ℕ → ℕ → Entry
write place by object value = showing kind.Write place by object value

abbrev pub check : ℕ → ℕ → Entry
check place by = bare kind.Check place by

abbrev pub put_fault : ℕ → ℕ → ℕ → ℕ → Entry
put_fault place by object value = showing kind.PutFault place by object value

abbrev pub raise : ℕ → ℕ → ℕ → Entry
raise place by exception = naming kind.Raise place by exception

abbrev pub inform : ℕ → ℕ → Entry
inform place by = bare kind.Inform place by

abbrev pub resolve : ℕ → ℕ → ℕ → Entry
resolve place by exception = naming kind.Resolve place by exception

abbrev pub handle : ℕ → ℕ → ℕ → Entry
handle place by exception = naming kind.Handle place by exception

abbrev pub verdict_done : ℕ → ℕ → Entry
verdict_done place by = bare kind.Verdict place by

abbrev pub verdict_signal : ℕ → ℕ → ℕ → Entry
verdict_signal place by exception = marked kind.Verdict place by 1 exception

abbrev pub verdict_undo : ℕ → ℕ → Entry
verdict_undo place by = marked kind.Verdict place by 2 0

abbrev pub abort : ℕ → ℕ → Entry
abort place by = bare kind.Abort place by

abbrev pub abort_naming : ℕ → ℕ → ℕ → Entry
abort_naming place by exception = marked kind.Abort place by 1 exception

abbrev pub undo : ℕ → ℕ → Entry
undo place by = bare kind.Undo place by

abbrev pub restore_well : ℕ → ℕ → ℕ → ℕ → Entry
restore_well place by object value = showing kind.Restore place by object value

abbrev pub restore_failed : ℕ → ℕ → ℕ → ℕ → Entry
restore_failed place by object value = record { kind = kind.Restore; place = place; by = by; arg = object; mark = 1; value = pos value }

abbrev pub end_commit : ℕ → ℕ → Entry
end_commit place by = bare kind.End place by

abbrev pub end_signal : ℕ → ℕ → ℕ → Entry
end_signal place by exception = marked kind.End place by 1 exception

abbrev pub end_undone : ℕ → ℕ → Entry
end_undone place by = marked kind.End place by 2 0

abbrev pub end_aborted : ℕ → ℕ → Entry
end_aborted place by = marked kind.End place by 3 0

abbrev pub end_failed : ℕ → ℕ → Entry
end_failed place by = marked kind.End place by 4 0

abbrev pub leave : ℕ → ℕ → Entry
leave place by = bare kind.Leave place by

abbrev pub leave_carrying : ℕ → ℕ → ℕ → Entry
leave_carrying place by exception = marked kind.Leave place by 1 exception

-- ---- plans

abbrev pub universal : ℕ
universal = 0

-- the numbers as bits of one number
abbrev pub bits : List ℕ → ℕ
bits [] = 0
bits (b ∷ bs) = 2 ^ b + bits bs

-- a graph of these names, with what each of its exceptions covers, itself among them
abbrev pub graph : List (List ℕ) → List (List ℕ) → GraphRow
graph names covered = record { graph = record { count = length names; rows = map bits covered }; names = names }

abbrev pub object : List ℕ → ℕ → ObjectRow
object name initial = record { name = name; initial = pos initial }

abbrev pub program : List Step → Verdict → Program
program steps verdict = record { steps = steps; verdict = verdict }

abbrev pub handler : ℕ → Program → HandlerRow
handler exception program = record { exception = exception; program = program }

abbrev pub role : List ℕ → Program → List HandlerRow → AbortRow → RoleRow
role name body handlers abort = record { name = name; body = body; handlers = handlers; abort = abort }

-- a nested use of these actions by these roles, with what each exception of theirs is outside; undo and failure are `universal`
abbrev pub nest : List ℕ → List ℕ → List ℕ → List ℕ → NestRow
nest name actions roles maps =
    record { name = name; actions = actions; roles = roles; maps = maps; undo = universal; failure = universal }

-- an action that raises exceptions of graph 0, tells those of graph 0 outside, and raises `universal` at a refused put
abbrev pub action : List ℕ → List ℕ → List RoleRow → List NestRow → ActionRow
action name objects roles nests =
    record {
      name = name;
      internal = 0;
      interface = 0;
      fault = universal;
      objects = objects;
      roles = roles;
      nests = nests;
    }

-- the device refuses the nth put of this object
abbrev pub drill : ℕ → ℕ → Drill
drill object nth = record { object = object; nth = nth }

-- who plays the roles of an action
abbrev pub played : ℕ → List ℕ → PlayRow
played action who = record { action = action; who = who }

-- the plan that has the parts of a draft, with these places, of which these are plays
abbrev pub unfolded : Draft → List PlaceRow → List ℕ → Plan
unfolded draft places plays =
    record {
      participants = draft.participants;
      objects = draft.objects;
      graphs = draft.graphs;
      actions = draft.actions;
      places = places;
      plays = plays;
      drills = draft.drills;
      watches = draft.watches;
    }

-- a play of an action: who plays its roles, and the places of its nested uses, of each those of its alternates
abbrev pub play : ℕ → List ℕ → List (List ℕ) → PlaceRow
play action roles children = record { around = []; nest = 0; action = action; roles = roles; children = children }

-- an instance inside others, the innermost first, for a nested use of the first of these
abbrev pub inner : List ℕ → ℕ → ℕ → List ℕ → List (List ℕ) → PlaceRow
inner around nest action roles children = record { around = around; nest = nest; action = action; roles = roles; children = children }

-- ---- what computing shows

-- each number below n passes the test
abbrev pub each_below : ℕ → (ℕ → Bool) → Bool
each_below zero test = true
each_below (suc n) test = test n && each_below n test

pub at_below : (n : ℕ) (test : ℕ → Bool) → each_below n test ≡ true → (k : ℕ) → k < n → test k ≡ true
at_below zero test h k l = absurd (omega arith)
at_below (suc n) test h k l =
    let parts = and_parts _ _ h in
    below_more (λ m. test m ≡ true) n (at_below n test parts.1) parts.0 k (omega arith)

-- a test that x is the least cover of xs
abbrev pub is_least_cover : CoverOrder → List ℕ → ℕ → Bool
is_least_cover order xs x =
    nat_lt x order.count
    && (covers_each order x xs && each_below order.count (λ y. not (covers_each order y xs) || covers order y x))

pub least_cover_from : (order : CoverOrder) (xs : List ℕ) (x : ℕ) → is_least_cover order xs x ≡ true → IsLeastCover order xs x
least_cover_from order xs x h =
    let parts = and_parts _ _ h in
    let inner = and_parts _ _ parts.1 in
    record {
      in_range = ltb-true _ _ parts.0;
      above = inner.0;
      least = λ y l c. implied (covers_each order y xs) (covers order y x) (at_below order.count _ inner.1 y l) c;
    }
  where
    implied : (a b : Bool) → not a || b ≡ true → a ≡ true → b ≡ true
    implied true b h e = h
    implied false b h e = absurd (false≢true e)

-- a journal is complete where all its participants are over
pub complete_from : (plan : Plan) (journal : List Entry)
    → each_below (length plan.participants) (is_over plan (reverse journal)) ≡ true → IsComplete plan journal
complete_from plan journal h = at_below _ _ h

-- each entry has fields that fit its kind
abbrev pub AreWellFormed : Plan → List Entry → Type 0
AreWellFormed plan [] = Unit {0}
AreWellFormed plan (e ∷ entries) = IsWellFormed plan e × AreWellFormed plan entries

-- the rule that the nth newest entry keeps
abbrev pub RowAt : Plan → ℕ → List Entry → Type 0
RowAt plan n [] = Unit {0}
RowAt plan zero (e ∷ past) = MayFollow plan past e
RowAt plan (suc n) (e ∷ past) = RowAt plan n past

pub row_at : (plan : Plan) (n : ℕ) (past : List Entry) → LegalPast plan past → RowAt plan n past
row_at plan n [] h = tt
row_at plan zero (e ∷ past) h = h.1
row_at plan (suc n) (e ∷ past) h = row_at plan n past h.0

-- the rule that the entry with this index in a legal journal keeps
pub rule_at : (plan : Plan) (journal : List Entry) (index : ℕ) → IsLegal plan journal
    → RowAt plan (length journal - suc index) (reverse journal)
rule_at plan journal index h = row_at plan _ _ h

-- ---- worked journals

-- the draft breaks no rule, and unfolds into the plan
pub record UnfoldsInto (draft : Draft) (plan : Plan) : Type 0 where
  pub whole : broken_rule draft ≡ None
  pub same : plan_of draft ≡ plan

-- the value of each object at the end
abbrev pub values_after : Plan → List Entry → List ℤ
values_after plan journal = map (value_of plan (reverse journal)) (range_with_len 0 (length plan.objects))

-- the value of an object that the places leave that ended, with all round them, by commit or signal
abbrev pub kept_value : Plan → List Entry → ℕ → ℤ
kept_value plan journal o = last_write plan (reverse journal) o (λ e. is_kept plan (reverse journal) e.place)

-- what is shown of each journal that was worked out: it is a legal and complete one of the unfolding of this draft, its entries
-- are well formed, it leaves these values, the device took these puts, and a journal of this plan has no more than so many entries
pub record IsWorked (draft : Draft) (plan : Plan) (journal : List Entry)
    (values : List ℤ) (puts : List (ℕ × ℤ)) (most : ℕ) : Type 0 where
  pub unfolds : UnfoldsInto draft plan
  pub legal : IsLegal plan journal
  pub complete : IsComplete plan journal
  pub well_formed : AreWellFormed plan journal
  pub leaves : values_after plan journal ≡ values
  pub taken : puts_of journal ≡ puts
  pub bounded : bound plan ≡ most
