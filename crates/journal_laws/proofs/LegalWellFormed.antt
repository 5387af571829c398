-- Each entry of a legal journal of a playable plan is well formed.
use Rattle.std.proofs.Common.{◌≡◌, ℕ, pos, ◌⊎◌, Bool, true, false, cond, List, [], ◌∷◌, Option, Some, None, refl, sym, subst, arith, inl, inr, MatchBool}
use Rattle.std.proofs.lemmas.List.Elements.{All-nil, All-cons}
use Rattle.std.proofs.lemmas.Bool.{ltb-true, leb-true}
use Rattle.caa_base.specs.declared.written.entry.Entry.{Entry}
use Rattle.caa_base.specs.declared.written.entry.Kind.{Kind}
use Rattle.caa_base.specs.declared.written.entry.Kind.TheVariants as kind
use Rattle.place_plan.specs.declared.drafts.draft_rows.Step.TheVariants as step
use Rattle.place_plan.specs.Plans.PlanValue.{Plan}
use Rattle.place_plan.specs.Plans.Places.{parent, roles_of, objects_of, uses, abort_row, internal_of, interface_of}
use Rattle.place_plan.specs.RulesOfJournals.Entries.{is_in}
use Rattle.place_plan.specs.RulesOfJournals.Whereabouts.{is_undoing}
use Rattle.place_plan.specs.RulesOfJournals.Objects.{before_start, is_tried}
use Rattle.place_plan.specs.RulesOfJournals.Roles.{register, signals}
use Rattle.place_plan.specs.RulesOfJournals.Rules.{Row, MayFollow, MayEnd, MayLeave, EndsUndone, EndsAgreed, SignalsLeast, abort_of, exception_carried}
use Rattle.place_plan.specs.RulesOfJournals.Journals.{LegalPast}
use Rattle.place_plan.specs.RulesOfJournals.WellFormed.{FieldsFit, MayShowException, MayCarry, IsWellFormed, AllWellFormed}
use Rattle.caa_base.specs.Written.Limits.{IsValue, most_count}
use Rattle.journal_laws.specs.Laws.{Holds}
use Rattle.journal_laws.proofs.Playable.{IsPlayable}
use Rattle.journal_laws.proofs.Core.{Core}
use Rattle.caa_base.proofs.ListLemmas.{first_not_fails}
use Rattle.place_plan.proofs.OnJournals.EntryKinds.{of_kind}
use Rattle.journal_laws.proofs.Outcome.{undone_marks, below_two}
use Rattle.journal_laws.proofs.Makers.{maker_role}
use Rattle.journal_laws.proofs.Ranges.{mix_in_range, named_fields, abort_below, place_known, step_fits, raise_in_range, put_in_range, carried_in_range, verdict_fields, values_in_range}

-- what stood before a start is legal
legal_before_start : (plan : Plan) (past : List Entry) (p : ℕ) → LegalPast plan past → LegalPast plan (before_start past p)
legal_before_start plan [] p h = h
legal_before_start plan (e ∷ past) p h = by_test (is_in kind.Start p e) h.0 (legal_before_start plan past p h.0)
  where
    by_test : (b : Bool) → LegalPast plan past → LegalPast plan (before_start past p) → LegalPast plan (cond b past (before_start past p))
    by_test true here before = here
    by_test false here before = before

-- the End of an agreement, and of an undo

agreed_fields : (plan : Plan) (e : Entry) (xs : List ℕ) → SignalsLeast plan e xs → e.value ≡ pos 0
    → MayShowException (interface_of plan e.place) 1 5 e
agreed_fields plan e [] h v = record { mark = rw h.0 (omega arith); named = λ m. absurd (omega (arith, h.0)); bare = λ n. h.1; value = v }
agreed_fields plan e (x ∷ xs) h v = record { mark = rw h.0 (omega arith); named = λ m. h.1.in_range; bare = λ n. absurd (n h.0); value = v }

undone_fields : (plan : Plan) (e : Entry) → ((e.mark ≡ 2) ⊎ (e.mark ≡ 3)) ⊎ (e.mark ≡ 4) → e.arg ≡ 0 → e.value ≡ pos 0
    → MayShowException (interface_of plan e.place) 1 5 e
undone_fields plan e (inl (inl m)) a v =
    record { mark = rw m (omega arith); named = λ n. absurd (omega (arith, m)); bare = λ n. a; value = v }
undone_fields plan e (inl (inr m)) a v =
    record { mark = rw m (omega arith); named = λ n. absurd (omega (arith, m)); bare = λ n. a; value = v }
undone_fields plan e (inr m) a v = record { mark = rw m (omega arith); named = λ n. absurd (omega (arith, m)); bare = λ n. a; value = v }

end_fields : (plan : Plan) (past : List Entry) (e : Entry) → MayEnd plan past e → MayShowException (interface_of plan e.place) 1 5 e
end_fields plan past e h = by_undo (is_undoing past e.place) h.how
  where
    by_undo : (b : Bool) → MatchBool b (EndsUndone plan past e) (EndsAgreed plan past e)
        → MayShowException (interface_of plan e.place) 1 5 e
    by_undo true ends =
        undone_fields plan e (elim (undone_marks past e.place e.mark ends.mark) [ inl x ↦ inl x | inr x ↦ inr x.0 ])
        ends.arg h.value
    by_undo false ends = agreed_fields plan e (signals past e.place (roles_of plan e.place)) ends.outcome h.value

module _ (plan : Plan) (playable : IsPlayable plan) (core : Holds Core plan) where
  leave_fields : (past : List Entry) (e : Entry) → MayLeave plan past e → MayCarry plan (parent plan e.place) e
  leave_fields past e h = by_parent (parent plan e.place) refl
    where
      by_parent : (o : Option ℕ) → parent plan e.place ≡ o → MayCarry plan o e
      by_parent None up = let names = rw up at h.carries in record { arg = names.1; mark = names.0; value = h.value }
      by_parent (Some p) up =
          named_fields (internal_of plan p) e (exception_carried plan past e.place e.by)
          (λ x. carried_in_range plan playable past p e.place e.by x up) h.carries h.value

  fields_by : (past : List Entry) (k : Kind) (e : Entry) → LegalPast plan past → Row k plan past (of_kind k e)
      → FieldsFit k plan (of_kind k e)
  fields_by past kind.Arrive e legal h = h.plain
  fields_by past kind.Withdraw e legal h = h.plain
  fields_by past kind.Start e legal h = h.plain
  fields_by past kind.Read e legal h = (
    record {
      arg = ltb-true e.arg _ (step_fits plan playable past e.place e.by (step.Read e.arg) h.reads);
      value = subst IsValue (sym h.value) (values_in_range plan playable past legal e.arg []);
    },
    h.mark,
  )
  fields_by past kind.Work e legal h = (
    leb-true e.arg most_count (step_fits plan playable past e.place e.by (step.Work e.arg) h.works),
    h.mark,
    subst IsValue (sym h.value) (mix_in_range (register plan past e.place e.by) e.arg),
  )
  fields_by past kind.Write e legal h =
      let fits = put_in_range plan playable past e.place e.by e.arg e.value h.puts in
      (record { arg = fits.0; value = fits.1 }, h.mark)
  fields_by past kind.PutFault e legal h =
      let fits = put_in_range plan playable past e.place e.by e.arg e.value h.puts in
      (record { arg = fits.0; value = fits.1 }, h.mark)
  fields_by past kind.Check e legal h = h.plain
  fields_by past kind.Raise e legal h =
      record { arg = raise_in_range plan playable past e.place e.by e.arg h.raises; mark = h.mark; value = h.value }
  fields_by past kind.Inform e legal h = h.plain
  fields_by past kind.Resolve e legal h = record { arg = h.least.in_range; mark = h.mark; value = h.value }
  fields_by past kind.Handle e legal h =
      record { arg = ((core past legal).raises.resolves e.place e.arg h.resolution).2.in_range; mark = h.mark; value = h.value }
  fields_by past kind.Verdict e legal h = verdict_fields plan playable past (of_kind kind.Verdict e) h
  fields_by past kind.Abort e legal h =
      named_fields (interface_of plan e.place) (of_kind kind.Abort e)
      (abort_of (abort_row plan e.place e.by) (register plan past e.place e.by))
      (λ x. abort_below (interface_of plan e.place).count (abort_row plan e.place e.by)
      (register plan past e.place e.by) x (playable.gives_up e.place e.by)) h.names h.value
  fields_by past kind.Undo e legal h = h.plain
  fields_by past kind.Restore e legal h =
      let used : uses plan e.place e.arg ≡ true = (first_not_fails (is_tried past e.place) (objects_of plan e.place) e.arg h.least).1 in (
        record {
          arg = playable.objects e.place e.arg used;
          value =
              subst IsValue (sym h.value)
              (values_in_range plan playable (before_start past e.place)
              (legal_before_start plan past e.place legal) e.arg []);
        },
        below_two e.mark h.mark,
      )
  fields_by past kind.End e legal h = end_fields plan past (of_kind kind.End e) h
  fields_by past kind.Leave e legal h = leave_fields past (of_kind kind.Leave e) h

  -- what may follow a legal past is well formed
  pub may_well_formed : (past : List Entry) (e : Entry) → LegalPast plan past → MayFollow plan past e → IsWellFormed plan e
  may_well_formed past e legal h =
      let role = maker_role plan playable.tree past e legal h in
      record { place = place_known plan e.place e.by role; by = playable.known e.place e.by role; fields = fields_by past e.kind e legal h }

  well_formed : (past : List Entry) → LegalPast plan past → AllWellFormed plan past
  well_formed [] legal = All-nil (IsWellFormed plan)
  well_formed (e ∷ past) legal = All-cons (IsWellFormed plan) e past (may_well_formed past e legal.0 legal.1) (well_formed past legal.0)

-- each entry of a legal past is well formed
pub all_well_formed : (plan : Plan) → IsPlayable plan → Holds Core plan → Holds AllWellFormed plan
all_well_formed plan playable core past legal = well_formed plan playable core past legal
