use Rattle.std.proofs.Common.{◌≡◌, ◌⊎◌, ◌<◌, true, false, to_z, of_z, w64, arith, reverse, refl, sym, ap, subst, inl, inr}
use Rattle.std.proofs.lemmas.Bool.{eq-eqb, ne_eqb}
use Rattle.caa_base.specs.declared.written.entry.Kind.{Kind}
use Rattle.caa_base.specs.declared.written.entry.Kind.TheVariants as kind
use Rattle.place_plan.specs.RulesOfJournals.Entries.{is_of}
use Rattle.place_plan.specs.RulesOfJournals.Journals.{is_put}
use Rattle.journal_laws.proofs.PlayablePlan.{is_playable}
use Rattle.std.proofs.lemmas.Int.{ints}
use Rattle.object_versions.specs.inner.ChangedVersions.{Puts}
use Rattle.object_versions.proofs.VersionsKept.{others_keep}
use Rattle.action_core.proofs.Makers.{at_kind, row_of, object_put, object_restored}
use Rattle.action_core.proofs.Valuing.{puts, takes, frees, holds_its_own, unvalued, versions_stay}
use Rattle.action_core.proofs.noting.note_versions.Goals as goal

-- the kinds that leave the versions
a_stay : (k : Kind)
    → (k ≡ kind.Arrive) ⊎
    ((k ≡ kind.Withdraw)
    ⊎ ((k ≡ kind.Read)
    ⊎ ((k ≡ kind.Work)
    ⊎ ((k ≡ kind.Check)
    ⊎ ((k ≡ kind.PutFault)
    ⊎ ((k ≡ kind.Raise)
    ⊎ ((k ≡ kind.Inform)
    ⊎ ((k ≡ kind.Resolve)
    ⊎ ((k ≡ kind.Handle) ⊎ ((k ≡ kind.Verdict) ⊎ ((k ≡ kind.Abort) ⊎ ((k ≡ kind.Undo) ⊎ (k ≡ kind.Leave)))))))))))))
    → unvalued k ≡ true
a_stay k (inl h) = ap unvalued h
a_stay k (inr (inl h)) = ap unvalued h
a_stay k (inr (inr (inl h))) = ap unvalued h
a_stay k (inr (inr (inr (inl h)))) = ap unvalued h
a_stay k (inr (inr (inr (inr (inl h))))) = ap unvalued h
a_stay k (inr (inr (inr (inr (inr (inl h)))))) = ap unvalued h
a_stay k (inr (inr (inr (inr (inr (inr (inl h))))))) = ap unvalued h
a_stay k (inr (inr (inr (inr (inr (inr (inr (inl h)))))))) = ap unvalued h
a_stay k (inr (inr (inr (inr (inr (inr (inr (inr (inl h))))))))) = ap unvalued h
a_stay k (inr (inr (inr (inr (inr (inr (inr (inr (inr (inl h)))))))))) = ap unvalued h
a_stay k (inr (inr (inr (inr (inr (inr (inr (inr (inr (inr (inl h))))))))))) = ap unvalued h
a_stay k (inr (inr (inr (inr (inr (inr (inr (inr (inr (inr (inr (inl h)))))))))))) = ap unvalued h
a_stay k (inr (inr (inr (inr (inr (inr (inr (inr (inr (inr (inr (inr (inl h))))))))))))) = ap unvalued h
a_stay k (inr (inr (inr (inr (inr (inr (inr (inr (inr (inr (inr (inr (inr h))))))))))))) = ap unvalued h

pub take-requires-clause-whole : goal.take-requires-clause-whole
take-requires-clause-whole c = c.requires.stands.as_many

pub take-requires-clause-free : goal.take-requires-clause-free
take-requires-clause-free c =
    frees c.args.plan.now (is_playable c.args.plan.now c.is_closed.ensures) (reverse c.args.journal.now) c.args.entry.now
    c.args.versions.now c.requires.stands
    (row_of c.args.plan.now (reverse c.args.journal.now) kind.Start c.args.entry.now c.in-Start.is c.requires.may)

pub returns-in-Start : goal.returns-in-Start
returns-in-Start c =
    c.take.ensures.keeps (reverse c.args.journal.now) c.args.entry.now c.requires.stands
    (takes c.args.plan.now (is_playable c.args.plan.now c.is_closed.ensures).tree (reverse c.args.journal.now) c.args.entry.now
    c.requires.legal c.in-Start.is (row_of c.args.plan.now (reverse c.args.journal.now) kind.Start c.args.entry.now
    c.in-Start.is c.requires.may))

pub give_back-requires-clause-whole : goal.give_back-requires-clause-whole
give_back-requires-clause-whole c = c.requires.stands.as_many

pub give_back-requires-clause-held : goal.give_back-requires-clause-held
give_back-requires-clause-held c =
    holds_its_own c.args.plan.now (is_playable c.args.plan.now c.is_closed.ensures) (reverse c.args.journal.now) c.args.entry.now
    c.args.versions.now c.requires.legal c.requires.stands
    (row_of c.args.plan.now (reverse c.args.journal.now) kind.End c.args.entry.now c.in-End.is c.requires.may)

pub returns-in-End : goal.returns-in-End
returns-in-End c =
    c.give_back.ensures.keeps (reverse c.args.journal.now) c.args.entry.now c.requires.stands
    (record { ends = c.in-End.is; here = refl })

pub write-requires : goal.write-requires
write-requires c =
    subst (λ n. c.args.entry.now.arg < n) (sym c.requires.stands.as_many)
    (object_put c.args.plan.now (is_playable c.args.plan.now c.is_closed.ensures) (reverse c.args.journal.now) c.args.entry.now
    c.requires.legal c.requires.may c.in-Write.is)

pub returns-in-Write : goal.returns-in-Write
returns-in-Write c =
    let same : to_z w64 (of_z w64 c.args.entry.now.value) ≡ c.args.entry.now.value = omega (arith, ints) in
    let put : is_put c.args.entry.now ≡ true = at_kind (λ x. is_put x ≡ true) kind.Write c.args.entry.now c.in-Write.is refl in
    c.write.ensures.keeps c.args.plan.now (reverse c.args.journal.now) c.args.entry.now c.requires.stands
    (subst (Puts c.args.plan.now (reverse c.args.journal.now) c.args.entry.now c.args.entry.now.arg) (sym same)
    (puts c.args.plan.now (is_playable c.args.plan.now c.is_closed.ensures).tree (reverse c.args.journal.now)
    c.args.entry.now (c.requires.legal, c.requires.may) put))

pub write-requires-then-entry-eq0 : goal.write-requires-then-entry-eq0
write-requires-then-entry-eq0 c =
    subst (λ n. c.args.entry.now.arg < n) (sym c.requires.stands.as_many)
    (object_restored c.args.plan.now (is_playable c.args.plan.now c.is_closed.ensures) (reverse c.args.journal.now)
    c.args.entry.now c.requires.legal c.requires.may c.in-Restore.is)

pub returns-then-entry-eq0 : goal.returns-then-entry-eq0
returns-then-entry-eq0 c =
    let same : to_z w64 (of_z w64 c.args.entry.now.value) ≡ c.args.entry.now.value = omega (arith, ints) in
    let put : is_put c.args.entry.now ≡ true =
    at_kind (λ x. is_put x ≡ true) kind.Restore c.args.entry.now c.in-Restore.is
    (eq-eqb c.args.entry.now.mark 0 c.if-entry-eq0.true) in
    c.write-then-entry-eq0.ensures.keeps c.args.plan.now (reverse c.args.journal.now) c.args.entry.now c.requires.stands
    (subst (Puts c.args.plan.now (reverse c.args.journal.now) c.args.entry.now c.args.entry.now.arg) (sym same)
    (puts c.args.plan.now (is_playable c.args.plan.now c.is_closed.ensures).tree (reverse c.args.journal.now)
    c.args.entry.now (c.requires.legal, c.requires.may) put))

pub returns-else-entry-eq0 : goal.returns-else-entry-eq0
returns-else-entry-eq0 c =
    let start : is_of kind.Start c.args.entry.now ≡ false =
    at_kind (λ x. is_of kind.Start x ≡ false) kind.Restore c.args.entry.now c.in-Restore.is refl in
    let end : is_of kind.End c.args.entry.now ≡ false =
    at_kind (λ x. is_of kind.End x ≡ false) kind.Restore c.args.entry.now c.in-Restore.is refl in
    let put : is_put c.args.entry.now ≡ false =
    at_kind (λ x. is_put x ≡ false) kind.Restore c.args.entry.now c.in-Restore.is
    (ne_eqb c.args.entry.now.mark 0 c.if-entry-eq0.false) in
    others_keep c.args.plan.now (reverse c.args.journal.now) c.args.entry.now c.args.versions.now start end put c.requires.stands

pub returns-in-Arrive : goal.returns-in-Arrive
returns-in-Arrive c =
    versions_stay c.args.plan.now (reverse c.args.journal.now) c.args.entry.now.kind c.args.entry.now c.args.versions.now
    (a_stay _ c.in-Arrive.is) c.requires.stands
