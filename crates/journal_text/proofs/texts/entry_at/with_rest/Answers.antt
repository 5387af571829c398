use Rattle.std.proofs.Common.{ℕ, List, Bor, inl, inr}
use Rattle.caa_base.specs.declared.written.entry.Kind.TheVariants as kind
use Rattle.journal_text.proofs.OnTexts.FieldTokens.{of-kind, of-raise, of-resolve, of-handle, of-verdict, of-end, of-abort, of-leave}
use Rattle.journal_text.proofs.texts.entry_at.with_rest.Goals as goal

abbrev now : Bor (List ℕ) → List ℕ
now r = r.now

pub returns-in-Read : goal.returns-in-Read
returns-in-Read c =
    let plan = c.args.plan.now in
    let maker = c.args.maker in
    let text = c.args.text.now in
    let read = c.with_object.result in
    elim c.in-Read.is [
      | inl is ↦ of-kind now plan maker text read kind.Read is c.with_object.ensures
      | inr other0 ↦ elim other0 [
        | inl is ↦ of-kind now plan maker text read kind.Write is c.with_object.ensures
        | inr other1 ↦ of-kind now plan maker text read kind.PutFault other1 c.with_object.ensures
      ]
    ]

pub returns-in-Work : goal.returns-in-Work
returns-in-Work c =
    let plan = c.args.plan.now in
    let maker = c.args.maker in
    let text = c.args.text.now in
    let read = c.with_work.result in
    of-kind now plan maker text read kind.Work c.in-Work.is c.with_work.ensures

pub returns-in-Arrive : goal.returns-in-Arrive
returns-in-Arrive c =
    let plan = c.args.plan.now in
    let maker = c.args.maker in
    let text = c.args.text.now in
    let read = c.with_nothing.result in
    elim c.in-Arrive.is [
      | inl is ↦ of-kind now plan maker text read kind.Arrive is c.with_nothing.ensures
      | inr other0 ↦ elim other0 [
        | inl is ↦ of-kind now plan maker text read kind.Withdraw is c.with_nothing.ensures
        | inr other1 ↦ elim other1 [
          | inl is ↦ of-kind now plan maker text read kind.Start is c.with_nothing.ensures
          | inr other2 ↦ elim other2 [
            | inl is ↦ of-kind now plan maker text read kind.Check is c.with_nothing.ensures
            | inr other3 ↦ elim other3 [
              | inl is ↦ of-kind now plan maker text read kind.Inform is c.with_nothing.ensures
              | inr other4 ↦ of-kind now plan maker text read kind.Undo other4 c.with_nothing.ensures
            ]
          ]
        ]
      ]
    ]

pub returns-in-Raise : goal.returns-in-Raise
returns-in-Raise c =
    let plan = c.args.plan.now in
    let maker = c.args.maker in
    let text = c.args.text.now in
    let read = c.with_exception.result in
    elim c.in-Raise.is [
      | inl is ↦ of-kind now plan maker text read kind.Raise is (of-raise now plan maker text read c.internal_number.result c.internal_number.ensures c.with_exception.ensures)
      | inr other0 ↦ elim other0 [
        | inl is ↦ of-kind now plan maker text read kind.Resolve is (of-resolve now plan maker text read c.internal_number.result c.internal_number.ensures c.with_exception.ensures)
        | inr other1 ↦ of-kind now plan maker text read kind.Handle other1 (of-handle now plan maker text read c.internal_number.result c.internal_number.ensures c.with_exception.ensures)
      ]
    ]

pub returns-in-Verdict : goal.returns-in-Verdict
returns-in-Verdict c =
    let plan = c.args.plan.now in
    let maker = c.args.maker in
    let text = c.args.text.now in
    let read = c.with_verdict.result in
    of-kind now plan maker text read kind.Verdict c.in-Verdict.is (of-verdict now plan maker text read c.with_verdict.ensures)

pub returns-in-Abort : goal.returns-in-Abort
returns-in-Abort c =
    let plan = c.args.plan.now in
    let maker = c.args.maker in
    let text = c.args.text.now in
    let read = c.with_name.result in
    of-kind now plan maker text read kind.Abort c.in-Abort.is (of-abort now plan maker text read c.interface_number.result c.interface_number.ensures c.with_name.ensures)

pub returns-in-Restore : goal.returns-in-Restore
returns-in-Restore c =
    let plan = c.args.plan.now in
    let maker = c.args.maker in
    let text = c.args.text.now in
    let read = c.with_restore.result in
    of-kind now plan maker text read kind.Restore c.in-Restore.is c.with_restore.ensures

pub returns-in-End : goal.returns-in-End
returns-in-End c =
    let plan = c.args.plan.now in
    let maker = c.args.maker in
    let text = c.args.text.now in
    let read = c.with_outcome.result in
    of-kind now plan maker text read kind.End c.in-End.is (of-end now plan maker text read c.with_outcome.ensures)

pub returns-in-Leave : goal.returns-in-Leave
returns-in-Leave c =
    let plan = c.args.plan.now in
    let maker = c.args.maker in
    let text = c.args.text.now in
    let read = c.with_carried.result in
    of-kind now plan maker text read kind.Leave c.in-Leave.is (of-leave now plan maker text read c.with_carried.ensures)
