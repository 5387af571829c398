-- What the code comes to is a move by the rules.
use Rattle.std.proofs.Common.{◌≡◌, ◌∙◌, ℕ, false, List, Some, None, refl, sym}
use Rattle.std.proofs.lemmas.Bool.{false_from_ne_true, or_parts}
use Rattle.caa_base.specs.declared.written.entry.Entry.{Entry}
use Rattle.caa_base.specs.declared.written.entry.Kind.TheVariants as kind
use Rattle.place_plan.specs.Plans.PlanValue.{Plan}
use Rattle.place_plan.specs.RulesOfJournals.Entries.{is_of}
use Rattle.place_plan.specs.RulesOfJournals.Whereabouts.{inside}
use Rattle.place_plan.specs.RulesOfJournals.Roles.{is_over}
use Rattle.place_plan.specs.RulesOfJournals.Journals.{LegalPast, is_put}
use Rattle.place_plan.specs.RulesOfJournals.Machine.{work_entry}
use Rattle.journal_laws.specs.Due.{due_of, DueIsRight}
use Rattle.journal_laws.proofs.Over.{over_outside}
use Rattle.journal_laws.proofs.Playable.{IsPlayable}
use Rattle.journal_replay.specs.Moves.{IsMove}
use Rattle.journal_replay.specs.inner.Deciding.{entry_in, IsRight}
use Rattle.journal_replay.specs.declared.moves.Move.{Move}
use Rattle.journal_replay.specs.declared.moves.Move.TheVariants as move
use Rattle.journal_replay.proofs.DueEntries.{the_entry, device_decides, no_entry}

module _ (plan : Plan) (playable : IsPlayable plan) (past : List Entry) (legal : LegalPast plan past) where
  -- who is in a place isn't over
  unfinished : (t p : ℕ) → inside plan past t ≡ Some p → is_over plan past t ≡ false
  unfinished t p here =
      false_from_ne_true _ (λ over. let out : None ≡ Some p = sym (over_outside plan playable past legal t over) ∙ here in cc)

  pub is_move : DueIsRight plan past → (t : ℕ) (m : Move) → entry_in t m ≡ due_of plan past t → IsRight plan past t m
      → IsMove plan past t m
  is_move law t (move.Make e) due right =
      let parts = or_parts (is_of kind.Work e) (is_put e) right in
      record { next = the_entry plan past law t e due parts.1; plain = parts.0 }
  is_move law t (move.Put e) due right = device_decides plan past law t e due right
  is_move law t (move.Mix work) due right =
      record { next = the_entry plan past law t (work_entry work.place t work.rounds work.from) due refl; start = right }
  is_move law t (move.Wait wait) due right = (no_entry plan past law t due, unfinished t wait.place right.here, right)
  is_move law t move.Over due right = (no_entry plan past law t due, right)
