-- What it is to be live, in parts.
use Rattle.std.proofs.Common.{◌≡◌, ℕ, true, false, not, List}
use Rattle.std.proofs.lemmas.Bool.{and_parts, and_from, not-true, not_from_false}
use Rattle.caa_base.specs.declared.written.entry.Entry.{Entry}
use Rattle.place_plan.specs.RulesOfJournals.Whereabouts.{has_started, has_ended, is_undoing, is_live, is_going}

pub live_parts : (p : ℕ) (past : List Entry) → is_live past p ≡ true → (has_started past p ≡ true) × (has_ended past p ≡ false)
live_parts p past h = let w = and_parts (has_started past p) (not (has_ended past p)) h in (w.0, not-true _ w.1)

pub live_from : (p : ℕ) (past : List Entry) → has_started past p ≡ true → has_ended past p ≡ false → is_live past p ≡ true
live_from p past h k = and_from (has_started past p) (not (has_ended past p)) h (not_from_false _ k)

pub going_live : (p : ℕ) (past : List Entry) → is_going past p ≡ true → is_live past p ≡ true
going_live p past h = (and_parts (is_live past p) (not (is_undoing past p)) h).0
