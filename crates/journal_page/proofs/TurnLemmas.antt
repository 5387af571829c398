-- Turns to which one is added, and where they begin and stop.
use Rattle.std.proofs.Common.{◌≡◌, ℕ, suc, List, [], ◌∷◌, ◌++◌, length, take, reverse, slice_get, slice_index_or, Some, ap, sym, subst, arith, below_more}
use Rattle.std.specs.List.{All}
use Rattle.std.proofs.lemmas.List.{get_or_append_left, length-append}
use Rattle.std.proofs.Math.Seq.{get_or-append_seam}
use Rattle.caa_base.specs.declared.written.entry.Entry.{Entry}
use Rattle.place_plan.specs.Plans.PlanValue.{Plan}
use Rattle.journal_states.specs.declared.states.States.{States}
use Rattle.journal_states.specs.Past.{plan_in, journal_in, taken_in, past_in}
use Rattle.journal_page.specs.Stances.{LinesOf, IsStance, IsTurn, AreTurns}
use Rattle.journal_page.specs.declared.stances.Stance.{Stance}
use Rattle.journal_page.specs.declared.turns.Turn.{Turn}

-- the stances before the first entry are right after nothing
pub at_start : (lines : LinesOf) (s : States) (plan : Plan) (stances : List Stance) → plan_in s ≡ plan → taken_in s ≡ 0
    → All (IsStance lines (plan_in s) (past_in s)) stances → All (IsStance lines plan []) stances
at_start lines s plan stances of none all =
    subst (λ (p : Plan). All (IsStance lines p []) stances) of
    (subst (λ (past : List Entry). All (IsStance lines (plan_in s) past) stances) (ap (λ n. reverse (take n (journal_in s))) none) all)

-- the stances after an entry make its turn
pub turn_is : (lines : LinesOf) (s : States) (plan : Plan) (entries : List Entry) (k : ℕ) (turn : Turn) → plan_in s ≡ plan → journal_in s ≡ entries
    → taken_in s ≡ suc k → slice_get entries k ≡ Some turn.entry
    → All (IsStance lines (plan_in s) (past_in s)) turn.stances.items → IsTurn lines plan entries k turn
turn_is lines s plan entries k turn of over taken entry all = record {
  entry = entry;
  stances =
      subst (λ (p : Plan). All (IsStance lines p (reverse (take (suc k) entries))) turn.stances.items) of
      (subst (λ (j : List Entry). All (IsStance lines (plan_in s) (reverse (take (suc k) j))) turn.stances.items) over
      (subst (λ (n : ℕ). All (IsStance lines (plan_in s) (reverse (take n (journal_in s)))) turn.stances.items) taken all));
}

-- with the turn of the next entry they are still in order
pub one_more : (lines : LinesOf) (plan : Plan) (entries : List Entry) (turns : List Turn) (turn : Turn) → AreTurns lines plan entries turns
    → IsTurn lines plan entries (length turns) turn → AreTurns lines plan entries (turns ++ turn ∷ [])
one_more lines plan entries turns turn are last k d below =
    below_more (λ (j : ℕ). IsTurn lines plan entries j (slice_index_or (turns ++ turn ∷ []) j d)) (length turns)
    (λ j low. subst (IsTurn lines plan entries j) (sym (get_or_append_left turns (turn ∷ []) d j low)) (are j d low))
    (subst (IsTurn lines plan entries (length turns)) (sym (get_or-append_seam turns turn [] d)) last)
    k (omega (arith, length-append turns (turn ∷ []), below))
