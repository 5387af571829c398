-- Whatever a call came to can be told.
use Rattle.std.proofs.Common.{◌≡◌, ℕ, List, inl, inr, sym, subst}
use Rattle.caa_base.specs.declared.outside.reading.ReadError.{ReadError}
use Rattle.caa_base.specs.declared.outside.reading.ReadError.TheVariants as error
use Rattle.place_plan.specs.Plans.PlanValue.{Plan}
use Rattle.caa_commands.specs.declared.command.Command.{Command}
use Rattle.caa_commands.specs.declared.command.Command.TheVariants as command
use Rattle.caa_commands.specs.declared.finding.Finding.{Finding}
use Rattle.caa_commands.specs.declared.finding.Finding.TheVariants as finding
use Rattle.caa_commands.specs.Findings.{CanBeTold}
use Rattle.caa_commands.specs.OutsideUse.{Left, Call}
use Rattle.caa_commands.specs.Calls.{CheckComesTo, Prints, EndsWith, DoesNotBegin, AuditComesTo, PlanComesTo, InputComesTo, IsNotServed, CellComesTo, IsNotWorked, unread_finding, CameTo}

module _ {P : Type 0} (left : Left P) where
  checked_told : (plan : Plan) (found : Finding) → CheckComesTo plan found left → CanBeTold found left.journal
  checked_told plan (finding.Played failed text) h = elim h [ ]
  checked_told plan _ h = tt

  printed_told : (holds : List ℕ → Type 0) (found : Finding) → Prints holds found left → CanBeTold found left.journal
  printed_told holds (finding.Played failed text) h = elim h [ ]
  printed_told holds _ h = tt

  begun_told : (plan : Plan) (found : Finding) → DoesNotBegin plan found left → CanBeTold found left.journal
  begun_told plan (finding.Played failed text) h = elim h [ ]
  begun_told plan _ h = tt

  ended_told : (plan : Plan) (printed : List ℕ) (found : Finding) → EndsWith plan left.journal printed found
      → CanBeTold found left.journal
  ended_told plan printed (finding.Played failed text) h = h.1.1.1
  ended_told plan printed _ h = tt

  judged_told : (plan : Plan) (bytes : List ℕ) (found : Finding) → AuditComesTo plan bytes found left → CanBeTold found left.journal
  judged_told plan bytes (finding.Played failed text) h = elim h [ ]
  judged_told plan bytes _ h = tt

  away_told : (c : Command) (bytes : List ℕ) (found : Finding) → IsNotServed c bytes found left → CanBeTold found left.journal
  away_told c bytes (finding.Played failed text) h = elim h [ ]
  away_told c bytes _ h = tt

  unworked_told : (found : Finding) → IsNotWorked found left → CanBeTold found left.journal
  unworked_told (finding.Played failed text) h = elim h [ ]
  unworked_told _ h = tt

  cell_told : (plan : Plan) (cycles : ℕ) (found : Finding) → CellComesTo plan cycles found left → CanBeTold found left.journal
  cell_told plan cycles found (inl played) = ended_told plan _ found played.1
  cell_told plan cycles found (inr unopened) = begun_told plan found unopened

  plan_told : (c : Command) (plan : Plan) (bytes : List ℕ) (found : Finding) → PlanComesTo c plan bytes found left
      → CanBeTold found left.journal
  plan_told command.Check plan bytes found h = checked_told plan found h
  plan_told (command.Sim seed) plan bytes found (inl played) = ended_told plan _ found played.1
  plan_told (command.Sim seed) plan bytes found (inr unopened) = begun_told plan found unopened
  plan_told command.Run plan bytes found (inl played) = ended_told plan _ found played.ends
  plan_told command.Run plan bytes found (inr unopened) = begun_told plan found unopened
  plan_told (command.Pool workers) plan bytes found (inl played) = ended_told plan _ found played.ends
  plan_told (command.Pool workers) plan bytes found (inr unopened) = begun_told plan found unopened
  plan_told (command.Messages seed) plan bytes found h = printed_told _ found h
  plan_told (command.Graph most) plan bytes found h = elim h [ ]
  plan_told (command.Cell cycles) plan bytes found h = elim h [ ]
  plan_told command.Audit plan bytes found h = judged_told plan bytes found h

  input_told : (c : Command) (bytes : List ℕ) (found : Finding) → InputComesTo c bytes found left → CanBeTold found left.journal
  input_told c bytes found (inl served) = plan_told c served.plan bytes found served.comes
  input_told c bytes found (inr (inl away)) = away_told c bytes found away
  input_told c bytes found (inr (inr graph)) = printed_told _ found graph.prints

pub came_told : {P : Type 0} (call : Call P) (found : Finding) → CameTo call found → CanBeTold found call.left.journal
came_told call found (inl usage) = subst (λ f. CanBeTold f call.left.journal) (sym usage.finding) tt
came_told call found (inr (inl cell)) = elim cell.comes [
  | inl worked ↦ cell_told call.left worked.plan cell.cycles found worked.comes
  | inr away ↦ unworked_told call.left found away
]
came_told call found (inr (inr (inl u))) = by u.error u.finding
  where
    by : (e : ReadError) → found ≡ unread_finding e → CanBeTold found call.left.journal
    by error.Fault same = subst (λ f. CanBeTold f call.left.journal) (sym same) tt
    by error.TooLong same = subst (λ f. CanBeTold f call.left.journal) (sym same) tt
    by error.OutOfMemory same = subst (λ f. CanBeTold f call.left.journal) (sym same) tt
came_told call found (inr (inr (inr r))) = input_told call.left r.command r.bytes found r.comes
