-- What can be served is served, what is to be found is told, and what is to be refused is refused; or memory was wanting.
use Rattle.std.proofs.Common.{◌≡◌, ℕ, ◌+◌, ◌<◌, ◌≤◌, true, false, List, [], ◌++◌, length, length-append, Option, Some, None, IfSome, Ok, Err, inl, inr, ◌⊎◌, refl, sym, ap, ◌∙◌, subst, subst₂, arith}
use Rattle.std.specs.Io.KnownBytes.{append_known}
use Rattle.caa_base.specs.Outside.Counts.{Rose}
use Rattle.caa_base.specs.Written.Limits.{most_script_bytes}
use Rattle.caa_base.specs.Outside.Reading.{TookOff, TookUntil}
use Rattle.caa_base.specs.declared.written.entry.Entry.{Entry}
use Rattle.caa_base.specs.declared.outside.reading.ReadError.{ReadError}
use Rattle.caa_base.specs.declared.outside.reading.ReadError.TheVariants as error
use Rattle.action_script.specs.Forms.Printing.{text_of}
use Rattle.action_script.specs.Forms.ScriptValue.{Script}
use Rattle.graph_maker.specs.MadeScripts.{script_of_sets}
use Rattle.graph_maker.specs.Refusals.{refusal_of}
use Rattle.script_checker.specs.Compiled.{IsFirstRefused}
use Rattle.journal_text.specs.Texts.Text.{text_of as text_of_journal}
use Rattle.cell_workload.specs.Summary.{summary_text}
use Rattle.message_plays.specs.Texts.{IsPlayedByMessages}
use Rattle.place_plan.specs.Plans.PlanValue.{Plan}
use Rattle.caa_commands.specs.declared.command.Command.{Command}
use Rattle.caa_commands.specs.declared.command.Command.TheVariants as command
use Rattle.caa_commands.specs.declared.fault.Refusal.{Refusal}
use Rattle.caa_commands.specs.declared.finding.Finding.{Finding}
use Rattle.caa_commands.specs.declared.finding.Finding.TheVariants as finding
use Rattle.caa_commands.specs.declared.status.Status.{Status}
use Rattle.caa_commands.specs.declared.status.Status.TheVariants as status
use Rattle.caa_commands.specs.Commands.{reads_input}
use Rattle.caa_commands.specs.Findings.{status_of, finding_text}
use Rattle.caa_commands.specs.Inputs.{most_bytes, script_in}
use Rattle.caa_commands.specs.Scripts.{IsThePlan, IsRefusedScript, SpellAccepted}
use Rattle.caa_commands.specs.OutsideUse.{SinkUse, Left, Call}
use Rattle.caa_commands.specs.Graphs.{IsAcceptedGraph, IsGraphText, IsRefusedGraph}
use Rattle.caa_commands.specs.Calls.{CheckComesTo, IsRefusedFor, MakesGraph, Prints, EndsWith, DoesNotBegin, AuditComesTo, PlanComesTo, InputComesTo, IsNotServed, IsWorked, IsNotWorked, IsUnread, IsRead, HasStopped, unread_finding, CameTo, with_journal, Tells, Answers}
use Rattle.caa_commands.specs.Served.{IsGiven, WasTold, IsMakeable, IsServable, IsWorkable, ServesPlans, WasPrinted, WasServed, IsToFind, legal_journal, illegal_line, too_many_entries, IsAuditable, HoldsRefused, IsRefusable, WasRefused, MissesNothing}
use Rattle.caa_base.proofs.Counting.{counted_up-rose}
use Rattle.caa_commands.proofs.NotRefused.{accepted_not_refused, plan_accepted}
use Rattle.caa_commands.proofs.PlansOfScripts.{plan_tells, spelled_short}
use Rattle.caa_commands.proofs.FoundAlone.{found_alone}
use Rattle.caa_commands.proofs.Spared.{answer_spared}

-- ---- what was read

not_too_long : (bytes : List ℕ) (left : Option (List ℕ)) (most : ℕ) → length bytes ≤ most → TookOff (Some bytes) left (most + 1) → ⊥
not_too_long bytes None most l t = let front : Some bytes ≡ None = t.front in absurd cc
not_too_long bytes (Some rest) most l t =
    let front : Some bytes ≡ Some (t.bytes ++ rest) = t.front in
    let same : bytes ≡ t.bytes ++ rest = cc in
    absurd (omega (arith, t.number, ap length same, length-append t.bytes rest))

module _ {P : Type 0} (call : Call P) (sink : SinkUse) (c : Command) (bytes : List ℕ) (given : IsGiven call sink c bytes) where
  one_command : (d : Command) → call.asked ≡ Some d → d ≡ c
  one_command d asked = let both : Some d ≡ Some c = sym asked ∙ given.asked in cc

  -- an input that isn't too long was read, or memory was wanting
  stopped : (most : ℕ) (e : ReadError) → length bytes ≤ most → TookUntil call.source.left_before call.source.left_after most e
      → HasStopped call.source e → unread_finding e ≡ finding.OutOfMemory
  stopped most error.Fault short taken cause = absurd (given.read (counted_up-rose _ _ cause))
  stopped most error.TooLong short taken cause =
      absurd (not_too_long bytes call.source.left_after most short
      (subst (λ (o : Option (List ℕ)). TookOff o call.source.left_after (most + 1)) given.told taken))
  stopped most error.OutOfMemory short taken cause = refl

  unread : (found : Finding) → length bytes ≤ most_bytes c → IsUnread call found → found ≡ finding.OutOfMemory
  unread found short u =
      let most : length bytes ≤ most_bytes u.command =
      subst (λ d. length bytes ≤ most_bytes d) (sym (one_command u.command u.given)) short in
      u.finding ∙ stopped (most_bytes u.command) u.error most u.taken u.cause

  -- what was read is what the source told
  own_bytes : (found : Finding) (r : IsRead call found) → r.bytes ≡ bytes
  own_bytes found r = subst (λ o. IfSome o (λ rest. r.bytes ≡ rest)) given.told r.read.all

  was_read : (found : Finding) → IsRead call found → InputComesTo c bytes found call.left
  was_read found r = subst₂ (λ d b. InputComesTo d b found call.left) (one_command r.command r.given) (own_bytes found r) r.comes

  -- a command that reads is no cell's
  no_cell : (cycles : ℕ) → reads_input c ≡ true → call.asked ≡ Some (command.Cell cycles) → ⊥
  no_cell cycles reads asked =
      let both : false ≡ true = ap reads_input (one_command (command.Cell cycles) asked) ∙ reads in
      absurd cc

  input_comes : (found : Finding) → reads_input c ≡ true → length bytes ≤ most_bytes c → CameTo call found
      → (InputComesTo c bytes found call.left) ⊎ (found ≡ finding.OutOfMemory)
  input_comes found reads short (inl usage) = let none : Some c ≡ None = sym given.asked ∙ usage.cause in absurd cc
  input_comes found reads short (inr (inl cell)) = absurd (no_cell cell.cycles reads cell.given)
  input_comes found reads short (inr (inr (inl u))) = inr (unread found short u)
  input_comes found reads short (inr (inr (inr r))) = inl (was_read found r)

  -- the same, where the call hands back another journal
  given_with : (journal : List Entry) → IsGiven (with_journal call journal) sink c bytes
  given_with journal = record { asked = given.asked; told = given.told; read = given.read; written = given.written }

-- ---- what was told

-- where this was found, or want of memory, it was told
was_told : (found other : Finding) (journal handed : List Entry) (sink : SinkUse) (answer : Status)
    → (Rose sink.faults_before sink.faults_after → ⊥)
    → (other ≡ found) ⊎ (other ≡ finding.OutOfMemory) → Tells other journal handed sink answer → WasTold found handed sink answer
was_told found other journal handed sink answer quiet (inl same) (inl whole) =
    inl (
      whole.answered ∙ ap status_of same,
      whole.written ∙ ap (λ f. append_known sink.held_before (finding_text f journal)) same
          ∙ ap (λ j. append_known sink.held_before (finding_text found j)) (sym whole.kept),
    )
was_told found other journal handed sink answer quiet (inr lost) (inl whole) = inr (whole.answered ∙ ap status_of lost)
was_told found other journal handed sink answer quiet one (inr (inl cut)) = absurd (quiet (counted_up-rose _ _ cut.cause))
was_told found other journal handed sink answer quiet one (inr (inr lost)) = inr lost.answered

-- ---- a script that is accepted

-- it isn't refused
not_refused : (bytes : List ℕ) (refusal : Refusal) → SpellAccepted bytes → IsRefusedScript bytes refusal → ⊥
not_refused bytes refusal h (inl m) = let both : Ok h.script ≡ Err m.error = sym h.spelled ∙ m.first in absurd cc
not_refused bytes refusal h (inr u) =
    let both : Ok h.script ≡ Ok u.script = sym h.spelled ∙ u.spelled in
    let same : u.script ≡ h.script = cc in
    accepted_not_refused h.script u.refused.error h.accepted
    (subst (λ (s : Script). IsFirstRefused s u.refused.error) same u.refused.first)

-- a command other than `audit` reads a script
most_of_script : (c : Command) → ServesPlans c → most_bytes c ≡ most_script_bytes
most_of_script command.Check h = refl
most_of_script (command.Sim seed) h = refl
most_of_script command.Run h = refl
most_of_script (command.Messages seed) h = refl
most_of_script (command.Pool workers) h = refl
most_of_script (command.Graph most) h = elim h [ ]
most_of_script (command.Cell cycles) h = elim h [ ]
most_of_script command.Audit h = elim h [ ]

script_of_script : (c : Command) (bytes : List ℕ) → ServesPlans c → script_in c bytes ≡ bytes
script_of_script command.Check bytes h = refl
script_of_script (command.Sim seed) bytes h = refl
script_of_script command.Run bytes h = refl
script_of_script (command.Messages seed) bytes h = refl
script_of_script (command.Pool workers) bytes h = refl
script_of_script (command.Graph most) bytes h = elim h [ ]
script_of_script (command.Cell cycles) bytes h = elim h [ ]
script_of_script command.Audit bytes h = elim h [ ]

plans_read : (c : Command) → ServesPlans c → reads_input c ≡ true
plans_read command.Check h = refl
plans_read (command.Sim seed) h = refl
plans_read command.Run h = refl
plans_read (command.Messages seed) h = refl
plans_read (command.Pool workers) h = refl
plans_read (command.Graph most) h = refl
plans_read (command.Cell cycles) h = elim h [ ]
plans_read command.Audit h = refl

-- a play that ended is served, or its text found no memory
ended_served : (plan : Plan) (journal : List Entry) (printed : List ℕ) (found : Finding) → EndsWith plan journal printed found
    → WasServed (status_of found)
ended_served plan journal printed (finding.Played true text) h = inr (inl refl)
ended_served plan journal printed (finding.Played false text) h = inl refl
ended_served plan journal printed finding.OutOfMemory h = inr (inr refl)
ended_served plan journal printed finding.Usage h = elim h [ ]
ended_served plan journal printed finding.SourceFault h = elim h [ ]
ended_served plan journal printed (finding.Refused refusal) h = elim h [ ]
ended_served plan journal printed (finding.Checked counts) h = elim h [ ]
ended_served plan journal printed finding.PlantFault h = elim h [ ]
ended_served plan journal printed (finding.Legal entries) h = elim h [ ]
ended_served plan journal printed (finding.Illegal line) h = elim h [ ]
ended_served plan journal printed (finding.Printed text) h = elim h [ ]

-- where the device could be laid out, a play that didn't begin found no memory
begun_served : {P : Type 0} (plan : Plan) (found : Finding) (left : Left P)
    → (Rose left.plant.lay_faults_before left.plant.lay_faults_after → ⊥) → DoesNotBegin plan found left → WasServed (status_of found)
begun_served plan finding.PlantFault left laid h = absurd (laid (counted_up-rose _ _ h.0))
begun_served plan finding.OutOfMemory left laid h = inr (inr refl)
begun_served plan finding.Usage left laid h = elim h [ ]
begun_served plan finding.SourceFault left laid h = elim h [ ]
begun_served plan (finding.Refused refusal) left laid h = elim h [ ]
begun_served plan (finding.Checked counts) left laid h = elim h [ ]
begun_served plan (finding.Played failed text) left laid h = elim h [ ]
begun_served plan (finding.Legal entries) left laid h = elim h [ ]
begun_served plan (finding.Illegal line) left laid h = elim h [ ]
begun_served plan (finding.Printed text) left laid h = elim h [ ]

checked_served : {P : Type 0} (plan : Plan) (found : Finding) (left : Left P) → CheckComesTo plan found left → WasServed (status_of found)
checked_served plan (finding.Checked counts) left h = inl refl
checked_served plan finding.Usage left h = elim h [ ]
checked_served plan finding.SourceFault left h = elim h [ ]
checked_served plan (finding.Refused refusal) left h = elim h [ ]
checked_served plan finding.PlantFault left h = elim h [ ]
checked_served plan (finding.Played failed text) left h = elim h [ ]
checked_served plan (finding.Legal entries) left h = elim h [ ]
checked_served plan (finding.Illegal line) left h = elim h [ ]
checked_served plan (finding.Printed text) left h = elim h [ ]
checked_served plan finding.OutOfMemory left h = elim h [ ]

-- a text that is printed is served, or found no memory
printed_served : {P : Type 0} (holds : List ℕ → Type 0) (found : Finding) (left : Left P) → Prints holds found left
    → WasServed (status_of found)
printed_served holds (finding.Printed text) left h = inl refl
printed_served holds finding.OutOfMemory left h = inr (inr refl)
printed_served holds finding.Usage left h = elim h [ ]
printed_served holds finding.SourceFault left h = elim h [ ]
printed_served holds (finding.Refused refusal) left h = elim h [ ]
printed_served holds (finding.Checked counts) left h = elim h [ ]
printed_served holds finding.PlantFault left h = elim h [ ]
printed_served holds (finding.Played failed text) left h = elim h [ ]
printed_served holds (finding.Legal entries) left h = elim h [ ]
printed_served holds (finding.Illegal line) left h = elim h [ ]

-- over a plan, a command other than `audit` comes to nothing else
plan_served : {P : Type 0} (c : Command) (plan : Plan) (bytes : List ℕ) (found : Finding) (left : Left P) → ServesPlans c
    → (Rose left.plant.lay_faults_before left.plant.lay_faults_after → ⊥) → PlanComesTo c plan bytes found left
    → WasServed (status_of found)
plan_served command.Audit plan bytes found left other laid h = elim other [ ]
plan_served (command.Graph most) plan bytes found left other laid h = elim other [ ]
plan_served (command.Cell cycles) plan bytes found left other laid h = elim other [ ]
plan_served command.Check plan bytes found left other laid h = checked_served plan found left h
plan_served (command.Sim seed) plan bytes found left other laid (inl played) =
    ended_served plan left.journal (text_of_journal plan left.journal []) found played.1
plan_served (command.Sim seed) plan bytes found left other laid (inr unopened) = begun_served plan found left laid unopened
plan_served command.Run plan bytes found left other laid (inl played) =
    ended_served plan left.journal (text_of_journal plan left.journal played.seens) found played.ends
plan_served command.Run plan bytes found left other laid (inr unopened) = begun_served plan found left laid unopened
plan_served (command.Pool workers) plan bytes found left other laid (inl played) =
    ended_served plan left.journal (text_of_journal plan left.journal []) found played.ends
plan_served (command.Pool workers) plan bytes found left other laid (inr unopened) = begun_served plan found left laid unopened
plan_served (command.Messages seed) plan bytes found left other laid h = printed_served (IsPlayedByMessages plan seed) found left h

-- a command other than `graph` is refused for what its script is refused for
refused_script : (c : Command) (bytes : List ℕ) (refusal : Refusal) → ((most : ℕ) → c ≡ command.Graph most → ⊥)
    → IsRefusedFor c bytes refusal → IsRefusedScript (script_in c bytes) refusal
refused_script command.Check bytes refusal other h = h
refused_script (command.Sim seed) bytes refusal other h = h
refused_script command.Run bytes refusal other h = h
refused_script command.Audit bytes refusal other h = h
refused_script (command.Messages seed) bytes refusal other h = h
refused_script (command.Pool workers) bytes refusal other h = h
refused_script (command.Cell cycles) bytes refusal other h = h
refused_script (command.Graph most) bytes refusal other h = absurd (other most refl)

-- a command that serves plans makes no graph
no_graph : (c : Command) → ServesPlans c → (most : ℕ) → c ≡ command.Graph most → ⊥
no_graph c plans most same = subst ServesPlans same plans

-- a script that is accepted isn't turned away
not_away : {P : Type 0} (c : Command) (bytes : List ℕ) (found : Finding) (left : Left P)
    → ((most : ℕ) → c ≡ command.Graph most → ⊥) → SpellAccepted (script_in c bytes) → IsNotServed c bytes found left
    → found ≡ finding.OutOfMemory
not_away c bytes (finding.Refused refusal) left other script h =
    absurd (not_refused (script_in c bytes) refusal script (refused_script c bytes refusal other h.0))
not_away c bytes finding.OutOfMemory left other script h = refl
not_away c bytes finding.Usage left other script h = elim h [ ]
not_away c bytes finding.SourceFault left other script h = elim h [ ]
not_away c bytes finding.PlantFault left other script h = elim h [ ]
not_away c bytes (finding.Checked counts) left other script h = elim h [ ]
not_away c bytes (finding.Played failed text) left other script h = elim h [ ]
not_away c bytes (finding.Legal entries) left other script h = elim h [ ]
not_away c bytes (finding.Illegal line) left other script h = elim h [ ]
not_away c bytes (finding.Printed text) left other script h = elim h [ ]

lost_served : (found : Finding) → found ≡ finding.OutOfMemory → WasServed (status_of found)
lost_served found lost = inr (inr (ap status_of lost))

found_served : {P : Type 0} (call : Call P) (sink : SinkUse) (h : IsServable call sink) (journal : List Entry) (found : Finding)
    → CameTo (with_journal call journal) found → WasServed (status_of found)
found_served call sink h journal found came =
    let short : length h.bytes ≤ most_bytes h.served =
    subst (λ n. length h.bytes ≤ n) (sym (most_of_script h.served h.plans)) (spelled_short h.bytes h.script.script h.script.spelled) in
    let script : SpellAccepted (script_in h.served h.bytes) =
    subst SpellAccepted (sym (script_of_script h.served h.bytes h.plans)) h.script in
    let left = (with_journal call journal).left in
    elim (input_comes (with_journal call journal) sink h.served h.bytes (given_with call sink h.served h.bytes h.given journal)
    found (plans_read h.served h.plans) short came) [
      | inl (inl served) ↦ plan_served h.served served.plan h.bytes found left h.plans h.laid served.comes
      | inl (inr (inl away)) ↦ lost_served found (not_away h.served h.bytes found left (no_graph h.served h.plans) script away)
      | inl (inr (inr graph)) ↦ absurd (no_graph h.served h.plans graph.most graph.asked)
      | inr lost ↦ lost_served found lost
    ]

-- what came to be served is served, unless a write failed
served_answer : {P : Type 0} (call : Call P) (sink : SinkUse) (answer : Status) (a : Answers call sink answer)
    → (Rose sink.faults_before sink.faults_after → ⊥) → WasServed (status_of a.finding) → WasServed answer
served_answer call sink answer a quiet served = by a.tells
  where
    by : Tells a.finding a.journal call.left.journal sink answer → WasServed answer
    by (inl whole) = subst WasServed (sym whole.answered) served
    by (inr (inl cut)) = absurd (quiet (counted_up-rose _ _ cut.cause))
    by (inr (inr lost)) = inr (inr lost.answered)

answer_served : {P : Type 0} (call : Call P) (sink : SinkUse) (answer : Status) → Answers call sink answer
    → IsServable call sink → WasServed answer
answer_served call sink answer a h =
    served_answer call sink answer a h.given.written (found_served call sink h a.journal a.finding a.came)

-- ---- `audit`

audited : {P : Type 0} (plan : Plan) (bytes : List ℕ) (found : Finding) (left : Left P) → AuditComesTo plan bytes found left
    → (IsToFind plan bytes found) ⊎ (found ≡ finding.OutOfMemory)
audited plan bytes (finding.Legal entries) left h =
    inl (legal_journal (record { journal = left.journal; lawful = h.lawful; number = h.number }))
audited plan bytes (finding.Illegal line) left h = inl (illegal_line h.0)
audited plan bytes (finding.Refused refusal) left h = inl (too_many_entries h.0)
audited plan bytes finding.OutOfMemory left h = inr refl
audited plan bytes finding.Usage left h = elim h [ ]
audited plan bytes finding.SourceFault left h = elim h [ ]
audited plan bytes finding.PlantFault left h = elim h [ ]
audited plan bytes (finding.Checked counts) left h = elim h [ ]
audited plan bytes (finding.Played failed text) left h = elim h [ ]
audited plan bytes (finding.Printed text) left h = elim h [ ]

-- by the plan of the script nothing else is found than what is to be found
as_to_find : {P : Type 0} (call : Call P) (sink : SinkUse) (found other : Finding) (left : Left P)
    (h : IsAuditable call sink found) (plan : Plan) → IsThePlan (script_in command.Audit h.bytes) plan
    → (IsToFind plan h.bytes other) ⊎ (other ≡ finding.OutOfMemory) → (other ≡ found) ⊎ (other ≡ finding.OutOfMemory)
as_to_find call sink found other left h plan script (inl one) =
    let own : IsToFind plan h.bytes found = subst (λ p. IsToFind p h.bytes found) (script.only h.plan h.script) h.finds in
    inl (found_alone plan (plan_tells (script_in command.Audit h.bytes) plan script.has) h.bytes other found one own)
as_to_find call sink found other left h plan script (inr lost) = inr lost

found_audited : {P : Type 0} (call : Call P) (sink : SinkUse) (found other : Finding) (h : IsAuditable call sink found)
    (journal : List Entry) → CameTo (with_journal call journal) other → (other ≡ found) ⊎ (other ≡ finding.OutOfMemory)
found_audited call sink found other h journal came =
    let left = (with_journal call journal).left in
    elim (input_comes (with_journal call journal) sink command.Audit h.bytes
    (given_with call sink command.Audit h.bytes h.given journal) other refl h.fits came) [
      | inl (inl served) ↦ as_to_find call sink found other left h served.plan served.script
          (audited served.plan h.bytes other left served.comes)
      | inl (inr (inl away)) ↦ inr (not_away command.Audit h.bytes other left (λ most same. cc)
          (plan_accepted (script_in command.Audit h.bytes) h.plan h.script) away)
      | inl (inr (inr graph)) ↦ let same = graph.asked in absurd cc
      | inr lost ↦ inr lost
    ]

answer_audited : {P : Type 0} (call : Call P) (sink : SinkUse) (found : Finding) (answer : Status) → Answers call sink answer
    → IsAuditable call sink found → WasTold found call.left.journal sink answer
answer_audited call sink found answer a h =
    was_told found a.finding a.journal call.left.journal sink answer h.given.written
    (found_audited call sink found a.finding h a.journal a.came) a.tells

-- ---- what is refused

-- where memory wasn't wanting, the finding is a refusal
abbrev IsRefusal : Finding → Type 0
IsRefusal found = (status_of found ≡ status.Refused) ⊎ (found ≡ finding.OutOfMemory)

refused_away : {P : Type 0} (c : Command) (bytes : List ℕ) (found : Finding) (left : Left P) → IsNotServed c bytes found left
    → IsRefusal found
refused_away c bytes (finding.Refused refusal) left h = inl refl
refused_away c bytes finding.OutOfMemory left h = inr refl
refused_away c bytes finding.Usage left h = elim h [ ]
refused_away c bytes finding.SourceFault left h = elim h [ ]
refused_away c bytes finding.PlantFault left h = elim h [ ]
refused_away c bytes (finding.Checked counts) left h = elim h [ ]
refused_away c bytes (finding.Played failed text) left h = elim h [ ]
refused_away c bytes (finding.Legal entries) left h = elim h [ ]
refused_away c bytes (finding.Illegal line) left h = elim h [ ]
refused_away c bytes (finding.Printed text) left h = elim h [ ]

-- a command that is served over a plan isn't refused
not_both : {P : Type 0} (c : Command) (bytes : List ℕ) (plan : Plan) (refusal : Refusal) (found : Finding) (left : Left P)
    → SpellAccepted (script_in c bytes) → PlanComesTo c plan bytes found left → IsRefusedFor c bytes refusal → ⊥
not_both (command.Graph most) bytes plan refusal found left script comes h = comes
not_both (command.Cell cycles) bytes plan refusal found left script comes h = comes
not_both command.Check bytes plan refusal found left script comes h = not_refused bytes refusal script h
not_both (command.Sim seed) bytes plan refusal found left script comes h = not_refused bytes refusal script h
not_both command.Run bytes plan refusal found left script comes h = not_refused bytes refusal script h
not_both command.Audit bytes plan refusal found left script comes h = not_refused (script_in command.Audit bytes) refusal script h
not_both (command.Messages seed) bytes plan refusal found left script comes h = not_refused bytes refusal script h
not_both (command.Pool workers) bytes plan refusal found left script comes h = not_refused bytes refusal script h

-- a script of which a text is made isn't refused
no_text : (most : ℕ) (bytes text : List ℕ) (refusal : Refusal) → IsGraphText most bytes text → IsRefusedGraph most bytes refusal → ⊥
no_text most bytes text refusal made (inl m) = let both : Ok made.script ≡ Err m.error = sym made.spelled ∙ m.first in absurd cc
no_text most bytes text refusal made (inr u) =
    let both : Ok made.script ≡ Ok u.script = sym made.spelled ∙ u.spelled in
    let same : made.script ≡ u.script = cc in
    let none : refusal_of u.script most ≡ None = subst (λ (s : Script). refusal_of s most ≡ None) same made.accepted in
    let two : None ≡ Some u.error = sym none ∙ u.first in
    absurd cc

printed_refused : {P : Type 0} (most : ℕ) (bytes : List ℕ) (refusal : Refusal) (found : Finding) (left : Left P)
    → Prints (IsAcceptedGraph most bytes) found left → IsRefusedGraph most bytes refusal → IsRefusal found
printed_refused most bytes refusal (finding.Printed text) left h refused =
    absurd (no_text most bytes text.items refusal h.0.made refused)
printed_refused most bytes refusal finding.OutOfMemory left h refused = inr refl
printed_refused most bytes refusal finding.Usage left h refused = elim h [ ]
printed_refused most bytes refusal finding.SourceFault left h refused = elim h [ ]
printed_refused most bytes refusal (finding.Refused other) left h refused = elim h [ ]
printed_refused most bytes refusal (finding.Checked counts) left h refused = elim h [ ]
printed_refused most bytes refusal finding.PlantFault left h refused = elim h [ ]
printed_refused most bytes refusal (finding.Played failed text) left h refused = elim h [ ]
printed_refused most bytes refusal (finding.Legal entries) left h refused = elim h [ ]
printed_refused most bytes refusal (finding.Illegal line) left h refused = elim h [ ]

graph_refused : {P : Type 0} (c : Command) (bytes : List ℕ) (refusal : Refusal) (found : Finding) (left : Left P)
    → MakesGraph c bytes found left → IsRefusedFor c bytes refusal → IsRefusal found
graph_refused c bytes refusal found left graph h =
    printed_refused graph.most bytes refusal found left graph.prints (subst (λ d. IsRefusedFor d bytes refusal) graph.asked h)

module _ {P : Type 0} (call : Call P) (sink : SinkUse) (c : Command) (bytes : List ℕ) (given : IsGiven call sink c bytes)
    (found : Finding) where
  -- an input that is too long isn't read to its end
  long_refused : reads_input c ≡ true → most_bytes c < length bytes → CameTo call found → IsRefusal found
  long_refused reads long (inl usage) = let none : Some c ≡ None = sym given.asked ∙ usage.cause in absurd cc
  long_refused reads long (inr (inl cell)) = absurd (no_cell call sink c bytes given cell.cycles reads cell.given)
  long_refused reads long (inr (inr (inl u))) = by u.error u.finding u.cause
    where
      by : (e : ReadError) → found ≡ unread_finding e → HasStopped call.source e → IsRefusal found
      by error.Fault same cause = absurd (given.read (counted_up-rose _ _ cause))
      by error.TooLong same cause = inl (ap status_of same)
      by error.OutOfMemory same cause = inr same
  long_refused reads long (inr (inr (inr r))) =
      let most : most_bytes r.command ≡ most_bytes c = ap most_bytes (one_command call sink c bytes given r.command r.given) in
      absurd (omega (arith, r.read.fits, long, most, ap length (own_bytes call sink c bytes given found r)))

  script_refused : reads_input c ≡ true → HoldsRefused c bytes → CameTo call found → IsRefusal found
  script_refused reads h came = elim (input_comes call sink c bytes given found reads h.fits came) [
    | inl (inl served) ↦ absurd (not_both c bytes served.plan h.refusal found call.left
        (plan_accepted (script_in c bytes) served.plan served.script.has) served.comes h.script)
    | inl (inr (inl away)) ↦ refused_away c bytes found call.left away
    | inl (inr (inr graph)) ↦ graph_refused c bytes h.refusal found call.left graph h.script
    | inr lost ↦ inr lost
  ]

found_refused : {P : Type 0} (call : Call P) (sink : SinkUse) (h : IsRefusable call sink) (journal : List Entry)
    (found : Finding) → CameTo (with_journal call journal) found → IsRefusal found
found_refused call sink h journal found came =
    let given = given_with call sink h.served h.bytes h.given journal in
    elim h.cause [
      | inl long ↦ long_refused (with_journal call journal) sink h.served h.bytes given found h.reads long came
      | inr holds ↦ script_refused (with_journal call journal) sink h.served h.bytes given found h.reads holds came
    ]

-- what came to be refused is refused, unless a write failed
refused_answer : {P : Type 0} (call : Call P) (sink : SinkUse) (answer : Status) (a : Answers call sink answer)
    → (Rose sink.faults_before sink.faults_after → ⊥) → IsRefusal a.finding → WasRefused answer
refused_answer call sink answer a quiet refusal = by refusal a.tells
  where
    by : IsRefusal a.finding → Tells a.finding a.journal call.left.journal sink answer → WasRefused answer
    by (inl refused) (inl whole) = inl (whole.answered ∙ refused)
    by (inr lost) (inl whole) = inr (whole.answered ∙ ap status_of lost)
    by one (inr (inl cut)) = absurd (quiet (counted_up-rose _ _ cut.cause))
    by one (inr (inr lost)) = inr lost.answered

answer_refused : {P : Type 0} (call : Call P) (sink : SinkUse) (answer : Status) → Answers call sink answer
    → IsRefusable call sink → WasRefused answer
answer_refused call sink answer a h =
    refused_answer call sink answer a h.given.written (found_refused call sink h a.journal a.finding a.came)

-- ---- `cell`

module _ {P : Type 0} (call : Call P) (cycles : ℕ) (asked : call.asked ≡ Some (command.Cell cycles)) (found : Finding) where
  -- nothing is read
  not_read : (c : Command) → call.asked ≡ Some c → reads_input c ≡ true → ⊥
  not_read c given reads =
      let both : Some c ≡ Some (command.Cell cycles) = sym given ∙ asked in
      let same : c ≡ command.Cell cycles = cc in
      let two : false ≡ true = sym (ap reads_input same) ∙ reads in
      absurd cc

  cell_comes : CameTo call found → (IsWorked cycles found call.left) ⊎ (IsNotWorked found call.left)
  cell_comes (inl usage) = let none : Some (command.Cell cycles) ≡ None = sym asked ∙ usage.cause in absurd cc
  cell_comes (inr (inl cell)) =
      let both : Some (command.Cell cell.cycles) ≡ Some (command.Cell cycles) = sym cell.given ∙ asked in
      let same : cell.cycles ≡ cycles = cc in
      subst (λ n. (IsWorked n found call.left) ⊎ (IsNotWorked found call.left)) same cell.comes
  cell_comes (inr (inr (inl u))) = absurd (not_read u.command u.given u.reads)
  cell_comes (inr (inr (inr r))) = absurd (not_read r.command r.given r.reads)

worked_served : {P : Type 0} (cycles : ℕ) (found : Finding) (left : Left P)
    → (Rose left.plant.lay_faults_before left.plant.lay_faults_after → ⊥) → IsWorked cycles found left → WasServed (status_of found)
worked_served cycles found left laid w = elim w.comes [
  | inl played ↦ ended_served w.plan left.journal (summary_text w.plan left.journal cycles) found played.1
  | inr unopened ↦ begun_served w.plan found left laid unopened
]

-- a cell isn't turned away
not_worked : {P : Type 0} (found : Finding) (left : Left P) → IsNotWorked found left → found ≡ finding.OutOfMemory
not_worked finding.OutOfMemory left h = refl
not_worked finding.Usage left h = elim h [ ]
not_worked finding.SourceFault left h = elim h [ ]
not_worked finding.PlantFault left h = elim h [ ]
not_worked (finding.Refused refusal) left h = elim h [ ]
not_worked (finding.Checked counts) left h = elim h [ ]
not_worked (finding.Played failed text) left h = elim h [ ]
not_worked (finding.Legal entries) left h = elim h [ ]
not_worked (finding.Illegal line) left h = elim h [ ]
not_worked (finding.Printed text) left h = elim h [ ]

found_worked : {P : Type 0} (call : Call P) (sink : SinkUse) (h : IsWorkable call sink) (journal : List Entry) (found : Finding)
    → CameTo (with_journal call journal) found → WasServed (status_of found)
found_worked call sink h journal found came =
    let left = (with_journal call journal).left in
    elim (cell_comes (with_journal call journal) h.cycles h.given.asked found came) [
      | inl worked ↦ worked_served h.cycles found left h.laid worked
      | inr away ↦ lost_served found (not_worked found left away)
    ]

answer_worked : {P : Type 0} (call : Call P) (sink : SinkUse) (answer : Status) → Answers call sink answer
    → IsWorkable call sink → WasServed answer
answer_worked call sink answer a h =
    served_answer call sink answer a h.given.written (found_worked call sink h a.journal a.finding a.came)

-- ---- `graph`

-- where a text can be made of a script, it is made, or memory was wanting
made_away : {P : Type 0} (most : ℕ) (bytes text : List ℕ) (found : Finding) (left : Left P) → IsGraphText most bytes text
    → IsNotServed (command.Graph most) bytes found left → found ≡ finding.OutOfMemory
made_away most bytes text (finding.Refused refusal) left made h = absurd (no_text most bytes text refusal made h.0)
made_away most bytes text finding.OutOfMemory left made h = refl
made_away most bytes text finding.Usage left made h = elim h [ ]
made_away most bytes text finding.SourceFault left made h = elim h [ ]
made_away most bytes text finding.PlantFault left made h = elim h [ ]
made_away most bytes text (finding.Checked counts) left made h = elim h [ ]
made_away most bytes text (finding.Played failed other) left made h = elim h [ ]
made_away most bytes text (finding.Legal entries) left made h = elim h [ ]
made_away most bytes text (finding.Illegal line) left made h = elim h [ ]
made_away most bytes text (finding.Printed other) left made h = elim h [ ]

one_text : (most : ℕ) (bytes text other : List ℕ) → IsGraphText most bytes text → IsGraphText most bytes other → other ≡ text
one_text most bytes text other made more =
    let both : Ok made.script ≡ Ok more.script = sym made.spelled ∙ more.spelled in
    let same : made.script ≡ more.script = cc in
    more.printed ∙ ap (λ (s : Script). text_of (script_of_sets s most)) (sym same) ∙ sym made.printed

-- this text is found, whatever the journal, or want of memory
abbrev IsText : List ℕ → Finding → Type 0
IsText text found =
    ((status_of found ≡ status.Done) × ((journal : List Entry) → finding_text found journal ≡ text)) ⊎ (found ≡ finding.OutOfMemory)

printed_text : {P : Type 0} (most : ℕ) (bytes text : List ℕ) (found : Finding) (left : Left P) → IsGraphText most bytes text
    → Prints (IsAcceptedGraph most bytes) found left → IsText text found
printed_text most bytes text (finding.Printed other) left made h = inl (refl, λ journal. one_text most bytes text other.items made h.0.made)
printed_text most bytes text finding.OutOfMemory left made h = inr refl
printed_text most bytes text finding.Usage left made h = elim h [ ]
printed_text most bytes text finding.SourceFault left made h = elim h [ ]
printed_text most bytes text (finding.Refused refusal) left made h = elim h [ ]
printed_text most bytes text (finding.Checked counts) left made h = elim h [ ]
printed_text most bytes text finding.PlantFault left made h = elim h [ ]
printed_text most bytes text (finding.Played failed other) left made h = elim h [ ]
printed_text most bytes text (finding.Legal entries) left made h = elim h [ ]
printed_text most bytes text (finding.Illegal line) left made h = elim h [ ]

made_text : {P : Type 0} (most : ℕ) (bytes text : List ℕ) (found : Finding) (left : Left P) → IsGraphText most bytes text
    → MakesGraph (command.Graph most) bytes found left → IsText text found
made_text most bytes text found left made graph =
    let asked : command.Graph most ≡ command.Graph graph.most = graph.asked in
    let same : graph.most ≡ most = cc in
    printed_text most bytes text found left made (subst (λ m. Prints (IsAcceptedGraph m bytes) found left) same graph.prints)

found_text : {P : Type 0} (call : Call P) (sink : SinkUse) (text : List ℕ) (h : IsMakeable call sink text)
    (journal : List Entry) (found : Finding) → CameTo (with_journal call journal) found → IsText text found
found_text call sink text h journal found came =
    let left = (with_journal call journal).left in
    elim (input_comes (with_journal call journal) sink (command.Graph h.most) h.bytes
    (given_with call sink (command.Graph h.most) h.bytes h.given journal) found refl h.fits came) [
      | inl (inl served) ↦ absurd served.comes
      | inl (inr (inl away)) ↦ inr (made_away h.most h.bytes text found left h.made away)
      | inl (inr (inr graph)) ↦ made_text h.most h.bytes text found left h.made graph
      | inr lost ↦ inr lost
    ]

answer_text : {P : Type 0} (call : Call P) (sink : SinkUse) (text : List ℕ) (answer : Status) → Answers call sink answer
    → IsMakeable call sink text → WasPrinted text sink answer
answer_text call sink text answer a h = by (found_text call sink text h a.journal a.finding a.came) a.tells
  where
    by : IsText text a.finding → Tells a.finding a.journal call.left.journal sink answer → WasPrinted text sink answer
    by (inl is) (inl whole) = inl (whole.answered ∙ is.0, whole.written ∙ ap (append_known sink.held_before) (is.1 a.journal))
    by (inr lost) (inl whole) = inr (whole.answered ∙ ap status_of lost)
    by one (inr (inl cut)) = absurd (h.given.written (counted_up-rose _ _ cut.cause))
    by one (inr (inr lost)) = inr lost.answered

-- ---- all

pub complete : {P : Type 0} (call : Call P) (sink : SinkUse) (answer : Status) → Answers call sink answer → MissesNothing call sink answer
complete call sink answer a =
    record {
      served = answer_served call sink answer a;
      worked = answer_worked call sink answer a;
      printed = (λ text. answer_text call sink text answer a);
      audited =
          (λ found. answer_audited call sink found answer a);
      refused = answer_refused call sink answer a;
      spared = answer_spared call sink answer a;
    }
