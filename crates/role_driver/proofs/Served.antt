-- Seats whose gate was told of all works and handlers, from the opening of their manager to its end.
use Rattle.std.proofs.Common.{◌≡◌, ℕ, ◌<◌, ◌==◌, true, true≢false, List, [], ◌∷◌, ◌++◌, length, reverse, suc, All, Result, Ok, Err, refl, sym, ◌∙◌, subst, arith}
use Rattle.std.specs.List.{AllByRecursion}
use Rattle.std.proofs.lemmas.List.{append_cancel_left, reverse-append}
use Rattle.caa_base.specs.declared.written.entry.Entry.{Entry}
use Rattle.place_plan.specs.declared.rules.machine.Base.{Base}
use Rattle.place_plan.specs.Plans.PlanValue.{Plan}
use Rattle.place_plan.specs.RulesOfJournals.Journals.{IsLegal}
use Rattle.place_plan.specs.RulesOfJournals.WellFormed.{IsWellFormed, AllWellFormed}
use Rattle.journal_laws.specs.Laws.{Holds}
use Rattle.action_manager.specs.Managers.{table_of, terms_in, handed_in, IsSeatIn}
use Rattle.action_manager.specs.OwnEntries.{Journal}
use Rattle.action_manager.specs.Stepping.{GrowsWithout, Looks}
use Rattle.action_manager.specs.Seats.{has_seat, participant_of, seen_by, Accounts, HaveAll, IsBeside, IsNewSeat}
use Rattle.action_manager.specs.declared.manager.Manager.{Manager}
use Rattle.action_manager.specs.declared.seat.Seat.{Seat}
use Rattle.action_manager.proofs.Beside.{beside_opened}
use Rattle.action_manager.proofs.Gathered.{all_split}
use Rattle.role_driver.specs.Handling.{IsHandedOf, TellsOwnHandlers}
use Rattle.role_driver.specs.SeatsDriven.{IsServed}
use Rattle.role_driver.specs.Working.{EachAfter, GoesOnWith, IsToldOf, TellsOwnWork}
use Rattle.role_driver.specs.inner.Crew.{IsBack, IsMember}
use Rattle.role_driver.proofs.Complete.{one_of}
use Rattle.role_driver.proofs.Handed.{others_handed}
use Rattle.role_driver.proofs.Told.{goes_further, goes_nowhere, others_go_on, others_go_on_so}

-- ---- lists

-- what holds of each of a list holds of each of the rest
second_each : (P : Entry → Type 0) (xs ys : List Entry) → AllByRecursion P (xs ++ ys) → AllByRecursion P ys
second_each P [] ys h = h
second_each P (x ∷ xs) ys h = second_each P xs ys h.1

-- what holds of each of a past holds of each of the journal
each_of_journal : (P : Entry → Type 0) (journal : List Entry) → All P (reverse journal) → AllByRecursion P journal
each_of_journal P [] h = tt
each_of_journal P (e ∷ journal) h =
    let parts = all_split P (reverse journal) e (subst (All P) (reverse-append (e ∷ []) journal) h) in
    (parts.1, each_of_journal P journal parts.0)

-- what holds of the entries of each participant holds of all entries
each_maker : (P : List Entry → Entry → Type 0) (n : ℕ) (old more : List Entry) → AllByRecursion (λ (e : Entry). e.by < n) more
    → ((t : ℕ) → t < n → EachAfter (λ before e. e.by ≡ t → P before e) old more) → EachAfter P old more
each_maker P n old [] low each = tt
each_maker P n old (e ∷ more) low each =
    ((each e.by low.0).0 refl, each_maker P n (old ++ e ∷ []) more low.1 (λ t below. (each t below).1))

weaker_each : (P Q : Entry → Type 0) (xs : List Entry) → ((e : Entry) → P e → Q e) → AllByRecursion P xs → AllByRecursion Q xs
weaker_each P Q [] f h = tt
weaker_each P Q (e ∷ xs) f h = (f e h.0, weaker_each P Q xs f h.1)

-- each maker of a legal journal is a participant
makers_known : (plan : Plan) → Holds AllWellFormed plan → (old more new : List Entry) → old ++ more ≡ new → IsLegal plan new
    → AllByRecursion (λ (e : Entry). e.by < length plan.participants) more
makers_known plan law old more new is legal =
    let all = each_of_journal (IsWellFormed plan) new (law (reverse new) legal) in
    second_each (λ (e : Entry). e.by < length plan.participants) old more
    (subst (AllByRecursion (λ (e : Entry). e.by < length plan.participants)) (sym is)
    (weaker_each (IsWellFormed plan) (λ (e : Entry). e.by < length plan.participants) new (λ e w. w.by) all))

-- ---- seats

module _ {M G : Type 0} (base_of : M → Base) (journal_of : M → List Entry) (was_told : G → ℕ → ℕ → ℕ → Type 0)
    (was_handed : G → ℕ → ℕ → ℕ → Type 0) (manager : Manager M) (gate : G) where
  -- the seat of a member that was handed back
  pub handed_back_served : {H : Type 0} (went : H → Seat M × G) (r : Result H (Seat M)) (seat : Seat M) → r ≡ Err seat
      → IsMember base_of journal_of was_told was_handed manager gate went r
      → IsServed base_of journal_of was_told was_handed manager gate seat
  handed_back_served went r seat is member = subst (IsMember base_of journal_of was_told was_handed manager gate went) is member

  -- the seat that went with the thread of a member, and the gate that went with it
  pub went_served : {H : Type 0} (went : H → Seat M × G) (r : Result H (Seat M)) (thread : H) → r ≡ Ok thread
      → IsMember base_of journal_of was_told was_handed manager gate went r
      → IsServed base_of journal_of was_told was_handed manager gate (went thread).0 × ((went thread).1 ≡ gate)
  went_served went r thread is member = subst (IsMember base_of journal_of was_told was_handed manager gate went) is member

  -- a seat that is new
  pub new_served : (seat : Seat M) → IsNewSeat (table_of manager) (terms_in base_of manager) (journal_of (handed_in manager)) seat
      → IsServed base_of journal_of was_told was_handed manager gate seat
  new_served seat new = record {
    opened = new.opened;
    told = goes_nowhere (IsToldOf (was_told gate) (participant_of seat)) (journal_of (handed_in manager)) (seen_by seat) new.seen;
    handed = goes_nowhere (IsHandedOf (was_handed gate) (participant_of seat)) (journal_of (handed_in manager)) (seen_by seat) new.seen;
  }

  -- a seat that went on, and told the gate of what it did
  pub served_on : (before after : Seat M) → IsServed base_of journal_of was_told was_handed manager gate before
      → IsSeatIn base_of manager after → participant_of after ≡ participant_of before
      → TellsOwnWork (was_told gate) (participant_of before) (seen_by before) (seen_by after)
      → TellsOwnHandlers (was_handed gate) (participant_of before) (seen_by before) (seen_by after)
      → IsServed base_of journal_of was_told was_handed manager gate after
  served_on before after served opened same works handlers =
      let begun = journal_of (handed_in manager) in
      let t = participant_of before in
      record {
        opened = opened;
        told =
            subst (λ x. TellsOwnWork (was_told gate) x begun (seen_by after)) (sym same)
            (goes_further (IsToldOf (was_told gate) t) begun (seen_by before) (seen_by after) served.told works);
        handed =
            subst (λ x. TellsOwnHandlers (was_handed gate) x begun (seen_by after)) (sym same)
            (goes_further (IsHandedOf (was_handed gate) t) begun (seen_by before) (seen_by after) served.handed handlers);
      }

  -- a seat that saw what others did
  pub served_looking : (plan : Plan) (before after : Seat M) → IsServed base_of journal_of was_told was_handed manager gate before
      → IsSeatIn base_of manager after → participant_of after ≡ participant_of before
      → Looks plan (seen_by before) (seen_by after) (participant_of before)
      → IsServed base_of journal_of was_told was_handed manager gate after
  served_looking plan before after served opened same looks =
      let t = participant_of before in
      served_on before after served opened same (others_go_on (was_told gate) (seen_by before) (seen_by after) t looks.grown)
      (others_handed (was_handed gate) t (seen_by before) (seen_by after) looks.grown)

  -- a seat that comes back from whoever drove it, or touched nothing
  pub brought_back : (was_seen : Type 0) (before after : Seat M) → IsServed base_of journal_of was_told was_handed manager gate before
      → IsBeside before after × (participant_of after ≡ participant_of before) × IsBack was_seen before after
      × TellsOwnWork (was_told gate) (participant_of before) (seen_by before) (seen_by after)
      × TellsOwnHandlers (was_handed gate) (participant_of before) (seen_by before) (seen_by after)
      → IsServed base_of journal_of was_told was_handed manager gate after × (participant_of after ≡ participant_of before)
  brought_back was_seen before after served back = (
    served_on before after served (beside_opened (table_of manager) (terms_in base_of manager) before after served.opened back.0) back.1
        back.3 back.4,
    back.1,
  )

-- ---- the whole journal

module _ {M : Type 0} (P : List Entry → Entry → Type 0) (begun new more : Journal) (is : begun ++ more ≡ new) where
  -- what is known of the entries of its participant that a seat has seen
  abbrev pub KnowsOwn : Seat M → Type 0
  KnowsOwn seat = GoesOnWith (λ before e. e.by ≡ participant_of seat → P before e) begun (seen_by seat)

  -- that holds up to the end of the journal
  own_each : (seat : Seat M) → KnowsOwn seat → Accounts new seat
      → EachAfter (λ before e. e.by ≡ participant_of seat → P before e) begun more
  own_each seat knows account =
      let t = participant_of seat in
      let alone : GrowsWithout (seen_by seat) new t = record { begins = account.begins; alone = account.alone } in
      let whole = goes_further (λ before e. e.by ≡ t → P before e) begun (seen_by seat) new knows
      (others_go_on_so P (seen_by seat) new t alone) in
      subst (EachAfter (λ before e. e.by ≡ t → P before e) begun)
      (append_cancel_left begun whole.more more (whole.goes_on ∙ sym is)) whole.each

  own_known : (t : ℕ) (seats : List (Seat M)) → All KnowsOwn seats → All (Accounts new) seats → has_seat t seats ≡ true
      → EachAfter (λ before e. e.by ≡ t → P before e) begun more
  own_known t [] knows accounts there = absurd (true≢false (sym there))
  own_known t (s ∷ seats) knows accounts there =
      one_of (s.participant == t) (has_seat t seats) (s.participant) t (EachAfter (λ before e. e.by ≡ t → P before e) begun more)
      refl there
      (λ same. subst (λ x. EachAfter (λ before e. e.by ≡ x → P before e) begun more) same
      (own_each s (knows 0 s (omega arith)) (accounts 0 s (omega arith))))
      (λ later. own_known t seats (λ k d low. knows (suc k) d (omega (arith, low)))
      (λ k d low. accounts (suc k) d (omega (arith, low))) later)

  -- where each participant's seat is there, it is known of all entries
  pub all_known : (plan : Plan) → Holds AllWellFormed plan → (seats : List (Seat M)) → IsLegal plan new → All KnowsOwn seats
      → All (Accounts new) seats → HaveAll (length plan.participants) seats → EachAfter P begun more
  all_known plan law seats legal knows accounts all =
      each_maker P (length plan.participants) begun more (makers_known plan law begun more new is legal)
      (λ t low. own_known t seats knows accounts (all t low))
