-- Where each seat is over, the journal is complete.
use Rattle.std.proofs.Common.{◌≡◌, ℕ, zero, suc, ◌+◌, ◌<◌, ◌≤◌, ◌==◌, ◌||◌, Bool, true, false, true≢false, List, [], ◌∷◌, ◌++◌, length, map, reverse, All, Option, Some, None, refl, sym, ap, ◌∙◌, subst, inl, inr, arith, append_assoc, Result, Ok, Err, IfOk, IfErr}
use Rattle.std.specs.List.{list_any, range_with_len}
use Rattle.std.proofs.lemmas.Bool.{or_right, cases_lt}
use Rattle.std.proofs.lemmas.Bool.Decides.{nat_tests}
use Rattle.std.proofs.lemmas.List.{reverse-append, map-append, length-map}
use Rattle.std.proofs.lemmas.List.Folds.{list_any-append}
use Rattle.std.proofs.lemmas.List.FromFn.{length-range_with_len}
use mathlib.Core.List.{IsPrefix}
use Rattle.action_manager.specs.declared.manager.Manager.{Manager}
use Rattle.action_manager.specs.Managers.{plan_in}
use Rattle.caa_base.specs.declared.written.entry.Entry.{Entry}
use Rattle.caa_base.specs.declared.written.entry.Kind.TheVariants as kind
use Rattle.place_plan.specs.declared.rules.machine.Base.{Base}
use Rattle.place_plan.specs.Plans.PlanValue.{Plan}
use Rattle.caa_base.specs.Written.Lists.{last_of}
use Rattle.place_plan.specs.Plans.Places.{plays_of}
use Rattle.place_plan.specs.RulesOfJournals.Entries.{is_by}
use Rattle.place_plan.specs.RulesOfJournals.Roles.{is_over, is_over_after}
use Rattle.place_plan.specs.RulesOfJournals.Journals.{IsComplete}
use Rattle.action_manager.specs.declared.seat.Seat.{Seat}
use Rattle.action_manager.specs.Seats.{has_seat, HaveAll, Accounts, participant_of, seen_by}
use Rattle.role_driver.specs.SeatsDriven.{IsDone, IsServed}
use Rattle.role_driver.specs.inner.Crew.{IsMember, who_of}

-- what was said once stays said
any_longer : (p : Entry → Bool) (old more : List Entry) → list_any p (reverse old) ≡ true → list_any p (reverse (old ++ more)) ≡ true
any_longer p old more there = ap (list_any p) (reverse-append old more)
    ∙ (list_any-append p (reverse more) (reverse old) ∙ or_right (list_any p (reverse more)) (list_any p (reverse old)) there)

over_longer_by : (old more : List Entry) (t : ℕ) (o : Option ℕ) → is_over_after (reverse old) t o ≡ true
    → is_over_after (reverse (old ++ more)) t o ≡ true
over_longer_by old more t None there = refl
over_longer_by old more t (Some p) there = any_longer (is_by kind.Leave p t) old more there

-- who is over stays over
pub over_longer : (plan : Plan) (old new : List Entry) (t : ℕ) → IsPrefix old new → is_over plan (reverse old) t ≡ true
    → is_over plan (reverse new) t ≡ true
over_longer plan old new t begins there =
    subst (λ j. is_over plan (reverse j) t ≡ true) begins.1 (over_longer_by old begins.0 t (last_of (plays_of plan t)) there)

abbrev head_or : ℕ → List ℕ → ℕ
head_or d [] = d
head_or d (x ∷ xs) = x

abbrev rest_of : List ℕ → List ℕ
rest_of [] = []
rest_of (x ∷ xs) = xs

-- numbers that go on by one reach each number between
pub reaches : {X : Type 0} (f : X → ℕ) (xs : List X) (a n t : ℕ) → map f xs ≡ range_with_len a n → a ≤ t → t < a + n
    → list_any (λ x. f x == t) xs ≡ true
reaches f [] a n t order low high = let none = ap length order ∙ length-range_with_len a n in absurd (omega (arith, none, low, high))
reaches f (x ∷ xs) a zero t order low high = absurd (omega (arith, low, high))
reaches f (x ∷ xs) a (suc n) t order low high =
    let first : f x ≡ a = ap (head_or 0) order in
    let rest : map f xs ≡ range_with_len (a + 1) n = ap rest_of order in
    elim (cases_lt a t) [
      | inl below ↦ or_right (f x == t) (list_any (λ x. f x == t) xs)
          (reaches f xs (a + 1) n t rest (omega (arith, below)) (omega (arith, high)))
      | inr above ↦
          let same : f x ≡ t = omega (arith, first, low, above) in
          let is : (f x == t) ≡ true = grind (arith, nat_tests, same) in
          ap (λ b. b || list_any (λ x. f x == t) xs) is
    ]

pub order_has_all : {M : Type 0} (n : ℕ) (seats : List (Seat M)) → map participant_of seats ≡ range_with_len 0 n → HaveAll n seats
order_has_all n seats order = λ t low. reaches participant_of seats 0 n t order (omega arith) (omega (arith, low))

pub one_of : (b rest : Bool) (n t : ℕ) (X : Type 0) → (n == t) ≡ b → (b || rest) ≡ true → (n ≡ t → X) → (rest ≡ true → X) → X
one_of true rest n t X is there first later = first (grind (arith, nat_tests, is))
one_of false rest n t X is there first later = later there

-- where a seat of t is over and its account is right, t is over in the whole journal
over_in : {M : Type 0} (base_of : M → Base) (manager : Manager M) (journal : List Entry) (t : ℕ) (seats : List (Seat M))
    → All (IsDone base_of manager) seats → All (Accounts journal) seats
    → has_seat t seats ≡ true → is_over (plan_in manager) (reverse journal) t ≡ true
over_in base_of manager journal t [] done accounts there = absurd (true≢false (sym there))
over_in base_of manager journal t (s ∷ seats) done accounts there =
    let plan = plan_in manager in
    let mine : IsDone base_of manager s = done 0 s (omega arith) in
    let account : Accounts journal s = accounts 0 s (omega arith) in
    one_of (s.participant == t) (has_seat t seats) (s.participant) t (is_over plan (reverse journal) t ≡ true) refl there
    (λ same. over_longer plan (seen_by s) journal t account.begins
    (subst (λ x. is_over plan (reverse (seen_by s)) x ≡ true) same mine.over))
    (λ later. over_in base_of manager journal t seats (λ k d low. done (suc k) d (omega (arith, low)))
    (λ k d low. accounts (suc k) d (omega (arith, low))) later)

pub all_over : {M : Type 0} (base_of : M → Base) (manager : Manager M) (journal : List Entry) (seats : List (Seat M))
    → All (IsDone base_of manager) seats → All (Accounts journal) seats
    → HaveAll (length (plan_in manager).participants) seats → IsComplete (plan_in manager) journal
all_over base_of manager journal seats done accounts all = λ t low. over_in base_of manager journal t seats done accounts (all t low)

-- an element was taken off the front of one list, and stands changed at the end of the other
pub moved_on : {X Y Z : Type 0} (f : X → Z) (g : Y → Z) (xs ys : List X) (zs zs' : List Y) (s : X) (r : Y) → zs' ≡ zs ++ r ∷ []
    → xs ≡ s ∷ ys → g r ≡ f s → map g zs' ++ map f ys ≡ map g zs ++ map f xs
moved_on f g xs ys zs zs' s r longer shorter same =
    let first : map g zs' ≡ map g zs ++ f s ∷ [] = ap (map g) longer ∙ (map-append g zs (r ∷ []) ∙ ap (λ n. map g zs ++ n ∷ []) same) in
    ap (λ l. l ++ map f ys) first ∙ (append_assoc (map g zs) (f s ∷ []) (map f ys) ∙ ap (λ l. map g zs ++ l) (sym (ap (map f) shorter)))

-- what holds of each element of a list holds of its first, and of the others
pub all_first : {X : Type 0} (P : X → Type 0) (s : X) (xs ys : List X) → ys ≡ s ∷ xs → All P ys → P s × All P xs
all_first P s xs ys is all = let here = subst (All P) is all in (here 0 s (omega arith), λ k d low. here (suc k) d (omega (arith, low)))

-- whose seat a started member has
pub who_is : {M H : Type 0} (seat_of : H → Seat M) (t : ℕ) (P : H → Type 0) (Q : Seat M → Type 0) (r : Result H (Seat M))
    → IfOk r (λ h. P h × (participant_of (seat_of h) ≡ t)) → IfErr r (λ s. Q s × (participant_of s ≡ t)) → who_of seat_of r ≡ t
who_is seat_of t P Q (Ok h) ok err = ok.1
who_is seat_of t P Q (Err s) ok err = err.1

pub member_is : {M G H : Type 0} (base_of : M → Base) (journal_of : M → List Entry) (was_told : G → ℕ → ℕ → ℕ → Type 0)
    (was_handed : G → ℕ → ℕ → ℕ → Type 0) (manager : Manager M) (gate : G) (went : H → Seat M × G) (t : ℕ) (r : Result H (Seat M))
    → IfOk r (λ h. (IsServed base_of journal_of was_told was_handed manager gate (went h).0 × ((went h).1 ≡ gate))
    × (participant_of (went h).0 ≡ t))
    → IfErr r (λ s. IsServed base_of journal_of was_told was_handed manager gate s × (participant_of s ≡ t))
    → IsMember base_of journal_of was_told was_handed manager gate went r
member_is base_of journal_of was_told was_handed manager gate went t (Ok h) ok err = ok.0
member_is base_of journal_of was_told was_handed manager gate went t (Err s) ok err = err.0

pub order_counts : {X : Type 0} (f : X → ℕ) (xs : List X) (n : ℕ) → map f xs ≡ range_with_len 0 n → length xs ≡ n
order_counts f xs n order = sym (length-map xs f) ∙ (ap length order ∙ length-range_with_len 0 n)
