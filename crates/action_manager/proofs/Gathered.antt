-- Lists of seats.
use Rattle.std.proofs.Common.{◌≡◌, ℕ, zero, suc, ◌+◌, List, [], ◌∷◌, ◌++◌, map, reverse, All, true, false, Option, refl, sym, ap, ◌∙◌, subst, arith, append_assoc, ◌⊎◌, inl, inr, ⊎_elim, ◌==◌, Bool, ◌||◌, true≢false}
use Rattle.std.proofs.lemmas.List.{map-append, reverse-append}
use Rattle.atomic_table.specs.Table.{Me}
use Rattle.action_manager.specs.declared.lock_view.Terms.{Terms}
use Rattle.action_manager.specs.declared.housed.Housed.{Housed}
use Rattle.action_manager.specs.declared.lock_view.View.{View}
use Rattle.action_manager.specs.declared.seat.Seat.{Seat}
use Rattle.action_manager.specs.inner.Turns.{held, both_of, Has, Stands}
use Rattle.action_manager.specs.OwnEntries.{Journal, entries_by}
use Rattle.std.proofs.lemmas.Bool.Decides.{nat_tests}
use Rattle.action_manager.specs.Stepping.{IsAtRest}
use Rattle.action_manager.specs.Seats.{stand, seen_by, has_seat, Accounts}
use Rattle.action_manager.proofs.LockSteps.{held_both}
use Rattle.std.proofs.lemmas.List.Elements.{All-append}
use Rattle.std.specs.List.{range_with_len}
use Rattle.caa_base.proofs.ListLemmas.{range_more}

pub all_one : {X : Type 0} (P : X → Type 0) (x : X) → P x → All P (x ∷ [])
all_one P x p zero d low = p
all_one P x p (suc k) d low = absurd (omega (arith, low))

-- what holds of each element holds after one more
pub all_more : {X : Type 0} (P : X → Type 0) (xs : List X) (x : X) (ys : List X) → ys ≡ xs ++ x ∷ [] → All P xs → P x → All P ys
all_more P xs x ys is all p = subst (All P) (sym is) (All-append P xs (x ∷ []) all (all_one P x p))

-- the numbers of the elements go on by one
pub order_more : {X : Type 0} (f : X → ℕ) (xs : List X) (x : X) (ys : List X) (n : ℕ) → ys ≡ xs ++ x ∷ []
    → map f xs ≡ range_with_len 0 n → f x ≡ n → map f ys ≡ range_with_len 0 (n + 1)
order_more f xs x ys n is order next =
    let zero_more : n ≡ 0 + n = omega arith in
    let last : f x ≡ 0 + n = next ∙ zero_more in
    ap (map f) is ∙ (map-append f xs (x ∷ []) ∙ ((λ i. order i ++ last i ∷ []) ∙ sym (range_more 0 n)))

pub all_cons : {X : Type 0} (P : X → Type 0) (x : X) (xs : List X) → P x → All P xs → All P (x ∷ xs)
all_cons P x xs p all zero d low = p
all_cons P x xs p all (suc k) d low = all k d (omega (arith, low))

-- what holds of each element holds of those before the last, and of the last
pub all_split : {X : Type 0} (P : X → Type 0) (xs : List X) (x : X) → All P (xs ++ x ∷ []) → All P xs × P x
all_split P [] x all = ((λ k d low. absurd (omega (arith, low))), all 0 x (omega arith))
all_split P (y ∷ ys) x all =
    let rest = all_split P ys x (λ k d low. all (suc k) d (omega (arith, low))) in
    (all_cons P y ys (all 0 y (omega arith)) rest.0, rest.1)

-- the stands of seats, of which the last is popped
pub stands_popped : {M : Type 0} (old new : List (Seat M)) (s : Seat M) → old ≡ new ++ s ∷ []
    → reverse (map stand old) ≡ stand s ∷ reverse (map stand new)
stands_popped old new s is =
    ap (λ l. reverse (map stand l)) is
    ∙ (ap reverse (map-append stand new (s ∷ [])) ∙ reverse-append (map stand new) (stand s ∷ []))

-- whom a seat at rest stands for
pub held_at_rest : {M : Type 0} (terms : Terms) (m : Me (Option (Housed M)) View) → IsAtRest terms m → held m.0 ≡ (m.0.who, m.0.seen) ∷ []
held_at_rest terms m rests = ap (λ x. held x.0) rests

-- one seat more was taken in
pub held_more : {M : Type 0} (terms : Terms) (v : View) (s : Seat M) (old new : List (Seat M)) → v.seated ≡ true
    → IsAtRest terms s.token.me → old ≡ new ++ s ∷ []
    → held (both_of v s.token.me.0) ++ reverse (map stand new) ≡ held v ++ reverse (map stand old)
held_more terms v s old new seated rests is =
    let w = s.token.me.0 in
    let both : held (both_of v w) ≡ held v ++ stand s ∷ [] =
    held_both v w seated (ap (λ x. x.0.seated) rests)
    ∙ ap (λ l. held v ++ l) (held_at_rest terms s.token.me rests) in
    ap (λ l. l ++ reverse (map stand new)) both
    ∙ (append_assoc (held v) (stand s ∷ []) (reverse (map stand new))
    ∙ ap (λ l. held v ++ l) (sym (stands_popped old new s is)))

has_left : (t : ℕ) (xs ys : List (ℕ × Journal)) → Has t xs → Has t (xs ++ ys)
has_left t [] ys h = elim h [ ]
has_left t (x ∷ xs) ys (inl e) = inl e
has_left t (x ∷ xs) ys (inr h) = inr (has_left t xs ys h)

has_right : (t : ℕ) (xs ys : List (ℕ × Journal)) → Has t ys → Has t (xs ++ ys)
has_right t [] ys h = h
has_right t (x ∷ xs) ys h = inr (has_right t xs ys h)

reverse_more : (x : ℕ × Journal) (xs : List (ℕ × Journal)) → reverse (x ∷ xs) ≡ reverse xs ++ x ∷ []
reverse_more x xs = reverse-append (x ∷ []) xs

has_reverse : (t : ℕ) (xs : List (ℕ × Journal)) → Has t xs → Has t (reverse xs)
has_reverse t [] h = elim h [ ]
has_reverse t (x ∷ xs) (inl e) = subst (Has t) (sym (reverse_more x xs)) (has_right t (reverse xs) (x ∷ []) (inl e))
has_reverse t (x ∷ xs) (inr h) = subst (Has t) (sym (reverse_more x xs)) (has_left t (reverse xs) (x ∷ []) (has_reverse t xs h))

stands_split : (book : Journal) (xs ys : List (ℕ × Journal)) → Stands book (xs ++ ys) → Stands book xs × Stands book ys
stands_split book [] ys h = (tt, h)
stands_split book (x ∷ xs) ys h = let r = stands_split book xs ys h.1 in ((h.0, r.0), r.1)

unreverse : (book : Journal) (xs : List (ℕ × Journal)) → Stands book (reverse xs) → Stands book xs
unreverse book [] h = tt
unreverse book (x ∷ xs) h = let r =
    stands_split book (reverse xs) (x ∷ []) (subst (Stands book) (reverse_more x xs) h) in
    (r.1.0, unreverse book xs r.0)

is_or_has : (b : Bool) (rest : Bool) (t n : ℕ) (X : Type 0) → (n == t) ≡ b → (rest ≡ true → X) → (b || rest) ≡ true → (n ≡ t) ⊎ X
is_or_has true rest t n X is later there = inl (grind (arith, nat_tests, is))
is_or_has false rest t n X is later there = inr (later there)

-- whose seat is in the list is among the stands
has_stand : {M : Type 0} (t : ℕ) (seats : List (Seat M)) → has_seat t seats ≡ true → Has t (map stand seats)
has_stand t [] there = absurd (true≢false (sym there))
has_stand t (s ∷ seats) there = ⊎_elim (λ (e : s.participant ≡ t). inl (sym s.who ∙ e)) (λ (h : Has t (map stand seats)). inr h)
    (is_or_has (s.participant == t) (has_seat t seats) t s.participant (Has t (map stand seats)) refl (has_stand t seats) there)

-- the seat that took in all others stands for each whose seat is in the list
pub gathered_has : {M : Type 0} (t : ℕ) (seats rest : List (Seat M)) (last : Seat M) (list : List (ℕ × Journal))
    → seats ≡ rest ++ last ∷ [] → list ≡ stand last ∷ reverse (map stand rest)
    → has_seat t seats ≡ true → Has t list
gathered_has t seats rest last list is taken there =
    subst (Has t) (stands_popped seats rest last is ∙ sym taken)
    (has_reverse t (map stand seats) (has_stand t seats there))

all_account : {M : Type 0} (book : Journal) (seats : List (Seat M)) → Stands book (map stand seats) → All (Accounts book) seats
all_account book [] h = λ k d low. absurd (omega (arith, low))
all_account book (s ∷ seats) h = all_cons (Accounts book) s seats
    record { begins = h.0.0; alone = subst (λ t. entries_by t book ≡ entries_by t (seen_by s)) (sym s.who) h.0.1 }
    (all_account book seats h.1)

-- what the seat that took in all others stands for is the account of each of them
pub gathered_account : {M : Type 0} (book : Journal) (seats rest : List (Seat M)) (last : Seat M)
    (list : List (ℕ × Journal)) → seats ≡ rest ++ last ∷ []
    → list ≡ stand last ∷ reverse (map stand rest) → Stands book list → All (Accounts book) seats
gathered_account book seats rest last list is taken h =
    all_account book seats (unreverse book (map stand seats)
    (subst (Stands book) (taken ∙ sym (stands_popped seats rest last is)) h))
