-- Each step on the list of publications keeps its rule, and only the pen of its last entry adds to it.
use Rattle.std.proofs.Common.{◌≡◌, ◌≢◌, ℕ, zero, suc, ◌+◌, ◌<◌, ◌==◌, Bool, true, false, List, [], ◌∷◌, ◌++◌, length, map, refl, ap, sym, ◌∙◌, subst, arith, inl, append-nil, Option, Some, None, set, length-set, get_or-set_other}
use Rattle.std.proofs.lemmas.Bool.{false≢true, true≢false}
use Rattle.std.proofs.lemmas.Bool.Decides.{nat_tests}
use Rattle.std.proofs.lemmas.List.{map-append}
use mathlib.Core.List.{IsPrefix}
use prog.Atomic.{either}
use Rattle.logbook.specs.Pages.{Cell, cell, Nib, keeps, gives, adds, no_nib, may_write, step, View, Moves, Goes}
use Rattle.shared_views.specs.declared.publications.Entered.{Entered}
use Rattle.shared_views.specs.inner.Chronicles.{listed, heir, heir_after, IsHome, Came, IsKept, Opens, Readies, Enters, Counts}
use Rattle.shared_views.proofs.Beginnings.{begins_further, whole_beginning, beginning_length}

-- ---- what came home stays there

came_still : (cs ds : List Cell) → ((k : ℕ) → (cell cs k).1 ≡ true → (cell ds k).1 ≡ true) → (h : Option ℕ) (log : List Entered)
    → Came cs h log → Came ds h log
came_still cs ds still h [] came = tt
came_still cs ds still None (e ∷ es) came = (tt, came_still cs ds still (Some e.next) es came.1)
came_still cs ds still (Some k) (e ∷ es) came = (still k came.0, came_still cs ds still (Some e.next) es came.1)

home_set : (cs : List Cell) (j n k : ℕ) → (cell cs k).1 ≡ true → (cell (set cs j (n, true)) k).1 ≡ true
home_set [] j n k home = home
home_set (c ∷ cs) zero n zero home = refl
home_set (c ∷ cs) zero n (suc k) home = home
home_set (c ∷ cs) (suc j) n zero home = home
home_set (c ∷ cs) (suc j) n (suc k) home = home_set cs j n k home

home_added : (cs : List Cell) (c : Cell) (k : ℕ) → (cell cs k).1 ≡ true → (cell (cs ++ c ∷ []) k).1 ≡ true
home_added [] c k home = absurd (false≢true home)
home_added (x ∷ xs) c zero home = home
home_added (x ∷ xs) c (suc k) home = home_added xs c k home

-- a cell that wasn't at home, once it was brought there
now_home : (cs : List Cell) (k n : ℕ) → k < length cs → (cell (set cs k (n, true)) k).1 ≡ true
now_home [] k n low = absurd (omega arith)
now_home (c ∷ cs) zero n low = refl
now_home (c ∷ cs) (suc k) n low = now_home cs k n (omega arith)

-- ---- only the pen of the last entry adds to the list

came_further : (cs : List Cell) (h : Option ℕ) (log : List Entered) (e : Entered) → Came cs h log → IsHome cs (heir_after h log)
    → Came cs h (log ++ e ∷ [])
came_further cs h [] e came home = (home, tt)
came_further cs h (x ∷ xs) e came home = (came.0, came_further cs (Some x.next) xs e came.1 home)

pub heir_further : (h : Option ℕ) (log : List Entered) (e : Entered) → heir_after h (log ++ e ∷ []) ≡ Some e.next
heir_further h [] e = refl
heir_further h (x ∷ xs) e = heir_further (Some x.next) xs e

-- while the pen that adds what follows these entries isn't at home, nothing follows them
nothing_more : (cs : List Cell) (k : ℕ) (h : Option ℕ) (log more : List Entered) → (cell cs k).1 ≡ false → heir_after h log ≡ Some k
    → Came cs h (log ++ more) → more ≡ []
nothing_more cs k h (x ∷ xs) more away is came = nothing_more cs k (Some x.next) xs more away is came.1
nothing_more cs k h [] [] away is came = refl
nothing_more cs k None [] (e ∷ es) away is came = absurd (cc is)
nothing_more cs k (Some j) [] (e ∷ es) away is came =
    let same : j ≡ k = cc is in absurd (true≢false (sym came.0 ∙ (ap (λ i. (cell cs i).1) same ∙ away)))

-- so these entries are all
all_there : (cs : List Cell) (k : ℕ) (seen log : List Entered) → (cell cs k).1 ≡ false → heir seen ≡ Some k → Came cs None log
    → IsPrefix seen log → log ≡ seen
all_there cs k seen log away is came begins =
    let none : begins.0 ≡ [] =
    nothing_more cs k None seen begins.0 away is (subst (Came cs None) (sym begins.1) came) in
    sym begins.1 ∙ (ap (λ m. seen ++ m) none ∙ append-nil seen)

-- ---- the four steps

same_number : (n a : ℕ) → either (n == a) a n ≡ n
same_number n a = by_test (n == a) refl
  where
    by_test : (b : Bool) → (n == a) ≡ b → either b a n ≡ n
    by_test true is = sym (grind (arith, nat_tests))
    by_test false is = refl

-- the first word may be written, as long as it says that the list is open where it is
kept_written : (cs : List Cell) (log : List Entered) (n : ℕ) → IsKept cs log → (n ≡ 0 → log ≡ []) → IsKept (set cs 0 (n, true)) log
kept_written [] log n kept opened = absurd (omega (arith, kept.some))
kept_written (c ∷ cs) log n kept opened = record {
  some = kept.some;
  head = refl;
  unopened = opened;
  came = came_still (c ∷ cs) ((n, true) ∷ cs) (home_set (c ∷ cs) 0 n) None log kept.came;
}

-- where it stays as it was, so does the rule
kept_same : (cs : List Cell) (log : List Entered) (a : ℕ) → IsKept cs log
    → IsKept (set cs 0 (either ((cell cs 0).0 == a) a (cell cs 0).0, true)) (log ++ [])
kept_same cs log a kept =
    subst (IsKept (set cs 0 (either ((cell cs 0).0 == a) a (cell cs 0).0, true))) (sym (append-nil log))
    (kept_written cs log _ kept (λ is. kept.unopened (sym (same_number (cell cs 0).0 a) ∙ is)))

-- a new cell may come
kept_added : (cs : List Cell) (log : List Entered) → IsKept cs log → IsKept (cs ++ (0, false) ∷ []) log
kept_added [] log kept = absurd (omega (arith, kept.some))
kept_added (c ∷ cs) log kept = record {
  some = omega arith;
  head = kept.head;
  unopened = kept.unopened;
  came = came_still (c ∷ cs) (c ∷ cs ++ (0, false) ∷ []) (home_added (c ∷ cs) (0, false)) None log kept.came;
}

-- what a step of the list has to show, by its pen, what it writes and what it tells
abbrev MayStep : List Entered → Nib → (ℕ → ℕ) → (ℕ → View Entered ℕ → Type 0) → Type 0
MayStep seen pen f told = Moves IsKept (λ l. []) (λ xs ys (n : ℕ). Unit {0}) 0 (seen, (pen, None)) f told

abbrev MayGo : List Entered → Nib → (ℕ → ℕ) → (ℕ → View Entered ℕ → Type 0) → List Cell → List Entered → Type 0
MayGo seen pen f told cs log = Goes IsKept (λ l. []) (λ xs ys (n : ℕ). Unit {0}) 0 (seen, (pen, None)) f told cs log

-- the list is opened, unless it is open
opens_if : (seen : List Entered) (ask : Entered) (cs : List Cell) (log : List Entered) → IsKept cs log → (b : Bool)
    → ((cell cs 0).0 == 0) ≡ b
    → MayGo seen no_nib (λ n. either (n == 0) 1 n) (Opens (step 0 0 1 ask) (seen, (no_nib, None))) cs log
opens_if seen ask cs log kept true is =
    let none : log ≡ [] = kept.unopened (grind (arith, nat_tests)) in
    let first : Entered = record { changes = []; next = length cs } in
    let opened : IsKept (set cs 0 (1, true)) log = kept_written cs log 1 kept (λ nought. absurd (omega (arith, nought))) in
    let added = kept_added (set cs 0 (1, true)) log opened in
    let now : IsKept (set cs 0 (1, true) ++ (0, false) ∷ []) (log ++ first ∷ []) = record {
      some = added.some;
      head = added.head;
      unopened = λ nought. absurd (opened_stays cs nought kept.some);
      came = subst (λ l. Came (set cs 0 (1, true) ++ (0, false) ∷ []) None (l ++ first ∷ [])) (sym none) (tt, tt);
    } in (
      adds,
      first ∷ [],
      None,
      tt,
      rw is now,
      inl (refl, refl),
      rw is (ap (λ l. length (l ++ first ∷ [])) none, refl, heir_further None log first),
    )
  where
    opened_stays : (cs : List Cell) → (cell (set cs 0 (1, true) ++ (0, false) ∷ []) 0).0 ≡ 0 → 0 < length cs → ⊥
    opened_stays [] is some = omega (arith, some)
    opened_stays (c ∷ cs) is some = omega (arith, is)
opens_if seen ask cs log kept false is =
    (keeps, [], None, tt, rw is (kept_still cs log kept), inl (refl, refl), rw is tt)
  where
    kept_still : (cs : List Cell) (log : List Entered) → IsKept cs log → IsKept (set cs 0 ((cell cs 0).0, true)) (log ++ [])
    kept_still cs log kept =
        subst (IsKept (set cs 0 ((cell cs 0).0, true))) (sym (append-nil log)) (kept_written cs log (cell cs 0).0 kept kept.unopened)

pub opens : (seen : List Entered) (ask : Entered)
    → MayStep seen no_nib (λ n. either (n == 0) 1 n) (Opens (step 0 0 1 ask) (seen, (no_nib, None)))
opens seen ask cs log kept begins away = (kept.some, kept.head, opens_if seen ask cs log kept ((cell cs 0).0 == 0) refl)

-- a cell is added, with its pen
pub readies : (seen : List Entered) (ask : Entered)
    → MayStep seen no_nib (λ n. either (n == 0) 0 n) (Readies (step 0 0 0 ask) (seen, (no_nib, None)))
readies seen ask cs log kept begins away = (
  kept.some,
  kept.head,
  (adds, [], None, tt, kept_added _ (log ++ []) (kept_same cs log 0 kept), inl (refl, refl), refl),
)

-- whoever has the pen of the last entry adds one more, after all that was seen
pub enters : (seen : List Entered) (pen : Nib) (ask : Entered) → pen.right ≡ may_write → heir seen ≡ Some pen.key
    → MayStep seen pen (λ n. either (n == 0) 0 n) (Enters (step 0 0 0 ask) (seen, (pen, None)))
enters seen pen ask right is cs log kept begins away =
    let out = away right in
    let all : log ≡ seen = all_there cs pen.key seen log out.1 is kept.came begins in
    let written : List Cell = set cs 0 (either ((cell cs 0).0 == 0) 0 (cell cs 0).0, true) in
    let same : IsKept written log = subst (IsKept written) (append-nil log) (kept_same cs log 0 kept) in
    let low : pen.key < length written = omega (arith, out.0, length-set cs 0 (either ((cell cs 0).0 == 0) 0 (cell cs 0).0, true)) in
    let cells : List Cell = set written pen.key (pen.value, true) in
    let heir_home : IsHome cells (heir log) =
    subst (IsHome cells) (sym (ap heir all ∙ is)) (now_home written pen.key pen.value low) in
    let far : 0 ≢ pen.key = λ at. true≢false (sym kept.head ∙ (ap (λ k. (cell cs k).1) at ∙ out.1)) in
    let now : IsKept cells (log ++ ask ∷ []) = record {
      some = omega (arith, same.some, length-set written pen.key (pen.value, true));
      head = home_set written pen.key pen.value 0 same.head;
      unopened = λ nought. absurd (still_open written log seen pen.key pen.value all is same far nought);
      came =
          came_further cells None log ask
          (came_still written cells (home_set written pen.key pen.value) None log same.came) heir_home;
    } in (
      kept.some,
      kept.head,
      (gives, ask ∷ [], None, right, now, inl (refl, refl), ap (λ l. l ++ ask ∷ []) all),
    )
  where
    -- the first word is another than the pen's, and isn't 0
    still_open : (cs : List Cell) (log seen : List Entered) (k n : ℕ) → log ≡ seen → heir seen ≡ Some k → IsKept cs log → 0 ≢ k
        → (cell (set cs k (n, true)) 0).0 ≡ 0 → ⊥
    still_open cs log seen k n all is kept far nought =
        let none : log ≡ [] = kept.unopened (ap (λ c. c.0) (sym (get_or-set_other cs k 0 (n, true) (0, false) far)) ∙ nought) in
        let nobody : None ≡ Some k = ap heir (sym none ∙ all) ∙ is in
        cc nobody

-- while the pen of the last entry is had, the entries are all that there are
pub counts : (all seen : List Entered) (pen : Nib) (a : ℕ) (ask : Entered) → pen.right ≡ may_write → heir all ≡ Some pen.key
    → IsPrefix all seen → length all ≡ a + 1
    → MayStep seen pen (λ n. either (n == a) a n) (Counts (step 0 a a ask) (seen, (pen, None)))
counts all seen pen a ask right is first long cs log kept begins away =
    let out = away right in
    let same : log ≡ all = all_there cs pen.key all log out.1 is kept.came (begins_further all seen log first begins) in (
      kept.some,
      kept.head,
      (
        keeps,
        [],
        None,
        tt,
        kept_same cs log a kept,
        inl (refl, refl),
        (ap length (append-nil log ∙ same) ∙ long, refl),
      ),
    )

-- ---- entries and publications

pub listed_begins : (xs ys : List Entered) → IsPrefix xs ys → IsPrefix (listed xs) (listed ys)
listed_begins [] ys begins = (listed ys, refl)
listed_begins (x ∷ xs) ys begins =
    subst (λ l. IsPrefix (listed (x ∷ xs)) (listed l)) begins.1
    (map (λ (e : Entered). e.changes) begins.0, sym (map-append (λ (e : Entered). e.changes) xs begins.0))

-- the list of what was seen begins the list of what was reached, where there are as many
pub whole_list : (known all both log : List Entered) → IsPrefix known both → IsPrefix all both → IsPrefix both log
    → length log ≡ length all → IsPrefix known all
whole_list known all both log mine its further long =
    let same : all ≡ both =
    whole_beginning all both its (omega (arith, beginning_length both log further, long)) in
    subst (IsPrefix known) (sym same) mine
