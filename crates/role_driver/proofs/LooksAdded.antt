-- Looks that are added one by one: those of the recorded readings before the last, and the last.
use Rattle.std.proofs.Common.{◌≡◌, ℕ, ◌+◌, ◌<◌, ◌≤◌, nat_lt, Bool, true, cond, List, [], ◌∷◌, ◌++◌, filter, length, map, take, drop, get_or, All, sym, ap, ◌∙◌, subst, arith, append_assoc}
use Rattle.std.proofs.lemmas.List.{take-append-drop, take_all, length-append, length-map}
use Rattle.std.proofs.lemmas.List.Elements.{All-head, All-tail, filter-append, filter_more}
use Rattle.journal_text.specs.declared.looks.seens.Seen.{Seen}
use Rattle.journal_text.specs.Watching.Looks.{last_watch}
use Rattle.shared_views.specs.declared.observed.Reading.{Reading}
use Rattle.role_driver.specs.inner.Gathering.{with_last, look_of}

-- the readings before the last, among the first i
abbrev pub kept : List Reading → Reading → ℕ → List Reading
kept rs last i = filter (λ r. nat_lt r.ends last.ends) (take i rs)

kept_more : (rs : List Reading) (last : Reading) (i : ℕ) (d : Reading) → i < length rs → kept rs last (i + 1) ≡ kept rs last i
    ++ cond (nat_lt (get_or rs i d).ends last.ends) (get_or rs i d ∷ []) []
kept_more rs last i d low = filter_more (λ r. nat_lt r.ends last.ends) rs i d low

-- one that is before the last stands among them
stands : (rs : List Reading) (last : Reading) (i : ℕ) (d : Reading) → i < length rs → nat_lt (get_or rs i d).ends last.ends ≡ true
    → with_last rs last ≡ kept rs last i ++ get_or rs i d ∷ (filter (λ r. nat_lt r.ends last.ends) (drop (i + 1) rs) ++ last ∷ [])
stands rs last i d low x =
    let test : Reading → Bool = λ r. nat_lt r.ends last.ends in
    let rest = filter test (drop (i + 1) rs) in
    let one : kept rs last (i + 1) ≡ kept rs last i ++ get_or rs i d ∷ [] = kept_more rs last i d low
    ∙ ap (λ b. kept rs last i ++ cond b (get_or rs i d ∷ []) []) x in
    let whole : filter test rs ≡ (kept rs last i ++ get_or rs i d ∷ []) ++ rest =
    ap (filter test) (sym (take-append-drop (i + 1) rs)) ∙ filter-append test (take (i + 1) rs) (drop (i + 1) rs)
    ∙ ap (λ l. l ++ rest) one in
    ap (λ l. l ++ last ∷ []) whole ∙ ap (λ l. l ++ last ∷ []) (append_assoc (kept rs last i) (get_or rs i d ∷ []) rest)
    ∙ append_assoc (kept rs last i) (get_or rs i d ∷ rest) (last ∷ [])

pub at_end : (rs : List Reading) (last : Reading) (i : ℕ) → length rs ≤ i → with_last rs last ≡ kept rs last i ++ last ∷ []
at_end rs last i high = ap (λ l. filter (λ r. nat_lt r.ends last.ends) l ++ last ∷ []) (sym (take_all i rs high))

all_mid : (P : Reading → Type 0) (xs : List Reading) (y : Reading) (ys : List Reading) → All P (xs ++ y ∷ ys) → P y
all_mid P [] y ys all = All-head P y ys all
all_mid P (x ∷ xs) y ys all = all_mid P xs y ys (All-tail P x (xs ++ y ∷ ys) all)

-- what holds of all of them holds of each, and there is room for each
pub mid_of : (P : Reading → Type 0) (seens : List Seen) (w : ℕ) (rs : List Reading) (last : Reading) (i : ℕ) (d : Reading)
    → i < length rs → nat_lt (get_or rs i d).ends last.ends ≡ true → All P (with_last rs last)
    → P (get_or rs i d) × (length (seens ++ map (look_of w) (kept rs last i)) < length seens + length (with_last rs last))
mid_of P seens w rs last i d low x all =
    let is = stands rs last i d low x in
    let later = filter (λ r. nat_lt r.ends last.ends) (drop (i + 1) rs) ++ last ∷ [] in (
      all_mid P (kept rs last i) (get_or rs i d) later (subst (All P) is all),
      omega (
        arith,
        length-append seens (map (look_of w) (kept rs last i)),
        length-map (kept rs last i) (look_of w),
        ap length is,
        length-append (kept rs last i) (get_or rs i d ∷ later),
      ),
    )

-- the watches don't fall
looks_within : (low w : ℕ) (rs : List Reading) → low ≤ w → last_watch low (map (look_of w) rs) ≤ w
looks_within low w [] l = l
looks_within low w (r ∷ rs) l = looks_within w w rs (omega arith)

pub watch_within : (low w : ℕ) (seens : List Seen) (rs : List Reading) → last_watch low seens ≤ w
    → last_watch low (seens ++ map (look_of w) rs) ≤ w
watch_within low w [] rs h = looks_within low w rs h
watch_within low w (s ∷ seens) rs h = watch_within s.watch w seens rs h
