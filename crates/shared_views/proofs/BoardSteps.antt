-- Each step on the board keeps its rule, and a publication leaves it right.
use Rattle.std.proofs.Common.{◌≡◌, ◌≢◌, ◌+◌, ℕ, zero, suc, suc-le-suc, ◌<◌, ◌==◌, ℤ, true, false, List, [], ◌∷◌, ◌++◌, length, set, get_or, fold, All, Option, Some, None, IfSome, if◌then◌else◌, refl, sym, ap, ◌∙◌, subst, inl, inr, ⊎_elim, arith, length-set, get_or-set_other, get_or-set_same, replicate, Result, Ok, Err, IsOk, MatchResult, true≢false}
use Rattle.std.proofs.lemmas.Bool.{cases_order}
use Rattle.std.proofs.lemmas.Bool.Decides.{nat_tests}
use Rattle.std.proofs.lemmas.List.Sums.{fold-append}
use mathlib.Core.Option.{some}
use lib.ListN.{get_elem?}
use Rattle.crossbeam_utils.specs.Register.{Admits, TurnsAt, Forks, Merges}
use Rattle.atomic_table.proofs.Lists.{at_set, at_snoc}
use Rattle.shared_views.specs.Publications.{Changes, Known, Begins, given_after, last_given}
use Rattle.shared_views.specs.inner.Boards.{shown, row_after, shown_after, IsRight, Fits, Keeps, Sees, Follows}
use Rattle.shared_views.specs.declared.board.Board.{Board}
use Rattle.shared_views.specs.declared.publications.Publication.{Publication}
use Rattle.shared_views.specs.declared.board.View.{View}
use Rattle.shared_views.proofs.Beginnings.{begins_itself, begins_further}

known_itself : (k : Known) → Begins k k
known_itself k = record { book = refl; list = begins_itself k.list }

known_further : (x y z : Known) → Begins x y → Begins y z → Begins x z
known_further x y z p q = record { book = q.book ∙ p.book; list = begins_further x.list y.list z.list p.list q.list }

some_on : (before after : Known) (k : Option Known) → Begins before after → IfSome k (λ k. Begins k before) → IfSome k (λ k. Begins k after)
some_on before after None more f = f
some_on before after (Some k) more f = known_further k before after f more

-- after a step in which one view changes, and publications come at most
each_fits : (before after : Known) (views : List View) (seat : ℕ) (w : View) → Begins before after → Fits after w
    → ((j : ℕ) (u : View) → get_elem? views j ≡ some u → Fits before u)
    → (j : ℕ) (u : View) → get_elem? (set views seat w) j ≡ some u → Fits after u
each_fits before after views seat w more mine others j u e = ⊎_elim (λ (t : (j ≡ seat) × (w ≡ u)). subst (Fits after) t.1 mine)
    (λ (t : (j ≢ seat) × (get_elem? views j ≡ some u)). some_on before after u.known more (others j u t.1)) (at_set views seat j w u e)

pub admits : Admits Keeps (record { known = None; looks = 0 })
admits x views k = record {
  right = k.right;
  each = λ j u e. ⊎_elim (k.each j u) (λ same. subst (Fits x.publications) same tt) (at_snoc views _ u j e);
}

pub moves : (seat : ℕ) (v : View) (x y : Board) → IsRight y → Begins x.publications y.publications → TurnsAt Keeps seat v x y Sees
moves seat v x y right more views k at =
    let all : Known = y.publications in
    let w : View = record { known = Some all; looks = v.looks + 1 } in (
      w,
      record { right = right; each = each_fits x.publications all views seat w more (known_itself all) k.each },
      record { right = right; all = refl; more = some_on x.publications all v.known more (k.each seat v at); looks = refl },
    )

-- a look changes nothing
pub looks : (seat : ℕ) (v : View) (x : Board) → TurnsAt Keeps seat v x x Sees
looks seat v x views k at = moves seat v x x k.right (known_itself _) views k at

pub forks : (seat : ℕ) (v : View) → Forks Keeps seat v v v
forks seat v x views k at =
    let mine = k.each seat v at in
    record {
      right = k.right;
      each =
          λ j u e. ⊎_elim (each_fits _ _ views seat v (known_itself x.publications) mine k.each j u)
          (λ same. subst (Fits x.publications) same mine) (at_snoc (set views seat v) v u j e);
    }

pub merges : (seat : ℕ) (v : View) (other : ℕ) (w : View) → Merges Keeps seat v other w (record { known = w.known; looks = v.looks }) (record { known = None; looks = 0 })
merges seat v other w x views k at apart there =
    let all : Known = x.publications in
    let its : Fits all w =
    ⊎_elim (λ (t : (other ≡ seat) × (record { known = w.known; looks = v.looks } ≡ w)). absurd (apart t.0))
    (λ (t : (other ≢ seat) × (get_elem? views other ≡ some w)). k.each other w t.1)
    (at_set views seat other (record { known = w.known; looks = v.looks }) w there) in
    record {
      right = k.right;
      each =
          each_fits all all (set views seat (record { known = w.known; looks = v.looks })) other (record { known = None; looks = 0 }) (known_itself all) tt
          (each_fits all all views seat (record { known = w.known; looks = v.looks }) (known_itself all) its k.each);
    }

-- one change of an object that the row has
one_change : (row : List (Option ℤ)) (c : ℕ × ℤ) (o : ℕ) → c.0 < length row
    → get_or (row_after row c) o None ≡ given_after o (get_or row o None) c
one_change row c o low = elim (cases_order o c.0) [
  | inl same ↦
      let is : (c.0 == o) ≡ true = grind (arith, nat_tests) in
      (ap (λ i. get_or (row_after row c) i None) same ∙ get_or-set_same row c.0 (Some c.1) None low)
      ∙ ap (λ b. if b then Some c.1 else get_or row o None) (sym is)
  | inr other ↦
      let far : o ≢ c.0 = λ same. elim other [ inl below ↦ omega (arith, below, same) | inr above ↦ omega (arith, above, same) ] in
      let is : (c.0 == o) ≡ false = grind (arith, nat_tests, far) in
      get_or-set_other row c.0 o (Some c.1) None far ∙ ap (λ b. if b then Some c.1 else get_or row o None) (sym is)
]

-- what the row has of an object after all changes
all_changes : (n : ℕ) (row : List (Option ℤ)) (changes : Changes) (o : ℕ) → length row ≡ n → All (λ c. c.0 < n) changes
    → get_or (fold row_after row changes) o None ≡ fold (given_after o) (get_or row o None) changes
all_changes n row [] o wide low = refl
all_changes n row (c ∷ cs) o wide low =
    all_changes n (row_after row c) cs o (length-set row c.0 (Some c.1) ∙ wide) (λ k d h. low (suc k) d (suc-le-suc h))
    ∙ ap (λ b. fold (given_after o) b cs) (one_change row c o (subst (λ m. c.0 < m) (sym wide) (low 0 c (omega arith))))

wide_still : (row : List (Option ℤ)) (changes : Changes) → length (fold row_after row changes) ≡ length row
wide_still row [] = refl
wide_still row (c ∷ cs) = wide_still (row_after row c) cs ∙ length-set row c.0 (Some c.1)

-- the board after one publication more
pub record Publishes (x y : Board) (p : Publication) : Type 0 where
  pub right : IsRight y
  pub wide : length y.given.items ≡ length x.given.items
  pub all : y.publications ≡ p.publications

pub publishes : (n : ℕ) (x y : Board) (p : Publication) → IsRight x → length x.given.items ≡ n → All (λ c. c.0 < n) p.changes.items
    → p.publications.list ≡ x.publications.list ++ p.changes.items ∷ [] → shown y ≡ shown_after (shown x) p → Publishes x y p
publishes n x y p right wide low more is =
    let all : List Changes = x.publications.list in let changes : Changes = p.changes.items in
    let row : y.given.items ≡ fold row_after x.given.items changes = ap (λ s. s.0) is in
    let now : y.publications ≡ p.publications = ap (λ s. s.1) is in
    record {
      right =
          λ o. (ap (λ r. get_or r o None) row
          ∙ (all_changes n x.given.items changes o wide low ∙ ap (λ b. fold (given_after o) b changes) (right o)))
          ∙ sym (ap (last_given o) (ap (λ k. k.list) now ∙ more) ∙ fold-append (fold (given_after o)) None all (changes ∷ []));
      wide = ap length row ∙ wide_still x.given.items changes;
      all = now;
    }

-- nothing was published
pub same_right : (x y : Board) → IsRight x → shown y ≡ shown x → IsRight y
same_right x y right is o = ap (λ s. get_or s.0 o None) is ∙ (right o ∙ sym (ap (λ s. last_given o s.1.list) is))

-- nothing was published
pub stays : (seat : ℕ) (v : View) (x y : Board) → IsRight x → shown y ≡ shown x → TurnsAt Keeps seat v x y Sees
stays seat v x y right is =
    moves seat v x y (same_right x y right is)
    (subst (Begins x.publications) (sym (ap (λ s. s.1) is)) (known_itself x.publications))

-- what waits to be shown is one publication
pub shows_next : (x y : Board) (p : Publication) (waiting : List Publication) → IsRight x → waiting ≡ p ∷ []
    → Follows x p → shown y ≡ fold shown_after (shown x) waiting → Publishes x y p
shows_next x y p waiting right one f is =
    publishes (length x.given.items) x y p right refl f.low f.more (is ∙ ap (fold shown_after (shown x)) one)

pub goes_on : (seat : ℕ) (v : View) (x y : Board) (p : Publication) → Follows x p → Publishes x y p → TurnsAt Keeps seat v x y Sees
goes_on seat v x y p f b =
    let begins : Begins x.publications p.publications = record { book = f.book; list = (p.changes.items ∷ [], sym f.more) } in
    moves seat v x y b.right (subst (Begins x.publications) (sym b.all) begins)

like_all : (n o : ℕ) (x : Option ℤ) → get_or (replicate n x) o x ≡ x
like_all zero o x = refl
like_all (suc n) zero x = refl
like_all (suc n) (suc o) x = like_all n o x

-- a board on which nothing was published is right
pub blank_right : (b : Board) (n : ℕ) → b.given.items ≡ replicate n None → b.publications.list ≡ [] → IsRight b
blank_right b n row none o = ap (λ r. get_or r o None) row ∙ (like_all n o None ∙ sym (ap (last_given o) none))

pub ok_part : {X Y : Type 0} (r : Result X Y) (f : X → Type 0) (h : Y → Type 0) → IsOk r → MatchResult r f h → (x : X) × f x
ok_part (Ok x) f h ok m = (x, m)
ok_part (Err y) f h ok m = absurd (true≢false (sym ok))
