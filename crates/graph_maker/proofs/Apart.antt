-- The names of the exceptions of a made graph differ from each other and from `universal`.
use Rattle.std.proofs.Common.{◌≡◌, ◌≢◌, ℕ, ◌+◌, ◌<◌, ◌≤◌, ◌==◌, nat_lt, Bool, true, false, not, ◌&&◌, ◌||◌, if◌then◌else◌, List, [], ◌∷◌, ◌++◌, length, map, take, codes, bytes_eq, None, refl, sym, ap, ◌∙◌, subst, arith}
use Rattle.std.specs.List.{list_all, list_any, All, AllPairs}
use Rattle.std.proofs.lemmas.Bool.{and_from, and_parts, both_ways, lt-ltb, ltb-true, eq-eqb, or_from, or_parts}
use Rattle.std.proofs.lemmas.List.{append-nil, append_assoc, get_or_at, get_or_append_left, length-append, length_push, map_push, take_at}
use Rattle.std.proofs.lemmas.List.Elements.{All-head, All-tail}
use Rattle.std.proofs.lemmas.List.Folds.{list_all-append}
use Rattle.std.proofs.lemmas.Slice.Eq.{bytes_eq-Decides}
use Rattle.caa_base.specs.Written.Names.{is_name, name_at}
use Rattle.action_script.specs.declared.forms.form.Form.{Form}
use Rattle.action_script.specs.declared.forms.form.Form.TheVariants as form
use Rattle.action_script.specs.declared.forms.script.Line.{Line}
use Rattle.action_script.specs.Forms.ScriptValue.{Script}
use Rattle.action_script.specs.Words.NumberedNames.{is_among, number_in, with_names}
use Rattle.action_script.proofs.OnForms.Fits.{AreNumbered, named_within}
use Rattle.action_script.proofs.OnForms.Numbered.{numbered-none, numbered-with_names}
use Rattle.graph_maker.specs.Refusals.{cause_if, cause_of, exception_in, exceptions_in, is_taken, most_primitives, primitive_count, refused_from}
use Rattle.set_graphs.specs.Sets.{size_of, IsSet}
use Rattle.graph_maker.specs.SetNames.{is_made_name, member_list, set_name}
use Rattle.graph_maker.proofs.Accepting.{passed_on}
use Rattle.graph_maker.proofs.Naming.{length-members, made_read, members_ascend, names_apart}

-- ---- words of which none is among those before it

abbrev pub NewWords : List (List ℕ) → List (List ℕ) → Type 0
NewWords done [] = Unit {0}
NewWords done (word ∷ todo) = (is_among done word ≡ false) × NewWords (done ++ word ∷ []) todo

-- they are all kept
pub new_kept : (done todo : List (List ℕ)) → NewWords done todo → with_names done todo ≡ done ++ todo
new_kept done [] new = sym (append-nil done)
new_kept done (word ∷ todo) new =
    ap (λ (b : Bool). with_names (if b then done else done ++ word ∷ []) todo) new.0
    ∙ new_kept (done ++ word ∷ []) todo new.1
    ∙ append_assoc done (word ∷ []) todo

-- so each has its place as its number
pub new_numbered : (word : List ℕ) (todo : List (List ℕ)) → NewWords (word ∷ []) todo → AreNumbered (word ∷ todo)
new_numbered word todo new = subst AreNumbered (new_kept (word ∷ []) todo new) (numbered-with_names [] (word ∷ todo) numbered-none)

pub new_more : (done first later : List (List ℕ)) → NewWords done first → NewWords (done ++ first) later → NewWords done (first ++ later)
new_more done [] later new more = subst (λ (l : List (List ℕ)). NewWords l later) (append-nil done) more
new_more done (word ∷ first) later new more = (
  new.0,
  new_more (done ++ word ∷ []) first later new.1
      (subst (λ (l : List (List ℕ)). NewWords l later) (sym (append_assoc done (word ∷ []) first)) more),
)

-- ---- a word that no test of another kind lets through

-- where all words there fail a test that this one passes, it isn't among them
pub not_among : (test : List ℕ → Bool) (words : List (List ℕ)) (word : List ℕ) → list_all (λ w. not (test w)) words ≡ true
    → test word ≡ true → is_among words word ≡ false
not_among test [] word fail pass = refl
not_among test (other ∷ words) word fail pass =
    let p = and_parts (not (test other)) (list_all (λ w. not (test w)) words) fail in
    or_from (bytes_eq word other) (is_among words word) (apart (bytes_eq word other) refl p.0) (not_among test words word p.1 pass)
  where
    apart : (b : Bool) → bytes_eq word other ≡ b → not (test other) ≡ true → b ≡ false
    apart false e h = refl
    apart true e h =
        let same : word ≡ other = (bytes_eq-Decides word other).0 e in
        let passed : test other ≡ true = subst (λ (w : List ℕ). test w ≡ true) same pass in
        absurd (both_ways (not (test other)) (ap not passed) h)

-- ---- the primitives

module _ (script : Script) (most : ℕ) where
  abbrev name : ℕ → List ℕ
  name n = name_at script.names n

  -- the exceptions of these lines have free names, where so many are declared before them
  abbrev Free : ℕ → List ℕ → Type 0
  Free passed [] = Unit {0}
  Free passed (n ∷ ns) = (is_taken script most passed n ≡ false) × Free (passed + 1) ns

  not_taken : (taken room : Bool) → cause_if taken room ≡ None → taken ≡ false
  not_taken true room h = cc
  not_taken false room h = refl

  pub free_from : (passed : ℕ) (lines : List Line) → refused_from script most passed lines ≡ None → Free passed (exceptions_in lines)
  free_from passed [] h = tt
  free_from passed (line ∷ lines) h =
      let p =
      passed_on line.number (refused_from script most (passed + length (exception_in line.form)) lines)
      (cause_of script most passed line.form) h in
      by line.form p.0 (free_from (passed + length (exception_in line.form)) lines p.1)
    where
      by : (f : Form) → cause_of script most passed f ≡ None → Free (passed + length (exception_in f)) (exceptions_in lines)
          → Free passed (exception_in f ++ exceptions_in lines)
      by (form.Exception n) none rest = (not_taken (is_taken script most passed n) (nat_lt passed most_primitives) none, rest)
      by _ none rest = let same : passed + 0 ≡ passed = omega arith in subst (λ k. Free k (exceptions_in lines)) same rest

  module _ (numbered : AreNumbered script.names) where
    -- names of two numbers differ
    name_apart : (n m : ℕ) → n < length script.names → m < length script.names → name n ≡ name m → n ≡ m
    name_apart n m n_in m_in same = sym (numbered n n_in) ∙ ap (number_in script.names) same ∙ numbered m m_in

    others_apart : (n : ℕ) (before : List ℕ) → n < length script.names → list_all (λ m. nat_lt m (length script.names)) before ≡ true
        → list_any (λ e. e == n) before ≡ false → is_among (map name before) (name n) ≡ false
    others_apart n [] n_in within none = refl
    others_apart n (m ∷ before) n_in within none =
        let p = and_parts (nat_lt m (length script.names)) (list_all (λ m. nat_lt m (length script.names)) before) within in
        let q = or_parts (m == n) (list_any (λ e. e == n) before) none in
        or_from (bytes_eq (name n) (name m)) (is_among (map name before) (name n))
        (apart (bytes_eq (name n) (name m)) refl q.0 (ltb-true m (length script.names) p.0)) (others_apart n before n_in p.1 q.1)
      where
        apart : (b : Bool) → bytes_eq (name n) (name m) ≡ b → (m == n) ≡ false → m < length script.names → b ≡ false
        apart false e not m_in = refl
        apart true e not m_in =
            let same : name n ≡ name m = (bytes_eq-Decides (name n) (name m)).0 e in
            absurd (both_ways (m == n) not (eq-eqb m n (sym (name_apart n m n_in m_in same))))

    not_universal : (n : ℕ) → n < length script.names → (n == number_in script.names (codes "universal")) ≡ false
        → bytes_eq (name n) (codes "universal") ≡ false
    not_universal n n_in not = by (bytes_eq (name n) (codes "universal")) refl
      where
        by : (b : Bool) → bytes_eq (name n) (codes "universal") ≡ b → b ≡ false
        by false e = refl
        by true e =
            let same : name n ≡ codes "universal" = (bytes_eq-Decides (name n) (codes "universal")).0 e in
            absurd
            (both_ways (n == number_in script.names (codes "universal")) not
            (eq-eqb n (number_in script.names (codes "universal")) (sym (numbered n n_in) ∙ ap (number_in script.names) same)))

    -- names that are names are those of numbers in range
    pub in_range : (ns : List ℕ) → list_all is_name (map name ns) ≡ true → list_all (λ m. nat_lt m (length script.names)) ns ≡ true
    in_range [] named = refl
    in_range (n ∷ ns) named =
        let p = and_parts (is_name (name n)) (list_all is_name (map name ns)) named in
        and_from (nat_lt n (length script.names)) (list_all (λ m. nat_lt m (length script.names)) ns)
        (lt-ltb n (length script.names) (named_within script.names n p.0)) (in_range ns p.1)

    -- the primitives are new, one after the other
    pub primitives_new : (before todo : List ℕ) → before ++ todo ≡ exceptions_in script.lines → Free (length before) todo
        → list_all (λ m. nat_lt m (length script.names)) before ≡ true → list_all (λ m. nat_lt m (length script.names)) todo ≡ true
        → NewWords (codes "universal" ∷ map name before) (map name todo)
    primitives_new before [] total free within more = tt
    primitives_new before (n ∷ todo) total free within more =
        let p = and_parts (nat_lt n (length script.names)) (list_all (λ m. nat_lt m (length script.names)) todo) more in
        let n_in = ltb-true n (length script.names) p.0 in
        let front : take (length before) (exceptions_in script.lines) ≡ before =
        ap (take (length before)) (sym total) ∙ take_at before (n ∷ todo) (length before) refl in
        let q =
        or_parts (list_any (λ e. e == n) (take (length before) (exceptions_in script.lines)))
        ((n == number_in script.names (codes "universal")) || is_made_name (primitive_count script) most (name n)) free.0 in
        let r = or_parts (n == number_in script.names (codes "universal")) (is_made_name (primitive_count script) most (name n)) q.1 in
        let none : list_any (λ e. e == n) before ≡ false = ap (list_any (λ e. e == n)) (sym front) ∙ q.0 in
        let pushed : map name (before ++ n ∷ []) ≡ map name before ++ name n ∷ [] = map_push name before n in
        let next : length (before ++ n ∷ []) ≡ length before + 1 = length_push before n in
        let all : list_all (λ m. nat_lt m (length script.names)) (before ++ n ∷ []) ≡ true =
        list_all-append (λ m. nat_lt m (length script.names)) before (n ∷ [])
        ∙ and_from (list_all (λ m. nat_lt m (length script.names)) before) (nat_lt n (length script.names) && true)
        within (and_from (nat_lt n (length script.names)) true p.0 refl) in (
          or_from (bytes_eq (name n) (codes "universal")) (is_among (map name before) (name n)) (not_universal n n_in r.0)
              (others_apart n before n_in within none),
          subst (λ (l : List (List ℕ)). NewWords (codes "universal" ∷ l) (map name todo)) pushed
              (primitives_new (before ++ n ∷ []) todo (append_assoc before (n ∷ []) todo ∙ total)
              (subst (λ k. Free k todo) (sym next) free.1) all p.1),
        )

  -- and no primitive has a made name
  pub primitives_unmade : (passed : ℕ) (ns : List ℕ) → Free passed ns
      → list_all (λ w. not (is_made_name (primitive_count script) most w)) (map name ns) ≡ true
  primitives_unmade passed [] free = refl
  primitives_unmade passed (n ∷ ns) free =
      let q =
      or_parts (list_any (λ e. e == n) (take passed (exceptions_in script.lines)))
      ((n == number_in script.names (codes "universal")) || is_made_name (primitive_count script) most (name n)) free.0 in
      let r = or_parts (n == number_in script.names (codes "universal")) (is_made_name (primitive_count script) most (name n)) q.1 in
      and_from (not (is_made_name (primitive_count script) most (name n)))
      (list_all (λ w. not (is_made_name (primitive_count script) most w)) (map name ns)) (ap not r.1)
      (primitives_unmade (passed + 1) ns free.1)

-- ---- the made names

module _ (n most : ℕ) (small : n < 128) where
  -- a set of two members at least
  pub record IsLarge (set : ℕ) : Type 0 where
    pub is : IsSet n most set
    pub many : 2 ≤ size_of n set

  large_made : (set : ℕ) → IsLarge set → is_made_name n most (set_name n set) ≡ true
  large_made set large =
      let size = length-members n set in
      let is = large.is in
      let few = is.few in
      let many = large.many in
      made_read n most (member_list n set) (omega (arith, small)) (members_ascend n set) (omega (arith, size, many))
      (omega (arith, size, few))

  -- it isn't among those before it
  not_before : (before : List ℕ) (set : ℕ) → All IsLarge before → IsLarge set → All (λ (b : ℕ). b ≢ set) before
      → is_among (map (set_name n) before) (set_name n set) ≡ false
  not_before [] set are large apart = refl
  not_before (b ∷ before) set are large apart =
      or_from (bytes_eq (set_name n set) (set_name n b)) (is_among (map (set_name n) before) (set_name n set))
      (by (bytes_eq (set_name n set) (set_name n b)) refl (All-head IsLarge b before are) (All-head (λ (x : ℕ). x ≢ set) b before apart))
      (not_before before set (All-tail IsLarge b before are) large (All-tail (λ (x : ℕ). x ≢ set) b before apart))
    where
      by : (c : Bool) → bytes_eq (set_name n set) (set_name n b) ≡ c → IsLarge b → b ≢ set → c ≡ false
      by false e other differ = refl
      by true e other differ =
          let same : set_name n set ≡ set_name n b = (bytes_eq-Decides (set_name n set) (set_name n b)).0 e in
          let mine = large.many in
          let yours = other.many in
          absurd
          (differ (sym (names_apart n set b small large.is.primitives other.is.primitives (omega (arith, mine))
          (omega (arith, yours)) same)))

  among_either : (xs ys : List (List ℕ)) (w : List ℕ) → is_among xs w ≡ false → is_among ys w ≡ false → is_among (xs ++ ys) w ≡ false
  among_either [] ys w none more = more
  among_either (x ∷ xs) ys w none more =
      let p = or_parts (bytes_eq w x) (is_among xs w) none in
      or_from (bytes_eq w x) (is_among (xs ++ ys) w) p.0 (among_either xs ys w p.1 more)

  pub made_new : (words : List (List ℕ)) → list_all (λ w. not (is_made_name n most w)) words ≡ true → (before todo : List ℕ)
      → All IsLarge (before ++ todo) → AllPairs (λ a b. a ≢ b) (before ++ todo)
      → NewWords (words ++ map (set_name n) before) (map (set_name n) todo)
  made_new words unmade before [] are apart = tt
  made_new words unmade before (set ∷ todo) are apart =
      let large : IsLarge set =
      subst IsLarge (get_or_at before set todo 0 (length before) refl)
      (are (length before) 0 (omega (arith, length-append before (set ∷ todo)))) in
      let front : All IsLarge before =
      λ k d within. subst IsLarge (get_or_append_left before (set ∷ todo) d k within)
      (are k d (omega (arith, within, length-append before (set ∷ todo)))) in
      let differ : All (λ (b : ℕ). b ≢ set) before = λ k d within same.
      apart k (length before) d within (omega (arith, length-append before (set ∷ todo)))
      (get_or_append_left before (set ∷ todo) d k within ∙ same ∙ sym (get_or_at before set todo d (length before) refl)) in
      let moved : (words ++ map (set_name n) before) ++ set_name n set ∷ [] ≡ words ++ map (set_name n) (before ++ set ∷ []) =
      append_assoc words (map (set_name n) before) (set_name n set ∷ []) ∙ ap (λ (l : List (List ℕ)). words ++ l)
      (sym (map_push (set_name n) before set)) in
      let shifted : (before ++ set ∷ []) ++ todo ≡ before ++ set ∷ todo = append_assoc before (set ∷ []) todo in (
        among_either words (map (set_name n) before) (set_name n set)
            (not_among (is_made_name n most) words (set_name n set) unmade (large_made set large))
            (not_before before set front large differ),
        subst (λ (l : List (List ℕ)). NewWords l (map (set_name n) todo)) (sym moved)
            (made_new words unmade (before ++ set ∷ []) todo (subst (All IsLarge) (sym shifted) are)
            (subst (AllPairs (λ a b. a ≢ b)) (sym shifted) apart)),
      )
