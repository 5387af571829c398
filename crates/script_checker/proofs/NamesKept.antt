-- The names of an accepted script tell its parts apart: each line without cause keeps that they do.
use Rattle.std.proofs.Common.{◌≡◌, ◌≢◌, ℕ, zero, suc, ◌<◌, ◌≤◌, ◌==◌, Bool, true, false, ◌&&◌, if◌then◌else◌, List, [], ◌∷◌, ◌++◌, map, length, get_or, codes, refl, sym, ap, ◌∙◌, subst, arith}
use Rattle.std.specs.List.{All, AllPairs, flat_map}
use Rattle.std.proofs.lemmas.Bool.{and_parts, or_parts, eq-eqb, ltb-false, ltb-true, false≢true}
use Rattle.std.proofs.lemmas.List.{get_or-map, get_or_default, map-append, length-append, length-map}
use Rattle.std.proofs.lemmas.List.Elements.{All-push, All-nil, All-map}
use Rattle.std.proofs.lemmas.List.Quantifiers.{all_pairs_push}
use Rattle.caa_base.specs.Written.Names.{is_name, name_at}
use Rattle.caa_base.specs.Written.Lists.{member, index_of}
use Rattle.place_plan.specs.declared.drafts.draft_rows.GraphRow.{GraphRow}
use Rattle.place_plan.specs.declared.drafts.draft_rows.ObjectRow.{ObjectRow}
use Rattle.place_plan.specs.Plans.PlanValue.{Plan}
use Rattle.action_script.specs.declared.forms.form.Form.{Form}
use Rattle.action_script.specs.declared.forms.form.Form.TheVariants as form
use Rattle.action_script.specs.Words.NumberedNames.{number_in}
use Rattle.action_script.specs.Forms.ScriptValue.{Script}
use Rattle.action_script.specs.Forms.Printing.{is_sound, forms_of, form_names, AreScript}
use Rattle.action_script.proofs.OnForms.Fits.{AreNumbered, named_within}
use Rattle.action_script.proofs.OnForms.Numbered.{numbered-with_names, numbered-none}
use Rattle.script_checker.specs.declared.declared.Declared.{Declared}
use Rattle.script_checker.specs.declared.declared.Block.{Block}
use Rattle.script_checker.specs.declared.declared.Block.TheVariants as block
use Rattle.script_checker.specs.declared.open_graph.DeclaredGraph.{DeclaredGraph}
use Rattle.script_checker.specs.Numbers.{is_among}
use Rattle.script_checker.specs.DeclaredSoFar.{nothing_yet, nothing_declared, plain_graph}
use Rattle.script_checker.specs.AtTop.{declared_with, block_begun}
use Rattle.script_checker.specs.InGraph.{graph_with}
use Rattle.script_checker.specs.After.{ended}
use Rattle.script_checker.specs.Compiled.{exception_name, declared_after, IsRowOf, AreRowsOf, IsPlanOf}
use Rattle.place_plan.specs.Plans.OwnNames.{AreOwnNames, NamesExceptions, HasOwnNames}
use Rattle.script_checker.proofs.KnownNames.{one_known}
use Rattle.script_checker.proofs.Accepted.{IsKept, NoneAtTop, NoneInGraph, known_at_top, once_at_top, once_in_graph, holds_after}
use Rattle.script_checker.proofs.GraphRows.{found}

-- ---- a number that is none of some others

pub not_met : (x : ℕ) (xs : List ℕ) (i d : ℕ) → member x xs ≡ false → i < length xs → get_or xs i d ≢ x
not_met x [] i d none l e = absurd (omega arith)
not_met x (y ∷ xs) zero d none l e = false≢true (sym (or_parts (y == x) (member x xs) none).0 ∙ eq-eqb y x e)
not_met x (y ∷ xs) (suc i) d none l e = not_met x xs i d (or_parts (y == x) (member x xs) none).1 (omega (arith, l)) e

not_among : (x : ℕ) (xs : List ℕ) (i d : ℕ) → length xs ≤ index_of x xs → i < length xs → get_or xs i d ≢ x
not_among x [] i d none l e = absurd (omega arith)
not_among x (y ∷ xs) zero d none l e = by (y == x) refl none
  where
    by : (b : Bool) → (y == x) ≡ b → suc (length xs) ≤ (if b then zero else suc (index_of x xs)) → ⊥
    by true same g = absurd (omega (arith, g))
    by false same g = false≢true (sym same ∙ eq-eqb y x e)
not_among x (y ∷ xs) (suc i) d none l e = by (y == x) none (λ past. not_among x xs i d past (omega (arith, l)) e)
  where
    by : (b : Bool) → suc (length xs) ≤ (if b then zero else suc (index_of x xs)) → (length xs ≤ index_of x xs → ⊥) → ⊥
    by true g rest = absurd (omega (arith, g))
    by false g rest = rest (omega (arith, g))

-- ---- numbers of names

-- the name of the number is one by the grammar, and leads back to it
abbrev IsOwn : List (List ℕ) → (ℕ → List ℕ) → ℕ → Type 0
IsOwn names name_of n = (is_name (name_of n) ≡ true) × (number_in names (name_of n) ≡ n)

-- such numbers, of which no two are the same
pub record AreOwn (names : List (List ℕ)) (name_of : ℕ → List ℕ) (xs : List ℕ) : Type 0 where
  pub each : All (IsOwn names name_of) xs
  pub differ : AllPairs (λ a b. a ≢ b) xs

module _ (names : List (List ℕ)) (name_of : ℕ → List ℕ) where
  pub own_none : AreOwn names name_of []
  own_none = record { each = All-nil (IsOwn names name_of); differ = λ i j d l w. absurd (omega arith) }

  own_push : (xs : List ℕ) (x : ℕ) → AreOwn names name_of xs → IsOwn names name_of x → is_among xs x ≡ false
      → AreOwn names name_of (xs ++ x ∷ [])
  own_push xs x h own once = record {
    each = All-push (IsOwn names name_of) xs x h.each own;
    differ = all_pairs_push (λ a b. a ≢ b) xs x h.differ (λ i d l. not_among x xs i d (ltb-false (index_of x xs) (length xs) once) l);
  }

  own_names : (xs : List ℕ) → AreOwn names name_of xs → AreOwnNames (map name_of xs)
  own_names xs h = record {
    spelled = All-map (λ name. is_name name ≡ true) name_of xs (λ i d l. (h.each i d l).0);
    differ = λ i j d l w e.
        let w : j < length xs = omega (arith, w, length-map xs name_of) in
        let back = λ (k : ℕ) (v : k < length xs). (h.each k 0 v).1 in
        let same : name_of (get_or xs i 0) ≡ name_of (get_or xs j 0) =
        sym (get_or-map name_of xs i 0 d (omega (arith, l, w))) ∙ e ∙ get_or-map name_of xs j 0 d w in
        h.differ i j 0 l w (sym (back i (omega (arith, l, w))) ∙ ap (number_in names) same ∙ back j w);
  }

-- ---- the names of a script

module _ (names : List (List ℕ)) (numbered : AreNumbered names) where
  pub named : (n : ℕ) → is_name (name_at names n) ≡ true → IsOwn names (name_at names) n
  named n h = (h, numbered n (named_within names n h))

  excepted : (n : ℕ) → is_name (name_at names n) ≡ true → IsOwn names (exception_name names) n
  excepted n h =
      let same : exception_name names n ≡ name_at names n = get_or_default names n (codes "universal") [] (named_within names n h) in
      subst (λ (word : List ℕ). (is_name word ≡ true) × (number_in names word ≡ n)) (sym same) (named n h)

-- the exception that stands for all others
universal_own : (names : List (List ℕ)) (n : ℕ) → n ≡ number_in names (codes "universal") → IsOwn names (exception_name names) n
universal_own names n e =
    let same : exception_name names n ≡ codes "universal" = ap (exception_name names) e ∙ found names (codes "universal") in
    subst (λ (word : List ℕ). (is_name word ≡ true) × (number_in names word ≡ n)) (sym same) (refl, sym e)

-- ---- what each line keeps

-- these are the names of such numbers
pub record AreNamedBy (names : List (List ℕ)) (xs : List ℕ) (rows : List (List ℕ)) : Type 0 where
  pub own : AreOwn names (name_at names) xs
  pub same : rows ≡ map (name_at names) xs

-- the exceptions of all graphs have names of their own
record AreGraphsNamed (names : List (List ℕ)) (universal : ℕ) (graphs : List DeclaredGraph) : Type 0 where
  pub first : universal ≡ number_in names (codes "universal")
  pub own : All (λ (graph : DeclaredGraph). AreOwn names (exception_name names) graph.exceptions) graphs

-- the watches are of so many objects, and no two are of the same
record AreWatches (count : ℕ) (watches : List ℕ) : Type 0 where
  pub within : All (λ object. object < count) watches
  pub once : AllPairs (λ a b. a ≢ b) watches

abbrev object_names : List ObjectRow → List (List ℕ)
object_names rows = map (λ (row : ObjectRow). row.name) rows

abbrev AreDeclaredNamed : List (List ℕ) → Declared → Type 0
AreDeclaredNamed names d =
    AreNamedBy names d.participants d.participant_rows
    × AreNamedBy names d.objects (object_names d.object_rows)
    × AreGraphsNamed names d.universal d.graphs
    × AreWatches (length d.objects) d.watches

-- and so have those of the graph that is being declared
abbrev OpenNamed : List (List ℕ) → Block → Type 0
OpenNamed names (block.Graph g) = AreOwn names (exception_name names) g.exceptions
OpenNamed names b = Unit {0}

abbrev NamesStand : List (List ℕ) → Declared → Block → Type 0
NamesStand names d b = AreDeclaredNamed names d × OpenNamed names b

watches_stand : (xs : List ℕ) (x : ℕ) (watches : List ℕ) → AreWatches (length xs) watches → AreWatches (length (xs ++ x ∷ [])) watches
watches_stand xs x watches h =
    record { within = λ i d l. let w = h.within i d l in omega (arith, w, length-append xs (x ∷ [])); once = h.once }

watches_push : (xs watches : List ℕ) (x : ℕ) → is_among xs x ≡ true → member (index_of x xs) watches ≡ false
    → AreWatches (length xs) watches → AreWatches (length xs) (watches ++ index_of x xs ∷ [])
watches_push xs watches x known once h = record {
  within = All-push (λ object. object < length xs) watches (index_of x xs) h.within (ltb-true (index_of x xs) (length xs) known);
  once = all_pairs_push (λ a b. a ≢ b) watches (index_of x xs) h.once (λ i d l. not_met (index_of x xs) watches i d once l);
}

module _ (names : List (List ℕ)) (numbered : AreNumbered names) where
  pub named_push : (xs : List ℕ) (rows : List (List ℕ)) (n : ℕ) → is_name (name_at names n) ≡ true → is_among xs n ≡ false
      → AreNamedBy names xs rows → AreNamedBy names (xs ++ n ∷ []) (rows ++ name_at names n ∷ [])
  named_push xs rows n spelled once h = record {
    own = own_push names (name_at names) xs n h.own (named names numbered n spelled) once;
    same = ap (λ (rows : List (List ℕ)). rows ++ name_at names n ∷ []) h.same ∙ sym (map-append (name_at names) xs (n ∷ []));
  }

  objects_push : (xs : List ℕ) (rows : List ObjectRow) (row : ObjectRow) (n : ℕ) → row.name ≡ name_at names n
      → is_name (name_at names n) ≡ true → is_among xs n ≡ false → AreNamedBy names xs (object_names rows)
      → AreNamedBy names (xs ++ n ∷ []) (object_names (rows ++ row ∷ []))
  objects_push xs rows row n same spelled once h =
      let e : object_names (rows ++ row ∷ []) ≡ object_names rows ++ name_at names n ∷ [] =
      map-append (λ (row : ObjectRow). row.name) rows (row ∷ []) ∙ ap (λ (name : List ℕ). object_names rows ++ name ∷ []) same in
      subst (λ (rows : List (List ℕ)). AreNamedBy names (xs ++ n ∷ []) rows) (sym e) (named_push xs (object_names rows) n spelled once h)

  universal_alone : (universal : ℕ) → universal ≡ number_in names (codes "universal") → AreOwn names (exception_name names) (universal ∷ [])
  universal_alone universal first =
      own_push names (exception_name names) [] universal (own_none names (exception_name names)) (universal_own names universal first) refl

  -- the first word of a line that declares something is a name
  pub first_spelled : (n : ℕ) (rest : Bool) → (is_name (name_at names n) && rest) ≡ true → is_name (name_at names n) ≡ true
  first_spelled n rest h = (and_parts (is_name (name_at names n)) rest h).0

  begins_stand : (d : Declared) (f : Form) → is_sound names f ≡ true → NoneAtTop d f → AreDeclaredNamed names d
      → AreDeclaredNamed names (declared_with names d f)
  begins_stand d (form.Participant n) sound none h = (
    named_push d.participants d.participant_rows n (first_spelled n _ sound) (once_at_top d (form.Participant n) none) h.0,
    h.1,
    h.2,
    h.3,
  )
  begins_stand d (form.Object n v) sound none h = (
    h.0,
    objects_push d.objects d.object_rows (record { name = name_at names n; initial = v }) n refl (first_spelled n _ sound)
        (once_at_top d (form.Object n v) none) h.1,
    h.2,
    watches_stand d.objects n d.watches h.3,
  )
  begins_stand d (form.Watch n) sound none h = (
    h.0,
    h.1,
    h.2,
    watches_push d.objects d.watches n (one_known (is_among d.objects n) (known_at_top d (form.Watch n) none))
        (once_at_top d (form.Watch n) none) h.3,
  )
  begins_stand d f sound none h = h

  begins_named : (d : Declared) (f : Form) → AreDeclaredNamed names d → OpenNamed names (block_begun d f)
  begins_named d (form.Graph n) h = universal_alone d.universal h.2.first
  begins_named d f h = tt

  graph_stands : (d : Declared) (g : DeclaredGraph) (f : Form) → is_sound names f ≡ true → NoneInGraph d g f
      → OpenNamed names (block.Graph g) → OpenNamed names (block.Graph (graph_with g f))
  graph_stands d g (form.Exception n) sound none h =
      own_push names (exception_name names) g.exceptions n h (excepted names numbered n (first_spelled n _ sound))
      (once_in_graph d g (form.Exception n) none)
  graph_stands d g f sound none h = h

  ends_stand : (d : Declared) (b : Block) → NamesStand names d b → AreDeclaredNamed names (ended names d b)
  ends_stand d (block.Graph g) h = (
    h.0.0,
    h.0.1,
    record {
      first = h.0.2.first;
      own =
          All-push (λ (graph : DeclaredGraph). AreOwn names (exception_name names) graph.exceptions) d.graphs g h.0.2.own h.1;
    },
    h.0.3,
  )
  ends_stand d block.Top h = h.0
  ends_stand d (block.Action a) h = h.0

  names_kept : IsKept names (NamesStand names)
  names_kept = record {
    at_top = λ d f sound none h. (begins_stand d f sound none h.0, begins_named d f h.0);
    in_graph = λ d g f sound none h. (h.0, graph_stands d g f sound none h.1);
    in_action = λ d a f sound none shut h. h;
    closes = λ d a h. h;
    ends = λ d b none h. (ends_stand d b h, tt);
  }

  nothing_stands : NamesStand names (nothing_declared (number_in names (codes "universal"))) block.Top
  nothing_stands = (
    (
      record { own = own_none names (name_at names); same = refl },
      record { own = own_none names (name_at names); same = refl },
      record {
        first = refl;
        own =
            All-push (λ (graph : DeclaredGraph). AreOwn names (exception_name names) graph.exceptions) []
            (plain_graph (number_in names (codes "universal")))
            (All-nil (λ (graph : DeclaredGraph). AreOwn names (exception_name names) graph.exceptions)) (universal_alone _ refl);
      },
      record { within = All-nil (λ object. object < 0); once = λ i j d l w. absurd (omega arith) },
    ),
    tt,
  )

-- ---- the plan

row_named : (names : List (List ℕ)) (graph : DeclaredGraph) (row : GraphRow) → IsRowOf names graph row
    → AreOwn names (exception_name names) graph.exceptions → NamesExceptions row
row_named names graph row h own = record {
  own = subst (λ (rows : List (List ℕ)). AreOwnNames rows) (sym h.named) (own_names names (exception_name names) graph.exceptions own);
  each = ap (λ (rows : List (List ℕ)). length rows) h.named ∙ length-map graph.exceptions (exception_name names) ∙ sym h.order.counts;
}

rows_named : (names : List (List ℕ)) (graphs : List DeclaredGraph) (rows : List GraphRow) → AreRowsOf names graphs rows
    → All (λ (graph : DeclaredGraph). AreOwn names (exception_name names) graph.exceptions) graphs → All NamesExceptions rows
rows_named names [] [] h own = All-nil NamesExceptions
rows_named names [] (row ∷ rows) h own = absurd h
rows_named names (graph ∷ graphs) [] h own = absurd h
rows_named names (graph ∷ graphs) (row ∷ rows) h own = by (rows_named names graphs rows h.1 (λ k e w. own (suc k) e (omega (arith, w))))
  where
    by : All NamesExceptions rows → (i : ℕ) (d : GraphRow) → i < length (row ∷ rows) → NamesExceptions (get_or (row ∷ rows) i d)
    by rest zero d l = row_named names graph row h.0 (own 0 graph (omega arith))
    by rest (suc i) d l = rest i d (omega (arith, l))

pub named_rows : (names : List (List ℕ)) (xs : List ℕ) (rows : List (List ℕ)) → AreNamedBy names xs rows → AreOwnNames rows
named_rows names xs rows h = subst (λ (rows : List (List ℕ)). AreOwnNames rows) (sym h.same) (own_names names (name_at names) xs h.own)

-- an accepted script has a plan whose names tell its parts apart
pub own_names_of : (script : Script) (plan : Plan) → AreScript script.names (forms_of script.lines) → IsPlanOf script plan
    → HasOwnNames plan
own_names_of script plan whole h =
    let names = script.names in
    let numbered : AreNumbered names =
    subst (λ (names : List (List ℕ)). AreNumbered names) whole.order
    (numbered-with_names [] (flat_map (form_names names) (forms_of script.lines)) numbered-none) in
    let d = (declared_after names (nothing_yet names) script.lines).declared in
    let stand =
    (holds_after names (NamesStand names) (names_kept names numbered) (nothing_yet names) script.lines whole.sound h.accepted
    (nothing_stands names numbered)).0 in
    let draft = h.draft in
    let count : length draft.objects ≡ length d.objects =
    ap (λ (rows : List ObjectRow). length rows) h.declared.objects ∙ sym (length-map d.object_rows (λ (row : ObjectRow). row.name)) ∙ ap
    (λ (rows : List (List ℕ)). length rows) stand.1.same ∙ length-map d.objects (name_at names) in
    subst (λ (plan : Plan). HasOwnNames plan) (sym h.unfolded) (record {
      participants =
          subst (λ (rows : List (List ℕ)). AreOwnNames rows) (sym h.declared.participants)
          (named_rows names d.participants d.participant_rows stand.0);
      objects =
          subst (λ (rows : List ObjectRow). AreOwnNames (object_names rows)) (sym h.declared.objects)
          (named_rows names d.objects (object_names d.object_rows) stand.1);
      graphs = rows_named names d.graphs draft.graphs h.declared.graphs stand.2.own;
      watched =
          subst (λ (watches : List ℕ). All (λ object. object < length draft.objects) watches) (sym h.declared.watches)
          (subst (λ (n : ℕ). All (λ object. object < n) d.watches) (sym count) stand.3.within);
      once = subst (λ (watches : List ℕ). AllPairs (λ a b. a ≢ b) watches) (sym h.declared.watches) stand.3.once;
    })
