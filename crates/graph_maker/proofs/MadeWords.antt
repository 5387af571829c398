-- The words of a made script.
use Rattle.std.proofs.Common.{◌≡◌, ℕ, suc, ◌+◌, ◌*◌, ◌<◌, ◌≤◌, true, List, [], ◌∷◌, ◌++◌, length, map, drop, None, refl, sym, ap, ◌∙◌, arith}
use Rattle.std.specs.List.{list_all}
use Rattle.std.proofs.Math.Nat.{mul-le-mul}
use Rattle.std.proofs.lemmas.Bool.{and_from, and_parts, leb-true}
use Rattle.std.proofs.lemmas.List.{length-append, length-drop, length-map}
use Rattle.std.proofs.lemmas.List.Folds.{list_all-append}
use Rattle.caa_base.specs.Written.Names.{is_name, name_at}
use Rattle.action_script.specs.declared.forms.form.Form.{Form}
use Rattle.action_script.specs.declared.forms.form.Form.TheVariants as form
use Rattle.action_script.specs.declared.forms.script.Line.{Line}
use Rattle.action_script.specs.Forms.Printing.{forms_of, is_sound, AreScript}
use Rattle.action_script.specs.Forms.ScriptValue.{Script}
use Rattle.set_graphs.specs.Sets.{exception_count, pairs_of, sets, table}
use Rattle.graph_maker.specs.declared.shape.Stage.TheVariants as stage
use Rattle.graph_maker.specs.Refusals.{bad_from, bad_if, exception_in, exceptions_in, graph_in, graph_of, next_stage, primitive_count, refusal_of}
use Rattle.graph_maker.specs.MadeScripts.{exception_names, larger_sets, primitive_names, words_of}
use Rattle.graph_maker.specs.SetNames.{set_name}
use Rattle.graph_maker.proofs.Accepting.{not_bad, room}
use Rattle.graph_maker.proofs.Naming.{larger_are, sets_named}
use Rattle.graph_maker.proofs.Rooms.{length-pairs, more_exceptions}

-- ---- how many there are

pub record HasRoom (n most : ℕ) : Type 0 where
  pub exceptions : exception_count n most ≤ 128
  pub primitives : n < exception_count n most

pub has_room : (script : Script) (most : ℕ) → 0 < most → refusal_of script most ≡ None → HasRoom (primitive_count script) most
has_room script most some accepted = record {
  exceptions = leb-true (exception_count (primitive_count script) most) 128 (room script most accepted);
  primitives = more_exceptions (primitive_count script) most some;
}

-- ---- the words, as they are written

pub words_are : (names : List (List ℕ)) (graph : ℕ) (ns : List ℕ) (most : ℕ)
    → name_at names graph ∷ map (name_at names) ns ++ map (set_name (length ns)) (drop (length ns + 1) (table (length ns) most))
    ≡ name_at names graph ∷ exception_names (map (name_at names) ns) most
words_are names graph ns most =
    let n = length ns in
    let next : n + 1 ≡ suc n = omega arith in
    let size : length (map (name_at names) ns) ≡ n = length-map ns (name_at names) in
    let larger : map (set_name n) (drop (n + 1) (table n most)) ≡ map (set_name (length (map (name_at names) ns)))
    (larger_sets (length (map (name_at names) ns)) most) =
    ap (λ k. map (set_name n) (drop k (table n most))) next ∙ ap (λ k. map (set_name k) (larger_sets k most)) (sym size) in
    ap (λ (l : List (List ℕ)). name_at names graph ∷ map (name_at names) ns ++ l) larger

pub length-words : (script : Script) (most : ℕ) → primitive_count script < exception_count (primitive_count script) most
    → length (words_of script most) ≡ exception_count (primitive_count script) most
length-words script most less =
    let ns = exceptions_in script.lines in
    let size : length (primitive_names script) ≡ length ns = length-map ns (name_at script.names) in
    let both =
    length-append (primitive_names script)
    (map (set_name (length (primitive_names script))) (larger_sets (length (primitive_names script)) most)) in
    let made = length-map (larger_sets (length (primitive_names script)) most) (set_name (length (primitive_names script))) in
    let left = length-drop (length (primitive_names script)) (sets (length (primitive_names script)) most) in
    let same : length (sets (length (primitive_names script)) most) ≡ length (sets (length ns) most) =
    ap (λ k. length (sets k most)) size in
    omega (arith, size, both, made, left, same, less)

-- ---- the words are names

graph_named : (names : List (List ℕ)) (lines : List Line) → bad_from stage.Graph 1 lines ≡ None
    → list_all (is_sound names) (forms_of lines) ≡ true → is_name (name_at names (graph_of lines)) ≡ true
graph_named names [] fine sound = cc
graph_named names (line ∷ lines) fine sound =
    by line.form fine (and_parts (is_sound names line.form) (list_all (is_sound names) (forms_of lines)) sound).0
  where
    by : (f : Form) → bad_if line.number (λ next. bad_from next (line.number + 1) lines) (next_stage stage.Graph f) ≡ None
        → is_sound names f ≡ true → is_name (name_at names (graph_in f)) ≡ true
    by (form.Graph name) b s = (and_parts (is_name (name_at names name)) true s).0
    by _ b s = cc

pub exceptions_named : (names : List (List ℕ)) (lines : List Line) → list_all (is_sound names) (forms_of lines) ≡ true
    → list_all is_name (map (name_at names) (exceptions_in lines)) ≡ true
exceptions_named names [] sound = refl
exceptions_named names (line ∷ lines) sound =
    let p = and_parts (is_sound names line.form) (list_all (is_sound names) (forms_of lines)) sound in
    by line.form p.0 (exceptions_named names lines p.1)
  where
    by : (f : Form) → is_sound names f ≡ true → list_all is_name (map (name_at names) (exceptions_in lines)) ≡ true
        → list_all is_name (map (name_at names) (exception_in f ++ exceptions_in lines)) ≡ true
    by (form.Exception name) s rest =
        and_from (is_name (name_at names name)) (list_all is_name (map (name_at names) (exceptions_in lines)))
        (and_parts (is_name (name_at names name)) true s).0 rest
    by _ s rest = rest

pub words_named : (script : Script) (most : ℕ) → AreScript script.names (forms_of script.lines) → refusal_of script most ≡ None
    → primitive_count script < 128 → most < 8 → list_all is_name (words_of script most) ≡ true
words_named script most whole accepted few low =
    let names = script.names in
    let n = length (primitive_names script) in
    let size : n ≡ primitive_count script = length-map (exceptions_in script.lines) (name_at names) in
    let own = exceptions_named names script.lines whole.sound in
    let made = sets_named n most (larger_sets n most) (omega (arith, size, few)) low (larger_are n most) in
    let behind =
    list_all-append is_name (primitive_names script) (map (set_name n) (larger_sets n most)) ∙ and_from
    (list_all is_name (primitive_names script)) (list_all is_name (map (set_name n) (larger_sets n most))) own made in
    and_from (is_name (name_at names (graph_of script.lines))) (list_all is_name (exception_names (primitive_names script) most))
    (graph_named names script.lines (not_bad script most accepted) whole.sound)
    behind

-- ---- pairs

pub few_pairs : (n most : ℕ) → HasRoom n most → most < 8 → length (pairs_of n most) ≤ 896
few_pairs n most fits low =
    let many = fits.exceptions in
    let pairs = length-pairs n most (exception_count n most) in
    let most_of : exception_count n most * most ≤ 128 * 7 =
    mul-le-mul {n₁ = exception_count n most} {m₁ = most} {n₂ = 128} {m₂ = 7} many (omega (arith, low)) in
    omega (arith, pairs, most_of)
