use Rattle.std.proofs.Common.{◌≡◌, ◌+◌, ◌<◌, ◌∷◌, ◌++◌, ℕ, List, All, drop, length, map, sym, subst, ap, ◌∙◌, arith}
use Rattle.caa_base.specs.Written.Names.{is_name, name_at}
use Rattle.std.specs.List.{list_all}
use Rattle.set_graphs.specs.Sets.{exception_count, pairs_below, pairs_of, table}
use Rattle.graph_maker.specs.Refusals.{graph_of, primitive_count}
use Rattle.graph_maker.specs.MadeScripts.{exception_names, made_script, words_of}
use Rattle.graph_maker.specs.SetNames.{set_name}
use Rattle.graph_maker.proofs.Lengths.{text_fits}
use Rattle.graph_maker.proofs.MadeWords.{few_pairs, has_room, length-words, words_are, words_named}
use Rattle.graph_maker.proofs.OwnNames.{own_names}
use Rattle.graph_maker.proofs.SetsDeclared.{declares_sets}
use Rattle.graph_maker.proofs.making.script_of_sets.Goals as goal

pub overflow_cast-primitives : goal.overflow_cast-primitives
overflow_cast-primitives c =
    let fits = has_room c.args.script.now c.args.most c.requires.some_member c.requires.accepted in
    let count : length c.args.exceptions.now ≡ primitive_count c.args.script.now = ap length c.requires.declared in
    let many = fits.exceptions in
    let less = fits.primitives in
    omega (arith, count, many, less)

pub make_table-requires : goal.make_table-requires
make_table-requires c =
    let fits = has_room c.args.script.now c.args.most c.requires.some_member c.requires.accepted in
    let count : length c.args.exceptions.now ≡ primitive_count c.args.script.now = ap length c.requires.declared in
    let many = fits.exceptions in
    let less = fits.primitives in
    omega (arith, count, many, less)

pub make_pairs-requires-clause-few : goal.make_pairs-requires-clause-few
make_pairs-requires-clause-few c =
    let fits = has_room c.args.script.now c.args.most c.requires.some_member c.requires.accepted in
    let count : length c.args.exceptions.now ≡ primitive_count c.args.script.now = ap length c.requires.declared in
    let many = fits.exceptions in
    let long : length c.deref.result.now ≡ exception_count (primitive_count c.args.script.now) c.args.most =
    ap length (c.deref.ensures.value ∙ c.in_ok-table.ensures ∙ ap (λ k. table k c.args.most) count) in
    omega (arith, many, long)

pub make_pairs-requires-clause-primitives_fit : goal.make_pairs-requires-clause-primitives_fit
make_pairs-requires-clause-primitives_fit c =
    let fits = has_room c.args.script.now c.args.most c.requires.some_member c.requires.accepted in
    let count : length c.args.exceptions.now ≡ primitive_count c.args.script.now = ap length c.requires.declared in
    let many = fits.exceptions in
    let less = fits.primitives in
    omega (arith, count, many, less)

pub larger_in-requires-clause-some : goal.larger_in-requires-clause-some
larger_in-requires-clause-some c =
    let fits = has_room c.args.script.now c.args.most c.requires.some_member c.requires.accepted in
    let count : length c.args.exceptions.now ≡ primitive_count c.args.script.now = ap length c.requires.declared in
    let less = fits.primitives in
    let long : length c.deref-2.result.now ≡ exception_count (primitive_count c.args.script.now) c.args.most =
    ap length (c.deref-2.ensures.value ∙ c.in_ok-table.ensures ∙ ap (λ k. table k c.args.most) count) in
    omega (arith, count, less, long)

pub larger_in-requires-clause-few : goal.larger_in-requires-clause-few
larger_in-requires-clause-few c =
    let fits = has_room c.args.script.now c.args.most c.requires.some_member c.requires.accepted in
    let count : length c.args.exceptions.now ≡ primitive_count c.args.script.now = ap length c.requires.declared in
    let many = fits.exceptions in
    let long : length c.deref-2.result.now ≡ exception_count (primitive_count c.args.script.now) c.args.most =
    ap length (c.deref-2.ensures.value ∙ c.in_ok-table.ensures ∙ ap (λ k. table k c.args.most) count) in
    omega (arith, many, long)

pub words_of-requires : goal.words_of-requires
words_of-requires c =
    let fits = has_room c.args.script.now c.args.most c.requires.some_member c.requires.accepted in
    let count : length c.args.exceptions.now ≡ primitive_count c.args.script.now = ap length c.requires.declared in
    let many = fits.exceptions in
    let less = fits.primitives in
    record { few = omega (arith, count, many, less) }

pub graph_script-requires-clause-few : goal.graph_script-requires-clause-few
graph_script-requires-clause-few c =
    let script = c.args.script.now in
    let most = c.args.most in
    let ns = c.args.exceptions.now in
    let names = script.names in
    let graph = graph_of script.lines in
    let fits = has_room script most c.requires.some_member c.requires.accepted in
    let words : c.deref-3.result.now ≡ words_of script most =
    c.deref-3.ensures.value ∙ c.in_ok-words.ensures
    ∙ ap (λ (l : List ℕ). name_at names graph ∷ map (name_at names) ns ++ map (set_name (length ns)) l)
    (c.larger_in.ensures ∙ ap (drop (length ns + 1)) (c.deref-2.ensures.value ∙ c.in_ok-table.ensures))
    ∙ words_are names graph ns most
    ∙ ap (λ (l : List ℕ). name_at names graph ∷ exception_names (map (name_at names) l) most) c.requires.declared in
    let many = fits.exceptions in
    let long = length-words script most fits.primitives in
    let size : length c.deref-3.result.now ≡ length (words_of script most) = ap length words in
    omega (arith, size, long, many)

pub graph_script-requires-clause-names : goal.graph_script-requires-clause-names
graph_script-requires-clause-names c =
    let script = c.args.script.now in
    let most = c.args.most in
    let ns = c.args.exceptions.now in
    let names = script.names in
    let graph = graph_of script.lines in
    let fits = has_room script most c.requires.some_member c.requires.accepted in
    let words : c.deref-3.result.now ≡ words_of script most =
    c.deref-3.ensures.value ∙ c.in_ok-words.ensures
    ∙ ap (λ (l : List ℕ). name_at names graph ∷ map (name_at names) ns ++ map (set_name (length ns)) l)
    (c.larger_in.ensures ∙ ap (drop (length ns + 1)) (c.deref-2.ensures.value ∙ c.in_ok-table.ensures))
    ∙ words_are names graph ns most
    ∙ ap (λ (l : List ℕ). name_at names graph ∷ exception_names (map (name_at names) l) most) c.requires.declared in
    let many = fits.exceptions in
    let less = fits.primitives in
    ap (list_all is_name) words ∙ words_named script most c.are_script.ensures c.requires.accepted (omega (arith, many, less))
    c.requires.most_fits

pub graph_script-requires-clause-in_range : goal.graph_script-requires-clause-in_range
graph_script-requires-clause-in_range c =
    let script = c.args.script.now in
    let most = c.args.most in
    let ns = c.args.exceptions.now in
    let names = script.names in
    let graph = graph_of script.lines in
    let fits = has_room script most c.requires.some_member c.requires.accepted in
    let count : length ns ≡ primitive_count script = ap length c.requires.declared in
    let words : c.deref-3.result.now ≡ words_of script most =
    c.deref-3.ensures.value ∙ c.in_ok-words.ensures
    ∙ ap (λ (l : List ℕ). name_at names graph ∷ map (name_at names) ns ++ map (set_name (length ns)) l)
    (c.larger_in.ensures ∙ ap (drop (length ns + 1)) (c.deref-2.ensures.value ∙ c.in_ok-table.ensures))
    ∙ words_are names graph ns most
    ∙ ap (λ (l : List ℕ). name_at names graph ∷ exception_names (map (name_at names) l) most) c.requires.declared in
    let long = length-words script most fits.primitives in
    let size : length c.deref-3.result.now ≡ length (words_of script most) = ap length words in
    let all : length c.deref.result.now ≡ exception_count (primitive_count script) most =
    ap length (c.deref.ensures.value ∙ c.in_ok-table.ensures ∙ ap (λ k. table k most) count) in
    let same : length c.deref.result.now ≡ length c.deref-3.result.now = omega (arith, long, size, all) in
    subst (λ (xs : List (ℕ × ℕ)). All (λ (p : ℕ × ℕ). (p.0 < length c.deref-3.result.now) × (p.1 < length c.deref-3.result.now)) xs)
    (sym c.deref-4.ensures.value)
    (subst (λ k. All (λ (p : ℕ × ℕ). (p.0 < k) × (p.1 < k)) c.in_ok-pairs.pairs.items) same c.in_ok-pairs.ensures.in_range)

pub graph_script-requires-clause-few_pairs : goal.graph_script-requires-clause-few_pairs
graph_script-requires-clause-few_pairs c =
    let script = c.args.script.now in
    let most = c.args.most in
    let ns = c.args.exceptions.now in
    let fits = has_room script most c.requires.some_member c.requires.accepted in
    let count : length ns ≡ primitive_count script = ap length c.requires.declared in
    let pairs : c.deref-4.result.now ≡ pairs_of (primitive_count script) most =
    c.deref-4.ensures.value ∙ c.in_ok-pairs.ensures.pairs
    ∙ ap (λ (l : List ℕ). pairs_below (length ns) l (length l)) (c.deref.ensures.value ∙ c.in_ok-table.ensures)
    ∙ ap (λ k. pairs_of k most) count in
    let few = few_pairs (primitive_count script) most fits c.requires.most_fits in
    let size : length c.deref-4.result.now ≡ length (pairs_of (primitive_count script) most) = ap length pairs in
    omega (arith, few, size)

pub returns-clause-own_names : goal.returns-clause-own_names
returns-clause-own_names c =
    let fits = has_room c.args.script.now c.args.most c.requires.some_member c.requires.accepted in
    let many = fits.exceptions in
    let less = fits.primitives in
    own_names c.args.script.now c.args.most c.are_script.ensures c.requires.accepted (omega (arith, many, less)) c.requires.some_member

pub returns-clause-declares : goal.returns-clause-declares
returns-clause-declares c =
    let fits = has_room c.args.script.now c.args.most c.requires.some_member c.requires.accepted in
    let many = fits.exceptions in
    let less = fits.primitives in
    declares_sets c.args.script.now c.args.most fits
    (own_names c.args.script.now c.args.most c.are_script.ensures c.requires.accepted (omega (arith, many, less)) c.requires.some_member)

pub returns-clause-value : goal.returns-clause-value
returns-clause-value c =
    let script = c.args.script.now in
    let most = c.args.most in
    let ns = c.args.exceptions.now in
    let names = script.names in
    let graph = graph_of script.lines in
    let count : length ns ≡ primitive_count script = ap length c.requires.declared in
    let words : c.deref-3.result.now ≡ words_of script most =
    c.deref-3.ensures.value ∙ c.in_ok-words.ensures
    ∙ ap (λ (l : List ℕ). name_at names graph ∷ map (name_at names) ns ++ map (set_name (length ns)) l)
    (c.larger_in.ensures ∙ ap (drop (length ns + 1)) (c.deref-2.ensures.value ∙ c.in_ok-table.ensures))
    ∙ words_are names graph ns most
    ∙ ap (λ (l : List ℕ). name_at names graph ∷ exception_names (map (name_at names) l) most) c.requires.declared in
    let pairs : c.deref-4.result.now ≡ pairs_of (primitive_count script) most =
    c.deref-4.ensures.value ∙ c.in_ok-pairs.ensures.pairs
    ∙ ap (λ (l : List ℕ). pairs_below (length ns) l (length l)) (c.deref.ensures.value ∙ c.in_ok-table.ensures)
    ∙ ap (λ k. pairs_of k most) count in
    c.in_ok-made.ensures ∙ ap (λ (w : List (List ℕ)). made_script w c.deref-4.result.now) words ∙ ap
    (made_script (words_of script most)) pairs

pub returns-clause-fits : goal.returns-clause-fits
returns-clause-fits c =
    let script = c.args.script.now in
    let most = c.args.most in
    let fits = has_room script most c.requires.some_member c.requires.accepted in
    let many = fits.exceptions in
    let less = fits.primitives in
    let long = length-words script most fits.primitives in
    text_fits (words_of script most) (pairs_of (primitive_count script) most) (omega arith) (omega (arith, long, many))
    (words_named script most c.are_script.ensures c.requires.accepted (omega (arith, many, less)) c.requires.most_fits)
    (few_pairs (primitive_count script) most fits c.requires.most_fits)
