-- No exception of a made graph has the name of another, or `universal`.
use Rattle.std.proofs.Common.{◌≡◌, ◌≢◌, ℕ, zero, suc, ◌+◌, ◌<◌, ◌≤◌, true, not, List, [], ◌∷◌, length, map, drop, get_or, codes, All, AllPairs, None, refl, sym, ap, ◌∙◌, subst, arith}
use Rattle.std.specs.List.{list_all, flat_map}
use Rattle.std.proofs.lemmas.List.{append-nil, drop-append-le, drop_all, get_or_default, get_or-drop, length-append, length-drop, length-map}
use Rattle.std.proofs.lemmas.List.Elements.{All-append, All-nil}
use Rattle.caa_base.specs.Written.Names.{name_at}
use Rattle.action_script.specs.Forms.Printing.{form_names, forms_of, AreScript}
use Rattle.action_script.specs.Forms.ScriptValue.{Script}
use Rattle.action_script.specs.Words.NumberedNames.{number_in}
use Rattle.action_script.proofs.OnForms.Fits.{AreNumbered}
use Rattle.action_script.proofs.OnForms.Numbered.{numbered-none, numbered-with_names}
use Rattle.set_graphs.specs.Sets.{choose, sets, size_of}
use Rattle.set_graphs.proofs.Numbers.{members_apart}
use Rattle.set_graphs.proofs.Sizes.{chosen}
use Rattle.graph_maker.specs.MadeScripts.{exception_names, primitive_names, HaveOwnNames}
use Rattle.graph_maker.specs.Refusals.{exceptions_in, primitive_count, refusal_of}
use Rattle.graph_maker.specs.SetNames.{is_made_name, set_name}
use Rattle.graph_maker.proofs.Accepting.{none_bad}
use Rattle.graph_maker.proofs.Apart.{free_from, in_range, made_new, new_more, new_numbered, primitives_new, primitives_unmade, IsLarge, NewWords}
use Rattle.graph_maker.proofs.MadeWords.{exceptions_named}
use Rattle.graph_maker.proofs.Naming.{larger_are}
use Rattle.graph_maker.proofs.Rooms.{count_ones, more_exceptions}

-- behind the sets of one member stand larger ones
two_at_least : (n most : ℕ) → All (λ (s : ℕ). 2 ≤ size_of n s) (drop n (sets n (suc most)))
two_at_least n zero =
    let ones = count_ones n in
    let few : length (sets n (suc zero)) ≤ n = omega (arith, ones, length-append [] (choose n (suc zero))) in
    subst (All (λ (s : ℕ). 2 ≤ size_of n s)) (sym (drop_all n (sets n (suc zero)) few)) (All-nil (λ (s : ℕ). 2 ≤ size_of n s))
two_at_least n (suc most) =
    let room = more_exceptions n (suc most) (omega arith) in
    let last : All (λ (s : ℕ). 2 ≤ size_of n s) (choose n (suc (suc most))) = λ k d within. let size =
    (chosen n (suc (suc most)) k d within).1 in omega (arith, size) in
    subst (All (λ (s : ℕ). 2 ≤ size_of n s)) (sym (drop-append-le n (sets n (suc most)) (choose n (suc (suc most))) (omega (arith, room))))
    (All-append (λ (s : ℕ). 2 ≤ size_of n s) (drop n (sets n (suc most))) (choose n (suc (suc most))) (two_at_least n most) last)

large_sets : (n most : ℕ) (small : n < 128) → 0 < most → All (IsLarge n most small) (drop n (sets n most))
large_sets n zero small some = absurd (omega (arith, some))
large_sets n (suc most) small some = λ k d within. record { is = larger_are n (suc most) k d within; many = two_at_least n most k d within }

sets_apart : (n most : ℕ) → AllPairs (λ (a b : ℕ). a ≢ b) (drop n (sets n most))
sets_apart n most = λ i j d less within same.
    let long = length-drop n (sets n most) in
    let i_in : n + i < length (sets n most) = omega (arith, less, within, long) in
    let j_in : n + j < length (sets n most) = omega (arith, within, long) in
    let equal : get_or (sets n most) (n + i) 0 ≡ get_or (sets n most) (n + j) 0 =
    get_or_default (sets n most) (n + i) 0 d i_in ∙ sym (get_or-drop n (sets n most) i d) ∙ same ∙ get_or-drop n (sets n most) j d ∙
    get_or_default (sets n most) (n + j) d 0 j_in in
    let one = members_apart n most (suc (n + i)) (suc (n + j)) (omega (arith, i_in)) (omega (arith, j_in)) equal in
    omega (arith, one, less)

module _ (script : Script) (most : ℕ) (whole : AreScript script.names (forms_of script.lines))
    (accepted : refusal_of script most ≡ None) (small : primitive_count script < 128) (some : 0 < most) where
  numbered : AreNumbered script.names
  numbered =
      subst AreNumbered whole.order (numbered-with_names [] (flat_map (form_names script.names) (forms_of script.lines)) numbered-none)

  all_new : NewWords (codes "universal" ∷ []) (exception_names (primitive_names script) most)
  all_new =
      let ns = exceptions_in script.lines in
      let prims = primitive_names script in
      let size : length prims ≡ primitive_count script = length-map ns (name_at script.names) in
      let less : length prims < 128 = omega (arith, size, small) in
      let free = free_from script most 0 script.lines (none_bad script most accepted).1 in
      let range = in_range script most numbered ns (exceptions_named script.names script.lines whole.sound) in
      let first = primitives_new script most numbered [] ns refl free refl range in
      let unmade : list_all (λ w. not (is_made_name (length prims) most w)) (codes "universal" ∷ prims) ≡ true =
      subst (λ k. list_all (λ w. not (is_made_name k most w)) prims ≡ true) (sym size) (primitives_unmade script most 0 ns free) in
      let later =
      made_new (length prims) most less (codes "universal" ∷ prims) unmade [] (drop (length prims) (sets (length prims) most))
      (large_sets (length prims) most less some) (sets_apart (length prims) most) in
      new_more (codes "universal" ∷ []) prims (map (set_name (length prims)) (drop (length prims) (sets (length prims) most))) first
      (subst (λ (l : List (List ℕ)). NewWords l
      (map (set_name (length prims)) (drop (length prims) (sets (length prims) most)))) (append-nil (codes "universal" ∷ prims)) later)

  pub own_names : HaveOwnNames (codes "universal" ∷ exception_names (primitive_names script) most)
  own_names a b less below same =
      let words = codes "universal" ∷ exception_names (primitive_names script) most in
      let each = new_numbered (codes "universal") (exception_names (primitive_names script) most) all_new in
      let one : a ≡ b = sym (each a (omega (arith, less, below))) ∙ ap (number_in words) same ∙ each b below in
      omega (arith, one, less)
