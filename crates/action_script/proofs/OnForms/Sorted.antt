-- The table of the kinds tells which names a line uses and which it declares.
use Rattle.std.proofs.Common.{◌≡◌, ℕ, ◌+◌, List, [], ◌∷◌, ◌++◌, map, Option, Some, None, refl, ap}
use Rattle.std.specs.List.{flat_map}
use Rattle.action_script.specs.declared.lines.field.Field.TheVariants as field
use Rattle.action_script.specs.declared.lines.sort.Sort.{Sort}
use Rattle.action_script.specs.declared.lines.sort.Sort.TheVariants as sort
use Rattle.action_script.specs.declared.lines.sort.Naming.{Naming}
use Rattle.action_script.specs.declared.lines.sort.Naming.TheVariants as naming
use Rattle.action_script.specs.declared.forms.form.Form.{Form}
use Rattle.action_script.specs.declared.forms.form.Form.TheVariants as form
use Rattle.action_script.specs.Forms.Uses.{TellsUses, TellsDeclared, NamedWord, named_from, sort_used, sort_declared, with_sort, without_words}

-- names that go on and are all for the same, by what picks the sort of a name
module _ (pick : Naming → Option Sort) (n : Naming) where
  abbrev picked : ℕ → List ℕ → List (Sort × ℕ)
  picked word names =
      without_words (flat_map (λ (w : NamedWord). with_sort w (pick w.naming)) (named_from word n [] (map field.Name names)))

  all_picked : (s : Sort) → pick n ≡ Some s → (word : ℕ) (names : List ℕ) → picked word names ≡ map (λ m. (s, m)) names ++ []
  all_picked s e word [] = refl
  all_picked s e word (m ∷ names) = rw e (ap (λ l. (s, m) ∷ l) (all_picked s e (word + 1) names))

  none_picked : pick n ≡ None → (word : ℕ) (names : List ℕ) → picked word names ≡ []
  none_picked e word [] = refl
  none_picked e word (m ∷ names) = rw e (none_picked e (word + 1) names)

pub tells_uses : (f : Form) → TellsUses f
tells_uses (form.Play action []) = refl
tells_uses (form.Play action (who ∷ more)) =
    ap (λ l. (sort.Action, action) ∷ (sort.Participant, who) ∷ l)
    (all_picked (sort_used action) (naming.Used sort.Participant) sort.Participant refl 3 more)
tells_uses (form.Uses []) = refl
tells_uses (form.Uses (object ∷ more)) =
    ap (λ l. (sort.Object, object) ∷ l) (all_picked (sort_used object) (naming.Used sort.Object) sort.Object refl 2 more)
tells_uses (form.Roles []) = refl
tells_uses (form.Roles (role ∷ more)) = none_picked (sort_used role) (naming.New sort.Role) refl 2 more
tells_uses (form.Nest nest action []) = refl
tells_uses (form.Nest nest action (role ∷ more)) =
    ap (λ l. (sort.Action, action) ∷ (sort.Role, role) ∷ l)
    (all_picked (sort_used nest) (naming.Used sort.Role) sort.Role refl 4 more)
tells_uses f = refl

pub tells_declared : (f : Form) → TellsDeclared f
tells_declared (form.Play action []) = refl
tells_declared (form.Play action (who ∷ more)) = none_picked sort_declared (naming.Used sort.Participant) refl 3 more
tells_declared (form.Uses []) = refl
tells_declared (form.Uses (object ∷ more)) = none_picked sort_declared (naming.Used sort.Object) refl 2 more
tells_declared (form.Roles []) = refl
tells_declared (form.Roles (role ∷ more)) =
    ap (λ l. (sort.Role, role) ∷ l) (all_picked sort_declared (naming.New sort.Role) sort.Role refl 2 more)
tells_declared (form.Nest nest action []) = refl
tells_declared (form.Nest nest action (role ∷ more)) =
    ap (λ l. (sort.Nest, nest) ∷ l) (none_picked sort_declared (naming.Used sort.Role) refl 4 more)
tells_declared f = refl
